-- A text says one script and one report, or has a fault, and not both.
use Rattle.std.proofs.Common.{◌≡◌, ℕ, ◌+◌, ◌||◌, Bool, true, false, cond, List, [], ◌∷◌, ◌++◌, length, refl, sym, ap, ◌∙◌, subst, arith}
use Rattle.std.specs.Prelude.{Some, Result, Ok, Err}
use Rattle.std.specs.List.{list_any}
use Rattle.std.specs.Str.Lines.{lines}
use Rattle.std.proofs.lemmas.List.Folds.{list_any-append}
use Rattle.scenario_defs.specs.Rules.{Rules, ScriptRules}
use Rattle.scenario_defs.specs.declared.event.Script.{Script}
use Rattle.scenario_defs.specs.declared.report.ReportLine.{ReportLine}
use Rattle.scenario_defs.specs.declared.scenario.Scenario.{Scenario}
use Rattle.line_words.specs.declared.fault.Reason.TheVariants as reasons
use Rattle.line_words.specs.declared.fault.TextFault.{TextFault}
use Rattle.line_words.specs.Forms.{fault, ◌>>=◌}
use Rattle.report_text.proofs.report_lines.LineLemmas.{line_back}
use Rattle.scenario_lines.specs.declared.scenario_draft.line.Line.{Line}
use Rattle.scenario_lines.specs.scenario_draft.Drafted.{Drafted}
use Rattle.scenario_lines.specs.scenario_draft.Adding.{added, empty_draft}
use Rattle.scenario_text.specs.Grammar.{line_of, script_at, script_from}
use Rattle.scenario_text.proofs.RulesLemmas.{Holds, empty_holds, line_holds, script_rules}
use Rattle.audit_defs.specs.declared.verdict.Numbered.{Numbered}
use Rattle.audit_defs.specs.declared.verdict.ReportLines.{ReportLines}
use Rattle.audit_text.specs.Texts.{AreCut, AreWritten, HasFault, IsLong, IsStray, IsUnmarked, IsWritten, OfReport, OfScript, Says, is_mark}

-- ---- the cut

neither : (a b : Bool) → (a || b) ≡ false → (a ≡ false) × (b ≡ false)
neither true b h = absurd cc
neither false b h = (refl, h)

heads : {A : Type 0} (x y : A) (xs ys : List A) → x ∷ xs ≡ y ∷ ys → (x ≡ y) × (xs ≡ ys)
heads x y xs ys h = (cc, cc)

no_mark : (line : List ℕ) (front : List (List ℕ)) (mark : List ℕ) → is_mark mark ≡ true → list_any is_mark (line ∷ front) ≡ false → mark ≡ line → ⊥
no_mark line front mark is none same =
    (let n = neither (is_mark line) (list_any is_mark front) none in let e : is_mark mark ≡ is_mark line = ap is_mark same in let f = n.0 in
    absurd cc)

cut_same : (front thereafter other_front other_after : List (List ℕ)) (mark other : List ℕ) → is_mark mark ≡ true → is_mark other ≡ true
    → list_any is_mark front ≡ false → list_any is_mark other_front ≡ false → front ++ mark ∷ thereafter ≡ other_front ++ other ∷ other_after
    → (front ≡ other_front) × (thereafter ≡ other_after)
cut_same [] thereafter [] other_after mark other is other_is none other_none h = (refl, (heads mark other thereafter other_after h).1)
cut_same [] thereafter (line ∷ other_front) other_after mark other is other_is none other_none h =
    absurd (no_mark line other_front mark is other_none (heads mark line thereafter (other_front ++ other ∷ other_after) h).0)
cut_same (line ∷ front) thereafter [] other_after mark other is other_is none other_none h =
    absurd (no_mark line front other other_is none (sym (heads line other (front ++ mark ∷ thereafter) other_after h).0))
cut_same (line ∷ front) thereafter (next ∷ other_front) other_after mark other is other_is none other_none h =
    let parts = heads line next (front ++ mark ∷ thereafter) (other_front ++ other ∷ other_after) h in
    let again =
    cut_same front thereafter other_front other_after mark other is other_is (neither (is_mark line) (list_any is_mark front) none).1
    (neither (is_mark next) (list_any is_mark other_front) other_none).1 parts.1 in
    ((λ i. parts.0 i ∷ again.0 i), again.1)

pub cut_once : (all front thereafter other_front other_after : List (List ℕ)) → AreCut all front thereafter → AreCut all other_front other_after
    → (front ≡ other_front) × (thereafter ≡ other_after)
cut_once all front thereafter other_front other_after h k =
    cut_same front thereafter other_front other_after h.mark k.mark h.is k.is h.first k.first (sym h.whole ∙ k.whole)

-- Where lines are cut, one of them is the line `report`.
pub cut_marked : (all front thereafter : List (List ℕ)) → AreCut all front thereafter → list_any is_mark all ≡ false → ⊥
cut_marked all front thereafter h none =
    (let some : (list_any is_mark front || (is_mark h.mark || list_any is_mark thereafter)) ≡ false =
    sym (ap (list_any is_mark) h.whole ∙ list_any-append is_mark front (h.mark ∷ thereafter)) ∙ none in
    let n = neither (is_mark h.mark) (list_any is_mark thereafter) (neither (list_any is_mark front) (is_mark h.mark || list_any is_mark thereafter) some).1
    in
    let is = h.is in let no = n.0 in absurd cc)

-- ---- the script

abbrev said : Script → Result Script TextFault
said script = Ok script

pub one_said : (x y : Script) → said x ≡ said y → x ≡ y
one_said x y e = cc

-- at the end of a text
end_rules : (draft : Drafted) (number : ℕ) (script : Script) → Holds draft number → (begun : Bool) → draft.begun ≡ begun
    → cond begun (said (script_at draft number)) (fault number 1 reasons.Events) ≡ said script → ScriptRules script × (script.end ≡ number)
end_rules draft number script holds true begun e = (
  subst ScriptRules (one_said (script_at draft number) script e) (script_rules draft number holds begun),
  sym (ap (λ (s : Script). s.end) (one_said (script_at draft number) script e)),
)
end_rules draft number script holds false begun e = absurd cc

-- What lines say meets the rules, and ends after them.
lines_rules : (draft : Drafted) (number : ℕ) (rows : List (List ℕ)) (script : Script) → Holds draft number
    → script_from draft number rows ≡ said script → ScriptRules script × (script.end ≡ number + length rows)
lines_rules draft number [] script holds e = let r = end_rules draft number script holds draft.begun refl e in (r.0, omega (arith, r.1))
lines_rules draft number (octets ∷ more) script holds e =
    by (line_of draft number octets) refl (λ line is rest. lines_rules (added draft number line) (number + 1) more script
    (line_holds draft number octets line holds is) rest) e
  where
    by : (r : Result Line TextFault) → line_of draft number octets ≡ r
        → ((line : Line) → line_of draft number octets ≡ Ok line → script_from (added draft number line) (number + 1) more ≡ said script
        → ScriptRules script × (script.end ≡ number + 1 + length more))
        → (r >>= λ line. script_from (added draft number line) (number + 1) more) ≡ said script
        → ScriptRules script × (script.end ≡ number + length (octets ∷ more))
    by (Ok line) is next rest = let r = next line is rest in (r.0, omega (arith, r.1))
    by (Err first) is next rest = absurd cc

pub front_rules : (front : List (List ℕ)) (script : Script) → script_from empty_draft 1 front ≡ said script
    → ScriptRules script × (script.end ≡ 1 + length front)
front_rules front script e = lines_rules empty_draft 1 front script empty_holds e

-- ---- the lines of a report

one_line : (x y : ReportLine) → Some x ≡ Some y → x ≡ y
one_line x y e = cc

-- Octets are one line of a report at most.
pub written_once : (scenario : Scenario) (octets : List ℕ) (line other : ReportLine) → Rules scenario → IsWritten scenario octets line
    → IsWritten scenario octets other → line ≡ other
written_once scenario octets line other rules h k =
    one_line line other (sym (line_back scenario rules octets line h.names h.bounds h.text)
    ∙ line_back scenario rules octets other k.names k.bounds k.text)

one_numbered : (one other : Numbered) (number : ℕ) → one.line ≡ number → other.line ≡ number → one.value ≡ other.value → one ≡ other
one_numbered one other number a b c = λ i. record { line = (a ∙ sym b) i; value = c i }

pub lines_once : (scenario : Scenario) (number : ℕ) (all : List (List ℕ)) (read other : List Numbered) → Rules scenario
    → AreWritten scenario number all read → AreWritten scenario number all other → read ≡ other
lines_once scenario number [] [] [] rules h k = refl
lines_once scenario number [] [] (two ∷ more) rules h k = absurd k
lines_once scenario number [] (one ∷ read) other rules h k = absurd h
lines_once scenario number (octets ∷ rest) [] other rules h k = absurd h
lines_once scenario number (octets ∷ rest) (one ∷ read) [] rules h k = absurd k
lines_once scenario number (octets ∷ rest) (one ∷ read) (two ∷ other) rules h k =
    λ i. one_numbered one two number h.0 k.0 (written_once scenario octets one.value two.value rules h.1 k.1) i
    ∷ lines_once scenario (number + 1) rest read other rules h.2 k.2 i

-- Lines of a report have none among them that is no such line.
none_stray : (scenario : Scenario) (number : ℕ) (front rest : List (List ℕ)) (octets : List ℕ) (read : List Numbered)
    → AreWritten scenario number (front ++ octets ∷ rest) read → ((line : ReportLine) → IsWritten scenario octets line → ⊥) → ⊥
none_stray scenario number [] rest octets [] h none = h
none_stray scenario number [] rest octets (one ∷ read) h none = none one.value h.1
none_stray scenario number (line ∷ front) rest octets [] h none = h
none_stray scenario number (line ∷ front) rest octets (one ∷ read) h none = none_stray scenario (number + 1) front rest octets read h.2 none

-- ---- a text

one_report : (x y : ReportLines) → x.lines ≡ y.lines → x.end ≡ y.end → x ≡ y
one_report x y a b = λ i. record { lines = a i; end = b i }

-- A text says one script and one report.
pub said_once : (text : List ℕ) (script other : Script) (report second : ReportLines) → Says text script report → Says text other second
    → (script ≡ other) × (report ≡ second)
said_once text script other report second h k =
    let cut = cut_once (lines text) h.front h.thereafter k.front k.thereafter h.cut k.cut in
    let same : script ≡ other = one_said script other (sym h.scripted ∙ ap (script_from empty_draft 1) cut.0 ∙ k.scripted) in
    let rules : Rules script.scenario = (front_rules h.front script h.scripted).0.scenario in
    let first : AreWritten script.scenario (length h.front + 2) h.thereafter second.lines =
    subst (λ (s : Script). AreWritten s.scenario (length h.front + 2) h.thereafter second.lines) (sym same)
    (subst (λ (l : List (List ℕ)). AreWritten other.scenario (length l + 2) h.thereafter second.lines) (sym cut.0)
    (subst (λ (l : List (List ℕ)). AreWritten other.scenario (length k.front + 2) l second.lines) (sym cut.1) k.reported)) in (
      same,
      one_report report second (lines_once script.scenario (length h.front + 2) h.thereafter report.lines second.lines rules h.reported first)
          (omega (arith, h.end, k.end, ap length cut.0, ap length cut.1)),
    )

stray_at : (scenario : Scenario) (number line : ℕ) (all : List (List ℕ)) (read : List Numbered) → AreWritten scenario number all read
    → IsStray scenario number all line → ⊥
stray_at scenario number line all read h s =
    none_stray scenario number s.front s.rest s.octets read (subst (λ (l : List (List ℕ)). AreWritten scenario number l read) s.whole h) s.none

-- A text that says something has no fault.
pub said_whole : (text : List ℕ) (script : Script) (report : ReportLines) (wrong : TextFault) → Says text script report → HasFault text wrong → ⊥
said_whole text script report wrong h (IsLong long is) = (let short = h.short in absurd (omega (arith, short, long)))
said_whole text script report wrong h (IsUnmarked short none is) = cut_marked (lines text) h.front h.thereafter h.cut none
said_whole text script report wrong h (OfScript short front thereafter cut e) =
    (let same = cut_once (lines text) h.front h.thereafter front thereafter h.cut cut in
    let both : said script ≡ Err wrong = sym h.scripted ∙ ap (script_from empty_draft 1) same.0 ∙ e in absurd cc)
said_whole text script report wrong h (OfReport short front thereafter cut other e stray is) =
    let same = cut_once (lines text) h.front h.thereafter front thereafter h.cut cut in
    let one : script ≡ other = one_said script other (sym h.scripted ∙ ap (script_from empty_draft 1) same.0 ∙ e) in
    let reported : AreWritten other.scenario (length front + 2) thereafter report.lines =
    subst (λ (s : Script). AreWritten s.scenario (length front + 2) thereafter report.lines) one
    (subst (λ (l : List (List ℕ)). AreWritten script.scenario (length l + 2) thereafter report.lines) same.0
    (subst (λ (l : List (List ℕ)). AreWritten script.scenario (length h.front + 2) l report.lines) same.1 h.reported)) in
    stray_at other.scenario (length front + 2) wrong.line thereafter report.lines reported stray
