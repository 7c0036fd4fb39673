-- A line whose only word is `report` is no line of a scenario and no event.
use Rattle.std.proofs.Common.{◌≡◌, ℕ, ◌+◌, ◌==◌, ◌||◌, Bool, true, false, cond, List, [], ◌∷◌, ◌++◌, length, take, drop, refl, sym, ap, subst, ◌∙◌, nat_eq, nat_lt, None, Some, Option, position}
use Rattle.std.specs.Prelude.{Result, Ok, Err, codes}
use Rattle.std.specs.List.{list_all, list_any, slice_split}
use Rattle.std.specs.Cmp.Lexicographic.{pointwise}
use Rattle.std.proofs.lemmas.Bool.{and_parts, eqb-true}
use Rattle.std.proofs.lemmas.List.{take-append-drop}
use Rattle.std.proofs.lemmas.List.Splits.{slice_split-cons_yes}
use Rattle.std.proofs.lemmas.Slice.Eq.{bytes_eq-Decides}
use Rattle.line_words.specs.declared.fault.Reason.TheVariants as reasons
use Rattle.line_words.specs.declared.fault.TextFault.{TextFault}
use Rattle.line_words.specs.declared.words.Row.{Row}
use Rattle.line_words.specs.Forms.{fault, ◌>>=◌}
use Rattle.line_words.specs.Lines.{is_blank, is_outside, row_of, words_in}
use Rattle.line_words.specs.Words.{Placed, placed, unspaced, words_of}
use Rattle.scenario_defs.specs.declared.event.Script.{Script}
use Rattle.scenario_lines.specs.declared.scenario_draft.line.Line.{Line}
use Rattle.scenario_lines.specs.scenario_draft.Drafted.{Drafted}
use Rattle.scenario_lines.specs.scenario_draft.Adding.{added}
use Rattle.scenario_lines.specs.ScenarioGrammar.{scenario_line, scenario_word}
use Rattle.scenario_text.specs.Grammar.{line_of, script_from, words_line}
use Rattle.scenario_text.specs.event_lines.EventGrammar.{event_line, event_word}
use Rattle.audit_text.specs.Texts.{is_ended, is_mark}

abbrev is_space : ℕ → Bool
is_space octet = octet == 32

-- ---- the words of the line

-- the one word, at some column
abbrev report_at : ℕ → List Placed
report_at column = record { column = column; text = codes "report" } ∷ []

-- Spaces have no word.
spaces_placed : (column : ℕ) (octets : List ℕ) → list_all is_space octets ≡ true → placed column (slice_split is_space octets) ≡ []
spaces_placed column [] h = refl
spaces_placed column (octet ∷ more) h =
    let parts = and_parts (is_space octet) (list_all is_space more) h in
    ap (placed column) (slice_split-cons_yes is_space octet more parts.0) ∙ spaces_placed (column + 1) more parts.1

after_word : (column : ℕ) (rest : List ℕ) → list_all is_space rest ≡ true
    → placed column (slice_split is_space (codes "report" ++ rest)) ≡ report_at column
after_word column [] h = refl
after_word column (octet ∷ more) h =
    let parts = and_parts (is_space octet) (list_all is_space more) h in
    subst (λ (b : ℕ). placed column (slice_split is_space (codes "report" ++ b ∷ more)) ≡ report_at column) (sym (eqb-true octet 32 parts.0))
    (ap (λ (l : List Placed). record { column = column; text = codes "report" } ∷ l) (spaces_placed (column + 7) more parts.1))

text_is : (text other : List ℕ) → pointwise nat_eq text other ≡ true → text ≡ other
text_is text other h = (bytes_eq-Decides text other).0 h

ended_word : (column : ℕ) (octets : List ℕ) → is_ended octets ≡ true → placed column (slice_split is_space octets) ≡ report_at column
ended_word column octets h =
    let parts = and_parts (pointwise nat_eq (take 6 octets) (codes "report")) (list_all is_space (drop 6 octets)) h in
    let whole : codes "report" ++ drop 6 octets ≡ octets =
    ap (λ (l : List ℕ). l ++ drop 6 octets) (sym (text_is (take 6 octets) (codes "report") parts.0)) ∙ take-append-drop 6 octets in
    subst (λ (l : List ℕ). placed column (slice_split is_space l) ≡ report_at column) whole (after_word column (drop 6 octets) parts.1)

mark_placed : (column : ℕ) (line : List ℕ) → is_mark line ≡ true → (at : ℕ) × (placed column (slice_split is_space line) ≡ report_at at)
mark_placed column [] h = absurd cc
mark_placed column (octet ∷ more) h = by (is_space octet) refl h (mark_placed (column + 1) more)
  where
    by : (space : Bool) → is_space octet ≡ space → is_ended (cond space (unspaced more) (octet ∷ more)) ≡ true
        → (is_mark more ≡ true → (at : ℕ) × (placed (column + 1) (slice_split is_space more) ≡ report_at at))
        → (at : ℕ) × (placed column (slice_split is_space (octet ∷ more)) ≡ report_at at)
    by true e h again = let found = again h in (found.0, ap (placed column) (slice_split-cons_yes is_space octet more e) ∙ found.1)
    by false e h again = (column, ended_word column (octet ∷ more) h)

-- ---- the line is not blank

spaces_no_mark : (line : List ℕ) → list_all is_space line ≡ true → is_mark line ≡ false
spaces_no_mark [] h = refl
spaces_no_mark (octet ∷ more) h =
    let parts = and_parts (is_space octet) (list_all is_space more) h in
    ap (λ (b : Bool). is_ended (cond b (unspaced more) (octet ∷ more))) parts.0 ∙ spaces_no_mark more parts.1

comment_no_mark : (octet : ℕ) (more : List ℕ) → (octet == 35) ≡ true → is_mark (octet ∷ more) ≡ false
comment_no_mark octet more h = subst (λ (b : ℕ). is_mark (b ∷ more) ≡ false) (sym (eqb-true octet 35 h)) refl

mark_not_blank : (line : List ℕ) → is_mark line ≡ true → is_blank line ≡ false
unfolding is_blank
mark_not_blank [] h = absurd cc
mark_not_blank (octet ∷ more) h = by (octet == 35) (list_all is_space (octet ∷ more)) refl refl
  where
    by : (comment spaces : Bool) → (octet == 35) ≡ comment → list_all is_space (octet ∷ more) ≡ spaces
        → ((octet == 35) || list_all is_space (octet ∷ more)) ≡ false
    by true spaces a b = (let no = comment_no_mark octet more a in absurd cc)
    by false true a b = (let no = spaces_no_mark (octet ∷ more) b in absurd cc)
    by false false a b = rw (a, b) refl

-- ---- no line

no_event : (draft : Drafted) (row : Row) (column : ℕ)
    → event_line draft row (record { column = column; text = codes "report" }) [] ≡ fault row.number column reasons.Word
unfolding event_line event_word
no_event draft row column = refl

no_scenario : (draft : Drafted) (row : Row) (column : ℕ)
    → scenario_line draft row (record { column = column; text = codes "report" }) [] ≡ fault row.number column reasons.Word
unfolding scenario_line scenario_word
no_scenario draft row column = refl

no_words : (draft : Drafted) (row : Row) (column : ℕ) → words_line draft row (report_at column) ≡ fault row.number column reasons.Word
unfolding words_line
no_words draft row column = by draft.begun
  where
    by : (begun : Bool) → cond begun (event_line draft row (record { column = column; text = codes "report" }) [])
        (scenario_line draft row (record { column = column; text = codes "report" }) []) ≡ fault row.number column reasons.Word
    by true = no_event draft row column
    by false = no_scenario draft row column

-- whatever is tried first
no_line : (blank long : Bool) (outside : Option ℕ) (first : TextFault) (other : ℕ → TextFault) (words : List Placed)
    (next : List Placed → Result Line TextFault) (wrong : TextFault) (said : Line) → blank ≡ false → next words ≡ Err wrong →
    (cond blank (Ok []) (cond long (Err first) (elim outside [ Some place ↦ Err (other place) | None ↦ Ok words ])) >>= next) ≡ Ok said → ⊥
no_line true long outside first other words next wrong said b w e = absurd cc
no_line false true outside first other words next wrong said b w e = absurd cc
no_line false false (Some place) first other words next wrong said b w e = absurd cc
no_line false false None first other words next wrong said b w e = absurd cc

pub mark_no_line : (draft : Drafted) (number : ℕ) (line : List ℕ) (said : Line) → is_mark line ≡ true → line_of draft number line ≡ Ok said → ⊥
unfolding line_of words_in words_of
mark_no_line draft number line said h e =
    let word = mark_placed 1 line h in
    no_line (is_blank line) (nat_lt 4096 (length line)) (position is_outside line) _
    (λ place. record { line = number; column = place + 1; reason = reasons.Byte }) (words_of line) (words_line draft (row_of number line)) _ said
    (mark_not_blank line h) (ap (words_line draft (row_of number line)) word.1 ∙ no_words draft (row_of number line) word.0) e

-- Lines that say something have no line `report` among them.
pub said_unmarked : (draft : Drafted) (number : ℕ) (all : List (List ℕ)) (script : Script) → script_from draft number all ≡ Ok script
    → list_any is_mark all ≡ false
said_unmarked draft number [] script e = refl
said_unmarked draft number (line ∷ more) script e =
    by (line_of draft number line) refl e (λ said. said_unmarked (added draft number said) (number + 1) more script) (is_mark line) refl
  where
    by : (r : Result Line TextFault) → line_of draft number line ≡ r
        → (r >>= λ said. script_from (added draft number said) (number + 1) more) ≡ Ok script
        → ((said : Line) → script_from (added draft number said) (number + 1) more ≡ Ok script → list_any is_mark more ≡ false)
        → (mark : Bool) → is_mark line ≡ mark → (is_mark line || list_any is_mark more) ≡ false
    by (Err wrong) is e again mark m = absurd cc
    by (Ok said) is e again true m = absurd (mark_no_line draft number line said m is)
    by (Ok said) is e again false m = rw m (again said e)
