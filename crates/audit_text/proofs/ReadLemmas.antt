-- The lines of a report, read one by one, and what a whole text says by its parts.
use Rattle.std.proofs.Common.{◌≡◌, ℕ, ◌+◌, ◌≤◌, List, [], ◌∷◌, ◌++◌, length, refl, sym, ap, ◌∙◌, subst, arith, append_assoc, append-nil, length-append}
use Rattle.std.specs.Prelude.{Ok, Err}
use Rattle.std.specs.Str.Lines.{lines}
use Rattle.scenario_defs.specs.declared.event.Script.{Script}
use Rattle.scenario_defs.specs.declared.scenario.Scenario.{Scenario}
use Rattle.line_words.specs.declared.fault.Reason.TheVariants as reasons
use Rattle.line_words.specs.Answers.{Fails}
use Rattle.line_words.specs.declared.fault.ReadFault.{ReadFault}
use Rattle.line_words.specs.declared.fault.ReadFault.TheVariants as faults
use Rattle.line_words.specs.declared.fault.TextFault.{TextFault}
use Rattle.scenario_text.specs.Grammar.{script_of}
use Rattle.scenario_text.proofs.FaultsLemmas.{short_text}
use Rattle.audit_defs.specs.declared.verdict.Numbered.{Numbered}
use Rattle.audit_defs.specs.declared.verdict.ReportLines.{ReportLines}
use Rattle.audit_text.specs.Texts.{AreWritten, HasFault, IsNoLine, IsRead, IsStray, IsWritten, OfReport, OfScript, Says, fault_of}
use Rattle.audit_text.specs.Cutting.{AreParts}
use Rattle.audit_text.specs.Reading.{IsReadReport}

-- ---- line by line

written_more : (scenario : Scenario) (first number : ℕ) (front : List (List ℕ)) (octets : List ℕ) (read : List Numbered) (one : Numbered)
    → AreWritten scenario first front read → number ≡ first + length front → one.line ≡ number → IsWritten scenario octets one.value
    → AreWritten scenario first (front ++ octets ∷ []) (read ++ one ∷ [])
written_more scenario first number [] octets [] one h at line is = (omega (arith, at, line), is, tt)
written_more scenario first number [] octets (other ∷ more) one h at line is = absurd h
written_more scenario first number (text ∷ front) octets [] one h at line is = absurd h
written_more scenario first number (text ∷ front) octets (other ∷ more) one h at line is =
    (h.0, h.1, written_more scenario (first + 1) number front octets more one h.2 (omega (arith, at)) line is)

-- The lines so far are lines of a report, and the next one has that number.
pub record IsSoFar (scenario : Scenario) (first number : ℕ) (all rest : List (List ℕ)) (read : List Numbered) : Type 0 where
  pub front : List (List ℕ)
  pub whole : all ≡ front ++ rest
  pub written : AreWritten scenario first front read
  pub at : number ≡ first + length front

pub so_far_start : (scenario : Scenario) (first : ℕ) (all : List (List ℕ)) → IsSoFar scenario first first all all []
so_far_start scenario first all = record { front = []; whole = refl; written = tt; at = omega arith }

-- One line more.
pub so_far_more : (scenario : Scenario) (first number : ℕ) (all here rest : List (List ℕ)) (octets : List ℕ) (read : List Numbered) (one : Numbered)
    → IsSoFar scenario first number all here read → here ≡ octets ∷ rest → one.line ≡ number → IsWritten scenario octets one.value
    → IsSoFar scenario first (number + 1) all rest (read ++ one ∷ [])
so_far_more scenario first number all here rest octets read one h next line is = record {
  front = h.front ++ octets ∷ [];
  whole = h.whole ∙ ap (λ (l : List (List ℕ)). h.front ++ l) next ∙ sym (append_assoc h.front (octets ∷ []) rest);
  written = written_more scenario first number h.front octets read one h.written h.at line is;
  at = omega (arith, h.at, length-append h.front (octets ∷ []));
}

-- One that is none.
pub so_far_stray : (scenario : Scenario) (first number : ℕ) (all here rest : List (List ℕ)) (octets : List ℕ) (read : List Numbered)
    → IsSoFar scenario first number all here read → here ≡ octets ∷ rest → IsNoLine scenario octets → IsStray scenario first all number
so_far_stray scenario first number all here rest octets read h next none = record {
  front = h.front;
  octets = octets;
  rest = rest;
  whole = h.whole ∙ ap (λ (l : List (List ℕ)). h.front ++ l) next;
  before = read;
  written = h.written;
  none = none;
  at = h.at;
}

-- No line is left.
pub so_far_all : (scenario : Scenario) (first number : ℕ) (all here : List (List ℕ)) (read : List Numbered)
    → IsSoFar scenario first number all here read → here ≡ [] → AreWritten scenario first all read × (number ≡ first + length all)
so_far_all scenario first number all here read h none =
    let whole : all ≡ h.front = h.whole ∙ ap (λ (l : List (List ℕ)). h.front ++ l) none ∙ append-nil h.front in
    (subst (λ (l : List (List ℕ)). AreWritten scenario first l read) (sym whole) h.written, omega (arith, h.at, ap length whole))

-- ---- a text by its parts

-- The part before the line `report` is a script, and the part after it a report.
pub parts_say : (text front thereafter : List ℕ) (number : ℕ) (script : Script) (report : ReportLines) → length text ≤ 16777216
    → AreParts text front thereafter number → script_of front ≡ Ok script → AreWritten script.scenario (number + 1) (lines thereafter) report.lines
    → report.end ≡ number + 1 + length (lines thereafter) → Says text script report
parts_say text front thereafter number script report short parts said written end =
    let at : number + 1 ≡ length (lines front) + 2 = omega (arith, parts.at) in
    record {
      short = short;
      front = lines front;
      thereafter = lines thereafter;
      cut = parts.cut;
      scripted = sym (short_text front (omega (arith, parts.short, short))) ∙ said;
      reported = subst (λ (n : ℕ). AreWritten script.scenario n (lines thereafter) report.lines) at written;
      end = omega (arith, end, at);
    }

pub script_faulty : (text front thereafter : List ℕ) (number : ℕ) (fault : TextFault) → length text ≤ 16777216 → AreParts text front thereafter number
    → script_of front ≡ Err fault → HasFault text fault
script_faulty text front thereafter number fault short parts said =
    OfScript short (lines front) (lines thereafter) parts.cut (sym (short_text front (omega (arith, parts.short, short))) ∙ said)

pub report_faulty : (text front thereafter : List ℕ) (number : ℕ) (script : Script) (fault : TextFault) → length text ≤ 16777216
    → AreParts text front thereafter number → script_of front ≡ Ok script → IsStray script.scenario (number + 1) (lines thereafter) fault.line
    → fault ≡ fault_of fault.line reasons.Report → HasFault text fault
report_faulty text front thereafter number script fault short parts said stray is =
    let at : number + 1 ≡ length (lines front) + 2 = omega (arith, parts.at) in
    OfReport short (lines front) (lines thereafter) parts.cut script (sym (short_text front (omega (arith, parts.short, short))) ∙ said)
    (subst (λ (n : ℕ). IsStray script.scenario n (lines thereafter) fault.line) at stray) is

-- ---- what stops the reading

pub script_stops : (text front thereafter : List ℕ) (number : ℕ) (stop : ReadFault) → length text ≤ 16777216 → AreParts text front thereafter number
    → Fails {Y = Script} stop (script_of front) → IsRead text (Err stop)
script_stops text front thereafter number (faults.Text fault) short parts said = script_faulty text front thereafter number fault short parts said
script_stops text front thereafter number faults.NoMemory short parts said = tt

pub report_stops : (text front thereafter : List ℕ) (number : ℕ) (script : Script) (stop : ReadFault) → length text ≤ 16777216
    → AreParts text front thereafter number → script_of front ≡ Ok script → IsReadReport script.scenario (number + 1) (lines thereafter) (Err stop)
    → IsRead text (Err stop)
report_stops text front thereafter number script (faults.Text fault) short parts said read =
    report_faulty text front thereafter number script fault short parts said read.0 read.1
report_stops text front thereafter number script faults.NoMemory short parts said read = tt
