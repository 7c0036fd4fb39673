-- Counting line by line comes to the counts of a report.
use Rattle.std.proofs.Common.{◌≡◌, ◌∙◌, ℕ, ◌+◌, Bool, true, false, List, [], ◌∷◌, refl, ap, sym, arith, cond, zero-add}
use Rattle.std.specs.Prelude.{fold, count_by}
use Rattle.std.proofs.lemmas.List.Sums.{sum_by-cons}
use Rattle.scenario_defs.specs.declared.report.ReportLine.{ReportLine}
use Rattle.mvpn_tool.specs.declared.counts.Counts.{Counts}
use Rattle.mvpn_tool.specs.Sweep.{counts_in, is_calm, is_out, is_refused, no_counts, with_line}

-- one number after a line, by whether the line is of its kind
abbrev bumped : (ReportLine → Bool) → ℕ → ReportLine → ℕ
bumped p number line = cond (p line) (number + 1) number

one_more : (b : Bool) (number rest : ℕ) → cond b (number + 1) number + rest ≡ number + (cond b 1 0 + rest)
one_more true number rest = omega arith
one_more false number rest = omega arith

-- A number that is counted line by line.
bumped_all : (p : ReportLine → Bool) (all : List ReportLine) (number : ℕ) → fold (bumped p) number all ≡ number + count_by p all
bumped_all p [] number = omega arith
bumped_all p (line ∷ more) number =
    bumped_all p more (bumped p number line)
    ∙ (one_more (p line) number (count_by p more) ∙ ap (λ (n : ℕ). number + n) (sym (sum_by-cons (λ (x : ReportLine). cond (p x) 1 0) line more)))

-- It is counted from 0.
counted_by : (p : ReportLine → Bool) (all : List ReportLine) → fold (bumped p) 0 all ≡ count_by p all
counted_by p all = bumped_all p all 0 ∙ zero-add (count_by p all)

outs_of : (all : List ReportLine) (old : Counts) → (fold with_line old all).outs ≡ fold (bumped is_out) old.outs all
outs_of [] old = refl
outs_of (line ∷ more) old = outs_of more (with_line old line)

refused_of : (all : List ReportLine) (old : Counts) → (fold with_line old all).refused ≡ fold (bumped is_refused) old.refused all
refused_of [] old = refl
refused_of (line ∷ more) old = refused_of more (with_line old line)

calm_of : (all : List ReportLine) (old : Counts) → (fold with_line old all).calm ≡ fold (bumped is_calm) old.calm all
calm_of [] old = refl
calm_of (line ∷ more) old = calm_of more (with_line old line)

counts_by : (a b : Counts) → a.outs ≡ b.outs → a.refused ≡ b.refused → a.calm ≡ b.calm → a ≡ b
counts_by a b outs refused calm = λ i. record { outs = outs i; refused = refused i; calm = calm i }

-- All lines of a report, one by one.
pub counted_all : (all : List ReportLine) → fold with_line no_counts all ≡ counts_in all
counted_all all =
    counts_by (fold with_line no_counts all) (counts_in all) (outs_of all no_counts ∙ counted_by is_out all)
    (refused_of all no_counts ∙ counted_by is_refused all)
    (calm_of all no_counts ∙ counted_by is_calm all)
