use Rattle.std.proofs.Common.{◌≡◌, ◌≤◌, List, length, ap, sym, ◌∙◌, count_by, arith}
use Rattle.std.specs.FinMap as maps
use Rattle.std.proofs.lemmas.List.Sums.{count_by-le-length}
use Rattle.label_defs.specs.declared.end.End.{End}
use Rattle.label_defs.specs.LabelData.{is_hold_due}
use Rattle.mldp_node.specs.label_ends.Ends.{Ends}
use Rattle.mldp_node.proofs.label_ends.Counts.{count-map}
use Rattle.mldp_node.proofs.label_ends.ends.Ends.due.Goals as goal

pub returns-clause-value : goal.returns-clause-value
returns-clause-value c =
    let is_due = is_hold_due c.args.life c.args.now in
    c.count_due.ensures ∙ (ap (λ (l : List End). count_by is_due l) (c.as_slice.ensures ∙ c.values.ensures.rest)
    ∙ (sym (count-map is_due c.self.inside.up.entries c.self.invariant) ∙ ap (λ (e : Ends). count_by is_due (maps.values e.up)) c.self.view_is))

pub returns-clause-few : goal.returns-clause-few
returns-clause-few c =
    let most = count_by-le-length (is_hold_due c.args.life c.args.now) c.as_slice.result.now in
    let same = ap (λ (l : List End). length l) c.as_slice.ensures in
    omega (arith, most, same, c.count_due.ensures, c.values.ensures.len, c.values.ensures.fits)
