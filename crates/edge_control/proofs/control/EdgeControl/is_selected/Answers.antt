use Rattle.std.proofs.Common.{is_some, ap, ◌∙◌}
use Rattle.std.specs.FinMap as maps
use Rattle.control_laws.specs.Control.{Kept, control_of}
use Rattle.edge_control.specs.Sound.{kept_of}
use Rattle.edge_control.proofs.SelectLemmas.{selected_told}
use Rattle.edge_control.proofs.control.EdgeControl.is_selected.Goals as goal

pub returns : goal.returns
returns c =
    let kept : Kept = kept_of c.self.inside.home c.self.inside.trees.items c.self.inside.taken in
    selected_told kept c.self.invariant c.place_of_vrf-place.result c.args.vrf c.place_of_vrf-place.ensures c.args.pattern c.index.result.now
    c.root_is_selected.result c.index.ensures
    c.root_is_selected.ensures
    ∙ ap (λ (k : Kept). is_some (maps.get (control_of k).selections (record { vrf = c.args.vrf; pattern = c.args.pattern }))) c.self.view_is
