use Rattle.std.proofs.Common.{subst}
use Rattle.control_laws.specs.Control.{Kept}
use Rattle.edge_control.specs.Sound.{kept_of}
use Rattle.edge_control.specs.Places.{IsTreeAt}
use Rattle.edge_control.proofs.PlaceLemmas.{tree_at}
use Rattle.edge_control.proofs.SoundLemmas.{sound_full}
use Rattle.edge_control.proofs.control.EdgeControl.tree.Goals as goal

pub returns : goal.returns
returns c =
    let kept : Kept = kept_of c.self.inside.home c.self.inside.trees.items c.self.inside.taken in
    subst (λ (k : Kept). IsTreeAt k c.args.vrf c.index.result.now) c.self.view_is
    (tree_at kept (sound_full kept c.self.invariant) c.place_of_vrf-place.result c.args.vrf c.place_of_vrf-place.ensures c.index.result.now
    c.index.ensures)
