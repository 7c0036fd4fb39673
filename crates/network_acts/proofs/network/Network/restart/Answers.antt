use Rattle.std.proofs.Common.{◌<◌, refl, subst, sym, [], ◌∷◌, length, Ok}
use Rattle.network_defs.specs.session_defs.Octets as octets
use Rattle.network_defs.specs.Acts as acts
use Rattle.network_defs.specs.System.{Reset}
use Rattle.network_acts.specs.control_plane.Acted.{same_moment}
use Rattle.network_acts.specs.Instant.{Any, standing_of}
use Rattle.network_acts.specs.NetworkView.{NetworkView}
use Rattle.network_acts.proofs.PlaneActs.{own_is, passes_as}
use Rattle.network_acts.proofs.control_plane.NetworkLemmas.{restarts}
use Rattle.network_acts.proofs.control_plane.PlaceLemmas.{anew_placed}
use Rattle.network_acts.proofs.network.Network.restart.Goals as goal

pub returns : goal.returns
returns c =
    passes_as _ c.args.self.now c.self.view_is _ Any same_moment (acts.Restart c.args.n) c.args.n
    (octets.Lose (acts.is_at c.args.n) ∷ octets.Forget (acts.leads_to c.args.n) ∷ octets.Call (Reset c.args.n) ∷ []) (Ok tt) (λ at. refl)
    (λ at is in_plane. restarts _ c.self.inside.plane c.plane.view_is c.self.inside.scenario c.args.n c.from.result c.in_ok-node.node
    c.replace-old.new.dest c.lose_all.new.self
    c.from.ensures c.replace-old.ensures.after
    (record {
      placed = c.in_ok-node.ensures.placed;
      unspent = c.in_ok-node.ensures.unspent;
      is = c.in_ok-node.ensures.is;
      waits = c.in_ok-node.ensures.waits;
    }) (subst (λ (network : NetworkView). c.args.n.0 < length network.scenario.nodes) (sym c.self.view_is) c.requires.within) c.lose_all.ensures (standing_of at) (sym (own_is _ c.args.self.now c.self.view_is at is).scenario) in_plane)

pub invariant_of-self-2 : goal.invariant_of-self-2
invariant_of-self-2 c =
    anew_placed _ c.self.inside.plane c.plane.view_is c.self.inside.scenario c.args.n c.from.result c.in_ok-node.node c.replace-old.new.dest
    c.from.ensures
    c.replace-old.ensures.after c.in_ok-node.ensures.placed c.self.invariant
