use Rattle.std.proofs.Common.{refl, ◌∙◌, ◌++◌, List, ap}
use Rattle.std.specs.List.{list_any}
use Rattle.mldp.specs.declared.mldp_fec.fec.Fec.{Fec}
use Rattle.label_defs.specs.LabelData.{same_fec}
use Rattle.edge_routing.proofs.Finish.{rest_of}
use Rattle.edge_routing.proofs.routing.EdgeRouting.finish.Goals as goal

pub returns-clause-stepped : goal.returns-clause-stepped
returns-clause-stepped c = λ call old vrf step way.
    rest_of c.args.core.now c.args.now call old c.args.self.now c.refresh.new.self
    (record { control = c.refresh.new.self.control; tables = c.put.new.self }) c.args.tunnels.items
    c.in_ok-changes.changes.tunnels.items (record { candidates = c.in_ok-candidates.candidates; leaves = c.in_ok-leaves.leaves }) vrf step way
    c.in_ok-changes.ensures.refreshed refl c.in_ok-put.ensures.put
    (c.in_ok-candidates.ensures ∙ ap (λ (more : List Fec). c.args.tunnels.items ++ more) c.deref.ensures.value)
    (λ any fec h. c.in_ok-leaves.ensures.wanted any fec (ap (λ (fecs : List Fec). list_any (same_fec fec) fecs) c.deref-2.ensures.value ∙ h))
