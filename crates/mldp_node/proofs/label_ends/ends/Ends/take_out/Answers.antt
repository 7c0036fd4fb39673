use Rattle.std.proofs.Common.{ap, ◌∙◌}
use Rattle.std.specs.FinMap as maps
use Rattle.label_defs.specs.Node.{waiting_for}
use Rattle.mldp_node.specs.label_ends.Ends.{Ends}
use Rattle.mldp_node.proofs.label_ends.NodeMaps.{goes, octets_seen}
use Rattle.mldp_node.proofs.label_ends.ends.Ends.take_out.Goals as goal

pub returns-clause-octets : goal.returns-clause-octets
returns-clause-octets c =
    c.take.ensures.value ∙ octets_seen c.self.inside.waiting c.args.peer ∙ ap (λ (e : Ends). waiting_for e.waiting c.args.peer) c.self.view_is

pub returns-clause-rest : goal.returns-clause-rest
returns-clause-rest c =
    let waiting = goes c.self.inside.waiting c.take.new.waiting c.args.peer c.take.ensures.each in
    (λ i. record { up = maps.from_entries c.self.inside.up.entries; raises = maps.from_entries c.self.inside.raises.entries; waiting = waiting i })
    ∙ ap (λ (e : Ends). record e { waiting = maps.remove e.waiting c.args.peer }) c.self.view_is
