use Rattle.std.proofs.Common.{List, ◌++◌, ◌∙◌, ap, append-nil, sym}
use Rattle.mldp.specs.declared.mldp_fec.fec.Fec.{Fec}
use Rattle.edge_routing.proofs.edge_updates.ListLemmas.{tunnels_of_others}
use Rattle.edge_routing.proofs.edge_updates.inclusive.append_of_entry.Goals as goal

pub returns-else-is_of_type : goal.returns-else-is_of_type
returns-else-is_of_type c =
    let none = tunnels_of_others c.args.home.now c.args.peer c.args.key.now c.args.entry.now.value (sym c.is_of_type.ensures ∙ c.if-is_of_type.false) in
    sym (ap (λ (found : List Fec). c.args.fecs.now.items ++ found) none ∙ append-nil c.args.fecs.now.items)
