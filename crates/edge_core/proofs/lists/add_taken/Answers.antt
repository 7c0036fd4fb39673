use Rattle.std.proofs.Common.{◌≡◌, ◌++◌, ◌∙◌, ap, sym, subst, append-nil, OnOk, List}
use Rattle.std.specs.Prelude.{option_map}
use Rattle.std.specs.FinMap as maps
use Rattle.std.specs.FinMap.{FinMap}
use Rattle.bgp_messages.specs.declared.bgp_attributes.key.Key.{Key}
use Rattle.label_defs.specs.Keys.{node_cmp}
use Rattle.edge_defs.specs.Edge.{Taken, TakenRoute}
use Rattle.edge_core.specs.Listed.{admitted_keys}
use Rattle.edge_core.proofs.ListedLemmas.{routes_in, routes_taken}
use Rattle.edge_core.proofs.lists.add_taken.Goals as goal

pub returns-in-None : goal.returns-in-None
returns-in-None c =
    sym (append-nil c.args.keys.now)
    ∙ ap (λ (routes : List (Key × TakenRoute)). c.args.keys.now ++ admitted_keys c.args.vrf.now routes)
    (ap routes_in (sym c.in-None.is) ∙ routes_taken c.args.control.now.peers c.args.peer c.entries.result
    (c.entries.ensures.entries ∙ ap (λ (tables : FinMap node_cmp Taken). option_map (λ (taken : Taken). maps.entries taken)
    (maps.get tables c.args.peer)) c.taken.ensures))

pub returns-in-Some : goal.returns-in-Some
returns-in-Some c =
    subst (λ (routes : List (Key × TakenRoute)). OnOk c.add_admitted.result
    (c.add_admitted.new.keys ≡ (c.args.keys.now ++ admitted_keys c.args.vrf.now routes)))
    (ap routes_in (sym c.in-Some.is) ∙ routes_taken c.args.control.now.peers c.args.peer c.entries.result
    (c.entries.ensures.entries ∙ ap (λ (tables : FinMap node_cmp Taken). option_map (λ (taken : Taken). maps.entries taken)
    (maps.get tables c.args.peer)) c.taken.ensures))
    c.add_admitted.ensures
