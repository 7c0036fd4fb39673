use Rattle.std.proofs.Common.{◌≡◌, ◌∷◌, ℕ, Option, Some, None, slice_get, sym, ap, subst, ◌∙◌}
use Rattle.std.specs.FinMap.{insert, remove}
use Rattle.std.proofs.lemmas.Result.{on_ok_weaker}
use Rattle.mv_base.specs.Number.{◌>>?◌}
use Rattle.mv_base.specs.declared.addr.Addr.{Addr}
use Rattle.mv_base.specs.declared.ids.NodeId.{NodeId}
use Rattle.bgp_messages.specs.declared.bgp_attributes.key.Key.{Key}
use Rattle.bgp_messages.specs.bgp_update.Written.{afi_of}
use Rattle.edge_defs.specs.Keys.{Table}
use Rattle.edge_routes.specs.edge_home.Home.{place_of}
use Rattle.edge_routes.specs.Local.{as_import}
use Rattle.vrf_words.specs.tree_laws.Joins.{first_told, join_key}
use Rattle.control_laws.specs.Control.{control_of}
use Rattle.held_tables.specs.Joins.{HoldAllBut, value_towards}
use Rattle.held_tables.proofs.Witness.{is_at, place_for}
use Rattle.edge_control.specs.vrf_trees.Changes.{flow_in}
use Rattle.edge_routing.specs.edge_joins.Keys.{key_of}
use Rattle.edge_routing.specs.edge_joins.Upstreams.{import_at, remote_by}
use Rattle.edge_routing.proofs.edge_joins.TreeLemmas.{first_at, found_held, found_key, no_core, none_held, some_vrf}
use Rattle.edge_routing.proofs.edge_joins.TurnLemmas.{alike_either}
use Rattle.edge_routing.proofs.edge_joins.joins.hold_one.Goals as goal

pub unreachable-requires : goal.unreachable-requires
unreachable-requires c =
    let join = c.args.join.now in
    let kept = c.args.control.now in
    let some : (first_told (import_at join) kept.trees >>? remote_by join) ≡ Some c.in-Some.upstream =
    sym (c.remote.ensures ∙ ap (λ (o : Option (Addr × ℕ)). o >>? remote_by join)
    (c.first_import.ensures ∙ ap (first_told (import_at join)) c.trees.ensures)) ∙ c.in-Some.is in
    let none : slice_get c.vrfs-vrfs.result.now 0 ≡ None = sym c.in-None-first.ensures.value in
    some_vrf kept no_core c.home.ensures.sound join c.home.result.now c.vrfs-vrfs.result.now c.home.ensures.home c.vrfs-vrfs.ensures.vrfs none
    c.in-Some.upstream some

pub returns-in-Some-first-clause-held : goal.returns-in-Some-first-clause-held
returns-in-Some-first-clause-held c =
    let join = c.args.join.now in
    let kept = c.args.control.now in
    let up = c.in-Some.upstream in
    let some : (first_told (import_at join) kept.trees >>? remote_by join) ≡ Some up =
    sym (c.remote.ensures ∙ ap (λ (o : Option (Addr × ℕ)). o >>? remote_by join)
    (c.first_import.ensures ∙ ap (first_told (import_at join)) c.trees.ensures)) ∙ c.in-Some.is in
    on_ok_weaker c.hold_join.result (λ done core but of_vrfs ipv4 hold.
    done (place_of kept.home core) (control_of kept) but
    (first_at kept core c.home.result.now c.vrfs-vrfs.result.now c.in-Some-first.own.now c.home.ensures.home c.vrfs-vrfs.ensures.vrfs
    (sym c.in-Some-first.ensures.value))
    (found_held kept core c.home.ensures.sound join of_vrfs up some)
    (subst (λ (k : NodeId × Key). HoldAllBut (place_of kept.home core) (control_of kept) (k ∷ but) c.args.tables.now)
    (found_key join (first_told (import_at join) kept.trees) up some) hold))
    c.hold_join.ensures.held

pub returns-in-Some-first-clause-told : goal.returns-in-Some-first-clause-told
returns-in-Some-first-clause-told c =
    let join = c.args.join.now in
    let own = c.in-Some-first.own.now.local in
    let up = c.in-Some.upstream in
    alike_either c.hold_join.result (λ (t : Table). insert t (join_key (afi_of join.source) up.rd up.source_as (flow_in join))
    (value_towards (place_for own) (as_import up.import))) join.edge c.args.tables.now c.hold_join.new.tables
    (on_ok_weaker c.hold_join.result (λ at. at (place_for own) (is_at own)) c.hold_join.ensures.set) c.hold_join.ensures.unchanged

pub returns-in-None-clause-held : goal.returns-in-None-clause-held
returns-in-None-clause-held c =
    let join = c.args.join.now in
    let kept = c.args.control.now in
    let none : (first_told (import_at join) kept.trees >>? remote_by join) ≡ None =
    sym (c.remote.ensures ∙ ap (λ (o : Option (Addr × ℕ)). o >>? remote_by join)
    (c.first_import.ensures ∙ ap (first_told (import_at join)) c.trees.ensures)) ∙ c.in-None.is in
    on_ok_weaker c.drop_join.result (λ left core but of_vrfs ipv4 hold.
    left (place_of kept.home core) (control_of kept) but (none_held kept core c.home.ensures.sound join of_vrfs ipv4 none) hold)
    c.drop_join.ensures.held

pub returns-in-None-clause-told : goal.returns-in-None-clause-told
returns-in-None-clause-told c =
    let join = c.args.join.now in
    alike_either c.drop_join.result (λ (t : Table). remove t (key_of join).1) join.edge c.args.tables.now c.drop_join.new.tables
    c.drop_join.ensures.unset c.drop_join.ensures.unchanged
