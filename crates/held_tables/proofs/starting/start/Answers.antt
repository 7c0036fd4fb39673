use Rattle.std.proofs.Common.{List, subst}
use Rattle.std.proofs.lemmas.Result.{on_err_weaker, on_ok_weaker}
use Rattle.edge_routes.specs.edge_home.Home.{place_of}
use Rattle.edge_tables.specs.Tables.{EachPeer}
use Rattle.vrf_words.proofs.edge_words.calm_laws.Entries.{Entry}
use Rattle.held_tables.specs.Starting.{HasFront, home_place}
use Rattle.held_tables.proofs.StartLemmas.{Given, home_routes, start_all, told_either, vrf_routes}
use Rattle.held_tables.proofs.starting.start.Goals as goal

pub returns-clause-held : goal.returns-clause-held
returns-clause-held c = on_ok_weaker c.hold_vrfs.result (λ each core.
    start_all (place_of c.args.home.now core) c.vrfs.ensures.is.rules c.args.tables.now c.hold_vrfs.new.tables c.requires
    (subst (λ (l : List Entry). EachPeer (Given l) c.args.tables.now c.hold_vrfs.new.tables)
    (home_routes c.args.home.now core c.vrfs.result.now (c.vrfs.ensures.vrfs.vrfs core)) each)) c.hold_vrfs.ensures.set

pub returns-clause-partly : goal.returns-clause-partly
returns-clause-partly c = on_err_weaker c.hold_vrfs.result (λ part core.
    subst (λ (l : List Entry). EachPeer (HasFront l) c.args.tables.now c.hold_vrfs.new.tables)
    (home_routes c.args.home.now core c.vrfs.result.now (c.vrfs.ensures.vrfs.vrfs core)) part) c.hold_vrfs.ensures.partly

pub returns-clause-told : goal.returns-clause-told
returns-clause-told c =
    told_either c.hold_vrfs.result (vrf_routes (home_place c.args.home.now) c.vrfs.result.now) c.args.tables.now c.hold_vrfs.new.tables
    c.hold_vrfs.ensures.set c.hold_vrfs.ensures.partly
