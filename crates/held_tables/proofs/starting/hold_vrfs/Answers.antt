use Rattle.edge_tables.proofs.WayLemmas.{on_err}
use Rattle.held_tables.specs.Starting.{home_place}
use Rattle.held_tables.proofs.StartLemmas.{vrfs_cut, vrfs_end, vrfs_more}
use Rattle.held_tables.proofs.starting.hold_vrfs.Goals as goal

pub returns-in_err-hold_vrf-clause-partly : goal.returns-in_err-hold_vrf-clause-partly
returns-in_err-hold_vrf-clause-partly c =
    on_err c.from_residual.result _
    (vrfs_cut (home_place c.args.home.now) c.args.vrfs.now c.loop-own.own-index c.own-item.result _ c.loop-own-test.true c.args.tables.now
    c.loop-own.tables c.hold_vrf.new.tables
    c.loop-own.invariant c.own-item.is c.in_err-hold_vrf.ensures.partly)

pub loop-own-preserved : goal.loop-own-preserved
loop-own-preserved c =
    vrfs_more (home_place c.args.home.now) c.args.vrfs.now c.loop-own.own-index c.own-item.result _ c.loop-own-test.true c.args.tables.now
    c.loop-own.tables c.hold_vrf.new.tables
    c.loop-own.invariant c.own-item.is c.in_ok-hold_vrf.ensures.set

pub returns-clause-set : goal.returns-clause-set
returns-clause-set c =
    vrfs_end (home_place c.args.home.now) c.args.vrfs.now c.loop-own.own-index c.loop-own-test.false c.args.tables.now c.loop-own.tables
    c.loop-own.invariant
