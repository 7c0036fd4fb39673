use Rattle.std.proofs.Common.{refl, get_or}
use Rattle.network_acts.proofs.control_plane.HandingLoop.{all_done, among_at, no_way, none_done, one_done}
use Rattle.network_acts.proofs.control_plane.handing.hand_out.Goals as goal

pub loop-way-init : goal.loop-way-init
loop-way-init c = none_done c.args.ways.now c.args.node.now c.args.transit.now c.args.lines.now c.requires.unspent

pub hand_over-requires-clause-peer : goal.hand_over-requires-clause-peer
hand_over-requires-clause-peer c =
    let way = get_or c.args.ways.now c.loop-way.way-index no_way in
    c.loop-way.invariant.peers way (c.requires.peers way (among_at c.args.ways.now c.loop-way.way-index way no_way c.loop-way-test.true refl))

pub hand_over-requires-clause-unspent : goal.hand_over-requires-clause-unspent
hand_over-requires-clause-unspent c = c.loop-way.invariant.unspent

pub returns-in_err-hand_over-clause-placed : goal.returns-in_err-hand_over-clause-placed
returns-in_err-hand_over-clause-placed c = λ scenario n h. c.in_err-hand_over.ensures.placed scenario n (c.loop-way.invariant.placed scenario n h)

pub returns-in_err-hand_over-clause-waits : goal.returns-in_err-hand_over-clause-waits
returns-in_err-hand_over-clause-waits c = λ own h. c.in_err-hand_over.ensures.waits own (c.loop-way.invariant.waits own h)

pub loop-way-preserved : goal.loop-way-preserved
loop-way-preserved c =
    one_done c.args.ways.now c.loop-way.way-index (get_or c.args.ways.now c.loop-way.way-index no_way) c.args.node.now c.loop-way.node
    c.hand_over.new.node c.args.transit.now c.loop-way.transit c.hand_over.new.transit
    c.args.lines.now c.loop-way.lines c.hand_over.new.lines no_way c.loop-way-test.true refl c.loop-way.invariant
    c.in_ok-hand_over.ensures.handed c.in_ok-hand_over.ensures.unspent c.in_ok-hand_over.ensures.peers c.in_ok-hand_over.ensures.placed
    c.in_ok-hand_over.ensures.waits

pub returns-clause-handed : goal.returns-clause-handed
returns-clause-handed c =
    all_done c.args.ways.now c.loop-way.way-index c.args.node.now c.loop-way.node c.args.transit.now c.loop-way.transit c.args.lines.now
    c.loop-way.lines c.loop-way-test.false c.loop-way.invariant

pub returns-clause-unspent : goal.returns-clause-unspent
returns-clause-unspent c = c.loop-way.invariant.unspent

pub returns-clause-placed : goal.returns-clause-placed
returns-clause-placed c = c.loop-way.invariant.placed

pub returns-clause-waits : goal.returns-clause-waits
returns-clause-waits c = c.loop-way.invariant.waits
