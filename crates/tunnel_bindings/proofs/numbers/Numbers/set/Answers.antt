use Rattle.std.proofs.Common.{◌≤◌, ◌*◌, length, vec_capacity, arith}
use Rattle.tunnel_bindings.proofs.NumbersLemmas.{IsReached, reached-of, set-seen, written-free, written-other}
use Rattle.tunnel_bindings.proofs.numbers.Numbers.set.Goals as goal

pub invariant_of-self : goal.invariant_of-self
invariant_of-self c =
    let own = c.self.inside in
    let r =
    reached-of own.count c.args.number own.states.items c.reach.new.states.items c.args.self.now c.self.view_is c.requires c.self.invariant.within
    c.reach.ensures.items in
    let room : own.count ≤ vec_capacity c.reach.new.states = omega (arith, c.self.invariant.room, c.reach.ensures.capacity) in
    let markable : own.count ≤ 64 * length c.reach.new.free = omega (arith, c.self.invariant.markable, c.reach.ensures.marks) in
    rw (c.in-Free.is, c.insert.ensures) (written-free own.count c.args.number (vec_capacity c.reach.new.states) own.states.items
    c.reach.new.states.items c.reach.new.free r room markable c.reach.ensures.marked)

pub invariant_of-self-in_default : goal.invariant_of-self-in_default
invariant_of-self-in_default c =
    let own = c.self.inside in
    let r =
    reached-of own.count c.args.number own.states.items c.reach.new.states.items c.args.self.now c.self.view_is c.requires c.self.invariant.within
    c.reach.ensures.items in
    let room : own.count ≤ vec_capacity c.reach.new.states = omega (arith, c.self.invariant.room, c.reach.ensures.capacity) in
    let markable : own.count ≤ 64 * length c.reach.new.free = omega (arith, c.self.invariant.markable, c.reach.ensures.marks) in
    rw c.remove.ensures (written-other own.count c.args.number (vec_capacity c.reach.new.states) own.states.items
    c.reach.new.states.items c.reach.new.free c.args.state c.in_default.not-Free r room markable c.reach.ensures.marked)

pub returns-in-Free : goal.returns-in-Free
returns-in-Free c =
    let own = c.self.inside in
    set-seen own.count c.args.number own.states.items c.reach.new.states.items c.args.self.now c.args.state c.self.view_is
    (reached-of own.count c.args.number own.states.items c.reach.new.states.items c.args.self.now c.self.view_is c.requires c.self.invariant.within
    c.reach.ensures.items)

pub returns-in_default : goal.returns-in_default
returns-in_default c =
    let own = c.self.inside in
    set-seen own.count c.args.number own.states.items c.reach.new.states.items c.args.self.now c.args.state c.self.view_is
    (reached-of own.count c.args.number own.states.items c.reach.new.states.items c.args.self.now c.self.view_is c.requires c.self.invariant.within
    c.reach.ensures.items)
