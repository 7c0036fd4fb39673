use Rattle.std.proofs.Common.{rules, ◌≡◌, false}
use Rattle.vrf_flows.specs.State.{compares_costs}
use Rattle.vrf_flows.proofs.StateLemmas.{fresh-flows, none-held}
use Rattle.vrf_flows.proofs.state.State.is_fresh.Goals as goal

pub returns-then-is_empty : goal.returns-then-is_empty
returns-then-is_empty c = λ known.
    none-held c.args.self.now c.args.now c.requires.sound (c.is_empty.ensures c.if-is_empty.true)

pub returns : goal.returns
returns c = λ known.
    let clock : c.args.now ≡ c.args.self.now.clock = search rules in
    let costless : compares_costs c.args.self.now.rule ≡ false = search rules in
    fresh-flows c.args.self.now c.args.now c.requires.sound clock costless (c.all_fresh.ensures known)
