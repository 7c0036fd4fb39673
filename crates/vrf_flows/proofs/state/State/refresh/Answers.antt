use Rattle.vrf_flows.proofs.StateLemmas.{forgotten-sound}
use Rattle.vrf_flows.proofs.state.State.refresh.Goals as goal

pub returns-in-Err-clause-sound : goal.returns-in-Err-clause-sound
returns-in-Err-clause-sound c =
    forgotten-sound c.args.self.now c.refreshed.new.self c.forget.new.self c.requires.sound c.refreshed.ensures.rest c.refreshed.ensures.held
    c.forget.ensures.unique c.forget.ensures.each
