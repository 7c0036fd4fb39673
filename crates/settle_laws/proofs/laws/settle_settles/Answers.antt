use Rattle.std.proofs.Common.{◌∷◌}
use Rattle.settle_laws.specs.Behind.{settle_at}
use Rattle.network_defs.specs.World.{start}
use Rattle.network_laws.specs.Honest.{IsSoundEvent}
use Rattle.network_laws.specs.SoundRun.{SoundRun}
use Rattle.network_laws.proofs.Lists.{each_front}
use Rattle.settle_laws.proofs.Behind.{run_settles, through}
use Rattle.settle_laws.proofs.laws.settle_settles.Goals as goal

pub returns-clause-next : goal.returns-clause-next
returns-clause-next c cores script events trace old new line acts s e = run_settles cores script events trace old new line acts s e

pub returns-clause-within : goal.returns-clause-within
returns-clause-within c cores script before after line trace new s =
    let x = through before (settle_at line) after (start script.scenario cores) 0 trace new s.run in
    let sound = each_front (λ timed. IsSoundEvent script.scenario timed.event) before (settle_at line ∷ after) s.sound_events in
    let front : SoundRun cores script before x.before_trace x.middle =
    record { scenario = s.scenario; of_scenario = s.of_scenario; sound_events = sound; run = x.before_run } in
    record {
      world = x.next;
      first = x.first;
      rest = x.rest;
      parts = x.parts;
      run = x.run;
      holds =
          run_settles cores script before x.before_trace x.middle x.next line x.acts front x.done;
    }
