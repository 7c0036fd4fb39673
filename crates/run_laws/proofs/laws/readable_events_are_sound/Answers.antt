use Rattle.run_laws.proofs.SoundEvents.{sound_event, sound_first, sound_run}
use Rattle.run_laws.proofs.laws.readable_events_are_sound.Goals as goal

pub returns-clause-event : goal.returns-clause-event
returns-clause-event c = sound_event

pub returns-clause-events : goal.returns-clause-events
returns-clause-events c = sound_first

pub returns-clause-run : goal.returns-clause-run
returns-clause-run c = sound_run
