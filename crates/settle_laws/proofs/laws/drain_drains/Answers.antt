use Rattle.settle_laws.specs.Behind.{drain_at}
use Rattle.network_defs.specs.World.{start}
use Rattle.settle_laws.proofs.Behind.{run_drains, drain_keeps, through}
use Rattle.settle_laws.proofs.laws.drain_drains.Goals as goal

pub returns-clause-next : goal.returns-clause-next
returns-clause-next c cores script events trace old new line acts run e = run_drains script.scenario cores events trace old new line acts run e

pub returns-clause-within : goal.returns-clause-within
returns-clause-within c cores script before after line trace new run =
    let x = through before (drain_at line) after (start script.scenario cores) 0 trace new run in
    record {
      world = x.next;
      first = x.first;
      rest = x.rest;
      parts = x.parts;
      run = x.run;
      holds =
          run_drains script.scenario cores before x.before_trace x.middle x.next line x.acts x.before_run x.done;
    }

pub returns-clause-settled : goal.returns-clause-settled
returns-clause-settled c old new line acts settled e = drain_keeps old line acts new settled e
