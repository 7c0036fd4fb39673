use Rattle.vrf_flows.proofs.StaleLemmas.{pushed-itself}
use Rattle.vrf_flows.proofs.stale.StaleFlows.add.Goals as goal

pub returns-in-Ok-clause-added : goal.returns-in-Ok-clause-added
returns-in-Ok-clause-added c = pushed-itself c.args.self.now.all c.args.self.now.flows c.push.new.self c.args.flow c.in-Ok.ensures.ok
