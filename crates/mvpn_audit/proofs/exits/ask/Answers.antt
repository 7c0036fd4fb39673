use Rattle.std.proofs.Common.{rules, ◌≡◌, true, Some}
use Rattle.indexmap.specs.IndexMap.{get}
use Rattle.mvpn_audit.specs.Exits.{is_exit}
use Rattle.mvpn_audit.proofs.ExitLemmas.{ask_one}
use Rattle.mvpn_audit.proofs.exits.ask.Goals as goal

pub returns-in-Some-clause-each : goal.returns-in-Some-clause-each
returns-in-Some-clause-each c = λ own.
    let there : get is_exit c.args.exits.now c.args.exit ≡ Some c.in-Some.asked.now = search rules in
    let written = (c.get_mut.follows.holds true).3 (search rules) in
    ask_one (get is_exit c.args.exits.now) c.args.exit own c.in-Some.asked.now _ there (written.0 own)
