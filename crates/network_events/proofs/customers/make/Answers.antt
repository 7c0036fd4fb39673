use Rattle.std.proofs.Common.{Option, Some, Result, sym, subst, true, false}
use Rattle.scenario_defs.specs.declared.report.Refusal.{Refusal}
use Rattle.network_acts.specs.Words.{customer_call}
use Rattle.network_events.specs.Meeting.{Meets}
use Rattle.network_events.specs.declared.halt.Halt.{Halt}
use Rattle.network_events.proofs.CustomerLemmas.{are_full, asked_full, asked_made, found_edge, made_fits}
use Rattle.network_events.proofs.customers.make.Goals as goal

pub returns-then-are_sessions_full : goal.returns-then-are_sessions_full
returns-then-are_sessions_full c = λ event asks.
    asked_full event (customer_call c.args.call) c.args.network.now c.args.lines.now asks
    (are_full c.args.network.now c.are_sessions_full.result true c.are_sessions_full.ensures c.if-are_sessions_full.true)

pub call-requires : goal.call-requires
call-requires c =
    record {
      network =
          made_fits (customer_call c.args.call) c.args.network.now c.requires.call c.in-Some.n
          (found_edge c.args.network.now (customer_call c.args.call) c.scenario.result.now c.scenario.ensures c.edge_for.result (Some c.in-Some.n)
          c.edge_for.ensures c.in-Some.is) c.requires.network;
    }

pub returns : goal.returns
returns c = λ event asks.
    subst (λ (r : Result (Option Refusal) Halt). Meets event c.args.network.now c.call.new.self c.args.lines.now c.call.new.lines r)
    (sym c.verdict_at.ensures)
    (asked_made event (customer_call c.args.call) c.args.network.now c.args.lines.now asks c.in-Some.n
    (found_edge c.args.network.now (customer_call c.args.call) c.scenario.result.now c.scenario.ensures c.edge_for.result (Some c.in-Some.n)
    c.edge_for.ensures c.in-Some.is)
    (are_full c.args.network.now c.are_sessions_full.result false c.are_sessions_full.ensures c.if-are_sessions_full.false) c.call.new.self
    c.call.new.lines c.call.result c.call.ensures)
