use Rattle.std.proofs.Common.{◌≡◌, ◌⊎◌, ap, refl, sym, subst, inr, length, arith}
use Rattle.std.proofs.lemmas.Result.{err_from_is_err_and}
use Rattle.mv_io.proofs.OctetsLemmas.{part_whole}
use Rattle.mvpn_tool.specs.declared.stop.Stop.{Stop}
use Rattle.mvpn_tool.specs.declared.stop.Stop.TheVariants as stops
use Rattle.mvpn_tool.proofs.OutcomeLemmas.{after-event, after-stop, event_at, never-begun, place_of, replayed-all, replayed-none}
use Rattle.mvpn_tool.proofs.replay.replay_script.Goals as goal

pub returns-in_err-write_front-clause-replays : goal.returns-in_err-write_front-clause-replays
returns-in_err-write_front-clause-replays g c =
    let p = err_from_is_err_and c.from_residual.result c.from_residual.ensures.1 in
    let why = subst (λ (stop : Stop). (stop ≡ stops.Sink) ⊎ (stop ≡ stops.Memory)) (sym p.2) c.in_err-write_front.ensures.others in
    never-begun c.runs_are_known.ensures c.args.output c.args.script c.requires c.script_has_octets.ensures _ _ c.from_residual.result p.0 p.1 why
    c.in_err-write_front.ensures.err

pub returns-in_err-names-clause-replays : goal.returns-in_err-names-clause-replays
returns-in_err-names-clause-replays g c =
    let p = err_from_is_err_and c.from_residual-in_err-names.result c.from_residual-in_err-names.ensures.1 in
    never-begun c.runs_are_known.ensures c.args.output c.args.script c.requires c.script_has_octets.ensures _ _ c.from_residual-in_err-names.result
    p.0 p.1 (inr p.2) (part_whole _ _ _ c.in_ok-write_front.ensures.ok)

pub returns-in_err-world-clause-replays : goal.returns-in_err-world-clause-replays
returns-in_err-world-clause-replays g c =
    let p = err_from_is_err_and c.from_residual-in_err-world.result c.from_residual-in_err-world.ensures.1 in
    never-begun c.runs_are_known.ensures c.args.output c.args.script c.requires c.script_has_octets.ensures _ _ c.from_residual-in_err-world.result
    p.0 p.1 (inr p.2) (part_whole _ _ _ c.in_ok-write_front.ensures.ok)

pub loop-timed-init : goal.loop-timed-init
loop-timed-init g c = record {
  way = replayed-none c.runs_are_known.ensures c.args.output c.args.script c.requires c.script_has_octets.ensures (g.K.Sink.written c.args.sink.now) _
      c.in_ok-world.world c.in_ok-world.ensures c.in_ok-write_front.ensures.ok _ refl c.new.ensures;
  within = omega arith;
  later = omega (arith, c.write_front.ensures.later);
}

pub replay_event-requires : goal.replay_event-requires
replay_event-requires g c =
    place_of c.runs_are_known.ensures c.args.output c.args.script c.requires c.script_has_octets.ensures c.in_ok-names.names
    (sym c.in_ok-names.ensures) c.loop-timed.timed-index c.timed-item.result
    (g.K.Sink.written c.args.sink.now) (g.K.Sink.written c.loop-timed.sink) (g.K.Sink.written c.loop-timed.sink) c.loop-timed.world
    c.loop-timed.so_far
    (event_at c.args.script _ _ c.timed-item.result c.as_slice-timeds.ensures c.loop-timed-test.true c.timed-item.is) c.loop-timed.invariant.way

pub returns-in-Err-clause-replays : goal.returns-in-Err-clause-replays
returns-in-Err-clause-replays g c =
    after-stop c.runs_are_known.ensures c.args.output c.args.script c.requires c.script_has_octets.ensures c.in_ok-names.names
    (sym c.in_ok-names.ensures) c.loop-timed.timed-index c.timed-item.result
    (g.K.Sink.written c.args.sink.now) (g.K.Sink.written c.loop-timed.sink) (g.K.Sink.written c.replay_event.new.sink) c.loop-timed.world
    c.loop-timed.so_far
    (event_at c.args.script _ _ c.timed-item.result c.as_slice-timeds.ensures c.loop-timed-test.true c.timed-item.is) c.loop-timed.invariant.way
    c.replay_event.new.world c.replay_event.new.so_far c.in-Err.stop c.in-Err.ensures.ends

pub loop-timed-preserved : goal.loop-timed-preserved
loop-timed-preserved g c = record {
  way =
      after-event c.runs_are_known.ensures c.args.output c.args.script c.requires c.script_has_octets.ensures c.in_ok-names.names
      (sym c.in_ok-names.ensures) c.loop-timed.timed-index c.timed-item.result
      (g.K.Sink.written c.args.sink.now) (g.K.Sink.written c.loop-timed.sink) (g.K.Sink.written c.replay_event.new.sink) c.loop-timed.world
      c.loop-timed.so_far
      (event_at c.args.script _ _ c.timed-item.result c.as_slice-timeds.ensures c.loop-timed-test.true c.timed-item.is) c.loop-timed.invariant.way
      c.replay_event.new.world c.replay_event.new.so_far c.in-Ok.ensures.ends;
  within = omega (arith, c.loop-timed-test.true);
  later = omega (arith, c.in-Ok.ensures.later, c.loop-timed.invariant.later);
}

pub returns-clause-replays : goal.returns-clause-replays
returns-clause-replays g c =
    replayed-all c.runs_are_known.ensures c.args.output c.args.script c.requires c.script_has_octets.ensures c.loop-timed.timed-index _ _ _
    c.loop-timed.so_far
    (omega (arith, c.loop-timed-test.false, c.loop-timed.invariant.within, ap length c.as_slice-timeds.ensures)) c.loop-timed.invariant.way
