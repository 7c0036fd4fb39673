-- Which sessions are ready, by the events of a past alone.
use Rattle.std.specs.Prelude.{ℕ, ◌+◌, ◌==◌, ◌&&◌, ◌||◌, Bool, true, false, not, nat_le, fold, map, count_by, Option, None, Some}
use Rattle.std.specs.Prelude.{if◌then◌else◌}
use Rattle.std.specs.List.{filter}
use Rattle.mv_base.specs.declared.ids.NodeId.{NodeId}
use Rattle.scenario_defs.specs.declared.event.Event.{Event}
use Rattle.scenario_defs.specs.declared.event.Event.TheVariants as events
use Rattle.scenario_defs.specs.declared.event.Kind.{Kind}
use Rattle.scenario_defs.specs.declared.event.Kind.TheVariants as kinds
use Rattle.scenario_defs.specs.declared.scenario.Scenario.{Scenario}
use Rattle.mvpn_model.specs.declared.readiness.UpEnd.{UpEnd}
use Rattle.mvpn_model.specs.Past.{Past, is_accepted}
use Rattle.mvpn_model.specs.Sessions.{sessions}
use Rattle.label_forwarding.specs.label_defs.Between.{is_between}
use Rattle.mvpn_model.specs.declared.session.Session.{Session}
use Rattle.scenario_defs.specs.Kinds.{same_kind}

-- Where the sessions stand after some events: the clock, whether the session of two nodes is joined, and the end of a node's session
-- with a peer, where it is up.
pub record SessionsStand : Type 0 where
  pub clock : ℕ
  pub joined : Kind → NodeId → NodeId → Bool
  pub end : Kind → NodeId → NodeId → Option UpEnd

-- a hold that is due is run: it is after one tick more than the life of a copy
abbrev pub hold_run : ℕ → ℕ → UpEnd → UpEnd
hold_run life now end = record end { held = end.held || nat_le (end.raised + life + 1) now }

-- nothing has happened yet
abbrev pub none_joined : SessionsStand
none_joined = record { clock = 0; joined = λ kind a b. false; end = λ kind n peer. None }

-- whether the session is that of the two nodes, either way round
abbrev pub is_that : Kind → NodeId → NodeId → Kind → NodeId → NodeId → Bool
is_that kind a b own u n = same_kind kind own && is_between a b u n

-- The session is joined, and both its ends come up. Two nodes without a session have no part in what is counted.
abbrev pub raised : Kind → NodeId → NodeId → SessionsStand → SessionsStand
raised kind a b old =
    record old {
      joined = λ own u n. old.joined own u n || is_that kind a b own u n;
      end = λ own u n. if is_that kind a b own u n then Some (record { raised = old.clock; held = false }) else old.end own u n;
    }

-- a session that is not joined is raised again
abbrev pub healed : SessionsStand → Session → SessionsStand
healed old session = if old.joined session.kind session.a session.b then old else raised session.kind session.a session.b old

-- the holds that are due are run, at the nodes that pass a test
abbrev pub timed : Scenario → (NodeId → Bool) → SessionsStand → SessionsStand
timed scenario passes old =
    record old {
      end = λ kind n peer. elim (old.end kind n peer) [
        | None ↦ None
        | Some end ↦ Some (if passes n then hold_run scenario.life old.clock end else end)
      ];
    }

-- where the sessions stand after an accepted event
abbrev pub thereafter : Scenario → SessionsStand → Event → SessionsStand
thereafter scenario old (events.Tick count) = record old { clock = old.clock + count }
thereafter scenario old (events.Timers node) = timed scenario (λ n. n.0 == node.0) old
thereafter scenario old events.Settle = timed scenario (λ n. true) old
thereafter scenario old (events.Raise kind a b) = raised kind a b old
thereafter scenario old events.Heal = fold healed old (sessions scenario)
thereafter scenario old (events.Lose kind a b) = record old { joined = λ own u n. old.joined own u n && not (is_that kind a b own u n) }
thereafter scenario old (events.Notice kind a b) =
    record old { end = λ own n peer. if same_kind kind own && (n.0 == a.0) && (peer.0 == b.0) then None else old.end own n peer }
thereafter scenario old (events.Restart node) =
    record old {
      joined = λ own u n. old.joined own u n && not ((u.0 == node.0) || (n.0 == node.0));
      end = λ own n peer. if n.0 == node.0 then None else old.end own n peer;
    }
thereafter scenario old other = old

-- where they stand after the accepted events of a past
abbrev pub sessions_stand : Past → SessionsStand
sessions_stand past = fold (thereafter past.scenario) none_joined (map (λ timed. timed.event) (filter (is_accepted past.refused) past.events))

-- whether the hold of an end was run
abbrev pub is_held : Option UpEnd → Bool
is_held None = false
is_held (Some end) = end.held

-- a session is ready where it is joined, and the holds of both ends of an LDP session were run
abbrev pub is_ready_in : SessionsStand → Session → Bool
is_ready_in standing session =
    standing.joined session.kind session.a session.b
    && (same_kind session.kind kinds.Bgp
    || (is_held (standing.end session.kind session.a session.b) && is_held (standing.end session.kind session.b session.a)))

-- How many sessions are not ready after a past.
abbrev pub unready_after : Past → ℕ
unready_after past = count_by (λ session. not (is_ready_in (sessions_stand past) session)) (sessions past.scenario)
