-- One session of a scenario, followed through events: what of the sessions' state concerns it.
use Rattle.std.specs.Prelude.{ℕ, ◌+◌, ◌==◌, ◌&&◌, ◌||◌, Bool, true, false, not, fold, count_by, List, Option, None, Some, if◌then◌else◌}
use Rattle.mv_base.specs.declared.ids.NodeId.{NodeId}
use Rattle.scenario_defs.specs.declared.event.Kind.{Kind}
use Rattle.scenario_defs.specs.declared.event.Kind.TheVariants as kinds
use Rattle.scenario_defs.specs.declared.event.Event.{Event}
use Rattle.scenario_defs.specs.declared.event.Event.TheVariants as events
use Rattle.scenario_defs.specs.declared.event.Timed.{Timed}
use Rattle.scenario_defs.specs.Kinds.{same_kind}
use Rattle.mvpn_model.specs.declared.readiness.UpEnd.{UpEnd}
use Rattle.mvpn_model.specs.declared.session.Session.{Session}
use Rattle.mvpn_model.specs.declared.readiness.SessionStands.{SessionStands}
use Rattle.mvpn_model.specs.Past.{Past, is_accepted}
use Rattle.mvpn_model.specs.Unready.{hold_run, is_that, is_held}

-- an end whose hold is run where it is due, at the nodes that a test passes
abbrev pub timed_end : ℕ → Bool → ℕ → Option UpEnd → Option UpEnd
timed_end life runs clock old = elim old [ None ↦ None | Some end ↦ Some (if runs then hold_run life clock end else end) ]

-- an end after a loss that it notices
abbrev pub noticed_end : Bool → Option UpEnd → Option UpEnd
noticed_end notices old = if notices then None else old

-- the session after a raise of itself
abbrev pub raised_one : SessionStands → SessionStands
raised_one old =
    let fresh : UpEnd = record { raised = old.clock; held = false } in
    record old { joined = true; near = Some fresh; far = Some fresh }

-- the session after a loss that the node notices on its session with the peer
abbrev pub noticed_one : Session → Kind → NodeId → NodeId → SessionStands → SessionStands
noticed_one session kind node peer old =
    record old {
      near = noticed_end (same_kind kind session.kind && (session.a.0 == node.0) && (session.b.0 == peer.0)) old.near;
      far = noticed_end (same_kind kind session.kind && (session.b.0 == node.0) && (session.a.0 == peer.0)) old.far;
    }

-- the session after a restart of the node
abbrev pub restarted_one : Session → NodeId → SessionStands → SessionStands
restarted_one session node old =
    record old {
      joined = old.joined && not ((session.a.0 == node.0) || (session.b.0 == node.0));
      near = noticed_end (session.a.0 == node.0) old.near;
      far = noticed_end (session.b.0 == node.0) old.far;
    }

-- the session after an accepted event, by where it stood
abbrev pub thereafter_one : ℕ → Session → SessionStands → Event → SessionStands
thereafter_one life session old (events.Tick count) = record old { clock = old.clock + count }
thereafter_one life session old (events.Timers node) =
    record old {
      near = timed_end life (session.a.0 == node.0) old.clock old.near;
      far = timed_end life (session.b.0 == node.0) old.clock old.far;
    }
thereafter_one life session old events.Settle =
    record old { near = timed_end life true old.clock old.near; far = timed_end life true old.clock old.far }
thereafter_one life session old (events.Raise kind a b) = if is_that kind a b session.kind session.a session.b then raised_one old else old
thereafter_one life session old events.Heal = if not old.joined then raised_one old else old
thereafter_one life session old (events.Lose kind a b) =
    record old { joined = old.joined && not (is_that kind a b session.kind session.a session.b) }
thereafter_one life session old (events.Notice kind node peer) = noticed_one session kind node peer old
thereafter_one life session old (events.Restart node) = restarted_one session node old
thereafter_one life session old other = old

-- the same after any event; a refused one changes nothing
abbrev pub after_one : ℕ → List ℕ → Session → SessionStands → Timed → SessionStands
after_one life refused session old timed = if is_accepted refused timed then thereafter_one life session old timed.event else old

-- nothing has happened yet
abbrev pub none_stands : SessionStands
none_stands = record { clock = 0; joined = false; near = None; far = None }

-- where the session stands after all events
abbrev pub stands_one : Past → Session → SessionStands
stands_one past session = fold (after_one past.scenario.life past.refused session) none_stands past.events

-- whether it is ready then
abbrev pub is_ready_one : Past → Session → Bool
is_ready_one past session =
    let stands = stands_one past session in
    stands.joined && (same_kind session.kind kinds.Bgp || (is_held stands.near && is_held stands.far))

-- how many of the sessions are not ready then
abbrev pub unready_among : Past → List Session → ℕ
unready_among past all = count_by (λ session. not (is_ready_one past session)) all
