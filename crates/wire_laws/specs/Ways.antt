-- The session of two nodes of a scenario.
use Rattle.std.specs.Prelude.{◌≡◌, true, find, Some}
use Rattle.mv_base.specs.declared.ids.NodeId.{NodeId}
use Rattle.label_defs.specs.Between.{is_between}
use Rattle.scenario_defs.specs.declared.event.Kind.{Kind}
use Rattle.scenario_defs.specs.declared.scenario.Scenario.{Scenario}
use Rattle.mvpn_model.specs.Sessions.{sessions}
use Rattle.mvpn_model.specs.declared.session.Session.{Session}
use Rattle.network_defs.specs.Events.{is_session_of}

-- The session is the one that a raise of the two nodes finds, whichever of them is named first.
pub record IsFound (scenario : Scenario) (kind : Kind) (a b : NodeId) : Type 0 where
  pub session : Session
  pub found : find (is_session_of kind a b) (sessions scenario) ≡ Some session
  pub protocol : session.kind ≡ kind
  pub between : is_between a b session.a session.b ≡ true
