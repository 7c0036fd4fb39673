-- The peers of an edge.
use Rattle.std.specs.Prelude.{◌≡◌, ◌≢◌, ◌<◌, true, is_some, length}
use Rattle.std.specs.FinMap as maps
use Rattle.mv_base.specs.declared.ids.NodeId.{NodeId}
use Rattle.edge_defs.specs.Edge.{Control}
use Rattle.edge_defs.specs.Place.{EdgePlace}

-- Each peer whose session is up here is another node of the scenario.
abbrev pub ArePeers : EdgePlace → Control → Type 0
ArePeers place control =
    (peer : NodeId) → is_some (maps.get control.peers peer) ≡ true → (peer.0 < length place.scenario.nodes) × (peer ≢ place.me)
