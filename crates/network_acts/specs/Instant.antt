-- Which world of the definitions a network is.
use Rattle.std.specs.Prelude.{◌≡◌}
use Rattle.scenario_defs.specs.declared.scenario.Scenario.{Scenario}
use Rattle.network_defs.specs.Costs.{Cores}
use Rattle.network_defs.specs.World.{World, scenario_of, start}
use Rattle.network_acts.specs.control_plane.Acted.{IsIn, Standing}
use Rattle.network_acts.specs.control_plane.Plane.{Moment, at_rest}
use Rattle.data_plane.specs.datagram_acts.Stored.{IsIdle}
use Rattle.network_acts.specs.NetworkView.{NetworkView}

-- A world at a moment of an event, with the cores by the costs of links.
pub record Instant : Type 0 where
  pub cores : Cores
  pub moment : Moment
  pub world : World

-- the same without copies and datagrams
abbrev pub standing_of : Instant → Standing
standing_of at = record { scenario = scenario_of at.world; cores = at.cores; moment = at.moment; network = at.world.network }

-- The network is that world, and no datagram is being handled.
pub record IsWorld (at : Instant) (network : NetworkView) : Type 0 where
  pub scenario : network.scenario ≡ scenario_of at.world
  pub plane : IsIn (standing_of at) network.plane
  pub datagrams : IsIdle at.world network.datagrams

-- the network is some such world with which this holds
abbrev pub IsSome : (Instant → Type 0) → NetworkView → Type 0
IsSome Fits network = (at : Instant) × Fits at × IsWorld at network

-- what is said of the world without copies and datagrams
abbrev pub OfPlane : (Standing → Type 0) → Instant → Type 0
OfPlane Fits at = Fits (standing_of at)

-- any world
abbrev pub Any : Instant → Type 0
Any at = Unit {0}

-- nothing has happened yet, by these cores
abbrev pub beginning : Scenario → Cores → Instant
beginning scenario cores = record { cores = cores; moment = at_rest; world = start scenario cores }
