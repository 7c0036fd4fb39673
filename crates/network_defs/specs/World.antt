-- The state of the whole network.
use Rattle.std.specs.Prelude.{ℕ, zero, suc, ◌==◌, ◌&&◌, false, List, [], slice_get, Option, None, if◌then◌else◌}
use Rattle.mv_base.specs.declared.addr.Addr.{Addr}
use Rattle.mv_base.specs.declared.ids.NodeId.{NodeId}
use Rattle.mv_base.specs.declared.ids.SiteId.{SiteId}
use Rattle.mv_base.specs.framing.Feed.{unfed}
use Rattle.scenario_defs.specs.declared.scenario.Scenario.{Scenario}
use Rattle.network_defs.specs.session_defs.Octets.{OctetNetwork}
use Rattle.network_defs.specs.Costs.{Cores}
use Rattle.network_defs.specs.Nodes.{Nodes, start_nodes}

-- A datagram that was accepted: the site that sent it, its flow, and its octets.
pub record Datagram : Type 0 where
  pub site : SiteId
  pub source : Addr
  pub group : Addr
  pub octets : List ℕ

-- A copy of a datagram on a link: its label and TTL, when it was put there, and the number of its datagram, counted from 1.
pub record LinkCopy : Type 0 where
  pub label : ℕ
  pub ttl : ℕ
  pub put_at : ℕ
  pub number : ℕ

-- The state of a network: its nodes and their sessions, with the octets in transit; the copies on the links, each way, in their order;
-- and the datagrams that were accepted.
pub record World : Type 0 where
  pub network : OctetNetwork Nodes
  pub copies : NodeId → NodeId → List LinkCopy
  pub datagrams : List Datagram

-- nothing has happened yet
abbrev pub start : Scenario → Cores → World
start scenario cores = record {
  network = record {
    state = start_nodes scenario cores;
    joined = λ direction. false;
    transit = λ direction. [];
    stream = λ direction. unfed;
  };
  copies = λ u n. [];
  datagrams = [];
}

-- The datagram of that number among these: they are counted from 1, and number 0 names none.
abbrev pub numbered : List Datagram → ℕ → Option Datagram
numbered datagrams zero = None
numbered datagrams (suc place) = slice_get datagrams place

abbrev pub scenario_of : World → Scenario
scenario_of world = world.network.state.scenario

abbrev pub clock_of : World → ℕ
clock_of world = world.network.state.clock

-- the copies from one node to another become these
abbrev pub with_copies : NodeId → NodeId → List LinkCopy → World → World
with_copies from to copies world = record world { copies = λ u n. if (u.0 == from.0) && (n.0 == to.0) then copies else world.copies u n }
