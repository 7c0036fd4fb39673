-- Words of the control plane and of the datagrams in which the acts of a network are said.
pub use Rattle.network_acts.specs.control_plane.Acted.{IsCurrent, IsIn, IsWithin, Standing, same_moment, with_current}
pub use Rattle.network_acts.specs.control_plane.Customers.{FitsAt, IsIfaceEdge, IsVrfEdge, control_at, is_full_at}
pub use Rattle.network_acts.specs.control_plane.Moving.{IsMovable}
pub use Rattle.network_acts.specs.control_plane.Passing.{all_late}
pub use Rattle.network_acts.specs.control_plane.Plane.{Moment, at_rest}
pub use Rattle.network_acts.specs.control_plane.Queries.{EdgeView, data_of, home_in, home_of, node_place, octets_waiting}
pub use Rattle.network_acts.specs.control_plane.Queries.{IsCoreThere, IsEdgeOf, IsEdgeThere}
pub use Rattle.network_acts.specs.control_plane.Sessions.{IsDown, IsHalfUp, IsLost, none_rising, with_rising}
pub use Rattle.network_acts.specs.declared.control_plane.customers.Verdict.{Verdict}
pub use Rattle.network_acts.specs.declared.control_plane.customers.Verdict.TheVariants.{Full as VerdictFull, Made as VerdictMade}
pub use Rattle.network_nodes.specs.Edges.{customer_call}
pub use Rattle.data_plane.specs.link_copies.CopiesData.{CopiesData, IsShared, KeptCopy, is_way, kept_at}
pub use Rattle.data_plane.specs.datagram_acts.Stored.{AreLinked, Buffers, Held, IsLive, Stores, held, with_datagram}
