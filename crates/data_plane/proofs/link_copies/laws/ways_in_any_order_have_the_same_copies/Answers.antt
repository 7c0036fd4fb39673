use Rattle.data_plane.proofs.link_copies.WayLists.{as_many_on_ways, datagrams_on_ways}
use Rattle.data_plane.proofs.link_copies.laws.ways_in_any_order_have_the_same_copies.Goals as goal

pub returns-clause-counted : goal.returns-clause-counted
returns-clause-counted c = as_many_on_ways

pub returns-clause-datagrams : goal.returns-clause-datagrams
returns-clause-datagrams c = datagrams_on_ways
