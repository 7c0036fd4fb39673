-- Prefixes that are told by their first bits.
use Rattle.std.specs.Prelude.{◌≡◌, true, List, Some}
use Rattle.std.specs.FinMap as maps
use Rattle.mv_base.specs.Lists.{Among}
use Rattle.mv_base.specs.Prefix.{covers}
use Rattle.mv_base.specs.declared.addr.Addr.{Addr}
use Rattle.mv_base.specs.declared.ids.NodeId.{NodeId}
use Rattle.edge_words.specs.bgp_messages.declared.bgp_attributes.key.Key.{Key}
use Rattle.edge_words.specs.bgp_messages.bgp_update.Written.{HasOctets, IsWritableKey}
use Rattle.edge_words.specs.edge_defs.choice_defs.declared.known_route.KnownRoute.{KnownRoute}
use Rattle.edge_words.specs.edge_defs.Edge.{Control, TakenRoute}
use Rattle.edge_words.specs.edge_defs.Imported.{taken_from}
pub use Rattle.edge_words.specs.edge_defs.Place.{HasPrefixes}

-- Prefixes of one length that cover one address are one, as they are where no bit is set after the length.
abbrev pub AreWhole : List KnownRoute → Type 0
AreWhole routes = (route other : KnownRoute) (source : Addr) → Among route routes → Among other routes
    → route.prefix.bits ≡ other.prefix.bits → covers route.prefix source ≡ true → covers other.prefix source ≡ true
    → route.prefix ≡ other.prefix

-- Each key under which a route was taken has a spelling, and is of octets.
abbrev pub HaveSpellings : Control → Type 0
HaveSpellings control = (peer : NodeId) (key : Key) (route : TakenRoute) → maps.get (taken_from control peer) key ≡ Some route
    → IsWritableKey key × HasOctets key
