-- What is known of a key that was taken.
use Rattle.bgp_messages.specs.declared.bgp_attributes.key.Key.{Key}
use Rattle.bgp_messages.specs.bgp_update.Written.{HasOctets, IsWritableKey}
use Rattle.edge_tables.specs.taken_tables.Tables.{IsSpelledKey, Spelled}

pub writable_key : (key : Key) → IsSpelledKey key → IsWritableKey key
writable_key key (Spelled writable octets) = writable

pub octets_key : (key : Key) → IsSpelledKey key → HasOctets key
octets_key key (Spelled writable octets) = octets
