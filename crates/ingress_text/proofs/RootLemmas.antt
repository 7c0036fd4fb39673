-- The route of a message that octets spell has a spelling.
use Rattle.std.proofs.Common.{◌≡◌, List, [], ◌∷◌, ◌++◌, subst}
use Rattle.std.specs.List.{AllByRecursion}
use Rattle.bgp_values.specs.declared.mvpn_nlri.route.Route.TheVariants.{Intra, Inter, Selective, Leaf, Active, SharedJoin, SourceJoin, Other}
use Rattle.bgp_messages.specs.declared.bgp_attributes.key.Key.{Key}
use Rattle.bgp_messages.specs.declared.bgp_attributes.key.Key.TheVariants.{Mcast, Unicast}
use Rattle.bgp_messages.specs.declared.bgp_attributes.update.Advert.{Advert}
use Rattle.bgp_messages.specs.declared.bgp_attributes.update.Update.{Update}
use Rattle.bgp_messages.specs.declared.bgp_attributes.update.Message.TheVariants as messages
use Rattle.bgp_messages.specs.bgp_update.Written.{IsWritableAdvert, IsWritableKey}
use Rattle.edge_streams.specs.Spelled.{IsSpelled}
use Rattle.edge_streams.proofs.Writable.{message_writable}
use Rattle.ingress_rep.specs.Ingress.{IsSpelledSelective}

key_spelled : (key : Key) → IsWritableKey key → IsSpelledSelective key
key_spelled (Mcast afi (Selective rd source group originator)) h = h.route
key_spelled (Mcast afi (Intra rd originator)) h = tt
key_spelled (Mcast afi (Inter rd source_as)) h = tt
key_spelled (Mcast afi (Leaf k originator)) h = tt
key_spelled (Mcast afi (Active rd source group)) h = tt
key_spelled (Mcast afi (SharedJoin rd source_as source group)) h = tt
key_spelled (Mcast afi (SourceJoin rd source_as source group)) h = tt
key_spelled (Mcast afi (Other number octets)) h = tt
key_spelled (Unicast rd prefix) h = tt

last_of : {A : Type 0} (P : A → Type 0) (front : List A) (x : A) → AllByRecursion P (front ++ x ∷ []) → P x
last_of P [] x all = all.0
last_of P (y ∷ front) x all = last_of P front x all.1

-- the last route that it announces
pub update_spelled : (update : Update) (advert : Advert) (front : List Advert) → IsSpelled (messages.Update update)
    → update.reach ≡ front ++ advert ∷ [] → IsSpelledSelective advert.key
update_spelled update advert front is parts =
    let says = message_writable (messages.Update update) is in
    let last : IsWritableAdvert advert = last_of IsWritableAdvert front advert (subst (AllByRecursion IsWritableAdvert) parts says.0) in
    key_spelled advert.key last.key
