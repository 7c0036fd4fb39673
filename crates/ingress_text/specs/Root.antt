-- The route of a root, from octets: they are one whole UPDATE that announces one route and withdraws none.
use Rattle.std.specs.Prelude.{ℕ, nat_eq, List, [], ◌∷◌, Option, None, Some}
use Rattle.std.specs.Cmp.Lexicographic.{pointwise}
use Rattle.mv_base.specs.Number.{◌>>?◌, only_if}
use Rattle.mv_base.specs.framing.Feed.{Fed, fed, unfed}
use Rattle.bgp_messages.specs.declared.bgp_attributes.fault.StreamFault.{StreamFault}
use Rattle.bgp_messages.specs.declared.bgp_attributes.key.Key.{Key}
use Rattle.bgp_messages.specs.declared.bgp_attributes.update.Advert.{Advert}
use Rattle.bgp_messages.specs.declared.bgp_attributes.update.Message.{Message}
use Rattle.bgp_messages.specs.declared.bgp_attributes.update.Message.TheVariants as messages
use Rattle.bgp_messages.specs.bgp_update.Reading.{message_front}
use Rattle.ingress_rep.specs.Ingress.{request_of}
use Rattle.ingress_text.specs.Rooted.{Rooted}

-- the message of a list of one
abbrev pub only : {A : Type 0} → List A → Option A
only [] = None
only (x ∷ []) = Some x
only (x ∷ y ∷ more) = None

-- the message that waits in a stream, where it is the only one and no octets are held back
abbrev pub sole : Fed Message StreamFault → Option Message
sole d = elim d.held [ [] ↦ only d.waiting | b ∷ bs ↦ None ]

-- the same where the stream has no fault
abbrev pub unless_faulty : Fed Message StreamFault → Option Message
unless_faulty d = elim d.fault [ None ↦ sole d | Some f ↦ None ]

-- the message that the octets are
abbrev pub sole_message : List ℕ → Option Message
sole_message octets = unless_faulty (fed message_front unfed octets)

abbrev pub only_announced : List Advert → List Key → Option Advert
only_announced adverts [] = only adverts
only_announced adverts (key ∷ keys) = None

-- the route that the message announces, where it announces that alone and withdraws none
abbrev pub sole_advert : Message → Option Advert
sole_advert (messages.Update update) = only_announced update.reach update.unreach
sole_advert (messages.Other kind) = None

-- the root of that address, where the route asks for answers and is its own
abbrev pub root_by : List ℕ → Advert → Option Rooted
root_by addr advert = request_of advert >>? λ request. only_if (pointwise nat_eq request.root addr) (record { request = request; advert = advert })

-- the root of that address whose route the octets announce, and nothing else
abbrev pub root_of : List ℕ → List ℕ → Option Rooted
root_of addr octets = sole_message octets >>? λ message. sole_advert message >>? λ advert. root_by addr advert
