-- What a leaf answers, as octets.
use Rattle.std.specs.Prelude.{◌≡◌, ℕ, List, Option, option_map}
use Rattle.mv_base.specs.declared.addr.Addr.{Addr}
use Rattle.mv_base.specs.declared.addr.Addr.TheVariants.{V4}
use Rattle.bgp_messages.specs.declared.bgp_attributes.update.Advert.{Advert}
use Rattle.bgp_messages.specs.declared.bgp_attributes.update.Change.TheVariants.{Reach}
use Rattle.bgp_messages.specs.bgp_update.Written.{written}
use Rattle.ingress_rep.specs.Ingress.{answer_of, request_of}

-- an address of IPv4
abbrev pub IsIpv4 : Addr → Type 0
IsIpv4 addr = (octets : List ℕ) × (addr ≡ V4 octets)

-- the octets by which the leaf answers the route under its label, if the route asks for an answer
abbrev pub answer_to : Addr → ℕ → Advert → Option (List ℕ)
answer_to leaf label advert = option_map (λ request. written (Reach (answer_of request leaf label))) (request_of advert)
