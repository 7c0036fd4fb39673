-- What the definitions of ingress replication mean, with no order of tests.
use Rattle.std.specs.Prelude.{◌≡◌, ◌≢◌, ◌≤◌, ℕ, true, List, [], ◌∷◌, ◌++◌, Option, Some}
use Rattle.std.specs.List.{AllByRecursion}
use Rattle.mv_base.specs.declared.addr.Addr.{Addr}
use Rattle.mv_base.specs.declared.addr.Addr.TheVariants.{V4}
use Rattle.mv_base.specs.declared.rd.Rd.{Rd}
use Rattle.mv_base.specs.declared.route_targets.communities.ExtComm.{ExtComm}
use Rattle.bgp_values.specs.declared.mvpn_nlri.route.LeafKey.TheVariants as keys
use Rattle.bgp_values.specs.declared.mvpn_nlri.route.Route.TheVariants.{Selective}
use Rattle.bgp_values.specs.declared.pmsi_attr.pmsi.Pmsi.{Pmsi}
use Rattle.bgp_values.specs.declared.pmsi_attr.pmsi.Tunnel.TheVariants.{Ingress}
use Rattle.bgp_messages.specs.declared.bgp_attributes.key.Key.{Key}
use Rattle.bgp_messages.specs.declared.bgp_attributes.key.Key.TheVariants.{Mcast}
use Rattle.bgp_messages.specs.declared.bgp_attributes.update.Advert.{Advert}
use Rattle.bgp_messages.specs.declared.bgp_attributes.update.Change.TheVariants.{Reach}
use Rattle.bgp_messages.specs.bgp_update.Written.{written}
use Rattle.ingress_rep.specs.declared.request.Request.{Request}
use Rattle.ingress_rep.specs.declared.copying.TakenTable.{TakenTable}
use Rattle.ingress_rep.specs.declared.copying.LeafCopy.{LeafCopy}
use Rattle.ingress_rep.specs.Ingress.{answer_key, answer_of, root_target}

-- The route is a selective one with ingress replication that requires leaf information, and its next hop is its originator, of IPv4.
pub record Asks (advert : Advert) (request : Request) : Type 0 where
  pub rd : Rd
  pub source : Option Addr
  pub group : Option Addr
  pub pmsi : Pmsi
  pub end : Addr
  pub key : advert.key ≡ Mcast request.afi (Selective rd source group (V4 request.root))
  pub asked : request.key ≡ keys.Selective rd source group (V4 request.root)
  pub next_hop : advert.next_hop ≡ V4 request.root
  pub attribute : advert.pmsi ≡ Some pmsi
  pub required : pmsi.leaf_info ≡ true
  pub tunnel : pmsi.tunnel ≡ Ingress end

-- The route asks so, and these octets write the leaf's answer under its label.
pub record IsAnswer (leaf : Addr) (label : ℕ) (advert : Advert) (octets : List ℕ) : Type 0 where
  pub request : Request
  pub asks : Asks advert request
  pub is_written : octets ≡ written (Reach (answer_of request leaf label))

-- The route stands in the table under that key, and none before it does. A table has each key once, so it is the only one.
pub record IsFirst (table : List Advert) (key : Key) (advert : Advert) : Type 0 where
  pub before : List Advert
  pub after : List Advert
  pub parts : table ≡ before ++ (advert ∷ after)
  pub same : advert.key ≡ key
  pub first : AllByRecursion (λ (other : Advert). other.key ≢ key) before

-- The community is among these.
pub record IsAmong (comms : List ExtComm) (comm : ExtComm) : Type 0 where
  pub before : List ExtComm
  pub after : List ExtComm
  pub parts : comms ≡ before ++ (comm ∷ after)

-- A route tells this label of the leaf: the leaf is its next hop, it has the root's target, and its tunnel is ingress replication that
-- ends at the leaf, under that label, which is not reserved (RFC 3032 section 2.1).
pub record TellsLabel (request : Request) (leaf : Addr) (advert : Advert) (label : ℕ) : Type 0 where
  pub pmsi : Pmsi
  pub next_hop : advert.next_hop ≡ leaf
  pub target : IsAmong advert.comms (root_target request)
  pub attribute : advert.pmsi ≡ Some pmsi
  pub tunnel : pmsi.tunnel ≡ Ingress leaf
  pub has : pmsi.label ≡ Some label
  pub unreserved : 16 ≤ label

-- The peer's table has its answer to the request, which tells the label of the copy.
pub record IsCopy (request : Request) (taken : TakenTable) (copy : LeafCopy) : Type 0 where
  pub advert : Advert
  pub leaf : copy.leaf ≡ taken.peer
  pub there : IsFirst taken.table (answer_key request taken.peer) advert
  pub tells : TellsLabel request taken.peer advert copy.label

-- What a peer adds in front of the copies to the peers after it: its copy, or nothing where there is none.
pub data Adds (request : Request) (taken : TakenTable) (rest copies : List LeafCopy) : Type 0 where
  sent : (copy : LeafCopy) → IsCopy request taken copy → copies ≡ copy ∷ rest → Adds request taken rest copies
  passed : ((copy : LeafCopy) → ¬ (IsCopy request taken copy)) → copies ≡ rest → Adds request taken rest copies

-- the copies to these peers, one at most to each, in their order
abbrev pub AreCopies : Request → List TakenTable → List LeafCopy → Type 0
AreCopies request [] copies = copies ≡ []
AreCopies request (taken ∷ more) copies = (rest : List LeafCopy) × AreCopies request more rest × Adds request taken rest copies
