-- The keys, communities and tunnels of a spelled UPDATE in octets are sound.
use Rattle.std.proofs.Common.{◌≡◌, ◌+◌, ◌&&◌, ℕ, suc, Bool, true, false, List, [], ◌∷◌, ◌++◌, length, Option, Some, None, sym, subst}
use Rattle.std.specs.List.{AllByRecursion, flat_map}
use Rattle.mv_base.specs.Address.{addr_octets}
use Rattle.mv_base.specs.Number.{only_if}
use Rattle.mv_base.specs.Octets.{IsOctets}
use Rattle.mv_base.specs.declared.addr.Addr.{Addr}
use Rattle.mv_base.specs.declared.addr.Addr.TheVariants.{V4, V6}
use Rattle.mv_base.specs.declared.prefix.Prefix.{Prefix}
use Rattle.mv_base.specs.declared.rd.Rd.{Rd}
use Rattle.mv_base.specs.framing.Units.{Spelled, octets_of, AreUnits}
use Rattle.mv_base.specs.framing.Parts.{ArePartsAfter}
use Rattle.mv_base.proofs.framing.Cuts.{IsOctets-before, IsOctets-after}
use Rattle.mldp.specs.declared.mldp_fec.fec.Fec.{Fec}
use Rattle.bgp_values.specs.declared.pmsi_attr.pmsi.Pmsi.{Pmsi}
use Rattle.bgp_values.specs.declared.pmsi_attr.pmsi.Tunnel.{Tunnel}
use Rattle.bgp_values.specs.declared.pmsi_attr.pmsi.Tunnel.TheVariants as tunnels
use Rattle.bgp_values.specs.pmsi_attr.Spelling as pmsis
use Rattle.bgp_values.specs.declared.mvpn_nlri.route.Afi.{Afi}
use Rattle.bgp_values.specs.declared.mvpn_nlri.route.Route.{Route}
use Rattle.bgp_values.specs.declared.mvpn_nlri.route.Route.TheVariants as routes
use Rattle.bgp_values.specs.mvpn_nlri.Spelling as nlri
use Rattle.mv_base.specs.declared.route_targets.communities.ExtComm.{ExtComm}
use Rattle.bgp_messages.specs.declared.bgp_attributes.attribute.Attribute.{Attribute}
use Rattle.bgp_messages.specs.declared.bgp_attributes.attribute.Attribute.TheVariants.{Reach, Unreach, Communities, Tunnel as Tunnelled, Passed}
use Rattle.bgp_messages.specs.declared.bgp_attributes.attribute.Reachable.{Reachable}
use Rattle.bgp_messages.specs.declared.bgp_attributes.family.Family.{Family}
use Rattle.bgp_messages.specs.declared.bgp_attributes.family.Family.TheVariants as families
use Rattle.bgp_messages.specs.declared.bgp_attributes.key.Key.{Key}
use Rattle.bgp_messages.specs.declared.bgp_attributes.key.Key.TheVariants.{Mcast, Unicast}
use Rattle.bgp_messages.specs.bgp_attributes.Spelling.{pair, SpellsVpn, SpellsKey, SpellsUnit, AreKeys, SpellsReachable, AreComms, SpellsValue, len_field, SpellsAttribute, IsNew, comms_in, comms_of, pmsi_of}
use Rattle.network_defs.specs.edge_defs.Imported.{lsp_of}
use Rattle.label_defs.specs.Node.{is_p2mp}
use Rattle.network_defs.specs.edge_defs.Place.{is_lsp_opaque}
use Rattle.network_laws.specs.Sound.{AreEight, IsSoundFec, SoundKey}
use Rattle.network_laws.proofs.Lists.{each_flat}

thereafter_one : (octet : ℕ) (octets : List ℕ) → IsOctets (octet ∷ octets) → IsOctets octets
thereafter_one octet octets fits i = fits (suc i)

-- ---- keys

address_octets : (addr : Addr) → IsOctets (nlri.sized addr) → IsOctets (addr_octets addr)
address_octets (V4 octets) fits = thereafter_one 32 octets fits
address_octets (V6 octets) fits = thereafter_one 128 octets fits

active_octets : (rd : List ℕ) (source group : Addr) (kind len : ℕ) → IsOctets (kind ∷ (len ∷ (rd ++ (nlri.sized source ++ nlri.sized group))))
    → IsOctets (addr_octets source) × IsOctets (addr_octets group)
active_octets rd source group kind len fits =
    let both = IsOctets-after rd (nlri.sized source ++ nlri.sized group) (λ i. fits (suc (suc i))) in (
      address_octets source (IsOctets-before (nlri.sized source) (nlri.sized group) both),
      address_octets group (IsOctets-after (nlri.sized source) (nlri.sized group) both),
    )

route_sound : (afi : Afi) (route : Route) (text : List ℕ) → nlri.Spells afi route text → IsOctets text → SoundKey (Mcast afi route)
route_sound afi (routes.Intra rd originator) text s fits = tt
route_sound afi (routes.Inter rd source_as) text s fits = tt
route_sound afi (routes.Selective rd source group originator) text s fits = tt
route_sound afi (routes.Leaf key originator) text s fits = tt
route_sound afi (routes.SharedJoin rd source_as source group) text s fits = tt
route_sound afi (routes.SourceJoin rd source_as source group) text s fits = tt
route_sound afi (routes.Other kind octets) text s fits = tt
route_sound afi (routes.Active rd source group) text s fits =
    let octets = active_octets rd.0 source group 5 (length (nlri.fields (routes.Active rd source group))) (subst IsOctets s.octets fits) in
    (s.route.1.0, s.route.1.1, octets.0, octets.1)

unicast_sound : (afi : Afi) (rd : Rd) (prefix : Prefix) (text : List ℕ) → SpellsVpn afi rd prefix text → IsOctets text → AreEight rd.0
unicast_sound afi rd prefix text s fits = (
  s.rd_len,
  IsOctets-before rd.0 s.octets (IsOctets-after s.label (rd.0 ++ s.octets)
      (thereafter_one (88 + prefix.bits) (s.label ++ (rd.0 ++ s.octets)) (subst IsOctets s.parts fits))),
)

key_sound : (family : Family) (key : Key) (text : List ℕ) → SpellsKey family key text → IsOctets text → SoundKey key
key_sound (families.Mcast afi) (Mcast own route) text s fits =
    subst (λ (a : Afi). SoundKey (Mcast a route)) (sym s.0) (route_sound afi route text s.1 fits)
key_sound (families.Vpn afi) (Unicast rd prefix) text s fits = unicast_sound afi rd prefix text s fits
key_sound (families.Mcast afi) (Unicast rd prefix) text s fits = absurd s
key_sound (families.Vpn afi) (Mcast own route) text s fits = absurd s

unit_sound : (family : Family) (keys : List Key) (text : List ℕ) → SpellsUnit family keys text → IsOctets text → AllByRecursion SoundKey keys
unit_sound family keys text s fits = subst (AllByRecursion SoundKey) (sym s.1) (key_sound family s.0 text s.2 fits, tt)

units_sound : (family : Family) (units : List (Spelled Key)) → AreUnits (SpellsUnit family) units → IsOctets (octets_of units)
    → AllByRecursion (λ unit. AllByRecursion SoundKey unit.messages) units
units_sound family [] s fits = tt
units_sound family (unit ∷ units) s fits = (
  unit_sound family unit.messages unit.octets s.0 (IsOctets-before unit.octets (octets_of units) fits),
  units_sound family units s.1 (IsOctets-after unit.octets (octets_of units) fits),
)

keys_sound : (family : Family) (keys : List Key) (octets rest : List ℕ) → AreKeys family keys octets rest → IsOctets octets
    → AllByRecursion SoundKey keys
keys_sound family keys octets rest s fits =
    subst (AllByRecursion SoundKey) (sym s.carried)
    (each_flat SoundKey (λ (unit : Spelled Key). unit.messages) s.units
    (units_sound family s.units s.each (IsOctets-before (octets_of s.units) rest (subst IsOctets s.parts fits))))

-- ---- communities and tunnels

comms_sound : (comms : List ExtComm) → AreComms comms → IsOctets (flat_map (λ comm. comm.0) comms) → AllByRecursion (λ comm. AreEight comm.0) comms
comms_sound [] s fits = tt
comms_sound (comm ∷ comms) s fits = (
  (s.0, IsOctets-before comm.0 (flat_map (λ other. other.0) comms) fits),
  comms_sound comms s.1 (IsOctets-after comm.0 (flat_map (λ other. other.0) comms) fits),
)

-- the tunnel, where it is an LSP, is a FEC that has a spelling
abbrev pub SoundTunnel : Option Pmsi → Type 0
SoundTunnel pmsi = (fec : Fec) → lsp_of pmsi ≡ Some fec → IsSoundFec fec

passes : {A : Type 0} (b : Bool) (x y : A) → only_if b x ≡ Some y → x ≡ y
passes true x y e = cc
passes false x y e = absurd cc

by_tunnel : (tunnel : Tunnel) → pmsis.IsTunnel tunnel → IsOctets (pmsis.identifier tunnel) → (fec : Fec) → elim tunnel [
  | tunnels.Mldp fec ↦ only_if (is_p2mp fec.kind && is_lsp_opaque fec.opaque) fec
  | tunnels.None ↦ None
  | tunnels.Ingress addr ↦ None
  | tunnels.Other kind ident ↦ None
] ≡ Some fec → IsSoundFec fec
by_tunnel tunnels.None h fits fec e = absurd cc
by_tunnel (tunnels.Ingress addr) h fits fec e = absurd cc
by_tunnel (tunnels.Other kind ident) h fits fec e = absurd cc
by_tunnel (tunnels.Mldp own) h fits fec e = subst IsSoundFec (passes (is_p2mp own.kind && is_lsp_opaque own.opaque) own fec e) (h.1, fits)

tunnel_sound : (pmsi : Pmsi) (text : List ℕ) → pmsis.Spells pmsi text → IsOctets text → SoundTunnel (Some pmsi)
tunnel_sound pmsi text s fits =
    by_tunnel pmsi.tunnel s.tunnel (IsOctets-after (pmsis.header s.flags pmsi s.low) (pmsis.identifier pmsi.tunnel) (subst IsOctets s.octets fits))

-- ---- attributes

abbrev pub SoundAttribute : Attribute → Type 0
SoundAttribute (Reach (Some reachable)) = AllByRecursion SoundKey reachable.keys
SoundAttribute (Communities comms) = AllByRecursion (λ comm. AreEight comm.0) comms
SoundAttribute (Tunnelled pmsi) = SoundTunnel (Some pmsi)
SoundAttribute other = Unit {0}

reachable_sound : (reachable : Reachable) (value : List ℕ) → SpellsReachable reachable value → IsOctets value → AllByRecursion SoundKey reachable.keys
reachable_sound reachable value s fits =
    let thereafter = IsOctets-after (pair s.family) (length s.hop ∷ (s.hop ++ (s.reserved ∷ s.nlri))) (subst IsOctets s.parts fits) in
    let last = IsOctets-after s.hop (s.reserved ∷ s.nlri) (thereafter_one (length s.hop) (s.hop ++ (s.reserved ∷ s.nlri)) thereafter) in
    keys_sound s.family reachable.keys s.nlri [] s.routes (thereafter_one s.reserved s.nlri last)

value_sound : (attribute : Attribute) (value : List ℕ) → SpellsValue attribute value → IsOctets value → SoundAttribute attribute
value_sound (Reach (Some reachable)) value s fits = reachable_sound reachable value s fits
value_sound (Reach None) value s fits = tt
value_sound (Unreach keys) value s fits = tt
value_sound (Communities comms) value s fits = comms_sound comms s.0 (subst IsOctets s.1 fits)
value_sound (Tunnelled pmsi) value s fits = tunnel_sound pmsi value s fits
value_sound (Passed kind) value s fits = tt

attribute_sound : (attribute : Attribute) (text : List ℕ) → SpellsAttribute attribute text → IsOctets text → SoundAttribute attribute
attribute_sound attribute text s fits =
    value_sound attribute s.value s.means (IsOctets-after (len_field s.flags (length s.value)) s.value
    (λ i. (subst IsOctets s.parts fits) (suc (suc i))))

pub attributes_sound : (before : List Attribute) (octets : List ℕ) (attributes : List Attribute) (rest : List ℕ)
    → ArePartsAfter SpellsAttribute IsNew before octets attributes rest → IsOctets octets →
    AllByRecursion SoundAttribute attributes
attributes_sound before octets [] rest s fits = tt
attributes_sound before octets (attribute ∷ attributes) rest s fits =
    let whole = subst IsOctets s.4 fits in (
      attribute_sound attribute s.0 s.2 (IsOctets-before s.0 s.1 whole),
      attributes_sound (before ++ attribute ∷ []) s.1 attributes rest s.5 (IsOctets-after s.0 s.1 whole),
    )

-- ---- what attributes say together

comms_in_sound : (attribute : Attribute) → SoundAttribute attribute → AllByRecursion (λ comm. AreEight comm.0) (comms_in attribute)
comms_in_sound (Communities comms) h = h
comms_in_sound (Reach reachable) h = tt
comms_in_sound (Unreach keys) h = tt
comms_in_sound (Tunnelled pmsi) h = tt
comms_in_sound (Passed kind) h = tt

each_comms : (attributes : List Attribute) → AllByRecursion SoundAttribute attributes
    → AllByRecursion (λ attribute. AllByRecursion (λ (comm : ExtComm). AreEight comm.0) (comms_in attribute)) attributes
each_comms [] h = tt
each_comms (attribute ∷ attributes) h = (comms_in_sound attribute h.0, each_comms attributes h.1)

pub comms_of_sound : (attributes : List Attribute) → AllByRecursion SoundAttribute attributes
    → AllByRecursion (λ comm. AreEight comm.0) (comms_of attributes)
comms_of_sound attributes h = each_flat (λ (comm : ExtComm). AreEight comm.0) comms_in attributes (each_comms attributes h)

pub pmsi_of_sound : (attributes : List Attribute) → AllByRecursion SoundAttribute attributes → SoundTunnel (pmsi_of attributes)
pmsi_of_sound [] h = λ fec e. absurd cc
pmsi_of_sound (Tunnelled pmsi ∷ attributes) h = h.0
pmsi_of_sound (Reach reachable ∷ attributes) h = pmsi_of_sound attributes h.1
pmsi_of_sound (Unreach keys ∷ attributes) h = pmsi_of_sound attributes h.1
pmsi_of_sound (Communities comms ∷ attributes) h = pmsi_of_sound attributes h.1
pmsi_of_sound (Passed kind ∷ attributes) h = pmsi_of_sound attributes h.1
