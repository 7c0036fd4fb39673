-- The first fault of octets: whole fields that meet their conditions stand before its place, and the next one fails.
-- A field is tried against the length that encloses it, then against the input, and then by its own condition.
use Rattle.std.specs.Prelude.{◌≡◌, ◌≢◌, ℕ, ◌<◌, ◌≤◌, ◌⊎◌, List, [], ◌∷◌, length, take}
use Rattle.std.specs.Int.{w32, to_be_bytes}
use Rattle.mv_base.specs.Address.{addr_octets}
use Rattle.mv_base.specs.declared.addr.Addr.{Addr}
use Rattle.mv_base.specs.declared.rd.Rd.{Rd}
use Rattle.bgp_values.specs.declared.mvpn_nlri.fault.RouteFault.{RouteFault}
use Rattle.bgp_values.specs.declared.mvpn_nlri.fault.RouteReason.{RouteReason}
use Rattle.bgp_values.specs.declared.mvpn_nlri.fault.RouteReason.TheVariants.{Short, LengthTooSmall, LengthTooLarge, SourceLength, GroupLength}
use Rattle.bgp_values.specs.declared.mvpn_nlri.fault.RouteReason.TheVariants.{Wildcard, OriginatorLength, KeyType, GroupNotMulticast}
use Rattle.bgp_values.specs.declared.mvpn_nlri.route.Afi.{Afi}
use Rattle.bgp_values.specs.declared.mvpn_nlri.route.Afi.TheVariants.{Ipv4, Ipv6}
use Rattle.bgp_values.specs.declared.mvpn_nlri.address.Role.{Role}
use Rattle.bgp_values.specs.declared.mvpn_nlri.address.Role.TheVariants.{Source, Group}
use Rattle.bgp_values.specs.mvpn_nlri.Bounds.{Bounded, Passes, bounded}
use Rattle.bgp_values.specs.mvpn_nlri.Spelling.{IsRd, IsAs, IsSource, IsMulticast, IsGroup, IsAnyOr, IsOther, IsKey, sized, any_or_sized, key}

-- the fault is this one
abbrev pub Is : RouteFault → ℕ → RouteReason → Type 0
Is f place reason = f ≡ record { place = place; reason = reason }

-- the next field has more octets than the length leaves, or else than the input has
pub data Lacks (n : ℕ) (b : Bounded) (f : RouteFault) : Type 0 where
  too_small : b.within < n → Is f b.place LengthTooSmall → Lacks n b f
  short : n ≤ b.within → length b.left < n → Is f b.place Short → Lacks n b f

-- a field fails, or it stands whole and what follows fails
pub data Then {A : Type 0} (text : A → List ℕ) (Meets : A → Type 0)
    (First Second : Bounded → RouteFault → Type 0) (b : Bounded) (f : RouteFault) : Type 0 where
  fails : First b f → Then text Meets First Second b f
  stands : (x : A) (d : Bounded) → Meets x → Passes b (text x) d → Second d f → Then text Meets First Second b f

-- octets of the length remain
abbrev pub Remains : Bounded → RouteFault → Type 0
Remains b f = (0 < b.within) × Is f b.place LengthTooLarge

-- the bits and the octets of an address by family
abbrev pub bits : Afi → ℕ
bits Ipv4 = 32
bits Ipv6 = 128

abbrev pub addr_len : Afi → ℕ
addr_len Ipv4 = 4
addr_len Ipv6 = 16

-- the reason of a wrong length, and the condition of an address
abbrev pub wrong_len : Role → RouteReason
wrong_len Source = SourceLength
wrong_len Group = GroupLength

abbrev pub IsPart : Role → Afi → Addr → Type 0
IsPart Source afi addr = IsSource afi addr
IsPart Group afi addr = IsGroup afi addr

-- a source or group where a wildcard may stand
pub data AnyOrFault (afi : Afi) (role : Role) (b : Bounded) (f : RouteFault) : Type 0 where
  len_lacks : Lacks 1 b f → AnyOrFault afi role b f
  len_wrong : (octet : ℕ) (d : Bounded) → Passes b (octet ∷ []) d → octet ≢ 0 → octet ≢ bits afi → Is f b.place (wrong_len role) →
      AnyOrFault afi role b f
  addr_lacks : (d : Bounded) → Passes b (bits afi ∷ []) d → Lacks (addr_len afi) d f → AnyOrFault afi role b f
  not_multicast : (addr : Addr) (d e : Bounded) → role ≡ Group → Passes b (bits afi ∷ []) d → IsSource afi addr →
      Passes d (addr_octets addr) e → ¬ (IsMulticast addr) → Is f d.place GroupNotMulticast → AnyOrFault afi role b f

-- a source or group where no wildcard may stand
pub data AddrFault (afi : Afi) (role : Role) (b : Bounded) (f : RouteFault) : Type 0 where
  in_field : AnyOrFault afi role b f → AddrFault afi role b f
  wildcard : (d : Bounded) → Passes b (0 ∷ []) d → Is f b.place Wildcard → AddrFault afi role b f

-- the originator, which is what the length leaves
pub data OriginatorFault (b : Bounded) (f : RouteFault) : Type 0 where
  short : length b.left < b.within → Is f b.place Short → OriginatorFault b f
  wrong : b.within ≤ length b.left → b.within ≢ 4 → b.within ≢ 16 → Is f b.place OriginatorLength → OriginatorFault b f

-- a Route Distinguisher, and what follows it
abbrev pub RdThen : (Bounded → RouteFault → Type 0) → Bounded → RouteFault → Type 0
RdThen Next b f = Then (λ (rd : Rd). rd.0) IsRd (Lacks 8) Next b f

-- a Source AS, and what follows it
abbrev pub AsThen : (Bounded → RouteFault → Type 0) → Bounded → RouteFault → Type 0
AsThen Next b f = Then (λ source_as. to_be_bytes w32 source_as) IsAs (Lacks 4) Next b f

-- source and group, to the end
abbrev pub FlowFault : Afi → Bounded → RouteFault → Type 0
FlowFault afi b f = Then sized (IsSource afi) (AddrFault afi Source) (λ d g. Then sized (IsGroup afi) (AddrFault afi Group) Remains d g) b f

-- the fields of each type
abbrev pub InterFault : Bounded → RouteFault → Type 0
InterFault b f = RdThen (λ d g. AsThen Remains d g) b f

abbrev pub SelectiveFault : Afi → Bounded → RouteFault → Type 0
SelectiveFault afi b f =
    RdThen (λ d g. Then any_or_sized (IsAnyOr (IsSource afi)) (AnyOrFault afi Source)
    (λ e h. Then any_or_sized (IsAnyOr (IsGroup afi)) (AnyOrFault afi Group) OriginatorFault e h) d g) b f

-- the fields of a key
pub data KeyFieldsFault (afi : Afi) (kind : ℕ) (b : Bounded) (f : RouteFault) : Type 0 where
  inter : kind ≡ 2 → InterFault b f → KeyFieldsFault afi kind b f
  selective : kind ≡ 3 → SelectiveFault afi b f → KeyFieldsFault afi kind b f

-- a key, whose own length bounds its fields
pub data KeyFault (afi : Afi) (b : Bounded) (f : RouteFault) : Type 0 where
  kind_lacks : Lacks 1 b f → KeyFault afi b f
  kind_wrong : (kind : ℕ) (d : Bounded) → Passes b (kind ∷ []) d → kind ≢ 2 → kind ≢ 3 → Is f b.place KeyType → KeyFault afi b f
  len_lacks : (kind : ℕ) (d : Bounded) → (kind ≡ 2) ⊎ (kind ≡ 3) → Passes b (kind ∷ []) d → Lacks 1 d f → KeyFault afi b f
  len_past : (kind len : ℕ) (d e : Bounded) → (kind ≡ 2) ⊎ (kind ≡ 3) → Passes b (kind ∷ []) d → Passes d (len ∷ []) e →
      e.within < len → Is f d.place LengthTooSmall → KeyFault afi b f
  in_fields : (kind len : ℕ) (d e : Bounded) → Passes b (kind ∷ []) d → Passes d (len ∷ []) e → len ≤ e.within →
      KeyFieldsFault afi kind (bounded len e) f → KeyFault afi b f

-- the fields of a route, by its type
pub data FieldsFault (afi : Afi) (kind : ℕ) (b : Bounded) (f : RouteFault) : Type 0 where
  intra : kind ≡ 1 → RdThen OriginatorFault b f → FieldsFault afi kind b f
  inter_or_selective : KeyFieldsFault afi kind b f → FieldsFault afi kind b f
  leaf : kind ≡ 4 → Then key (IsKey afi) (KeyFault afi) OriginatorFault b f → FieldsFault afi kind b f
  active : kind ≡ 5 → RdThen (FlowFault afi) b f → FieldsFault afi kind b f
  join : (kind ≡ 6) ⊎ (kind ≡ 7) → RdThen (λ d g. AsThen (FlowFault afi) d g) b f → FieldsFault afi kind b f
  other : IsOther kind → length b.left < b.within → Is f b.place Short → FieldsFault afi kind b f

-- the first fault of octets: the type, the length, or a field within the length
pub data FirstFault (afi : Afi) (bytes : List ℕ) (f : RouteFault) : Type 0 where
  kind_short : bytes ≡ [] → Is f 0 Short → FirstFault afi bytes f
  len_short : (kind : ℕ) → bytes ≡ kind ∷ [] → Is f 1 Short → FirstFault afi bytes f
  in_fields : (kind len : ℕ) (rest : List ℕ) → bytes ≡ kind ∷ (len ∷ rest) →
      FieldsFault afi kind (record { left = take len rest; place = 2; within = len }) f → FirstFault afi bytes f
