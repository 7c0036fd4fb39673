-- Reading a route from left to right, with the first fault that is met.
use Rattle.std.specs.Prelude.{◌≡◌, ℕ, ◌+◌, ◌-◌, List, [], ◌∷◌, length, take, drop, Option, Some, None, Result}
use Rattle.std.specs.Prelude.{Ok, Err, nat_lt, nat_le, ◌==◌, ◌&&◌, ◌||◌, Bool, true, slice_index, if◌then◌else◌}
use Rattle.std.specs.Int.{w32, from_be_bytes}
use Rattle.mv_base.specs.Cursor.{◌>>=◌, checked}
use Rattle.mv_base.specs.declared.addr.Addr.{Addr}
use Rattle.mv_base.specs.declared.addr.Addr.TheVariants.{V4, V6}
use Rattle.mv_base.specs.declared.rd.Rd.{Rd}
use Rattle.bgp_values.specs.declared.mvpn_nlri.fault.RouteFault.{RouteFault}
use Rattle.bgp_values.specs.declared.mvpn_nlri.fault.RouteReason.{RouteReason}
use Rattle.bgp_values.specs.declared.mvpn_nlri.fault.RouteReason.TheVariants.{Short, LengthTooSmall, LengthTooLarge, Wildcard}
use Rattle.bgp_values.specs.declared.mvpn_nlri.fault.RouteReason.TheVariants.{OriginatorLength, KeyType, GroupNotMulticast}
use Rattle.bgp_values.specs.declared.mvpn_nlri.route.Afi.{Afi}
use Rattle.bgp_values.specs.declared.mvpn_nlri.route.Afi.TheVariants.{Ipv4, Ipv6}
use Rattle.bgp_values.specs.declared.mvpn_nlri.route.LeafKey.{LeafKey}
use Rattle.bgp_values.specs.declared.mvpn_nlri.route.LeafKey.TheVariants as keys
use Rattle.bgp_values.specs.declared.mvpn_nlri.route.Route.{Route}
use Rattle.bgp_values.specs.declared.mvpn_nlri.route.Route.TheVariants.{Intra, Inter, Selective, Leaf, Active, SharedJoin, SourceJoin, Other}
use Rattle.bgp_values.specs.declared.mvpn_nlri.address.Role.{Role}
use Rattle.bgp_values.specs.declared.mvpn_nlri.address.Role.TheVariants.{Source, Group}
use Rattle.bgp_values.specs.mvpn_nlri.Bounds.{Bounded, bounded}
use Rattle.bgp_values.specs.mvpn_nlri.FirstFault.{bits, addr_len, wrong_len}

-- reading a value of that type
abbrev pub Read : Type 0 → Type 0
Read A = Result (A × Bounded) RouteFault

-- What a call answered, and the octets that it left after a value, is what reading gives.
abbrev pub Gives : {X Y : Type 0} → (X → Y) → Result X RouteFault → Bounded → Read Y → Type 0
Gives view (Ok x) new read = read ≡ Ok (view x, new)
Gives view (Err e) new read = read ≡ Err e

-- a fault at that place
abbrev pub fault : ℕ → RouteReason → RouteFault
fault place reason = record { place = place; reason = reason }

-- so many octets
abbrev pub octets_within : ℕ → Bounded → Read (List ℕ)
octets_within n b =
    if nat_lt b.within n then Err (fault b.place LengthTooSmall) else
    if nat_lt (length b.left) n then Err (fault b.place Short) else
    Ok (take n b.left, record { left = drop n b.left; place = b.place + n; within = b.within - n })

-- a value in the place of the one that was read
abbrev pub turned : {A B : Type 0} → (A → B) → (Bounded → Read A) → Bounded → Read B
turned f read b = read b >>= λ x. Ok (f x.0, x.1)

-- one value, and another after it
abbrev pub both : {A B : Type 0} → (Bounded → Read A) → (Bounded → Read B) → Bounded → Read (A × B)
both first second b = first b >>= λ x. second x.1 >>= λ y. Ok ((x.0, y.0), y.1)

-- nothing, where the length leaves nothing
abbrev pub end_at : Bounded → Result (Unit {0}) RouteFault
end_at b = checked (b.within == 0) (fault b.place LengthTooLarge) tt

-- a value after which the length leaves nothing
abbrev pub closed : {A : Type 0} → (Bounded → Read A) → Bounded → Read A
closed read b = read b >>= λ x. end_at x.1 >>= λ _. Ok x

-- one octet
unfoldable pub octet_at : Bounded → Read ℕ
octet_at b = turned (λ octets. slice_index octets 0) (octets_within 1) b

-- a Route Distinguisher
unfoldable pub rd_at : Bounded → Read Rd
rd_at b = turned (λ octets. record { 0 = octets }) (octets_within 8) b

-- a Source AS
unfoldable pub as_at : Bounded → Read ℕ
as_at b = turned (λ octets. from_be_bytes w32 octets) (octets_within 4) b

-- whether an address is multicast
abbrev pub is_multicast : Addr → Bool
is_multicast (V4 octets) = nat_le 224 (slice_index octets 0) && nat_le (slice_index octets 0) 239
is_multicast (V6 octets) = slice_index octets 0 == 255

-- whether an address may be a source, or a group
abbrev pub is_part : Role → Addr → Bool
is_part Source addr = true
is_part Group addr = is_multicast addr

-- the address of those octets
abbrev pub addr_of : Afi → List ℕ → Addr
addr_of Ipv4 octets = V4 octets
addr_of Ipv6 octets = V6 octets

-- the octets of a source or group
unfoldable pub plain_at : Afi → Role → Bounded → Read Addr
plain_at afi role b = do
  octets ← octets_within (addr_len afi) b
  checked (is_part role (addr_of afi octets.0)) (fault b.place GroupNotMulticast) (addr_of afi octets.0, octets.1)

-- a source or group, or the wildcard
unfoldable pub any_or_addr_at : Afi → Role → Bounded → Read (Option Addr)
any_or_addr_at afi role b = do
  len ← octet_at b
  if len.0 == 0 then Ok (None, len.1) else
      if len.0 == bits afi then turned Some (plain_at afi role) len.1 else
      Err (fault b.place (wrong_len role))

-- the address, where it is not the wildcard
abbrev pub no_wildcard : ℕ → Option Addr × Bounded → Read Addr
no_wildcard place (Some addr, b) = Ok (addr, b)
no_wildcard place (None, b) = Err (fault place Wildcard)

-- a source or group
unfoldable pub addr_at : Afi → Role → Bounded → Read Addr
addr_at afi role b = any_or_addr_at afi role b >>= no_wildcard b.place

-- the originator, which is all that the length leaves
unfoldable pub originator_at : Bounded → Read Addr
originator_at b = do
  octets ← octets_within b.within b
  if b.within == 4 then Ok (V4 octets.0, octets.1) else
      if b.within == 16 then Ok (V6 octets.0, octets.1) else
      Err (fault b.place OriginatorLength)

-- source and group, to the end
unfoldable pub flow_at : Afi → Bounded → Read (Addr × Addr)
flow_at afi b = both (addr_at afi Source) (closed (addr_at afi Group)) b

abbrev pub inter_of : Rd × ℕ → LeafKey
inter_of x = keys.Inter x.0 x.1

abbrev pub selective_of : Rd × (Option Addr × (Option Addr × Addr)) → LeafKey
selective_of x = keys.Selective x.0 x.1.0 x.1.1.0 x.1.1.1

-- the fields of an Inter-AS I-PMSI A-D route
unfoldable pub inter_at : Bounded → Read LeafKey
inter_at b = turned inter_of (both rd_at (closed as_at)) b

-- the fields of an S-PMSI A-D route
unfoldable pub selective_at : Afi → Bounded → Read LeafKey
selective_at afi b = turned selective_of (both rd_at (both (any_or_addr_at afi Source) (both (any_or_addr_at afi Group) originator_at))) b

-- the fields of a key of that type
abbrev pub key_fields_at : Afi → ℕ → Bounded → Read LeafKey
key_fields_at afi kind b = if kind == 2 then inter_at b else selective_at afi b

-- the type of a key
unfoldable pub key_kind_at : Bounded → Read ℕ
key_kind_at b = do
  kind ← octet_at b
  checked ((kind.0 == 2) || (kind.0 == 3)) (fault b.place KeyType) kind

-- the length of a key, which the enclosing length has to leave
unfoldable pub key_len_at : Bounded → Read ℕ
key_len_at b = do
  len ← octet_at b
  checked (nat_le len.0 len.1.within) (fault b.place LengthTooSmall) len

-- a key, whose own length bounds its fields
unfoldable pub key_at : Afi → Bounded → Read LeafKey
key_at afi b = do
  kind ← key_kind_at b
  len ← key_len_at kind.1
  k ← key_fields_at afi kind.0 (bounded len.0 len.1)
  Ok (k.0, bounded (len.1.within - len.0) k.1)

-- the route that has the fields of a key
abbrev pub own_route : LeafKey → Route
own_route (keys.Inter rd source_as) = Inter rd source_as
own_route (keys.Selective rd source group originator) = Selective rd source group originator

abbrev pub intra_of : Rd × Addr → Route
intra_of x = Intra x.0 x.1

abbrev pub leaf_of : LeafKey × Addr → Route
leaf_of x = Leaf x.0 x.1

abbrev pub active_of : Rd × (Addr × Addr) → Route
active_of x = Active x.0 x.1.0 x.1.1

abbrev pub shared_of : Rd × (ℕ × (Addr × Addr)) → Route
shared_of x = SharedJoin x.0 x.1.0 x.1.1.0 x.1.1.1

abbrev pub source_of : Rd × (ℕ × (Addr × Addr)) → Route
source_of x = SourceJoin x.0 x.1.0 x.1.1.0 x.1.1.1

-- the fields of each type
unfoldable pub intra_at : Bounded → Read Route
intra_at b = turned intra_of (both rd_at originator_at) b

unfoldable pub leaf_at : Afi → Bounded → Read Route
leaf_at afi b = turned leaf_of (both (key_at afi) originator_at) b

unfoldable pub active_at : Afi → Bounded → Read Route
active_at afi b = turned active_of (both rd_at (flow_at afi)) b

-- the fields of a C-multicast route
unfoldable pub join_at : Afi → Bounded → Read (Rd × (ℕ × (Addr × Addr)))
join_at afi b = both rd_at (both as_at (flow_at afi)) b

-- the octets of a route of another type
unfoldable pub other_at : ℕ → Bounded → Read Route
other_at kind b = turned (λ octets. Other kind octets) (octets_within b.within) b

-- the fields of a route of that type
unfoldable pub fields_at : Afi → ℕ → Bounded → Read Route
fields_at afi kind b =
    if kind == 1 then intra_at b else
    if kind == 2 then turned own_route inter_at b else
    if kind == 3 then turned own_route (selective_at afi) b else
    if kind == 4 then leaf_at afi b else
    if kind == 5 then active_at afi b else
    if kind == 6 then turned shared_of (join_at afi) b else
    if kind == 7 then turned source_of (join_at afi) b else
    other_at kind b

-- the route at the front of octets, and how many of them it has
unfoldable pub route_at : Afi → List ℕ → Result (Route × ℕ) RouteFault
route_at afi [] = Err (fault 0 Short)
route_at afi (kind ∷ []) = Err (fault 1 Short)
route_at afi (kind ∷ len ∷ rest) = fields_at afi kind (record { left = take len rest; place = 2; within = len }) >>= λ x. Ok (x.0, len + 2)
