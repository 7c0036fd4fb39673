-- Reading a Join/Prune message from left to right, with the first fault that is met.
use Rattle.std.specs.Prelude.{ℕ, ◌+◌, ◌-◌, ◌/◌, ◌%◌, List, [], ◌∷◌, length, take, drop, nat_lt, Bool}
use Rattle.std.specs.Prelude.{Option, Some, None, Result, Ok, Err, ◌==◌, slice_index, ⊤, if◌then◌else◌}
use Rattle.std.specs.Int.{w16, from_be_bytes}
use Rattle.mv_base.specs.Cursor.{◌>>=◌, checked}
use Rattle.mv_base.specs.declared.addr.Addr.{Addr}
use Rattle.mv_base.specs.declared.addr.Addr.TheVariants.{V4, V6}
use Rattle.pim_joinprune.specs.declared.family.Family.{Family}
use Rattle.pim_joinprune.specs.declared.fault.PimFault.{PimFault}
use Rattle.pim_joinprune.specs.declared.fault.PimFault.TheVariants as faults
use Rattle.pim_joinprune.specs.declared.source.SourceKind.{SourceKind}
use Rattle.pim_joinprune.specs.declared.source.SourceKind.TheVariants as kinds
use Rattle.pim_joinprune.specs.declared.source.JpSource.{JpSource}
use Rattle.pim_joinprune.specs.declared.group.Group.{Group}
use Rattle.pim_joinprune.specs.declared.message.JoinPrune.{JoinPrune}
use Rattle.pim_joinprune.specs.Fields.{Read, all_at}
use Rattle.pim_joinprune.specs.Families.{family_octet, addr_len, mask_len, family_of, addr_of, named_family}
use Rattle.pim_joinprune.specs.Checksums.{sum_of}

abbrev pub octet_at : List ℕ → Read ℕ
octet_at [] = Err (0, faults.Short)
octet_at (octet ∷ rest) = Ok (octet, rest)

-- an octet that has one value alone
unfoldable pub known_at : ℕ → PimFault → List ℕ → Read ℕ
known_at value fault octets = do
  octet ← octet_at octets
  checked (octet.0 == value) (length octets, fault) octet

abbrev pub number_at : List ℕ → Read ℕ
number_at [] = Err (0, faults.Short)
number_at (high ∷ []) = Err (1, faults.Short)
number_at (high ∷ low ∷ rest) = Ok (from_be_bytes w16 (high ∷ low ∷ []), rest)

-- so many octets
abbrev pub octets_at : ℕ → List ℕ → Read (List ℕ)
octets_at n octets = if nat_lt (length octets) n then Err (length octets, faults.Short) else Ok (take n octets, drop n octets)

-- an address of that family
unfoldable pub address_at : Family → List ℕ → Read Addr
address_at family octets = do
  addr ← octets_at (addr_len family) octets
  Ok (addr_of family addr.0, addr.1)

abbrev pub family_or : ℕ × PimFault → Option Family → List ℕ → Read Family
family_or fault (Some family) rest = Ok (family, rest)
family_or fault None rest = Err fault

unfoldable pub family_at : List ℕ → Read Family
family_at octets = do
  family ← octet_at octets
  family_or (length octets, faults.Family) (named_family family.0) family.1

unfoldable pub unicast_at : List ℕ → Read Addr
unicast_at octets = do
  family ← family_at octets
  encoding ← known_at 0 faults.Encoding family.1
  address_at family.0 encoding.1

-- what the low two flags, W and R, say
abbrev pub kind_of : ℕ → Option SourceKind
kind_of flags =
    if flags % 4 == 0 then Some kinds.Sg else
    if flags % 4 == 1 then Some kinds.Rpt else
    if flags % 4 == 2 then None else Some kinds.Star

abbrev pub kind_or : ℕ × PimFault → Option SourceKind → List ℕ → Read SourceKind
kind_or fault (Some kind) rest = Ok (kind, rest)
kind_or fault None rest = Err fault

unfoldable pub kind_at : List ℕ → Read SourceKind
kind_at octets = do
  flags ← octet_at octets
  kind_or (length octets, faults.Flags) (kind_of flags.0) flags.1

unfoldable pub source_at : Family → List ℕ → Read JpSource
source_at family octets = do
  same ← known_at (family_octet family) faults.Family octets
  encoding ← known_at 0 faults.Encoding same.1
  kind ← kind_at encoding.1
  mask ← known_at (mask_len family) faults.MaskLength kind.1
  addr ← address_at family mask.1
  Ok (record { kind = kind.0; addr = addr.0 }, addr.1)

-- whether the address is multicast
abbrev pub is_multicast : Addr → Bool
is_multicast (V4 octets) = slice_index octets 0 / 16 == 14
is_multicast (V6 octets) = slice_index octets 0 == 255

-- a multicast address
unfoldable pub multicast_at : Family → List ℕ → Read Addr
multicast_at family octets = do
  addr ← address_at family octets
  checked (is_multicast addr.0) (length octets, faults.NotMulticast) addr

unfoldable pub group_address_at : Family → List ℕ → Read Addr
group_address_at family octets = do
  same ← known_at (family_octet family) faults.Family octets
  encoding ← known_at 0 faults.Encoding same.1
  flags ← octet_at encoding.1
  mask ← known_at (mask_len family) faults.MaskLength flags.1
  multicast_at family mask.1

unfoldable pub group_at : Family → List ℕ → Read Group
group_at family octets = do
  group ← group_address_at family octets
  joined ← number_at group.1
  pruned ← number_at joined.1
  joins ← all_at (source_at family) joined.0 pruned.1
  prunes ← all_at (source_at family) pruned.0 joins.1
  Ok (record { group = group.0; joins = joins.0; prunes = prunes.0 }, prunes.1)

-- the fields after the checksum
unfoldable pub fields_at : List ℕ → Read JoinPrune
fields_at octets = do
  neighbour ← unicast_at octets
  reserved ← octet_at neighbour.1
  count ← octet_at reserved.1
  holdtime ← number_at count.1
  groups ← all_at (group_at (family_of neighbour.0)) count.0 holdtime.1
  Ok (record { neighbour = neighbour.0; holdtime = holdtime.0; groups = groups.0 }, groups.1)

-- the same, where no octets stand after them
unfoldable pub whole_of : List ℕ → Result JoinPrune (ℕ × PimFault)
whole_of octets = do
  message ← fields_at octets
  checked (length message.1 == 0) (length message.1, faults.Trailing) message.0

-- version 2 and type 3, in a message of so many octets
abbrev pub typed : ℕ → ℕ → Result ⊤ (ℕ × PimFault)
typed first len =
    if first / 16 == 2 then checked (first % 16 == 3) (len, faults.PimType) tt else Err (len, faults.Version)

-- the checksum is that of the message
abbrev pub summed : ℕ → ℕ → ℕ → List ℕ → Result ⊤ (ℕ × PimFault)
summed first reserved sum rest =
    checked (sum_of first reserved rest == sum) (2 + length rest, faults.Checksum) tt

abbrev pub headed : ℕ → ℕ → ℕ → List ℕ → Result JoinPrune (ℕ × PimFault)
headed first reserved sum rest = do
  version ← typed first (4 + length rest)
  checksum ← summed first reserved sum rest
  whole_of rest

unfoldable pub message_of : List ℕ → Result JoinPrune (ℕ × PimFault)
message_of [] = Err (0, faults.Short)
message_of (a ∷ []) = Err (0, faults.Short)
message_of (a ∷ b ∷ []) = Err (0, faults.Short)
message_of (a ∷ b ∷ c ∷ []) = Err (0, faults.Short)
message_of (first ∷ reserved ∷ high ∷ low ∷ rest) = headed first reserved (from_be_bytes w16 (high ∷ low ∷ [])) rest

-- the place in an input of so many octets
abbrev pub placed : {A : Type 0} → ℕ → Result A (ℕ × PimFault) → Result A (ℕ × PimFault)
placed len (Ok x) = Ok x
placed len (Err f) = Err (len - f.0, f.1)

-- the message that the octets spell, or their first fault and its place
abbrev pub decoded : List ℕ → Result JoinPrune (ℕ × PimFault)
decoded octets = placed (length octets) (message_of octets)
