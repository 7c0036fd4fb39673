-- Reading what stands at the front of octets, with the first fault that is met.
use Rattle.std.specs.Prelude.{◌+◌, ◌-◌, ◌==◌, ◌&&◌, not, nat_lt, nat_le, if◌then◌else◌, ℕ, Bool}
use Rattle.std.specs.Prelude.{true, List, [], ◌∷◌, length, take, drop, slice_index, Result, Ok, Err}
use Rattle.std.specs.List.{list_all}
use Rattle.std.specs.Int.{w16, from_be_bytes}
use Rattle.mv_base.specs.framing.Cut.{Front}
use Rattle.mv_base.specs.framing.Cut.Front.{more, whole, bad}
use Rattle.bgp_messages.specs.declared.bgp_attributes.update.Update.{Update}
use Rattle.bgp_messages.specs.declared.bgp_attributes.update.Message.{Message}
use Rattle.bgp_messages.specs.declared.bgp_attributes.update.Message.TheVariants as messages
use Rattle.bgp_messages.specs.declared.bgp_attributes.fault.StreamFault.{StreamFault}
use Rattle.bgp_messages.specs.declared.bgp_attributes.fault.StreamFault.TheVariants as faults
use Rattle.bgp_messages.specs.bgp_attributes.Reading.{update_at}

abbrev pub is_marker : List ℕ → Bool
is_marker octets = list_all (λ octet. octet == 255) octets

abbrev pub is_length : ℕ → Bool
is_length len = nat_le 19 len && nat_le len 4096

abbrev pub is_type : ℕ → Bool
is_type kind = nat_le 1 kind && nat_le kind 5

-- an UPDATE has two lengths, and a KEEPALIVE is a header alone
abbrev pub fits_type : ℕ → ℕ → Bool
fits_type kind len = if kind == 2 then nat_le 23 len else if kind == 4 then len == 19 else true

-- a fault of octets after so many
abbrev pub thereafter : {A : Type 0} → ℕ → Result A (ℕ × StreamFault) → Result A (ℕ × StreamFault)
thereafter before (Ok x) = Ok x
thereafter before (Err f) = Err (before + f.0, f.1)

-- the attributes, after their length
unfoldable pub list_at : List ℕ → Result Update (ℕ × StreamFault)
list_at [] = Err (0, faults.AttributeList)
list_at (high ∷ []) = Err (0, faults.AttributeList)
list_at (high ∷ low ∷ rest) =
    let len = from_be_bytes w16 (high ∷ low ∷ []) in
    if nat_lt (length rest) len then Err (0, faults.AttributeList) else thereafter 2 (update_at (take len rest))

-- the attributes, after the withdrawn routes and the length of these
unfoldable pub body_at : List ℕ → Result Update (ℕ × StreamFault)
body_at [] = Err (0, faults.AttributeList)
body_at (high ∷ []) = Err (0, faults.AttributeList)
body_at (high ∷ low ∷ rest) =
    let len = from_be_bytes w16 (high ∷ low ∷ []) in
    if nat_lt (length rest) len then Err (0, faults.AttributeList) else thereafter (2 + len) (list_at (drop len rest))

abbrev pub updated : Result Update (ℕ × StreamFault) → Result Message (ℕ × StreamFault)
updated (Ok update) = Ok (messages.Update update)
updated (Err f) = Err f

-- the message of that type with that body
abbrev pub contents : ℕ → List ℕ → Result Message (ℕ × StreamFault)
contents kind body = if not (kind == 2) then Ok (messages.Other kind) else updated (body_at body)

-- a whole message of so many octets, or a fault after its header
abbrev pub message_of : ℕ → Result Message (ℕ × StreamFault) → Front Message StreamFault
message_of len (Ok message) = whole len (message ∷ [])
message_of len (Err f) = bad [] (19 + f.0) f.1

-- the message of that length and type
abbrev pub message_by : ℕ → ℕ → List ℕ → Front Message StreamFault
message_by len kind octets =
    if not (is_length len) then bad [] 16 faults.MessageLength else
    if not (is_type kind) then bad [] 18 faults.MessageType else
    if not (fits_type kind len) then bad [] 16 faults.MessageLength else
    if nat_lt (length octets) len then more else
    message_of len (contents kind (take (len - 19) (drop 19 octets)))

unfoldable pub message_front : List ℕ → Front Message StreamFault
message_front octets =
    if nat_lt (length octets) 19 then more else
    if not (is_marker (take 16 octets)) then bad [] 0 faults.Marker else
    message_by (from_be_bytes w16 (take 2 (drop 16 octets))) (slice_index octets 18) octets
