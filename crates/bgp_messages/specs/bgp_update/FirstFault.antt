-- The first fault of a message: whole fields that meet their conditions stand before its place, and the next one fails.
use Rattle.std.specs.Prelude.{◌≡◌, ◌≢◌, ◌⊎◌, ◌+◌, ◌<◌, ◌≤◌, ◌^◌, ℕ, List, [], ◌++◌, length, take}
use Rattle.std.specs.Int.{w16, to_be_bytes}
use Rattle.bgp_messages.specs.declared.bgp_attributes.fault.StreamFault.{StreamFault}
use Rattle.bgp_messages.specs.declared.bgp_attributes.fault.StreamFault.TheVariants as faults
use Rattle.bgp_messages.specs.declared.bgp_attributes.update.Message.{Message}
use Rattle.bgp_messages.specs.bgp_attributes.FirstFault.{AttributesFault}
use Rattle.bgp_messages.specs.bgp_update.Spelling.{marker, header}

-- after the header of an UPDATE, which has at least 4 octets there; the offset counts from the first of these
pub data BodyFault (body : List ℕ) (offset : ℕ) (e : StreamFault) : Type 0 where
  -- the withdrawn routes pass the message
  withdrawn_long : (len : ℕ) (rest : List ℕ) → len < 2 ^ 16 → body ≡ to_be_bytes w16 len ++ rest → length rest < len
      → offset ≡ 0 → e ≡ faults.AttributeList → BodyFault body offset e
  -- the length of the attributes doesn't fit
  length_cut : (withdrawn rest : List ℕ) → length withdrawn < 2 ^ 16 →
      body ≡ to_be_bytes w16 (length withdrawn) ++ (withdrawn ++ rest) → length rest < 2
      → offset ≡ 2 + length withdrawn → e ≡ faults.AttributeList → BodyFault body offset e
  -- the attributes pass the message
  attributes_long : (withdrawn : List ℕ) (len : ℕ) (rest : List ℕ) → length withdrawn < 2 ^ 16 → len < 2 ^ 16
      → body ≡ to_be_bytes w16 (length withdrawn) ++ (withdrawn ++ (to_be_bytes w16 len ++ rest)) → length rest < len
      → offset ≡ 2 + length withdrawn → e ≡ faults.AttributeList → BodyFault body offset e
  -- the attributes fail at their place
  in_attributes : (withdrawn list rest : List ℕ) (place : ℕ) → length withdrawn < 2 ^ 16 → length list < 2 ^ 16
      → body ≡ to_be_bytes w16 (length withdrawn) ++ (withdrawn ++ (to_be_bytes w16 (length list) ++ (list ++ rest))) →
      AttributesFault list place e
      → offset ≡ 4 + length withdrawn + place → BodyFault body offset e

-- the octets of a message, of which the 19 of the header are there
pub data MessageFault (octets : List ℕ) (offset : ℕ) (e : StreamFault) : Type 0 where
  wrong_marker : 19 ≤ length octets → take 16 octets ≢ marker
      → offset ≡ 0 → e ≡ faults.Marker → MessageFault octets offset e
  wrong_length : (len kind : ℕ) (rest : List ℕ) → len < 2 ^ 16 → octets ≡ header len kind ++ rest → (len < 19) ⊎ (4096 < len)
      → offset ≡ 16 → e ≡ faults.MessageLength → MessageFault octets offset e
  wrong_type : (len kind : ℕ) (rest : List ℕ) → 19 ≤ len → len ≤ 4096 → octets ≡ header len kind ++ rest → (kind ≡ 0) ⊎ (5 < kind)
      → offset ≡ 18 → e ≡ faults.MessageType → MessageFault octets offset e
  -- an UPDATE has two lengths, and a KEEPALIVE is a header alone
  length_by_type : (len kind : ℕ) (rest : List ℕ) → 19 ≤ len → len ≤ 4096 → octets ≡ header len kind ++ rest →
      ((kind ≡ 2) × (len < 23)) ⊎ ((kind ≡ 4) × (len ≢ 19))
      → offset ≡ 16 → e ≡ faults.MessageLength → MessageFault octets offset e
  in_body : (body rest : List ℕ) (place : ℕ) → 23 ≤ 19 + length body → 19 + length body ≤ 4096 →
      octets ≡ header (19 + length body) 2 ++ (body ++ rest) → BodyFault body place e
      → offset ≡ 19 + place → MessageFault octets offset e

-- the message at the front of a stream fails, and no message stands in it before the fault
abbrev pub UnitFault : List ℕ → List Message → ℕ → StreamFault → Type 0
UnitFault octets ms offset e = (ms ≡ []) × MessageFault octets offset e
