-- The octets of messages: each part is octets, and how many it has.
use Rattle.std.proofs.Common.{◌≡◌, ℕ, zero, suc, ◌+◌, ◌-◌, ◌*◌, ◌/◌, ◌%◌, ◌<◌, ◌≤◌, Bool, true, false, cond, ltb, inl, inr, List, [], ◌∷◌, ◌++◌, length, replicate, refl, arith}
use Rattle.std.specs.List.{AllByRecursion}
use Rattle.std.specs.Int.{w16, w32, to_be_bytes}
use Rattle.std.specs.Int.Bits.{bit_or}
use Rattle.std.proofs.lemmas.Bool.{cases_lt, ltb-false}
use Rattle.std.proofs.lemmas.List.{length-append, get_or_append_left, get_or-append_right}
use Rattle.mv_base.specs.Address.{addr_octets}
use Rattle.mv_base.specs.Octets.{IsOctets}
use Rattle.mv_base.specs.declared.addr.Addr.{Addr}
use Rattle.mv_base.specs.declared.addr.Addr.TheVariants.{V4, V6}
use Rattle.mv_base.specs.declared.route_targets.communities.ExtComm.{ExtComm}
use Rattle.bgp_messages.specs.bgp_update.Written.{attribute_head, attribute, comms_octets}
use Rattle.network_laws.specs.Sound.{IsHost, AreEight}

-- ---- lists of octets

pub no_octets : IsOctets []
no_octets i = omega arith

pub octets_cons : (x : ℕ) (xs : List ℕ) → x < 256 → IsOctets xs → IsOctets (x ∷ xs)
octets_cons x xs lt fits zero = lt
octets_cons x xs lt fits (suc i) = fits i

pub octets_append : (a b : List ℕ) → IsOctets a → IsOctets b → IsOctets (a ++ b)
octets_append a b p q i =
    elim (cases_lt i (length a)) [
      | inl lt ↦ rw (get_or_append_left a b 0 i lt) (p i)
      | inr le ↦ rw (get_or-append_right a b (length a) i 0 refl le) (q (i - length a))
    ]

pub one_octet : (x : ℕ) → x < 256 → IsOctets (x ∷ [])
one_octet x lt = octets_cons x [] lt no_octets

pub repeated_octets : (n x : ℕ) → x < 256 → IsOctets (replicate n x)
repeated_octets zero x lt i = omega arith
repeated_octets (suc n) x lt zero = lt
repeated_octets (suc n) x lt (suc i) = repeated_octets n x lt i

pub octets_of_16 : (n : ℕ) → IsOctets (to_be_bytes w16 n)
octets_of_16 n = octets_cons (n / 256 % 256) (n % 256 ∷ []) (omega arith) (one_octet (n % 256) (omega arith))

pub octets_of_32 : (n : ℕ) → IsOctets (to_be_bytes w32 n)
octets_of_32 n =
    octets_cons (n / 16777216 % 256) (n / 65536 % 256 ∷ n / 256 % 256 ∷ n % 256 ∷ []) (omega arith)
    (octets_cons (n / 65536 % 256) (n / 256 % 256 ∷ n % 256 ∷ []) (omega arith)
    (octets_cons (n / 256 % 256) (n % 256 ∷ []) (omega arith) (one_octet (n % 256) (omega arith))))

-- ---- addresses and communities

pub host_octets : (addr : Addr) → IsHost addr → IsOctets (addr_octets addr)
host_octets (V4 octets) h = h.1
host_octets (V6 octets) h = absurd h

pub host_length : (addr : Addr) → IsHost addr → length (addr_octets addr) ≡ 4
host_length (V4 octets) h = h.0
host_length (V6 octets) h = absurd h

pub comms_fit : (comms : List ExtComm) → AllByRecursion (λ (comm : ExtComm). AreEight comm.0) comms → IsOctets (comms_octets comms)
comms_fit [] h = no_octets
comms_fit (comm ∷ comms) h = octets_append comm.0 (comms_octets comms) h.0.1 (comms_fit comms h.1)

pub comms_length : (comms : List ExtComm) → AllByRecursion (λ (comm : ExtComm). AreEight comm.0) comms
    → length (comms_octets comms) ≡ 8 * length comms
comms_length [] h = refl
comms_length (comm ∷ comms) h = omega (arith, length-append comm.0 (comms_octets comms), h.0.0, comms_length comms h.1)

-- ---- attributes

head_fits : (flags kind len : ℕ) (wide : Bool) → ltb 255 len ≡ wide → flags < 256 → bit_or flags 16 < 256 → kind < 256
    → IsOctets (cond wide (bit_or flags 16 ∷ kind ∷ to_be_bytes w16 len) (flags ∷ kind ∷ len ∷ []))
head_fits flags kind len true e f g k =
    octets_cons (bit_or flags 16) (kind ∷ to_be_bytes w16 len) g (octets_cons kind (to_be_bytes w16 len) k (octets_of_16 len))
head_fits flags kind len false e f g k =
    let le : len ≤ 255 = ltb-false _ _ e in
    octets_cons flags (kind ∷ len ∷ []) f (octets_cons kind (len ∷ []) k (one_octet len (omega (arith, le))))

pub attribute_fits : (flags kind : ℕ) (value : List ℕ) → flags < 256 → bit_or flags 16 < 256 → kind < 256 → IsOctets value
    → IsOctets (attribute flags kind value)
attribute_fits flags kind value f g k fits =
    octets_append (attribute_head flags kind (length value)) value (head_fits flags kind (length value) (ltb 255 (length value)) refl f g k) fits

head_length : (flags kind len : ℕ) (wide : Bool) → length (cond wide (bit_or flags 16 ∷ kind ∷ to_be_bytes w16 len) (flags ∷ kind ∷ len ∷ [])) ≤ 4
head_length flags kind len true = omega arith
head_length flags kind len false = omega arith

pub attribute_length : (flags kind : ℕ) (value : List ℕ) → length (attribute flags kind value) ≤ 4 + length value
attribute_length flags kind value =
    omega (arith, length-append (attribute_head flags kind (length value)) value, head_length flags kind (length value) (ltb 255 (length value)))
