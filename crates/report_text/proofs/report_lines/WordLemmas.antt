-- What is written of a protocol, a fault, a reason and octets is read as these.
use Rattle.std.proofs.Common.{◌≡◌, ℕ, ◌/◌, ◌%◌, slice_index, Bool, true, false, ◌&&◌, List, [], ◌∷◌, refl, Some, nat_eq}
use Rattle.std.specs.Prelude.{codes}
use Rattle.std.specs.Cmp.Lexicographic.{pointwise}
use Rattle.hex.specs.Hex.{IsBytes, encode_with, encode_lower, lower_digits}
use Rattle.hex.proofs.HexLemmas.{decode_of-encode_lower}
use Rattle.scenario_defs.specs.declared.event.Kind.{Kind}
use Rattle.scenario_defs.specs.declared.event.Kind.TheVariants as kinds
use Rattle.scenario_defs.specs.declared.report.FaultWord.{FaultWord}
use Rattle.scenario_defs.specs.declared.report.FaultWord.TheVariants as faults
use Rattle.scenario_defs.specs.Text.{kind_word, fault_word, hex_text}
use Rattle.report_text.specs.report_lines.Words.{kind_of, fault_word_of, packet_word_of}
use Rattle.report_text.specs.report_lines.Fields.{octets_of}

pub kind_back : (kind : Kind) → kind_of (kind_word kind) ≡ Some kind
unfolding kind_of
kind_back kinds.Bgp = refl
kind_back kinds.Ldp = refl

pub fault_word_back : (word : FaultWord) → fault_word_of (fault_word word) ≡ Some word
unfolding fault_word_of packet_word_of
fault_word_back faults.Short = refl
fault_word_back faults.Version = refl
fault_word_back faults.PimType = refl
fault_word_back faults.Checksum = refl
fault_word_back faults.Family = refl
fault_word_back faults.Encoding = refl
fault_word_back faults.MaskLength = refl
fault_word_back faults.Flags = refl
fault_word_back faults.NotMulticast = refl
fault_word_back faults.Trailing = refl
fault_word_back faults.HeaderLength = refl
fault_word_back faults.TotalLength = refl
fault_word_back faults.LinkLocal = refl

no_hyphen : (second : ℕ) (rest : List ℕ) (same : Bool) → (same && pointwise nat_eq (second ∷ rest) []) ≡ false
no_hyphen second rest true = refl
no_hyphen second rest false = refl

digits_are_no_hyphen : (octet : ℕ) (octets : List ℕ) → pointwise nat_eq (encode_lower (octet ∷ octets)) (codes "-") ≡ false
unfolding encode_with
digits_are_no_hyphen octet octets =
    no_hyphen (slice_index lower_digits (octet % 16)) (encode_with lower_digits octets) (nat_eq (slice_index lower_digits (octet / 16)) 45)

pub octets_back : (octets : List ℕ) → IsBytes octets → octets_of (hex_text octets) ≡ Some octets
octets_back [] bytes = refl
octets_back (octet ∷ octets) bytes = rw (digits_are_no_hyphen octet octets, decode_of-encode_lower (octet ∷ octets) bytes) refl
