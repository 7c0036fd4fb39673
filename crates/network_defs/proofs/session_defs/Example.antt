-- The worked withdraw.
use Rattle.std.proofs.Common.{◌≡◌, ℕ, zero, suc, List, [], ◌∷◌, ltb, Bool, true, false, Some, refl, arith}
use Rattle.std.specs.List.{list_all}
use Rattle.std.proofs.lemmas.Bool.{and_parts, ltb-true}
use Rattle.mv_base.specs.Octets.{IsOctets}
use Rattle.mv_base.specs.framing.Cut.{cut_at}
use Rattle.mv_base.specs.framing.Feed.{unfed}
use Rattle.mv_base.specs.framing.Parts.{parts_at}
use Rattle.mv_base.specs.framing.Walk.{walk}
use Rattle.label_defs.specs.mldp.mldp_fec.Spelling as fec
use Rattle.label_defs.specs.mldp.mldp_fec.Shape.{tlv_len}
use Rattle.label_defs.specs.mldp.mldp_fec.Reading.{kind_at, root_at, opaque_at, fec_at}
use Rattle.label_defs.specs.mldp.mldp_msgs.Spelling.{IsWritable}
use Rattle.label_defs.specs.mldp.mldp_msgs.Reading.{kind_of, element_of, label_at, value_of, tlv_at, body_of, message_at, pdu_front}
use Rattle.label_defs.proofs.mldp.mldp_msgs.Writings.{pdu_spelled}
use Rattle.scenario_defs.specs.declared.event.Kind.{Kind}
use Rattle.network_defs.proofs.session_defs.Fronts.{stream_of}
use Rattle.network_defs.specs.session_defs.Message.{IsPut, same_direction}
use Rattle.network_defs.specs.session_defs.Message.SessionMessage.{Label}
use Rattle.network_defs.specs.session_defs.Octets.OctetAct.{Move, Call}
use Rattle.network_defs.specs.session_defs.Refined.{IsLine, IsHonest}
use Rattle.network_defs.specs.session_defs.Example.{kept, keeping, upstream, router, put, withdraw, CutInTwo}

writable : IsWritable withdraw
writable = (
  record {
    root = refl;
    fits = omega arith;
    shape =
        (fec.plain 1 (0 ∷ 0 ∷ 0 ∷ 7 ∷ []) ∷ [], ((λ e. omega (arith, e), omega arith, λ e. refl), tt), refl);
    octets = refl;
  },
  (omega arith, omega arith),
)

are_octets : (octets : List ℕ) → list_all (λ octet. ltb octet 256) octets ≡ true → IsOctets octets
are_octets [] e i = omega arith
are_octets (octet ∷ octets) e zero = ltb-true octet 256 (and_parts (ltb octet 256) (list_all (λ x. ltb x 256) octets) e).0
are_octets (octet ∷ octets) e (suc i) = are_octets octets (and_parts (ltb octet 256) (list_all (λ x. ltb x 256) octets) e).1 i

is_put : IsPut put.over.kind put.unit.messages put.unit.octets
is_put = ((withdraw ∷ [], refl, pdu_spelled router 1 withdraw writable refl), are_octets put.unit.octets refl)

honest : IsHonest keeping
honest = record { taken = λ direction message kept carried. tt; called = λ call kept. (is_put, tt) }

line : (kind : Kind) (joined : Bool) → IsLine kind joined unfed [] []
line kind true =
    record { units = []; each = tt; octets = refl; messages = refl; partial = (stream_of kind).framing.empty; taken = refl; sound = refl }
line kind false = (refl, refl)

first_piece : kept (Call tt ∷ Move upstream 20 ∷ []) ≡ Some []
unfolding cut_at pdu_front
first_piece = refl

both_pieces : kept (Call tt ∷ Move upstream 20 ∷ Move upstream 27 ∷ []) ≡ Some (Label withdraw ∷ [])
unfolding cut_at parts_at kind_of element_of label_at value_of tlv_at body_of message_at pdu_front kind_at root_at opaque_at fec_at walk tlv_len
both_pieces = refl

pub cut_in_two : CutInTwo
cut_in_two =
    record { honest = honest; lines = λ direction. line direction.kind (same_direction direction upstream); first = first_piece; both = both_pieces }
