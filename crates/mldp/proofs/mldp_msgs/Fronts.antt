-- Nothing stands at the front of no octets, and tests on the way to what stands there.
use Rattle.std.proofs.Common.{◌≡◌, ℕ, ◌<◌, Bool, true, false, cond, not, List, [], ◌∷◌, length, refl, sym, subst, arith}
use Rattle.std.proofs.lemmas.List.{take_rest, length-drop}
use Rattle.mv_base.specs.framing.Cut.Front.{more}
use Rattle.mv_base.proofs.framing.Loops.{tail_of}
use Rattle.mldp.specs.mldp_msgs.Reading.{seen, message_at, message_front, pdu_front}

pub no_message : message_front [] ≡ more
no_message = refl

pub front_seen : (xs : List ℕ) → 0 < length xs → message_front xs ≡ seen (message_at xs)
front_seen [] pos = absurd (omega arith)
front_seen (b ∷ bs) pos = refl

pub tail_more : (octets : List ℕ) (place : ℕ) → place < length octets → 0 < length (tail_of octets place)
tail_more octets place lt = rw (take_rest octets place) (omega (arith, length-drop place octets))

pub no_pdu : pdu_front [] ≡ more
unfolding pdu_front
no_pdu = refl

-- What a test chose meets what is said of it, where each side does.
pub meets : {X : Type 0} (P : X → Type 0) (b : Bool) (x y z : X) → cond b x y ≡ z → (b ≡ true → P x) → (b ≡ false → y ≡ z → P z) → P z
meets P true x y z e here on = subst P e (here refl)
meets P false x y z e here on = on refl e

-- Equal faults at equal places.
pub fault_is : {E F : Type 0} (answer : ℕ → E → F) (p q : ℕ) (d e : E) → p ≡ q → d ≡ e → answer q e ≡ answer p d
fault_is answer p q d e at is = λ i. answer (sym at i) (sym is i)

pub not_true : (b : Bool) → not b ≡ true → b ≡ false
not_true true e = absurd cc
not_true false e = refl

pub not_false : (b : Bool) → not b ≡ false → b ≡ true
not_false true e = refl
not_false false e = absurd cc
