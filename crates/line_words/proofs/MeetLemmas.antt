-- What holds of each value that reading gives.
use Rattle.std.proofs.Common.{◌≡◌, ℕ, ◌<◌, Bool, true, false, cond, List, [], ◌∷◌, Option, Some, None, zero, suc, nat_lt, refl, subst, arith}
use Rattle.std.specs.Prelude.{Result, Ok, Err, length, option_map}
use Rattle.std.proofs.lemmas.Bool.Decides.{nat_tests}
use Rattle.hex.specs.declared.error.FromHexError.{FromHexError}
use Rattle.hex.specs.Hex.{decode_of}
use Rattle.hex.proofs.HexLemmas.{decode_of-ok}
use Rattle.mv_base.specs.Dotted.{dotted_of, octet_front_of, octet_of}
use Rattle.mv_base.specs.Number.{cut_of, number_of, only_if, ◌>>?◌}
use Rattle.mv_base.specs.Octets.{IsOctets}
use Rattle.line_words.specs.declared.fault.Reason.{Reason}
use Rattle.line_words.specs.declared.fault.TextFault.{TextFault}
use Rattle.line_words.specs.declared.words.Row.{Row}
use Rattle.line_words.specs.Forms.{◌>>=◌, or_fault, payload_at}
use Rattle.line_words.specs.Words.{Placed}

-- Each value without fault has the property.
pub record Meets {A : Type 0} (P : A → Type 0) (r : Result A TextFault) : Type 0 where
  pub holds : (x : A) → r ≡ Ok x → P x

pub ok_meets : {A : Type 0} (P : A → Type 0) (x : A) → P x → Meets P (Ok x)
ok_meets P x p = record { holds = λ y e. let q : x ≡ y = cc in subst P q p }

pub err_meets : {A : Type 0} (P : A → Type 0) (e : TextFault) → Meets P (Err e)
err_meets P e = record { holds = λ y h. absurd cc }

pub bind_meets : {A B : Type 0} (P : B → Type 0) (r : Result A TextFault) (f : A → Result B TextFault) → ((x : A) → r ≡ Ok x → Meets P (f x))
    → Meets P (r >>= f)
bind_meets P (Ok x) f h = h x refl
bind_meets P (Err e) f h = err_meets P e

pub if_meets : {A : Type 0} (P : A → Type 0) (b : Bool) (e : TextFault) (r : Result A TextFault) → (b ≡ false → Meets P r)
    → Meets P (cond b (Err e) r)
if_meets P true e r h = err_meets P e
if_meets P false e r h = h refl

pub then_meets : {A : Type 0} (P : A → Type 0) (b : Bool) (e : TextFault) (r : Result A TextFault) → (b ≡ true → Meets P r)
    → Meets P (cond b r (Err e))
then_meets P true e r h = h refl
then_meets P false e r h = err_meets P e

pub either_meets : {A : Type 0} (P : A → Type 0) (b : Bool) (r s : Result A TextFault) → Meets P r → Meets P s → Meets P (cond b r s)
either_meets P true r s h k = h
either_meets P false r s h k = k

-- The same of an option.
pub record Finds {A : Type 0} (P : A → Type 0) (o : Option A) : Type 0 where
  pub holds : (x : A) → o ≡ Some x → P x

pub some_finds : {A : Type 0} (P : A → Type 0) (x : A) → P x → Finds P (Some x)
some_finds P x p = record { holds = λ y e. let q : x ≡ y = cc in subst P q p }

pub none_finds : {A : Type 0} (P : A → Type 0) → Finds P None
none_finds P = record { holds = λ y h. absurd cc }

pub bind_finds : {A B : Type 0} (P : B → Type 0) (o : Option A) (f : A → Option B) → ((x : A) → o ≡ Some x → Finds P (f x)) → Finds P (o >>? f)
bind_finds P (Some x) f h = h x refl
bind_finds P None f h = none_finds P

pub only_finds : {A : Type 0} (P : A → Type 0) (b : Bool) (x : A) → (b ≡ true → P x) → Finds P (only_if b x)
only_finds P true x h = some_finds P x (h refl)
only_finds P false x h = none_finds P

pub map_finds : {A B : Type 0} (P : B → Type 0) (f : A → B) (o : Option A) → Finds (λ x. P (f x)) o → Finds P (option_map f o)
map_finds P f (Some x) h = some_finds P (f x) (h.holds x refl)
map_finds P f None h = none_finds P

pub or_fault_meets : {A : Type 0} (P : A → Type 0) (o : Option A) (row : Row) (word : Placed) (reason : Reason) → Finds P o
    → Meets P (or_fault o row word reason)
or_fault_meets P (Some x) row word reason h = ok_meets P x (h.holds x refl)
or_fault_meets P None row word reason h = err_meets P _

-- ---- octets that words write

below_256 : (n : ℕ) → nat_lt n 256 ≡ true → n < 256
below_256 n h = grind (arith, nat_tests)

octet_finds : (text : List ℕ) → Finds (λ octet. octet < 256) (octet_of text)
unfolding octet_of
octet_finds text = bind_finds _ (number_of text) _ (λ number _. only_finds _ (nat_lt number 256) number (below_256 number))

front_finds : (text : List ℕ) → Finds (λ front. front.0 < 256) (octet_front_of text)
unfolding octet_front_of
front_finds text =
    bind_finds _ (cut_of 46 text) _ (λ cut _. bind_finds _ (octet_of cut.0) _
    (λ octet e. some_finds _ (octet, cut.1) ((octet_finds cut.0).holds octet e)))

four_octets : (a b c d : ℕ) → a < 256 → b < 256 → c < 256 → d < 256 → IsOctets (a ∷ b ∷ c ∷ d ∷ [])
four_octets a b c d p q r s zero = p
four_octets a b c d p q r s (suc zero) = q
four_octets a b c d p q r s (suc (suc zero)) = r
four_octets a b c d p q r s (suc (suc (suc zero))) = s
four_octets a b c d p q r s (suc (suc (suc (suc i)))) = omega arith

-- A dotted text writes four octets.
pub dotted_octets : (text : List ℕ) → Finds (λ octets. (length octets ≡ 4) × IsOctets octets) (dotted_of text)
unfolding dotted_of
dotted_octets text =
    bind_finds _ (octet_front_of text) _ (λ a p. bind_finds _ (octet_front_of a.1) _
    (λ b q. bind_finds _ (octet_front_of b.1) _ (λ c r. bind_finds _ (octet_of c.1) _ (λ d s.
    some_finds _ (a.0 ∷ b.0 ∷ c.0 ∷ d ∷ []) (
      refl,
      four_octets a.0 b.0 c.0 d ((front_finds text).holds a p) ((front_finds a.1).holds b q) ((front_finds b.1).holds c r)
          ((octet_finds c.1).holds d s),
    )))))

no_octets : IsOctets []
no_octets i = omega arith

decoded : (text : List ℕ) (e : TextFault) (r : Result (List ℕ) FromHexError) → decode_of text ≡ r
    → Meets IsOctets (elim r [ Ok octets ↦ Ok octets | Err error ↦ Err e ])
decoded text e (Ok octets) h = ok_meets _ octets (decode_of-ok text octets h).3
decoded text e (Err error) h = err_meets _ e

-- A payload is octets.
pub payload_octets : (row : Row) (word : Placed) → Meets IsOctets (payload_at row word)
unfolding payload_at
payload_octets row word = either_meets IsOctets _ (Ok []) _ (ok_meets IsOctets [] no_octets) (decoded word.text _ (decode_of word.text) refl)
