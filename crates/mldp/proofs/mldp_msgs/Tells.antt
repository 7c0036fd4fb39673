-- What the TLVs that were read told.
use Rattle.std.proofs.Common.{◌≡◌, ℕ, zero, suc, ◌⊎◌, inl, inr, Bool, true, false, List, [], ◌∷◌, ◌++◌, Option, Some, None, is_some, refl, sym, ap, ◌∙◌, arith}
use Rattle.std.specs.List.{Contains}
use Rattle.mv_base.specs.framing.Parts.{ArePartsAfter}
use Rattle.mldp.specs.declared.mldp_msgs.tlv.Tlv.{Tlv}
use Rattle.mldp.specs.declared.mldp_msgs.tlv.Tlv.TheVariants as tlvs
use Rattle.mldp.specs.mldp_msgs.Spelling.{fec_of, label_of, NoneTells, IsNew, SpellsTlv}
use Rattle.mldp.specs.mldp_msgs.Reading.{told_or, latest, found_with, found_of}

-- ---- one more TLV

latest_more : {A : Type 0} (told : Tlv → Option A) (o : Option A) (ts : List Tlv) (t : Tlv)
    → latest told o (ts ++ t ∷ []) ≡ told_or (told t) (latest told o ts)
latest_more told o [] t = refl
latest_more told o (u ∷ us) t = latest_more told (told_or (told u) o) us t

pub found_more : (ts : List Tlv) (t : Tlv) → found_with (found_of ts) t ≡ found_of (ts ++ t ∷ [])
found_more ts t =
    let e = sym (latest_more fec_of None ts t) in
    let f = sym (latest_more label_of None ts t) in
    λ i. record { fec = e i; label = f i }

-- ---- what none told is not known

pub none_latest : {A : Type 0} (told : Tlv → Option A) (o : Option A) (ts : List Tlv) → NoneTells told ts → latest told o ts ≡ o
none_latest told o [] h = refl
none_latest told o (t ∷ ts) h = ap (λ (x : Option _). latest told (told_or x o) ts) h.0 ∙ none_latest told o ts h.1

both_none : {A : Type 0} (x o : Option A) → told_or x o ≡ None → (x ≡ None) × (o ≡ None)
both_none None o e = (refl, e)
both_none (Some a) o e = absurd cc

pub latest_none : {A : Type 0} (told : Tlv → Option A) (o : Option A) (ts : List Tlv) → latest told o ts ≡ None → (o ≡ None) × NoneTells told ts
latest_none told o [] e = (e, tt)
latest_none told o (t ∷ ts) e =
    let rest = latest_none told (told_or (told t) o) ts e in
    let both = both_none (told t) o rest.0 in
    (both.1, (both.0, rest.1))

-- Whether it is known.
is_none : {A : Type 0} (o : Option A) → is_some o ≡ false → o ≡ None
is_none None e = refl
is_none (Some a) e = absurd cc

pub untold : {A : Type 0} (told : Tlv → Option A) (ts : List Tlv) → is_some (latest told None ts) ≡ false → NoneTells told ts
untold told ts e = (latest_none told None ts (is_none (latest told None ts) e)).1

pub untold_again : {A : Type 0} (told : Tlv → Option A) (ts : List Tlv) → NoneTells told ts → is_some (latest told None ts) ≡ false
untold_again told ts h = ap is_some (none_latest told None ts h)

pub is_told : {A : Type 0} (told : Tlv → Option A) (ts : List Tlv) → is_some (latest told None ts) ≡ true → ¬ NoneTells told ts
is_told told ts e h = let clash : false ≡ true = sym (untold_again told ts h) ∙ e in absurd cc

pub told_again : {A : Type 0} (told : Tlv → Option A) (ts : List Tlv) → (¬ NoneTells told ts) → is_some (latest told None ts) ≡ true
told_again told ts h = by_known (is_some (latest told None ts)) refl
  where
    by_known : (b : Bool) → is_some (latest told None ts) ≡ b → b ≡ true
    by_known true e = refl
    by_known false e = absurd (h (untold told ts e))

-- ---- what is known was told

there : (u t : Tlv) (us : List Tlv) → Contains us t → Contains (u ∷ us) t
there u t us h = (suc h.0, omega (arith, h.1), h.2)

pub latest_some : {A : Type 0} (told : Tlv → Option A) (o : Option A) (ts : List Tlv) (a : A) → latest told o ts ≡ Some a
    → (o ≡ Some a) ⊎ ((t : Tlv) × Contains ts t × (told t ≡ Some a))
latest_some told o [] a e = inl e
latest_some told o (u ∷ us) a e =
    elim (latest_some told (told_or (told u) o) us a e) [
      | inl here ↦ elim (told_first (told u) o a here) [ inl first ↦ inr (u, (zero, omega arith, refl), first) | inr before ↦ inl before ]
      | inr later ↦ inr (later.0, there u later.0 us later.1, later.2)
    ]
  where
    told_first : {A : Type 0} (x o : Option A) (a : A) → told_or x o ≡ Some a → (x ≡ Some a) ⊎ (o ≡ Some a)
    told_first None o a e = inr e
    told_first (Some b) o a e = inl e

-- ---- where each that tells it is the first to do so, what is told is known

abbrev pub TellsNew : {A : Type 0} → (Tlv → Option A) → Type 0
TellsNew {A} told = (before : List Tlv) (t : Tlv) (a : A) → IsNew before t → told t ≡ Some a → NoneTells told before

pub fecs_new : TellsNew fec_of
fecs_new before (tlvs.Fec f) a new e = new
fecs_new before (tlvs.Label l) a new e = absurd cc
fecs_new before tlvs.Passed a new e = absurd cc

pub labels_new : TellsNew label_of
labels_new before (tlvs.Fec f) a new e = absurd cc
labels_new before (tlvs.Label l) a new e = new
labels_new before tlvs.Passed a new e = absurd cc

none_front : {A : Type 0} (told : Tlv → Option A) (ts us : List Tlv) → NoneTells told (ts ++ us) → NoneTells told ts
none_front told [] us h = tt
none_front told (t ∷ ts) us h = (h.0, none_front told ts us h.1)

none_last : {A : Type 0} (told : Tlv → Option A) (ts : List Tlv) (t : Tlv) → NoneTells told (ts ++ t ∷ []) → told t ≡ None
none_last told [] t h = h.0
none_last told (u ∷ us) t h = none_last told us t h.1

stays : {A : Type 0} (told : Tlv → Option A) → TellsNew told → (o : Option A) (before : List Tlv) (octets : List ℕ) (ts : List Tlv) (rest : List ℕ)
    → ArePartsAfter SpellsTlv IsNew before octets ts rest → (¬ NoneTells told before) → latest told o ts ≡ o
stays told new o before octets [] rest h is = refl
stays {A} told new o before octets (t ∷ ts) rest (text, after, spells, fits, parts, more) is =
    let P : Option A → Type 0 = λ x. told t ≡ x → latest told (told_or x o) ts ≡ o in
    let step : (x : Option A) → P x = λ x. elim x as P [
      | None ↦ λ e. stays told new o (before ++ t ∷ []) after ts rest more (λ all. is (none_front told before (t ∷ []) all))
      | Some a ↦ λ e. absurd (is (new before t a fits e))
    ] in
    step (told t) refl

here_or : (u t : Tlv) (us : List Tlv) → Contains (u ∷ us) t → (u ≡ t) ⊎ Contains us t
here_or u t us (zero, lt, e) = inl e
here_or u t us (suc k, lt, e) = inr (k, omega arith, e)

pub known : {A : Type 0} (told : Tlv → Option A) → TellsNew told
    → (o : Option A) (before : List Tlv) (octets : List ℕ) (ts : List Tlv) (rest : List ℕ) → ArePartsAfter SpellsTlv IsNew before octets ts rest
    → (t : Tlv) (a : A) → Contains ts t → told t ≡ Some a → latest told o ts ≡ Some a
known told new o before octets [] rest h t a has e = absurd (omega (arith, has.1))
known {A} told new o before octets (u ∷ us) rest (text, after, spells, fits, parts, more) t a has e =
    elim (here_or u t us has) [
      | inl same ↦
          let tells : told u ≡ Some a = ap told same ∙ e in
          let is : ¬ NoneTells told (before ++ u ∷ []) = λ all. (let clash : Some a ≡ None = sym tells ∙ none_last told before u all in absurd cc) in
          ap (λ (x : Option A). latest told (told_or x o) us) tells ∙ stays told new (Some a) (before ++ u ∷ []) after us rest more is
      | inr later ↦ known told new (told_or (told u) o) (before ++ u ∷ []) after us rest more t a later e
    ]
