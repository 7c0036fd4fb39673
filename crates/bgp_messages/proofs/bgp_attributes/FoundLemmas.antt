-- What was found of attributes: the types that stand among them, and the update that they say together.
use Rattle.std.proofs.Common.{◌≡◌, ◌≢◌, ℕ, Bool, true, false, eqb, ◌⊎◌, inl, inr, List, [], ◌∷◌, ◌++◌, Option, Some, None, refl, sym, ap, subst, ◌∙◌, append_assoc}
use Rattle.std.specs.Prelude.{◌&&◌, ◌||◌, unwrap_or, is_some, ⊤}
use Rattle.std.specs.List.{flat_map, list_any, AllByRecursion}
use Rattle.std.proofs.lemmas.Bool.{eqb-false, eq-eqb, ne_eqb, or_parts, or_from, or_left, or_right, and_left, and_right}
use Rattle.std.proofs.lemmas.List.{append-nil}
use Rattle.std.proofs.lemmas.List.Sums.{fold-append}
use Rattle.std.proofs.lemmas.List.Concat.{flat_map-append, flat_map-cons}
use Rattle.std.proofs.lemmas.List.Folds.{list_any-append}
use Rattle.mv_base.specs.framing.Parts.{ArePartsAfter}
use Rattle.mv_base.specs.declared.route_targets.communities.ExtComm.{ExtComm}
use Rattle.bgp_values.specs.declared.pmsi_attr.pmsi.Pmsi.{Pmsi}
use Rattle.bgp_messages.specs.declared.bgp_attributes.key.Key.{Key}
use Rattle.bgp_messages.specs.declared.bgp_attributes.attribute.Reachable.{Reachable}
use Rattle.bgp_messages.specs.declared.bgp_attributes.attribute.Attribute.{Attribute}
use Rattle.bgp_messages.specs.declared.bgp_attributes.attribute.Attribute.TheVariants.{Reach, Unreach, Communities, Tunnel, Passed}
use Rattle.bgp_messages.specs.declared.bgp_attributes.found.Found.{Found}
use Rattle.bgp_messages.specs.bgp_attributes.Spelling.{type_of, IsReadType, IsNewType, IsNew, SpellsAttribute, comms_in, comms_of, pmsi_of, adverts_in, keys_in, update_of}
use Rattle.bgp_messages.specs.bgp_attributes.Reading.{nothing, has, with_attribute, found_of, is_read_type, has_type, adverts_of, unreached, update_in}
use Rattle.bgp_messages.proofs.bgp_attributes.ValueLemmas.{read_type}

-- One more attribute.
pub found_more : (before : List Attribute) (a : Attribute) → found_of (before ++ a ∷ []) ≡ with_attribute (found_of before) a
found_more before a = fold-append with_attribute nothing before (a ∷ [])

-- ---- types

read_is : (kind : ℕ) → IsReadType kind → is_read_type kind ≡ true
read_is kind (inl e) = rw (eq-eqb kind 14 e) refl
read_is kind (inr (inl e)) = or_left _ _ (or_left _ _ (or_right (eqb kind 14) (eqb kind 15) (eq-eqb kind 15 e)))
read_is kind (inr (inr (inl e))) = or_left _ _ (or_right (eqb kind 14 || eqb kind 15) (eqb kind 16) (eq-eqb kind 16 e))
read_is kind (inr (inr (inr e))) = or_right (eqb kind 14 || eqb kind 15 || eqb kind 16) (eqb kind 22) (eq-eqb kind 22 e)

unread_is : (kind : ℕ) → ¬ (IsReadType kind) → is_read_type kind ≡ false
unread_is kind none =
    rw (
      ne_eqb kind 14 (λ e. none (inl e)),
      ne_eqb kind 15 (λ e. none (inr (inl e))),
      ne_eqb kind 16 (λ e. none (inr (inr (inl e)))),
      ne_eqb kind 22 (λ e. none (inr (inr (inr e)))),
    ) refl

-- None of these attributes has that type, or one has.
none_of : (kind : ℕ) (before : List Attribute) → list_any (λ b. eqb (type_of b) kind) before ≡ false → AllByRecursion (λ b. type_of b ≢ kind) before
none_of kind [] e = tt
none_of kind (b ∷ bs) e = let (p, q) = or_parts (eqb (type_of b) kind) (list_any (λ b. eqb (type_of b) kind) bs) e in
    (eqb-false (type_of b) kind p, none_of kind bs q)

of_none : (kind : ℕ) (before : List Attribute) → AllByRecursion (λ b. type_of b ≢ kind) before → list_any (λ b. eqb (type_of b) kind) before ≡ false
of_none kind [] h = refl
of_none kind (b ∷ bs) (p, q) =
    or_from (eqb (type_of b) kind) (list_any (λ b. eqb (type_of b) kind) bs) (ne_eqb (type_of b) kind p) (of_none kind bs q)

-- A type is new exactly where it does not stand among those whose values are read.
pub new_is : (before : List Attribute) (kind : ℕ) → has_type before kind ≡ false → IsNewType before kind
new_is before kind e read = none_of kind before (sym (ap (λ (r : Bool). r && list_any (λ b. eqb (type_of b) kind) before) (read_is kind read)) ∙ e)

is_new_by : (before : List Attribute) (kind : ℕ) → IsNewType before kind → IsReadType kind ⊎ ¬ (IsReadType kind) → has_type before kind ≡ false
is_new_by before kind h (inl read) =
    ap (λ (r : Bool). r && list_any (λ b. eqb (type_of b) kind) before) (read_is kind read) ∙ of_none kind before (h read)
is_new_by before kind h (inr other) = and_left (is_read_type kind) (list_any (λ b. eqb (type_of b) kind) before) (unread_is kind other)

pub is_new : (before : List Attribute) (kind : ℕ) → IsNewType before kind → has_type before kind ≡ false
is_new before kind h = is_new_by before kind h (read_type kind)

pub again_is : (before : List Attribute) (kind : ℕ) → has_type before kind ≡ true → ¬ (IsNewType before kind)
again_is before kind e h = let clash : true ≡ false = sym e ∙ is_new before kind h in absurd cc

is_again_by : (before : List Attribute) (kind : ℕ) (b : Bool) → ¬ (IsNewType before kind) → has_type before kind ≡ b → has_type before kind ≡ true
is_again_by before kind true h e = e
is_again_by before kind false h e = absurd (h (new_is before kind e))

pub is_again : (before : List Attribute) (kind : ℕ) → ¬ (IsNewType before kind) → has_type before kind ≡ true
is_again before kind h = is_again_by before kind (has_type before kind) h refl

-- ---- the types that were found

-- no value of a type that is read is passed over
abbrev pub IsProper : Attribute → Type 0
IsProper (Passed kind) = ¬ (IsReadType kind)
IsProper a = ⊤

keep : (h : Bool) → h ≡ (h || false)
keep true = refl
keep false = refl

-- what is found with one more attribute
abbrev Adds : Found → Attribute → ℕ → Type 0
Adds found a kind = has (with_attribute found a) kind ≡ (has found kind || (is_read_type kind && eqb (type_of a) kind))

passed_by : (h : Bool) (k kind : ℕ) → k ≢ kind → h ≡ (h || eqb k kind)
passed_by h k kind ne = keep h ∙ ap (λ (t : Bool). h || t) (sym (ne_eqb k kind ne))

adds14 : (found : Found) (a : Attribute) → IsProper a → Adds found a 14
adds14 found (Reach r) proper = sym (or_right (is_some found.reach) true refl)
adds14 found (Unreach ks) proper = keep (is_some found.reach)
adds14 found (Communities cs) proper = keep (is_some found.reach)
adds14 found (Tunnel pmsi) proper = keep (is_some found.reach)
adds14 found (Passed k) proper = passed_by (is_some found.reach) k 14 (λ e. proper (inl e))

adds15 : (found : Found) (a : Attribute) → IsProper a → Adds found a 15
adds15 found (Reach r) proper = keep (is_some found.unreach)
adds15 found (Unreach ks) proper = sym (or_right (is_some found.unreach) true refl)
adds15 found (Communities cs) proper = keep (is_some found.unreach)
adds15 found (Tunnel pmsi) proper = keep (is_some found.unreach)
adds15 found (Passed k) proper = passed_by (is_some found.unreach) k 15 (λ e. proper (inr (inl e)))

adds16 : (found : Found) (a : Attribute) → IsProper a → Adds found a 16
adds16 found (Reach r) proper = keep (is_some found.communities)
adds16 found (Unreach ks) proper = keep (is_some found.communities)
adds16 found (Communities cs) proper = sym (or_right (is_some found.communities) true refl)
adds16 found (Tunnel pmsi) proper = keep (is_some found.communities)
adds16 found (Passed k) proper = passed_by (is_some found.communities) k 16 (λ e. proper (inr (inr (inl e))))

adds22 : (found : Found) (a : Attribute) → IsProper a → Adds found a 22
adds22 found (Reach r) proper = keep (is_some found.tunnel)
adds22 found (Unreach ks) proper = keep (is_some found.tunnel)
adds22 found (Communities cs) proper = keep (is_some found.tunnel)
adds22 found (Tunnel pmsi) proper = sym (or_right (is_some found.tunnel) true refl)
adds22 found (Passed k) proper = passed_by (is_some found.tunnel) k 22 (λ e. proper (inr (inr (inr e))))

has_none : (found : Found) (kind : ℕ) → ¬ (IsReadType kind) → has found kind ≡ false
has_none found kind none =
    rw (
      ne_eqb kind 14 (λ e. none (inl e)),
      ne_eqb kind 15 (λ e. none (inr (inl e))),
      ne_eqb kind 16 (λ e. none (inr (inr (inl e)))),
      ne_eqb kind 22 (λ e. none (inr (inr (inr e)))),
    ) refl

adds_by : (found : Found) (a : Attribute) (kind : ℕ) → IsProper a → IsReadType kind ⊎ ¬ (IsReadType kind) → Adds found a kind
adds_by found a kind proper (inl (inl e)) = subst (Adds found a) (sym e) (adds14 found a proper)
adds_by found a kind proper (inl (inr (inl e))) = subst (Adds found a) (sym e) (adds15 found a proper)
adds_by found a kind proper (inl (inr (inr (inl e)))) = subst (Adds found a) (sym e) (adds16 found a proper)
adds_by found a kind proper (inl (inr (inr (inr e)))) = subst (Adds found a) (sym e) (adds22 found a proper)
adds_by found a kind proper (inr none) =
    has_none (with_attribute found a) kind none
    ∙ sym (or_from (has found kind) (is_read_type kind && eqb (type_of a) kind) (has_none found kind none)
    (and_left (is_read_type kind) (eqb (type_of a) kind) (unread_is kind none)))

spread : (r x t : Bool) → ((r && x) || (r && t)) ≡ (r && (x || (t || false)))
spread true x true = refl
spread true x false = refl
spread false x t = refl

-- The tests of what was found are those of the attributes.
abbrev pub AreTested : Found → List Attribute → Type 0
AreTested found before = (kind : ℕ) → has found kind ≡ has_type before kind

pub tested_none : AreTested nothing []
tested_none kind = nothing_has kind (read_type kind) ∙ sym (and_right (is_read_type kind) false refl)
  where
    nothing_has : (kind : ℕ) → IsReadType kind ⊎ ¬ (IsReadType kind) → has nothing kind ≡ false
    nothing_has kind (inl (inl e)) = ap (has nothing) e
    nothing_has kind (inl (inr (inl e))) = ap (has nothing) e
    nothing_has kind (inl (inr (inr (inl e)))) = ap (has nothing) e
    nothing_has kind (inl (inr (inr (inr e)))) = ap (has nothing) e
    nothing_has kind (inr none) = has_none nothing kind none

pub tested_more : (found : Found) (before : List Attribute) (a : Attribute) → IsProper a → AreTested found before
    → AreTested (with_attribute found a) (before ++ a ∷ [])
tested_more found before a proper h kind =
    let test = λ (b : Attribute). eqb (type_of b) kind in
    let r : Bool = is_read_type kind in
    adds_by found a kind proper (read_type kind)
    ∙ ap (λ (x : Bool). x || (r && test a)) (h kind)
    ∙ spread r (list_any test before) (test a)
    ∙ ap (λ (x : Bool). r && x) (sym (list_any-append test before (a ∷ [])))

-- ---- what they say together

-- what was found says what the attributes say
pub record Agrees (found : Found) (before : List Attribute) : Type 0 where
  pub comms : unwrap_or found.communities [] ≡ comms_of before
  pub pmsi : found.tunnel ≡ pmsi_of before
  pub unreach : unreached found.unreach ≡ flat_map keys_in before
  pub reach : (comms : List ExtComm) (pmsi : Option Pmsi) → adverts_of comms pmsi found.reach ≡ flat_map (adverts_in comms pmsi) before

agrees_none : Agrees nothing []
agrees_none = record { comms = refl; pmsi = refl; unreach = refl; reach = λ comms pmsi. refl }

-- Attributes that add nothing leave nothing.
add_nothing : {A : Type 0} (f : Attribute → List A) (before : List Attribute) → AllByRecursion (λ b. f b ≡ []) before → flat_map f before ≡ []
add_nothing f [] h = refl
add_nothing f (b ∷ bs) (p, q) = flat_map-cons f b bs ∙ ap (λ xs. xs ++ flat_map f bs) p ∙ add_nothing f bs q

others : {A : Type 0} (f : Attribute → List A) (kind : ℕ) (before : List Attribute) → ((b : Attribute) → type_of b ≢ kind → f b ≡ [])
    → AllByRecursion (λ b. type_of b ≢ kind) before → AllByRecursion (λ b. f b ≡ []) before
others f kind [] none h = tt
others f kind (b ∷ bs) none (p, q) = (none b p, others f kind bs none q)

-- the first of its kind
first_one : {A : Type 0} (f : Attribute → List A) (kind : ℕ) (before : List Attribute) (a : Attribute)
    → ((b : Attribute) → type_of b ≢ kind → f b ≡ []) → AllByRecursion (λ b. type_of b ≢ kind) before → f a ≡ flat_map f (before ++ a ∷ [])
first_one f kind before a none h =
    sym (append-nil (f a)) ∙ ap (λ xs. xs ++ (f a ++ [])) (sym (add_nothing f before (others f kind before none h)))
    ∙ sym (flat_map-append f before (a ∷ []))

-- one that adds nothing
no_more : {A : Type 0} (f : Attribute → List A) (before : List Attribute) (a : Attribute) → f a ≡ []
    → flat_map f before ≡ flat_map f (before ++ a ∷ [])
no_more f before a none =
    sym (append-nil (flat_map f before)) ∙ ap (λ xs. flat_map f before ++ (xs ++ [])) (sym none) ∙ sym (flat_map-append f before (a ∷ []))

no_comms : (b : Attribute) → type_of b ≢ 16 → comms_in b ≡ []
no_comms (Reach r) ne = refl
no_comms (Unreach ks) ne = refl
no_comms (Communities cs) ne = absurd (ne refl)
no_comms (Tunnel pmsi) ne = refl
no_comms (Passed k) ne = refl

no_keys : (b : Attribute) → type_of b ≢ 15 → keys_in b ≡ []
no_keys (Reach r) ne = refl
no_keys (Unreach ks) ne = absurd (ne refl)
no_keys (Communities cs) ne = refl
no_keys (Tunnel pmsi) ne = refl
no_keys (Passed k) ne = refl

no_adverts : (comms : List ExtComm) (pmsi : Option Pmsi) (b : Attribute) → type_of b ≢ 14 → adverts_in comms pmsi b ≡ []
no_adverts comms pmsi (Reach r) ne = absurd (ne refl)
no_adverts comms pmsi (Unreach ks) ne = refl
no_adverts comms pmsi (Communities cs) ne = refl
no_adverts comms pmsi (Tunnel p) ne = refl
no_adverts comms pmsi (Passed k) ne = refl

-- the tunnel of the first attributes, or else of one more
pmsi_first : (before : List Attribute) (pmsi : Pmsi) → AllByRecursion (λ b. type_of b ≢ 22) before → pmsi_of (before ++ Tunnel pmsi ∷ []) ≡ Some pmsi
pmsi_first [] pmsi h = refl
pmsi_first (Reach r ∷ bs) pmsi (p, q) = pmsi_first bs pmsi q
pmsi_first (Unreach ks ∷ bs) pmsi (p, q) = pmsi_first bs pmsi q
pmsi_first (Communities cs ∷ bs) pmsi (p, q) = pmsi_first bs pmsi q
pmsi_first (Tunnel t ∷ bs) pmsi (p, q) = absurd (p refl)
pmsi_first (Passed k ∷ bs) pmsi (p, q) = pmsi_first bs pmsi q

pmsi_stays : (before : List Attribute) (a : Attribute) → pmsi_of (a ∷ []) ≡ None → pmsi_of before ≡ pmsi_of (before ++ a ∷ [])
pmsi_stays [] a e = sym e
pmsi_stays (Reach r ∷ bs) a e = pmsi_stays bs a e
pmsi_stays (Unreach ks ∷ bs) a e = pmsi_stays bs a e
pmsi_stays (Communities cs ∷ bs) a e = pmsi_stays bs a e
pmsi_stays (Tunnel t ∷ bs) a e = refl
pmsi_stays (Passed k ∷ bs) a e = pmsi_stays bs a e

reach_found : (comms : List ExtComm) (pmsi : Option Pmsi) (r : Option Reachable) → adverts_of comms pmsi (Some r) ≡ adverts_in comms pmsi (Reach r)
reach_found comms pmsi (Some r) = refl
reach_found comms pmsi None = refl

unreach_found : (ks : Option (List Key)) → unreached (Some ks) ≡ keys_in (Unreach ks)
unreach_found (Some ks) = refl
unreach_found None = refl

-- One more attribute of a type that is new is added.
agrees_more : (found : Found) (before : List Attribute) (a : Attribute) → IsNew before a → Agrees found before
    → Agrees (with_attribute found a) (before ++ a ∷ [])
agrees_more found before (Reach r) new h = record {
  comms = h.comms ∙ no_more comms_in before (Reach r) refl;
  pmsi = h.pmsi ∙ pmsi_stays before (Reach r) refl;
  unreach = h.unreach ∙ no_more keys_in before (Reach r) refl;
  reach = λ comms pmsi. reach_found comms pmsi r ∙ first_one (adverts_in comms pmsi) 14 before (Reach r) (no_adverts comms pmsi) (new (inl refl));
}
agrees_more found before (Unreach ks) new h = record {
  comms = h.comms ∙ no_more comms_in before (Unreach ks) refl;
  pmsi = h.pmsi ∙ pmsi_stays before (Unreach ks) refl;
  unreach = unreach_found ks ∙ first_one keys_in 15 before (Unreach ks) no_keys (new (inr (inl refl)));
  reach = λ comms pmsi. h.reach comms pmsi ∙ no_more (adverts_in comms pmsi) before (Unreach ks) refl;
}
agrees_more found before (Communities cs) new h = record {
  comms = first_one comms_in 16 before (Communities cs) no_comms (new (inr (inr (inl refl))));
  pmsi = h.pmsi ∙ pmsi_stays before (Communities cs) refl;
  unreach = h.unreach ∙ no_more keys_in before (Communities cs) refl;
  reach = λ comms pmsi. h.reach comms pmsi ∙ no_more (adverts_in comms pmsi) before (Communities cs) refl;
}
agrees_more found before (Tunnel t) new h = record {
  comms = h.comms ∙ no_more comms_in before (Tunnel t) refl;
  pmsi = sym (pmsi_first before t (new (inr (inr (inr refl)))));
  unreach = h.unreach ∙ no_more keys_in before (Tunnel t) refl;
  reach = λ comms pmsi. h.reach comms pmsi ∙ no_more (adverts_in comms pmsi) before (Tunnel t) refl;
}
agrees_more found before (Passed k) new h = record {
  comms = h.comms ∙ no_more comms_in before (Passed k) refl;
  pmsi = h.pmsi ∙ pmsi_stays before (Passed k) refl;
  unreach = h.unreach ∙ no_more keys_in before (Passed k) refl;
  reach = λ comms pmsi. h.reach comms pmsi ∙ no_more (adverts_in comms pmsi) before (Passed k) refl;
}

agrees_all : (before : List Attribute) (octets : List ℕ) (attributes : List Attribute) (rest : List ℕ)
    → ArePartsAfter SpellsAttribute IsNew before octets attributes rest → Agrees (found_of before) before
    → Agrees (found_of (before ++ attributes)) (before ++ attributes)
agrees_all before octets [] rest h is = subst (λ (xs : List Attribute). Agrees (found_of xs) xs) (sym (append-nil before)) is
agrees_all before octets (a ∷ more) rest (text, after, spells, new, parts, h) is =
    let one : Agrees (found_of (before ++ a ∷ [])) (before ++ a ∷ []) =
    subst (λ (f : Found). Agrees f (before ++ a ∷ [])) (sym (found_more before a)) (agrees_more (found_of before) before a new is) in
    subst (λ (xs : List Attribute). Agrees (found_of xs) xs) (append_assoc before (a ∷ []) more) (agrees_all (before ++ a ∷ []) after more rest h one)

says : (found : Found) (attributes : List Attribute) → Agrees found attributes → update_in found ≡ update_of attributes
says found attributes h =
    let reach : adverts_of (unwrap_or found.communities []) found.tunnel found.reach
    ≡ flat_map (adverts_in (comms_of attributes) (pmsi_of attributes)) attributes =
    ap (λ (cs : List ExtComm). adverts_of cs found.tunnel found.reach) h.comms
    ∙ ap (λ (p : Option Pmsi). adverts_of (comms_of attributes) p found.reach) h.pmsi ∙ h.reach (comms_of attributes) (pmsi_of attributes) in
    λ i. record { reach = reach i; unreach = h.unreach i }

-- What was found of attributes, each of a type that is new, says what they say.
pub update_is : (octets : List ℕ) (attributes : List Attribute) (rest : List ℕ) → ArePartsAfter SpellsAttribute IsNew [] octets attributes rest
    → update_in (found_of attributes) ≡ update_of attributes
update_is octets attributes rest h = says (found_of attributes) attributes (agrees_all [] octets attributes rest h agrees_none)
