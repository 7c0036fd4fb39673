-- What is read after the header of an UPDATE is what is spelled, and the first fault.
use Rattle.std.proofs.Common.{◌≡◌, ℕ, ◌+◌, ◌^◌, ◌<◌, ◌≤◌, false, cond, ltb, inl, inr, List, [], ◌∷◌, ◌++◌, length, take, drop, Result, Ok, Err, refl, sym, ap, subst, ◌∙◌, arith}
use Rattle.std.specs.Int.{w16, to_be_bytes, from_be_bytes}
use Rattle.std.proofs.lemmas.Bool.{ltb-false, ltb-true, le-ltb, lt-ltb}
use Rattle.std.proofs.lemmas.List.{length-append, length-take-le, take-append-drop, take_at, drop_at}
use Rattle.mv_base.specs.Octets.{IsOctets}
use Rattle.mv_base.proofs.Fields.{wide16, octets_before, octets_after, chosen, err_is}
use Rattle.mv_base.proofs.framing.Cuts.{IsOctets-before, IsOctets-after}
use Rattle.mv_base.proofs.framing.Fronts.{skip, take_branch}
use Rattle.bgp_messages.specs.declared.bgp_attributes.update.Update.{Update}
use Rattle.bgp_messages.specs.declared.bgp_attributes.fault.StreamFault.{StreamFault}
use Rattle.bgp_messages.specs.declared.bgp_attributes.fault.StreamFault.TheVariants.{AttributeList}
use Rattle.bgp_messages.specs.bgp_attributes.Spelling.{Spells}
use Rattle.bgp_messages.specs.bgp_attributes.FirstFault.{AttributesFault}
use Rattle.bgp_messages.specs.bgp_attributes.Reading.{update_at}
use Rattle.bgp_messages.specs.bgp_update.Spelling.{SpellsBody}
use Rattle.bgp_messages.specs.bgp_update.FirstFault.{BodyFault}
use Rattle.bgp_messages.specs.bgp_update.FirstFault.BodyFault.{withdrawn_long, length_cut, attributes_long, in_attributes}
use Rattle.bgp_messages.specs.bgp_update.Reading.{thereafter, list_at, body_at}
use Rattle.bgp_messages.proofs.bgp_attributes.UpdateLemmas.{update_taken, update_again, update_fails, fails_update}

-- ---- a number of two octets at the front

abbrev two : ℕ → ℕ → ℕ
two high low = from_be_bytes w16 (high ∷ low ∷ [])

two_is : (high low : ℕ) (rest : List ℕ) → IsOctets (high ∷ low ∷ rest)
    → (two high low < 2 ^ 16) × (high ∷ (low ∷ rest) ≡ to_be_bytes w16 (two high low) ++ rest)
two_is high low rest fits =
    let f : IsOctets (high ∷ low ∷ []) = octets_before 2 (high ∷ low ∷ rest) fits in
    (wide16.below (high ∷ low ∷ []) f, ap (λ (xs : List ℕ). xs ++ rest) (sym (wide16.back (high ∷ low ∷ []) refl f)))

rest_fits : (high low : ℕ) (rest : List ℕ) → IsOctets (high ∷ low ∷ rest) → IsOctets rest
rest_fits high low rest fits = octets_after 2 (high ∷ low ∷ rest) fits

-- ---- a fault further on

after_ok : {A : Type 0} (n : ℕ) (r : Result A (ℕ × StreamFault)) (x : A) → thereafter n r ≡ Ok x → r ≡ Ok x
after_ok n (Ok y) x e = e
after_ok n (Err f) x e = absurd cc

after_err : {A : Type 0} (n : ℕ) (r : Result A (ℕ × StreamFault)) (offset : ℕ) (e : StreamFault) → thereafter n r ≡ Err (offset, e)
    → (place : ℕ) × (r ≡ Err (place, e)) × (offset ≡ n + place)
after_err n (Ok y) offset e h = absurd cc
after_err {A} n (Err f) offset e h =
    let p : (n + f.0, f.1) ≡ (offset, e) = err_is {A = A} (n + f.0, f.1) (offset, e) h in
    (f.0, ap (λ (x : StreamFault). Err (f.0, x)) (ap (λ (q : ℕ × StreamFault). q.1) p), sym (ap (λ (q : ℕ × StreamFault). q.0) p))

-- ---- the attributes after their length

record SpellsList (u : Update) (xs : List ℕ) : Type 0 where
  list : List ℕ
  rest : List ℕ
  fits : length list < 2 ^ 16
  parts : xs ≡ to_be_bytes w16 (length list) ++ (list ++ rest)
  spelled : Spells u list

data ListFault (xs : List ℕ) (offset : ℕ) (e : StreamFault) : Type 0 where
  cut : length xs < 2 → offset ≡ 0 → e ≡ AttributeList → ListFault xs offset e
  long : (len : ℕ) (rest : List ℕ) → len < 2 ^ 16 → xs ≡ to_be_bytes w16 len ++ rest → length rest < len → offset ≡ 0 → e ≡ AttributeList
      → ListFault xs offset e
  inside : (list rest : List ℕ) (place : ℕ) → length list < 2 ^ 16 → xs ≡ to_be_bytes w16 (length list) ++ (list ++ rest)
      → AttributesFault list place e → offset ≡ 2 + place → ListFault xs offset e

list_at_two : (len : ℕ) (rest : List ℕ) → len < 2 ^ 16
    → list_at (to_be_bytes w16 len ++ rest) ≡ cond (ltb (length rest) len) (Err (0, AttributeList)) (thereafter 2 (update_at (take len rest)))
unfolding list_at
list_at_two len rest lt =
    ap (λ (n : ℕ). cond (ltb (length rest) n) (Err (0, AttributeList)) (thereafter 2 (update_at (take n rest)))) (wide16.again len lt)

list_at_text : (list rest : List ℕ) → length list < 2 ^ 16 → list_at (to_be_bytes w16 (length list) ++ (list ++ rest)) ≡ thereafter 2 (update_at list)
list_at_text list rest fits =
    let room : ltb (length (list ++ rest)) (length list) ≡ false = le-ltb _ _ (omega (arith, length-append list rest)) in
    list_at_two (length list) (list ++ rest) fits ∙ skip (ltb (length (list ++ rest)) (length list)) _ _ room
    ∙ ap (λ (xs : List ℕ). thereafter 2 (update_at xs)) (take_at list rest (length list) refl)

list_again : (u : Update) (xs : List ℕ) → SpellsList u xs → list_at xs ≡ Ok u
list_again u xs s = ap list_at s.parts ∙ list_at_text s.list s.rest s.fits ∙ ap (thereafter 2) (update_again u s.list s.spelled)

-- octets after such a number are those and the others
cut_at_len : (n : ℕ) (xs rest : List ℕ) → xs ≡ to_be_bytes w16 n ++ rest → n ≤ length rest
    → (length (take n rest) ≡ n) × (xs ≡ to_be_bytes w16 (length (take n rest)) ++ (take n rest ++ drop n rest))
cut_at_len n xs rest parts le =
    let len : length (take n rest) ≡ n = length-take-le n rest le in (
      len,
      parts ∙ ap (λ (ys : List ℕ). to_be_bytes w16 n ++ ys) (sym (take-append-drop n rest))
          ∙ ap (λ (k : ℕ). to_be_bytes w16 k ++ (take n rest ++ drop n rest)) (sym len),
    )

list_taken : (xs : List ℕ) (u : Update) → IsOctets xs → list_at xs ≡ Ok u → SpellsList u xs
unfolding list_at
list_taken [] u fits e = absurd cc
list_taken (high ∷ []) u fits e = absurd cc
list_taken (high ∷ low ∷ rest) u fits e =
    let n : ℕ = two high low in
    let t = two_is high low rest fits in
    elim (chosen (ltb (length rest) n) (Err (0, AttributeList)) (thereafter 2 (update_at (take n rest))) (Ok u) e) [
      | inl a ↦ absurd (let clash : Err (0, AttributeList) ≡ Ok u = a.1 in cc)
      | inr b ↦
          let le : n ≤ length rest = ltb-false _ _ b.0 in
          let c = cut_at_len n (high ∷ low ∷ rest) rest t.1 le in
          record {
            list = take n rest;
            rest = drop n rest;
            fits = omega (arith, c.0, t.0);
            parts = c.1;
            spelled =
                update_taken (take n rest) u (octets_before n rest (rest_fits high low rest fits)) (after_ok 2 (update_at (take n rest)) u b.1);
          }
    ]

cut_first : (xs : List ℕ) (offset : ℕ) (e : StreamFault) → length xs < 2 → ◌≡◌ {A = ℕ × StreamFault} (0, AttributeList) (offset, e)
    → ListFault xs offset e
cut_first xs offset e lt p = cut lt (sym (ap (λ (q : ℕ × StreamFault). q.0) p)) (sym (ap (λ (q : ℕ × StreamFault). q.1) p))

list_fails : (xs : List ℕ) (offset : ℕ) (e : StreamFault) → IsOctets xs → list_at xs ≡ Err (offset, e) → ListFault xs offset e
unfolding list_at
list_fails [] offset e fits h = cut_first [] offset e (omega arith) (err_is {A = Update} (0, AttributeList) (offset, e) h)
list_fails (high ∷ []) offset e fits h = cut_first (high ∷ []) offset e (omega arith) (err_is {A = Update} (0, AttributeList) (offset, e) h)
list_fails (high ∷ low ∷ rest) offset e fits h =
    let n : ℕ = two high low in
    let t = two_is high low rest fits in
    elim (chosen (ltb (length rest) n) (Err (0, AttributeList)) (thereafter 2 (update_at (take n rest))) (Err (offset, e)) h) [
      | inl a ↦
          let p : (0, AttributeList) ≡ (offset, e) = err_is {A = Update} (0, AttributeList) (offset, e) a.1 in
          long n rest t.0 t.1 (ltb-true _ _ a.0) (sym (ap (λ (q : ℕ × StreamFault). q.0) p)) (sym (ap (λ (q : ℕ × StreamFault). q.1) p))
      | inr b ↦
          let le : n ≤ length rest = ltb-false _ _ b.0 in
          let c = cut_at_len n (high ∷ low ∷ rest) rest t.1 le in
          let f = after_err 2 (update_at (take n rest)) offset e b.1 in
          inside (take n rest) (drop n rest) f.0 (omega (arith, c.0, t.0)) c.1
          (update_fails (take n rest) f.0 e (octets_before n rest (rest_fits high low rest fits)) f.1) f.2
    ]

err_same : {A : Type 0} (m n : ℕ) (d e : StreamFault) → m ≡ n → d ≡ e → ◌≡◌ {A = Result A (ℕ × StreamFault)} (Err (m, d)) (Err (n, e))
err_same m n d e p q i = Err (p i, q i)

list_short : (xs : List ℕ) → length xs < 2 → list_at xs ≡ Err (0, AttributeList)
unfolding list_at
list_short [] lt = refl
list_short (a ∷ []) lt = refl
list_short (a ∷ b ∷ xs) lt = absurd (omega arith)

fails_list : (xs : List ℕ) (offset : ℕ) (e : StreamFault) → IsOctets xs → ListFault xs offset e → list_at xs ≡ Err (offset, e)
fails_list xs offset e fits (cut lt at fault) = list_short xs lt ∙ err_same 0 offset AttributeList e (sym at) (sym fault)
fails_list xs offset e fits (long len rest small parts lt at fault) =
    ap list_at parts ∙ list_at_two len rest small ∙ take_branch (ltb (length rest) len) _ _ (lt-ltb _ _ lt)
    ∙ err_same 0 offset AttributeList e (sym at) (sym fault)
fails_list xs offset e fits (inside list rest place small parts faulty at) =
    let f : IsOctets list = IsOctets-before list rest (IsOctets-after (to_be_bytes w16 (length list)) (list ++ rest) (subst IsOctets parts fits)) in
    ap list_at parts ∙ list_at_text list rest small ∙ ap (thereafter 2) (fails_update list place e f faulty)
    ∙ err_same (2 + place) offset e e (sym at) refl

-- ---- the body: after the withdrawn routes

body_at_two : (len : ℕ) (rest : List ℕ) → len < 2 ^ 16
    → body_at (to_be_bytes w16 len ++ rest) ≡ cond (ltb (length rest) len) (Err (0, AttributeList)) (thereafter (2 + len) (list_at (drop len rest)))
unfolding body_at
body_at_two len rest lt =
    ap (λ (n : ℕ). cond (ltb (length rest) n) (Err (0, AttributeList)) (thereafter (2 + n) (list_at (drop n rest)))) (wide16.again len lt)

body_at_text : (withdrawn rest : List ℕ) → length withdrawn < 2 ^ 16
    → body_at (to_be_bytes w16 (length withdrawn) ++ (withdrawn ++ rest)) ≡ thereafter (2 + length withdrawn) (list_at rest)
body_at_text withdrawn rest fits =
    let room : ltb (length (withdrawn ++ rest)) (length withdrawn) ≡ false = le-ltb _ _ (omega (arith, length-append withdrawn rest)) in
    body_at_two (length withdrawn) (withdrawn ++ rest) fits ∙ skip (ltb (length (withdrawn ++ rest)) (length withdrawn)) _ _ room
    ∙ ap (λ (xs : List ℕ). thereafter (2 + length withdrawn) (list_at xs)) (drop_at withdrawn rest (length withdrawn) refl)

pub body_again : (u : Update) (body : List ℕ) → length body < 2 ^ 16 → SpellsBody u body → body_at body ≡ Ok u
body_again u body small s =
    let list_text : List ℕ = to_be_bytes w16 (length s.list) ++ (s.list ++ s.rest) in
    let sizes : length body ≡ 2 + (length s.withdrawn + (2 + (length s.list + length s.rest))) =
    ap (λ (xs : List ℕ). length xs) s.parts ∙ omega (arith, length-append s.withdrawn list_text, length-append s.list s.rest) in
    ap body_at s.parts
    ∙ body_at_text s.withdrawn list_text (omega arith)
    ∙ ap (thereafter (2 + length s.withdrawn)) (list_again u list_text
    (record { list = s.list; rest = s.rest; fits = omega arith; parts = refl; spelled = s.spelled }))

pub body_taken : (body : List ℕ) (u : Update) → IsOctets body → body_at body ≡ Ok u → SpellsBody u body
unfolding body_at
body_taken [] u fits e = absurd cc
body_taken (high ∷ []) u fits e = absurd cc
body_taken (high ∷ low ∷ rest) u fits e =
    let n : ℕ = two high low in
    let t = two_is high low rest fits in
    elim (chosen (ltb (length rest) n) (Err (0, AttributeList)) (thereafter (2 + n) (list_at (drop n rest))) (Ok u) e) [
      | inl a ↦ absurd (let clash : Err (0, AttributeList) ≡ Ok u = a.1 in cc)
      | inr b ↦
          let le : n ≤ length rest = ltb-false _ _ b.0 in
          let c = cut_at_len n (high ∷ low ∷ rest) rest t.1 le in
          let s = list_taken (drop n rest) u (octets_after n rest (rest_fits high low rest fits)) (after_ok (2 + n) (list_at (drop n rest)) u b.1)
          in
          record {
            withdrawn = take n rest;
            list = s.list;
            rest = s.rest;
            parts = c.1 ∙ ap (λ (xs : List ℕ). to_be_bytes w16 (length (take n rest)) ++ (take n rest ++ xs)) s.parts;
            spelled = s.spelled;
          }
    ]

-- a fault after the withdrawn routes
list_faulty : (withdrawn xs body : List ℕ) (offset place : ℕ) (e : StreamFault) → length withdrawn < 2 ^ 16
    → body ≡ to_be_bytes w16 (length withdrawn) ++ (withdrawn ++ xs) → ListFault xs place e → offset ≡ 2 + length withdrawn + place
    → BodyFault body offset e
list_faulty withdrawn xs body offset place e small parts (cut lt at fault) there =
    length_cut withdrawn xs small parts lt (omega (arith, at, there)) fault
list_faulty withdrawn xs body offset place e small parts (long len rest fits more lt at fault) there =
    attributes_long withdrawn len rest small fits (parts ∙ ap (λ (ys : List ℕ). to_be_bytes w16 (length withdrawn) ++ (withdrawn ++ ys)) more) lt
    (omega (arith, at, there)) fault
list_faulty withdrawn xs body offset place e small parts (inside list rest inner fits more faulty at) there =
    in_attributes withdrawn list rest inner small fits (parts ∙ ap (λ (ys : List ℕ). to_be_bytes w16 (length withdrawn) ++ (withdrawn ++ ys)) more)
    faulty (omega (arith, at, there))

pub body_fails : (body : List ℕ) (offset : ℕ) (e : StreamFault) → IsOctets body → 2 ≤ length body → body_at body ≡ Err (offset, e)
    → BodyFault body offset e
unfolding body_at
body_fails [] offset e fits le h = absurd (omega arith)
body_fails (high ∷ []) offset e fits le h = absurd (omega arith)
body_fails (high ∷ low ∷ rest) offset e fits le h =
    let n : ℕ = two high low in
    let t = two_is high low rest fits in
    elim (chosen (ltb (length rest) n) (Err (0, AttributeList)) (thereafter (2 + n) (list_at (drop n rest))) (Err (offset, e)) h) [
      | inl a ↦
          let p : (0, AttributeList) ≡ (offset, e) = err_is {A = Update} (0, AttributeList) (offset, e) a.1 in
          withdrawn_long n rest t.0 t.1 (ltb-true _ _ a.0) (sym (ap (λ (q : ℕ × StreamFault). q.0) p)) (sym (ap (λ (q : ℕ × StreamFault). q.1) p))
      | inr b ↦
          let le : n ≤ length rest = ltb-false _ _ b.0 in
          let c = cut_at_len n (high ∷ low ∷ rest) rest t.1 le in
          let f = after_err (2 + n) (list_at (drop n rest)) offset e b.1 in
          list_faulty (take n rest) (drop n rest) (high ∷ low ∷ rest) offset f.0 e (omega (arith, c.0, t.0)) c.1
          (list_fails (drop n rest) f.0 e (octets_after n rest (rest_fits high low rest fits)) f.1) (omega (arith, f.2, c.0))
    ]

-- the octets after the withdrawn routes
after_withdrawn : (withdrawn xs body : List ℕ) → IsOctets body → body ≡ to_be_bytes w16 (length withdrawn) ++ (withdrawn ++ xs) → IsOctets xs
after_withdrawn withdrawn xs body fits parts =
    IsOctets-after withdrawn xs (IsOctets-after (to_be_bytes w16 (length withdrawn)) (withdrawn ++ xs) (subst IsOctets parts fits))

faulty_list : (withdrawn xs body : List ℕ) (offset place : ℕ) (e : StreamFault) → IsOctets body → length withdrawn < 2 ^ 16
    → body ≡ to_be_bytes w16 (length withdrawn) ++ (withdrawn ++ xs) → ListFault xs place e → offset ≡ 2 + length withdrawn + place
    → body_at body ≡ Err (offset, e)
faulty_list withdrawn xs body offset place e fits small parts faulty there =
    ap body_at parts
    ∙ body_at_text withdrawn xs small
    ∙ ap (thereafter (2 + length withdrawn)) (fails_list xs place e (after_withdrawn withdrawn xs body fits parts) faulty)
    ∙ err_same (2 + length withdrawn + place) offset e e (sym there) refl

pub fails_body : (body : List ℕ) (offset : ℕ) (e : StreamFault) → IsOctets body → BodyFault body offset e → body_at body ≡ Err (offset, e)
fails_body body offset e fits (withdrawn_long len rest small parts lt at fault) =
    ap body_at parts ∙ body_at_two len rest small ∙ take_branch (ltb (length rest) len) _ _ (lt-ltb _ _ lt)
    ∙ err_same 0 offset AttributeList e (sym at) (sym fault)
fails_body body offset e fits (length_cut withdrawn rest small parts lt at fault) =
    faulty_list withdrawn rest body offset 0 e fits small parts (cut lt refl fault) (omega (arith, at))
fails_body body offset e fits (attributes_long withdrawn len rest small fits_len parts lt at fault) =
    faulty_list withdrawn (to_be_bytes w16 len ++ rest) body offset 0 e fits small parts (long len rest fits_len refl lt refl fault)
    (omega (arith, at))
fails_body body offset e fits (in_attributes withdrawn list rest place small fits_list parts faulty at) =
    faulty_list withdrawn (to_be_bytes w16 (length list) ++ (list ++ rest)) body offset (2 + place) e fits small parts
    (inside list rest place fits_list refl faulty refl) (omega (arith, at))
