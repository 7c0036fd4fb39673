-- Reading parts from left to right finds those that stand, and the first fault.
use Rattle.std.proofs.Common.{◌≡◌, ℕ, zero, suc, ◌+◌, ◌-◌, ◌<◌, ◌≤◌, List, [], ◌∷◌, ◌++◌, length, take, drop, Result, Ok, Err, refl, sym, ap, subst, ◌∙◌, append_assoc, arith}
use Rattle.std.proofs.Math.Nat.{add-zero}
use Rattle.std.proofs.lemmas.List.{length-append, length-drop, length-take-le, drop_at, drop-drop, take_rest, append-nil, take-append-drop}
use Rattle.mv_base.specs.Octets.{IsOctets}
use Rattle.mv_base.proofs.Fields.{octets_after}
use Rattle.mv_base.specs.framing.Parts.{ArePartsAfter, AreParts, PartFails, parts_at, parts_of}

-- A reader answers exactly the part that stands at the front, or the fault there.
pub record IsPartReader {M E : Type 0} (read : List M → List ℕ → Result (M × ℕ) (ℕ × E)) (Spells : M → List ℕ → Type 0) (Fits : List M → M → Type 0)
    (Faulty : List M → List ℕ → ℕ → E → Type 0) : Type 0 where
  pub taken : (before : List M) (xs : List ℕ) (m : M) (n : ℕ) → IsOctets xs → 0 < length xs → read before xs ≡ Ok (m, n)
      → (0 < n) × (n ≤ length xs) × Spells m (take n xs) × Fits before m
  pub again : (before : List M) (m : M) (text after : List ℕ) → Spells m text → Fits before m → read before (text ++ after) ≡ Ok (m, length text)
  pub filled : (m : M) (text : List ℕ) → Spells m text → 0 < length text
  pub fails : (before : List M) (xs : List ℕ) (offset : ℕ) (e : E) → IsOctets xs → 0 < length xs → read before xs ≡ Err (offset, e)
      → Faulty before xs offset e
  pub faulty : (before : List M) (xs : List ℕ) (offset : ℕ) (e : E) → IsOctets xs → 0 < length xs → Faulty before xs offset e
      → read before xs ≡ Err (offset, e)

-- ---- one step

pub passed : {M E : Type 0} (read : List M → List ℕ → Result (M × ℕ) (ℕ × E)) (before : List M) (n place : ℕ) (bs : List ℕ) → n ≤ length bs
    → parts_at read before place n bs ≡ parts_at read before (place + n) 0 (drop n bs)
unfolding parts_at
passed read before zero place bs le = rw add-zero refl
passed read before (suc n) place [] le = absurd (omega arith)
passed read before (suc n) place (b ∷ bs) le =
    let e : place + 1 + n ≡ place + suc n = omega arith in
    passed read before n (place + 1) bs (omega arith) ∙ ap (λ (p : ℕ). parts_at read before p 0 (drop n bs)) e

-- Past the part that stands here.
pub one_further : {M E : Type 0} (read : List M → List ℕ → Result (M × ℕ) (ℕ × E)) (before : List M) (place n : ℕ) (m : M) (xs : List ℕ) → 0 < n
    → n ≤ length xs → read before xs ≡ Ok (m, n) → parts_at read before place 0 xs ≡ parts_at read (before ++ m ∷ []) (place + n) 0 (drop n xs)
unfolding parts_at
one_further read before place zero m xs pos le e = absurd (omega arith)
one_further read before place (suc n) m [] pos le e = absurd (omega arith)
one_further read before place (suc n) m (b ∷ bs) pos le e =
    let there : place + 1 + n ≡ place + suc n = omega arith in
    let down : suc n - 1 ≡ n = omega arith in
    rw (e, parts_at, down) (passed read (before ++ m ∷ []) n (place + 1) bs (omega arith)
    ∙ ap (λ (p : ℕ). parts_at read (before ++ m ∷ []) p 0 (drop n bs)) there)

-- A fault stands here.
pub stops : {M E : Type 0} (read : List M → List ℕ → Result (M × ℕ) (ℕ × E)) (before : List M) (place offset : ℕ) (fault : E) (xs : List ℕ)
    → 0 < length xs → read before xs ≡ Err (offset, fault) → parts_at read before place 0 xs ≡ Err (place + offset, fault)
unfolding parts_at
stops read before place offset fault [] more e = absurd (omega arith)
stops read before place offset fault (b ∷ bs) more e = rw (e, parts_at) refl

-- No octets are left.
pub ends : {M E : Type 0} (read : List M → List ℕ → Result (M × ℕ) (ℕ × E)) (before : List M) (place : ℕ) (xs : List ℕ) → length xs ≤ 0
    → parts_at read before place 0 xs ≡ Ok before
unfolding parts_at
ends read before place [] le = refl
ends read before place (b ∷ bs) le = absurd (omega arith)

-- ---- parts that stand are passed

pub past_all : {M E : Type 0} (read : List M → List ℕ → Result (M × ℕ) (ℕ × E)) (Spells : M → List ℕ → Type 0) (Fits : List M → M → Type 0)
    (Faulty : List M → List ℕ → ℕ → E → Type 0) → IsPartReader read Spells Fits Faulty
    → (before : List M) (place there : ℕ) (octets : List ℕ) (ms : List M) (rest : List ℕ) → ArePartsAfter Spells Fits before octets ms rest
    → there + length rest ≡ place + length octets → parts_at read before place 0 octets ≡ parts_at read (before ++ ms) there 0 rest
past_all {M} read Spells Fits Faulty reader before place there octets [] rest h at =
    let same : place ≡ there = omega (arith, at, ap (λ (xs : List ℕ). length xs) h) in
    ap (λ (xs : List ℕ). parts_at read before place 0 xs) h ∙ ap (λ (p : ℕ). parts_at read before p 0 rest) same
    ∙ ap (λ (ms : List M). parts_at read ms there 0 rest) (sym (append-nil before))
past_all {M} read Spells Fits Faulty reader before place there octets (m ∷ ms) rest (text, after, spells, fits, parts, more) at =
    let thereafter : there + length rest ≡ place + length text + length after =
    omega (arith, at, ap (λ (xs : List ℕ). length xs) parts, length-append text after) in
    ap (λ (xs : List ℕ). parts_at read before place 0 xs) parts
    ∙ one_further read before place (length text) m (text ++ after) (reader.filled m text spells) (omega (arith, length-append text after))
    (reader.again before m text after spells fits)
    ∙ ap (λ (xs : List ℕ). parts_at read (before ++ m ∷ []) (place + length text) 0 xs) (drop_at text after (length text) refl)
    ∙ past_all read Spells Fits Faulty reader (before ++ m ∷ []) (place + length text) there after ms rest more thereafter
    ∙ ap (λ (ns : List M). parts_at read ns there 0 rest) (append_assoc before (m ∷ []) ms)

-- Parts that stand are read.
pub parts_again : {M E : Type 0} (read : List M → List ℕ → Result (M × ℕ) (ℕ × E)) (Spells : M → List ℕ → Type 0) (Fits : List M → M → Type 0)
    (Faulty : List M → List ℕ → ℕ → E → Type 0) → IsPartReader read Spells Fits Faulty
    → (octets : List ℕ) (ms : List M) → AreParts Spells Fits octets ms [] → parts_of read octets ≡ Ok ms
parts_again read Spells Fits Faulty reader octets ms h =
    past_all read Spells Fits Faulty reader [] 0 (length octets) octets ms [] h (omega arith) ∙ ends read ms (length octets) [] (omega arith)

-- The rest is no longer than the whole.
pub rest_within : {M : Type 0} (Spells : M → List ℕ → Type 0) (Fits : List M → M → Type 0) (before : List M) (octets : List ℕ) (ms : List M)
    (rest : List ℕ) → ArePartsAfter Spells Fits before octets ms rest → length rest ≤ length octets
rest_within Spells Fits before octets [] rest h = omega (arith, ap (λ (xs : List ℕ). length xs) h)
rest_within Spells Fits before octets (m ∷ ms) rest (text, after, spells, fits, parts, more) =
    omega (arith, rest_within Spells Fits (before ++ m ∷ []) after ms rest more, ap (λ (xs : List ℕ). length xs) parts, length-append text after)

-- A first fault is met.
pub fault_again : {M E : Type 0} (read : List M → List ℕ → Result (M × ℕ) (ℕ × E)) (Spells : M → List ℕ → Type 0) (Fits : List M → M → Type 0)
    (Faulty : List M → List ℕ → ℕ → E → Type 0) → IsPartReader read Spells Fits Faulty
    → (octets : List ℕ) (place : ℕ) (e : E) → IsOctets octets → PartFails Spells Fits Faulty octets place e → parts_of read octets ≡ Err (place, e)
fault_again {M} {E} read Spells Fits Faulty reader octets place e fits h =
    let len : length h.rest ≤ length octets = rest_within Spells Fits [] octets h.parts h.rest h.stand in
    let there : ℕ = length octets - length h.rest in
    let here : there + h.offset ≡ place = omega (arith, h.at, len) in
    past_all read Spells Fits Faulty reader [] 0 there octets h.parts h.rest h.stand (omega (arith, len))
    ∙ stops read h.parts there h.offset e h.rest h.follow
    (reader.faulty h.parts h.rest h.offset e (rest_octets [] octets h.parts h.rest fits h.stand) h.follow h.faulty)
    ∙ ap (λ (p : ℕ). Err (p, e)) here
  where
    rest_octets : (before : List M) (octets : List ℕ) (ms : List M) (rest : List ℕ) → IsOctets octets
        → ArePartsAfter Spells Fits before octets ms rest → IsOctets rest
    rest_octets before octets [] rest fits h = subst IsOctets h fits
    rest_octets before octets (m ∷ ms) rest fits (text, after, spells, is, parts, more) =
        rest_octets (before ++ m ∷ []) after ms rest
        (subst IsOctets (drop_at text after (length text) refl) (octets_after (length text) (text ++ after) (subst IsOctets parts fits))) more

-- ---- what reading finds

-- what stands in octets whose first stands at the place, after those parts
abbrev Outcome : {M E : Type 0} → (M → List ℕ → Type 0) → (List M → M → Type 0) → (List M → List ℕ → ℕ → E → Type 0) → List M → ℕ → List ℕ
    → Result (List M) (ℕ × E) → Type 0
Outcome {M} Spells Fits Faulty before place octets (Ok all) = (ms : List M) × (all ≡ before ++ ms) × ArePartsAfter Spells Fits before octets ms []
Outcome {M} Spells Fits Faulty before place octets (Err f) =
    (ms : List M) × (rest : List ℕ) × (offset : ℕ) × ArePartsAfter Spells Fits before octets ms rest × (0 < length rest)
    × (f.0 + length rest ≡ place + length octets + offset) × Faulty (before ++ ms) rest offset f.1

thereafter : {M E : Type 0} (Spells : M → List ℕ → Type 0) (Fits : List M → M → Type 0) (Faulty : List M → List ℕ → ℕ → E → Type 0) (before : List M)
    (place : ℕ) (m : M) (text after octets : List ℕ) (r : Result (List M) (ℕ × E))
    → Spells m text → Fits before m → octets ≡ text ++ after → Outcome Spells Fits Faulty (before ++ m ∷ []) (place + length text) after r
    → Outcome Spells Fits Faulty before place octets r
thereafter Spells Fits Faulty before place m text after octets (Ok all) spells fits parts (ms, same, stand) =
    (m ∷ ms, same ∙ append_assoc before (m ∷ []) ms, (text, after, spells, fits, parts, stand))
thereafter Spells Fits Faulty before place m text after octets (Err f) spells fits parts (ms, rest, offset, stand, follow, at, faulty) = (
  m ∷ ms,
  rest,
  offset,
  (text, after, spells, fits, parts, stand),
  follow,
  omega (arith, at, ap (λ (xs : List ℕ). length xs) parts, length-append text after),
  subst (λ (ns : List _). Faulty ns rest offset f.1) (append_assoc before (m ∷ []) ms) faulty,
)

step : {M E : Type 0} (read : List M → List ℕ → Result (M × ℕ) (ℕ × E)) (Spells : M → List ℕ → Type 0) (Fits : List M → M → Type 0)
    (Faulty : List M → List ℕ → ℕ → E → Type 0) → IsPartReader read Spells Fits Faulty
    → (before : List M) (place : ℕ) (xs : List ℕ) → 0 < length xs → IsOctets xs
    → ((ns : List M) (p : ℕ) (ys : List ℕ) → length ys < length xs → IsOctets ys → Outcome Spells Fits Faulty ns p ys (parts_at read ns p 0 ys))
    → (o : Result (M × ℕ) (ℕ × E)) → read before xs ≡ o → Outcome Spells Fits Faulty before place xs (parts_at read before place 0 xs)
step read Spells Fits Faulty reader before place xs more fits others (Err f) e =
    let faulty = reader.fails before xs f.0 f.1 fits more e in
    subst (Outcome Spells Fits Faulty before place xs) (sym (stops read before place f.0 f.1 xs more e))
    ([], xs, f.0, refl, more, omega arith, subst (λ (ns : List _). Faulty ns xs f.0 f.1) (sym (append-nil before)) faulty)
step read Spells Fits Faulty reader before place xs more fits others (Ok x) e =
    let (pos, le, spells, is) = reader.taken before xs x.0 x.1 fits more e in
    let text : List ℕ = take x.1 xs in
    let size : length text ≡ x.1 = length-take-le x.1 xs le in
    let less : length (drop x.1 xs) < length xs = omega (arith, length-drop x.1 xs) in
    let further : parts_at read before place 0 xs ≡ parts_at read (before ++ x.0 ∷ []) (place + length text) 0 (drop x.1 xs) =
    one_further read before place x.1 x.0 xs pos le e ∙ ap (λ (n : ℕ). parts_at read (before ++ x.0 ∷ []) (place + n) 0 (drop x.1 xs)) (sym size) in
    subst (Outcome Spells Fits Faulty before place xs) (sym further)
    (thereafter Spells Fits Faulty before place x.0 text (drop x.1 xs) xs (parts_at read (before ++ x.0 ∷ []) (place + length text) 0 (drop x.1 xs))
    spells is (sym (take-append-drop x.1 xs)) (others (before ++ x.0 ∷ []) (place + length text) (drop x.1 xs) less (octets_after x.1 xs fits)))

outcome : {M E : Type 0} (read : List M → List ℕ → Result (M × ℕ) (ℕ × E)) (Spells : M → List ℕ → Type 0) (Fits : List M → M → Type 0)
    (Faulty : List M → List ℕ → ℕ → E → Type 0) → IsPartReader read Spells Fits Faulty
    → (n : ℕ) (before : List M) (place : ℕ) (xs : List ℕ) → length xs ≤ n → IsOctets xs
    → Outcome Spells Fits Faulty before place xs (parts_at read before place 0 xs)
outcome read Spells Fits Faulty reader n before place [] le fits =
    subst (Outcome Spells Fits Faulty before place []) (sym (ends read before place [] (omega arith))) ([], sym (append-nil before), refl)
outcome read Spells Fits Faulty reader zero before place (b ∷ bs) le fits = absurd (omega arith)
outcome read Spells Fits Faulty reader (suc n) before place (b ∷ bs) le fits =
    step read Spells Fits Faulty reader before place (b ∷ bs) (omega arith) fits
    (λ ns p ys lt f. outcome read Spells Fits Faulty reader n ns p ys (omega arith) f) (read before (b ∷ bs)) refl

-- Parts that are read stand.
pub parts_found : {M E : Type 0} (read : List M → List ℕ → Result (M × ℕ) (ℕ × E)) (Spells : M → List ℕ → Type 0) (Fits : List M → M → Type 0)
    (Faulty : List M → List ℕ → ℕ → E → Type 0) → IsPartReader read Spells Fits Faulty
    → (octets : List ℕ) (ms : List M) → IsOctets octets → parts_of read octets ≡ Ok ms → AreParts Spells Fits octets ms []
parts_found read Spells Fits Faulty reader octets ms fits e =
    let (found, same, stand) =
    subst (Outcome Spells Fits Faulty [] 0 octets) e (outcome read Spells Fits Faulty reader (length octets) [] 0 octets (omega arith) fits) in
    subst (λ (ns : List _). AreParts Spells Fits octets ns []) (sym same) stand

-- A fault that is met is the first.
pub fault_found : {M E : Type 0} (read : List M → List ℕ → Result (M × ℕ) (ℕ × E)) (Spells : M → List ℕ → Type 0) (Fits : List M → M → Type 0)
    (Faulty : List M → List ℕ → ℕ → E → Type 0) → IsPartReader read Spells Fits Faulty
    → (octets : List ℕ) (place : ℕ) (fault : E) → IsOctets octets → parts_of read octets ≡ Err (place, fault)
    → PartFails Spells Fits Faulty octets place fault
fault_found read Spells Fits Faulty reader octets place fault fits e =
    let (ms, rest, offset, stand, follow, at, faulty) =
    subst (Outcome Spells Fits Faulty [] 0 octets) e (outcome read Spells Fits Faulty reader (length octets) [] 0 octets (omega arith) fits) in
    record { parts = ms; rest = rest; offset = offset; stand = stand; follow = follow; at = omega (arith, at); faulty = faulty }

-- ---- the loop that reads parts

-- From here on what is read is what is read from the start.
pub record OnParts {M E : Type 0} (read : List M → List ℕ → Result (M × ℕ) (ℕ × E)) (octets : List ℕ) (place : ℕ) (before : List M) : Type 0 where
  pub within : place ≤ length octets
  pub same : parts_at read before place 0 (drop place octets) ≡ parts_of read octets

pub on_parts_start : {M E : Type 0} (read : List M → List ℕ → Result (M × ℕ) (ℕ × E)) (octets : List ℕ) → OnParts read octets 0 []
on_parts_start read octets = record { within = omega arith; same = refl }

-- `&octets[place..]`
abbrev pub tail_of : List ℕ → ℕ → List ℕ
tail_of octets place = take (length octets - place) (drop place octets)

-- A part was read.
pub on_parts_more : {M E : Type 0} (read : List M → List ℕ → Result (M × ℕ) (ℕ × E)) (octets : List ℕ) (place n : ℕ) (before : List M) (m : M)
    → OnParts read octets place before → 0 < n → n ≤ length (tail_of octets place) → read before (tail_of octets place) ≡ Ok (m, n)
    → OnParts read octets (place + n) (before ++ m ∷ [])
on_parts_more {M} read octets place n before m w pos le e =
    let le' : n ≤ length (drop place octets) = subst (λ (xs : List ℕ). n ≤ length xs) (take_rest octets place) le in
    let e' : read before (drop place octets) ≡ Ok (m, n) = ap (read before) (sym (take_rest octets place)) ∙ e in
    record {
      within = omega (arith, w.within, le', length-drop place octets);
      same = ap (λ (xs : List ℕ). parts_at read (before ++ m ∷ []) (place + n) 0 xs) (sym (drop-drop n place octets))
          ∙ sym (one_further read before place n m (drop place octets) pos le' e') ∙ w.same;
    }

-- A fault was met.
pub on_parts_fault : {M E : Type 0} (read : List M → List ℕ → Result (M × ℕ) (ℕ × E)) (octets : List ℕ) (place offset : ℕ) (before : List M)
    (fault : E) → OnParts read octets place before → place < length octets → read before (tail_of octets place) ≡ Err (offset, fault)
    → parts_of read octets ≡ Err (place + offset, fault)
on_parts_fault read octets place offset before fault w more e =
    let e' : read before (drop place octets) ≡ Err (offset, fault) = ap (read before) (sym (take_rest octets place)) ∙ e in
    sym w.same ∙ stops read before place offset fault (drop place octets) (omega (arith, more, length-drop place octets)) e'

-- All was read.
pub on_parts_end : {M E : Type 0} (read : List M → List ℕ → Result (M × ℕ) (ℕ × E)) (octets : List ℕ) (place : ℕ) (before : List M)
    → OnParts read octets place before → length octets ≤ place → parts_of read octets ≡ Ok before
on_parts_end read octets place before w le =
    sym w.same ∙ ends read before place (drop place octets) (omega (arith, le, length-drop place octets))
