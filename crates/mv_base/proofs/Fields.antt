-- Fields read and written: what is taken was there, what stands there is taken, and Short is answered exactly where it is not there.
use Rattle.std.proofs.Common.{◌≡◌, ◌≢◌, ℕ, zero, suc, ◌+◌, ◌/◌, ◌%◌, ◌^◌, ◌<◌, ◌≤◌, Bool, true, false, cond, ltb, ◌⊎◌, List, [], ◌∷◌, ◌++◌, length, get_or, take, drop, Option, Some, None, Result, Ok, Err, refl, sym, ap, subst, ◌∙◌, append_assoc, arith, inl, inr}
use Rattle.std.specs.Int.{Width, w16, w32, byte_len, from_be_bytes, to_be_bytes}
use Rattle.std.proofs.lemmas.Bool.{cases_lt, ltb-false, ltb-true, le-ltb, lt-ltb}
use Rattle.std.proofs.lemmas.List.{take_at, drop_at, take-append-drop, length-append, length-take, length-take-le, get_or-drop, get_or-take, get_or_past, drop-drop}
use Rattle.std.proofs.Math.Nat.{zero-add}
use Rattle.std.proofs.lemmas.Nat.{be_bytes_2, from_be_bytes-to_be_bytes_2, be_bytes_4, from_be_bytes-to_be_bytes_4}
use Rattle.mv_base.specs.declared.reader.Short.{Short}
use Rattle.mv_base.specs.Octets.{Cursor, Passes, IsOctets}
use Rattle.mv_base.specs.Cursor.{octet_at, octets_at, number_at, three, number24_at, ◌>>=◌, field, known, checked}
use Rattle.mv_base.specs.Writing.{put_at}

-- ---- octets

-- Octets after a front are octets, and so is the front.
pub octets_after : (n : ℕ) (octets : List ℕ) → IsOctets octets → IsOctets (drop n octets)
octets_after n octets h i = rw get_or-drop (h (n + i))

pub octets_before : (n : ℕ) (octets : List ℕ) → IsOctets octets → IsOctets (take n octets)
octets_before n octets h i =
    elim (cases_lt i n) [
      | inl lt ↦ rw (get_or-take n octets i 0 lt) (h i)
      | inr le ↦ rw (get_or_past (take n octets) i 0 (omega (arith, length-take n octets))) (omega arith)
    ]

octets_cons : (octets : List ℕ) → IsOctets octets → IsOctets (0 ∷ octets)
octets_cons octets fits zero = omega arith
octets_cons octets fits (suc i) = fits i

-- ---- writing

-- Two texts written end to end are one text written.
pub puts : (old a b : List ℕ) (p q : ℕ) → p + length a ≤ length old → q ≡ p + length a → put_at (put_at old p a) q b ≡ put_at old p (a ++ b)
unfolding put_at
puts old a b p q room at =
    let front : length (take p old ++ a) ≡ q = omega (arith, length-append (take p old) a, length-take p old) in
    let whole : take p old ++ (a ++ drop (p + length a) old) ≡ (take p old ++ a) ++ drop q old =
    rw (at) (sym (append_assoc (take p old) a (drop (p + length a) old))) in
    let taken : take q (take p old ++ (a ++ drop (p + length a) old)) ≡ take p old ++ a = rw whole (take_at (take p old ++ a) (drop q old) q front) in
    let back : drop (q + length b) (take p old ++ (a ++ drop (p + length a) old)) ≡ drop (p + length (a ++ b)) old =
    ap (λ (xs : List ℕ). drop (q + length b) xs) whole
    ∙ sym (drop-drop (length b) q ((take p old ++ a) ++ drop q old))
    ∙ ap (λ (xs : List ℕ). drop (length b) xs) (drop_at (take p old ++ a) (drop q old) q front)
    ∙ drop-drop (length b) q old
    ∙ ap (λ (n : ℕ). drop n old) (omega (arith, length-append a b)) in
    rw (taken, back) (append_assoc (take p old) a (b ++ drop (p + length (a ++ b)) old)
    ∙ ap (λ (xs : List ℕ). take p old ++ xs) (sym (append_assoc a b (drop (p + length (a ++ b)) old))))

-- A text written at the front stands there, and the others stay after it.
pub put_at_front : (old a : List ℕ) → put_at old 0 a ≡ a ++ drop (length a) old
unfolding put_at
put_at_front old a = rw zero-add refl

-- ---- a test before a value

guard_ok : {A E : Type 0} (b : Bool) (d : E) (x y : A) → cond b (Err d) (Ok x) ≡ Ok y → (b ≡ false) × (x ≡ y)
guard_ok true d x y e = absurd cc
guard_ok false d x y e = (refl, cc)

guard_err : {A E : Type 0} (b : Bool) (d : E) (x : A) (f : E) → cond b (Err d) (Ok x) ≡ Err f → (b ≡ true) × (d ≡ f)
guard_err true d x f e = (refl, cc)
guard_err false d x f e = absurd cc

-- ---- texts that are passed

-- Two texts that are passed are one.
pub passes_then : (a : Cursor) (x : List ℕ) (b : Cursor) (y : List ℕ) (c : Cursor) → Passes a x b → Passes b y c → Passes a (x ++ y) c
passes_then a x b y c p q = record {
  parts = p.parts ∙ ap (λ (t : List ℕ). x ++ t) q.parts ∙ sym (append_assoc x y c.left);
  place = omega (arith, p.place, q.place, length-append x y);
}

-- What is after octets is octets, and so is the text that is passed.
pub passes_octets : (c : Cursor) (text : List ℕ) (d : Cursor) → Passes c text d → IsOctets c.left → IsOctets d.left
passes_octets c text d p fits = rw (← drop_at text d.left (length text) refl) (octets_after (length text) (text ++ d.left) (rw (← p.parts) fits))

pub passes_text : (c : Cursor) (text : List ℕ) (d : Cursor) → Passes c text d → IsOctets c.left → IsOctets text
passes_text c text d p fits = rw (← take_at text d.left (length text) refl) (octets_before (length text) (text ++ d.left) (rw (← p.parts) fits))

-- Equal texts, and equal cursors after them.
pub passes_is : (c : Cursor) (x y : List ℕ) (d e : Cursor) → Passes c x d → x ≡ y → d ≡ e → Passes c y e
passes_is c x y d e p same there = rw (← same, ← there) p

-- One text that is passed is two.
pub passes_split : (c : Cursor) (x y : List ℕ) (d : Cursor) → Passes c (x ++ y) d → (m : Cursor) × Passes c x m × Passes m y d
passes_split c x y d p = (
  record { left = y ++ d.left; place = c.place + length x },
  record { parts = p.parts ∙ append_assoc x y d.left; place = refl },
  record { parts = refl; place = omega (arith, p.place, length-append x y) },
)

-- All cursors of an input have one end.
pub passes_end : (c : Cursor) (text : List ℕ) (d : Cursor) → Passes c text d → d.place + length d.left ≡ c.place + length c.left
passes_end c text d p = omega (arith, p.place, ap (λ (xs : List ℕ). length xs) p.parts, length-append text d.left)

-- a cursor is its parts
cursor_is : (left : List ℕ) (place : ℕ) (d : Cursor) → left ≡ d.left → place ≡ d.place → record { left = left; place = place } ≡ d
cursor_is left place d p q = rw (p, q) refl

after_is : (c : Cursor) (text : List ℕ) (d : Cursor) (n : ℕ) → Passes c text d → length text ≡ n
    → record { left = drop n c.left; place = c.place + n } ≡ d
after_is c text d n p len = cursor_is (drop n c.left) (c.place + n) d (rw p.parts (drop_at text d.left n len)) (omega (arith, p.place, len))

-- ---- so many octets

-- the answer where fewer than n octets are left
abbrev pub missing : ℕ → Cursor → Short
missing n c = record { place = c.place; needed = n; left = length c.left }

pub octets_taken : (n : ℕ) (c : Cursor) (x : List ℕ × Cursor) → octets_at n c ≡ Ok x → Passes c x.0 x.1 × (length x.0 ≡ n)
octets_taken n c x e =
    let g = guard_ok (ltb (length c.left) n) (record { place = c.place; needed = n; left = length c.left })
    (take n c.left, record { left = drop n c.left; place = c.place + n }) x e in
    let len : length (take n c.left) ≡ n = length-take-le n c.left (ltb-false _ _ g.0) in
    subst (λ (y : List ℕ × Cursor). Passes c y.0 y.1 × (length y.0 ≡ n)) g.1
    (record { parts = sym (take-append-drop n c.left); place = rw len refl }, len)

pub octets_again : (n : ℕ) (c : Cursor) (text : List ℕ) (d : Cursor) → Passes c text d → length text ≡ n → octets_at n c ≡ Ok (text, d)
octets_again n c text d p len =
    let long : ltb (length c.left) n ≡ false = le-ltb _ _ (omega (arith, ap (λ (xs : List ℕ). length xs) p.parts, length-append text d.left)) in
    let front : take n c.left ≡ text = rw p.parts (take_at text d.left n len) in
    rw (long, front, after_is c text d n p len) refl

pub octets_lack : (n : ℕ) (c : Cursor) (f : Short) → octets_at n c ≡ Err f → (length c.left < n) × (missing n c ≡ f)
octets_lack n c f e =
    let g = guard_err (ltb (length c.left) n) (missing n c) (take n c.left, record { left = drop n c.left; place = c.place + n }) f e in
    (ltb-true _ _ g.0, g.1)

pub lacks_octets : (n : ℕ) (c : Cursor) → length c.left < n → octets_at n c ≡ Err (missing n c)
lacks_octets n c lt = rw (lt-ltb _ _ lt) refl

-- ---- one octet

cons_is : (xs : List ℕ) → 1 ≤ length xs → xs ≡ get_or xs 0 0 ∷ drop 1 xs
cons_is [] le = absurd (omega arith)
cons_is (x ∷ xs) le = refl

pub octet_taken : (c : Cursor) (x : ℕ × Cursor) → octet_at c ≡ Ok x → Passes c (x.0 ∷ []) x.1
octet_taken c x e =
    let g = guard_ok (ltb (length c.left) 1) (missing 1 c) (get_or c.left 0 0, record { left = drop 1 c.left; place = c.place + 1 }) x e in
    subst (λ (y : ℕ × Cursor). Passes c (y.0 ∷ []) y.1) g.1 (record { parts = cons_is c.left (ltb-false _ _ g.0); place = refl })

pub octet_again : (c : Cursor) (b : ℕ) (d : Cursor) → Passes c (b ∷ []) d → octet_at c ≡ Ok (b, d)
octet_again c b d p =
    let long : ltb (length c.left) 1 ≡ false = le-ltb _ _ (omega (arith, ap (λ (xs : List ℕ). length xs) p.parts)) in
    let front : get_or c.left 0 0 ≡ b = rw p.parts refl in
    rw (long, front, after_is c (b ∷ []) d 1 p refl) refl

pub octet_lacks : (c : Cursor) (f : Short) → octet_at c ≡ Err f → (length c.left < 1) × (missing 1 c ≡ f)
octet_lacks c f e =
    let g = guard_err (ltb (length c.left) 1) (missing 1 c) (get_or c.left 0 0, record { left = drop 1 c.left; place = c.place + 1 }) f e in
    (ltb-true _ _ g.0, g.1)

pub lacks_octet : (c : Cursor) → length c.left < 1 → octet_at c ≡ Err (missing 1 c)
lacks_octet c lt = rw (lt-ltb _ _ lt) refl

-- ---- numbers of two and four octets

-- Octets of that width and numbers below the limit stand for each other.
pub record IsWide (w : Width) (limit : ℕ) : Type 0 where
  pub len : (n : ℕ) → length (to_be_bytes w n) ≡ byte_len w
  pub back : (octets : List ℕ) → length octets ≡ byte_len w → IsOctets octets → to_be_bytes w (from_be_bytes w octets) ≡ octets
  pub again : (n : ℕ) → n < limit → from_be_bytes w (to_be_bytes w n) ≡ n
  pub below : (octets : List ℕ) → IsOctets octets → from_be_bytes w octets < limit

pub wide16 : IsWide w16 (2 ^ 16)
wide16 = record {
  len = λ n. refl;
  back = λ octets len fits. be_bytes_2 octets _ len fits refl;
  again = λ n lt. from_be_bytes-to_be_bytes_2 n lt;
  below = λ octets fits. omega (arith, fits 0, fits 1);
}

pub wide32 : IsWide w32 (2 ^ 32)
wide32 = record {
  len = λ n. refl;
  back = λ octets len fits. be_bytes_4 octets _ len fits refl;
  again = λ n lt. from_be_bytes-to_be_bytes_4 n lt;
  below = λ octets fits. omega (arith, fits 0, fits 1, fits 2, fits 3);
}

pub number_taken : (w : Width) (limit : ℕ) → IsWide w limit → (c : Cursor) (x : ℕ × Cursor) → IsOctets c.left → number_at w c ≡ Ok x
    → Passes c (to_be_bytes w x.0) x.1 × (x.0 < limit)
number_taken w limit wide c x fits e =
    let k = byte_len w in
    let g = guard_ok (ltb (length c.left) k) (missing k c) (from_be_bytes w (take k c.left), record { left = drop k c.left; place = c.place + k }) x e
    in
    let len : length (take k c.left) ≡ k = length-take-le k c.left (ltb-false _ _ g.0) in
    let whole : to_be_bytes w (from_be_bytes w (take k c.left)) ≡ take k c.left = wide.back (take k c.left) len (octets_before k c.left fits) in
    subst (λ (y : ℕ × Cursor). Passes c (to_be_bytes w y.0) y.1 × (y.0 < limit)) g.1 (
      record { parts = rw whole (sym (take-append-drop k c.left)); place = rw (whole, len) refl },
      wide.below (take k c.left) (octets_before k c.left fits),
    )

pub number_again : (w : Width) (limit : ℕ) → IsWide w limit → (c : Cursor) (n : ℕ) (d : Cursor) → Passes c (to_be_bytes w n) d → n < limit
    → number_at w c ≡ Ok (n, d)
number_again w limit wide c n d p lt =
    let k = byte_len w in
    let len = wide.len n in
    let long : ltb (length c.left) k ≡ false =
    le-ltb _ _ (omega (arith, ap (λ (xs : List ℕ). length xs) p.parts, length-append (to_be_bytes w n) d.left)) in
    let front : take k c.left ≡ to_be_bytes w n = rw p.parts (take_at (to_be_bytes w n) d.left k len) in
    rw (long, front, wide.again n lt, after_is c (to_be_bytes w n) d k p len) refl

pub number_lacks : (w : Width) (c : Cursor) (f : Short) → number_at w c ≡ Err f → (length c.left < byte_len w) × (missing (byte_len w) c ≡ f)
number_lacks w c f e =
    let k = byte_len w in
    let g = guard_err (ltb (length c.left) k) (missing k c) (from_be_bytes w (take k c.left), record { left = drop k c.left; place = c.place + k }) f
    e in
    (ltb-true _ _ g.0, g.1)

pub lacks_number : (w : Width) (c : Cursor) → length c.left < byte_len w → number_at w c ≡ Err (missing (byte_len w) c)
lacks_number w c lt = rw (lt-ltb _ _ lt) refl

-- ---- numbers of three octets

three_is : (octets : List ℕ) → length octets ≡ 3 → IsOctets octets → three (from_be_bytes w32 (0 ∷ octets)) ≡ octets
three_is octets len fits = ap (λ (xs : List ℕ). drop 1 xs) (wide32.back (0 ∷ octets) (ap suc len) (octets_cons octets fits))

pub number24_taken : (c : Cursor) (x : ℕ × Cursor) → IsOctets c.left → number24_at c ≡ Ok x → Passes c (three x.0) x.1 × (x.0 < 2 ^ 24)
number24_taken c x fits e =
    let g = guard_ok (ltb (length c.left) 3) (missing 3 c)
    (from_be_bytes w32 (0 ∷ take 3 c.left), record { left = drop 3 c.left; place = c.place + 3 }) x e in
    let len : length (take 3 c.left) ≡ 3 = length-take-le 3 c.left (ltb-false _ _ g.0) in
    let f = octets_before 3 c.left fits in
    let whole : three (from_be_bytes w32 (0 ∷ take 3 c.left)) ≡ take 3 c.left = three_is (take 3 c.left) len f in
    let below : from_be_bytes w32 (0 ∷ take 3 c.left) < 2 ^ 24 = omega (arith, f 0, f 1, f 2) in
    subst (λ (y : ℕ × Cursor). Passes c (three y.0) y.1 × (y.0 < 2 ^ 24)) g.1 (
      passes_is c (take 3 c.left) (three (from_be_bytes w32 (0 ∷ take 3 c.left))) _ _
          (record { parts = sym (take-append-drop 3 c.left); place = ap (λ n. c.place + n) (sym len) }) (sym whole) refl,
      below,
    )

pub number24_again : (c : Cursor) (n : ℕ) (d : Cursor) → Passes c (three n) d → n < 2 ^ 24 → number24_at c ≡ Ok (n, d)
number24_again c n d p lt =
    let o = octets_again 3 c (three n) d p refl in
    let long : ltb (length c.left) 3 ≡ false = le-ltb _ _ (omega (arith, ap (λ (xs : List ℕ). length xs) p.parts)) in
    let front : take 3 c.left ≡ three n = rw p.parts (take_at (three n) d.left 3 refl) in
    let first : n / 16777216 % 256 ≡ 0 = omega arith in
    let whole : 0 ∷ three n ≡ to_be_bytes w32 n = ap (λ k. k ∷ three n) (sym first) in
    let back : from_be_bytes w32 (0 ∷ three n) ≡ n = ap (from_be_bytes w32) whole ∙ wide32.again n (omega arith) in
    rw (long, front, back, after_is c (three n) d 3 p refl) refl

pub number24_lacks : (c : Cursor) (f : Short) → number24_at c ≡ Err f → (length c.left < 3) × (missing 3 c ≡ f)
number24_lacks c f e =
    let g = guard_err (ltb (length c.left) 3) (missing 3 c)
    (from_be_bytes w32 (0 ∷ take 3 c.left), record { left = drop 3 c.left; place = c.place + 3 }) f e in
    (ltb-true _ _ g.0, g.1)

pub lacks_number24 : (c : Cursor) → length c.left < 3 → number24_at c ≡ Err (missing 3 c)
lacks_number24 c lt = rw (lt-ltb _ _ lt) refl

-- ---- the steps of a chain

abbrev pub done : {A E : Type 0} → A → Result A E
done x = Ok x

abbrev pub failed : {A E : Type 0} → E → Result A E
failed e = Err e

-- Equal answers have equal values, or equal faults, and no answer is both.
pub ok_is : {A E : Type 0} (x y : A) → done {E = E} x ≡ Ok y → x ≡ y
ok_is x y e = cc

pub err_is : {A E : Type 0} (c d : E) → failed {A = A} c ≡ Err d → c ≡ d
err_is c d e = cc

pub ok_or_err : {A E P : Type 0} (x : A) (d : E) → done x ≡ Err d → P
ok_or_err x d e = absurd cc

pub pair_is : {A B : Type 0} (p q : A × B) → p.0 ≡ q.0 → p.1 ≡ q.1 → p ≡ q
pair_is p q first second i = (first i, second i)

pub err_again : {A E : Type 0} {c d : E} → c ≡ d → failed {A = A} c ≡ Err d
err_again e = ap (λ x. Err x) e

-- What a chain went through, and where it stopped.
pub bind_ok : {A B E : Type 0} (r : Result A E) (f : A → Result B E) (y : B) → (r >>= f) ≡ Ok y → (x : A) × (r ≡ Ok x) × (f x ≡ Ok y)
bind_ok (Ok x) f y e = (x, refl, e)
bind_ok (Err d) f y e = absurd cc

pub bind_err : {A B E : Type 0} (r : Result A E) (f : A → Result B E) (e : E) → (r >>= f) ≡ Err e
    → (r ≡ Err e) ⊎ ((x : A) × (r ≡ Ok x) × (f x ≡ Err e))
bind_err (Ok x) f d e = inr (x, refl, e)
bind_err (Err c) f d e = inl (err_again (err_is c d e))

pub field_ok : {A E : Type 0} (lacks : ℕ → E) (r : Result A Short) (x : A) → field lacks r ≡ Ok x → r ≡ Ok x
field_ok lacks (Ok y) x e = let same : y ≡ x = cc in ap (λ b. Ok b) same
field_ok lacks (Err d) x e = absurd cc

pub field_err : {A E : Type 0} (lacks : ℕ → E) (r : Result A Short) (f : E) → field lacks r ≡ Err f → (s : Short) × (r ≡ Err s) × (f ≡ lacks s.place)
field_err lacks (Ok y) f e = absurd cc
field_err lacks (Err s) f e = (s, refl, cc)

-- a field of n octets that lacks some of them
lacks_is : {A E : Type 0} (n : ℕ) (c : Cursor) (lacks : ℕ → E) (r : Result A Short) (f : E)
    → ((s : Short) → r ≡ Err s → (length c.left < n) × (missing n c ≡ s)) → field lacks r ≡ Err f → (length c.left < n) × (f ≡ lacks c.place)
lacks_is n c lacks r f lack e =
    let s = field_err lacks r f e in
    let l = lack s.0 s.1 in
    (l.0, s.2 ∙ ap (λ m. lacks m.place) (sym l.1))

pub octets_short : {E : Type 0} (n : ℕ) (c : Cursor) (lacks : ℕ → E) (f : E) → field lacks (octets_at n c) ≡ Err f
    → (length c.left < n) × (f ≡ lacks c.place)
octets_short n c lacks f e = lacks_is n c lacks (octets_at n c) f (octets_lack n c) e

pub octet_short : {E : Type 0} (c : Cursor) (lacks : ℕ → E) (f : E) → field lacks (octet_at c) ≡ Err f → (length c.left < 1) × (f ≡ lacks c.place)
octet_short c lacks f e = lacks_is 1 c lacks (octet_at c) f (octet_lacks c) e

pub number_short : {E : Type 0} (w : Width) (c : Cursor) (lacks : ℕ → E) (f : E) → field lacks (number_at w c) ≡ Err f
    → (length c.left < byte_len w) × (f ≡ lacks c.place)
number_short w c lacks f e = lacks_is (byte_len w) c lacks (number_at w c) f (number_lacks w c) e

pub number24_short : {E : Type 0} (c : Cursor) (lacks : ℕ → E) (f : E) → field lacks (number24_at c) ≡ Err f
    → (length c.left < 3) × (f ≡ lacks c.place)
number24_short c lacks f e = lacks_is 3 c lacks (number24_at c) f (number24_lacks c) e

pub known_ok : {A E : Type 0} (o : Option A) (e : E) (c : Cursor) (x : A × Cursor) → known o e c ≡ Ok x → (o ≡ Some x.0) × (x.1 ≡ c)
known_ok (Some y) e c x h = let same : (y, c) ≡ x = cc in (ap (λ p. Some p.0) same, ap (λ p. p.1) (sym same))
known_ok None e c x h = absurd cc

pub known_err : {A E : Type 0} (o : Option A) (e : E) (c : Cursor) (f : E) → known o e c ≡ Err f → (o ≡ None) × (f ≡ e)
known_err (Some y) e c f h = absurd cc
known_err None e c f h = (refl, cc)

pub checked_ok : {A E : Type 0} (b : Bool) (e : E) (x y : A) → checked b e x ≡ Ok y → (b ≡ true) × (y ≡ x)
checked_ok true e x y h = (refl, cc)
checked_ok false e x y h = absurd cc

pub checked_err : {A E : Type 0} (b : Bool) (e : E) (x : A) (f : E) → checked b e x ≡ Err f → (b ≡ false) × (f ≡ e)
checked_err true e x f h = absurd cc
checked_err false e x f h = (refl, cc)

-- ---- numbers that stand for values

-- `of` reads the numbers that `code` writes, and no others
pub record IsCode {A : Type 0} (of : ℕ → Option A) (code : A → ℕ) : Type 0 where
  pub is : (n : ℕ) (x : A) → of n ≡ Some x → n ≡ code x
  pub again : (x : A) → of (code x) ≡ Some x

-- A number is read exactly where it is some value's.
pub code_none : {A : Type 0} (of : ℕ → Option A) (code : A → ℕ) → IsCode of code → (n : ℕ) → of n ≡ None → (x : A) → n ≢ code x
code_none of code codes n e x same = let clash : Some x ≡ None = sym (ap of same ∙ codes.again x) ∙ e in absurd cc

none_code : {A : Type 0} (of : ℕ → Option A) (code : A → ℕ) → IsCode of code → (n : ℕ) → ((x : A) → n ≢ code x) → (o : Option A) → of n ≡ o
    → of n ≡ None
none_code of code codes n h None e = e
none_code of code codes n h (Some x) e = absurd (h x (codes.is n x e))

pub code_past : {A : Type 0} (of : ℕ → Option A) (code : A → ℕ) → IsCode of code → (n : ℕ) → ((x : A) → n ≢ code x) → of n ≡ None
code_past of code codes n h = none_code of code codes n h (of n) refl

-- Which way a test chose.
pub chosen : {X : Type 0} (b : Bool) (x y z : X) → cond b x y ≡ z → ((b ≡ true) × (x ≡ z)) ⊎ ((b ≡ false) × (y ≡ z))
chosen true x y z e = inl (refl, e)
chosen false x y z e = inr (refl, e)
