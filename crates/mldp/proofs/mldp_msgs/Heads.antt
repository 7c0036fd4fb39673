-- What begins with two numbers of two octets, of which the second counts the octets after them.
use Rattle.std.proofs.Common.{◌≡◌, ℕ, ◌+◌, ◌-◌, ◌^◌, ◌<◌, ◌≤◌, List, ◌++◌, length, take, drop, refl, sym, ap, subst, ◌∙◌, append_assoc, arith}
use Rattle.std.specs.Int.{w16, to_be_bytes}
use Rattle.std.proofs.lemmas.List.{length-append, length-drop, length-take-le, take-append-drop, take_at, drop_at, drop-drop}
use Rattle.mv_base.specs.Octets.{IsOctets}
use Rattle.mv_base.proofs.Fields.{wide16, octets_before, octets_after}
use Rattle.mv_base.proofs.framing.Headers.{headed, length_headed, drop_headed, is_headed}
use Rattle.mldp.specs.mldp_msgs.Reading.{first, second}

-- the octets that the second number counts, and those after them
abbrev pub value_in : List ℕ → List ℕ
value_in xs = take (second xs) (drop 4 xs)

abbrev pub after_in : List ℕ → List ℕ
after_in xs = drop (second xs) (drop 4 xs)

pub first_below : (xs : List ℕ) → IsOctets xs → first xs < 2 ^ 16
first_below xs fits = wide16.below (take 2 xs) (octets_before 2 xs fits)

pub second_below : (xs : List ℕ) → IsOctets xs → second xs < 2 ^ 16
second_below xs fits = wide16.below (take 2 (drop 2 xs)) (octets_before 2 (drop 2 xs) (octets_after 2 xs fits))

-- The first number stands at the front.
pub first_stands : (xs : List ℕ) → IsOctets xs → 2 ≤ length xs → xs ≡ to_be_bytes w16 (first xs) ++ drop 2 xs
first_stands xs fits le =
    let back : to_be_bytes w16 (first xs) ≡ take 2 xs = wide16.back (take 2 xs) (length-take-le 2 xs le) (octets_before 2 xs fits) in
    sym (take-append-drop 2 xs) ∙ ap (λ (ys : List ℕ). ys ++ drop 2 xs) (sym back)

-- After it stands the second.
pub second_stands : (xs : List ℕ) → IsOctets xs → 4 ≤ length xs → drop 2 xs ≡ to_be_bytes w16 (second xs) ++ drop 4 xs
second_stands xs fits le =
    let len : length (take 2 (drop 2 xs)) ≡ 2 = length-take-le 2 (drop 2 xs) (omega (arith, length-drop 2 xs, le)) in
    let back : to_be_bytes w16 (second xs) ≡ take 2 (drop 2 xs) =
    wide16.back (take 2 (drop 2 xs)) len (octets_before 2 (drop 2 xs) (octets_after 2 xs fits)) in
    sym (take-append-drop 2 (drop 2 xs)) ∙ ap (λ (ys : List ℕ). take 2 (drop 2 xs) ++ ys) (drop-drop 2 2 xs)
    ∙ ap (λ (ys : List ℕ). ys ++ drop 4 xs) (sym back)

-- All that it counts is there.
pub record Whole (xs : List ℕ) : Type 0 where
  pub len : length (value_in xs) ≡ second xs
  pub parts : xs ≡ headed (first xs) (length (value_in xs)) (value_in xs ++ after_in xs)
  pub front : take (4 + second xs) xs ≡ headed (first xs) (length (value_in xs)) (value_in xs)

pub whole_is : (xs : List ℕ) → IsOctets xs → 4 + second xs ≤ length xs → Whole xs
whole_is xs fits room =
    let value : List ℕ = value_in xs in
    let after : List ℕ = after_in xs in
    let len : length value ≡ second xs = length-take-le (second xs) (drop 4 xs) (omega (arith, length-drop 4 xs, room)) in
    let split : drop 4 xs ≡ value ++ after = sym (take-append-drop (second xs) (drop 4 xs)) in
    let parts : xs ≡ headed (first xs) (length value) (value ++ after) =
    is_headed xs fits (omega (arith, room)) ∙ ap (λ (n : ℕ). headed (first xs) n (drop 4 xs)) (sym len)
    ∙ ap (headed (first xs) (length value)) split in
    let size : length (headed (first xs) (length value) value) ≡ 4 + second xs = omega (arith, length_headed (first xs) (length value) value, len) in
    let front : take (4 + second xs) xs ≡ headed (first xs) (length value) value =
    ap (take (4 + second xs)) parts ∙ take_at (headed (first xs) (length value) value) after (4 + second xs) size in
    record { len = len; parts = parts; front = front }

-- Octets among octets.
pub inner_octets : (front value after xs : List ℕ) → IsOctets xs → xs ≡ front ++ (value ++ after) → IsOctets value
inner_octets front value after xs fits parts =
    let all : drop (length front) xs ≡ value ++ after = ap (drop (length front)) parts ∙ drop_at front (value ++ after) (length front) refl in
    let whole : IsOctets (value ++ after) = subst IsOctets all (octets_after (length front) xs fits) in
    subst IsOctets (take_at value after (length value) refl) (octets_before (length value) (value ++ after) whole)

-- ---- n octets that are not read, and then a body

abbrev pub lead_in : ℕ → List ℕ → List ℕ
lead_in n xs = take n (drop 4 xs)

abbrev pub body_in : ℕ → List ℕ → List ℕ
body_in n xs = take (second xs - n) (drop (4 + n) xs)

abbrev pub after_body : ℕ → List ℕ → List ℕ
after_body n xs = drop (second xs - n) (drop (4 + n) xs)

-- The second number counts both.
pub record Led (n : ℕ) (xs : List ℕ) : Type 0 where
  pub lead_len : length (lead_in n xs) ≡ n
  pub counted : n + length (body_in n xs) ≡ second xs
  pub parts : xs ≡ headed (first xs) (n + length (body_in n xs)) (lead_in n xs ++ (body_in n xs ++ after_body n xs))
  pub front : take (4 + second xs) xs ≡ headed (first xs) (n + length (body_in n xs)) (lead_in n xs ++ body_in n xs)

pub led_is : (n : ℕ) (xs : List ℕ) → IsOctets xs → n ≤ second xs → 4 + second xs ≤ length xs → Led n xs
led_is n xs fits low room =
    let lead : List ℕ = lead_in n xs in
    let body : List ℕ = body_in n xs in
    let after : List ℕ = after_body n xs in
    let lead_len : length lead ≡ n = length-take-le n (drop 4 xs) (omega (arith, length-drop 4 xs, room, low)) in
    let body_len : length body ≡ second xs - n =
    length-take-le (second xs - n) (drop (4 + n) xs) (omega (arith, length-drop (4 + n) xs, room, low)) in
    let counted : n + length body ≡ second xs = omega (arith, body_len, low) in
    let split : drop 4 xs ≡ lead ++ (body ++ after) =
    sym (take-append-drop n (drop 4 xs)) ∙ ap (λ (ys : List ℕ). lead ++ ys)
    (drop-drop n 4 xs ∙ sym (take-append-drop (second xs - n) (drop (4 + n) xs))) in
    let parts : xs ≡ headed (first xs) (n + length body) (lead ++ (body ++ after)) =
    is_headed xs fits (omega (arith, room)) ∙ ap (λ (m : ℕ). headed (first xs) m (drop 4 xs)) (sym counted)
    ∙ ap (headed (first xs) (n + length body)) split in
    let text : List ℕ = headed (first xs) (n + length body) (lead ++ body) in
    let size : length text ≡ 4 + second xs =
    omega (arith, length_headed (first xs) (n + length body) (lead ++ body), length-append lead body, lead_len, counted) in
    let whole_text : xs ≡ text ++ after = parts ∙ ap (headed (first xs) (n + length body)) (sym (append_assoc lead body after)) in
    let front : take (4 + second xs) xs ≡ text = ap (take (4 + second xs)) whole_text ∙ take_at text after (4 + second xs) size in
    record { lead_len = lead_len; counted = counted; parts = parts; front = front }

-- The body of such octets.
pub body_of_led : (n a : ℕ) (lead body after : List ℕ) → length lead ≡ n
    → take (n + length body - n) (drop (4 + n) (headed a (n + length body) (lead ++ (body ++ after)))) ≡ body
body_of_led n a lead body after lead_len =
    let count : n + length body - n ≡ length body = omega arith in
    let thereafter : drop (4 + n) (headed a (n + length body) (lead ++ (body ++ after))) ≡ body ++ after =
    drop_headed n a (n + length body) (lead ++ (body ++ after)) ∙ drop_at lead (body ++ after) n lead_len in
    ap (take (n + length body - n)) thereafter ∙ take_at body after (n + length body - n) (sym count)

-- How many octets they are.
pub length_led : (n a : ℕ) (lead body after : List ℕ) → length lead ≡ n
    → length (headed a (n + length body) (lead ++ (body ++ after))) ≡ 4 + n + length body + length after
length_led n a lead body after lead_len =
    omega (arith, length_headed a (n + length body) (lead ++ (body ++ after)), length-append lead (body ++ after), length-append body after, lead_len)
