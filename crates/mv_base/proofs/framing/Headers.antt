-- Two numbers of two octets, and what stands after them.
use Rattle.std.proofs.Common.{◌≡◌, ℕ, ◌+◌, ◌^◌, ◌<◌, ◌≤◌, List, ◌++◌, length, take, drop, refl, sym, ap, ◌∙◌, arith}
use Rattle.std.specs.Int.{w16, to_be_bytes, from_be_bytes}
use Rattle.std.proofs.lemmas.List.{length-drop, length-take-le, take-append-drop, drop-drop, take-append-le, drop-append-le}
use Rattle.mv_base.specs.Octets.{IsOctets}
use Rattle.mv_base.proofs.Fields.{wide16, octets_before, octets_after}

-- the numbers
abbrev pub first : List ℕ → ℕ
first xs = from_be_bytes w16 (take 2 xs)

abbrev pub second : List ℕ → ℕ
second xs = from_be_bytes w16 (take 2 (drop 2 xs))

abbrev pub headed : ℕ → ℕ → List ℕ → List ℕ
headed a b rest = to_be_bytes w16 a ++ (to_be_bytes w16 b ++ rest)

pub first_headed : (a b : ℕ) (rest : List ℕ) → a < 2 ^ 16 → first (headed a b rest) ≡ a
first_headed a b rest lt = wide16.again a lt

pub second_headed : (a b : ℕ) (rest : List ℕ) → b < 2 ^ 16 → second (headed a b rest) ≡ b
second_headed a b rest lt = wide16.again b lt

pub length_headed : (a b : ℕ) (rest : List ℕ) → length (headed a b rest) ≡ 4 + length rest
length_headed a b rest = omega arith

pub headed_more : (a b : ℕ) (rest after : List ℕ) → headed a b rest ++ after ≡ headed a b (rest ++ after)
headed_more a b rest after = refl

pub drop_headed : (n : ℕ) (a b : ℕ) (rest : List ℕ) → drop (4 + n) (headed a b rest) ≡ drop n rest
drop_headed n a b rest = sym (drop-drop n 4 (headed a b rest))

-- what has four octets is headed
pub is_headed : (xs : List ℕ) → IsOctets xs → 4 ≤ length xs → xs ≡ headed (first xs) (second xs) (drop 4 xs)
is_headed xs fits le =
    let a : to_be_bytes w16 (first xs) ≡ take 2 xs = wide16.back (take 2 xs) (length-take-le 2 xs (omega arith)) (octets_before 2 xs fits) in
    let l : length (take 2 (drop 2 xs)) ≡ 2 = length-take-le 2 (drop 2 xs) (omega (arith, length-drop 2 xs)) in
    let b : to_be_bytes w16 (second xs) ≡ take 2 (drop 2 xs) =
    wide16.back (take 2 (drop 2 xs)) l (octets_before 2 (drop 2 xs) (octets_after 2 xs fits)) in
    sym (take-append-drop 2 xs)
    ∙ ap (λ (ys : List ℕ). take 2 xs ++ ys) (sym (take-append-drop 2 (drop 2 xs)) ∙ ap (λ (ys : List ℕ). take 2 (drop 2 xs) ++ ys) (drop-drop 2 2 xs))
    ∙ ap (λ (ys : List ℕ). ys ++ (take 2 (drop 2 xs) ++ drop 4 xs)) (sym a)
    ∙ ap (λ (ys : List ℕ). to_be_bytes w16 (first xs) ++ (ys ++ drop 4 xs)) (sym b)

pub first_more : (xs ys : List ℕ) → 4 ≤ length xs → first (xs ++ ys) ≡ first xs
first_more xs ys le = ap (from_be_bytes w16) (take-append-le 2 xs ys (omega arith))

pub second_more : (xs ys : List ℕ) → 4 ≤ length xs → second (xs ++ ys) ≡ second xs
second_more xs ys le =
    ap (λ (zs : List ℕ). from_be_bytes w16 (take 2 zs)) (drop-append-le 2 xs ys (omega arith))
    ∙ ap (from_be_bytes w16) (take-append-le 2 (drop 2 xs) ys (omega (arith, length-drop 2 xs)))
