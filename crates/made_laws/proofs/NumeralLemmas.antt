-- The numbers, addresses and names that are in the lines.
use Rattle.std.proofs.Common.{◌≡◌, ◌≢◌, ◌⊎◌, inl, inr, ℕ, zero, suc, ◌+◌, ◌<◌, ◌≤◌, ◌==◌, ◌&&◌, ◌||◌, Bool, true, false, nat_lt, nat_le, List, [], ◌∷◌, ◌++◌, length, take, drop, Option, Some, None, refl, sym, ap, ap₂, ◌∙◌, arith, append_assoc, length-append, take_at, drop_at, get_or, eq-eqb}
use Rattle.std.specs.Prelude.{codes, decimal, nat_eq, position}
use Rattle.std.specs.Fmt.{digits}
use Rattle.std.specs.List.{All, list_all, position_or_len}
use Rattle.std.specs.Cmp.Lexicographic.{pointwise, same_text, nat_list_eq_equiv}
use Rattle.std.specs.Net.Text.{dotted_text}
use Rattle.std.proofs.lemmas.Bool.{false_from_ne_true, and_from, leb-true, agree_below_at, le-leb, lt-ltb}
use Rattle.std.proofs.lemmas.Bool.Decides.{nat_tests}
use Rattle.std.proofs.lemmas.List.{get_or_append_left}
use Rattle.std.proofs.lemmas.List.Elements.{All-append}
use Rattle.std.proofs.lemmas.Fmt.{decimal_is_IsNumeral, decimal_digit}
use Rattle.std.proofs.lemmas.List.Sums.{position_or_len_is}
use Rattle.std.proofs.lemmas.List.Splits.{slice_split_none}
use Rattle.std.proofs.lemmas.Option.{same_Some, none-some}
use Rattle.mv_base.specs.declared.addr.Addr.TheVariants.{V4, V6}
use Rattle.mv_base.specs.Number.{number_of, cut_of, is_number, ◌>>?◌}
use Rattle.mv_base.specs.Dotted.{dotted_of}
use Rattle.mv_base.specs.AddrText.{addr_of, groups_of}
use Rattle.mv_base.proofs.NumberLemmas.{number_only}
use Rattle.mv_base.proofs.CutLemmas.{cut_digits, same_parts}
use Rattle.mv_base.proofs.DottedLemmas.{dotted_only}
use Rattle.scenario_defs.specs.Names.{is_letter, is_name, is_name_octet}
use Rattle.scenario_defs.specs.Prefixes.{same_prefix}
use Rattle.mv_base.specs.route_targets.Targets.{same_target}
use Rattle.line_words.specs.Forms.{vrf_number_of, rd_of, numbered_of, addressed_of, target_of, list_of, prefix_of, is_prefix}
use Rattle.made_laws.specs.MadeScript.{name_at, ipv4}
use Rattle.made_laws.proofs.RowLemmas.{is_word_octet, IsWord, all_append, none_of}

-- ---- digits

plain_digits : (n : ℕ) → n < 33 → list_all is_word_octet (decimal n) ≡ true
unfolding digits
plain_digits n h = agree_below_at (λ n. list_all is_word_octet (decimal n)) (λ n. true) 33 n refl h

name_digits : (n : ℕ) → n < 33 → list_all is_name_octet (decimal n) ≡ true
unfolding digits
name_digits n h = agree_below_at (λ n. list_all is_name_octet (decimal n)) (λ n. true) 33 n refl h

few_digits : (n : ℕ) → n < 33 → length (decimal n) ≤ 2
unfolding digits
few_digits n h = leb-true (length (decimal n)) 2 (agree_below_at (λ n. nat_le (length (decimal n)) 2) (λ n. true) 33 n refl h)

some_digits : (n : ℕ) → n < 33 → 0 < length (decimal n)
some_digits n h = (decimal_is_IsNumeral n (omega arith)).0.0

number_read : (n : ℕ) → n < 33 → number_of (decimal n) ≡ Some n
number_read n h = number_only (decimal n) n (omega arith) refl

same_digits : (a b : ℕ) → a < 33 → b < 33 → decimal a ≡ decimal b → a ≡ b
same_digits a b h k e = same_Some a b (sym (number_read a h) ∙ ap number_of e ∙ number_read b k)

-- ---- words

-- Some octets of words, at most so many.
record IsPiece (limit : ℕ) (text : List ℕ) : Type 0 where
  few : length text ≤ limit
  plain : list_all is_word_octet text ≡ true

piece : (n : ℕ) → n < 33 → IsPiece 2 (decimal n)
piece n h = record { few = few_digits n h; plain = plain_digits n h }

piece_then : (m n : ℕ) (a b : List ℕ) → IsPiece m a → IsPiece n b → IsPiece (m + n) (a ++ b)
piece_then m n a b h k = record { few = omega (arith, h.few, k.few, length-append a b); plain = all_append is_word_octet a b h.plain k.plain }

-- A front of a few octets makes a piece a word.
word_of : (front more : List ℕ) → 0 < length front → IsPiece 10 front → IsPiece 80 more → IsWord (front ++ more)
word_of front more some h k = record {
  some = omega (arith, some, length-append front more);
  few = omega (arith, h.few, k.few, length-append front more);
  plain = all_append is_word_octet front more h.plain k.plain;
}

weaker_piece : (m n : ℕ) (text : List ℕ) → m ≤ n → IsPiece m text → IsPiece n text
weaker_piece m n text le h = record { few = omega (arith, h.few); plain = h.plain }

-- Some octets that are known, and a number after them.
pub numbered_word : (front : List ℕ) (n : ℕ) → n < 33 → 0 < length front → length front ≤ 10 → list_all is_word_octet front ≡ true
    → IsWord (front ++ decimal n)
numbered_word front n h some few plain =
    word_of front (decimal n) some (record { few = few; plain = plain }) (weaker_piece 2 80 (decimal n) (omega arith) (piece n h))

pub number_word : (n : ℕ) → n < 33 → IsWord (decimal n)
number_word n h = record { some = some_digits n h; few = omega (arith, few_digits n h); plain = plain_digits n h }

-- Two numbers, with octets that are known before, between and after them.
pub paired_word : (front between end : List ℕ) (m n : ℕ) → m < 33 → n < 33 → 0 < length front → length front ≤ 10 → length between ≤ 10
    → length end ≤ 10
    → list_all is_word_octet front ≡ true → list_all is_word_octet between ≡ true → list_all is_word_octet end ≡ true
    → IsWord (front ++ decimal m ++ between ++ decimal n ++ end)
paired_word front between end m n a b some few_front few_between few_end plain_front plain_between plain_end =
    let first : IsPiece 12 (front ++ decimal m) = piece_then 10 2 front (decimal m) (record { few = few_front; plain = plain_front }) (piece m a) in
    let second : IsPiece 22 (front ++ decimal m ++ between) =
    piece_then 12 10 (front ++ decimal m) between first (record { few = few_between; plain = plain_between }) in
    let third : IsPiece 24 (front ++ decimal m ++ between ++ decimal n) =
    piece_then 22 2 (front ++ decimal m ++ between) (decimal n) second (piece n b) in
    let whole : IsPiece 34 (front ++ decimal m ++ between ++ decimal n ++ end) =
    piece_then 24 10 (front ++ decimal m ++ between ++ decimal n) end third (record { few = few_end; plain = plain_end }) in
    record {
      some = omega (
        arith,
        some,
        length-append (front ++ decimal m ++ between ++ decimal n) end,
        length-append (front ++ decimal m ++ between) (decimal n),
        length-append (front ++ decimal m) between,
        length-append front (decimal m),
      );
      few = omega (arith, whole.few);
      plain = whole.plain;
    }

-- ---- names

name_with : (letter : ℕ) (more : List ℕ) → is_letter letter ≡ true → length more ≤ 15 → list_all is_name_octet more ≡ true
    → is_name (letter ∷ more) ≡ true
name_with letter more h few all =
    let short : nat_le (length (letter ∷ more)) 16 ≡ true = le-leb _ _ (omega arith) in
    let some : nat_lt 0 (length (letter ∷ more)) ≡ true = lt-ltb _ _ (omega arith) in
    rw (some, short, h, all) refl

pub numbered_name : (letter n : ℕ) → is_letter letter ≡ true → n < 33 → is_name (letter ∷ decimal n) ≡ true
numbered_name letter n l h = name_with letter (decimal n) l (omega (arith, few_digits n h)) (name_digits n h)

pub paired_name : (letter edge vpn : ℕ) → is_letter letter ≡ true → edge < 33 → vpn < 33 → is_name (name_at (letter ∷ []) edge vpn) ≡ true
paired_name letter edge vpn l h k =
    name_with letter (decimal vpn ++ codes "_" ++ decimal edge) l
    (omega (
      arith,
      few_digits edge h,
      few_digits vpn k,
      length-append (decimal vpn ++ codes "_") (decimal edge),
      length-append (decimal vpn) (codes "_"),
    ))
    (all_append is_name_octet (decimal vpn ++ codes "_") (decimal edge) (all_append is_name_octet (decimal vpn) (codes "_") (name_digits vpn k) refl)
    (name_digits edge h))

pub same_name : (name : List ℕ) → pointwise nat_eq name name ≡ true
same_name name = nat_list_eq_equiv.refl name

pub other_name : (a b : List ℕ) → a ≢ b → pointwise nat_eq a b ≡ false
other_name a b differ = false_from_ne_true (pointwise nat_eq a b) (λ e. differ (same_text a b (sym e)))

-- Names of other numbers differ.
pub other_number : (front a b : ℕ) → a < 33 → b < 33 → a ≢ b → pointwise nat_eq (front ∷ decimal a) (front ∷ decimal b) ≡ false
other_number front a b h k differ =
    other_name (front ∷ decimal a) (front ∷ decimal b) (λ e. differ (same_digits a b h k (ap (λ (l : List ℕ). drop 1 l) e)))

cut_pair : (edge vpn : ℕ) → edge < 33 → vpn < 33 → cut_of 95 (decimal vpn ++ codes "_" ++ decimal edge) ≡ Some (decimal vpn, decimal edge)
cut_pair edge vpn h k =
    ap (cut_of 95) (append_assoc (decimal vpn) (codes "_") (decimal edge))
    ∙ cut_digits 10 95 (decimal vpn) (decimal edge) (decimal_is_IsNumeral vpn (omega arith)).0.1 (omega arith)

pub other_pair : (letter other edge vpn e v : ℕ) → edge < 33 → vpn < 33 → e < 33 → v < 33 → (edge ≢ e) ⊎ (vpn ≢ v)
    → pointwise nat_eq (name_at (letter ∷ []) edge vpn) (name_at (other ∷ []) e v) ≡ false
other_pair letter other edge vpn e v a b c d differ = other_name (name_at (letter ∷ []) edge vpn) (name_at (other ∷ []) e v) (λ same.
    let parts =
    same_parts (decimal vpn) (decimal v) (decimal edge) (decimal e)
    (sym (cut_pair edge vpn a b) ∙ ap (λ (l : List ℕ). cut_of 95 (drop 1 l)) same ∙ cut_pair e v c d) in
    by_part (same_digits vpn v b d parts.0) (same_digits edge e a c parts.1) differ)
  where
    by_part : vpn ≡ v → edge ≡ e → (edge ≢ e) ⊎ (vpn ≢ v) → ⊥
    by_part x y (inl n) = n y
    by_part x y (inr n) = n x

-- ---- addresses

dotted_read : (text : List ℕ) (a b c d : ℕ) → a < 256 → b < 256 → c < 256 → d < 256 → text ≡ dotted_text a b c d
    → dotted_of text ≡ Some (a ∷ b ∷ c ∷ d ∷ [])
dotted_read text a b c d h i j k e =
    dotted_only text (a ∷ b ∷ c ∷ d ∷ []) (record { a = a; b = b; c = c; d = d; fit = (h, i, j, k); value = refl; spelled = e })

edge_front : codes "192.0.2." ≡ decimal 192 ++ codes "." ++ decimal 0 ++ codes "." ++ decimal 2 ++ codes "."
unfolding digits
edge_front = refl

core_front : codes "192.0.3." ≡ decimal 192 ++ codes "." ++ decimal 0 ++ codes "." ++ decimal 3 ++ codes "."
unfolding digits
core_front = refl

group_front : codes "232.1.1." ≡ decimal 232 ++ codes "." ++ decimal 1 ++ codes "." ++ decimal 1 ++ codes "."
unfolding digits
group_front = refl

ten : codes "10." ≡ decimal 10 ++ codes "."
unfolding digits
ten = refl

pub edge_dotted : (n : ℕ) → n < 33 → dotted_of (codes "192.0.2." ++ decimal n) ≡ Some (192 ∷ 0 ∷ 2 ∷ n ∷ [])
edge_dotted n h =
    dotted_read (codes "192.0.2." ++ decimal n) 192 0 2 n (omega arith) (omega arith) (omega arith) (omega arith)
    (ap (λ (l : List ℕ). l ++ decimal n) edge_front)

pub core_dotted : (n : ℕ) → n < 33 → dotted_of (codes "192.0.3." ++ decimal n) ≡ Some (192 ∷ 0 ∷ 3 ∷ n ∷ [])
core_dotted n h =
    dotted_read (codes "192.0.3." ++ decimal n) 192 0 3 n (omega arith) (omega arith) (omega arith) (omega arith)
    (ap (λ (l : List ℕ). l ++ decimal n) core_front)

pub group_dotted : (n : ℕ) → n < 33 → dotted_of (codes "232.1.1." ++ decimal n) ≡ Some (232 ∷ 1 ∷ 1 ∷ n ∷ [])
group_dotted n h =
    dotted_read (codes "232.1.1." ++ decimal n) 232 1 1 n (omega arith) (omega arith) (omega arith) (omega arith)
    (ap (λ (l : List ℕ). l ++ decimal n) group_front)

-- 10.EDGE.VPN, and a point and one digit after it
abbrev pub host : ℕ → ℕ → List ℕ → List ℕ
host edge vpn last = codes "10." ++ decimal edge ++ codes "." ++ decimal vpn ++ (46 ∷ last)

pub host_dotted : (edge vpn d : ℕ) → edge < 33 → vpn < 33 → d < 10 → dotted_of (host edge vpn ((48 + d) ∷ [])) ≡ Some (10 ∷ edge ∷ vpn ∷ d ∷ [])
host_dotted edge vpn d h k l =
    dotted_read (host edge vpn ((48 + d) ∷ [])) 10 edge vpn d (omega arith) (omega arith) (omega arith) (omega arith)
    (ap₂ (λ (a b : List ℕ). a ++ decimal edge ++ codes "." ++ decimal vpn ++ (46 ∷ b)) ten (sym (decimal_digit d l))
    ∙ sym (append_assoc (decimal 10 ++ codes "." ++ decimal edge ++ codes "." ++ decimal vpn) (codes ".") (decimal d)))

pub addr_read : (text octets : List ℕ) → dotted_of text ≡ Some octets → addr_of text ≡ Some (V4 octets)
unfolding addr_of
addr_read text octets h = by_dotted (dotted_of text) h
  where
    by_dotted : (o : Option (List ℕ)) → o ≡ Some octets
        → elim o [ Some found ↦ Some (V4 found) | None ↦ groups_of text >>? λ found. Some (V6 found) ] ≡ Some (V4 octets)
    by_dotted (Some found) e = ap (λ (l : List ℕ). Some (V4 l)) (same_Some found octets e)
    by_dotted None e = absurd (none-some octets e)

-- ---- numbers of VPNs

-- What holds of 1 to 8 holds of each VPN.
by_vpn : (P : ℕ → Type 0) → P 1 → P 2 → P 3 → P 4 → P 5 → P 6 → P 7 → P 8 → (k : ℕ) → k < 8 → P (suc k)
by_vpn P a b c d e f g h zero within = a
by_vpn P a b c d e f g h (suc zero) within = b
by_vpn P a b c d e f g h (suc (suc zero)) within = c
by_vpn P a b c d e f g h (suc (suc (suc zero))) within = d
by_vpn P a b c d e f g h (suc (suc (suc (suc zero)))) within = e
by_vpn P a b c d e f g h (suc (suc (suc (suc (suc zero))))) within = f
by_vpn P a b c d e f g h (suc (suc (suc (suc (suc (suc zero)))))) within = g
by_vpn P a b c d e f g h (suc (suc (suc (suc (suc (suc (suc zero))))))) within = h
by_vpn P a b c d e f g h (suc (suc (suc (suc (suc (suc (suc (suc k)))))))) within = absurd (omega arith)

pub vrf_number_read : (k : ℕ) → k < 8 → vrf_number_of (decimal (suc k)) ≡ Some (suc k)
unfolding vrf_number_of
vrf_number_read k h =
    let low : nat_le 1 (suc k) ≡ true = le-leb _ _ (omega arith) in
    let high : nat_le (suc k) 4095 ≡ true = le-leb _ _ (omega arith) in
    rw (number_read (suc k) (omega arith), low, high) refl

pub rd_read : (k : ℕ) → k < 8 → rd_of (codes "65000:" ++ decimal (suc k)) ≡ Some (record { 0 = 0 ∷ 0 ∷ 253 ∷ 232 ∷ 0 ∷ 0 ∷ 0 ∷ suc k ∷ [] })
unfolding rd_of numbered_of addressed_of is_number digits dotted_of
rd_read k h =
    by_vpn (λ n. rd_of (codes "65000:" ++ decimal n) ≡ Some (record { 0 = 0 ∷ 0 ∷ 253 ∷ 232 ∷ 0 ∷ 0 ∷ 0 ∷ n ∷ [] })) refl refl refl refl refl refl
    refl refl k h

pub targets_read : (k : ℕ) → k < 8 → list_of same_target target_of (codes "65000:" ++ decimal (suc k))
    ≡ Some ((record { 0 = record { 0 = 0 ∷ 2 ∷ 253 ∷ 232 ∷ 0 ∷ 0 ∷ 0 ∷ suc k ∷ [] } }) ∷ [])
unfolding list_of target_of numbered_of addressed_of is_number digits dotted_of
targets_read k h =
    by_vpn (λ n. list_of same_target target_of (codes "65000:" ++ decimal n)
    ≡ Some ((record { 0 = record { 0 = 0 ∷ 2 ∷ 253 ∷ 232 ∷ 0 ∷ 0 ∷ 0 ∷ n ∷ [] } }) ∷ [])) refl refl refl refl refl refl refl refl k h

-- ---- the prefix of a site

position_at : (p : ℕ → Bool) (front rest : List ℕ) (cut : ℕ) → All (λ x. p x ≡ false) front → p cut ≡ true
    → position p (front ++ cut ∷ rest) ≡ Some (length front)
position_at p front rest cut h c =
    let within : length front < length (front ++ cut ∷ rest) = omega (arith, length-append front (cut ∷ rest)) in
    let at : position_or_len p (front ++ cut ∷ rest) ≡ length front =
    position_or_len_is p (front ++ cut ∷ rest) (length front) 0 (omega (arith, within))
    (λ k l. ap p (get_or_append_left front (cut ∷ rest) 0 k l) ∙ h k 0 l) (λ _. ap p (get_or-append-at front rest cut) ∙ c) in
    rw (at, lt-ltb _ _ within) refl
  where
    get_or-append-at : (front rest : List ℕ) (cut : ℕ) → get_or (front ++ cut ∷ rest) (length front) 0 ≡ cut
    get_or-append-at [] rest cut = refl
    get_or-append-at (x ∷ front) rest cut = get_or-append-at front rest cut

cut_at : (mark : ℕ) (front rest : List ℕ) → All (λ x. (x == mark) ≡ false) front → cut_of mark (front ++ mark ∷ rest) ≡ Some (front, rest)
cut_at mark front rest h =
    let found : position (λ octet. octet == mark) (front ++ mark ∷ rest) ≡ Some (length front) =
    position_at (λ octet. octet == mark) front rest mark h (eq-eqb mark mark refl) in
    let thereafter : drop (length front + 1) (front ++ mark ∷ rest) ≡ rest =
    rw (← append_assoc front (mark ∷ []) rest) (drop_at (front ++ mark ∷ []) rest (length front + 1) (length-append front (mark ∷ []))) in
    let before : take (length front) (front ++ mark ∷ rest) ≡ front = take_at front (mark ∷ rest) (length front) refl in
    rw (cut_of, found) (ap₂ (λ (a b : List ℕ). Some (a, b)) before thereafter)

-- the octets of a dotted address
abbrev is_dotted_octet : ℕ → Bool
is_dotted_octet b = b == 46 || (nat_lt 47 b && nat_lt b 58)

dotted_numeral : (n : ℕ) → n < 33 → list_all is_dotted_octet (decimal n) ≡ true
unfolding digits
dotted_numeral n h = agree_below_at (λ n. list_all is_dotted_octet (decimal n)) (λ n. true) 33 n refl h

host_octets : (edge vpn : ℕ) → edge < 33 → vpn < 33 → list_all is_dotted_octet (host edge vpn (codes "0")) ≡ true
host_octets edge vpn h k =
    all_append is_dotted_octet (codes "10." ++ decimal edge ++ codes "." ++ decimal vpn) (codes ".0")
    (all_append is_dotted_octet (codes "10." ++ decimal edge ++ codes ".") (decimal vpn)
    (all_append is_dotted_octet (codes "10." ++ decimal edge) (codes ".")
    (all_append is_dotted_octet (codes "10.") (decimal edge) refl (dotted_numeral edge h)) refl)
    (dotted_numeral vpn k)) refl

no_slash : (b : ℕ) → is_dotted_octet b ≡ true → (b == 47) ≡ false
no_slash b h = grind (arith, nat_tests)

no_comma : (b : ℕ) → is_dotted_octet b ≡ true → (b == 44) ≡ false
no_comma b h = grind (arith, nat_tests)

is_site_prefix : (edge vpn : ℕ) → edge < 33 → vpn < 33 → is_prefix (V4 (10 ∷ edge ∷ vpn ∷ 0 ∷ [])) 24 ≡ true
is_site_prefix edge vpn h k = and_from _ _ refl (eq-eqb _ 0 (omega arith))

abbrev is_dotted_or_slash : ℕ → Bool
is_dotted_or_slash b = nat_lt 45 b

neither : (b : ℕ) → is_dotted_or_slash b ≡ true → (b == 44) ≡ false
neither b h = grind (arith, nat_tests)

prefix_read : (edge vpn : ℕ) → edge < 33 → vpn < 33
    → prefix_of (host edge vpn (codes "0") ++ 47 ∷ codes "24") ≡ Some (record { addr = ipv4 10 edge vpn 0; bits = 24 })
unfolding prefix_of is_number
prefix_read edge vpn h k =
    let cut : cut_of 47 (host edge vpn (codes "0") ++ 47 ∷ codes "24") ≡ Some (host edge vpn (codes "0"), codes "24") =
    cut_at 47 (host edge vpn (codes "0")) (codes "24")
    (none_of is_dotted_octet (λ b. b == 47) no_slash (host edge vpn (codes "0")) (host_octets edge vpn h k)) in
    rw (cut, addr_read (host edge vpn (codes "0")) (10 ∷ edge ∷ vpn ∷ 0 ∷ []) (host_dotted edge vpn 0 h k (omega arith)), is_site_prefix edge vpn h k)
    refl

pub prefixes_read : (edge vpn : ℕ) → edge < 33 → vpn < 33
    → list_of same_prefix prefix_of (host edge vpn (codes "0") ++ 47 ∷ codes "24") ≡ Some ((record { addr = ipv4 10 edge vpn 0; bits = 24 }) ∷ [])
unfolding list_of
prefixes_read edge vpn h k =
    let none : All (λ b. (b == 44) ≡ false) (host edge vpn (codes "0") ++ 47 ∷ codes "24") =
    All-append (λ b. (b == 44) ≡ false) (host edge vpn (codes "0")) (47 ∷ codes "24")
    (none_of is_dotted_octet (λ b. b == 44) no_comma (host edge vpn (codes "0")) (host_octets edge vpn h k))
    (none_of is_dotted_or_slash (λ b. b == 44) neither (47 ∷ codes "24") refl) in
    rw (slice_split_none (λ b. b == 44) (host edge vpn (codes "0") ++ 47 ∷ codes "24") none, prefix_read edge vpn h k) refl
