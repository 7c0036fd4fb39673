-- What is read as an address is what its text writes.
use Rattle.std.proofs.Common.{◌≡◌, ℕ, ◌+◌, ◌*◌, ◌<◌, true, false, List, [], ◌∷◌, ◌++◌, length, drop, refl, sym, ap, subst, ◌∙◌, arith, inl, inr, append_assoc, append-nil}
use Rattle.std.specs.Prelude.{Option, None, Some, IfSome, nat_lt}
use Rattle.std.specs.Char.{digit_value}
use Rattle.std.specs.Net.Addr.{octets_of}
use Rattle.std.specs.Net.Grammar.{IsGroup, IsGroups, IsGroupsAfter}
use Rattle.std.proofs.lemmas.Bool.{ltb-true, lt-ltb}
use Rattle.std.proofs.lemmas.Option.{none-some, same_Some}
use Rattle.std.proofs.NetLemmas.Arrays.{eight_items}
use Rattle.std.proofs.NetLemmas.Ipv6.{IsDotted-not_colon_hex}
use Rattle.mv_base.specs.Number.{◌>>?◌}
use Rattle.mv_base.specs.Dotted.{dotted_of}
use Rattle.mv_base.specs.AddrText.{IsAddrText, digit_of, digits_of, group_of, group_front_of, groups_of, addr_of}
use Rattle.mv_base.specs.declared.addr.Addr.{Addr}
use Rattle.mv_base.specs.declared.addr.Addr.TheVariants.{V4, V6}
use Rattle.mv_base.proofs.CutLemmas.{next_some, if_some, same_parts, cut_read, cut_digits}
use Rattle.mv_base.proofs.DottedLemmas.{dotted_read, dotted_only}

digit_read : (octet value : ℕ) → digit_of octet ≡ Some value → (digit_value octet < 16) × (digit_value octet ≡ value)
digit_read octet value e =
    let (small, same) = if_some (nat_lt (digit_value octet) 16) (digit_value octet) value e in
    (ltb-true (digit_value octet) 16 small, same)

digit_only : (octet : ℕ) → digit_value octet < 16 → digit_of octet ≡ Some (digit_value octet)
digit_only octet small = rw (lt-ltb (digit_value octet) 16 small) refl

digits_read : (a b c d s : ℕ) → digits_of a b c d ≡ Some s
    → ((digit_value a < 16) × (digit_value b < 16) × (digit_value c < 16) × (digit_value d < 16))
    × (((digit_value a * 16 + digit_value b) * 16 + digit_value c) * 16 + digit_value d ≡ s)
unfolding digits_of
digits_read a b c d s e =
    next_some _ (digit_of a) s e λ w read_a kept_a.
    next_some _ (digit_of b) s kept_a λ x read_b kept_b.
    next_some _ (digit_of c) s kept_b λ y read_c kept_c.
    next_some _ (digit_of d) s kept_c λ z read_d kept_d.
    let (small_a, same_a) = digit_read a w read_a in
    let (small_b, same_b) = digit_read b x read_b in
    let (small_c, same_c) = digit_read c y read_c in
    let (small_d, same_d) = digit_read d z read_d in
    ((small_a, small_b, small_c, small_d), rw (same_a, same_b, same_c, same_d) (same_Some _ _ kept_d))

digits_only : (a b c d : ℕ) → digit_value a < 16 → digit_value b < 16 → digit_value c < 16 → digit_value d < 16
    → digits_of a b c d ≡ Some (((digit_value a * 16 + digit_value b) * 16 + digit_value c) * 16 + digit_value d)
unfolding digits_of
digits_only a b c d e f g h = rw (digit_only a e, digit_only b f, digit_only c g, digit_only d h) refl

group_read : (text : List ℕ) (s : ℕ) → group_of text ≡ Some s → IsGroup text s
unfolding group_of
group_read [] s e = absurd (none-some s e)
group_read (d ∷ []) s e = let r = digits_read 48 48 48 d s e in (((omega arith, (r.0.3, tt)), omega (arith, r.1)), omega arith)
group_read (c ∷ d ∷ []) s e = let r = digits_read 48 48 c d s e in (((omega arith, (r.0.2, (r.0.3, tt))), omega (arith, r.1)), omega arith)
group_read (b ∷ c ∷ d ∷ []) s e = let r = digits_read 48 b c d s e in
    (((omega arith, (r.0.1, (r.0.2, (r.0.3, tt)))), omega (arith, r.1)), omega arith)
group_read (a ∷ b ∷ c ∷ d ∷ []) s e = let r = digits_read a b c d s e in
    (((omega arith, (r.0.0, (r.0.1, (r.0.2, (r.0.3, tt))))), omega (arith, r.1)), omega arith)
group_read (a ∷ b ∷ c ∷ d ∷ next ∷ more) s e = absurd (none-some s e)

group_only : (text : List ℕ) (s : ℕ) → IsGroup text s → group_of text ≡ Some s
unfolding group_of
group_only [] s h = absurd (omega (arith, h.0.0.0))
group_only (d ∷ []) s h = digits_only 48 48 48 d (omega arith) (omega arith) (omega arith) h.0.0.1.0 ∙ ap (λ n. Some n) (omega (arith, h.0.1))
group_only (c ∷ d ∷ []) s h = digits_only 48 48 c d (omega arith) (omega arith) h.0.0.1.0 h.0.0.1.1.0 ∙ ap (λ n. Some n) (omega (arith, h.0.1))
group_only (b ∷ c ∷ d ∷ []) s h = digits_only 48 b c d (omega arith) h.0.0.1.0 h.0.0.1.1.0 h.0.0.1.1.1.0 ∙ ap (λ n. Some n) (omega (arith, h.0.1))
group_only (a ∷ b ∷ c ∷ d ∷ []) s h =
    digits_only a b c d h.0.0.1.0 h.0.0.1.1.0 h.0.0.1.1.1.0 h.0.0.1.1.1.1.0 ∙ ap (λ n. Some n) (omega (arith, h.0.1))
group_only (a ∷ b ∷ c ∷ d ∷ next ∷ more) s h = absurd (omega (arith, h.1))

front_read : (text : List ℕ) (front : ℕ × List ℕ) → group_front_of text ≡ Some front
    → (group : List ℕ) × (text ≡ group ++ 58 ∷ front.1) × IsGroup group front.0
unfolding group_front_of
front_read text front e =
    next_some _ _ front e λ cut found kept.
    next_some _ (group_of cut.0) front kept λ group read pair.
    let (value, rest) = same_parts group front.0 cut.1 front.1 pair in (
      cut.0,
      cut_read 58 text cut.0 cut.1 found ∙ ap (λ (l : List ℕ). cut.0 ++ 58 ∷ l) rest,
      subst (λ (n : ℕ). IsGroup cut.0 n) value (group_read cut.0 group read),
    )

front_only : (group rest : List ℕ) (s : ℕ) → IsGroup group s → group_front_of (group ++ 58 ∷ rest) ≡ Some (s, rest)
unfolding group_front_of
front_only group rest s h = rw (cut_digits 16 58 group rest h.0.0.1 (omega arith), group_only group s h) refl

more_read : (lead text : List ℕ) (front : ℕ × List ℕ) (segments : List ℕ) → group_front_of text ≡ Some front
    → IsGroupsAfter false (58 ∷ []) (58 ∷ front.1) segments → IsGroupsAfter false lead (lead ++ text) (front.0 ∷ segments)
more_read lead text front segments e h =
    let (group, spelled, is) = front_read text front e in
    inl (group, 58 ∷ front.1, ap (λ (l : List ℕ). lead ++ l) spelled ∙ sym (append_assoc lead group (58 ∷ front.1)), is, h)

last_read : (lead text : List ℕ) (s : ℕ) → group_of text ≡ Some s → IsGroupsAfter false lead (lead ++ text) (s ∷ [])
last_read lead text s e = inl (text, [], sym (append-nil (lead ++ text)), group_read text s e, refl)

-- What is read is eight groups.
pub groups_read : (text octets : List ℕ) → groups_of text ≡ Some octets → IsAddrText text (V6 octets)
unfolding groups_of
groups_read text octets read =
    next_some _ (group_front_of text) octets read λ a read_a kept_a.
    next_some _ (group_front_of a.1) octets kept_a λ b read_b kept_b.
    next_some _ (group_front_of b.1) octets kept_b λ c read_c kept_c.
    next_some _ (group_front_of c.1) octets kept_c λ d read_d kept_d.
    next_some _ (group_front_of d.1) octets kept_d λ e read_e kept_e.
    next_some _ (group_front_of e.1) octets kept_e λ f read_f kept_f.
    next_some _ (group_front_of f.1) octets kept_f λ g read_g kept_g.
    next_some _ (group_of g.1) octets kept_g λ h read_h kept_h.
    let at_h = last_read (58 ∷ []) g.1 h read_h in
    let at_g = more_read (58 ∷ []) f.1 g (h ∷ []) read_g at_h in
    let at_f = more_read (58 ∷ []) e.1 f (g.0 ∷ h ∷ []) read_f at_g in
    let at_e = more_read (58 ∷ []) d.1 e (f.0 ∷ g.0 ∷ h ∷ []) read_e at_f in
    let at_d = more_read (58 ∷ []) c.1 d (e.0 ∷ f.0 ∷ g.0 ∷ h ∷ []) read_d at_e in
    let at_c = more_read (58 ∷ []) b.1 c (d.0 ∷ e.0 ∷ f.0 ∷ g.0 ∷ h ∷ []) read_c at_d in
    let at_b = more_read (58 ∷ []) a.1 b (c.0 ∷ d.0 ∷ e.0 ∷ f.0 ∷ g.0 ∷ h ∷ []) read_b at_c in
    let at_a = more_read [] text a (b.0 ∷ c.0 ∷ d.0 ∷ e.0 ∷ f.0 ∷ g.0 ∷ h ∷ []) read_a at_b in
    (a.0 ∷ b.0 ∷ c.0 ∷ d.0 ∷ e.0 ∷ f.0 ∷ g.0 ∷ h ∷ [], sym (same_Some _ _ kept_h), at_a, refl)

after_colon : (text : List ℕ) (s : ℕ) (segments : List ℕ) → IsGroupsAfter false (58 ∷ []) (58 ∷ text) (s ∷ segments)
    → IsGroups false text (s ∷ segments)
after_colon text s segments (inl h) = inl (h.0, h.1, ap (drop 1) h.2, h.3, h.4)
after_colon text s segments (inr h) = absurd cc

colon_first : (text : List ℕ) (s : ℕ) (segments : List ℕ) → IsGroupsAfter false (58 ∷ []) text (s ∷ segments) → (rest : List ℕ) × (text ≡ 58 ∷ rest)
colon_first text s segments (inl h) = (h.0 ++ h.1, h.2)
colon_first text s segments (inr h) = absurd cc

front_there : (text group after rest : List ℕ) (s : ℕ) → text ≡ group ++ after → after ≡ 58 ∷ rest → IsGroup group s
    → group_front_of text ≡ Some (s, rest)
front_there text group after rest s e f is = rw (e, f) (front_only group rest s is)

group_next : (text : List ℕ) (s t : ℕ) (segments : List ℕ) → IsGroups false text (s ∷ t ∷ segments)
    → (rest : List ℕ) × (group_front_of text ≡ Some (s, rest)) × IsGroups false rest (t ∷ segments)
group_next text s t segments (inl h) =
    let (rest, e) = colon_first h.1 t segments h.4 in (
      rest,
      front_there text h.0 h.1 rest s h.2 e h.3,
      after_colon rest t segments (subst (λ (l : List ℕ). IsGroupsAfter false (58 ∷ []) l (t ∷ segments)) e h.4),
    )
group_next text s t segments (inr h) = absurd cc

group_last : (text : List ℕ) (s : ℕ) → IsGroups false text (s ∷ []) → group_of text ≡ Some s
group_last text s (inl h) = rw (h.2, h.4, append-nil) (group_only h.0 s h.3)
group_last text s (inr h) = absurd cc

eight_only : (text : List ℕ) (a b c d e f g h : ℕ) → IsGroups false text (a ∷ b ∷ c ∷ d ∷ e ∷ f ∷ g ∷ h ∷ [])
    → groups_of text ≡ Some (octets_of (a ∷ b ∷ c ∷ d ∷ e ∷ f ∷ g ∷ h ∷ []))
unfolding groups_of
eight_only text a b c d e f g h is =
    let (text_b, read_a, is_b) = group_next text a b _ is in
    let (text_c, read_b, is_c) = group_next text_b b c _ is_b in
    let (text_d, read_c, is_d) = group_next text_c c d _ is_c in
    let (text_e, read_d, is_e) = group_next text_d d e _ is_d in
    let (text_f, read_e, is_f) = group_next text_e e f _ is_e in
    let (text_g, read_f, is_g) = group_next text_f f g _ is_f in
    let (text_h, read_g, is_h) = group_next text_g g h _ is_g in
    rw (read_a, read_b, read_c, read_d, read_e, read_f, read_g, group_last text_h h is_h) refl

-- Eight groups are read as their octets.
pub groups_only : (text segments : List ℕ) → IsGroups false text segments → length segments ≡ 8 → groups_of text ≡ Some (octets_of segments)
groups_only text segments is all =
    subst (λ (l : List ℕ). IsGroups false text l → groups_of text ≡ Some (octets_of l)) (sym (eight_items segments all))
    (eight_only text _ _ _ _ _ _ _ _) is

may_end_dotted : (lead text segments : List ℕ) → IsGroupsAfter false lead text segments → IsGroupsAfter true lead text segments
may_end_dotted lead text [] h = h
may_end_dotted lead text (s ∷ segments) (inl h) = inl (h.0, h.1, h.2, h.3, may_end_dotted (58 ∷ []) h.1 segments h.4)
may_end_dotted lead text (s ∷ segments) (inr h) = absurd cc

not_dotted : (text segments : List ℕ) (o : Option (List ℕ)) → IsGroups false text segments → length segments ≡ 8 → dotted_of text ≡ o → o ≡ None
not_dotted text segments None is all e = refl
not_dotted text segments (Some octets) is all e =
    absurd (IsDotted-not_colon_hex text octets segments (dotted_read text octets e) (inl (may_end_dotted [] text segments is, all)))

addr_from : (text : List ℕ) (o : Option (List ℕ)) (p : Option (List ℕ)) → dotted_of text ≡ o → groups_of text ≡ p
    → IfSome (elim o [ Some octets ↦ Some (V4 octets) | None ↦ p >>? λ octets. Some (V6 octets) ]) (IsAddrText text)
addr_from text (Some octets) p e f = dotted_read text octets e
addr_from text None (Some octets) e f = groups_read text octets f
addr_from text None None e f = tt

-- What is read is the address that the text writes.
pub addr_read : (text : List ℕ) → IfSome (addr_of text) (IsAddrText text)
unfolding addr_of
addr_read text = addr_from text (dotted_of text) (groups_of text) refl refl

-- The address that a text writes is read.
pub addr_only : (text : List ℕ) (addr : Addr) → IsAddrText text addr → addr_of text ≡ Some addr
unfolding addr_of
addr_only text (V4 octets) h = rw (addr_of, dotted_only text octets h) refl
addr_only text (V6 octets) h =
    rw (addr_of, not_dotted text h.0 (dotted_of text) h.2 h.3 refl, groups_only text h.0 h.2 h.3, h.1) refl
