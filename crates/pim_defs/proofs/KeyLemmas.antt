-- The order of entries is total, and entries that tie in it are equal.
use Rattle.std.proofs.Common.{◌≡◌, ℕ, ◌==◌, ◌&&◌, Bool, true, List, [], ◌∷◌, ◌++◌, length, refl, sym, ap, subst, ◌∙◌, arith}
use Rattle.std.specs.Ordering.{is_eq, eq_by_cmp}
use Rattle.std.specs.declared.cmp.Ordering.TheVariants.{Equal}
use Rattle.std.specs.Cmp.{IsTotalOrder, tied_itself, both_ways, Equal-is}
use Rattle.std.specs.Cmp.Lexicographic.{nat_list_cmp_total}
use Rattle.std.specs.FinMap.{IsAntisymmetric, nat_cmp-IsAntisymmetric, slice_cmp-IsAntisymmetric}
use Rattle.std.proofs.lemmas.Cmp.{on_total}
use Rattle.std.proofs.lemmas.Bool.{and_parts}
use Rattle.std.proofs.lemmas.Bool.Decides.{nat_tests}
use Rattle.std.proofs.lemmas.List.{append-nil}
use Rattle.scenario_defs.specs.mv_base.declared.addr.Addr.{Addr}
use Rattle.scenario_defs.specs.mv_base.Address.{addr_front, same_addr, same_addr_equiv, same_addr_equal}
use Rattle.scenario_defs.proofs.mv_base.AddressLemmas.{addr_fronts}
use Rattle.scenario_defs.specs.declared.event.JoinEntry.{JoinEntry}
use Rattle.scenario_defs.specs.declared.event.JoinEntry.TheVariants.{Star, Source, Rpt}
use Rattle.scenario_defs.specs.declared.event.IfaceEntry.{IfaceEntry}
use Rattle.pim_defs.specs.Mention.{same_entry}
use Rattle.pim_defs.specs.Entries.{entry_key, iface_entry_key, entry_cmp}

pub entry_cmp_total : IsTotalOrder entry_cmp
entry_cmp_total = on_total iface_entry_key nat_list_cmp_total

one_addr : (a b : Addr) → addr_front a ≡ addr_front b → a ≡ b
one_addr a b e = (addr_fronts a b [] [] (append-nil (addr_front a) ∙ e ∙ sym (append-nil (addr_front b)))).0

two_addrs : (a b c d : Addr) → addr_front a ++ addr_front c ≡ addr_front b ++ addr_front d → (a ≡ b) × (c ≡ d)
two_addrs a b c d e =
    let both = addr_fronts a b (addr_front c) (addr_front d) e in
    (both.0, one_addr c d both.1)

one_entry : (a b : JoinEntry) → entry_key a ≡ entry_key b → a ≡ b
one_entry (Star g) (Star h) e =
    let thereafter : addr_front g ≡ addr_front h = cc in
    ap (λ (x : Addr). Star x) (one_addr g h thereafter)
one_entry (Source s g) (Source t h) e =
    let thereafter : addr_front s ++ addr_front g ≡ addr_front t ++ addr_front h = cc in
    let both = two_addrs s t g h thereafter in
    λ i. Source (both.0 i) (both.1 i)
one_entry (Rpt s g) (Rpt t h) e =
    let thereafter : addr_front s ++ addr_front g ≡ addr_front t ++ addr_front h = cc in
    let both = two_addrs s t g h thereafter in
    λ i. Rpt (both.0 i) (both.1 i)
one_entry (Star g) (Source t h) e = absurd cc
one_entry (Star g) (Rpt t h) e = absurd cc
one_entry (Source s g) (Star h) e = absurd cc
one_entry (Source s g) (Rpt t h) e = absurd cc
one_entry (Rpt s g) (Star h) e = absurd cc
one_entry (Rpt s g) (Source t h) e = absurd cc

one_at : (a b : IfaceEntry) → iface_entry_key a ≡ iface_entry_key b → a ≡ b
one_at a b e =
    let number : a.iface.0 ≡ b.iface.0 = cc in
    let thereafter : entry_key a.entry ≡ entry_key b.entry = cc in
    let entry = one_entry a.entry b.entry thereafter in
    λ i. record { iface = record { 0 = number i }; entry = entry i }

pub entry_cmp_exact : IsAntisymmetric entry_cmp
entry_cmp_exact a b h = one_at a b (slice_cmp-IsAntisymmetric nat_cmp-IsAntisymmetric (iface_entry_key a) (iface_entry_key b) h)

pub same_entry_equal : (a b : JoinEntry) → same_entry a b ≡ true → a ≡ b
same_entry_equal (Star g) (Star h) e = ap (λ (x : Addr). Star x) (same_addr_equal g h e)
same_entry_equal (Source s g) (Source t h) e =
    let both = and_parts (same_addr s t) (same_addr g h) e in
    let source = same_addr_equal s t both.0 in
    let group = same_addr_equal g h both.1 in
    λ i. Source (source i) (group i)
same_entry_equal (Rpt s g) (Rpt t h) e =
    let both = and_parts (same_addr s t) (same_addr g h) e in
    let source = same_addr_equal s t both.0 in
    let group = same_addr_equal g h both.1 in
    λ i. Rpt (source i) (group i)
same_entry_equal (Star g) (Source t h) e = absurd cc
same_entry_equal (Star g) (Rpt t h) e = absurd cc
same_entry_equal (Source s g) (Star h) e = absurd cc
same_entry_equal (Source s g) (Rpt t h) e = absurd cc
same_entry_equal (Rpt s g) (Star h) e = absurd cc
same_entry_equal (Rpt s g) (Source t h) e = absurd cc

pub same_entry_itself : (a : JoinEntry) → same_entry a a ≡ true
same_entry_itself (Star g) = same_addr_equiv.refl g
same_entry_itself (Source s g) = ap (λ b. b && same_addr g g) (same_addr_equiv.refl s) ∙ same_addr_equiv.refl g
same_entry_itself (Rpt s g) = ap (λ b. b && same_addr g g) (same_addr_equiv.refl s) ∙ same_addr_equiv.refl g

-- whether both are one entry of one interface
abbrev pub same_at : IfaceEntry → IfaceEntry → Bool
same_at a b = (a.iface.0 == b.iface.0) && same_entry a.entry b.entry

pub same_at_equal : (a b : IfaceEntry) → same_at a b ≡ true → a ≡ b
same_at_equal a b h =
    let both = and_parts (a.iface.0 == b.iface.0) (same_entry a.entry b.entry) h in
    let number : a.iface.0 ≡ b.iface.0 = grind (arith, nat_tests) in
    let entry = same_entry_equal a.entry b.entry both.1 in
    λ i. record { iface = record { 0 = number i }; entry = entry i }

pub same_at_itself : (a : IfaceEntry) → same_at a a ≡ true
same_at_itself a =
    let number : (a.iface.0 == a.iface.0) ≡ true = grind (arith, nat_tests) in
    ap (λ b. b && same_entry a.entry a.entry) number ∙ same_entry_itself a.entry

-- Entries tie exactly where they are one.
pub ties-same : (a b : IfaceEntry) → eq_by_cmp entry_cmp a b ≡ same_at a b
ties-same a b = both_ways (eq_by_cmp entry_cmp a b) (same_at a b)
    (λ h. subst (λ (x : IfaceEntry). same_at a x ≡ true) (entry_cmp_exact a b (tied a b h)) (same_at_itself a))
    (λ h. subst (λ (x : IfaceEntry). eq_by_cmp entry_cmp a x ≡ true) (same_at_equal a b h) (ap is_eq (tied_itself entry_cmp_total a)))
  where
    tied : (x y : IfaceEntry) → eq_by_cmp entry_cmp x y ≡ true → entry_cmp x y ≡ Equal
    tied x y h = (Equal-is (entry_cmp x y)).0 h
