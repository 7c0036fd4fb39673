-- Patterns that match a flow, and their ranks.
use Rattle.std.proofs.Common.{◌≡◌, Bool, true, false, ◌&&◌, inl, inr, Option, Some, None, is_some, refl, sym, ap, ◌∙◌, arith}
use Rattle.std.proofs.lemmas.Bool.{and_parts}
use Rattle.std.proofs.lemmas.Option.{same_Some}
use Rattle.mldp.specs.mv_base.Address.{same_addr, same_addr_equal, same_addr_equiv}
use Rattle.mldp.specs.mv_base.Pattern.{rank, rank_of}
use Rattle.mldp.specs.mv_base.declared.addr.Addr.{Addr}
use Rattle.mldp.specs.mv_base.declared.pattern.Pattern.{Pattern}
use Rattle.selective_defs.specs.Selective.{allows, Allows, matches, Matches}

pub both_true : (a b : Bool) → a ≡ true → b ≡ true → (a && b) ≡ true
both_true a b h k = ap (λ (x : Bool). x && b) h ∙ k

pub opposite : (b : Bool) → b ≡ true → b ≡ false → ⊥
opposite b h k = absurd (let bad : true ≡ false = sym h ∙ k in cc)

allowed : (word : Option Addr) (addr : Addr) → allows word addr ≡ true → Allows word addr
allowed None addr h = inl refl
allowed (Some own) addr h = inr (ap (λ (a : Addr). Some a) (same_addr_equal own addr h))

allowing : (word : Option Addr) (addr : Addr) → Allows word addr → allows word addr ≡ true
allowing None addr h = refl
allowing (Some own) addr (inl e) = absurd cc
allowing (Some own) addr (inr e) = ap (λ (a : Addr). same_addr a addr) (same_Some own addr e) ∙ same_addr_equiv.refl addr

pub matched : (pattern : Pattern) (source group : Addr) → matches pattern source group ≡ true → Matches pattern source group
matched pattern source group h =
    let both = and_parts (allows pattern.source source) (allows pattern.group group) h in
    (allowed pattern.source source both.0, allowed pattern.group group both.1)

pub matching : (pattern : Pattern) (source group : Addr) → Matches pattern source group → matches pattern source group ≡ true
matching pattern source group h =
    both_true (allows pattern.source source) (allows pattern.group group) (allowing pattern.source source h.0) (allowing pattern.group group h.1)

-- ranks tell where the wildcards are
told : (s g t h : Option Addr) → rank_of s g ≡ rank_of t h → (is_some s ≡ is_some t) × (is_some g ≡ is_some h)
told (Some s) (Some g) (Some t) (Some h) e = (refl, refl)
told (Some s) (Some g) (Some t) None e = absurd (omega (arith, e))
told (Some s) (Some g) None (Some h) e = absurd (omega (arith, e))
told (Some s) (Some g) None None e = absurd (omega (arith, e))
told (Some s) None (Some t) (Some h) e = absurd (omega (arith, e))
told (Some s) None (Some t) None e = (refl, refl)
told (Some s) None None (Some h) e = absurd (omega (arith, e))
told (Some s) None None None e = absurd (omega (arith, e))
told None (Some g) (Some t) (Some h) e = absurd (omega (arith, e))
told None (Some g) (Some t) None e = absurd (omega (arith, e))
told None (Some g) None (Some h) e = (refl, refl)
told None (Some g) None None e = absurd (omega (arith, e))
told None None (Some t) (Some h) e = absurd (omega (arith, e))
told None None (Some t) None e = absurd (omega (arith, e))
told None None None (Some h) e = absurd (omega (arith, e))
told None None None None e = (refl, refl)

one_word : (a b : Option Addr) (addr : Addr) → Allows a addr → Allows b addr → is_some a ≡ is_some b → a ≡ b
one_word a b addr (inl p) (inl q) e = p ∙ sym q
one_word a b addr (inr p) (inr q) e = p ∙ sym q
one_word a b addr (inl p) (inr q) e = absurd (let bad : false ≡ true = sym (ap is_some p) ∙ e ∙ ap is_some q in cc)
one_word a b addr (inr p) (inl q) e = absurd (let bad : true ≡ false = sym (ap is_some p) ∙ e ∙ ap is_some q in cc)

-- Of the patterns that match a flow there is one of each rank.
pub one_pattern : (a b : Pattern) (source group : Addr) → Matches a source group → Matches b source group → rank a ≡ rank b → a ≡ b
one_pattern a b source group m n e =
    let where_wild = told a.source a.group b.source b.group e in
    let sources = one_word a.source b.source source m.0 n.0 where_wild.0 in
    let groups = one_word a.group b.group group m.1 n.1 where_wild.1 in
    λ i. record { source = sources i; group = groups i }
