-- Entries in the order of their keys.
use Rattle.std.proofs.Common.{◌≡◌, T, inl, inr, List, [], ◌∷◌, refl, ap, ◌∙◌}
use Rattle.std.specs.FinMap.Entries.{below_all}
use Rattle.std.specs.Ordering.{is_lt}
use Rattle.std.specs.declared.cmp.Ordering.{Ordering}
use Rattle.std.specs.declared.cmp.Ordering.TheVariants.{Less, Equal, Greater}
use Rattle.mv_base.specs.Lists.{Among}
use Rattle.edge_words.proofs.label_defs.MemberLemmas.{front_of, back_of}

less_by : (r : Ordering) → T (is_lt r) → r ≡ Less
less_by Less h = refl
less_by Equal h = absurd h
less_by Greater h = absurd h

-- a key that is below all of them is less than each
pub all_above : {K V : Type 0} (R : K → K → Ordering) (x : K) (es : List (K × V)) → T (below_all R x es) → (e : K × V) → Among e es → R x e.0 ≡ Less
all_above R x [] h e a = absurd a
all_above {V = V} R x (y ∷ es) h e (inl same) = ap (λ (z : _ × V). R x z.0) same ∙ less_by (R x y.0) (front_of (is_lt (R x y.0)) (below_all R x es) h)
all_above R x (y ∷ es) h e (inr a) = all_above R x es (back_of (is_lt (R x y.0)) (below_all R x es) h) e a
