-- What the range of a length has.
use Rattle.std.proofs.Common.{◌≡◌, ℕ, List, sym, ap, ◌∙◌}
use Rattle.std.specs.BTreeMap.Range.{entries_between}
use Rattle.std.specs.FinMap.{FinMap, entries, from_sorted}
use Rattle.std.specs.declared.ops.Bound.TheVariants.{Included}
use Rattle.mv_base.specs.declared.addr.Addr.{Addr}
use Rattle.choice_defs.specs.Choice.{Among}
use Rattle.umh_select.specs.declared.key.RouteKey.{RouteKey}
use Rattle.umh_select.specs.Order.{key_cmp}
use Rattle.umh_select.specs.Routes.{at_length}
use Rattle.mv_base.proofs.SortedMaps.{entries_of}
use Rattle.umh_select.proofs.OrderLemmas.{IsInner, Sorted, high_end, low_end, range_at}

module _ {X : Type 0} where
  -- the routes between two ends that are those of the length
  pub between : (source : Addr) (bits : ℕ) (first last : RouteKey) → first ≡ low_end source bits → last ≡ high_end source bits
      → (es : List (RouteKey × X)) → Sorted es
      → ((e : RouteKey × X) → Among e es → IsInner e.0.place) → (map : FinMap key_cmp X) → from_sorted es ≡ map → (listed : List (RouteKey × X))
      → listed ≡ entries_between key_cmp (Included first) (Included last) es → listed ≡ at_length source bits (entries map)
  between source bits first last f l es a inner map is listed h =
      h ∙ ((λ i. entries_between key_cmp (Included (f i)) (Included (l i)) es)
      ∙ (range_at source bits es inner ∙ ap (at_length source bits) (sym (entries_of key_cmp es a) ∙ ap entries is)))
