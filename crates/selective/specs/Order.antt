-- The order of learned routes: by peer, the more specific pattern first, by pattern, and then by route distinguisher.
use Rattle.std.specs.Prelude.{ℕ, List, [], ◌∷◌}
use Rattle.std.specs.Ordering.{nat_cmp, on, flip_args, then_cmp}
use Rattle.std.specs.declared.cmp.Ordering.{Ordering}
use Rattle.std.specs.Cmp.{IsTotalOrder, nat_cmp_total}
use Rattle.std.specs.Cmp.Lexicographic.{slice_cmp, nat_list_cmp_total}
use Rattle.std.proofs.lemmas.Cmp.{on_total, then_total, back_total}
use Rattle.mv_base.specs.Pattern.{rank}
use Rattle.selective_defs.specs.Parts.{word_part}
use Rattle.selective.specs.declared.route_key.Place.{Place}
use Rattle.selective.specs.declared.route_key.Place.TheVariants.{First, Of, Last}
use Rattle.selective.specs.declared.route_key.RouteKey.{RouteKey}

-- by route distinguisher, between the two ends
abbrev pub place_part : Place → List ℕ
place_part First = 0 ∷ []
place_part (Of rd) = 1 ∷ rd.0
place_part Last = 2 ∷ []

abbrev pub route_cmp : RouteKey → RouteKey → Ordering
route_cmp =
    then_cmp (on (λ (key : RouteKey). key.peer.0) nat_cmp)
    (then_cmp (flip_args (on (λ (key : RouteKey). rank key.pattern) nat_cmp))
    (then_cmp (on (λ (key : RouteKey). word_part key.pattern.source) (slice_cmp nat_cmp))
    (then_cmp (on (λ (key : RouteKey). word_part key.pattern.group) (slice_cmp nat_cmp))
    (on (λ (key : RouteKey). place_part key.place) (slice_cmp nat_cmp)))))

-- the order is total
pub route_total : IsTotalOrder route_cmp
route_total =
    then_total (on_total (λ (key : RouteKey). key.peer.0) nat_cmp_total)
    (then_total (back_total (on_total (λ (key : RouteKey). rank key.pattern) nat_cmp_total))
    (then_total (on_total (λ (key : RouteKey). word_part key.pattern.source) nat_list_cmp_total)
    (then_total (on_total (λ (key : RouteKey). word_part key.pattern.group) nat_list_cmp_total)
    (on_total (λ (key : RouteKey). place_part key.place) nat_list_cmp_total))))
