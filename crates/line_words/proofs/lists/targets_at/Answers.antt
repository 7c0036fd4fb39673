use Rattle.std.proofs.Common.{◌≡◌, ◌≤◌, ◌<◌, ◌∙◌, ℕ, sym, ap, arith, length, List, Err, refl}
use Rattle.mv_base.specs.route_targets.Targets.{same_target}
use Rattle.mv_base.specs.declared.route_targets.communities.Target.{Target}
use Rattle.mv_base.specs.declared.route_targets.targets.TargetsFault.{TargetsFault}
use Rattle.mv_base.specs.declared.route_targets.targets.TargetsFault.TheVariants.{Empty, TooMany}
use Rattle.line_words.specs.Forms.{target_of}
use Rattle.line_words.proofs.ListFacts.{list_is}
use Rattle.line_words.proofs.lists.targets_at.Goals as goal

neither : (n : ℕ) (fault : TargetsFault) → 0 < n → n ≤ 8 → (fault ≡ Empty → n ≡ 0) → (fault ≡ TooMany → 8 < n) → ⊥
neither n Empty some few empty too_many = omega (arith, empty refl)
neither n TooMany some few empty too_many = omega (arith, too_many refl)

pub unreachable-requires : goal.unreachable-requires
unreachable-requires c =
    let facts = list_is same_target target_of c.args.word.now.text.now c.in-Some.found (sym c.in_ok-found.ensures ∙ c.in-Some.is) in
    let count : length c.as_slice.result.now ≡ length c.in-Some.found = ap (λ (xs : List Target). length xs) c.as_slice.ensures in
    neither (length c.as_slice.result.now) c.in-Err.field-0 (omega (arith, count, facts.some)) (omega (arith, count, facts.few))
    (λ e. c.of.ensures.empty.0 (c.in-Err.is ∙ ap (λ (f : TargetsFault). Err f) e))
    (λ e. c.of.ensures.too_many.0 (c.in-Err.is ∙ ap (λ (f : TargetsFault). Err f) e))
