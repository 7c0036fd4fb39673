-- In every run the copies are on links, and each way of a link is one way.
use Rattle.std.proofs.Common.{◌≡◌, ◌∙◌, refl, sym, arith, ℕ, suc, ◌==◌, ◌||◌, Bool, true, false, List, [], ◌∷◌, inl, inr, All, AllPairs, length}
use Rattle.std.specs.Prelude.{count_by}
use Rattle.std.specs.List.{AllByRecursion, IsDistinct, flat_map, list_any}
use Rattle.std.proofs.lemmas.Bool.{and_from, and_parts, cond-false, eq-eqb, eqb-true, false_from_ne_true}
use Rattle.std.proofs.lemmas.List.Elements.{All-head, All-tail}
use Rattle.mv_base.specs.declared.core_link.Link.{Link}
use Rattle.mv_base.specs.declared.ids.NodeId.{NodeId}
use Rattle.mv_base.specs.core_walks.Topology.{HasEnds, JoinsSamePair}
use Rattle.label_defs.proofs.MemberLemmas.{count-cons}
use Rattle.scenario_defs.specs.Rules.{Rules}
use Rattle.network_defs.specs.Counts.{link_ways}
use Rattle.network_defs.specs.World.{LinkCopy, World, scenario_of}
use Rattle.network_acts.specs.Words.{AreLinked, is_way}
use Rattle.once_laws.specs.delivery_laws.Flood.{AreSound, SoundCopy}
use Rattle.once_laws.specs.delivery_laws.Flood as floods

true-ne-false : true ≡ false → ⊥
true-ne-false t = cc

-- ---- each way of a link is one way

same_ends : (a b : NodeId × NodeId) → is_way a b ≡ true → (a.0.0 ≡ b.0.0) × (a.1.0 ≡ b.1.0)
same_ends a b e = (let parts = and_parts (a.0.0 == b.0.0) (a.1.0 == b.1.0) e in (eqb-true a.0.0 b.0.0 parts.0, eqb-true a.1.0 b.1.0 parts.1))

other_way : (a b : NodeId × NodeId) → ((a.0.0 ≡ b.0.0) × (a.1.0 ≡ b.1.0) → ⊥) → is_way a b ≡ false
other_way a b apart = false_from_ne_true (is_way a b) (λ t. apart (same_ends a b t))

abbrev ways_of : List Link → List (NodeId × NodeId)
ways_of links = flat_map (λ link. (link.a, link.b) ∷ (link.b, link.a) ∷ []) links

apart_forth : (link : Link) (rest : List Link) → AllByRecursion (λ other. ¬ (JoinsSamePair link other)) rest
    → AllByRecursion (λ way. is_way (link.a, link.b) way ≡ false) (ways_of rest)
apart_forth link [] h = tt
apart_forth link (other ∷ more) h = (
  other_way (link.a, link.b) (other.a, other.b) (λ e. h.0 (inl e)),
  (other_way (link.a, link.b) (other.b, other.a) (λ e. h.0 (inr e)), apart_forth link more h.1),
)

apart_back : (link : Link) (rest : List Link) → AllByRecursion (λ other. ¬ (JoinsSamePair link other)) rest
    → AllByRecursion (λ way. is_way (link.b, link.a) way ≡ false) (ways_of rest)
apart_back link [] h = tt
apart_back link (other ∷ more) h = (
  other_way (link.b, link.a) (other.a, other.b) (λ e. h.0 (inr (e.1, e.0))),
  (other_way (link.b, link.a) (other.b, other.a) (λ e. h.0 (inl (e.1, e.0))), apart_back link more h.1),
)

all_of : {X : Type 0} (P : X → Type 0) (xs : List X) → All P xs → AllByRecursion P xs
all_of P [] h = tt
all_of P (x ∷ xs) h = (All-head P x xs h, all_of P xs (All-tail P x xs h))

ways_distinct : (nodes : ℕ) (links : List Link) → All (HasEnds nodes) links → AllPairs (λ own other. ¬ (JoinsSamePair own other)) links
    → IsDistinct is_way (ways_of links)
unfolding IsDistinct
ways_distinct nodes [] ends once = tt
ways_distinct nodes (link ∷ rest) ends once =
    let others : AllByRecursion (λ other. ¬ (JoinsSamePair link other)) rest =
    all_of (λ other. ¬ (JoinsSamePair link other)) rest (λ k d lt. once 0 (suc k) d (omega arith) (omega (arith, lt))) in
    let two = (All-head (HasEnds nodes) link rest ends).two in
    let tail =
    ways_distinct nodes rest (All-tail (HasEnds nodes) link rest ends)
    (λ i j d lt within. once (suc i) (suc j) d (omega (arith, lt)) (omega (arith, within))) in
    ((other_way (link.a, link.b) (link.b, link.a) (λ e. two e.0), apart_forth link rest others), (apart_back link rest others, tail))

-- ---- the copies are on links

same_way : (from to : NodeId) (way : NodeId × NodeId) → way.0.0 ≡ from.0 → way.1.0 ≡ to.0 → is_way (from, to) way ≡ true
same_way from to way e f = and_from (from.0 == way.0.0) (to.0 == way.1.0) (eq-eqb from.0 way.0.0 (sym e)) (eq-eqb to.0 way.1.0 (sym f))

not_on : (from to : NodeId) (way : NodeId × NodeId) → is_way (from, to) way ≡ false → floods.is_way from to way ≡ false
not_on from to way e = false_from_ne_true (floods.is_way from to way) (λ t.
    let parts = and_parts (way.0.0 == from.0) (way.1.0 == to.0) t in
    let same = same_way from to way (eqb-true way.0.0 from.0 parts.0) (eqb-true way.1.0 to.0 parts.1) in
    let u : true ≡ false = sym same ∙ e in absurd (true-ne-false u))

first_not : (b : Bool) (rest : Bool) → (b || rest) ≡ false → (b ≡ false) × (rest ≡ false)
first_not true rest h = absurd (true-ne-false h)
first_not false rest h = (refl, h)

no_way : (from to : NodeId) (ways : List (NodeId × NodeId)) → list_any (is_way (from, to)) ways ≡ false → count_by (floods.is_way from to) ways ≡ 0
no_way from to [] h = refl
no_way from to (way ∷ more) h =
    let parts = first_not (is_way (from, to) way) (list_any (is_way (from, to)) more) h in
    let none = cond-false {A = ℕ} (floods.is_way from to way) 1 0 (not_on from to way parts.0) in
    let rest = no_way from to more parts.1 in
    omega (arith, count-cons (floods.is_way from to) way more, none, rest)

empty_way : (ways : List (NodeId × NodeId)) (count : ℕ) (from to : NodeId) (copies : List LinkCopy) → list_any (is_way (from, to)) ways ≡ false
    → AllByRecursion (SoundCopy ways count from to) copies → copies ≡ []
empty_way ways count from to [] h sound = refl
empty_way ways count from to (copy ∷ more) h sound = absurd (let one = sound.0.on_way in let none = no_way from to ways h in omega (arith, one, none))

pub are_linked : (world : World) → Rules (scenario_of world) → AreSound (scenario_of world) world → AreLinked world
are_linked world rules sound = record {
  once = ways_distinct (length (scenario_of world).nodes) (scenario_of world).links rules.core.topology.ends rules.core.topology.once;
  apart = λ u n h. empty_way (link_ways (scenario_of world)) (length world.datagrams) u n (world.copies u n) h (sound u n);
}
