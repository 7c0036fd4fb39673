use Rattle.std.proofs.Common.{rules, ◌≡◌, [], Some, sym, ap, ◌∙◌}
use Rattle.std.specs.FinMap.{entries}
use Rattle.std.specs.Ordering.{is_gt}
use Rattle.umh_select.specs.Order.{key_cmp}
use Rattle.umh_select.proofs.OrderLemmas.{forward}
use Rattle.umh_select.proofs.RangeLemmas.{between}
use Rattle.std.specs.Map.Iter.{deref_pair}
use Rattle.std.proofs.lemmas.Map.Iter.{rest_all}
use Rattle.umh_select.specs.Routes.{Routes, at_length, first_site}
use Rattle.umh_select.proofs.ChosenLemmas.{attached_inner}
use Rattle.umh_select.proofs.umh.Umh.site_at.Goals as goal

pub range-key-items-requires : goal.range-key-items-requires
range-key-items-requires c =
    (λ i. is_gt (key_cmp ((c.new-ends.ensures.start ∙ c.end.ensures) i) ((c.new-ends.ensures.end ∙ c.end-2.ensures) i)))
    ∙ forward c.args.source c.args.bits

pub returns-in-loop-key : goal.returns-in-loop-key
returns-in-loop-key c =
    let gives : c.into_iter-key-iterator.result ≡ c.range-key-items.result = cc (c.into_iter-key-iterator.ensures.into_iter_gives) in
    let listed : c.into_iter-key-iterator.result ≡ at_length c.args.source c.args.bits (entries c.args.self.now.attached) =
    between c.args.source c.args.bits c.new-ends.result.start c.new-ends.result.end (c.new-ends.ensures.start ∙ c.end.ensures)
    (c.new-ends.ensures.end ∙ c.end-2.ensures)
    c.self.inside.attached.entries c.self.invariant.1 (attached_inner c.self.inside.lengths c.self.inside.attached.entries c.self.invariant.3)
    c.args.self.now.attached (ap (λ (r : Routes). r.attached) c.self.view_is) c.into_iter-key-iterator.result
    (gives ∙ c.range-key-items.ensures.between c.new-ends.ensures.exhausted) in
    let head : Some c.in-Some.site.now ≡ first_site c.loop-key._key-iterator = search rules in
    head ∙ ap first_site (c.loop-key.invariant ∙ listed)

pub returns : goal.returns
returns c =
    let gives : c.into_iter-key-iterator.result ≡ c.range-key-items.result = cc (c.into_iter-key-iterator.ensures.into_iter_gives) in
    let listed : c.into_iter-key-iterator.result ≡ at_length c.args.source c.args.bits (entries c.args.self.now.attached) =
    between c.args.source c.args.bits c.new-ends.result.start c.new-ends.result.end (c.new-ends.ensures.start ∙ c.end.ensures)
    (c.new-ends.ensures.end ∙ c.end-2.ensures)
    c.self.inside.attached.entries c.self.invariant.1 (attached_inner c.self.inside.lengths c.self.inside.attached.entries c.self.invariant.3)
    c.args.self.now.attached (ap (λ (r : Routes). r.attached) c.self.view_is) c.into_iter-key-iterator.result
    (gives ∙ c.range-key-items.ensures.between c.new-ends.ensures.exhausted) in
    let done : c.loop-key._key-iterator ≡ [] = rest_all deref_pair _ _ c.next.result c.in-None.is c.next.ensures.steps in
    ap first_site (sym done ∙ (c.loop-key.invariant ∙ listed))
