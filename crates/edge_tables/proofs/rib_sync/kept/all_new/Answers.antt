use Rattle.std.proofs.Common.{rules, Some, List, cond, subst, ◌∙◌}
use Rattle.std.specs.BTreeMap.{get, is_at}
use Rattle.std.specs.Map.{keys_of}
use Rattle.std.proofs.lemmas.Map.Keys.{IsDistinct-from_sorted}
use Rattle.edge_tables.specs.rib_sync.Kept.{as_news}
use Rattle.edge_tables.proofs.rib_sync.Replaying.{Replayed, began, turned}
use Rattle.edge_tables.proofs.rib_sync.kept.all_new.Goals as goal

pub loop-key-init : goal.loop-key-init
loop-key-init g c =
    began g.K.Ord.cmp c.args.set.now c.new-news.result c.into_iter-key-iterator.result (search rules) c.new-news.ensures.empty
    (IsDistinct-from_sorted g.K.Ord.cmp (keys_of c.args.set.now.entries) c.iter-key-items.ensures.ordered) c.new-news.ensures.ordered

pub loop-key-preserved : goal.loop-key-preserved
loop-key-preserved g c =
    turned g.K.Ord.cmp g.met.K.Ord.total c.args.set.now c.loop-key.news c.insert.new.self c.in-Some.key.now c.in-Some.value.now c.next.new.self
    (subst (λ (left : List _). Replayed g.K.Ord.cmp c.args.set.now c.loop-key.news left) c.in-Some.ensures.steps c.loop-key.invariant)
    (λ q. c.in_ok-insert.ensures.updates.0 q ∙ (λ i. cond (is_at (g.K.Ord.cmp (c.in_ok-own.ensures i)) q)
    (Some (as_news (c.in_ok-value.ensures i))) (get g.K.Ord.cmp c.loop-key.news q))) c.insert.ensures.ordered

pub loop-key-preserved-in_ok-insert : goal.loop-key-preserved-in_ok-insert
loop-key-preserved-in_ok-insert g c =
    turned g.K.Ord.cmp g.met.K.Ord.total c.args.set.now c.loop-key.news c.insert.new.self c.in-Some.key.now c.in-Some.value.now c.next.new.self
    (subst (λ (left : List _). Replayed g.K.Ord.cmp c.args.set.now c.loop-key.news left) c.in-Some.ensures.steps c.loop-key.invariant)
    (λ q. c.in_ok-insert.ensures.updates.0 q ∙ (λ i. cond (is_at (g.K.Ord.cmp (c.in_ok-own.ensures i)) q)
    (Some (as_news (c.in_ok-value.ensures i))) (get g.K.Ord.cmp c.loop-key.news q))) c.insert.ensures.ordered

pub loop-key-preserved-in_ok-insert-2 : goal.loop-key-preserved-in_ok-insert-2
loop-key-preserved-in_ok-insert-2 g c =
    turned g.K.Ord.cmp g.met.K.Ord.total c.args.set.now c.loop-key.news c.insert.new.self c.in-Some.key.now c.in-Some.value.now c.next.new.self
    (subst (λ (left : List _). Replayed g.K.Ord.cmp c.args.set.now c.loop-key.news left) c.in-Some.ensures.steps c.loop-key.invariant)
    (λ q. c.in_ok-insert.ensures.updates.0 q ∙ (λ i. cond (is_at (g.K.Ord.cmp (c.in_ok-own.ensures i)) q)
    (Some (as_news (c.in_ok-value.ensures i))) (get g.K.Ord.cmp c.loop-key.news q))) c.insert.ensures.ordered
