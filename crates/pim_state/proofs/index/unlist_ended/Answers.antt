use Rattle.std.proofs.Common.{rules, ◌≡◌, ◌||◌, true, false, is_some, List, [], sym, ap, subst, ◌∙◌}
use Rattle.std.specs.List.{IsDistinct}
use Rattle.std.specs.Map.{keys_of, lookup}
use Rattle.std.specs.Map.Iter.{deref_pair}
use Rattle.std.proofs.Math.Bool.{or-false}
use Rattle.std.proofs.lemmas.Map.Iter.{rest_all, rest_more}
use Rattle.indexmap.specs.IndexMap.{get}
use Rattle.scenario_defs.specs.declared.event.IfaceEntry.{IfaceEntry}
use Rattle.pim_defs.specs.declared.expiry.Expiry.{Expiry}
use Rattle.pim_defs.specs.Expiry.{is_after, remaining}
use Rattle.pim_state.specs.Plan.{is_at}
use Rattle.pim_state.specs.Index.{is_listed}
use Rattle.pim_state.proofs.IndexLemmas.{after-left, after-there, ended-less, rest-turn}
use Rattle.pim_state.proofs.index.unlist_ended.Goals as goal

pub loop-at-init : goal.loop-at-init
loop-at-init c =
    let all : c.into_iter-at-iterator.result ≡ c.args.entries.now.entries = search rules in
    record {
      rest = λ at expiry found. ap (λ (l : List (IfaceEntry × Expiry)). lookup (is_at at) l) (sym all) ∙ found;
      distinct = subst (λ (l : List (IfaceEntry × Expiry)). IsDistinct is_at (keys_of l)) (sym all) c.requires.unique;
      after = λ at.
          c.requires.exact at ∙ (after-there c.args.now (get is_at c.args.entries.now at)
          ∙ ap (λ (l : List (IfaceEntry × Expiry)). is_some (remaining c.args.now (get is_at c.args.entries.now at)) || is_some (lookup (is_at at) l))
          (sym all));
    }

pub loop-at-preserved-then-not-is_after : goal.loop-at-preserved-then-not-is_after
loop-at-preserved-then-not-is_after c =
    let front = rest_more deref_pair _ _ c.next.result _ c.in-Some.is c.next.ensures.steps in
    let turn = rest-turn c.loop-at.at-iterator _ c.next.new.self c.args.entries.now.entries front c.loop-at.invariant.distinct
    c.loop-at.invariant.rest in
    let ended : is_after c.in-Some.expiry.now c.args.now ≡ false = search rules in
    record {
      rest = turn.1;
      distinct = turn.0;
      after = λ at.
          ended-less c.args.now c.args.entries.now (c.in-Some.at.now, c.in-Some.expiry.now) c.next.new.self at (is_listed c.loop-at.index at)
          (is_listed c.unlist.new.index at) turn.2 ended turn.3
          (c.loop-at.invariant.after at
          ∙ ap (λ (l : List (IfaceEntry × Expiry)). is_some (remaining c.args.now (get is_at c.args.entries.now at)) || is_some (lookup (is_at at) l))
          front)
          (c.unlist.ensures at);
    }

pub loop-at-preserved : goal.loop-at-preserved
loop-at-preserved c =
    let front = rest_more deref_pair _ _ c.next.result _ c.in-Some.is c.next.ensures.steps in
    let turn = rest-turn c.loop-at.at-iterator _ c.next.new.self c.args.entries.now.entries front c.loop-at.invariant.distinct
    c.loop-at.invariant.rest in
    let later : is_after c.in-Some.expiry.now c.args.now ≡ true = search rules in
    record {
      rest = turn.1;
      distinct = turn.0;
      after = λ at.
          after-left c.args.now c.args.entries.now (c.in-Some.at.now, c.in-Some.expiry.now) c.next.new.self at (is_listed c.loop-at.index at)
          turn.2 later
          (c.loop-at.invariant.after at
          ∙ ap (λ (l : List (IfaceEntry × Expiry)). is_some (remaining c.args.now (get is_at c.args.entries.now at)) || is_some (lookup (is_at at) l))
          front);
    }

pub returns : goal.returns
returns c = λ at.
    let done : c.loop-at.at-iterator ≡ [] = rest_all deref_pair _ _ c.next.result c.in-None.is c.next.ensures.steps in
    c.loop-at.invariant.after at
    ∙ (ap (λ (l : List (IfaceEntry × Expiry)). is_some (remaining c.args.now (get is_at c.args.entries.now at)) || is_some (lookup (is_at at) l)) done
    ∙ or-false _)
