use Rattle.std.proofs.Common.{◌≡◌, ◌||◌, Bool, List, [], Option, sym, ap, ◌∙◌, rules}
use Rattle.std.proofs.Math.Bool.{or-false}
use Rattle.std.specs.Map.Iter.{deref_pair}
use Rattle.std.proofs.lemmas.Map.Iter.{rest_all, rest_more}
use Rattle.scenario_defs.specs.declared.event.IfaceEntry.{IfaceEntry}
use Rattle.pim_defs.specs.declared.expiry.Expiry.{Expiry}
use Rattle.pim_state.specs.Index.{is_kept, is_listed, lists_again}
use Rattle.pim_state.proofs.IndexLemmas.{kept-more, listed-itself, midway, stays-listed}
use Rattle.pim_state.proofs.index.list_each.Goals as goal

pub loop-at-init : goal.loop-at-init
loop-at-init c =
    let all : c.into_iter-at-iterator.result ≡ c.args.changes.now.entries = search rules in
    record {
      each = λ at. ap (λ (l : List (IfaceEntry × Option Expiry)). is_listed c.args.index.now at || is_kept l at) all;
      kept = λ at. listed-itself (is_listed c.args.index.now at);
    }

pub loop-at-preserved : goal.loop-at-preserved
loop-at-preserved c =
    let front = rest_more deref_pair _ _ c.next.result _ c.in-Some.is c.next.ensures.steps in
    record {
      each = λ at.
          kept-more (is_listed c.list_kept.new.index at) (is_listed c.loop-at.index at) _ (is_kept c.next.new.self at) _
          (c.in_ok-list_kept.ensures.each at)
          (ap (λ (l : List (IfaceEntry × Option Expiry)). is_listed c.loop-at.index at || is_kept l at) (sym front)
          ∙ c.loop-at.invariant.each at);
      kept = λ at.
          stays-listed (is_listed c.args.index.now at) (is_listed c.loop-at.index at) (is_listed c.list_kept.new.index at) _
          (c.in_ok-list_kept.ensures.each at) (c.loop-at.invariant.kept at);
    }

pub returns-in_err-list_kept-clause-some : goal.returns-in_err-list_kept-clause-some
returns-in_err-list_kept-clause-some c = λ at.
    ap (λ (b : Bool). lists_again c.args.changes.now.entries (is_listed c.args.index.now at) b at) (c.in_err-list_kept.ensures.same at)
    ∙ midway c.args.changes.now.entries at (is_listed c.args.index.now at) (is_listed c.loop-at.index at) (is_kept c.loop-at.at-iterator at)
    (c.loop-at.invariant.each at) (c.loop-at.invariant.kept at)

pub returns-clause-each : goal.returns-clause-each
returns-clause-each c = λ at.
    let done : c.loop-at.at-iterator ≡ [] = rest_all deref_pair _ _ c.next.result c.in-None.is c.next.ensures.steps in
    sym (or-false (is_listed c.loop-at.index at))
    ∙ (ap (λ (l : List (IfaceEntry × Option Expiry)). is_listed c.loop-at.index at || is_kept l at) (sym done) ∙ c.loop-at.invariant.each at)

pub returns-clause-some : goal.returns-clause-some
returns-clause-some c = λ at.
    midway c.args.changes.now.entries at (is_listed c.args.index.now at) (is_listed c.loop-at.index at) (is_kept c.loop-at.at-iterator at)
    (c.loop-at.invariant.each at) (c.loop-at.invariant.kept at)
