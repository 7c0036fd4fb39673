use Rattle.std.proofs.Common.{rules, ◌≡◌, ◌&&◌, not, cond, List, Option, Some, sym, ap, ◌∙◌}
use Rattle.std.specs.List.{list_any}
use Rattle.indexmap.specs.IndexMap.{get}
use Rattle.scenario_defs.specs.declared.event.IfaceEntry.{IfaceEntry}
use Rattle.pim_state.specs.declared.index.IndexKey.{IndexKey}
use Rattle.pim_state.specs.Plan.{is_at}
use Rattle.pim_state.specs.Index.{among, is_key, key_of}
use Rattle.pim_state.proofs.IndexLemmas.{listed-less}
use Rattle.pim_state.proofs.index.take_off.Goals as goal

pub returns-in-Some-clause-each : goal.returns-in-Some-clause-each
returns-in-Some-clause-each c = λ other.
    let written = (c.get_mut.follows.holds c.take_out.new.self).3 (search rules) in
    let there : get is_key c.args.index.now (key_of c.args.at.now.entry) ≡ Some c.in-Some.own.now = search rules in
    ap (λ (o : Option (List IfaceEntry)). list_any (is_at other) (among o)) (written.0 (key_of other.entry)
    ∙ ap (λ (x : IndexKey). cond (is_key x (key_of other.entry)) (Some c.take_out.new.self) (get is_key c.args.index.now (key_of other.entry)))
    c.key_of.ensures)
    ∙ listed-less c.args.index.now c.args.at.now other c.take_out.new.self
    (λ x. c.take_out.ensures.each x
    ∙ ap (λ (o : Option (List IfaceEntry)). list_any (is_at x) (among o) && not (is_at c.args.at.now x)) (sym there))
