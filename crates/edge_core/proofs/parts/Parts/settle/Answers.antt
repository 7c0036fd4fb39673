use Rattle.std.proofs.Common.{List, map, ap, ◌∙◌}
use Rattle.edge_routing.proofs.control_laws.Parts.{no_core}
use Rattle.edge_routing.specs.edge_labels.declared.changes.LeafChange.{LeafChange}
use Rattle.edge_routing.specs.edge_labels.Calls.{leaf_call}
use Rattle.edge_core.specs.Answers.{streams_after}
use Rattle.edge_core.specs.Called.{with_streams}
use Rattle.edge_core.proofs.StepLemmas.{changes_of, has_rerouted, has_settled, has_stopped, told_is, wantable}
use Rattle.edge_core.proofs.parts.Parts.settle.Goals as goal

pub step-requires-clause-trees : goal.step-requires-clause-trees
step-requires-clause-trees c =
    let called = c.requires.called in
    let parts = with_streams (streams_after called.call called.old.streams) c.args.self.now in
    let told = c.in_ok-candidates.field-0 in
    let mid =
    told_is c.args.core.now c.args.now c.args.own.now called.call called.old parts c.args.told told c.in_ok-candidates.was called.is in
    wantable c.args.core.now c.args.now c.args.own.now called.call called.old parts told mid c.home.ensures.sound.home no_core
    c.deref-2.result.now
    (ap (λ (xs : List LeafChange). map leaf_call xs) c.deref-2.ensures.value
    ∙ changes_of c.args.core.now c.args.now c.args.own.now called.call called.old parts told mid c.deref.result.now
    c.in_ok-changes.changes.items c.deref.ensures.value c.in_ok-changes.ensures no_core)

pub returns-in-Ok-clause-answers : goal.returns-in-Ok-clause-answers
returns-in-Ok-clause-answers c = λ call old is.
    let told = c.in_ok-candidates.field-0 in
    let mid = told_is c.args.core.now c.args.now c.args.own.now call old c.args.self.now c.args.told told c.in_ok-candidates.was is in
    has_settled c.args.core.now c.args.now c.args.own.now call old c.args.self.now told mid c.step.new.self c.deref-2.result.now c.nodes.ensures.told
    (λ any. ap (λ (xs : List LeafChange). map leaf_call xs) c.deref-2.ensures.value
    ∙ changes_of c.args.core.now c.args.now c.args.own.now call old c.args.self.now told mid c.deref.result.now c.in_ok-changes.changes.items
    c.deref.ensures.value c.in_ok-changes.ensures any)
    (c.in-Ok.ensures)

pub returns-in-Ok-clause-beside : goal.returns-in-Ok-clause-beside
returns-in-Ok-clause-beside c = λ streams call old is.
    let parts = with_streams streams c.args.self.now in
    let told = c.in_ok-candidates.field-0 in
    let mid = told_is c.args.core.now c.args.now c.args.own.now call old parts c.args.told told c.in_ok-candidates.was is in
    has_settled c.args.core.now c.args.now c.args.own.now call old parts told mid c.step.new.self c.deref-2.result.now c.nodes.ensures.told
    (λ any. ap (λ (xs : List LeafChange). map leaf_call xs) c.deref-2.ensures.value
    ∙ changes_of c.args.core.now c.args.now c.args.own.now call old parts told mid c.deref.result.now c.in_ok-changes.changes.items
    c.deref.ensures.value c.in_ok-changes.ensures any)
    (c.in-Ok.ensures)

pub returns-clause-answers : goal.returns-clause-answers
returns-clause-answers c = λ call old is.
    let told = c.in_ok-candidates.field-0 in
    let mid = told_is c.args.core.now c.args.now c.args.own.now call old c.args.self.now c.args.told told c.in_ok-candidates.was is in
    has_stopped c.args.core.now c.args.now c.args.own.now call old c.args.self.now told mid c.step.new.self c.deref-2.result.now c.in-Err.fault
    c.from.result c.from.ensures
    (λ any. ap (λ (xs : List LeafChange). map leaf_call xs) c.deref-2.ensures.value
    ∙ changes_of c.args.core.now c.args.now c.args.own.now call old c.args.self.now told mid c.deref.result.now c.in_ok-changes.changes.items
    c.deref.ensures.value c.in_ok-changes.ensures any)
    c.in-Err.ensures

pub returns-clause-beside : goal.returns-clause-beside
returns-clause-beside c = λ streams call old is.
    let parts = with_streams streams c.args.self.now in
    let told = c.in_ok-candidates.field-0 in
    let mid = told_is c.args.core.now c.args.now c.args.own.now call old parts c.args.told told c.in_ok-candidates.was is in
    has_stopped c.args.core.now c.args.now c.args.own.now call old parts told mid c.step.new.self c.deref-2.result.now c.in-Err.fault
    c.from.result c.from.ensures
    (λ any. ap (λ (xs : List LeafChange). map leaf_call xs) c.deref-2.ensures.value
    ∙ changes_of c.args.core.now c.args.now c.args.own.now call old parts told mid c.deref.result.now c.in_ok-changes.changes.items
    c.deref.ensures.value c.in_ok-changes.ensures any)
    c.in-Err.ensures

pub returns-in-Ok-clause-toward : goal.returns-in-Ok-clause-toward
returns-in-Ok-clause-toward c = λ is_own.
    let called = c.requires.called in
    let parts = with_streams (streams_after called.call called.old.streams) c.args.self.now in
    let told = c.in_ok-candidates.field-0 in
    let mid =
    told_is c.args.core.now c.args.now c.args.own.now called.call called.old parts c.args.told told c.in_ok-candidates.was called.is in
    has_rerouted c.args.core.now c.args.now c.args.own.now called.call called.old parts told mid c.step.new.self c.deref-2.result.now
    (λ any. ap (λ (xs : List LeafChange). map leaf_call xs) c.deref-2.ensures.value
    ∙ changes_of c.args.core.now c.args.now c.args.own.now called.call called.old parts told mid c.deref.result.now
    c.in_ok-changes.changes.items c.deref.ensures.value c.in_ok-changes.ensures any)
    (c.in-Ok.ensures) is_own
