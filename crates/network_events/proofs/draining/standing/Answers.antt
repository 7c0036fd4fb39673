use Rattle.std.proofs.Common.{◌∙◌, List, ap, get_or, refl}
use Rattle.std.proofs.lemmas.List.{take_all}
use Rattle.mv_base.specs.declared.core_link.Link.{Link}
use Rattle.scenario_defs.specs.declared.scenario.Scenario.{Scenario}
use Rattle.network_events.specs.Datagrams.{ways_of, ways_of_links}
use Rattle.network_events.proofs.HopLemmas.{links_next}
use Rattle.network_events.proofs.draining.standing.Goals as goal

pub loop-link-init : goal.loop-link-init
loop-link-init c = λ at is. c.new-ways.ensures

pub loop-link-preserved : goal.loop-link-preserved
loop-link-preserved c = λ at is.
    let none : Link = record { a = record { 0 = 0 }; b = record { 0 = 0 }; cost = 0 } in
    links_next at.world c.as_slice-link-items.result.now c.loop-link.link-index none
    (get_or c.as_slice-link-items.result.now c.loop-link.link-index none) c.loop-link.ways c.add_link.new.ways c.loop-link-test.true refl
    (c.loop-link.invariant at is) (c.in_ok-add_link.ensures at is)

pub returns : goal.returns
returns c = λ at is.
    c.loop-link.invariant at is
    ∙ ap (λ (links : List Link). ways_of at.world (ways_of_links links))
    (take_all c.loop-link.link-index c.as_slice-link-items.result.now c.loop-link-test.false
    ∙ (c.as_slice-link-items.ensures ∙ ap (λ (s : Scenario). s.links) (c.scenario.ensures ∙ is.scenario)))
