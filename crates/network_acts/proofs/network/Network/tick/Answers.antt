use Rattle.std.proofs.Common.{◌∙◌, ap, sym}
use Rattle.scenario_defs.specs.declared.scenario.Scenario.{Scenario}
use Rattle.network_acts.specs.Instant.{standing_of}
use Rattle.network_acts.proofs.PlaneActs.{own_is, ticks}
use Rattle.network_acts.proofs.network.Network.tick.Goals as goal

pub returns : goal.returns
returns c = λ at is.
    ticks _ c.args.self.now c.self.view_is c.elapse.new.self at c.args.ticks c.age.new.self is (c.elapse.ensures.acts (standing_of at))
    (λ world idle in_plane same.
    c.age.ensures world idle
    (in_plane.around.clock ∙ sym c.clock-now.ensures.own)
    (ap (λ (s : Scenario). s.life) (same ∙ (sym (own_is _ c.args.self.now c.self.view_is at is).scenario ∙ sym c.lent.ensures))))

pub invariant_of-self : goal.invariant_of-self
invariant_of-self c = c.elapse.ensures.places.keeps c.self.inside.scenario c.self.invariant
