use Rattle.std.proofs.Common.{◌≡◌, List, [], sym, subst, arith}
use Rattle.tunnel_bindings.specs.declared.places.Place.{Place}
use Rattle.tunnel_bindings.specs.Labels.{Space}
use Rattle.tunnel_bindings.specs.Places.{AreReady, AreEnded}
use Rattle.tunnel_bindings.proofs.EndLemmas.{ready_here, ready_step, ended_step, no_places, none_ended}
use Rattle.tunnel_bindings.proofs.places.end_all.Goals as goal

pub end_place-requires : goal.end_place-requires
end_place-requires c =
    let space = c.loop-place.space in
    ready_here c.pop.new.self.items c.in-Some.place space
    (subst (λ (places : List Place). AreReady places space) c.in-Some.ensures.items c.loop-place.invariant.ready)

pub loop-place-preserved : goal.loop-place-preserved
loop-place-preserved c =
    let space = c.loop-place.space in
    let rest = c.pop.new.self.items in
    let ready = subst (λ (places : List Place). AreReady places space) c.in-Some.ensures.items c.loop-place.invariant.ready in
    record {
      ready = rw c.end_place.ensures (ready_step rest c.in-Some.place space ready);
      thereafter = λ last ended. c.loop-place.invariant.thereafter last
          (subst (λ (places : List Place). AreEnded places space last) (sym c.in-Some.ensures.items)
          (ended_step rest c.in-Some.place space last ready (subst (λ (now : Space). AreEnded rest now last) c.end_place.ensures ended)));
    }

pub returns : goal.returns
returns c =
    let space = c.loop-place.space in
    let none : c.loop-place.places.items ≡ [] =
    no_places c.loop-place.places.items (omega (arith, c.in_default.ensures.cases.0, c.loop-place.places.ok.0)) in
    c.loop-place.invariant.thereafter space (subst (λ (places : List Place). AreEnded places space space) (sym none) (none_ended space))
