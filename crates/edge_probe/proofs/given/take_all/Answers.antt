use Rattle.std.proofs.Common.{◌≡◌, ◌++◌, ◌∷◌, [], List, ℕ, take, refl, sym, ap, subst, ◌∙◌, append_assoc}
use Rattle.std.proofs.lemmas.List.{append-nil, take-append-drop}
use Rattle.edge_probe.specs.Behind.{IsTold}
use Rattle.probe_defs.specs.declared.probe.ProbeLine.TheVariants.{Piece}
use Rattle.edge_probe.proofs.GivenLemmas.{both_given, none_given_yet, none_left}
use Rattle.edge_probe.proofs.given.take_all.Goals as goal

pub loop-fault-init : goal.loop-fault-init
loop-fault-init c = record {
  front = [];
  are = refl;
  told = λ done told. none_given_yet c.args.core.now c.args.peer done c.args.fault c.args.own.now told;
  home = refl;
}

pub take-requires : goal.take-requires
take-requires c =
    let before = c.loop-fault.invariant in
    record { given = (c.requires.given.0 ++ Piece before.front ∷ [], (before.told c.requires.given.0 c.requires.given.1).given) }

pub returns-in_err-fault-clause-home : goal.returns-in_err-fault-clause-home
returns-in_err-fault-clause-home c = c.take.ensures.home ∙ c.loop-fault.invariant.home

pub loop-fault-preserved : goal.loop-fault-preserved
loop-fault-preserved c =
    let before = c.loop-fault.invariant in
    let front = c.split_at.result.0.now in
    let more = c.split_at.result.1.now in
    let whole : front ++ more ≡ c.loop-fault.rest.now =
    ap (λ (xs : List ℕ). xs ++ more) c.split_at.ensures.front
    ∙ ap (λ (xs : List ℕ). take c.min.result c.loop-fault.rest.now ++ xs) c.split_at.ensures.back
    ∙ take-append-drop c.min.result c.loop-fault.rest.now in
    record {
      front = before.front ++ front;
      are = before.are ∙ ap (λ (xs : List ℕ). before.front ++ xs) (sym whole) ∙ sym (append_assoc before.front front more);
      told = λ done told.
          both_given c.args.core.now c.args.peer done before.front front c.in_ok-fault.fault c.take.new.own
          (c.in_ok-fault.ensures.told (done ++ Piece before.front ∷ []) (before.told done told).given);
      home = c.take.ensures.home ∙ before.home;
    }

pub returns-clause-told : goal.returns-clause-told
returns-clause-told c = λ done told.
    let before = c.loop-fault.invariant in
    subst (λ (octets : List ℕ). IsTold c.args.core.now c.args.peer (done ++ Piece octets ∷ []) c.loop-fault.fault c.loop-fault.own)
    (sym (before.are ∙ ap (λ (xs : List ℕ). before.front ++ xs)
    (none_left c.is_empty.result c.loop-fault.rest.now c.loop-fault-test.false c.is_empty.ensures) ∙ append-nil before.front))
    (before.told done told)

pub returns-clause-home : goal.returns-clause-home
returns-clause-home c = c.loop-fault.invariant.home
