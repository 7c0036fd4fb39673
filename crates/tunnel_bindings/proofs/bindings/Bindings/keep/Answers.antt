use Rattle.std.proofs.Common.{◌≡◌, ◌↔◌, ◌⊎◌, ap, sym, subst, ◌∙◌}
use Rattle.std.specs.Vec.{vec_capacity}
use Rattle.std.specs.FinMap as maps
use Rattle.tunnel_bindings.specs.Bindings.{Named, WasGiven}
use Rattle.tunnel_bindings.specs.Places.{named}
use Rattle.tunnel_bindings.proofs.FreeLemmas.{free-popped, well-filled}
use Rattle.tunnel_bindings.proofs.PlaceLemmas.{put, not_given, one_given}
use Rattle.tunnel_bindings.proofs.NamedLemmas.{gives_filled, changes_filled, none_filled, none_added, kept_added}
use Rattle.tunnel_bindings.proofs.bindings.Bindings.keep.Goals as goal

pub fill-requires : goal.fill-requires
fill-requires c =
    let inside = c.self.inside.places in
    free-popped inside.places.items inside.free.items c.pop.new.self.items c.in-Some.index (vec_capacity inside.free) c.in-Some.ensures.items
    c.self.invariant

pub invariant_of-self : goal.invariant_of-self
invariant_of-self c =
    let inside = c.self.inside.places in
    rw (c.fill.ensures.places, c.fill.ensures.free, c.in-Some.ensures.capacity)
    (well-filled inside.places.items inside.free.items c.pop.new.self.items c.in-Some.index c.fill.result.generation (vec_capacity inside.free)
    c.args.binding c.in-Some.ensures.items c.fill.ensures.place c.self.invariant)

pub returns-in-Some-clause-new : goal.returns-in-Some-clause-new
returns-in-Some-clause-new c = λ given.
    let old = c.self.inside.places.places.items in
    let new = c.fill.new.self.places.items in
    let gives = gives_filled old new c.fill.result c.in-Some.index c.args.binding c.fill.ensures.index c.fill.ensures.place c.fill.ensures.places in
    not_given old new c.fill.result gives (subst (λ (n : Named). WasGiven n c.fill.result) (sym c.self.view_is) given)

pub returns-in-Some-clause-kept : goal.returns-in-Some-clause-kept
returns-in-Some-clause-kept c =
    let old = c.self.inside.places.places.items in
    let new = c.fill.new.self.places.items in
    put old new c.fill.result c.args.binding (changes_filled old new c.fill.result c.in-Some.index c.args.binding c.fill.ensures.index
    c.fill.ensures.place c.fill.ensures.places)
    ∙ ap (λ (n : Named). maps.insert n.kept c.fill.result c.args.binding) c.self.view_is

pub returns-in-Some-clause-given : goal.returns-in-Some-clause-given
returns-in-Some-clause-given c = λ other.
    let old = c.self.inside.places.places.items in
    let new = c.fill.new.self.places.items in
    let name = c.fill.result in
    let gives = gives_filled old new name c.in-Some.index c.args.binding c.fill.ensures.index c.fill.ensures.place c.fill.ensures.places in
    subst (λ (n : Named). WasGiven (named new) other ↔ ((other ≡ name) ⊎ WasGiven n other)) c.self.view_is (one_given old new name gives other)

pub returns-in-None-clause-kept : goal.returns-in-None-clause-kept
returns-in-None-clause-kept c =
    kept_added c.self.inside.places.places.items c.add.new.self.places.items c.args.binding c.args.self.now c.add.result c.self.view_is
    c.add.ensures.name c.add.ensures.places

pub returns-in-Some-clause-absent : goal.returns-in-Some-clause-absent
returns-in-Some-clause-absent c =
    ap (λ (n : Named). maps.get n.kept c.fill.result) (sym c.self.view_is)
    ∙ none_filled c.self.inside.places.places.items c.fill.result c.in-Some.index c.fill.ensures.index c.fill.ensures.place

pub returns-in-None-clause-absent : goal.returns-in-None-clause-absent
returns-in-None-clause-absent c = none_added c.self.inside.places.places.items c.args.self.now c.add.result c.self.view_is c.add.ensures.name
