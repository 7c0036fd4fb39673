use Rattle.std.proofs.Common.{ap, sym, ◌∙◌, arith}
use Rattle.std.specs.Vec.{vec_capacity}
use Rattle.tunnel_bindings.proofs.FreeLemmas.{room-left, well-emptied}
use Rattle.tunnel_bindings.proofs.NamedLemmas.{found}
use Rattle.tunnel_bindings.proofs.places.Places.take.Goals as goal

pub release-requires : goal.release-requires
release-requires c =
    let places = c.args.self.now.places.items in
    let name = c.args.name in
    let place = found places name (sym c.holds.ensures ∙ c.if-not-holds.false) in
    rw c.empty-binding.ensures.free (room-left places c.args.self.now.free.items (vec_capacity c.args.self.now.free) name.index name.generation
    place.0 place.1 c.requires)

pub returns-clause-well : goal.returns-clause-well
returns-clause-well c =
    let places = c.args.self.now.places.items in
    let name = c.args.name in
    let place = found places name (sym c.holds.ensures ∙ c.if-not-holds.false) in
    rw (c.release.ensures.places, c.release.ensures.free, c.empty-binding.ensures.places, c.empty-binding.ensures.free)
    (well-emptied places c.args.self.now.free.items (vec_capacity c.args.self.now.free) (vec_capacity c.release.new.self.free) name.index
    name.generation place.0
    (omega (arith, c.release.ensures.capacity, ap vec_capacity c.empty-binding.ensures.free)) place.1 c.requires)
