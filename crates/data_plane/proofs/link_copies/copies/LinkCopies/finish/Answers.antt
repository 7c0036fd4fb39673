use Rattle.std.proofs.Common.{◌≡◌, Option, None, Some, ap, subst, ◌∙◌}
use Rattle.buf_pool.specs.Held.{given_back}
use Rattle.data_plane.specs.link_copies.CopiesData.{CopiesData, Current, KeepsOctets, IsShared}
use Rattle.data_plane.specs.link_copies.Kept.{data_of}
use Rattle.data_plane.proofs.link_copies.Pools.{faded_octets}
use Rattle.data_plane.proofs.link_copies.Acts.{finish_fades, finish_shared}
use Rattle.data_plane.proofs.link_copies.copies.LinkCopies.finish.Goals as goal

pub invariant_of-self : goal.invariant_of-self
invariant_of-self c =
    let was = c.self.inside in
    let account : IsShared (data_of was.ways (Some c.in-Some.handled) was.pool) =
    subst (λ (o : Option Current). IsShared (data_of was.ways o was.pool)) c.in-Some.is c.self.invariant.2 in
    let is : c.give_back.new.self ≡ given_back was.pool c.in-Some.handled.buffer = c.give_back.ensures ∙ ap (given_back was.pool) c.buffer.ensures in
    (c.self.invariant.0, c.self.invariant.1, finish_shared was.ways c.in-Some.handled was.pool c.give_back.new.self is account)

pub returns-clause-octets : goal.returns-clause-octets
returns-clause-octets c =
    let was = c.self.inside in
    let account : IsShared (data_of was.ways (Some c.in-Some.handled) was.pool) =
    subst (λ (o : Option Current). IsShared (data_of was.ways o was.pool)) c.in-Some.is c.self.invariant.2 in
    let is : c.give_back.new.self ≡ given_back was.pool c.in-Some.handled.buffer = c.give_back.ensures ∙ ap (given_back was.pool) c.buffer.ensures in
    subst (λ (d : CopiesData). KeepsOctets d (data_of was.ways None c.give_back.new.self)) c.self.view_is
    (faded_octets was.pool c.give_back.new.self (finish_fades was.ways c.in-Some.handled was.pool c.give_back.new.self is account))
