use Rattle.std.proofs.Common.{◌≡◌, ℕ, Option, Some, sym, ap, subst, ◌∙◌, arith}
use Rattle.buf_pool.specs.Held.{shared}
use Rattle.data_plane.specs.link_copies.CopiesData.{KeptCopy, Current, CopiesData, KeepsBuffers, IsShared}
use Rattle.data_plane.specs.link_copies.Kept.{data_of}
use Rattle.data_plane.proofs.link_copies.Pools.{held_from, live_from, share_keeps, kept_octets}
use Rattle.data_plane.proofs.link_copies.Landing.{one_put}
use Rattle.data_plane.proofs.link_copies.Acts.{put_count, put_shared, finish_live, same_shared, same_count}
use Rattle.data_plane.proofs.link_copies.copies.LinkCopies.put_copy.Goals as goal

pub invariant_of-self : goal.invariant_of-self
invariant_of-self c =
    let was = c.self.inside in (
      c.put.ensures.unique,
      c.self.invariant.1 ∙ sym (same_count was.ways c.put.new.ways was.current was.pool c.in_err-put.ensures.same),
      same_shared was.ways c.put.new.ways was.current was.pool c.in_err-put.ensures.same c.self.invariant.2,
    )

pub invariant_of-self-2 : goal.invariant_of-self-2
invariant_of-self-2 c =
    let was = c.self.inside in
    let account : IsShared (data_of was.ways (Some c.in-Some.handled) was.pool) =
    subst (λ (o : Option Current). IsShared (data_of was.ways o was.pool)) c.in-Some.is c.self.invariant.2 in
    let number : c.on-kept.result.copy.number ≡ c.in-Some.handled.number = ap (λ (k : KeptCopy). k.copy.number) c.on-kept.ensures in
    let buffer : c.on-kept.result.buffer ≡ c.in-Some.handled.buffer = ap (λ (k : KeptCopy). k.buffer) c.on-kept.ensures in
    let is : c.share.new.self ≡ shared was.pool c.in-Some.handled.buffer 1 =
    c.share.ensures ∙ ap (λ (name : ℕ). shared was.pool name 1) c.buffer.ensures in (
      c.put.ensures.unique,
      omega (
        arith,
        c.self.invariant.1,
        put_count was.ways c.put.new.ways (c.args.from, c.args.branch.node) c.on-kept.result c.in-Some.handled
            was.pool c.share.new.self c.in_ok-put.ensures.put number buffer is,
      ),
      subst (λ (o : Option Current). IsShared (data_of c.put.new.ways o c.share.new.self)) (sym c.in-Some.is)
          (put_shared was.ways c.put.new.ways (c.args.from, c.args.branch.node) c.on-kept.result c.in-Some.handled was.pool c.share.new.self
          c.in_ok-put.ensures.put number buffer is account),
    )

pub returns-clause-sent : goal.returns-clause-sent
returns-clause-sent c =
    let was = c.self.inside in
    let view : data_of was.ways (Some c.in-Some.handled) was.pool ≡ c.args.self.now =
    subst (λ (o : Option Current). data_of was.ways o was.pool ≡ c.args.self.now) c.in-Some.is c.self.view_is in
    one_put was.ways c.put.new.ways c.in-Some.handled was.pool c.args.self.now view c.args.from c.args.ttl c.args.now c.args.branch c.on-kept.result
    c.on-kept.ensures c.in_ok-put.ensures.put

pub returns-clause-buffers : goal.returns-clause-buffers
returns-clause-buffers c =
    let was = c.self.inside in
    let account : IsShared (data_of was.ways (Some c.in-Some.handled) was.pool) =
    subst (λ (o : Option Current). IsShared (data_of was.ways o was.pool)) c.in-Some.is c.self.invariant.2 in
    let is : c.share.new.self ≡ shared was.pool c.in-Some.handled.buffer 1 =
    c.share.ensures ∙ ap (λ (name : ℕ). shared was.pool name 1) c.buffer.ensures in
    let live =
    held_from was.pool c.in-Some.handled.buffer
    (live_from was.pool c.in-Some.handled.buffer (finish_live was.ways c.in-Some.handled was.pool account)) in
    subst (λ (d : CopiesData). KeepsBuffers d.buffers c.share.new.self) c.self.view_is
    (subst (KeepsBuffers was.pool) (sym is) (share_keeps was.pool c.in-Some.handled.buffer live.0 live.1))

pub returns-clause-octets : goal.returns-clause-octets
returns-clause-octets c = kept_octets c.args.self.now.buffers c.share.new.self (returns-clause-buffers c)
