use Rattle.std.proofs.Common.{rules, ◌≡◌, ◌∙◌, ◌<◌, ◌+◌, ℕ, sym, ap, subst, arith, Option, None, length, take}
use Rattle.std.specs.FinMap as maps
use Rattle.buf_pool.specs.Held.{held}
use Rattle.indexmap.specs.IndexMap.{IsUnique}
use Rattle.data_plane.specs.link_copies.CopiesData.{CopiesData, Current, IsShared, all_kept}
use Rattle.data_plane.specs.link_copies.Kept.{ArePut, data_of, is_way}
use Rattle.data_plane.proofs.link_copies.Holdings.{copies_of, lacks_none}
use Rattle.data_plane.proofs.link_copies.SentBuffers.{all_sent, first_sent, opened_count, sent_count, sent_seen}
use Rattle.data_plane.proofs.link_copies.copies.LinkCopies.send.Goals as goal

pub give_back_rest-requires : goal.give_back_rest-requires
give_back_rest-requires c =
    let was = c.self.inside in
    let none : was.current ≡ None = ap (λ (d : CopiesData). d.current) c.self.view_is ∙ c.requires.current in
    let account : IsShared (data_of was.ways None was.pool) =
    subst (λ (o : Option Current). IsShared (data_of was.ways o was.pool)) none c.self.invariant.2 in
    let fresh : copies_of (data_of was.ways None was.pool) c.args.number ≡ 0 =
    ap (λ (d : CopiesData). copies_of d c.args.number) c.self.view_is ∙ lacks_none c.args.self.now c.args.number c.requires.fresh in
    let puts : ArePut c.args.ttl c.args.now (record { number = c.args.number; buffer = c.in_ok-buffer.buffer })
    (take c.put_on_each-put.result c.args.hops.now) was.ways c.put_on_each-put.new.ways =
    subst (λ (x : Current). ArePut c.args.ttl c.args.now x (take c.put_on_each-put.result c.args.hops.now) was.ways c.put_on_each-put.new.ways)
    c.of-datagram.ensures c.put_on_each-put.ensures.put in
    let opens : c.put.new.self ≡ maps.insert was.pool c.in_ok-buffer.buffer (held c.args.octets.now (length c.args.hops.now)) =
    c.in_ok-buffer.ensures.put ∙ ap (λ (count : ℕ). maps.insert was.pool c.in_ok-buffer.buffer (held c.args.octets.now count)) c.in_ok-copies.ensures
    in
    omega (
      arith,
      opened_count was.ways c.put_on_each-put.new.ways c.args.number c.in_ok-buffer.buffer c.put_on_each-put.result c.args.ttl c.args.now
          c.args.hops.now c.args.octets.now was.pool c.put.new.self
          c.put_on_each-put.ensures.most puts c.in_ok-buffer.ensures.new opens fresh account,
    )

pub invariant_of-self-then-put-hops : goal.invariant_of-self-then-put-hops
invariant_of-self-then-put-hops c =
    let was = c.self.inside in
    let none : was.current ≡ None = ap (λ (d : CopiesData). d.current) c.self.view_is ∙ c.requires.current in
    let account : IsShared (data_of was.ways None was.pool) =
    subst (λ (o : Option Current). IsShared (data_of was.ways o was.pool)) none c.self.invariant.2 in
    let fresh : copies_of (data_of was.ways None was.pool) c.args.number ≡ 0 =
    ap (λ (d : CopiesData). copies_of d c.args.number) c.self.view_is ∙ lacks_none c.args.self.now c.args.number c.requires.fresh in
    let puts : ArePut c.args.ttl c.args.now (record { number = c.args.number; buffer = c.in_ok-buffer.buffer })
    (take c.put_on_each-put.result c.args.hops.now) was.ways c.put_on_each-put.new.ways =
    subst (λ (x : Current). ArePut c.args.ttl c.args.now x (take c.put_on_each-put.result c.args.hops.now) was.ways c.put_on_each-put.new.ways)
    c.of-datagram.ensures c.put_on_each-put.ensures.put in
    let opens : c.put.new.self ≡ maps.insert was.pool c.in_ok-buffer.buffer (held c.args.octets.now (length c.args.hops.now)) =
    c.in_ok-buffer.ensures.put ∙ ap (λ (count : ℕ). maps.insert was.pool c.in_ok-buffer.buffer (held c.args.octets.now count)) c.in_ok-copies.ensures
    in
    let some : 0 < length c.args.hops.now = omega (arith, c.if-put-hops.true) in
    subst
    (λ (o : Option Current). IsUnique is_way c.put_on_each-put.new.ways
    × (c.self.inside.count + c.put_on_each-put.result ≡ length (all_kept (data_of c.put_on_each-put.new.ways o c.give_back_rest.new.pool)))
    × IsShared (data_of c.put_on_each-put.new.ways o c.give_back_rest.new.pool)) (sym none) (
      puts.unique,
      omega (
        arith,
        c.self.invariant.1,
        ap (λ (o : Option Current). length (all_kept (data_of was.ways o was.pool))) none,
        sent_count was.ways c.put_on_each-put.new.ways c.args.number c.in_ok-buffer.buffer c.put_on_each-put.result c.args.ttl c.args.now
            c.args.hops.now c.args.octets.now was.pool c.put.new.self
            c.put_on_each-put.ensures.most puts c.in_ok-buffer.ensures.new opens fresh account c.give_back_rest.new.pool,
      ),
      first_sent was.ways c.put_on_each-put.new.ways c.args.number c.in_ok-buffer.buffer c.put_on_each-put.result c.args.ttl c.args.now
          c.args.hops.now c.args.octets.now was.pool c.put.new.self
          c.put_on_each-put.ensures.most puts c.in_ok-buffer.ensures.new opens fresh account some c.give_back_rest.new.pool
          c.give_back_rest.ensures.counted c.give_back_rest.ensures.fades,
    )

pub invariant_of-self-else-put-hops : goal.invariant_of-self-else-put-hops
invariant_of-self-else-put-hops c =
    let was = c.self.inside in
    let none : was.current ≡ None = ap (λ (d : CopiesData). d.current) c.self.view_is ∙ c.requires.current in
    let account : IsShared (data_of was.ways None was.pool) =
    subst (λ (o : Option Current). IsShared (data_of was.ways o was.pool)) none c.self.invariant.2 in
    let fresh : copies_of (data_of was.ways None was.pool) c.args.number ≡ 0 =
    ap (λ (d : CopiesData). copies_of d c.args.number) c.self.view_is ∙ lacks_none c.args.self.now c.args.number c.requires.fresh in
    let puts : ArePut c.args.ttl c.args.now (record { number = c.args.number; buffer = c.in_ok-buffer.buffer })
    (take c.put_on_each-put.result c.args.hops.now) was.ways c.put_on_each-put.new.ways =
    subst (λ (x : Current). ArePut c.args.ttl c.args.now x (take c.put_on_each-put.result c.args.hops.now) was.ways c.put_on_each-put.new.ways)
    c.of-datagram.ensures c.put_on_each-put.ensures.put in
    let opens : c.put.new.self ≡ maps.insert was.pool c.in_ok-buffer.buffer (held c.args.octets.now (length c.args.hops.now)) =
    c.in_ok-buffer.ensures.put ∙ ap (λ (count : ℕ). maps.insert was.pool c.in_ok-buffer.buffer (held c.args.octets.now count)) c.in_ok-copies.ensures
    in
    let some : 0 < length c.args.hops.now = c.requires.some in
    subst
    (λ (o : Option Current). IsUnique is_way c.put_on_each-put.new.ways
    × (c.self.inside.count + c.put_on_each-put.result ≡ length (all_kept (data_of c.put_on_each-put.new.ways o c.put.new.self)))
    × IsShared (data_of c.put_on_each-put.new.ways o c.put.new.self)) (sym none) (
      puts.unique,
      omega (
        arith,
        c.self.invariant.1,
        ap (λ (o : Option Current). length (all_kept (data_of was.ways o was.pool))) none,
        sent_count was.ways c.put_on_each-put.new.ways c.args.number c.in_ok-buffer.buffer c.put_on_each-put.result c.args.ttl c.args.now
            c.args.hops.now c.args.octets.now was.pool c.put.new.self
            c.put_on_each-put.ensures.most puts c.in_ok-buffer.ensures.new opens fresh account c.put.new.self,
      ),
      all_sent was.ways c.put_on_each-put.new.ways c.args.number c.in_ok-buffer.buffer c.put_on_each-put.result c.args.ttl c.args.now c.args.hops.now
          c.args.octets.now was.pool c.put.new.self
          c.put_on_each-put.ensures.most puts c.in_ok-buffer.ensures.new opens fresh account some c.if-put-hops.false,
    )

pub returns-clause-sent : goal.returns-clause-sent
returns-clause-sent c =
    let was = c.self.inside in
    let none : was.current ≡ None = ap (λ (d : CopiesData). d.current) c.self.view_is ∙ c.requires.current in
    let account : IsShared (data_of was.ways None was.pool) =
    subst (λ (o : Option Current). IsShared (data_of was.ways o was.pool)) none c.self.invariant.2 in
    let fresh : copies_of (data_of was.ways None was.pool) c.args.number ≡ 0 =
    ap (λ (d : CopiesData). copies_of d c.args.number) c.self.view_is ∙ lacks_none c.args.self.now c.args.number c.requires.fresh in
    let puts : ArePut c.args.ttl c.args.now (record { number = c.args.number; buffer = c.in_ok-buffer.buffer })
    (take c.put_on_each-put.result c.args.hops.now) was.ways c.put_on_each-put.new.ways =
    subst (λ (x : Current). ArePut c.args.ttl c.args.now x (take c.put_on_each-put.result c.args.hops.now) was.ways c.put_on_each-put.new.ways)
    c.of-datagram.ensures c.put_on_each-put.ensures.put in
    let opens : c.put.new.self ≡ maps.insert was.pool c.in_ok-buffer.buffer (held c.args.octets.now (length c.args.hops.now)) =
    c.in_ok-buffer.ensures.put ∙ ap (λ (count : ℕ). maps.insert was.pool c.in_ok-buffer.buffer (held c.args.octets.now count)) c.in_ok-copies.ensures
    in
    let view : data_of was.ways None was.pool ≡ c.args.self.now =
    subst (λ (o : Option Current). data_of was.ways o was.pool ≡ c.args.self.now) none c.self.view_is in
    record {
      buffer = c.in_ok-buffer.buffer;
      fresh = ap (λ (d : CopiesData). maps.get d.buffers c.in_ok-buffer.buffer) (sym view) ∙ c.in_ok-buffer.ensures.new;
      buffers = opens ∙ ap (λ (d : CopiesData). maps.insert d.buffers c.in_ok-buffer.buffer (held c.args.octets.now (length c.args.hops.now))) view;
      copies = sent_seen was.ways c.put_on_each-put.new.ways c.args.number c.in_ok-buffer.buffer c.put_on_each-put.result c.args.ttl c.args.now
          c.args.hops.now c.args.octets.now was.pool c.put.new.self
          c.put_on_each-put.ensures.most puts c.in_ok-buffer.ensures.new opens fresh account c.if-put-hops.false c.args.self.now view;
    }
