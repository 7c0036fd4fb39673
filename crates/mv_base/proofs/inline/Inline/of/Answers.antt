use Rattle.std.proofs.Common.{◌≡◌, length, drop, replicate, arith, length-append, refl}
use Rattle.std.proofs.lemmas.List.{drop_at, drop-replicate, length-replicate}
use Rattle.mv_base.proofs.inline.Inline.of.Goals as goal

pub invariant_of-result : goal.invariant_of-result
invariant_of-result g c =
    let n = length c.args.bytes.now in
    let front : c.copy_from_slice.new.self ≡ c.args.bytes.now = c.copy_from_slice.ensures.after in
    let back : c.split_at_mut-front.result.1.now ≡ drop n (replicate g.row.N 0) = c.split_at_mut-front.ensures.back in (
      omega arith,
      rw (front, back, length-append, drop-replicate) (rw length-replicate (omega arith)),
      rw (front, back, drop_at c.args.bytes.now (drop n (replicate g.row.N 0)) n refl, drop-replicate) refl,
    )
