use Rattle.std.proofs.Common.{◌≡◌, length, drop, replicate, arith, length-append, refl}
use Rattle.std.proofs.lemmas.List.{drop_at, drop-replicate, length-replicate}
use Rattle.mv_base.specs.route_targets.Padding.{zeros}
use Rattle.mv_base.proofs.route_targets.targets.Targets.of.Goals as goal

pub invariant_of-result : goal.invariant_of-result
invariant_of-result c =
    let n = length c.args.list.now in
    let front : c.copy_from_slice.new.self ≡ c.args.list.now = c.copy_from_slice.ensures.after in
    let back : c.split_at_mut-front.result.1.now ≡ drop n (replicate 8 zeros) = c.split_at_mut-front.ensures.back in
    record {
      some = search (arith);
      within = omega arith;
      places = rw (front, back, length-append, drop-replicate) (rw length-replicate (omega arith));
      spare = rw (front, back, drop_at c.args.list.now (drop n (replicate 8 zeros)) n refl, drop-replicate) refl;
    }
