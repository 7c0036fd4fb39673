use Rattle.std.proofs.Common.{List, sym, ap, subst, ◌∙◌, arith}
use Rattle.buf_pool.specs.Held.{Buffers}
use Rattle.data_plane.specs.link_copies.CopiesData.{KeptCopy, count_of}
use Rattle.data_plane.specs.link_copies.Kept.{gone}
use Rattle.data_plane.specs.link_copies.Fading.{Fades}
use Rattle.data_plane.proofs.link_copies.OldCopies.{gone-more, gone-room, past-more}
use Rattle.data_plane.proofs.link_copies.Pools.{fades_twice}
use Rattle.data_plane.proofs.link_copies.aging.give_back_old.Goals as goal
use Rattle.data_plane.proofs.link_copies.aging.give_back_old.Goals.{in-Some, in_default}

pub give_back_of-requires : goal.give_back_of-requires
give_back_of-requires c = record {
  held = omega (
    arith,
    c.requires.held c.in-Some.kept.buffer,
    c.loop-place.invariant.0 c.in-Some.kept.buffer,
    gone-room c.args.now c.args.life c.args.queue.now c.loop-place.place c.in-Some.kept (sym c.at.ensures ∙ c.in-Some.is),
  );
}

pub loop-place-preserved : goal.loop-place-preserved
loop-place-preserved c = elim c.match-at.branch [
  | in-Some w ↦ (
    λ name. omega (
      arith,
      c.loop-place.invariant.0 name,
      w.give_back_of.ensures.counted name,
      ap (λ (m : Buffers). count_of m name) w.pool-is,
      gone-more c.args.now c.args.life name c.args.queue.now c.loop-place.place w.in-Some.kept (sym c.at.ensures ∙ w.in-Some.is),
    ),
    subst (Fades c.args.pool.now) (sym w.pool-is)
        (fades_twice c.args.pool.now c.loop-place.pool w.give_back_of.new.pool c.loop-place.invariant.1 w.give_back_of.ensures.fades),
  )
  | in_default w ↦ (
    λ name. omega (
      arith,
      c.loop-place.invariant.0 name,
      ap (λ (m : Buffers). count_of m name) w.pool-is,
      ap (λ (ks : List KeptCopy). gone c.args.now c.args.life name ks)
          (past-more c.args.queue.now c.loop-place.place (sym c.at.ensures ∙ w.in_default.is)),
    ),
    subst (Fades c.args.pool.now) (sym w.pool-is) c.loop-place.invariant.1,
  )
]
