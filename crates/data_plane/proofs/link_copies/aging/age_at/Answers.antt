use Rattle.std.proofs.Common.{List, length, sym, ap, ◌∙◌, arith}
use Rattle.indexmap.specs.IndexMap.{set_value_at}
use Rattle.data_plane.specs.link_copies.CopiesData.{KeptCopy}
use Rattle.data_plane.specs.link_copies.Kept.{with_buffer}
use Rattle.data_plane.proofs.link_copies.OldCopies.{recent-parts}
use Rattle.data_plane.proofs.link_copies.AgedWays.{sum-set, sum-least, set-aged, aged-past}
use Rattle.data_plane.proofs.link_copies.aging.age_at.Goals as goal

pub age_queue-requires : goal.age_queue-requires
age_queue-requires c = record {
  held = λ name. omega (
    arith,
    c.requires.held name,
    recent-parts c.args.now c.args.life name c.in-Some.queue.now,
    sum-least (with_buffer name) c.args.ways.now.entries c.args.index c.in-Some.queue.now (sym c.in-Some.ensures.value),
  );
}

pub overflow_sub-count : goal.overflow_sub-count
overflow_sub-count c = omega (
  arith,
  c.requires.counted,
  c.age_queue.ensures.dropped,
  sum-least length c.args.ways.now.entries c.args.index c.in-Some.queue.now (sym c.in-Some.ensures.value),
)

pub returns-in-None-clause-aged : goal.returns-in-None-clause-aged
returns-in-None-clause-aged c = aged-past c.args.now c.args.life c.args.ways.now.entries c.args.index (sym c.in-None.ensures.value)

pub returns-in-Some-clause-aged : goal.returns-in-Some-clause-aged
returns-in-Some-clause-aged c =
    ap (λ (ks : List KeptCopy). set_value_at c.args.ways.now.entries c.args.index ks) c.age_queue.ensures.recent
    ∙ set-aged c.args.now c.args.life c.args.ways.now.entries c.args.index c.in-Some.queue.now (sym c.in-Some.ensures.value)

pub returns-in-Some-clause-counted : goal.returns-in-Some-clause-counted
returns-in-Some-clause-counted c = omega (
  arith,
  c.requires.counted,
  c.age_queue.ensures.dropped,
  sum-set length c.args.ways.now.entries c.args.index c.in-Some.queue.now c.age_queue.new.queue (sym c.in-Some.ensures.value),
)

pub returns-in-Some-clause-held : goal.returns-in-Some-clause-held
returns-in-Some-clause-held c = λ name. omega (
  arith,
  c.age_queue.ensures.counted name,
  ap (λ (ks : List KeptCopy). with_buffer name ks) c.age_queue.ensures.recent,
  recent-parts c.args.now c.args.life name c.in-Some.queue.now,
  sum-set (with_buffer name) c.args.ways.now.entries c.args.index c.in-Some.queue.now c.age_queue.new.queue (sym c.in-Some.ensures.value),
)
