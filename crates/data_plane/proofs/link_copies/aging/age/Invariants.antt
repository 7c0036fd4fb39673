use Rattle.std.proofs.Common.{◌≡◌, ℕ, ◌+◌, length}
use Rattle.data_plane.specs.link_copies.CopiesData.{count_of}
use Rattle.data_plane.specs.link_copies.Kept.{sum_over, with_buffer, aged_to}
use Rattle.data_plane.specs.link_copies.Fading.{Fades}
use Rattle.data_plane.proofs.link_copies.aging.age.Given as goal

abbrev pub invariant-loop-index : goal.invariant-loop-index
invariant-loop-index l = record {
  aged : l.ways.entries ≡ aged_to l.fn.now l.fn.life l.index l.fn.ways.entries;
  counted : l.count ≡ sum_over length l.ways;
  held : (name : ℕ) → count_of l.pool name + sum_over (with_buffer name) l.fn.ways ≡ count_of l.fn.pool name + sum_over (with_buffer name) l.ways;
  fades : Fades l.fn.pool l.pool;
}
