use Rattle.std.proofs.Common.{◌≡◌, ℕ, ◌+◌, take}
use Rattle.data_plane.specs.link_copies.CopiesData.{count_of}
use Rattle.data_plane.specs.link_copies.Kept.{gone}
use Rattle.data_plane.specs.link_copies.Fading.{Fades}
use Rattle.data_plane.proofs.link_copies.aging.give_back_old.Given as goal

abbrev pub invariant-loop-place : goal.invariant-loop-place
invariant-loop-place l =
    ((name : ℕ) → count_of l.pool name + gone l.fn.now l.fn.life name (take l.place l.fn.queue) ≡ count_of l.fn.pool name) × Fades l.fn.pool l.pool
