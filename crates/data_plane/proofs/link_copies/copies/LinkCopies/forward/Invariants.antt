use Rattle.std.proofs.Common.{◌≡◌, ◌++◌, map, take}
use Rattle.mv_base.specs.declared.ids.NodeId.{NodeId}
use Rattle.data_plane.specs.link_copies.CopiesData.{kept_at, hop_of, sent, KeepsBuffers}
use Rattle.data_plane.proofs.link_copies.copies.LinkCopies.forward.Given as goal

abbrev pub invariant-loop-branch : goal.invariant-loop-branch
invariant-loop-branch l =
    ((u n : NodeId) → kept_at l.self u n ≡ kept_at l.fn.self u n
    ++ sent l.fn.self.current l.fn.from l.fn.ttl l.fn.now (map hop_of (take l.branch-index l.fn.branches)) u n)
    × (l.self.current ≡ l.fn.self.current) × KeepsBuffers l.fn.self.buffers l.self.buffers
