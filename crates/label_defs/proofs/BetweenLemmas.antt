-- Which of two nodes is named first tells nothing.
use Rattle.std.proofs.Common.{◌≡◌, ◌==◌, ◌&&◌, ◌||◌, ◌∙◌}
use Rattle.std.proofs.Math.Bool.{and_comm, or_comm}
use Rattle.mldp.specs.mv_base.declared.ids.NodeId.{NodeId}
use Rattle.label_defs.specs.Between.{is_between, is_either}

pub between_swap : (a b u n : NodeId) → is_between a b u n ≡ is_between a b n u
between_swap a b u n =
    or_comm ((u.0 == a.0) && (n.0 == b.0)) ((u.0 == b.0) && (n.0 == a.0))
    ∙ λ i. and_comm (u.0 == b.0) (n.0 == a.0) i || and_comm (u.0 == a.0) (n.0 == b.0) i

pub either_swap : (a u n : NodeId) → is_either a u n ≡ is_either a n u
either_swap a u n = or_comm (u.0 == a.0) (n.0 == a.0)
