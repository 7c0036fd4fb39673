-- Marks of nodes, by number: the nodes that are reached over so many links.
use Rattle.std.specs.Prelude.{ℕ, Bool, true, false, List, fold, get_or, set, replicate, if◌then◌else◌}
use Rattle.mv_base.specs.declared.core_link.Link.{Link}

-- the marks before the first round: node 0 alone
abbrev pub first_marks : List Bool
first_marks = set (replicate 64 false) 0 true

-- the marks after a look at the node, which a link joins to the other one
abbrev pub marked : List Bool → List Bool → ℕ → ℕ → List Bool
marked marks next node other = if get_or marks other false then set next node true else next

abbrev pub marked_link : List Bool → List Bool → Link → List Bool
marked_link marks next link = marked marks (marked marks next link.a.0 link.b.0) link.b.0 link.a.0

-- the marks after a round: each link is looked at, with the marks from before the round
abbrev pub next_marks : List Bool → List Link → List Bool
next_marks marks links = fold (marked_link marks) marks links
