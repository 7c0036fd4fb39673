-- Links whose costs change.
use Rattle.std.specs.Prelude.{ℕ, ◌==◌, ◌||◌, ◌&&◌, Bool, true, false, List, map}
use Rattle.mv_base.specs.declared.core_link.Link.{Link}
use Rattle.mv_base.specs.declared.ids.NodeId.{NodeId}

-- whether the link joins the two nodes
abbrev pub joins : NodeId → NodeId → Link → Bool
joins a b link = (link.a.0 == a.0 && link.b.0 == b.0) || (link.a.0 == b.0 && link.b.0 == a.0)

-- the link at that cost, where the test passes
abbrev pub priced_if : Bool → ℕ → Link → Link
priced_if true cost link = record link { cost = cost }
priced_if false cost link = link

abbrev pub priced : NodeId → NodeId → ℕ → Link → Link
priced a b cost link = priced_if (joins a b link) cost link

-- the links, that between the two nodes at that cost
abbrev pub with_cost : NodeId → NodeId → ℕ → List Link → List Link
with_cost a b cost links = map (priced a b cost) links
