-- Which nodes are reached from node 0, and over how many links.
use Rattle.std.specs.Prelude.{ℕ, ◌==◌, ◌||◌, ◌&&◌, Bool, true, zero, suc, List}
use Rattle.std.specs.List.{list_any}
use Rattle.mv_base.specs.declared.core_link.Link.{Link}

-- whether the link joins the node to one that passes the test
abbrev pub joins_to : (ℕ → Bool) → ℕ → Link → Bool
joins_to passes node link = (link.a.0 == node && passes link.b.0) || (link.b.0 == node && passes link.a.0)

-- whether the node is reached from node 0 over at most so many links
abbrev pub reached_within : List Link → ℕ → ℕ → Bool
reached_within links zero node = node == 0
reached_within links (suc count) node = reached_within links count node || list_any (joins_to (reached_within links count) node) links

-- whether each number below that one passes the test
abbrev pub all_below : (ℕ → Bool) → ℕ → Bool
all_below passes zero = true
all_below passes (suc number) = all_below passes number && passes number

-- whether each node is reached from node 0, over at most as many links as there are nodes
abbrev pub is_connected : ℕ → List Link → Bool
is_connected nodes links = all_below (reached_within links nodes) nodes
