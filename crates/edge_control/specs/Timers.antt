-- What the timers of an edge make of each of its trees.
use Rattle.std.specs.Prelude.{ℕ}
use Rattle.vrf_words.specs.tree_defs.Trees.{TreeData}
use Rattle.control_laws.specs.Customers.{timers_run}
use Rattle.control_laws.specs.Peers.{tree_run}

-- the tree with its entries, its selections and its selective routes run
abbrev pub all_run : ℕ → TreeData → TreeData
all_run now tree = tree_run now (timers_run now tree)
