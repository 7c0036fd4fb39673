-- What flows want anew.
use Rattle.std.specs.Prelude.{Bool, List, [], Option, None, Some, if◌then◌else◌}
use Rattle.std.specs.List.{list_any}
use Rattle.mldp.specs.declared.mldp_fec.fec.Fec.{Fec}
use Rattle.selective.specs.Leaves.{Leaf}
use Rattle.vrf_words.specs.declared.tree_defs.flow.Flow.{Flow}
use Rattle.vrf_words.specs.declared.tree_defs.flow.Upstream.{Upstream}
use Rattle.vrf_trees.specs.declared.wants.Wants.{Wants}
use Rattle.vrf_trees.specs.Wants.{is_in, wants_of}

-- what a flow wants, where it is stale
abbrev pub renewal : Leaf → Flow → Wants → Option (Option Wants)
renewal leaf flow held = if held.stale then Some (Some (wants_of leaf held.edge flow)) else None

abbrev pub planned : Leaf → Flow → Option Wants → Option (Option Wants)
planned leaf flow None = None
planned leaf flow (Some held) = renewal leaf flow held

-- a plan of a flow, with what it leaves, and with what it joins
abbrev pub with_leaves : Option Upstream → Option (Option Wants) → Option (Option Wants)
with_leaves None plan = plan
with_leaves (Some up) plan = Some None

abbrev pub with_joins : Leaf → Flow → Option Upstream → Option (Option Wants) → Option (Option Wants)
with_joins leaf flow None plan = plan
with_joins leaf flow (Some up) plan = Some (Some (wants_of leaf up.edge flow))

-- what a plan has for a flow that leaves its upstream, and for one that joins it
abbrev pub leaves_for : Flow → Upstream → Option (Option Wants)
leaves_for flow up = Some None

abbrev pub joins_for : Leaf → Flow → Upstream → Option (Option Wants)
joins_for leaf flow up = Some (Some (wants_of leaf up.edge flow))

-- what is held of a flow once a plan was carried out
abbrev pub carried : Option (Option Wants) → Option Wants → Option Wants
carried None held = held
carried (Some next) held = next

-- the tunnels that a flow wants, where it is there
abbrev pub fecs_in : Option Wants → List Fec
fecs_in None = []
fecs_in (Some own) = own.fecs

-- whether the tunnel is wanted by what a flow of a plan wants, and by what it wanted before
abbrev pub comes_at : Fec → Flow × Option Wants → Bool
comes_at fec entry = is_in fec (fecs_in entry.1)

-- what is held of a flow of a plan
abbrev pub next_for : Flow → Option Wants → Option Wants
next_for flow next = next

abbrev pub comes : List (Flow × Option Wants) → Fec → Bool
comes plan fec = list_any (comes_at fec) plan

abbrev pub goes_at : (Flow → Option Wants) → Fec → Flow × Option Wants → Bool
goes_at held fec entry = is_in fec (fecs_in (held entry.0))

abbrev pub goes : (Flow → Option Wants) → List (Flow × Option Wants) → Fec → Bool
goes held plan fec = list_any (goes_at held fec) plan
