-- What is computed anew, and what changes by it, flow by flow.
use Rattle.std.specs.Prelude.{Bool, false, List, [], ◌∷◌, Option, None, Some, if◌then◌else◌}
use Rattle.umh_select.specs.declared.route.Choice.{Choice}
use Rattle.vrf_words.specs.declared.tree_defs.flow.Flow.{Flow}
use Rattle.vrf_words.specs.declared.tree_defs.flow.Upstream.{Upstream}
use Rattle.vrf_words.specs.tree_defs.Keys.{same_flow}
use Rattle.vrf_words.specs.tree_defs.Flows.{upstream_of, gained, lost}
use Rattle.vrf_flows.specs.declared.held.Held.{Held}
use Rattle.vrf_flows.specs.Held.{Now, kept_of}

-- the choice of a flow, where it is one of the VRF
abbrev pub choice_in : Now → Option Choice
choice_in None = None
choice_in (Some kept) = Some kept.choice

-- the edge that is joined for it
abbrev pub joined_by : Now → Option Upstream
joined_by now = upstream_of (choice_in now)

-- what a flow that is held is now, where it is stale
abbrev pub replan : Held → Now → Option Now
replan held now = if held.stale then Some now else None

abbrev pub planned : Option Held → Now → Option Now
planned None now = None
planned (Some held) now = replan held now

-- what a map says of a key, where something is put at it
abbrev pub put_at : {X : Type 0} → Bool → Option X → Option X → Option X
put_at here None old = old
put_at here (Some next) old = if here then Some next else old

abbrev pub gain : Option Held → Option Now → Option Upstream
gain held None = None
gain held (Some now) = gained (joined_by (kept_of held)) (joined_by now)

abbrev pub loss : Option Held → Option Now → Option Upstream
loss held None = None
loss held (Some now) = lost (joined_by (kept_of held)) (joined_by now)

-- what is held of a flow that is no longer stale; nothing, where it is none and is not needed
abbrev pub settled_by : Bool → Now → Option Held
settled_by needed None = if needed then Some (record { stale = false; kept = None }) else None
settled_by needed (Some kept) = Some (record { stale = false; kept = Some kept })

abbrev pub settled : Bool → Option Now → Option Held → Option Held
settled needed None held = held
settled needed (Some now) held = settled_by needed now

-- what a map says of a flow, once for each of these in turn what it gives is set at it
abbrev pub sets : {X Y : Type 0} → (Flow → X → Option Y) → List (Flow × X) → Option Y → Flow → Option Y
sets give [] old q = old
sets give (e ∷ more) old q = sets give more (if same_flow e.0 q then give e.0 e.1 else old) q

-- what a map says of a flow, once for each of these in turn what it gives is put at it
abbrev pub puts : {X Y : Type 0} → (Flow → X → Option Y) → List (Flow × X) → Option Y → Flow → Option Y
puts give [] old q = old
puts give (e ∷ more) old q = puts give more (put_at (same_flow e.0 q) (give e.0 e.1) old) q
