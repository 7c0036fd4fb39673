-- Which tunnel a root transmits a flow on, and which tunnels an egress wants (RFC 6513 section 7, RFC 6514 section 12).
use Rattle.std.specs.Prelude.{◌≡◌, ◌≢◌, ℕ, zero, suc, ◌+◌, ◌<◌, ◌≤◌, ◌==◌, ◌&&◌, ◌⊎◌, Bool, true, false}
use Rattle.std.specs.Prelude.{not, nat_lt, List, [], ◌∷◌, length, Option, None, Some, if◌then◌else◌}
use Rattle.std.specs.List.{filter, list_any}
pub use Rattle.mldp.specs.mv_base.Lists.{Among}
use Rattle.mldp.specs.mv_base.Address.{same_addr}
use Rattle.mldp.specs.mv_base.Pattern.{rank}
use Rattle.mldp.specs.mv_base.declared.addr.Addr.{Addr}
use Rattle.mldp.specs.mv_base.declared.pattern.Pattern.{Pattern}
use Rattle.selective_defs.specs.declared.learned_route.LearnedRoute.{LearnedRoute}
use Rattle.selective_defs.specs.declared.selection.Selection.{Selection}

-- ---- patterns

-- whether the word is the wildcard or that address
abbrev pub allows : Option Addr → Addr → Bool
allows None addr = true
allows (Some wanted) addr = same_addr wanted addr

-- whether the flow is one of the pattern
abbrev pub matches : Pattern → Addr → Addr → Bool
matches pattern source group = allows pattern.source source && allows pattern.group group

abbrev pub Allows : Option Addr → Addr → Type 0
Allows word addr = (word ≡ None) ⊎ (word ≡ Some addr)

-- the flow is one of the pattern
abbrev pub Matches : Pattern → Addr → Addr → Type 0
Matches pattern source group = Allows pattern.source source × Allows pattern.group group

-- ---- delays

-- a delay from that moment on is over
abbrev pub IsDue : ℕ → ℕ → ℕ → Type 0
IsDue delay now since = since + delay ≤ now

-- ---- roots

-- whether the selection matches the flow and its delay was run
abbrev pub is_ready : Addr → Addr → Selection → Bool
is_ready source group selection = selection.run && matches selection.pattern source group

-- the first number, from that one on and so many at most, that is not used
abbrev pub free_number : (ℕ → Bool) → ℕ → ℕ → ℕ
free_number used zero number = number
free_number used (suc count) number = if used number then free_number used count (number + 1) else number

-- The number is the least from 1 on that is not used.
pub record IsLeastUnused (used : ℕ → Bool) (number : ℕ) : Type 0 where
  pub counted : 1 ≤ number
  pub free : used number ≡ false
  pub least : (lower : ℕ) → 1 ≤ lower → lower < number → used lower ≡ true

-- whether a selection has the number
abbrev pub has_number : ℕ → Selection → Bool
has_number number selection = selection.number == number

-- the number of one more selection of a VRF
abbrev pub next_number : List Selection → ℕ
next_number selections = free_number (λ number. list_any (has_number number) selections) (length selections) 1

-- The number is the least from 1 on that no selection has.
pub record IsLeastNumber (selections : List Selection) (number : ℕ) : Type 0 where
  pub counted : 1 ≤ number
  pub few : number ≤ length selections + 1
  pub free : (selection : Selection) → Among selection selections → selection.number ≢ number
  pub least : (lower : ℕ) → 1 ≤ lower → lower < number → (selection : Selection) × (Among selection selections) × (selection.number ≡ lower)

-- the more specific one of a selection, where it is ready, and of what is chosen of the others
abbrev pub chosen : Bool → Selection → Option Selection → Option Selection
chosen false selection rest = rest
chosen true selection None = Some selection
chosen true selection (Some other) = if nat_lt (rank selection.pattern) (rank other.pattern) then Some other else Some selection

-- The selection on whose tunnel a root transmits the flow. Where there is none, it is the inclusive tunnel.
abbrev pub transmitted : List Selection → Addr → Addr → Option Selection
transmitted [] source group = None
transmitted (selection ∷ more) source group = chosen (is_ready source group selection) selection (transmitted more source group)

-- The root transmits the flow on the tunnel of the selection: it matches, its delay was run, and no matching one whose
-- delay was run is more specific.
pub record IsTransmitted (selections : List Selection) (source group : Addr) (selection : Selection) : Type 0 where
  pub among : Among selection selections
  pub matches : Matches selection.pattern source group
  pub run : selection.run ≡ true
  pub most : (other : Selection) → Among other selections → Matches other.pattern source group → other.run ≡ true
      → rank other.pattern ≤ rank selection.pattern

-- Selections of one pattern are equal, as where a pattern stands at most once among them.
abbrev pub AreDistinct : List Selection → Type 0
AreDistinct selections = (one other : Selection) → Among one selections → Among other selections → one.pattern ≡ other.pattern → one ≡ other

-- ---- egresses

-- whether the other route matches the flow, is more specific, and its delay was run
abbrev pub overtakes : Addr → Addr → LearnedRoute → LearnedRoute → Bool
overtakes source group route other = other.run && (matches other.pattern source group && nat_lt (rank route.pattern) (rank other.pattern))

-- whether an egress wants the tunnel of the route, of those learned of one root
abbrev pub is_wanted : List LearnedRoute → Addr → Addr → LearnedRoute → Bool
is_wanted routes source group route = matches route.pattern source group && not (list_any (overtakes source group route) routes)

-- the routes whose tunnels an egress wants for the flow
abbrev pub wanted : List LearnedRoute → Addr → Addr → List LearnedRoute
wanted routes source group = filter (is_wanted routes source group) routes

-- The egress wants the tunnel of the route: it matches, and no more specific matching one has had its delay run.
pub record IsWanted (routes : List LearnedRoute) (source group : Addr) (route : LearnedRoute) : Type 0 where
  pub among : Among route routes
  pub matches : Matches route.pattern source group
  pub kept : (other : LearnedRoute) → Among other routes → Matches other.pattern source group
      → rank route.pattern < rank other.pattern → other.run ≡ false

-- ---- a root and an egress

-- An egress is in step with a root: it has learned routes of the same patterns, none before its selection was made; a delay
-- that was run at the egress is over; and no selection is due whose delay was not run.
pub record InStep (delay now : ℕ) (selections : List Selection) (routes : List LearnedRoute) : Type 0 where
  pub learned : (selection : Selection) → Among selection selections
      → (route : LearnedRoute) × (Among route routes) × (route.pattern ≡ selection.pattern)
  pub selected : (route : LearnedRoute) → Among route routes
      → (selection : Selection) × (Among selection selections) × (selection.pattern ≡ route.pattern)
  pub later : (selection : Selection) (route : LearnedRoute) → Among selection selections → Among route routes
      → selection.pattern ≡ route.pattern → selection.since ≤ route.since
  pub over : (route : LearnedRoute) → Among route routes → route.run ≡ true → IsDue delay now route.since
  pub run : (selection : Selection) → Among selection selections → IsDue delay now selection.since → selection.run ≡ true
