-- What holds of a network of edges after every run.
use Rattle.std.specs.Prelude.{◌≡◌, ◌≢◌, ℕ, ◌+◌, ◌≤◌, Bool, true, false, List, [], ◌∷◌, map, option_map, Option, Some, None, if◌then◌else◌}
use Rattle.std.specs.Ordering.{eq_by_cmp}
use Rattle.std.specs.FinMap as maps
use Rattle.mv_base.specs.declared.ids.NodeId.{NodeId}
use Rattle.bgp_messages.specs.declared.bgp_attributes.key.Key.{Key}
use Rattle.bgp_messages.specs.declared.bgp_attributes.key.Key.TheVariants.{Mcast}
use Rattle.bgp_messages.specs.bgp_values.declared.mvpn_nlri.route.Route.TheVariants as routes
use Rattle.scenario_defs.specs.Rules.{Rules}
use Rattle.mv_base.specs.table_defs.Changes.{Leads, values_at}
use Rattle.edge_defs.specs.Edge.{Selected, TakenRoute, Control}
use Rattle.edge_defs.specs.Held.{told}
use Rattle.edge_defs.specs.Imported.{taken_from}
use Rattle.edge_defs.specs.Keys.{Value, Table, key_cmp}
use Rattle.edge_defs.specs.Originated.{selective_key}
use Rattle.edge_defs.specs.Place.{EdgePlace, OwnVrf, own_vrfs}
use Rattle.edge_words.specs.edge_laws.Acts.{is_up}
use Rattle.edge_words.specs.edge_laws.Network.{EdgeNetwork, place_of}

-- ---- one key of a direction

-- the selection of a VRF whose route has the key
abbrev pub selected_in : EdgePlace → Control → Key → OwnVrf → Option Selected
selected_in place control (Mcast afi (routes.Selective rd source group originator)) own =
    if
    eq_by_cmp key_cmp
    (Mcast afi (routes.Selective rd source group originator))
    (selective_key place own.vrf (record { source = source; group = group }))
    then maps.get control.selections (record { vrf = own.id; pattern = record { source = source; group = group } })
    else None
selected_in place control other own = None

-- the first selection of these VRFs whose route has the key
abbrev pub first_selected : EdgePlace → Control → Key → List OwnVrf → Option Selected
first_selected place control key [] = None
first_selected place control key (own ∷ more) = elim (selected_in place control key own) [
  | None ↦ first_selected place control key more
  | Some found ↦ Some found
]

-- the selection of the edge whose route has the key
abbrev pub selected_at : EdgePlace → Control → Key → Option Selected
selected_at place control key = first_selected place control key (own_vrfs place)

abbrev pub value_in : Option TakenRoute → Option Value
value_in taken = option_map (λ route. route.value) taken

-- What holds of one direction and one key: whether the session is joined, whether the sender's end and the receiver's end are up, what
-- was told, the selection there, what was taken, and the values in transit. Where the session is joined and the sender's end is up,
-- the values in transit lead from what was taken to what was told, and each of them is news; and where none is in transit, a route was
-- learned no earlier than its selection was made. On a joined session, before the sender's end is up, nothing is in transit and nothing
-- was taken; this serves inside a raise alone, since by the rule no end of a joined session is down. Where the session is not joined
-- nothing is in transit; where the receiver's end is down nothing was taken. A delay is run no earlier than it is over.
pub record View (clock delay : ℕ) (joined near far : Bool) (out : Option Value) (picked : Option Selected) (taken : Option TakenRoute)
    (pending : List (Option Value)) : Type 0 where
  pub leads : joined ≡ true → near ≡ true → Leads (value_in taken) pending out
  pub blank : joined ≡ true → near ≡ false → (pending ≡ []) × (taken ≡ None)
  pub quiet : joined ≡ false → pending ≡ []
  pub off : far ≡ false → taken ≡ None
  pub past : (selected : Selected) → picked ≡ Some selected → selected.since ≤ clock
  pub timely : (selected : Selected) (route : TakenRoute) → joined ≡ true → near ≡ true → pending ≡ []
      → picked ≡ Some selected → taken ≡ Some route → selected.since ≤ route.since
  pub due : (route : TakenRoute) → taken ≡ Some route → route.run ≡ true → route.since + delay ≤ clock

abbrev pub ViewAt : EdgeNetwork → NodeId → NodeId → Key → Type 0
ViewAt network a b key =
    View network.clock network.scenario.delay (network.direction a b).joined (is_up (network.node a) b) (is_up (network.node b) a)
    (maps.get (told (place_of network a) (network.node a) b) key) (selected_at (place_of network a) (network.node a) key)
    (maps.get (taken_from (network.node b) a) key) (values_at key_cmp key (network.direction a b).transit)

-- ---- the rule

-- The rule: of each two edges, each way, and each key. Both directions of a session are joined or neither is, and the ends of a joined
-- session are up.
pub record Rule (network : EdgeNetwork) : Type 0 where
  pub view : (a b : NodeId) (key : Key) → a ≢ b → ViewAt network a b key
  pub alike : (a b : NodeId) → (network.direction a b).joined ≡ (network.direction b a).joined
  pub ends : (a b : NodeId) → a ≢ b → (network.direction a b).joined ≡ true → is_up (network.node a) b ≡ true
  pub scenario : Rules network.scenario

-- ---- tables

-- the values of the routes that were taken from a peer
abbrev pub taken_values : Control → NodeId → Table
taken_values control peer =
    maps.from_entries (map (λ (entry : Key × TakenRoute). (entry.0, entry.1.value)) (maps.entries (taken_from control peer)))
