-- What a call does to the tables that an edge has taken from its peers.
use Rattle.std.proofs.Common.{◌≡◌, ◌≢◌, ℕ, Bool, true, false, cond, List, [], ◌∷◌, Option, Some, None, refl, sym, ap, ◌∙◌}
use Rattle.std.specs.Prelude.{map, fold, is_some, option_map}
use Rattle.std.specs.Ordering.{eq_by_cmp}
use Rattle.std.specs.FinMap as maps
use Rattle.std.specs.FinMap.{FinMap, find, get-insert, get-remove, get-empty, get-entries, get-from_entries}
use Rattle.mv_base.specs.declared.ids.NodeId.{NodeId}
use Rattle.bgp_messages.specs.declared.bgp_attributes.key.Key.{Key}
use Rattle.bgp_messages.specs.bgp_update.Table.{changes_of}
use Rattle.mv_base.specs.declared.table_defs.change.Change.{Change}
use Rattle.mv_base.specs.declared.table_defs.change.Change.TheVariants.{Reach, Unreach}
use Rattle.mv_base.specs.table_defs.Changes.{key_of, value_of}
use Rattle.edge_defs.proofs.table_laws.CompareLemmas.{own_key, one_key, other_key}
use Rattle.label_defs.specs.Keys.{node_cmp}
use Rattle.label_defs.proofs.KeyLemmas.{node_cmp_total, node_cmp_exact}
use Rattle.edge_defs.specs.Edge.{TakenRoute, Taken}
use Rattle.edge_defs.specs.Keys.{Value, key_cmp}
use Rattle.edge_defs.specs.Place.{EdgePlace}
use Rattle.edge_defs.specs.Steps.{learned, taken_change, is_imported, route_run, taken_run, peers_run}
use Rattle.edge_defs.proofs.KeyLemmas.{key_total, key_exact}
use Rattle.edge_words.specs.edge_laws.Acts.{message_of}
use Rattle.edge_words.proofs.edge_laws.Local.{taken_after, run_by}

-- ---- a change is taken

-- the value that was held at the key itself
at_own : (clock : ℕ) (value : Value) (taken : Taken) (own key : Key) (b : Bool) → eq_by_cmp key_cmp key own ≡ b
    → cond b (Some (learned clock value (maps.get taken own))) (maps.get taken key)
    ≡ cond b (Some (learned clock value (maps.get taken key))) (maps.get taken key)
at_own clock value taken own key true e = ap (λ k. Some (learned clock value (maps.get taken k))) (sym (one_key key_exact key own e))
at_own clock value taken own key false e = refl

pub change_taken : (clock : ℕ) (taken : Taken) (change : Change Key Value) (key : Key)
    → maps.get (fold (taken_change clock) taken (changes_of (message_of change))) key
    ≡ cond (eq_by_cmp key_cmp key (key_of change)) (taken_after clock (value_of change) (maps.get taken key)) (maps.get taken key)
change_taken clock taken (Reach own value) key =
    get-insert key_total taken own (learned clock value (maps.get taken own)) key ∙ at_own clock value taken own key (eq_by_cmp key_cmp key own) refl
change_taken clock taken (Unreach own) key = get-remove key_total taken own key

-- ---- timers

abbrev pub table_run : EdgePlace → ℕ → NodeId → Taken → Taken
table_run place clock peer taken = maps.from_entries (map (route_run place clock peer) (maps.entries taken))

-- what timers make of a route of the key
abbrev pub run_at : EdgePlace → ℕ → NodeId → Key → TakenRoute → TakenRoute
run_at place clock peer key route = run_by clock place.scenario.delay (is_imported place peer (key, route)) route

mapped_head : {K V W : Type 0} (f : K → V → W) (own other : K) (b : Bool) (value : V) (rest : Option V) → (b ≡ true → own ≡ other)
    → cond b (Some (f other value)) (option_map (f own) rest) ≡ option_map (f own) (cond b (Some value) rest)
mapped_head f own other true value rest e = ap (λ k. Some (f k value)) (sym (e refl))
mapped_head f own other false value rest e = refl

find_routes : (place : EdgePlace) (clock : ℕ) (peer : NodeId) (key : Key) (es : List (Key × TakenRoute))
    → find key_cmp key (map (route_run place clock peer) es) ≡ option_map (run_at place clock peer key) (find key_cmp key es)
find_routes place clock peer key [] = refl
find_routes place clock peer key (e ∷ es) =
    ap (cond (eq_by_cmp key_cmp key e.0) (Some (run_at place clock peer e.0 e.1))) (find_routes place clock peer key es)
    ∙ mapped_head (run_at place clock peer) key e.0 (eq_by_cmp key_cmp key e.0) e.1 (find key_cmp key es) (one_key key_exact key e.0)

get-table_run : (place : EdgePlace) (clock : ℕ) (peer : NodeId) (taken : Taken) (key : Key)
    → maps.get (table_run place clock peer taken) key ≡ option_map (run_at place clock peer key) (maps.get taken key)
get-table_run place clock peer taken key =
    get-from_entries key_total (map (route_run place clock peer) (maps.entries taken)) key ∙ find_routes place clock peer key (maps.entries taken)
    ∙ ap (option_map (run_at place clock peer key)) (sym (get-entries taken key))

find_peers : (place : EdgePlace) (clock : ℕ) (peer : NodeId) (es : List (NodeId × Taken))
    → find node_cmp peer (map (taken_run place clock) es) ≡ option_map (table_run place clock peer) (find node_cmp peer es)
find_peers place clock peer [] = refl
find_peers place clock peer (e ∷ es) =
    ap (cond (eq_by_cmp node_cmp peer e.0) (Some (table_run place clock e.0 e.1))) (find_peers place clock peer es)
    ∙ mapped_head (table_run place clock) peer e.0 (eq_by_cmp node_cmp peer e.0) e.1 (find node_cmp peer es) (one_key node_cmp_exact peer e.0)

pub get-peers_run : (place : EdgePlace) (clock : ℕ) (peers : FinMap node_cmp Taken) (peer : NodeId)
    → maps.get (peers_run place clock peers) peer ≡ option_map (table_run place clock peer) (maps.get peers peer)
get-peers_run place clock peers peer =
    get-from_entries node_cmp_total (map (taken_run place clock) (maps.entries peers)) peer ∙ find_peers place clock peer (maps.entries peers)
    ∙ ap (option_map (table_run place clock peer)) (sym (get-entries peers peer))

-- the table of a peer, as `taken_from` reads it
abbrev pub table_in : Option Taken → Taken
table_in taken = elim taken [ None ↦ maps.empty | Some table ↦ table ]

pub run_taken : (place : EdgePlace) (clock : ℕ) (peer : NodeId) (key : Key) (taken : Option Taken)
    → maps.get (table_in (option_map (table_run place clock peer) taken)) key
    ≡ option_map (run_at place clock peer key) (maps.get (table_in taken) key)
run_taken place clock peer key None = get-empty key_cmp key ∙ ap (option_map (run_at place clock peer key)) (sym (get-empty key_cmp key))
run_taken place clock peer key (Some table) = get-table_run place clock peer table key

pub run_up : (place : EdgePlace) (clock : ℕ) (peer : NodeId) (taken : Option Taken)
    → is_some (option_map (table_run place clock peer) taken) ≡ is_some taken
run_up place clock peer None = refl
run_up place clock peer (Some table) = refl

-- ---- peers

pub put_own : (peers : FinMap node_cmp Taken) (peer : NodeId) (table : Taken) → maps.get (maps.insert peers peer table) peer ≡ Some table
put_own peers peer table =
    get-insert node_cmp_total peers peer table peer ∙ ap (λ b. cond b (Some table) (maps.get peers peer)) (own_key node_cmp_total peer)

pub put_other : (peers : FinMap node_cmp Taken) (peer : NodeId) (table : Taken) (other : NodeId) → other ≢ peer
    → maps.get (maps.insert peers peer table) other ≡ maps.get peers other
put_other peers peer table other ne =
    get-insert node_cmp_total peers peer table other ∙ ap (λ b. cond b (Some table) (maps.get peers other)) (other_key node_cmp_exact other peer ne)

down_by : (b : Bool) (table : Taken) (old : Option Taken) → is_some (cond b (Some table) old) ≡ false → is_some old ≡ false
down_by true table old e = cc
down_by false table old e = e

-- an end that is down was down
pub put_down : (peers : FinMap node_cmp Taken) (peer : NodeId) (table : Taken) (other : NodeId)
    → is_some (maps.get (maps.insert peers peer table) other) ≡ false → is_some (maps.get peers other) ≡ false
put_down peers peer table other e =
    down_by (eq_by_cmp node_cmp other peer) table (maps.get peers other) (ap is_some (sym (get-insert node_cmp_total peers peer table other)) ∙ e)

pub taken_off : (peers : FinMap node_cmp Taken) (peer : NodeId) → maps.get (maps.remove peers peer) peer ≡ None
taken_off peers peer = get-remove node_cmp_total peers peer peer ∙ ap (λ b. cond b None (maps.get peers peer)) (own_key node_cmp_total peer)

pub kept_other : (peers : FinMap node_cmp Taken) (peer other : NodeId) → other ≢ peer → maps.get (maps.remove peers peer) other ≡ maps.get peers other
kept_other peers peer other ne =
    get-remove node_cmp_total peers peer other ∙ ap (λ b. cond b None (maps.get peers other)) (other_key node_cmp_exact other peer ne)
