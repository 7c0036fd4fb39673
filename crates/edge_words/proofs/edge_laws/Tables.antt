-- What the rule says of whole tables.
use Rattle.std.proofs.Common.{◌≡◌, ◌≢◌, Bool, true, false, cond, List, [], ◌∷◌, ◌++◌, Option, Some, refl, sym, ap, subst, ◌∙◌}
use Rattle.std.proofs.lemmas.Bool.{cond-true}
use Rattle.std.specs.Prelude.{map}
use Rattle.std.specs.Ordering.{eq_by_cmp}
use Rattle.std.specs.FinMap as maps
use Rattle.std.specs.FinMap.{find, get-entries, get-from_entries}
use Rattle.mv_base.specs.declared.ids.NodeId.{NodeId}
use Rattle.bgp_messages.specs.declared.bgp_attributes.key.Key.{Key}
use Rattle.mv_base.specs.declared.table_defs.change.Change.{Change}
use Rattle.mv_base.specs.table_defs.Changes.{Leads, LeadsTo, applied_all, key_of, value_of, values_at}
use Rattle.edge_defs.proofs.table_laws.PendingLemmas.{all_taken, each_changing}
use Rattle.edge_defs.specs.Edge.{TakenRoute, Control}
use Rattle.edge_defs.specs.Held.{held_for}
use Rattle.edge_defs.specs.Imported.{taken_from}
use Rattle.edge_defs.specs.Keys.{Value, Table, key_cmp}
use Rattle.edge_defs.proofs.KeyLemmas.{key_total, key_exact}
use Rattle.edge_words.specs.edge_laws.Network.{EdgeNetwork, place_of}
use Rattle.edge_words.specs.edge_laws.Acts.{is_up}
use Rattle.edge_words.specs.edge_laws.Rule.{Rule, value_in, taken_values}

value_head : (b : Bool) (route : TakenRoute) (rest : Option TakenRoute)
    → cond b (Some route.value) (value_in rest) ≡ value_in (cond b (Some route) rest)
value_head true route rest = refl
value_head false route rest = refl

find_values : (key : Key) (es : List (Key × TakenRoute))
    → find key_cmp key (map (λ (entry : Key × TakenRoute). (entry.0, entry.1.value)) es) ≡ value_in (find key_cmp key es)
find_values key [] = refl
find_values key (e ∷ es) =
    ap (cond (eq_by_cmp key_cmp key e.0) (Some e.1.value)) (find_values key es) ∙ value_head (eq_by_cmp key_cmp key e.0) e.1 (find key_cmp key es)

pub get-taken_values : (control : Control) (peer : NodeId) (key : Key)
    → maps.get (taken_values control peer) key ≡ value_in (maps.get (taken_from control peer) key)
get-taken_values control peer key =
    get-from_entries key_total (map (λ (entry : Key × TakenRoute). (entry.0, entry.1.value)) (maps.entries (taken_from control peer))) key
    ∙ find_values key (maps.entries (taken_from control peer)) ∙ ap value_in (sym (get-entries (taken_from control peer) key))

pub tables_lead : (network : EdgeNetwork) (a b : NodeId) → Rule network → a ≢ b → (network.direction a b).joined ≡ true →
    LeadsTo (taken_values (network.node b) a) (network.direction a b).transit (held_for (place_of network a) (network.node a) b)
tables_lead network a b rule ne joined key =
    let up = rule.ends a b ne joined in
    subst (λ value. Leads value (values_at key_cmp key (network.direction a b).transit)
    (maps.get (held_for (place_of network a) (network.node a) b) key)) (sym (get-taken_values (network.node b) a key))
    (subst (λ (table : Table). Leads (value_in (maps.get (taken_from (network.node b) a) key)) (values_at key_cmp key (network.direction a b).transit)
    (maps.get table key))
    (cond-true (is_up (network.node a) b) (held_for (place_of network a) (network.node a) b) maps.empty up) ((rule.view a b key ne).leads joined up))

pub tables_reached : (network : EdgeNetwork) (a b : NodeId) → Rule network → a ≢ b → (network.direction a b).joined ≡ true →
    applied_all (taken_values (network.node b) a) (network.direction a b).transit ≡ held_for (place_of network a) (network.node a) b
tables_reached network a b rule ne joined =
    all_taken key_total key_exact (taken_values (network.node b) a) (held_for (place_of network a) (network.node a) b) (network.direction a b).transit
    (tables_lead network a b rule ne joined)

pub tables_change : (network : EdgeNetwork) (a b : NodeId) (before after : List (Change Key Value)) (change : Change Key Value) → Rule network → a ≢ b
    → (network.direction a b).joined ≡ true →
    (network.direction a b).transit ≡ before ++ change ∷ after
    → maps.get (applied_all (taken_values (network.node b) a) before) (key_of change) ≢ value_of change
tables_change network a b before after change rule ne joined e =
    each_changing key_total (taken_values (network.node b) a) (held_for (place_of network a) (network.node a) b) before after change
    (subst (λ list. LeadsTo (taken_values (network.node b) a) list (held_for (place_of network a) (network.node a) b)) e
    (tables_lead network a b rule ne joined))
