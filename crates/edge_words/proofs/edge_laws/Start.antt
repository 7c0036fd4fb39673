-- A network in which nothing has happened meets the rule.
use Rattle.std.proofs.Common.{◌≡◌, ℕ, Bool, true, false, cond, [], Option, None, refl, ap, ◌∙◌}
use Rattle.std.specs.Ordering.{eq_by_cmp}
use Rattle.std.specs.FinMap as maps
use Rattle.std.specs.FinMap.{get-empty}
use Rattle.mv_base.specs.declared.ids.NodeId.{NodeId}
use Rattle.bgp_messages.specs.bgp_values.declared.mvpn_nlri.route.Route.TheVariants as routes
use Rattle.bgp_messages.specs.declared.bgp_attributes.key.Key.{Key}
use Rattle.bgp_messages.specs.declared.bgp_attributes.key.Key.TheVariants.{Mcast, Unicast}
use Rattle.label_defs.specs.Keys.{node_cmp}
use Rattle.scenario_defs.specs.Rules.{Rules}
use Rattle.scenario_defs.specs.declared.scenario.Scenario.{Scenario}
use Rattle.edge_defs.specs.Edge.{pattern_cmp, Selected, TakenRoute, Taken, no_control}
use Rattle.edge_defs.specs.Held.{told}
use Rattle.edge_defs.specs.Imported.{taken_from}
use Rattle.edge_defs.specs.Keys.{Value, key_cmp}
use Rattle.edge_defs.specs.Originated.{selective_key}
use Rattle.edge_defs.specs.Place.{EdgePlace, OwnVrf, own_vrfs}
use Rattle.mv_base.specs.core_walks.Core.{Core}
use Rattle.edge_words.specs.edge_laws.Network.{EdgeNetwork, place_of}
use Rattle.edge_words.specs.edge_laws.Acts.{is_up}
use Rattle.edge_words.specs.edge_laws.Rule.{View, Rule, selected_in, selected_at}
use Rattle.edge_words.proofs.edge_laws.Selections.{none_selected}
use Rattle.edge_words.proofs.edge_laws.Taken.{table_in}

none_by : {X : Type 0} (b : Bool) (o : Option X) → o ≡ None → cond b o None ≡ None
none_by true o e = e
none_by false o e = refl

nothing_in : (place : EdgePlace) (key : Key) (own : OwnVrf) → selected_in place no_control key own ≡ None
nothing_in place (Mcast afi (routes.Selective rd source group originator)) own =
    none_by (eq_by_cmp key_cmp (Mcast afi (routes.Selective rd source group originator))
    (selective_key place own.vrf (record { source = source; group = group })))
    (maps.get no_control.selections (record { vrf = own.id; pattern = record { source = source; group = group } }))
    (get-empty pattern_cmp (record { vrf = own.id; pattern = record { source = source; group = group } }))
nothing_in place (Mcast afi (routes.Intra rd originator)) own = refl
nothing_in place (Mcast afi (routes.Inter rd source_as)) own = refl
nothing_in place (Mcast afi (routes.Leaf key originator)) own = refl
nothing_in place (Mcast afi (routes.Active rd source group)) own = refl
nothing_in place (Mcast afi (routes.SharedJoin rd source_as source group)) own = refl
nothing_in place (Mcast afi (routes.SourceJoin rd source_as source group)) own = refl
nothing_in place (Mcast afi (routes.Other kind octets)) own = refl
nothing_in place (Unicast rd prefix) own = refl

nothing_taken : (a : NodeId) (key : Key) → maps.get (taken_from no_control a) key ≡ None
nothing_taken a key = ap (λ (o : Option Taken). maps.get (table_in o) key) (get-empty node_cmp a) ∙ get-empty key_cmp key

quiet_view : (clock delay : ℕ) (near far : Bool) (out : Option Value) (picked : Option Selected) (taken : Option TakenRoute) → picked ≡ None
    → taken ≡ None → View clock delay false near far out picked taken []
quiet_view clock delay near far out picked taken p t = record {
  leads = λ e. absurd cc;
  blank = λ e. absurd cc;
  quiet = λ _. refl;
  off = λ _. t;
  past = λ selected e. absurd cc;
  timely = λ selected route e. absurd cc;
  due = λ route e. absurd cc;
}

abbrev start : Scenario → (NodeId → Core) → EdgeNetwork
start scenario core =
    record { clock = 0; scenario = scenario; core = core; node = λ n. no_control; direction = λ a b. record { joined = false; transit = [] } }

pub start_rule : (scenario : Scenario) (core : NodeId → Core) → Rules scenario → Rule (start scenario core)
start_rule scenario core rules = record {
  view = λ a b key ne.
      (let place : EdgePlace = place_of (start scenario core) a in
      quiet_view 0 scenario.delay (is_up no_control b) (is_up no_control a) (maps.get (told place no_control b) key)
      (selected_at place no_control key) (maps.get (taken_from no_control a) key)
      (none_selected place no_control key (nothing_in place key) (own_vrfs place)) (nothing_taken a key));
  alike = λ a b. refl;
  ends = λ a b ne e. absurd cc;
  scenario = rules;
}
