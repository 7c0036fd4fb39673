-- In each run the tables of an edge hold what it took from its peers since the last raise.
use Rattle.std.proofs.Common.{◌≡◌, ◌≢◌, ℕ, Bool, true, false, map, flat_map, List, [], ◌∷◌, ◌++◌, is_some, Option, Some, None, refl, sym, ap, subst, ◌∙◌}
use Rattle.std.specs.FinMap as maps
use Rattle.std.proofs.lemmas.Grind.{flat_map-append}
use Rattle.std.proofs.lemmas.Option.{none-some}
use Rattle.mv_base.specs.declared.ids.NodeId.{NodeId}
use Rattle.mv_base.specs.framing.Units.{Spelled, octets_of, messages_of, AreUnits}
use Rattle.bgp_messages.specs.declared.bgp_attributes.key.Key.{Key}
use Rattle.bgp_messages.specs.declared.bgp_attributes.update.Advert.{Advert}
use Rattle.bgp_messages.specs.declared.bgp_attributes.update.Change.{Change}
use Rattle.bgp_messages.specs.declared.bgp_attributes.update.Change.TheVariants as updates
use Rattle.bgp_messages.specs.declared.bgp_attributes.update.Message.{Message}
use Rattle.bgp_messages.specs.bgp_update.Spelling.{SpellsMessage}
use Rattle.bgp_messages.specs.bgp_update.Table.{changes_of, AnnouncesLast, HasRoute}
use Rattle.scenario_defs.specs.declared.event.Kind.TheVariants as kinds
use Rattle.scenario_defs.specs.declared.scenario.Scenario.{Scenario}
use Rattle.network_defs.specs.session_defs.Message.{SessionMessage, Bgp, Spells}
use Rattle.edge_defs.specs.Edge.{TakenRoute, Taken}
use Rattle.edge_defs.specs.Keys.{Value, key_cmp}
use Rattle.rule_laws.proofs.edge_words.edge_laws.Taken.{table_in}
use Rattle.network_defs.specs.Counts.{direction, is_up as is_end}
use Rattle.network_defs.specs.Local.{is_up_in, taken_since}
use Rattle.network_defs.specs.Refusals.{control_of}
use Rattle.network_defs.specs.Run.{Traced}
use Rattle.network_defs.specs.World.{World}
use Rattle.rule_laws.proofs.Acts.{InStep}
use Rattle.rule_laws.proofs.Raised.{bgp_up_is}
use Rattle.license_laws.proofs.Also.{KeepsAlso}
use Rattle.license_laws.proofs.Branched.{AllHeard, all_heard_kept}
use Rattle.license_laws.proofs.Heard.{no_unit}
use Rattle.license_laws.proofs.Tables.{HoldsValue, Tabled, tabled_follower, changes_in, changes_both}
use Rattle.license_laws.proofs.Taking.{Taking}

abbrev pub Tabling : List Traced → World → Type 0
Tabling = AllHeard kinds.Bgp Tabled tabled_follower

no_table : (scenario : Scenario) (world : World) → InStep scenario world → (from to : NodeId) → from ≢ to → is_end world kinds.Bgp to from ≡ false
    → Tabled from [] (world.network.state.node to)
no_table scenario world s from to ne off =
    by (maps.get (control_of (world.network.state.node to)).peers from) (bgp_up_is (world.network.state.node to) from ∙ off)
  where
    by : (o : Option Taken) → is_some o ≡ false → (key : Key) (route : TakenRoute) → maps.get (table_in o) key ≡ Some route
        → HoldsValue [] key route.value
    by None e key route f = absurd (none-some route (sym (maps.get-empty key_cmp key) ∙ f))
    by (Some taken) e key route f = absurd cc

pub tabling_kept : (scenario : Scenario) → KeepsAlso scenario Taking Tabling
tabling_kept scenario = all_heard_kept kinds.Bgp Tabled tabled_follower scenario (no_table scenario)

-- units of a session over BGP as BGP messages
record Plain (units : List (Spelled SessionMessage)) : Type 0 where
  plain : List (Spelled Message)
  each : AreUnits SpellsMessage plain
  octets : octets_of units ≡ octets_of plain
  says : changes_in (messages_of units) ≡ flat_map changes_of (messages_of plain)

changes_plain : (plain : List Message) → changes_in (map (λ message. Bgp message) plain) ≡ flat_map changes_of plain
changes_plain [] = refl
changes_plain (m ∷ ms) = ap (λ (cs : List Change). changes_of m ++ cs) (changes_plain ms)

plain_of : (units : List (Spelled SessionMessage)) → AreUnits (Spells kinds.Bgp) units → Plain units
plain_of [] are = record { plain = []; each = tt; octets = refl; says = refl }
plain_of (unit ∷ units) are =
    let rest = plain_of units are.1 in
    record {
      plain = record { messages = are.0.0; octets = unit.octets } ∷ rest.plain;
      each = (are.0.2, rest.each);
      octets = ap (λ (xs : List ℕ). unit.octets ++ xs) rest.octets;
      says = changes_both unit.messages (messages_of units) ∙ (λ i. (ap changes_in are.0.1 ∙ changes_plain are.0.0) i ++ rest.says i)
          ∙ sym (flat_map-append changes_of are.0.0 (messages_of rest.plain));
    }

-- A route of a table is one that was taken.
pub record IsTakenRoute (octets : List ℕ) (key : Key) (value : Value) : Type 0 where
  pub advert : Advert
  pub taken : HasRoute octets key advert
  pub comms : advert.comms ≡ value.comms
  pub pmsi : advert.pmsi ≡ value.pmsi

none_held : (key : Key) (advert : Advert) → AnnouncesLast [] key advert → ⊥
none_held key advert h = by h.before h.parts
  where
    by : (before : List Change) → [] ≡ before ++ updates.Reach advert ∷ h.after → ⊥
    by [] e = cc
    by (x ∷ xs) e = cc

pub taken_route : (trace : List Traced) (world : World) → Tabling trace world → (peer n : NodeId) (key : Key) (route : TakenRoute)
    → maps.get (table_in (maps.get (control_of (world.network.state.node n)).peers peer)) key ≡ Some route
    → IsTakenRoute (taken_since kinds.Bgp peer n trace) key route.value
taken_route trace world all peer n key route e = by (is_up_in kinds.Bgp n peer trace) refl
  where
    by : (t : Bool) → is_up_in kinds.Bgp n peer trace ≡ t → IsTakenRoute (taken_since kinds.Bgp peer n trace) key route.value
    by true u =
        let x = (all peer n).heard u in
        let h = x.holds key route e in
        let p = plain_of x.units x.each in
        let rest : List ℕ = (world.network.stream (direction kinds.Bgp peer n)).held in
        record {
          advert = h.advert;
          taken = (
            messages_of p.plain,
            rest,
            record {
              begins = record { units = p.plain; each = p.each; parts = x.parts ∙ ap (λ (xs : List ℕ). xs ++ rest) p.octets; carried = refl };
              no_unit = λ ms text after spells. no_unit kinds.Bgp rest x.waits (map (λ message. Bgp message) ms) text after (ms, refl, spells);
            },
            subst (λ (cs : List Change). AnnouncesLast cs key h.advert) p.says h.holds,
          );
          comms = h.comms;
          pmsi = h.pmsi;
        }
    by false d = (let h = (all peer n).silent d key route e in absurd (none_held key h.advert h.holds))
