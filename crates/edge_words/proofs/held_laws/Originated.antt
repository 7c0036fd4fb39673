-- What an edge holds towards a peer at a key that is no join is what one of its VRFs originates.
use Rattle.std.proofs.Common.{◌≡◌, ◌↔◌, ℕ, ◌==◌, Bool, true, false, inl, inr, [], ◌++◌, Some, refl, sym, ap, subst, ◌∙◌}
use Rattle.std.specs.FinMap as maps
use Rattle.std.proofs.lemmas.Bool.{eq-eqb}
use Rattle.mv_base.specs.declared.ids.NodeId.{NodeId}
use Rattle.mv_base.specs.declared.pattern.Pattern.{Pattern}
use Rattle.mv_base.specs.declared.rd.Rd.{Rd}
use Rattle.bgp_messages.specs.bgp_values.declared.mvpn_nlri.route.Route.TheVariants as routes
use Rattle.bgp_messages.specs.declared.bgp_attributes.key.Key.{Key}
use Rattle.bgp_messages.specs.declared.bgp_attributes.key.Key.TheVariants as keys
use Rattle.scenario_defs.specs.Rules.{Rules}
use Rattle.scenario_defs.specs.Home.{local_routes}
use Rattle.selective_defs.specs.Selective.{Among}
use Rattle.edge_defs.specs.Edge.{Note, VrfPattern, Selected, Control}
use Rattle.edge_defs.specs.Held.{held_for}
use Rattle.edge_defs.specs.Keys.{Value}
use Rattle.edge_defs.specs.Originated.{selective_key, active_key, plain_value, unicast_value, tunnel_value, unicast_routes, notes_of, active_routes, selective_routes, routes_of, is_iface_of}
use Rattle.edge_defs.specs.Place.{EdgePlace, OwnVrf, tunnel_number}
use Rattle.edge_defs.proofs.KeyLemmas.{note_total, note_exact, pattern_exact}
use Rattle.label_defs.specs.Members.{in_order}
use Rattle.edge_words.proofs.calm_laws.Lists.{among_front, among_after, among_map, map_among, among_filter, filter_among}
use Rattle.edge_words.proofs.calm_laws.Maps.{get_entry}
use Rattle.edge_words.proofs.calm_laws.Vrfs.{one_rd}
use Rattle.edge_words.proofs.calm_laws.Entries.{Entry, kind_of, OfInclusive, OfUnicast, OfSelective, OfActive, OfJoin, IsHeld, is_held, own_held, is_selective, join_kind}
use Rattle.edge_words.proofs.Members.{listed, contained}
use Rattle.edge_words.specs.held_laws.Held.{IsOriginated, Inclusive, Unicast, Selective, Active, Originates, IsJoinKey}

-- ---- what is held is originated

pub unicast_from : (place : EdgePlace) (control : Control) (own : OwnVrf) (entry : Entry) → Among entry (unicast_routes place own)
    → IsOriginated place control own entry.0 entry.1
unicast_from place control own entry a =
    let by = map_among (λ route. (keys.Unicast own.vrf.rd route.prefix, unicast_value place own.vrf)) entry (local_routes place.scenario own.id) a in
    Unicast by.0.prefix by.0.site by.1 (ap (λ (e : Entry). e.0) by.2) (ap (λ (e : Entry). e.1) by.2)

pub selective_from : (place : EdgePlace) (control : Control) (own : OwnVrf) (entry : Entry) → Among entry (selective_routes place control own)
    → IsOriginated place control own entry.0 entry.1
selective_from place control own entry a =
    let is = is_selective place control own entry a in Selective is.pattern is.selected is.at is.key is.value

pub active_from : (place : EdgePlace) (control : Control) (own : OwnVrf) (entry : Entry) → Among entry (active_routes place control own)
    → IsOriginated place control own entry.0 entry.1
active_from place control own entry a =
    let by = map_among (λ (note : Note). (active_key own.vrf note.source note.group, plain_value place own.vrf)) entry (notes_of place control own.id)
    a in
    let passing = filter_among (λ (note : Note). is_iface_of place.scenario own.id note.iface) by.0 (in_order control.notes) by.1 in
    Active by.0.iface by.0.source by.0.group passing.1 (contained note_total note_exact control.notes by.0 passing.0)
    (ap (λ (e : Entry). e.0) by.2) (ap (λ (e : Entry). e.1) by.2)

originates : (place : EdgePlace) (control : Control) (peer : NodeId) (key : Key) (value : Value) → (kind_of key == 7) ≡ false
    → IsHeld place control peer (key, value) → Originates place control key value
originates place control peer key value not (OfInclusive own a e) =
    record { own = own; among = a; is = Inclusive (ap (λ (x : Entry). x.0) e) (ap (λ (x : Entry). x.1) e) }
originates place control peer key value not (OfUnicast own a b) = record { own = own; among = a; is = unicast_from place control own (key, value) b }
originates place control peer key value not (OfSelective own a b) =
    record { own = own; among = a; is = selective_from place control own (key, value) b }
originates place control peer key value not (OfActive own a b) = record { own = own; among = a; is = active_from place control own (key, value) b }
originates place control peer key value not (OfJoin b) =
    absurd (let bad : true ≡ false = sym (eq-eqb (kind_of key) 7 (join_kind place control peer (key, value) b)) ∙ not in cc)

-- ---- what is originated is held

among_routes : (place : EdgePlace) (control : Control) (own : OwnVrf) (key : Key) (value : Value) → IsOriginated place control own key value
    → Among (key, value) (routes_of place control own)
among_routes place control own key value (Inclusive k v) = inl (λ i. (k i, v i))
among_routes place control own key value (Unicast prefix site a k v) =
    inr (among_front (key, value) (unicast_routes place own) (selective_routes place control own ++ active_routes place control own)
    (subst (λ (e : Entry). Among e (unicast_routes place own)) (λ i. (sym k i, sym v i))
    (among_map (λ route. (keys.Unicast own.vrf.rd route.prefix, unicast_value place own.vrf)) (record { prefix = prefix; site = site })
    (local_routes place.scenario own.id) a)))
among_routes place control own key value (Selective pattern selected at k v) =
    let test : VrfPattern × Selected → Bool = λ e. e.0.vrf.0 == own.id.0 in
    let passing =
    among_filter test (record { vrf = own.id; pattern = pattern }, selected) (maps.entries control.selections) (eq-eqb own.id.0 own.id.0 refl)
    (get_entry pattern_exact control.selections (record { vrf = own.id; pattern = pattern }) selected at) in
    let made =
    among_map (λ (e : VrfPattern × Selected). (
      selective_key place own.vrf e.0.pattern,
      tunnel_value place own.vrf (tunnel_number own.vrf e.1.number),
    ))
    (record { vrf = own.id; pattern = pattern }, selected) _ passing in
    inr (among_after (key, value) (unicast_routes place own) (selective_routes place control own ++ active_routes place control own)
    (among_front (key, value) (selective_routes place control own) (active_routes place control own)
    (subst (λ (e : Entry). Among e (selective_routes place control own)) (λ i. (sym k i, sym v i)) made)))
among_routes place control own key value (Active iface source group of noted k v) =
    let note : Note = record { iface = iface; source = source; group = group } in
    let test : Note → Bool = λ n. is_iface_of place.scenario own.id n.iface in
    let passing = among_filter test note (in_order control.notes) of (listed note_total note_exact control.notes note noted) in
    let made =
    among_map (λ (n : Note). (active_key own.vrf n.source n.group, plain_value place own.vrf)) note (notes_of place control own.id) passing in
    inr (among_after (key, value) (unicast_routes place own) (selective_routes place control own ++ active_routes place control own)
    (among_after (key, value) (selective_routes place control own) (active_routes place control own)
    (subst (λ (e : Entry). Among e (active_routes place control own)) (λ i. (sym k i, sym v i)) made)))

-- ---- one route of a key is originated

-- the route distinguisher of a key that is no join, where it has one
abbrev pub rd_of : Key → Rd
rd_of (keys.Unicast rd prefix) = rd
rd_of (keys.Mcast afi (routes.Intra rd originator)) = rd
rd_of (keys.Mcast afi (routes.Selective rd source group originator)) = rd
rd_of (keys.Mcast afi (routes.Active rd source group)) = rd
rd_of other = record { 0 = [] }

pub of_rd : (place : EdgePlace) (control : Control) (own : OwnVrf) (key : Key) (value : Value) → IsOriginated place control own key value
    → rd_of key ≡ own.vrf.rd
of_rd place control own key value (Inclusive k v) = ap rd_of k
of_rd place control own key value (Unicast prefix site a k v) = ap rd_of k
of_rd place control own key value (Selective pattern selected at k v) = ap rd_of k
of_rd place control own key value (Active iface source group of noted k v) = ap rd_of k

pub is_no_join : (place : EdgePlace) (control : Control) (own : OwnVrf) (key : Key) (value : Value) → IsOriginated place control own key value
    → (kind_of key == 7) ≡ false
is_no_join place control own key value (Inclusive k v) = ap (λ (x : Key). kind_of x == 7) k
is_no_join place control own key value (Unicast prefix site a k v) = ap (λ (x : Key). kind_of x == 7) k
is_no_join place control own key value (Selective pattern selected at k v) = ap (λ (x : Key). kind_of x == 7) k
is_no_join place control own key value (Active iface source group of noted k v) = ap (λ (x : Key). kind_of x == 7) k

clash : (key own other : Key) (m n : ℕ) → key ≡ own → key ≡ other → kind_of own ≡ m → kind_of other ≡ n → (m == n) ≡ false → ⊥
clash key own other m n h k a b ne =
    let same : m ≡ n = sym a ∙ (ap kind_of (sym h) ∙ ap kind_of k) ∙ b in
    let bad : true ≡ false = sym (eq-eqb m n same) ∙ ne in cc

-- the pattern of a selective key
pub one_pattern : (place : EdgePlace) (own : OwnVrf) (pattern other : Pattern)
    → selective_key place own.vrf pattern ≡ selective_key place own.vrf other → pattern ≡ other
one_pattern place own pattern other h =
    let sources : pattern.source ≡ other.source = cc in
    let groups : pattern.group ≡ other.group = cc in
    λ i. record { source = sources i; group = groups i }

same_number : (control : Control) (own : OwnVrf) (pattern other : Pattern) (selected others : Selected) → pattern ≡ other
    → maps.get control.selections (record { vrf = own.id; pattern = pattern }) ≡ Some selected
    → maps.get control.selections (record { vrf = own.id; pattern = other }) ≡ Some others → selected.number ≡ others.number
same_number control own pattern other selected others same at bt =
    let both : Some selected ≡ Some others =
    sym at ∙ ap (λ (p : Pattern). maps.get control.selections (record { vrf = own.id; pattern = p })) same ∙ bt in
    let one : selected ≡ others = cc in ap (λ (s : Selected). s.number) one

one_of_vrf : (place : EdgePlace) (control : Control) (own : OwnVrf) (key : Key) (value other : Value)
    → IsOriginated place control own key value → IsOriginated place control own key other → value ≡ other
one_of_vrf place control own key value other (Inclusive k v) (Inclusive l w) = v ∙ sym w
one_of_vrf place control own key value other (Unicast prefix site a k v) (Unicast prefixes sites b l w) = v ∙ sym w
one_of_vrf place control own key value other (Selective pattern selected at k v) (Selective others chosen bt l w) =
    v ∙ ap (λ (n : ℕ). tunnel_value place own.vrf (tunnel_number own.vrf n))
    (same_number control own pattern others selected chosen (one_pattern place own pattern others (sym k ∙ l)) at bt) ∙ sym w
one_of_vrf place control own key value other (Active iface source group of noted k v) (Active ifaces sources groups off noteds l w) = v ∙ sym w
one_of_vrf place control own key value other (Inclusive k v) (Unicast prefix site a l w) = absurd (clash key _ _ 1 0 k l refl refl refl)
one_of_vrf place control own key value other (Inclusive k v) (Selective pattern selected at l w) = absurd (clash key _ _ 1 3 k l refl refl refl)
one_of_vrf place control own key value other (Inclusive k v) (Active iface source group of noted l w) = absurd (clash key _ _ 1 5 k l refl refl refl)
one_of_vrf place control own key value other (Unicast prefix site a k v) (Inclusive l w) = absurd (clash key _ _ 0 1 k l refl refl refl)
one_of_vrf place control own key value other (Unicast prefix site a k v) (Selective pattern selected at l w) =
    absurd (clash key _ _ 0 3 k l refl refl refl)
one_of_vrf place control own key value other (Unicast prefix site a k v) (Active iface source group of noted l w) =
    absurd (clash key _ _ 0 5 k l refl refl refl)
one_of_vrf place control own key value other (Selective pattern selected at k v) (Inclusive l w) = absurd (clash key _ _ 3 1 k l refl refl refl)
one_of_vrf place control own key value other (Selective pattern selected at k v) (Unicast prefix site a l w) =
    absurd (clash key _ _ 3 0 k l refl refl refl)
one_of_vrf place control own key value other (Selective pattern selected at k v) (Active iface source group of noted l w) =
    absurd (clash key _ _ 3 5 k l refl refl refl)
one_of_vrf place control own key value other (Active iface source group of noted k v) (Inclusive l w) = absurd (clash key _ _ 5 1 k l refl refl refl)
one_of_vrf place control own key value other (Active iface source group of noted k v) (Unicast prefix site a l w) =
    absurd (clash key _ _ 5 0 k l refl refl refl)
one_of_vrf place control own key value other (Active iface source group of noted k v) (Selective pattern selected at l w) =
    absurd (clash key _ _ 5 3 k l refl refl refl)

pub one_value : (place : EdgePlace) (control : Control) (key : Key) (value other : Value) → Rules place.scenario
    → Originates place control key value → Originates place control key other → value ≡ other
one_value place control key value other rules one two =
    let same : one.own ≡ two.own = one_rd place one.own two.own rules one.among two.among
    (sym (of_rd place control one.own key value one.is) ∙ of_rd place control two.own key other two.is) in
    one_of_vrf place control one.own key value other one.is (subst (λ own. IsOriginated place control own key other) (sym same) two.is)

pub held_is : (place : EdgePlace) (control : Control) (peer : NodeId) (key : Key) (value : Value) → (kind_of key == 7) ≡ false
    → maps.get (held_for place control peer) key ≡ Some value → Originates place control key value
held_is place control peer key value not h = originates place control peer key value not (is_held place control peer key value h)

pub is_what_is_held : (place : EdgePlace) (control : Control) (peer : NodeId) (key : Key) (value : Value) → Rules place.scenario
    → Originates place control key value → maps.get (held_for place control peer) key ≡ Some value
is_what_is_held place control peer key value rules by =
    let held = own_held place control peer by.own key value by.among (among_routes place control by.own key value by.is) in
    let not = is_no_join place control by.own key value by.is in
    let same : held.0 ≡ value = one_value place control key held.0 value rules (held_is place control peer key held.0 not held.1) by in
    held.1 ∙ ap (λ (v : Value). Some v) same

-- ---- keys of joins

pub no_join : (key : Key) → (IsJoinKey key → ⊥) → (kind_of key == 7) ≡ false
no_join (keys.Unicast rd prefix) not = refl
no_join (keys.Mcast afi (routes.Intra rd originator)) not = refl
no_join (keys.Mcast afi (routes.Inter rd source_as)) not = refl
no_join (keys.Mcast afi (routes.Selective rd source group originator)) not = refl
no_join (keys.Mcast afi (routes.Leaf key originator)) not = refl
no_join (keys.Mcast afi (routes.Active rd source group)) not = refl
no_join (keys.Mcast afi (routes.SharedJoin rd source_as source group)) not = refl
no_join (keys.Mcast afi (routes.SourceJoin rd source_as source group)) not = absurd (not tt)
no_join (keys.Mcast afi (routes.Other kind octets)) not = refl

pub held_both : (place : EdgePlace) (control : Control) (peer : NodeId) (key : Key) (value : Value) → Rules place.scenario → (IsJoinKey key → ⊥)
    → (maps.get (held_for place control peer) key ≡ Some value) ↔ Originates place control key value
held_both place control peer key value rules not =
    (held_is place control peer key value (no_join key not), is_what_is_held place control peer key value rules)
