-- The name of a node, or of an interface, names it, and has no space.
use Rattle.std.proofs.Common.{◌≡◌, ℕ, zero, suc, ◌<◌, ◌==◌, Bool, true, false, not, List, [], ◌∷◌, length, get_or, refl, sym, ap, subst, arith, slice_get, Option, Some, None, nat_eq}
use Rattle.std.specs.Prelude.{position}
use Rattle.std.specs.List.{list_all, position_or_len}
use Rattle.std.specs.Cmp.Lexicographic.{pointwise}
use Rattle.std.proofs.lemmas.Bool.{lt-ltb, le-leb, eqb-true}
use Rattle.std.proofs.lemmas.Grind.{common_steps}
use Rattle.std.proofs.lemmas.Option.{none-some, slice_get_within, slice_get-get_or, get_or_from_slice_get}
use Rattle.std.proofs.lemmas.List.Sums.{position_or_len_is}
use Rattle.std.proofs.lemmas.Slice.Eq.{bytes_eq-Decides}
use Rattle.mv_base.specs.declared.ids.NodeId.{NodeId}
use Rattle.mv_base.specs.declared.ids.IfaceId.{IfaceId}
use Rattle.scenario_defs.specs.declared.scenario.Node.{Node}
use Rattle.scenario_defs.specs.declared.scenario.Iface.{Iface}
use Rattle.scenario_defs.specs.declared.scenario.Scenario.{Scenario}
use Rattle.scenario_defs.specs.declared.scenario.Thing.TheVariants as things
use Rattle.scenario_defs.specs.Names.{is_name, is_name_octet}
use Rattle.scenario_defs.specs.Rules.{Rules}
use Rattle.scenario_defs.specs.Text.{node_name, iface_name}
use Rattle.report_text.specs.report_lines.Fields.{is_node_named, is_iface_named, node_named, iface_named}
use Rattle.report_text.proofs.report_lines.NumberLemmas.{goes, both_parts}

-- ---- the one place that passes a test

at_no_place : {X : Type 0} (p : X → Bool) (xs : List X) (i : ℕ) (y : X) (passes : Bool) → p y ≡ passes
    → ((j : ℕ) (z : X) → slice_get xs j ≡ Some z → p z ≡ true → j ≡ i) → (k : ℕ) → k < i → slice_get xs k ≡ Some y → p y ≡ false
at_no_place p xs i y true e only k below at = absurd (omega (arith, only k y at e))
at_no_place p xs i y false e only k below at = e

-- The only place that passes is the first one.
pub position_only : {X : Type 0} (p : X → Bool) (xs : List X) (i : ℕ) (x : X) → slice_get xs i ≡ Some x → p x ≡ true
    → ((j : ℕ) (y : X) → slice_get xs j ≡ Some y → p y ≡ true → j ≡ i) → position p xs ≡ Some i
position_only p xs i x at passes only =
    let within : i < length xs = slice_get_within xs i x at in
    let place : position_or_len p xs ≡ i =
    position_or_len_is p xs i x (omega arith) (λ k below. at_no_place p xs i (get_or xs k x) _ refl only k below
    (slice_get-get_or xs k x (omega arith))) (λ _. subst (λ y. p y ≡ true) (sym (get_or_from_slice_get xs i x x at)) passes) in
    rw (place, lt-ltb i (length xs) within) refl

-- The place that is found is one of the list.
pub position_within : {X : Type 0} (p : X → Bool) (xs : List X) (place : ℕ) → position p xs ≡ Some place → place < length xs
position_within p xs place found = grind (arith, common_steps)

-- ---- names

name_is : (name text : List ℕ) → pointwise nat_eq name text ≡ true → name ≡ text
name_is name text e = (bytes_eq-Decides name text).0 e

name_same : (name : List ℕ) → pointwise nat_eq name name ≡ true
name_same name = (bytes_eq-Decides name name).1 refl

node_id : (a b : NodeId) → things.Node a ≡ things.Node b → a.0 ≡ b.0
node_id a b e = let same : a ≡ b = cc in ap (λ (id : NodeId). id.0) same

iface_id : (a b : IfaceId) → things.Iface a ≡ things.Iface b → a.0 ≡ b.0
iface_id a b e = let same : a ≡ b = cc in ap (λ (id : IfaceId). id.0) same

node_place : (scenario : Scenario) → Rules scenario → (node : NodeId) (found : Node) → slice_get scenario.nodes node.0 ≡ Some found
    → position (is_node_named found.name) scenario.nodes ≡ Some node.0
node_place scenario rules node found at =
    position_only (is_node_named found.name) scenario.nodes node.0 found at (name_same found.name)
    (λ j other there same. node_id (record { 0 = j }) node (rules.names.distinct (things.Node (record { 0 = j })) (things.Node node) found.name
    (rw there (ap (λ (name : List ℕ). Some name) (name_is other.name found.name same))) (rw at refl)))

iface_place : (scenario : Scenario) → Rules scenario → (iface : IfaceId) (found : Iface) → slice_get scenario.ifaces iface.0 ≡ Some found
    → position (is_iface_named found.name) scenario.ifaces ≡ Some iface.0
iface_place scenario rules iface found at =
    position_only (is_iface_named found.name) scenario.ifaces iface.0 found at (name_same found.name)
    (λ j other there same. iface_id (record { 0 = j }) iface (rules.names.distinct (things.Iface (record { 0 = j })) (things.Iface iface) found.name
    (rw there (ap (λ (name : List ℕ). Some name) (name_is other.name found.name same))) (rw at refl)))

-- whether the text has no space
abbrev pub has_no_space : List ℕ → Bool
has_no_space text = list_all (λ octet. not (octet == 32)) text

no_space_octet : (c : ℕ) (is_space : Bool) → (c == 32) ≡ is_space → is_name_octet c ≡ true → not is_space ≡ true
no_space_octet c true e h = let f : is_name_octet 32 ≡ true = subst (λ (b : ℕ). is_name_octet b ≡ true) (eqb-true c 32 e) h in absurd cc
no_space_octet c false e h = refl

no_spaces : (text : List ℕ) → list_all is_name_octet text ≡ true → has_no_space text ≡ true
no_spaces [] h = refl
no_spaces (c ∷ cs) h =
    let p = both_parts (is_name_octet c) (list_all is_name_octet cs) h in
    rw (no_space_octet c (c == 32) refl p.0) (no_spaces cs p.1)

name_no_space : (name : List ℕ) → is_name name ≡ true → has_no_space name ≡ true
name_no_space name h = no_spaces name (both_parts _ (list_all is_name_octet name) h).1

no_element : {X : Type 0} (xs : List X) (i : ℕ) → slice_get xs i ≡ None → i < length xs → ⊥
no_element [] i e h = omega arith
no_element (x ∷ xs) zero e h = none-some x (sym e)
no_element (x ∷ xs) (suc i) e h = no_element xs i e (omega arith)

-- The name names the thing, and has no space.
pub record IsNameOf {A : Type 0} (named : List ℕ → Option A) (name : List ℕ) (id : A) : Type 0 where
  pub names : named name ≡ Some id
  pub no_space : has_no_space name ≡ true

node_found : (scenario : Scenario) → Rules scenario → (node : NodeId) (o : Option Node) → slice_get scenario.nodes node.0 ≡ o
    → node.0 < length scenario.nodes → IsNameOf (node_named scenario) (elim o [ None ↦ [] | Some found ↦ found.name ]) node
unfolding node_named
node_found scenario rules node None at within = absurd (no_element scenario.nodes node.0 at within)
node_found scenario rules node (Some found) at within = record {
  names = goes _ (node_place scenario rules node found at) (rw (le-leb node.0 65535 (omega (arith, rules.core.topology.few_nodes, within))) refl);
  no_space = name_no_space found.name (rules.names.formed (things.Node node) found.name (rw at refl));
}

pub node_back : (scenario : Scenario) → Rules scenario → (node : NodeId) → node.0 < length scenario.nodes
    → IsNameOf (node_named scenario) (node_name scenario node) node
node_back scenario rules node within = node_found scenario rules node (slice_get scenario.nodes node.0) refl within

iface_found : (scenario : Scenario) → Rules scenario → (iface : IfaceId) (o : Option Iface) → slice_get scenario.ifaces iface.0 ≡ o
    → iface.0 < length scenario.ifaces → IsNameOf (iface_named scenario) (elim o [ None ↦ [] | Some found ↦ found.name ]) iface
unfolding iface_named
iface_found scenario rules iface None at within = absurd (no_element scenario.ifaces iface.0 at within)
iface_found scenario rules iface (Some found) at within = record {
  names = goes _ (iface_place scenario rules iface found at) (rw (le-leb iface.0 65535 (omega (arith, rules.ifaces.few, within))) refl);
  no_space = name_no_space found.name (rules.names.formed (things.Iface iface) found.name (rw at refl));
}

pub iface_back : (scenario : Scenario) → Rules scenario → (iface : IfaceId) → iface.0 < length scenario.ifaces
    → IsNameOf (iface_named scenario) (iface_name scenario iface) iface
iface_back scenario rules iface within = iface_found scenario rules iface (slice_get scenario.ifaces iface.0) refl within
