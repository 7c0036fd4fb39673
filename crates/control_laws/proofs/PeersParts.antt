-- What the tree of a VRF keeps of the routes of the peers, kind by kind, and after a change of one route.
use Rattle.std.proofs.Common.{◌≡◌, ◌↔◌, Bool, true, false, List, Option, Some, None, refl, sym, ap, ◌∙◌}
use Rattle.std.specs.FinMap as maps
use Rattle.std.specs.FinMap.{FinMap}
use Rattle.std.specs.FinSet as sets
use Rattle.std.specs.FinSet.{FinSet}
use Rattle.mv_base.specs.declared.ids.NodeId.{NodeId}
use Rattle.selective.specs.declared.route_key.Learned.{Learned}
use Rattle.selective.specs.declared.route_key.RouteKey as selective_keys
use Rattle.umh_select.specs.declared.key.RouteKey.{RouteKey}
use Rattle.umh_select.specs.declared.route.Held.{Held}
use Rattle.vrf_words.specs.declared.tree_defs.flow.ActiveRoute.{ActiveRoute}
use Rattle.vrf_words.specs.declared.tree_defs.flow.TakenJoin.{TakenJoin}
use Rattle.vrf_words.specs.tree_defs.Trees.{TreeData}
use Rattle.pim_defs.specs.Entries.{Entries}
use Rattle.selective_defs.specs.declared.selection.Selection.{Selection}
use Rattle.umh_select.specs.declared.route.Choice.{Choice}
use Rattle.vrf_words.specs.tree_defs.Keys.{flow_cmp, note_cmp}
use Rattle.edge_defs.specs.Edge.{Control, Taken}
use Rattle.edge_defs.specs.Place.{EdgePlace, OwnVrf}
use Rattle.vrf_words.specs.tree_laws.TreeOf.{held_at}
use Rattle.control_laws.specs.Peers.{IsTreeBetween, with_actives, with_joined, with_learned, with_selective}
use Rattle.control_laws.proofs.PeersKinds.{tables_of, tell_unicast, unicast_told, told_unicast, tell_active, active_told, told_active, tell_join, join_told, told_join, tell_selective, selective_told, told_selective}
use Rattle.control_laws.proofs.PeersTold.{Tables, Told, same_told}

-- ---- sets as tables

abbrev pub flag : Bool → Option (Unit {0})
flag true = Some tt
flag false = None

flag_true : (b : Bool) (u : Unit {0}) → flag b ≡ Some u → b ≡ true
flag_true true u h = refl
flag_true false u h = absurd cc

pub flagged : (b : Bool) → b ≡ true → flag b ≡ Some tt
flagged b h = ap flag h

-- ---- one way and the other

pub joins : {A B C : Type 0} → A ↔ B → B ↔ C → A ↔ C
joins f g = (λ a. g.0 (f.0 a), λ c. f.1 (g.1 c))

pub by_equal : {V B : Type 0} {o p : Option V} {v : V} → o ≡ p → (p ≡ Some v) ↔ B → (o ≡ Some v) ↔ B
by_equal e f = (λ h. f.0 (sym e ∙ h), λ b. e ∙ f.1 b)

one_option : {V : Type 0} (o p : Option V) → ((v : V) → (o ≡ Some v) ↔ (p ≡ Some v)) → o ≡ p
one_option None None same = refl
one_option None (Some v) same = (same v).1 refl
one_option (Some v) p same = sym ((same v).0 refl)

-- ---- the parts that are of customers

abbrev pub Customers : Type 0
Customers = Entries × FinSet note_cmp × List Selection × FinMap flow_cmp Choice

abbrev pub customers_of : TreeData → Customers
customers_of tree = (tree.vrf.entries, tree.vrf.notes, tree.root.selections, tree.vrf.flows)

-- ---- the parts that are of peers

-- The tree has what the routes of these tables give the VRF, each kind for itself.
pub record Parts (place : EdgePlace) (own : OwnVrf) (tables : Tables) (tree : TreeData) : Type 0 where
  pub unicast : (x : RouteKey) (held : Held) → (maps.get tree.vrf.routes.learned x ≡ Some held) ↔ Told (tell_unicast place own) tables x held
  pub actives : (x : ActiveRoute) → (flag (sets.contains tree.vrf.actives x) ≡ Some tt) ↔ Told (tell_active own) tables x tt
  pub joined : (x : TakenJoin) → (flag (sets.contains tree.joined x) ≡ Some tt) ↔ Told (tell_join place own) tables x tt
  pub selective : (x : selective_keys.RouteKey) (learned : Learned)
      → (maps.get tree.leaf.routes x ≡ Some learned) ↔ Told (tell_selective place own) tables x learned

module _ (place : EdgePlace) (own : OwnVrf) where
  pub parts_of : (control : Control) (tree : TreeData) → IsTreeBetween place control own tree → Parts place own (tables_of control) tree
  parts_of control tree is = record {
    unicast = λ x held. (
      λ h. unicast_told place control own x held (sym (is.learned x) ∙ h),
      λ told. is.learned x ∙ told_unicast place control own x held told,
    );
    actives = λ x. (
      λ h. active_told control own x ((is.actives x).0 (flag_true (sets.contains tree.vrf.actives x) tt h)),
      λ told. flagged (sets.contains tree.vrf.actives x) ((is.actives x).1 (told_active control own x told)),
    );
    joined = λ x. (
      λ h. join_told place control own x ((is.joined x).0 (flag_true (sets.contains tree.joined x) tt h)),
      λ told. flagged (sets.contains tree.joined x) ((is.joined x).1 (told_join place control own x told)),
    );
    selective = λ x learned. (
      λ h. selective_told place control own x learned ((is.selective x learned).0 h),
      λ told. (is.selective x learned).1 (told_selective place control own x learned told),
    );
  }

  -- a tree with other routes, by other tables
  pub tree_of : (control : Control) (peers : FinMap _ Taken) (tree : TreeData) (learned : FinMap _ Held) (actives : FinSet _) (joined : FinSet _)
      (routes : FinMap _ Learned)
      → IsTreeBetween place control own tree
      → Parts place own (tables_of (record control { peers = peers }))
      (with_learned learned (with_actives actives (with_joined joined (with_selective routes tree))))
      → IsTreeBetween place (record control { peers = peers }) own
      (with_learned learned (with_actives actives (with_joined joined (with_selective routes tree))))
  tree_of control peers tree learned actives joined routes is parts =
      let next : Control = record control { peers = peers } in
      record {
        ifaces = is.ifaces;
        entries = is.entries;
        notes = is.notes;
        actives = λ x. (
          λ h. told_active next own x ((parts.actives x).0 (flagged (sets.contains actives x) h)),
          λ taken. flag_true (sets.contains actives x) tt ((parts.actives x).1 (active_told next own x taken)),
        );
        joined = λ x. (
          λ h. told_join place next own x ((parts.joined x).0 (flagged (sets.contains joined x) h)),
          λ taken. flag_true (sets.contains joined x) tt ((parts.joined x).1 (join_told place next own x taken)),
        );
        rule = is.rule;
        learned = λ x. one_option (maps.get learned x) (held_at place next own x.prefix x.place) (λ held. joins (parts.unicast x held)
            (told_unicast place next own x held, unicast_told place next own x held));
        attached = is.attached;
        flows = is.flows;
        number = is.number;
        delay = is.delay;
        selections = is.selections;
        leaf_delay = is.leaf_delay;
        selective = λ x found. joins (parts.selective x found) (told_selective place next own x found, selective_told place next own x found);
        wants = refl;
      }

  -- tables that are the same make the same of a tree
  pub same_parts : (before after : Tables) (tree : TreeData) → ((q : NodeId) (k : _) → after q k ≡ before q k) → Parts place own before tree
      → Parts place own after tree
  same_parts before after tree same parts = record {
    unicast = λ x held. joins (parts.unicast x held) (same_told (tell_unicast place own) before after same x held);
    actives = λ x. joins (parts.actives x) (same_told (tell_active own) before after same x tt);
    joined = λ x. joins (parts.joined x) (same_told (tell_join place own) before after same x tt);
    selective = λ x learned. joins (parts.selective x learned) (same_told (tell_selective place own) before after same x learned);
  }
