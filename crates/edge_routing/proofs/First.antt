-- Tables before anything has happened.
use Rattle.std.proofs.Common.{◌≡◌, ◌↔◌, inl, inr, Bool, true, false, cond, List, [], ◌∷◌, map, Option, None, Some, is_some, refl, sym, ap, subst, ◌∙◌}
use Rattle.std.specs.Ordering.{eq_by_cmp}
use Rattle.std.specs.FinMap as maps
use Rattle.std.specs.FinMap.Entries.{find}
use Rattle.mv_base.specs.Lists.{Among}
use Rattle.mv_base.specs.declared.ids.NodeId.{NodeId}
use Rattle.mv_base.specs.core_walks.Core.{Core}
use Rattle.table_laws.proofs.CompareLemmas.{one_key, own_key}
use Rattle.label_defs.specs.Keys.{node_cmp}
use Rattle.label_defs.proofs.KeyLemmas.{node_cmp_exact, node_cmp_total}
use Rattle.edge_defs.specs.Edge.{Control, flow_cmp, no_control}
use Rattle.edge_defs.specs.Held.{told}
use Rattle.edge_defs.specs.Place.{EdgePlace}
use Rattle.edge_routes.specs.edge_home.Home.{peers_of, place_of}
use Rattle.edge_control.specs.edge_tables.Tables.{PeerTable, Tables, fresh, waiting_at, waiting_of}
use Rattle.held_tables.specs.Holding.{AreToldAlike, HoldAll}
use Rattle.held_tables.specs.Starting.{AreEmpty}
use Rattle.vrf_words.specs.tree_laws.Joins.{AreOfVrfs}
use Rattle.control_laws.specs.Control.{AreTrees, Kept, control_of}
use Rattle.control_laws.specs.group_laws.Groups.{HaveGroups}
use Rattle.control_laws.proofs.group_laws.Effects.{first_groups}
use Rattle.edge_routing.specs.Routing.{AreBetween, IsInStep}
use Rattle.edge_routing.proofs.Between.{same_keys, same_waiting, told_at}

-- ---- a table for each peer

abbrev Entry : Type 0
Entry = NodeId × PeerTable

abbrev fresh_of : List NodeId → List Entry
fresh_of peers = map (λ (peer : NodeId). (peer, fresh)) peers

found_fresh : (peers : List NodeId) (q : NodeId) (table : PeerTable) → find node_cmp q (fresh_of peers) ≡ Some table → table ≡ fresh
found_fresh [] q table h = absurd cc
found_fresh (peer ∷ peers) q table h = by (eq_by_cmp node_cmp q peer) h (found_fresh peers q table)
  where
    by : (b : Bool) → cond b (Some fresh) (find node_cmp q (fresh_of peers)) ≡ Some table
        → (find node_cmp q (fresh_of peers) ≡ Some table → table ≡ fresh) → table ≡ fresh
    by true e rest = cc
    by false e rest = rest e

found_among : (peers : List NodeId) (q : NodeId) → is_some (find node_cmp q (fresh_of peers)) ≡ true → Among q peers
found_among [] q h = absurd cc
found_among (peer ∷ peers) q h = by (eq_by_cmp node_cmp q peer) refl (found_among peers q)
  where
    by : (b : Bool) → eq_by_cmp node_cmp q peer ≡ b → (is_some (find node_cmp q (fresh_of peers)) ≡ true → Among q peers) → Among q (peer ∷ peers)
    by true e rest = inl (one_key node_cmp_exact q peer e)
    by false e rest = inr (rest (sym (ap (λ (b : Bool). is_some (cond b (Some fresh) (find node_cmp q (fresh_of peers)))) e) ∙ h))

among_found : (peers : List NodeId) (q : NodeId) → Among q peers → is_some (find node_cmp q (fresh_of peers)) ≡ true
among_found [] q a = absurd a
among_found (peer ∷ peers) q (inl e) =
    ap (λ (b : Bool). is_some (cond b (Some fresh) (find node_cmp q (fresh_of peers))))
    (subst (λ (p : NodeId). eq_by_cmp node_cmp q p ≡ true) e (own_key node_cmp_total q))
among_found (peer ∷ peers) q (inr a) = by (eq_by_cmp node_cmp q peer) (among_found peers q a)
  where
    by : (b : Bool) → is_some (find node_cmp q (fresh_of peers)) ≡ true → is_some (cond b (Some fresh) (find node_cmp q (fresh_of peers))) ≡ true
    by true h = refl
    by false h = h

module _ (peers : List NodeId) (before : Tables) (is : before ≡ maps.from_entries (fresh_of peers)) where
  at_peer : (q : NodeId) → maps.get before q ≡ find node_cmp q (fresh_of peers)
  at_peer q = ap (λ (t : Tables). maps.get t q) is ∙ maps.get-from_entries node_cmp_total (fresh_of peers) q

  pub fresh_at : (q : NodeId) (table : PeerTable) → maps.get before q ≡ Some table → table ≡ fresh
  fresh_at q table h = found_fresh peers q table (sym (at_peer q) ∙ h)

  pub are_empty : AreEmpty before
  are_empty q table h = ap (λ (t : PeerTable). t.set) (fresh_at q table h)

  keys : (q : NodeId) → (is_some (maps.get before q) ≡ true) ↔ Among q peers
  keys q = ((λ h. found_among peers q (sym (ap is_some (at_peer q)) ∙ h)), (λ a. ap is_some (at_peer q) ∙ among_found peers q a))

  fresh_waits : (q : NodeId) → waiting_at before q ≡ []
  fresh_waits q = by (maps.get before q) refl
    where
      by : (o : Option PeerTable) → maps.get before q ≡ o → waiting_of o ≡ []
      by None e = refl
      by (Some table) e = ap (λ (t : PeerTable). t.waiting) (fresh_at q table e)

  module _ (after : Tables) (alike : AreToldAlike before after) where
    pub first_silent : (q : NodeId) → waiting_at after q ≡ []
    first_silent q = same_waiting before after alike q ∙ fresh_waits q

    first_between : (place : EdgePlace) → HoldAll place no_control after → AreBetween place no_control no_control after
    first_between place hold q table at =
        let was = told_at before after alike q table at in
        let new = fresh_at q was.0 was.1 in
        let down : table.up ≡ false = was.2.up ∙ ap (λ (t : PeerTable). t.up) new in
        record {
          up = down ∙ sym (ap is_some (maps.get-empty node_cmp q));
          set = hold q table at;
          told = was.2.told ∙ (ap (λ (t : PeerTable). t.told) new ∙ sym (ap (λ (b : Bool). cond b (told place no_control q) maps.empty) down));
        }

    no_flows : (place : EdgePlace) → AreOfVrfs place no_control
    no_flows place flow up h = absurd (let none = sym (maps.get-empty flow_cmp flow) ∙ h in cc)

    pub first_step : (kept : Kept) → control_of kept ≡ no_control → AreTrees kept → peers ≡ peers_of kept.home
        → ((core : Core) → HoldAll (place_of kept.home core) no_control after) → IsInStep (record { control = kept; tables = after })
    first_step kept none trees all hold = record {
      trees = trees;
      groups = subst HaveGroups (sym none) first_groups;
      vrfs = λ core. subst (λ (c : Control). AreOfVrfs (place_of kept.home core) c) (sym none) (no_flows (place_of kept.home core));
      tables = λ core. subst (λ (c : Control). AreBetween (place_of kept.home core) c c after) (sym none)
          (first_between (place_of kept.home core) (hold core));
      peers = λ q. (
        (λ h. subst (Among q) all ((keys q).0 (sym (same_keys before after alike q) ∙ h))),
        (λ a. same_keys before after alike q ∙ (keys q).1 (subst (Among q) (sym all) a)),
      );
      up = λ q h. absurd (let down = sym (ap (λ (c : Control). is_some (maps.get c.peers q)) none ∙ ap is_some (maps.get-empty node_cmp q)) ∙ h in
          cc);
    }
