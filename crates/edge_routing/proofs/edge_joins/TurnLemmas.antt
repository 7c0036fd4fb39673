-- One join after another, and tables with each of them made or taken back.
use Rattle.std.proofs.Common.{◌≡◌, ℕ, zero, suc, ◌+◌, ◌<◌, ◌≤◌, ◌==◌, true, false, inl, inr, List, [], ◌∷◌, drop, get_or, length, Option, Some, None, Result, Ok, Err, OnOk, OnErr, refl, sym, ap, subst, ◌∙◌}
use Rattle.std.specs.FinMap.{get}
use Rattle.std.proofs.lemmas.Bool.{cases_Bool, eqb-true, eq-eqb}
use Rattle.std.proofs.lemmas.List.{drop_all, drop_more}
use Rattle.mv_base.specs.Lists.{Among}
use Rattle.mv_base.specs.declared.addr.Addr.TheVariants.{V4}
use Rattle.mv_base.specs.declared.ids.NodeId.{NodeId}
use Rattle.bgp_messages.specs.declared.bgp_attributes.key.Key.{Key}
use Rattle.mv_base.specs.core_walks.Core.{Core}
use Rattle.edge_defs.specs.Edge.{Control}
use Rattle.edge_defs.specs.Keys.{Table}
use Rattle.edge_defs.specs.Place.{EdgePlace}
use Rattle.edge_routes.specs.edge_home.Home.{place_of}
use Rattle.edge_control.specs.edge_tables.Tables.{AtPeer, Both, EachPeer, PeerTable, Tables}
use Rattle.vrf_words.specs.tree_laws.Joins.{AreOfVrfs}
use Rattle.control_laws.specs.Control.{Kept, control_of}
use Rattle.held_tables.specs.Holding.{HoldAll, IsToldAlike}
use Rattle.held_tables.specs.Joins.{HoldAllBut}
use Rattle.held_tables.proofs.HoldLemmas.{told_alike}
use Rattle.held_tables.proofs.JoinLemmas.{ended}
use Rattle.held_tables.proofs.StartLemmas.{each_itself}
use Rattle.edge_control.specs.vrf_trees.declared.changes.TreeJoin.{TreeJoin}
use Rattle.edge_routing.specs.edge_joins.Keys.{key_of, keys_of}
use Rattle.edge_routing.specs.edge_joins.Upstreams.{HaveIpv4Imports}

-- ---- what was sent stays

alike_then : (a b c : PeerTable) → IsToldAlike a b → IsToldAlike b c → IsToldAlike a c
alike_then a b c h k = record { up = k.up ∙ h.up; told = k.told ∙ h.told; waiting = k.waiting ∙ h.waiting }

alike_itself : (a : PeerTable) → IsToldAlike a a
alike_itself a = record { up = refl; told = refl; waiting = refl }

both_then : (o p q : Option PeerTable) → Both IsToldAlike o p → Both IsToldAlike p q → Both IsToldAlike o q
both_then None None None h k = tt
both_then None None (Some c) h k = k
both_then None (Some b) q h k = absurd h
both_then (Some a) None q h k = absurd h
both_then (Some a) (Some b) None h k = k
both_then (Some a) (Some b) (Some c) h k = alike_then a b c h k

pub all_alike_then : (s t u : Tables) → EachPeer IsToldAlike s t → EachPeer IsToldAlike t u → EachPeer IsToldAlike s u
all_alike_then s t u h k peer = both_then (get s peer) (get t peer) (get u peer) (h peer) (k peer)

pub all_alike : (t : Tables) → EachPeer IsToldAlike t t
all_alike t = each_itself IsToldAlike alike_itself t

one_node : (own other : NodeId) → own.0 ≡ other.0 → own ≡ other
one_node own other h = λ i. record { 0 = h i }

both_alike : (change : Table → Table) (old new : Option PeerTable)
    → Both {A = PeerTable} {B = PeerTable} (λ before thereafter. thereafter ≡ record before { set = change before.set }) old new
    → Both IsToldAlike old new
both_alike change None None h = tt
both_alike change None (Some new) h = h
both_alike change (Some old) None h = h
both_alike change (Some old) (Some new) h = told_alike change old new h

both_same : (old new : Option PeerTable) → new ≡ old → Both IsToldAlike old new
both_same old new h = subst (λ (o : Option PeerTable). Both IsToldAlike old o) (sym h) (by old)
  where
    by : (o : Option PeerTable) → Both IsToldAlike o o
    by None = tt
    by (Some own) = alike_itself own

pub alike_at : (change : Table → Table) (peer : NodeId) (old new : Tables)
    → AtPeer peer (λ before thereafter. thereafter ≡ record before { set = change before.set }) old new → EachPeer IsToldAlike old new
alike_at change peer old new at other = elim (cases_Bool (other.0 == peer.0)) [
  | inl tied ↦
      subst (λ (n : NodeId). Both IsToldAlike (get old n) (get new n)) (sym (one_node other peer (eqb-true other.0 peer.0 tied)))
      (both_alike change (get old peer) (get new peer) at.0)
  | inr not ↦
      both_same (get old other) (get new other)
      (at.1 other (λ one. let bad : true ≡ false = sym (eq-eqb other.0 peer.0 (ap (λ (n : NodeId). n.0) one)) ∙ not in cc))
]

pub alike_either : {X E : Type 0} (result : Result X E) (change : Table → Table) (peer : NodeId) (old new : Tables)
    → OnOk result (AtPeer peer (λ before thereafter. thereafter ≡ record before { set = change before.set }) old new) → OnErr result (new ≡ old)
    → EachPeer IsToldAlike old new
alike_either (Ok x) change peer old new h k = alike_at change peer old new h
alike_either (Err e) change peer old new h k = subst (λ (t : Tables). EachPeer IsToldAlike old t) (sym k) (all_alike old)

-- ---- joins of a list

among_left : (joins : List TreeJoin) (i : ℕ) (key : NodeId × Key) → Among key (keys_of (drop i joins)) → Among key (keys_of joins)
among_left joins zero key a = a
among_left [] (suc i) key a = a
among_left (join ∷ joins) (suc i) key a = inr (among_left joins i key a)

-- more of them may be left
all_but_more : (place : EdgePlace) (control : Control) (joins : List TreeJoin) (i : ℕ) (t : Tables)
    → HoldAllBut place control (keys_of (drop i joins)) t → HoldAllBut place control (keys_of joins) t
all_but_more place control joins i t hold =
    record { elsewhere = λ peer table key at apart. hold.elsewhere peer table key at (λ a. apart (among_left joins i (peer, key) a)) }

-- ---- one join more

-- what is read after the end of a list
abbrev pub no_join : TreeJoin
no_join = record { edge = record { 0 = 0 }; rd = record { 0 = [] }; import = (V4 [], 0); source_as = 0; source = V4 []; group = V4 [] }

module _ (kept : Kept) where
  -- From the one tables to the others these joins are done, and the others are left.
  abbrev pub Done : List (NodeId × Key) → List (NodeId × Key) → Tables → Tables → Type 0
  Done before thereafter old new =
      (core : Core) → AreOfVrfs (place_of kept.home core) (control_of kept) → HaveIpv4Imports (control_of kept)
      → HoldAllBut (place_of kept.home core) (control_of kept) before old → HoldAllBut (place_of kept.home core) (control_of kept) thereafter new

  -- one join is done, whatever others are left
  abbrev pub DoneOne : TreeJoin → Tables → Tables → Type 0
  DoneOne join old new =
      (core : Core) (but : List (NodeId × Key)) → AreOfVrfs (place_of kept.home core) (control_of kept) → HaveIpv4Imports (control_of kept)
      → HoldAllBut (place_of kept.home core) (control_of kept) (key_of join ∷ but) old
      → HoldAllBut (place_of kept.home core) (control_of kept) but new

  -- the first joins are done
  abbrev pub Way : List TreeJoin → ℕ → Tables → Tables → Type 0
  Way joins i old new = Done (keys_of joins) (keys_of (drop i joins)) old new

  pub way_more : (joins : List TreeJoin) (i : ℕ) → i < length joins → (s t u : Tables) → Way joins i s t → DoneOne (get_or joins i no_join) t u
      → Way joins (i + 1) s u
  way_more joins i lt s t u way one core of_vrfs ipv4 hold =
      let left : keys_of (drop i joins) ≡ key_of (get_or joins i no_join) ∷ keys_of (drop (i + 1) joins) =
      ap keys_of (drop_more joins i no_join lt) in
      one core (keys_of (drop (i + 1) joins)) of_vrfs ipv4
      (subst (λ (l : List (NodeId × Key)). HoldAllBut (place_of kept.home core) (control_of kept) l t) left (way core of_vrfs ipv4 hold))

  pub way_end : (joins : List TreeJoin) (i : ℕ) → length joins ≤ i → (s t : Tables) → Way joins i s t → (core : Core)
      → AreOfVrfs (place_of kept.home core) (control_of kept) → HaveIpv4Imports (control_of kept)
      → HoldAllBut (place_of kept.home core) (control_of kept) (keys_of joins) s → HoldAll (place_of kept.home core) (control_of kept) t
  way_end joins i le s t way core of_vrfs ipv4 hold =
      ended (place_of kept.home core) (control_of kept) t
      (subst (λ (l : List (NodeId × Key)). HoldAllBut (place_of kept.home core) (control_of kept) l t) (ap keys_of (drop_all i joins le))
      (way core of_vrfs ipv4 hold))

  pub way_cut : (joins : List TreeJoin) (i : ℕ) (s t u : Tables) → Way joins i s t → u ≡ t → (core : Core)
      → AreOfVrfs (place_of kept.home core) (control_of kept) → HaveIpv4Imports (control_of kept)
      → HoldAllBut (place_of kept.home core) (control_of kept) (keys_of joins) s
      → HoldAllBut (place_of kept.home core) (control_of kept) (keys_of joins) u
  way_cut joins i s t u way same core of_vrfs ipv4 hold =
      subst (HoldAllBut (place_of kept.home core) (control_of kept) (keys_of joins)) (sym same)
      (all_but_more (place_of kept.home core) (control_of kept) joins i t (way core of_vrfs ipv4 hold))
