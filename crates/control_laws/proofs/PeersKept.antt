-- What an edge keeps where each of its trees takes what changed of the routes of the peers.
use Rattle.std.proofs.Common.{◌≡◌, ℕ, inl, inr, List, [], ◌∷◌, map, fold, Some, None, refl, sym, ap, subst, ◌∙◌}
use Rattle.std.specs.List.{AllZip}
use Rattle.std.specs.FinMap as maps
use Rattle.std.specs.FinMap.{FinMap}
use Rattle.mv_base.specs.Lists.{Among}
use Rattle.mv_base.specs.declared.ids.NodeId.{NodeId}
use Rattle.mv_base.specs.core_walks.Core.{Core}
use Rattle.bgp_messages.specs.declared.bgp_attributes.update.Change.{Change}
use Rattle.bgp_messages.specs.bgp_update.Written.{IsWritableKey}
use Rattle.label_defs.specs.Keys.{node_cmp}
use Rattle.vrf_words.specs.tree_defs.Trees.{TreeData}
use Rattle.edge_defs.specs.Edge.{Taken}
use Rattle.edge_defs.specs.Imported.{taken_from}
use Rattle.edge_defs.specs.Place.{EdgePlace, OwnVrf, own_vrfs}
use Rattle.edge_defs.specs.Steps.{peers_run, taken_change}
use Rattle.edge_routes.specs.edge_home.Home.{place_of}
use Rattle.vrf_words.proofs.edge_words.calm_laws.Lists.{among_map}
use Rattle.control_laws.specs.Control.{Kept, OwnTree, control_of, trees_of}
use Rattle.control_laws.specs.Between.{AreTreesBetween, HasRoutes, KeepsCustomers, MakesBetween}
use Rattle.control_laws.proofs.Between.{between_at, routes_make}
use Rattle.control_laws.specs.Peers.{AreWritable, IsTreeBetween, changed_trees, key_of, route_after, tree_lost, tree_run, tree_taking, tree_updated}
use Rattle.control_laws.proofs.PeersChange.{change_customers, changes_keep}
use Rattle.control_laws.proofs.PeersParts.{Customers, customers_of}
use Rattle.control_laws.proofs.PeersLost.{lost_customers, raise_down, raise_keeps, removal_keeps}
use Rattle.control_laws.proofs.PeersTimers.{run_keeps}

-- any core
abbrev some_core : Core
some_core = record { cost = λ from to. 0; toward = λ from to. None }

-- ---- the trees, each changed

-- a list that is another one with each element changed, by whatever core
zip_each : {A B : Type 0} (f : Core → A → B) (xs : List A) (ys : List B) → ((core : Core) → ys ≡ map (f core) xs)
    → AllZip (λ x y. (core : Core) → y ≡ f core x) xs ys
zip_each f [] [] are = tt
zip_each f [] (y ∷ ys) are = absurd (let bad = are some_core in cc)
zip_each f (x ∷ xs) [] are = absurd (let bad = are some_core in cc)
zip_each {B = B} f (x ∷ xs) (y ∷ ys) are =
    (λ core. first y (f core x) ys (map (f core) xs) (are core), zip_each f xs ys (λ core. rest y (f core x) ys (map (f core) xs) (are core)))
  where
    first : (one other : B) (more others : List B) → one ∷ more ≡ other ∷ others → one ≡ other
    first one other more others h = cc

    rest : (one other : B) (more others : List B) → one ∷ more ≡ other ∷ others → more ≡ others
    rest one other more others h = cc

zip_more : {A B : Type 0} (P Q : A → B → Type 0) (xs : List A) (ys : List B) → ((x : A) (y : B) → Among x xs → P x y → Q x y) → AllZip P xs ys
    → AllZip Q xs ys
zip_more P Q [] [] each h = tt
zip_more P Q [] (y ∷ ys) each h = absurd h
zip_more P Q (x ∷ xs) [] each h = absurd h
zip_more P Q (x ∷ xs) (y ∷ ys) each h = (each x y (inl refl) h.0, zip_more P Q xs ys (λ z w a. each z w (inr a)) h.1)

kept_customers : (old new : TreeData) → customers_of new ≡ customers_of old → KeepsCustomers old new
kept_customers old new same = record {
  entries = ap (λ (c : Customers). c.0) same;
  notes = ap (λ (c : Customers). c.1) same;
  flows = ap (λ (c : Customers). c.3) same;
  selections = ap (λ (c : Customers). c.2) same;
}

module _ (kept : Kept) (between : AreTreesBetween kept) (peers : FinMap node_cmp Taken) (trees : List TreeData)
    (change : Core → OwnVrf → TreeData → TreeData)
    (are : (core : Core) → trees ≡ changed_trees (change core) kept)
    (leaves : (core : Core) (own : OwnVrf) (tree : TreeData) → customers_of (change core own tree) ≡ customers_of tree)
    (step : (core : Core) (own : OwnVrf) (tree : TreeData) → Among own (own_vrfs (place_of kept.home core))
    → IsTreeBetween (place_of kept.home core) (control_of kept) own tree
    → IsTreeBetween (place_of kept.home core) (record (control_of kept) { peers = peers }) own (change core own tree)) where
  has_routes : (it : OwnTree) (new : TreeData) → Among it (trees_of kept) → ((core : Core) → new ≡ change core it.own it.tree)
      → HasRoutes kept peers it new
  has_routes it new a is = record {
    customers = kept_customers it.tree new (ap customers_of (is some_core) ∙ leaves some_core it.own it.tree);
    tree = λ core. subst (IsTreeBetween (place_of kept.home core) (record (control_of kept) { peers = peers }) it.own) (sym (is core))
        (step core it.own it.tree (subst (Among it.own) between.all (among_map (λ (o : OwnTree). o.own) it (trees_of kept) a))
        (between_at kept between core it a));
  }

  makes_next : MakesBetween (record kept { trees = trees; peers = peers }) (record (control_of kept) { peers = peers })
  makes_next =
      routes_make kept peers trees between
      (zip_more (λ it new. (core : Core) → new ≡ change core it.own it.tree) (HasRoutes kept peers) (trees_of kept) trees has_routes
      (zip_each (λ core it. change core it.own it.tree) (trees_of kept) trees are))

-- ---- calls

updated_customers : (place : EdgePlace) (own : OwnVrf) (peer : NodeId) (now : ℕ) (taken : Taken) (changes : List Change) (tree : TreeData)
    → customers_of (tree_updated place own peer now taken changes tree) ≡ customers_of tree
updated_customers place own peer now taken [] tree = refl
updated_customers place own peer now taken (change ∷ more) tree =
    updated_customers place own peer now (taken_change now taken change) more (tree_taking place own peer now taken change tree)
    ∙ change_customers place own peer now (key_of change) (maps.get taken (key_of change)) (route_after now change (maps.get taken (key_of change)))
    tree

module _ (kept : Kept) (between : AreTreesBetween kept) (peer : NodeId) (now : ℕ) (trees : List TreeData) where
  -- all changes of a message
  pub update_makes : (taken : Taken) (changes : List Change) → maps.get kept.peers peer ≡ Some taken → AreWritable (control_of kept)
      → ((change : Change) → Among change changes → IsWritableKey (key_of change))
      → ((core : Core) → trees ≡ changed_trees (λ own tree. tree_updated (place_of kept.home core) own peer now taken changes tree) kept)
      → MakesBetween (record kept { trees = trees; peers = maps.insert kept.peers peer (fold (taken_change now) taken changes) })
      (record (control_of kept) { peers = maps.insert kept.peers peer (fold (taken_change now) taken changes) })
  update_makes taken changes up spelled writable are =
      makes_next kept between (maps.insert kept.peers peer (fold (taken_change now) taken changes)) trees
      (λ core own tree. tree_updated (place_of kept.home core) own peer now taken changes tree) are
      (λ core own tree. updated_customers (place_of kept.home core) own peer now taken changes tree)
      (λ core own tree a is. (changes_keep (place_of kept.home core) (control_of kept) own peer taken now changes tree up spelled writable is).0)

  -- a peer that is lost
  pub loss_makes : ((core : Core) → trees ≡ changed_trees
      (λ own tree. tree_lost (place_of kept.home core) own peer (taken_from (control_of kept) peer) tree) kept)
      → MakesBetween (record kept { trees = trees; peers = maps.remove kept.peers peer })
      (record (control_of kept) { peers = maps.remove kept.peers peer })
  loss_makes are =
      makes_next kept between (maps.remove kept.peers peer) trees
      (λ core own tree. tree_lost (place_of kept.home core) own peer (taken_from (control_of kept) peer) tree) are
      (λ core own tree. lost_customers (place_of kept.home core) own (control_of kept) peer tree)
      (λ core own tree a is. removal_keeps (place_of kept.home core) (control_of kept) own peer tree is)

  -- a session that comes up
  pub raise_makes : ((core : Core) → trees ≡ changed_trees
      (λ own tree. tree_lost (place_of kept.home core) own peer (taken_from (control_of kept) peer) tree) kept)
      → MakesBetween (record kept { trees = trees; peers = maps.insert kept.peers peer maps.empty })
      (record (control_of kept) { peers = maps.insert kept.peers peer maps.empty })
  raise_makes are =
      makes_next kept between (maps.insert kept.peers peer maps.empty) trees
      (λ core own tree. tree_lost (place_of kept.home core) own peer (taken_from (control_of kept) peer) tree) are
      (λ core own tree. lost_customers (place_of kept.home core) own (control_of kept) peer tree)
      (λ core own tree a is. raise_keeps (place_of kept.home core) (control_of kept) own peer tree is)

  -- the delays of taken routes
  pub run_makes : trees ≡ changed_trees (λ own tree. tree_run now tree) kept → (core : Core)
      → MakesBetween (record kept { trees = trees; peers = peers_run (place_of kept.home core) now kept.peers })
      (record (control_of kept) { peers = peers_run (place_of kept.home core) now kept.peers })
  run_makes are core =
      makes_next kept between (peers_run (place_of kept.home core) now kept.peers) trees (λ other own tree. tree_run now tree) (λ other. are)
      (λ other own tree. refl)
      (λ other own tree a is. run_keeps (place_of kept.home other) now (control_of kept) own a tree is)

-- where the session was down, the trees stay as they are
pub down_makes : (kept : Kept) → AreTreesBetween kept → (peer : NodeId) → maps.get kept.peers peer ≡ None
    → MakesBetween (record kept { peers = maps.insert kept.peers peer maps.empty })
    (record (control_of kept) { peers = maps.insert kept.peers peer maps.empty })
down_makes kept between peer down =
    makes_next kept between (maps.insert kept.peers peer maps.empty) kept.trees (λ core own tree. tree) (λ core. sym between.full)
    (λ core own tree. refl)
    (λ core own tree a is. raise_down (place_of kept.home core) (control_of kept) own peer tree down is)
