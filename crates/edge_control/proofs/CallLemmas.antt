-- What a call of a customer makes of the tree of its VRF is what it makes of all that is kept.
use Rattle.std.specs.Prelude.{sum_by}
use Rattle.std.proofs.Common.{◌≡◌, ℕ, ◌+◌, ◌<◌, ◌≤◌, ◌&&◌, not, min, nat_lt, nat_le, Bool, true, false, List, map, length, get_or, Option, Some, None, option_map, Result, Ok, Err, OnOk, OnErr, slice_get, slice_set, refl, sym, ap, subst, ◌∙◌, arith}
use Rattle.std.specs.FinMap as maps
use Rattle.std.specs.FinSet as sets
use Rattle.std.proofs.lemmas.Bool.{ltb-false, le-ltb}
use Rattle.std.proofs.lemmas.Option.{get_or_from_slice_get, slice_get-map}
use Rattle.std.proofs.lemmas.List.{set-get_or}
use Rattle.std.proofs.lemmas.List.Sums.{get_or-le-sum_by}
use Rattle.mv_base.specs.Lists.{Among}
use Rattle.mv_base.specs.declared.addr.Addr.{Addr}
use Rattle.mv_base.specs.declared.ids.IfaceId.{IfaceId}
use Rattle.mv_base.specs.core_walks.Core.{Core}
use Rattle.pim_joinprune.specs.declared.message.JoinPrune.{JoinPrune}
use Rattle.pim_defs.specs.Entries.{applied, are_too_many}
use Rattle.vrf_words.specs.tree_defs.Flows.{VrfData}
use Rattle.vrf_words.specs.tree_defs.Trees.{TreeData}
use Rattle.edge_defs.specs.Edge.{Control}
use Rattle.edge_defs.specs.Originated.{is_iface_of}
use Rattle.edge_defs.specs.Place.{OwnVrf}
use Rattle.edge_defs.specs.Steps.{Customer, Active, Idle, Pim, effect}
use Rattle.edge_routes.specs.edge_home.Home.{place_of}
use Rattle.vrf_words.specs.tree_laws.TreeOf.{edge_note}
use Rattle.control_laws.specs.Control.{Kept, OwnTree, AreTrees, control_of, trees_of, with_tree, with_trees}
use Rattle.control_laws.specs.Customers.{Makes, note_of, noted, pim_taken, unnoted}
use Rattle.control_laws.specs.Peers.{as_wanted}
use Rattle.control_laws.proofs.CustomersCounts.{applied_more, entries_counted, notes_counted}
use Rattle.control_laws.proofs.CustomersStep.{noted_makes, pim_makes, unnoted_makes}
use Rattle.control_laws.proofs.Owned.{with}
use Rattle.control_laws.proofs.Parts.{note_at}
use Rattle.control_laws.proofs.Replaced.{all_its, it_among}
use Rattle.edge_control.specs.Sound.{IsSingle, IsSound}
use Rattle.edge_control.specs.Places.{IsPlace, changed_at, is_note_too_many}
use Rattle.edge_control.proofs.CountLemmas.{at_least, most, over_told}
use Rattle.edge_control.proofs.PlaceLemmas.{Stands, all_at, all_set, changed_is, get_at, indexed, map_set, stands, there, tree_is}
use Rattle.edge_control.proofs.SoundLemmas.{sound_full, sound_parts, wanted_control}

-- with one tree changed, what is kept is sound, and is that
pub record IsMade (kept : Kept) (trees : List TreeData) (control : Control) : Type 0 where
  pub sound : IsSound (record kept { trees = trees })
  pub is : control_of (record kept { trees = trees }) ≡ control

module _ (kept : Kept) (sound : IsSound kept) (place : ℕ) (test : OwnVrf → Bool) (is : IsPlace kept.home place test) where
  abbrev pub here : Stands kept place test
  here = stands kept (sound_full kept sound) place test is

  abbrev pub it : OwnTree
  it = here.it

  abbrev wanted : Kept
  wanted = with_trees as_wanted kept

  abbrev pub wanted_it : OwnTree
  wanted_it = with it (as_wanted it.tree)

  pub wanted_at : slice_get (trees_of wanted) place ≡ Some wanted_it
  wanted_at =
      let as_it : OwnTree → OwnTree = λ other. with other (as_wanted other.tree) in
      ap (λ (l : List OwnTree). slice_get l place) (all_its kept as_wanted) ∙ slice_get-map as_it (trees_of kept) place
      ∙ ap (option_map as_it) here.at

  pub tree_here : slice_get kept.trees place ≡ Some (it.tree)
  tree_here = tree_is kept (sound_full kept sound) place test is

  pub is_there : place < length kept.trees
  is_there = there kept (sound_full kept sound) place test is

  pub is_it : (tree : TreeData) → tree ≡ get_or kept.trees place tree → tree ≡ it.tree
  is_it = indexed kept (sound_full kept sound) place test is

  module _ (change : TreeData → TreeData) (same : (tree : TreeData) → as_wanted (change tree) ≡ change (as_wanted tree)) where
    abbrev new : Kept
    new = with_tree place (change it.tree) kept

    thereafter : with_trees as_wanted new ≡ with_tree place (change (as_wanted it.tree)) wanted
    thereafter =
        let trees = map_set as_wanted kept.trees place (change it.tree) ∙ ap (slice_set (map as_wanted kept.trees) place) (same it.tree) in
        λ i. record { home = kept.home; trees = trees i; peers = kept.peers }

    made_new : (control : Control) → Makes (with_tree place (change (as_wanted it.tree)) wanted) control → IsSingle (change it.tree)
        → IsMade kept (slice_set kept.trees place (change it.tree)) control
    made_new control makes single = record {
      sound = record {
        home = sound.home;
        trees = subst AreTrees (sym thereafter) makes.trees;
        single = all_set IsSingle kept.trees place (change it.tree) sound.single single;
        spelled = sound.spelled;
        peers = sound.peers;
      };
      is = sym (wanted_control new) ∙ ap control_of thereafter ∙ makes.is;
    }

    pub made : (control : Control) → Makes (with_tree place (change (as_wanted it.tree)) wanted) control → IsSingle (change it.tree)
        → IsMade kept (changed_at place change kept.trees) control
    made control makes single =
        subst (λ (trees : List TreeData). IsMade kept trees control) (sym (changed_is kept (sound_full kept sound) place test is change))
        (made_new control makes single)

  pub single_here : IsSingle it.tree
  single_here = all_at IsSingle kept.trees place it.tree sound.single tree_here

-- ---- interfaces

module _ (kept : Kept) (sound : IsSound kept) (place : ℕ) (iface : IfaceId)
    (is : IsPlace kept.home place (λ own. is_iface_of kept.home.scenario own.id iface)) where
  abbrev its : OwnVrf → Bool
  its own = is_iface_of kept.home.scenario own.id iface

  abbrev passes : its (it kept sound place its is).own ≡ true
  passes = (here kept sound place its is).passes

  again : {X : Type 0} (f : Control → X) → f (control_of (with_trees as_wanted kept)) ≡ f (control_of kept)
  again f = ap f (wanted_control kept)

  pub pim_made : (message : JoinPrune) (now : ℕ) (core : Core)
      → IsMade kept (changed_at place (pim_taken iface message now) kept.trees)
      (effect (place_of kept.home core) now (control_of kept) (Customer (Pim iface message)))
  pim_made message now core =
      subst (IsMade kept (changed_at place (pim_taken iface message now) kept.trees))
      (again (λ c. effect (place_of kept.home core) now c (Customer (Pim iface message))))
      (made kept sound place its is (pim_taken iface message now) (λ tree. refl)
      (effect (place_of kept.home core) now (control_of (with_trees as_wanted kept)) (Customer (Pim iface message)))
      (pim_makes (with_trees as_wanted kept) sound.trees place (wanted_it kept sound place its is) (wanted_at kept sound place its is) iface passes
      message now core)
      (single_here kept sound place its is))

  pub noted_made : (source group : Addr) (now : ℕ) (core : Core)
      → IsMade kept (changed_at place (noted iface source group) kept.trees)
      (effect (place_of kept.home core) now (control_of kept) (Customer (Active iface source group)))
  noted_made source group now core =
      subst (IsMade kept (changed_at place (noted iface source group) kept.trees))
      (again (λ c. effect (place_of kept.home core) now c (Customer (Active iface source group))))
      (made kept sound place its is (noted iface source group) (λ tree. refl)
      (effect (place_of kept.home core) now (control_of (with_trees as_wanted kept)) (Customer (Active iface source group)))
      (noted_makes (with_trees as_wanted kept) sound.trees place (wanted_it kept sound place its is) (wanted_at kept sound place its is) iface passes
      source group core now)
      (single_here kept sound place its is))

  pub unnoted_made : (source group : Addr) (now : ℕ) (core : Core)
      → IsMade kept (changed_at place (unnoted iface source group) kept.trees)
      (effect (place_of kept.home core) now (control_of kept) (Customer (Idle iface source group)))
  unnoted_made source group now core =
      subst (IsMade kept (changed_at place (unnoted iface source group) kept.trees))
      (again (λ c. effect (place_of kept.home core) now c (Customer (Idle iface source group))))
      (made kept sound place its is (unnoted iface source group) (λ tree. refl)
      (effect (place_of kept.home core) now (control_of (with_trees as_wanted kept)) (Customer (Idle iface source group)))
      (unnoted_makes (with_trees as_wanted kept) sound.trees place (wanted_it kept sound place its is) (wanted_at kept sound place its is) iface
      passes source group core now)
      (single_here kept sound place its is))

  -- ---- how many entries

  module _ (message : JoinPrune) (now : ℕ) where
    abbrev size : TreeData → ℕ
    size tree = maps.len tree.vrf.entries

    abbrev tree : TreeData
    tree = (it kept sound place its is).tree

    more : maps.len (applied (control_of kept).entries iface message now) + maps.len tree.vrf.entries
        ≡ maps.len (control_of kept).entries + maps.len (applied tree.vrf.entries iface message now)
    more =
        sym (again (λ c. maps.len (applied c.entries iface message now) + maps.len tree.vrf.entries))
        ∙ applied_more (with_trees as_wanted kept) sound.trees place (wanted_it kept sound place its is) (wanted_at kept sound place its is) iface
        passes message now
        ∙ again (λ c. maps.len c.entries + maps.len (applied tree.vrf.entries iface message now))

    own_le : maps.len tree.vrf.entries ≤ sum_by size kept.trees
    own_le =
        let at : get_or kept.trees place tree ≡ tree =
        (let one : Some (get_or kept.trees place tree) ≡ Some tree =
        sym (get_at kept.trees place tree (is_there kept sound place its is)) ∙ tree_here kept sound place its is in cc) in
        subst (λ (t : TreeData). size t ≤ sum_by size kept.trees) at (get_or-le-sum_by size kept.trees place tree (is_there kept sound place its is))

    pub over_is : (first second : TreeData) (all own thereafter : ℕ) → first ≡ get_or kept.trees place first → second ≡ get_or kept.trees place second
        → all ≡ min (sum_by size kept.trees) most
        → own ≡ maps.len second.vrf.entries → own ≤ 1024 → thereafter ≡ maps.len (applied first.vrf.entries iface message now)
        → nat_lt (own + 1024) (all + thereafter) ≡ are_too_many (applied (control_of kept).entries iface message now)
    over_is first second all own part one two is_all is_own few is_part =
        let own_is : own ≡ maps.len tree.vrf.entries = is_own ∙ ap size (is_it kept sound place its is second two) in
        let part_is : part ≡ maps.len (applied tree.vrf.entries iface message now) =
        is_part ∙ ap (λ (t : TreeData). maps.len (applied t.vrf.entries iface message now)) (is_it kept sound place its is first one) in
        let total : maps.len (applied (control_of kept).entries iface message now) + own ≡ sum_by size kept.trees + part =
        (λ i. maps.len (applied (control_of kept).entries iface message now) + own_is i) ∙ more
        ∙ (λ i. entries_counted kept (sound_full kept sound) (sound_parts kept sound) i + sym part_is i) in
        over_told (sum_by size kept.trees) (maps.len (applied (control_of kept).entries iface message now)) own part all total
        (subst (λ (n : ℕ). n ≤ sum_by size kept.trees) (sym own_is) own_le) few is_all

    pub tree_fits : are_too_many (applied (control_of kept).entries iface message now) ≡ false → (other : TreeData)
        → slice_get kept.trees place ≡ Some other
        → are_too_many (applied other.vrf.entries iface message now) ≡ false
    tree_fits fits other at =
        let same : tree ≡ other = (let one : Some tree ≡ Some other = sym (tree_here kept sound place its is) ∙ at in cc) in
        let total = more in
        let whole = ltb-false 1024 (maps.len (applied (control_of kept).entries iface message now)) fits in
        let least = own_le in
        let counted = entries_counted kept (sound_full kept sound) (sound_parts kept sound) in
        subst (λ (t : TreeData). are_too_many (applied t.vrf.entries iface message now) ≡ false) same
        (le-ltb 1024 (maps.len (applied tree.vrf.entries iface message now)) (omega (arith, total, whole, least, counted)))

  -- ---- how many notes

  pub noted_told : (source group : Addr) (tree : TreeData) (noted_there : Bool) (count : ℕ) → tree ≡ get_or kept.trees place tree
      → noted_there ≡ sets.contains tree.vrf.notes (note_of iface source group)
      → count ≡ min (sum_by (λ (t : TreeData). sets.len t.vrf.notes) kept.trees) most
      → (not noted_there && nat_le 256 count) ≡ is_note_too_many (control_of kept) iface source group
  noted_told source group tree noted_there count at is_noted is_count =
      let own : OwnTree = it kept sound place its is in
      let among : Among own (trees_of kept) = it_among kept place own (here kept sound place its is).at in
      let there : noted_there ≡ sets.contains (control_of kept).notes (edge_note (note_of iface source group)) =
      is_noted ∙ ap (λ (t : TreeData). sets.contains t.vrf.notes (note_of iface source group)) (is_it kept sound place its is tree at)
      ∙ sym (note_at kept (sound_parts kept sound) own among (note_of iface source group) passes) in
      let counted : sets.len (control_of kept).notes ≡ sum_by (λ (t : TreeData). sets.len t.vrf.notes) kept.trees =
      notes_counted kept (sound_full kept sound) (sound_parts kept sound) in
      let few : nat_le 256 count ≡ nat_le 256 (sets.len (control_of kept).notes) =
      at_least 256 count (sets.len (control_of kept).notes) (is_count ∙ ap (λ (n : ℕ). min n most) (sym counted)) (omega arith) in
      λ i. not (there i) && few i

-- ---- answers

-- changed where the call is made, and as before otherwise
pub sound_either : {X E : Type 0} (result : Result X E) (kept : Kept) (trees next : List TreeData) → IsSound kept
    → IsSound (record kept { trees = next })
    → OnOk result (trees ≡ next) → OnErr result (trees ≡ kept.trees) → IsSound (record kept { trees = trees })
sound_either (Ok x) kept trees next old then_sound ok err = subst (λ (ts : List TreeData). IsSound (record kept { trees = ts })) (sym ok) then_sound
sound_either (Err e) kept trees next old then_sound ok err = subst (λ (ts : List TreeData). IsSound (record kept { trees = ts })) (sym err) old

-- ---- a message that a tree takes

module _ (items : List TreeData) (place : ℕ) (old : TreeData) (at : slice_get items place ≡ Some old) (flows : VrfData) where
  -- the tree at that place has these flows
  abbrev pub with_flows : List TreeData
  with_flows = slice_set items place (record old { vrf = flows })

  pub flows_taken : (iface : IfaceId) (message : JoinPrune) (now : ℕ)
      → flows ≡ record old.vrf { entries = applied old.vrf.entries iface message now }
      → with_flows ≡ changed_at place (pim_taken iface message now) items
  flows_taken iface message now e =
      ap (λ (v : VrfData). slice_set items place (record old { vrf = v })) e
      ∙ sym (ap (λ (o : Option TreeData). elim o [
        | None ↦ items
        | Some tree ↦ slice_set items place (pim_taken iface message now tree)
      ]) at)

  pub flows_stay : flows ≡ old.vrf → with_flows ≡ items
  flows_stay e =
      ap (λ (v : VrfData). slice_set items place (record old { vrf = v })) e
      ∙ ap (slice_set items place) (sym (get_or_from_slice_get items place old old at)) ∙ set-get_or items place old
