-- What a selection of a pattern makes of the tree of its VRF is what it makes of all that is kept.
use Rattle.std.specs.Prelude.{sum_by}
use Rattle.std.proofs.Common.{◌≡◌, ◌↔◌, ℕ, ◌<◌, ◌≤◌, ◌==◌, Bool, true, false, List, length, find, get_or, not, Option, Some, None, Result, Ok, Err, IfOk, is_some, option_map, IsTrue, slice_get, refl, sym, ap, subst, ◌∙◌, arith}
use Rattle.std.specs.FinMap as maps
use Rattle.std.proofs.lemmas.Bool.{eqb-true, leb-false}
use Rattle.std.proofs.lemmas.List.Sums.{get_or-le-sum_by}
use Rattle.mv_base.specs.Lists.{Among}
use Rattle.mv_base.specs.declared.ids.VrfId.{VrfId}
use Rattle.mv_base.specs.declared.pattern.Pattern.{Pattern}
use Rattle.mv_base.specs.core_walks.Core.{Core}
use Rattle.selective_defs.specs.Selective.{next_number}
use Rattle.selective_defs.specs.declared.selection.Selection.{Selection}
use Rattle.selective.specs.Roots.{IsSelected, is_of, lsp_number}
use Rattle.vrf_words.specs.tree_defs.Trees.{TreeData}
use Rattle.edge_defs.specs.Edge.{Control}
use Rattle.edge_defs.specs.Place.{OwnVrf, tunnel_number}
use Rattle.edge_defs.specs.Steps.{Customer, Select, Unselect, effect}
use Rattle.edge_routes.specs.edge_home.Home.{place_of}
use Rattle.control_laws.proofs.edge_words.calm_laws.Lists.{map_among}
use Rattle.control_laws.specs.Control.{Kept, OwnTree, control_of, trees_of, with_trees}
use Rattle.control_laws.specs.Customers.{selected, unselected}
use Rattle.control_laws.specs.Peers.{as_wanted}
use Rattle.control_laws.proofs.CustomersCounts.{selections_counted, single_less, single_selected}
use Rattle.control_laws.proofs.CustomersSelect.{same_number, selected_makes, unselected_makes}
use Rattle.control_laws.proofs.Owned.{one_of_number}
use Rattle.control_laws.proofs.Parts.{apart, find_is, is_found, no_core, selection_at}
use Rattle.control_laws.proofs.Replaced.{it_among}
use Rattle.control_laws.proofs.Together.{selected_of}
use Rattle.edge_control.specs.Sound.{IsSound}
use Rattle.edge_control.specs.Places.{IsPlace, changed_at, is_selection_too_many, number_after, vrfs_of}
use Rattle.edge_control.proofs.PlaceLemmas.{get_at}
use Rattle.edge_control.proofs.CallLemmas.{IsMade, here, is_it, is_there, it, made, single_here, tree_here, wanted_at, wanted_it}
use Rattle.edge_control.proofs.SoundLemmas.{sound_full, sound_parts, wanted_control}

-- ---- one pattern of a list

found_there : (pattern : Pattern) (selections : List Selection)
    → ((one other : Selection) → Among one selections → Among other selections → one.pattern ≡ other.pattern → one ≡ other)
    → IsSelected pattern selections → (selection : Selection) × (find (is_of pattern) selections ≡ Some selection)
found_there pattern selections distinct s =
    (s.0, subst (λ (p : Pattern). find (is_of p) selections ≡ Some s.0) s.2 (is_found selections s.0 distinct s.1))

not_there : (pattern : Pattern) (selections : List Selection)
    → ((one other : Selection) → Among one selections → Among other selections → one.pattern ≡ other.pattern → one ≡ other)
    → option_map selected_of (find (is_of pattern) selections) ≡ None → IsSelected pattern selections → ⊥
not_there pattern selections distinct none s =
    let found = found_there pattern selections distinct s in
    let both : option_map selected_of (Some found.0) ≡ None = sym (ap (option_map selected_of) found.1) ∙ none in absurd cc

is_told : (pattern : Pattern) (selections : List Selection)
    → ((one other : Selection) → Among one selections → Among other selections → one.pattern ≡ other.pattern → one ≡ other)
    → (result : Bool) → IsTrue result ↔ IsSelected pattern selections → result ≡ is_some (option_map selected_of (find (is_of pattern) selections))
is_told pattern selections distinct result is = by result is (find (is_of pattern) selections) refl
  where
    by : (r : Bool) → IsTrue r ↔ IsSelected pattern selections → (o : Option Selection) → find (is_of pattern) selections ≡ o
        → r ≡ is_some (option_map selected_of o)
    by true h (Some s) e = refl
    by false h None e = refl
    by false h (Some s) e = (let found = find_is pattern selections s e in let wrong : false ≡ true = h.1 (s, found.0, found.1) in absurd cc)
    by true h None e =
        (let found = found_there pattern selections distinct (h.0 refl) in let both : None ≡ Some found.0 = sym e ∙ found.1 in absurd cc)

-- ---- the VRF's tree

module _ (kept : Kept) (sound : IsSound kept) (place : ℕ) (vrf : VrfId) (is : IsPlace kept.home place (λ own. own.id.0 == vrf.0)) where
  abbrev its : OwnVrf → Bool
  its own = own.id.0 == vrf.0

  abbrev own : OwnTree
  own = it kept sound place its is

  abbrev selections : List Selection
  selections = own.tree.root.selections

  among : Among own (trees_of kept)
  among = it_among kept place own (here kept sound place its is).at

  its_id : own.own.id ≡ vrf
  its_id = let number = eqb-true own.own.id.0 vrf.0 (here kept sound place its is).passes in λ i. record { 0 = number i }

  distinct : (one other : Selection) → Among one selections → Among other selections → one.pattern ≡ other.pattern → one ≡ other
  distinct = (sound_parts kept sound own among).selections

  chosen : (pattern : Pattern) → maps.get (control_of kept).selections (record { vrf = vrf; pattern = pattern })
      ≡ option_map selected_of (find (is_of pattern) selections)
  chosen pattern =
      subst (λ (v : VrfId). maps.get (control_of kept).selections (record { vrf = v; pattern = pattern })
      ≡ option_map selected_of (find (is_of pattern) selections)) its_id
      (selection_at kept (sound_parts kept sound) own among pattern)

  pub is_new : (pattern : Pattern) → maps.get (control_of kept).selections (record { vrf = vrf; pattern = pattern }) ≡ None → (tree : TreeData)
      → slice_get kept.trees place ≡ Some tree
      → IsSelected pattern tree.root.selections → ⊥
  is_new pattern none tree at =
      let same : own.tree ≡ tree = (let one : Some (own.tree) ≡ Some tree = sym (tree_here kept sound place its is) ∙ at in cc) in
      subst (λ (t : TreeData). IsSelected pattern t.root.selections → ⊥) same (not_there pattern selections distinct (sym (chosen pattern) ∙ none))

  pub selected_told : (pattern : Pattern) (tree : TreeData) (result : Bool) → tree ≡ get_or kept.trees place tree
      → IsTrue result ↔ IsSelected pattern tree.root.selections
      → result ≡ is_some (maps.get (control_of kept).selections (record { vrf = vrf; pattern = pattern }))
  selected_told pattern tree result e h =
      let same = is_it kept sound place its is tree e in
      is_told pattern selections distinct result (subst (λ (t : TreeData). IsTrue result ↔ IsSelected pattern t.root.selections) same h)
      ∙ ap is_some (sym (chosen pattern))

  abbrev counted : maps.len (control_of kept).selections ≡ sum_by (λ (tree : TreeData). length tree.root.selections) kept.trees
  counted = selections_counted kept (sound_full kept sound) (sound_parts kept sound) sound.single

  pub few_there : is_selection_too_many (control_of kept) ≡ false → (tree : TreeData) → slice_get kept.trees place ≡ Some tree
      → length tree.root.selections < 256
  few_there few tree at =
      let lt = is_there kept sound place its is in
      let same : get_or kept.trees place tree ≡ tree =
      (let one : Some (get_or kept.trees place tree) ≡ Some tree = sym (get_at kept.trees place tree lt) ∙ at in cc) in
      let part = subst (λ (t : TreeData). length t.root.selections ≤ sum_by (λ (other : TreeData). length other.root.selections) kept.trees) same
      (get_or-le-sum_by (λ (other : TreeData). length other.root.selections) kept.trees place tree lt) in
      let all = leb-false 256 (maps.len (control_of kept).selections) few in
      let sum = counted in
      omega (arith, part, all, sum)

  new_here : (pattern : Pattern) → maps.get (control_of kept).selections (record { vrf = vrf; pattern = pattern }) ≡ None
      → IsSelected pattern selections → ⊥
  new_here pattern none = not_there pattern selections distinct (sym (chosen pattern) ∙ none)

  pub selected_made : (pattern : Pattern) (now : ℕ) → maps.get (control_of kept).selections (record { vrf = vrf; pattern = pattern }) ≡ None
      → (core : Core)
      → IsMade kept (changed_at place (selected pattern now) kept.trees)
      (effect (place_of kept.home core) now (control_of kept) (Customer (Select vrf pattern)))
  selected_made pattern now none core =
      let made_by : Control → VrfId → Control = λ c v. effect (place_of kept.home core) now c (Customer (Select v pattern)) in
      subst (IsMade kept (changed_at place (selected pattern now) kept.trees)) (λ i. made_by (wanted_control kept i) (its_id i))
      (made kept sound place its is (selected pattern now) (λ tree. refl) (made_by (control_of (with_trees as_wanted kept)) own.own.id)
      (selected_makes (with_trees as_wanted kept) sound.trees place (wanted_it kept sound place its is) (wanted_at kept sound place its is) pattern
      now (new_here pattern none) core)
      (single_selected pattern now selections (single_here kept sound place its is) (new_here pattern none)))

  pub unselected_made : (pattern : Pattern) (now : ℕ) (core : Core)
      → IsMade kept (changed_at place (unselected pattern) kept.trees)
      (effect (place_of kept.home core) now (control_of kept) (Customer (Unselect vrf pattern)))
  unselected_made pattern now core =
      let made_by : Control → VrfId → Control = λ c v. effect (place_of kept.home core) now c (Customer (Unselect v pattern)) in
      subst (IsMade kept (changed_at place (unselected pattern) kept.trees)) (λ i. made_by (wanted_control kept i) (its_id i))
      (made kept sound place its is (unselected pattern) (λ tree. refl) (made_by (control_of (with_trees as_wanted kept)) own.own.id)
      (unselected_makes (with_trees as_wanted kept) sound.trees place (wanted_it kept sound place its is) (wanted_at kept sound place its is) pattern
      core now)
      (single_less (λ selection. not (is_of pattern selection)) selections (single_here kept sound place its is)))

  -- the number of the tunnel is that of the definitions
  pub number_told : (pattern : Pattern) (now lsp : ℕ) (vrf_own : OwnVrf) → Among vrf_own (vrfs_of kept.home) → vrf_own.id ≡ vrf
      → ((tree : TreeData) → slice_get kept.trees place ≡ Some tree → lsp ≡ lsp_number tree.root.number (next_number tree.root.selections))
      → lsp ≡ tunnel_number vrf_own.vrf (number_after (control_of kept) vrf)
  number_told pattern now lsp vrf_own a e told =
      let (other, other_among, other_is) =
      map_among (λ (one : OwnTree). one.own) vrf_own (trees_of kept) (subst (Among vrf_own) (sym (sound_full kept sound).all) a) in
      let ids : own.own.id.0 ≡ other.own.id.0 = ap (λ (v : VrfId). v.0) (its_id ∙ sym e) ∙ ap (λ (o : OwnVrf). o.id.0) other_is in
      let same : own ≡ other = one_of_number (trees_of kept) (apart kept) own other among other_among ids in
      let vrf_is : own.own ≡ vrf_own = ap (λ (o : OwnTree). o.own) same ∙ sym other_is in
      let number : own.tree.root.number ≡ vrf_own.vrf.number =
      ((sound_parts kept sound own among).derived no_core).number ∙ ap (λ (o : OwnVrf). o.vrf.number) vrf_is in
      let next : number_after (control_of kept) vrf ≡ next_number selections =
      same_number (control_of kept) vrf selections distinct chosen now pattern in
      told own.tree (tree_here kept sound place its is) ∙ (λ i. lsp_number (number i) (sym next i))

  pub number_of : {E : Type 0} (pattern : Pattern) (now : ℕ) (result : Result ℕ E) (vrf_own : OwnVrf) → Among vrf_own (vrfs_of kept.home)
      → vrf_own.id ≡ vrf
      → ((tree : TreeData) → slice_get kept.trees place ≡ Some tree
      → IfOk result (λ lsp. lsp ≡ lsp_number tree.root.number (next_number tree.root.selections)))
      → IfOk result (λ lsp. lsp ≡ tunnel_number vrf_own.vrf (number_after (control_of kept) vrf))
  number_of pattern now (Ok lsp) vrf_own a e told = number_told pattern now lsp vrf_own a e told
  number_of pattern now (Err fault) vrf_own a e told = tt
