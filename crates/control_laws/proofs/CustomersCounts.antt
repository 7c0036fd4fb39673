-- What an edge counts of its customers is the sum of what the trees of its VRFs count.
use Rattle.std.specs.Prelude.{count_by, sum_by}
use Rattle.std.proofs.Common.{◌≡◌, ℕ, zero, suc, ◌+◌, ◌==◌, ◌||◌, not, Bool, true, false, cond, inl, inr, List, [], ◌∷◌, ◌++◌, map, find, filter, flat_map, length, slice_get, slice_set, Option, Some, None, option_map, refl, sym, ap, subst, ◌∙◌, arith}
use Rattle.std.specs.List.{AllByRecursion, list_any}
use Rattle.std.specs.Ordering.{eq_by_cmp}
use Rattle.std.specs.FinMap as maps
use Rattle.std.specs.Option.{option_or}
use Rattle.std.specs.FinSet as sets
use Rattle.std.specs.FinSet.{FinSet}
use Rattle.std.proofs.lemmas.Bool.{eq-eqb}
use Rattle.std.proofs.lemmas.List.{length-map}
use Rattle.std.proofs.lemmas.List.Folds.{find-append}
use Rattle.std.proofs.lemmas.List.Sums.{sum_by-cons}
use Rattle.mv_base.specs.Lists.{Among}
use Rattle.mv_base.specs.declared.ids.IfaceId.{IfaceId}
use Rattle.mv_base.specs.declared.ids.VrfId.{VrfId}
use Rattle.mv_base.specs.declared.pattern.Pattern.{Pattern}
use Rattle.pim_joinprune.specs.declared.message.JoinPrune.{JoinPrune}
use Rattle.pim_defs.specs.declared.expiry.Expiry.{Expiry}
use Rattle.pim_defs.specs.Expiry.{is_after}
use Rattle.pim_defs.specs.Entries.{applied, due}
use Rattle.pim_defs.proofs.KeyLemmas.{entry_cmp_total, entry_cmp_exact}
use Rattle.scenario_defs.specs.declared.event.IfaceEntry.{IfaceEntry}
use Rattle.label_defs.specs.Members.{in_order}
use Rattle.label_defs.proofs.MemberLemmas.{contains_in_order}
use Rattle.selective_defs.specs.declared.selection.Selection.{Selection}
use Rattle.selective.specs.Roots.{IsSelected, is_of, is_waiting, run_due, selected_now}
use Rattle.selective.proofs.RootLemmas.{one_pattern}
use Rattle.vrf_words.specs.declared.tree_defs.flow.Note as tree_notes
use Rattle.vrf_words.specs.tree_defs.Keys as tree_keys
use Rattle.vrf_words.specs.tree_defs.Trees.{TreeData}
use Rattle.vrf_words.proofs.tree_defs.KeyLemmas.{note_total as tree_note_total, note_exact as tree_note_exact}
use Rattle.edge_defs.specs.Due.{is_selection_due}
use Rattle.edge_defs.specs.Edge.{Note, VrfPattern, Selected, Control, note_cmp, pattern_cmp}
use Rattle.edge_defs.specs.Originated.{is_iface_of}
use Rattle.edge_defs.specs.Place.{OwnVrf, vrfs_from}
use Rattle.edge_defs.proofs.KeyLemmas.{note_total, note_exact, pattern_total, pattern_exact}
use Rattle.vrf_words.proofs.edge_words.calm_laws.Lists.{among_map, map_among, not_both}
use Rattle.vrf_words.proofs.edge_words.calm_laws.Maps.{entry_get}
use Rattle.vrf_words.proofs.edge_words.Members.{contained}
use Rattle.vrf_words.specs.tree_laws.TreeOf.{edge_note}
use Rattle.control_laws.specs.Control.{own_trees, Kept, OwnTree, trees_of, control_of, selected_by, AreTrees, with_tree}
use Rattle.control_laws.specs.Customers.{AreSingle, pim_taken}
use Rattle.control_laws.proofs.Gathered.{gathered_alike, contains-gathered}
use Rattle.control_laws.proofs.Owned.{of_number, of_each}
use Rattle.control_laws.proofs.Together.{tree_note, selected_of, note_in, notes_gathered, any_noted, find-selections}
use Rattle.control_laws.proofs.Parts.{AreParts, AreFull, apart, of_iface, no_core, find_is, parts_of, full_of}
use Rattle.control_laws.proofs.Replaced.{same_notes}
use Rattle.control_laws.proofs.Sums.{sum-map, sum-alike, sum-one, StandOnce, map_once, sum-owned, len-sum, count-sum, AreListedOnce, members_once, len-members, len-owned}
use Rattle.control_laws.proofs.CustomersStep.{pim_makes}
use Rattle.control_laws.proofs.CustomersTimers.{find-run}

-- ---- along the trees

pub sum-trees : (kept : Kept) → AreFull kept → (f : TreeData → ℕ) → sum_by (λ (it : OwnTree). f it.tree) (trees_of kept) ≡ sum_by f kept.trees
sum-trees kept full f = sym (sum-map f (λ (it : OwnTree). it.tree) (trees_of kept)) ∙ ap (sum_by f) full.full

module _ (kept : Kept) (full : AreFull kept) (parts : AreParts kept) where
  abbrev its_iface : IfaceEntry → OwnVrf → Bool
  its_iface at own = is_iface_of kept.home.scenario own.id at.iface

  abbrev entries_in : OwnTree → List (IfaceEntry × Expiry)
  entries_in it = maps.entries it.tree.vrf.entries

  none_there : (o : Option Expiry) (expiry : Expiry) → o ≡ Some expiry → o ≡ None → ⊥
  none_there o expiry h k = (let bad : Some expiry ≡ None = sym h ∙ k in absurd cc)

  entry_own : (it : OwnTree) → Among it (trees_of kept) → (e : IfaceEntry × Expiry) → Among e (entries_in it) → its_iface e.0 it.own ≡ true
  entry_own it a e b = by (its_iface e.0 it.own) refl
    where
      by : (t : Bool) → its_iface e.0 it.own ≡ t → t ≡ true
      by true h = refl
      by false h =
          absurd (none_there (maps.get it.tree.vrf.entries e.0) e.1 (entry_get entry_cmp_total it.tree.vrf.entries e.0 e.1 b)
          ((parts it a).entries e.0 h))

  sum-entries : (g : IfaceEntry × Expiry → ℕ) → sum_by g (maps.entries (control_of kept).entries)
      ≡ sum_by (λ tree. sum_by g (maps.entries tree.vrf.entries)) kept.trees
  sum-entries g =
      sum-owned entry_cmp_total entry_cmp_exact its_iface (λ at. of_iface kept.home.scenario at.iface) entries_in g (trees_of kept) (apart kept)
      entry_own (λ it a. map_once it.tree.vrf.entries)
      ∙ sum-trees kept full (λ tree. sum_by g (maps.entries tree.vrf.entries))

  pub entries_counted : maps.len (control_of kept).entries ≡ sum_by (λ tree. maps.len tree.vrf.entries) kept.trees
  entries_counted =
      len-sum (control_of kept).entries ∙ sum-entries (λ e. 1)
      ∙ sum-alike (λ tree. sum_by (λ (e : IfaceEntry × Expiry). 1) (maps.entries tree.vrf.entries)) (λ tree. maps.len tree.vrf.entries) kept.trees
      (λ tree a. sym (len-sum tree.vrf.entries))

  pub entries_due : (now : ℕ) → due (control_of kept).entries now ≡ sum_by (λ tree. due tree.vrf.entries now) kept.trees
  entries_due now =
      let ended : Expiry → Bool = λ expiry. not (is_after expiry now) in
      count-sum ended (control_of kept).entries ∙ sum-entries (λ e. cond (ended e.1) 1 0)
      ∙ sum-alike (λ tree. sum_by (λ (e : IfaceEntry × Expiry). cond (ended e.1) 1 0) (maps.entries tree.vrf.entries))
      (λ tree. due tree.vrf.entries now) kept.trees
      (λ tree a. sym (count-sum ended tree.vrf.entries))

  -- ---- notes

  abbrev notes_in : OwnTree → List Note
  notes_in it = map edge_note (in_order it.tree.vrf.notes)

  abbrev note_iface : Note → OwnVrf → Bool
  note_iface note own = is_iface_of kept.home.scenario own.id note.iface

  notes_are : (control_of kept).notes ≡ sets.from_list (flat_map notes_in (trees_of kept))
  notes_are = same_notes _ _ (λ note.
      notes_gathered kept note
      ∙ sym (contains-gathered note_total notes_in note (trees_of kept)
      ∙ gathered_alike false (λ a b. a || b) (λ (it : OwnTree). list_any (eq_by_cmp note_cmp note) (notes_in it)) (note_in (tree_note note))
      (trees_of kept)
      (λ it a. any_noted note (in_order it.tree.vrf.notes) ∙ sym (contains_in_order tree_note_total it.tree.vrf.notes (tree_note note)))))

  note_own : (it : OwnTree) → Among it (trees_of kept) → (note : Note) → Among note (notes_in it) → note_iface note it.own ≡ true
  note_own it a note b = by (note_iface note it.own) refl
    where
      by : (t : Bool) → note_iface note it.own ≡ t → t ≡ true
      by true h = refl
      by false h =
          let (found, among, is) = map_among edge_note note (in_order it.tree.vrf.notes) b in
          absurd (not_both (sets.contains it.tree.vrf.notes found) (contained tree_note_total tree_note_exact it.tree.vrf.notes found among)
          ((parts it a).notes found (ap (λ (n : Note). note_iface n it.own) (sym is) ∙ h)))

  notes_once : (notes : List tree_notes.Note) → AreListedOnce tree_keys.note_cmp notes → AreListedOnce note_cmp (map edge_note notes)
  notes_once [] once = tt
  notes_once (note ∷ more) once = (any_noted (edge_note note) more ∙ once.0, notes_once more once.1)

  pub notes_counted : sets.len (control_of kept).notes ≡ sum_by (λ tree. sets.len tree.vrf.notes) kept.trees
  notes_counted =
      ap (λ (s : FinSet note_cmp). sets.len s) notes_are
      ∙ len-owned note_total note_exact note_iface (λ note. of_iface kept.home.scenario note.iface) notes_in (trees_of kept) (apart kept) note_own
      (λ it a. notes_once (in_order it.tree.vrf.notes) (members_once tree_note_total it.tree.vrf.notes))
      ∙ sum-alike (λ (it : OwnTree). length (notes_in it)) (λ (it : OwnTree). sets.len it.tree.vrf.notes) (trees_of kept)
      (λ it a. length-map (in_order it.tree.vrf.notes) edge_note ∙ sym (len-members tree_note_total tree_note_exact it.tree.vrf.notes))
      ∙ sum-trees kept full (λ tree. sets.len tree.vrf.notes)

  -- ---- selections

  abbrev selections_in : OwnTree → List (VrfPattern × Selected)
  selections_in it = map (selected_by it.own.id) it.tree.root.selections

  abbrev of_pattern : VrfPattern → OwnVrf → Bool
  of_pattern key own = own.id.0 == key.vrf.0

  selection_own : (it : OwnTree) → Among it (trees_of kept) → (e : VrfPattern × Selected) → Among e (selections_in it) → of_pattern e.0 it.own ≡ true
  selection_own it a e b =
      let (selection, among, is) = map_among (selected_by it.own.id) e it.tree.root.selections b in
      eq-eqb it.own.id.0 e.0.vrf.0 (ap (λ (x : VrfPattern × Selected). x.0.vrf.0) (sym is))

  where_none : (b : Bool) → cond {A = Option Selected} b None None ≡ None
  where_none true = refl
  where_none false = refl

  selections_once : (vrf : VrfId) (selections : List Selection) → AreSingle selections → StandOnce pattern_cmp (map (selected_by vrf) selections)
  selections_once vrf [] once = tt
  selections_once vrf (selection ∷ more) once = (
    find-selections vrf (selected_by vrf selection).0 more
        ∙ ap (λ (o : Option Selection). cond (vrf.0 == vrf.0) (option_map selected_of o) None) once.0
        ∙ where_none (vrf.0 == vrf.0),
    selections_once vrf more once.1,
  )

  module _ (single : AllByRecursion (λ (tree : TreeData). AreSingle tree.root.selections) kept.trees) where
    single_at : (it : OwnTree) → Among it (trees_of kept) → AreSingle it.tree.root.selections
    single_at it a = of_each (λ (tree : TreeData). AreSingle tree.root.selections) kept.trees single it.tree
        (subst (Among it.tree) full.full (among_map (λ (o : OwnTree). o.tree) it (trees_of kept) a))

    sum-selections : (g : VrfPattern × Selected → ℕ)
        → sum_by g (maps.entries (control_of kept).selections) ≡ sum_by (λ (it : OwnTree). sum_by g (selections_in it)) (trees_of kept)
    sum-selections g =
        sum-owned pattern_total pattern_exact of_pattern (λ key. of_number key.vrf.0) selections_in g (trees_of kept) (apart kept) selection_own
        (λ it a. selections_once it.own.id it.tree.root.selections (single_at it a))

    pub selections_counted : maps.len (control_of kept).selections ≡ sum_by (λ tree. length tree.root.selections) kept.trees
    selections_counted =
        len-sum (control_of kept).selections ∙ sum-selections (λ e. 1)
        ∙ sum-alike (λ (it : OwnTree). sum_by (λ (e : VrfPattern × Selected). 1) (selections_in it))
        (λ (it : OwnTree). length it.tree.root.selections) (trees_of kept)
        (λ it a. sum-one (selections_in it) ∙ length-map it.tree.root.selections (selected_by it.own.id))
        ∙ sum-trees kept full (λ tree. length tree.root.selections)

    pub selections_due : (now : ℕ)
        → count_by (is_selection_due kept.home.scenario.delay now) (maps.values (control_of kept).selections)
        ≡ sum_by (λ tree. count_by (is_waiting tree.root.delay now) tree.root.selections) kept.trees
    selections_due now =
        let waits : Selected → Bool = is_selection_due kept.home.scenario.delay now in
        count-sum waits (control_of kept).selections ∙ sum-selections (λ e. cond (waits e.1) 1 0)
        ∙ sum-alike (λ (it : OwnTree). sum_by (λ (e : VrfPattern × Selected). cond (waits e.1) 1 0) (selections_in it))
        (λ (it : OwnTree). count_by (is_waiting it.tree.root.delay now) it.tree.root.selections) (trees_of kept)
        (λ it a. sum-map (λ (e : VrfPattern × Selected). cond {A = ℕ} (waits e.1) 1 0) (selected_by it.own.id) it.tree.root.selections
        ∙ ap (λ (delay : ℕ). count_by (is_waiting delay now) it.tree.root.selections) (sym ((parts it a).derived no_core).delay))
        ∙ sum-trees kept full (λ tree. count_by (is_waiting tree.root.delay now) tree.root.selections)

-- ---- after a message

pub sum-set : {X : Type 0} (f : X → ℕ) (xs : List X) (number : ℕ) (x y : X) → slice_get xs number ≡ Some x
    → sum_by f (slice_set xs number y) + f x ≡ sum_by f xs + f y
sum-set f [] number x y h = absurd cc
sum-set f (z ∷ xs) zero x y h =
    let same : f z ≡ f x = here f z x h in
    let old = sum_by-cons f z xs in
    let new = sum_by-cons f y xs in
    omega (arith, same, old, new)
  where
    here : {X : Type 0} (f : X → ℕ) (z x : X) → Some z ≡ Some x → f z ≡ f x
    here f z x h = ap f (let one : z ≡ x = cc in one)
sum-set f (z ∷ xs) (suc number) x y h =
    let rest = sum-set f xs number x y h in
    let old = sum_by-cons f z xs in
    let new = sum_by-cons f z (slice_set xs number y) in
    omega (arith, rest, old, new)

pub tree_there : (owns : List OwnVrf) (trees : List TreeData) (number : ℕ) (it : OwnTree) → slice_get (own_trees owns trees) number ≡ Some it
    → slice_get trees number ≡ Some it.tree
tree_there [] trees number it h = absurd cc
tree_there (own ∷ owns) [] number it h = absurd cc
tree_there (own ∷ owns) (tree ∷ trees) zero it h = (let same : record { own = own; tree = tree } ≡ it = cc in ap (λ (x : OwnTree). Some x.tree) same)
tree_there (own ∷ owns) (tree ∷ trees) (suc number) it h = tree_there owns trees number it h

module _ (kept : Kept) (trees : AreTrees kept) (number : ℕ) (it : OwnTree) (at_number : slice_get (trees_of kept) number ≡ Some it) (iface : IfaceId)
    (own : is_iface_of kept.home.scenario it.own.id iface ≡ true) (message : JoinPrune) (now : ℕ) where
  abbrev taken : TreeData
  taken = pim_taken iface message now it.tree

  -- the entries after a message are those of the changed tree and of the others
  pub applied_counted : maps.len (applied (control_of kept).entries iface message now)
      ≡ sum_by (λ tree. maps.len tree.vrf.entries) (slice_set kept.trees number taken)
  applied_counted =
      let made = pim_makes kept trees number it at_number iface own message now no_core in
      let new = with_tree number taken kept in
      sym (ap (λ (c : Control). maps.len c.entries) made.is) ∙ entries_counted new (full_of new made.trees) (parts_of new made.trees)

  pub applied_more : maps.len (applied (control_of kept).entries iface message now) + maps.len it.tree.vrf.entries
      ≡ maps.len (control_of kept).entries + maps.len (applied it.tree.vrf.entries iface message now)
  applied_more =
      let f : TreeData → ℕ = λ tree. maps.len tree.vrf.entries in
      let then = applied_counted in
      let before = entries_counted kept (full_of kept trees) (parts_of kept trees) in
      let both =
      sum-set f kept.trees number it.tree taken (tree_there (vrfs_from kept.home.me 0 kept.home.scenario.vrfs) kept.trees number it at_number) in
      omega (arith, then, before, both)

-- ---- selections of which no pattern is there twice

single_found : (pattern : Pattern) (selections : List Selection) → (IsSelected pattern selections → ⊥) → find (is_of pattern) selections ≡ None
single_found pattern selections new = by (find (is_of pattern) selections) refl
  where
    by : (o : Option Selection) → find (is_of pattern) selections ≡ o → o ≡ None
    by None e = refl
    by (Some found) e = (let is = find_is pattern selections found e in absurd (new (found, is.0, is.1)))

-- another selection is none of a pattern that was not selected
not_new : (pattern : Pattern) (first one : Selection) → one.pattern ≡ pattern → (first.pattern ≡ pattern → ⊥) → (b : Bool)
    → is_of first.pattern one ≡ b → b ≡ false
not_new pattern first one is ne false e = refl
not_new pattern first one is ne true e = absurd (ne (sym (one_pattern one.pattern first.pattern e) ∙ is))

single_more : (selections : List Selection) (one : Selection) → AreSingle selections → (IsSelected one.pattern selections → ⊥)
    → AreSingle (selections ++ one ∷ [])
single_more [] one single new = (refl, tt)
single_more (first ∷ more) one single new = (
  find-append (is_of first.pattern) more (one ∷ [])
      ∙ ap (λ (o : Option Selection). option_or o (cond (is_of first.pattern one) (Some one) None)) single.0
      ∙ ap (λ (b : Bool). cond b (Some one) None) (not_new one.pattern first one refl (λ e. new (first, inl refl, e)) (is_of first.pattern one) refl),
  single_more more one single.1 (λ s. new (s.0, inr s.1, s.2)),
)

pub single_selected : (pattern : Pattern) (now : ℕ) (selections : List Selection) → AreSingle selections → (IsSelected pattern selections → ⊥)
    → AreSingle (selections ++ selected_now pattern now selections ∷ [])
single_selected pattern now selections single new = single_more selections (selected_now pattern now selections) single new

-- what is not found in a list is not found in what is left of it
find_less : (q p : Selection → Bool) (selections : List Selection) → find q selections ≡ None → find q (filter p selections) ≡ None
find_less q p [] h = refl
find_less q p (first ∷ more) h = by (q first) (p first) refl h (find_less q p more)
  where
    by : (b c : Bool) → q first ≡ b → cond b (Some first) (find q more) ≡ None → (find q more ≡ None → find q (filter p more) ≡ None)
        → find q (cond c (first ∷ filter p more) (filter p more)) ≡ None
    by true c e none rest = absurd (let bad : Some first ≡ None = none in cc)
    by false true e none rest = ap (λ (b : Bool). cond b (Some first) (find q (filter p more))) e ∙ rest none
    by false false e none rest = rest none

pub single_less : (p : Selection → Bool) (selections : List Selection) → AreSingle selections → AreSingle (filter p selections)
single_less p [] single = tt
single_less p (first ∷ more) single = by (p first) (single_less p more single.1)
  where
    by : (b : Bool) → AreSingle (filter p more) → AreSingle (cond b (first ∷ filter p more) (filter p more))
    by true rest = (find_less (is_of first.pattern) p more single.0, rest)
    by false rest = rest

pub single_run : (delay now : ℕ) (selections : List Selection) → AreSingle selections → AreSingle (map (run_due delay now) selections)
single_run delay now [] single = tt
single_run delay now (first ∷ more) single = (
  find-run delay now first.pattern more ∙ ap (λ (o : Option Selection). option_map (run_due delay now) o) single.0,
  single_run delay now more single.1,
)
