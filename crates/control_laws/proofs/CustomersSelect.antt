-- A pattern that is selected in a tree, or no longer is, is so in all that an edge keeps.
use Rattle.std.proofs.Common.{◌≡◌, ◌⊎◌, ℕ, ◌<◌, ◌==◌, ◌&&◌, not, Bool, true, false, cond, inl, inr, List, [], ◌∷◌, ◌++◌, find, filter, slice_get, Option, Some, None, option_map, refl, sym, ap, ◌∙◌, arith}
use Rattle.std.specs.List.{list_any}
use Rattle.std.specs.FinMap as maps
use Rattle.std.specs.Option.{option_or}
use Rattle.std.proofs.lemmas.Bool.{cases_lt, eqb-true}
use Rattle.std.proofs.lemmas.List.Folds.{find-append}
use Rattle.mv_base.specs.Lists.{Among}
use Rattle.mv_base.specs.declared.ids.VrfId.{VrfId}
use Rattle.mv_base.specs.declared.pattern.Pattern.{Pattern}
use Rattle.mv_base.specs.core_walks.Core.{Core}
use Rattle.selective_defs.specs.Selective.{AreDistinct, IsLeastNumber, free_number, next_number}
use Rattle.selective_defs.specs.declared.selection.Selection.{Selection}
use Rattle.selective_defs.proofs.NumberLemmas.{least_number}
use Rattle.selective.specs.Patterns.{same_pattern}
use Rattle.selective.specs.Roots.{IsSelected, is_of, selected_now}
use Rattle.selective.proofs.RootLemmas.{one_pattern, pattern_itself}
use Rattle.edge_defs.proofs.table_laws.CompareLemmas.{own_key}
use Rattle.vrf_words.specs.tree_defs.Trees.{TreeData}
use Rattle.edge_defs.specs.Edge.{VrfPattern, Selected, Control}
use Rattle.edge_defs.specs.Steps.{Customer, Select, Unselect, effect, is_used, with_selection}
use Rattle.edge_defs.proofs.KeyLemmas.{pattern_total}
use Rattle.edge_routes.specs.edge_home.Home.{place_of}
use Rattle.vrf_words.proofs.edge_words.calm_laws.Lists.{among_either, filter_among, not_both}
use Rattle.vrf_words.specs.edge_words.Known.{IsLeastFree}
use Rattle.vrf_words.proofs.edge_words.Numbers.{numbered}
use Rattle.control_laws.specs.Control.{Kept, OwnTree, trees_of, control_of, AreTrees, with_tree}
use Rattle.control_laws.specs.Customers.{Makes, selected, unselected}
use Rattle.control_laws.proofs.Owned.{with}
use Rattle.control_laws.proofs.Together.{selected_of, pattern_of, pattern_ties}
use Rattle.control_laws.proofs.Parts.{IsPart, AreParts, find_is, is_found, parts_of, wants_of, selection_at}
use Rattle.control_laws.proofs.Replaced.{same_control, same_selections, it_among, one_trees, entries_stay, notes_stay, flows_stay, selection_then}

-- ---- numbers

one_value : (a b : Selected) → Some a ≡ Some b → a ≡ b
one_value a b h = cc

found_of : (selections : List Selection) (pattern : Pattern) (value : Selected) (o : Option Selection) → find (is_of pattern) selections ≡ o
    → option_map selected_of o ≡ Some value
    → (selection : Selection) × Among selection selections × (selected_of selection ≡ value)
found_of selections pattern value None e h = absurd cc
found_of selections pattern value (Some found) e h =
    (let same : selected_of found ≡ value = cc in (found, (find_is pattern selections found e).0, same))

module _ (control : Control) (vrf : VrfId) (selections : List Selection) (distinct : AreDistinct selections)
    (kept : (pattern : Pattern) → maps.get control.selections (record { vrf = vrf; pattern = pattern })
    ≡ option_map selected_of (find (is_of pattern) selections)) where
  least_below : (number other : ℕ) → IsLeastFree vrf control.selections number → IsLeastNumber selections other → number < other → ⊥
  least_below number other free least below =
      let (selection, among, is) = least.least number free.counted below in
      free.free (record { vrf = vrf; pattern = selection.pattern }) (selected_of selection)
      (kept selection.pattern ∙ ap (option_map selected_of) (is_found selections selection distinct among)) refl is

  free_below : (number other : ℕ) → IsLeastFree vrf control.selections number → IsLeastNumber selections other → other < number → ⊥
  free_below number other free least below =
      let (key, value, at, own, is) = free.least other least.counted below in
      let here : record { vrf = vrf; pattern = key.pattern } ≡ key = λ i. record { vrf = record { 0 = sym own i }; pattern = key.pattern } in
      let found =
      found_of selections key.pattern value (find (is_of key.pattern) selections) refl
      (sym (kept key.pattern) ∙ ap (maps.get control.selections) here ∙ at) in
      least.free found.0 found.1 (ap (λ (s : Selected). s.number) found.2 ∙ is)

  one_number : (number other : ℕ) → IsLeastFree vrf control.selections number → IsLeastNumber selections other → number ≡ other
  one_number number other free least = elim (cases_lt number other) [
    | inl below ↦ absurd (least_below number other free least below)
    | inr rest ↦ elim (cases_lt other number) [
      | inl below ↦ absurd (free_below number other free least below)
      | inr more ↦ omega (arith, rest, more)
    ]
  ]

  abbrev whole_number : ℕ
  whole_number = free_number (λ number. list_any (is_used vrf number) (maps.entries control.selections)) (maps.len control.selections) 1

  -- a selection more of the VRF gets the number that the edge gives it
  pub same_number : (now : ℕ) (pattern : Pattern) → whole_number ≡ next_number selections
  same_number now pattern =
      let is = numbered now control vrf pattern in
      let key : VrfPattern = record { vrf = vrf; pattern = pattern } in
      let value : Selected = record { number = whole_number; since = now; run = false } in
      let made : maps.get (with_selection now vrf pattern control.selections) key ≡ Some value =
      maps.get-insert pattern_total control.selections key value key
      ∙ ap (λ (b : Bool). cond b (Some value) (maps.get control.selections key)) (own_key pattern_total key) in
      let given : Selected = record { number = is.number; since = now; run = false } in
      let values : value ≡ given = one_value value given (sym made ∙ is.kept) in
      ap (λ (s : Selected). s.number) values ∙ one_number is.number (next_number selections) is.least (least_number selections)

-- ---- what is found

find-none : {X : Type 0} (q p : X → Bool) (xs : List X) → ((x : X) → q x ≡ true → p x ≡ false) → find q (filter p xs) ≡ None
find-none q p [] h = refl
find-none q p (x ∷ xs) h = by (p x) (q x) refl refl (find-none q p xs h)
  where
    by : (b c : Bool) → p x ≡ b → q x ≡ c → find q (filter p xs) ≡ None → find q (cond b (x ∷ filter p xs) (filter p xs)) ≡ None
    by true true e k rest = absurd (not_both (p x) e (h x k))
    by true false e k rest = ap (λ (c : Bool). cond c (Some x) (find q (filter p xs))) k ∙ rest
    by false c e k rest = rest

find-same : {X : Type 0} (q p : X → Bool) (xs : List X) → ((x : X) → q x ≡ true → p x ≡ true) → find q (filter p xs) ≡ find q xs
find-same q p [] h = refl
find-same q p (x ∷ xs) h = by (p x) (q x) refl refl (find-same q p xs h)
  where
    by : (b c : Bool) → p x ≡ b → q x ≡ c → find q (filter p xs) ≡ find q xs
        → find q (cond b (x ∷ filter p xs) (filter p xs)) ≡ cond c (Some x) (find q xs)
    by true c e k rest = ap (λ (d : Bool). cond d (Some x) (find q (filter p xs))) k ∙ ap (cond c (Some x)) rest
    by false true e k rest = absurd (not_both (p x) (h x k) e)
    by false false e k rest = rest

else_none : {X : Type 0} (o : Option X) → option_or o None ≡ o
else_none None = refl
else_none (Some x) = refl

-- ---- one tree

module _ (kept : Kept) (trees : AreTrees kept) (number : ℕ) (it : OwnTree) (at_number : slice_get (trees_of kept) number ≡ Some it)
    (pattern : Pattern) where
  abbrev parts : AreParts kept
  parts = parts_of kept trees

  abbrev among : Among it (trees_of kept)
  among = it_among kept number it at_number

  abbrev old : IsPart kept.home kept.peers it
  old = parts it among

  abbrev selections : List Selection
  selections = it.tree.root.selections

  abbrev its : VrfPattern → Bool
  its key = it.own.id.0 == key.vrf.0

  its_own : (key : VrfPattern) → its key ≡ true
      → maps.get (control_of kept).selections key ≡ option_map selected_of (find (is_of key.pattern) selections)
  its_own key h =
      let own = eqb-true it.own.id.0 key.vrf.0 h in
      let here : key ≡ record { vrf = it.own.id; pattern = key.pattern } = λ i. record { vrf = record { 0 = sym own i }; pattern = key.pattern } in
      ap (maps.get (control_of kept).selections) here ∙ selection_at kept parts it among key.pattern

  module _ (now : ℕ) (new : IsSelected pattern selections → ⊥) where
    abbrev with_one : TreeData
    with_one = selected pattern now it.tree

    abbrev one : Selection
    one = selected_now pattern now selections

    selected_distinct : AreDistinct (selections ++ one ∷ [])
    selected_distinct first second a b e = by (among_either first selections (one ∷ []) a) (among_either second selections (one ∷ []) b)
      where
        by : Among first selections ⊎ Among first (one ∷ []) → Among second selections ⊎ Among second (one ∷ []) → first ≡ second
        by (inl c) (inl d) = old.selections first second c d e
        by (inl c) (inr (inl d)) = absurd (new (first, c, e ∙ ap (λ (s : Selection). s.pattern) d))
        by (inl c) (inr (inr d)) = absurd d
        by (inr (inl c)) (inl d) = absurd (new (second, d, sym e ∙ ap (λ (s : Selection). s.pattern) c))
        by (inr (inl c)) (inr (inl d)) = c ∙ sym d
        by (inr (inl c)) (inr (inr d)) = absurd d
        by (inr (inr c)) d = absurd c

    selected_part : IsPart kept.home kept.peers (with it with_one)
    selected_part = record { entries = old.entries; notes = old.notes; selections = selected_distinct; derived = old.derived }

    none_before : (key : VrfPattern) → is_of key.pattern one ≡ true → (o : Option Selection) → find (is_of key.pattern) selections ≡ o → o ≡ None
    none_before key h None e = refl
    none_before key h (Some found) e =
        let is = find_is key.pattern selections found e in
        absurd (new (found, is.0, is.1 ∙ sym (one_pattern pattern key.pattern h)))

    abbrev value : Selected
    value = record {
      number = free_number (λ number. list_any (is_used it.own.id number) (maps.entries (control_of kept).selections))
          (maps.len (control_of kept).selections) 1;
      since = now;
      run = false;
    }

    value_is : selected_of one ≡ value
    value_is =
        let same = same_number (control_of kept) it.own.id selections old.selections (selection_at kept parts it among) now pattern in
        λ i. record { number = sym same i; since = now; run = false }

    selected_by_key : (key : VrfPattern) (b c : Bool) → its key ≡ b → is_of key.pattern one ≡ c
        → cond b (option_map selected_of (find (is_of key.pattern) (selections ++ one ∷ []))) (maps.get (control_of kept).selections key)
        ≡ cond (b && c) (Some value) (maps.get (control_of kept).selections key)
    selected_by_key key false c h k = refl
    selected_by_key key true true h k =
        ap (option_map selected_of) (find-append (is_of key.pattern) selections (one ∷ [])
        ∙ ap (λ (o : Option Selection). option_or o (find (is_of key.pattern) (one ∷ [])))
        (none_before key k (find (is_of key.pattern) selections) refl)
        ∙ ap (λ (t : Bool). cond t (Some one) None) k) ∙ ap (λ (s : Selected). Some s) value_is
    selected_by_key key true false h k =
        ap (option_map selected_of) (find-append (is_of key.pattern) selections (one ∷ [])
        ∙ ap (λ (t : Bool). option_or (find (is_of key.pattern) selections) (cond t (Some one) None)) k
        ∙ else_none (find (is_of key.pattern) selections))
        ∙ sym (its_own key h)

    selected_selections : (key : VrfPattern) → maps.get (control_of (with_tree number with_one kept)).selections key
        ≡ maps.get (with_selection now it.own.id pattern (control_of kept).selections) key
    selected_selections key =
        selection_then kept number it at_number with_one parts selected_part key
        ∙ selected_by_key key (its key) (is_of key.pattern one) refl refl
        ∙ ap (λ (t : Bool). cond t (Some value) (maps.get (control_of kept).selections key)) (sym (pattern_ties it.own.id key one))
        ∙ sym (maps.get-insert pattern_total (control_of kept).selections (pattern_of it.own.id one) value key)

    pub selected_makes : (core : Core) → Makes (with_tree number with_one kept)
        (effect (place_of kept.home core) now (control_of kept) (Customer (Select it.own.id pattern)))
    selected_makes core = record {
      is = same_control _ _ (entries_stay kept number it at_number with_one refl) (notes_stay kept number it at_number with_one refl)
          (same_selections _ _ selected_selections) (flows_stay kept number it at_number with_one refl) refl;
      trees = one_trees kept number it at_number with_one trees selected_part (wants_of kept trees it among);
    }

  -- ---- a pattern that is no longer selected

  abbrev without_it : TreeData
  without_it = unselected pattern it.tree

  abbrev stays : Selection → Bool
  stays selection = not (is_of pattern selection)

  unselected_part : IsPart kept.home kept.peers (with it without_it)
  unselected_part = record {
    entries = old.entries;
    notes = old.notes;
    selections =
        λ first second a b e. old.selections first second (filter_among stays first selections a).0 (filter_among stays second selections b).0 e;
    derived = old.derived;
  }

  -- some selection of the pattern
  abbrev any : Selection
  any = record { pattern = pattern; number = 0; since = 0; run = false }

  gone_by : (key : VrfPattern) → is_of key.pattern any ≡ true → (s : Selection) → is_of key.pattern s ≡ true → stays s ≡ false
  gone_by key h s k =
      let same : s.pattern ≡ pattern = one_pattern s.pattern key.pattern k ∙ sym (one_pattern pattern key.pattern h) in
      ap not (ap (λ (p : Pattern). same_pattern p pattern) same ∙ pattern_itself pattern)

  stays_by : (key : VrfPattern) → is_of key.pattern any ≡ false → (s : Selection) → is_of key.pattern s ≡ true → stays s ≡ true
  stays_by key h s k = by (is_of pattern s) refl
    where
      by : (b : Bool) → is_of pattern s ≡ b → not b ≡ true
      by false e = refl
      by true e =
          absurd (not_both (is_of key.pattern any) (ap (λ (p : Pattern). same_pattern p key.pattern) (sym (one_pattern s.pattern pattern e)) ∙ k) h)

  unselected_by_key : (key : VrfPattern) (b c : Bool) → its key ≡ b → is_of key.pattern any ≡ c
      → cond b (option_map selected_of (find (is_of key.pattern) (filter stays selections))) (maps.get (control_of kept).selections key)
      ≡ cond (b && c) None (maps.get (control_of kept).selections key)
  unselected_by_key key false c h k = refl
  unselected_by_key key true true h k = ap (option_map selected_of) (find-none (is_of key.pattern) stays selections (gone_by key k))
  unselected_by_key key true false h k =
      ap (option_map selected_of) (find-same (is_of key.pattern) stays selections (stays_by key k)) ∙ sym (its_own key h)

  unselected_selections : (key : VrfPattern) → maps.get (control_of (with_tree number without_it kept)).selections key
      ≡ maps.get (maps.remove (control_of kept).selections (pattern_of it.own.id any)) key
  unselected_selections key =
      selection_then kept number it at_number without_it parts unselected_part key
      ∙ unselected_by_key key (its key) (is_of key.pattern any) refl refl
      ∙ ap (λ (t : Bool). cond t None (maps.get (control_of kept).selections key)) (sym (pattern_ties it.own.id key any))
      ∙ sym (maps.get-remove pattern_total (control_of kept).selections (pattern_of it.own.id any) key)

  pub unselected_makes : (core : Core) (now : ℕ)
      → Makes (with_tree number without_it kept) (effect (place_of kept.home core) now (control_of kept) (Customer (Unselect it.own.id pattern)))
  unselected_makes core now = record {
    is = same_control _ _ (entries_stay kept number it at_number without_it refl) (notes_stay kept number it at_number without_it refl)
        (same_selections _ _ unselected_selections) (flows_stay kept number it at_number without_it refl) refl;
    trees = one_trees kept number it at_number without_it trees unselected_part (wants_of kept trees it among);
  }
