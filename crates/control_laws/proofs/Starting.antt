-- What an edge keeps before anything has happened is nothing.
use Rattle.std.proofs.Common.{◌≡◌, ◌==◌, Bool, true, false, cond, find, Option, None, option_map, refl, sym, ap, subst, ◌∙◌}
use Rattle.std.specs.FinMap as maps
use Rattle.std.specs.FinSet as sets
use Rattle.mv_base.specs.Lists.{Among}
use Rattle.pim_defs.specs.Entries.{entry_cmp}
use Rattle.selective.specs.Roots.{is_of}
use Rattle.vrf_words.specs.tree_defs.Keys as tree_keys
use Rattle.vrf_words.specs.tree_defs.Trees.{TreeData}
use Rattle.edge_defs.specs.Edge.{Control, note_cmp, pattern_cmp, flow_cmp, no_control}
use Rattle.edge_routes.specs.edge_home.Home.{place_of}
use Rattle.vrf_words.specs.tree_laws.TreeOf.{IsTreeOf}
use Rattle.vrf_words.proofs.tree_laws.Start.{started}
use Rattle.control_laws.specs.Control.{Kept, OwnTree, trees_of, control_of, upstream_by}
use Rattle.control_laws.specs.Customers.{Makes}
use Rattle.control_laws.specs.Start.{IsFirst, AreFirst}
use Rattle.control_laws.proofs.Gathered.{options, truths, gathered_none}
use Rattle.control_laws.proofs.Owned.{of_each, each_of}
use Rattle.control_laws.proofs.Together.{tree_note, flow_of, selected_of, entry_in, note_in, choice_in, selected_in, entries_gathered, notes_gathered, flows_gathered, selections_gathered}
use Rattle.control_laws.proofs.Parts.{AreFull, no_core}
use Rattle.control_laws.proofs.Replaced.{same_control, same_entries, same_notes, same_selections, same_flows}

where_none : {X : Type 0} (b : Bool) → cond {A = Option X} b None None ≡ None
where_none true = refl
where_none false = refl

module _ (kept : Kept) (first : AreFirst kept) where
  first_at : (it : OwnTree) → Among it (trees_of kept) → IsFirst kept.home it
  first_at it a = of_each (IsFirst kept.home) (trees_of kept) first.trees it a

  pub nothing_kept : control_of kept ≡ no_control
  nothing_kept = same_control _ _
      (same_entries _ _ (λ at.
      entries_gathered kept at
      ∙ gathered_none options (entry_in at) (trees_of kept)
      (λ it a. ap (λ (t : TreeData). maps.get t.vrf.entries at) ((first_at it a).is no_core) ∙ maps.get-empty entry_cmp at)
      ∙ sym (maps.get-empty entry_cmp at)))
      (same_notes _ _ (λ note.
      notes_gathered kept note
      ∙ gathered_none truths (note_in (tree_note note)) (trees_of kept)
      (λ it a. ap (λ (t : TreeData). sets.contains t.vrf.notes (tree_note note)) ((first_at it a).is no_core)
      ∙ sets.contains-empty tree_keys.note_cmp (tree_note note))
      ∙ sym (sets.contains-empty note_cmp note)))
      (same_selections _ _ (λ key.
      selections_gathered kept key
      ∙ gathered_none options (selected_in key) (trees_of kept)
      (λ it a. ap (λ (t : TreeData). cond (it.own.id.0 == key.vrf.0) (option_map selected_of (find (is_of key.pattern) t.root.selections)) None)
      ((first_at it a).is no_core)
      ∙ where_none (it.own.id.0 == key.vrf.0))
      ∙ sym (maps.get-empty pattern_cmp key)))
      (same_flows _ _ (λ key.
      flows_gathered kept key
      ∙ gathered_none options (choice_in key) (trees_of kept)
      (λ it a. ap (λ (t : TreeData). cond (it.own.id.0 == key.vrf.0) (option_map upstream_by (maps.get t.vrf.flows (flow_of key))) None)
      ((first_at it a).is no_core)
      ∙ ap (λ (o : Option _). cond (it.own.id.0 == key.vrf.0) (option_map upstream_by o) None) (maps.get-empty tree_keys.flow_cmp (flow_of key))
      ∙ where_none (it.own.id.0 == key.vrf.0))
      ∙ sym (maps.get-empty flow_cmp key)))
      first.peers

  pub first_makes : AreFull kept → Makes kept no_control
  first_makes full = record {
    is = nothing_kept;
    trees = record {
      each = λ core. each_of (λ (it : OwnTree). IsTreeOf (place_of kept.home core) (control_of kept) it.own it.tree) (trees_of kept) (λ it a.
          let one = first_at it a in
          subst (λ (c : Control). IsTreeOf (place_of kept.home core) c it.own it.tree) (sym nothing_kept)
          (subst (IsTreeOf (place_of kept.home core) no_control it.own) (sym (one.is core))
          (started (place_of kept.home core) it.own one.attached one.sites)));
      full = full.full;
      all = full.all;
    };
  }
