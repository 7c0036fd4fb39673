-- What the timers of customers make of each tree is what they make of all that an edge keeps.
use Rattle.std.proofs.Common.{◌≡◌, ℕ, ◌==◌, Bool, true, false, cond, List, [], ◌∷◌, map, find, Option, Some, None, option_map, refl, sym, ap, ◌∙◌}
use Rattle.std.specs.FinMap as maps
use Rattle.mv_base.specs.Lists.{Among}
use Rattle.mv_base.specs.declared.pattern.Pattern.{Pattern}
use Rattle.pim_defs.specs.Entries.{kept_at}
use Rattle.pim_defs.specs.Expiry.{remaining}
use Rattle.pim_defs.proofs.EntriesLemmas.{get-kept}
use Rattle.scenario_defs.specs.declared.event.IfaceEntry.{IfaceEntry}
use Rattle.selective_defs.specs.Selective.{AreDistinct}
use Rattle.selective_defs.specs.declared.selection.Selection.{Selection}
use Rattle.selective.specs.Roots.{is_of, run_due}
use Rattle.label_defs.proofs.SetLemmas.{get-changed}
use Rattle.edge_defs.specs.Edge.{VrfPattern}
use Rattle.edge_defs.specs.Originated.{is_iface_of}
use Rattle.edge_defs.specs.Place.{OwnVrf}
use Rattle.edge_defs.specs.Steps.{selection_run, selections_run}
use Rattle.edge_defs.proofs.KeyLemmas.{pattern_total, pattern_exact}
use Rattle.vrf_words.proofs.edge_words.calm_laws.Lists.{map_among}
use Rattle.control_laws.specs.Control.{Kept, OwnTree, trees_of, control_of, AreTrees, with_trees}
use Rattle.control_laws.specs.Customers.{Makes, timers_run}
use Rattle.control_laws.proofs.Gathered.{options}
use Rattle.control_laws.proofs.Owned.{with, of_number}
use Rattle.control_laws.proofs.Together.{selected_of, entry_in, selected_in, entries_gathered, selections_gathered}
use Rattle.control_laws.proofs.Parts.{IsPart, AreParts, Wants, of_iface, no_selection, no_core, parts_of, wants_of, full_of, trees_together}
use Rattle.control_laws.proofs.Replaced.{same_control, same_entries, same_selections, all_full, all_each, all_by, all_notes_stay, all_flows_stay}

-- ---- selections whose delay is run

-- they are of the same patterns
pub runs_distinct : (delay now : ℕ) (selections : List Selection) → AreDistinct selections → AreDistinct (map (run_due delay now) selections)
runs_distinct delay now selections distinct one other a b e =
    let (first, first_among, first_is) = map_among (run_due delay now) one selections a in
    let (second, second_among, second_is) = map_among (run_due delay now) other selections b in
    let patterns = ap (λ (s : Selection). s.pattern) (sym first_is) ∙ e ∙ ap (λ (s : Selection). s.pattern) second_is in
    first_is ∙ ap (run_due delay now) (distinct first second first_among second_among patterns) ∙ sym second_is

run_head : (b : Bool) (delay now : ℕ) (first : Selection) (o : Option Selection)
    → cond b (Some (run_due delay now first)) (option_map (run_due delay now) o) ≡ option_map (run_due delay now) (cond b (Some first) o)
run_head true delay now first o = refl
run_head false delay now first o = refl

pub find-run : (delay now : ℕ) (pattern : Pattern) (selections : List Selection)
    → find (is_of pattern) (map (run_due delay now) selections) ≡ option_map (run_due delay now) (find (is_of pattern) selections)
find-run delay now pattern [] = refl
find-run delay now pattern (first ∷ more) =
    ap (cond (is_of pattern first) (Some (run_due delay now first))) (find-run delay now pattern more)
    ∙ run_head (is_of pattern first) delay now first (find (is_of pattern) more)

run_where : (b : Bool) (delay now : ℕ) (o : Option Selection)
    → cond b (option_map selected_of (option_map (run_due delay now) o)) None
    ≡ option_map (selection_run delay now) (cond b (option_map selected_of o) None)
run_where true delay now None = refl
run_where true delay now (Some found) = refl
run_where false delay now o = refl

-- ---- each tree

module _ (kept : Kept) (now : ℕ) where
  abbrev new : Kept
  new = with_trees (timers_run now) kept

  abbrev delay : ℕ
  delay = kept.home.scenario.delay

  module _ (parts : AreParts kept) where
    delay_of : (it : OwnTree) → Among it (trees_of kept) → it.tree.root.delay ≡ delay
    delay_of it a = ((parts it a).derived no_core).delay

    remaining_where : (it : OwnTree) → Among it (trees_of kept) → (at : IfaceEntry) → is_iface_of kept.home.scenario it.own.id at.iface ≡ false
        → maps.get (kept_at it.tree.vrf.entries now) at ≡ None
    remaining_where it a at h = get-kept it.tree.vrf.entries now at ∙ ap (remaining now) ((parts it a).entries at h)

    pub timers_parts : AreParts new
    timers_parts = all_each kept (timers_run now) (IsPart kept.home kept.peers) (λ it a. (let part = parts it a in record {
      entries = remaining_where it a;
      notes = part.notes;
      selections = runs_distinct it.tree.root.delay now it.tree.root.selections part.selections;
      derived = part.derived;
    }))

    run_entries : (at : IfaceEntry) → maps.get (control_of new).entries at ≡ maps.get (kept_at (control_of kept).entries now) at
    run_entries at =
        entries_gathered new at
        ∙ all_by kept (timers_run now) options (λ (own : OwnVrf). is_iface_of kept.home.scenario own.id at.iface)
        (of_iface kept.home.scenario at.iface) (entry_in at) (remaining now) refl
        (λ it a. (parts it a).entries at) (λ it a. get-kept it.tree.vrf.entries now at)
        ∙ ap (remaining now) (sym (entries_gathered kept at)) ∙ sym (get-kept (control_of kept).entries now at)

    run_selected : (key : VrfPattern) (it : OwnTree) → Among it (trees_of kept)
        → selected_in key (with it (timers_run now it.tree)) ≡ option_map (selection_run delay now) (selected_in key it)
    run_selected key it a =
        ap (λ (d : ℕ). cond (it.own.id.0 == key.vrf.0)
        (option_map selected_of (find (is_of key.pattern) (map (run_due d now) it.tree.root.selections))) None) (delay_of it a)
        ∙ ap (λ (o : Option Selection). cond (it.own.id.0 == key.vrf.0) (option_map selected_of o) None)
        (find-run delay now key.pattern it.tree.root.selections)
        ∙ run_where (it.own.id.0 == key.vrf.0) delay now (find (is_of key.pattern) it.tree.root.selections)

    run_selections : (key : VrfPattern) → maps.get (control_of new).selections key
        ≡ maps.get (selections_run delay now (control_of kept).selections) key
    run_selections key =
        selections_gathered new key
        ∙ all_by kept (timers_run now) options (λ (own : OwnVrf). own.id.0 == key.vrf.0) (of_number key.vrf.0) (selected_in key)
        (option_map (selection_run delay now)) refl
        (λ it a. no_selection kept parts key it) (run_selected key)
        ∙ ap (option_map (selection_run delay now)) (sym (selections_gathered kept key))
        ∙ sym (get-changed pattern_total pattern_exact (selection_run delay now) (control_of kept).selections key)

    pub timers_are : control_of new ≡ record (control_of kept)
        { entries = kept_at (control_of kept).entries now; selections = selections_run delay now (control_of kept).selections }
    timers_are =
        same_control _ _ (same_entries _ _ run_entries) (all_notes_stay kept (timers_run now) (λ tree. refl)) (same_selections _ _ run_selections)
        (all_flows_stay kept (timers_run now) (λ tree. refl)) refl

  pub timers_make : AreTrees kept → Makes new (record (control_of kept)
      { entries = kept_at (control_of kept).entries now; selections = selections_run delay now (control_of kept).selections })
  timers_make trees = record {
    is = timers_are (parts_of kept trees);
    trees = trees_together new (all_full kept (timers_run now) (full_of kept trees)) (timers_parts (parts_of kept trees))
        (all_each kept (timers_run now) Wants (wants_of kept trees));
  }
