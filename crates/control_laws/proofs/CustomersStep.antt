-- What the calls of customers make of a tree is what they make of all that an edge keeps.
use Rattle.std.proofs.Common.{◌≡◌, ℕ, ◌==◌, ◌&&◌, ◌||◌, not, Bool, true, false, cond, Option, Some, slice_get, refl, sym, ap, ◌∙◌}
use Rattle.std.specs.Ordering.{eq_by_cmp}
use Rattle.std.specs.Cmp.{Equal-is}
use Rattle.std.specs.FinMap as maps
use Rattle.std.specs.FinSet as sets
use Rattle.std.proofs.lemmas.Bool.{eqb-true}
use Rattle.mv_base.specs.Lists.{Among}
use Rattle.mv_base.specs.declared.addr.Addr.{Addr}
use Rattle.mv_base.specs.declared.ids.IfaceId.{IfaceId}
use Rattle.mv_base.specs.declared.ids.VrfId.{VrfId}
use Rattle.mv_base.specs.core_walks.Core.{Core}
use Rattle.pim_joinprune.specs.declared.message.JoinPrune.{JoinPrune}
use Rattle.pim_defs.specs.declared.expiry.Expiry.{Expiry}
use Rattle.pim_defs.specs.Entries.{Entries, applied}
use Rattle.pim_defs.specs.Mention.{mention_of, expiry_after}
use Rattle.pim_defs.proofs.EntriesLemmas.{get-applied}
use Rattle.scenario_defs.specs.declared.event.IfaceEntry.{IfaceEntry}
use Rattle.scenario_defs.specs.declared.scenario.Scenario.{Scenario}
use Rattle.vrf_words.specs.declared.tree_defs.flow.Note as tree_notes
use Rattle.vrf_words.specs.tree_defs.Keys as tree_keys
use Rattle.vrf_words.specs.tree_defs.Trees.{TreeData}
use Rattle.vrf_words.proofs.tree_defs.KeyLemmas.{note_total as tree_note_total, note_exact as tree_note_exact}
use Rattle.edge_defs.specs.Edge.{Note, note_cmp}
use Rattle.edge_defs.specs.Originated.{is_iface_of}
use Rattle.edge_defs.specs.Steps.{Customer, Pim, Active, Idle, effect}
use Rattle.edge_defs.proofs.KeyLemmas.{note_total}
use Rattle.edge_routes.specs.edge_home.Home.{place_of}
use Rattle.vrf_words.proofs.edge_words.calm_laws.Lists.{not_both}
use Rattle.control_laws.specs.Control.{Kept, OwnTree, trees_of, control_of, AreTrees, with_tree}
use Rattle.control_laws.specs.Customers.{Makes, pim_taken, note_of, noted, unnoted}
use Rattle.control_laws.proofs.Owned.{with}
use Rattle.control_laws.proofs.Together.{tree_note}
use Rattle.control_laws.proofs.Parts.{IsPart, AreParts, parts_of, wants_of, entry_at, note_at}
use Rattle.control_laws.proofs.Replaced.{same_control, same_entries, same_notes, it_among, one_trees, entries_stay, notes_stay, flows_stay, selections_stay, entry_then, note_then}

-- ---- interfaces

-- an interface of no VRF is none of its own
pub other_iface : (scenario : Scenario) (vrf : VrfId) (iface other : IfaceId) → is_iface_of scenario vrf iface ≡ true
    → is_iface_of scenario vrf other ≡ false → (other.0 == iface.0) ≡ false
other_iface scenario vrf iface other h k = by (other.0 == iface.0) refl
  where
    by : (b : Bool) → (other.0 == iface.0) ≡ b → b ≡ false
    by false e = refl
    by true e =
        absurd (not_both (is_iface_of scenario vrf iface) h
        (ap (λ (n : ℕ). is_iface_of scenario vrf (record { 0 = n })) (sym (eqb-true other.0 iface.0 e)) ∙ k))

-- ---- Join/Prune messages

-- the expiry after a message, by the one before it
abbrev expiry_by : IfaceId → JoinPrune → ℕ → IfaceEntry → Option Expiry → Option Expiry
expiry_by iface message now at old =
    cond (at.iface.0 == iface.0) (expiry_after at.entry (mention_of message at.entry) now message.holdtime old) old

pub applied_elsewhere : (entries : Entries) (iface : IfaceId) (message : JoinPrune) (now : ℕ) (at : IfaceEntry) → (at.iface.0 == iface.0) ≡ false
    → maps.get (applied entries iface message now) at ≡ maps.get entries at
applied_elsewhere entries iface message now at h =
    get-applied entries iface message now at
    ∙ ap (λ (b : Bool). cond b (expiry_after at.entry (mention_of message at.entry) now message.holdtime (maps.get entries at)) (maps.get entries at))
    h

module _ (kept : Kept) (trees : AreTrees kept) (number : ℕ) (it : OwnTree) (at_number : slice_get (trees_of kept) number ≡ Some it) where
  abbrev parts : AreParts kept
  parts = parts_of kept trees

  abbrev among : Among it (trees_of kept)
  among = it_among kept number it at_number

  abbrev old : IsPart kept.home kept.peers it
  old = parts it among

  module _ (iface : IfaceId) (own : is_iface_of kept.home.scenario it.own.id iface ≡ true) where
    abbrev its : IfaceId → Bool
    its other = is_iface_of kept.home.scenario it.own.id other

    module _ (message : JoinPrune) (now : ℕ) where
      abbrev tree : TreeData
      tree = pim_taken iface message now it.tree

      pim_part : IsPart kept.home kept.peers (with it tree)
      pim_part = record {
        entries =
            λ at h. applied_elsewhere it.tree.vrf.entries iface message now at (other_iface kept.home.scenario it.own.id iface at.iface own h)
            ∙ old.entries at h;
        notes = old.notes;
        selections = old.selections;
        derived = old.derived;
      }

      pim_entries : (at : IfaceEntry) (b : Bool) → its at.iface ≡ b
          → cond b (maps.get tree.vrf.entries at) (maps.get (control_of kept).entries at)
          ≡ maps.get (applied (control_of kept).entries iface message now) at
      pim_entries at true h =
          get-applied it.tree.vrf.entries iface message now at ∙ ap (expiry_by iface message now at) (sym (entry_at kept parts it among at h))
          ∙ sym (get-applied (control_of kept).entries iface message now at)
      pim_entries at false h =
          sym (applied_elsewhere (control_of kept).entries iface message now at (other_iface kept.home.scenario it.own.id iface at.iface own h))

      pub pim_makes : (core : Core) → Makes (with_tree number tree kept) (effect (place_of kept.home core) now (control_of kept) (Customer (Pim iface message)))
      pim_makes core = record {
        is = same_control _ _
            (same_entries _ _ (λ at. entry_then kept number it at_number tree parts pim_part at ∙ pim_entries at (its at.iface) refl))
            (notes_stay kept number it at_number tree refl) (selections_stay kept number it at_number tree refl)
            (flows_stay kept number it at_number tree refl) refl;
        trees = one_trees kept number it at_number tree trees pim_part (wants_of kept trees it among);
      }

    -- ---- notes

    -- a note at an interface of another VRF is another
    no_tie : (source group : Addr) (note : tree_notes.Note) → its note.iface ≡ false
        → eq_by_cmp tree_keys.note_cmp note (note_of iface source group) ≡ false
    no_tie source group note h = by (eq_by_cmp tree_keys.note_cmp note (note_of iface source group)) refl
      where
        by : (b : Bool) → eq_by_cmp tree_keys.note_cmp note (note_of iface source group) ≡ b → b ≡ false
        by false e = refl
        by true e =
            let one = tree_note_exact note (note_of iface source group) ((Equal-is (tree_keys.note_cmp note (note_of iface source group))).0 e) in
            absurd (not_both (its iface) own (ap (λ (n : tree_notes.Note). its n.iface) (sym one) ∙ h))

    module _ (source group : Addr) where
      abbrev note : Note
      note = record { iface = iface; source = source; group = group }

      abbrev with_note : TreeData
      with_note = noted iface source group it.tree

      noted_part : IsPart kept.home kept.peers (with it with_note)
      noted_part = record {
        entries = old.entries;
        notes = λ n h. sets.contains-insert tree_note_total it.tree.vrf.notes (tree_note note) n
            ∙ ap (λ (b : Bool). b || sets.contains it.tree.vrf.notes n) (no_tie source group n h) ∙ old.notes n h;
        selections = old.selections;
        derived = old.derived;
      }

      noted_notes : (n : Note) (b : Bool) → its n.iface ≡ b
          → cond b (sets.contains with_note.vrf.notes (tree_note n)) (sets.contains (control_of kept).notes n)
          ≡ sets.contains (sets.insert (control_of kept).notes note) n
      noted_notes n true h =
          sets.contains-insert tree_note_total it.tree.vrf.notes (tree_note note) (tree_note n)
          ∙ ap (λ (b : Bool). eq_by_cmp note_cmp n note || b) (sym (note_at kept parts it among (tree_note n) h))
          ∙ sym (sets.contains-insert note_total (control_of kept).notes note n)
      noted_notes n false h =
          sym (sets.contains-insert note_total (control_of kept).notes note n
          ∙ ap (λ (b : Bool). b || sets.contains (control_of kept).notes n) (no_tie source group (tree_note n) h))

      pub noted_makes : (core : Core) (now : ℕ) → Makes (with_tree number with_note kept)
          (effect (place_of kept.home core) now (control_of kept) (Customer (Active iface source group)))
      noted_makes core now = record {
        is = same_control _ _ (entries_stay kept number it at_number with_note refl)
            (same_notes _ _ (λ n. note_then kept number it at_number with_note parts noted_part n ∙ noted_notes n (its n.iface) refl))
            (selections_stay kept number it at_number with_note refl) (flows_stay kept number it at_number with_note refl) refl;
        trees = one_trees kept number it at_number with_note trees noted_part (wants_of kept trees it among);
      }

      abbrev without_note : TreeData
      without_note = unnoted iface source group it.tree

      unnoted_part : IsPart kept.home kept.peers (with it without_note)
      unnoted_part = record {
        entries = old.entries;
        notes = λ n h. sets.contains-remove tree_note_total it.tree.vrf.notes (tree_note note) n
            ∙ ap (λ (b : Bool). not b && sets.contains it.tree.vrf.notes n) (no_tie source group n h) ∙ old.notes n h;
        selections = old.selections;
        derived = old.derived;
      }

      unnoted_notes : (n : Note) (b : Bool) → its n.iface ≡ b
          → cond b (sets.contains without_note.vrf.notes (tree_note n)) (sets.contains (control_of kept).notes n)
          ≡ sets.contains (sets.remove (control_of kept).notes note) n
      unnoted_notes n true h =
          sets.contains-remove tree_note_total it.tree.vrf.notes (tree_note note) (tree_note n)
          ∙ ap (λ (b : Bool). not (eq_by_cmp note_cmp n note) && b) (sym (note_at kept parts it among (tree_note n) h))
          ∙ sym (sets.contains-remove note_total (control_of kept).notes note n)
      unnoted_notes n false h =
          sym (sets.contains-remove note_total (control_of kept).notes note n
          ∙ ap (λ (b : Bool). not b && sets.contains (control_of kept).notes n) (no_tie source group (tree_note n) h))

      pub unnoted_makes : (core : Core) (now : ℕ) → Makes (with_tree number without_note kept)
          (effect (place_of kept.home core) now (control_of kept) (Customer (Idle iface source group)))
      unnoted_makes core now = record {
        is = same_control _ _ (entries_stay kept number it at_number without_note refl)
            (same_notes _ _ (λ n. note_then kept number it at_number without_note parts unnoted_part n ∙ unnoted_notes n (its n.iface) refl))
            (selections_stay kept number it at_number without_note refl) (flows_stay kept number it at_number without_note refl) refl;
        trees = one_trees kept number it at_number without_note trees unnoted_part (wants_of kept trees it among);
      }
