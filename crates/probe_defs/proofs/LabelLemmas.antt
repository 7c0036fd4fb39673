-- An edge of which no LDP session is up needs no label.
use Rattle.std.proofs.Common.{◌≡◌, ℕ, Bool, true, false, cond, List, [], ◌∷◌, ◌++◌, map, Option, Some, None, option_map, refl, sym, ap, subst, ◌∙◌}
use Rattle.std.specs.Prelude.{⊤}
use Rattle.std.specs.FinMap as maps
use Rattle.std.specs.FinMap.{FinMap}
use Rattle.std.specs.FinSet as sets
use Rattle.mv_base.specs.Number.{◌>>?◌}
use Rattle.mv_base.specs.declared.ids.NodeId.{NodeId}
use Rattle.mldp.specs.declared.mldp_fec.fec.Fec.{Fec}
use Rattle.label_defs.specs.declared.change.Change.{Change}
use Rattle.label_defs.specs.declared.change.Change.TheVariants as changes
use Rattle.label_defs.specs.declared.end.End.{End}
use Rattle.label_defs.specs.declared.put.Put.{Put}
use Rattle.label_defs.specs.Keys.{node_cmp}
use Rattle.label_defs.specs.LabelData.{Place, LabelData, free_label, has_tree, mapped_label}
use Rattle.label_defs.specs.Settling.{Stepped, change_by, change_of, changed, holder_of, is_ready_to, put_by, same_neighbour, settle_all, withdrawn}
use Rattle.label_defs.specs.Steps.{Call, Want, Unwant, counted, ends_after, label_step, told}
use Rattle.edge_defs.specs.Place.{EdgePlace, label_place}
use Rattle.edge_defs.specs.Steps.{LabelStep, label_row, part_after}

-- the change needs no label
abbrev Goes : Change → Type 0
Goes changes.NoLabel = ⊥
Goes other = ⊤

withdrawn_goes : (label : ℕ) (holder : Option NodeId) → Goes (withdrawn label holder)
withdrawn_goes label None = tt
withdrawn_goes label (Some upstream) = tt

kept_goes : (b : Bool) (label : ℕ) (holder : Option NodeId) → Goes (cond b changes.Keep (withdrawn label holder))
kept_goes true label holder = tt
kept_goes false label holder = withdrawn_goes label holder

by_goes : (on : Bool) (own : Option ℕ) (holder upstream : Option NodeId) (free : Option ℕ) → Goes (change_by on own holder upstream false free)
by_goes true (Some label) holder upstream free = kept_goes (same_neighbour holder upstream) label holder
by_goes true None holder (Some upstream) free = tt
by_goes true None holder None free = tt
by_goes false (Some label) holder upstream free = withdrawn_goes label holder
by_goes false None holder upstream free = tt

-- no session is ready
not_ready : (part : LabelData) (upstream : Option NodeId) → part.ends ≡ maps.empty → is_ready_to part upstream ≡ false
not_ready part None e = refl
not_ready part (Some upstream) e =
    ap (λ (ends : FinMap node_cmp End). elim (maps.get ends upstream) as (λ _. Bool) [ None ↦ false | Some end ↦ end.held ]) e
    ∙ ap (λ (o : Option End). elim o as (λ _. Bool) [ None ↦ false | Some end ↦ end.held ]) (maps.get-empty node_cmp upstream)

change_goes : (place : Place) (part : LabelData) (fec : Fec) → part.ends ≡ maps.empty → Goes (change_of place part fec)
change_goes place part fec e =
    subst (λ ready. Goes (change_by (has_tree part fec) (mapped_label part fec) (holder_of part fec) (place.upstream fec) ready (free_label part)))
    (sym (not_ready part (place.upstream fec) e))
    (by_goes (has_tree part fec) (mapped_label part fec) (holder_of part fec) (place.upstream fec) (free_label part))

-- there is a node after the change, with the same sessions
pub record Goes_on (part : LabelData) (result : Option LabelData) : Type 0 where
  pub new : LabelData
  pub is : result ≡ Some new
  pub ends : new.ends ≡ part.ends

changed_goes : (part : LabelData) (fec : Fec) (change : Change) → Goes change → Goes_on part (changed part fec change)
changed_goes part fec changes.Keep h = record { new = part; is = refl; ends = refl }
changed_goes part fec (changes.Map upstream label) h = record { new = _; is = refl; ends = refl }
changed_goes part fec (changes.Withdraw upstream label) h = record { new = _; is = refl; ends = refl }
changed_goes part fec changes.Wait h = record { new = _; is = refl; ends = refl }
changed_goes part fec changes.Cancel h = record { new = _; is = refl; ends = refl }
changed_goes part fec changes.NoLabel h = absurd h

no_ends_after : (puts : List Put) → ends_after maps.empty puts ≡ maps.empty
no_ends_after [] = refl
no_ends_after (put ∷ more) =
    ap (λ (o : Option End). elim o as (λ _. FinMap node_cmp End)
    [ None ↦ ends_after maps.empty more | Some end ↦ ends_after (maps.insert maps.empty put.to (told end)) more ])
    (maps.get-empty node_cmp put.to)
    ∙ no_ends_after more

-- a label step is made, and no session is up after it
pub record Made (result : Option Stepped) : Type 0 where
  pub new : Stepped
  pub is : result ≡ Some new
  pub ends : new.part.ends ≡ maps.empty

-- the tree settles
settled : (place : Place) (part : LabelData) (fec : Fec) → part.ends ≡ maps.empty →
    Made (option_map counted (settle_all place (fec ∷ []) (record { part = part; puts = [] })))
settled place part fec e =
    let change = change_of place part fec in
    let went = changed_goes part fec change (change_goes place part fec e) in
    let none : went.new.ends ≡ maps.empty = went.ends ∙ e in
    record {
      new = counted (record { part = went.new; puts = [] ++ put_by fec change });
      is = ap (λ (o : Option LabelData). option_map counted
          (o >>? λ new. settle_all place [] (record { part = new; puts = [] ++ put_by fec change }))) went.is;
      ends = ap (λ (ends : FinMap node_cmp End). ends_after ends (put_by fec change)) none ∙ no_ends_after (put_by fec change);
    }

-- the step by which a node becomes or stops being a leaf
abbrev turn : Bool → Fec → Call
turn wants fec = cond wants (Want fec) (Unwant fec)

turned : (place : Place) (now : ℕ) (part : LabelData) (wants : Bool) (fec : Fec) → part.ends ≡ maps.empty
    → Made (label_step place now part (turn wants fec))
turned place now part true fec e = settled place (record part { leaves = sets.insert part.leaves fec }) fec e
turned place now part false fec e = settled place (record part { leaves = sets.remove part.leaves fec }) fec e

-- a row of label steps is made, and no session is up after it
pub record RowMade (part : LabelData) (result : Option (List LabelStep)) : Type 0 where
  pub row : List LabelStep
  pub is : result ≡ Some row
  pub ends : (part_after part row).ends ≡ maps.empty

row_by : (place : EdgePlace) (now : ℕ) (part : LabelData) (call : Call) (more : List Call)
    → (made : Made (label_step (label_place place.scenario place.core place.me) now part call))
    → RowMade made.new.part (label_row place now made.new.part more) → RowMade part (label_row place now part (call ∷ more))
row_by place now part call more made thereafter = record {
  row = record { old = part; call = call; new = made.new } ∷ thereafter.row;
  is = ap (λ (o : Option Stepped). o >>? λ new. label_row place now new.part more >>? λ row. Some
      (record { old = part; call = call; new = new } ∷ row)) made.is
      ∙ ap (λ (o : Option (List LabelStep)). o >>? λ row. Some (record { old = part; call = call; new = made.new } ∷ row)) thereafter.is;
  ends = thereafter.ends;
}

-- whichever trees those are of which the node becomes or stops being a leaf
pub row_made : (place : EdgePlace) (now : ℕ) (part : LabelData) (wants : Fec → Bool) (fecs : List Fec) → part.ends ≡ maps.empty
    → RowMade part (label_row place now part (map (λ fec. cond (wants fec) (Want fec) (Unwant fec)) fecs))
row_made place now part wants [] e = record { row = []; is = refl; ends = e }
row_made place now part wants (fec ∷ more) e =
    let made = turned (label_place place.scenario place.core place.me) now part (wants fec) fec e in
    row_by place now part (turn (wants fec) fec) (map (λ fec. cond (wants fec) (Want fec) (Unwant fec)) more) made
    (row_made place now made.new.part wants more made.ends)
