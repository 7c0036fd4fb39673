-- A row of label steps that take nothing back.
use Rattle.std.proofs.Common.{◌≡◌, ℕ, Bool, true, false, cond, List, [], ◌∷◌, length, is_some, option_map, Option, Some, None, ◌⊎◌, inl, inr, refl, sym, ap, ◌∙◌}
use Rattle.std.specs.List.{AllByRecursion}
use Rattle.std.specs.Ordering.{eq_by_cmp}
use Rattle.std.specs.Cmp.{Equal-is}
use Rattle.std.specs.FinMap as maps
use Rattle.std.specs.FinMap.{FinMap}
use Rattle.mv_base.specs.Lists.{Among}
use Rattle.mv_base.specs.Number.{◌>>?◌}
use Rattle.mv_base.specs.declared.ids.NodeId.{NodeId}
use Rattle.mldp.specs.declared.mldp_fec.fec.Fec.{Fec}
use Rattle.label_defs.specs.Keys.{node_cmp}
use Rattle.label_defs.specs.LabelData.{Place, LabelData, is_up}
use Rattle.label_defs.specs.Steps as labels
use Rattle.label_defs.specs.Steps.{hold_run, raised_end, effect, label_step}
use Rattle.label_defs.specs.Settling.{Stepped}
use Rattle.label_defs.specs.declared.end.End.{End}
use Rattle.label_defs.proofs.IdLemmas.{up_after, step_ends, effect_ends}
use Rattle.label_defs.proofs.KeyLemmas.{node_cmp_total, node_cmp_exact}
use Rattle.label_defs.proofs.TimerLemmas.{timed_end}
use Rattle.edge_defs.specs.Place.{EdgePlace, label_place}
use Rattle.edge_defs.specs.Steps.{LabelStep, label_row, part_after}
use Rattle.growth_laws.specs.Labels.{Growing, TakesNothingBack}
use Rattle.growth_laws.proofs.Turns.{AreMappings}
use Rattle.growth_laws.proofs.Calls.{grows_on}

-- ---- ends that are up

was_up : (f : End → End) (o : Option End) → is_some (option_map f o) ≡ true → is_some o ≡ true
was_up f None e = e
was_up f (Some end) e = refl

raised_up : (part : LabelData) (peer to : NodeId) (end : End) → is_some (maps.get (maps.insert part.ends peer end) to) ≡ true
    → (is_up part to ≡ true) ⊎ (labels.Raised peer ≡ labels.Raised to)
raised_up part peer to end h = by (eq_by_cmp node_cmp to peer) refl (ap is_some (sym (maps.get-insert node_cmp_total part.ends peer end to)) ∙ h)
  where
    by : (b : Bool) → eq_by_cmp node_cmp to peer ≡ b → is_some (cond b (Some end) (maps.get part.ends to)) ≡ true
        → (is_up part to ≡ true) ⊎ (labels.Raised peer ≡ labels.Raised to)
    by true e k = inr (ap (λ (n : NodeId). labels.Raised n) (sym (node_cmp_exact to peer ((Equal-is (node_cmp to peer)).0 e))))
    by false e k = inl k

-- an end that is up after a call's own effect was up, or comes up by it
effect_up : (place : Place) (now : ℕ) (trees : List Fec) (part : LabelData) (call : labels.Call) (to : NodeId) → TakesNothingBack place trees call
    → is_up (effect place now part call).0.part to ≡ true → (is_up part to ≡ true) ⊎ (call ≡ labels.Raised to)
effect_up place now trees part (labels.Taken from message) to may h =
    inl (ap (λ (ends : FinMap node_cmp End). is_some (maps.get ends to)) (sym (effect_ends place now part from message)) ∙ h)
effect_up place now trees part (labels.Want fec) to may h = inl h
effect_up place now trees part (labels.Unwant fec) to may h = inl h
effect_up place now trees part (labels.Raised peer) to may h = raised_up part peer to (raised_end now) h
effect_up place now trees part (labels.Noticed peer) to may h = absurd may
effect_up place now trees part labels.Timers to may h =
    inl (was_up (hold_run place.life now) (maps.get part.ends to) (ap is_some (sym (timed_end place now part to)) ∙ h))
effect_up place now trees part labels.Rerouted to may h = absurd may

pub step_up : (place : Place) (now : ℕ) (trees : List Fec) (part : LabelData) (call : labels.Call) (new : Stepped) (to : NodeId)
    → TakesNothingBack place trees call → label_step place now part call ≡ Some new
    → is_up new.part to ≡ true → (is_up part to ≡ true) ⊎ (call ≡ labels.Raised to)
step_up place now trees part call new to may e h =
    let ends : is_up new.part to ≡ is_up (effect place now part call).0.part to =
    ap (λ (ends : FinMap node_cmp End). is_some (maps.get ends to)) (step_ends place now part call new e)
    ∙ up_after (effect place now part call).0.part.ends new.puts to in
    effect_up place now trees part call to may (sym ends ∙ h)

-- ---- a row

abbrev pub own_place : EdgePlace → Place
own_place place = label_place place.scenario place.core place.me

-- There is a row of steps, and after it the label part is growing again. All that is put is mappings, and an end that is up was up or
-- came up by one of the calls.
pub record RowGrows (place : EdgePlace) (now : ℕ) (trees : List Fec) (part : LabelData) (calls : List labels.Call) : Type 0 where
  pub row : List LabelStep
  pub made : label_row place now part calls ≡ Some row
  pub growing : Growing (own_place place) trees (part_after part row)
  pub many : length (part_after part row).labels ≡ length part.labels
  pub puts : AllByRecursion (λ (step : LabelStep). AreMappings trees step.new.puts) row
  pub ups : (to : NodeId) → is_up (part_after part row) to ≡ true → (is_up part to ≡ true) ⊎ Among (labels.Raised to) calls

pub row_grows : (place : EdgePlace) (now : ℕ) (trees : List Fec) (calls : List labels.Call) (part : LabelData)
    → AllByRecursion (TakesNothingBack (own_place place) trees) calls → Growing (own_place place) trees part → RowGrows place now trees part calls
row_grows place now trees [] part all g = record { row = []; made = refl; growing = g; many = refl; puts = tt; ups = λ to h. inl h }
row_grows place now trees (call ∷ more) part all g =
    let step = grows_on (own_place place) now trees part call g all.0 in
    let rest = row_grows place now trees more step.new.part all.1 step.growing in
    let first : LabelStep = record { old = part; call = call; new = step.new } in
    record {
      row = first ∷ rest.row;
      made =
          ap (λ (o : Option Stepped). o >>? λ new. label_row place now new.part more >>? λ thereafter. Some
          (record { old = part; call = call; new = new } ∷ thereafter)) step.stepped
          ∙ ap (λ (o : Option (List LabelStep)). o >>? λ thereafter. Some (first ∷ thereafter)) rest.made;
      growing = rest.growing;
      many = rest.many ∙ step.many;
      puts = (step.puts, rest.puts);
      ups = λ to h. elim (rest.ups to h) [
        | inr among ↦ inr (inr among)
        | inl up ↦ elim (step_up (own_place place) now trees part call step.new to all.0 step.stepped up) [
          | inl was ↦ inl was
          | inr is ↦ inr (inl (sym is))
        ]
      ];
    }
