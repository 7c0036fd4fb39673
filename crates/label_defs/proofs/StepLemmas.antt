-- Each label step keeps all trees settled, and a settled tree needs nothing.
use Rattle.std.proofs.Common.{◌≡◌, ℕ, ◌+◌, Bool, true, false, not, ◌&&◌, List, [], ◌∷◌, ◌++◌, replicate, slice_get, zero, suc, Option, Some, None, is_some, refl, sym, ap, subst, ◌∙◌}
use Rattle.std.proofs.lemmas.Bool.{and_left, or_from, false_from_ne_true}
use Rattle.std.proofs.lemmas.List.{append-nil}
use Rattle.std.proofs.lemmas.Option.{none-some, same_Some}
use Rattle.std.specs.FinSet as sets
use Rattle.std.specs.FinSet.{FinSet}
use Rattle.mldp.specs.mv_base.Number.{◌>>?◌}
use Rattle.mldp.specs.mv_base.declared.ids.NodeId.{NodeId}
use Rattle.mldp.specs.declared.mldp_fec.fec.Fec.{Fec}
use Rattle.mldp.specs.declared.mldp_msgs.message.LabelMessage.TheVariants as messages
use Rattle.label_defs.specs.declared.change.Change.{Change}
use Rattle.label_defs.specs.declared.put.Put.{Put}
use Rattle.label_defs.specs.declared.label_use.LabelUse.{LabelUse}
use Rattle.label_defs.specs.declared.label_use.LabelUse.TheVariants as uses
use Rattle.label_defs.specs.Keys.{fec_cmp, branch_cmp}
use Rattle.label_defs.specs.LabelData.{Place, LabelData, fresh, same_fec, use_of, free_label, mapped_label, has_branch, has_tree, trees}
use Rattle.label_defs.specs.Settling.{Stepped, upstream_of, holder_of, is_ready_to, change_by, change_of, changed, put_by, settle_all}
use Rattle.label_defs.specs.Steps.{Call, Taken, Want, Unwant, Raised, Noticed, Timers, Rerouted, twice, branch_to, effect, counted, label_step}
use Rattle.label_defs.specs.Settled.{Settled, AllSettled, MayBe}
use Rattle.label_defs.proofs.KeyLemmas.{fec_cmp_total, fec_cmp_exact, branch_cmp_total, branch_cmp_exact}
use Rattle.label_defs.proofs.UseLemmas.{used_some, map_some, mapped_none, mapped_some}
use Rattle.label_defs.proofs.SetLemmas.{passing_member, inserted_again, removed_again}
use Rattle.label_defs.proofs.TreeLemmas.{like_settled, not_both, is_ready_at, at_root, needs_end, holder, one_neighbour, kept_change}
use Rattle.label_defs.proofs.SettleLemmas.{Good, settle_all_good}
use Rattle.label_defs.proofs.EffectLemmas.{branch_dropped, nothing_changed, mapping_taken, leaf_added, leaf_dropped, raised, release_taken}
use Rattle.label_defs.proofs.IdLemmas.{counted_ready}
use Rattle.label_defs.proofs.LossLemmas.{loss_good}
use Rattle.label_defs.proofs.TimerLemmas.{timed_good}

-- ---- a fresh node

pub all_free : (count k : ℕ) (usage : LabelUse) → slice_get (replicate count uses.Free) k ≡ Some usage → usage ≡ uses.Free
all_free zero k usage e = absurd (none-some usage e)
all_free (suc count) zero usage e = sym (same_Some uses.Free usage e)
all_free (suc count) (suc k) usage e = all_free count k usage e

pub fresh_settled : (place : Place) (count : ℕ) → AllSettled place (fresh count)
fresh_settled place count fec =
    let none : (label : ℕ) (u : NodeId) → use_of (fresh count) label ≡ Some (uses.Mapped fec u) → ⊥ =
    λ label u p. (let x = all_free count _ (uses.Mapped fec u) (used_some (replicate count uses.Free) label (uses.Mapped fec u) p).1 in absurd cc)
    in
    let no_branch : has_branch (fresh count) fec ≡ false = false_from_ne_true (has_branch (fresh count) fec) (λ e.
    let x = passing_member branch_cmp_total branch_cmp_exact (λ branch. same_fec branch.fec fec) (sets.empty {R = branch_cmp}) e in
    not_both (sets.contains (sets.empty {R = branch_cmp}) x.0) x.1 (sets.contains-empty branch_cmp x.0)) in
    let off : has_tree (fresh count) fec ≡ false =
    or_from (has_branch (fresh count) fec) (sets.contains (sets.empty {R = fec_cmp}) fec) no_branch (sets.contains-empty fec_cmp fec) in
    record {
      one = λ i j u v p q. absurd (none i u p);
      toward = λ i u p. absurd (none i u p);
      needed = λ i u p. absurd (none i u p);
      mapped = λ u h e r. absurd (not_both (has_tree (fresh count) fec) h off);
      waiting =
          sets.contains-empty fec_cmp fec ∙ sym (and_left (has_tree (fresh count) fec)
          (is_some (place.upstream fec) && not (is_ready_to (fresh count) (place.upstream fec))) off);
    }

-- ---- steps

effect_good : (place : Place) (now : ℕ) (part : LabelData) (call : Call) → MayBe part call → AllSettled place part
    → Good place (effect place now part call).1 (effect place now part call).0.part
effect_good place now part (Taken from (messages.Mapping fec label)) may all = mapping_taken place part from fec label (place.is_tree fec) all
effect_good place now part (Taken from (messages.Withdraw fec label)) may all = branch_dropped place part (branch_to from fec label) all
effect_good place now part (Taken from (messages.Release fec label)) may all = release_taken place part from fec label (now + place.life + 1) all
effect_good place now part (Taken from (messages.Ignored kind)) may all = nothing_changed place [] part all
effect_good place now part (Want fec) may all = leaf_added place part fec all
effect_good place now part (Unwant fec) may all = leaf_dropped place part fec all
effect_good place now part (Raised peer) may all = raised place part peer now may all
effect_good place now part (Noticed peer) may all = loss_good place part peer all
effect_good place now part Timers may all = timed_good place now part all
effect_good place now part Rerouted may all = nothing_changed place (twice (trees part)) part all

-- ids that are counted change no tree
pub counted_settled : (place : Place) (mid : Stepped) (fec : Fec) → Settled place mid.part fec → Settled place (counted mid).part fec
counted_settled place mid fec s =
    like_settled place mid.part (counted mid).part fec (record { maps = λ l u p. p; ready = counted_ready mid; waiting = refl }) (λ l u p. p) refl s

pub step_settled : (place : Place) (now : ℕ) (part : LabelData) (call : Call) (new : Stepped) → MayBe part call → AllSettled place part
    → label_step place now part call ≡ Some new → AllSettled place new.part
step_settled place now part call new may all e fec =
    let own = effect place now part call in
    let x = map_some counted (settle_all place own.1 own.0) new e in
    let settled = settle_all_good place own.1 own.0 x.0 (effect_good place now part call may all) x.1 in
    subst (λ (s : Stepped). Settled place s.part fec) x.2 (counted_settled place x.0 fec (settled fec))

-- ---- a settled tree

-- a change that changes nothing and puts nothing
record Nothing (part : LabelData) (fec : Fec) (change : Change) : Type 0 where
  stays : changed part fec change ≡ Some part
  silent : put_by fec change ≡ []

nothing_by : (place : Place) (part : LabelData) (fec : Fec) (t : Bool) (mapped : Option ℕ) (holds up : Option NodeId) (ready : Bool) (free : Option ℕ)
    → has_tree part fec ≡ t → mapped_label part fec ≡ mapped → (mapped >>? λ label. upstream_of (use_of part label)) ≡ holds → place.upstream fec ≡ up
    → is_ready_to part up ≡ ready → Settled place part fec → Nothing part fec (change_by t mapped holds up ready free)
nothing_by place part fec true (Some label) holds up ready free h m o p q s =
    let x = mapped_some part fec label m in
    let near = one_neighbour holds up (sym o ∙ holder part fec label x.0 x.1 ∙ sym (s.toward label x.0 x.1).0 ∙ p) in
    let kept = kept_change holds up label ready free near in
    record { stays = ap (changed part fec) kept; silent = ap (put_by fec) kept }
nothing_by place part fec true None holds (Some u) true free h m o p q s = (let x = s.mapped u h p q in absurd (mapped_none part fec m x.0 u x.1))
nothing_by place part fec true None holds (Some u) false free h m o p q s =
    let waits =
    s.waiting ∙ needs_end (has_tree part fec) (place.upstream fec) u (is_ready_to part (place.upstream fec)) h p
    (is_ready_at place part fec u p ∙ q) in
    record {
      stays =
          ap (λ (w : FinSet fec_cmp). Some (record part { waiting = w })) (inserted_again fec_cmp_total fec_cmp_exact part.waiting fec waits);
      silent =
          refl;
    }
nothing_by place part fec true None holds None ready free h m o p q s =
    let waits = s.waiting ∙ at_root (has_tree part fec) (place.upstream fec) (is_ready_to part (place.upstream fec)) p in
    record {
      stays =
          ap (λ (w : FinSet fec_cmp). Some (record part { waiting = w })) (removed_again fec_cmp_total fec_cmp_exact part.waiting fec waits);
      silent =
          refl;
    }
nothing_by place part fec false (Some label) holds up ready free h m o p q s =
    let x = mapped_some part fec label m in
    absurd (not_both (has_tree part fec) (s.needed label x.0 x.1) h)
nothing_by place part fec false None holds up ready free h m o p q s =
    let waits = s.waiting ∙ and_left (has_tree part fec) (is_some (place.upstream fec) && not (is_ready_to part (place.upstream fec))) h in
    record {
      stays =
          ap (λ (w : FinSet fec_cmp). Some (record part { waiting = w })) (removed_again fec_cmp_total fec_cmp_exact part.waiting fec waits);
      silent =
          refl;
    }

pub needs_nothing : (place : Place) (old : Stepped) (fec : Fec) → Settled place old.part fec → settle_all place (fec ∷ []) old ≡ Some old
needs_nothing place old fec s =
    let part = old.part in
    let change = change_of place part fec in
    let x = nothing_by place part fec (has_tree part fec) (mapped_label part fec) (holder_of part fec) (place.upstream fec)
    (is_ready_to part (place.upstream fec)) (free_label part) refl refl refl refl refl s in
    ap (λ (o : Option LabelData). o >>? λ new. Some (record { part = new; puts = old.puts ++ put_by fec change })) x.stays
    ∙ ap (λ (puts : List Put). Some (record { part = part; puts = old.puts ++ puts })) x.silent
    ∙ ap (λ (puts : List Put). Some (record { part = part; puts = puts })) (append-nil old.puts)
