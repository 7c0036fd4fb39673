-- Each call that takes nothing back leaves a growing node growing, and it never runs out of labels.
use Rattle.std.proofs.Common.{◌≡◌, ℕ, ◌<◌, Bool, true, false, cond, ◌||◌, List, length, replicate, Option, Some, None, option_map, ◌⊎◌, inl, inr, refl, sym, ap, subst, ◌∙◌}
use Rattle.std.specs.Ordering.{eq_by_cmp}
use Rattle.std.specs.FinMap as maps
use Rattle.std.specs.FinSet as sets
use Rattle.std.proofs.lemmas.Bool.{or_cases, or_left, or_right}
use Rattle.std.proofs.lemmas.List.{length-map, length-replicate}
use Rattle.mv_base.specs.Lists.{Among}
use Rattle.mv_base.specs.declared.ids.NodeId.{NodeId}
use Rattle.mldp.specs.declared.mldp_fec.fec.Fec.{Fec}
use Rattle.mldp.specs.declared.mldp_msgs.message.LabelMessage.TheVariants as messages
use Rattle.label_defs.specs.declared.branch.Branch.{Branch}
use Rattle.label_defs.specs.declared.label_use.LabelUse.{LabelUse}
use Rattle.label_defs.specs.declared.label_use.LabelUse.TheVariants as uses
use Rattle.label_defs.specs.Keys.{fec_cmp, branch_cmp}
use Rattle.label_defs.specs.LabelData.{Place, LabelData, fresh, same_fec, use_of, has_branch, has_tree}
use Rattle.label_defs.specs.Laws.{MappedThen}
use Rattle.label_defs.specs.Settling.{Stepped}
use Rattle.label_defs.specs.Settled.{Maps}
use Rattle.label_defs.specs.Steps.{Call, Taken, Want, Unwant, Raised, Noticed, Timers, Rerouted, branch_to, woken, raised_end, timed, effect, counted, label_step}
use Rattle.label_defs.proofs.KeyLemmas.{fec_cmp_total, fec_cmp_exact, branch_cmp_total, branch_cmp_exact, fec_cases, same_fec_equal}
use Rattle.label_defs.proofs.UseLemmas.{used_some}
use Rattle.label_defs.proofs.SetLemmas.{any_as, member_passes, passing_member, inserted_other}
use Rattle.label_defs.proofs.OwnLemmas.{effect_use}
use Rattle.label_defs.proofs.StepLemmas.{all_free}
use Rattle.label_defs.proofs.TreeLemmas.{not_both}
use Rattle.label_defs.proofs.WithdrawLemmas.{mapped_then}
use Rattle.growth_laws.specs.Labels.{AreAmong, IsFreeOrMaps, Growing, TakesNothingBack, GrowsOn}
use Rattle.growth_laws.proofs.Turns.{AreMappings, alike_grows, settles}

-- ---- the start, and more trees

none_mapped : (count : ℕ) (fec : Fec) (label : ℕ) (u : NodeId) → Maps (fresh count) fec label u → ⊥
none_mapped count fec label u p =
    (let x = all_free count _ (uses.Mapped fec u) (used_some (replicate count uses.Free) label (uses.Mapped fec u) p).1 in absurd cc)

no_tree : (count : ℕ) (fec : Fec) → has_tree (fresh count) fec ≡ true → ⊥
no_tree count fec h = elim (or_cases (has_branch (fresh count) fec) (sets.contains (sets.empty {R = fec_cmp}) fec) h) [
  | inl b ↦
      let x = passing_member branch_cmp_total branch_cmp_exact (λ (branch : Branch). same_fec branch.fec fec) (sets.empty {R = branch_cmp}) b in
      not_both (sets.contains (sets.empty {R = branch_cmp}) x.0) x.1 (sets.contains-empty branch_cmp x.0)
  | inr l ↦ not_both (sets.contains (sets.empty {R = fec_cmp}) fec) l (sets.contains-empty fec_cmp fec)
]

pub fresh_grows : (place : Place) (trees : List Fec) (count : ℕ) → length trees < count → Growing place trees (fresh count)
fresh_grows place trees count room =
    record {
      room = subst (λ n. length trees < n) (sym (length-replicate count uses.Free)) room;
      within = λ fec h. absurd (no_tree count fec h);
      used = λ label usage e. subst (IsFreeOrMaps trees) (sym (all_free count _ usage (used_some (replicate count uses.Free) label usage e).1)) tt;
      one = λ fec i j u v p q. absurd (none_mapped count fec i u p);
      toward = λ fec i u p. absurd (none_mapped count fec i u p);
      needed = λ fec i u p. absurd (none_mapped count fec i u p);
    }

used_with : (trees more : List Fec) (usage : LabelUse) → AreAmong trees more → IsFreeOrMaps trees usage → IsFreeOrMaps more usage
used_with trees more uses.Free all is = tt
used_with trees more (uses.Mapped fec u) all is = all fec is
used_with trees more (uses.Leaving fec u) all is = absurd is
used_with trees more (uses.Resting until) all is = absurd is

pub grows_with : (place : Place) (trees more : List Fec) (part : LabelData) → Growing place trees part → AreAmong trees more
    → length more < length part.labels → Growing place more part
grows_with place trees more part g all room =
    record {
      room = room;
      within = λ fec h. all fec (g.within fec h);
      used = λ label usage e. used_with trees more usage all (g.used label usage e);
      one = g.one;
      toward = g.toward;
      needed = g.needed;
    }

-- ---- what a call itself changes

module _ (place : Place) (trees : List Fec) (part : LabelData) (g : Growing place trees part) where
  abbrev with_branch : Branch → LabelData
  with_branch branch = record part { branches = sets.insert part.branches branch }

  branch_stays : (branch : Branch) (fec : Fec) → has_branch part fec ≡ true → has_branch (with_branch branch) fec ≡ true
  branch_stays branch fec h =
      let x = passing_member branch_cmp_total branch_cmp_exact (λ (own : Branch). same_fec own.fec fec) part.branches h in
      let there : sets.contains (sets.insert part.branches branch) x.0 ≡ true =
      sets.contains-insert branch_cmp_total part.branches branch x.0
      ∙ or_right (eq_by_cmp branch_cmp x.0 branch) (sets.contains part.branches x.0) x.1 in
      member_passes branch_cmp_total branch_cmp_exact (λ (own : Branch). same_fec own.fec fec) (sets.insert part.branches branch) x.0 there x.2

  other_trees : (branch : Branch) (fec : Fec) → (fec ≡ branch.fec → ⊥) → has_branch (with_branch branch) fec ≡ has_branch part fec
  other_trees branch fec ne =
      any_as branch_cmp_total branch_cmp_exact (λ (own : Branch). same_fec own.fec fec) (sets.insert part.branches branch) part.branches
      (λ own is. inserted_other branch_cmp_total branch_cmp_exact part.branches branch own
      (λ e. ne (sym (same_fec_equal own.fec fec is) ∙ ap (λ (b : Branch). b.fec) e)))

  branch_grows : (branch : Branch) → Among branch.fec trees → Growing place trees (with_branch branch)
  branch_grows branch among =
      alike_grows place trees part (with_branch branch) refl (λ label. refl)
      (λ fec h. elim (or_cases (has_branch part fec) (sets.contains part.leaves fec) h) [
        | inl b ↦ or_left (has_branch (with_branch branch) fec) (sets.contains part.leaves fec) (branch_stays branch fec b)
        | inr l ↦ or_right (has_branch (with_branch branch) fec) (sets.contains part.leaves fec) l
      ])
      (λ fec h. elim (fec_cases fec branch.fec) [
        | inl e ↦ subst (λ (x : Fec). Among x trees) (sym e) among
        | inr ne ↦ g.within fec (sym (ap (λ b. b || sets.contains part.leaves fec) (other_trees branch fec ne)) ∙ h)
      ])
      g

  mapping_grows : (branch : Branch) (t : Bool) → (t ≡ true → Among branch.fec trees) → Growing place trees (cond t (with_branch branch) part)
  mapping_grows branch true among = branch_grows branch (among refl)
  mapping_grows branch false among = g

  abbrev with_leaf : Fec → LabelData
  with_leaf leaf = record part { leaves = sets.insert part.leaves leaf }

  leaf_grows : (leaf : Fec) → Among leaf trees → Growing place trees (with_leaf leaf)
  leaf_grows leaf among =
      alike_grows place trees part (with_leaf leaf) refl (λ label. refl)
      (λ fec h. elim (or_cases (has_branch part fec) (sets.contains part.leaves fec) h) [
        | inl b ↦ or_left (has_branch part fec) (sets.contains (sets.insert part.leaves leaf) fec) b
        | inr l ↦ or_right (has_branch part fec) (sets.contains (sets.insert part.leaves leaf) fec)
            (sets.contains-insert fec_cmp_total part.leaves leaf fec ∙ or_right (eq_by_cmp fec_cmp fec leaf) (sets.contains part.leaves fec) l)
      ])
      (λ fec h. elim (fec_cases fec leaf) [
        | inl e ↦ subst (λ (x : Fec). Among x trees) (sym e) among
        | inr ne ↦ g.within fec (sym (ap (λ b. has_branch part fec || b) (inserted_other fec_cmp_total fec_cmp_exact part.leaves leaf fec ne)) ∙ h)
      ])
      g

  woken_same : (now : ℕ) (o : Option LabelUse) → ((usage : LabelUse) → o ≡ Some usage → IsFreeOrMaps trees usage) → option_map (woken now) o ≡ o
  woken_same now None each = refl
  woken_same now (Some uses.Free) each = refl
  woken_same now (Some (uses.Mapped fec u)) each = refl
  woken_same now (Some (uses.Leaving fec u)) each = absurd (each (uses.Leaving fec u) refl)
  woken_same now (Some (uses.Resting until)) each = absurd (each (uses.Resting until) refl)

  timers_grow : (now : ℕ) → Growing place trees (timed place now part)
  timers_grow now =
      alike_grows place trees part (timed place now part) (length-map part.labels (woken now))
      (λ label. effect_use place now part Timers label ∙ woken_same now (use_of part label) (λ usage e. g.used label usage e))
      (λ fec h. h) (λ fec h. g.within fec h) g

  raise_grows : (now : ℕ) (peer : NodeId) → Growing place trees (record part { ends = maps.insert part.ends peer (raised_end now) })
  raise_grows now peer =
      alike_grows place trees part (record part { ends = maps.insert part.ends peer (raised_end now) }) refl (λ label. refl) (λ fec h. h)
      (λ fec h. g.within fec h) g

record Effect (place : Place) (trees : List Fec) (part : LabelData) (new : Stepped) : Type 0 where
  growing : Growing place trees new.part
  many : length new.part.labels ≡ length part.labels
  puts : AreMappings trees new.puts

mapping_many : (part next : LabelData) (t : Bool) → length next.labels ≡ length part.labels → length (cond t next part).labels ≡ length part.labels
mapping_many part next true e = e
mapping_many part next false e = refl

effect_grows : (place : Place) (now : ℕ) (trees : List Fec) (part : LabelData) (call : Call) → Growing place trees part
    → TakesNothingBack place trees call → Effect place trees part (effect place now part call).0
effect_grows place now trees part (Taken from (messages.Mapping fec label)) g may =
    record {
      growing = mapping_grows place trees part g (branch_to from fec label) (place.is_tree fec) may;
      many =
          mapping_many part (record part { branches = sets.insert part.branches (branch_to from fec label) }) (place.is_tree fec) refl;
      puts = tt;
    }
effect_grows place now trees part (Taken from (messages.Withdraw fec label)) g may = absurd may
effect_grows place now trees part (Taken from (messages.Release fec label)) g may = absurd may
effect_grows place now trees part (Taken from (messages.Ignored kind)) g may = record { growing = g; many = refl; puts = tt }
effect_grows place now trees part (Want fec) g may = record { growing = leaf_grows place trees part g fec may; many = refl; puts = tt }
effect_grows place now trees part (Unwant fec) g may = absurd may
effect_grows place now trees part (Raised peer) g may = record { growing = raise_grows place trees part g now peer; many = refl; puts = tt }
effect_grows place now trees part (Noticed peer) g may = absurd may
effect_grows place now trees part Timers g may =
    record { growing = timers_grow place trees part g now; many = length-map part.labels (woken now); puts = tt }
effect_grows place now trees part Rerouted g may = absurd may

-- ---- steps

pub grows_on : (place : Place) (now : ℕ) (trees : List Fec) (part : LabelData) (call : Call) → Growing place trees part
    → TakesNothingBack place trees call → GrowsOn place now trees part call
grows_on place now trees part call g may =
    let own = effect place now part call in
    let start = effect_grows place now trees part call g may in
    let s = settles place trees own.1 own.0 start.growing start.puts in
    let stepped : label_step place now part call ≡ Some (counted s.new) = ap (option_map counted) s.is in
    let growing : Growing place trees (counted s.new).part =
    alike_grows place trees s.new.part (counted s.new).part refl (λ label. refl) (λ fec h. h) (λ fec h. s.growing.within fec h) s.growing in
    record {
      new = counted s.new;
      stepped = stepped;
      growing = growing;
      many = s.many ∙ start.many;
      kept = λ fec label u p. stays fec label u growing (mapped_then place now part call (counted s.new) label fec u stepped p);
      puts = s.puts;
    }
  where
    stays : (fec : Fec) (label : ℕ) (u : NodeId) {new : Stepped} → Growing place trees new.part
        → MappedThen new.part new.puts fec u label ⊎ (call ≡ Noticed u) → Maps new.part fec label u
    stays fec label u growing (inl (inl maps)) = maps
    stays fec label u growing (inl (inr gone)) = absurd (growing.used label (uses.Leaving fec u) gone.leaves)
    stays fec label u growing (inr loss) = absurd (subst (TakesNothingBack place trees) loss may)
