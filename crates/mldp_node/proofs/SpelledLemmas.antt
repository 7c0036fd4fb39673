-- What a node puts has a spelling.
use Rattle.std.proofs.Common.{◌≡◌, ℕ, ◌-◌, ◌≤◌, Bool, true, false, cond, List, [], ◌++◌, All, Option, Some, None, inl, inr, refl, sym, ap, subst, ◌∙◌, arith}
use Rattle.std.specs.FinSet as sets
use Rattle.std.proofs.lemmas.Bool.{cases_eq, or_cases}
use Rattle.std.proofs.lemmas.List.{length-set, append-nil}
use Rattle.std.proofs.lemmas.List.Elements.{All-push}
use Rattle.std.proofs.lemmas.Option.{same_Some, slice_get_within}
use Rattle.mv_base.specs.declared.ids.NodeId.{NodeId}
use Rattle.mldp.specs.declared.mldp_fec.fec.Fec.{Fec}
use Rattle.mldp.specs.mldp_msgs.Spelling.{IsElement, IsLabel}
use Rattle.mldp.specs.declared.mldp_msgs.message.LabelMessage.TheVariants as messages
use Rattle.label_defs.specs.declared.change.Change.{Change}
use Rattle.label_defs.specs.declared.change.Change.TheVariants as changes
use Rattle.label_defs.specs.declared.label_use.LabelUse.{LabelUse}
use Rattle.label_defs.specs.declared.label_use.LabelUse.TheVariants as uses
use Rattle.label_defs.specs.declared.put.Put.{Put}
use Rattle.label_defs.specs.LabelData.{LabelData, same_fec, use_of, has_tree, has_branch, mapped_label, free_label}
use Rattle.label_defs.specs.Settling.{Stepped, change_by, withdrawn, same_neighbour, holder_of, is_ready_to, with_use}
use Rattle.label_defs.proofs.KeyLemmas.{branch_cmp_total, branch_cmp_exact, same_fec_equal}
use Rattle.label_defs.proofs.SetLemmas.{passing_member}
use Rattle.label_defs.proofs.TreeLemmas.{one_tree}
use Rattle.label_defs.proofs.UseLemmas.{used_some, set_here, set_there, mapped_some, free_some}
use Rattle.mldp_node.specs.Parts.{AreSpelled, IsPut, after_change, change_toward, settled_toward}

-- ---- what a change tells

abbrev pub Told : Bool → Option ℕ → Option NodeId → Option ℕ → Change → Type 0
Told on mapped upstream free changes.Keep = (label : ℕ) × (mapped ≡ Some label)
Told on mapped upstream free (changes.Map to label) = (on ≡ true) × (free ≡ Some label)
Told on mapped upstream free (changes.Withdraw to label) = mapped ≡ Some label
Told on mapped upstream free changes.Wait = (on ≡ true) × (mapped ≡ None) × ((neighbour : NodeId) × (upstream ≡ Some neighbour))
Told on mapped upstream free other = Unit {0}

withdrawn_told : (on : Bool) (label : ℕ) (holder upstream : Option NodeId) (free : Option ℕ)
    → Told on (Some label) upstream free (withdrawn label holder)
withdrawn_told on label None upstream free = (label, refl)
withdrawn_told on label (Some x) upstream free = refl

moved_told : (t : Bool) (label : ℕ) (holder upstream : Option NodeId) (free : Option ℕ)
    → Told true (Some label) upstream free (cond t changes.Keep (withdrawn label holder))
moved_told true label holder upstream free = (label, refl)
moved_told false label holder upstream free = withdrawn_told true label holder upstream free

pub told : (on : Bool) (mapped : Option ℕ) (holder upstream : Option NodeId) (ready : Bool) (free : Option ℕ)
    → Told on mapped upstream free (change_by on mapped holder upstream ready free)
told true (Some label) holder upstream ready free = moved_told (same_neighbour holder upstream) label holder upstream free
told true None holder (Some x) true (Some label) = (refl, refl)
told true None holder (Some x) true None = tt
told true None holder (Some x) false free = (refl, refl, (x, refl))
told true None holder None ready free = tt
told false (Some label) holder upstream ready free = withdrawn_told false label holder upstream free
told false None holder upstream ready free = tt

-- ---- what has a spelling

pub on_tree : (part : LabelData) (fec : Fec) → AreSpelled part → has_tree part fec ≡ true → IsElement fec
on_tree part fec h e = elim (or_cases (has_branch part fec) (sets.contains part.leaves fec) e) [
  | inl t ↦ let x = passing_member branch_cmp_total branch_cmp_exact (λ branch. same_fec branch.fec fec) part.branches t in
      subst IsElement (same_fec_equal x.0.fec fec x.2) (h.branches x.0 x.1)
  | inr t ↦ h.leaves fec t
]

label_fits : (part : LabelData) (label : ℕ) (usage : LabelUse) → AreSpelled part → use_of part label ≡ Some usage → IsLabel label
label_fits part label usage h e =
    let x = used_some part.labels label usage e in
    let low = x.0 in
    let within = slice_get_within part.labels (label - 16) usage x.1 in
    let few = h.few in
    (low, omega (arith, low, within, few))

pub with_use_spelled : (part : LabelData) (label : ℕ) (old new : LabelUse) → use_of part label ≡ Some old → AreSpelled part
    → ((f : Fec) (u : NodeId) → new ≡ uses.Mapped f u → IsElement f) → AreSpelled (with_use part label new)
with_use_spelled part label old new is h own = record {
  leaves = h.leaves;
  branches = h.branches;
  mapped = λ f l u m. elim (cases_eq l label) [
    | inl e ↦ own f u (same_Some new (uses.Mapped f u) (sym (set_here part label old new is) ∙ ap (use_of (with_use part label new)) (sym e) ∙ m))
    | inr ne ↦ h.mapped f l u (sym (set_there part label old new l is ne) ∙ m)
  ];
  few = subst (λ n. n ≤ 65536) (sym (length-set part.labels (label - 16) new)) h.few;
}

kept_puts : (puts : List Put) → All IsPut puts → All IsPut (puts ++ [])
kept_puts puts h = subst (λ (xs : List Put). All IsPut xs) (sym (append-nil puts)) h

good : (upstream : Option NodeId) (old : Stepped) (fec : Fec) (change : Change) (new : Stepped) → AreSpelled old.part → All IsPut old.puts
    → Told (has_tree old.part fec) (mapped_label old.part fec) upstream (free_label old.part) change
    → after_change old fec change ≡ Some new → AreSpelled new.part × All IsPut new.puts
good upstream old fec changes.Keep new h k t e =
    subst (λ (s : Stepped). AreSpelled s.part × All IsPut s.puts) (same_Some _ new e) (h, kept_puts old.puts k)
good upstream old fec changes.Wait new h k t e = subst (λ (s : Stepped). AreSpelled s.part × All IsPut s.puts) (same_Some _ new e)
    (record { leaves = h.leaves; branches = h.branches; mapped = h.mapped; few = h.few }, kept_puts old.puts k)
good upstream old fec changes.Cancel new h k t e = subst (λ (s : Stepped). AreSpelled s.part × All IsPut s.puts) (same_Some _ new e)
    (record { leaves = h.leaves; branches = h.branches; mapped = h.mapped; few = h.few }, kept_puts old.puts k)
good upstream old fec changes.NoLabel new h k t e = absurd cc
good upstream old fec (changes.Map to label) new h k t e =
    let element : IsElement fec = on_tree old.part fec h t.0 in
    let free = (free_some old.part label t.1).free in
    let more = with_use_spelled old.part label uses.Free (uses.Mapped fec to) free h (λ f u is. subst IsElement (one_tree fec f to u is).0 element) in
    subst (λ (s : Stepped). AreSpelled s.part × All IsPut s.puts) (same_Some _ new e) (
      record { leaves = more.leaves; branches = more.branches; mapped = more.mapped; few = more.few },
      All-push IsPut old.puts (record { to = to; message = messages.Mapping fec label }) k (element, label_fits old.part label uses.Free h free),
    )
good upstream old fec (changes.Withdraw to label) new h k t e =
    let own = mapped_some old.part fec label t in
    let more = with_use_spelled old.part label (uses.Mapped fec own.0) (uses.Leaving fec to) own.1 h (λ f u is. absurd cc) in
    subst (λ (s : Stepped). AreSpelled s.part × All IsPut s.puts) (same_Some _ new e) (
      more,
      All-push IsPut old.puts (record { to = to; message = messages.Withdraw fec label }) k
          (h.mapped fec label own.0 own.1, label_fits old.part label (uses.Mapped fec own.0) h own.1),
    )

pub settled_spelled : (upstream : Option NodeId) (fec : Fec) (old new : Stepped) → settled_toward upstream fec old ≡ Some new → AreSpelled old.part
    → All IsPut old.puts → AreSpelled new.part × All IsPut new.puts
settled_spelled upstream fec old new e h k = good upstream old fec (change_toward upstream old.part fec) new h k
    (told (has_tree old.part fec) (mapped_label old.part fec) (holder_of old.part fec) upstream (is_ready_to old.part upstream) (free_label old.part))
    e
