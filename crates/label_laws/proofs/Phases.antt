-- What one message does to one phase, over plain variables.
use Rattle.std.proofs.Common.{◌≡◌, ◌⊎◌, ℕ, Bool, true, List, [], ◌∷◌, ◌++◌, Option, Some, inl, inr, refl, sym, ap, ◌∙◌}
use Rattle.mv_base.specs.declared.ids.NodeId.{NodeId}
use Rattle.mldp.specs.declared.mldp_fec.fec.Fec.{Fec}
use Rattle.mldp.specs.declared.mldp_msgs.message.LabelMessage.{LabelMessage}
use Rattle.mldp.specs.declared.mldp_msgs.message.LabelMessage.TheVariants as messages
use Rattle.label_defs.specs.declared.label_use.LabelUse.{LabelUse}
use Rattle.label_defs.specs.declared.label_use.LabelUse.TheVariants as uses
use Rattle.label_defs.proofs.KeyLemmas.{same_fec_equal}
use Rattle.label_laws.specs.Rule.{IsUsedTowards, IsOther, Kind, Mapping, Stands, MappingAndWithdraw, Withdraw, Release, Idle, none, only, Phase, PhaseIs}

-- ---- a mapping is taken: the branch stands

mapping_taken_at : (k : Kind) (u : NodeId) (l : ℕ) (f : Fec) (s : Option LabelUse) (ms bs : List LabelMessage) (o : Fec → Bool)
    → PhaseIs k u l s (messages.Mapping f l ∷ ms) bs o → Phase u l s ms bs (only f)
mapping_taken_at (Mapping g) u l f s ms bs o h = record { kind = Stands f; holds = record { used = cc; put = cc; back = h.back; branch = refl } }
mapping_taken_at (Stands g) u l f s ms bs o h = absurd cc
mapping_taken_at (MappingAndWithdraw g) u l f s ms bs o h =
    record { kind = Withdraw f; holds = record { used = cc; put = cc; back = h.back; branch = refl } }
mapping_taken_at (Withdraw g) u l f s ms bs o h = absurd cc
mapping_taken_at (Release g) u l f s ms bs o h = absurd cc
mapping_taken_at Idle u l f s ms bs o h = absurd cc

pub mapping_taken : (u : NodeId) (l : ℕ) (f : Fec) (s : Option LabelUse) (ms bs : List LabelMessage) (o : Fec → Bool)
    → Phase u l s (messages.Mapping f l ∷ ms) bs o → Phase u l s ms bs (only f)
mapping_taken u l f s ms bs o h = mapping_taken_at h.kind u l f s ms bs o h.holds

-- a mapping comes where no branch is, for a label that is held
pub record Comes (f : Fec) (u : NodeId) (s : Option LabelUse) (o : Fec → Bool) : Type 0 where
  pub held : IsUsedTowards f u s
  pub branch : o ≡ none

mapping_comes_at : (k : Kind) (u : NodeId) (l : ℕ) (f : Fec) (s : Option LabelUse) (ms bs : List LabelMessage) (o : Fec → Bool)
    → PhaseIs k u l s (messages.Mapping f l ∷ ms) bs o → Comes f u s o
mapping_comes_at (Mapping g) u l f s ms bs o h = record { held = inl cc; branch = h.branch }
mapping_comes_at (Stands g) u l f s ms bs o h = absurd cc
mapping_comes_at (MappingAndWithdraw g) u l f s ms bs o h = record { held = inr cc; branch = h.branch }
mapping_comes_at (Withdraw g) u l f s ms bs o h = absurd cc
mapping_comes_at (Release g) u l f s ms bs o h = absurd cc
mapping_comes_at Idle u l f s ms bs o h = absurd cc

pub mapping_comes : (u : NodeId) (l : ℕ) (f : Fec) (s : Option LabelUse) (ms bs : List LabelMessage) (o : Fec → Bool)
    → Phase u l s (messages.Mapping f l ∷ ms) bs o → Comes f u s o
mapping_comes u l f s ms bs o h = mapping_comes_at h.kind u l f s ms bs o h.holds

-- ---- a withdraw is taken, and answered

withdraw_taken_at : (k : Kind) (u : NodeId) (l : ℕ) (f : Fec) (s : Option LabelUse) (ms bs : List LabelMessage) (o : Fec → Bool)
    → PhaseIs k u l s (messages.Withdraw f l ∷ ms) bs o → Phase u l s ms (bs ++ messages.Release f l ∷ []) none
withdraw_taken_at (Mapping g) u l f s ms bs o h = absurd cc
withdraw_taken_at (Stands g) u l f s ms bs o h = absurd cc
withdraw_taken_at (MappingAndWithdraw g) u l f s ms bs o h = absurd cc
withdraw_taken_at (Withdraw g) u l f s ms bs o h =
    record { kind = Release f; holds = record { used = cc; put = cc; back = ap (λ x. x ++ messages.Release f l ∷ []) h.back; branch = refl } }
withdraw_taken_at (Release g) u l f s ms bs o h = absurd cc
withdraw_taken_at Idle u l f s ms bs o h = absurd cc

pub withdraw_taken : (u : NodeId) (l : ℕ) (f : Fec) (s : Option LabelUse) (ms bs : List LabelMessage) (o : Fec → Bool)
    → Phase u l s (messages.Withdraw f l ∷ ms) bs o → Phase u l s ms (bs ++ messages.Release f l ∷ []) none
withdraw_taken u l f s ms bs o h = withdraw_taken_at h.kind u l f s ms bs o h.holds

withdraw_comes_at : (k : Kind) (u : NodeId) (l : ℕ) (f : Fec) (s : Option LabelUse) (ms bs : List LabelMessage) (o : Fec → Bool)
    → PhaseIs k u l s (messages.Withdraw f l ∷ ms) bs o → o ≡ only f
withdraw_comes_at (Mapping g) u l f s ms bs o h = absurd cc
withdraw_comes_at (Stands g) u l f s ms bs o h = absurd cc
withdraw_comes_at (MappingAndWithdraw g) u l f s ms bs o h = absurd cc
withdraw_comes_at (Withdraw g) u l f s ms bs o h = let same : g ≡ f = cc in h.branch ∙ ap only same
withdraw_comes_at (Release g) u l f s ms bs o h = absurd cc
withdraw_comes_at Idle u l f s ms bs o h = absurd cc

pub withdraw_comes : (u : NodeId) (l : ℕ) (f : Fec) (s : Option LabelUse) (ms bs : List LabelMessage) (o : Fec → Bool)
    → Phase u l s (messages.Withdraw f l ∷ ms) bs o → o ≡ only f
withdraw_comes u l f s ms bs o h = withdraw_comes_at h.kind u l f s ms bs o h.holds

-- ---- a release comes only for a label that leaves, with nothing else in transit and no branch

pub record Released (u : NodeId) (l : ℕ) (f : Fec) (s : Option LabelUse) (ms bs : List LabelMessage) (o : Fec → Bool) : Type 0 where
  pub used : s ≡ Some (uses.Leaving f u)
  pub put : ms ≡ []
  pub back : bs ≡ []
  pub branch : o ≡ none

release_comes_at : (k : Kind) (u : NodeId) (l : ℕ) (f : Fec) (s : Option LabelUse) (ms bs : List LabelMessage) (o : Fec → Bool)
    → PhaseIs k u l s ms (messages.Release f l ∷ bs) o → Released u l f s ms bs o
release_comes_at (Mapping g) u l f s ms bs o h = absurd cc
release_comes_at (Stands g) u l f s ms bs o h = absurd cc
release_comes_at (MappingAndWithdraw g) u l f s ms bs o h = absurd cc
release_comes_at (Withdraw g) u l f s ms bs o h = absurd cc
release_comes_at (Release g) u l f s ms bs o h = record { used = cc; put = h.put; back = cc; branch = h.branch }
release_comes_at Idle u l f s ms bs o h = absurd cc

pub release_comes : (u : NodeId) (l : ℕ) (f : Fec) (s : Option LabelUse) (ms bs : List LabelMessage) (o : Fec → Bool)
    → Phase u l s ms (messages.Release f l ∷ bs) o → Released u l f s ms bs o
release_comes u l f s ms bs o h = release_comes_at h.kind u l f s ms bs o h.holds

-- ---- a free label has nothing in transit and no branch, so it can be mapped

pub free_other : (u : NodeId) (s : Option LabelUse) → s ≡ Some uses.Free → IsOther u s
free_other u s e f h = elim h [ inl x ↦ absurd cc | inr x ↦ absurd cc ]

free_mapped_at : (k : Kind) (u : NodeId) (l : ℕ) (f : Fec) (s : Option LabelUse) (ms bs : List LabelMessage) (o : Fec → Bool) → IsOther u s
    → PhaseIs k u l s ms bs o → Phase u l (Some (uses.Mapped f u)) (ms ++ messages.Mapping f l ∷ []) bs o
free_mapped_at (Mapping g) u l f s ms bs o a h = absurd (a g (inl h.used))
free_mapped_at (Stands g) u l f s ms bs o a h = absurd (a g (inl h.used))
free_mapped_at (MappingAndWithdraw g) u l f s ms bs o a h = absurd (a g (inr h.used))
free_mapped_at (Withdraw g) u l f s ms bs o a h = absurd (a g (inr h.used))
free_mapped_at (Release g) u l f s ms bs o a h = absurd (a g (inr h.used))
free_mapped_at Idle u l f s ms bs o a h =
    record {
      kind = Mapping f;
      holds =
          record { used = refl; put = ap (λ x. x ++ messages.Mapping f l ∷ []) h.1.put; back = h.1.back; branch = h.1.branch };
    }

pub free_mapped : (u : NodeId) (l : ℕ) (f : Fec) (s : Option LabelUse) (ms bs : List LabelMessage) (o : Fec → Bool) → IsOther u s
    → Phase u l s ms bs o → Phase u l (Some (uses.Mapped f u)) (ms ++ messages.Mapping f l ∷ []) bs o
free_mapped u l f s ms bs o a h = free_mapped_at h.kind u l f s ms bs o a h.holds

-- nothing changes as long as the label is not used towards u
other_kept_at : (k : Kind) (u : NodeId) (l : ℕ) (s t : Option LabelUse) (ms bs : List LabelMessage) (o : Fec → Bool) → IsOther u s → IsOther u t
    → PhaseIs k u l s ms bs o → Phase u l t ms bs o
other_kept_at (Mapping g) u l s t ms bs o a b h = absurd (a g (inl h.used))
other_kept_at (Stands g) u l s t ms bs o a b h = absurd (a g (inl h.used))
other_kept_at (MappingAndWithdraw g) u l s t ms bs o a b h = absurd (a g (inr h.used))
other_kept_at (Withdraw g) u l s t ms bs o a b h = absurd (a g (inr h.used))
other_kept_at (Release g) u l s t ms bs o a b h = absurd (a g (inr h.used))
other_kept_at Idle u l s t ms bs o a b h =
    record { kind = Idle; holds = (b, record { used = refl; put = h.1.put; back = h.1.back; branch = h.1.branch }) }

pub other_kept : (u : NodeId) (l : ℕ) (s t : Option LabelUse) (ms bs : List LabelMessage) (o : Fec → Bool) → IsOther u s → IsOther u t
    → Phase u l s ms bs o → Phase u l t ms bs o
other_kept u l s t ms bs o a b h = other_kept_at h.kind u l s t ms bs o a b h.holds

-- ---- a mapped label is withdrawn

withdraw_put_at : (k : Kind) (u : NodeId) (l : ℕ) (f : Fec) (s : Option LabelUse) (ms bs : List LabelMessage) (o : Fec → Bool)
    → s ≡ Some (uses.Mapped f u) → PhaseIs k u l s ms bs o → Phase u l (Some (uses.Leaving f u)) (ms ++ messages.Withdraw f l ∷ []) bs o
withdraw_put_at (Mapping g) u l f s ms bs o e h =
    let same : g ≡ f = cc in
    record {
      kind = MappingAndWithdraw f;
      holds =
          record {
            used = refl;
            put = ap (λ x. x ++ messages.Withdraw f l ∷ []) (h.put ∙ ap (λ x. messages.Mapping x l ∷ []) same);
            back =
                h.back;
            branch = h.branch;
          };
    }
withdraw_put_at (Stands g) u l f s ms bs o e h =
    let same : g ≡ f = cc in
    record {
      kind = Withdraw f;
      holds =
          record { used = refl; put = ap (λ x. x ++ messages.Withdraw f l ∷ []) h.put; back = h.back; branch = h.branch ∙ ap only same };
    }
withdraw_put_at (MappingAndWithdraw g) u l f s ms bs o e h = absurd cc
withdraw_put_at (Withdraw g) u l f s ms bs o e h = absurd cc
withdraw_put_at (Release g) u l f s ms bs o e h = absurd cc
withdraw_put_at Idle u l f s ms bs o e h = absurd (h.0 f (inl e))

pub withdraw_put : (u : NodeId) (l : ℕ) (f : Fec) (s : Option LabelUse) (ms bs : List LabelMessage) (o : Fec → Bool) → s ≡ Some (uses.Mapped f u)
    → Phase u l s ms bs o → Phase u l (Some (uses.Leaving f u)) (ms ++ messages.Withdraw f l ∷ []) bs o
withdraw_put u l f s ms bs o e h = withdraw_put_at h.kind u l f s ms bs o e h.holds

-- ---- a branch

-- a branch that is there is that of the label's use, which is mapped, or leaving with its withdraw in transit
pub not_none : (o : Fec → Bool) (f : Fec) → o ≡ none → o f ≡ true → ⊥
not_none o f e h = (let x = ap (λ (q : Fec → Bool). q f) e in absurd cc)

pub only_is : (o : Fec → Bool) (f g : Fec) → o ≡ only g → o f ≡ true → g ≡ f
only_is o f g e h = sym (same_fec_equal f g (sym (ap (λ (q : Fec → Bool). q f) e) ∙ h))

branch_held_at : (k : Kind) (u : NodeId) (l : ℕ) (f : Fec) (s : Option LabelUse) (ms bs : List LabelMessage) (o : Fec → Bool) → o f ≡ true
    → PhaseIs k u l s ms bs o
    → (s ≡ Some (uses.Mapped f u)) ⊎ ((s ≡ Some (uses.Leaving f u)) × (ms ≡ messages.Withdraw f l ∷ []))
branch_held_at (Mapping g) u l f s ms bs o e h = absurd (not_none o f h.branch e)
branch_held_at (Stands g) u l f s ms bs o e h = let same = only_is o f g h.branch e in inl (h.used ∙ ap (λ x. Some (uses.Mapped x u)) same)
branch_held_at (MappingAndWithdraw g) u l f s ms bs o e h = absurd (not_none o f h.branch e)
branch_held_at (Withdraw g) u l f s ms bs o e h = let same = only_is o f g h.branch e in
    inr (h.used ∙ ap (λ x. Some (uses.Leaving x u)) same, h.put ∙ ap (λ x. messages.Withdraw x l ∷ []) same)
branch_held_at (Release g) u l f s ms bs o e h = absurd (not_none o f h.branch e)
branch_held_at Idle u l f s ms bs o e h = absurd (not_none o f h.1.branch e)

pub branch_stands : (u : NodeId) (l : ℕ) (f : Fec) (s : Option LabelUse) (ms bs : List LabelMessage) (o : Fec → Bool) → o f ≡ true
    → Phase u l s ms bs o
    → (s ≡ Some (uses.Mapped f u)) ⊎ ((s ≡ Some (uses.Leaving f u)) × (ms ≡ messages.Withdraw f l ∷ []))
branch_stands u l f s ms bs o e h = branch_held_at h.kind u l f s ms bs o e h.holds

pub branch_held : (u : NodeId) (l : ℕ) (f : Fec) (s : Option LabelUse) (ms bs : List LabelMessage) (o : Fec → Bool) → o f ≡ true → Phase u l s ms bs o
    → IsUsedTowards f u s
branch_held u l f s ms bs o e h = elim (branch_stands u l f s ms bs o e h) [ inl x ↦ inl x | inr x ↦ inr x.0 ]
