-- What happens to one view, over plain variables.
use Rattle.std.proofs.Common.{◌≡◌, ◌⊎◌, ℕ, Bool, true, false, List, [], ◌∷◌, ◌++◌, Option, Some, None, is_some, inl, inr, refl, sym, ap, subst}
use Rattle.std.proofs.lemmas.Bool.{cases_Bool}
use Rattle.mv_base.specs.declared.ids.NodeId.{NodeId}
use Rattle.mldp.specs.declared.mldp_fec.fec.Fec.{Fec}
use Rattle.mldp.specs.declared.mldp_msgs.message.LabelMessage.{LabelMessage}
use Rattle.mldp.specs.declared.mldp_msgs.message.LabelMessage.TheVariants as messages
use Rattle.label_defs.specs.declared.end.End.{End}
use Rattle.label_defs.specs.declared.label_use.LabelUse.{LabelUse}
use Rattle.label_defs.specs.declared.label_use.LabelUse.TheVariants as uses
use Rattle.label_laws.specs.Rule.{IsUsedTowards, IsOther, Idle, none, only, is_held, Phase, View}
use Rattle.label_laws.proofs.Phases.{mapping_taken, withdraw_taken, free_other, free_mapped, other_kept, withdraw_put, not_none, branch_held}
use Rattle.label_laws.proofs.Frames.{along_view}

-- where the label is not used towards u before nor after
pub other_view : (u : NodeId) (l : ℕ) (live : Bool) (near far : Option End) (s t : Option LabelUse) (ms bs : List LabelMessage) (o : Fec → Bool)
    → IsOther u s → IsOther u t → View u l live near far s ms bs o → View u l live near far t ms bs o
other_view u l live near far s t ms bs o a b v =
    record {
      phase = λ j. other_kept u l s t ms bs o a b (v.phase j);
      alone = λ f j e. elim (v.alone f j e) [ inl off ↦ inl off | inr h ↦ absurd (a f h) ];
      owner = λ f h. absurd (b f h);
      branch = v.branch;
    }

-- the use stays, or is not towards u before nor after
abbrev pub SameOrOther : NodeId → Option LabelUse → Option LabelUse → Type 0
SameOrOther u s t = (t ≡ s) ⊎ (IsOther u s × IsOther u t)

pub same_view : (u : NodeId) (l : ℕ) (live : Bool) (near far : Option End) (s t : Option LabelUse) (ms bs : List LabelMessage) (o : Fec → Bool)
    → SameOrOther u s t → View u l live near far s ms bs o → View u l live near far t ms bs o
same_view u l live near far s t ms bs o x v = elim x [
  | inl e ↦ along_view refl refl refl e refl refl refl v
  | inr y ↦ other_view u l live near far s t ms bs o y.0 y.1 v
]

pub mapping_view : (u : NodeId) (l : ℕ) (f : Fec) (near far : Option End) (s : Option LabelUse) (ms bs : List LabelMessage) (o : Fec → Bool)
    → is_some far ≡ true
    → View u l true near far s (messages.Mapping f l ∷ ms) bs o → View u l true near far s ms bs (only f)
mapping_view u l f near far s ms bs o on v =
    record { phase = λ j. mapping_taken u l f s ms bs o (v.phase j); alone = λ g j e. absurd cc; owner = v.owner; branch = λ g e. on }

pub withdraw_view : (u : NodeId) (l : ℕ) (f : Fec) (near far : Option End) (s : Option LabelUse) (ms bs : List LabelMessage) (o : Fec → Bool)
    → View u l true near far s (messages.Withdraw f l ∷ ms) bs o → View u l true near far s ms (bs ++ messages.Release f l ∷ []) none
withdraw_view u l f near far s ms bs o v =
    record { phase = λ j. withdraw_taken u l f s ms bs o (v.phase j); alone = λ g j e. absurd cc; owner = v.owner; branch = λ g e. absurd cc }

-- ns is what is in transit once it is put
pub free_view : (u : NodeId) (l : ℕ) (f : Fec) (live : Bool) (near far : Option End) (s : Option LabelUse) (ms ns bs : List LabelMessage)
    (o : Fec → Bool) → s ≡ Some uses.Free → (live ≡ true → ns ≡ ms ++ messages.Mapping f l ∷ []) → is_held near ≡ true
    → View u l live near far s ms bs o → View u l live near far (Some (uses.Mapped f u)) ns bs o
free_view u l f live near far s ms ns bs o e put held v =
    record {
      phase = λ j. let P : List LabelMessage → Type 0 = λ x. Phase u l (Some (uses.Mapped f u)) x bs o in
          subst P (sym (put j)) (free_mapped u l f s ms bs o (free_other u s e) (v.phase j));
      alone = λ g j q. elim (v.alone g j q) [ inl off ↦ inl off | inr h ↦ absurd (free_other u s e g h) ];
      owner = λ g h. held;
      branch = v.branch;
    }

one_tree : (f g : Fec) (u : NodeId) (s : Option LabelUse) → s ≡ Some (uses.Mapped f u) → IsUsedTowards g u s → f ≡ g
one_tree f g u s e h = elim h [ inl x ↦ cc | inr x ↦ absurd cc ]

pub left_view : (u : NodeId) (l : ℕ) (f : Fec) (live : Bool) (near far : Option End) (s : Option LabelUse) (ms ns bs : List LabelMessage)
    (o : Fec → Bool) → s ≡ Some (uses.Mapped f u) → (live ≡ true → ns ≡ ms ++ messages.Withdraw f l ∷ [])
    → View u l live near far s ms bs o → View u l live near far (Some (uses.Leaving f u)) ns bs o
left_view u l f live near far s ms ns bs o e put v =
    record {
      phase = λ j. let P : List LabelMessage → Type 0 = λ x. Phase u l (Some (uses.Leaving f u)) x bs o in
          subst P (sym (put j)) (withdraw_put u l f s ms bs o e (v.phase j));
      alone = λ g j q. elim (v.alone g j q) [ inl off ↦ inl off | inr h ↦ inr (inr (ap (λ x. Some (uses.Leaving x u)) (one_tree f g u s e h))) ];
      owner = λ g h. v.owner f (inl e);
      branch = v.branch;
    }

pub idle_view : (u : NodeId) (l : ℕ) (live : Bool) (near far : Option End) (s : Option LabelUse) → IsOther u s → View u l live near far s [] [] none
idle_view u l live near far s a =
    record {
      phase = λ j. record { kind = Idle; holds = (a, record { used = refl; put = refl; back = refl; branch = refl }) };
      alone = λ f j e. absurd cc;
      owner = λ f h. absurd (a f h);
      branch = λ f e. absurd cc;
    }

-- ---- ends and sessions

-- nothing is left in transit
pub cut_view : (u : NodeId) (l : ℕ) (live : Bool) (near far : Option End) (s : Option LabelUse) (ms bs : List LabelMessage) (o : Fec → Bool)
    → View u l live near far s ms bs o → View u l false near far s [] [] o
cut_view u l live near far s ms bs o v =
    record {
      phase = λ j. absurd cc;
      alone = λ f j e. elim (cases_Bool live) [
        | inl up ↦ inr (branch_held u l f s ms bs o e (v.phase up))
        | inr down ↦ v.alone f down e
      ];
      owner = v.owner;
      branch = v.branch;
    }

-- the owner's end is down, and the session is not joined
pub down_view : (u : NodeId) (l : ℕ) (live : Bool) (near far : Option End) (s t : Option LabelUse) (ms bs : List LabelMessage) (o : Fec → Bool)
    → live ≡ false → IsOther u t → View u l live near far s ms bs o → View u l live None far t ms bs o
down_view u l live near far s t ms bs o e a v =
    record { phase = λ j. absurd cc; alone = λ f j p. inl refl; owner = λ f h. absurd (a f h); branch = v.branch }

-- the far end is down, and the branch is dropped
pub bare_view : (u : NodeId) (l : ℕ) (live : Bool) (near far : Option End) (s : Option LabelUse) (ms bs : List LabelMessage) (o : Fec → Bool)
    → live ≡ false → View u l live near far s ms bs o → View u l live near None s ms bs none
bare_view u l live near far s ms bs o e v =
    record { phase = λ j. absurd cc; alone = λ f j p. absurd cc; owner = v.owner; branch = λ f p. absurd cc }

down_not_held : (near : Option End) → near ≡ None → is_held near ≡ true → ⊥
down_not_held None e h = absurd cc
down_not_held (Some end) e h = absurd cc

-- the owner's end comes up: no label is used towards u, and u has no branch
pub risen_view : (u : NodeId) (l : ℕ) (live : Bool) (near far new : Option End) (s : Option LabelUse) (ms bs : List LabelMessage) (o : Fec → Bool)
    → near ≡ None → o ≡ none → View u l live near far s ms bs o → View u l live new far s ms bs o
risen_view u l live near far new s ms bs o off empty v =
    record {
      phase = v.phase;
      alone = λ f j e. absurd (not_none o f empty e);
      owner = λ f h. absurd (down_not_held near off (v.owner f h));
      branch =
          v.branch;
    }

-- the far end comes up, or its hold is run
pub far_view : (u : NodeId) (l : ℕ) (live : Bool) (near far new : Option End) (s : Option LabelUse) (ms bs : List LabelMessage) (o : Fec → Bool)
    → is_some new ≡ true → View u l live near far s ms bs o → View u l live near new s ms bs o
far_view u l live near far new s ms bs o up v =
    record { phase = v.phase; alone = v.alone; owner = v.owner; branch = λ f e. up }

-- the joined session begins
pub begun_view : (u : NodeId) (l : ℕ) (live : Bool) (near far : Option End) (s : Option LabelUse) (ms bs : List LabelMessage) (o : Fec → Bool)
    → is_held near ≡ false → View u l live near far s ms bs o → View u l true near far s [] [] none
begun_view u l live near far s ms bs o unheld v =
    idle_view u l true near far s (λ f h. (let x = v.owner f h in absurd cc))
