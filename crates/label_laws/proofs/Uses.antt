-- What becomes of the use of a label that is released, freed or woken, and for whom that matters.
use Rattle.std.proofs.Common.{◌≡◌, ◌≢◌, ℕ, ◌+◌, ◌≤◌, ◌==◌, ◌&&◌, Bool, true, false, cond, ◌⊎◌, inl, inr, refl, sym, ap, subst, nat_le, Option, Some, None, option_map, arith}
use Rattle.std.proofs.lemmas.Bool.{cases_Bool, cond-true, cond-false, and_parts, leb-true}
use Rattle.mv_base.specs.declared.ids.NodeId.{NodeId}
use Rattle.mldp.specs.declared.mldp_fec.fec.Fec.{Fec}
use Rattle.label_defs.specs.declared.label_use.LabelUse.{LabelUse}
use Rattle.label_defs.specs.declared.label_use.LabelUse.TheVariants as uses
use Rattle.label_defs.specs.LabelData.{same_fec}
use Rattle.label_defs.specs.Steps.{released, freed, woken}
use Rattle.label_defs.proofs.KeyLemmas.{node_equal, node_itself, node_cases, node_apart}
use Rattle.label_laws.specs.Rule.{IsUsedTowards, IsOther, LabelCovers, mapped, leaving, resting}
use Rattle.label_laws.proofs.Views.{SameOrOther}
use Rattle.label_laws.proofs.Frames.{stand_along}

pub holds_along : (f : Fec) (u : NodeId) (r s : Option LabelUse) → r ≡ s → IsUsedTowards f u r → IsUsedTowards f u s
holds_along f u r s e h = let P : Option LabelUse → Type 0 = IsUsedTowards f u in subst P e h

pub other_along : (u : NodeId) (r s : Option LabelUse) → r ≡ s → IsOther u r → IsOther u s
other_along u r s e h = let P : Option LabelUse → Type 0 = IsOther u in subst P e h

pub mapped_other : (u : NodeId) (f : Fec) (v : NodeId) → u ≢ v → IsOther u (Some (uses.Mapped f v))
mapped_other u f v ne g h = elim h [ inl x ↦ (let same : u ≡ v = cc in ne same) | inr x ↦ absurd cc ]

pub leaving_other : (u : NodeId) (f : Fec) (v : NodeId) → u ≢ v → IsOther u (Some (uses.Leaving f v))
leaving_other u f v ne g h = elim h [ inl x ↦ absurd cc | inr x ↦ (let same : u ≡ v = cc in ne same) ]

pub free_is_other : (u : NodeId) → IsOther u (Some uses.Free)
free_is_other u g h = elim h [ inl x ↦ absurd cc | inr x ↦ absurd cc ]

pub resting_other : (u : NodeId) (until : ℕ) → IsOther u (Some (uses.Resting until))
resting_other u until g h = elim h [ inl x ↦ absurd cc | inr x ↦ absurd cc ]

pub none_other : (u : NodeId) → IsOther u None
none_other u g h = elim h [ inl x ↦ absurd cc | inr x ↦ absurd cc ]

-- what stands towards u for some copy
pub free_stands : (life : ℕ) (vpn_of : Fec → ℕ) (u : NodeId) (vpn t : ℕ) (s : Option LabelUse) → s ≡ Some uses.Free
    → LabelCovers life vpn_of u s vpn t → ⊥
free_stands life vpn_of u vpn t s e (mapped f h p) = absurd cc
free_stands life vpn_of u vpn t s e (leaving f h) = absurd cc
free_stands life vpn_of u vpn t s e (resting until h p) = absurd cc

pub left_stands : (life : ℕ) (vpn_of : Fec → ℕ) (u : NodeId) (vpn t : ℕ) (f : Fec) (v : NodeId) (s : Option LabelUse) → s ≡ Some (uses.Mapped f v)
    → LabelCovers life vpn_of u s vpn t → LabelCovers life vpn_of u (Some (uses.Leaving f v)) vpn t
left_stands life vpn_of u vpn t f v s e (mapped g h p) = leaving g cc
left_stands life vpn_of u vpn t f v s e (leaving g h) = absurd cc
left_stands life vpn_of u vpn t f v s e (resting until h p) = absurd cc

same_cond : (t : Bool) (x : LabelUse) → cond t x x ≡ x
same_cond true x = refl
same_cond false x = refl

-- a use that changes, if it does, from one towards a neighbour to one that no neighbour has
pub record Ends (v : NodeId) (old new : LabelUse) : Type 0 where
  pub fec : Fec
  pub was : (old ≡ uses.Mapped fec v) ⊎ (old ≡ uses.Leaving fec v)
  pub other : (u : NodeId) → IsOther u (Some new)

was_other : (u v : NodeId) (f : Fec) (old : LabelUse) → u ≢ v → (old ≡ uses.Mapped f v) ⊎ (old ≡ uses.Leaving f v) → IsOther u (Some old)
was_other u v f old ne h = elim h [
  | inl e ↦ other_along u (Some (uses.Mapped f v)) (Some old) (ap (λ (x : LabelUse). Some x) (sym e)) (mapped_other u f v ne)
  | inr e ↦ other_along u (Some (uses.Leaving f v)) (Some old) (ap (λ (x : LabelUse). Some x) (sym e)) (leaving_other u f v ne)
]

pub ends_same : (u v : NodeId) (old new : LabelUse) → u ≢ v → (new ≡ old) ⊎ Ends v old new → SameOrOther u (Some old) (Some new)
ends_same u v old new ne h = elim h [
  | inl e ↦ inl (ap (λ (x : LabelUse). Some x) e)
  | inr x ↦ inr (was_other u v x.fec old ne x.was, x.other u)
]

-- each use of an option
pub map_same_or_other : (u v : NodeId) (change : LabelUse → LabelUse) → u ≢ v → ((s : LabelUse) → (change s ≡ s) ⊎ Ends v s (change s))
    → (o : Option LabelUse) → SameOrOther u o (option_map change o)
map_same_or_other u v change ne h None = inl refl
map_same_or_other u v change ne h (Some s) = ends_same u v s (change s) ne (h s)

-- who held it before
pub map_held : (u v : NodeId) (f : Fec) (change : LabelUse → LabelUse) → ((s : LabelUse) → (change s ≡ s) ⊎ Ends v s (change s))
    → (o : Option LabelUse) → IsUsedTowards f u (option_map change o) → IsUsedTowards f u o
map_held u v f change h None x = x
map_held u v f change h (Some s) x = elim (h s) [
  | inl e ↦ holds_along f u (Some (change s)) (Some s) (ap (λ (y : LabelUse). Some y) e) x
  | inr y ↦ absurd (y.other u f x)
]

-- ---- a release

pub release_is : (t : Bool) (from : NodeId) (f : Fec) (until : ℕ) (s : LabelUse)
    → (cond t (released from f until s) s ≡ s) ⊎
    (Ends from s (cond t (released from f until s) s) × (cond t (released from f until s) s ≡ uses.Resting until))
release_is t from f until uses.Free = inl (same_cond t uses.Free)
release_is t from f until (uses.Mapped g v) = inl (same_cond t (uses.Mapped g v))
release_is t from f until (uses.Resting moment) = inl (same_cond t (uses.Resting moment))
release_is false from f until (uses.Leaving g v) = inl refl
release_is true from f until (uses.Leaving g v) = elim (cases_Bool (same_fec g f && v.0 == from.0)) [
  | inr h ↦ inl (cond-false (same_fec g f && v.0 == from.0) (uses.Resting until) (uses.Leaving g v) h)
  | inl h ↦
      let is = cond-true (same_fec g f && v.0 == from.0) (uses.Resting until) (uses.Leaving g v) h in
      inr (
        record {
          fec = g;
          was = inr (ap (λ (x : NodeId). uses.Leaving g x) (node_equal v from (and_parts (same_fec g f) (v.0 == from.0) h).1));
          other = λ u. other_along u (Some (uses.Resting until)) _ (ap (λ (x : LabelUse). Some x) (sym is)) (resting_other u until);
        },
        is,
      )
]

pub release_ends : (t : Bool) (from : NodeId) (f : Fec) (until : ℕ) (s : LabelUse)
    → (cond t (released from f until s) s ≡ s) ⊎ Ends from s (cond t (released from f until s) s)
release_ends t from f until s = elim (release_is t from f until s) [ inl e ↦ inl e | inr x ↦ inr x.0 ]

pub release_stands : (life : ℕ) (vpn_of : Fec → ℕ) (u : NodeId) (vpn at : ℕ) (t : Bool) (from : NodeId) (f : Fec) (until : ℕ) (o : Option LabelUse)
    → at + life + 1 ≤ until
    → LabelCovers life vpn_of u o vpn at → LabelCovers life vpn_of u (option_map (λ s. cond t (released from f until s) s) o) vpn at
release_stands life vpn_of u vpn at t from f until None past h = h
release_stands life vpn_of u vpn at t from f until (Some s) past h = elim (release_is t from f until s) [
  | inl e ↦ stand_along life vpn_of u vpn at (Some s) _ (ap (λ (x : LabelUse). Some x) e) h
  | inr x ↦ resting until (ap (λ (y : LabelUse). Some y) x.1) past
]

-- ---- a loss

freed_by : (t : Bool) (v : NodeId) (g : Fec) (s : LabelUse) → (s ≡ uses.Mapped g v) ⊎ (s ≡ uses.Leaving g v)
    → (cond t uses.Free s ≡ s) ⊎ Ends v s (cond t uses.Free s)
freed_by true v g s h = inr (record { fec = g; was = h; other = free_is_other })
freed_by false v g s h = inl refl

freed_from : (v node : NodeId) (g : Fec) (s : LabelUse) → (v ≡ node → (s ≡ uses.Mapped g node) ⊎ (s ≡ uses.Leaving g node))
    → (cond (v.0 == node.0) uses.Free s ≡ s) ⊎ Ends node s (cond (v.0 == node.0) uses.Free s)
freed_from v node g s h = elim (node_cases v node) [
  | inl e ↦ freed_by (v.0 == node.0) node g s (h e)
  | inr ne ↦ inl (cond-false (v.0 == node.0) uses.Free s (node_apart v node ne))
]

pub freed_ends : (node : NodeId) (s : LabelUse) → (freed node s ≡ s) ⊎ Ends node s (freed node s)
freed_ends node uses.Free = inl refl
freed_ends node (uses.Resting until) = inl refl
freed_ends node (uses.Mapped g v) = freed_from v node g (uses.Mapped g v) (λ e. inl (ap (λ (x : NodeId). uses.Mapped g x) e))
freed_ends node (uses.Leaving g v) = freed_from v node g (uses.Leaving g v) (λ e. inr (ap (λ (x : NodeId). uses.Leaving g x) e))

-- none is used towards the neighbour that was lost
freed_at : (node v : NodeId) (g : Fec) (s : LabelUse) → (v ≢ node → IsOther node (Some s)) → IsOther node (Some (cond (v.0 == node.0) uses.Free s))
freed_at node v g s h = elim (node_cases v node) [
  | inl e ↦ other_along node (Some uses.Free) _ (ap (λ (x : LabelUse). Some x) (sym (cond-true (v.0 == node.0) uses.Free s (node_itself v node e))))
      (free_is_other node)
  | inr ne ↦ other_along node (Some s) _ (ap (λ (x : LabelUse). Some x) (sym (cond-false (v.0 == node.0) uses.Free s (node_apart v node ne)))) (h ne)
]

pub freed_other : (node : NodeId) (o : Option LabelUse) → IsOther node (option_map (freed node) o)
freed_other node None = none_other node
freed_other node (Some uses.Free) = free_is_other node
freed_other node (Some (uses.Resting until)) = resting_other node until
freed_other node (Some (uses.Mapped g v)) = freed_at node v g (uses.Mapped g v) (λ ne. mapped_other node g v (λ e. ne (sym e)))
freed_other node (Some (uses.Leaving g v)) = freed_at node v g (uses.Leaving g v) (λ ne. leaving_other node g v (λ e. ne (sym e)))

-- where the use does not change, or was towards another neighbour, what stands towards u still does
pub ends_stands : (life : ℕ) (vpn_of : Fec → ℕ) (u v : NodeId) (vpn t : ℕ) (change : LabelUse → LabelUse) → u ≢ v
    → ((s : LabelUse) → (change s ≡ s) ⊎ Ends v s (change s)) → (o : Option LabelUse)
    → LabelCovers life vpn_of u o vpn t → LabelCovers life vpn_of u (option_map change o) vpn t
ends_stands life vpn_of u v vpn t change ne h None st = st
ends_stands life vpn_of u v vpn t change ne h (Some s) st = elim (h s) [
  | inl e ↦ stand_along life vpn_of u vpn t (Some s) (Some (change s)) (ap (λ (x : LabelUse). Some x) e) st
  | inr x ↦ absurd (stands_apart life vpn_of u v vpn t x.fec s ne x.was st)
]
  where
    stands_apart : (life : ℕ) (vpn_of : Fec → ℕ) (u v : NodeId) (vpn t : ℕ) (f : Fec) (s : LabelUse) → u ≢ v
        → (s ≡ uses.Mapped f v) ⊎ (s ≡ uses.Leaving f v) → LabelCovers life vpn_of u (Some s) vpn t → ⊥
    stands_apart life vpn_of u v vpn t f s ne was (mapped g e p) = was_other u v f s ne was g (inl e)
    stands_apart life vpn_of u v vpn t f s ne was (leaving g e) = was_other u v f s ne was g (inr e)
    stands_apart life vpn_of u v vpn t f s ne was (resting until e p) = elim was [ inl x ↦ absurd cc | inr x ↦ absurd cc ]

-- ---- the timers

woken_by : (u : NodeId) (t : Bool) (until : ℕ) → SameOrOther u (Some (uses.Resting until)) (Some (cond t uses.Free (uses.Resting until)))
woken_by u true until = inr (resting_other u until, free_is_other u)
woken_by u false until = inl refl

pub woken_same : (u : NodeId) (now : ℕ) (o : Option LabelUse) → SameOrOther u o (option_map (woken now) o)
woken_same u now None = inl refl
woken_same u now (Some uses.Free) = inl refl
woken_same u now (Some (uses.Mapped g v)) = inl refl
woken_same u now (Some (uses.Leaving g v)) = inl refl
woken_same u now (Some (uses.Resting until)) = woken_by u (nat_le until now) until

pub same_held : (u : NodeId) (f : Fec) (r s : Option LabelUse) → SameOrOther u r s → IsUsedTowards f u s → IsUsedTowards f u r
same_held u f r s x h = elim x [ inl e ↦ holds_along f u s r e h | inr y ↦ absurd (y.1 f h) ]

woken_stands_by : (life : ℕ) (vpn_of : Fec → ℕ) (u : NodeId) (vpn at now until : ℕ) (t : Bool) → nat_le until now ≡ t → now ≤ at + life
    → at + life + 1 ≤ until → LabelCovers life vpn_of u (Some (cond t uses.Free (uses.Resting until))) vpn at
woken_stands_by life vpn_of u vpn at now until true e young h = let le = leb-true until now e in absurd (omega (arith, le, young, h))
woken_stands_by life vpn_of u vpn at now until false e young h = resting until refl h

pub woken_stands : (life : ℕ) (vpn_of : Fec → ℕ) (u : NodeId) (vpn at now : ℕ) (o : Option LabelUse) → now ≤ at + life
    → LabelCovers life vpn_of u o vpn at → LabelCovers life vpn_of u (option_map (woken now) o) vpn at
woken_stands life vpn_of u vpn at now None young h = h
woken_stands life vpn_of u vpn at now (Some uses.Free) young h = h
woken_stands life vpn_of u vpn at now (Some (uses.Mapped g v)) young h = h
woken_stands life vpn_of u vpn at now (Some (uses.Leaving g v)) young h = h
woken_stands life vpn_of u vpn at now (Some (uses.Resting until)) young (mapped g e p) = absurd cc
woken_stands life vpn_of u vpn at now (Some (uses.Resting until)) young (leaving g e) = absurd cc
woken_stands life vpn_of u vpn at now (Some (uses.Resting until)) young (resting moment e p) =
    let same : moment ≡ until = cc in
    woken_stands_by life vpn_of u vpn at now until (nat_le until now) refl young (subst (λ x. at + life + 1 ≤ x) same p)
