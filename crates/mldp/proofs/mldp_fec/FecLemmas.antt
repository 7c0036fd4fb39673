-- The whole element: it is read exactly where it is spelled, and its first fault.
use Rattle.std.proofs.Common.{◌≡◌, ℕ, List, [], ◌∷◌, ◌++◌, Ok, Err, refl, subst, inl, inr}
use Rattle.mv_base.specs.Octets.{Cursor, Passes, IsOctets}
use Rattle.mv_base.proofs.Fields.{passes_then, passes_octets, passes_is, passes_split, bind_ok, bind_err, ok_is}
use Rattle.mldp.specs.declared.mldp_fec.fault.FecFault.{FecFault}
use Rattle.mldp.specs.declared.mldp_fec.fec.Fec.{Fec}
use Rattle.mldp.specs.mldp_fec.Reading.{kind_at, root_at, opaque_at, fec_at}
use Rattle.mldp.specs.mldp_fec.Spelling.{kind_octet, root, opaque, written, Spells}
use Rattle.mldp.specs.mldp_fec.FirstFault as faults
use Rattle.mldp.specs.mldp_fec.FirstFault.{FirstFault}
use Rattle.mldp.proofs.mldp_fec.KindLemmas.{kind_taken, kind_again, kind_fails, fails_kind}
use Rattle.mldp.proofs.mldp_fec.RootLemmas.{root_taken, root_again, root_fails, fails_root}
use Rattle.mldp.proofs.mldp_fec.OpaqueLemmas.{opaque_taken, opaque_read, opaque_fails, fails_opaque}

-- What is read stands there.
pub fec_taken : (c : Cursor) (x : Fec × Cursor) → IsOctets c.left → fec_at c ≡ Ok x → Passes c (written x.0) x.1 × Spells x.0 (written x.0)
unfolding fec_at
fec_taken c x fits e =
    let a = bind_ok (kind_at c) _ x e in
    let b = bind_ok (root_at a.0.1) _ x a.2 in
    let o = bind_ok (opaque_at b.0.1) _ x b.2 in
    let p = kind_taken c a.0 a.1 in
    let a_fits = passes_octets c (kind_octet a.0.0 ∷ []) a.0.1 p fits in
    let q = root_taken a.0.1 b.0 a_fits b.1 in
    let b_fits = passes_octets a.0.1 (root b.0.0) b.0.1 q.0 a_fits in
    let r = opaque_taken b.0.1 o.0 b_fits o.1 in
    let all =
    passes_then c (kind_octet a.0.0 ∷ []) a.0.1 (root b.0.0 ++ opaque o.0.0) o.0.1 p
    (passes_then a.0.1 (root b.0.0) b.0.1 (opaque o.0.0) o.0.1 q.0 r.0) in
    let made : Fec × Cursor = (record { kind = a.0.0; root = b.0.0; opaque = o.0.0 }, o.0.1) in
    let same : made ≡ x = ok_is made x o.2 in
    subst (λ (y : Fec × Cursor). Passes c (written y.0) y.1 × Spells y.0 (written y.0)) same
    (all, record { root = q.1; fits = r.1; shape = r.2; octets = refl })

-- What stands there is read.
pub fec_again : (c : Cursor) (f : Fec) (text : List ℕ) (d : Cursor) → Spells f text → Passes c text d → fec_at c ≡ Ok (f, d)
unfolding fec_at
fec_again c f text d spelled p =
    let s = passes_split c (kind_octet f.kind ∷ []) (root f.root ++ opaque f.opaque) d (passes_is c text (written f) d d p spelled.octets refl) in
    let t = passes_split s.0 (root f.root) (opaque f.opaque) d s.2 in
    rw (kind_again c f.kind s.0 s.1, root_again s.0 f.root t.0 t.1 spelled.root, opaque_read t.0 f.opaque d t.2 spelled.fits spelled.shape) refl

-- A fault that is answered is the first one.
pub fec_fails : (c : Cursor) (f : FecFault) → IsOctets c.left → fec_at c ≡ Err f → FirstFault c f
unfolding fec_at
fec_fails c f fits e =
    elim (bind_err (kind_at c) _ f e) [
      | inl h ↦ faults.in_kind (kind_fails c f h)
      | inr a ↦
          let p = kind_taken c a.0 a.1 in
          let a_fits = passes_octets c (kind_octet a.0.0 ∷ []) a.0.1 p fits in
          elim (bind_err (root_at a.0.1) _ f a.2) [
            | inl h ↦ faults.in_root a.0.0 a.0.1 p (root_fails a.0.1 f a_fits h)
            | inr b ↦
                let q = root_taken a.0.1 b.0 a_fits b.1 in
                let b_fits = passes_octets a.0.1 (root b.0.0) b.0.1 q.0 a_fits in
                elim (bind_err (opaque_at b.0.1) _ f b.2) [
                  | inl h ↦ faults.in_opaque a.0.0 b.0.0 a.0.1 b.0.1 p q.1 q.0 (opaque_fails b.0.1 f b_fits h)
                  | inr o ↦ absurd cc
                ]
          ]
    ]

-- The first fault is answered.
pub fails_fec : (c : Cursor) (f : FecFault) → IsOctets c.left → FirstFault c f → fec_at c ≡ Err f
unfolding fec_at
fails_fec c f fits (faults.in_kind h) = rw (fails_kind c f h) refl
fails_fec c f fits (faults.in_root k d p h) = rw (kind_again c k d p, fails_root d f h) refl
fails_fec c f fits (faults.in_opaque k a d e p addr q h) =
    let e_fits = passes_octets d (root a) e q (passes_octets c (kind_octet k ∷ []) d p fits) in
    rw (kind_again c k d p, root_again d a e q addr, fails_opaque e f e_fits h) refl
