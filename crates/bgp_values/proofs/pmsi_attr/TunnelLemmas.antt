-- The tunnel: its identifier is read exactly where it stands, and its faults.
use Rattle.std.proofs.Common.{◌≡◌, ◌≢◌, ℕ, ◌+◌, ◌≤◌, ◌⊎◌, Bool, true, false, eqb, leb, List, [], ◌++◌, length, Result, Ok, Err, refl, sym, ap, subst, ◌∙◌, arith, inl, inr, ◌&&◌}
use Rattle.std.proofs.lemmas.Bool.{eqb-true, eq-eqb, ne_eqb, eqb-false, leb-true, leb-false, le-leb, lt-leb}
use Rattle.std.proofs.lemmas.List.{nil_from_length, append-nil, length-append}
use Rattle.mv_base.specs.declared.addr.Addr.TheVariants.{V4, V6}
use Rattle.mv_base.specs.Octets.{Cursor, IsOctets}
use Rattle.mv_base.specs.Cursor.{start}
use Rattle.mv_base.proofs.Fields.{passes_end, bind_ok, bind_err, ok_is, err_is, err_again, checked_ok, checked_err, chosen}
use Rattle.mldp.specs.declared.mldp_fec.fault.FecFault.{FecFault}
use Rattle.mldp.specs.declared.mldp_fec.fec.Fec.{Fec}
use Rattle.mldp.specs.declared.mldp_fec.fec.FecKind.{FecKind}
use Rattle.mldp.specs.declared.mldp_fec.fec.FecKind.TheVariants.{P2mp, Up, Down}
use Rattle.mldp.specs.mldp_fec.Reading.{fec_at}
use Rattle.mldp.specs.mldp_fec.Spelling as fec
use Rattle.mldp.proofs.mldp_fec.FecLemmas.{fec_taken, fec_again, fec_fails, fails_fec}
use Rattle.bgp_values.specs.declared.pmsi_attr.fault.PmsiFault.{PmsiFault}
use Rattle.bgp_values.specs.declared.pmsi_attr.fault.PmsiReason.TheVariants as reasons
use Rattle.bgp_values.specs.declared.pmsi_attr.pmsi.Tunnel.{Tunnel}
use Rattle.bgp_values.specs.declared.pmsi_attr.pmsi.Tunnel.TheVariants as tunnels
use Rattle.bgp_values.specs.pmsi_attr.Reading.{misfit, is_p2mp, moved, mldp_of, ingress_of, tunnel_of}
use Rattle.bgp_values.specs.pmsi_attr.Spelling.{IsKept, IsTunnel, type_octet, identifier}
use Rattle.bgp_values.specs.pmsi_attr.FirstFault as faults
use Rattle.bgp_values.specs.pmsi_attr.FirstFault.{Is, IdentifierFault}

-- type and identifier name the tunnel
abbrev pub Names : ℕ → List ℕ → Tunnel → Type 0
Names kind octets t = (kind ≡ type_octet t) × (octets ≡ identifier t) × IsTunnel t

both_true : (a b : Bool) → (a && b) ≡ true → (a ≡ true) × (b ≡ true)
both_true true b e = (refl, e)
both_true false b e = absurd cc

one_false : (a b : Bool) → (a && b) ≡ false → (a ≡ false) ⊎ (b ≡ false)
one_false true b e = inr e
one_false false b e = inl refl

second_false : (a b : Bool) → b ≡ false → (a && b) ≡ false
second_false true b e = e
second_false false b e = refl

is_kind : (k : FecKind) → is_p2mp k ≡ true → k ≡ P2mp
is_kind P2mp e = refl
is_kind Up e = absurd cc
is_kind Down e = absurd cc

no_kind : (k : FecKind) → is_p2mp k ≡ false → k ≢ P2mp
no_kind P2mp e = absurd cc
no_kind Up e = λ same. absurd cc
no_kind Down e = λ same. absurd cc

kind_not : (k : FecKind) → k ≢ P2mp → is_p2mp k ≡ false
kind_not P2mp h = absurd (h refl)
kind_not Up h = refl
kind_not Down h = refl

moved_ok : {A : Type 0} (r : Result A FecFault) (x : A) → moved r ≡ Ok x → r ≡ Ok x
moved_ok (Ok y) x e = let same : y ≡ x = cc in ap (λ b. Ok b) same
moved_ok (Err f) x e = absurd cc

moved_err : {A : Type 0} (r : Result A FecFault) (f : PmsiFault) → moved r ≡ Err f
    → (g : FecFault) × (r ≡ Err g) × Is f (5 + g.place) (reasons.Fec g.reason)
moved_err (Ok y) f e = absurd cc
moved_err (Err g) f e = (g, refl, cc)

-- ---- type 2

-- where an element is read that does not end with the octets, others stand after it
thereafter : (octets text rest : List ℕ) (place : ℕ) → octets ≡ text ++ rest → place ≡ 0 + length text → place ≢ length octets → rest ≢ []
thereafter octets text rest place parts at other none =
    other (omega (arith, at, ap (λ (xs : List ℕ). length xs) parts, length-append text rest, ap (λ (xs : List ℕ). length xs) none))

mldp_taken : (octets : List ℕ) (t : Tunnel) → IsOctets octets → mldp_of octets ≡ Ok t → Names 2 octets t
unfolding mldp_of
mldp_taken octets t fits e =
    let a = bind_ok (moved (fec_at (start octets))) _ t e in
    let f = a.0.0 in
    let k = checked_ok (is_p2mp f.kind && eqb a.0.1.place (length octets)) misfit (tunnels.Mldp f) t a.2 in
    let both = both_true (is_p2mp f.kind) (eqb a.0.1.place (length octets)) k.0 in
    let p = fec_taken (start octets) a.0 fits (moved_ok (fec_at (start octets)) a.0 a.1) in
    let at : a.0.1.place ≡ length octets = eqb-true _ _ both.1 in
    let nothing : a.0.1.left ≡ [] = nil_from_length a.0.1.left (omega (arith, at, passes_end (start octets) (fec.written f) a.0.1 p.0)) in
    let whole : octets ≡ fec.written f = p.0.parts ∙ ap (λ (xs : List ℕ). fec.written f ++ xs) nothing ∙ append-nil (fec.written f) in
    subst (λ (u : Tunnel). Names 2 octets u) (sym k.1) (refl, whole, (is_kind f.kind both.0, p.1))

mldp_again : (f : Fec) → f.kind ≡ P2mp → fec.Spells f (fec.written f) → mldp_of (fec.written f) ≡ Ok (tunnels.Mldp f)
unfolding mldp_of
mldp_again f kind spelled =
    let d : Cursor = record { left = []; place = 0 + length (fec.written f) } in
    let read = fec_again (start (fec.written f)) f (fec.written f) d spelled (record { parts = sym (append-nil (fec.written f)); place = refl }) in
    rw (read, kind, eq-eqb (0 + length (fec.written f)) (length (fec.written f)) (omega arith)) refl

mldp_fails : (octets : List ℕ) (f : PmsiFault) → IsOctets octets → mldp_of octets ≡ Err f → IdentifierFault 2 octets f
unfolding mldp_of
mldp_fails octets f fits e =
    elim (bind_err (moved (fec_at (start octets))) _ f e) [
      | inl inner ↦
          let g = moved_err (fec_at (start octets)) f inner in
          faults.in_element refl g.0 (fec_fails (start octets) g.0 fits g.1) g.2
      | inr a ↦
          let x = a.0.0 in
          let k = checked_err (is_p2mp x.kind && eqb a.0.1.place (length octets)) misfit (tunnels.Mldp x) f a.2 in
          let p = fec_taken (start octets) a.0 fits (moved_ok (fec_at (start octets)) a.0 a.1) in
          elim (one_false (is_p2mp x.kind) (eqb a.0.1.place (length octets)) k.0) [
            | inl other ↦ faults.not_p2mp refl x (fec.written x) a.0.1.left p.1 p.0.parts (no_kind x.kind other) k.1
            | inr more ↦ faults.more_after refl x (fec.written x) a.0.1.left p.1 p.0.parts
                (thereafter octets (fec.written x) a.0.1.left a.0.1.place p.0.parts p.0.place (eqb-false _ _ more)) k.1
          ]
    ]

-- what is read where an element stands at the front
front_again : (octets : List ℕ) (x : Fec) (text rest : List ℕ) → fec.Spells x text → octets ≡ text ++ rest
    → fec_at (start octets) ≡ Ok (x, record { left = rest; place = 0 + length text })
front_again octets x text rest spelled parts =
    fec_again (start octets) x text (record { left = rest; place = 0 + length text }) spelled (record { parts = parts; place = refl })

fails_element : (octets : List ℕ) (f : PmsiFault) (g : FecFault) → fec_at (start octets) ≡ Err g → Is f (5 + g.place) (reasons.Fec g.reason)
    → mldp_of octets ≡ Err f
unfolding mldp_of
fails_element octets f g read is = rw read (err_again (sym is))

fails_kind : (octets : List ℕ) (f : PmsiFault) (x : Fec) (text rest : List ℕ) → fec.Spells x text → octets ≡ text ++ rest → x.kind ≢ P2mp
    → Is f 5 reasons.Identifier → mldp_of octets ≡ Err f
unfolding mldp_of
fails_kind octets f x text rest spelled parts other is = rw (front_again octets x text rest spelled parts, kind_not x.kind other) (err_again (sym is))

fails_after : (octets : List ℕ) (f : PmsiFault) (x : Fec) (text rest : List ℕ) → fec.Spells x text → octets ≡ text ++ rest → rest ≢ []
    → Is f 5 reasons.Identifier → mldp_of octets ≡ Err f
unfolding mldp_of
fails_after octets f x text rest spelled parts more is =
    let other : 0 + length text ≢ length octets =
    λ same. more (nil_from_length rest (omega (arith, same, ap (λ (xs : List ℕ). length xs) parts, length-append text rest))) in
    rw (front_again octets x text rest spelled parts, second_false (is_p2mp x.kind) (eqb (0 + length text) (length octets)) (ne_eqb _ _ other))
    (err_again (sym is))

-- ---- type 6

ingress_taken : (octets : List ℕ) (t : Tunnel) → ingress_of octets ≡ Ok t → Names 6 octets t
ingress_taken octets t e =
    elim (chosen (eqb (length octets) 4) _ _ _ e) [
      | inl a ↦ subst (λ (u : Tunnel). Names 6 octets u) (ok_is (tunnels.Ingress (V4 octets)) t a.1) (refl, refl, eqb-true (length octets) 4 a.0)
      | inr b ↦ elim (chosen (eqb (length octets) 16) _ _ _ b.1) [
        | inl a ↦ subst (λ (u : Tunnel). Names 6 octets u) (ok_is (tunnels.Ingress (V6 octets)) t a.1) (refl, refl, eqb-true (length octets) 16 a.0)
        | inr b ↦ absurd cc
      ]
    ]

ingress_fails : (octets : List ℕ) (f : PmsiFault) → ingress_of octets ≡ Err f → IdentifierFault 6 octets f
ingress_fails octets f e =
    elim (chosen (eqb (length octets) 4) _ _ _ e) [
      | inl a ↦ absurd cc
      | inr b ↦ elim (chosen (eqb (length octets) 16) _ _ _ b.1) [
        | inl a ↦ absurd cc
        | inr d ↦ faults.no_address refl (eqb-false _ _ b.0) (eqb-false _ _ d.0) (sym (err_is misfit f d.1))
      ]
    ]

-- ---- all types

kept : (kind : ℕ) → kind ≤ 7 → eqb kind 0 ≡ false → eqb kind 2 ≡ false → eqb kind 6 ≡ false → IsKept kind
kept kind le a b c = record { below = le; not_none = eqb-false kind 0 a; not_mldp = eqb-false kind 2 b; not_ingress = eqb-false kind 6 c }

-- What is read stands there.
pub tunnel_taken : (kind : ℕ) (octets : List ℕ) (t : Tunnel) → IsOctets octets → kind ≤ 7 → tunnel_of kind octets ≡ Ok t → Names kind octets t
unfolding tunnel_of
tunnel_taken kind octets t fits le e =
    elim (chosen (eqb kind 0) _ _ _ e) [
      | inl a ↦
          let k = checked_ok (eqb (length octets) 0) misfit tunnels.None t a.1 in
          subst (λ (u : Tunnel). Names kind octets u) (sym k.1) (eqb-true kind 0 a.0, nil_from_length octets (eqb-true (length octets) 0 k.0), tt)
      | inr b ↦ elim (chosen (eqb kind 2) _ _ _ b.1) [
        | inl a ↦ subst (λ (k : ℕ). Names k octets t) (sym (eqb-true kind 2 a.0)) (mldp_taken octets t fits a.1)
        | inr d ↦ elim (chosen (eqb kind 6) _ _ _ d.1) [
          | inl a ↦ subst (λ (k : ℕ). Names k octets t) (sym (eqb-true kind 6 a.0)) (ingress_taken octets t a.1)
          | inr g ↦
              let k = checked_ok (leb (length octets) 96) misfit (tunnels.Other kind octets) t g.1 in
              subst (λ (u : Tunnel). Names kind octets u) (sym k.1) (refl, refl, (kept kind le b.0 d.0 g.0, leb-true (length octets) 96 k.0))
        ]
      ]
    ]

-- What stands there is read.
pub tunnel_again : (t : Tunnel) → IsTunnel t → tunnel_of (type_octet t) (identifier t) ≡ Ok t
unfolding tunnel_of
tunnel_again tunnels.None h = refl
tunnel_again (tunnels.Mldp element) h = mldp_again element h.0 h.1
tunnel_again (tunnels.Ingress (V4 octets)) h = rw h refl
tunnel_again (tunnels.Ingress (V6 octets)) h = rw h refl
tunnel_again (tunnels.Other kind octets) h =
    rw (ne_eqb kind 0 h.0.not_none, ne_eqb kind 2 h.0.not_mldp, ne_eqb kind 6 h.0.not_ingress, le-leb (length octets) 96 h.1) refl

-- A fault that is answered is the first one.
pub tunnel_fails : (kind : ℕ) (octets : List ℕ) (f : PmsiFault) → IsOctets octets → kind ≤ 7 → tunnel_of kind octets ≡ Err f
    → IdentifierFault kind octets f
unfolding tunnel_of
tunnel_fails kind octets f fits le e =
    elim (chosen (eqb kind 0) _ _ _ e) [
      | inl a ↦
          let k = checked_err (eqb (length octets) 0) misfit tunnels.None f a.1 in
          faults.not_empty (eqb-true kind 0 a.0) (λ none. eqb-false (length octets) 0 k.0 (ap (λ (xs : List ℕ). length xs) none)) k.1
      | inr b ↦ elim (chosen (eqb kind 2) _ _ _ b.1) [
        | inl a ↦ subst (λ (k : ℕ). IdentifierFault k octets f) (sym (eqb-true kind 2 a.0)) (mldp_fails octets f fits a.1)
        | inr d ↦ elim (chosen (eqb kind 6) _ _ _ d.1) [
          | inl a ↦ subst (λ (k : ℕ). IdentifierFault k octets f) (sym (eqb-true kind 6 a.0)) (ingress_fails octets f a.1)
          | inr g ↦
              let k = checked_err (leb (length octets) 96) misfit (tunnels.Other kind octets) f g.1 in
              faults.too_long (kept kind le b.0 d.0 g.0) (leb-false (length octets) 96 k.0) k.1
        ]
      ]
    ]

-- The first fault is answered.
pub fails_tunnel : (kind : ℕ) (octets : List ℕ) (f : PmsiFault) → IsOctets octets → IdentifierFault kind octets f → tunnel_of kind octets ≡ Err f
unfolding tunnel_of
fails_tunnel kind octets f fits (faults.not_empty type more is) =
    rw (type, ne_eqb (length octets) 0 (λ none. more (nil_from_length octets none))) (err_again (sym is))
fails_tunnel kind octets f fits (faults.in_element type g first is) = rw type (fails_element octets f g (fails_fec (start octets) g fits first) is)
fails_tunnel kind octets f fits (faults.not_p2mp type x text rest spelled parts other is) =
    rw type (fails_kind octets f x text rest spelled parts other is)
fails_tunnel kind octets f fits (faults.more_after type x text rest spelled parts more is) =
    rw type (fails_after octets f x text rest spelled parts more is)
fails_tunnel kind octets f fits (faults.no_address type four sixteen is) =
    rw (type, ne_eqb (length octets) 4 four, ne_eqb (length octets) 16 sixteen) (err_again (sym is))
fails_tunnel kind octets f fits (faults.too_long type long is) =
    rw (ne_eqb kind 0 type.not_none, ne_eqb kind 2 type.not_mldp, ne_eqb kind 6 type.not_ingress, lt-leb (length octets) 96 long) (err_again (sym is))

-- The type of a tunnel is at most 7, and so is that of an identifier that fails.
pub type_below : (t : Tunnel) → IsTunnel t → type_octet t ≤ 7
type_below tunnels.None h = omega arith
type_below (tunnels.Mldp f) h = omega arith
type_below (tunnels.Ingress a) h = omega arith
type_below (tunnels.Other kind octets) h = h.0.below

pub fault_below : (kind : ℕ) (octets : List ℕ) (f : PmsiFault) → IdentifierFault kind octets f → kind ≤ 7
fault_below kind octets f (faults.not_empty type more is) = omega (arith, type)
fault_below kind octets f (faults.in_element type g first is) = omega (arith, type)
fault_below kind octets f (faults.not_p2mp type x text rest spelled parts other is) = omega (arith, type)
fault_below kind octets f (faults.more_after type x text rest spelled parts more is) = omega (arith, type)
fault_below kind octets f (faults.no_address type four sixteen is) = omega (arith, type)
fault_below kind octets f (faults.too_long type long is) = type.below
