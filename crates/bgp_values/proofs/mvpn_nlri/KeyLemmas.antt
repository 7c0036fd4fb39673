-- Keys: each is read exactly where it is spelled, and its first fault.
use Rattle.std.proofs.Common.{◌≡◌, ◌≢◌, ℕ, ◌+◌, ◌-◌, ◌<◌, ◌≤◌, Bool, true, false, eqb, leb, ◌||◌, ◌⊎◌, List, [], ◌∷◌, ◌++◌, length, Option, Ok, Err, refl, sym, ap, subst, ◌∙◌, arith, inl, inr}
use Rattle.std.specs.Int.{w32, to_be_bytes}
use Rattle.std.proofs.lemmas.Bool.{eqb-true, ne_eqb, eqb-false, leb-true, leb-false, le-leb, lt-leb}
use Rattle.mv_base.specs.Address.{addr_octets, IsAddr}
use Rattle.mv_base.specs.declared.addr.Addr.{Addr}
use Rattle.mv_base.specs.declared.rd.Rd.{Rd}
use Rattle.mv_base.specs.Octets.{IsOctets}
use Rattle.mv_base.proofs.Fields.{bind_ok, bind_err, ok_is, err_again, checked_ok, checked_err}
use Rattle.bgp_values.specs.declared.mvpn_nlri.fault.RouteFault.{RouteFault}
use Rattle.bgp_values.specs.declared.mvpn_nlri.fault.RouteReason.TheVariants.{LengthTooSmall, KeyType}
use Rattle.bgp_values.specs.declared.mvpn_nlri.route.Afi.{Afi}
use Rattle.bgp_values.specs.declared.mvpn_nlri.route.LeafKey.{LeafKey}
use Rattle.bgp_values.specs.declared.mvpn_nlri.route.LeafKey.TheVariants as keys
use Rattle.bgp_values.specs.declared.mvpn_nlri.address.Role.TheVariants.{Source, Group}
use Rattle.bgp_values.specs.mvpn_nlri.Bounds.{Bounded, Passes, bounded}
use Rattle.bgp_values.specs.mvpn_nlri.Spelling.{IsRd, IsAs, IsSource, IsGroup, IsAnyOr, IsKey, any_or_sized, key_kind, key_fields, key}
use Rattle.bgp_values.specs.mvpn_nlri.FirstFault as faults
use Rattle.bgp_values.specs.mvpn_nlri.FirstFault.{Is, Lacks, InterFault, SelectiveFault, KeyFieldsFault, KeyFault}
use Rattle.bgp_values.specs.mvpn_nlri.Reading.{fault, octet_at, inter_of, selective_of, inter_at, selective_at, key_fields_at, key_kind_at, key_len_at, key_at}
use Rattle.bgp_values.proofs.mvpn_nlri.FormatLemmas.{Format, Open, Ends, passes_then, passes_split, passes_is, passes_end, passes_octets, bounded_is, lacks_near, is_near, turned_format, both_format, closed_format}
use Rattle.bgp_values.proofs.mvpn_nlri.FieldLemmas.{octet_format, rd_format, as_format, any_or_format, originator_format}

-- ---- the fields of a key

abbrev pub IsInter : LeafKey → Type 0
IsInter (keys.Inter rd source_as) = IsRd rd × IsAs source_as
IsInter (keys.Selective rd source group originator) = ⊥

abbrev pub IsSelective : Afi → LeafKey → Type 0
IsSelective afi (keys.Inter rd source_as) = ⊥
IsSelective afi (keys.Selective rd source group originator) =
    IsRd rd × (IsAnyOr (IsSource afi) source × (IsAnyOr (IsGroup afi) group × IsAddr originator))

inter_back : (k : LeafKey) → IsInter k → (x : Rd × ℕ) × (k ≡ inter_of x) × (key_fields k ≡ x.0.0 ++ to_be_bytes w32 x.1) × (IsRd x.0 × IsAs x.1)
inter_back (keys.Inter rd source_as) h = ((rd, source_as), refl, refl, h)
inter_back (keys.Selective rd source group originator) h = absurd h

pub inter_format : Format inter_at key_fields IsInter Ends InterFault
unfolding inter_at
inter_format = turned_format inter_of key_fields IsInter (λ x fits h. (refl, h)) inter_back (both_format rd_format (closed_format as_format))

selective_back : (afi : Afi) (k : LeafKey) → IsSelective afi k
    → (x : Rd × (Option Addr × (Option Addr × Addr))) × (k ≡ selective_of x)
    × (key_fields k ≡ x.0.0 ++ (any_or_sized x.1.0 ++ (any_or_sized x.1.1.0 ++ addr_octets x.1.1.1)))
    × (IsRd x.0 × (IsAnyOr (IsSource afi) x.1.0 × (IsAnyOr (IsGroup afi) x.1.1.0 × IsAddr x.1.1.1)))
selective_back afi (keys.Inter rd source_as) h = absurd h
selective_back afi (keys.Selective rd source group originator) h = ((rd, (source, (group, originator))), refl, refl, h)

pub selective_format : (afi : Afi) → Format (selective_at afi) key_fields (IsSelective afi) Ends (SelectiveFault afi)
unfolding selective_at
selective_format afi =
    turned_format selective_of key_fields (IsSelective afi) (λ x fits h. (refl, h)) (selective_back afi)
    (both_format rd_format (both_format (any_or_format afi Source) (both_format (any_or_format afi Group) originator_format)))

-- the types of keys
abbrev pub IsKeyKind : ℕ → Type 0
IsKeyKind kind = (kind ≡ 2) ⊎ (kind ≡ 3)

pub inter_key : (afi : Afi) (k : LeafKey) → IsInter k → IsKey afi k × (2 ≡ key_kind k)
inter_key afi (keys.Inter rd source_as) h = (h, refl)
inter_key afi (keys.Selective rd source group originator) h = absurd h

pub selective_key : (afi : Afi) (k : LeafKey) → IsSelective afi k → IsKey afi k × (3 ≡ key_kind k)
selective_key afi (keys.Inter rd source_as) h = absurd h
selective_key afi (keys.Selective rd source group originator) h = (h, refl)

pub fields_taken : (afi : Afi) (kind : ℕ) (b : Bounded) (x : LeafKey × Bounded) → IsOctets b.left → IsKeyKind kind → key_fields_at afi kind b ≡ Ok x
    → Passes b (key_fields x.0) x.1 × (IsKey afi x.0 × ((kind ≡ key_kind x.0) × Ends x.1))
fields_taken afi kind b x fits (inl two) e =
    let t = inter_format.taken b x fits (subst (λ k. key_fields_at afi k b ≡ Ok x) two e) in
    let k = inter_key afi x.0 t.1.0 in
    (t.0, (k.0, (two ∙ k.1, t.1.1)))
fields_taken afi kind b x fits (inr three) e =
    let t = (selective_format afi).taken b x fits (subst (λ k. key_fields_at afi k b ≡ Ok x) three e) in
    let k = selective_key afi x.0 t.1.0 in
    (t.0, (k.0, (three ∙ k.1, t.1.1)))

pub fields_again : (afi : Afi) (k : LeafKey) (b d : Bounded) → Passes b (key_fields k) d → IsKey afi k → Ends d
    → key_fields_at afi (key_kind k) b ≡ Ok (k, d)
fields_again afi (keys.Inter rd source_as) b d p h end = inter_format.again b (keys.Inter rd source_as) d p h end
fields_again afi (keys.Selective rd source group originator) b d p h end =
    (selective_format afi).again b (keys.Selective rd source group originator) d p h end

pub fields_fails : (afi : Afi) (kind : ℕ) (b : Bounded) (f : RouteFault) → IsOctets b.left → IsKeyKind kind → key_fields_at afi kind b ≡ Err f
    → KeyFieldsFault afi kind b f
fields_fails afi kind b f fits (inl two) e = faults.inter two (inter_format.fails b f fits (subst (λ k. key_fields_at afi k b ≡ Err f) two e))
fields_fails afi kind b f fits (inr three) e =
    faults.selective three ((selective_format afi).fails b f fits (subst (λ k. key_fields_at afi k b ≡ Err f) three e))

pub fields_failing : (afi : Afi) (kind : ℕ) (b : Bounded) (f : RouteFault) → KeyFieldsFault afi kind b f → key_fields_at afi kind b ≡ Err f
fields_failing afi kind b f (faults.inter two h) = subst (λ k. key_fields_at afi k b ≡ Err f) (sym two) (inter_format.failing b f h)
fields_failing afi kind b f (faults.selective three h) = subst (λ k. key_fields_at afi k b ≡ Err f) (sym three) ((selective_format afi).failing b f h)

pub fields_near : (afi : Afi) (kind : ℕ) (b : Bounded) (f : RouteFault) → KeyFieldsFault afi kind b f → f.place ≤ b.place + length b.left
fields_near afi kind b f (faults.inter two h) = inter_format.near b f h
fields_near afi kind b f (faults.selective three h) = (selective_format afi).near b f h

faulty_kind : (afi : Afi) (kind : ℕ) (b : Bounded) (f : RouteFault) → KeyFieldsFault afi kind b f → IsKeyKind kind
faulty_kind afi kind b f (faults.inter two h) = inl two
faulty_kind afi kind b f (faults.selective three h) = inr three

-- ---- the type of a key

or_true : (a b : Bool) → (a || b) ≡ true → (a ≡ true) ⊎ (b ≡ true)
or_true true b e = inl refl
or_true false b e = inr e

or_false : (a b : Bool) → (a || b) ≡ false → (a ≡ false) × (b ≡ false)
or_false true b e = absurd cc
or_false false b e = (refl, e)

kind_true : (kind : ℕ) → (eqb kind 2 || eqb kind 3) ≡ true → IsKeyKind kind
kind_true kind e = elim (or_true (eqb kind 2) (eqb kind 3) e) [
  | inl two ↦ inl (eqb-true kind 2 two)
  | inr three ↦ inr (eqb-true kind 3 three)
]

true_kind : (kind : ℕ) → IsKeyKind kind → (eqb kind 2 || eqb kind 3) ≡ true
true_kind kind (inl two) = rw two refl
true_kind kind (inr three) = rw three refl

kind_false : (kind : ℕ) → (eqb kind 2 || eqb kind 3) ≡ false → (kind ≢ 2) × (kind ≢ 3)
kind_false kind e = let n = or_false (eqb kind 2) (eqb kind 3) e in (eqb-false kind 2 n.0, eqb-false kind 3 n.1)

kind_taken : (b : Bounded) (x : ℕ × Bounded) → IsOctets b.left → key_kind_at b ≡ Ok x → Passes b (x.0 ∷ []) x.1 × IsKeyKind x.0
unfolding key_kind_at
kind_taken b x fits e =
    let o = bind_ok (octet_at b) _ x e in
    let k = checked_ok (eqb o.0.0 2 || eqb o.0.0 3) (fault b.place KeyType) o.0 x o.2 in
    subst (λ (y : ℕ × Bounded). Passes b (y.0 ∷ []) y.1 × IsKeyKind y.0) (sym k.1) ((octet_format.taken b o.0 fits o.1).0, kind_true o.0.0 k.0)

kind_again : (b : Bounded) (kind : ℕ) (d : Bounded) → Passes b (kind ∷ []) d → IsKeyKind kind → key_kind_at b ≡ Ok (kind, d)
unfolding key_kind_at
kind_again b kind d p is = rw (octet_format.again b kind d p tt tt, true_kind kind is) refl

kind_fails : (afi : Afi) (b : Bounded) (f : RouteFault) → IsOctets b.left → key_kind_at b ≡ Err f → KeyFault afi b f
unfolding key_kind_at
kind_fails afi b f fits e =
    elim (bind_err (octet_at b) _ f e) [
      | inl lacks ↦ faults.kind_lacks (octet_format.fails b f fits lacks)
      | inr o ↦
          let k = checked_err (eqb o.0.0 2 || eqb o.0.0 3) (fault b.place KeyType) o.0 f o.2 in
          let n = kind_false o.0.0 k.0 in
          faults.kind_wrong o.0.0 o.0.1 (octet_format.taken b o.0 fits o.1).0 n.0 n.1 k.1
    ]

-- ---- the length of a key

len_taken : (b : Bounded) (x : ℕ × Bounded) → IsOctets b.left → key_len_at b ≡ Ok x → Passes b (x.0 ∷ []) x.1 × (x.0 ≤ x.1.within)
unfolding key_len_at
len_taken b x fits e =
    let o = bind_ok (octet_at b) _ x e in
    let k = checked_ok (leb o.0.0 o.0.1.within) (fault b.place LengthTooSmall) o.0 x o.2 in
    subst (λ (y : ℕ × Bounded). Passes b (y.0 ∷ []) y.1 × (y.0 ≤ y.1.within)) (sym k.1)
    ((octet_format.taken b o.0 fits o.1).0, leb-true o.0.0 o.0.1.within k.0)

len_again : (b : Bounded) (len : ℕ) (d : Bounded) → Passes b (len ∷ []) d → len ≤ d.within → key_len_at b ≡ Ok (len, d)
unfolding key_len_at
len_again b len d p le = rw (octet_format.again b len d p tt tt, le-leb len d.within le) refl

len_fails : (b : Bounded) (f : RouteFault) → IsOctets b.left → key_len_at b ≡ Err f
    → Lacks 1 b f ⊎ ((len : ℕ) × (d : Bounded) × Passes b (len ∷ []) d × (d.within < len) × Is f b.place LengthTooSmall)
unfolding key_len_at
len_fails b f fits e =
    elim (bind_err (octet_at b) _ f e) [
      | inl lacks ↦ inl (octet_format.fails b f fits lacks)
      | inr o ↦
          let k = checked_err (leb o.0.0 o.0.1.within) (fault b.place LengthTooSmall) o.0 f o.2 in
          inr (o.0.0, o.0.1, (octet_format.taken b o.0 fits o.1).0, leb-false o.0.0 o.0.1.within k.0, k.1)
    ]

len_past : (b : Bounded) (len : ℕ) (d : Bounded) → Passes b (len ∷ []) d → d.within < len → key_len_at b ≡ Err (fault b.place LengthTooSmall)
unfolding key_len_at
len_past b len d p lt = rw (octet_format.again b len d p tt tt, lt-leb len d.within lt) refl

len_lacks : (b : Bounded) (f : RouteFault) → Lacks 1 b f → key_len_at b ≡ Err f
unfolding key_len_at
len_lacks b f h = rw (octet_format.failing b f h) refl

-- ---- keys

-- Fields that the length of a key bounds are passed within the length that encloses it.
within_outer : (len : ℕ) (b : Bounded) (text : List ℕ) (d : Bounded) → Passes (bounded len b) text d → len ≤ b.within → Ends d
    → Passes b text (bounded (b.within - len) d) × (length text ≡ len)
within_outer len b text d p le end =
    (record { parts = p.parts; place = p.place; within = omega (arith, p.within, le, end) }, omega (arith, p.within, end))

key_text : (kind len : ℕ) (k : LeafKey) → kind ≡ key_kind k → length (key_fields k) ≡ len → kind ∷ (len ∷ key_fields k) ≡ key k
key_text kind len k e l = rw (e, ← l) refl

key_taken : (afi : Afi) (b : Bounded) (x : LeafKey × Bounded) → IsOctets b.left → key_at afi b ≡ Ok x → Passes b (key x.0) x.1 × IsKey afi x.0
unfolding key_at
key_taken afi b x fits e =
    let kind = bind_ok (key_kind_at b) _ x e in
    let len = bind_ok (key_len_at kind.0.1) _ x kind.2 in
    let k = bind_ok (key_fields_at afi kind.0.0 (bounded len.0.0 len.0.1)) _ x len.2 in
    let p = kind_taken b kind.0 fits kind.1 in
    let after_kind = passes_octets b (kind.0.0 ∷ []) kind.0.1 p.0 fits in
    let q = len_taken kind.0.1 len.0 after_kind len.1 in
    let after_len = passes_octets kind.0.1 (len.0.0 ∷ []) len.0.1 q.0 after_kind in
    let r = fields_taken afi kind.0.0 (bounded len.0.0 len.0.1) k.0 after_len p.1 k.1 in
    let s = within_outer len.0.0 len.0.1 (key_fields k.0.0) k.0.1 r.0 q.1 r.1.1.1 in
    let end : Bounded = bounded (len.0.1.within - len.0.0) k.0.1 in
    let all =
    passes_then b (kind.0.0 ∷ []) kind.0.1 (len.0.0 ∷ key_fields k.0.0) end p.0
    (passes_then kind.0.1 (len.0.0 ∷ []) len.0.1 (key_fields k.0.0) end q.0 s.0) in
    let made : LeafKey × Bounded = (k.0.0, end) in
    subst (λ (y : LeafKey × Bounded). Passes b (key y.0) y.1 × IsKey afi y.0) {x = made} (ok_is made x k.2)
    (passes_is b (kind.0.0 ∷ (len.0.0 ∷ key_fields k.0.0)) (key k.0.0) end all (key_text kind.0.0 len.0.0 k.0.0 r.1.1.0 s.1), r.1.0)

key_kind_is : (k : LeafKey) → IsKeyKind (key_kind k)
key_kind_is (keys.Inter rd source_as) = inl refl
key_kind_is (keys.Selective rd source group originator) = inr refl

key_again : (afi : Afi) (b : Bounded) (k : LeafKey) (d : Bounded) → Passes b (key k) d → IsKey afi k → key_at afi b ≡ Ok (k, d)
unfolding key_at
key_again afi b k d p h =
    let n = length (key_fields k) in
    let s = passes_split b (key_kind k ∷ []) (n ∷ key_fields k) d p in
    let t = passes_split s.0 (n ∷ []) (key_fields k) d s.2 in
    let le : n ≤ t.0.within = omega (arith, t.2.within) in
    let inner : Passes (bounded n t.0) (key_fields k) (bounded 0 d) = record { parts = t.2.parts; place = t.2.place; within = omega arith } in
    let after : bounded (t.0.within - n) (bounded 0 d) ≡ d = bounded_is d.left d.place (t.0.within - n) d refl refl (omega (arith, t.2.within)) in
    rw (
      kind_again b (key_kind k) s.0 s.1 (key_kind_is k),
      len_again s.0 n t.0 t.1 le,
      fields_again afi k (bounded n t.0) (bounded 0 d) inner h refl,
      after,
    ) refl

key_fails : (afi : Afi) (b : Bounded) (f : RouteFault) → IsOctets b.left → key_at afi b ≡ Err f → KeyFault afi b f
unfolding key_at
key_fails afi b f fits e =
    elim (bind_err (key_kind_at b) _ f e) [
      | inl wrong ↦ kind_fails afi b f fits wrong
      | inr kind ↦
          let p = kind_taken b kind.0 fits kind.1 in
          let after_kind = passes_octets b (kind.0.0 ∷ []) kind.0.1 p.0 fits in
          elim (bind_err (key_len_at kind.0.1) _ f kind.2) [
            | inl wrong ↦ elim (len_fails kind.0.1 f after_kind wrong) [
              | inl lacks ↦ faults.len_lacks kind.0.0 kind.0.1 p.1 p.0 lacks
              | inr past ↦ faults.len_past kind.0.0 past.0 kind.0.1 past.1 p.1 p.0 past.2 past.3 past.4
            ]
            | inr len ↦
                let q = len_taken kind.0.1 len.0 after_kind len.1 in
                let after_len = passes_octets kind.0.1 (len.0.0 ∷ []) len.0.1 q.0 after_kind in
                elim (bind_err (key_fields_at afi kind.0.0 (bounded len.0.0 len.0.1)) _ f len.2) [
                  | inl inside ↦ faults.in_fields kind.0.0 len.0.0 kind.0.1 len.0.1 p.0 q.0 q.1
                      (fields_fails afi kind.0.0 (bounded len.0.0 len.0.1) f after_len p.1 inside)
                  | inr k ↦ absurd cc
                ]
          ]
    ]

key_failing : (afi : Afi) (b : Bounded) (f : RouteFault) → KeyFault afi b f → key_at afi b ≡ Err f
unfolding key_at key_kind_at
key_failing afi b f (faults.kind_lacks h) = rw (octet_format.failing b f h) refl
key_failing afi b f (faults.kind_wrong kind d p two three is) =
    rw (octet_format.again b kind d p tt tt, ne_eqb kind 2 two, ne_eqb kind 3 three) (err_again (sym is))
key_failing afi b f (faults.len_lacks kind d is_kind p h) = rw (kind_again b kind d p is_kind, len_lacks d f h) refl
key_failing afi b f (faults.len_past kind len d e is_kind p q lt is) = rw (kind_again b kind d p is_kind, len_past d len e q lt) (err_again (sym is))
key_failing afi b f (faults.in_fields kind len d e p q le h) =
    rw (kind_again b kind d p (faulty_kind afi kind (bounded len e) f h), len_again d len e q le, fields_failing afi kind (bounded len e) f h) refl

key_near : (afi : Afi) (b : Bounded) (f : RouteFault) → KeyFault afi b f → f.place ≤ b.place + length b.left
key_near afi b f (faults.kind_lacks h) = lacks_near 1 b f h
key_near afi b f (faults.kind_wrong kind d p two three is) = is_near f b.place _ (ap (λ (g : RouteFault). g.place) is) (omega arith)
key_near afi b f (faults.len_lacks kind d is_kind p h) = omega (arith, lacks_near 1 d f h, passes_end b (kind ∷ []) d p)
key_near afi b f (faults.len_past kind len d e is_kind p q lt is) =
    is_near f d.place _ (ap (λ (g : RouteFault). g.place) is) (omega (arith, passes_end b (kind ∷ []) d p))
key_near afi b f (faults.in_fields kind len d e p q le h) =
    omega (arith, fields_near afi kind (bounded len e) f h, passes_end b (kind ∷ []) d p, passes_end d (len ∷ []) e q)

pub key_format : (afi : Afi) → Format (key_at afi) key (IsKey afi) Open (KeyFault afi)
key_format afi = record {
  taken = λ b x fits e. let t = key_taken afi b x fits e in (t.0, (t.1, tt));
  again = λ b x d p h end. key_again afi b x d p h;
  fails = key_fails afi;
  failing = key_failing afi;
  near = key_near afi;
}
