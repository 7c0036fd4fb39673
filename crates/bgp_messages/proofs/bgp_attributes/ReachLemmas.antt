-- MP_REACH_NLRI and MP_UNREACH_NLRI: read exactly where they are spelled, with their first fault.
use Rattle.std.proofs.Common.{◌≡◌, ℕ, ◌+◌, ◌^◌, ◌<◌, inl, inr, List, [], ◌∷◌, ◌++◌, length, Option, Some, None, Result, Ok, Err, refl, sym, ap, subst, ◌∙◌, arith}
use Rattle.std.specs.Int.{w16, to_be_bytes}
use Rattle.std.proofs.lemmas.List.{append-nil}
use Rattle.mv_base.specs.Octets.{IsOctets}
use Rattle.mv_base.specs.Cursor.{◌>>=◌}
use Rattle.mv_base.proofs.Fields.{octets_after, wide16, bind_ok, bind_err, ok_is, err_is}
use Rattle.bgp_messages.specs.declared.bgp_attributes.fault.StreamFault.{StreamFault}
use Rattle.bgp_messages.specs.declared.bgp_attributes.fault.StreamFault.TheVariants as faults
use Rattle.bgp_messages.specs.declared.bgp_attributes.family.Family.{Family}
use Rattle.bgp_messages.specs.declared.bgp_attributes.key.Key.{Key}
use Rattle.bgp_messages.specs.declared.bgp_attributes.attribute.Reachable.{Reachable}
use Rattle.bgp_messages.specs.declared.bgp_attributes.attribute.Attribute.{Attribute}
use Rattle.bgp_messages.specs.declared.bgp_attributes.attribute.Attribute.TheVariants.{Reach, Unreach}
use Rattle.bgp_messages.specs.bgp_attributes.Spelling.{afi_of, safi_of, pair, SpellsUnread, SpellsReachable, SpellsUnreachable, type_of, SpellsValue}
use Rattle.bgp_messages.specs.bgp_attributes.FirstFault.{IsHopLen, KeysFault, ValueFault}
use Rattle.bgp_messages.specs.bgp_attributes.FirstFault as wrong
use Rattle.bgp_messages.specs.bgp_attributes.Reading.{misfit, family_of, keys_at, hop_at, reachable_at, reach_of, reach_at, unreach_of, unreach_at}
use Rattle.bgp_messages.proofs.bgp_attributes.NlriLemmas.{keys_taken, keys_again, keys_fail, fail_keys}
use Rattle.bgp_messages.proofs.bgp_attributes.FamilyLemmas.{family_again, family_none, none_family, afi_fits, Led, led, pair_is}
use Rattle.bgp_messages.proofs.bgp_attributes.HopLemmas.{hop_taken, hop_read, hop_fails}

-- an attribute of that type that the value spells
abbrev pub Means : ℕ → List ℕ → Attribute → Type 0
Means kind value a = (type_of a ≡ kind) × SpellsValue a value

-- ---- after AFI and SAFI

reach_led : (place afi safi : ℕ) (rest : List ℕ) → afi < 2 ^ 16
    → reach_at place (to_be_bytes w16 afi ++ (safi ∷ rest)) ≡ reach_of (family_of afi safi) (place + 3) rest
unfolding reach_at
reach_led place afi safi rest lt = ap (λ (n : ℕ). reach_of (family_of n safi) (place + 3) rest) (wide16.again afi lt)

unreach_led : (place afi safi : ℕ) (rest : List ℕ) → afi < 2 ^ 16
    → unreach_at place (to_be_bytes w16 afi ++ (safi ∷ rest)) ≡ unreach_of (family_of afi safi) (place + 3) rest
unfolding unreach_at
unreach_led place afi safi rest lt = ap (λ (n : ℕ). unreach_of (family_of n safi) (place + 3) rest) (wide16.again afi lt)

-- After the pair of a family.
reach_pair : (place : ℕ) (f : Family) (rest : List ℕ) → reach_at place (pair f ++ rest) ≡ reach_of (Some f) (place + 3) rest
reach_pair place f rest =
    reach_led place (afi_of f) (safi_of f) rest (afi_fits f) ∙ ap (λ (o : Option Family). reach_of o (place + 3) rest) (family_again f)

unreach_pair : (place : ℕ) (f : Family) (rest : List ℕ) → unreach_at place (pair f ++ rest) ≡ unreach_of (Some f) (place + 3) rest
unreach_pair place f rest =
    unreach_led place (afi_of f) (safi_of f) rest (afi_fits f) ∙ ap (λ (o : Option Family). unreach_of o (place + 3) rest) (family_again f)

-- Where AFI and SAFI are missing.
reach_short : (place : ℕ) (value : List ℕ) → length value < 3 → reach_at place value ≡ Err misfit
unfolding reach_at
reach_short place [] lt = refl
reach_short place (a ∷ []) lt = refl
reach_short place (a ∷ b ∷ []) lt = refl
reach_short place (a ∷ b ∷ c ∷ rest) lt = absurd (omega arith)

unreach_short : (place : ℕ) (value : List ℕ) → length value < 3 → unreach_at place value ≡ Err misfit
unfolding unreach_at
unreach_short place [] lt = refl
unreach_short place (a ∷ []) lt = refl
unreach_short place (a ∷ b ∷ []) lt = refl
unreach_short place (a ∷ b ∷ c ∷ rest) lt = absurd (omega arith)

unread_of : (value : List ℕ) (l : Led value) → family_of l.afi l.safi ≡ None → SpellsUnread value
unread_of value l e = record { afi = l.afi; safi = l.safi; rest = l.rest; afi_fits = l.fits; unread = family_none l.afi l.safi e; parts = l.parts }

-- the value begins with the pair of the family
paired : (value : List ℕ) (l : Led value) (f : Family) → family_of l.afi l.safi ≡ Some f → value ≡ pair f ++ l.rest
paired value l f e = l.parts ∙ pair_is f l.afi l.safi l.rest e

reach_is : (place : ℕ) (value : List ℕ) (l : Led value) (o : Option Family) → family_of l.afi l.safi ≡ o
    → reach_at place value ≡ reach_of o (place + 3) l.rest
reach_is place value l o e =
    ap (reach_at place) l.parts ∙ reach_led place l.afi l.safi l.rest l.fits ∙ ap (λ (p : Option Family). reach_of p (place + 3) l.rest) e

unreach_is : (place : ℕ) (value : List ℕ) (l : Led value) (o : Option Family) → family_of l.afi l.safi ≡ o
    → unreach_at place value ≡ unreach_of o (place + 3) l.rest
unreach_is place value l o e =
    ap (unreach_at place) l.parts ∙ unreach_led place l.afi l.safi l.rest l.fits ∙ ap (λ (p : Option Family). unreach_of p (place + 3) l.rest) e

-- ---- what is read of a family

-- what stands after AFI and SAFI
reachable_taken : (f : Family) (place : ℕ) (value rest : List ℕ) (r : Reachable) → IsOctets rest → value ≡ pair f ++ rest
    → reachable_at f place rest ≡ Ok r → SpellsReachable r value
unfolding reachable_at
reachable_taken f place value [] r fits parts e = absurd cc
reachable_taken f place value (len ∷ more) r fits parts e =
    let h = hop_taken f place len more r (octets_after 1 (len ∷ more) fits) e in
    record {
      family = f;
      hop = h.hop;
      reserved = h.reserved;
      nlri = h.nlri;
      next_hop = h.next_hop;
      routes = h.routes;
      parts = parts ∙ ap (λ (n : ℕ). pair f ++ (n ∷ more)) (sym h.size) ∙ ap (λ (xs : List ℕ). pair f ++ (length h.hop ∷ xs)) h.parts;
    }

reachable_read : (f : Family) (place len : ℕ) (rest : List ℕ) → reachable_at f place (len ∷ rest) ≡ hop_at f place len rest
unfolding reachable_at
reachable_read f place len rest = refl

reachable_none : (f : Family) (place : ℕ) → reachable_at f place [] ≡ Err misfit
unfolding reachable_at
reachable_none f place = refl

-- ---- MP_REACH_NLRI

reach_taken_by : (place : ℕ) (value : List ℕ) (a : Attribute) (l : Led value) (o : Option Family) → family_of l.afi l.safi ≡ o
    → reach_of o (place + 3) l.rest ≡ Ok a → Means 14 value a
reach_taken_by place value a l None is e =
    subst (Means 14 value) (ok_is (Reach None) a e) (refl, unread_of value l is)
reach_taken_by place value a l (Some f) is e =
    let (r, read, made) = bind_ok (reachable_at f (place + 3) l.rest) _ a e in
    subst (Means 14 value) (ok_is (Reach (Some r)) a made) (refl, reachable_taken f (place + 3) value l.rest r l.octets (paired value l f is) read)

-- What is read is spelled.
pub reach_taken : (place : ℕ) (value : List ℕ) (a : Attribute) → IsOctets value → reach_at place value ≡ Ok a → Means 14 value a
reach_taken place value a fits e =
    elim (led value fits) [
      | inl short ↦ let clash : Ok a ≡ Err misfit = sym e ∙ reach_short place value short in absurd cc
      | inr l ↦ reach_taken_by place value a l (family_of l.afi l.safi) refl (sym (reach_is place value l (family_of l.afi l.safi) refl) ∙ e)
    ]

-- What is spelled is read.
pub reach_again : (place : ℕ) (value : List ℕ) (r : Reachable) → SpellsReachable r value → reach_at place value ≡ Ok (Reach (Some r))
reach_again place value r s =
    ap (reach_at place) s.parts
    ∙ reach_pair place s.family (length s.hop ∷ (s.hop ++ (s.reserved ∷ s.nlri)))
    ∙ ap (λ (x : Result Reachable (ℕ × StreamFault)). x >>= λ t. Ok (Reach (Some t)))
    (reachable_read s.family (place + 3) (length s.hop) (s.hop ++ (s.reserved ∷ s.nlri))
    ∙ hop_read s.family (place + 3) r s.hop s.reserved s.nlri s.next_hop s.routes)

pub unread_reach : (place : ℕ) (value : List ℕ) → SpellsUnread value → reach_at place value ≡ Ok (Reach None)
unread_reach place value s =
    ap (reach_at place) s.parts ∙ reach_led place s.afi s.safi s.rest s.afi_fits
    ∙ ap (λ (o : Option Family). reach_of o (place + 3) s.rest) (none_family s.afi s.safi s.unread)

-- A fault that is answered is there.
reachable_fails : (f : Family) (place : ℕ) (value rest : List ℕ) (at : ℕ) (e : StreamFault) → IsOctets rest → value ≡ pair f ++ rest
    → reachable_at f (place + 3) rest ≡ Err (at, e) → ValueFault 14 value place at e
unfolding reachable_at
reachable_fails f place value [] at e fits parts h =
    let given : ℕ × StreamFault = (at, e) in
    let same : misfit ≡ given = err_is misfit given h in
    wrong.no_hop_len f refl parts (sym (ap (λ (x : ℕ × StreamFault). x.0) same)) (sym (ap (λ (x : ℕ × StreamFault). x.1) same))
reachable_fails f place value (len ∷ more) at e fits parts h = hop_fails f place len value more at e (octets_after 1 (len ∷ more) fits) parts h

reach_fails_by : (place : ℕ) (value : List ℕ) (at : ℕ) (e : StreamFault) (l : Led value) (o : Option Family) → family_of l.afi l.safi ≡ o
    → reach_of o (place + 3) l.rest ≡ Err (at, e) → ValueFault 14 value place at e
reach_fails_by place value at e l None is h = absurd cc
reach_fails_by place value at e l (Some f) is h =
    elim (bind_err (reachable_at f (place + 3) l.rest) _ (at, e) h) [
      | inl fault ↦ reachable_fails f place value l.rest at e l.octets (paired value l f is) fault
      | inr x ↦ absurd cc
    ]

misfit_is : (at : ℕ) (e : StreamFault) → misfit ≡ (at, e) → (at ≡ 0) × (e ≡ faults.AttributeLength)
misfit_is at e same = (sym (ap (λ (x : ℕ × StreamFault). x.0) same), sym (ap (λ (x : ℕ × StreamFault). x.1) same))

pub reach_fails : (place : ℕ) (value : List ℕ) (at : ℕ) (e : StreamFault) → IsOctets value → reach_at place value ≡ Err (at, e)
    → ValueFault 14 value place at e
reach_fails place value at e fits h =
    elim (led value fits) [
      | inl short ↦ let (p, q) = misfit_is at e (err_is misfit (at, e) (sym (reach_short place value short) ∙ h)) in
          wrong.no_family (inl refl) short p q
      | inr l ↦ reach_fails_by place value at e l (family_of l.afi l.safi) refl (sym (reach_is place value l (family_of l.afi l.safi) refl) ∙ h)
    ]

-- ---- MP_UNREACH_NLRI

unreach_taken_by : (place : ℕ) (value : List ℕ) (a : Attribute) (l : Led value) (o : Option Family) → family_of l.afi l.safi ≡ o
    → unreach_of o (place + 3) l.rest ≡ Ok a → Means 15 value a
unreach_taken_by place value a l None is e =
    subst (Means 15 value) (ok_is (Unreach None) a e) (refl, unread_of value l is)
unreach_taken_by place value a l (Some f) is e =
    let (ks, read, made) = bind_ok (keys_at f (place + 3) l.rest) _ a e in
    let all : SpellsUnreachable ks value =
    record { family = f; nlri = l.rest; routes = keys_taken f (place + 3) l.rest ks l.octets read; parts = paired value l f is } in
    subst (Means 15 value) (ok_is (Unreach (Some ks)) a made) (refl, all)

-- What is read is spelled.
pub unreach_taken : (place : ℕ) (value : List ℕ) (a : Attribute) → IsOctets value → unreach_at place value ≡ Ok a → Means 15 value a
unreach_taken place value a fits e =
    elim (led value fits) [
      | inl short ↦ let clash : Ok a ≡ Err misfit = sym e ∙ unreach_short place value short in absurd cc
      | inr l ↦ unreach_taken_by place value a l (family_of l.afi l.safi) refl (sym (unreach_is place value l (family_of l.afi l.safi) refl) ∙ e)
    ]

-- What is spelled is read.
pub unreach_again : (place : ℕ) (value : List ℕ) (ks : List Key) → SpellsUnreachable ks value → unreach_at place value ≡ Ok (Unreach (Some ks))
unreach_again place value ks s =
    ap (unreach_at place) s.parts
    ∙ unreach_pair place s.family s.nlri
    ∙ ap (λ (x : Result (List Key) (ℕ × StreamFault)). x >>= λ t. Ok (Unreach (Some t))) (keys_again s.family (place + 3) s.nlri ks s.routes)

pub unread_unreach : (place : ℕ) (value : List ℕ) → SpellsUnread value → unreach_at place value ≡ Ok (Unreach None)
unread_unreach place value s =
    ap (unreach_at place) s.parts ∙ unreach_led place s.afi s.safi s.rest s.afi_fits
    ∙ ap (λ (o : Option Family). unreach_of o (place + 3) s.rest) (none_family s.afi s.safi s.unread)

unreach_fails_by : (place : ℕ) (value : List ℕ) (at : ℕ) (e : StreamFault) (l : Led value) (o : Option Family) → family_of l.afi l.safi ≡ o
    → unreach_of o (place + 3) l.rest ≡ Err (at, e) → ValueFault 15 value place at e
unreach_fails_by place value at e l None is h = absurd cc
unreach_fails_by place value at e l (Some f) is h =
    elim (bind_err (keys_at f (place + 3) l.rest) _ (at, e) h) [
      | inl fault ↦ let (inner, there, in_keys) = keys_fail f (place + 3) l.rest at e l.octets fault in
          wrong.in_unreach f l.rest inner refl (paired value l f is) in_keys there
      | inr x ↦ absurd cc
    ]

-- A fault that is answered is there.
pub unreach_fails : (place : ℕ) (value : List ℕ) (at : ℕ) (e : StreamFault) → IsOctets value → unreach_at place value ≡ Err (at, e)
    → ValueFault 15 value place at e
unreach_fails place value at e fits h =
    elim (led value fits) [
      | inl short ↦ let (p, q) = misfit_is at e (err_is misfit (at, e) (sym (unreach_short place value short) ∙ h)) in
          wrong.no_family (inr refl) short p q
      | inr l ↦ unreach_fails_by place value at e l (family_of l.afi l.safi) refl (sym (unreach_is place value l (family_of l.afi l.safi) refl) ∙ h)
    ]

-- ---- a fault that is there is answered

pub fails_no_family : (place : ℕ) (value : List ℕ) → length value < 3 → (reach_at place value ≡ Err misfit) × (unreach_at place value ≡ Err misfit)
fails_no_family place value short = (reach_short place value short, unreach_short place value short)

-- what is answered after the pair of a family
reach_err : (place : ℕ) (f : Family) (value rest : List ℕ) (x : ℕ × StreamFault) → value ≡ pair f ++ rest → reachable_at f (place + 3) rest ≡ Err x
    → reach_at place value ≡ Err x
reach_err place f value rest x parts e =
    ap (reach_at place) parts ∙ reach_pair place f rest ∙ ap (λ (y : Result Reachable (ℕ × StreamFault)). y >>= λ t. Ok (Reach (Some t))) e

pub fails_no_hop_len : (place : ℕ) (f : Family) (value : List ℕ) → value ≡ pair f → reach_at place value ≡ Err misfit
fails_no_hop_len place f value parts = reach_err place f value [] misfit (parts ∙ sym (append-nil (pair f))) (reachable_none f (place + 3))

pub fails_after : (place : ℕ) (f : Family) (value : List ℕ) (len : ℕ) (rest : List ℕ) (x : ℕ × StreamFault) → value ≡ pair f ++ (len ∷ rest)
    → hop_at f (place + 3) len rest ≡ Err x → reach_at place value ≡ Err x
fails_after place f value len rest x parts e = reach_err place f value (len ∷ rest) x parts (reachable_read f (place + 3) len rest ∙ e)

pub fails_unreach : (place : ℕ) (f : Family) (value nlri : List ℕ) (inner : ℕ) (e : StreamFault) → value ≡ pair f ++ nlri → KeysFault f nlri inner e
    → unreach_at place value ≡ Err (place + 3 + inner, e)
fails_unreach place f value nlri inner e parts h =
    ap (unreach_at place) parts ∙ unreach_pair place f nlri
    ∙ ap (λ (y : Result (List Key) (ℕ × StreamFault)). y >>= λ t. Ok (Unreach (Some t))) (fail_keys f (place + 3) nlri inner e h)
