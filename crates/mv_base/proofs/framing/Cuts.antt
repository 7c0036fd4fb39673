-- Cutting a stream into units, and its laws.
use Rattle.std.proofs.Common.{◌≡◌, ℕ, zero, suc, ◌+◌, ◌-◌, ◌<◌, ◌≤◌, List, [], ◌∷◌, ◌++◌, length, take, drop, Option, Some, None, refl, sym, ap, subst, ◌∙◌, append_assoc, arith, inl, inr}
use Rattle.std.proofs.Math.Nat.{add-zero}
use Rattle.std.proofs.lemmas.List.{length-append, length-drop, length-take-le, drop_at, take_at, take-append-drop, get_or-drop, get_or_append_left, get_or_past, append_cancel_left}
use Rattle.std.proofs.lemmas.Bool.{cases_lt}
use Rattle.mv_base.specs.Octets.{IsOctets}
use Rattle.mv_base.specs.framing.Units.{Spelled, octets_of, messages_of, AreUnits, Begins, NoUnit, Splits}
use Rattle.mv_base.specs.framing.Cut.{Front, Cut, with_front, cut_at, cut, Fails}
use Rattle.mv_base.specs.framing.Cut.Front.{more, whole, bad}
use Rattle.mv_base.proofs.framing.Fronts.{whole_is}

-- what a front tells is what is spelled
pub record IsFraming {M E : Type 0} (front : List ℕ → Front M E) (Spells : List M → List ℕ → Type 0) : Type 0 where
  pub empty : front [] ≡ more
  pub taken : (xs : List ℕ) (n : ℕ) (ms : List M) → IsOctets xs → front xs ≡ whole n ms → (n ≤ length xs) × Spells ms (take n xs)
  pub again : (ms : List M) (text after : List ℕ) → Spells ms text → front (text ++ after) ≡ whole (length text) ms
  pub filled : (ms : List M) (text : List ℕ) → Spells ms text → 0 < length text

-- and a fault stays, whatever comes later
pub record IsStream {M E : Type 0} (front : List ℕ → Front M E) (Spells : List M → List ℕ → Type 0) : Type 0 where
  pub framing : IsFraming front Spells
  pub kept : (xs ys : List ℕ) (ms : List M) (offset : ℕ) (e : E) → front xs ≡ bad ms offset e → front (xs ++ ys) ≡ bad ms offset e

pub IsOctets-drop : (n : ℕ) (octets : List ℕ) → IsOctets octets → IsOctets (drop n octets)
IsOctets-drop n octets h i = rw get_or-drop (h (n + i))

pub IsOctets-before : (a b : List ℕ) → IsOctets (a ++ b) → IsOctets a
IsOctets-before a b h i =
    elim (cases_lt i (length a)) [
      | inl lt ↦ rw (← get_or_append_left a b 0 i lt) (h i)
      | inr le ↦ rw (get_or_past a i 0 le) (omega arith)
    ]

pub IsOctets-after : (a b : List ℕ) → IsOctets (a ++ b) → IsOctets b
IsOctets-after a b h = subst IsOctets (drop_at a b (length a) refl) (IsOctets-drop (length a) (a ++ b) h)

-- ---- the walk, step by step

pub passed : {M E : Type 0} (front : List ℕ → Front M E) (n place : ℕ) (bs : List ℕ) → n ≤ length bs
    → cut_at front place n bs ≡ cut_at front (place + n) 0 (drop n bs)
unfolding cut_at
passed front zero place bs le = rw add-zero refl
passed front (suc n) place [] le = absurd (omega arith)
passed front (suc n) place (b ∷ bs) le =
    let e : place + 1 + n ≡ place + suc n = omega arith in
    passed front n (place + 1) bs (omega arith) ∙ ap (λ (p : ℕ). cut_at front p 0 (drop n bs)) e

-- a whole unit stands here
pub one_further : {M E : Type 0} (front : List ℕ → Front M E) (place n : ℕ) (ms : List M) (xs : List ℕ) → 0 < n → n ≤ length xs
    → front xs ≡ whole n ms → cut_at front place 0 xs ≡ with_front ms (cut_at front (place + n) 0 (drop n xs))
unfolding cut_at
one_further front place zero ms xs pos le e = absurd (omega arith)
one_further front place (suc n) ms [] pos le e = absurd (omega arith)
one_further front place (suc n) ms (b ∷ bs) pos le e =
    let there : place + 1 + n ≡ place + suc n = omega arith in
    let down : suc n - 1 ≡ n = omega arith in
    rw (e, cut_at, down) (ap (with_front ms) (passed front n (place + 1) bs (omega arith) ∙ ap (λ (p : ℕ). cut_at front p 0 (drop n bs)) there))

-- too little stands here
pub waits : {M E : Type 0} (front : List ℕ → Front M E) (place : ℕ) (xs : List ℕ) → front xs ≡ more
    → cut_at front place 0 xs ≡ record { messages = []; rest = xs; fault = None }
unfolding cut_at
waits front place [] e = refl
waits front place (b ∷ bs) e = rw (e, cut_at) refl

-- a fault stands here
pub stops : {M E : Type 0} (front : List ℕ → Front M E) (place offset : ℕ) (fault : E) (ms : List M) (xs : List ℕ) → front [] ≡ more
    → front xs ≡ bad ms offset fault → cut_at front place 0 xs ≡ record { messages = ms; rest = xs; fault = Some (place + offset, fault) }
unfolding cut_at
stops front place offset fault ms [] none e = absurd cc
stops front place offset fault ms (b ∷ bs) none e = rw (e, cut_at) refl

pub with_nothing : {M E : Type 0} (c : Cut M E) → with_front [] c ≡ c
with_nothing c = refl

pub with_both : {M E : Type 0} (a b : List M) (c : Cut M E) → with_front (a ++ b) c ≡ with_front a (with_front b c)
with_both a b c = ap (λ (ms : List _). record { messages = ms; rest = c.rest; fault = c.fault }) (append_assoc a b c.messages)

-- ---- whole units in front

-- one unit in front
past : {M E : Type 0} (front : List ℕ → Front M E) (Spells : List M → List ℕ → Type 0) (framing : IsFraming front Spells) (place : ℕ) (ms : List M)
    (text after : List ℕ) → Spells ms text → cut_at front place 0 (text ++ after) ≡ with_front ms (cut_at front (place + length text) 0 after)
past front Spells framing place ms text after h =
    one_further front place (length text) ms (text ++ after) (framing.filled ms text h) (omega (arith, length-append text after))
    (framing.again ms text after h)
    ∙ ap (λ (xs : List ℕ). with_front ms (cut_at front (place + length text) 0 xs)) (drop_at text after (length text) refl)

-- all of them
pub past_all : {M E : Type 0} (front : List ℕ → Front M E) (Spells : List M → List ℕ → Type 0) (framing : IsFraming front Spells) (place : ℕ)
    (units : List (Spelled M)) (after : List ℕ) → AreUnits Spells units
    → cut_at front place 0 (octets_of units ++ after) ≡ with_front (messages_of units) (cut_at front (place + length (octets_of units)) 0 after)
past_all front Spells framing place [] after h = rw add-zero refl
past_all front Spells framing place (u ∷ us) after h =
    let whole_text : octets_of (u ∷ us) ++ after ≡ u.octets ++ (octets_of us ++ after) = append_assoc u.octets (octets_of us) after in
    let len : place + length u.octets + length (octets_of us) ≡ place + length (octets_of (u ∷ us)) =
    omega (arith, length-append u.octets (octets_of us)) in
    ap (λ (xs : List ℕ). cut_at front place 0 xs) whole_text
    ∙ past front Spells framing place u.messages u.octets (octets_of us ++ after) h.0
    ∙ ap (with_front u.messages) (past_all front Spells framing (place + length u.octets) us after h.1)
    ∙ ap (λ (p : ℕ). with_front u.messages (with_front (messages_of us) (cut_at front p 0 after))) len
    ∙ sym (with_both u.messages (messages_of us) (cut_at front (place + length (octets_of (u ∷ us))) 0 after))

-- what stands after whole units is cut as if it came alone
pub begun : {M E : Type 0} (front : List ℕ → Front M E) (Spells : List M → List ℕ → Type 0) (framing : IsFraming front Spells) (place there : ℕ)
    (stream : List ℕ) (ms : List M) (rest : List ℕ) → Begins Spells stream ms rest → there + length rest ≡ place + length stream
    → cut_at front place 0 stream ≡ with_front ms (cut_at front there 0 rest)
begun front Spells framing place there stream ms rest b at =
    let len : place + length (octets_of b.units) ≡ there =
    omega (arith, at, ap (λ (xs : List ℕ). length xs) b.parts, length-append (octets_of b.units) rest) in
    ap (λ (xs : List ℕ). cut_at front place 0 xs) b.parts
    ∙ past_all front Spells framing place b.units rest b.each
    ∙ ap (λ (p : ℕ). with_front (messages_of b.units) (cut_at front p 0 rest)) len
    ∙ ap (λ (xs : List _). with_front xs (cut_at front there 0 rest)) (sym b.carried)

pub nothing_begun : {M : Type 0} (Spells : List M → List ℕ → Type 0) (stream : List ℕ) → Begins Spells stream [] stream
nothing_begun Spells stream = record { units = []; each = tt; parts = refl; carried = refl }

pub begun_more : {M : Type 0} (Spells : List M → List ℕ → Type 0) (stream : List ℕ) (ms : List M) (rest more_octets : List ℕ)
    → Begins Spells stream ms rest → Begins Spells (stream ++ more_octets) ms (rest ++ more_octets)
begun_more Spells stream ms rest ys b = record {
  units = b.units;
  each = b.each;
  parts = ap (λ (xs : List ℕ). xs ++ ys) b.parts ∙ append_assoc (octets_of b.units) rest ys;
  carried = b.carried;
}

pub begun_after : {M : Type 0} (Spells : List M → List ℕ → Type 0) (ms : List M) (text after : List ℕ) (ns : List M) (rest stream : List ℕ)
    → Spells ms text → stream ≡ text ++ after → Begins Spells after ns rest → Begins Spells stream (ms ++ ns) rest
begun_after Spells ms text after ns rest stream h parts b = record {
  units = record { messages = ms; octets = text } ∷ b.units;
  each = (h, b.each);
  parts = parts ∙ ap (λ (xs : List ℕ). text ++ xs) b.parts ∙ sym (append_assoc text (octets_of b.units) rest);
  carried = ap (λ (xs : List _). ms ++ xs) b.carried;
}

-- ---- what a cut finds

-- what stands after the whole units, whose messages are the first of all, in octets that end at this place
abbrev pub Ends : {M E : Type 0} → (List ℕ → Front M E) → ℕ → List ℕ → List M → List M → Option (ℕ × E) → Type 0
Ends front end rest first all None = (front rest ≡ more) × (all ≡ first)
Ends {M} front end rest first all (Some f) =
    (last : List M) × (offset : ℕ) × (front rest ≡ bad last offset f.1) × (f.0 + length rest ≡ end + offset) × (all ≡ first ++ last)

pub record Found {M E : Type 0} (front : List ℕ → Front M E) (Spells : List M → List ℕ → Type 0) (place : ℕ) (xs : List ℕ) (c : Cut M E) : Type 0
  where
    pub first : List M
    pub begins : Begins Spells xs first c.rest
    pub ends : Ends front (place + length xs) c.rest first c.messages c.fault

-- the same after a unit
ends_thereafter : {M E : Type 0} (front : List ℕ → Front M E) (end : ℕ) (rest : List ℕ) (ms first all : List M) (o : Option (ℕ × E))
    → Ends front end rest first all o → Ends front end rest (ms ++ first) (ms ++ all) o
ends_thereafter front end rest ms first all None (stands, same) = (stands, ap (λ (xs : List _). ms ++ xs) same)
ends_thereafter front end rest ms first all (Some f) (last, offset, stands, at, same) =
    (last, offset, stands, at, ap (λ (xs : List _). ms ++ xs) same ∙ sym (append_assoc ms first last))

found_at : {M E : Type 0} (front : List ℕ → Front M E) (Spells : List M → List ℕ → Type 0) (framing : IsFraming front Spells) (n place : ℕ)
    (xs : List ℕ) → length xs ≤ n → IsOctets xs
    → ((p : ℕ) (ys : List ℕ) → length ys < length xs → IsOctets ys → Found front Spells p ys (cut_at front p 0 ys)) → (o : Front M E) → front xs ≡ o
    → Found front Spells place xs (cut_at front place 0 xs)
found_at front Spells framing n place xs le fits others more e =
    subst (Found front Spells place xs) (sym (waits front place xs e)) (record { first = []; begins = nothing_begun Spells xs; ends = (e, refl) })
found_at front Spells framing n place xs le fits others (bad ms offset fault) e =
    subst (Found front Spells place xs) (sym (stops front place offset fault ms xs framing.empty e))
    (record { first = []; begins = nothing_begun Spells xs; ends = (ms, offset, e, omega arith, refl) })
found_at front Spells framing n place xs le fits others (whole k ms) e =
    let taken = framing.taken xs k ms fits e in
    let len : length (take k xs) ≡ k = length-take-le k xs taken.0 in
    let pos : 0 < k = omega (arith, framing.filled ms (take k xs) taken.1) in
    let left : length (drop k xs) ≡ length xs - k = length-drop k xs in
    let rest = others (place + k) (drop k xs) (omega arith) (IsOctets-drop k xs fits) in
    let end : place + k + length (drop k xs) ≡ place + length xs = omega (arith, taken.0) in
    let c : Cut _ _ = cut_at front (place + k) 0 (drop k xs) in
    subst (Found front Spells place xs) (sym (one_further front place k ms xs pos taken.0 e)) (record {
      first = ms ++ rest.first;
      begins = begun_after Spells ms (take k xs) (drop k xs) rest.first c.rest xs taken.1 (sym (take-append-drop k xs)) rest.begins;
      ends = ends_thereafter front (place + length xs) c.rest ms rest.first c.messages c.fault
          (subst (λ (m : ℕ). Ends front m c.rest rest.first c.messages c.fault) end rest.ends);
    })

found_by : {M E : Type 0} (front : List ℕ → Front M E) (Spells : List M → List ℕ → Type 0) (framing : IsFraming front Spells) (n place : ℕ)
    (xs : List ℕ) → length xs ≤ n → IsOctets xs → Found front Spells place xs (cut_at front place 0 xs)
found_by front Spells framing zero place xs le fits =
    found_at front Spells framing zero place xs le fits (λ p ys lt f. absurd (omega arith)) (front xs) refl
found_by front Spells framing (suc n) place xs le fits =
    found_at front Spells framing (suc n) place xs le fits (λ p ys lt f. found_by front Spells framing n p ys (omega arith) f) (front xs) refl

pub found : {M E : Type 0} (front : List ℕ → Front M E) (Spells : List M → List ℕ → Type 0) (framing : IsFraming front Spells) (place : ℕ)
    (xs : List ℕ) → IsOctets xs → Found front Spells place xs (cut_at front place 0 xs)
found front Spells framing place xs fits = found_by front Spells framing (length xs) place xs (omega arith) fits

-- where more has to come, no prefix is a whole unit, and none where a fault stands, whatever comes
pub none_whole : {M E : Type 0} (front : List ℕ → Front M E) (Spells : List M → List ℕ → Type 0) (framing : IsFraming front Spells) (rest : List ℕ)
    → front rest ≡ more → NoUnit Spells rest
none_whole front Spells framing rest e ms text after h same =
    let clash : whole (length text) ms ≡ more = sym (framing.again ms text after h) ∙ ap front (sym same) ∙ e in absurd cc

-- ---- one cut and the next

-- what comes later is cut after the whole units and what was held back
pub cut_on : {M E : Type 0} (front : List ℕ → Front M E) (Spells : List M → List ℕ → Type 0) (framing : IsFraming front Spells) (place there : ℕ)
    (xs ys : List ℕ) (c : Cut M E) → (f : Found front Spells place xs c) → there + length c.rest ≡ place + length xs
    → cut_at front place 0 (xs ++ ys) ≡ with_front f.first (cut_at front there 0 (c.rest ++ ys))
cut_on front Spells framing place there xs ys c f at =
    begun front Spells framing place there (xs ++ ys) f.first (c.rest ++ ys) (begun_more Spells xs f.first c.rest ys f.begins)
    (omega (arith, at, length-append c.rest ys, length-append xs ys))

-- the rest of a cut is no longer than what was cut
pub rest_le : {M E : Type 0} (front : List ℕ → Front M E) (Spells : List M → List ℕ → Type 0) (place : ℕ) (xs : List ℕ) (c : Cut M E)
    → Found front Spells place xs c → length c.rest ≤ length xs
rest_le front Spells place xs c f = omega (arith, ap (λ (ys : List ℕ). length ys) f.begins.parts, length-append (octets_of f.begins.units) c.rest)

-- a fault stays, with the messages before it
pub cut_stays : {M E : Type 0} (front : List ℕ → Front M E) (Spells : List M → List ℕ → Type 0) (kind : IsStream front Spells) (place : ℕ)
    (xs ys : List ℕ) (c : Cut M E) (f : ℕ × E) → Found front Spells place xs c → c.fault ≡ Some f
    → cut_at front place 0 (xs ++ ys) ≡ record { messages = c.messages; rest = c.rest ++ ys; fault = Some f }
cut_stays front Spells kind place xs ys c f h e =
    let ends = subst (Ends front (place + length xs) c.rest h.first c.messages) e h.ends in
    let short = rest_le front Spells place xs c h in
    let there : ℕ = place + (length xs - length c.rest) in
    let at : there + length c.rest ≡ place + length xs = omega arith in
    let here : there + ends.1 ≡ f.0 = omega (arith, ends.3) in
    cut_on front Spells kind.framing place there xs ys c h at
    ∙ ap (with_front h.first) (stops front there ends.1 f.1 ends.0 (c.rest ++ ys) kind.framing.empty (kind.kept c.rest ys ends.0 ends.1 f.1 ends.2))
    ∙ ap (λ (p : ℕ). record { messages = h.first ++ ends.0; rest = c.rest ++ ys; fault = Some (p, f.1) }) here
    ∙ ap (λ (ms : List _). record { messages = ms; rest = c.rest ++ ys; fault = Some f }) (sym ends.4)

-- ---- one way to split

-- No unit's spelling begins another's.
pub one_unit : {M E : Type 0} (front : List ℕ → Front M E) (Spells : List M → List ℕ → Type 0) → IsFraming front Spells
    → (ms ns : List M) (text other x y : List ℕ) → Spells ms text → Spells ns other → text ++ x ≡ other ++ y → (text ≡ other) × (ms ≡ ns)
one_unit {M} {E} front Spells framing ms ns text other x y a b same =
    let both : ◌≡◌ {A = Front M E} (whole (length text) ms) (whole (length other) ns) =
    sym (framing.again ms text x a) ∙ ap front same ∙ framing.again ns other y b in
    let parts = whole_is (length text) (length other) ms ns both in
    (sym (take_at text x (length text) refl) ∙ ap (take (length text)) same ∙ take_at other y (length text) (sym parts.0), parts.1)

same_units : {M E : Type 0} (front : List ℕ → Front M E) (Spells : List M → List ℕ → Type 0) → IsFraming front Spells
    → (us vs : List (Spelled M)) (a b : List ℕ) → AreUnits Spells us → AreUnits Spells vs → NoUnit Spells a → NoUnit Spells b
    → octets_of us ++ a ≡ octets_of vs ++ b → (messages_of us ≡ messages_of vs) × (a ≡ b)
same_units front Spells framing [] [] a b h k none none' same = (refl, same)
same_units front Spells framing [] (v ∷ vs) a b h k none none' same =
    absurd (none v.messages v.octets (octets_of vs ++ b) k.0 (same ∙ append_assoc v.octets (octets_of vs) b))
same_units front Spells framing (u ∷ us) [] a b h k none none' same =
    absurd (none' u.messages u.octets (octets_of us ++ a) h.0 (sym same ∙ append_assoc u.octets (octets_of us) a))
same_units {M} front Spells framing (u ∷ us) (v ∷ vs) a b h k none none' same =
    let x : List ℕ = octets_of us ++ a in
    let y : List ℕ = octets_of vs ++ b in
    let both : u.octets ++ x ≡ v.octets ++ y = sym (append_assoc u.octets (octets_of us) a) ∙ same ∙ append_assoc v.octets (octets_of vs) b in
    let one = one_unit front Spells framing u.messages v.messages u.octets v.octets x y h.0 k.0 both in
    let thereafter : x ≡ y = append_cancel_left u.octets x y (both ∙ ap (λ (text : List ℕ). text ++ y) (sym one.0)) in
    let rest = same_units front Spells framing us vs a b h.1 k.1 none none' thereafter in
    (ap (λ (ms : List M). ms ++ messages_of us) one.1 ∙ ap (λ (ms : List M). v.messages ++ ms) rest.0, rest.1)

pub one_split : {M E : Type 0} (front : List ℕ → Front M E) (Spells : List M → List ℕ → Type 0) (framing : IsFraming front Spells) (stream : List ℕ)
    (ms ns : List M) (a b : List ℕ) → Splits Spells stream ms a → Splits Spells stream ns b → (ms ≡ ns) × (a ≡ b)
one_split front Spells framing stream ms ns a b s t =
    let is = same_units front Spells framing s.begins.units t.begins.units a b s.begins.each t.begins.each s.no_unit t.no_unit
    (sym s.begins.parts ∙ t.begins.parts) in
    (s.begins.carried ∙ is.0 ∙ sym t.begins.carried, is.1)

-- what a cut without a fault finds is a split
pub cut_splits : {M E : Type 0} (front : List ℕ → Front M E) (Spells : List M → List ℕ → Type 0) (framing : IsFraming front Spells) (stream : List ℕ)
    → IsOctets stream → (cut front stream).fault ≡ None
    → Splits Spells stream (cut front stream).messages (cut front stream).rest × (front (cut front stream).rest ≡ more)
cut_splits {M} {E} front Spells framing stream fits none =
    let f = found front Spells framing 0 stream fits in
    let c : Cut M E = cut front stream in
    let ends = subst (Ends front (0 + length stream) c.rest f.first c.messages) none f.ends in (
      record {
        begins = subst (λ (ms : List M). Begins Spells stream ms c.rest) (sym ends.1) f.begins;
        no_unit =
            none_whole front Spells framing c.rest ends.0;
      },
      ends.0,
    )

-- ..and one with a fault
pub cut_fails : {M E : Type 0} (front : List ℕ → Front M E) (Spells : List M → List ℕ → Type 0) (framing : IsFraming front Spells) (stream : List ℕ)
    (f : ℕ × E) → IsOctets stream → (cut front stream).fault ≡ Some f
    → Fails Spells (λ rest ms offset e. front rest ≡ bad ms offset e) stream (cut front stream).messages f.0 f.1
cut_fails {M} {E} front Spells framing stream f fits some =
    let h = found front Spells framing 0 stream fits in
    let c : Cut M E = cut front stream in
    let ends = subst (Ends front (0 + length stream) c.rest h.first c.messages) some h.ends in
    record {
      first = h.first;
      last = ends.0;
      rest = c.rest;
      offset = ends.1;
      begins = h.begins;
      faulty = ends.2;
      messages = ends.4;
      at =
          omega (arith, ends.3);
    }
