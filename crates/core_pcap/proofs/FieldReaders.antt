-- Each field is read exactly where it stands, and its faults.
use Rattle.std.proofs.Common.{◌≡◌, ℕ, ◌+◌, ◌-◌, ◌*◌, ◌/◌, ◌%◌, ◌^◌, ◌<◌, ◌≤◌, eqb, ltb, Bool, true, false, cond, List, [], ◌∷◌, length, Option, Some, None, refl, sym, ap, subst, ◌∙◌, arith, inl, inr}
use Rattle.std.specs.Prelude.{⊤, ◌&&◌, ◌||◌, not, nat_le}
use Rattle.std.specs.Int.{w16, w32, from_be_bytes, to_be_bytes}
use Rattle.std.proofs.lemmas.Bool.{eqb-true, eqb-false, eq-eqb, ne_eqb, ltb-false, ltb-true, le-ltb, lt-ltb, leb-true, le-leb}
use Rattle.std.proofs.lemmas.Nat.{le_bytes_2, le_bytes_4, from_le_bytes-to_le_bytes_2, from_le_bytes-to_le_bytes_4}
use Rattle.mv_base.specs.Octets.{IsOctets}
use Rattle.mv_base.specs.declared.ids.NodeId.{NodeId}
use Rattle.mv_base.proofs.Fields.{wide16, wide32, octets_after, chosen}
use Rattle.core_pcap.specs.declared.fault.PcapFault.{PcapFault}
use Rattle.core_pcap.specs.declared.fault.PcapFault.TheVariants as faults
use Rattle.core_pcap.specs.declared.order.ByteOrder.{ByteOrder}
use Rattle.core_pcap.specs.declared.order.ByteOrder.TheVariants.{BigEndian, LittleEndian}
use Rattle.core_pcap.specs.Words.{word, half, word_of, half_of, node_octets}
use Rattle.core_pcap.specs.Fields.{Lacks, FieldFails}
use Rattle.core_pcap.specs.Reading.{same_as, word_at, known_word_at, known_half_at, magic_of, magic_at, millis_of, length_of, node_of, shim_of, millis_at, length_at, node_at, shim_at}
use Rattle.core_pcap.specs.Spelling.{IsMagic, IsWord, IsKnownWord, IsKnownHalf, IsMillis, IsLength, IsNode, IsShim, IsLabel, IsTtl, shim}
use Rattle.core_pcap.proofs.Readers.{IsReader, IsField, field_reader, whole_reader}

-- ---- numbers in both orders

word_back : (order : ByteOrder) (text : List ℕ) → IsOctets text → length text ≡ 4 → text ≡ word order (word_of order text)
word_back BigEndian text fits len = sym (wide32.back text len fits)
word_back LittleEndian text fits len = sym (le_bytes_4 text _ len fits refl)

word_again : (order : ByteOrder) (n : ℕ) → n < 2 ^ 32 → word_of order (word order n) ≡ n
word_again BigEndian n lt = wide32.again n lt
word_again LittleEndian n lt = from_le_bytes-to_le_bytes_4 n lt

word_below : (order : ByteOrder) (text : List ℕ) → IsOctets text → word_of order text < 2 ^ 32
word_below BigEndian text fits = wide32.below text fits
word_below LittleEndian text fits = omega (arith, fits 0, fits 1, fits 2, fits 3)

pub word_len : (order : ByteOrder) (n : ℕ) → length (word order n) ≡ 4
word_len BigEndian n = refl
word_len LittleEndian n = refl

half_back : (order : ByteOrder) (text : List ℕ) → IsOctets text → length text ≡ 2 → text ≡ half order (half_of order text)
half_back BigEndian text fits len = sym (wide16.back text len fits)
half_back LittleEndian text fits len = sym (le_bytes_2 text _ len fits refl)

half_again : (order : ByteOrder) (n : ℕ) → n < 2 ^ 16 → half_of order (half order n) ≡ n
half_again BigEndian n lt = wide16.again n lt
half_again LittleEndian n lt = from_le_bytes-to_le_bytes_2 n lt

pub half_len : (order : ByteOrder) (n : ℕ) → length (half order n) ≡ 2
half_len BigEndian n = refl
half_len LittleEndian n = refl

word_read : (order : ByteOrder) (n : ℕ) (text : List ℕ) → n < 2 ^ 32 → text ≡ word order n → (length text ≡ 4) × (word_of order text ≡ n)
word_read order n text lt is = (ap (λ (t : List ℕ). length t) is ∙ word_len order n, ap (word_of order) is ∙ word_again order n lt)

half_read : (order : ByteOrder) (n : ℕ) (text : List ℕ) → n < 2 ^ 16 → text ≡ half order n → (length text ≡ 2) × (half_of order text ≡ n)
half_read order n text lt is = (ap (λ (t : List ℕ). length t) is ∙ half_len order n, ap (half_of order) is ∙ half_again order n lt)

-- ---- tests

abbrev there_is : {A : Type 0} → A → Option A
there_is x = Some x

some_is : {A : Type 0} (x y : A) → there_is x ≡ there_is y → x ≡ y
some_is x y e = cc

-- where a test chose a value, it was passed
when_some : {A : Type 0} (b : Bool) (x y : A) → cond b (Some x) None ≡ Some y → (b ≡ true) × (x ≡ y)
when_some true x y e = (refl, some_is x y e)
when_some false x y e = absurd cc

unless_some : {A : Type 0} (b : Bool) (x y : A) → cond b None (Some x) ≡ Some y → (b ≡ false) × (x ≡ y)
unless_some true x y e = absurd cc
unless_some false x y e = (refl, some_is x y e)

and_true : (a b : Bool) → (a && b) ≡ true → (a ≡ true) × (b ≡ true)
and_true true b e = (refl, e)
and_true false b e = absurd cc

or_false : (a b : Bool) → (a || b) ≡ false → (a ≡ false) × (b ≡ false)
or_false true b e = absurd cc
or_false false b e = (refl, e)

not_true : (a : Bool) → not a ≡ true → a ≡ false
not_true true e = absurd cc
not_true false e = refl

-- ---- the fields

magic_field : IsField 4 magic_of IsMagic
magic_field = record { told = told; again = again }
  where
    told : (text : List ℕ) (x : ByteOrder) → IsOctets text → length text ≡ 4 → magic_of text ≡ Some x → IsMagic x text
    told text x fits len e =
        elim (chosen (eqb (from_be_bytes w32 text) 0xA1B2C3D4) (Some BigEndian)
        (cond (eqb (from_be_bytes w32 text) 0xD4C3B2A1) (Some LittleEndian) None) (Some x) e) [
          | inl a ↦
              let number : text ≡ to_be_bytes w32 0xA1B2C3D4 = sym (wide32.back text len fits) ∙ ap (to_be_bytes w32) (eqb-true _ _ a.0) in
              subst (λ (o : ByteOrder). IsMagic o text) (some_is BigEndian x a.1) number
          | inr a ↦
              let b = when_some (eqb (from_be_bytes w32 text) 0xD4C3B2A1) LittleEndian x a.1 in
              let number : text ≡ to_be_bytes w32 0xD4C3B2A1 = sym (wide32.back text len fits) ∙ ap (to_be_bytes w32) (eqb-true _ _ b.0) in
              subst (λ (o : ByteOrder). IsMagic o text) b.1 number
        ]

    again : (x : ByteOrder) (text : List ℕ) → IsMagic x text → (length text ≡ 4) × (magic_of text ≡ Some x)
    again BigEndian text is = (ap (λ (t : List ℕ). length t) is, ap magic_of is)
    again LittleEndian text is = (ap (λ (t : List ℕ). length t) is, ap magic_of is)

pub magic_reader : IsReader magic_at IsMagic (FieldFails 4 IsMagic 0 faults.Magic)
magic_reader = field_reader 4 magic_of IsMagic magic_field 0 faults.Magic

word_field : (order : ByteOrder) → IsField 4 (λ field. Some (word_of order field)) (IsWord order)
word_field order = record {
  told = λ text x fits len e. subst (λ (n : ℕ). IsWord order n text) (some_is (word_of order text) x e)
      (word_below order text fits, word_back order text fits len);
  again = λ x text s. let r = word_read order x text s.0 s.1 in (r.0, ap (λ (n : ℕ). Some n) r.1);
}

pub word_reader : (order : ByteOrder) → IsReader (word_at order) (IsWord order) (Lacks 4)
word_reader order =
    whole_reader 4 (λ field. Some (word_of order field)) (IsWord order) (word_field order) 0 faults.Short (λ text. (word_of order text, refl))

same_told : (value n : ℕ) (x : ⊤) → same_as value n ≡ Some x → n ≡ value
same_told value n x e = eqb-true _ _ (when_some (eqb n value) tt x e).0

same_again : (value n : ℕ) → n ≡ value → same_as value n ≡ Some tt
same_again value n is = rw (eq-eqb n value is) refl

known_word_field : (order : ByteOrder) (value : ℕ) → value < 2 ^ 32
    → IsField 4 (λ field. same_as value (word_of order field)) (IsKnownWord order value)
known_word_field order value lt = record {
  told = λ text x fits len e. word_back order text fits len ∙ ap (word order) (same_told value (word_of order text) x e);
  again = λ x text s. let r = word_read order value text lt s in (r.0, same_again value (word_of order text) r.1);
}

pub known_word_reader : (order : ByteOrder) (value : ℕ) (own : PcapFault) → value < 2 ^ 32
    → IsReader (known_word_at order value own) (IsKnownWord order value) (FieldFails 4 (IsKnownWord order value) 0 own)
known_word_reader order value own lt =
    field_reader 4 (λ field. same_as value (word_of order field)) (IsKnownWord order value) (known_word_field order value lt) 0 own

known_half_field : (order : ByteOrder) (value : ℕ) → value < 2 ^ 16
    → IsField 2 (λ field. same_as value (half_of order field)) (IsKnownHalf order value)
known_half_field order value lt = record {
  told = λ text x fits len e. half_back order text fits len ∙ ap (half order) (same_told value (half_of order text) x e);
  again = λ x text s. let r = half_read order value text lt s in (r.0, same_again value (half_of order text) r.1);
}

pub known_half_reader : (order : ByteOrder) (value before : ℕ) (own : PcapFault) → value < 2 ^ 16
    → IsReader (known_half_at order value before own) (IsKnownHalf order value) (FieldFails 2 (IsKnownHalf order value) before own)
known_half_reader order value before own lt =
    field_reader 2 (λ field. same_as value (half_of order field)) (IsKnownHalf order value) (known_half_field order value lt) before own

-- ---- milliseconds

millis_told : (n x : ℕ) → millis_of n ≡ Some x → (x < 1000) × (n ≡ x * 1000)
millis_told n x e =
    let a = when_some (eqb (n % 1000) 0 && ltb n 1000000) (n / 1000) x e in
    let b = and_true (eqb (n % 1000) 0) (ltb n 1000000) a.0 in
    let whole = eqb-true _ _ b.0 in
    let few = ltb-true _ _ b.1 in
    (omega (arith, whole, few, a.1), omega (arith, whole, a.1))

millis_by : (p q : Bool) (a b : ℕ) → p ≡ true → q ≡ true → a ≡ b → cond (p && q) (Some a) None ≡ Some b
millis_by p q a b h k e = rw (h, k, e) refl

millis_again : (n x : ℕ) → x < 1000 → n ≡ x * 1000 → millis_of n ≡ Some x
millis_again n x lt is = millis_by _ _ _ _ (eq-eqb (n % 1000) 0 (omega (arith, is))) (lt-ltb n 1000000 (omega (arith, lt, is))) (omega (arith, is))

millis_field : (order : ByteOrder) → IsField 4 (λ field. millis_of (word_of order field)) (IsMillis order)
millis_field order = record {
  told = λ text x fits len e. let m = millis_told (word_of order text) x e in (m.0, word_back order text fits len ∙ ap (word order) m.1);
  again = λ x text s. let r = word_read order (x * 1000) text (omega (arith, s.0)) s.1 in (r.0, millis_again (word_of order text) x s.0 r.1);
}

pub millis_reader : (order : ByteOrder) → IsReader (millis_at order) (IsMillis order) (FieldFails 4 (IsMillis order) 0 faults.Time)
millis_reader order = field_reader 4 (λ field. millis_of (word_of order field)) (IsMillis order) (millis_field order) 0 faults.Time

-- ---- lengths

length_told : (n x : ℕ) → length_of n ≡ Some x → (x + 18 ≤ 65535) × (n ≡ 18 + x)
length_told n x e =
    let a = unless_some (ltb n 18 || ltb 65535 n) (n - 18) x e in
    let b = or_false (ltb n 18) (ltb 65535 n) a.0 in
    let least = ltb-false _ _ b.0 in
    let most = ltb-false _ _ b.1 in
    (omega (arith, least, most, a.1), omega (arith, least, a.1))

length_by : (p q : Bool) (a b : ℕ) → p ≡ false → q ≡ false → a ≡ b → cond (p || q) None (Some a) ≡ Some b
length_by p q a b h k e = rw (h, k, e) refl

length_again : (n x : ℕ) → x + 18 ≤ 65535 → n ≡ 18 + x → length_of n ≡ Some x
length_again n x most is = length_by _ _ _ _ (le-ltb n 18 (omega (arith, is))) (le-ltb 65535 n (omega (arith, most, is))) (omega (arith, is))

length_field : (order : ByteOrder) → IsField 4 (λ field. length_of (word_of order field)) (IsLength order)
length_field order = record {
  told = λ text x fits len e. let m = length_told (word_of order text) x e in (m.0, word_back order text fits len ∙ ap (word order) m.1);
  again = λ x text s. let r = word_read order (18 + x) text (omega (arith, s.0)) s.1 in (r.0, length_again (word_of order text) x s.0 r.1);
}

pub length_reader : (order : ByteOrder) → IsReader (length_at order) (IsLength order) (FieldFails 4 (IsLength order) 0 faults.Length)
length_reader order = field_reader 4 (λ field. length_of (word_of order field)) (IsLength order) (length_field order) 0 faults.Length

-- ---- addresses of nodes

abbrev node_named : ℕ → NodeId
node_named n = record { 0 = n }

front_is : (a b c d : ℕ) → a < 256 → b < 256 → c < 256 → d < 256 → from_be_bytes w32 (a ∷ b ∷ c ∷ d ∷ []) ≡ 0x02000000
    → (a ≡ 2) × (b ≡ 0) × (c ≡ 0) × (d ≡ 0)
front_is a b c d p q r s e = (omega (arith, p, q, r, s, e), omega (arith, p, q, r, s, e), omega (arith, p, q, r, s, e), omega (arith, p, q, r, s, e))

node_told : (text : List ℕ) (x : NodeId) → IsOctets text → length text ≡ 6 → node_of text ≡ Some x → IsNode x text
node_told [] x fits len h = absurd (omega (arith, len))
node_told (a ∷ []) x fits len h = absurd (omega (arith, len))
node_told (a ∷ b ∷ []) x fits len h = absurd (omega (arith, len))
node_told (a ∷ b ∷ c ∷ []) x fits len h = absurd (omega (arith, len))
node_told (a ∷ b ∷ c ∷ d ∷ []) x fits len h = absurd (omega (arith, len))
node_told (a ∷ b ∷ c ∷ d ∷ e ∷ []) x fits len h = absurd (omega (arith, len))
node_told (a ∷ b ∷ c ∷ d ∷ e ∷ f ∷ g ∷ more) x fits len h = absurd (omega (arith, len))
node_told (a ∷ b ∷ c ∷ d ∷ e ∷ f ∷ []) x fits len h =
    let n = from_be_bytes w16 (e ∷ f ∷ []) in
    let t = when_some (eqb (from_be_bytes w32 (a ∷ b ∷ c ∷ d ∷ [])) 0x02000000) (node_named n) x h in
    let front = front_is a b c d (fits 0) (fits 1) (fits 2) (fits 3) (eqb-true _ _ t.0) in
    let two : IsOctets (e ∷ f ∷ []) = octets_after 4 (a ∷ b ∷ c ∷ d ∷ e ∷ f ∷ []) fits in
    let back : e ∷ f ∷ [] ≡ to_be_bytes w16 n = sym (wide16.back (e ∷ f ∷ []) refl two) in
    let whole : a ∷ b ∷ c ∷ d ∷ e ∷ f ∷ [] ≡ node_octets (node_named n) =
    rw (front.0, front.1, front.2, front.3) (ap (λ (t : List ℕ). 2 ∷ 0 ∷ 0 ∷ 0 ∷ t) back) in
    subst (λ (node : NodeId). IsNode node (a ∷ b ∷ c ∷ d ∷ e ∷ f ∷ [])) t.1 (wide16.below (e ∷ f ∷ []) two, whole)

node_again : (x : NodeId) (text : List ℕ) → IsNode x text → (length text ≡ 6) × (node_of text ≡ Some x)
node_again x text (lt, is) = (
  ap (λ (t : List ℕ). length t) is,
  ap node_of is ∙ ap (λ (n : ℕ). Some (node_named n)) (wide16.again x.0 lt),
)

pub node_reader : IsReader node_at IsNode (FieldFails 6 IsNode 0 faults.Address)
node_reader = field_reader 6 node_of IsNode (record { told = node_told; again = node_again }) 0 faults.Address

-- ---- label stack entries

shim_told : (n : ℕ) (x : ℕ × ℕ) → n < 2 ^ 32 → shim_of n ≡ Some x → IsLabel x.0 × IsTtl x.1 × (n ≡ shim x.0 x.1)
shim_told n x lt e =
    let a = when_some ((eqb (n / 256 % 16) 1 && nat_le 16 (n / 4096)) && not (eqb (n % 256) 0)) (n / 4096, n % 256) x e in
    let b = and_true (eqb (n / 256 % 16) 1 && nat_le 16 (n / 4096)) (not (eqb (n % 256) 0)) a.0 in
    let c = and_true (eqb (n / 256 % 16) 1) (nat_le 16 (n / 4096)) b.0 in
    let bottom = eqb-true _ _ c.0 in
    let least = leb-true _ _ c.1 in
    let alive = eqb-false _ _ (not_true (eqb (n % 256) 0) b.1) in
    let label : n / 4096 ≡ x.0 = ap (λ (p : ℕ × ℕ). p.0) a.1 in
    let ttl : n % 256 ≡ x.1 = ap (λ (p : ℕ × ℕ). p.1) a.1 in
    ((omega (arith, least, label), omega (arith, lt, label)), (omega (arith, alive, ttl), omega (arith, ttl)), omega (arith, bottom, label, ttl))

abbrev pair_of : ℕ → ℕ → ℕ × ℕ
pair_of a b = (a, b)

shim_by : (p q r : Bool) (a b c d : ℕ) → p ≡ true → q ≡ true → r ≡ false → a ≡ c → b ≡ d
    → cond ((p && q) && not r) (Some (pair_of a b)) None ≡ Some (pair_of c d)
shim_by p q r a b c d h k l e f = rw (h, k, l, e, f) refl

shim_again : (n label ttl : ℕ) → IsLabel label → IsTtl ttl → n ≡ shim label ttl → shim_of n ≡ Some (label, ttl)
shim_again n label ttl l t is =
    shim_by _ _ _ _ _ _ _ (eq-eqb (n / 256 % 16) 1 (omega (arith, is, t.1))) (le-leb 16 (n / 4096) (omega (arith, is, t.1, l.0)))
    (ne_eqb (n % 256) 0 (λ none. omega (arith, is, none, t.0, t.1)))
    (omega (arith, is, t.1)) (omega (arith, is, t.1))

shim_field : IsField 4 (λ field. shim_of (from_be_bytes w32 field)) IsShim
shim_field = record { told = told; again = again }
  where
    told : (text : List ℕ) (x : ℕ × ℕ) → IsOctets text → length text ≡ 4 → shim_of (from_be_bytes w32 text) ≡ Some x → IsShim x text
    told text x fits len e =
        let s = shim_told (from_be_bytes w32 text) x (wide32.below text fits) e in
        (s.0, s.1, sym (wide32.back text len fits) ∙ ap (to_be_bytes w32) s.2)

    again : (x : ℕ × ℕ) (text : List ℕ) → IsShim x text → (length text ≡ 4) × (shim_of (from_be_bytes w32 text) ≡ Some x)
    again x text (label, ttl, is) =
        let n = shim x.0 x.1 in
        let lt : n < 2 ^ 32 = omega (arith, label.1, ttl.1) in
        let number : from_be_bytes w32 text ≡ n = ap (from_be_bytes w32) is ∙ wide32.again n lt in
        (ap (λ (t : List ℕ). length t) is, shim_again (from_be_bytes w32 text) x.0 x.1 label ttl number)

pub shim_reader : IsReader shim_at IsShim (FieldFails 4 IsShim 0 faults.Shim)
shim_reader = field_reader 4 (λ field. shim_of (from_be_bytes w32 field)) IsShim shim_field 0 faults.Shim
