-- Next hop, reserved octet and NLRI: read exactly where they are spelled, with their first fault.
use Rattle.std.proofs.Common.{◌≡◌, ℕ, ◌+◌, ◌-◌, ◌<◌, ◌≤◌, Bool, true, false, eqb, ltb, ◌⊎◌, inl, inr, List, [], ◌∷◌, ◌++◌, length, take, drop, get_or, Result, Ok, Err, refl, sym, ap, subst, ◌∙◌, append_assoc, arith}
use Rattle.std.specs.Prelude.{◌||◌, nat_eq}
use Rattle.std.specs.Cmp.Lexicographic.{pointwise, same_text, nat_list_eq_equiv}
use Rattle.std.proofs.Math.Seq.{take-add}
use Rattle.std.proofs.lemmas.Bool.{eqb-true, eq-eqb, ne_eqb, ltb-true, ltb-false, le-ltb, lt-ltb, or_cases, or_left, or_right}
use Rattle.std.proofs.lemmas.List.{length-append, length-drop, length-take-le, take_at, drop_at, drop-drop, drop_more, take-append-drop}
use Rattle.mv_base.specs.Octets.{IsOctets}
use Rattle.mv_base.specs.Address.{addr_octets, IsAddr}
use Rattle.mv_base.specs.Cursor.{◌>>=◌}
use Rattle.mv_base.specs.declared.addr.Addr.{Addr}
use Rattle.mv_base.specs.declared.addr.Addr.TheVariants.{V4, V6}
use Rattle.mv_base.proofs.Fields.{octets_after, bind_ok, bind_err, ok_is, err_is}
use Rattle.bgp_values.specs.declared.mvpn_nlri.route.Afi.{Afi}
use Rattle.bgp_values.specs.declared.mvpn_nlri.route.Afi.TheVariants.{Ipv4, Ipv6}
use Rattle.bgp_messages.specs.declared.bgp_attributes.fault.StreamFault.{StreamFault}
use Rattle.bgp_messages.specs.declared.bgp_attributes.fault.StreamFault.TheVariants as faults
use Rattle.bgp_messages.specs.declared.bgp_attributes.family.Family.{Family}
use Rattle.bgp_messages.specs.declared.bgp_attributes.family.Family.TheVariants.{Mcast, Vpn}
use Rattle.bgp_messages.specs.declared.bgp_attributes.key.Key.{Key}
use Rattle.bgp_messages.specs.declared.bgp_attributes.attribute.Reachable.{Reachable}
use Rattle.bgp_messages.specs.bgp_attributes.Spelling.{pair, mapped_front, IsMapped, SpellsMapped, SpellsHopAddr, SpellsNextHop, AreKeys}
use Rattle.bgp_messages.specs.bgp_attributes.FirstFault.{IsHopLen, KeysFault, ValueFault}
use Rattle.bgp_messages.specs.bgp_attributes.FirstFault as value_faults
use Rattle.bgp_messages.specs.bgp_attributes.Reading.{misfit, before_addr, is_hop_len, keys_at, addr_of, is_mapped, unmapped, hop_addr, hop_at}
use Rattle.bgp_messages.proofs.bgp_attributes.NlriLemmas.{keys_taken, keys_again, keys_fail, fail_keys}

-- ---- lengths

one_of : (n a b : ℕ) → (eqb n a || eqb n b) ≡ true → (n ≡ a) ⊎ (n ≡ b)
one_of n a b e =
    elim (or_cases (eqb n a) (eqb n b) e) [
      | inl p ↦ inl (eqb-true n a p)
      | inr q ↦ inr (eqb-true n b q)
    ]

is_one : (n a b : ℕ) → (n ≡ a) ⊎ (n ≡ b) → (eqb n a || eqb n b) ≡ true
is_one n a b (inl p) = or_left (eqb n a) (eqb n b) (eq-eqb n a p)
is_one n a b (inr q) = or_right (eqb n a) (eqb n b) (eq-eqb n b q)

hop_len_is : (f : Family) (len : ℕ) → is_hop_len f len ≡ true → IsHopLen f len
hop_len_is (Mcast afi) len e = one_of len 4 16 e
hop_len_is (Vpn afi) len e = one_of len 12 24 e

is_hop : (f : Family) (len : ℕ) → IsHopLen f len → is_hop_len f len ≡ true
is_hop (Mcast afi) len h = is_one len 4 16 h
is_hop (Vpn afi) len h = is_one len 12 24 h

no_hop_len : (f : Family) (len : ℕ) → is_hop_len f len ≡ false → ¬ (IsHopLen f len)
no_hop_len f len e h = let clash : true ≡ false = sym (is_hop f len h) ∙ e in absurd cc

no_hop : (f : Family) (len : ℕ) (b : Bool) → ¬ (IsHopLen f len) → is_hop_len f len ≡ b → is_hop_len f len ≡ false
no_hop f len true none e = absurd (none (hop_len_is f len e))
no_hop f len false none e = e

-- ---- addresses

addr_is : (xs : List ℕ) → (length xs ≡ 4) ⊎ (length xs ≡ 16) → IsAddr (addr_of xs) × (xs ≡ addr_octets (addr_of xs))
addr_is xs (inl four) = rw (eq-eqb (length xs) 4 four) (four, refl)
addr_is xs (inr more) = rw (ne_eqb (length xs) 4 (λ e. omega (arith, e, more))) (more, refl)

addr_again : (addr : Addr) → IsAddr addr → addr_of (addr_octets addr) ≡ addr
addr_again (V4 octets) len = rw (eq-eqb (length octets) 4 len) refl
addr_again (V6 octets) len = rw (ne_eqb (length octets) 4 (λ e. omega (arith, e, len))) refl

addr_len : (addr : Addr) → IsAddr addr → (length (addr_octets addr) ≡ 4) ⊎ (length (addr_octets addr) ≡ 16)
addr_len (V4 octets) len = inl len
addr_len (V6 octets) len = inr len

-- ---- IPv4-mapped addresses

mapped_is : (octets : List ℕ) → is_mapped octets ≡ true → IsMapped octets
mapped_is octets e = same_text (take 12 octets) mapped_front (sym e)

is_mapped_by : (octets : List ℕ) → IsMapped octets → is_mapped octets ≡ true
is_mapped_by octets is = ap (λ (xs : List ℕ). pointwise nat_eq xs mapped_front) is ∙ nat_list_eq_equiv.refl mapped_front

no_mapped : (octets : List ℕ) (b : Bool) → ¬ (IsMapped octets) → is_mapped octets ≡ b → is_mapped octets ≡ false
no_mapped octets true none e = absurd (none (mapped_is octets e))
no_mapped octets false none e = e

unmapped_yes : (octets : List ℕ) → is_mapped octets ≡ true → unmapped (V6 octets) ≡ V4 (drop 12 octets)
unmapped_yes octets e = rw e refl

unmapped_no : (octets : List ℕ) → is_mapped octets ≡ false → unmapped (V6 octets) ≡ V6 octets
unmapped_no octets e = rw e refl

mapped_by : (octets : List ℕ) (b : Bool) → is_mapped octets ≡ b → length octets ≡ 16 → SpellsMapped (unmapped (V6 octets)) octets
mapped_by octets true e len =
    let whole : octets ≡ mapped_front ++ drop 12 octets =
    sym (take-append-drop 12 octets) ∙ ap (λ (xs : List ℕ). xs ++ drop 12 octets) (mapped_is octets e) in
    let four : length (drop 12 octets) ≡ 4 = omega (arith, len, length-drop 12 octets) in
    subst (λ (a : Addr). SpellsMapped a octets) (sym (unmapped_yes octets e)) (four, inr whole)
mapped_by octets false e len =
    let none : ¬ (IsMapped octets) = λ is. let clash : true ≡ false = sym (is_mapped_by octets is) ∙ e in absurd cc in
    subst (λ (a : Addr). SpellsMapped a octets) (sym (unmapped_no octets e)) (len, none, refl)

-- What is read spells the address.
mapped_spelled : (xs : List ℕ) → (length xs ≡ 4) ⊎ (length xs ≡ 16) → SpellsMapped (unmapped (addr_of xs)) xs
mapped_spelled xs (inl four) = rw (eq-eqb (length xs) 4 four) (four, inl refl)
mapped_spelled xs (inr more) = rw (ne_eqb (length xs) 4 (λ e. omega (arith, e, more))) (mapped_by xs (is_mapped xs) refl more)

-- What spells an address is read as that.
mapped_read : (addr : Addr) (text : List ℕ) → SpellsMapped addr text → ((length text ≡ 4) ⊎ (length text ≡ 16)) × (unmapped (addr_of text) ≡ addr)
mapped_read (V4 octets) text (len, inl is) =
    (inl (ap (λ (xs : List ℕ). length xs) is ∙ len), ap (λ (xs : List ℕ). unmapped (addr_of xs)) is ∙ ap unmapped (addr_again (V4 octets) len))
mapped_read (V4 octets) text (len, inr is) =
    let whole : List ℕ = mapped_front ++ octets in
    let size : length whole ≡ 16 = omega (arith, len, length-append mapped_front octets) in
    let yes : is_mapped whole ≡ true = is_mapped_by whole (take_at mapped_front octets 12 refl) in
    let read : unmapped (V6 whole) ≡ V4 octets = unmapped_yes whole yes ∙ ap (λ (xs : List ℕ). V4 xs) (drop_at mapped_front octets 12 refl) in (
      inr (ap (λ (xs : List ℕ). length xs) is ∙ size),
      ap (λ (xs : List ℕ). unmapped (addr_of xs)) is ∙ ap unmapped (addr_again (V6 whole) size) ∙ read,
    )
mapped_read (V6 octets) text (len, none, is) = (
  inr (ap (λ (xs : List ℕ). length xs) is ∙ len),
  ap (λ (xs : List ℕ). unmapped (addr_of xs)) is ∙ ap unmapped (addr_again (V6 octets) len)
      ∙ unmapped_no octets (no_mapped octets (is_mapped octets) none refl),
)

-- ---- the address of a next hop

vpn_hop_spelled : (afi : Afi) (xs : List ℕ) → (length xs ≡ 4) ⊎ (length xs ≡ 16) → SpellsHopAddr afi (hop_addr (Vpn afi) xs) xs
vpn_hop_spelled Ipv4 xs h = addr_is xs h
vpn_hop_spelled Ipv6 xs h = mapped_spelled xs h

vpn_hop_read : (afi : Afi) (addr : Addr) (text : List ℕ) → SpellsHopAddr afi addr text
    → ((length text ≡ 4) ⊎ (length text ≡ 16)) × (hop_addr (Vpn afi) text ≡ addr)
vpn_hop_read Ipv4 addr text (is, same) =
    (subst (λ (xs : List ℕ). (length xs ≡ 4) ⊎ (length xs ≡ 16)) (sym same) (addr_len addr is), ap addr_of same ∙ addr_again addr is)
vpn_hop_read Ipv6 addr text s = mapped_read addr text s

-- the address of a next hop of that many octets
abbrev hop_in : Family → ℕ → List ℕ → Addr
hop_in f len rest = hop_addr f (take (len - before_addr f) (drop (before_addr f) rest))

-- A next hop of a length that may be spells its address.
hop_spelled : (f : Family) (len : ℕ) (rest : List ℕ) → IsHopLen f len → len ≤ length rest → SpellsNextHop f (hop_in f len rest) (take len rest)
hop_spelled (Mcast afi) len rest h le =
    let size : length (take len rest) ≡ len = length-take-le len rest le in
    let all : len ≡ len - 0 = omega arith in
    subst (λ (n : ℕ). IsAddr (addr_of (take n rest)) × (take len rest ≡ addr_octets (addr_of (take n rest)))) all
    (addr_is (take len rest) (subst (λ (n : ℕ). (n ≡ 4) ⊎ (n ≡ 16)) (sym size) h))
hop_spelled (Vpn afi) len rest h le =
    let least : 8 ≤ len = elim h [ inl e ↦ omega (arith, e) | inr e ↦ omega (arith, e) ] in
    let text : List ℕ = take (len - 8) (drop 8 rest) in
    let size : length text ≡ len - 8 = length-take-le (len - 8) (drop 8 rest) (omega (arith, length-drop 8 rest)) in
    let either : (length text ≡ 4) ⊎ (length text ≡ 16) = elim h [ inl e ↦ inl (omega (arith, size, e)) | inr e ↦ inr (omega (arith, size, e)) ] in
    let count : len ≡ 8 + (len - 8) = omega arith in
    let whole : take len rest ≡ take 8 rest ++ text = ap (λ (n : ℕ). take n rest) count ∙ take-add 8 (len - 8) rest in
    (take 8 rest, text, length-take-le 8 rest (omega arith), vpn_hop_spelled afi text either, whole)

-- A next hop that is spelled has such a length, and its address is read.
hop_again : (f : Family) (addr : Addr) (hop after : List ℕ) → SpellsNextHop f addr hop
    → IsHopLen f (length hop) × (hop_in f (length hop) (hop ++ after) ≡ addr)
hop_again (Mcast afi) addr hop after (is, same) =
    let all : length hop - 0 ≡ length hop = omega arith in (
      subst (λ (xs : List ℕ). (length xs ≡ 4) ⊎ (length xs ≡ 16)) (sym same) (addr_len addr is),
      ap (λ (n : ℕ). addr_of (take n (hop ++ after))) all ∙ ap addr_of (take_at hop after (length hop) refl ∙ same) ∙ addr_again addr is,
    )
hop_again (Vpn afi) addr hop after (front, thereafter, eight, spells, same) =
    let (sizes, read) = vpn_hop_read afi addr thereafter spells in
    let size : length hop ≡ 8 + length thereafter = omega (arith, eight, ap (λ (xs : List ℕ). length xs) same, length-append front thereafter) in
    let there : drop 8 (hop ++ after) ≡ thereafter ++ after =
    ap (λ (xs : List ℕ). drop 8 (xs ++ after)) same ∙ ap (λ (xs : List ℕ). drop 8 xs) (append_assoc front thereafter after)
    ∙ drop_at front (thereafter ++ after) 8 eight in
    let text : take (length hop - 8) (drop 8 (hop ++ after)) ≡ thereafter =
    ap (λ (xs : List ℕ). take (length hop - 8) xs) there ∙ take_at thereafter after (length hop - 8) (omega (arith, size)) in
    let len : IsHopLen (Vpn afi) (length hop) = elim sizes [ inl e ↦ inl (omega (arith, size, e)) | inr e ↦ inr (omega (arith, size, e)) ] in
    (len, ap (hop_addr (Vpn afi)) text ∙ read)

-- ---- next hop, reserved octet and NLRI

abbrev reachable : Addr → List Key → Reachable
reachable next_hop ks = record { next_hop = next_hop; keys = ks }

-- what is read after a next hop of a length that may be, where there are octets enough
hop_by : (f : Family) (place len : ℕ) (rest : List ℕ) → IsHopLen f len → len + 1 ≤ length rest
    → hop_at f place len rest ≡ (keys_at f (place + len + 2) (drop (len + 1) rest) >>= λ ks. Ok (reachable (hop_in f len rest) ks))
unfolding hop_at
hop_by f place len rest h le = rw (is_hop f len h, le-ltb (length rest) (len + 1) le) refl

-- what stands after the length of a next hop
pub record SpellsHop (f : Family) (r : Reachable) (len : ℕ) (rest : List ℕ) : Type 0 where
  pub hop : List ℕ
  pub reserved : ℕ
  pub nlri : List ℕ
  pub size : length hop ≡ len
  pub next_hop : SpellsNextHop f r.next_hop hop
  pub routes : AreKeys f r.keys nlri []
  pub parts : rest ≡ hop ++ (reserved ∷ nlri)

-- Octets enough are a next hop, a reserved octet and NLRI.
cut_after : (len : ℕ) (rest : List ℕ) → len + 1 ≤ length rest → rest ≡ take len rest ++ (get_or rest len 0 ∷ drop (len + 1) rest)
cut_after len rest le = sym (take-append-drop len rest) ∙ ap (λ (xs : List ℕ). take len rest ++ xs) (drop_more rest len 0 (omega arith))

-- the three ways that reading goes
pub data HopIs (f : Family) (place len : ℕ) (rest : List ℕ) : Type 0 where
  wrong : ¬ (IsHopLen f len) → hop_at f place len rest ≡ Err (place, faults.NextHop) → HopIs f place len rest
  cut : IsHopLen f len → length rest < len + 1 → hop_at f place len rest ≡ Err misfit → HopIs f place len rest
  stands : IsHopLen f len → len + 1 ≤ length rest
      → hop_at f place len rest ≡ (keys_at f (place + len + 2) (drop (len + 1) rest) >>= λ ks. Ok (reachable (hop_in f len rest) ks))
      → HopIs f place len rest

pub hop_short : (f : Family) (place len : ℕ) (rest : List ℕ) → IsHopLen f len → length rest < len + 1 → hop_at f place len rest ≡ Err misfit
unfolding hop_at
hop_short f place len rest h lt = rw (is_hop f len h, lt-ltb (length rest) (len + 1) lt) refl

pub hop_wrong : (f : Family) (place len : ℕ) (rest : List ℕ) → ¬ (IsHopLen f len) → hop_at f place len rest ≡ Err (place, faults.NextHop)
unfolding hop_at
hop_wrong f place len rest none = rw (no_hop f len (is_hop_len f len) none refl) refl

way : (f : Family) (place len : ℕ) (rest : List ℕ) (b c : Bool) → is_hop_len f len ≡ b → ltb (length rest) (len + 1) ≡ c → HopIs f place len rest
way f place len rest false c e d = let none = no_hop_len f len e in wrong none (hop_wrong f place len rest none)
way f place len rest true true e d = let h = hop_len_is f len e in let lt = ltb-true (length rest) (len + 1) d in
    cut h lt (hop_short f place len rest h lt)
way f place len rest true false e d = let h = hop_len_is f len e in let le = ltb-false (length rest) (len + 1) d in
    stands h le (hop_by f place len rest h le)

pub hop_is : (f : Family) (place len : ℕ) (rest : List ℕ) → HopIs f place len rest
hop_is f place len rest = way f place len rest (is_hop_len f len) (ltb (length rest) (len + 1)) refl refl

-- What is read is spelled.
taken_by : (f : Family) (place len : ℕ) (rest : List ℕ) (r : Reachable) → IsOctets rest → hop_at f place len rest ≡ Ok r → HopIs f place len rest
    → SpellsHop f r len rest
taken_by f place len rest r fits e (wrong none is) = absurd cc
taken_by f place len rest r fits e (cut h lt is) = absurd cc
taken_by f place len rest r fits e (stands h le is) =
    let (ks, read, made) = bind_ok (keys_at f (place + len + 2) (drop (len + 1) rest)) _ r (sym is ∙ e) in
    let nlri : List ℕ = drop (len + 1) rest in
    let all : SpellsHop f (reachable (hop_in f len rest) ks) len rest = record {
      hop = take len rest;
      reserved = get_or rest len 0;
      nlri = nlri;
      size = length-take-le len rest (omega arith);
      next_hop = hop_spelled f len rest h (omega arith);
      routes = keys_taken f (place + len + 2) nlri ks (octets_after (len + 1) rest fits) read;
      parts = cut_after len rest le;
    } in
    subst (λ (s : Reachable). SpellsHop f s len rest) (ok_is (reachable (hop_in f len rest) ks) r made) all

pub hop_taken : (f : Family) (place len : ℕ) (rest : List ℕ) (r : Reachable) → IsOctets rest → hop_at f place len rest ≡ Ok r → SpellsHop f r len rest
hop_taken f place len rest r fits e = taken_by f place len rest r fits e (hop_is f place len rest)

-- What is read after a next hop that is spelled.
pub after_hop : (f : Family) (place : ℕ) (addr : Addr) (hop : List ℕ) (reserved : ℕ) (nlri : List ℕ) → SpellsNextHop f addr hop
    → hop_at f place (length hop) (hop ++ (reserved ∷ nlri)) ≡ (keys_at f (place + length hop + 2) nlri >>= λ ks. Ok (reachable addr ks))
after_hop f place addr hop reserved nlri s =
    let len : ℕ = length hop in
    let rest : List ℕ = hop ++ (reserved ∷ nlri) in
    let (h, is) = hop_again f addr hop (reserved ∷ nlri) s in
    let thereafter : drop (len + 1) rest ≡ nlri = sym (drop-drop 1 len rest) ∙ ap (λ (xs : List ℕ). drop 1 xs) (drop_at hop (reserved ∷ nlri) len refl) in
    hop_by f place len rest h (omega (arith, length-append hop (reserved ∷ nlri)))
    ∙ ap (λ (xs : List ℕ). keys_at f (place + len + 2) xs >>= λ ks. Ok (reachable (hop_in f len rest) ks)) thereafter
    ∙ ap (λ (a : Addr). keys_at f (place + len + 2) nlri >>= λ ks. Ok (reachable a ks)) is

-- What is spelled is read.
pub hop_read : (f : Family) (place : ℕ) (r : Reachable) (hop : List ℕ) (reserved : ℕ) (nlri : List ℕ) → SpellsNextHop f r.next_hop hop
    → AreKeys f r.keys nlri [] → hop_at f place (length hop) (hop ++ (reserved ∷ nlri)) ≡ Ok r
hop_read f place r hop reserved nlri s are =
    after_hop f place r.next_hop hop reserved nlri s
    ∙ ap (λ (x : Result (List Key) (ℕ × StreamFault)). x >>= λ ks. Ok (reachable r.next_hop ks))
    (keys_again f (place + length hop + 2) nlri r.keys are)

-- ---- faults, where the value stands 3 octets before the length of the next hop

misfit_is : (at : ℕ) (e : StreamFault) → misfit ≡ (at, e) → (at ≡ 0) × (e ≡ faults.AttributeLength)
misfit_is at e same = (sym (ap (λ (x : ℕ × StreamFault). x.0) same), sym (ap (λ (x : ℕ × StreamFault). x.1) same))

fails_by : (f : Family) (place len : ℕ) (value rest : List ℕ) (at : ℕ) (e : StreamFault) → IsOctets rest → value ≡ pair f ++ (len ∷ rest)
    → hop_at f (place + 3) len rest ≡ Err (at, e) → HopIs f (place + 3) len rest → ValueFault 14 value place at e
fails_by f place len value rest at e fits parts h (wrong none is) =
    let made : ℕ × StreamFault = (place + 3, faults.NextHop) in
    let given : ℕ × StreamFault = (at, e) in
    let same : made ≡ given = err_is made given (sym is ∙ h) in
    value_faults.hop_len f len rest refl parts none (sym (ap (λ (x : ℕ × StreamFault). x.0) same)) (sym (ap (λ (x : ℕ × StreamFault). x.1) same))
fails_by f place len value rest at e fits parts h (cut is_len lt is) =
    let (p, q) = misfit_is at e (err_is misfit (at, e) (sym is ∙ h)) in
    value_faults.hop_cut f len rest refl parts is_len lt p q
fails_by f place len value rest at e fits parts h (stands is_len le is) =
    let nlri : List ℕ = drop (len + 1) rest in
    let hop : List ℕ = take len rest in
    let size : length hop ≡ len = length-take-le len rest (omega arith) in
    let whole_value : value ≡ pair f ++ (length hop ∷ (hop ++ (get_or rest len 0 ∷ nlri))) =
    parts ∙ ap (λ (n : ℕ). pair f ++ (n ∷ rest)) (sym size) ∙ ap (λ (xs : List ℕ). pair f ++ (length hop ∷ xs)) (cut_after len rest le) in
    elim (bind_err (keys_at f (place + 3 + len + 2) nlri) _ (at, e) (sym is ∙ h)) [
      | inl fault ↦
          let (inner, there, in_keys) = keys_fail f (place + 3 + len + 2) nlri at e (octets_after (len + 1) rest fits) fault in
          value_faults.in_reach f (hop_in f len rest) hop (get_or rest len 0) nlri inner refl (hop_spelled f len rest is_len (omega arith))
          whole_value in_keys (omega (arith, there, size))
      | inr x ↦ absurd cc
    ]

-- A fault that is answered is there.
pub hop_fails : (f : Family) (place len : ℕ) (value rest : List ℕ) (at : ℕ) (e : StreamFault) → IsOctets rest → value ≡ pair f ++ (len ∷ rest)
    → hop_at f (place + 3) len rest ≡ Err (at, e) → ValueFault 14 value place at e
hop_fails f place len value rest at e fits parts h = fails_by f place len value rest at e fits parts h (hop_is f (place + 3) len rest)

-- A fault of the NLRI is answered.
pub fails_hop : (f : Family) (place : ℕ) (addr : Addr) (hop : List ℕ) (reserved : ℕ) (nlri : List ℕ) (inner : ℕ) (e : StreamFault)
    → SpellsNextHop f addr hop → KeysFault f nlri inner e
    → hop_at f place (length hop) (hop ++ (reserved ∷ nlri)) ≡ Err (place + length hop + 2 + inner, e)
fails_hop f place addr hop reserved nlri inner e s h =
    after_hop f place addr hop reserved nlri s ∙ ap (λ (x : Result (List Key) (ℕ × StreamFault)). x >>= λ ks. Ok (reachable addr ks))
    (fail_keys f (place + length hop + 2) nlri inner e h)
