-- The header of a message, and what stands at the front by it.
use Rattle.std.proofs.Common.{◌≡◌, ◌≢◌, ℕ, ◌+◌, ◌-◌, ◌^◌, ◌<◌, ◌≤◌, Bool, true, false, cond, ltb, not, inl, inr, List, [], ◌∷◌, ◌++◌, length, take, drop, slice_index, drop-cons, refl, sym, ap, ◌∙◌, arith}
use Rattle.std.specs.Int.{w16, to_be_bytes, from_be_bytes}
use Rattle.std.proofs.lemmas.Bool.{le-ltb, lt-ltb, cases_lt}
use Rattle.std.proofs.lemmas.List.{length-append, length-drop, length-take-le, take-append-drop, drop-drop}
use Rattle.mv_base.specs.Octets.{IsOctets}
use Rattle.mv_base.proofs.Fields.{wide16, octets_before, octets_after}
use Rattle.mv_base.specs.framing.Cut.{Front}
use Rattle.mv_base.specs.framing.Cut.Front.{more, bad}
use Rattle.mv_base.proofs.framing.Fronts.{skip, take_branch}
use Rattle.bgp_messages.specs.declared.bgp_attributes.update.Message.{Message}
use Rattle.bgp_messages.specs.declared.bgp_attributes.fault.StreamFault.{StreamFault}
use Rattle.bgp_messages.specs.declared.bgp_attributes.fault.StreamFault.TheVariants.{Marker, MessageLength, MessageType}
use Rattle.bgp_messages.specs.bgp_update.Spelling.{marker, header}
use Rattle.bgp_messages.specs.bgp_update.Reading.{is_marker, is_length, is_type, fits_type, contents, message_of, message_by, message_front}
use Rattle.bgp_messages.proofs.bgp_update.HeaderTests.{is_not, marker_told, marker_tells}

-- the numbers of a header
abbrev pub len_in : List ℕ → ℕ
len_in xs = from_be_bytes w16 (take 2 (drop 16 xs))

abbrev pub kind_in : List ℕ → ℕ
kind_in xs = slice_index xs 18

-- what stands at the front, by the header and what stands after it
abbrev pub by_rest : ℕ → ℕ → List ℕ → Front Message StreamFault
by_rest len kind rest =
    cond (not (is_length len)) (bad [] 16 MessageLength)
    (cond (not (is_type kind)) (bad [] 18 MessageType)
    (cond (not (fits_type kind len)) (bad [] 16 MessageLength)
    (cond (ltb (19 + length rest) len) more
    (message_of len (contents kind (take (len - 19) rest))))))

pub length_headed : (len kind : ℕ) (rest : List ℕ) → length (header len kind ++ rest) ≡ 19 + length rest
length_headed len kind rest = omega (arith, length-append (header len kind) rest)

by_headed : (len kind : ℕ) (rest : List ℕ) → message_by len kind (header len kind ++ rest) ≡ by_rest len kind rest
by_headed len kind rest =
    let size : length (header len kind ++ rest) ≡ 19 + length rest = length_headed len kind rest in
    ap (λ (n : ℕ). cond (not (is_length len)) (bad [] 16 MessageLength)
    (cond (not (is_type kind)) (bad [] 18 MessageType)
    (cond (not (fits_type kind len)) (bad [] 16 MessageLength) (cond (ltb n len) more (message_of len (contents kind (take (len - 19) rest)))))))
    size

-- a header is read
pub at_header : (len kind : ℕ) (rest : List ℕ) → len < 2 ^ 16 → message_front (header len kind ++ rest) ≡ by_rest len kind rest
unfolding message_front
at_header len kind rest lt =
    let xs : List ℕ = header len kind ++ rest in
    let enough : ltb (length xs) 19 ≡ false = le-ltb _ _ (omega (arith, length_headed len kind rest)) in
    skip (ltb (length xs) 19) more _ enough
    ∙ ap (λ (l : ℕ). message_by l kind xs) (wide16.again len lt)
    ∙ by_headed len kind rest

-- too few octets for a header
pub at_few : (xs : List ℕ) → length xs < 19 → message_front xs ≡ more
unfolding message_front
at_few xs lt = take_branch (ltb (length xs) 19) more _ (lt-ltb _ _ lt)

-- another marker
pub at_other_marker : (xs : List ℕ) → 19 ≤ length xs → take 16 xs ≢ marker → message_front xs ≡ bad [] 0 Marker
unfolding message_front
at_other_marker xs le other =
    let len : length (take 16 xs) ≡ 16 = length-take-le 16 xs (omega (arith, le)) in
    let wrong : is_marker (take 16 xs) ≡ false = is_not (is_marker (take 16 xs)) (λ e. other (marker_told (take 16 xs) len e)) in
    skip (ltb (length xs) 19) more _ (le-ltb _ _ le) ∙ take_branch (not (is_marker (take 16 xs))) (bad [] 0 Marker) _ (ap not wrong)

-- octets that have a header with the marker
pub is_headed : (xs : List ℕ) → IsOctets xs → 19 ≤ length xs → take 16 xs ≡ marker → xs ≡ header (len_in xs) (kind_in xs) ++ drop 19 xs
is_headed xs fits le front =
    let two : length (take 2 (drop 16 xs)) ≡ 2 = length-take-le 2 (drop 16 xs) (omega (arith, length-drop 16 xs, le)) in
    let len : to_be_bytes w16 (len_in xs) ≡ take 2 (drop 16 xs) =
    wide16.back (take 2 (drop 16 xs)) two (octets_before 2 (drop 16 xs) (octets_after 16 xs fits)) in
    let kind : drop 18 xs ≡ kind_in xs ∷ drop 19 xs = drop-cons xs 18 0 (omega (arith, le)) in
    sym (take-append-drop 16 xs)
    ∙ ap (λ (ys : List ℕ). ys ++ drop 16 xs) front
    ∙ ap (λ (ys : List ℕ). marker ++ ys) (sym (take-append-drop 2 (drop 16 xs)) ∙ ap (λ (ys : List ℕ). ys ++ drop 2 (drop 16 xs)) (sym len))
    ∙ ap (λ (ys : List ℕ). marker ++ (to_be_bytes w16 (len_in xs) ++ ys)) (drop-drop 2 16 xs ∙ kind)

-- what may stand at the front
pub data Stands (xs : List ℕ) : Type 0 where
  few : length xs < 19 → Stands xs
  other_marker : 19 ≤ length xs → take 16 xs ≢ marker → Stands xs
  headed : (len kind : ℕ) (rest : List ℕ) → len < 2 ^ 16 → xs ≡ header len kind ++ rest → Stands xs

stands_by : (xs : List ℕ) → IsOctets xs → 19 ≤ length xs → (b : Bool) → is_marker (take 16 xs) ≡ b → Stands xs
stands_by xs fits le true e =
    let len : length (take 16 xs) ≡ 16 = length-take-le 16 xs (omega (arith, le)) in
    let below : len_in xs < 2 ^ 16 = wide16.below (take 2 (drop 16 xs)) (octets_before 2 (drop 16 xs) (octets_after 16 xs fits)) in
    Stands.headed (len_in xs) (kind_in xs) (drop 19 xs) below (is_headed xs fits le (marker_told (take 16 xs) len e))
stands_by xs fits le false e = Stands.other_marker le (λ same. let clash : true ≡ false = sym (marker_tells (take 16 xs) same) ∙ e in absurd cc)

pub stands : (xs : List ℕ) → IsOctets xs → Stands xs
stands xs fits = elim (cases_lt (length xs) 19) [ inl lt ↦ Stands.few lt | inr le ↦ stands_by xs fits le (is_marker (take 16 xs)) refl ]
