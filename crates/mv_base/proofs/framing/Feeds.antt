-- It doesn't matter how a stream is cut into pieces.
use Rattle.std.proofs.Common.{◌≡◌, ℕ, zero, suc, ◌+◌, ◌-◌, ◌≤◌, List, [], ◌∷◌, ◌++◌, length, Option, Some, None, refl, sym, ap, subst, ◌∙◌, append_assoc, arith}
use Rattle.std.specs.List.{flat_map}
use Rattle.std.proofs.Math.Nat.{add-zero}
use Rattle.std.proofs.lemmas.List.{length-append, append-nil}
use Rattle.mv_base.specs.Octets.{IsOctets}
use Rattle.mv_base.specs.framing.Units.{octets_of}
use Rattle.mv_base.specs.framing.Cut.{Front, Cut, with_front, cut_at, cut, shifted, shift}
use Rattle.mv_base.specs.framing.Cut.Front.{more, whole, bad}
use Rattle.mv_base.specs.framing.Feed.{Fed, further, moved, held_of, fed_by, fed_unless, fed, fed_all, unfed}
use Rattle.mv_base.proofs.framing.Cuts.{IsStream, Found, Ends, found, cut_on, cut_stays, rest_le, IsOctets-before, IsOctets-after}

-- ---- a place further on

elsewhere_at : {M E : Type 0} (front : List ℕ → Front M E) (by place : ℕ) (b : ℕ) (bs : List ℕ)
    → ((n : ℕ) → cut_at front (by + (place + 1)) n bs ≡ shift by (cut_at front (place + 1) n bs)) → (o : Front M E) → front (b ∷ bs) ≡ o
    → cut_at front (by + place) 0 (b ∷ bs) ≡ shift by (cut_at front place 0 (b ∷ bs))
unfolding cut_at
elsewhere_at front by place b bs rest more e = rw (e, cut_at) refl
elsewhere_at front by place b bs rest (bad ms offset fault) e =
    rw (e, cut_at) (ap (λ (p : ℕ). record { messages = ms; rest = b ∷ bs; fault = Some (p, fault) }) (omega arith))
elsewhere_at front by place b bs rest (whole n ms) e =
    let there : by + place + 1 ≡ by + (place + 1) = omega arith in
    rw (e, cut_at) (ap (λ (p : ℕ). with_front ms (cut_at front p (n - 1) bs)) there ∙ ap (with_front ms) (rest (n - 1)))

pub elsewhere : {M E : Type 0} (front : List ℕ → Front M E) (by place n : ℕ) (xs : List ℕ)
    → cut_at front (by + place) n xs ≡ shift by (cut_at front place n xs)
unfolding cut_at
elsewhere front by place n [] = refl
elsewhere front by place zero (b ∷ bs) = elsewhere_at front by place b bs (λ n. elsewhere front by (place + 1) n bs) (front (b ∷ bs)) refl
elsewhere front by place (suc n) (b ∷ bs) =
    let there : by + place + 1 ≡ by + (place + 1) = omega arith in
    ap (λ (p : ℕ). cut_at front p n bs) there ∙ elsewhere front by (place + 1) n bs

-- ---- fed in pieces and fed at once

-- what a stream is that was fed so many octets at once
abbrev pub at_once : {M E : Type 0} → ℕ → Cut M E → Fed M E
at_once len c = fed_by unfed len c

held_shifted : {E : Type 0} (by : ℕ) (fault : Option (ℕ × E)) (rest : List ℕ) → held_of fault rest ≡ held_of (shifted by fault) rest
held_shifted by None rest = refl
held_shifted by (Some f) rest = refl

fault_shifted : {E : Type 0} (by before : ℕ) (fault : Option (ℕ × E)) → before ≡ further 0 by → moved before fault ≡ moved 0 (shifted by fault)
fault_shifted by before None at = refl
fault_shifted by before (Some f) at = let here : further before f.0 ≡ further 0 (by + f.0) = omega (arith, at) in ap (λ (p : ℕ). Some (p, f.1)) here

-- two cuts, one after the other, over plain variables
thereafter : {M E : Type 0} (len more_len there : ℕ) (c e : Cut M E) → c.fault ≡ None → there + length c.rest ≡ len
    → length e.rest ≤ length c.rest + more_len → fed_by (at_once len c) (length c.rest + more_len) e
    ≡ at_once (len + more_len) (with_front c.messages (shift there e))
thereafter len more_len there c e none at le =
    let w : ([] ++ c.messages) ++ e.messages ≡ [] ++ (c.messages ++ e.messages) = append_assoc [] c.messages e.messages in
    let front : further 0 (len - length c.rest) ≡ further 0 there = omega (arith, at) in
    let before : further (further 0 (len - length c.rest)) (length c.rest + more_len - length e.rest) ≡ further 0 (len + more_len - length e.rest) =
    omega (arith, at, le) in
    let h = held_shifted there e.fault e.rest in
    let f = fault_shifted there (further 0 (len - length c.rest)) e.fault front in
    λ i. record { waiting = w i; held = h i; before = before i; fault = f i }

-- what comes after a stream that was fed at once, by cases on its fault
after : {M E : Type 0} (front : List ℕ → Front M E) (Spells : List M → List ℕ → Type 0) (kind : IsStream front Spells) (stream piece : List ℕ)
    → IsOctets (stream ++ piece) → (c : Cut M E) → Found front Spells 0 stream c → IsOctets (c.rest ++ piece) → (o : Option (ℕ × E)) → c.fault ≡ o
    → fed_unless front (moved 0 o) (at_once (length stream) c) piece ≡ at_once (length (stream ++ piece)) (cut front (stream ++ piece))
after front Spells kind stream piece fits c f rest_fits None none =
    let ends = subst (Ends front (0 + length stream) c.rest f.first c.messages) none f.ends in
    let held : held_of c.fault c.rest ≡ c.rest = ap (λ (o : Option _). held_of o c.rest) none in
    let there : ℕ = length stream - length c.rest in
    let short = rest_le front Spells 0 stream c f in
    let at : there + length c.rest ≡ 0 + length stream = omega arith in
    let at' : there + length c.rest ≡ length stream = omega arith in
    let e : Cut _ _ = cut front (c.rest ++ piece) in
    let found_e = found front Spells kind.framing 0 (c.rest ++ piece) rest_fits in
    let le : length e.rest ≤ length c.rest + length piece =
    omega (arith, rest_le front Spells 0 (c.rest ++ piece) e found_e, length-append c.rest piece) in
    let whole_cut : cut front (stream ++ piece) ≡ with_front c.messages (shift there e) =
    cut_on front Spells kind.framing 0 there stream piece c f at
    ∙ ap (λ (ms : List _). with_front ms (cut_at front there 0 (c.rest ++ piece))) (sym ends.1)
    ∙ ap (with_front c.messages) (ap (λ (p : ℕ). cut_at front p 0 (c.rest ++ piece)) (sym (add-zero there))
    ∙ elsewhere front there 0 0 (c.rest ++ piece)) in
    ap (λ (xs : List ℕ). fed_by (at_once (length stream) c) (length (xs ++ piece)) (cut front (xs ++ piece))) held
    ∙ ap (λ (n : ℕ). fed_by (at_once (length stream) c) n e) (length-append c.rest piece)
    ∙ thereafter (length stream) (length piece) there c e none at' le
    ∙ ap (λ (n : ℕ). at_once n (with_front c.messages (shift there e))) (sym (length-append stream piece))
    ∙ ap (at_once (length (stream ++ piece))) (sym whole_cut)
after front Spells kind stream piece fits c f rest_fits (Some x) some =
    let cuts = cut_stays front Spells kind 0 stream piece c x f some in
    let h : held_of c.fault c.rest ≡ [] = ap (λ (o : Option _). held_of o c.rest) some in
    let n : further 0 (length stream - length c.rest) ≡ further 0 (length (stream ++ piece) - length (c.rest ++ piece)) =
    omega (arith, length-append stream piece, length-append c.rest piece) in
    let m : moved 0 c.fault ≡ moved 0 (Some x) = ap (moved 0) some in
    let same : at_once (length stream) c ≡ at_once (length (stream ++ piece))
    (record { messages = c.messages; rest = c.rest ++ piece; fault = Some x }) =
    λ i. record { waiting = [] ++ c.messages; held = h i; before = n i; fault = m i } in
    same ∙ ap (at_once (length (stream ++ piece))) (sym cuts)

pub fed_is : {M E : Type 0} (front : List ℕ → Front M E) (Spells : List M → List ℕ → Type 0) (kind : IsStream front Spells) (stream piece : List ℕ)
    → IsOctets (stream ++ piece) → fed front (at_once (length stream) (cut front stream)) piece
    ≡ at_once (length (stream ++ piece)) (cut front (stream ++ piece))
fed_is front Spells kind stream piece fits =
    let fits_stream : IsOctets stream = IsOctets-before stream piece fits in
    let f = found front Spells kind.framing 0 stream fits_stream in
    let c : Cut _ _ = cut front stream in
    let all_rest : stream ++ piece ≡ octets_of f.begins.units ++ (c.rest ++ piece) =
    ap (λ (xs : List ℕ). xs ++ piece) f.begins.parts ∙ append_assoc (octets_of f.begins.units) c.rest piece in
    let rest_fits : IsOctets (c.rest ++ piece) = IsOctets-after (octets_of f.begins.units) (c.rest ++ piece) (subst IsOctets all_rest fits) in
    after front Spells kind stream piece fits c f rest_fits c.fault refl

-- however the octets are cut, the stream is the same
pub fed_all_is : {M E : Type 0} (front : List ℕ → Front M E) (Spells : List M → List ℕ → Type 0) (kind : IsStream front Spells) (stream : List ℕ)
    (pieces : List (List ℕ)) → IsOctets (stream ++ flat_map (λ p. p) pieces)
    → fed_all front (at_once (length stream) (cut front stream)) pieces
    ≡ at_once (length (stream ++ flat_map (λ p. p) pieces)) (cut front (stream ++ flat_map (λ p. p) pieces))
fed_all_is front Spells kind stream [] fits = ap (λ (xs : List ℕ). at_once (length xs) (cut front xs)) (sym (append-nil stream))
fed_all_is front Spells kind stream (piece ∷ pieces) fits =
    let later : List ℕ = flat_map (λ p. p) pieces in
    let grouped : stream ++ (piece ++ later) ≡ (stream ++ piece) ++ later = sym (append_assoc stream piece later) in
    let fits' : IsOctets ((stream ++ piece) ++ later) = subst IsOctets grouped fits in
    ap (λ (d : Fed _ _). fed_all front d pieces) (fed_is front Spells kind stream piece (IsOctets-before (stream ++ piece) later fits'))
    ∙ fed_all_is front Spells kind (stream ++ piece) pieces fits'
    ∙ ap (λ (xs : List ℕ). at_once (length xs) (cut front xs)) (sym grouped)

-- two ways to cut the same octets
pub any_cut : {M E : Type 0} (front : List ℕ → Front M E) (Spells : List M → List ℕ → Type 0) (kind : IsStream front Spells) (ps qs : List (List ℕ))
    → IsOctets (flat_map (λ p. p) ps) → flat_map (λ p. p) ps ≡ flat_map (λ p. p) qs → fed_all front unfed ps ≡ fed_all front unfed qs
unfolding cut_at
any_cut front Spells kind ps qs fits same =
    fed_all_is front Spells kind [] ps fits
    ∙ ap (λ (xs : List ℕ). at_once (length xs) (cut front xs)) same
    ∙ sym (fed_all_is front Spells kind [] qs (subst IsOctets same fits))
