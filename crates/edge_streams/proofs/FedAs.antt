-- The stream of one protocol that is fed is the session's stream that is fed.
use Rattle.std.proofs.Common.{◌≡◌, ℕ, zero, suc, ◌+◌, ◌-◌, List, [], ◌∷◌, ◌++◌, length, map, Option, Some, None, refl, sym, ap, ◌∙◌}
use Rattle.std.proofs.lemmas.List.{map-append}
use Rattle.mv_base.specs.framing.Cut.{Front, Cut, cut_at, cut, with_front}
use Rattle.mv_base.specs.framing.Cut.Front.{more, whole, bad}
use Rattle.mv_base.specs.framing.Feed.{Fed, fed, fed_by, fed_unless, moved, held_of}
use Rattle.network_defs.specs.session_defs.Message.{SessionMessage, SessionFault, as_front}
use Rattle.edge_streams.specs.Kept.{fault_as, stream_as}

module _ {M E : Type 0} (message : M → SessionMessage) (fault : E → SessionFault) (front : List ℕ → Front M E) where
  abbrev cut_as : Cut M E → Cut SessionMessage SessionFault
  cut_as c = record { messages = map message c.messages; rest = c.rest; fault = fault_as fault c.fault }

  abbrev fronts : List ℕ → Front SessionMessage SessionFault
  fronts octets = as_front message fault (front octets)

  cut_here : (place b : ℕ) (bs : List ℕ) → ((n : ℕ) → cut_at fronts (place + 1) n bs ≡ cut_as (cut_at front (place + 1) n bs)) → (o : Front M E)
      → front (b ∷ bs) ≡ o → cut_at fronts place 0 (b ∷ bs) ≡ cut_as (cut_at front place 0 (b ∷ bs))
  unfolding cut_at
  cut_here place b bs rest more e = rw (e, cut_at) refl
  cut_here place b bs rest (bad ms offset f) e = rw (e, cut_at) refl
  cut_here place b bs rest (whole n ms) e =
      let c : Cut M E = cut_at front (place + 1) (n - 1) bs in
      rw (e, cut_at) (ap (with_front (map message ms)) (rest (n - 1))
      ∙ ap (λ (xs : List SessionMessage). record { messages = xs; rest = c.rest; fault = fault_as fault c.fault })
      (sym (map-append message ms c.messages)))

  cut_same : (place n : ℕ) (xs : List ℕ) → cut_at fronts place n xs ≡ cut_as (cut_at front place n xs)
  unfolding cut_at
  cut_same place n [] = refl
  cut_same place zero (b ∷ bs) = cut_here place b bs (λ n. cut_same (place + 1) n bs) (front (b ∷ bs)) refl
  cut_same place (suc n) (b ∷ bs) = cut_same (place + 1) n bs

  held_same : (f : Option (ℕ × E)) (rest : List ℕ) → held_of (fault_as fault f) rest ≡ held_of f rest
  held_same None rest = refl
  held_same (Some f) rest = refl

  moved_same : (before : ℕ) (f : Option (ℕ × E)) → moved before (fault_as fault f) ≡ fault_as fault (moved before f)
  moved_same before None = refl
  moved_same before (Some f) = refl

  by_same : (d : Fed M E) (len : ℕ) (c : Cut M E) → fed_by (stream_as message fault d) len (cut_as c) ≡ stream_as message fault (fed_by d len c)
  by_same d len c =
      let waiting = sym (map-append message d.waiting c.messages) in
      λ i. record { waiting = waiting i; held = held_same c.fault c.rest i; before = (fed_by d len c).before; fault = moved_same d.before c.fault i }

  unless_same : (stop : Option (ℕ × E)) (d : Fed M E) (piece : List ℕ)
      → fed_unless fronts (fault_as fault stop) (stream_as message fault d) piece ≡ stream_as message fault (fed_unless front stop d piece)
  unless_same (Some f) d piece = refl
  unless_same None d piece =
      let xs : List ℕ = d.held ++ piece in
      ap (fed_by (stream_as message fault d) (length xs)) (cut_same 0 0 xs) ∙ by_same d (length xs) (cut front xs)

  pub fed_same : (d : Fed M E) (piece : List ℕ) → fed fronts (stream_as message fault d) piece ≡ stream_as message fault (fed front d piece)
  fed_same d piece = unless_same d.fault d piece
