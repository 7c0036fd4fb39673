-- The loop that cuts octets, over plain variables.
use Rattle.std.proofs.Common.{◌≡◌, ℕ, ◌+◌, ◌-◌, ◌<◌, ◌≤◌, List, [], ◌++◌, length, take, drop, Option, Some, None, refl, sym, ap, subst, ◌∙◌, arith}
use Rattle.std.proofs.lemmas.List.{length-drop, drop-drop, drop_all, take_rest, append-nil}
use Rattle.mv_base.specs.framing.Cut.{Front, Cut, with_front, cut_at, cut, IsCutting, IsNear}
use Rattle.mv_base.specs.framing.Cut.Front.{more, whole, bad}
use Rattle.mv_base.specs.framing.Feed.{Fed, further, moved, held_of, fed_by, fed_unless, fed}
use Rattle.mv_base.proofs.framing.Cuts.{one_further, waits, stops, with_both}

-- from here on the cut is that from the start
pub record OnWay {M E : Type 0} (front : List ℕ → Front M E) (octets : List ℕ) (place : ℕ) (found : List M) : Type 0 where
  pub within : place ≤ length octets
  pub same : with_front found (cut_at front place 0 (drop place octets)) ≡ cut front octets

-- `&octets[place..]`
abbrev pub tail_of : List ℕ → ℕ → List ℕ
tail_of octets place = take (length octets - place) (drop place octets)

pub on_way_start : {M E : Type 0} (front : List ℕ → Front M E) (octets : List ℕ) → OnWay front octets 0 []
on_way_start front octets = record { within = omega arith; same = refl }

pub on_way_more : {M E : Type 0} (front : List ℕ → Front M E) (octets : List ℕ) (place n : ℕ) (found ms : List M) → OnWay front octets place found
    → 0 < n → n ≤ length (tail_of octets place) → front (tail_of octets place) ≡ whole n ms → OnWay front octets (place + n) (found ++ ms)
on_way_more front octets place n found ms w pos le e =
    let le' : n ≤ length (drop place octets) = subst (λ (xs : List ℕ). n ≤ length xs) (take_rest octets place) le in
    let e' : front (drop place octets) ≡ whole n ms = ap front (sym (take_rest octets place)) ∙ e in
    record {
      within = omega (arith, w.within, le', length-drop place octets);
      same = with_both found ms (cut_at front (place + n) 0 (drop (place + n) octets))
          ∙ ap (λ (xs : List ℕ). with_front found (with_front ms (cut_at front (place + n) 0 xs))) (sym (drop-drop n place octets))
          ∙ ap (with_front found) (sym (one_further front place n ms (drop place octets) pos le' e'))
          ∙ w.same;
    }

cutting : {M E : Type 0} (octets : List ℕ) (c d : Cut M E) (found ms : List M) (place : ℕ) (stop : Option (ℕ × E)) → place ≤ length octets
    → IsNear stop (length octets) → with_front found d ≡ c → d ≡ record { messages = ms; rest = drop place octets; fault = stop }
    → IsCutting octets c (found ++ ms) place stop
cutting octets c d found ms place stop within near same is =
    let whole_cut : record { messages = found ++ ms; rest = drop place octets; fault = stop } ≡ c = sym (ap (with_front found) is) ∙ same in
    record {
      messages = ap (λ (k : Cut _ _). k.messages) whole_cut;
      rest = ap (λ (k : Cut _ _). k.rest) whole_cut;
      fault = ap (λ (k : Cut _ _). k.fault) whole_cut;
      within = within;
      near = near;
    }

-- no fault is met
sound : {M E : Type 0} (front : List ℕ → Front M E) (octets : List ℕ) (place : ℕ) (found : List M) → OnWay front octets place found
    → front (drop place octets) ≡ more → IsCutting octets (cut front octets) found place None
sound {M} front octets place found w e =
    let P : List M → Type 0 = λ ms. IsCutting octets (cut front octets) ms place None in
    subst P (append-nil found) (cutting octets (cut front octets) (cut_at front place 0 (drop place octets)) found [] place None w.within tt w.same
    (waits front place (drop place octets) e))

-- messages stand before the fault
pub on_way_fault_after : {M E : Type 0} (front : List ℕ → Front M E) (octets : List ℕ) (place offset : ℕ) (fault : E) (found ms : List M)
    → front [] ≡ more → OnWay front octets place found → offset ≤ length (tail_of octets place) → front (tail_of octets place) ≡ bad ms offset fault
    → IsCutting octets (cut front octets) (found ++ ms) place (Some (place + offset, fault))
on_way_fault_after front octets place offset fault found ms none w le e =
    let le' : offset ≤ length (drop place octets) = subst (λ (xs : List ℕ). offset ≤ length xs) (take_rest octets place) le in
    let e' : front (drop place octets) ≡ bad ms offset fault = ap front (sym (take_rest octets place)) ∙ e in
    cutting octets (cut front octets) (cut_at front place 0 (drop place octets)) found ms place (Some (place + offset, fault)) w.within
    (omega (arith, le', w.within, length-drop place octets)) w.same (stops front place offset fault ms (drop place octets) none e')

-- no message stands before the fault
pub on_way_fault : {M E : Type 0} (front : List ℕ → Front M E) (octets : List ℕ) (place offset : ℕ) (fault : E) (found : List M) → front [] ≡ more
    → OnWay front octets place found → offset ≤ length (tail_of octets place) → front (tail_of octets place) ≡ bad [] offset fault
    → IsCutting octets (cut front octets) found place (Some (place + offset, fault))
on_way_fault {M} front octets place offset fault found none w le e =
    let P : List M → Type 0 = λ ms. IsCutting octets (cut front octets) ms place (Some (place + offset, fault)) in
    subst P (append-nil found) (on_way_fault_after front octets place offset fault found [] none w le e)

pub on_way_wait : {M E : Type 0} (front : List ℕ → Front M E) (octets : List ℕ) (place : ℕ) (found : List M) → OnWay front octets place found
    → front (tail_of octets place) ≡ more → IsCutting octets (cut front octets) found place None
on_way_wait front octets place found w e =
    let e' : front (drop place octets) ≡ more = ap front (sym (take_rest octets place)) ∙ e in
    sound front octets place found w e'

pub on_way_end : {M E : Type 0} (front : List ℕ → Front M E) (octets : List ℕ) (place : ℕ) (found : List M) → front [] ≡ more
    → OnWay front octets place found → length octets ≤ place → IsCutting octets (cut front octets) found place None
on_way_end front octets place found none w le =
    let e' : front (drop place octets) ≡ more = ap front (drop_all place octets le) ∙ none in
    sound front octets place found w e'

-- what a stream is after a piece, by what the loop found
pub fed_found : {M E : Type 0} (front : List ℕ → Front M E) (d : Fed M E) (piece all : List ℕ) (found : List M) (len : ℕ) (stop : Option (ℕ × E))
    → d.fault ≡ None → all ≡ d.held ++ piece → IsCutting all (cut front all) found len stop
    → record { waiting = d.waiting ++ found; held = held_of stop (drop len all); before = further d.before len; fault = moved d.before stop }
    ≡ fed front d piece
fed_found {M} {E} front d piece all found len stop unfailed whole_is k =
    let c : Cut M E = cut front all in
    let n : further d.before len ≡ further d.before (length all - length c.rest) =
    omega (arith, k.within, length-drop len all, ap (λ (xs : List ℕ). length xs) k.rest) in
    let w : d.waiting ++ found ≡ d.waiting ++ c.messages = ap (λ (ms : List M). d.waiting ++ ms) k.messages in
    let h : held_of stop (drop len all) ≡ held_of c.fault c.rest =
    ap (λ (o : Option (ℕ × E)). held_of o (drop len all)) k.fault ∙ ap (λ (xs : List ℕ). held_of c.fault xs) k.rest in
    let f : moved d.before stop ≡ moved d.before c.fault = ap (moved d.before) k.fault in
    let by_cut : record {
      waiting = d.waiting ++ found;
      held = held_of stop (drop len all);
      before = further d.before len;
      fault =
          moved d.before stop;
    } ≡ fed_by d (length all) c =
    λ i. record { waiting = w i; held = h i; before = n i; fault = f i } in
    by_cut ∙ ap (λ (xs : List ℕ). fed_by d (length xs) (cut front xs)) whole_is
    ∙ ap (λ (o : Option (ℕ × E)). fed_unless front o d piece) (sym unfailed)
