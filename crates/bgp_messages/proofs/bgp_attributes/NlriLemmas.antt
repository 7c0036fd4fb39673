-- NLRI: keys end to end are read, what is read are they, and the first fault is answered.
use Rattle.std.proofs.Common.{◌≡◌, ℕ, ◌+◌, ◌<◌, ◌≤◌, List, [], ◌∷◌, ◌++◌, length, take, Option, Some, None, Result, Ok, Err, refl, sym, ap, subst, ◌∙◌, arith}
use Rattle.std.proofs.lemmas.List.{length-append, length-drop, append-nil, take_rest}
use Rattle.mv_base.specs.Octets.{IsOctets}
use Rattle.mv_base.proofs.Fields.{ok_is, err_is}
use Rattle.mv_base.specs.framing.Units.{octets_of}
use Rattle.mv_base.specs.framing.Cut.{Cut, with_front, cut_at, cut}
use Rattle.mv_base.specs.framing.Cut.Front.{more, whole, bad}
use Rattle.mv_base.proofs.framing.Cuts.{IsFraming, Ends, found, begun, waits, stops, IsOctets-after}
use Rattle.mv_base.proofs.framing.Fronts.{bad_is, whole_is}
use Rattle.mv_base.proofs.framing.Loops.{OnWay, tail_of, on_way_more, on_way_fault, on_way_end}
use Rattle.bgp_messages.specs.declared.bgp_attributes.fault.StreamFault.{StreamFault}
use Rattle.bgp_messages.specs.declared.bgp_attributes.nlri.BadKey.{BadKey}
use Rattle.bgp_messages.specs.declared.bgp_attributes.family.Family.{Family}
use Rattle.bgp_messages.specs.declared.bgp_attributes.key.Key.{Key}
use Rattle.bgp_messages.specs.bgp_attributes.Spelling.{SpellsUnit, AreKeys}
use Rattle.bgp_messages.specs.bgp_attributes.FirstFault.{KeyFault, KeysFault}
use Rattle.bgp_messages.specs.bgp_attributes.Reading.{key_at, seen, key_front, all_keys, keys_at}
use Rattle.bgp_messages.proofs.bgp_attributes.KeyLemmas.{key_taken, key_again, key_filled, key_fails, fails_key}

-- ---- what stands at the front

front_is : (f : Family) (xs : List ℕ) → 0 < length xs → key_front f xs ≡ seen (key_at f xs)
front_is f [] pos = absurd (omega arith)
front_is f (b ∷ bs) pos = refl

seen_taken : (f : Family) (xs : List ℕ) (n : ℕ) (ks : List Key) (r : Result (Key × ℕ) BadKey) → IsOctets xs → key_at f xs ≡ r → seen r ≡ whole n ks
    → (n ≤ length xs) × SpellsUnit f ks (take n xs)
seen_taken f xs n ks (Err b) fits is e = absurd cc
seen_taken f xs n ks (Ok x) fits is e =
    let (count, one) = whole_is x.1 n (x.0 ∷ []) ks e in
    let (pos, le, spells) = key_taken f xs x fits is in
    subst (λ (m : ℕ). (m ≤ length xs) × SpellsUnit f ks (take m xs)) count (le, (x.0, sym one, spells))

front_taken : (f : Family) (xs : List ℕ) (n : ℕ) (ks : List Key) → IsOctets xs → key_front f xs ≡ whole n ks
    → (n ≤ length xs) × SpellsUnit f ks (take n xs)
front_taken f [] n ks fits e = absurd cc
front_taken f (b ∷ bs) n ks fits e = seen_taken f (b ∷ bs) n ks (key_at f (b ∷ bs)) fits refl e

front_again : (f : Family) (ks : List Key) (text after : List ℕ) → SpellsUnit f ks text → key_front f (text ++ after) ≡ whole (length text) ks
front_again f ks text after (k, one, s) =
    front_is f (text ++ after) (omega (arith, key_filled f k text s, length-append text after))
    ∙ ap seen (key_again f k text after s)
    ∙ ap (λ (ms : List Key). whole (length text) ms) (sym one)

front_filled : (f : Family) (ks : List Key) (text : List ℕ) → SpellsUnit f ks text → 0 < length text
front_filled f ks text (k, one, s) = key_filled f k text s

pub framing : (f : Family) → IsFraming (key_front f) (SpellsUnit f)
framing f = record { empty = refl; taken = front_taken f; again = front_again f; filled = front_filled f }

seen_bad : (f : Family) (xs : List ℕ) (last : List Key) (offset : ℕ) (e : StreamFault) (r : Result (Key × ℕ) BadKey) → IsOctets xs → 0 < length xs
    → key_at f xs ≡ r → seen r ≡ bad last offset e → (last ≡ []) × KeyFault f xs offset e
seen_bad f xs last offset e (Ok x) fits pos is h = absurd cc
seen_bad f xs last offset e (Err b) fits pos is h =
    let (at, same, none) = bad_is [] last b.offset offset b.fault e h in
    let made = key_fails f xs b fits pos is in
    (sym none, subst (λ (m : ℕ). KeyFault f xs m e) at (subst (λ (d : StreamFault). KeyFault f xs b.offset d) same made.0))

front_bad : (f : Family) (xs : List ℕ) (last : List Key) (offset : ℕ) (e : StreamFault) → IsOctets xs → key_front f xs ≡ bad last offset e
    → (0 < length xs) × ((last ≡ []) × KeyFault f xs offset e)
front_bad f [] last offset e fits h = absurd cc
front_bad f (b ∷ bs) last offset e fits h = (omega arith, seen_bad f (b ∷ bs) last offset e (key_at f (b ∷ bs)) fits (omega arith) refl h)

bad_again : (f : Family) (xs : List ℕ) (offset : ℕ) (e : StreamFault) → 0 < length xs → KeyFault f xs offset e → key_front f xs ≡ bad [] offset e
bad_again f xs offset e pos h = front_is f xs pos ∙ ap seen (fails_key f xs offset e h)

seen_more : (r : Result (Key × ℕ) BadKey) → seen r ≡ more → ⊥
seen_more (Ok x) e = absurd cc
seen_more (Err b) e = absurd cc

front_empty : (f : Family) (xs : List ℕ) → key_front f xs ≡ more → xs ≡ []
front_empty f [] e = refl
front_empty f (b ∷ bs) e = absurd (seen_more (key_at f (b ∷ bs)) e)

-- ---- all keys

all_taken : (place : ℕ) (ms ks : List Key) (o : Option (ℕ × StreamFault)) → all_keys place ms o ≡ Ok ks → (o ≡ None) × (ms ≡ ks)
all_taken place ms ks None e = (refl, ok_is ms ks e)
all_taken place ms ks (Some x) e = absurd cc

all_fails : (place at : ℕ) (fault : StreamFault) (ms : List Key) (o : Option (ℕ × StreamFault)) → all_keys place ms o ≡ Err (at, fault)
    → (x : ℕ × StreamFault) × (o ≡ Some x) × (at ≡ place + x.0) × (fault ≡ x.1)
all_fails place at fault ms None e = absurd cc
all_fails place at fault ms (Some x) e =
    let made : ℕ × StreamFault = (place + x.0, x.1) in
    let given : ℕ × StreamFault = (at, fault) in
    let same : made ≡ given = err_is made given e in
    (x, refl, sym (ap (λ (y : ℕ × StreamFault). y.0) same), sym (ap (λ (y : ℕ × StreamFault). y.1) same))

-- What is read are keys end to end.
pub keys_taken : (f : Family) (place : ℕ) (xs : List ℕ) (ks : List Key) → IsOctets xs → keys_at f place xs ≡ Ok ks → AreKeys f ks xs []
unfolding keys_at
keys_taken f place xs ks fits e =
    let c : Cut Key StreamFault = cut (key_front f) xs in
    let (sound, same) = all_taken place c.messages ks c.fault e in
    let h = found (key_front f) (SpellsUnit f) (framing f) 0 xs fits in
    let ends = subst (Ends (key_front f) (0 + length xs) c.rest h.first c.messages) sound h.ends in
    subst (λ (ms : List Key). AreKeys f ms xs []) (sym ends.1 ∙ same)
    (subst (λ (ys : List ℕ). AreKeys f h.first xs ys) (front_empty f c.rest ends.0) h.begins)

-- Keys end to end are read.
pub keys_again : (f : Family) (place : ℕ) (xs : List ℕ) (ks : List Key) → AreKeys f ks xs [] → keys_at f place xs ≡ Ok ks
unfolding keys_at
keys_again f place xs ks h =
    let whole_cut : cut (key_front f) xs ≡ with_front ks (cut_at (key_front f) (length xs) 0 []) =
    begun (key_front f) (SpellsUnit f) (framing f) 0 (length xs) xs ks [] h (omega arith) in
    let is : cut (key_front f) xs ≡ with_front ks (record { messages = []; rest = []; fault = None }) =
    whole_cut ∙ ap (with_front ks) (waits (key_front f) (length xs) [] refl) in
    ap (λ (c : Cut Key StreamFault). all_keys place c.messages c.fault) is ∙ ap (λ (ms : List Key). Ok ms) (append-nil ks)

rest_octets : (f : Family) (xs : List ℕ) (ks : List Key) (rest : List ℕ) → AreKeys f ks xs rest → IsOctets xs → IsOctets rest
rest_octets f xs ks rest b fits = IsOctets-after (octets_of b.units) rest (subst IsOctets b.parts fits)

-- A fault that is answered is the first.
pub keys_fail : (f : Family) (place : ℕ) (xs : List ℕ) (at : ℕ) (e : StreamFault) → IsOctets xs → keys_at f place xs ≡ Err (at, e)
    → (offset : ℕ) × (at ≡ place + offset) × KeysFault f xs offset e
unfolding keys_at
keys_fail f place xs at e fits h =
    let c : Cut Key StreamFault = cut (key_front f) xs in
    let (x, some, there, same) = all_fails place at e c.messages c.fault h in
    let g = found (key_front f) (SpellsUnit f) (framing f) 0 xs fits in
    let (last, inner, stops_at, place_is, all) = subst (Ends (key_front f) (0 + length xs) c.rest g.first c.messages) some g.ends in
    let (follow, faulty) = front_bad f c.rest last inner x.1 (rest_octets f xs g.first c.rest g.begins fits) stops_at in
    let fault : KeyFault f c.rest inner e = subst (λ (d : StreamFault). KeyFault f c.rest inner d) (sym same) faulty.1 in (
      x.0,
      there,
      record {
        routes = g.first;
        rest = c.rest;
        inner = inner;
        stand = g.begins;
        follow = follow;
        at = omega (arith, place_is);
        faulty =
            fault;
      },
    )

-- The first fault is answered.
pub fail_keys : (f : Family) (place : ℕ) (xs : List ℕ) (offset : ℕ) (e : StreamFault) → KeysFault f xs offset e
    → keys_at f place xs ≡ Err (place + offset, e)
unfolding keys_at
fail_keys f place xs offset e h =
    let b = h.stand in
    let there : ℕ = length (octets_of b.units) in
    let at : there + length h.rest ≡ 0 + length xs =
    omega (arith, ap (λ (ys : List ℕ). length ys) b.parts, length-append (octets_of b.units) h.rest) in
    let here : there + h.inner ≡ offset = omega (arith, h.at) in
    let stop : cut_at (key_front f) there 0 h.rest ≡ record { messages = []; rest = h.rest; fault = Some (there + h.inner, e) } =
    stops (key_front f) there h.inner e [] h.rest refl (bad_again f h.rest h.inner e h.follow h.faulty) in
    let is : cut (key_front f) xs ≡ with_front h.routes (record { messages = []; rest = h.rest; fault = Some (there + h.inner, e) }) =
    begun (key_front f) (SpellsUnit f) (framing f) 0 there xs h.routes h.rest b at ∙ ap (with_front h.routes) stop in
    ap (λ (c : Cut Key StreamFault). all_keys place c.messages c.fault) is ∙ ap (λ (n : ℕ). Err (place + n, e)) here

-- ---- the loop that reads keys

-- Octets are left.
pub tail_more : (xs : List ℕ) (passed : ℕ) → passed < length xs → 0 < length (tail_of xs passed)
tail_more xs passed lt = omega (arith, length-drop passed xs, ap (λ (ys : List ℕ). length ys) (take_rest xs passed))

-- A key was read.
pub one_more : (f : Family) (xs : List ℕ) (passed n : ℕ) (ks : List Key) (k : Key) → OnWay (key_front f) xs passed ks → 0 < n
    → n ≤ length (tail_of xs passed) → key_at f (tail_of xs passed) ≡ Ok (k, n) → OnWay (key_front f) xs (passed + n) (ks ++ k ∷ [])
one_more f xs passed n ks k w pos le e =
    on_way_more (key_front f) xs passed n ks (k ∷ []) w pos le (front_is f (tail_of xs passed) (omega arith) ∙ ap seen e)

-- A fault was met.
pub one_bad : (f : Family) (place : ℕ) (xs : List ℕ) (passed : ℕ) (ks : List Key) (b : BadKey) → OnWay (key_front f) xs passed ks
    → 0 < length (tail_of xs passed) → b.offset ≤ length (tail_of xs passed) → key_at f (tail_of xs passed) ≡ Err b
    → keys_at f place xs ≡ Err (place + passed + b.offset, b.fault)
unfolding keys_at
one_bad f place xs passed ks b w more_left near e =
    let c = on_way_fault (key_front f) xs passed b.offset b.fault ks refl w near (front_is f (tail_of xs passed) more_left ∙ ap seen e) in
    let sum : place + (passed + b.offset) ≡ place + passed + b.offset = omega arith in
    ap (λ (o : Option (ℕ × StreamFault)). all_keys place (cut (key_front f) xs).messages o) (sym c.fault) ∙ ap (λ (n : ℕ). Err (n, b.fault)) sum

-- All were read.
pub no_more : (f : Family) (place : ℕ) (xs : List ℕ) (passed : ℕ) (ks : List Key) → OnWay (key_front f) xs passed ks → length xs ≤ passed
    → keys_at f place xs ≡ Ok ks
unfolding keys_at
no_more f place xs passed ks w le =
    let c = on_way_end (key_front f) xs passed ks refl w le in
    ap (λ (o : Option (ℕ × StreamFault)). all_keys place (cut (key_front f) xs).messages o) (sym c.fault)
    ∙ ap (λ (ms : List Key). Ok ms) (sym c.messages)
