-- What slots say of each peer.
use Rattle.std.proofs.Common.{◌≡◌, ◌≢◌, ℕ, zero, suc, ◌+◌, ◌<◌, ◌≤◌, ◌==◌, nat_lt, Bool, true, false, cond, List, [], ◌∷◌, ◌++◌, length, get_or, set, take, drop, map, Vec, Option, Some, None, refl, sym, ap, subst, ◌∙◌, arith}
use Rattle.std.specs.Option.{option_map}
use Rattle.std.specs.Cmp.{IsTotalOrder, nat_cmp_total, unsigned_tied}
use Rattle.std.specs.List.{AllZip, find, position, position_or_len, slice_get}
use Rattle.std.specs.FinMap.{get, get-from_entries}
use Rattle.std.specs.FinMap.Entries as entries
use Rattle.std.proofs.lemmas.Bool.{eqb-true, ltb-false}
use Rattle.std.proofs.lemmas.Cmp.{on_total}
use Rattle.std.proofs.lemmas.List.{map-append, take_at, take_more}
use Rattle.std.proofs.lemmas.List.Folds.{find_at as find_first}
use Rattle.std.proofs.lemmas.List.Quantifiers.{position-Some}
use Rattle.std.proofs.lemmas.Slice.Zip.{AllZip-long}
use Rattle.std.specs.Vec.{with_items}
use Rattle.mv_base.specs.declared.ids.NodeId.{NodeId}
use Rattle.label_defs.specs.Keys.{node_cmp}
use Rattle.edge_tables.specs.Tables.{AtPeer, Both, EachPeer, PeerTable, Tables, fresh}
use Rattle.edge_tables.specs.Slots.{Becomes, is_of, peer_table, tables_of}
use Rattle.edge_tables.specs.declared.slot.Slot.{Slot}

node_total : IsTotalOrder node_cmp
node_total = on_total (λ (node : NodeId). node.0) nat_cmp_total

abbrev pub entry : Slot → NodeId × PeerTable
entry slot = (slot.peer, peer_table slot)

found : (slots : List Slot) (peer : NodeId) → entries.find node_cmp peer (map entry slots) ≡ option_map peer_table (find (is_of peer) slots)
found [] peer = refl
found (slot ∷ slots) peer =
    (λ i. cond (unsigned_tied peer.0 slot.peer.0 i) (Some (peer_table slot)) (found slots peer i))
    ∙ joined (is_of peer slot) slot (find (is_of peer) slots)
  where
    joined : (b : Bool) (s : Slot) (rest : Option Slot)
        → cond b (Some (peer_table s)) (option_map peer_table rest) ≡ option_map peer_table (cond b (Some s) rest)
    joined true s rest = refl
    joined false s rest = refl

-- the table of a peer is that of its first slot
pub at_of : (slots : List Slot) (peer : NodeId) → get (tables_of slots) peer ≡ option_map peer_table (find (is_of peer) slots)
at_of slots peer = get-from_entries node_total (map entry slots) peer ∙ found slots peer

-- ---- each peer

module _ (Is : PeerTable → PeerTable → Type 0) where
  pick : (b : Bool) (x y : Slot) (p q : Option Slot) → Is (peer_table x) (peer_table y) → Both Is (option_map peer_table p) (option_map peer_table q)
      → Both Is (option_map peer_table (cond b (Some x) p)) (option_map peer_table (cond b (Some y) q))
  pick true x y p q h k = h
  pick false x y p q h k = k

  each_found : (xs ys : List Slot) (peer : NodeId) → AllZip (Becomes Is) xs ys
      → Both Is (option_map peer_table (find (is_of peer) xs)) (option_map peer_table (find (is_of peer) ys))
  each_found [] [] peer h = tt
  each_found [] (y ∷ ys) peer h = absurd h
  each_found (x ∷ xs) [] peer h = absurd h
  each_found (x ∷ xs) (y ∷ ys) peer h =
      let same : is_of peer x ≡ is_of peer y = sym (ap (λ (node : NodeId). peer.0 == node.0) h.0.0) in
      subst (λ (b : Bool). Both Is (option_map peer_table (find (is_of peer) (x ∷ xs)))
      (option_map peer_table (cond b (Some y) (find (is_of peer) ys)))) same
      (pick (is_of peer x) x y (find (is_of peer) xs) (find (is_of peer) ys) h.0.1 (each_found xs ys peer h.1))

  pub each_peer : (xs ys : List Slot) → AllZip (Becomes Is) xs ys → EachPeer Is (tables_of xs) (tables_of ys)
  each_peer xs ys h peer =
      subst (λ (o : Option PeerTable). Both Is o (get (tables_of ys) peer)) (sym (at_of xs peer))
      (subst (λ (o : Option PeerTable). Both Is (option_map peer_table (find (is_of peer) xs)) o) (sym (at_of ys peer)) (each_found xs ys peer h))

whole : {Z : Type 0} (slots : Vec Slot Z) (new : List Slot) → length new ≡ length slots.items → (with_items slots new).items ≡ new
whole slots new same = take_at new (drop (length new) slots.items) slots.len (same ∙ sym slots.ok.0)

pub each_after : {Z : Type 0} (Is : PeerTable → PeerTable → Type 0) (slots : Vec Slot Z) (lent new : List Slot) (tables : Tables)
    → tables_of slots.items ≡ tables
    → lent ≡ slots.items → AllZip (Becomes Is) lent new → EachPeer Is tables (tables_of (with_items slots new).items)
each_after Is slots lent new tables view same h =
    let long : length new ≡ length slots.items = AllZip-long (Becomes Is) lent new h ∙ ap length same in
    subst (λ (ws : List Slot). EachPeer Is tables (tables_of ws)) (sym (whole slots new long))
    (subst (λ (t : Tables). EachPeer Is t (tables_of new)) view
    (each_peer Is slots.items new (subst (λ (l : List Slot). AllZip (Becomes Is) l new) same h)))

-- ---- one peer

find_at : {A : Type 0} (p : A → Bool) (xs : List A) (n : ℕ) (d : A) → n < length xs → p (get_or xs n d) ≡ true
    → ((k : ℕ) → k < n → p (get_or xs k d) ≡ false)
    → find p xs ≡ Some (get_or xs n d)
find_at p [] n d lt is none = absurd (omega (arith, lt))
find_at p (x ∷ xs) zero d lt is none = ap (λ (b : Bool). cond b (Some x) (find p xs)) is
find_at p (x ∷ xs) (suc n) d lt is none =
    ap (λ (b : Bool). cond b (Some x) (find p xs)) (none zero (omega arith))
    ∙ find_at p xs n d (omega (arith, lt)) is (λ k le. none (suc k) (omega (arith, le)))

find_set : {A : Type 0} (p : A → Bool) (xs : List A) (n : ℕ) (d s : A) → n < length xs → p s ≡ true → ((k : ℕ) → k < n → p (get_or xs k d) ≡ false)
    → find p (set xs n s) ≡ Some s
find_set p [] n d s lt is none = absurd (omega (arith, lt))
find_set p (x ∷ xs) zero d s lt is none = ap (λ (b : Bool). cond b (Some s) (find p xs)) is
find_set p (x ∷ xs) (suc n) d s lt is none =
    ap (λ (b : Bool). cond b (Some x) (find p (set xs n s))) (none zero (omega arith))
    ∙ find_set p xs n d s (omega (arith, lt)) is (λ k le. none (suc k) (omega (arith, le)))

find_other : {A : Type 0} (p : A → Bool) (xs : List A) (n : ℕ) (d s : A) → n < length xs → p (get_or xs n d) ≡ false → p s ≡ false
    → find p (set xs n s) ≡ find p xs
find_other p [] n d s lt old new = absurd (omega (arith, lt))
find_other p (x ∷ xs) zero d s lt old new =
    ap (λ (b : Bool). cond b (Some s) (find p xs)) new ∙ sym (ap (λ (b : Bool). cond b (Some x) (find p xs)) old)
find_other p (x ∷ xs) (suc n) d s lt old new = ap (cond (p x) (Some x)) (find_other p xs n d s (omega (arith, lt)) old new)

none_beyond : {A : Type 0} (xs : List A) (n : ℕ) → length xs ≤ n → slice_get xs n ≡ None
none_beyond [] n le = refl
none_beyond (x ∷ xs) zero le = absurd (omega (arith, le))
none_beyond (x ∷ xs) (suc n) le = none_beyond xs n (omega (arith, le))

no_number : (b : Bool) (n : ℕ) → ◌≡◌ {A = Option ℕ} (cond b (Some n) None) None → b ≡ false
no_number true n h = absurd cc
no_number false n h = refl

no_place : {A : Type 0} (p : A → Bool) (xs : List A) → position p xs ≡ None → find p xs ≡ None
no_place p xs h =
    let n : ℕ = position_or_len p xs in
    find_first p xs ∙ none_beyond xs n (ltb-false n (length xs) (no_number (nat_lt n (length xs)) n h))

pub no_slot : (slots lent : List Slot) (tables : Tables) (peer : NodeId) → tables_of slots ≡ tables → lent ≡ slots → None ≡ position (is_of peer) lent
    → get tables peer ≡ None
no_slot slots lent tables peer view same none =
    ap (λ (t : Tables). get t peer) (sym view) ∙ at_of slots peer
    ∙ ap (option_map peer_table) (no_place (is_of peer) slots (sym (subst (λ (l : List Slot). None ≡ position (is_of peer) l) same none)))

pub unknown : (Is : PeerTable → PeerTable → Type 0) (tables : Tables) (peer : NodeId) → get tables peer ≡ None → AtPeer peer Is tables tables
unknown Is tables peer none = (subst (λ (o : Option PeerTable). Both Is o o) (sym none) tt, λ other differs. refl)

same_peer : (peer : NodeId) (slot : Slot) → is_of peer slot ≡ true → slot.peer ≡ peer
same_peer peer slot is = let e : peer.0 ≡ slot.peer.0 = eqb-true peer.0 slot.peer.0 is in λ i. record { 0 = sym e i }

apart : (peer other : NodeId) (slot : Slot) → is_of peer slot ≡ true → other ≢ peer → is_of other slot ≡ false
apart peer other slot is differs = never (is_of other slot) refl
  where
    never : (b : Bool) → is_of other slot ≡ b → b ≡ false
    never true e = absurd (differs (sym (same_peer other slot e) ∙ same_peer peer slot is))
    never false e = refl

module _ (slots lent : List Slot) (tables : Tables) (peer : NodeId) (place : ℕ) (d : Slot) (view : tables_of slots ≡ tables) (same : lent ≡ slots)
    (at : Some place ≡ position (is_of peer) lent) (is : d ≡ get_or slots place d) where
  there : (place < length slots) × (is_of peer (get_or slots place d) ≡ true) × ((k : ℕ) → k < place → is_of peer (get_or slots k d) ≡ false)
  there = position-Some (is_of peer) slots place d (sym (subst (λ (l : List Slot). Some place ≡ position (is_of peer) l) same at))

  -- the peer's table is that of the slot
  pub slot_at : get tables peer ≡ Some (peer_table d)
  slot_at =
      ap (λ (t : Tables). get t peer) (sym view) ∙ at_of slots peer
      ∙ ap (option_map peer_table) (find_at (is_of peer) slots place d there.0 there.1 there.2)
      ∙ ap (λ (slot : Slot). Some (peer_table slot)) (sym is)

  -- and stays so where the slot does
  pub slot_kept : (Is : PeerTable → PeerTable → Type 0) → Is (peer_table d) (peer_table d) → AtPeer peer Is tables tables
  slot_kept Is h = (subst (λ (o : Option PeerTable). Both Is o o) (sym slot_at) h, λ other differs. refl)

  pub slot_set : (Is : PeerTable → PeerTable → Type 0) (s : Slot) → s.peer ≡ d.peer → Is (peer_table d) (peer_table s)
      → AtPeer peer Is tables (tables_of (set slots place s))
  slot_set Is s node h =
      let own : is_of peer d ≡ true = subst (λ (slot : Slot). is_of peer slot ≡ true) (sym is) there.1 in
      let new : is_of peer s ≡ true = ap (λ (n : NodeId). peer.0 == n.0) node ∙ own in
      let now : get (tables_of (set slots place s)) peer ≡ Some (peer_table s) =
      at_of (set slots place s) peer ∙ ap (option_map peer_table) (find_set (is_of peer) slots place d s there.0 new there.2) in (
        subst (λ (o : Option PeerTable). Both Is o (get (tables_of (set slots place s)) peer)) (sym slot_at)
            (subst (λ (o : Option PeerTable). Both Is (Some (peer_table d)) o) (sym now) h),
        λ other differs.
            at_of (set slots place s) other
            ∙ ap (option_map peer_table) (find_other (is_of other) slots place d s there.0 (apart peer other (get_or slots place d) there.1 differs)
            (apart peer other s new differs))
            ∙ sym (ap (λ (t : Tables). get t other) (sym view) ∙ at_of slots other),
      )

-- ---- fresh slots

abbrev pub of_peer : NodeId → NodeId × PeerTable
of_peer peer = (peer, fresh)

pub made_more : (peers : List NodeId) (slots new : List Slot) (n : ℕ) (d : NodeId) (slot : Slot) → n < length peers
    → map entry slots ≡ map of_peer (take n peers)
    → new ≡ slots ++ slot ∷ [] → slot.peer ≡ get_or peers n d → peer_table slot ≡ fresh → map entry new ≡ map of_peer (take (n + 1) peers)
made_more peers slots new n d slot lt h is peer table =
    let last : entry slot ≡ of_peer (get_or peers n d) = λ i. (peer i, table i) in
    ap (map entry) is ∙ map-append entry slots (slot ∷ []) ∙ (λ i. h i ++ last i ∷ [])
    ∙ sym (ap (map of_peer) (take_more peers n d lt) ∙ map-append of_peer (take n peers) (get_or peers n d ∷ []))
