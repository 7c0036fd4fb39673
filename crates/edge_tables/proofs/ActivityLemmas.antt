-- What is known of all slots, of each peer.
use Rattle.std.proofs.Common.{◌≡◌, ℕ, zero, suc, ◌+◌, ◌<◌, ◌≤◌, List, [], ◌∷◌, ◌++◌, length, slice_index_or, append-nil, ◌⊎◌, inl, inr, Option, Some, None, refl, sym, ap, subst, ◌∙◌, arith}
use Rattle.std.specs.Prelude.{⊤}
use Rattle.std.specs.List.{All, AllZip}
use Rattle.std.specs.FinMap.{get}
use Rattle.mv_base.specs.declared.ids.NodeId.{NodeId}
use Rattle.edge_tables.specs.Tables.{AtPeer, Both, EachPeer, PeerTable, Tables, put_after, texts, waiting_of}
use Rattle.edge_tables.specs.declared.tables.Activity.{Activity}
use Rattle.edge_tables.specs.declared.tables.Activity.TheVariants.{Put, Silent}
use Rattle.edge_tables.specs.Slots.{Becomes, IsPut, IsPutAt, HasActivity, IsSilentAt, peer_table, tables_of}
use Rattle.edge_tables.specs.declared.slot.Slot.{Slot}
use Rattle.edge_tables.proofs.SlotLemmas.{each_peer}

-- ---- one slot after another

abbrev pub AllBefore : {A : Type 0} → (A → Type 0) → List A → ℕ → Type 0
AllBefore {A} P xs zero = ⊤
AllBefore {A} P [] (suc n) = ⊤
AllBefore {A} P (x ∷ xs) (suc n) = P x × AllBefore P xs n

module _ {A : Type 0} (P : A → Type 0) where
  one_more : (xs : List A) (n : ℕ) (x : A) → n < length xs → x ≡ slice_index_or xs n x → P x → AllBefore P xs n → AllBefore P xs (suc n)
  one_more [] n x lt at is before = tt
  one_more (y ∷ ys) zero x lt at is before = (subst P at is, tt)
  one_more (y ∷ ys) (suc n) x lt at is before = (before.0, one_more ys n x (omega (arith, lt)) at is before.1)

  pub all_more : (xs : List A) (n : ℕ) (x : A) → n < length xs → x ≡ slice_index_or xs n x → P x → AllBefore P xs n → AllBefore P xs (n + 1)
  all_more xs n x lt at is before =
      let next : suc n ≡ n + 1 = omega arith in
      subst (AllBefore P xs) next (one_more xs n x lt at is before)

  pub all_end : (xs : List A) (n : ℕ) → length xs ≤ n → AllBefore P xs n → All P xs
  all_end [] n le before k d lt = absurd (omega (arith, lt))
  all_end (x ∷ xs) zero le before k d lt = absurd (omega (arith, le))
  all_end (x ∷ xs) (suc n) le before zero d lt = before.0
  all_end (x ∷ xs) (suc n) le before (suc k) d lt = all_end xs n (omega (arith, le)) before.1 k d (omega (arith, lt))

-- ---- what is known

pub sent_all : (activity : Activity) (slots : List Slot) → (activity ≡ Put) ⊎ (activity ≡ Silent) → HasActivity activity slots → All IsPutAt slots
sent_all activity slots (inl is) known = subst (λ (r : Activity). HasActivity r slots) is known
sent_all activity slots (inr is) known = (subst (λ (r : Activity). HasActivity r slots) is known).0

pub silent_all : (activity : Activity) (slots : List Slot) → activity ≡ Silent → HasActivity activity slots → All IsSilentAt slots
silent_all activity slots is known = (subst (λ (r : Activity). HasActivity r slots) is known).1

-- ---- each peer

each_itself : (Is : PeerTable → PeerTable → Type 0) (P : Slot → Type 0) → ((slot : Slot) → P slot → Is (peer_table slot) (peer_table slot))
    → (slots : List Slot) → All P slots → AllZip (Becomes Is) slots slots
each_itself Is P is [] all = tt
each_itself Is P is (slot ∷ slots) all =
    ((refl, is slot (all zero slot (omega arith))), each_itself Is P is slots (λ k d lt. all (suc k) d (omega (arith, lt))))

each_same : (Is : PeerTable → PeerTable → Type 0) (P : Slot → Type 0) → ((slot : Slot) → P slot → Is (peer_table slot) (peer_table slot))
    → (slots : List Slot) (tables : Tables) → tables_of slots ≡ tables → All P slots → EachPeer Is tables tables
each_same Is P is slots tables view all =
    subst (λ (t : Tables). EachPeer Is t t) view (each_peer Is slots slots (each_itself Is P is slots all))

put_already : (table : PeerTable) → IsPut table → table ≡ put_after table
put_already table is =
    λ i. record table {
      told = sym is.sent i;
      waiting = sym (ap (λ list. table.waiting ++ texts list) is.none ∙ append-nil table.waiting) i;
    }

-- where the peers were sent all, nothing is to be put
pub all_put : (slots : List Slot) (tables : Tables) → tables_of slots ≡ tables → All IsPutAt slots
    → EachPeer (λ (old new : PeerTable). new ≡ put_after old) tables tables
all_put slots tables view all =
    each_same (λ (old new : PeerTable). new ≡ put_after old) IsPutAt (λ slot is. put_already (peer_table slot) is) slots tables view all

abbrev IsTaken : PeerTable → PeerTable → Type 0
IsTaken old new = new ≡ record old { waiting = [] }

pub silent_already : (slot : Slot) → slot.waiting ≡ [] → IsTaken (peer_table slot) (peer_table slot)
silent_already slot none = λ i. record (peer_table slot) { waiting = none i }

all_silent : (slots : List Slot) (tables : Tables) → tables_of slots ≡ tables → All IsSilentAt slots → EachPeer IsTaken tables tables
all_silent slots tables view all = each_same IsTaken IsSilentAt silent_already slots tables view all

-- where nothing waits, nothing is taken
pub none_taken : (slots : List Slot) (tables : Tables) (peer : NodeId) → tables_of slots ≡ tables → All IsSilentAt slots → AtPeer peer IsTaken tables tables
none_taken slots tables peer view all = (all_silent slots tables view all peer, λ other differs. refl)

none_waits : (table : Option PeerTable) → Both IsTaken table table → waiting_of table ≡ []
none_waits None h = refl
none_waits (Some table) h = ap (λ (t : PeerTable). t.waiting) h

pub none_waiting : (slots : List Slot) (tables : Tables) (peer : NodeId) → tables_of slots ≡ tables → All IsSilentAt slots
    → waiting_of (get tables peer) ≡ []
none_waiting slots tables peer view all = none_waits (get tables peer) (all_silent slots tables view all peer)
