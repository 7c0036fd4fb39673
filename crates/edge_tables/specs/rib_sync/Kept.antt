-- How the maps of an outbox make what is kept towards its peer.
use Rattle.std.specs.Prelude.{◌≡◌, ◌≢◌, ◌++◌, List, [], ◌∷◌, map, Option, Some, None, Bool, true, false, if◌then◌else◌}
use Rattle.std.specs.declared.cmp.Ordering.{Ordering}
use Rattle.std.specs.BTreeMap.{BTreeMap, get, IsOrdered}
use Rattle.std.specs.FinMap.{FinMap, empty, from_entries}
use Rattle.mv_base.specs.declared.table_defs.change.Change.{Change}
use Rattle.mv_base.specs.declared.table_defs.change.Change.TheVariants.{Reach, Unreach}
use Rattle.mv_base.specs.table_defs.Changes.{applied}
use Rattle.edge_tables.specs.rib_sync.Ribs.{RibOut}
use Rattle.edge_tables.specs.declared.rib_sync.kept.News.{News}
use Rattle.edge_tables.specs.declared.rib_sync.kept.Kept.{Kept}

-- A clone is the same again.
abbrev pub IsCopying : {T : Type 0} → (T → T → Type 0) → Type 0
IsCopying {T} is_clone = (own copy : T) → is_clone own copy → copy ≡ own

-- what is set at a key
abbrev pub set_at : {K V : Type 0} → (K → K → Ordering) → Kept K V → K → Option V
set_at cmp kept key = get cmp kept.set key

-- what was sent at a key, by what is gone, what is new and what is set
abbrev pub sent_by : {V : Type 0} → Option V → Option (News V) → Option V → Option V
sent_by (Some value) new set = Some value
sent_by None (Some news) set = news.sent
sent_by None None set = set

-- the same: nothing while the peer is not reached
abbrev pub sent_if : {V : Type 0} → Bool → Option V → Option (News V) → Option V → Option V
sent_if true old new set = sent_by old new set
sent_if false old new set = None

-- what was sent at a key
abbrev pub sent_at : {K V : Type 0} → (K → K → Ordering) → Kept K V → K → Option V
sent_at cmp kept key = sent_if kept.up (get cmp kept.gone key) (get cmp kept.news key) (get cmp kept.set key)

-- what is gone is not set, and what is new is set so and was not sent so
abbrev pub Agrees : {V : Type 0} → Option V → Option (News V) → Option V → Type 0
Agrees (Some value) new set = (set ≡ None) × (new ≡ None)
Agrees None (Some news) set = (set ≡ Some news.value) × (news.sent ≢ Some news.value)
Agrees None None set = Unit {0}

-- what is kept beside the table set is exactly where the table sent differs, and nothing while the peer is not reached
pub record IsWell {K V : Type 0} (cmp : K → K → Ordering) (kept : Kept K V) : Type 0 where
  pub agrees : (key : K) → Agrees (get cmp kept.gone key) (get cmp kept.news key) (get cmp kept.set key)
  pub quiet : kept.up ≡ false → (kept.gone.entries ≡ []) × (kept.news.entries ≡ [])
  pub gone_ordered : IsOrdered cmp kept.gone
  pub news_ordered : IsOrdered cmp kept.news

-- a value of which nothing was sent
abbrev pub as_news : {V : Type 0} → V → News V
as_news value = record { value = value; sent = None }

-- the change that gives the key this value: a withdrawal where there is none
abbrev pub change_to : {K V : Type 0} → K → Option V → Change K V
change_to key None = Unreach key
change_to key (Some value) = Reach key value

-- the table with what each of these entries says at its key
abbrev pub overlaid : {K V E : Type 0} {cmp : K → K → Ordering} → (E → Option V) → FinMap cmp V → List (K × E) → FinMap cmp V
overlaid says table [] = table
overlaid says table (entry ∷ rest) = applied (overlaid says table rest) (change_to entry.0 (says entry.1))

-- the table sent: the table set, with what is new and what is gone taken back
abbrev pub sent_table : {K V : Type 0} (cmp : K → K → Ordering) → Kept K V → FinMap cmp V
sent_table cmp kept =
    if kept.up then
    overlaid (λ value. Some value) (overlaid (λ news. news.sent) (from_entries kept.set.entries) kept.news.entries) kept.gone.entries
    else empty

-- what is kept towards the peer
abbrev pub kept_rib : {K V : Type 0} (cmp : K → K → Ordering) → Kept K V → RibOut cmp V
kept_rib cmp kept = record { up = kept.up; set = from_entries kept.set.entries; sent = sent_table cmp kept }

-- the changes of these maps: withdrawals first, each kind in the keys' order
abbrev pub changes_in : {K V : Type 0} → BTreeMap K V → BTreeMap K (News V) → List (Change K V)
changes_in gone news = map (λ entry. Unreach entry.0) gone.entries ++ map (λ entry. Reach entry.0 entry.1.value) news.entries
