-- What the maps of an outbox and of an inbox say, key by key, and as tables.
use Rattle.std.proofs.Common.{◌≡◌, Bool, true, false, not, is_some, cond, List, [], ◌∷◌, Option, Some, None, refl, sym, ap, subst, ◌∙◌}
use Rattle.std.specs.Prelude.{Result, Ok, Err, IfOk}
use Rattle.std.specs.declared.cmp.Ordering.{Ordering}
use Rattle.std.specs.Ordering.{eq_by_cmp}
use Rattle.std.specs.Cmp.{IsTotalOrder}
use Rattle.std.specs.Map.{lookup}
use Rattle.std.specs.Map.Calls.{RetainsPairs}
use Rattle.std.specs.BTreeMap.{BTreeMap, IsOrdered, is_at}
use Rattle.std.specs.BTreeMap as tree
use Rattle.std.proofs.lemmas.Cmp.{eq_by_cmp_equiv}
use Rattle.std.specs.FinMap.{FinMap, IsAntisymmetric, get, get-insert, get-remove, get-empty, empty, entries, entries-from_sorted, from_entries, from_sorted, insert, same_map}
use Rattle.mv_base.specs.declared.table_defs.change.Change.{Change}
use Rattle.mv_base.specs.declared.table_defs.change.Change.TheVariants.{Reach}
use Rattle.mv_base.specs.table_defs.Changes.{applied, key_of, value_of}
use Rattle.table_laws.proofs.TableLemmas.{get-applied}
use Rattle.edge_tables.specs.rib_sync.Ribs.{RibOut, Rows, rows_of, rib_out, rib_in, flushed}
use Rattle.edge_tables.specs.declared.rib_sync.kept.Kept.{Kept}
use Rattle.edge_tables.specs.rib_sync.Kept.{set_at, sent_by, sent_if, sent_at, change_to, overlaid, sent_table, kept_rib}
use Rattle.edge_tables.specs.declared.rib_sync.kept.News.{News}
use Rattle.edge_tables.proofs.rib_sync.ListLemmas.{get-tree, get-ordered, from_sorted-entries, sorted}

-- what the entry says, and where there is none what stood there
abbrev says_or : {V E : Type 0} → (E → Option V) → Option E → Option V → Option V
says_or says None old = old
says_or says (Some entry) old = says entry

says_head : {V E : Type 0} (says : E → Option V) (b : Bool) (entry : E) (rest : Option E) (old : Option V)
    → cond b (says entry) (says_or says rest old) ≡ says_or says (cond b (Some entry) rest) old
says_head says true entry rest old = refl
says_head says false entry rest old = refl

sent_cases : {V : Type 0} (old : Option V) (new : Option (News V)) (set : Option V)
    → says_or (λ v. Some v) old (says_or (λ n. n.sent) new set) ≡ sent_by old new set
sent_cases (Some value) new set = refl
sent_cases None (Some news) set = refl
sent_cases None None set = refl

module _ {K V : Type 0} (cmp : K → K → Ordering) (total : IsTotalOrder cmp) where
  get-changed : (old : FinMap cmp V) (key : K) (value : Option V) (q : K)
      → get (applied old (change_to key value)) q ≡ cond (eq_by_cmp cmp q key) value (get old q)
  get-changed old key None q = get-remove total old key q
  get-changed old key (Some value) q = get-insert total old key value q

  get-overlaid : {E : Type 0} (says : E → Option V) (table : FinMap cmp V) (es : List (K × E)) (q : K)
      → get (overlaid says table es) q ≡ says_or says (lookup (is_at (cmp q)) es) (get table q)
  get-overlaid says table [] q = refl
  get-overlaid says table (e ∷ es) q =
      get-changed (overlaid says table es) e.0 (says e.1) q
      ∙ ap (cond (eq_by_cmp cmp q e.0) (says e.1)) (get-overlaid says table es q)
      ∙ says_head says (eq_by_cmp cmp q e.0) e.1 (lookup (is_at (cmp q)) es) (get table q)

  abbrev sent_when : Kept K V → Bool → FinMap cmp V
  sent_when kept up =
      cond up (overlaid (λ value. Some value) (overlaid (λ n. n.sent) (from_entries kept.set.entries) kept.news.entries) kept.gone.entries) empty

  get-sent_when : (kept : Kept K V) (up : Bool) (q : K)
      → get (sent_when kept up) q ≡ sent_if up (tree.get cmp kept.gone q) (tree.get cmp kept.news q) (tree.get cmp kept.set q)
  get-sent_when kept true q =
      get-overlaid (λ value. Some value) (overlaid (λ n. n.sent) (from_entries kept.set.entries) kept.news.entries) kept.gone.entries q
      ∙ ap (says_or (λ value. Some value) (tree.get cmp kept.gone q))
      (get-overlaid (λ n. n.sent) (from_entries kept.set.entries) kept.news.entries q
      ∙ ap (says_or (λ n. n.sent) (tree.get cmp kept.news q)) (get-tree cmp total kept.set q))
      ∙ sent_cases (tree.get cmp kept.gone q) (tree.get cmp kept.news q) (tree.get cmp kept.set q)
  get-sent_when kept false q = get-empty cmp q

  pub get-sent : (kept : Kept K V) (q : K) → get (sent_table cmp kept) q ≡ sent_at cmp kept q
  get-sent kept q = get-sent_when kept kept.up q

  pub get-set : (kept : Kept K V) (q : K) → get (kept_rib cmp kept).set q ≡ set_at cmp kept q
  get-set kept q = get-tree cmp total kept.set q

  -- a change of one key, as the map and as the table has it
  get-change : (old new : BTreeMap K V) (table : FinMap cmp V) (change : Change K V)
      → ((q : K) → tree.get cmp new q ≡ cond (eq_by_cmp cmp (key_of change) q) (value_of change) (tree.get cmp old q))
      → ((q : K) → get table q ≡ tree.get cmp old q)
      → (q : K) → tree.get cmp new q ≡ get (applied table change) q
  get-change old new table change is table_is q =
      is q
      ∙ ap (λ b. cond b (value_of change) (tree.get cmp old q)) ((eq_by_cmp_equiv total).symm (key_of change) q)
      ∙ ap (cond (eq_by_cmp cmp q (key_of change)) (value_of change)) (sym (table_is q))
      ∙ sym (get-applied total table change q)

  pub same_rib : IsAntisymmetric cmp → (a b : RibOut cmp V) → a.up ≡ b.up → ((q : K) → get a.set q ≡ get b.set q)
      → ((q : K) → get a.sent q ≡ get b.sent q) → a ≡ b
  same_rib exact a b up set sent =
      let sets = same_map total exact a.set b.set set in
      let sents = same_map total exact a.sent b.sent sent in
      λ i. record { up = up i; set = sets i; sent = sents i }

  seen : (rib : RibOut cmp V) → rib_out cmp (rows_of rib) ≡ rib
  seen rib = λ i. record { up = rib.up; set = from_sorted-entries cmp rib.set i; sent = from_sorted-entries cmp rib.sent i }

  pub seen_as : (rib : RibOut cmp V) (rows : Rows K V) → rows_of rib ≡ rows → rib_out cmp rows ≡ rib
  seen_as rib rows is = ap (rib_out cmp) (sym is) ∙ seen rib

  -- ---- the calls of an outbox

  pub began : (kept : Kept K V) → kept.up ≡ false → kept.set.entries ≡ []
      → rib_out cmp (rows_of (kept_rib cmp kept)) ≡ record { up = false; set = empty; sent = empty }
  began kept up set = seen (kept_rib cmp kept) ∙ (λ i. record { up = up i; set = from_entries (set i); sent = sent_when kept (up i) })

  pub changed : IsAntisymmetric cmp → (old : Rows K V) (from to : Kept K V) (change : Change K V) → rows_of (kept_rib cmp from) ≡ old
      → to.up ≡ from.up → ((q : K) → sent_at cmp to q ≡ sent_at cmp from q)
      → ((q : K) → set_at cmp to q ≡ cond (eq_by_cmp cmp (key_of change) q) (value_of change) (set_at cmp from q))
      → rib_out cmp (rows_of (kept_rib cmp to)) ≡ record (rib_out cmp old) { set = applied (rib_out cmp old).set change }
  changed exact old from to change is up sent set =
      seen (kept_rib cmp to)
      ∙ same_rib exact (kept_rib cmp to) (record (kept_rib cmp from) { set = applied (kept_rib cmp from).set change }) up
      (λ q. get-set to q ∙ get-change from.set to.set (kept_rib cmp from).set change set (get-set from) q)
      (λ q. get-sent to q ∙ sent q ∙ sym (get-sent from q))
      ∙ ap (λ (rib : RibOut cmp V). record rib { set = applied rib.set change }) (sym (seen_as (kept_rib cmp from) old is))

  pub unchanged : IsAntisymmetric cmp → (old : Rows K V) (from to : Kept K V) → rows_of (kept_rib cmp from) ≡ old
      → to.up ≡ from.up → ((q : K) → sent_at cmp to q ≡ sent_at cmp from q) → ((q : K) → set_at cmp to q ≡ set_at cmp from q)
      → rows_of (kept_rib cmp to) ≡ old
  unchanged exact old from to is up sent set =
      ap rows_of (same_rib exact (kept_rib cmp to) (kept_rib cmp from) up (λ q. get-set to q ∙ set q ∙ sym (get-set from q))
      (λ q. get-sent to q ∙ sent q ∙ sym (get-sent from q)))
      ∙ is

  pub replayed : IsAntisymmetric cmp → (old : Rows K V) (from to : Kept K V) → rows_of (kept_rib cmp from) ≡ old
      → to.up ≡ true → ((q : K) → sent_at cmp to q ≡ None) → ((q : K) → set_at cmp to q ≡ set_at cmp from q)
      → rib_out cmp (rows_of (kept_rib cmp to)) ≡ record (rib_out cmp old) { up = true; sent = empty }
  replayed exact old from to is up sent set =
      seen (kept_rib cmp to)
      ∙ same_rib exact (kept_rib cmp to) (record (kept_rib cmp from) { up = true; sent = empty }) up
      (λ q. get-set to q ∙ set q ∙ sym (get-set from q))
      (λ q. get-sent to q ∙ sent q ∙ sym (get-empty cmp q))
      ∙ ap (λ (rib : RibOut cmp V). record rib { up = true; sent = empty }) (sym (seen_as (kept_rib cmp from) old is))

  pub downed : (old : Rows K V) (from to : Kept K V) → rows_of (kept_rib cmp from) ≡ old → to.up ≡ false → to.set ≡ from.set
      → rib_out cmp (rows_of (kept_rib cmp to)) ≡ record (rib_out cmp old) { up = false; sent = empty }
  downed old from to is up set =
      let now : kept_rib cmp to ≡ record (kept_rib cmp from) { up = false; sent = empty } =
      λ i. record { up = up i; set = from_entries (set i).entries; sent = sent_when to (up i) } in
      seen (kept_rib cmp to) ∙ now
      ∙ ap (λ (rib : RibOut cmp V). record rib { up = false; sent = empty }) (sym (seen_as (kept_rib cmp from) old is))

  sent_up : IsAntisymmetric cmp → (from to : Kept K V) (up : Bool) → from.up ≡ up → to.up ≡ from.up → to.set ≡ from.set
      → (from.up ≡ true → (q : K) → sent_at cmp to q ≡ set_at cmp from q) → kept_rib cmp to ≡ flushed (kept_rib cmp from)
  sent_up exact from to true is up set sent =
      same_rib exact (kept_rib cmp to) (record (kept_rib cmp from) { sent = (kept_rib cmp from).set }) up
      (λ q. ap (λ (m : BTreeMap K V). get (from_entries {R = cmp} m.entries) q) set)
      (λ q. get-sent to q ∙ sent is q ∙ sym (get-set from q))
      ∙ ap (λ b. cond b (record (kept_rib cmp from) { sent = (kept_rib cmp from).set }) (kept_rib cmp from)) (sym is)
  sent_up exact from to false is up set sent =
      same_rib exact (kept_rib cmp to) (kept_rib cmp from) up
      (λ q. ap (λ (m : BTreeMap K V). get (from_entries {R = cmp} m.entries) q) set)
      (λ q. ap (λ b. get (sent_when to b) q) (up ∙ is) ∙ ap (λ b. get (sent_when from b) q) (sym is))
      ∙ ap (λ b. cond b (record (kept_rib cmp from) { sent = (kept_rib cmp from).set }) (kept_rib cmp from)) (sym is)

  pub sent_all : IsAntisymmetric cmp → (old : Rows K V) (from to : Kept K V) → rows_of (kept_rib cmp from) ≡ old → to.up ≡ from.up → to.set ≡ from.set
      → (from.up ≡ true → (q : K) → sent_at cmp to q ≡ set_at cmp from q) → rib_out cmp (rows_of (kept_rib cmp to)) ≡ flushed (rib_out cmp old)
  sent_all exact old from to is up set sent =
      seen (kept_rib cmp to) ∙ sent_up exact from to from.up refl up set sent ∙ ap flushed (sym (seen_as (kept_rib cmp from) old is))

  -- where nothing is gone and nothing is new, what was sent is what is set
  sent_is_set : (kept : Kept K V) (q : K) → kept.up ≡ true → kept.gone.entries ≡ [] → kept.news.entries ≡ [] → sent_at cmp kept q ≡ set_at cmp kept q
  sent_is_set kept q up gone news =
      let old : tree.get cmp kept.gone q ≡ None = ap (lookup (is_at (cmp q))) gone in
      let new : tree.get cmp kept.news q ≡ None = ap (lookup (is_at (cmp q))) news in
      λ i. sent_if (up i) (old i) (new i) (set_at cmp kept q)

  pub flushed_already : IsAntisymmetric cmp → (old : Rows K V) (kept : Kept K V) → rows_of (kept_rib cmp kept) ≡ old → kept.gone.entries ≡ []
      → kept.news.entries ≡ [] → flushed (rib_out cmp old) ≡ rib_out cmp old
  flushed_already exact old kept is gone news =
      sym (sent_all exact old kept kept is refl refl (λ up q. sent_is_set kept q up gone news)) ∙ ap (rib_out cmp) is

  -- ---- the calls of an inbox

  pub taken : IsAntisymmetric cmp → (rows : List (K × V)) (from to : BTreeMap K V) (change : Change K V) → from.entries ≡ rows → IsOrdered cmp from
      → IsOrdered cmp to
      → ((q : K) → tree.get cmp to q ≡ cond (eq_by_cmp cmp (key_of change) q) (value_of change) (tree.get cmp from q))
      → rib_in cmp to.entries ≡ applied (rib_in cmp rows) change
  taken exact rows from to change is was now set =
      same_map total exact (from_sorted to.entries) (applied (from_sorted from.entries) change)
      (λ q. get-ordered cmp to now q ∙ get-change from to (from_sorted from.entries) change set (get-ordered cmp from was) q)
      ∙ ap (λ rows. applied (rib_in cmp rows) change) is

  -- what is put where there was nothing
  pub entered : {E : Type 0} (r : Result Bool E) → IsAntisymmetric cmp → (rows : List (K × V)) (from to : BTreeMap K V) (key : K) (value : V)
      → from.entries ≡ rows → IsOrdered cmp from → IsOrdered cmp to
      → IfOk r (λ fresh. fresh ≡ true → (q : K) → tree.get cmp to q ≡ cond (eq_by_cmp cmp key q) (Some value) (tree.get cmp from q))
      → IfOk r (λ fresh. fresh ≡ true → rib_in cmp to.entries ≡ insert (rib_in cmp rows) key value)
  entered (Ok fresh) exact rows from to key value is was now set = λ new. taken exact rows from to (Reach key value) is was now (set new)
  entered (Err e) exact rows from to key value is was now set = set

  -- whether there was nothing
  pub seen_free : {E : Type 0} (r : Result Bool E) (rows : List (K × V)) (from : BTreeMap K V) (key : K) → from.entries ≡ rows → IsOrdered cmp from
      → IfOk r (λ fresh. fresh ≡ not (is_some (tree.get cmp from key))) → IfOk r (λ fresh. fresh ≡ not (is_some (get (rib_in cmp rows) key)))
  seen_free (Ok fresh) rows from key is was seen =
      seen ∙ ap (λ (o : Option V). not (is_some o)) (sym (get-ordered cmp from was key))
      ∙ ap (λ (rows : List (K × V)). not (is_some (get (rib_in cmp rows) key))) is
  seen_free (Err e) rows from key is was seen = seen

-- what a closure made of the entries of a map is what it made of those of the table
module _ {K V F : Type 0} (cmp : K → K → Ordering) (T : F → K → V → Bool → V → F → Type 0) (f : F) where
  listed : (m : BTreeMap K V) → IsOrdered cmp m → entries (rib_in cmp m.entries) ≡ m.entries
  listed m ordered = entries-from_sorted cmp m.entries (sorted cmp m.entries ordered)

  pub retained : (rows : List (K × V)) (from to : BTreeMap K V) → from.entries ≡ rows → IsOrdered cmp from → IsOrdered cmp to
      → RetainsPairs T f from.entries to.entries → RetainsPairs T f (entries (rib_in cmp rows)) (entries (rib_in cmp to.entries))
  retained rows from to is was now h =
      let old : from.entries ≡ entries (rib_in cmp rows) = sym (listed from was) ∙ ap (λ (list : List (K × V)). entries (rib_in cmp list)) is in
      subst (λ (list : List (K × V)). RetainsPairs T f (entries (rib_in cmp rows)) list) (sym (listed to now))
      (subst (λ (list : List (K × V)). RetainsPairs T f list to.entries) old h)
