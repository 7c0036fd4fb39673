-- What the maps of the code say of each peer and key.
use Rattle.std.proofs.Common.{◌≡◌, ℕ, ◌+◌, ◌&&◌, ◌||◌, Bool, true, false, cond, not, nat_le, List, [], ◌∷◌, map, Option, None, Some, Result, Ok, Err, IfOk, OnErr, refl, sym, ap, subst, ◌∙◌}
use Rattle.std.specs.Prelude.{fold, is_some, slice_get}
use Rattle.std.specs.declared.cmp.Ordering.{Ordering}
use Rattle.std.specs.BTreeMap.{is_at}
use Rattle.std.specs.Cmp.{IsTotalOrder, Equal-is, eq_by_cmp_equiv, nat_cmp_total}
use Rattle.std.specs.List.{list_any}
use Rattle.std.specs.Map.{lookup}
use Rattle.std.specs.Map.Calls.{RetainsPairs}
use Rattle.std.specs.Option.{option_map}
use Rattle.std.specs.Ordering.{eq_by_cmp, nat_cmp}
use Rattle.std.specs.FinMap as maps
use Rattle.std.specs.FinMap.{FinMap, IsAntisymmetric, entries, find, from_entries, get, get-empty, get-entries, get-from_entries, get-insert, get-remove, insert, remove, same_map}
use Rattle.std.proofs.lemmas.Cmp.{on_total}
use Rattle.mv_base.specs.declared.addr.Addr.{Addr}
use Rattle.mv_base.specs.declared.addr.Addr.TheVariants.{V4}
use Rattle.mv_base.specs.declared.ids.NodeId.{NodeId}
use Rattle.bgp_messages.specs.declared.bgp_attributes.key.Key.{Key}
use Rattle.bgp_messages.specs.declared.bgp_attributes.update.Change.{Change}
use Rattle.scenario_defs.specs.declared.scenario.Node.{Node}
use Rattle.scenario_defs.specs.declared.scenario.Vrf.{Vrf}
use Rattle.label_defs.specs.Keys.{node_cmp}
use Rattle.edge_defs.specs.Edge.{Taken, TakenRoute}
use Rattle.edge_defs.specs.Imported.{imported_selective}
use Rattle.edge_defs.specs.Keys.{Value, key_cmp}
use Rattle.edge_defs.specs.Place.{EdgePlace, OwnVrf, addr_of, own_vrfs}
use Rattle.edge_defs.specs.Steps.{is_imported, learned, peers_run, route_run, taken_change}
use Rattle.edge_defs.proofs.KeyLemmas.{key_exact, key_total}
use Rattle.edge_routes.specs.Local.{Local}
use Rattle.edge_tables.specs.taken_tables.Running.{IsOf, imports, node_run, run_at, table_run}
use Rattle.edge_tables.specs.taken_tables.Slots.{Rows, slot_of, taken_in, tables_of}
use Rattle.edge_tables.specs.taken_tables.Tables.{AreSpelled, IsSpelled, IsSpelledKey, Tables, changed_at}

pub node_total : IsTotalOrder node_cmp
node_total = on_total (λ (node : NodeId). node.0) nat_cmp_total

pub node_exact : IsAntisymmetric node_cmp
node_exact a b e = let same = maps.nat_cmp-IsAntisymmetric a.0 b.0 e in λ i. record { 0 = same i }

-- ---- maps

pub one_key : {K : Type 0} {R : K → K → Ordering} → IsAntisymmetric R → (q k : K) → eq_by_cmp R q k ≡ true → q ≡ k
one_key {R = R} exact q k e = exact q k ((Equal-is (R q k)).0 e)

module _ {K X : Type 0} {R : K → K → Ordering} (total : IsTotalOrder R) (exact : IsAntisymmetric R) where
  own_value : (m : FinMap R X) (k : K) (v : X) → get m k ≡ Some v → (q : K) (b : Bool) → eq_by_cmp R q k ≡ b → cond b (Some v) (get m q) ≡ get m q
  own_value m k v at q true e = sym at ∙ ap (get m) (sym (one_key exact q k e))
  own_value m k v at q false e = refl

  -- what a map has at a key, put again
  pub put_itself : (m : FinMap R X) (k : K) (v : X) → get m k ≡ Some v → insert m k v ≡ m
  put_itself m k v at = same_map total exact (insert m k v) m (λ q. get-insert total m k v q ∙ own_value m k v at q (eq_by_cmp R q k) refl)

  -- a change of each value, by its key
  abbrev pub each : (K → X → X) → K × X → K × X
  each g entry = (entry.0, g entry.0 entry.1)

  find_each : (g : K → X → X) (es : List (K × X)) (q : K) → find R q (map (each g) es) ≡ option_map (g q) (find R q es)
  find_each g [] q = refl
  find_each g (e ∷ es) q = by (eq_by_cmp R q e.0) refl (find_each g es q)
    where
      by : (b : Bool) → eq_by_cmp R q e.0 ≡ b → find R q (map (each g) es) ≡ option_map (g q) (find R q es)
          → cond b (Some (g e.0 e.1)) (find R q (map (each g) es)) ≡ option_map (g q) (cond b (Some e.1) (find R q es))
      by true h rest = ap (λ (k : K). Some (g k e.1)) (sym (one_key exact q e.0 h))
      by false h rest = rest

  pub get_each : (g : K → X → X) (m : FinMap R X) (q : K) → get (from_entries {R = R} (map (each g) (entries m))) q ≡ option_map (g q) (get m q)
  get_each g m q = get-from_entries total (map (each g) (entries m)) q ∙ find_each g (entries m) q ∙ ap (option_map (g q)) (sym (get-entries m q))

  -- a map whose entries are those of another one, each changed
  pub same_each : (g : K → X → X) (old new : FinMap R X) → entries new ≡ map (each g) (entries old) → new ≡ from_entries (map (each g) (entries old))
  same_each g old new is =
      same_map total exact new (from_entries (map (each g) (entries old)))
      (λ q. get-entries new q ∙ ap (find R q) is ∙ sym (get-from_entries total (map (each g) (entries old)) q))

  -- entries of a list that are those of another one, each changed
  pub same_listed : (g : K → X → X) (old new : List (K × X)) → new ≡ map (each g) old
      → from_entries {R = R} new ≡ from_entries (map (each g) (entries (from_entries {R = R} old)))
  same_listed g old new is =
      same_map total exact (from_entries new) (from_entries (map (each g) (entries (from_entries {R = R} old))))
      (λ q. ap (λ (l : List (K × X)). get (from_entries {R = R} l) q) is
      ∙ get-from_entries total (map (each g) old) q ∙ find_each g old q ∙ ap (option_map (g q)) (sym (get-from_entries total old q))
      ∙ sym (get_each g (from_entries old) q))

-- ---- closures over all entries

-- entries by another key and value
abbrev pub seen : {K X N Y : Type 0} → (K → N) → (X → Y) → K × X → N × Y
seen n h entry = (n entry.0, h entry.1)

-- a closure that always answers `true`, writes a value by the key, and stays as it was
pub keyed : {F K X N Y : Type 0} (T : F → K → X → Bool → X → F → Type 0) (n : K → N) (h : X → Y) (g : N → Y → Y) (f : F)
    → ((k : K) (v : X) (b : Bool) (w : X) (to : F) → T f k v b w to → (b ≡ true) × (h w ≡ g (n k) (h v)) × (to ≡ f))
    → (es kept : List (K × X)) → RetainsPairs T f es kept → map (seen n h) kept ≡ map (λ (p : N × Y). (p.0, g p.0 p.1)) (map (seen n h) es)
keyed T n h g f step [] kept r = ap (map (seen n h)) r
keyed T n h g f step (e ∷ es) kept r =
    let a = step e.0 e.1 r.0 r.1 r.2 r.4 in
    let rest = keyed T n h g f step es r.3 (subst (λ u. RetainsPairs T u es r.3) a.2 r.5) in
    ap (map (seen n h)) (r.6 ∙ ap (λ b. cond b ((e.0, r.1) ∷ r.3) r.3) a.0) ∙ (λ i. (n e.0, a.1 i) ∷ rest i)

as_seen : {K X : Type 0} (es : List (K × X)) → map (seen (λ k. k) (λ v. v)) es ≡ es
as_seen [] = refl
as_seen (e ∷ es) = ap (λ (rest : List _). e ∷ rest) (as_seen es)

pub table_ran : {F : Type 0} (T : F → Key → TakenRoute → Bool → TakenRoute → F → Type 0) (g : Key → TakenRoute → TakenRoute) (f : F)
    → ((k : Key) (v : TakenRoute) (b : Bool) (w : TakenRoute) (to : F) → T f k v b w to → (b ≡ true) × (w ≡ g k v) × (to ≡ f))
    → (old new : Taken) → RetainsPairs T f (entries old) (entries new)
    → new ≡ from_entries (map (λ (e : Key × TakenRoute). (e.0, g e.0 e.1)) (entries old))
table_ran T g f step old new r =
    same_each key_total key_exact g old new
    (sym (as_seen (entries new)) ∙ keyed T (λ k. k) (λ v. v) g f step (entries old) (entries new) r
    ∙ ap (map (λ (e : Key × TakenRoute). (e.0, g e.0 e.1))) (as_seen (entries old)))

abbrev node_of : ℕ → NodeId
node_of number = record { 0 = number }

pub tables_ran : {F : Type 0} (T : F → ℕ → Rows → Bool → Rows → F → Type 0) (g : NodeId → Taken → Taken) (f : F)
    → ((k : ℕ) (v : Rows) (b : Bool) (w : Rows) (to : F) → T f k v b w to → (b ≡ true) × (taken_in w ≡ g (record { 0 = k }) (taken_in v)) × (to ≡ f))
    → (es kept : List (ℕ × Rows)) → RetainsPairs T f es kept
    → tables_of kept ≡ from_entries (map (λ (e : NodeId × Taken). (e.0, g e.0 e.1)) (entries (tables_of es)))
tables_ran T g f step es kept r =
    same_listed node_total node_exact g (map slot_of es) (map slot_of kept) (keyed T node_of taken_in g f step es kept r)

-- ---- the table of a peer

joined : (b : Bool) (rows : Rows) (rest : Option Rows)
    → cond b (Some (taken_in rows)) (option_map taken_in rest) ≡ option_map taken_in (cond b (Some rows) rest)
joined true rows rest = refl
joined false rows rest = refl

find_slot : (slots : List (ℕ × Rows)) (peer : NodeId)
    → find node_cmp peer (map slot_of slots) ≡ option_map taken_in (lookup (is_at (nat_cmp peer.0)) slots)
find_slot [] peer = refl
find_slot (slot ∷ slots) peer =
    ap (cond (is_at (nat_cmp peer.0) slot.0) (Some (taken_in slot.1))) (find_slot slots peer)
    ∙ joined (is_at (nat_cmp peer.0) slot.0) slot.1 (lookup (is_at (nat_cmp peer.0)) slots)

pub at_of : (slots : List (ℕ × Rows)) (peer : NodeId) → get (tables_of slots) peer ≡ option_map taken_in (lookup (is_at (nat_cmp peer.0)) slots)
at_of slots peer = get-from_entries node_total (map slot_of slots) peer ∙ find_slot slots peer

-- the slots after a change of one
abbrev pub Becomes : List (ℕ × Rows) → List (ℕ × Rows) → NodeId → Option Rows → Type 0
Becomes old new peer rows = (q : ℕ) → lookup (is_at (nat_cmp q)) new ≡ cond (is_at (nat_cmp peer.0) q) rows (lookup (is_at (nat_cmp q)) old)

module _ (old new : List (ℕ × Rows)) (peer : NodeId) where
  under : (b : Bool) (rows there : Option Rows)
      → option_map taken_in (cond b rows there) ≡ cond b (option_map taken_in rows) (option_map taken_in there)
  under true rows there = refl
  under false rows there = refl

  get_became : (rows : Option Rows) → Becomes old new peer rows → (q : NodeId)
      → get (tables_of new) q ≡ cond (eq_by_cmp node_cmp q peer) (option_map taken_in rows) (get (tables_of old) q)
  get_became rows h q =
      at_of new q ∙ ap (option_map taken_in) (h q.0) ∙ under (is_at (nat_cmp peer.0) q.0) rows (lookup (is_at (nat_cmp q.0)) old)
      ∙ ap (λ (b : Bool). cond b (option_map taken_in rows) (option_map taken_in (lookup (is_at (nat_cmp q.0)) old)))
      ((eq_by_cmp_equiv node_total).symm peer q)
      ∙ ap (cond (eq_by_cmp node_cmp q peer) (option_map taken_in rows)) (sym (at_of old q))

  pub inserted : (rows : Rows) → Becomes old new peer (Some rows) → tables_of new ≡ insert (tables_of old) peer (taken_in rows)
  inserted rows h =
      same_map node_total node_exact (tables_of new) (insert (tables_of old) peer (taken_in rows))
      (λ q. get_became (Some rows) h q ∙ sym (get-insert node_total (tables_of old) peer (taken_in rows) q))

  pub removed : Becomes old new peer None → tables_of new ≡ remove (tables_of old) peer
  removed h =
      same_map node_total node_exact (tables_of new) (remove (tables_of old) peer)
      (λ q. get_became None h q ∙ sym (get-remove node_total (tables_of old) peer q))

-- ---- what is looked up

module _ (slots : List (ℕ × Rows)) (tables : Tables) (peer : NodeId) (view : tables_of slots ≡ tables) where
  abbrev there_at : Option Rows
  there_at = lookup (is_at (nat_cmp peer.0)) slots

  found : get tables peer ≡ option_map taken_in there_at
  found = ap (λ (t : Tables). get t peer) (sym view) ∙ at_of slots peer

  some_as : (o : Option Rows) → is_some o ≡ is_some (option_map taken_in o)
  some_as None = refl
  some_as (Some rows) = refl

  pub up_of : (b : Bool) → b ≡ is_some there_at → b ≡ maps.contains_key tables peer
  up_of b h = h ∙ some_as there_at ∙ sym (ap is_some found)

  pub none_there : None ≡ there_at → get tables peer ≡ None
  none_there h = found ∙ ap (option_map taken_in) (sym h)

  pub some_there : (rows : Rows) → Some rows ≡ there_at → get tables peer ≡ Some (taken_in rows)
  some_there rows h = found ∙ ap (option_map taken_in) (sym h)

-- ---- a change of the table of one peer

abbrev change_by : NodeId → (Taken → Taken) → Tables → Option Taken → Tables
change_by peer change tables o = elim o [ None ↦ tables | Some taken ↦ insert tables peer (change taken) ]

pub unchanged_at : (tables : Tables) (peer : NodeId) (change : Taken → Taken) → get tables peer ≡ None → tables ≡ changed_at peer change tables
unchanged_at tables peer change none = sym (ap (change_by peer change tables) none)

pub changed_there : (tables : Tables) (peer : NodeId) (change : Taken → Taken) (old new : Taken) → get tables peer ≡ Some old → new ≡ change old
    → insert tables peer new ≡ changed_at peer change tables
changed_there tables peer change old new there is = ap (insert tables peer) is ∙ sym (ap (change_by peer change tables) there)

same_twice : (tables : Tables) (peer : NodeId) (first second : Taken) → insert (insert tables peer first) peer second ≡ insert tables peer second
same_twice tables peer first second =
    same_map node_total node_exact (insert (insert tables peer first) peer second) (insert tables peer second)
    (λ q. get-insert node_total (insert tables peer first) peer second q
    ∙ ap (cond (eq_by_cmp node_cmp q peer) (Some second)) (get-insert node_total tables peer first q)
    ∙ by (eq_by_cmp node_cmp q peer) (get tables q) ∙ sym (get-insert node_total tables peer second q))
  where
    by : (b : Bool) (o : Option Taken) → cond b (Some second) (cond b (Some first) o) ≡ cond b (Some second) o
    by true o = refl
    by false o = refl

there_now : (tables : Tables) (peer : NodeId) (taken : Taken) → get (insert tables peer taken) peer ≡ Some taken
there_now tables peer taken =
    get-insert node_total tables peer taken peer ∙ ap (λ (b : Bool). cond b (Some taken) (get tables peer)) ((eq_by_cmp_equiv node_total).refl peer)

-- a change after another one
changed_twice : (tables : Tables) (peer : NodeId) (first second : Taken → Taken) (o : Option Taken) → get tables peer ≡ o
    → changed_at peer second (changed_at peer first tables) ≡ changed_at peer (λ taken. second (first taken)) tables
changed_twice tables peer first second None none =
    ap (changed_at peer second) (sym (unchanged_at tables peer first none)) ∙ sym (unchanged_at tables peer second none)
    ∙ unchanged_at tables peer (λ taken. second (first taken)) none
changed_twice tables peer first second (Some taken) there =
    ap (changed_at peer second) (sym (changed_there tables peer first taken (first taken) there refl))
    ∙ sym (changed_there (insert tables peer (first taken)) peer second (first taken) (second (first taken)) (there_now tables peer (first taken))
    refl)
    ∙ same_twice tables peer (first taken) (second (first taken))
    ∙ changed_there tables peer (λ (t : Taken). second (first t)) taken (second (first taken)) there refl

not_changed : (tables : Tables) (peer : NodeId) (o : Option Taken) → get tables peer ≡ o → tables ≡ changed_at peer (λ taken. taken) tables
not_changed tables peer None none = unchanged_at tables peer (λ taken. taken) none
not_changed tables peer (Some taken) there =
    sym (put_itself node_total node_exact tables peer taken there) ∙ changed_there tables peer (λ (t : Taken). t) taken taken there refl

pub one_after_another : (now : ℕ) (peer : NodeId) (changes : List Change) (tables : Tables)
    → fold (λ (tables : Tables) (change : Change). changed_at peer (λ taken. taken_change now taken change) tables) tables changes
    ≡ changed_at peer (λ taken. fold (taken_change now) taken changes) tables
one_after_another now peer [] tables = not_changed tables peer (get tables peer) refl
one_after_another now peer (change ∷ rest) tables =
    one_after_another now peer rest (changed_at peer (λ taken. taken_change now taken change) tables)
    ∙ changed_twice tables peer (λ taken. taken_change now taken change) (λ taken. fold (taken_change now) taken rest) (get tables peer) refl

module _ (old new : List (ℕ × Rows)) (tables : Tables) (peer : NodeId) (there rows : Rows) (view : tables_of old ≡ tables)
    (at : Some there ≡ lookup (is_at (nat_cmp peer.0)) old) (becomes : Becomes old new peer (Some rows)) where
  wrote : tables_of new ≡ insert tables peer (taken_in rows)
  wrote = inserted old new peer rows becomes ∙ ap (λ (t : Tables). insert t peer (taken_in rows)) view

  -- the table was changed, or left
  pub changed_by : (change : Taken → Taken) → taken_in rows ≡ change (taken_in there) → tables_of new ≡ changed_at peer change tables
  changed_by change is = wrote ∙ changed_there tables peer change (taken_in there) (taken_in rows) (some_there old tables peer view there at) is

  pub left : rows ≡ there → tables_of new ≡ tables
  left is =
      wrote ∙ put_itself node_total node_exact tables peer (taken_in rows)
      (some_there old tables peer view there at ∙ ap (λ (r : Rows). Some (taken_in r)) (sym is))

-- ---- routes

-- what is learned where there was none
new_learned : (value : Value) (o : Option TakenRoute) (now : ℕ) → not (is_some o) ≡ true
    → learned now value o ≡ record { value = value; since = now; run = false }
new_learned value None now h = refl
new_learned value (Some old) now h = absurd cc

pub entered_learned : {E : Type 0} (r : Result Bool E) (old new : Taken) (key : Key) (value : Value) (now : ℕ)
    → IfOk r (λ fresh. fresh ≡ not (is_some (get old key)))
    → IfOk r (λ fresh. fresh ≡ true → new ≡ insert old key (record { value = value; since = now; run = false }))
    → IfOk r (λ fresh. fresh ≡ true → new ≡ insert old key (learned now value (get old key)))
entered_learned (Ok fresh) old new key value now is put = λ yes.
    put yes ∙ ap (insert old key) (sym (new_learned value (get old key) now (sym is ∙ yes)))
entered_learned (Err e) old new key value now is put = put

-- ---- keys that have spellings

pub one_some : {A : Type 0} (x y : A) → ◌≡◌ {A = Option A} (Some x) (Some y) → x ≡ y
one_some x y h = cc

pub no_some : {A P : Type 0} (x : A) → ◌≡◌ {A = Option A} None (Some x) → P
no_some x h = absurd cc

no_key : {P : Type 0} → false ≡ true → P
no_key h = absurd cc

pub empty_spelled : IsSpelled maps.empty
empty_spelled key h = no_key (sym (ap is_some (get-empty key_cmp key)) ∙ h)

pub none_spelled : AreSpelled maps.empty
none_spelled peer taken h = no_some taken (sym (get-empty node_cmp peer) ∙ h)

pub route_spelled : (taken : Taken) (key : Key) (route : TakenRoute) → IsSpelled taken → IsSpelledKey key → IsSpelled (insert taken key route)
route_spelled taken key route old h q there = by (eq_by_cmp key_cmp q key) refl (sym (ap is_some (get-insert key_total taken key route q)) ∙ there)
  where
    by : (b : Bool) → eq_by_cmp key_cmp q key ≡ b → is_some (cond b (Some route) (get taken q)) ≡ true → IsSpelledKey q
    by true e k = subst IsSpelledKey (sym (one_key key_exact q key e)) h
    by false e k = old q k

pub entered_spelled : {E : Type 0} (r : Result Bool E) (there rows : Rows) (key : Key) (route : TakenRoute)
    → IfOk r (λ fresh. fresh ≡ true → taken_in rows ≡ insert (taken_in there) key route) → IfOk r (λ fresh. fresh ≡ false → rows ≡ there)
    → OnErr r (rows ≡ there) → IsSpelledKey key → IsSpelled (taken_in there) → IsSpelled (taken_in rows)
entered_spelled (Ok true) there rows key route put stays err writable h =
    subst IsSpelled (sym (put refl)) (route_spelled (taken_in there) key route h writable)
entered_spelled (Ok false) there rows key route put stays err writable h = subst (λ (r : Rows). IsSpelled (taken_in r)) (sym (stays refl)) h
entered_spelled (Err e) there rows key route put stays err writable h = subst (λ (r : Rows). IsSpelled (taken_in r)) (sym err) h

pub rest_spelled : (taken : Taken) (key : Key) → IsSpelled taken → IsSpelled (remove taken key)
rest_spelled taken key old q there = by (eq_by_cmp key_cmp q key) (sym (ap is_some (get-remove key_total taken key q)) ∙ there)
  where
    by : (b : Bool) → is_some (cond b None (get taken q)) ≡ true → IsSpelledKey q
    by true k = no_key k
    by false k = old q k

pub table_spelled : (tables : Tables) (peer : NodeId) (taken : Taken) → AreSpelled tables → IsSpelled taken → AreSpelled (insert tables peer taken)
table_spelled tables peer taken old h q at there = by (eq_by_cmp node_cmp q peer) (sym (get-insert node_total tables peer taken q) ∙ there)
  where
    by : (b : Bool) → cond b (Some taken) (get tables q) ≡ Some at → IsSpelled at
    by true k = subst IsSpelled (one_some taken at k) h
    by false k = old q at k

pub others_spelled : (tables : Tables) (peer : NodeId) → AreSpelled tables → AreSpelled (remove tables peer)
others_spelled tables peer old q at there = by (eq_by_cmp node_cmp q peer) (sym (get-remove node_total tables peer q) ∙ there)
  where
    by : (b : Bool) → cond b None (get tables q) ≡ Some at → IsSpelled at
    by true k = no_some at k
    by false k = old q at k

pub slot_spelled : (old new : List (ℕ × Rows)) (peer : NodeId) (there rows : Rows) → Some there ≡ lookup (is_at (nat_cmp peer.0)) old
    → Becomes old new peer (Some rows)
    → AreSpelled (tables_of old) → (IsSpelled (taken_in there) → IsSpelled (taken_in rows)) → AreSpelled (tables_of new)
slot_spelled old new peer there rows at becomes h step =
    subst AreSpelled (sym (inserted old new peer rows becomes))
    (table_spelled (tables_of old) peer (taken_in rows) h (step (h peer (taken_in there) (some_there old (tables_of old) peer refl there at))))

some_mapped : {A : Type 0} (g : A → A) (o : Option A) → is_some (option_map g o) ≡ true → is_some o ≡ true
some_mapped g None h = h
some_mapped g (Some x) h = refl

each_spelled : (g : Key → TakenRoute → TakenRoute) (taken : Taken) → IsSpelled taken
    → IsSpelled (from_entries (map (λ (e : Key × TakenRoute). (e.0, g e.0 e.1)) (entries taken)))
each_spelled g taken old q there = old q (some_mapped (g q) (get taken q) (sym (ap is_some (get_each key_total key_exact g taken q)) ∙ there))

-- ---- the delays of a node

module _ (vrfs : List Local) (nodes : List Node) (delay now : ℕ) where
  abbrev pub run_tables : Tables → Tables
  run_tables tables = from_entries (map (λ (e : NodeId × Taken). (e.0, node_run vrfs nodes delay now e.0 e.1)) (entries tables))

  abbrev at_node : Taken → Option Node → Taken
  at_node taken o = elim o [ None ↦ taken | Some node ↦ table_run vrfs delay now node.addr taken ]

  node_spelled : (taken : Taken) (o : Option Node) → IsSpelled taken → IsSpelled (at_node taken o)
  node_spelled taken None h = h
  node_spelled taken (Some node) h = each_spelled (run_at vrfs delay now node.addr) taken h

  pub run_spelled : (tables : Tables) → AreSpelled tables → AreSpelled (run_tables tables)
  run_spelled tables old q at there = by (get tables q) refl (sym (get_each node_total node_exact (node_run vrfs nodes delay now) tables q) ∙ there)
    where
      by : (o : Option Taken) → get tables q ≡ o → option_map (node_run vrfs nodes delay now q) o ≡ Some at → IsSpelled at
      by None e k = no_some at k
      by (Some taken) e k =
          subst IsSpelled (one_some (node_run vrfs nodes delay now q taken) at k) (node_spelled taken (slice_get nodes q.0) (old q taken e))

-- ---- the delays by the place of the edge

any_vrf : {A : Type 0} (p : Vrf → Bool) (vrf : A → Vrf) (owns : List A) → list_any p (map vrf owns) ≡ list_any (λ own. p (vrf own)) owns
any_vrf p vrf [] = refl
any_vrf p vrf (own ∷ owns) = ap (λ (b : Bool). p (vrf own) || b) (any_vrf p vrf owns)

module _ (place : EdgePlace) (vrfs : List Local) (nodes : List Node) (delay now : ℕ) (tables : Tables) (h : IsOf place vrfs nodes delay tables) where
  imports_is : (peer : NodeId) (entry : Key × TakenRoute) → imports vrfs (addr_of place.scenario peer) entry ≡ is_imported place peer entry
  imports_is peer entry =
      let p : Vrf → Bool = λ vrf. is_some (imported_selective vrf (addr_of place.scenario peer) entry) in
      sym (any_vrf p (λ (own : Local). own.vrf) vrfs) ∙ ap (list_any p) h.own ∙ any_vrf p (λ (own : OwnVrf). own.vrf) (own_vrfs place)

  route_is : (peer : NodeId) (entry : Key × TakenRoute)
      → ◌≡◌ {A = Key × TakenRoute} (entry.0, run_at vrfs delay now (addr_of place.scenario peer) entry.0 entry.1) (route_run place now peer entry)
  route_is peer entry = λ i. (entry.0, record entry.1 { run = entry.1.run || (imports_is peer entry i && nat_le (entry.1.since + h.wait i) now) })

  abbrev run_in : NodeId → Taken → Taken
  run_in peer taken = from_entries (map (route_run place now peer) (entries taken))

  table_is : (peer : NodeId) (taken : Taken) → table_run vrfs delay now (addr_of place.scenario peer) taken ≡ run_in peer taken
  table_is peer taken = λ i. from_entries (map (λ (entry : Key × TakenRoute). route_is peer entry i) (entries taken))

  node_is : (peer : NodeId) (taken : Taken) (o : Option Node) → slice_get nodes peer.0 ≡ o → is_some o ≡ true
      → at_node vrfs nodes delay now taken o ≡ run_in peer taken
  node_is peer taken None e k = no_key k
  node_is peer taken (Some node) e k =
      let addr : addr_of place.scenario peer ≡ node.addr = ap (addr_in) (ap (λ (l : List Node). slice_get l peer.0) (sym h.network) ∙ e) in
      ap (λ (a : Addr). table_run vrfs delay now a taken) (sym addr) ∙ table_is peer taken
    where
      addr_in : Option Node → Addr
      addr_in o = elim o [ None ↦ V4 [] | Some found ↦ found.addr ]

  pub run_is : run_tables vrfs nodes delay now tables ≡ peers_run place now tables
  run_is =
      same_map node_total node_exact (run_tables vrfs nodes delay now tables) (peers_run place now tables)
      (λ q. get_each node_total node_exact (node_run vrfs nodes delay now) tables q ∙ by q (get tables q) refl
      ∙ sym (get_each node_total node_exact run_in tables q))
    where
      by : (q : NodeId) (o : Option Taken) → get tables q ≡ o → option_map (node_run vrfs nodes delay now q) o ≡ option_map (run_in q) o
      by q None e = refl
      by q (Some taken) e = ap (λ (t : Taken). Some t) (node_is q taken (slice_get nodes q.0) refl (h.peers q (ap is_some e)))
