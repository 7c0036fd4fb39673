-- The table that is taken is that of the messages.
use Rattle.std.proofs.Common.{◌≡◌, Bool, true, false, cond, T, List, [], ◌∷◌, ◌++◌, map, filter, Option, Some, None, option_map, refl, sym, ap, subst, ◌∙◌}
use Rattle.std.proofs.lemmas.List.{map-append}
use Rattle.std.specs.Prelude.{◌&&◌, fold}
use Rattle.std.specs.List.{flat_map}
use Rattle.std.specs.Ordering.{eq_by_cmp, is_lt}
use Rattle.std.specs.FinMap as maps
use Rattle.std.specs.FinMap.{find, get-insert, get-remove, get-empty, get-entries, get-from_entries}
use Rattle.std.specs.FinMap.Entries.{below_all, is_sorted}
use Rattle.bgp_messages.specs.declared.bgp_attributes.key.Key.{Key}
use Rattle.bgp_messages.specs.declared.bgp_attributes.update.Change.{Change}
use Rattle.bgp_messages.specs.declared.bgp_attributes.update.Change.TheVariants.{Reach, Unreach}
use Rattle.bgp_messages.specs.declared.bgp_attributes.update.Message.{Message}
use Rattle.bgp_messages.specs.bgp_update.Table.{changes_of}
use Rattle.mv_base.specs.table_defs.Changes.{applied, applied_all}
use Rattle.scenario_defs.specs.declared.scenario.Vrf.{Vrf}
use Rattle.edge_defs.specs.Edge.{Taken, TakenRoute}
use Rattle.edge_defs.specs.Imported.{is_admitted}
use Rattle.edge_defs.specs.Keys.{Table, Value, key_cmp, same_value}
use Rattle.edge_defs.specs.Steps.{learned, taken_change}
use Rattle.edge_defs.proofs.KeyLemmas.{key_total, key_exact, value_exact}
use Rattle.probe_defs.specs.Probed.{as_table_change, taken_at_once}

-- ---- a table as it is taken

abbrev fresh_route : Value → TakenRoute
fresh_route value = record { value = value; since = 0; run = false }

abbrev at_once : Key × Value → Key × TakenRoute
at_once entry = (entry.0, fresh_route entry.1)

fresh_head : (b : Bool) (value : Value) (rest : Option Value)
    → cond b (Some (fresh_route value)) (option_map fresh_route rest) ≡ option_map fresh_route (cond b (Some value) rest)
fresh_head true value rest = refl
fresh_head false value rest = refl

find_at_once : (key : Key) (es : List (Key × Value)) → find key_cmp key (map at_once es) ≡ option_map fresh_route (find key_cmp key es)
find_at_once key [] = refl
find_at_once key (e ∷ es) =
    ap (cond (eq_by_cmp key_cmp key e.0) (Some (fresh_route e.1))) (find_at_once key es)
    ∙ fresh_head (eq_by_cmp key_cmp key e.0) e.1 (find key_cmp key es)

pub get_at_once : (table : Table) (key : Key) → maps.get (taken_at_once table) key ≡ option_map fresh_route (maps.get table key)
get_at_once table key =
    get-from_entries key_total (map at_once (maps.entries table)) key ∙ find_at_once key (maps.entries table)
    ∙ ap (option_map fresh_route) (sym (get-entries table key))

pub none_at_once : taken_at_once maps.empty ≡ maps.empty
none_at_once = maps.same_map key_total key_exact (taken_at_once maps.empty) maps.empty (λ q.
    get_at_once maps.empty q ∙ ap (option_map fresh_route) (get-empty key_cmp q) ∙ sym (get-empty key_cmp q))

-- ---- in the order of keys

below_at_once : (x : Key) (es : List (Key × Value)) → below_all key_cmp x (map at_once es) ≡ below_all key_cmp x es
below_at_once x [] = refl
below_at_once x (e ∷ es) = ap (λ (b : Bool). is_lt (key_cmp x e.0) && b) (below_at_once x es)

sorted_at_once : (es : List (Key × Value)) → is_sorted key_cmp (map at_once es) ≡ is_sorted key_cmp es
sorted_at_once [] = refl
sorted_at_once (e ∷ es) = λ i. below_at_once e.0 es i && sorted_at_once es i

pub entries_at_once : (table : Table) → maps.entries (taken_at_once table) ≡ map at_once (maps.entries table)
entries_at_once table =
    let es : List (Key × TakenRoute) = map at_once (maps.entries table) in
    let sorted : T (is_sorted key_cmp es) = subst T (sym (sorted_at_once (maps.entries table))) (maps.entries_sorted table) in
    let one : maps.from_entries {R = key_cmp} es ≡ maps.from_sorted es =
    maps.same_map key_total key_exact (maps.from_entries es) (maps.from_sorted es)
    (λ q. get-from_entries key_total es q ∙ sym (maps.get-from_sorted key_cmp es q sorted)) in
    ap maps.entries one ∙ maps.entries-from_sorted key_cmp es sorted

-- the keys of the routes that have a target of the VRF
keys_by : (b : Bool) (e : Key × Value) (taken : List (Key × TakenRoute)) (es : List (Key × Value))
    → map (λ (x : Key × TakenRoute). x.0) taken ≡ map (λ (x : Key × Value). x.0) es
    → map (λ (x : Key × TakenRoute). x.0) (cond b (at_once e ∷ taken) taken) ≡ map (λ (x : Key × Value). x.0) (cond b (e ∷ es) es)
keys_by true e taken es h = ap (λ (keys : List Key). e.0 ∷ keys) h
keys_by false e taken es h = h

keys_at_once : (vrf : Vrf) (es : List (Key × Value))
    → map (λ (x : Key × TakenRoute). x.0) (filter (λ (x : Key × TakenRoute). is_admitted vrf x.1.value.comms) (map at_once es))
    ≡ map (λ (x : Key × Value). x.0) (filter (λ (x : Key × Value). is_admitted vrf x.1.comms) es)
keys_at_once vrf [] = refl
keys_at_once vrf (e ∷ es) =
    keys_by (is_admitted vrf e.1.comms) e (filter (λ (x : Key × TakenRoute). is_admitted vrf x.1.value.comms) (map at_once es))
    (filter (λ (x : Key × Value). is_admitted vrf x.1.comms) es) (keys_at_once vrf es)

pub admitted_at_once : (vrf : Vrf) (table : Table)
    → map (λ (x : Key × TakenRoute). x.0) (filter (λ (x : Key × TakenRoute). is_admitted vrf x.1.value.comms) (maps.entries (taken_at_once table)))
    ≡ map (λ (x : Key × Value). x.0) (filter (λ (x : Key × Value). is_admitted vrf x.1.comms) (maps.entries table))
admitted_at_once vrf table =
    ap (λ (es : List (Key × TakenRoute)). map (λ (x : Key × TakenRoute). x.0) (filter (λ (x : Key × TakenRoute). is_admitted vrf x.1.value.comms) es))
    (entries_at_once table)
    ∙ keys_at_once vrf (maps.entries table)

-- ---- a change is taken

learned_by : (b : Bool) (old value : Value) → (b ≡ true → old ≡ value) → cond b (fresh_route old) (fresh_route value) ≡ fresh_route value
learned_by true old value same = ap fresh_route (same refl)
learned_by false old value same = refl

learned_at_once : (value : Value) (old : Option Value) → learned 0 value (option_map fresh_route old) ≡ fresh_route value
learned_at_once value None = refl
learned_at_once value (Some old) = learned_by (same_value old value) old value (λ e. (value_exact old value).0 e)

gone_head : (b : Bool) (rest : Option Value) → cond b None (option_map fresh_route rest) ≡ option_map fresh_route (cond b None rest)
gone_head true rest = refl
gone_head false rest = refl

change_at_once : (table : Table) (change : Change)
    → taken_change 0 (taken_at_once table) change ≡ taken_at_once (applied table (as_table_change change))
change_at_once table (Reach advert) =
    let value : Value = record { next_hop = advert.next_hop; comms = advert.comms; pmsi = advert.pmsi } in
    let new : TakenRoute = learned 0 value (maps.get (taken_at_once table) advert.key) in
    let is : new ≡ fresh_route value = ap (learned 0 value) (get_at_once table advert.key) ∙ learned_at_once value (maps.get table advert.key) in
    maps.same_map key_total key_exact (maps.insert (taken_at_once table) advert.key new) (taken_at_once (maps.insert table advert.key value)) (λ q.
    get-insert key_total (taken_at_once table) advert.key new q
    ∙ ap (λ (r : TakenRoute). cond (eq_by_cmp key_cmp q advert.key) (Some r) (maps.get (taken_at_once table) q)) is
    ∙ ap (cond (eq_by_cmp key_cmp q advert.key) (Some (fresh_route value))) (get_at_once table q)
    ∙ fresh_head (eq_by_cmp key_cmp q advert.key) value (maps.get table q)
    ∙ ap (option_map fresh_route) (sym (get-insert key_total table advert.key value q))
    ∙ sym (get_at_once (maps.insert table advert.key value) q))
change_at_once table (Unreach key) =
    maps.same_map key_total key_exact (maps.remove (taken_at_once table) key) (taken_at_once (maps.remove table key)) (λ q.
    get-remove key_total (taken_at_once table) key q
    ∙ ap (cond (eq_by_cmp key_cmp q key) None) (get_at_once table q)
    ∙ gone_head (eq_by_cmp key_cmp q key) (maps.get table q)
    ∙ ap (option_map fresh_route) (sym (get-remove key_total table key q))
    ∙ sym (get_at_once (maps.remove table key) q))

pub changes_at_once : (table : Table) (changes : List Change)
    → fold (taken_change 0) (taken_at_once table) changes ≡ taken_at_once (applied_all table (map as_table_change changes))
changes_at_once table [] = refl
changes_at_once table (change ∷ more) =
    ap (λ (taken : Taken). fold (taken_change 0) taken more) (change_at_once table change)
    ∙ changes_at_once (applied table (as_table_change change)) more

-- ---- messages

-- the table after messages
abbrev pub table_on : Table → List Message → Table
table_on table messages = applied_all table (map as_table_change (flat_map changes_of messages))

fold_append : (table : Table) (a b : List _) → applied_all table (a ++ b) ≡ applied_all (applied_all table a) b
fold_append table [] b = refl
fold_append table (x ∷ a) b = fold_append (applied table x) a b

pub table_more : (table : Table) (message : Message) (more : List Message)
    → table_on table (message ∷ more) ≡ table_on (applied_all table (map as_table_change (changes_of message))) more
table_more table message more =
    ap (applied_all table) (map-append as_table_change (changes_of message) (flat_map changes_of more))
    ∙ fold_append table (map as_table_change (changes_of message)) (map as_table_change (flat_map changes_of more))

pub table_append : (table : Table) (a b : List Message) → table_on table (a ++ b) ≡ table_on (table_on table a) b
table_append table [] b = refl
table_append table (message ∷ a) b =
    let next : Table = applied_all table (map as_table_change (changes_of message)) in
    table_more table message (a ++ b) ∙ table_append next a b ∙ ap (λ (t : Table). table_on t b) (sym (table_more table message a))
