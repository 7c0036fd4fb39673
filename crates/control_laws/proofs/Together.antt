-- The look-ups of what an edge keeps, put together from the trees of its VRFs; and what each tree needs to be one of these.
use Rattle.std.proofs.Common.{◌≡◌, ◌==◌, ◌&&◌, ◌||◌, Bool, true, false, cond, List, [], ◌∷◌, map, find, if◌then◌else◌, Option, Some, None, option_map, refl, sym, ap, ◌∙◌}
use Rattle.std.specs.List.{list_any}
use Rattle.std.specs.Ordering.{is_eq, eq_by_cmp}
use Rattle.std.specs.Cmp.{tied_itself, both_ways, Equal-is}
use Rattle.std.specs.FinMap as maps
use Rattle.std.specs.Option.{option_or}
use Rattle.std.specs.FinSet as sets
use Rattle.std.proofs.lemmas.Bool.{and_from, and_parts, eq-eqb, eqb-true}
use Rattle.mv_base.specs.declared.ids.VrfId.{VrfId}
use Rattle.pim_defs.specs.declared.expiry.Expiry.{Expiry}
use Rattle.pim_defs.specs.Entries.{entry_cmp}
use Rattle.pim_defs.proofs.KeyLemmas.{entry_cmp_total}
use Rattle.scenario_defs.specs.declared.event.IfaceEntry.{IfaceEntry}
use Rattle.selective_defs.specs.declared.selection.Selection.{Selection}
use Rattle.selective.specs.Roots.{is_of}
use Rattle.selective.specs.Patterns.{same_pattern}
use Rattle.selective.proofs.RootLemmas.{one_pattern, pattern_itself}
use Rattle.umh_select.specs.declared.route.Choice.{Choice}
use Rattle.vrf_words.specs.declared.tree_defs.flow.Flow.{Flow}
use Rattle.vrf_words.specs.declared.tree_defs.flow.Note.{Note}
use Rattle.vrf_words.specs.tree_defs.Keys as tree_keys
use Rattle.vrf_words.specs.tree_defs.Keys.{active_cmp}
use Rattle.edge_defs.specs.Edge as edges
use Rattle.edge_defs.specs.Edge.{VrfPattern, Selected, VrfFlow, Upstream, Site, Remote, Taken, Control, note_cmp, pattern_cmp, flow_cmp, no_control}
use Rattle.edge_defs.proofs.KeyLemmas.{note_total, pattern_total, pattern_exact, flow_total, flow_exact}
use Rattle.vrf_words.proofs.tree_defs.KeyLemmas.{flow_total as tree_flow_total, flow_exact as tree_flow_exact}
use Rattle.vrf_words.specs.tree_laws.TreeOf.{edge_note, flow_in}
use Rattle.control_laws.specs.Control.{Kept, OwnTree, trees_of, upstream_by, flows_by, selected_by, control_of}
use Rattle.control_laws.proofs.Gathered.{gathered, gathered_alike, get-gathered, contains-gathered}

-- ---- what each tree has of a thing

-- a note and a flow, as a tree has them
abbrev pub tree_note : edges.Note → Note
tree_note note = record { iface = note.iface; flow = record { source = note.source; group = note.group } }

abbrev pub flow_of : VrfFlow → Flow
flow_of flow = record { source = flow.source; group = flow.group }

abbrev pub selected_of : Selection → Selected
selected_of selection = record { number = selection.number; since = selection.since; run = selection.run }

abbrev pub entry_in : IfaceEntry → OwnTree → Option Expiry
entry_in at it = maps.get it.tree.vrf.entries at

abbrev pub note_in : Note → OwnTree → Bool
note_in note it = sets.contains it.tree.vrf.notes note

abbrev pub choice_in : VrfFlow → OwnTree → Option (Option Upstream)
choice_in flow it = if it.own.id.0 == flow.vrf.0 then option_map upstream_by (maps.get it.tree.vrf.flows (flow_of flow)) else None

abbrev pub selected_in : VrfPattern → OwnTree → Option Selected
selected_in at it = if it.own.id.0 == at.vrf.0 then option_map selected_of (find (is_of at.pattern) it.tree.root.selections) else None

-- ---- the look-ups as what is gathered from the trees

pub entries_gathered : (kept : Kept) (at : IfaceEntry) → maps.get (control_of kept).entries at ≡ gathered None option_or (entry_in at) (trees_of kept)
entries_gathered kept at =
    get-gathered entry_cmp_total (λ (it : OwnTree). maps.entries it.tree.vrf.entries) at (trees_of kept)
    ∙ gathered_alike None option_or (λ (it : OwnTree). maps.find entry_cmp at (maps.entries it.tree.vrf.entries)) (entry_in at) (trees_of kept)
    (λ it a. sym (maps.get-entries it.tree.vrf.entries at))

pub any_noted : (note : edges.Note) (notes : List Note)
    → list_any (eq_by_cmp note_cmp note) (map edge_note notes) ≡ list_any (eq_by_cmp tree_keys.note_cmp (tree_note note)) notes
any_noted note [] = refl
any_noted note (one ∷ notes) = ap (λ (b : Bool). eq_by_cmp tree_keys.note_cmp (tree_note note) one || b) (any_noted note notes)

pub notes_gathered : (kept : Kept) (note : edges.Note)
    → sets.contains (control_of kept).notes note ≡ gathered false (λ a b. a || b) (note_in (tree_note note)) (trees_of kept)
notes_gathered kept note =
    contains-gathered note_total (λ (it : OwnTree). map edge_note (sets.items it.tree.vrf.notes)) note (trees_of kept)
    ∙ gathered_alike false (λ a b. a || b) (λ (it : OwnTree). list_any (eq_by_cmp note_cmp note) (map edge_note (sets.items it.tree.vrf.notes)))
    (note_in (tree_note note)) (trees_of kept)
    (λ it a. any_noted note (sets.items it.tree.vrf.notes) ∙ sym (sets.contains-items it.tree.vrf.notes (tree_note note)))

-- ---- keys with the number of a VRF in front

-- such a key ties where the number is that one and the rest ties
flow_ties : (vrf : VrfId) (key : VrfFlow) (flow : Flow)
    → eq_by_cmp flow_cmp key (flow_in vrf flow) ≡ ((vrf.0 == key.vrf.0) && eq_by_cmp tree_keys.flow_cmp (flow_of key) flow)
flow_ties vrf key flow = both_ways _ _ there back
  where
    there : eq_by_cmp flow_cmp key (flow_in vrf flow) ≡ true → ((vrf.0 == key.vrf.0) && eq_by_cmp tree_keys.flow_cmp (flow_of key) flow) ≡ true
    there h =
        let one : key ≡ flow_in vrf flow = flow_exact key (flow_in vrf flow) ((Equal-is (flow_cmp key (flow_in vrf flow))).0 h) in
        and_from _ _ (eq-eqb vrf.0 key.vrf.0 (ap (λ (k : VrfFlow). k.vrf.0) (sym one)))
        (ap (λ (k : VrfFlow). eq_by_cmp tree_keys.flow_cmp (flow_of k) flow) one ∙ ap is_eq (tied_itself tree_flow_total flow))

    back : ((vrf.0 == key.vrf.0) && eq_by_cmp tree_keys.flow_cmp (flow_of key) flow) ≡ true → eq_by_cmp flow_cmp key (flow_in vrf flow) ≡ true
    back h =
        let both = and_parts (vrf.0 == key.vrf.0) (eq_by_cmp tree_keys.flow_cmp (flow_of key) flow) h in
        let number = eqb-true vrf.0 key.vrf.0 both.0 in
        let same : flow_of key ≡ flow = tree_flow_exact (flow_of key) flow ((Equal-is (tree_keys.flow_cmp (flow_of key) flow)).0 both.1) in
        let one : key ≡ flow_in vrf flow = λ i. record { vrf = record { 0 = sym number i }; source = (same i).source; group = (same i).group } in
        ap (eq_by_cmp flow_cmp key) (sym one) ∙ ap is_eq (tied_itself flow_total key)

abbrev pub pattern_of : VrfId → Selection → VrfPattern
pattern_of vrf selection = record { vrf = vrf; pattern = selection.pattern }

pub pattern_ties : (vrf : VrfId) (key : VrfPattern) (selection : Selection)
    → eq_by_cmp pattern_cmp key (pattern_of vrf selection) ≡ ((vrf.0 == key.vrf.0) && is_of key.pattern selection)
pattern_ties vrf key selection = both_ways _ _ there back
  where
    there : eq_by_cmp pattern_cmp key (pattern_of vrf selection) ≡ true → ((vrf.0 == key.vrf.0) && is_of key.pattern selection) ≡ true
    there h =
        let one : key ≡ pattern_of vrf selection =
        pattern_exact key (pattern_of vrf selection) ((Equal-is (pattern_cmp key (pattern_of vrf selection))).0 h) in
        and_from _ _ (eq-eqb vrf.0 key.vrf.0 (ap (λ (k : VrfPattern). k.vrf.0) (sym one)))
        (ap (λ (k : VrfPattern). same_pattern selection.pattern k.pattern) one ∙ pattern_itself selection.pattern)

    back : ((vrf.0 == key.vrf.0) && is_of key.pattern selection) ≡ true → eq_by_cmp pattern_cmp key (pattern_of vrf selection) ≡ true
    back h =
        let both = and_parts (vrf.0 == key.vrf.0) (is_of key.pattern selection) h in
        let number = eqb-true vrf.0 key.vrf.0 both.0 in
        let same : selection.pattern ≡ key.pattern = one_pattern selection.pattern key.pattern both.1 in
        let one : pattern_of vrf selection ≡ key = λ i. record { vrf = record { 0 = number i }; pattern = same i } in
        ap (eq_by_cmp pattern_cmp key) one ∙ ap is_eq (tied_itself pattern_total key)

head_where : {X Y : Type 0} (b t : Bool) (f : X → Y) (x : X) (o : Option X)
    → cond (b && t) (Some (f x)) (cond b (option_map f o) None) ≡ cond b (option_map f (cond t (Some x) o)) None
head_where true true f x o = refl
head_where true false f x o = refl
head_where false t f x o = refl

find-flows : (vrf : VrfId) (key : VrfFlow) (es : List (Flow × Choice))
    → maps.find flow_cmp key (map (λ (entry : Flow × Choice). (flow_in vrf entry.0, upstream_by entry.1)) es)
    ≡ cond (vrf.0 == key.vrf.0) (option_map upstream_by (maps.find tree_keys.flow_cmp (flow_of key) es)) None
find-flows vrf key [] = none (vrf.0 == key.vrf.0)
  where
    none : (b : Bool) → None ≡ cond b (option_map upstream_by None) None
    none true = refl
    none false = refl
find-flows vrf key (e ∷ es) =
    (λ i. cond (flow_ties vrf key e.0 i) (Some (upstream_by e.1)) (find-flows vrf key es i))
    ∙ head_where (vrf.0 == key.vrf.0) (eq_by_cmp tree_keys.flow_cmp (flow_of key) e.0) upstream_by e.1 (maps.find tree_keys.flow_cmp (flow_of key) es)

pub find-selections : (vrf : VrfId) (key : VrfPattern) (selections : List Selection) → maps.find pattern_cmp key (map (selected_by vrf) selections)
    ≡ cond (vrf.0 == key.vrf.0) (option_map selected_of (find (is_of key.pattern) selections)) None
find-selections vrf key [] = none (vrf.0 == key.vrf.0)
  where
    none : (b : Bool) → None ≡ cond b (option_map selected_of None) None
    none true = refl
    none false = refl
find-selections vrf key (selection ∷ more) =
    (λ i. cond (pattern_ties vrf key selection i) (Some (selected_of selection)) (find-selections vrf key more i))
    ∙ head_where (vrf.0 == key.vrf.0) (is_of key.pattern selection) selected_of selection (find (is_of key.pattern) more)

pub flows_gathered : (kept : Kept) (key : VrfFlow) → maps.get (control_of kept).flows key ≡ gathered None option_or (choice_in key) (trees_of kept)
flows_gathered kept key =
    get-gathered flow_total flows_by key (trees_of kept)
    ∙ gathered_alike None option_or (λ (it : OwnTree). maps.find flow_cmp key (flows_by it)) (choice_in key) (trees_of kept)
    (λ it a. find-flows it.own.id key (maps.entries it.tree.vrf.flows)
    ∙ ap (λ (o : Option Choice). cond (it.own.id.0 == key.vrf.0) (option_map upstream_by o) None)
    (sym (maps.get-entries it.tree.vrf.flows (flow_of key))))

pub selections_gathered : (kept : Kept) (key : VrfPattern)
    → maps.get (control_of kept).selections key ≡ gathered None option_or (selected_in key) (trees_of kept)
selections_gathered kept key =
    get-gathered pattern_total (λ (it : OwnTree). map (selected_by it.own.id) it.tree.root.selections) key (trees_of kept)
    ∙ gathered_alike None option_or (λ (it : OwnTree). maps.find pattern_cmp key (map (selected_by it.own.id) it.tree.root.selections))
    (selected_in key) (trees_of kept)
    (λ it a. find-selections it.own.id key it.tree.root.selections)
