-- What an edge that was given lines answers: what its VRFs take, by the table of its peer.
use Rattle.std.proofs.Common.{◌≡◌, ◌≢◌, ℕ, zero, suc, ◌+◌, ◌<◌, ◌≤◌, ◌==◌, ◌&&◌, not, Bool, true, false, cond, List, [], ◌∷◌, ◌++◌, length, map, Option, Some, None, Result, Ok, Err, OnOk, get_or, take, inl, inr, refl, sym, ap, subst, ◌∙◌, arith}
use Rattle.std.proofs.lemmas.Bool.{eq-eqb}
use Rattle.std.proofs.lemmas.List.{append-nil, length-take, take_more}
use Rattle.std.proofs.lemmas.List.Concat.{flat_map-append}
use Rattle.std.proofs.lemmas.Option.{same_Some}
use Rattle.std.specs.Prelude.{slice_get}
use Rattle.mv_base.specs.declared.memory.NoMemory.{NoMemory}
use Rattle.mv_base.specs.core_walks.Core.{Core}
use Rattle.mv_base.specs.core_walks.Topology.{Topology}
use Rattle.std.specs.List.{flat_map}
use Rattle.std.specs.FinMap as maps
use Rattle.mv_base.specs.Lists.{Among}
use Rattle.mv_base.specs.declared.ids.NodeId.{NodeId}
use Rattle.label_defs.specs.Keys.{node_cmp}
use Rattle.bgp_messages.specs.declared.bgp_attributes.key.Key.{Key}
use Rattle.scenario_defs.specs.declared.scenario.Node.{Node}
use Rattle.scenario_defs.specs.declared.scenario.Vrf.{Vrf}
use Rattle.edge_defs.specs.Edge.{Control, Taken, TakenRoute}
use Rattle.edge_defs.specs.Imported.{taken_from}
use Rattle.edge_defs.specs.Keys.{Table, key_cmp}
use Rattle.edge_defs.specs.Place.{EdgePlace, OwnVrf, vrfs_from}
use Rattle.edge_defs.specs.pim_defs.Entries.{Entries}
use Rattle.edge_defs.proofs.Example.{no_entries}
use Rattle.vrf_words.proofs.edge_words.edge_laws.Taken.{put_other, put_own}
use Rattle.edge_routes.specs.edge_home.Home.{Home, peers_from, peers_of, place_of}
use Rattle.vrf_words.proofs.edge_words.calm_laws.Lists.{any_from}
use Rattle.edge_core.specs.edge_control.Places.{is_own_vrf, vrfs_of}
use Rattle.edge_core.specs.State.{data_of, home_of}
use Rattle.edge_core.specs.View.{EdgeView}
use Rattle.edge_core.specs.Listed.{admitted_from, admitted_keys}
use Rattle.probe_defs.specs.Imports.{Import}
use Rattle.probe_defs.specs.Probed.{admitted, edge_with, joined, table_of, taken_at_once}
use Rattle.probe_defs.specs.Given.{messages_in}
use Rattle.probe_defs.specs.Lines.{joins_of, octets_of}
use Rattle.probe_defs.specs.declared.probe.ProbeLine.{ProbeLine}
use Rattle.edge_probe.specs.Behind.{IsGiven, taken_by}
use Rattle.edge_probe.proofs.GivenLemmas.{control_at}
use Rattle.probe_defs.proofs.TableLemmas.{admitted_at_once}

-- ---- one peer among those of the edge

module _ (me peer : NodeId) (f : NodeId → List Key) (others : (q : NodeId) → q ≢ peer → f q ≡ []) where
  abbrev passes : ℕ → Node → Bool
  passes n node = node.edge && not (n == me.0)

  abbrev here : ℕ → NodeId
  here n = record { 0 = n }

  other_here : (n : ℕ) → peer.0 ≢ n → here n ≢ peer
  other_here n ne e = ne (ap (λ (q : NodeId). q.0) (sym e))

  none_from : (nodes : List Node) (n : ℕ) → peer.0 < n → flat_map f (peers_from me n nodes) ≡ []
  none_from [] n lt = refl
  none_from (node ∷ more) n lt =
      let rest = none_from more (n + 1) (omega (arith, lt)) in
      elim (passes n node) as (λ b. flat_map f (cond b (here n ∷ peers_from me (n + 1) more) (peers_from me (n + 1) more)) ≡ []) [
        | true ↦ ap (λ (xs : List Key). xs ++ flat_map f (peers_from me (n + 1) more)) (others (here n) (other_here n (omega (arith, lt)))) ∙ rest
        | false ↦ rest
      ]

  above : (nodes : List Node) (n : ℕ) (q : NodeId) → Among q (peers_from me n nodes) → n ≤ q.0
  above [] n q a = absurd a
  above (node ∷ more) n q a = by (passes n node) (λ b. omega (arith, above more (n + 1) q b)) a
    where
      by : (b : Bool) → (Among q (peers_from me (n + 1) more) → n ≤ q.0)
          → Among q (cond b (here n ∷ peers_from me (n + 1) more) (peers_from me (n + 1) more)) → n ≤ q.0
      by true rest (inl e) = subst (λ (x : NodeId). n ≤ x.0) (sym e) (omega arith)
      by true rest (inr b) = rest b
      by false rest b = rest b

  pub one_from : (nodes : List Node) (n : ℕ) → Among peer (peers_from me n nodes) → flat_map f (peers_from me n nodes) ≡ f peer
  one_from [] n a = absurd a
  one_from (node ∷ more) n a = by (passes n node) (λ b. one_from more (n + 1) b) a
    where
      by : (b : Bool) → (Among peer (peers_from me (n + 1) more) → flat_map f (peers_from me (n + 1) more) ≡ f peer)
          → Among peer (cond b (here n ∷ peers_from me (n + 1) more) (peers_from me (n + 1) more))
          → flat_map f (cond b (here n ∷ peers_from me (n + 1) more) (peers_from me (n + 1) more)) ≡ f peer
      by true rest (inl e) =
          ap (λ (xs : List Key). f (here n) ++ xs) (none_from more (n + 1)
          (let same : peer.0 ≡ n = ap (λ (q : NodeId). q.0) e in omega (arith, same)))
          ∙ append-nil (f (here n)) ∙ ap f (sym e)
      by true rest (inr b) =
          ap (λ (xs : List Key). xs ++ flat_map f (peers_from me (n + 1) more))
          (others (here n) (other_here n (let le = above more (n + 1) peer b in omega (arith, le))))
          ∙ rest b
      by false rest b = rest b

-- ---- what a VRF takes

pub taken_alone : (place : EdgePlace) (peer : NodeId) (table : Table) (entries : Entries) (home : Home) (vrf : Vrf) → Among peer (peers_of home)
    → admitted_from home (edge_with place peer table entries) vrf ≡ admitted vrf table
taken_alone place peer table entries home vrf among =
    let taken : Taken = taken_at_once table in
    let control = edge_with place peer table entries in
    let own : maps.get control.peers peer ≡ Some taken = put_own maps.empty peer taken in
    let f : NodeId → List Key = λ q. admitted_keys vrf (maps.entries (taken_from control q)) in
    let others : (q : NodeId) → q ≢ peer → f q ≡ [] = λ q ne.
    let none : maps.get control.peers q ≡ None = put_other maps.empty peer taken q ne ∙ maps.get-empty node_cmp q in
    ap (λ (o : Option Taken). admitted_keys vrf (maps.entries (elim o as (λ _. Taken) [ None ↦ maps.empty | Some t ↦ t ]))) none
    ∙ ap (admitted_keys vrf) (no_entries key_cmp TakenRoute) in
    one_from home.me peer f others home.scenario.nodes 0 among
    ∙ ap (λ (o : Option Taken). admitted_keys vrf (maps.entries (elim o as (λ _. Taken) [ None ↦ maps.empty | Some t ↦ t ]))) own
    ∙ admitted_at_once vrf table

-- ---- the VRFs of the edge, one more

abbrev at_number : ℕ → Vrf → OwnVrf
at_number n vrf = record { id = record { 0 = n }; vrf = vrf }

pub vrfs_more : (me : NodeId) (n : ℕ) (vrfs : List Vrf) (vrf : Vrf)
    → vrfs_from me n (vrfs ++ vrf ∷ []) ≡ vrfs_from me n vrfs ++ cond (vrf.edge.0 == me.0) (at_number (n + length vrfs) vrf ∷ []) []
vrfs_more me n [] vrf =
    let at : n ≡ n + 0 = omega arith in
    ap (λ (m : ℕ). cond (vrf.edge.0 == me.0) (at_number m vrf ∷ []) []) at
vrfs_more me n (first ∷ more) vrf =
    let at : n + 1 + length more ≡ n + length (first ∷ more) = omega arith in
    by (first.edge.0 == me.0) (vrfs_more me (n + 1) more vrf
    ∙ ap (λ (m : ℕ). vrfs_from me (n + 1) more ++ cond (vrf.edge.0 == me.0) (at_number m vrf ∷ []) []) at)
  where
    by : (b : Bool) → vrfs_from me (n + 1) (more ++ vrf ∷ []) ≡ vrfs_from me (n + 1) more
        ++ cond (vrf.edge.0 == me.0) (at_number (n + length (first ∷ more)) vrf ∷ []) []
        → cond b (at_number n first ∷ vrfs_from me (n + 1) (more ++ vrf ∷ [])) (vrfs_from me (n + 1) (more ++ vrf ∷ []))
        ≡ cond b (at_number n first ∷ vrfs_from me (n + 1) more) (vrfs_from me (n + 1) more)
        ++ cond (vrf.edge.0 == me.0) (at_number (n + length (first ∷ more)) vrf ∷ []) []
    by true h = ap (λ (xs : List OwnVrf). at_number n first ∷ xs) h
    by false h = h

-- what the first VRFs take
abbrev pub taken_first : NodeId → List Vrf → Table → List Import
taken_first me vrfs table =
    flat_map (λ (own : OwnVrf). map (λ key. record { vrf = own.id; key = key }) (admitted own.vrf table)) (vrfs_from me 0 vrfs)

one_vrf : (b : Bool) (number : ℕ) (vrf : Vrf) (table : Table)
    → flat_map (λ (own : OwnVrf). map {B = Import} (λ key. record { vrf = own.id; key = key }) (admitted own.vrf table))
    (cond b (at_number number vrf ∷ []) [])
    ≡ cond b (map (λ key. record { vrf = record { 0 = number }; key = key }) (admitted vrf table)) []
one_vrf true number vrf table = append-nil (map {B = Import} (λ key. record { vrf = record { 0 = number }; key = key }) (admitted vrf table))
one_vrf false number vrf table = refl

pub first_more : (me : NodeId) (vrfs : List Vrf) (number : ℕ) (vrf : Vrf) (table : Table) → number < length vrfs → vrf ≡ get_or vrfs number vrf
    → taken_first me (take (number + 1) vrfs) table ≡ taken_first me (take number vrfs) table ++ taken_by me number vrf table
first_more me vrfs number vrf table lt is =
    let f : OwnVrf → List Import = λ own. map (λ key. record { vrf = own.id; key = key }) (admitted own.vrf table) in
    let front = take number vrfs in
    let more : take (number + 1) vrfs ≡ front ++ vrf ∷ [] = take_more vrfs number vrf lt ∙ ap (λ (x : Vrf). front ++ x ∷ []) (sym is) in
    let len = length-take number vrfs in
    let at : 0 + length front ≡ number = omega (arith, len, lt) in
    ap (λ (xs : List Vrf). flat_map f (vrfs_from me 0 xs)) more
    ∙ ap (flat_map f) (vrfs_more me 0 front vrf ∙ ap (λ (m : ℕ). vrfs_from me 0 front ++ cond (vrf.edge.0 == me.0) (at_number m vrf ∷ []) []) at)
    ∙ flat_map-append f (vrfs_from me 0 front) (cond (vrf.edge.0 == me.0) (at_number number vrf ∷ []) [])
    ∙ ap (λ (xs : List Import). flat_map f (vrfs_from me 0 front) ++ xs) (one_vrf (vrf.edge.0 == me.0) number vrf table)

-- ---- a VRF of the edge

among_vrf : (me : NodeId) (n : ℕ) (vrfs : List Vrf) (i : ℕ) (vrf : Vrf) → slice_get vrfs i ≡ Some vrf → (vrf.edge.0 == me.0) ≡ true
    → Among (record { id = record { 0 = n + i }; vrf = vrf }) (vrfs_from me n vrfs)
among_vrf me n [] i vrf e own = absurd cc
among_vrf me n (first ∷ more) zero vrf e own =
    let same : first ≡ vrf = same_Some first vrf e in
    let at : n + 0 ≡ n = omega arith in
    subst (λ (x : Vrf). Among (record { id = record { 0 = n + 0 }; vrf = vrf })
    (cond (x.edge.0 == me.0) (record { id = record { 0 = n }; vrf = x } ∷ vrfs_from me (n + 1) more) (vrfs_from me (n + 1) more))) (sym same)
    (subst (λ (b : Bool). Among (record { id = record { 0 = n + 0 }; vrf = vrf })
    (cond b (record { id = record { 0 = n }; vrf = vrf } ∷ vrfs_from me (n + 1) more) (vrfs_from me (n + 1) more))) (sym own)
    (inl (ap (λ (m : ℕ). record { id = record { 0 = m }; vrf = vrf }) at)))
among_vrf me n (first ∷ more) (suc i) vrf e own =
    let at : n + 1 + i ≡ n + suc i = omega arith in
    let rest =
    subst (λ (m : ℕ). Among (record { id = record { 0 = m }; vrf = vrf }) (vrfs_from me (n + 1) more)) at (among_vrf me (n + 1) more i vrf e own)
    in
    by (first.edge.0 == me.0) rest
  where
    by : (b : Bool) → Among (record { id = record { 0 = n + suc i }; vrf = vrf }) (vrfs_from me (n + 1) more)
        → Among (record { id = record { 0 = n + suc i }; vrf = vrf })
        (cond b (record { id = record { 0 = n }; vrf = first } ∷ vrfs_from me (n + 1) more) (vrfs_from me (n + 1) more))
    by true a = inr a
    by false a = a

pub own_among : (home : Home) (number : ℕ) (vrf : Vrf) → slice_get home.scenario.vrfs number ≡ Some vrf → (vrf.edge.0 == home.me.0) ≡ true
    → Among (record { id = record { 0 = number }; vrf = vrf }) (vrfs_of home)
own_among home number vrf e own =
    let at : 0 + number ≡ number = omega arith in
    subst (λ (m : ℕ). Among (record { id = record { 0 = m }; vrf = vrf }) (vrfs_from home.me 0 home.scenario.vrfs)) at
    (among_vrf home.me 0 home.scenario.vrfs number vrf e own)

pub own_is : (home : Home) (number : ℕ) (vrf : Vrf) → slice_get home.scenario.vrfs number ≡ Some vrf → (vrf.edge.0 == home.me.0) ≡ true
    → is_own_vrf home (record { 0 = number }) ≡ true
own_is home number vrf e own =
    any_from (λ (o : OwnVrf). o.id.0 == number) (record { id = record { 0 = number }; vrf = vrf }) (vrfs_of home) (own_among home number vrf e own)
    (eq-eqb number number refl)

module _ (core : Topology) (peer : NodeId) (done : List ProbeLine) (own : EdgeView) (g : IsGiven core peer done own)
    (among : Among peer (peers_of (home_of own))) (number : ℕ) (vrf : Vrf) (at : slice_get (home_of own).scenario.vrfs number ≡ Some vrf) where
  abbrev table : Table
  table = table_of (messages_in (octets_of done))

  pub vrf_keys : (keys : List Key) → (vrf.edge.0 == (home_of own).me.0) ≡ true
      → ((walks : Core) (o : OwnVrf) → Among o (vrfs_of (home_of own)) → o.id ≡ record { 0 = number }
      → keys ≡ admitted_from (home_of own) (data_of own).control o.vrf) → keys ≡ admitted vrf table
  vrf_keys keys mine each =
      let t = g.in_core.told in
      each t.0 (record { id = record { 0 = number }; vrf = vrf }) (own_among (home_of own) number vrf at mine) refl
      ∙ ap (λ (control : Control). admitted_from (home_of own) control vrf) (control_at core peer done own g t.0 t.1)
      ∙ taken_alone (place_of (home_of own) t.0) peer table (joined (home_of own).scenario (joins_of done)) (home_of own) vrf among

  vrf_takes : (old new : List Import) (keys : List Key) → (vrf.edge.0 == (home_of own).me.0) ≡ true → keys ≡ admitted vrf table
      → new ≡ old ++ map (λ key. record { vrf = record { 0 = number }; key = key }) keys
      → new ≡ old ++ taken_by (home_of own).me number vrf table
  vrf_takes old new keys mine same is =
      is ∙ ap (λ (ks : List Key). old ++ map {B = Import} (λ key. record { vrf = record { 0 = number }; key = key }) ks) same
      ∙ ap (λ (c : Bool). old ++ cond {A = List Import} c (map (λ key. record { vrf = record { 0 = number }; key = key }) (admitted vrf table)) [])
      (sym mine)

  vrf_added : (result : Result (Unit {0}) NoMemory) (old new : List Import) (keys : List Key) → (vrf.edge.0 == (home_of own).me.0) ≡ true
      → keys ≡ admitted vrf table
      → OnOk result (new ≡ old ++ map (λ key. record { vrf = record { 0 = number }; key = key }) keys)
      → OnOk result (new ≡ old ++ taken_by (home_of own).me number vrf table)
  vrf_added (Ok done_it) old new keys mine same is = vrf_takes old new keys mine same is
  vrf_added (Err fault) old new keys mine same is = tt

  pub vrf_adds : (me : NodeId) (result : Result (Unit {0}) NoMemory) (old new : List Import) (keys : List Key) → (home_of own).me ≡ me
      → vrf.edge.0 ≡ me.0
      → ((walks : Core) (o : OwnVrf) → Among o (vrfs_of (home_of own)) → o.id ≡ record { 0 = number }
      → keys ≡ admitted_from (home_of own) (data_of own).control o.vrf)
      → OnOk result (new ≡ old ++ map (λ key. record { vrf = record { 0 = number }; key = key }) keys)
      → OnOk result (new ≡ old ++ taken_by me number vrf table)
  vrf_adds me result old new keys same here each is =
      let mine : (vrf.edge.0 == (home_of own).me.0) ≡ true = eq-eqb vrf.edge.0 (home_of own).me.0 (here ∙ ap (λ (q : NodeId). q.0) (sym same)) in
      subst (λ (q : NodeId). OnOk result (new ≡ old ++ taken_by q number vrf table)) same
      (vrf_added result old new keys mine (vrf_keys keys mine each) is)
