-- What is seen of octets that are kept by key, and what a change of them is to each direction.
use Rattle.std.proofs.Common.{◌≡◌, ℕ, zero, suc, ◌||◌, ◌&&◌, not, Bool, true, false, cond, List, [], ◌∷◌, ◌++◌, drop, map, Option, Some, None, option_map, is_some, refl, sym, ap, ◌∙◌}
use Rattle.std.specs.FinMap as maps
use Rattle.std.specs.FinMap.{find, same_map}
use Rattle.std.specs.FinSet as sets
use Rattle.std.specs.FinSet.{same_set}
use Rattle.std.specs.List.{list_any}
use Rattle.std.specs.Map.{lookup}
use Rattle.std.specs.Ordering.{eq_by_cmp}
use Rattle.std.proofs.lemmas.Bool.{true≢false}
use Rattle.std.proofs.lemmas.List.{append-nil}
use Rattle.indexmap.specs.IndexMap.{get}
use Rattle.network_defs.specs.declared.session_defs.direction.Direction.{Direction}
use Rattle.network_defs.specs.session_defs.Message.{same_direction}
use Rattle.net_sessions.specs.declared.session_transit.sessions.Key.{Key}
use Rattle.net_sessions.specs.session_transit.TransitData.{direction_cmp, is_joined_at, octets_at, Joins, Loses, Puts, Takes}
use Rattle.net_sessions.specs.session_transit.Kept.{KeyMap, is_key, key_of, direction_of, kept_at, entries_of, transit_of}
use Rattle.net_sessions.proofs.session_transit.DirectionOrder.{direction_cmp_total, direction_cmp_exact, same_equal, same_turned, same_of_keys, tied}

-- ---- what is seen of a direction

abbrev pub octets_in : Option (List ℕ) → List ℕ
octets_in o = elim o [ None ↦ [] | Some octets ↦ octets ]

pub found : (es : List (Key × List ℕ)) (d : Direction) → find direction_cmp d (entries_of es) ≡ lookup (is_key (key_of d)) es
found [] d = refl
found (e ∷ es) d = λ i. cond (tied d e.0 i) (Some e.1) (found es d i)

among : (es : List (Key × List ℕ)) (d : Direction)
    → list_any (eq_by_cmp direction_cmp d) (map (λ e. direction_of e.0) es) ≡ is_some (lookup (is_key (key_of d)) es)
among [] d = refl
among (e ∷ es) d = (λ i. tied d e.0 i || among es d i) ∙ here (is_key (key_of d) e.0) e.1 (lookup (is_key (key_of d)) es)
  where
    here : (b : Bool) (x : List ℕ) (o : Option (List ℕ)) → (b || is_some o) ≡ is_some (cond b (Some x) o)
    here true x o = refl
    here false x o = refl

pub joined_seen : (m : KeyMap) (d : Direction) → is_joined_at (transit_of m) d ≡ is_some (get is_key m (key_of d))
joined_seen m d = sets.contains-from_list direction_cmp_total (map (λ e. direction_of e.0) m.entries) d ∙ among m.entries d

pub octets_kept : (m : KeyMap) (d : Direction) → maps.get (transit_of m).octets d ≡ get is_key m (key_of d)
octets_kept m d = maps.get-from_entries direction_cmp_total (entries_of m.entries) d ∙ found m.entries d

pub octets_seen : (m : KeyMap) (d : Direction) → octets_at (transit_of m) d ≡ kept_at m (key_of d)
octets_seen m d = ap octets_in (octets_kept m d)

-- ---- changes

pub unchanged : (old new : KeyMap) → ((k : Key) → get is_key new k ≡ get is_key old k) → transit_of new ≡ transit_of old
unchanged old new each =
    let joined = same_set direction_cmp_total direction_cmp_exact (transit_of new).joined (transit_of old).joined (λ d.
    joined_seen new d ∙ ap is_some (each (key_of d)) ∙ sym (joined_seen old d)) in
    let octets = same_map direction_cmp_total direction_cmp_exact (transit_of new).octets (transit_of old).octets (λ d.
    octets_kept new d ∙ each (key_of d) ∙ sym (octets_kept old d)) in
    λ i. record { joined = joined i; octets = octets i }

-- some directions get a value in common, or none
sets_joined : (b : Bool) (o : Option (List ℕ)) → is_some (cond b (Some []) o) ≡ (is_some o || b)
sets_joined true None = refl
sets_joined true (Some x) = refl
sets_joined false None = refl
sets_joined false (Some x) = refl

sets_lost : (b : Bool) (o : Option (List ℕ)) → is_some (cond b None o) ≡ (is_some o && not b)
sets_lost true None = refl
sets_lost true (Some x) = refl
sets_lost false None = refl
sets_lost false (Some x) = refl

sets_octets : (b : Bool) (now o : Option (List ℕ)) → octets_in now ≡ [] → octets_in (cond b now o) ≡ cond b [] (octets_in o)
sets_octets true now o e = e
sets_octets false now o e = refl

module _ (old new : KeyMap) (hit : Direction → Bool) (hit_key : Key → Bool) (one : (d : Direction) → hit_key (key_of d) ≡ hit d) where
  pub joins : ((k : Key) → get is_key new k ≡ cond (hit_key k) (Some []) (get is_key old k)) → Joins hit (transit_of old) (transit_of new)
  joins each = record {
    joined = λ d. joined_seen new d ∙ ap is_some (each (key_of d)) ∙ sets_joined (hit_key (key_of d)) (get is_key old (key_of d))
        ∙ (λ i. sym (joined_seen old d) i || one d i);
    octets = λ d. octets_seen new d ∙ ap octets_in (each (key_of d)) ∙ sets_octets (hit_key (key_of d)) (Some []) (get is_key old (key_of d)) refl
        ∙ (λ i. cond (one d i) [] (sym (octets_seen old d) i));
  }

  pub loses : ((k : Key) → get is_key new k ≡ cond (hit_key k) None (get is_key old k)) → Loses hit (transit_of old) (transit_of new)
  loses each = record {
    joined = λ d. joined_seen new d ∙ ap is_some (each (key_of d)) ∙ sets_lost (hit_key (key_of d)) (get is_key old (key_of d))
        ∙ (λ i. sym (joined_seen old d) i && not (one d i));
    octets = λ d. octets_seen new d ∙ ap octets_in (each (key_of d)) ∙ sets_octets (hit_key (key_of d)) None (get is_key old (key_of d)) refl
        ∙ (λ i. cond (one d i) [] (sym (octets_seen old d) i));
  }

-- the octets of one direction change, where it is joined
changed_joined : (b : Bool) (change : List ℕ → List ℕ) (o : Option (List ℕ)) → is_some (cond b (option_map change o) o) ≡ is_some o
changed_joined true change None = refl
changed_joined true change (Some x) = refl
changed_joined false change o = refl

module _ (old new : KeyMap) (at : Direction) where
  abbrev Changes : (List ℕ → List ℕ) → Type 0
  Changes change = (k : Key) → get is_key new k ≡ cond (is_key (key_of at) k) (option_map change (get is_key old k)) (get is_key old k)

  pub changes_at : (key : Key) → key ≡ key_of at → (change : List ℕ → List ℕ)
      → ((k : Key) → get is_key new k ≡ cond (is_key key k) (option_map change (get is_key old k)) (get is_key old k)) → Changes change
  changes_at key e change each k = each k ∙ ap (λ (x : Key). cond (is_key x k) (option_map change (get is_key old k)) (get is_key old k)) e

  stays_joined : (change : List ℕ → List ℕ) → Changes change → (d : Direction) → is_joined_at (transit_of new) d ≡ is_joined_at (transit_of old) d
  stays_joined change each d =
      joined_seen new d ∙ ap is_some (each (key_of d)) ∙ changed_joined (is_key (key_of at) (key_of d)) change (get is_key old (key_of d))
      ∙ sym (joined_seen old d)

  pub puts : (more : List ℕ) → Changes (λ d. d ++ more) → Puts at more (transit_of old) (transit_of new)
  puts more each = record {
    joined = stays_joined (λ d. d ++ more) each;
    octets = λ d. octets_seen new d ∙ ap octets_in (each (key_of d)) ∙ longer (is_key (key_of at) (key_of d)) (get is_key old (key_of d))
        ∙ (λ i. cond (sym (joined_seen old d) i) (sym (octets_seen old d) i ++ cond (same_of_keys at d i) more []) (sym (octets_seen old d) i));
  }
    where
      longer : (b : Bool) (o : Option (List ℕ)) → octets_in (cond b (option_map (λ d. d ++ more) o) o)
          ≡ cond (is_some o) (octets_in o ++ cond b more []) (octets_in o)
      longer true None = refl
      longer true (Some x) = refl
      longer false None = refl
      longer false (Some x) = sym (append-nil x)

  pub takes : (count : ℕ) → Changes (λ d. drop count d) → Takes at count (transit_of old) (transit_of new)
  takes count each = record {
    joined = stays_joined (λ d. drop count d) each;
    octets = λ d.
        let kept = get is_key old (key_of d) in
        octets_seen new d ∙ ap octets_in (each (key_of d))
        ∙ ap (λ (b : Bool). octets_in (cond b (option_map (λ x. drop count x) kept) kept)) (same_of_keys at d ∙ same_turned at d)
        ∙ shorter (same_direction d at) kept (octets_at (transit_of old) at)
        (λ t. sym (octets_seen old d) ∙ ap (octets_at (transit_of old)) (same_equal d at t))
        ∙ ap (λ (x : List ℕ). cond (same_direction d at) (drop count (octets_at (transit_of old) at)) x) (sym (octets_seen old d));
    none = λ apart. octets_seen old at ∙ nothing (get is_key old (key_of at)) (sym (joined_seen old at) ∙ apart);
  }
    where
      nothing : (o : Option (List ℕ)) → is_some o ≡ false → octets_in o ≡ []
      nothing None e = refl
      nothing (Some x) e = absurd (true≢false e)

      drop-nil : (n : ℕ) → drop {A = ℕ} n [] ≡ []
      drop-nil zero = refl
      drop-nil (suc n) = refl

      cut : (o : Option (List ℕ)) → octets_in (option_map (λ x. drop count x) o) ≡ drop count (octets_in o)
      cut None = sym (drop-nil count)
      cut (Some x) = refl

      shorter : (b : Bool) (o : Option (List ℕ)) (here : List ℕ) → (b ≡ true → octets_in o ≡ here)
          → octets_in (cond b (option_map (λ x. drop count x) o) o) ≡ cond b (drop count here) (octets_in o)
      shorter true o here same = cut o ∙ ap (drop count) (same refl)
      shorter false o here same = refl
