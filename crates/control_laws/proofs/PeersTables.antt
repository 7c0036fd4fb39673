-- The tables of the peers after a change of one of them.
use Rattle.std.proofs.lemmas.Option.{same_Some}
use Rattle.std.proofs.Common.{◌≡◌, ◌≢◌, ℕ, Bool, true, false, cond, inl, inr, is_some, Option, Some, None, refl, sym, ap, subst, ◌∙◌}
use Rattle.std.specs.FinMap as maps
use Rattle.mv_base.specs.declared.ids.NodeId.{NodeId}
use Rattle.bgp_messages.specs.declared.bgp_attributes.key.Key.{Key}
use Rattle.bgp_messages.specs.declared.bgp_attributes.update.Change.{Change}
use Rattle.bgp_messages.specs.declared.bgp_attributes.update.Change.TheVariants as updates
use Rattle.bgp_messages.specs.bgp_update.Written.{IsWritableKey}
use Rattle.label_defs.proofs.KeyLemmas.{node_cases, ties, apart}
use Rattle.edge_defs.specs.Edge.{Control, Taken, TakenRoute}
use Rattle.edge_defs.specs.Keys.{Value, key_cmp, same_value}
use Rattle.edge_defs.specs.Steps.{learned, taken_change}
use Rattle.edge_defs.proofs.KeyLemmas.{key_total, key_exact, value_exact}
use Rattle.vrf_words.proofs.edge_words.edge_laws.Taken.{table_in, put_own, put_other}
use Rattle.vrf_words.proofs.edge_words.calm_laws.Tables.{taken_is}
use Rattle.control_laws.specs.Peers.{key_of, route_after, same_route}
use Rattle.control_laws.proofs.PeersKinds.{tables_of}
use Rattle.control_laws.proofs.PeersTold.{Tables, Changes, here_or_not}

-- the same with another table of the peer
abbrev pub with_table : NodeId → Taken → Control → Control
with_table peer table control = record control { peers = maps.insert control.peers peer table }

-- each key of the tables has a spelling
abbrev pub AreSpelled : Tables → Type 0
AreSpelled tables = (peer : NodeId) (key : Key) → is_some (tables peer key) ≡ true → IsWritableKey key

module _ (control : Control) (peer : NodeId) (table : Taken) where
  pub at_own : (key : Key) → tables_of (with_table peer table control) peer key ≡ maps.get table key
  at_own key = ap (λ (t : Taken). maps.get t key) (taken_is (with_table peer table control) peer table (put_own control.peers peer table))

  pub at_other : (other : NodeId) (key : Key) → other ≢ peer → tables_of (with_table peer table control) other key ≡ tables_of control other key
  at_other other key ne = ap (λ (o : Option Taken). maps.get (table_in o) key) (put_other control.peers peer table other ne)

-- ---- one change

take_own : (now : ℕ) (taken : Taken) (change : Change)
    → maps.get (taken_change now taken change) (key_of change) ≡ route_after now change (maps.get taken (key_of change))
take_own now taken (updates.Reach advert) =
    let value : Value = record { next_hop = advert.next_hop; comms = advert.comms; pmsi = advert.pmsi } in
    let next = learned now value (maps.get taken advert.key) in
    maps.get-insert key_total taken advert.key next advert.key
    ∙ ap (λ (b : Bool). cond b (Some next) (maps.get taken advert.key)) (ties key_cmp key_total advert.key advert.key refl)
take_own now taken (updates.Unreach key) =
    maps.get-remove key_total taken key key ∙ ap (λ (b : Bool). cond b None (maps.get taken key)) (ties key_cmp key_total key key refl)

take_other : (now : ℕ) (taken : Taken) (change : Change) (key : Key) → (key ≡ key_of change → ⊥)
    → maps.get (taken_change now taken change) key ≡ maps.get taken key
take_other now taken (updates.Reach advert) key ne =
    let value : Value = record { next_hop = advert.next_hop; comms = advert.comms; pmsi = advert.pmsi } in
    let next = learned now value (maps.get taken advert.key) in
    maps.get-insert key_total taken advert.key next key
    ∙ ap (λ (b : Bool). cond b (Some next) (maps.get taken key)) (apart key_cmp key_exact key advert.key ne)
take_other now taken (updates.Unreach own) key ne =
    maps.get-remove key_total taken own key ∙ ap (λ (b : Bool). cond b None (maps.get taken key)) (apart key_cmp key_exact key own ne)

module _ (control : Control) (peer : NodeId) (taken : Taken) (up : maps.get control.peers peer ≡ Some taken) (now : ℕ) (change : Change) where
  abbrev pub thereafter : Control
  thereafter = with_table peer (taken_change now taken change) control

  was_taken : (key : Key) → tables_of control peer key ≡ maps.get taken key
  was_taken key = ap (λ (t : Taken). maps.get t key) (taken_is control peer taken up)

  pub changed : Changes (tables_of control) (tables_of thereafter) peer (key_of change) (maps.get taken (key_of change))
      (route_after now change (maps.get taken (key_of change)))
  changed = record {
    was = was_taken (key_of change);
    is = at_own control peer (taken_change now taken change) (key_of change) ∙ take_own now taken change;
    rest = λ q k elsewhere. elim (node_cases q peer) [
      | inl same ↦
          (λ i. tables_of thereafter (same i) k) ∙ at_own control peer (taken_change now taken change) k
          ∙ take_other now taken change k (λ e. elsewhere (same, e)) ∙ sym (was_taken k) ∙ (λ i. tables_of control (sym same i) k)
      | inr ne ↦ at_other control peer (taken_change now taken change) q k ne
    ];
  }

-- the keys have spellings after it too
pub still_spelled : (before after : Tables) (peer : NodeId) (key : Key) (old new : Option TakenRoute) → Changes before after peer key old new
    → AreSpelled before → IsWritableKey key → AreSpelled after
still_spelled before after peer key old new changes spelled writable q k h = elim (here_or_not peer key q k) [
  | inl here ↦ subst IsWritableKey (sym here.1) writable
  | inr elsewhere ↦ spelled q k (ap is_some (sym (changes.rest q k elsewhere)) ∙ h)
]

-- ---- a route and the one before it

-- A route that says the same is the old one, and another one was learned at the clock and its delay was not run.
pub record IsBehind (now : ℕ) (old new : Option TakenRoute) : Type 0 where
  pub same : same_route old new ≡ true → new ≡ old
  pub fresh : same_route old new ≡ false → (route : TakenRoute) → new ≡ Some route → (route.since ≡ now) × (route.run ≡ false)

abbrev fresh_route : ℕ → Value → TakenRoute
fresh_route now value = record { value = value; since = now; run = false }

learned_after : (now : ℕ) (value : Value) (old : Option TakenRoute) → IsBehind now old (Some (learned now value old))
learned_after now value None = record {
  same = λ h. absurd cc;
  fresh = λ h route is. (let one = same_Some (fresh_route now value) route is in
      (ap (λ (r : TakenRoute). r.since) (sym one), ap (λ (r : TakenRoute). r.run) (sym one)));
}
learned_after now value (Some old) = by (same_value old.value value) refl
  where
    by : (b : Bool) → same_value old.value value ≡ b → IsBehind now (Some old) (Some (cond b old (fresh_route now value)))
    by true e = record { same = λ h. refl; fresh = λ h. absurd (let itself = (value_exact old.value old.value).1 refl in cc) }
    by false e = record {
      same = λ h. absurd (let bad : true ≡ false = sym h ∙ e in cc);
      fresh = λ h route is. (let one = same_Some (fresh_route now value) route is in
          (ap (λ (r : TakenRoute). r.since) (sym one), ap (λ (r : TakenRoute). r.run) (sym one)));
    }

pub is_after : (now : ℕ) (change : Change) (old : Option TakenRoute) → IsBehind now old (route_after now change old)
is_after now (updates.Reach advert) old = learned_after now (record { next_hop = advert.next_hop; comms = advert.comms; pmsi = advert.pmsi }) old
is_after now (updates.Unreach key) None = record { same = λ h. refl; fresh = λ h. absurd cc }
is_after now (updates.Unreach key) (Some old) = record { same = λ h. absurd cc; fresh = λ h route is. absurd cc }

-- ---- what an advertisement brings

-- the route says what was advertised, whether it was learned anew or is as before
pub learned_value : (now : ℕ) (value : Value) (old : Option TakenRoute) → (learned now value old).value ≡ value
learned_value now value None = refl
learned_value now value (Some old) = by (same_value old.value value) refl
  where
    by : (b : Bool) → same_value old.value value ≡ b → (cond b old (fresh_route now value)).value ≡ value
    by true e = (value_exact old.value value).0 e
    by false e = refl

-- whether it is one with the old one is whether its value is
pub same_learned : (now : ℕ) (value : Value) (old : TakenRoute)
    → same_route (Some old) (Some (learned now value (Some old))) ≡ same_value old.value value
same_learned now value old = ap (same_value old.value) (learned_value now value (Some old))
