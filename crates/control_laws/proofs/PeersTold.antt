-- What a tree keeps of the routes of its peers, where one of these changes, or those of one peer are lost.
use Rattle.vrf_words.proofs.edge_words.calm_laws.Lists.{not_both}
use Rattle.std.proofs.lemmas.Option.{same_Some}
use Rattle.std.proofs.Common.{◌≡◌, ◌↔◌, Bool, true, false, cond, ◌⊎◌, inl, inr, Option, Some, None, refl, sym, ap, subst, ◌∙◌}
use Rattle.std.specs.Ordering.{eq_by_cmp}
use Rattle.std.specs.Cmp.{Equal-is}
use Rattle.std.proofs.lemmas.Bool.{cases_Bool}
use Rattle.mv_base.specs.Number.{◌>>?◌}
use Rattle.mv_base.proofs.CutLemmas.{next_some}
use Rattle.mv_base.specs.declared.ids.NodeId.{NodeId}
use Rattle.bgp_messages.specs.declared.bgp_attributes.key.Key.{Key}
use Rattle.label_defs.proofs.KeyLemmas.{node_cases, ties}
use Rattle.edge_defs.specs.Edge.{TakenRoute}
use Rattle.edge_defs.specs.Keys.{key_cmp}
use Rattle.edge_defs.proofs.KeyLemmas.{key_total, key_exact}

-- the route that each peer has at each key
abbrev pub Tables : Type 0
Tables = NodeId → Key → Option TakenRoute

-- ---- one place

abbrev pub Here : NodeId → Key → NodeId → Key → Type 0
Here peer key q k = (q ≡ peer) × (k ≡ key)

key_cases : (a b : Key) → (a ≡ b) ⊎ (a ≡ b → ⊥)
key_cases a b = elim (cases_Bool (eq_by_cmp key_cmp a b)) [
  | inl t ↦ inl (key_exact a b ((Equal-is (key_cmp a b)).0 t))
  | inr f ↦ inr (λ e. not_both (eq_by_cmp key_cmp a b) (ties key_cmp key_total a b e) f)
]

pub here_or_not : (peer : NodeId) (key : Key) (q : NodeId) (k : Key) → Here peer key q k ⊎ (Here peer key q k → ⊥)
here_or_not peer key q k = elim (node_cases q peer) [
  | inl same ↦ elim (key_cases k key) [ inl one ↦ inl (same, one) | inr apart ↦ inr (λ h. apart h.1) ]
  | inr apart ↦ inr (λ h. apart h.0)
]

-- ---- what is given

-- A route of the tables gives this.
pub record Told {X V : Type 0} (tell : NodeId → Key → TakenRoute → Option (X × V)) (tables : Tables) (x : X) (v : V) : Type 0 where
  pub peer : NodeId
  pub key : Key
  pub route : TakenRoute
  pub is : tables peer key ≡ Some route
  pub tells : tell peer key route ≡ Some (x, v)

-- At one key of one peer is another route, and all else is as before.
pub record Changes (before after : Tables) (peer : NodeId) (key : Key) (old new : Option TakenRoute) : Type 0 where
  pub was : before peer key ≡ old
  pub is : after peer key ≡ new
  pub rest : (q : NodeId) (k : Key) → (Here peer key q k → ⊥) → after q k ≡ before q k

-- what a table of a tree has where something is dropped, and where something is put
abbrev pub dropped : {X V : Type 0} → (X → X → Bool) → Option X → X → Option V → Option V
dropped same None x o = o
dropped same (Some y) x o = cond (same x y) None o

abbrev pub put : {X V : Type 0} → (X → X → Bool) → Option (X × V) → X → Option V → Option V
put same None x o = o
put same (Some entry) x o = cond (same x entry.0) (Some entry.1) o

one_ties : {X : Type 0} (same : X → X → Bool) → ((a : X) → same a a ≡ true) → (a b : X) → a ≡ b → same a b ≡ true
one_ties {X = X} same itself a b e = subst (λ (x : X). same a x ≡ true) e (itself a)

module _ {X V : Type 0} (same : X → X → Bool) (equal : (a b : X) → same a b ≡ true → a ≡ b) (itself : (a : X) → same a a ≡ true) where
  pub kept_of : (d : Option X) (x : X) (v : V) (o : Option V) → dropped same d x o ≡ Some v → (o ≡ Some v) × (d ≡ Some x → ⊥)
  kept_of None x v o h = (h, λ e. absurd cc)
  kept_of (Some y) x v o h = by (same x y) refl h
    where
      by : (b : Bool) → same x y ≡ b → cond b None o ≡ Some v → (o ≡ Some v) × (◌≡◌ {A = Option X} (Some y) (Some x) → ⊥)
      by true t k = absurd cc
      by false t k = (k, λ e. not_both (same x y) (one_ties same itself x y (sym (same_Some y x e))) t)

  pub of_kept : (d : Option X) (x : X) (v : V) (o : Option V) → o ≡ Some v → (d ≡ Some x → ⊥) → dropped same d x o ≡ Some v
  of_kept None x v o h apart = h
  of_kept (Some y) x v o h apart = by (same x y) refl
    where
      by : (b : Bool) → same x y ≡ b → cond b None o ≡ Some v
      by true t = absurd (apart (ap (λ (z : X). Some z) (sym (equal x y t))))
      by false t = h

  -- ---- a route that changes

  module _ (tell : NodeId → Key → TakenRoute → Option (X × V)) (before after : Tables) (peer : NodeId) (key : Key) (old new : Option TakenRoute)
      (changes : Changes before after peer key old new) (kept : X → Option V) (drop : Option X)
      (keeps : (x : X) (v : V) → (kept x ≡ Some v) ↔ Told tell before x v)
      (covers : (x : X) (v : V) → (old >>? tell peer key) ≡ Some (x, v) → drop ≡ Some x)
      (harmless : (x : X) (v : V) → drop ≡ Some x → (told : Told tell before x v) → Here peer key told.peer told.key)
      (one : (x : X) (v w : V) (a : Told tell after x v) (b : Told tell after x w) → Here b.peer b.key a.peer a.key) where
    carried : (x : X) (v : V) → Told tell before x v → (drop ≡ Some x → ⊥) → Told tell after x v
    carried x v told undropped = elim (here_or_not peer key told.peer told.key) [
      | inl here ↦ absurd (undropped (covers x v (at_old told.peer told.key told.route told.is told.tells here)))
      | inr apart ↦ record {
        peer = told.peer;
        key = told.key;
        route = told.route;
        is = changes.rest told.peer told.key apart ∙ told.is;
        tells = told.tells;
      }
    ]
      where
        at_old : (q : NodeId) (k : Key) (t : TakenRoute) → before q k ≡ Some t → tell q k t ≡ Some (x, v) → Here peer key q k
            → (old >>? tell peer key) ≡ Some (x, v)
        at_old q k t is tells here =
            ap (λ (o : Option TakenRoute). o >>? tell peer key) (sym changes.was ∙ (λ i. before (sym here.0 i) (sym here.1 i)) ∙ is)
            ∙ (λ i. tell (sym here.0 i) (sym here.1 i) t) ∙ tells

    at_new : (q : NodeId) (k : Key) (t : TakenRoute) (x : X) (v : V) → after q k ≡ Some t → tell q k t ≡ Some (x, v) → Here peer key q k
        → (new >>? tell peer key) ≡ Some (x, v)
    at_new q k t x v is tells here =
        ap (λ (o : Option TakenRoute). o >>? tell peer key) (sym changes.is ∙ (λ i. after (sym here.0 i) (sym here.1 i)) ∙ is)
        ∙ (λ i. tell (sym here.0 i) (sym here.1 i) t) ∙ tells

    told_new : (x : X) (v : V) → (new >>? tell peer key) ≡ Some (x, v) → Told tell after x v
    told_new x v h =
        next_some (tell peer key) new (x, v) h (λ t is tells. record { peer = peer; key = key; route = t; is = changes.is ∙ is; tells = tells })

    still : (x : X) (v : V) → dropped same drop x (kept x) ≡ Some v → Told tell after x v
    still x v h = let both = kept_of drop x v (kept x) h in carried x v ((keeps x v).0 both.0) both.1

    pub to_told : (x : X) (v : V) → put same (new >>? tell peer key) x (dropped same drop x (kept x)) ≡ Some v → Told tell after x v
    to_told x v h = by (new >>? tell peer key) refl h
      where
        by : (n : Option (X × V)) → (new >>? tell peer key) ≡ n → put same n x (dropped same drop x (kept x)) ≡ Some v → Told tell after x v
        by None e k = still x v k
        by (Some entry) e k = at_entry (same x entry.0) refl k
          where
            at_entry : (b : Bool) → same x entry.0 ≡ b → cond b (Some entry.1) (dropped same drop x (kept x)) ≡ Some v → Told tell after x v
            at_entry true t l =
                let where_at : entry.0 ≡ x = sym (equal x entry.0 t) in
                let what : entry.1 ≡ v = same_Some entry.1 v l in
                told_new x v (e ∙ (λ i. Some (where_at i, what i)))
            at_entry false t l = still x v l

    unchanged : (x : X) (v : V) (told : Told tell after x v) → (Here peer key told.peer told.key → ⊥) → dropped same drop x (kept x) ≡ Some v
    unchanged x v told apart =
        let past : Told tell before x v = record {
          peer = told.peer;
          key = told.key;
          route = told.route;
          is = sym (changes.rest told.peer told.key apart) ∙ told.is;
          tells = told.tells;
        } in
        of_kept drop x v (kept x) ((keeps x v).1 past) (λ e. apart (harmless x v e past))

    pub from_told : (x : X) (v : V) → Told tell after x v → put same (new >>? tell peer key) x (dropped same drop x (kept x)) ≡ Some v
    from_told x v told = elim (here_or_not peer key told.peer told.key) [
      | inl here ↦
          ap (λ (n : Option (X × V)). put same n x (dropped same drop x (kept x))) (at_new told.peer told.key told.route x v told.is told.tells here)
          ∙ ap (λ (b : Bool). cond b (Some v) (dropped same drop x (kept x))) (itself x)
      | inr apart ↦ by (new >>? tell peer key) refl apart
    ]
      where
        by : (n : Option (X × V)) → (new >>? tell peer key) ≡ n → (Here peer key told.peer told.key → ⊥)
            → put same n x (dropped same drop x (kept x)) ≡ Some v
        by None e apart = unchanged x v told apart
        by (Some entry) e apart = at_entry (same x entry.0) refl
          where
            at_entry : (b : Bool) → same x entry.0 ≡ b → cond b (Some entry.1) (dropped same drop x (kept x)) ≡ Some v
            at_entry true t =
                next_some (tell peer key) new (x, entry.1) (e ∙ (λ i. Some (sym (equal x entry.0 t) i, entry.1)))
                (λ route is tells. absurd (apart (one x v entry.1 told
                (record { peer = peer; key = key; route = route; is = changes.is ∙ is; tells = tells }))))
            at_entry false t = unchanged x v told apart

    pub told_iff : (x : X) (v : V) → (put same (new >>? tell peer key) x (dropped same drop x (kept x)) ≡ Some v) ↔ Told tell after x v
    told_iff x v = (to_told x v, from_told x v)

-- ---- a route that gives nothing, neither before nor after

module _ {X V : Type 0} (tell : NodeId → Key → TakenRoute → Option (X × V)) (peer : NodeId) (key : Key)
    (silent : (route : TakenRoute) → tell peer key route ≡ None) where
  never : (x : X) (v : V) (q : NodeId) (k : Key) (route : TakenRoute) → tell q k route ≡ Some (x, v) → Here peer key q k → ⊥
  never x v q k route tells here =
      absurd (let bad : None ≡ Some (x, v) = sym (silent route) ∙ (λ i. tell (sym here.0 i) (sym here.1 i) route) ∙ tells in cc)

  pub silent_stays : (before after : Tables) (old new : Option TakenRoute) → Changes before after peer key old new → (x : X) (v : V)
      → Told tell before x v ↔ Told tell after x v
  silent_stays before after old new changes x v = (
    λ told. record {
      peer = told.peer;
      key = told.key;
      route = told.route;
      tells = told.tells;
      is = changes.rest told.peer told.key (never x v told.peer told.key told.route told.tells) ∙ told.is;
    },
    λ told. record {
      peer = told.peer;
      key = told.key;
      route = told.route;
      tells = told.tells;
      is = sym (changes.rest told.peer told.key (never x v told.peer told.key told.route told.tells)) ∙ told.is;
    },
  )

-- tables that are the same give the same
pub same_told : {X V : Type 0} (tell : NodeId → Key → TakenRoute → Option (X × V)) (before after : Tables)
    → ((q : NodeId) (k : Key) → after q k ≡ before q k) → (x : X) (v : V)
    → Told tell before x v ↔ Told tell after x v
same_told tell before after same x v = (
  λ told. record { peer = told.peer; key = told.key; route = told.route; is = same told.peer told.key ∙ told.is; tells = told.tells },
  λ told. record { peer = told.peer; key = told.key; route = told.route; is = sym (same told.peer told.key) ∙ told.is; tells = told.tells },
)

-- ---- what is dropped is what the old route gave

abbrev pub first_of : {X V : Type 0} → Option (X × V) → Option X
first_of None = None
first_of (Some entry) = Some entry.0

pub first_covers : {X V : Type 0} (o : Option (X × V)) (x : X) (v : V) → o ≡ Some (x, v) → first_of o ≡ Some x
first_covers o x v h = ap first_of h

pub told_first : {X V P : Type 0} (o : Option (X × V)) (x : X) → first_of o ≡ Some x → ((v : V) → o ≡ Some (x, v) → P) → P
told_first None x h k = absurd cc
told_first (Some entry) x h k = k entry.1 (λ i. Some (same_Some entry.0 x h i, entry.1))

pub first_harmless : {X V : Type 0} (tell : NodeId → Key → TakenRoute → Option (X × V)) (before : Tables) (peer : NodeId) (key : Key)
    (old : Option TakenRoute) → before peer key ≡ old
    → ((x : X) (v w : V) (a : Told tell before x v) (b : Told tell before x w) → Here b.peer b.key a.peer a.key)
    → (x : X) (v : V) → first_of (old >>? tell peer key) ≡ Some x → (told : Told tell before x v) → Here peer key told.peer told.key
first_harmless tell before peer key old was one x v h told =
    told_first (old >>? tell peer key) x h
    (λ w e. next_some (tell peer key) old (x, w) e
    (λ route is tells. one x v w told (record { peer = peer; key = key; route = route; is = was ∙ is; tells = tells })))

-- ---- all routes of a peer are lost

-- The peer has no route, and those of all others are as before.
pub record Loses (before after : Tables) (peer : NodeId) : Type 0 where
  pub gone : (key : Key) → after peer key ≡ None
  pub rest : (q : NodeId) (k : Key) → (q ≡ peer → ⊥) → after q k ≡ before q k

module _ {X V : Type 0} (tell : NodeId → Key → TakenRoute → Option (X × V)) (before after : Tables) (peer : NodeId) (loses : Loses before after peer)
    (kept left : X → Option V)
    (keeps : (x : X) (v : V) → (kept x ≡ Some v) ↔ Told tell before x v)
    (away : (x : X) (v : V) → left x ≡ Some v → (kept x ≡ Some v) × ((told : Told tell before x v) → told.peer ≡ peer → ⊥))
    (stay : (x : X) (v : V) (told : Told tell before x v) → (told.peer ≡ peer → ⊥) → left x ≡ kept x) where
  others : (x : X) (v : V) (told : Told tell before x v) → (told.peer ≡ peer → ⊥) → Told tell after x v
  others x v told ne = record {
    peer = told.peer;
    key = told.key;
    route = told.route;
    is = loses.rest told.peer told.key ne ∙ told.is;
    tells = told.tells;
  }

  not_gone : (q : NodeId) (k : Key) (route : TakenRoute) → after q k ≡ Some route → q ≡ peer → ⊥
  not_gone q k route is same = absurd (let bad : None ≡ Some route = sym (loses.gone k) ∙ (λ i. after (sym same i) k) ∙ is in cc)

  left_of : (x : X) (v : V) → Told tell after x v → left x ≡ Some v
  left_of x v told =
      let ne : told.peer ≡ peer → ⊥ = not_gone told.peer told.key told.route told.is in
      let past : Told tell before x v = record {
        peer = told.peer;
        key = told.key;
        route = told.route;
        is = sym (loses.rest told.peer told.key ne) ∙ told.is;
        tells = told.tells;
      } in
      stay x v past ne ∙ (keeps x v).1 past

  pub lost_iff : (x : X) (v : V) → (left x ≡ Some v) ↔ Told tell after x v
  lost_iff x v = (
    λ h. (let was = away x v h in let told = (keeps x v).0 was.0 in others x v told (was.1 told)),
    left_of x v,
  )

-- ---- what comes and what goes where one route changes

module _ {X V : Type 0} (tell : NodeId → Key → TakenRoute → Option (X × V)) (before after : Tables) (peer : NodeId) (key : Key)
    (old new : Option TakenRoute)
    (changes : Changes before after peer key old new) (x : X) (v : V) where
  at_place : (tables : Tables) (o : Option TakenRoute) → tables peer key ≡ o → (told : Told tell tables x v) → Here peer key told.peer told.key
      → (o >>? tell peer key) ≡ Some (x, v)
  at_place tables o is told here =
      ap (λ (r : Option TakenRoute). r >>? tell peer key) (sym is ∙ (λ i. tables (sym here.0 i) (sym here.1 i)) ∙ told.is)
      ∙ (λ i. tell (sym here.0 i) (sym here.1 i) told.route) ∙ told.tells

  -- what is given after the change was given before it, or the new route gives it
  pub came : Told tell after x v → ((new >>? tell peer key) ≡ Some (x, v)) ⊎ Told tell before x v
  came told = elim (here_or_not peer key told.peer told.key) [
    | inl here ↦ inl (at_place after new changes.is told here)
    | inr elsewhere ↦ inr (record {
      peer = told.peer;
      key = told.key;
      route = told.route;
      is = sym (changes.rest told.peer told.key elsewhere) ∙ told.is;
      tells = told.tells;
    })
  ]

  -- what was given before it is given after it, or the old route gave it
  pub went : Told tell before x v → ((old >>? tell peer key) ≡ Some (x, v)) ⊎ Told tell after x v
  went told = elim (here_or_not peer key told.peer told.key) [
    | inl here ↦ inl (at_place before old changes.was told here)
    | inr elsewhere ↦ inr (record {
      peer = told.peer;
      key = told.key;
      route = told.route;
      is = changes.rest told.peer told.key elsewhere ∙ told.is;
      tells = told.tells;
    })
  ]

  pub news : (new >>? tell peer key) ≡ Some (x, v) → Told tell after x v
  news h = next_some (tell peer key) new (x, v) h (λ t is tells. record { peer = peer; key = key; route = t; is = changes.is ∙ is; tells = tells })
