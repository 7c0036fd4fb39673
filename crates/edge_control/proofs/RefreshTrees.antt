-- Trees that are refreshed one after another.
use Rattle.std.proofs.Common.{◌≡◌, ◌⊎◌, ℕ, zero, suc, ◌+◌, ◌<◌, ◌≤◌, ◌||◌, inl, inr, List, [], ◌∷◌, ◌++◌, length, get_or, set, refl, sym, ap, subst, ◌∙◌, arith}
use Rattle.std.specs.Prelude.{⊤}
use Rattle.std.specs.List.{AllByRecursion, AllZip}
use Rattle.std.specs.FinMap.{get}
use Rattle.std.specs.FinSet as sets
use Rattle.mv_base.specs.Lists.{Among}
use Rattle.mv_base.specs.declared.ids.NodeId.{NodeId}
use Rattle.mv_base.specs.core_walks.Topology.{Topology}
use Rattle.mldp.specs.declared.mldp_fec.fec.Fec.{Fec}
use Rattle.umh_select.specs.Routes.{AreCosts}
use Rattle.vrf_words.specs.declared.tree_defs.flow.Flow.{Flow}
use Rattle.vrf_words.specs.tree_defs.Flows.{flow_of}
use Rattle.vrf_words.specs.tree_defs.Trees.{TreeData, wanted_by}
use Rattle.vrf_trees.specs.declared.changes.TreeJoin.{TreeJoin}
use Rattle.vrf_trees.specs.Changes.{AreNew}
use Rattle.vrf_trees.specs.Trees.{IsFresh}
use Rattle.control_laws.proofs.edge_words.calm_laws.Lists.{among_either}
use Rattle.control_laws.specs.Between.{IsRefreshed}
use Rattle.edge_control.specs.Refreshing.{AreAllMoved, AreMoved, AreTold, HasJoin, IsRestOf}
use Rattle.edge_control.proofs.RefreshJoins.{Tells, moved_more, tells_more, told_here}

-- ---- lists of which some elements are others

-- the first so many have become others, and what is after them is as before
abbrev pub OnWay : {A : Type 0} → (A → A → Type 0) → ℕ → List A → List A → Type 0
OnWay Is zero old new = new ≡ old
OnWay Is (suc n) [] [] = ⊤
OnWay Is (suc n) [] (y ∷ ys) = ⊥
OnWay Is (suc n) (x ∷ xs) [] = ⊥
OnWay Is (suc n) (x ∷ xs) (y ∷ ys) = Is x y × OnWay Is n xs ys

module _ {A : Type 0} (Is : A → A → Type 0) where
  -- the next one is as before
  pub way_next : (n : ℕ) (xs ys : List A) (d : A) → OnWay Is n xs ys → get_or ys n d ≡ get_or xs n d
  way_next zero xs ys d h = ap (λ (zs : List A). get_or zs 0 d) h
  way_next (suc n) [] [] d h = refl
  way_next (suc n) [] (y ∷ ys) d h = absurd h
  way_next (suc n) (x ∷ xs) [] d h = absurd h
  way_next (suc n) (x ∷ xs) (y ∷ ys) d h = way_next n xs ys d h.1

  one_more : (n : ℕ) (xs ys : List A) (d s : A) → n < length ys → OnWay Is n xs ys → Is (get_or ys n d) s → OnWay Is (suc n) xs (set ys n s)
  one_more zero xs [] d s lt h k = absurd (omega (arith, lt))
  one_more zero xs (y ∷ ys) d s lt h k = subst (λ (zs : List A). OnWay Is (suc zero) zs (s ∷ ys)) h (k, refl)
  one_more (suc n) [] [] d s lt h k = absurd (omega (arith, lt))
  one_more (suc n) [] (y ∷ ys) d s lt h k = absurd h
  one_more (suc n) (x ∷ xs) [] d s lt h k = absurd h
  one_more (suc n) (x ∷ xs) (y ∷ ys) d s lt h k = (h.0, one_more n xs ys d s (omega (arith, lt)) h.1 k)

  pub way_more : (n : ℕ) (xs ys : List A) (d s : A) → n < length ys → OnWay Is n xs ys → Is (get_or ys n d) s → OnWay Is (n + 1) xs (set ys n s)
  way_more n xs ys d s lt h k =
      let next : suc n ≡ n + 1 = omega arith in
      subst (λ (m : ℕ). OnWay Is m xs (set ys n s)) next (one_more n xs ys d s lt h k)

  pub way_end : (n : ℕ) (xs ys : List A) → length ys ≤ n → OnWay Is n xs ys → AllZip Is xs ys
  way_end zero xs [] le h = subst (λ (zs : List A). AllZip Is zs []) h tt
  way_end zero xs (y ∷ ys) le h = absurd (omega (arith, le))
  way_end (suc n) [] [] le h = tt
  way_end (suc n) [] (y ∷ ys) le h = absurd h
  way_end (suc n) (x ∷ xs) [] le h = absurd h
  way_end (suc n) (x ∷ xs) (y ∷ ys) le h = (h.0, way_end n xs ys (omega (arith, le)) h.1)

  pub zip_itself : ((x : A) → Is x x) → (xs : List A) → AllZip Is xs xs
  zip_itself same [] = tt
  zip_itself same (x ∷ xs) = (same x, zip_itself same xs)

  -- one element becomes another one, which is so related to the one that was there first
  pub zip_set : (n : ℕ) (xs ys : List A) (d s : A) → n < length ys → AllZip Is xs ys → Is (get_or xs n d) s → AllZip Is xs (set ys n s)
  zip_set n [] [] d s lt h k = absurd (omega (arith, lt))
  zip_set n [] (y ∷ ys) d s lt h k = absurd h
  zip_set n (x ∷ xs) [] d s lt h k = absurd h
  zip_set zero (x ∷ xs) (y ∷ ys) d s lt h k = (k, h.1)
  zip_set (suc n) (x ∷ xs) (y ∷ ys) d s lt h k = (h.0, zip_set n xs ys d s (omega (arith, lt)) h.1 k)

pub zip_weaker : {A : Type 0} (Is May : A → A → Type 0) → ((x y : A) → Is x y → May x y) → (xs ys : List A) → AllZip Is xs ys → AllZip May xs ys
zip_weaker Is May weaker [] [] h = tt
zip_weaker Is May weaker [] (y ∷ ys) h = absurd h
zip_weaker Is May weaker (x ∷ xs) [] h = absurd h
zip_weaker Is May weaker (x ∷ xs) (y ∷ ys) h = (weaker x y h.0, zip_weaker Is May weaker xs ys h.1)

-- where one more has become another one or is as before, and no other one has
pub way_cut : {A : Type 0} (Is May : A → A → Type 0) → ((x y : A) → Is x y → May x y) → ((x : A) → May x x) → (n : ℕ) (xs ys : List A) (d s : A)
    → n < length ys → OnWay Is n xs ys
    → May (get_or ys n d) s → AllZip May xs (set ys n s)
way_cut Is May weaker same zero xs [] d s lt h k = absurd (omega (arith, lt))
way_cut Is May weaker same zero xs (y ∷ ys) d s lt h k = subst (λ (zs : List _). AllZip May zs (s ∷ ys)) h (k, zip_itself May same ys)
way_cut Is May weaker same (suc n) [] [] d s lt h k = absurd (omega (arith, lt))
way_cut Is May weaker same (suc n) [] (y ∷ ys) d s lt h k = absurd h
way_cut Is May weaker same (suc n) (x ∷ xs) [] d s lt h k = absurd h
way_cut Is May weaker same (suc n) (x ∷ xs) (y ∷ ys) d s lt h k = (weaker x y h.0, way_cut Is May weaker same n xs ys d s (omega (arith, lt)) h.1 k)

pub each_at : {A : Type 0} (P : A → Type 0) (xs : List A) (n : ℕ) (d : A) → n < length xs → AllByRecursion P xs → P (get_or xs n d)
each_at P [] n d lt h = absurd (omega (arith, lt))
each_at P (x ∷ xs) zero d lt h = h.0
each_at P (x ∷ xs) (suc n) d lt h = each_at P xs n d (omega (arith, lt)) h.1

at_among : {A : Type 0} (xs : List A) (n : ℕ) (d : A) → n < length xs → Among (get_or xs n d) xs
at_among [] n d lt = absurd (omega (arith, lt))
at_among (x ∷ xs) zero d lt = inl refl
at_among (x ∷ xs) (suc n) d lt = inr (at_among xs n d (omega (arith, lt)))

set_among : {A : Type 0} (xs : List A) (n : ℕ) (s : A) → n < length xs → Among s (set xs n s)
set_among [] n s lt = absurd (omega (arith, lt))
set_among (x ∷ xs) zero s lt = inl refl
set_among (x ∷ xs) (suc n) s lt = inr (set_among xs n s (omega (arith, lt)))

-- what was in the list is there still, or is the one that was changed
still_among : {A : Type 0} (xs : List A) (n : ℕ) (d s x : A) → Among x xs → Among x (set xs n s) ⊎ (x ≡ get_or xs n d)
still_among [] n d s x a = absurd a
still_among (y ∷ xs) zero d s x (inl e) = inr e
still_among (y ∷ xs) zero d s x (inr a) = inl (inr a)
still_among (y ∷ xs) (suc n) d s x (inl e) = inl (inl e)
still_among (y ∷ xs) (suc n) d s x (inr a) = elim (still_among xs n d s x a) [ inl b ↦ inl (inr b) | inr e ↦ inr e ]

-- ---- joins

-- no tree has changed yet
pub none_moved : (trees : List TreeData) → AreAllMoved trees trees []
none_moved trees = record {
  moved = zip_itself (AreMoved []) (λ tree. record { made = λ flow join h. inl h; left = λ flow join h. inl h }) trees;
  each = λ join a. absurd a;
}

-- one tree more is refreshed
pub moved_on : (old now : List TreeData) (all joins leaves : List TreeJoin) (n : ℕ) (d s : TreeData) → n < length now → n < length old
    → d ≡ get_or now n d → get_or now n d ≡ get_or old n d
    → AreAllMoved old now all → AreMoved ((all ++ joins) ++ leaves) d s
    → ((join : TreeJoin) → Among join joins → HasJoin (s ∷ []) join) → ((join : TreeJoin) → Among join leaves → HasJoin (d ∷ []) join)
    → AreAllMoved old (set now n s) ((all ++ joins) ++ leaves)
moved_on old now all joins leaves n d s lt there read same before here made left = record {
  moved = zip_set (AreMoved ((all ++ joins) ++ leaves)) n old now d s lt
      (zip_weaker (AreMoved all) (AreMoved ((all ++ joins) ++ leaves)) (λ x y. moved_more x y all joins leaves) old now before.moved)
      (subst (λ (tree : TreeData). AreMoved ((all ++ joins) ++ leaves) tree s) (read ∙ same) here);
  each = λ join a. elim (among_either join (all ++ joins) leaves a) [
    | inl b ↦ elim (among_either join all joins b) [ inl c ↦ moved_still join (before.each join c) | inr c ↦ inr (new_has join (made join c)) ]
    | inr b ↦ inl (old_has join (left join b))
  ];
}
  where
    is_old : d ≡ get_or old n d
    is_old = read ∙ same

    old_among : Among d old
    old_among = subst (λ (tree : TreeData). Among tree old) (sym is_old) (at_among old n d there)

    one_is : (x tree : TreeData) → Among tree (x ∷ []) → tree ≡ x
    one_is x tree (inl e) = e
    one_is x tree (inr a) = absurd a

    old_has : (join : TreeJoin) → HasJoin (d ∷ []) join → HasJoin old join
    old_has join h = record {
      tree = h.tree;
      among = subst (λ (tree : TreeData). Among tree old) (sym (one_is d h.tree h.among)) old_among;
      flow = h.flow;
      has = h.has;
    }

    new_has : (join : TreeJoin) → HasJoin (s ∷ []) join → HasJoin (set now n s) join
    new_has join h = record {
      tree = h.tree;
      among = subst (λ (tree : TreeData). Among tree (set now n s)) (sym (one_is s h.tree h.among)) (set_among now n s lt);
      flow = h.flow;
      has = h.has;
    }

    moved_still : (join : TreeJoin) → HasJoin old join ⊎ HasJoin now join → HasJoin old join ⊎ HasJoin (set now n s) join
    moved_still join (inl h) = inl h
    moved_still join (inr h) = elim (still_among now n d s h.tree h.among) [
      | inl a ↦ inr (record { tree = h.tree; among = a; flow = h.flow; has = h.has })
      | inr e ↦ inl (record {
        tree = h.tree;
        among = subst (λ (tree : TreeData). Among tree old) (sym (e ∙ sym read)) old_among;
        flow = h.flow;
        has =
            h.has;
      })
    ]

-- ---- tunnels

pub all_told : (fecs : List Fec) (old new : List TreeData) → AllZip (Tells fecs) old new → AreTold old new fecs
all_told fecs [] [] h fec none = refl
all_told fecs [] (y ∷ ys) h fec none = absurd h
all_told fecs (x ∷ xs) [] h fec none = absurd h
all_told fecs (x ∷ xs) (y ∷ ys) h fec none = λ i. h.0 fec none i || all_told fecs xs ys h.1 fec none i

-- one tree more is refreshed
pub told_on : (old now : List TreeData) (all wants unwants : List Fec) (n : ℕ) (d s : TreeData) → n < length now → d ≡ get_or old n d
    → AllZip (Tells all) old now
    → AreNew wants d.wants s.wants → AreNew unwants s.wants d.wants → AllZip (Tells ((all ++ wants) ++ unwants)) old (set now n s)
told_on old now all wants unwants n d s lt same before came went =
    zip_set (Tells ((all ++ wants) ++ unwants)) n old now d s lt
    (zip_weaker (Tells all) (Tells ((all ++ wants) ++ unwants)) (λ x y. tells_more x y all wants unwants) old now before)
    (subst (λ (tree : TreeData). Tells ((all ++ wants) ++ unwants) tree s) same (told_here d s all wants unwants came went))

-- ---- the loop

-- The second tree is the first one after a refresh, in that core as the node knows it.
pub record IsTurned (core : Topology) (me : NodeId) (now : ℕ) (old new : TreeData) : Type 0 where
  pub refreshed : (cost : NodeId → ℕ) → AreCosts core me cost → IsRefreshed cost now old new
  pub rest : IsRestOf old new

pub turned_by : (core : Topology) (me : NodeId) (now : ℕ) (old new : TreeData)
    → ((cost : NodeId → ℕ) → AreCosts core me cost → (flow : Flow) → get new.vrf.flows flow ≡ flow_of old.vrf cost now flow)
    → new.wants ≡ sets.from_list (wanted_by old.leaf new.vrf.flows) → IsRestOf old new → IsTurned core me now old new
turned_by core me now old new flows wants rest = record {
  refreshed = λ cost costs. record {
    flows = flows cost costs;
    rest = rest ∙ (λ i. record old { vrf = record old.vrf { flows = new.vrf.flows }; wants = wants i });
  };
  rest = rest;
}

-- Trees that are fresh are refreshed as they are.
pub zip_fresh : (core : Topology) (me : NodeId) (now : ℕ) (trees : List TreeData) → AllByRecursion (IsFresh now) trees
    → AllZip (IsTurned core me now) trees trees
zip_fresh core me now [] h = tt
zip_fresh core me now (tree ∷ trees) h =
    (turned_by core me now tree tree (λ cost costs. h.0.flows cost) h.0.wants refl, zip_fresh core me now trees h.1)
