-- Trees that settle one after another.
use Rattle.std.proofs.Common.{◌≡◌, ℕ, ◌+◌, Bool, true, false, cond, List, [], ◌∷◌, ◌++◌, All, take, drop, get_or, length, ◌<◌, Option, Some, None, is_some, Result, Ok, Err, OnOk, inl, inr, refl, sym, ap, subst, ◌∙◌}
use Rattle.std.specs.FinMap as maps
use Rattle.std.proofs.lemmas.List.{take_more, drop_more, take-append-drop}
use Rattle.std.specs.FinMap.{FinMap}
use Rattle.mv_base.specs.Number.{◌>>?◌}
use Rattle.mv_base.specs.declared.ids.NodeId.{NodeId}
use Rattle.mv_base.specs.core_walks.Core.{Core, IsCoreOf}
use Rattle.mv_base.specs.core_walks.Topology.{Topology}
use Rattle.mldp.specs.declared.mldp_fec.fec.Fec.{Fec}
use Rattle.label_trees.specs.tunnel_bindings.declared.binding.Incarnation.{Incarnation}
use Rattle.label_defs.specs.declared.end.End.{End}
use Rattle.label_defs.specs.declared.put.Put.{Put}
use Rattle.label_defs.specs.Keys.{node_cmp}
use Rattle.label_defs.specs.LabelData.{Place, LabelData}
use Rattle.label_defs.specs.Node.{NodePlace, place_in, raises_of}
use Rattle.label_defs.specs.Settling.{Stepped, settle_all, changed, change_of, put_by}
use Rattle.mldp_node.specs.label_ends.Ends.{Ends}
use Rattle.label_trees.specs.Trees.{Trees}
use Rattle.mldp_node.specs.Parts.{is_on_tree, stepped_of, settled_toward, AreSessions, AreTied, IsPut, SettledSo, LacksOne, AllSettledSo, LacksAny}
use Rattle.mldp_node.proofs.SpelledLemmas.{settled_spelled}
use Rattle.mldp_node.proofs.WaitLemmas.{settled_same, settled_apart, settled_on, settled_toward_root, after_both}

pub on_ok : {X E : Type 0} {P Q : Type 0} (r : Result X E) → (P → Q) → OnOk r P → OnOk r Q
on_ok (Ok x) f p = f p
on_ok (Err e) f p = tt

pub sessions_up : (sessions : FinMap node_cmp Incarnation) (up : FinMap node_cmp End) (raises : FinMap node_cmp ℕ) → AreSessions sessions up raises
    → (peer : NodeId) → is_some (maps.get sessions peer) ≡ is_some (maps.get up peer)
sessions_up sessions up raises h peer = ap is_some (h peer) ∙ by (is_some (maps.get up peer)) (record { 0 = raises_of raises peer })
  where
    by : (t : Bool) (x : Incarnation) → is_some (cond t (Some x) None) ≡ t
    by true x = refl
    by false x = refl

-- ---- one tree

pub one_settled : (core : Topology) (place : NodePlace) (upstream : Option NodeId) (fec : Fec) (ends : Ends) (old : Trees) (puts : List Put)
    (new : Trees) (told : List Put)
    → ((own : Core) → IsCoreOf core.nodes core.links own → upstream ≡ (place_in place own).upstream fec)
    → AreTied old ends → All IsPut puts → SettledSo upstream fec ends.up old puts new told → AllSettledSo core place (fec ∷ []) ends old puts new told
one_settled core place upstream fec ends old puts new told toward tied written h =
    let good = settled_spelled upstream fec (stepped_of old ends.up puts) (stepped_of new ends.up told) h.made tied.spelled written in
    record {
      made = λ own is. subst (λ (o : Option NodeId). settled_toward o fec (stepped_of old ends.up puts) ≡ Some (stepped_of new ends.up told))
          (toward own is) h.made;
      tied = record {
        sessions = subst (λ (s : FinMap node_cmp Incarnation). AreSessions s ends.up ends.raises) (sym h.sessions) tied.sessions;
        spelled = good.0;
        apart = settled_apart upstream fec ends.up old new puts told h tied.apart;
      };
      life = h.life;
      written = good.1;
      same = settled_same upstream fec ends.up old new puts told h;
      on = settled_on upstream fec ends.up old new puts told h tied.apart;
      toward = λ own is. settled_toward_root upstream fec ends.up old new puts told h (place_in place own).upstream (toward own is) tied.apart;
    }

pub one_lacks : (core : Topology) (place : NodePlace) (upstream : Option NodeId) (fec : Fec) (ends : Ends) (old : Trees) (puts : List Put)
    → ((own : Core) → IsCoreOf core.nodes core.links own → upstream ≡ (place_in place own).upstream fec)
    → LacksOne upstream fec ends.up old puts → LacksAny core place (fec ∷ []) ends old puts
one_lacks core place upstream fec ends old puts toward h own is =
    subst (λ (o : Option NodeId). settled_toward o fec (stepped_of old ends.up puts) ≡ None) (toward own is) h

-- ---- one tree more

bound : {A B : Type 0} (o : Option A) (f : A → B) (next : B → Option B) → (o >>? λ x. next (f x)) ≡ ((o >>? λ x. Some (f x)) >>? next)
bound None f next = refl
bound (Some x) f next = refl

first_of : (place : Place) (fec : Fec) (more : List Fec) (old : Stepped)
    → settle_all place (fec ∷ more) old ≡ (settle_all place (fec ∷ []) old >>? settle_all place more)
first_of place fec more old =
    bound (changed old.part fec (change_of place old.part fec))
    (λ (new : LabelData). record { part = new; puts = old.puts ++ put_by fec (change_of place old.part fec) }) (settle_all place more)

assoc : {A : Type 0} (o : Option A) (f g : A → Option A) → ((o >>? f) >>? g) ≡ (o >>? λ x. f x >>? g)
assoc None f g = refl
assoc (Some x) f g = refl

itself : {A : Type 0} (o : Option A) → (o >>? λ x. Some x) ≡ o
itself None = refl
itself (Some x) = refl

pub settle_append : (place : Place) (xs ys : List Fec) (old : Stepped)
    → settle_all place (xs ++ ys) old ≡ (settle_all place xs old >>? settle_all place ys)
settle_append place [] ys old = refl
settle_append place (x ∷ xs) ys old =
    first_of place x (xs ++ ys) old ∙ along (settle_append place xs ys) (settle_all place (x ∷ []) old)
    ∙ sym (ap (λ (o : Option Stepped). o >>? settle_all place ys) (first_of place x xs old))
  where
    along : ((s : Stepped) → settle_all place (xs ++ ys) s ≡ (settle_all place xs s >>? settle_all place ys)) → (o : Option Stepped)
        → (o >>? settle_all place (xs ++ ys)) ≡ ((o >>? settle_all place xs) >>? settle_all place ys)
    along rest None = refl
    along rest (Some s) = rest s

bind_at : {A : Type 0} (o : Option A) (f : A → Option A) (x : A) (y : Option A) → o ≡ Some x → f x ≡ y → (o >>? f) ≡ y
bind_at o f x y e k = ap (λ p. p >>? f) e ∙ k

pub then_settled : (core : Topology) (place : NodePlace) (fecs : List Fec) (fec : Fec) (ends : Ends) (first : Trees) (puts : List Put) (mid : Trees)
    (said : List Put) (new : Trees) (told : List Put)
    → AllSettledSo core place fecs ends first puts mid said → AllSettledSo core place (fec ∷ []) ends mid said new told
    → AllSettledSo core place (fecs ++ fec ∷ []) ends first puts new told
then_settled core place fecs fec ends first puts mid said new told h k = record {
  made = λ own is. settle_append (place_in place own) fecs (fec ∷ []) (stepped_of first ends.up puts)
      ∙ bind_at (settle_all (place_in place own) fecs (stepped_of first ends.up puts)) (settle_all (place_in place own) (fec ∷ []))
      (stepped_of mid ends.up said) (Some (stepped_of new ends.up told)) (h.made own is) (k.made own is);
  tied = k.tied;
  life = k.life ∙ h.life;
  written = k.written;
  same = λ f. k.same f ∙ h.same f;
  on = λ f x g. after_both (is_on_tree new f ≡ true) fecs (fec ∷ []) first mid f x (k.on f x g)
      (λ was. elim (h.on f x was) [ inl a ↦ inl (k.same f ∙ a) | inr b ↦ inr b ]);
  toward = λ own is f x g. after_both ((place_in place own).upstream f ≡ Some x) fecs (fec ∷ []) first mid f x (k.toward own is f x g)
      (h.toward own is f x);
}

pub then_lacks : (core : Topology) (place : NodePlace) (fecs : List Fec) (fec : Fec) (more : List Fec) (ends : Ends) (first : Trees) (puts : List Put)
    (mid : Trees) (said : List Put)
    → AllSettledSo core place fecs ends first puts mid said → LacksAny core place (fec ∷ []) ends mid said
    → LacksAny core place (fecs ++ fec ∷ more) ends first puts
then_lacks core place fecs fec more ends first puts mid said h k own is =
    settle_append (place_in place own) fecs (fec ∷ more) (stepped_of first ends.up puts)
    ∙ bind_at (settle_all (place_in place own) fecs (stepped_of first ends.up puts)) (settle_all (place_in place own) (fec ∷ more))
    (stepped_of mid ends.up said) None (h.made own is)
    (first_of (place_in place own) fec more (stepped_of mid ends.up said)
    ∙ ap (λ (o : Option Stepped). o >>? settle_all (place_in place own) more) (k own is))

pub none_settled : (core : Topology) (place : NodePlace) (ends : Ends) (old : Trees) (puts : List Put) → AreTied old ends → All IsPut puts
    → AllSettledSo core place [] ends old puts old puts
none_settled core place ends old puts tied written = record {
  made = λ own is. refl;
  tied = tied;
  life = refl;
  written = written;
  same = λ f. refl;
  on = λ f x g. inr (g, refl);
  toward = λ own is f x g. inr (g, refl);
}

-- ---- along a list

pub settled_to : (core : Topology) (place : NodePlace) (fecs : List Fec) (at : ℕ) (fec : Fec) (ends : Ends) (first : Trees) (puts : List Put)
    (mid : Trees) (said : List Put) (new : Trees) (told : List Put)
    → at < length fecs → fec ≡ get_or fecs at fec
    → AllSettledSo core place (take at fecs) ends first puts mid said → AllSettledSo core place (fec ∷ []) ends mid said new told
    → AllSettledSo core place (take (at + 1) fecs) ends first puts new told
settled_to core place fecs at fec ends first puts mid said new told within is h k =
    subst (λ (xs : List Fec). AllSettledSo core place xs ends first puts new told)
    (sym (take_more fecs at fec within ∙ ap (λ (x : Fec). take at fecs ++ x ∷ []) (sym is)))
    (then_settled core place (take at fecs) fec ends first puts mid said new told h k)

pub lacks_at : (core : Topology) (place : NodePlace) (fecs : List Fec) (at : ℕ) (fec : Fec) (ends : Ends) (first : Trees) (puts : List Put)
    (mid : Trees) (said : List Put)
    → at < length fecs → fec ≡ get_or fecs at fec
    → AllSettledSo core place (take at fecs) ends first puts mid said → LacksAny core place (fec ∷ []) ends mid said
    → LacksAny core place fecs ends first puts
lacks_at core place fecs at fec ends first puts mid said within is h k =
    subst (λ (xs : List Fec). LacksAny core place xs ends first puts)
    (ap (λ (xs : List Fec). take at fecs ++ xs) (sym (drop_more fecs at fec within ∙ ap (λ (x : Fec). x ∷ drop (at + 1) fecs) (sym is)))
    ∙ take-append-drop at fecs)
    (then_lacks core place (take at fecs) fec (drop (at + 1) fecs) ends first puts mid said h k)
