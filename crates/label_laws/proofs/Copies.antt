-- Copies are put, land and are dropped.
use Rattle.std.proofs.Common.{◌≡◌, ◌≢◌, ℕ, ◌==◌, ◌&&◌, Bool, true, false, cond, inl, inr, refl, sym, ap, subst, ◌∙◌, List, [], ◌∷◌, ◌++◌, map, take, drop, zero, suc, slice_get, Option, Some, None, arith}
use Rattle.std.proofs.lemmas.Bool.{cases_Bool}
use Rattle.std.proofs.lemmas.Option.{same_Some, none-some}
use Rattle.std.specs.List.{AllByRecursion, remove}
use Rattle.std.specs.FinSet as sets
use Rattle.mv_base.specs.declared.ids.NodeId.{NodeId}
use Rattle.mldp.specs.declared.mldp_fec.fec.Fec.{Fec}
use Rattle.label_defs.specs.declared.branch.Branch.{Branch}
use Rattle.label_defs.specs.declared.end.End.{End}
use Rattle.label_defs.specs.declared.label_use.LabelUse.{LabelUse}
use Rattle.label_defs.specs.declared.label_use.LabelUse.TheVariants as uses
use Rattle.label_defs.specs.Members.{in_order}
use Rattle.label_defs.specs.LabelData.{LabelData, same_fec, use_of, branches_of}
use Rattle.label_defs.specs.Steps.{branch_to}
use Rattle.label_defs.proofs.KeyLemmas.{branch_cmp_total, node_equal, node_itself, same_fec_equal}
use Rattle.label_defs.proofs.MemberLemmas.{each_in_order}
use Rattle.label_laws.specs.Network.{PacketCopy, LabelNetwork}
use Rattle.label_laws.specs.Acts.{with_copies, labels_to, copied, without_copy, forwarded, landed}
use Rattle.label_laws.specs.Rule.{IsUsedTowards, LabelCovers, mapped, leaving, resting, Unheld, Covered, CopyOk, Rule, Kept, end_of, branch_trees, is_held}
use Rattle.label_laws.proofs.Phases.{branch_held}
use Rattle.label_laws.proofs.Times.{each_filtered}

-- the copies on the link from u to n of the rule
abbrev pub CopiesOk : LabelNetwork → NodeId → NodeId → List PacketCopy → Type 0
CopiesOk w u n = AllByRecursion (CopyOk w.clock w.life w.vpn_of w.origin u (w.node n))

-- only copies change
pub copies_rule : (w : LabelNetwork) (copies : NodeId → NodeId → List PacketCopy) → ((u n : NodeId) → u ≢ n → CopiesOk w u n (copies u n)) → Rule w
    → Rule (with_copies w copies)
copies_rule w copies h rule =
    record {
      view = rule.view;
      session = λ u n j. let s = rule.session u n j in record { alike = s.alike; quiet = s.quiet; ends = s.ends };
      copies = h;
      trees = rule.trees;
    }

-- ---- lists

each_append : {X : Type 0} (P : X → Type 0) (xs ys : List X) → AllByRecursion P xs → AllByRecursion P ys → AllByRecursion P (xs ++ ys)
each_append P [] ys h k = k
each_append P (x ∷ xs) ys h k = (h.0, each_append P xs ys h.1 k)

each_taken : {X : Type 0} (P : X → Type 0) (k : ℕ) (xs : List X) → AllByRecursion P xs → AllByRecursion P (take k xs)
each_taken P zero xs h = tt
each_taken P (suc k) [] h = tt
each_taken P (suc k) (x ∷ xs) h = (h.0, each_taken P k xs h.1)

each_left : {X : Type 0} (P : X → Type 0) (k : ℕ) (xs : List X) → AllByRecursion P xs → AllByRecursion P (drop k xs)
each_left P zero xs h = h
each_left P (suc k) [] h = tt
each_left P (suc k) (x ∷ xs) h = each_left P k xs h.1

each_removed : {X : Type 0} (P : X → Type 0) (k : ℕ) (xs : List X) → AllByRecursion P xs → AllByRecursion P (remove xs k)
each_removed P k xs h = each_append P (take k xs) (drop (suc k) xs) (each_taken P k xs h) (each_left P (suc k) xs h)

each_at : {X : Type 0} (P : X → Type 0) (xs : List X) (k : ℕ) (x : X) → AllByRecursion P xs → slice_get xs k ≡ Some x → P x
each_at P [] k x h e = absurd (none-some x e)
each_at P (y ∷ xs) zero x h e = subst P (same_Some y x e) h.0
each_at P (y ∷ xs) (suc k) x h e = each_at P xs k x h.1 e

each_mapped : {X Y : Type 0} (f : X → Y) (P : X → Type 0) (Q : Y → Type 0) → ((x : X) → P x → Q (f x)) → (xs : List X) → AllByRecursion P xs
    → AllByRecursion Q (map f xs)
each_mapped f P Q h [] all = tt
each_mapped f P Q h (x ∷ xs) all = (h x all.0, each_mapped f P Q h xs all.1)

on_cond : (P : List PacketCopy → Type 0) (t : Bool) (xs ys : List PacketCopy) → (t ≡ true → P xs) → P ys → P (cond t xs ys)
on_cond P true xs ys h k = h refl
on_cond P false xs ys h k = k

-- the labels of a tree's branches to a neighbour are those under which there is one
each_label : (d : LabelData) (to : NodeId) (fec : Fec) → AllByRecursion (λ (l : ℕ). branch_trees d to l fec ≡ true) (labels_to to (branches_of d fec))
each_label d to fec =
    let In : Branch → Type 0 = λ b. sets.contains d.branches b ≡ true in
    let Of : Branch → Type 0 = λ b. In b × (b.fec ≡ fec) in
    let Own : Branch → Type 0 = λ b. branch_trees d to b.label fec ≡ true in
    let own : (b : Branch) → (b.node.0 == to.0) ≡ true → Of b → Own b = λ b t is.
    let n = node_equal b.node to t in
    let same : b ≡ branch_to to fec b.label = λ i. record { fec = is.1 i; node = n i; label = b.label } in
    sym (ap (sets.contains d.branches) same) ∙ is.0 in
    each_mapped (λ (b : Branch). b.label) Own (λ (l : ℕ). branch_trees d to l fec ≡ true) (λ b h. h) _
    (each_filtered (λ (b : Branch). b.node.0 == to.0) Of Own own (branches_of d fec)
    (each_filtered (λ (b : Branch). same_fec b.fec fec) In Of (λ b t is. (is, same_fec_equal b.fec fec t)) (in_order d.branches)
    (each_in_order branch_cmp_total In d.branches (λ b is. is))))

-- ---- copies are put

held_stands : (life : ℕ) (vpn_of : Fec → ℕ) (u : NodeId) (f : Fec) (vpn t : ℕ) (s : Option LabelUse) → vpn_of f ≡ vpn → IsUsedTowards f u s
    → LabelCovers life vpn_of u s vpn t
held_stands life vpn_of u f vpn t s fits h = elim h [ inl e ↦ mapped f e fits | inr e ↦ leaving f e ]

-- a copy that is put on a branch
put_covered : (w : LabelNetwork) (u n : NodeId) (l : ℕ) (f : Fec) (vpn : ℕ) → u ≢ n → w.vpn_of f ≡ vpn → branch_trees (w.node u) n l f ≡ true → Rule w
    → Covered w.life w.vpn_of u (end_of (w.node n) u) (use_of (w.node n) l) vpn w.clock
put_covered w u n l f vpn ne fits is rule =
    let v = rule.view u n l ne in
    let s = use_of (w.node n) l in
    elim (cases_Bool (w.direction u n).joined) [
      | inl up ↦ inr (inr (held_stands w.life w.vpn_of u f vpn w.clock s fits
          (branch_held u l f s _ _ (branch_trees (w.node u) n l) is (v.phase up))))
      | inr down ↦ elim (v.alone f down is) [
        | inl off ↦ inl off
        | inr h ↦ inr (inr (held_stands w.life w.vpn_of u f vpn w.clock s fits h))
      ]
    ]

pub copied_rule : (w : LabelNetwork) (n : NodeId) (fec : Fec) (number : ℕ) → w.vpn_of fec ≡ w.origin number → Rule w → Rule (copied w n fec number)
copied_rule w n fec number fits rule =
    copies_rule w _ (λ u v j.
    let old = (w.direction u v).copies in
    let new = map (λ label. record { label = label; put_at = w.clock; number = number }) (labels_to v (branches_of (w.node n) fec)) in
    on_cond (CopiesOk w u v) (u.0 == n.0) (old ++ new) old (λ t.
    let P : ℕ → Type 0 = λ l. branch_trees (w.node n) v l fec ≡ true in
    let ok : (l : ℕ) → P l → CopyOk w.clock w.life w.vpn_of w.origin u (w.node v) (record { label = l; put_at = w.clock; number = number }) = λ l is.
    let same = node_equal u n t in
    record {
      past = omega arith;
      young = omega arith;
      covered =
          put_covered w u v l fec (w.origin number) j fits (ap (λ x. branch_trees (w.node x) v l fec) same ∙ is) rule;
    } in
    each_append (CopyOk w.clock w.life w.vpn_of w.origin u (w.node v)) old new (rule.copies u v j)
    (each_mapped (λ label. record { label = label; put_at = w.clock; number = number }) P (CopyOk w.clock w.life w.vpn_of w.origin u (w.node v)) ok
    (labels_to v (branches_of (w.node n) fec)) (each_label (w.node n) v fec)))
    (rule.copies u v j)) rule

pub copied_kept : (w : LabelNetwork) (n : NodeId) (fec : Fec) (number : ℕ) → w.vpn_of fec ≡ w.origin number → Kept w → Kept (copied w n fec number)
copied_kept w n fec number fits k = record { rule = copied_rule w n fec number fits k.rule; settled = k.settled }

-- where the copies are of the tree's VPN
pub put_kept : (w : LabelNetwork) (n : NodeId) (fec : Fec) (number : ℕ) (t : Bool) → (t ≡ true → w.vpn_of fec ≡ w.origin number) → Kept w
    → Kept (cond t (copied w n fec number) w)
put_kept w n fec number true h k = copied_kept w n fec number (h refl) k
put_kept w n fec number false h k = k

-- ---- copies land

pub dropped_rule : (w : LabelNetwork) (a b : NodeId) (place : ℕ) → Rule w → Rule (without_copy w a b place)
dropped_rule w a b place rule =
    copies_rule w _ (λ u n j. on_cond (CopiesOk w u n) ((u.0 == a.0) && (n.0 == b.0)) (remove (w.direction u n).copies place) (w.direction u n).copies
    (λ t. each_removed (CopyOk w.clock w.life w.vpn_of w.origin u (w.node n)) place (w.direction u n).copies (rule.copies u n j)) (rule.copies u n j))
    rule

not_down : (near : Option End) → is_held near ≡ true → near ≡ None → ⊥
not_down near h e = (let x : false ≡ true = sym (ap is_held e) ∙ h in absurd cc)

not_unheld : (near : Option End) (t : ℕ) → is_held near ≡ true → Unheld near t → ⊥
not_unheld near t h y = (let x : y.end.held ≡ true = sym (ap is_held y.up) ∙ h in let z = y.unheld in absurd cc)

-- a copy under a mapped label is of the tree's VPN
fits_by : (life : ℕ) (vpn_of : Fec → ℕ) (u : NodeId) (f : Fec) (vpn t : ℕ) (s : Option LabelUse) → s ≡ Some (uses.Mapped f u)
    → LabelCovers life vpn_of u s vpn t → vpn_of f ≡ vpn
fits_by life vpn_of u f vpn t s e (mapped g h p) = let same : f ≡ g = cc in ap vpn_of same ∙ p
fits_by life vpn_of u f vpn t s e (leaving g h) = absurd cc
fits_by life vpn_of u f vpn t s e (resting until h p) = absurd cc

fits : (w : LabelNetwork) (u n : NodeId) (f : Fec) (c : PacketCopy) → u ≢ n → use_of (w.node n) c.label ≡ Some (uses.Mapped f u)
    → CopyOk w.clock w.life w.vpn_of w.origin u (w.node n) c → Rule w → w.vpn_of f ≡ w.origin c.number
fits w u n f c ne is ok rule =
    let held = (rule.view u n c.label ne).owner f (inl is) in
    elim ok.covered [
      | inl off ↦ absurd (not_down (end_of (w.node n) u) held off)
      | inr x ↦ elim x [
        | inl y ↦ absurd (not_unheld (end_of (w.node n) u) c.put_at held y)
        | inr st ↦ fits_by w.life w.vpn_of u f (w.origin c.number) c.put_at (use_of (w.node n) c.label) is st
      ]
    ]

forwarded_kept : (w : LabelNetwork) (a b : NodeId) (s : Option LabelUse) (number : ℕ)
    → ((f : Fec) (v : NodeId) → s ≡ Some (uses.Mapped f v) → v ≡ a → w.vpn_of f ≡ w.origin number) → Kept w → Kept (forwarded w a b s number)
forwarded_kept w a b None number h k = k
forwarded_kept w a b (Some uses.Free) number h k = k
forwarded_kept w a b (Some (uses.Mapped f v)) number h k = put_kept w b f number (v.0 == a.0) (λ t. h f v refl (node_equal v a t)) k
forwarded_kept w a b (Some (uses.Leaving f v)) number h k = k
forwarded_kept w a b (Some (uses.Resting until)) number h k = k

pub landed_kept : (w : LabelNetwork) (a b : NodeId) (place : ℕ) (same : Bool) (found : Option PacketCopy) → (a.0 == b.0) ≡ same
    → slice_get (w.direction a b).copies place ≡ found → Kept w → Kept (landed w a b place same found)
landed_kept w a b place true found t e k = k
landed_kept w a b place false None t e k = k
landed_kept w a b place false (Some c) t e k =
    let ne : a ≢ b = λ x. (let y = node_itself a b x in absurd cc) in
    let ok = each_at (CopyOk w.clock w.life w.vpn_of w.origin a (w.node b)) (w.direction a b).copies place c (k.rule.copies a b ne) e in
    forwarded_kept (without_copy w a b place) a b (use_of (w.node b) c.label) c.number
    (λ f v is same. fits w a b f c ne (is ∙ ap (λ (x : NodeId). Some (uses.Mapped f x)) same) ok k.rule)
    (record { rule = dropped_rule w a b place k.rule; settled = k.settled })

pub lands_in_vpn : (w : LabelNetwork) (a b : NodeId) (place : ℕ) (c : PacketCopy) (f : Fec) → Rule w → a ≢ b
    → slice_get (w.direction a b).copies place ≡ Some c → use_of (w.node b) c.label ≡ Some (uses.Mapped f a) → w.vpn_of f ≡ w.origin c.number
lands_in_vpn w a b place c f rule ne e is =
    fits w a b f c ne is (each_at (CopyOk w.clock w.life w.vpn_of w.origin a (w.node b)) (w.direction a b).copies place c (rule.copies a b ne) e) rule
