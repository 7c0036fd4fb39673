-- What stays where one node or what is in transit changes. F is what is read of it.
use Rattle.std.proofs.Common.{◌≡◌, ◌≢◌, ℕ, ◌+◌, ◌≤◌, ◌==◌, Bool, true, false, cond, ◌&&◌, inl, inr, refl, sym, ap, subst, ◌∙◌, List, [], ◌∷◌, ◌++◌, filter, Option}
use Rattle.std.proofs.lemmas.Bool.{cond-true, cond-false, and_from, and_left, and_right}
use Rattle.std.proofs.lemmas.List.{append-nil, append_assoc}
use Rattle.std.proofs.lemmas.List.Elements.{filter-append}
use Rattle.std.specs.List.{AllByRecursion}
use Rattle.mv_base.specs.declared.ids.NodeId.{NodeId}
use Rattle.mldp.specs.declared.mldp_fec.fec.Fec.{Fec}
use Rattle.mldp.specs.declared.mldp_msgs.message.LabelMessage.{LabelMessage}
use Rattle.label_defs.specs.declared.end.End.{End}
use Rattle.label_defs.specs.declared.label_use.LabelUse.{LabelUse}
use Rattle.label_defs.specs.declared.put.Put.{Put}
use Rattle.label_defs.specs.LabelData.{LabelData, use_of}
use Rattle.label_defs.proofs.KeyLemmas.{node_equal, node_itself, node_apart}
use Rattle.label_laws.specs.Network.{PacketCopy, Direction, LabelNetwork, at_node, messages_to, sent, thereafter}
use Rattle.label_laws.specs.Rule.{View, Covered, LabelCovers, CopyOk, end_of}

-- a choice, read by F
pub read_cond : {A X : Type 0} (F : A → X) (b : Bool) (x y : A) → (b ≡ true → F x ≡ F y) → F (cond b x y) ≡ F y
read_cond F true x y h = h refl
read_cond F false x y h = refl

pub kept_node : {X : Type 0} (F : LabelData → X) (b : NodeId) (d : LabelData) (node : NodeId → LabelData) (n : NodeId) → (n ≡ b → F d ≡ F (node n))
    → F (at_node b d node n) ≡ F (node n)
kept_node F b d node n h = read_cond F (n.0 == b.0) d (node n) (λ e. h (node_equal n b e))

pub node_here : (b : NodeId) (d : LabelData) (node : NodeId → LabelData) → at_node b d node b ≡ d
node_here b d node = cond-true (b.0 == b.0) d (node b) (node_itself b b refl)

pub node_there : (b : NodeId) (d : LabelData) (node : NodeId → LabelData) (n : NodeId) → n ≢ b → at_node b d node n ≡ node n
node_there b d node n ne = cond-false (n.0 == b.0) d (node n) (node_apart n b ne)

twice_node : (b : Bool) (x y z : LabelData) → cond b x (cond b y z) ≡ cond b x z
twice_node true x y z = refl
twice_node false x y z = refl

pub node_again : (b : NodeId) (d e : LabelData) (node : NodeId → LabelData) (n : NodeId) → at_node b e (at_node b d node) n ≡ at_node b e node n
node_again b d e node n = twice_node (n.0 == b.0) e d (node n)

-- a view whose parts are equal
pub along_view : {u : NodeId} {l : ℕ} {a b : Bool} {c d e i : Option End} {s t : Option LabelUse} {ms ns bs cs : List LabelMessage} {f g : Fec → Bool}
    → b ≡ a → d ≡ c → i ≡ e → t ≡ s → ns ≡ ms → cs ≡ bs → g ≡ f → View u l a c e s ms bs f → View u l b d i t ns cs g
along_view {u} {l} {a} {b} {c} {d} {e} {i} {s} {t} {ms} {ns} {bs} {cs} {f} {g} joined near far p q r o h =
    let h1 = subst (λ x. View u l x c e s ms bs f) (sym joined) h in
    let h2 = subst (λ x. View u l b x e s ms bs f) (sym near) h1 in
    let h3 = subst (λ x. View u l b d x s ms bs f) (sym far) h2 in
    let h4 = subst (λ x. View u l b d i x ms bs f) (sym p) h3 in
    let h5 = subst (λ x. View u l b d i t x bs f) (sym q) h4 in
    let h6 = subst (λ x. View u l b d i t ns x f) (sym r) h5 in
    subst (λ x. View u l b d i t ns cs x) (sym o) h6

pub each_kept : {X : Type 0} (P Q : X → Type 0) → ((x : X) → P x → Q x) → (xs : List X) → AllByRecursion P xs → AllByRecursion Q xs
each_kept P Q h [] all = tt
each_kept P Q h (x ∷ xs) all = (h x all.0, each_kept P Q h xs all.1)

-- ---- a test of the messages in transit

pub skipped : (p : LabelMessage → Bool) (m : LabelMessage) (rest : List LabelMessage) → p m ≡ false → filter p (m ∷ rest) ≡ filter p rest
skipped p m rest h = cond-false (p m) (m ∷ filter p rest) (filter p rest) h

pub passed : (p : LabelMessage → Bool) (m : LabelMessage) (rest : List LabelMessage) → p m ≡ true → filter p (m ∷ rest) ≡ m ∷ filter p rest
passed p m rest h = cond-true (p m) (m ∷ filter p rest) (filter p rest) h

-- ---- what is put

pub one_to : (to : NodeId) (m : LabelMessage) → messages_to to (record { to = to; message = m } ∷ []) ≡ m ∷ []
one_to to m = cond-true (to.0 == to.0) (m ∷ []) [] (node_itself to to refl)

pub none_to : (to n : NodeId) (m : LabelMessage) → to ≢ n → messages_to n (record { to = to; message = m } ∷ []) ≡ []
none_to to n m ne = cond-false (to.0 == n.0) (m ∷ []) [] (node_apart to n ne)

one_skipped : (p : LabelMessage → Bool) (b : Bool) (m : LabelMessage) → p m ≡ false → filter p (cond b (m ∷ []) []) ≡ []
one_skipped p true m h = skipped p m [] h
one_skipped p false m h = refl

-- a message that does not pass, to whom ever
pub fails_to : (p : LabelMessage → Bool) (to n : NodeId) (m : LabelMessage) → p m ≡ false
    → filter p (messages_to n (record { to = to; message = m } ∷ [])) ≡ []
fails_to p to n m h = one_skipped p (to.0 == n.0) m h

pub sent_other : (from : NodeId) (puts : List Put) (direction : NodeId → NodeId → Direction) (u n : NodeId) → u ≢ from
    → sent from puts direction u n ≡ (direction u n).transit
sent_other from puts direction u n ne =
    cond-false ((u.0 == from.0) && (direction u n).joined) ((direction u n).transit ++ messages_to n puts) (direction u n).transit
    (and_left (u.0 == from.0) (direction u n).joined (node_apart u from ne))

pub sent_quiet : (from : NodeId) (puts : List Put) (direction : NodeId → NodeId → Direction) (u n : NodeId) → (direction u n).joined ≡ false
    → sent from puts direction u n ≡ (direction u n).transit
sent_quiet from puts direction u n off =
    cond-false ((u.0 == from.0) && (direction u n).joined) ((direction u n).transit ++ messages_to n puts) (direction u n).transit
    (and_right (u.0 == from.0) (direction u n).joined off)

pub sent_skips : (p : LabelMessage → Bool) (from : NodeId) (puts : List Put) (direction : NodeId → NodeId → Direction) (u n : NodeId)
    → filter p (messages_to n puts) ≡ []
    → filter p (sent from puts direction u n) ≡ filter p (direction u n).transit
sent_skips p from puts direction u n h =
    read_cond (filter p) ((u.0 == from.0) && (direction u n).joined) ((direction u n).transit ++ messages_to n puts) (direction u n).transit
    (λ e. filter-append p (direction u n).transit (messages_to n puts) ∙ ap (λ ms. filter p (direction u n).transit ++ ms) h
    ∙ append-nil (filter p (direction u n).transit))

pub sent_passes : (p : LabelMessage → Bool) (from n : NodeId) (m : LabelMessage) (direction : NodeId → NodeId → Direction)
    → (direction from n).joined ≡ true → p m ≡ true
    → filter p (sent from (record { to = n; message = m } ∷ []) direction from n) ≡ filter p (direction from n).transit ++ m ∷ []
sent_passes p from n m direction joined h =
    let old = (direction from n).transit in
    let new = messages_to n (record { to = n; message = m } ∷ []) in
    ap (filter p) (cond-true ((from.0 == from.0) && (direction from n).joined) (old ++ new) old
    (and_from (from.0 == from.0) (direction from n).joined (node_itself from from refl) joined))
    ∙ filter-append p old new ∙ ap (λ ms. filter p old ++ filter p ms) (one_to n m) ∙ ap (λ ms. filter p old ++ ms) (passed p m [] h)

append_to : (to : NodeId) (ps qs : List Put) → messages_to to (ps ++ qs) ≡ messages_to to ps ++ messages_to to qs
append_to to [] qs = refl
append_to to (p ∷ ps) qs =
    elim (p.to.0 == to.0) as (λ b. cond b (p.message ∷ messages_to to (ps ++ qs)) (messages_to to (ps ++ qs))
    ≡ cond b (p.message ∷ messages_to to ps) (messages_to to ps) ++ messages_to to qs) [
      | true ↦ ap (λ ms. p.message ∷ ms) (append_to to ps qs)
      | false ↦ append_to to ps qs
    ]

twice_sent : (b : Bool) (old ps qs both : List LabelMessage) → both ≡ ps ++ qs
    → cond b (cond b (old ++ ps) old ++ qs) (cond b (old ++ ps) old) ≡ cond b (old ++ both) old
twice_sent true old ps qs both e = append_assoc old ps qs ∙ ap (λ ms. old ++ ms) (sym e)
twice_sent false old ps qs both e = refl

-- a node that steps twice
pub after_again : (w : LabelNetwork) (n : NodeId) (old next : LabelData) (puts more : List Put)
    → thereafter (thereafter w n (record { part = old; puts = puts })) n (record { part = next; puts = more })
    ≡ thereafter w n (record { part = next; puts = puts ++ more })
after_again w n old next puts more =
    let transit : (u v : NodeId) → _ ≡ sent n (puts ++ more) w.direction u v = λ u v.
    twice_sent ((u.0 == n.0) && (w.direction u v).joined) (w.direction u v).transit (messages_to v puts) (messages_to v more)
    (messages_to v (puts ++ more)) (append_to v puts more) in
    λ i. record w {
      node = λ m. node_again n old next w.node m i;
      direction = λ u v. record (w.direction u v) { transit = transit u v i };
    }

sent_nothing : (n : NodeId) (direction : NodeId → NodeId → Direction) (u v : NodeId) → sent n [] direction u v ≡ (direction u v).transit
sent_nothing n direction u v =
    read_cond (λ ms. ms) ((u.0 == n.0) && (direction u v).joined) ((direction u v).transit ++ []) (direction u v).transit
    (λ e. append-nil (direction u v).transit)

-- a node that steps and puts nothing
pub after_silent : (w : LabelNetwork) (n : NodeId) (next : LabelData)
    → record w { node = at_node n next w.node } ≡ thereafter w n (record { part = next; puts = [] })
after_silent w n next =
    λ i. record w { node = at_node n next w.node; direction = λ u v. record (w.direction u v) { transit = sym (sent_nothing n w.direction u v) i } }

-- ---- copies

pub stand_along : (life : ℕ) (vpn_of : Fec → ℕ) (u : NodeId) (vpn t : ℕ) (r s : Option LabelUse) → s ≡ r → LabelCovers life vpn_of u r vpn t
    → LabelCovers life vpn_of u s vpn t
stand_along life vpn_of u vpn t r s e h = let P : Option LabelUse → Type 0 = λ x. LabelCovers life vpn_of u x vpn t in subst P (sym e) h

pub covered_along : (life : ℕ) (vpn_of : Fec → ℕ) (u : NodeId) (vpn t : ℕ) (c d : Option End) (r s : Option LabelUse) → d ≡ c → s ≡ r
    → Covered life vpn_of u c r vpn t → Covered life vpn_of u d s vpn t
covered_along life vpn_of u vpn t c d r s p e h =
    let h1 = subst (λ x. Covered life vpn_of u x r vpn t) (sym p) h in
    subst (λ x. Covered life vpn_of u d x vpn t) (sym e) h1

-- where what stands still does, and the end is the same
pub covered_if : (life : ℕ) (vpn_of : Fec → ℕ) (u : NodeId) (vpn t : ℕ) (c d : Option End) (r s : Option LabelUse) → d ≡ c
    → (LabelCovers life vpn_of u r vpn t → LabelCovers life vpn_of u s vpn t) → Covered life vpn_of u c r vpn t → Covered life vpn_of u d s vpn t
covered_if life vpn_of u vpn t c d r s p h x =
    covered_along life vpn_of u vpn t c d s s p refl
    (elim x [ inl off ↦ inl off | inr y ↦ elim y [ inl young ↦ inr (inl young) | inr st ↦ inr (inr (h st)) ] ])

-- what stands for each copy still does
pub copies_along : (clock life : ℕ) (vpn_of : Fec → ℕ) (origin : ℕ → ℕ) (u : NodeId) (d e : LabelData) (cs : List PacketCopy)
    → ((l vpn t : ℕ) → t ≤ clock → clock ≤ t + life → Covered life vpn_of u (end_of d u) (use_of d l) vpn t
    → Covered life vpn_of u (end_of e u) (use_of e l) vpn t)
    → AllByRecursion (CopyOk clock life vpn_of origin u d) cs → AllByRecursion (CopyOk clock life vpn_of origin u e) cs
copies_along clock life vpn_of origin u d e cs h all =
    each_kept (CopyOk clock life vpn_of origin u d) (CopyOk clock life vpn_of origin u e)
    (λ c o. record { past = o.past; young = o.young; covered = h c.label (origin c.number) c.put_at o.past o.young o.covered }) cs all
