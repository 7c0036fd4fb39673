-- Copies that enter, land and are dropped keep the label rule.
use Rattle.std.proofs.Common.{◌≡◌, ◌≢◌, ℕ, zero, suc, ◌-◌, ◌==◌, ◌&&◌, Bool, true, false, cond, inl, inr, List, [], ◌∷◌, ◌++◌, map, filter, slice_get, option_map, Option, Some, None, refl, sym, ap, subst, ◌∙◌}
use Rattle.std.specs.List.{remove}
use Rattle.std.proofs.lemmas.Bool.{cases_eq, and_parts, eq-eqb, ne_eqb}
use Rattle.std.proofs.lemmas.List.{append-nil, append_assoc}
use Rattle.mv_base.specs.declared.ids.NodeId.{NodeId}
use Rattle.mldp.specs.declared.mldp_fec.fec.Fec.{Fec}
use Rattle.label_defs.specs.LabelData.{LabelData, use_of, branches_of}
use Rattle.label_defs.specs.declared.branch.Branch.{Branch}
use Rattle.label_defs.specs.declared.label_use.LabelUse.{LabelUse}
use Rattle.label_defs.specs.declared.label_use.LabelUse.TheVariants as uses
use Rattle.label_defs.proofs.KeyLemmas.{node_equal}
use Rattle.label_laws.specs.Network.{LabelNetwork, PacketCopy}
use Rattle.label_laws.specs.Acts as acts
use Rattle.label_laws.specs.Rule.{Kept}
use Rattle.label_laws.proofs.Copies.{lands_in_vpn, copied_kept}
use Rattle.network_defs.specs.session_defs.Message.{SessionMessage}
use Rattle.network_defs.specs.session_defs.Refined.{seen}
use Rattle.network_defs.specs.declared.session_defs.direction.Direction.{Direction}
use Rattle.mv_base.specs.declared.ids.IfaceId.{IfaceId}
use Rattle.edge_defs.specs.Datagrams.{Fate, discarded, tree_of, outs_of}
use Rattle.network_defs.specs.Acts.{copy_on, with_branches, fate_at, without_copy}
use Rattle.network_defs.specs.Nodes.{NodeState, Edge, CoreNode, place_of, part_of}
use Rattle.network_defs.specs.World.{World, Datagram, LinkCopy, clock_of, scenario_of, with_copies}
use Rattle.rule_laws.specs.Labels.{Copies, packet_copy, label_network, vpn_of, origin}
use Rattle.rule_laws.proofs.Calls.{AllKept}
use Rattle.rule_laws.proofs.Rows.{act_gives}

-- ---- lists

map_remove : {X Y : Type 0} (f : X → Y) (xs : List X) (k : ℕ) → map f (remove xs k) ≡ remove (map f xs) k
map_remove f [] zero = refl
map_remove f [] (suc k) = refl
map_remove f (x ∷ xs) zero = refl
map_remove {X} {Y} f (x ∷ xs) (suc k) = ap (λ (ys : List Y). f x ∷ ys) (map_remove f xs k)

pub map_get : {X Y : Type 0} (f : X → Y) (xs : List X) (k : ℕ) → slice_get (map f xs) k ≡ option_map f (slice_get xs k)
map_get f [] k = refl
map_get f (x ∷ xs) zero = refl
map_get f (x ∷ xs) (suc k) = map_get f xs k

pub eq_turned : (x y : ℕ) → (x == y) ≡ (y == x)
eq_turned x y = elim (cases_eq x y) [
  | inl e ↦ eq-eqb x y e ∙ sym (eq-eqb y x (sym e))
  | inr ne ↦ ne_eqb x y ne ∙ sym (ne_eqb y x (λ e. ne (sym e)))
]

-- ---- copies that are put on branches

abbrev new_copy : ℕ → ℕ → ℕ → PacketCopy
new_copy now number label = record { label = label; put_at = now; number = number }

-- the copies of the branches to a neighbour
abbrev copies_to : ℕ → ℕ → NodeId → List Branch → List PacketCopy
copies_to now number to branches = map (new_copy now number) (map (λ branch. branch.label) (filter (λ branch. branch.node.0 == to.0) branches))

none_more : {X : Type 0} (t : Bool) (xs : List X) → xs ≡ cond t (xs ++ []) xs
none_more true xs = sym (append-nil xs)
none_more false xs = refl

one_more : (t s : Bool) (xs : List PacketCopy) (now number : ℕ) (branch : Branch) (others : List Branch)
    → cond t (cond (t && s) (xs ++ new_copy now number branch.label ∷ []) xs ++ map (new_copy now number) (map (λ own. own.label) others))
    (cond (t && s) (xs ++ new_copy now number branch.label ∷ []) xs)
    ≡ cond t (xs ++ map (new_copy now number) (map (λ own. own.label) (cond s (branch ∷ others) others))) xs
one_more true true xs now number branch others =
    append_assoc xs (new_copy now number branch.label ∷ []) (map (new_copy now number) (map (λ (own : Branch). own.label) others))
one_more true false xs now number branch others = refl
one_more false true xs now number branch others = refl
one_more false false xs now number branch others = refl

set_copies : (t : Bool) (old here : List LinkCopy) (copy : LinkCopy) → (t ≡ true → here ≡ old)
    → map packet_copy (cond t (here ++ copy ∷ []) old) ≡ cond t (map packet_copy old ++ packet_copy copy ∷ []) (map packet_copy old)
set_copies true old here copy h = ap (λ (cs : List LinkCopy). map packet_copy (cs ++ copy ∷ [])) (h refl) ∙ both old
  where
    both : (cs : List LinkCopy) → map packet_copy (cs ++ copy ∷ []) ≡ map packet_copy cs ++ packet_copy copy ∷ []
    both [] = refl
    both (c ∷ cs) = ap (λ (ps : List PacketCopy). packet_copy c ∷ ps) (both cs)
set_copies false old here copy h = refl

branches_put : (node : NodeId) (ttl number : ℕ) (branches : List Branch) (world : World) (u m : NodeId)
    → map packet_copy ((with_branches node ttl number branches world).copies u m)
    ≡ cond (u.0 == node.0) (map packet_copy (world.copies u m) ++ copies_to (clock_of world) number m branches)
    (map packet_copy (world.copies u m))
branches_put node ttl number [] world u m = none_more (u.0 == node.0) (map packet_copy (world.copies u m))
branches_put node ttl number (branch ∷ more) world u m =
    let copy : LinkCopy = copy_on world ttl number branch in
    let here : List LinkCopy = world.copies node branch.node in
    let next : World = with_copies node branch.node (here ++ copy ∷ []) world in
    let now : ℕ = clock_of world in
    let old : List PacketCopy = map packet_copy (world.copies u m) in
    let others : List Branch = filter (λ (own : Branch). own.node.0 == m.0) more in
    branches_put node ttl number more next u m
    ∙ ap (λ (cs : List PacketCopy). cond (u.0 == node.0) (cs ++ copies_to now number m more) cs)
    (set_copies ((u.0 == node.0) && (m.0 == branch.node.0)) (world.copies u m) here copy
    (λ t. let x = and_parts (u.0 == node.0) (m.0 == branch.node.0) t in
    λ i. world.copies (sym (node_equal u node x.0) i) (sym (node_equal m branch.node x.1) i)))
    ∙ ap (λ (s : Bool). cond (u.0 == node.0) (cond ((u.0 == node.0) && s) (old ++ new_copy now number branch.label ∷ []) old
    ++ copies_to now number m more) (cond ((u.0 == node.0) && s) (old ++ new_copy now number branch.label ∷ []) old))
    (eq_turned m.0 branch.node.0)
    ∙ one_more (u.0 == node.0) (branch.node.0 == m.0) old now number branch others

-- The rule holds of the copies of a world, by what is pending.
abbrev pub CopiesKept : (Direction → List SessionMessage) → World → Type 0
CopiesKept pending world = AllKept (seen world.network pending) world.copies world.datagrams

-- the same, of copies in a world with the same network and datagrams
abbrev pub KeptWith : (Direction → List SessionMessage) → World → Copies → Type 0
KeptWith pending world copies = AllKept (seen world.network pending) copies world.datagrams

pub put_kept : (pending : Direction → List SessionMessage) (world : World) (n : NodeId) (fec : Fec) (ttl number : ℕ)
    → ((later : List Datagram) → vpn_of (scenario_of world) fec ≡ origin (scenario_of world) (world.datagrams ++ later) number)
    → CopiesKept pending world
    → KeptWith pending world (with_branches n ttl number (branches_of (part_of (world.network.state.node n)) fec) world).copies
put_kept pending world n fec ttl number fits kept later =
    let all : List Datagram = world.datagrams ++ later in
    let w : LabelNetwork = label_network (seen world.network pending) world.copies all in
    subst Kept (λ i. record w {
      direction = λ u m. record (w.direction u m)
          { copies = sym (branches_put n ttl number (branches_of (part_of (world.network.state.node n)) fec) world u m) i };
    })
    (copied_kept w n fec number (fits later) (kept later))

-- ---- a copy that leaves its link

removed : (t : Bool) (k : ℕ) (old here : List LinkCopy) → (t ≡ true → here ≡ old)
    → cond t (remove (map packet_copy old) k) (map packet_copy old) ≡ map packet_copy (cond t (remove here k) old)
removed true k old here h = sym (map_remove packet_copy old k) ∙ ap (λ (cs : List LinkCopy). map packet_copy (remove cs k)) (sym (h refl))
removed false k old here h = refl

without_is : (world : World) (pending : Direction → List SessionMessage) (all : List Datagram) (a b : NodeId) (place : ℕ)
    → acts.without_copy (label_network (seen world.network pending) world.copies all) a b (place - 1)
    ≡ label_network (seen world.network pending) (without_copy world a b place).copies all
without_is world pending all a b place =
    let w : LabelNetwork = label_network (seen world.network pending) world.copies all in
    λ i. record w {
      direction = λ u m. record (w.direction u m) {
        copies = removed ((u.0 == a.0) && (m.0 == b.0)) (place - 1) (world.copies u m) (world.copies a b)
            (λ t. let x = and_parts (u.0 == a.0) (m.0 == b.0) t in λ j. world.copies (sym (node_equal u a x.0) j) (sym (node_equal m b x.1) j)) i;
      };
    }

pub drop_kept : (pending : Direction → List SessionMessage) (world : World) (a b : NodeId) (place : ℕ) → CopiesKept pending world
    → KeptWith pending world (without_copy world a b place).copies
drop_kept pending world a b place kept later =
    let all : List Datagram = world.datagrams ++ later in
    let w : LabelNetwork = label_network (seen world.network pending) world.copies all in
    subst Kept (without_is world pending all a b place)
    (act_gives w (acts.Drop a b (place - 1)) (acts.without_copy w a b (place - 1)) refl (kept later))

-- ---- a copy that lands

-- the branches on which a copy goes on, by the use of its label
abbrev pub branches_by : NodeId → LabelData → Option LabelUse → List Branch
branches_by a part usage = elim (tree_of a usage) [ None ↦ [] | Some fec ↦ branches_of part fec ]

branches_in : (o : Option Fec) (outs : Fec → List IfaceId) (branches : Fec → List Branch)
    → (elim o as (λ _. Fate) [ None ↦ discarded | Some fec ↦ record { outs = outs fec; branches = branches fec } ]).branches
    ≡ elim o as (λ _. List Branch) [ None ↦ [] | Some fec ↦ branches fec ]
branches_in None outs branches = refl
branches_in (Some fec) outs branches = refl

pub fate_is : (world : World) (b : NodeId) (state : NodeState) (a : NodeId) (label : ℕ) (datagram : Datagram)
    → (fate_at world b state a label datagram).branches ≡ branches_by a (part_of state) (use_of (part_of state) label)
fate_is world b (Edge edge) a label datagram =
    branches_in (tree_of a (use_of edge.part label))
    (λ fec. outs_of (place_of world.network.state b) (clock_of world) edge fec datagram.source datagram.group) (branches_of edge.part)
fate_is world b (CoreNode part) a label datagram = branches_in (tree_of a (use_of part label)) (λ fec. []) (branches_of part)

pub land_kept : (pending : Direction → List SessionMessage) (world : World) (a b : NodeId) → a ≢ b → (place : ℕ) (copy : LinkCopy)
    → slice_get (world.copies a b) (place - 1) ≡ Some copy → (ttl : ℕ) → CopiesKept pending world
    → KeptWith pending world (with_branches b ttl copy.number
    (branches_by a (part_of (world.network.state.node b)) (use_of (part_of (world.network.state.node b)) copy.label))
    (without_copy world a b place)).copies
land_kept pending world a b ne place copy e ttl kept = by (use_of part copy.label) refl
  where
    part : LabelData
    part = part_of (world.network.state.node b)

    gone : World
    gone = without_copy world a b place

    dropped : KeptWith pending world gone.copies
    dropped = drop_kept pending world a b place kept

    -- the label is mapped towards the neighbour from which the copy came
    fits : (fec : Fec) → use_of part copy.label ≡ Some (uses.Mapped fec a) → (later : List Datagram)
        → vpn_of (scenario_of world) fec ≡ origin (scenario_of world) (world.datagrams ++ later) copy.number
    fits fec is later =
        let w : LabelNetwork = label_network (seen world.network pending) world.copies (world.datagrams ++ later) in
        lands_in_vpn w a b (place - 1) (packet_copy copy) fec (kept later).rule ne
        (map_get packet_copy (world.copies a b) (place - 1) ∙ ap (option_map packet_copy) e) is

    toward : (fec : Fec) (upstream : NodeId) (t : Bool) → (upstream.0 == a.0) ≡ t → use_of part copy.label ≡ Some (uses.Mapped fec upstream)
        → KeptWith pending world (with_branches b ttl copy.number (elim (cond t (Some fec) None) [ None ↦ [] | Some own ↦ branches_of part own ])
        gone).copies
    toward fec upstream true t is =
        put_kept pending gone b fec ttl copy.number (fits fec (is ∙ ap (λ (x : NodeId). Some (uses.Mapped fec x)) (node_equal upstream a t))) dropped
    toward fec upstream false t is = dropped

    by : (usage : Option LabelUse) → use_of part copy.label ≡ usage
        → KeptWith pending world (with_branches b ttl copy.number (branches_by a part usage) gone).copies
    by None is = dropped
    by (Some uses.Free) is = dropped
    by (Some (uses.Leaving fec upstream)) is = dropped
    by (Some (uses.Resting until)) is = dropped
    by (Some (uses.Mapped fec upstream)) is = toward fec upstream (upstream.0 == a.0) refl is
