-- What is written and what is owed stays the same as a copy lands, and grows by what a datagram is to be written as it enters.
use Rattle.std.proofs.Common.{◌≡◌, ℕ, zero, suc, ◌+◌, ◌-◌, ◌<◌, ◌≤◌, nat_le, Bool, true, false, cond, length, List, [], ◌∷◌, Option, None, Some, Ok, is_some, refl, sym, ap, subst, inl, inr, ◌∙◌, arith}
use Rattle.std.specs.Prelude.{◌==◌, sum_by, count_by, slice_get}
use Rattle.std.specs.List.{AllByRecursion, remove}
use Rattle.std.specs.FinSet as sets
use Rattle.std.proofs.lemmas.Bool.{cases_Bool, cond_both, eqb-true, leb-false, true≢false}
use Rattle.std.proofs.lemmas.List.Sums.{sum_by-remove}
use Rattle.std.proofs.lemmas.Option.{slice_get_within, get_or_from_slice_get, slice_get_cases}
use Rattle.mv_base.specs.declared.ids.IfaceId.{IfaceId}
use Rattle.mv_base.specs.declared.ids.NodeId.{NodeId}
use Rattle.mv_base.specs.declared.ids.VrfId.{VrfId}
use Rattle.mldp.specs.declared.mldp_fec.fec.Fec.{Fec}
use Rattle.label_defs.specs.LabelData.{LabelData, use_of, branches_of}
use Rattle.label_defs.specs.declared.branch.Branch.{Branch}
use Rattle.label_defs.proofs.MemberLemmas.{count-cons}
use Rattle.scenario_defs.specs.declared.report.ReportLine.{ReportLine}
use Rattle.scenario_defs.specs.declared.report.ReportLine.TheVariants as lines
use Rattle.scenario_defs.specs.declared.scenario.Vrf.{Vrf}
use Rattle.mvpn_model.specs.Report.{is_out_at}
use Rattle.network_defs.specs.session_defs.Octets.{OctetNetwork}
use Rattle.edge_defs.specs.Datagrams.{Fate, discarded, tree_of, outs_of, is_from_site}
use Rattle.edge_defs.specs.Place.{OwnVrf}
use Rattle.edge_defs.specs.Tunnels.{transmit_tunnel, is_joined_in}
use Rattle.edge_defs.specs.Upstream.{upstream_for}
use Rattle.network_defs.specs.Acts.{Act, Enter, Land, Tell, Acted, act, copy_on, datagram_at, enters_at, entering, fate_at, with_ttl, landed, without_copy, landing}
use Rattle.network_defs.specs.Counts.{link_ways}
use Rattle.network_defs.specs.Nodes.{NodeState, Edge, CoreNode, Nodes, part_of, place_of}
use Rattle.network_defs.specs.World.{World, Datagram, LinkCopy, scenario_of, clock_of}
use Rattle.network_defs.proofs.Numbered.{numbered_at}
use Rattle.network_defs.proofs.Kept.{branches_keep, branches_datagrams}
use Rattle.delivery_laws.specs.Flood.{Fates, times_at, written_below, bare, fates_in, owed_by, total, is_way, SoundCopy, OnLinks, fate_of_entry, written_by, written_from, outs_in}
use Rattle.delivery_laws.proofs.Totals.{total-replaced}
use Rattle.delivery_laws.proofs.Listed.{each_of_tree}
use Rattle.delivery_laws.proofs.Copies.{all_at, all_but_one, EachCopy, each_replaced, branches_each, fated_flow}
use Rattle.network_laws.proofs.Lists.{each_weaker}

-- ---- branches lead along links

abbrev AreLinked : OctetNetwork Nodes → NodeId → List Branch → Type 0
AreLinked network n list = AllByRecursion (λ branch. count_by (is_way n branch.node) (link_ways network.state.scenario) ≡ 1) list

abbrev IsLinked : OctetNetwork Nodes → NodeId → Branch → Type 0
IsLinked network n branch = count_by (is_way n branch.node) (link_ways network.state.scenario) ≡ 1

-- each branch of a node
abbrev HasLinked : OctetNetwork Nodes → NodeId → LabelData → Type 0
HasLinked network n part = (branch : Branch) → sets.contains part.branches branch ≡ true → IsLinked network n branch

tree_linked : (network : OctetNetwork Nodes) (n : NodeId) (part : LabelData) → HasLinked network n part → (fec : Fec)
    → AreLinked network n (branches_of part fec)
tree_linked network n part h fec = each_of_tree (IsLinked network n) part h fec

abbrev fate_on : (Fec → List IfaceId) → (Fec → List Branch) → Option Fec → Fate
fate_on outs branches o = elim o [ None ↦ discarded | Some fec ↦ record { outs = outs fec; branches = branches fec } ]

fate_on_linked : (network : OctetNetwork Nodes) (n : NodeId) (part : LabelData) (outs : Fec → List IfaceId) → HasLinked network n part
    → (o : Option Fec) → AreLinked network n (fate_on outs (branches_of part) o).branches
fate_on_linked network n part outs h None = tt
fate_on_linked network n part outs h (Some fec) = tree_linked network n part h fec

fate_linked : (world : World) (network : OctetNetwork Nodes) (n : NodeId) (node : NodeState) → HasLinked network n (part_of node)
    → (from : NodeId) (label : ℕ) (datagram : Datagram) → AreLinked network n (fate_at world n node from label datagram).branches
fate_linked world network n (Edge edge) h from label datagram =
    fate_on_linked network n edge.part (λ fec. outs_of (place_of world.network.state n) (clock_of world) edge fec datagram.source datagram.group) h
    (tree_of from (use_of edge.part label))
fate_linked world network n (CoreNode part) h from label datagram = fate_on_linked network n part (λ fec. []) h (tree_of from (use_of part label))

entry_linked : (network : OctetNetwork Nodes) (datagram : Datagram) (id : VrfId) (vrf : Vrf) (node : NodeState)
    → HasLinked network vrf.edge (part_of node) → AreLinked network vrf.edge (fate_of_entry network datagram id vrf node).branches
entry_linked network datagram id vrf (CoreNode part) h = tt
entry_linked network datagram id vrf (Edge edge) h =
    let place = place_of network.state vrf.edge in
    let own : OwnVrf = record { id = id; vrf = vrf } in
    let fec = transmit_tunnel place edge.control own datagram.source datagram.group in
    let branches = cond (is_joined_in place edge.control own datagram.source datagram.group) (branches_of edge.part fec) [] in
    cond_both (is_from_site datagram.site (upstream_for place edge.control own datagram.source datagram.group))
    (record { outs = _; branches = branches }) discarded (λ (fate : Fate). AreLinked network vrf.edge fate.branches)
    (λ t. cond_both (is_joined_in place edge.control own datagram.source datagram.group) (branches_of edge.part fec) [] (AreLinked network vrf.edge)
    (λ j. tree_linked network vrf.edge edge.part h fec) (λ j. tt))
    (λ f. tt)

-- the fate of a copy does not rest on the links
fate_bare : (world : World) (n : NodeId) (node : NodeState) (from : NodeId) (label : ℕ) (datagram : Datagram)
    → fate_at world n node from label datagram ≡ fate_at (bare world.network) n node from label datagram
fate_bare world n (Edge edge) from label datagram = refl
fate_bare world n (CoreNode part) from label datagram = refl

-- ---- what a landing writes

ttl_outs : (ttl : ℕ) (fate : Fate) → (with_ttl ttl fate).outs ≡ fate.outs
ttl_outs ttl fate = by (nat_le ttl 1)
  where
    by : (b : Bool) → (cond b (record fate { branches = [] }) fate).outs ≡ fate.outs
    by true = refl
    by false = refl

-- A copy owes what its landing writes and the copies then owe.
lands_below : (fates : Fates) (iface : IfaceId) (ttl : ℕ) (from to : NodeId) (label : ℕ)
    → times_at iface (with_ttl ttl (fates from to label)).outs + sum_by (λ branch. written_below fates iface (ttl - 1) to branch.node branch.label)
    (with_ttl ttl (fates from to label)).branches ≡ written_below fates iface ttl from to label
lands_below fates iface zero from to label = omega arith
lands_below fates iface (suc ttl) from to label =
    let less : suc ttl - 1 ≡ ttl = omega arith in
    let below =
    λ (t : ℕ). sum_by (λ (branch : Branch). written_below fates iface t to branch.node branch.label)
    (with_ttl (suc ttl) (fates from to label)).branches in
    ap (λ (l : List IfaceId). times_at iface l + below (suc ttl - 1)) (ttl_outs (suc ttl) (fates from to label))
    ∙ ap (λ t. times_at iface (fates from to label).outs + below t) less

-- ---- the network after an act

-- The network and the datagrams are as before, each copy is sound, and what was written and what is owed has grown by so much.
pub record Moved (number : ℕ) (datagram : Datagram) (iface : IfaceId) (old : World) (gain : ℕ) (all : List ReportLine) (new : World) : Type 0 where
  pub network : new.network ≡ old.network
  pub datagrams : new.datagrams ≡ old.datagrams
  pub sound : EachCopy (SoundCopy (link_ways (scenario_of old)) (length old.datagrams)) new.copies
  pub flow : outs_in number iface all + total (owed_by (fates_in old.network datagram) number iface) (link_ways (scenario_of old)) new.copies
      ≡ total (owed_by (fates_in old.network datagram) number iface) (link_ways (scenario_of old)) old.copies + gain

abbrev pub AreSound : World → Type 0
AreSound world = EachCopy (SoundCopy (link_ways (scenario_of world)) (length world.datagrams)) world.copies

-- the datagram of that number, once it was sent
abbrev pub IsDatagram : ℕ → Datagram → World → Type 0
IsDatagram number datagram world = number ≤ length world.datagrams → datagram_at world number ≡ Some datagram

still : (number : ℕ) (datagram : Datagram) (iface : IfaceId) (world : World) (all : List ReportLine) → outs_in number iface all ≡ 0 → AreSound world
    → Moved number datagram iface world 0 all world
still number datagram iface world all h sound = record { network = refl; datagrams = refl; sound = sound; flow = omega (arith, h) }

-- ---- a copy lands

linked_sound : (ways : List (NodeId × NodeId)) (count : ℕ) (node : NodeId) (world : World) (ttl own : ℕ) → 0 < own → own ≤ count → 0 < ttl → ttl ≤ 255
    → (list : List Branch) → AllByRecursion (λ branch. count_by (is_way node branch.node) ways ≡ 1) list
    → AllByRecursion (λ branch. SoundCopy ways count node branch.node (copy_on world ttl own branch)) list
linked_sound ways count node world ttl own a b c d list h =
    each_weaker (λ (branch : Branch). count_by (is_way node branch.node) ways ≡ 1)
    (λ branch. SoundCopy ways count node branch.node (copy_on world ttl own branch))
    (λ branch is. record { on_way = is; counted = a; known = b; alive = c; bounded = d }) list h

ttl_linked : (network : OctetNetwork Nodes) (n : NodeId) (ttl : ℕ) (fate : Fate) → AreLinked network n fate.branches
    → AreLinked network n (with_ttl ttl fate).branches
ttl_linked network n ttl fate h =
    cond_both (nat_le ttl 1) (record fate { branches = [] }) fate (λ (x : Fate). AreLinked network n x.branches) (λ t. tt) (λ f. h)

-- the copies that are put where one lands
ttl_sound : (ways : List (NodeId × NodeId)) (count : ℕ) (node : NodeId) (world : World) (ttl own : ℕ) → 0 < own → own ≤ count → ttl ≤ 255
    → (fate : Fate) → AllByRecursion (λ branch. count_by (is_way node branch.node) ways ≡ 1) fate.branches
    → AllByRecursion (λ branch. SoundCopy ways count node branch.node (copy_on world (ttl - 1) own branch)) (with_ttl ttl fate).branches
ttl_sound ways count node world ttl own a b d fate h =
    cond_both (nat_le ttl 1) (record fate { branches = [] }) fate
    (λ (x : Fate). AllByRecursion (λ branch. SoundCopy ways count node branch.node (copy_on world (ttl - 1) own branch)) x.branches)
    (λ t. tt)
    (λ f. let more : 1 < ttl = leb-false ttl 1 f in
    linked_sound ways count node world (ttl - 1) own a b (omega (arith, more)) (omega (arith, d)) fate.branches h)

-- the acts of a window
abbrev pub IsWindowAct : List Datagram → Act → Type 0
IsWindowAct datagrams (Enter id) = 0 < length datagrams
IsWindowAct datagrams (Land from to place) = Unit {0}
IsWindowAct datagrams Tell = Unit {0}
IsWindowAct datagrams other = ⊥

-- how often what an act lets in is to be written
abbrev pub gain_of : ℕ → Datagram → IfaceId → OctetNetwork Nodes → List Datagram → Act → ℕ
gain_of number datagram iface network datagrams (Enter id) =
    cond (length datagrams == number) (written_from network datagram iface id (slice_get network.state.scenario.vrfs id.0)) 0
gain_of number datagram iface network datagrams other = 0

module _ (number : ℕ) (datagram : Datagram) (iface : IfaceId) (world : World) (links : OnLinks world.network) (sound : AreSound world)
    (is : IsDatagram number datagram world) where
  abbrev ways : List (NodeId × NodeId)
  ways = link_ways (scenario_of world)

  abbrev fates : Fates
  fates = fates_in world.network datagram

  abbrev owed : (NodeId → NodeId → List LinkCopy) → ℕ
  owed copies = total (owed_by fates number iface) ways copies

  -- What a copy owes is what its landing writes, and the copies that are put then owe.
  landing_pays : (from to : NodeId) (copy : LinkCopy) → copy.number ≤ length world.datagrams → (own : Datagram)
      → datagram_at world copy.number ≡ Some own → (fate : Fate) → fate ≡ with_ttl copy.ttl (fates_in world.network own from to copy.label)
      → cond (copy.number == number) (times_at iface fate.outs + sum_by
      (λ branch. written_below fates iface (copy.ttl - 1) to branch.node branch.label) fate.branches) 0 ≡ owed_by fates number iface from to copy
  landing_pays from to copy le own at fate e = elim (cases_Bool (copy.number == number)) [
    | inl t ↦
        let same : copy.number ≡ number = eqb-true copy.number number t in
        let there : datagram_at world copy.number ≡ Some datagram =
        subst (λ n. datagram_at world n ≡ Some datagram) (sym same) (is (omega (arith, same, le))) in
        let one : own ≡ datagram = cc in
        ap (λ b. cond b (times_at iface fate.outs + sum_by (λ (branch : Branch). written_below fates iface (copy.ttl - 1) to branch.node branch.label)
        fate.branches) 0) t
        ∙ ap (λ (f : Fate). times_at iface f.outs + sum_by (λ (branch : Branch). written_below fates iface (copy.ttl - 1) to branch.node branch.label)
        f.branches) (e ∙ ap (λ (d : Datagram). with_ttl copy.ttl (fates_in world.network d from to copy.label)) one)
        ∙ lands_below fates iface copy.ttl from to copy.label
        ∙ sym (ap (λ b. cond b (written_below fates iface copy.ttl from to copy.label) 0) t)
    | inr f ↦
        ap (λ b. cond b (times_at iface fate.outs + sum_by (λ (branch : Branch). written_below fates iface (copy.ttl - 1) to branch.node branch.label)
        fate.branches) 0) f
        ∙ sym (ap (λ b. cond b (written_below fates iface copy.ttl from to copy.label) 0) f)
  ]

  landed_moves : (from to : NodeId) (place : ℕ) (copy : LinkCopy) → slice_get (world.copies from to) (place - 1) ≡ Some copy → (o : Option Datagram)
      → datagram_at world copy.number ≡ o
      → Moved number datagram iface world 0 (landed (without_copy world from to place) from to copy o).lines
      (landed (without_copy world from to place) from to copy o).world
  landed_moves from to place copy at None e =
      let s = all_at (SoundCopy ways (length world.datagrams) from to) (world.copies from to) (place - 1) copy (sound from to) at in
      absurd (elim (slice_get_cases world.datagrams (copy.number - 1)).1 [
        | inl there ↦ true≢false (ap is_some (sym there.2 ∙ sym (numbered_at world.datagrams copy.number s.counted) ∙ e))
        | inr past ↦ omega (arith, past.0, s.known, s.counted)
      ])
  landed_moves from to place copy at (Some own) e =
      let old = world.copies from to in
      let s = all_at (SoundCopy ways (length world.datagrams) from to) old (place - 1) copy (sound from to) at in
      let within = slice_get_within old (place - 1) copy at in
      let rest = remove old (place - 1) in
      let before = without_copy world from to place in
      let node = world.network.state.node to in
      let fate = with_ttl copy.ttl (fate_at before to node from copy.label own) in
      let linked : AreLinked world.network to fate.branches =
      ttl_linked world.network to copy.ttl (fate_at before to node from copy.label own)
      (fate_linked before world.network to node (links to) from copy.label own) in
      let first = lines.Land from to copy.label copy.number ∷ [] in
      let each : EachCopy (SoundCopy ways (length world.datagrams)) before.copies =
      each_replaced (SoundCopy ways (length world.datagrams)) from to rest world.copies
      (all_but_one (SoundCopy ways (length world.datagrams) from to) old (place - 1) (sound from to)) sound in
      let same : fate ≡ with_ttl copy.ttl (fates_in world.network own from to copy.label) =
      ap (with_ttl copy.ttl) (fate_bare before to node from copy.label own) in
      let pays = landing_pays from to copy s.known own e fate same in
      let taken : sum_by (owed_by fates number iface from to) rest + owed_by fates number iface from to copy
      ≡ sum_by (owed_by fates number iface from to) old =
      ap (λ (c : LinkCopy). sum_by (owed_by fates number iface from to) rest + owed_by fates number iface from to c)
      (sym (get_or_from_slice_get old (place - 1) copy copy at))
      ∙ sum_by-remove (owed_by fates number iface from to) old (place - 1) copy within in
      record {
        network = branches_keep to (copy.ttl - 1) copy.number fate.branches before;
        datagrams = branches_datagrams to (copy.ttl - 1) copy.number fate.branches before;
        sound = branches_each (SoundCopy ways (length world.datagrams)) to (copy.ttl - 1) copy.number fate.branches before
            (ttl_sound ways (length world.datagrams) to before copy.ttl copy.number s.counted s.known s.bounded
            (fate_at before to node from copy.label own) (fate_linked before world.network to node (links to) from copy.label own)) each;
        flow = omega (
          arith,
          fated_flow fates ways number iface before to (copy.ttl - 1) copy.number own.octets first fate linked,
          total-replaced (owed_by fates number iface) from to rest world.copies ways s.on_way,
          taken,
          pays,
          count-cons (is_out_at number iface) (lines.Land from to copy.label copy.number) [],
        );
      }

  landing_moves : (from to : NodeId) (place : ℕ) (o : Option LinkCopy) → slice_get (world.copies from to) (place - 1) ≡ o
      → Moved number datagram iface world 0 (landing world from to place o).lines (landing world from to place o).world
  landing_moves from to place None e = still number datagram iface world [] refl sound
  landing_moves from to place (Some copy) e = landed_moves from to place copy e (datagram_at world copy.number) refl

  -- ---- a datagram enters

  enters_moves : 0 < length world.datagrams → (id : VrfId) (vrf : Vrf) (node : NodeState) → node ≡ world.network.state.node vrf.edge
      → (own : Datagram) → datagram_at world (length world.datagrams) ≡ Some own
      → Moved number datagram iface world (cond (length world.datagrams == number)
      (written_by world.network datagram iface vrf.edge (fate_of_entry world.network datagram id vrf node)) 0)
      (enters_at world (record { id = id; vrf = vrf }) node own).lines (enters_at world (record { id = id; vrf = vrf }) node own).world
  enters_moves some id vrf (CoreNode part) isnode own e =
      subst (λ gain. Moved number datagram iface world gain [] world) (sym (by (length world.datagrams == number)))
      (still number datagram iface world [] refl sound)
    where
      by : (b : Bool) → cond {A = ℕ} b 0 0 ≡ 0
      by true = refl
      by false = refl
  enters_moves some id vrf (Edge edge) isnode own e =
      let count = length world.datagrams in
      let fate = fate_of_entry world.network own id vrf (Edge edge) in
      let linked : AreLinked world.network vrf.edge fate.branches =
      entry_linked world.network own id vrf (Edge edge)
      (subst (λ (n : NodeState). HasLinked world.network vrf.edge (part_of n)) (sym isnode) (links vrf.edge)) in
      let gain =
      λ (f : Fate). times_at iface f.outs + sum_by (λ (branch : Branch). written_below fates iface 255 vrf.edge branch.node branch.label)
      f.branches in
      let pays : cond (count == number) (gain fate) 0 ≡ cond (count == number) (gain (fate_of_entry world.network datagram id vrf (Edge edge))) 0 =
      elim (cases_Bool (count == number)) [
        | inl t ↦
            let same : count ≡ number = eqb-true count number t in
            let there : datagram_at world count ≡ Some datagram =
            subst (λ n. datagram_at world n ≡ Some datagram) (sym same) (is (omega (arith, same))) in
            let one : own ≡ datagram = cc in
            ap (λ (d : Datagram). cond (count == number) (gain (fate_of_entry world.network d id vrf (Edge edge))) 0) one
        | inr f ↦ ap (λ b. cond b (gain fate) 0) f ∙ sym (ap (λ b. cond b (gain (fate_of_entry world.network datagram id vrf (Edge edge))) 0) f)
      ] in
      record {
        network = branches_keep vrf.edge 255 count fate.branches world;
        datagrams = branches_datagrams vrf.edge 255 count fate.branches world;
        sound = branches_each (SoundCopy ways count) vrf.edge 255 count fate.branches world
            (linked_sound ways count vrf.edge world 255 count some (omega arith) (omega arith) (omega arith) fate.branches linked) sound;
        flow = omega (arith, fated_flow fates ways number iface world vrf.edge 255 count own.octets [] fate linked, pays);
      }

  entering_moves : 0 < length world.datagrams → (id : VrfId) (v : Option Vrf) (o : Option Datagram) → datagram_at world (length world.datagrams) ≡ o
      → Moved number datagram iface world (cond (length world.datagrams == number) (written_from world.network datagram iface id v) 0)
      (entering world id v o).lines (entering world id v o).world
  entering_moves some id None o e =
      subst (λ gain. Moved number datagram iface world gain [] world) (sym (by (length world.datagrams == number)))
      (still number datagram iface world [] refl sound)
    where
      by : (b : Bool) → cond {A = ℕ} b 0 0 ≡ 0
      by true = refl
      by false = refl
  entering_moves some id (Some vrf) None e =
      absurd (elim (slice_get_cases world.datagrams (length world.datagrams - 1)).1 [
        | inl there ↦ true≢false (ap is_some (sym there.2 ∙ sym (numbered_at world.datagrams (length world.datagrams) some) ∙ e))
        | inr past ↦ omega (arith, past.0, some)
      ])
  entering_moves some id (Some vrf) (Some own) e = enters_moves some id vrf (world.network.state.node vrf.edge) refl own e

  -- ---- acts

  pub act_moves : (one : Act) → IsWindowAct world.datagrams one
      → (acted : Acted) × (act world one ≡ Ok acted)
      × Moved number datagram iface world (gain_of number datagram iface world.network world.datagrams one) acted.lines acted.world
  act_moves (Enter id) some =
      (_, refl, entering_moves some id (slice_get (scenario_of world).vrfs id.0) (datagram_at world (length world.datagrams)) refl)
  act_moves (Land from to place) h = (_, refl, landing_moves from to place (slice_get (world.copies from to) (place - 1)) refl)
  act_moves Tell h = (_, refl, still number datagram iface world _ refl sound)
  act_moves other h = absurd h
