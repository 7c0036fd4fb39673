-- The `out` lines of a copy that lands, and of a datagram that enters, are admitted.
use Rattle.std.specs.Prelude.{⊤}
use Rattle.std.specs.Prelude.{Result, Ok, Err}
use Rattle.std.proofs.Common.{◌≡◌, ◌≢◌, ◌-◌, ◌++◌, ◌==◌, nat_le, ℕ, Bool, true, false, cond, map, filter, List, [], ◌∷◌, length, slice_get, option_map, Option, Some, None, refl, sym, ap, subst, ◌∙◌}
use Rattle.std.specs.List.{AllByRecursion}
use Rattle.std.proofs.lemmas.List.{append-nil}
use Rattle.std.proofs.lemmas.Option.{same_Some, none-some}
use Rattle.mv_base.specs.declared.ids.IfaceId.{IfaceId}
use Rattle.mv_base.specs.declared.ids.NodeId.{NodeId}
use Rattle.mv_base.specs.declared.ids.VrfId.{VrfId}
use Rattle.mldp.specs.declared.mldp_fec.fec.Fec.{Fec}
use Rattle.mvpn_model.specs.Safe.{IsAdmitted}
use Rattle.scenario_defs.specs.Rules.{Rules}
use Rattle.scenario_defs.specs.Vpn.{is_attached_at}
use Rattle.scenario_defs.specs.declared.report.ReportLine.{ReportLine}
use Rattle.scenario_defs.specs.declared.report.ReportLine.TheVariants as lines
use Rattle.scenario_defs.specs.declared.scenario.Scenario.{Scenario}
use Rattle.scenario_defs.specs.declared.scenario.Vrf.{Vrf}
use Rattle.label_defs.specs.LabelData.{use_of, branches_of}
use Rattle.label_defs.specs.declared.branch.Branch.{Branch}
use Rattle.label_defs.specs.declared.label_use.LabelUse.{LabelUse}
use Rattle.label_defs.specs.declared.label_use.LabelUse.TheVariants as uses
use Rattle.label_defs.proofs.KeyLemmas.{node_equal}
use Rattle.label_laws.proofs.Copies.{lands_in_vpn}
use Rattle.network_defs.specs.session_defs.Refined.{seen}
use Rattle.edge_defs.specs.Datagrams.{Fate, discarded, tree_of, is_from_site, is_outside, outs_of, entering_fate}
use Rattle.edge_defs.specs.Flows.{asking_ifaces}
use Rattle.edge_defs.specs.Place.{EdgePlace, OwnVrf}
use Rattle.edge_defs.specs.Tunnels.{transmit_tunnel, is_joined_in}
use Rattle.edge_defs.specs.Upstream.{upstream_for}
use Rattle.network_defs.specs.Acts.{Enter, Land, Acted, hop_line, fated, datagram_at, enters_at, entering, fate_at, with_ttl, landed, without_copy, landing, act}
use Rattle.network_defs.specs.LabelRule.{IsTunnelFor}
use Rattle.network_defs.specs.Nodes.{NodeState, Edge, CoreNode, place_of, part_of}
use Rattle.network_defs.specs.Refusals.{control_of}
use Rattle.network_defs.specs.World.{World, Datagram, LinkCopy, scenario_of, clock_of, numbered}
use Rattle.network_laws.proofs.Lists.{each_append, each_map, each_of, each_weaker}
use Rattle.rule_laws.specs.Labels.{packet_copy, label_network, origin}
use Rattle.rule_laws.specs.Outs.{IsAdmittedLine}
use Rattle.rule_laws.proofs.Acts.{InStep}
use Rattle.rule_laws.proofs.Admits.{entering_outs, landing_outs, HonestControl}
use Rattle.rule_laws.proofs.Full.{tunnel_for}
use Rattle.rule_laws.proofs.Copies.{map_get}

-- ---- lines

-- what is said of the lines of an act
abbrev pub Says : (ReportLine → Type 0) → Result Acted NodeId → Type 0
Says P (Err node) = ⊤
Says P (Ok new) = AllByRecursion P new.lines

fated_says : (scenario : Scenario) (world : World) (node : NodeId) (ttl number : ℕ) (datagram : Datagram) (before : List ReportLine) (fate : Fate)
    → numbered world.datagrams number ≡ Some datagram → AllByRecursion (IsAdmittedLine scenario world.datagrams) before
    → AllByRecursion (λ (iface : IfaceId). IsAdmitted scenario iface datagram.site) fate.outs
    → AllByRecursion (IsAdmittedLine scenario world.datagrams) (fated world node ttl number datagram.octets before fate).lines
fated_says scenario world node ttl number datagram before fate sent first outs =
    let P : ReportLine → Type 0 = IsAdmittedLine scenario world.datagrams in
    each_append P before (map (λ iface. lines.Out number iface datagram.octets) fate.outs ++ map (hop_line node ttl number) fate.branches) first
    (each_append P (map (λ iface. lines.Out number iface datagram.octets) fate.outs) (map (hop_line node ttl number) fate.branches)
    (each_map P (λ iface. lines.Out number iface datagram.octets) fate.outs
    (each_weaker (λ (iface : IfaceId). IsAdmitted scenario iface datagram.site) (λ iface. P (lines.Out number iface datagram.octets))
    (λ iface is. record { datagram = datagram; sent = sent; carried = refl; admitted = is }) fate.outs outs))
    (each_map P (hop_line node ttl number) fate.branches
    (each_of (λ (branch : Branch). P (hop_line node ttl number branch)) (λ branch. tt) fate.branches)))

-- ---- a copy that lands

outs_by : (o : Option Fec) (outs : Fec → List IfaceId) (branches : Fec → List Branch) (P : IfaceId → Type 0)
    → ((fec : Fec) → o ≡ Some fec → AllByRecursion P (outs fec))
    → AllByRecursion P (elim o as (λ _. Fate) [ None ↦ discarded | Some fec ↦ record { outs = outs fec; branches = branches fec } ]).outs
outs_by None outs branches P h = tt
outs_by (Some fec) outs branches P h = h fec refl

-- the tree of a label is that to which it is mapped towards the neighbour
pub mapped_towards : (a : NodeId) (usage : Option LabelUse) (fec : Fec) → tree_of a usage ≡ Some fec → usage ≡ Some (uses.Mapped fec a)
mapped_towards a None fec e = absurd (none-some fec e)
mapped_towards a (Some uses.Free) fec e = absurd (none-some fec e)
mapped_towards a (Some (uses.Leaving own v)) fec e = absurd (none-some fec e)
mapped_towards a (Some (uses.Resting until)) fec e = absurd (none-some fec e)
mapped_towards a (Some (uses.Mapped own v)) fec e = by (v.0 == a.0) refl e
  where
    by : (b : Bool) → (v.0 == a.0) ≡ b → cond b (Some own) None ≡ Some fec → Some (uses.Mapped own v) ≡ Some (uses.Mapped fec a)
    by true t h = λ i. Some (uses.Mapped (same_Some own fec h i) (node_equal v a t i))
    by false t h = absurd (none-some fec h)

ttl_outs : (P : IfaceId → Type 0) (b : Bool) (fate : Fate) → AllByRecursion P fate.outs
    → AllByRecursion P (cond b (record fate { branches = [] }) fate).outs
ttl_outs P true fate h = h
ttl_outs P false fate h = h

pub land_says : (scenario : Scenario) (world : World) (a b : NodeId) (place : ℕ) → a ≢ b → InStep scenario world
    → Says (IsAdmittedLine (scenario_of world) world.datagrams) (act world (Land a b place))
land_says scenario world a b place ne (pending, are, good) = by (slice_get (world.copies a b) (place - 1)) refl
  where
    tunnel : (copy : LinkCopy) → slice_get (world.copies a b) (place - 1) ≡ Some copy → (fec : Fec)
        → use_of (part_of (world.network.state.node b)) copy.label ≡ Some (uses.Mapped fec a) → IsTunnelFor world copy.number fec
    tunnel copy e fec used =
        let w = label_network (seen world.network pending) world.copies (world.datagrams ++ []) in
        tunnel_for world fec copy.number
        (lands_in_vpn w a b (place - 1) (packet_copy copy) fec (good.kept []).rule ne
        (map_get packet_copy (world.copies a b) (place - 1) ∙ ap (option_map packet_copy) e) used
        ∙ ap (λ (ds : List Datagram). origin (scenario_of world) ds copy.number) (append-nil world.datagrams))

    rules : Rules (scenario_of world)
    rules = subst (λ (own : Scenario). Rules own) (sym good.base.sound.same) good.base.sound.lines.rules

    honest : (state : NodeState) → world.network.state.node b ≡ state → HonestControl (scenario_of world) (control_of state)
    honest state e =
        subst (λ (s : NodeState). HonestControl (scenario_of world) (control_of s)) e (λ u key route h. good.edges.2.honest.taken u b key route h)

    outs : (copy : LinkCopy) → slice_get (world.copies a b) (place - 1) ≡ Some copy → (datagram : Datagram)
        → datagram_at world copy.number ≡ Some datagram → (state : NodeState) → world.network.state.node b ≡ state
        → AllByRecursion (λ (iface : IfaceId). IsAdmitted (scenario_of world) iface datagram.site)
        (fate_at (without_copy world a b place) b state a copy.label datagram).outs
    outs copy e datagram sent (CoreNode part) at =
        outs_by (tree_of a (use_of part copy.label)) (λ fec. []) (branches_of part)
        (λ (iface : IfaceId). IsAdmitted (scenario_of world) iface datagram.site) (λ fec is. tt)
    outs copy e datagram sent (Edge edge) at =
        outs_by (tree_of a (use_of edge.part copy.label))
        (λ fec. outs_of (place_of world.network.state b) (clock_of world) edge fec datagram.source datagram.group) (branches_of edge.part)
        (λ (iface : IfaceId). IsAdmitted (scenario_of world) iface datagram.site) (λ fec is.
        let used : use_of (part_of (world.network.state.node b)) copy.label ≡ Some (uses.Mapped fec a) =
        ap (λ (s : NodeState). use_of (part_of s) copy.label) at ∙ mapped_towards a (use_of edge.part copy.label) fec is in
        let t = tunnel copy e fec used in
        let one : t.datagram ≡ datagram = same_Some t.datagram datagram (sym t.sent ∙ sent) in
        subst (λ (d : Datagram). AllByRecursion (λ (iface : IfaceId). IsAdmitted (scenario_of world) iface d.site)
        (outs_of (place_of world.network.state b) (clock_of world) edge fec datagram.source datagram.group)) one
        (landing_outs world b (clock_of world) edge copy.number fec datagram.source datagram.group rules (honest (Edge edge) at) t))

    found : (copy : LinkCopy) → slice_get (world.copies a b) (place - 1) ≡ Some copy → (d : Option Datagram) → datagram_at world copy.number ≡ d
        → AllByRecursion (IsAdmittedLine (scenario_of world) world.datagrams) (landed (without_copy world a b place) a b copy d).lines
    found copy e None sent = tt
    found copy e (Some datagram) sent =
        let gone : World = without_copy world a b place in
        let fate : Fate = fate_at gone b (world.network.state.node b) a copy.label datagram in
        fated_says (scenario_of world) gone b (copy.ttl - 1) copy.number datagram (lines.Land a b copy.label copy.number ∷ [])
        (with_ttl copy.ttl fate) sent (tt, tt)
        (ttl_outs (λ (iface : IfaceId). IsAdmitted (scenario_of world) iface datagram.site) (nat_le copy.ttl 1) fate
        (outs copy e datagram sent (world.network.state.node b) refl))

    by : (o : Option LinkCopy) → slice_get (world.copies a b) (place - 1) ≡ o
        → AllByRecursion (IsAdmittedLine (scenario_of world) world.datagrams) (landing world a b place o).lines
    by None e = tt
    by (Some copy) e = found copy e (datagram_at world copy.number) refl

-- ---- a datagram that enters

pub enter_says : (scenario : Scenario) (world : World) (id : VrfId)
    → ((datagram : Datagram) → datagram_at world (length world.datagrams) ≡ Some datagram
    → is_attached_at (scenario_of world) id datagram.site ≡ true) → InStep scenario world
    → Says (IsAdmittedLine (scenario_of world) world.datagrams) (act world (Enter id))
enter_says scenario world id attached (pending, are, good) =
    by (slice_get (scenario_of world).vrfs id.0) (datagram_at world (length world.datagrams)) refl
  where
    rules : Rules (scenario_of world)
    rules = subst (λ (own : Scenario). Rules own) (sym good.base.sound.same) good.base.sound.lines.rules

    at : (vrf : Vrf) (state : NodeState) (datagram : Datagram) → datagram_at world (length world.datagrams) ≡ Some datagram
        → AllByRecursion (IsAdmittedLine (scenario_of world) world.datagrams) (enters_at world (record { id = id; vrf = vrf }) state datagram).lines
    at vrf (CoreNode part) datagram sent = tt
    at vrf (Edge edge) datagram sent =
        let own : OwnVrf = record { id = id; vrf = vrf } in
        let place : EdgePlace = place_of world.network.state vrf.edge in
        fated_says (scenario_of world) world vrf.edge 255 (length world.datagrams) datagram []
        (entering_fate place (clock_of world) edge own datagram.site datagram.source datagram.group) sent tt
        (entered (is_from_site datagram.site (upstream_for place edge.control own datagram.source datagram.group)))
      where
        entered : (b : Bool) → AllByRecursion (λ (iface : IfaceId). IsAdmitted (scenario_of world) iface datagram.site) (cond {A = Fate} b (record {
          outs = filter (is_outside (scenario_of world) datagram.site)
              (asking_ifaces (place_of world.network.state vrf.edge) (clock_of world) edge.control (record { id = id; vrf = vrf }) datagram.source
              datagram.group);
          branches =
              cond (is_joined_in (place_of world.network.state vrf.edge) edge.control (record { id = id; vrf = vrf }) datagram.source datagram.group)
              (branches_of edge.part (transmit_tunnel (place_of world.network.state vrf.edge) edge.control (record { id = id; vrf = vrf })
              datagram.source datagram.group)) [];
        }) discarded).outs
        entered true =
            entering_outs (place_of world.network.state vrf.edge) rules (clock_of world) edge.control (record { id = id; vrf = vrf }) datagram.site
            datagram.source datagram.group (attached datagram sent)
        entered false = tt

    by : (o : Option Vrf) (d : Option Datagram) → datagram_at world (length world.datagrams) ≡ d
        → AllByRecursion (IsAdmittedLine (scenario_of world) world.datagrams) (entering world id o d).lines
    by (Some vrf) (Some datagram) sent = at vrf (world.network.state.node vrf.edge) datagram sent
    by (Some vrf) None sent = tt
    by None d sent = tt

-- ---- where the act is done

pub said_of : (P : ReportLine → Type 0) (o : Result Acted NodeId) (acted : Acted) → Says P o → o ≡ Ok acted → AllByRecursion P acted.lines
said_of P o acted says e = subst (Says P) e says
