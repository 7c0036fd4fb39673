-- The label rule of the whole network, from that of its network of label nodes.
use Rattle.std.specs.Prelude.{Contains}
use Rattle.std.specs.Int.{w16, to_be_bytes}
use Rattle.std.proofs.Common.{◌≡◌, ◌≢◌, ◌<◌, ◌≤◌, ◌+◌, ◌-◌, ◌*◌, ◌++◌, ℕ, Bool, true, false, cond, inl, inr, ◌⊎◌, map, filter, position, slice_get, List, [], ◌∷◌, length, Option, Some, None, refl, sym, ap, subst, ◌∙◌, arith}
use Rattle.std.specs.List.{AllByRecursion}
use Rattle.std.proofs.lemmas.List.{append-nil, append_assoc}
use Rattle.std.proofs.lemmas.List.Elements.{Contains-append_left, Contains-append_right, Contains-push}
use Rattle.std.proofs.lemmas.Option.{same_Some}
use Rattle.mv_base.specs.declared.ids.NodeId.{NodeId}
use Rattle.mv_base.specs.declared.ids.VrfId.{VrfId}
use Rattle.mv_base.specs.framing.Cut.Yields.{sound as AllWhole}
use Rattle.mv_base.proofs.framing.Feedings.{no_fault}
use Rattle.mv_base.specs.framing.Units.{Spelled, octets_of, messages_of, AreUnits, NoUnit}
use Rattle.mldp.specs.declared.mldp_fec.fec.Fec.{Fec}
use Rattle.mldp.specs.mldp_msgs.FirstFault.{PduFault}
use Rattle.mldp.specs.mldp_msgs.Reading.{pdu_front}
use Rattle.mldp.specs.mldp_msgs.Spelling.{SpellsPdu}
use Rattle.mldp.proofs.mldp_msgs.Pdus.{pdu_format}
use Rattle.mldp.specs.declared.mldp_msgs.message.LabelMessage.{LabelMessage}
use Rattle.mldp.specs.declared.mldp_msgs.message.LabelMessage.TheVariants as messages
use Rattle.mv_base.specs.route_targets.Targets.{same}
use Rattle.mv_base.specs.declared.route_targets.communities.Target.{Target}
use Rattle.scenario_defs.specs.Vpn.{targets_of, vrf_of_site}
use Rattle.scenario_defs.specs.declared.event.Kind.TheVariants as kinds
use Rattle.scenario_defs.specs.declared.scenario.Scenario.{Scenario}
use Rattle.scenario_defs.specs.declared.scenario.Vrf.{Vrf}
use Rattle.label_laws.specs.Network.{LabelNetwork, PacketCopy}
use Rattle.label_laws.specs.Rule as rules
use Rattle.label_laws.specs.Rule.{is_of_owner}
use Rattle.label_laws.proofs.Full.{label_rule}
use Rattle.edge_words.proofs.calm_laws.Targets.{same_back, same_through}
use Rattle.network_defs.specs.session_defs.Message.{SessionMessage, Label, IsPut}
use Rattle.network_defs.specs.session_defs.Refined.{AreLines, Carried, IsLine, seen}
use Rattle.network_defs.specs.declared.session_defs.direction.Direction.{Direction}
use Rattle.edge_defs.specs.Place.{addr_of, lsp}
use Rattle.network_defs.specs.Acts.{datagram_at}
use Rattle.network_defs.specs.Counts.{direction}
use Rattle.network_defs.specs.LabelRule.{IsTunnelFor, CopyCase, is_mapped, is_leaving, is_resting, is_down, is_unheld, IsWithdrawnTo, LabelRule}
use Rattle.network_defs.specs.World.{World, Datagram, LinkCopy, scenario_of, clock_of}
use Rattle.rule_laws.specs.Labels.{labels_in, packet_copy, label_network, vpn_number, fec_number, is_own_tunnel, vpn_of, vpn_of_datagram, origin}
use Rattle.rule_laws.proofs.Acts.{InStep}
use Rattle.rule_laws.proofs.Puts.{labels_both}
use Rattle.rule_laws.proofs.Vpns.{first_at, own_tunnel, targets_at}

-- ---- tunnels and datagrams of one VPN

some_number : (o : Option ℕ) (none n : ℕ) → elim o as (λ _. ℕ) [ None ↦ none | Some place ↦ place + 2 ] ≡ n + 2 → none < 2 → o ≡ Some n
some_number None none n e less = absurd (omega (arith, e, less))
some_number (Some place) none n e less = ap (λ (k : ℕ). Some k) (omega (arith, e))

-- the VPN of a tunnel, if it is one
record TunnelVpn (scenario : Scenario) (fec : Fec) (number : ℕ) : Type 0 where
  pub id : VrfId
  pub vrf : Vrf
  pub known : slice_get scenario.vrfs id.0 ≡ Some vrf
  pub own : is_own_tunnel scenario fec vrf ≡ true
  pub place : ℕ
  pub found : position (λ (v : Vrf). same v.targets vrf.targets) scenario.vrfs ≡ Some place
  pub is : number ≡ place + 2

tunnel_vpn : (scenario : Scenario) (fec : Fec) → (vpn_of scenario fec ≡ 0) ⊎ TunnelVpn scenario fec (vpn_of scenario fec)
tunnel_vpn scenario fec = by (position (is_own_tunnel scenario fec) scenario.vrfs) refl
  where
    number : (at : ℕ) → position (is_own_tunnel scenario fec) scenario.vrfs ≡ Some at → (o : Option ℕ)
        → position (λ (v : Vrf). same v.targets (targets_of scenario (record { 0 = at }))) scenario.vrfs ≡ o
        → (elim o as (λ _. ℕ) [ None ↦ 0 | Some place ↦ place + 2 ] ≡ 0)
        ⊎ TunnelVpn scenario fec (elim o as (λ _. ℕ) [ None ↦ 0 | Some place ↦ place + 2 ])
    number at e None found = inl refl
    number at e (Some place) found =
        let first = first_at (is_own_tunnel scenario fec) scenario.vrfs at e in
        let id : VrfId = record { 0 = at } in
        inr (record {
          id = id;
          vrf = first.value;
          known = first.at;
          own = first.passes;
          place = place;
          found = ap (λ (ts : List Target). position (λ (v : Vrf). same v.targets ts) scenario.vrfs)
              (sym (targets_at scenario id first.value first.at)) ∙ found;
          is = refl;
        })

    by : (o : Option ℕ) → position (is_own_tunnel scenario fec) scenario.vrfs ≡ o
        → (elim o as (λ _. ℕ) [ None ↦ 0 | Some at ↦ vpn_number scenario (targets_of scenario (record { 0 = at })) 0 ] ≡ 0)
        ⊎ TunnelVpn scenario fec (elim o as (λ _. ℕ) [ None ↦ 0 | Some at ↦ vpn_number scenario (targets_of scenario (record { 0 = at })) 0 ])
    by None e = inl refl
    by (Some at) e = number at e (position (λ (v : Vrf). same v.targets (targets_of scenario (record { 0 = at }))) scenario.vrfs) refl

-- a datagram that is of a VPN with that number
record DatagramVpn (scenario : Scenario) (o : Option Datagram) (place : ℕ) : Type 0 where
  pub datagram : Datagram
  pub sent : o ≡ Some datagram
  pub vpn : VrfId
  pub of_site : vrf_of_site scenario datagram.site ≡ Some vpn
  pub found : position (λ (v : Vrf). same v.targets (targets_of scenario vpn)) scenario.vrfs ≡ Some place

datagram_vpn : (scenario : Scenario) (o : Option Datagram) (place : ℕ) → vpn_of_datagram scenario o ≡ place + 2 → DatagramVpn scenario o place
datagram_vpn scenario None place e = absurd (omega (arith, e))
datagram_vpn scenario (Some datagram) place e = by (vrf_of_site scenario datagram.site) refl e
  where
    by : (v : Option VrfId) → vrf_of_site scenario datagram.site ≡ v
        → elim v as (λ _. ℕ) [ None ↦ 1 | Some vrf ↦ vpn_number scenario (targets_of scenario vrf) 1 ] ≡ place + 2
        → DatagramVpn scenario (Some datagram) place
    by None is h = absurd (omega (arith, h))
    by (Some vpn) is h =
        record {
          datagram = datagram;
          sent = refl;
          vpn = vpn;
          of_site = is;
          found =
              some_number (position (λ (v : Vrf). same v.targets (targets_of scenario vpn)) scenario.vrfs) 1 place h (omega arith);
        }

never_none : (scenario : Scenario) (o : Option Datagram) → vpn_of_datagram scenario o ≡ 0 → ⊥
never_none scenario None e = omega (arith, e)
never_none scenario (Some datagram) e = by (vrf_of_site scenario datagram.site) e
  where
    at : (o : Option ℕ) → elim o as (λ _. ℕ) [ None ↦ 1 | Some place ↦ place + 2 ] ≡ 0 → ⊥
    at None h = omega (arith, h)
    at (Some place) h = omega (arith, h)

    by : (v : Option VrfId) → elim v as (λ _. ℕ) [ None ↦ 1 | Some vrf ↦ vpn_number scenario (targets_of scenario vrf) 1 ] ≡ 0 → ⊥
    by None h = omega (arith, h)
    by (Some vrf) h = at (position (λ (v : Vrf). same v.targets (targets_of scenario vrf)) scenario.vrfs) h

pub tunnel_for : (world : World) (fec : Fec) (number : ℕ) → vpn_of (scenario_of world) fec ≡ origin (scenario_of world) world.datagrams number
    → IsTunnelFor world number fec
tunnel_for world fec number e = elim (tunnel_vpn (scenario_of world) fec) [
  | inl none ↦ absurd (never_none (scenario_of world) (datagram_at world number) (sym e ∙ none))
  | inr t ↦
      let scenario : Scenario = scenario_of world in
      let d = datagram_vpn scenario (datagram_at world number) t.place (sym e ∙ t.is) in
      let mine = first_at (λ (v : Vrf). same v.targets t.vrf.targets) scenario.vrfs t.place t.found in
      let theirs = first_at (λ (v : Vrf). same v.targets (targets_of scenario d.vpn)) scenario.vrfs t.place d.found in
      let one : mine.value ≡ theirs.value = same_Some mine.value theirs.value (sym mine.at ∙ theirs.at) in
      let there : same theirs.value.targets t.vrf.targets ≡ true = sym (ap (λ (v : Vrf). same v.targets t.vrf.targets) one) ∙ mine.passes in
      let both : same (targets_of scenario d.vpn) t.vrf.targets ≡ true =
      same_through (targets_of scenario d.vpn) theirs.value.targets t.vrf.targets
      (same_back theirs.value.targets (targets_of scenario d.vpn) theirs.passes) there in
      let own = own_tunnel scenario fec t.vrf t.own in
      let from = own.from in
      let below = own.below in
      record {
        datagram = d.datagram;
        sent = d.sent;
        vpn = d.vpn;
        of_site = d.of_site;
        tunnel = record {
          id = t.id;
          vrf = t.vrf;
          known = t.known;
          member = ap (same (targets_of scenario d.vpn)) (targets_at scenario t.id t.vrf t.known) ∙ both;
          number = fec_number fec - t.vrf.number * 1048576;
          own = omega (arith, from, below);
          is_lsp = own.is ∙ ap (lsp (addr_of scenario t.vrf.edge)) (omega (arith, from));
        };
      }
]

-- ---- copies

copy_case : (world : World) (pending : Direction → List SessionMessage) (u n : NodeId) (copy : LinkCopy)
    → rules.CopyCase (label_network (seen world.network pending) world.copies (world.datagrams ++ [])) u n (packet_copy copy)
    → CopyCase world u n copy
copy_case world pending u n copy (rules.is_mapped fec up used vpn) =
    is_mapped fec up used (tunnel_for world fec copy.number
    (vpn ∙ ap (λ (ds : List Datagram). origin (scenario_of world) ds copy.number) (append-nil world.datagrams)))
copy_case world pending u n copy (rules.is_leaving fec up used) = is_leaving fec up used
copy_case world pending u n copy (rules.is_resting until used late) = is_resting until used late
copy_case world pending u n copy (rules.is_down off) = is_down off
copy_case world pending u n copy (rules.is_unheld end up since unheld) = is_unheld end up since unheld

of_map : {X Y : Type 0} (f : X → Y) (P : Y → Type 0) (Q : X → Type 0) → ((x : X) → P (f x) → Q x) → (xs : List X) → AllByRecursion P (map f xs)
    → AllByRecursion Q xs
of_map f P Q h [] all = tt
of_map f P Q h (x ∷ xs) all = (h x all.0, of_map f P Q h xs all.1)

-- ---- withdraws on their way

-- units of a label session, as units of label messages
pub record Plain (units : List (Spelled SessionMessage)) : Type 0 where
  pub plain : List (Spelled LabelMessage)
  pub each : AreUnits SpellsPdu plain
  pub octets : octets_of units ≡ octets_of plain
  pub messages : labels_in (messages_of units) ≡ messages_of plain

pub labels_map : (ms : List LabelMessage) → labels_in (map (λ m. Label m) ms) ≡ ms
labels_map [] = refl
labels_map (m ∷ ms) = ap (λ (xs : List LabelMessage). m ∷ xs) (labels_map ms)

pub plain_units : (units : List (Spelled SessionMessage)) → AreUnits (IsPut kinds.Ldp) units → Plain units
plain_units [] are = record { plain = []; each = tt; octets = refl; messages = refl }
plain_units (unit ∷ units) are =
    let rest = plain_units units are.1 in
    let own : List LabelMessage = are.0.0.0 in
    let unit_is : labels_in unit.messages ≡ own = ap labels_in are.0.0.1 ∙ labels_map own in
    record {
      plain = record { messages = own; octets = unit.octets } ∷ rest.plain;
      each = (are.0.0.2, rest.each);
      octets = ap (λ (os : List ℕ). unit.octets ++ os) rest.octets;
      messages = labels_both unit.messages (messages_of units) ∙ (λ i. unit_is i ++ rest.messages i);
    }

contains_one : (p : LabelMessage → Bool) (xs : List LabelMessage) (m : LabelMessage) → filter p xs ≡ m ∷ [] → Contains xs m
contains_one p [] m e = absurd cc
contains_one p (x ∷ xs) m e = by (p x) (λ h. contains_one p xs m h) e
  where
    by : (b : Bool) → (filter p xs ≡ m ∷ [] → Contains xs m) → cond b (x ∷ filter p xs) (filter p xs) ≡ m ∷ [] → Contains (x ∷ xs) m
    by true others h = let same : x ≡ m = cc in
        subst (λ (y : LabelMessage). Contains (x ∷ xs) y) same (Contains-append_left (x ∷ []) xs x (Contains-push [] x))
    by false others h = Contains-append_right (x ∷ []) xs m (others h)

pub no_pdu : NoUnit SpellsPdu []
no_pdu ms text after spells e =
    let rest : List ℕ = to_be_bytes w16 (6 + length spells.body) ++ (spells.ident ++ spells.body) in
    let whole : [] ≡ to_be_bytes w16 1 ++ (rest ++ after) =
    e ∙ ap (λ (os : List ℕ). os ++ after) spells.parts ∙ append_assoc (to_be_bytes w16 1) rest after in
    let none : length {A = ℕ} [] ≡ length (to_be_bytes w16 1 ++ (rest ++ after)) = ap (λ (os : List ℕ). length os) whole in
    absurd (omega (arith, none))

withdrawn_to : (world : World) (pending : Direction → List SessionMessage) (u n : NodeId) (fec : Fec) (label : ℕ)
    → Carried kinds.Ldp (world.network.stream (direction kinds.Ldp n u)) (world.network.transit (direction kinds.Ldp n u))
    (pending (direction kinds.Ldp n u))
    → filter (is_of_owner label) (labels_in (pending (direction kinds.Ldp n u))) ≡ messages.Withdraw fec label ∷ []
    → IsWithdrawnTo world u n fec label
withdrawn_to world pending u n fec label c e =
    let p = plain_units c.units c.each in
    let all : List LabelMessage = messages_of p.plain in
    let same : labels_in (pending (direction kinds.Ldp n u)) ≡ all = ap labels_in c.messages ∙ p.messages in
    record {
      all = all;
      octets = AllWhole [] (record {
        begins = record {
          units = p.plain;
          each = p.each;
          parts =
              c.octets ∙ p.octets ∙ sym (append-nil (octets_of p.plain));
          carried = refl;
        };
        no_unit = no_pdu;
      })
          (no_fault pdu_front SpellsPdu PduFault 4100 pdu_format [] (λ i. omega arith) pdu_format.stream.framing.empty);
      among = subst (λ (ms : List LabelMessage). Contains ms (messages.Withdraw fec label)) same
          (contains_one (is_of_owner label) (labels_in (pending (direction kinds.Ldp n u))) (messages.Withdraw fec label) e);
    }

-- ---- the rule

-- the messages in transit, and the network of label nodes with them
abbrev pub LabelsOf : World → (Direction → List SessionMessage) → LabelNetwork
LabelsOf world pending = label_network (seen world.network pending) world.copies (world.datagrams ++ [])

-- both directions of each session are joined, or neither is
abbrev pub AreAlike : World → Type 0
AreAlike world = (u n : NodeId) → u ≢ n → world.network.joined (direction kinds.Ldp u n) ≡ world.network.joined (direction kinds.Ldp n u)

pub rule_of : (world : World) (pending : Direction → List SessionMessage) → AreLines world.network pending → rules.LabelRule (LabelsOf world pending)
    → AreAlike world → LabelRule world
rule_of world pending are full alike =
    let w : LabelNetwork = LabelsOf world pending in
    record {
      copies = λ u n ne. of_map packet_copy (rules.CopyCase w u n) (CopyCase world u n) (copy_case world pending u n) (world.copies u n)
          (full.copies u n ne);
      young = λ u n ne. of_map packet_copy (λ (copy : PacketCopy). clock_of world ≤ copy.put_at + (scenario_of world).life)
          (λ (copy : LinkCopy). clock_of world ≤ copy.put_at + (scenario_of world).life) (λ copy h. h) (world.copies u n) (full.young u n ne);
      branch_up = λ u n fec label ne has. full.branch_up u n label fec ne has;
      joined = λ u n fec label ne joined has. elim (full.joined u n label fec ne joined has) [
        | inl mapped ↦ inl mapped
        | inr leaving ↦
            let back : world.network.joined (direction kinds.Ldp n u) ≡ true = sym (alike u n ne) ∙ joined in
            let over : Direction = direction kinds.Ldp n u in
            let carried : Carried kinds.Ldp (world.network.stream over) (world.network.transit over) (pending over) =
            subst (λ (b : Bool). IsLine kinds.Ldp b (world.network.stream over) (world.network.transit over) (pending over)) back (are over) in
            inr (leaving.0, withdrawn_to world pending u n fec label carried leaving.1)
      ];
      unjoined = λ u n fec label ne off has. full.unjoined u n label fec ne off has;
    }

pub world_rule : (scenario : Scenario) (world : World) → InStep scenario world → LabelRule world
world_rule scenario world (pending, are, good) =
    let rule : rules.Rule (LabelsOf world pending) = (good.kept []).rule in
    rule_of world pending are (label_rule (LabelsOf world pending) rule) (λ u n ne. (rule.session u n ne).alike)
