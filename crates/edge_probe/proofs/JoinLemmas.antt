-- A join that fits an edge: its message can be written, and is read again.
use Rattle.std.proofs.Common.{◌≡◌, ℕ, Bool, true, false, List, [], ◌∷◌, Option, Some, None, Ok, refl, sym, ap, subst, ◌∙◌}
use Rattle.std.specs.Prelude.{slice_get}
use Rattle.std.specs.Option.{IfSome}
use Rattle.mv_base.specs.Address.{IsAddr}
use Rattle.mv_base.specs.declared.addr.Addr.{Addr}
use Rattle.mv_base.specs.declared.addr.Addr.TheVariants.{V4}
use Rattle.mv_base.specs.declared.ids.IfaceId.{IfaceId}
use Rattle.mv_base.specs.declared.ids.NodeId.{NodeId}
use Rattle.pim_joinprune.specs.declared.message.JoinPrune.{JoinPrune}
use Rattle.pim_joinprune.specs.Reading.{decoded}
use Rattle.pim_joinprune.specs.Spelling.{IsJoinPrune, written}
use Rattle.pim_joinprune.proofs.WritingLemmas.{written_spells}
use Rattle.pim_joinprune.proofs.pim_laws.DecodingLemmas.{spelled_read}
use Rattle.pim_defs.specs.Single.{join_of}
use Rattle.pim_defs.proofs.SingleLemmas.{join_spelled}
use Rattle.scenario_defs.specs.Rules.{AreOfOneFamily, Rules}
use Rattle.scenario_defs.specs.declared.event.JoinEntry.TheVariants.{Source}
use Rattle.scenario_defs.specs.declared.scenario.Iface.{Iface}
use Rattle.scenario_defs.specs.declared.scenario.Scenario.{Scenario}
use Rattle.scenario_defs.specs.Vpn.{is_of_vrf}
use Rattle.scenario_defs.proofs.RuleLemmas.{iface_rules_at}
use Rattle.edge_defs.specs.Originated.{is_iface_of}
use Rattle.edge_defs.specs.Place.{OwnVrf, vrfs_from}
use Rattle.vrf_words.proofs.edge_words.calm_laws.Lists.{any_among}
use Rattle.network_defs.specs.mvpn_model.Messages.{own_addr}
use Rattle.scenario_defs.specs.declared.event.JoinEntry.{JoinEntry}
use Rattle.edge_core.specs.State.{home_of}
use Rattle.edge_core.specs.View.{EdgeView}
use Rattle.probe_defs.specs.Lines.{IsJoinAt}

pub written_read : (message : JoinPrune) (octets : List ℕ) → IsJoinPrune message → octets ≡ written message → decoded octets ≡ Ok message
written_read message octets spelled e = ap decoded e ∙ spelled_read (written message) message (written_spells message spelled)

-- an interface of a VRF is there
found_iface : (scenario : Scenario) (own : OwnVrf) (iface : IfaceId) (o : Option Iface) → slice_get scenario.ifaces iface.0 ≡ o
    → is_iface_of scenario own.id iface ≡ true
    → (found : Iface) × (slice_get scenario.ifaces iface.0 ≡ Some found)
found_iface scenario own iface (Some found) e is = (found, e)
found_iface scenario own iface None e is =
    let none : is_iface_of scenario own.id iface ≡ false =
    ap (λ (o : Option Iface). elim o as (λ _. Bool) [ None ↦ false | Some found ↦ is_of_vrf own.id found ]) e in
    let clash : true ≡ false = sym is ∙ none in
    absurd cc

pub join_is_spelled : (scenario : Scenario) → Rules scenario → (me : NodeId) (iface : IfaceId) (source group : Addr)
    → IsJoinAt scenario me iface source group
    → IsJoinPrune (join_of (own_addr scenario iface) (Source source group))
join_is_spelled scenario rules me iface source group at =
    let own = any_among (λ (own : OwnVrf). is_iface_of scenario own.id iface) (vrfs_from me 0 scenario.vrfs) at.own in
    let found = found_iface scenario own.0 iface (slice_get scenario.ifaces iface.0) refl own.2 in
    let same : own_addr scenario iface ≡ found.0.addr =
    ap (λ (o : Option Iface). elim o [ None ↦ V4 (0 ∷ 0 ∷ 0 ∷ 0 ∷ []) | Some found ↦ found.addr ]) found.1 in
    let is : IsAddr (own_addr scenario iface) = subst IsAddr (sym same) (iface_rules_at scenario rules iface.0 found.0 found.1).addr in
    let family : AreOfOneFamily (own_addr scenario iface) group =
    subst (λ (a : Addr). AreOfOneFamily a group) (sym same)
    (subst (λ (o : Option Iface). IfSome o (λ found. AreOfOneFamily found.addr group)) found.1 at.family) in
    join_spelled (own_addr scenario iface) (Source source group) is at.names family

-- the message that a join hands to the edge
pub join_message : (old : EdgeView) (scenario : Scenario) → (home_of old).scenario ≡ scenario → (iface : IfaceId) (addr : Addr)
    → addr ≡ own_addr scenario iface → (entry : JoinEntry) (message : JoinPrune) → message ≡ join_of addr entry
    → message ≡ join_of (own_addr (home_of old).scenario iface) entry
join_message old scenario home iface addr own entry message is =
    is ∙ ap (λ (a : Addr). join_of a entry) (own ∙ ap (λ (sc : Scenario). own_addr sc iface) (sym home))

pub join_read : (old : EdgeView) → Rules (home_of old).scenario → (iface : IfaceId) (source group : Addr)
    → IsJoinAt (home_of old).scenario (home_of old).me iface source group → (message : JoinPrune) (octets : List ℕ)
    → message ≡ join_of (own_addr (home_of old).scenario iface) (Source source group) → octets ≡ written message
    → decoded octets ≡ Ok (join_of (own_addr (home_of old).scenario iface) (Source source group))
join_read old rules iface source group at message octets is e =
    written_read (join_of (own_addr (home_of old).scenario iface) (Source source group)) octets
    (join_is_spelled (home_of old).scenario rules (home_of old).me iface source group at) (e ∙ ap written is)
