-- An event that does not concern a VPN changes nothing at its interfaces.
use Rattle.std.proofs.Common.{◌≡◌, ℕ, ◌+◌, ◌==◌, ◌||◌, ◌&&◌, not, Bool, true, false, cond, List, slice_get, Option, Some, None, Ok, Err, refl, sym, ap, ◌∙◌, arith}
use Rattle.std.specs.List.{fold}
use Rattle.std.specs.Prelude.{Result}
use Rattle.std.proofs.lemmas.Bool.{true≢false, false_from_ne_true, eqb-true}
use Rattle.mv_base.specs.declared.addr.Addr.{Addr}
use Rattle.mv_base.specs.declared.ids.IfaceId.{IfaceId}
use Rattle.mv_base.specs.declared.ids.NodeId.{NodeId}
use Rattle.mv_base.specs.declared.ids.VrfId.{VrfId}
use Rattle.mv_base.specs.Address.{same_addr}
use Rattle.pim_defs.specs.declared.expiry.Expiry.{Expiry}
use Rattle.pim_defs.specs.pim_joinprune.declared.message.JoinPrune.{JoinPrune}
use Rattle.pim_defs.specs.pim_joinprune.declared.fault.PimFault.{PimFault}
use Rattle.pim_defs.specs.pim_joinprune.Reading.{decoded}
use Rattle.pim_defs.specs.Single.{join_of, prune_of}
use Rattle.scenario_defs.specs.Vpn.{same_vpn}
use Rattle.scenario_defs.specs.declared.event.Event.{Event}
use Rattle.scenario_defs.specs.declared.event.CustomerEvent.TheVariants as customers
use Rattle.scenario_defs.specs.declared.event.Event.TheVariants as events
use Rattle.scenario_defs.specs.declared.event.JoinEntry.{JoinEntry}
use Rattle.scenario_defs.specs.declared.event.Timed.{Timed}
use Rattle.scenario_defs.specs.declared.scenario.Iface.{Iface}
use Rattle.scenario_defs.specs.declared.scenario.Scenario.{Scenario}
use Rattle.mvpn_model.specs.Messages.{own_addr}
use Rattle.mvpn_model.specs.Past.{Past, is_of_edge, is_flow_at, ticks_of, expiry_given, expiry_by, standing, noted_by, is_noted}
use Rattle.mvpn_model.specs.declared.message.Given.{Given}
use Rattle.mvpn_model.specs.declared.standing.Standing.{Standing}
use Rattle.customer_laws.specs.Concerns.{is_of_vpn, is_edge_of_vpn, concerns, Answered, own_events}
use Rattle.customer_laws.proofs.Folds.{fold_kept}
use Rattle.customer_laws.proofs.Members.{any_where}

-- an interface of a VPN
pub record Member (scenario : Scenario) (vrf : VrfId) (iface : IfaceId) : Type 0 where
  pub own : Iface
  pub at : slice_get scenario.ifaces iface.0 ≡ Some own
  pub vpn : same_vpn scenario vrf own.vrf ≡ true

module _ (scenario : Scenario) (vrf : VrfId) (iface : IfaceId) (member : Member scenario vrf iface) where
  is_member : is_of_vpn scenario vrf iface ≡ true
  is_member = ap (λ (o : Option Iface). elim o [ None ↦ false | Some own ↦ same_vpn scenario vrf own.vrf ]) member.at ∙ member.vpn

  -- an interface of another VPN is another one
  apart : (own : IfaceId) → is_of_vpn scenario vrf own ≡ false → (iface.0 == own.0) ≡ false
  apart own h = false_from_ne_true (iface.0 == own.0) (λ t. true≢false (
      sym is_member
      ∙ ap (λ (n : ℕ). elim (slice_get scenario.ifaces n) [ None ↦ false | Some found ↦ same_vpn scenario vrf found.vrf ]) (eqb-true iface.0 own.0 t)
      ∙ h))

  -- an edge that is none of the VPN has no interface of it
  elsewhere : (node : NodeId) → is_edge_of_vpn scenario vrf node ≡ false → is_of_edge scenario node iface ≡ false
  elsewhere node h = false_from_ne_true (is_of_edge scenario node iface) (λ t. true≢false (
      sym (any_where (is_of_edge scenario node) (λ number found. same_vpn scenario vrf found.vrf) 0 scenario.ifaces iface.0 member.own iface member.at
      (omega arith) member.vpn t)
      ∙ h))

  -- ---- entries

  given_apart : (entry : JoinEntry) (clock : ℕ) (old : Option Expiry) (given : Given) → is_of_vpn scenario vrf given.iface ≡ false →
      expiry_given iface entry clock old (Some given) ≡ old
  given_apart entry clock old given h = (let e = apart given.iface h in rw e refl)

  read_apart : (entry : JoinEntry) (clock : ℕ) (old : Option Expiry) (own : IfaceId) (o : Result JoinPrune (ℕ × PimFault))
      → is_of_vpn scenario vrf own ≡ false →
      expiry_given iface entry clock old (elim o [ Ok message ↦ Some (record { iface = own; message = message }) | Err fault ↦ None ]) ≡ old
  read_apart entry clock old own (Ok message) h = given_apart entry clock old (record { iface = own; message = message }) h
  read_apart entry clock old own (Err fault) h = refl

  expiry_idle : (entry : JoinEntry) (clock : ℕ) (old : Option Expiry) (event : Event) → concerns scenario vrf event ≡ false →
      expiry_by scenario iface entry clock event old ≡ old
  expiry_idle entry clock old (events.Customer (customers.Join own named)) h =
      given_apart entry clock old (record { iface = own; message = join_of (own_addr scenario own) named }) h
  expiry_idle entry clock old (events.Customer (customers.Prune own named)) h =
      given_apart entry clock old (record { iface = own; message = prune_of (own_addr scenario own) named }) h
  expiry_idle entry clock old (events.Customer (customers.Pim own bytes)) h = read_apart entry clock old own (decoded bytes) h
  expiry_idle entry clock old (events.Tick count) h = absurd (true≢false h)
  expiry_idle entry clock old events.Settle h = absurd (true≢false h)
  expiry_idle entry clock old (events.Timers node) h = (let e = elsewhere node h in rw e refl)
  expiry_idle entry clock old (events.Restart node) h = (let e = elsewhere node h in rw e refl)
  expiry_idle entry clock old other h = refl

  ticks_idle : (event : Event) → concerns scenario vrf event ≡ false → ticks_of event ≡ 0
  ticks_idle (events.Tick count) h = absurd (true≢false h)
  ticks_idle other h = refl

  abbrev pub stands_by : JoinEntry → Standing → Answered → Standing
  stands_by entry old own =
      cond own.accepted (record { clock = old.clock + ticks_of own.event; expiry = expiry_by scenario iface entry old.clock own.event old.expiry })
      old

  stands_idle : (entry : JoinEntry) (old : Standing) (own : Answered) → concerns scenario vrf own.event ≡ false → stands_by entry old own ≡ old
  stands_idle entry old own h = by own.accepted
    where
      clock_same : old.clock + ticks_of own.event ≡ old.clock
      clock_same = (let none : ticks_of own.event ≡ 0 = ticks_idle own.event h in omega (arith, none))

      by : (b : Bool) → cond b (record {
        clock = old.clock + ticks_of own.event;
        expiry =
            expiry_by scenario iface entry old.clock own.event old.expiry;
      }) old ≡ old
      by true = (λ i. record { clock = clock_same i; expiry = expiry_idle entry old.clock old.expiry own.event h i })
      by false = refl

  -- where an entry of the interface stands, by the events that concern the VPN
  pub standing_own : (entry : JoinEntry) (refused : List ℕ) (all : List Timed) →
      let past : Past = record { scenario = scenario; events = all; refused = refused } in
      standing past iface entry ≡ fold (stands_by entry) (record { clock = 0; expiry = None }) (own_events vrf past)
  standing_own entry refused all =
      fold_kept (stands_by entry) (λ own. concerns scenario vrf own.event) (stands_idle entry) refused (record { clock = 0; expiry = None }) all

  -- ---- notes

  or_idle : (old : Bool) (b : Bool) → b ≡ false → (old || b) ≡ old
  or_idle true b h = refl
  or_idle false b h = h

  and_idle : (old : Bool) (b : Bool) → b ≡ false → (old && not b) ≡ old
  and_idle true b h = ap not h
  and_idle false b h = refl

  flow_apart : (source group : Addr) (own : IfaceId) (own_source own_group : Addr) → is_of_vpn scenario vrf own ≡ false →
      is_flow_at iface source group own own_source own_group ≡ false
  flow_apart source group own own_source own_group h = ap (λ b. b && same_addr source own_source && same_addr group own_group) (apart own h)

  noted_idle : (source group : Addr) (event : Event) (old : Bool) → concerns scenario vrf event ≡ false
      → noted_by scenario iface source group event old ≡ old
  noted_idle source group (events.Customer (customers.Active own own_source own_group)) old h =
      or_idle old _ (flow_apart source group own own_source own_group h)
  noted_idle source group (events.Customer (customers.Idle own own_source own_group)) old h =
      and_idle old _ (flow_apart source group own own_source own_group h)
  noted_idle source group (events.Restart node) old h = and_idle old _ (elsewhere node h)
  noted_idle source group other old h = refl

  abbrev pub notes_by : Addr → Addr → Bool → Answered → Bool
  notes_by source group old own = cond own.accepted (noted_by scenario iface source group own.event old) old

  notes_idle : (source group : Addr) (old : Bool) (own : Answered) → concerns scenario vrf own.event ≡ false → notes_by source group old own ≡ old
  notes_idle source group old own h = by own.accepted
    where
      by : (b : Bool) → cond b (noted_by scenario iface source group own.event old) old ≡ old
      by true = noted_idle source group own.event old h
      by false = refl

  -- whether a source is noted at the interface, by the events that concern the VPN
  pub noted_own : (source group : Addr) (refused : List ℕ) (all : List Timed) →
      let past : Past = record { scenario = scenario; events = all; refused = refused } in
      is_noted past iface source group ≡ fold (notes_by source group) false (own_events vrf past)
  noted_own source group refused all =
      fold_kept (notes_by source group) (λ own. concerns scenario vrf own.event) (notes_idle source group) refused false all
