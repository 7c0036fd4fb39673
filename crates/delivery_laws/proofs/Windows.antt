-- Events of a window: what was written and what is owed grows by what each datagram that is sent is to be written.
use Rattle.std.specs.Prelude.{sum_by, slice_get, ◌==◌}
use Rattle.std.proofs.Common.{◌≡◌, ℕ, suc, ◌+◌, ◌-◌, ◌<◌, ◌≤◌, nat_le, true, false, cond, ◌++◌, map, length, List, [], ◌∷◌, Some, refl, sym, ap, subst, inl, inr, ◌∙◌, append-nil, length-append, arith}
use Rattle.std.specs.List.{AllByRecursion}
use Rattle.std.proofs.lemmas.Bool.{cases_Bool, eqb-true, eq-eqb, ne_eqb, leb-true, leb-false, le-leb, cond-true, cond-false, true≢false}
use Rattle.std.proofs.lemmas.List.Sums.{sum_by-cons}
use Rattle.mv_base.specs.declared.addr.Addr.{Addr}
use Rattle.mv_base.specs.declared.addr.Addr.TheVariants.{V4}
use Rattle.mv_base.specs.declared.ids.IfaceId.{IfaceId}
use Rattle.mv_base.specs.declared.ids.SiteId.{SiteId}
use Rattle.mv_base.specs.declared.ids.VrfId.{VrfId}
use Rattle.scenario_defs.specs.Vpn.{entered}
use Rattle.scenario_defs.specs.declared.event.Event.{Event}
use Rattle.scenario_defs.specs.declared.event.Event.TheVariants as events
use Rattle.scenario_defs.specs.declared.report.ReportLine.{ReportLine}
use Rattle.scenario_defs.specs.declared.scenario.Scenario.{Scenario}
use Rattle.network_defs.specs.session_defs.Octets.{OctetNetwork}
use Rattle.mvpn_model.specs.Once.{IsOfWindow}
use Rattle.mvpn_model.specs.Packet.{packet}
use Rattle.network_defs.specs.Acts.{Enter, Land, Tell}
use Rattle.network_defs.specs.Counts.{link_ways}
use Rattle.network_defs.specs.Events.{Happened, Outcome, Done, row, drained, sent, done}
use Rattle.network_defs.specs.Nodes.{Nodes}
use Rattle.mvpn_model.specs.Packets.{source_in, group_in}
use Rattle.network_defs.specs.World.{World, Datagram, scenario_of, numbered}
use Rattle.network_defs.proofs.Numbered.{numbered_at}
use Rattle.delivery_laws.specs.Flood.{SoundCopy, OnLinks, written_from, written_of, lines_in, outs_in}
use Rattle.delivery_laws.proofs.Copies.{EachCopy, sum-cond}
use Rattle.delivery_laws.proofs.Landings.{IsWindowAct, gain_of}
use Rattle.delivery_laws.proofs.Rows.{Ready, owed, Comes, row_comes, drain_comes}
use Rattle.network_laws.proofs.Lists.{each_weaker}

-- what the datagram of that number is to be written, once it was sent
abbrev pub had : OctetNetwork Nodes → ℕ → Datagram → IfaceId → List Datagram → ℕ
had network number datagram iface all = cond (nat_le number (length all)) (written_of network datagram iface) 0

-- the datagram of that number, once it was sent
abbrev pub IsAmong : ℕ → Datagram → List Datagram → Type 0
IsAmong number datagram all = number ≤ length all → numbered all number ≡ Some datagram

-- After an event the nodes are as before, more datagrams may have been sent, each copy is sound, and of each datagram what was
-- written and what is owed has grown by what it is to be written, if it was sent.
pub record EventStep (network : OctetNetwork Nodes) (old : World) (all : List ReportLine) (next : World) : Type 0 where
  pub more : List Datagram
  pub grows : next.datagrams ≡ old.datagrams ++ more
  pub ready : Ready network next.datagrams next
  pub flow : (number : ℕ) (datagram : Datagram) (iface : IfaceId) → IsAmong number datagram next.datagrams
      → outs_in number iface all + (owed network number datagram iface next + had network number datagram iface old.datagrams)
      ≡ owed network number datagram iface old + had network number datagram iface next.datagrams

none : Datagram
none = record { site = record { 0 = 0 }; source = V4 []; group = V4 []; octets = [] }

-- ---- events that send nothing

pub quiet_step : (network : OctetNetwork Nodes) (links : OnLinks network) (old : World) → Ready network old.datagrams old → (o : Outcome)
    → ((number : ℕ) (datagram : Datagram) (iface : IfaceId) (is : IsAmong number datagram old.datagrams)
    → Comes network old.datagrams links number datagram iface is old 0 o)
    → (acts : List Happened) (next : World) → o ≡ Done acts next → EventStep network old (lines_in acts) next
quiet_step network links old r o h acts next e =
    let at = λ (number : ℕ) (datagram : Datagram) (iface : IfaceId) (is : IsAmong number datagram old.datagrams). subst
    (Comes network old.datagrams links number datagram iface is old 0) e (h number datagram iface is) in
    let first = (at (suc (length old.datagrams)) none (record { 0 = 0 }) (λ le. absurd (omega (arith, le)))).ready in
    let same : next.datagrams ≡ old.datagrams = first.datagrams_are in
    record {
      more = [];
      grows = same ∙ sym (append-nil old.datagrams);
      ready = record {
        network_is = first.network_is;
        datagrams_are = refl;
        sound =
            subst (λ (d : List Datagram). EachCopy (SoundCopy (link_ways network.state.scenario) (length d)) next.copies) (sym same) first.sound;
      };
      flow = λ number datagram iface is.
          let step = at number datagram iface (subst (IsAmong number datagram) same is) in
          let kept = ap (had network number datagram iface) same in
          omega (arith, step.flow, kept);
    }

-- ---- a datagram is sent

gains_of_entries : (network : OctetNetwork Nodes) (number : ℕ) (datagram : Datagram) (iface : IfaceId) (all : List Datagram) (vrfs : List VrfId)
    → sum_by (gain_of number datagram iface network all) (map (λ vrf. Enter vrf) vrfs)
    ≡ cond (length all == number) (sum_by (λ (vrf : VrfId). written_from network datagram iface vrf (slice_get network.state.scenario.vrfs vrf.0))
    vrfs) 0
gains_of_entries network number datagram iface all vrfs =
    along vrfs ∙ sum-cond (length all == number)
    (λ (vrf : VrfId). written_from network datagram iface vrf (slice_get network.state.scenario.vrfs vrf.0)) vrfs
  where
    along : (list : List VrfId) → sum_by (gain_of number datagram iface network all) (map (λ vrf. Enter vrf) list)
        ≡ sum_by (λ (vrf : VrfId). cond (length all == number) (written_from network datagram iface vrf (slice_get network.state.scenario.vrfs vrf.0))
        0) list
    along [] = refl
    along (vrf ∷ more) =
        let rest = along more in
        omega (
          arith,
          rest,
          sum_by-cons (gain_of number datagram iface network all) (Enter vrf) (map (λ v. Enter v) more),
          sum_by-cons (λ (v : VrfId). cond (length all == number)
              (written_from network datagram iface v (slice_get network.state.scenario.vrfs v.0)) 0) vrf more,
        )

entries_of_window : (all : List Datagram) → 0 < length all → (vrfs : List VrfId) → AllByRecursion (IsWindowAct all) (map (λ vrf. Enter vrf) vrfs)
entries_of_window all some [] = tt
entries_of_window all some (vrf ∷ more) = (some, entries_of_window all some more)

one_more : (number count value : ℕ) → cond (nat_le number (count + 1)) value 0
    ≡ cond (nat_le number count) value 0 + cond ((count + 1) == number) value 0
one_more number count value = elim (cases_Bool (nat_le number count)) [
  | inl t ↦
      let le : number ≤ count = leb-true number count t in
      let far : ((count + 1) == number) ≡ false = ne_eqb (count + 1) number (λ e. omega (arith, e, le)) in
      let more : nat_le number (count + 1) ≡ true = le-leb number (count + 1) (omega (arith, le)) in
      omega (
        arith,
        cond-true (nat_le number (count + 1)) value 0 more,
        cond-true (nat_le number count) value 0 t,
        cond-false ((count + 1) == number) value 0 far,
      )
  | inr f ↦
      let lt : count < number = leb-false number count f in
      elim (cases_Bool ((count + 1) == number)) [
        | inl t ↦
            let more : nat_le number (count + 1) ≡ true = le-leb number (count + 1) (omega (arith, eqb-true (count + 1) number t)) in
            omega (
              arith,
              cond-true (nat_le number (count + 1)) value 0 more,
              cond-false (nat_le number count) value 0 f,
              cond-true ((count + 1) == number) value 0 t,
            )
        | inr g ↦ elim (cases_Bool (nat_le number (count + 1))) [
          | inl more ↦ (let le : number ≤ count + 1 = leb-true number (count + 1) more in let same : count + 1 ≡ number = omega (arith, le, lt) in
              absurd (true≢false (sym (eq-eqb (count + 1) number same) ∙ g)))
          | inr less ↦ omega (
            arith,
            cond-false (nat_le number (count + 1)) value 0 less,
            cond-false (nat_le number count) value 0 f,
            cond-false ((count + 1) == number) value 0 g,
          )
        ]
      ]
]

at_end : {X : Type 0} (xs : List X) (x : X) → slice_get (xs ++ x ∷ []) (length xs) ≡ Some x
at_end [] x = refl
at_end (y ∷ xs) x = at_end xs x

sent_step : (network : OctetNetwork Nodes) → OnLinks network → (old : World) → Ready network old.datagrams old
    → (site : SiteId) (source group : Addr) (octets : List ℕ)
    → (acts : List Happened) (next : World) → sent site source group octets old ≡ Done acts next → EventStep network old (lines_in acts) next
sent_step network links old r site source group octets acts next e =
    let own : Datagram = record { site = site; source = source; group = group; octets = octets } in
    let all : List Datagram = old.datagrams ++ own ∷ [] in
    let begun : World = record old { datagrams = all } in
    let count : length all ≡ length old.datagrams + 1 = length-append old.datagrams (own ∷ []) in
    let vrfs : List VrfId = entered (scenario_of old) site in
    let begins : Ready network all begun = record {
      network_is = r.network_is;
      datagrams_are = refl;
      sound = λ u n. each_weaker (SoundCopy (link_ways network.state.scenario) (length old.datagrams) u n)
          (SoundCopy (link_ways network.state.scenario) (length all) u n)
          (λ copy s. record { on_way = s.on_way; counted = s.counted; known = omega (arith, s.known, count); alive = s.alive; bounded = s.bounded })
          (old.copies u n) (r.sound u n);
    } in
    let at = λ (number : ℕ) (datagram : Datagram) (iface : IfaceId) (is : IsAmong number datagram all).
    subst (Comes network all links number datagram iface is begun (sum_by (gain_of number datagram iface network all) (map (λ vrf. Enter vrf) vrfs)))
    e
    (row_comes network all links number datagram iface is (map (λ vrf. Enter vrf) vrfs) begun begins
    (entries_of_window all (omega (arith, count)) vrfs)) in
    let first = (at (suc (length all)) none (record { 0 = 0 }) (λ le. absurd (omega (arith, le)))).ready in
    let same : next.datagrams ≡ all = first.datagrams_are in
    record {
      more = own ∷ [];
      grows = same;
      ready = record {
        network_is = first.network_is;
        datagrams_are = refl;
        sound =
            subst (λ (d : List Datagram). EachCopy (SoundCopy (link_ways network.state.scenario) (length d)) next.copies) (sym same) first.sound;
      };
      flow = λ number datagram iface is.
          let among = subst (IsAmong number datagram) same is in
          let step = at number datagram iface among in
          let value =
          λ (where_sent : SiteId) (scenario : Scenario). sum_by
          (λ (vrf : VrfId). written_from network datagram iface vrf (slice_get network.state.scenario.vrfs vrf.0)) (entered scenario where_sent)
          in
          let gain : cond (length all == number) (value site (scenario_of old)) 0
          ≡ cond (length all == number) (value datagram.site network.state.scenario) 0 = elim (cases_Bool (length all == number)) [
            | inl t ↦
                let here : number - 1 ≡ length old.datagrams = omega (arith, eqb-true (length all) number t, count) in
                let some : 0 < number = omega (arith, eqb-true (length all) number t, count) in
                let given : slice_get all (length old.datagrams) ≡ Some datagram =
                ap (λ (k : ℕ). slice_get all k) (sym here) ∙ sym (numbered_at all number some)
                ∙ among (omega (arith, eqb-true (length all) number t)) in
                let is_own : slice_get all (length old.datagrams) ≡ Some own = at_end old.datagrams own in
                let one : own ≡ datagram = cc in
                ap (λ (d : Datagram). cond (length all == number) (value d.site (scenario_of old)) 0) one
                ∙ ap (λ (n : OctetNetwork Nodes). cond (length all == number) (value datagram.site n.state.scenario) 0) r.network_is
            | inr f ↦ cond-false (length all == number) (value site (scenario_of old)) 0 f
                ∙ sym (cond-false (length all == number) (value datagram.site network.state.scenario) 0 f)
          ] in
          let grown : had network number datagram iface next.datagrams
          ≡ cond (nat_le number (length old.datagrams + 1)) (written_of network datagram iface) 0 =
          ap (had network number datagram iface) same ∙ ap (λ n. cond (nat_le number n) (written_of network datagram iface) 0) count in
          let last : cond (length all == number) (written_of network datagram iface) 0
          ≡ cond ((length old.datagrams + 1) == number) (written_of network datagram iface) 0 =
          ap (λ n. cond (n == number) (written_of network datagram iface) 0) count in
          omega (
            arith,
            step.flow,
            gains_of_entries network number datagram iface all vrfs,
            gain,
            grown,
            last,
            one_more number (length old.datagrams) (written_of network datagram iface),
          );
    }

-- ---- events

pub event_step : (network : OctetNetwork Nodes) → OnLinks network → (old : World) → Ready network old.datagrams old → (event : Event)
    → IsOfWindow event
    → (acts : List Happened) (next : World) → done old event ≡ Done acts next → EventStep network old (lines_in acts) next
event_step network links old r (events.Send site source group payload) w acts next e =
    sent_step network links old r site source group (packet source group payload) acts next e
event_step network links old r (events.Packet site octets) w acts next e =
    sent_step network links old r site (source_in octets) (group_in octets) octets acts next e
event_step network links old r (events.Hop from to place) w acts next e =
    quiet_step network links old r (row (Land from to place ∷ []) old)
    (λ number datagram iface is. row_comes network old.datagrams links number datagram iface is (Land from to place ∷ []) old r (tt, tt)) acts
    next e
event_step network links old r events.Drain w acts next e =
    quiet_step network links old r (drained old) (λ number datagram iface is. drain_comes network old.datagrams links number datagram iface is old r)
    acts next e
event_step network links old r events.State w acts next e =
    quiet_step network links old r (row (Tell ∷ []) old)
    (λ number datagram iface is. row_comes network old.datagrams links number datagram iface is (Tell ∷ []) old r (tt, tt)) acts next e
event_step network links old r other w acts next e = absurd w
