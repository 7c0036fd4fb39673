-- The octets of each datagram that a script sends fit into a frame, and each of its clocks into the time of a record.
use Rattle.std.proofs.Common.{◌≡◌, ℕ, zero, suc, ◌+◌, ◌*◌, ◌/◌, ◌<◌, ◌≤◌, ◌^◌, ◌++◌, take, length, slice_get, List, [], ◌∷◌, Option, None, Some, refl, arith, length-append}
use Rattle.std.specs.Prelude.{if◌then◌else◌}
use Rattle.std.specs.List.{AllByRecursion}
use Rattle.std.proofs.lemmas.Bool.{cond_both}
use Rattle.mv_base.specs.declared.addr.Addr.{Addr}
use Rattle.mv_base.specs.declared.addr.Addr.TheVariants.{V4, V6}
use Rattle.scenario_defs.specs.Rules.{IsEventOf, NamesFlow, ScriptRules}
use Rattle.scenario_defs.specs.declared.event.Event.{Event}
use Rattle.scenario_defs.specs.declared.event.Event.TheVariants as events
use Rattle.scenario_defs.specs.declared.event.Script.{Script}
use Rattle.scenario_defs.specs.declared.event.Timed.{Timed}
use Rattle.scenario_defs.specs.declared.scenario.Scenario.{Scenario}
use Rattle.mvpn_model.specs.Packet.{packet}
use Rattle.mvpn_model.specs.Past.{is_accepted, ticks_in}
use Rattle.mvpn_model.specs.Report.{Datagram, datagrams, sent_by}
use Rattle.mvpn_model.proofs.TicksLemmas.{ticks_few}
use Rattle.delivery_laws.proofs.Copies.{all_at, all_take}
use Rattle.delivery_laws.proofs.network_laws.Lists.{each_append, each_map}
use Rattle.hop_laws.specs.Hops.{datagram_octets, sent_in}

-- ---- datagrams

-- octets that fit into a frame after its 18
abbrev pub FitFrame : List ℕ → Type 0
FitFrame octets = length octets + 18 ≤ 65535

packet_fits : (source group : Addr) (payload : List ℕ) → NamesFlow source group → length payload ≤ 2048 → FitFrame (packet source group payload)
packet_fits (V4 source) (V4 group) payload flow few =
    let a = flow.unicast.0 in
    let b = flow.multicast.0 in
    let inner = length-append source group in
    let outer = length-append (source ++ group) payload in
    omega (arith, a, b, inner, outer, few)
packet_fits (V6 source) (V6 group) payload flow few =
    let a = flow.unicast.0 in
    let b = flow.multicast.0 in
    let inner = length-append source group in
    let outer = length-append (source ++ group) payload in
    omega (arith, a, b, inner, outer, few)
packet_fits (V4 source) (V6 group) payload flow few = absurd flow.family
packet_fits (V6 source) (V4 group) payload flow few = absurd flow.family

abbrev Fits : Datagram → Type 0
Fits datagram = FitFrame datagram.octets

one_fits : (scenario : Scenario) (number : ℕ) (event : Event) → IsEventOf scenario event → AllByRecursion Fits (sent_by number event)
one_fits scenario number (events.Send site source group payload) is = (packet_fits source group payload is.1 is.2, tt)
one_fits scenario number (events.Packet site octets) is = ((let few = is.1 in omega (arith, few)), tt)
one_fits scenario number other is = tt

all_fit : (scenario : Scenario) (refused : List ℕ) (number : ℕ) (list : List Timed)
    → AllByRecursion (λ (timed : Timed). IsEventOf scenario timed.event) list → AllByRecursion Fits (datagrams refused number list)
all_fit scenario refused number [] is = tt
all_fit scenario refused number (timed ∷ more) is =
    each_append Fits (if is_accepted refused timed then sent_by number timed.event else []) (datagrams refused (number + 1) more)
    (cond_both (is_accepted refused timed) (sent_by number timed.event) [] (AllByRecursion Fits) (λ t. one_fits scenario number timed.event is.0)
    (λ f. tt))
    (all_fit scenario refused (number + 1) more is.1)

named_fits : (sent : List (List ℕ)) (number : ℕ) → AllByRecursion FitFrame sent → FitFrame (datagram_octets sent number)
named_fits sent zero each = omega arith
named_fits sent (suc place) each = by (slice_get sent place) refl
  where
    by : (o : Option (List ℕ)) → slice_get sent place ≡ o → FitFrame (elim o [ None ↦ [] | Some octets ↦ octets ])
    by None at = omega arith
    by (Some octets) at = all_at FitFrame sent place octets each at

ticks_first : (scenario : Scenario) (count : ℕ) (list : List Timed) → AllByRecursion (λ (timed : Timed). IsEventOf scenario timed.event) list
    → ticks_in (take count list) ≤ 1000000 * length list
ticks_first scenario zero list is = omega arith
ticks_first scenario (suc count) [] is = omega arith
ticks_first scenario (suc count) (timed ∷ more) is = omega (arith, ticks_few scenario timed.event is.0, ticks_first scenario count more is.1)

module _ (script : Script) (rules : ScriptRules script) where
  -- The octets of each hop fit.
  pub octets_fit : (refused : List ℕ) (count number : ℕ) → FitFrame (datagram_octets (sent_in script.events refused count) number)
  octets_fit refused count number =
      named_fits (sent_in script.events refused count) number
      (each_map FitFrame (λ (datagram : Datagram). datagram.octets) (datagrams refused 0 (take count script.events))
      (all_fit script.scenario refused 0 (take count script.events)
      (all_take (λ (timed : Timed). IsEventOf script.scenario timed.event) count script.events rules.events)))

  -- The clock of each hop fits.
  pub clock_fits : (count : ℕ) → ticks_in (take count script.events) / 1000 < 2 ^ 32
  clock_fits count =
      let ticks = ticks_first script.scenario count script.events rules.events in
      let few = rules.few in
      omega (arith, ticks, few)
