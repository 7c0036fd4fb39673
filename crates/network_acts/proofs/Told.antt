-- The state of a network, as it is told.
use Rattle.std.specs.Prelude.{count_by, sum_by}
use Rattle.std.proofs.Common.{◌≡◌, ◌∙◌, refl, sym, ap, subst, arith, ℕ, ◌<◌, min, not, List, [], ◌∷◌, ◌++◌, length}
use Rattle.std.proofs.lemmas.List.Elements.{All-from_recursion}
use Rattle.scenario_defs.specs.declared.report.ReportLine.{ReportLine}
use Rattle.scenario_defs.specs.declared.report.ReportLine.TheVariants as told
use Rattle.scenario_defs.specs.declared.scenario.Scenario.{Scenario}
use Rattle.mvpn_model.specs.Sessions.{sessions}
use Rattle.mvpn_model.specs.declared.session.Session.{Session}
use Rattle.network_defs.specs.Acts.{Tell}
use Rattle.network_defs.specs.Counts.{all_copies, all_nodes, datagrams_with_copy, due_timers, is_ready, node_due, octets_in_transit, state_line, unready}
use Rattle.network_defs.specs.World.{World, scenario_of}
use Rattle.network_laws.proofs.Lists.{each_weaker}
use Rattle.network_laws.proofs.RunNodes.{HasNodes, sessions_within}
use Rattle.network_acts.specs.control_plane.Acted as planes
use Rattle.network_acts.specs.control_plane.Acted.{IsIn, Standing}
use Rattle.network_acts.specs.control_plane.Queries.{HasEnds, HaveEnds, without_copies}
use Rattle.data_plane.specs.datagram_acts.Stored.{AreLinked, IsIdle}
use Rattle.network_acts.specs.Acting.{Made}
use Rattle.network_acts.specs.Instant.{Any, Instant, IsSome, IsWorld, standing_of}
use Rattle.network_acts.specs.NetworkView.{NetworkView}
use Rattle.network_acts.proofs.PlaneActs.{own_is}

-- both ends of each session of the scenario are nodes
have_ends : (own : NetworkView) (all : List Session) → all ≡ sessions own.scenario → (at : Instant) → IsWorld at own → HaveEnds all (standing_of at)
have_ends own all same at is =
    let scenario : Scenario = scenario_of at.world in
    subst (λ (l : List Session). HaveEnds l (standing_of at)) (sym (same ∙ ap sessions is.scenario))
    (All-from_recursion (λ s. HasEnds s (standing_of at)) (sessions scenario)
    (each_weaker (HasNodes scenario) (λ s. HasEnds s (standing_of at)) (λ s has. record { first = has.0; second = has.1 }) (sessions scenario)
    (sessions_within scenario is.plane.around.steady.sound.lines)))

pub some_ends : (own old : NetworkView) → own ≡ old → (all : List Session) → all ≡ sessions old.scenario → IsSome Any old
    → planes.IsSome (HaveEnds all) own.plane
some_ends own old same all are (at, fits, is) =
    let now = own_is own old same at is in
    (standing_of at, have_ends own all (are ∙ ap (λ (n : NetworkView). sessions n.scenario) (sym same)) at now, now.plane)

-- a count that stayed below the most is exact
exact : (most count counted n : ℕ) → counted ≡ count → counted < most → count ≡ min n most → counted ≡ n
exact most count counted n same below is = omega (arith, same, below, is)

pub tells : (own old : NetworkView) → own ≡ old → (all : List Session) → all ≡ sessions old.scenario
    → (octets copies live due due_told waiting waiting_told : ℕ) (lines new_lines : List ReportLine)
    → ((at : Instant) → IsWorld at old → octets ≡ octets_in_transit at.world)
    → ((world : World) → IsIdle world own.datagrams → AreLinked world → copies ≡ length (all_copies world))
    → ((world : World) → IsIdle world own.datagrams → AreLinked world → live ≡ datagrams_with_copy (all_copies world) (length world.datagrams))
    → ((at : Standing) → IsIn at own.plane → due ≡ min (sum_by (node_due at.network.state) (all_nodes at.scenario)) 18446744073709551615)
    → (due_told ≡ due) × (due_told < 18446744073709551615)
    → ((at : Standing) → HaveEnds all at → IsIn at own.plane
    → waiting ≡ min (count_by (λ session. not (is_ready (without_copies at.network) session)) all) 18446744073709551615)
    → (waiting_told ≡ waiting) × (waiting_told < 18446744073709551615)
    → new_lines ≡ lines ++ told.State octets copies live due_told waiting_told ∷ []
    → (at : Instant) → IsWorld at old → AreLinked at.world → Made at at.moment Tell lines new_lines old
tells own old same all are octets copies live due due_told waiting waiting_told lines new_lines total on with_copy timers due_is ready waiting_is
    pushed at is linked =
    let now = own_is own old same at is in
    let standing = standing_of at in
    let own_sessions : all ≡ sessions own.scenario = are ∙ ap (λ (n : NetworkView). sessions n.scenario) (sym same) in
    let late : due_told ≡ due_timers at.world =
    exact 18446744073709551615 due due_told (due_timers at.world) due_is.0 due_is.1 (timers standing now.plane) in
    let open_ : waiting_told ≡ unready at.world =
    exact 18446744073709551615 waiting waiting_told (unready at.world) waiting_is.0 waiting_is.1
    (ready standing (have_ends own all own_sessions at now) now.plane
    ∙ ap (λ (l : List Session). min (count_by (λ session. not (is_ready at.world session)) l) 18446744073709551615)
    (own_sessions ∙ ap sessions now.scenario)) in
    record {
      thereafter = record { world = at.world; lines = state_line at.world ∷ [] };
      is = refl;
      stands = is;
      told =
          pushed
          ∙ (λ i. lines ++ told.State (total at is i) (on at.world now.datagrams linked i) (with_copy at.world now.datagrams linked i)
          (late i) (open_ i) ∷ []);
    }
