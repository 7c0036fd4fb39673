-- Acts of the control plane, as acts of the whole network.
use Rattle.std.proofs.Common.{◌≡◌, ◌∙◌, refl, sym, ap, subst, ℕ, List, [], ◌∷◌, ◌++◌, Option, None, Result, Err, OnOk}
use Rattle.std.specs.List.{flat_map}
use Rattle.std.proofs.lemmas.Result.{on_ok_weaker}
use Rattle.mv_base.specs.declared.ids.NodeId.{NodeId}
use Rattle.mv_base.specs.declared.memory.NoMemory.{NoMemory}
use Rattle.scenario_defs.specs.declared.report.ReportLine.{ReportLine}
use Rattle.scenario_defs.specs.declared.scenario.Scenario.{Scenario}
use Rattle.network_defs.specs.session_defs.Octets as octets
use Rattle.network_defs.specs.session_defs.Octets.{OctetAct, OctetNetwork, octet_run}
use Rattle.network_defs.specs.session_defs.System.{Behind}
use Rattle.network_defs.specs.declared.session_defs.direction.Direction.{Direction}
use Rattle.edge_defs.specs.Steps.{Call}
use Rattle.mldp_node.specs.declared.fault.NodeFault.{NodeFault}
use Rattle.network_defs.specs.Acts.{Act, At, Tick, act, aged, at_node, put_line, put_lines, with_aged, with_network}
use Rattle.network_defs.specs.Costs.{Cores}
use Rattle.network_defs.specs.Counts.{directions}
use Rattle.network_defs.specs.Nodes.{Nodes}
use Rattle.network_defs.specs.System.{Elapse, NodeCall, Own, system}
use Rattle.network_defs.specs.World.{World, scenario_of}
use Rattle.network_acts.specs.control_plane.Acted as planes
use Rattle.network_acts.specs.control_plane.Acted.{Acted, Acts, IsIn, Standing}
use Rattle.network_acts.specs.control_plane.Customers.{CustomerActs}
use Rattle.network_acts.specs.control_plane.Passing as passing
use Rattle.network_acts.specs.control_plane.Plane.{IsPlane, Moment}
use Rattle.network_acts.specs.control_plane.PlaneView.{PlaneView}
use Rattle.network_acts.specs.declared.control_plane.customers.Verdict.{Verdict}
use Rattle.data_plane.specs.datagram_acts.DatagramsView.{DatagramsView}
use Rattle.data_plane.specs.datagram_acts.Stored.{IsIdle}
use Rattle.network_acts.specs.Acting.{ActsAs, Made, Passes, PassesAs}
use Rattle.network_acts.specs.Customers.{CustomerActsAs}
use Rattle.network_acts.specs.Instant.{Instant, IsSome, IsWorld, OfPlane, standing_of}
use Rattle.network_acts.specs.NetworkView.{NetworkView}

-- ---- which world it is

-- the plane is that of the world, in the words of that world's own scenario
in_own_words : (scenario : Scenario) (cores : Cores) (moment : Moment) (network : OctetNetwork Nodes) (plane : PlaneView)
    → IsPlane scenario cores moment network plane → IsPlane network.state.scenario cores moment network plane
in_own_words scenario cores moment network plane is = subst (λ (s : Scenario). IsPlane s cores moment network plane) (sym is.around.scenario_is) is

-- datagrams that are not handled are the same where nodes and sessions alone change
idle_still : (world : World) (network : OctetNetwork Nodes) (view : DatagramsView) → IsIdle world view
    → IsIdle (record world { network = network }) view
idle_still world network view idle =
    record { stores = record { copies = idle.stores.copies; buffers = idle.stores.buffers }; none = idle.none; count = idle.count }

-- the network after a change of its plane
world_after : (at : Instant) (moment : Moment) (network : OctetNetwork Nodes) (own : NetworkView) (plane : PlaneView) → IsWorld at own
    → IsPlane (scenario_of at.world) at.cores moment network plane
    → IsWorld (record { cores = at.cores; moment = moment; world = record at.world { network = network } }) (record own { plane = plane })
world_after at moment network own plane is now = record {
  scenario = is.scenario ∙ sym now.around.scenario_is;
  plane = in_own_words (scenario_of at.world) at.cores moment network plane now;
  datagrams = idle_still at.world network own.datagrams is.datagrams;
}

-- some world of which this holds has some plane of which it holds
pub some_plane : (Fits : Standing → Type 0) (own old : NetworkView) → own ≡ old → IsSome (OfPlane Fits) old → planes.IsSome Fits own.plane
some_plane Fits own old same (at, fits, is) = (standing_of at, fits, (subst (IsWorld at) (sym same) is).plane)

-- and so has the plane as the call has it
pub some_here : (Fits : Standing → Type 0) (own old : NetworkView) → own ≡ old → (plane : PlaneView) → plane ≡ own.plane
    → IsSome (OfPlane Fits) old → planes.IsSome Fits plane
some_here Fits own old same plane seen some = subst (planes.IsSome Fits) (sym seen) (some_plane Fits own old same some)

pub own_is : (own old : NetworkView) → own ≡ old → (at : Instant) → IsWorld at old → IsWorld at own
own_is own old same at is = subst (IsWorld at) (sym same) is

-- ---- an act

made : (at : Instant) (moment : Moment) (happening : Act) (n : NodeId) (before : List ReportLine) (acts : List (OctetAct NodeCall))
    (lines new_lines : List ReportLine) (own : NetworkView) (plane : PlaneView)
    → act at.world happening ≡ at_node at.world n before acts → IsWorld at own → Acted (standing_of at) moment acts before lines new_lines plane
    → Made at moment happening lines new_lines (record own { plane = plane })
made at moment happening n before acts lines new_lines own plane form is done = record {
  thereafter = record { world = record at.world { network = done.new.network }; lines = before ++ put_lines (scenario_of at.world) done.new.puts };
  is = form ∙ ap (λ (o : Option (Behind (OctetNetwork Nodes))). with_network at.world before o n) done.run;
  stands = world_after at moment done.new.network own plane is done.is;
  told = done.told;
}

lacks : (world : World) (happening : Act) (n : NodeId) (before : List ReportLine) (acts : List (OctetAct NodeCall))
    → act world happening ≡ at_node world n before acts → octet_run system world.network acts ≡ None
    → act world happening ≡ Err n
lacks world happening n before acts form none = form ∙ ap (λ (o : Option (Behind (OctetNetwork Nodes))). with_network world before o n) none

module _ (own old : NetworkView) (same : own ≡ old) (plane : PlaneView) where
  -- an act at a node
  pub acts_as : (Fits : Standing → Type 0) (moment : Moment → Moment) (happening : Act) (n : NodeId) (acts : List (OctetAct NodeCall))
      (first : Standing → List ReportLine) (lines new_lines : List ReportLine)
      (result : Result (Unit {0}) NodeFault) → ((at : Instant) → act at.world happening ≡ at_node at.world n (first (standing_of at)) acts)
      → Acts Fits moment acts first own.plane plane lines new_lines result
      → ActsAs (OfPlane Fits) moment happening n old (record own { plane = plane }) lines new_lines result
  acts_as Fits moment happening n acts first lines new_lines result form row = record {
    made = on_ok_weaker result (λ each at fits is.
        let now = own_is own old same at is in
        made at (moment at.moment) happening n (first (standing_of at)) acts lines new_lines own plane (form at) now
        (each (standing_of at) fits now.plane)) row.made;
    lacks = λ e at fits is.
        let none = row.lacks e (standing_of at) fits (own_is own old same at is).plane in
        (lacks at.world happening n (first (standing_of at)) acts (form at) none.0, none.1);
  }

  -- a call of a customer or of the operator
  pub customer_acts_as : (n : NodeId) (call : Call) (lines new_lines : List ReportLine) (result : Result Verdict NodeFault)
      → CustomerActs n call own.plane plane lines new_lines result
      → CustomerActsAs n call old (record own { plane = plane }) lines new_lines result
  customer_acts_as n call lines new_lines result row = record {
    made = λ e at fits is.
        let now = own_is own old same at is in
        let done = row.made e (standing_of at) fits now.plane in
        (done.0, made at at.moment (At n call) n [] (octets.Call (Own n call) ∷ []) lines new_lines own plane refl now done.1);
    full = λ e.
        let all = row.full e in (
          (λ at fits is. all.0 (standing_of at) fits (own_is own old same at is).plane),
          ap (λ (p : PlaneView). record own { plane = p }) all.1 ∙ same,
          all.2,
        );
    lacks = λ e at fits is.
        let none = row.lacks e (standing_of at) fits (own_is own old same at is).plane in
        (none.0, lacks at.world (At n call) n [] (octets.Call (Own n call) ∷ []) refl none.1, none.2);
  }

-- ---- acts by which nothing is put

none_put : (ways : List Direction) → flat_map (put_line []) ways ≡ []
none_put [] = refl
none_put (over ∷ more) = none_put more

acted : (at : Standing) (acts : List (OctetAct NodeCall)) (moment : Moment) (plane : PlaneView) → passing.Passes at acts moment plane
    → Acted at moment acts [] [] [] plane
acted at acts moment plane done = record {
  new = record { network = done.network; puts = [] };
  run = done.run;
  is = done.is;
  told = sym (none_put (directions at.scenario));
}

module _ (own old : NetworkView) (same : own ≡ old) (plane : PlaneView) where
  pub passes : (at : Instant) (moment : Moment) (happening : Act) (n : NodeId) (acts : List (OctetAct NodeCall))
      → act at.world happening ≡ at_node at.world n [] acts → IsWorld at old
      → (IsIn (standing_of at) own.plane → passing.Passes (standing_of at) acts moment plane)
      → Passes at moment happening (record own { plane = plane })
  passes at moment happening n acts form is passed =
      let now = own_is own old same at is in
      made at moment happening n [] acts [] [] own plane form now (acted (standing_of at) acts moment plane (passed now.plane))

  pub passes_as : (Fits : Instant → Type 0) (moment : Moment → Moment) (happening : Act) (n : NodeId) (acts : List (OctetAct NodeCall))
      (result : Result (Unit {0}) NoMemory)
      → ((at : Instant) → act at.world happening ≡ at_node at.world n [] acts)
      → OnOk result ((at : Instant) → IsWorld at old → IsIn (standing_of at) own.plane
      → passing.Passes (standing_of at) acts (moment at.moment) plane)
      → PassesAs Fits moment happening old (record own { plane = plane }) result
  passes_as Fits moment happening n acts result form done =
      on_ok_weaker result (λ each at fits is. passes at (moment at.moment) happening n acts (form at) is (each at is)) done

  -- time passes, and copies are removed
  pub ticks : (at : Instant) (count : ℕ) (datagrams : DatagramsView) → IsWorld at old
      → (IsIn (standing_of at) own.plane → passing.Passes (standing_of at) (octets.Call (Elapse count) ∷ []) at.moment plane)
      → ((world : World) → IsIdle world own.datagrams
      → IsIn (record { scenario = scenario_of at.world; cores = at.cores; moment = at.moment; network = world.network }) plane
      → scenario_of world ≡ scenario_of at.world → IsIdle (aged world) datagrams)
      → Passes at at.moment (Tick count) (record { scenario = own.scenario; plane = plane; datagrams = datagrams })
  ticks at count datagrams is passed ages =
      let now = own_is own old same at is in
      let done = acted (standing_of at) (octets.Call (Elapse count) ∷ []) at.moment plane (passed now.plane) in
      let world : World = record at.world { network = done.new.network } in
      let stands = world_after at at.moment done.new.network own plane now done.is in
      record {
        thereafter = record { world = aged world; lines = [] ++ put_lines (scenario_of at.world) done.new.puts };
        is = ap (λ (o : Option (Behind (OctetNetwork Nodes))). with_aged (with_network at.world [] o (record { 0 = 0 }))) done.run;
        stands = record {
          scenario = stands.scenario;
          plane = stands.plane;
          datagrams =
              ages world stands.datagrams done.is done.is.around.scenario_is;
        };
        told = done.told;
      }
