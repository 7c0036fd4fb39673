-- What the control plane leaves and writes where octets are moved.
use Rattle.std.proofs.Common.{◌≡◌, ◌∙◌, sym, ap, subst, ℕ, true, List, [], ◌∷◌, ◌++◌, take, get_or, slice_set, Some, Result, Ok, Err, OnOk}
use Rattle.std.proofs.lemmas.Option.{same_Some}
use Rattle.scenario_defs.specs.declared.report.ReportLine.{ReportLine}
use Rattle.scenario_defs.specs.declared.scenario.Scenario.{Scenario}
use Rattle.network_defs.specs.session_defs.Octets as octets
use Rattle.network_defs.specs.session_defs.Octets.{OctetNetwork, octet_run}
use Rattle.network_defs.specs.session_defs.System.{Behind, Put}
use Rattle.network_defs.specs.declared.session_defs.direction.Direction.{Direction}
use Rattle.net_sessions.specs.session_transit.TransitData.{Takes, TransitData, octets_at}
use Rattle.mldp_node.specs.declared.fault.NodeFault.{NodeFault}
use Rattle.network_defs.specs.Acts.{put_lines}
use Rattle.network_defs.specs.Costs.{Cores}
use Rattle.network_defs.specs.Counts.{is_end_up}
use Rattle.network_defs.specs.Nodes.{Nodes}
use Rattle.network_defs.specs.System.{system}
use Rattle.network_nodes.specs.Answers.{AnswersOctets}
use Rattle.network_nodes.specs.Edges.{IsOneOf}
use Rattle.network_nodes.specs.Faults.{EdgeFault}
use Rattle.network_nodes.specs.NodeView.{MayBePeer, data_in}
use Rattle.network_nodes.specs.declared.node.NetworkNode.{NetworkNode}
use Rattle.network_acts.specs.control_plane.Acted.{Acted, Acts, IsIn, IsSome, IsSomeMidway, Standing, same_moment}
use Rattle.network_acts.specs.control_plane.Moving.{IsMovable, SettlesTaken, line_of, taken_line}
use Rattle.network_acts.specs.control_plane.Plane.{IsMidway, IsPlane, Moment}
use Rattle.network_acts.specs.control_plane.PlaneView.{PlaneView}
use Rattle.network_acts.proofs.control_plane.MidLemmas.{worked}
use Rattle.network_acts.proofs.control_plane.MoveLemmas.{end_up, move_lacks_at, move_made_at, none_faulty, peer_may}
use Rattle.network_acts.proofs.control_plane.OwnLemmas.{acted, node_there, turn_some}
use Rattle.network_acts.proofs.control_plane.SteadyLemmas.{run_none, run_one}

module _ (over : Direction) (count : ℕ) (plane : PlaneView) (some : IsSome (IsMovable over) plane) (place : ℕ) (own : place ≡ over.to.0)
    (node d : NetworkNode)
    (is_node : node ≡ get_or plane.nodes place d) where
  same_at : (at : Standing) (fits : IsMovable over at) (is : IsIn at plane) → (is.nodes over.to fits.within).node ≡ node
  same_at at fits is =
      same_Some (is.nodes over.to fits.within).node node
      (sym (is.nodes over.to fits.within).at ∙ node_there (IsMovable over) over.to (λ s f. f.within) plane some place own node d is_node at fits is)

  -- the receiver may have the session
  pub peer_here : MayBePeer node over.kind over.from
  peer_here =
      let at = some.0 in
      let fits = some.1 in
      let is = some.2 in
      subst (λ (x : NetworkNode). MayBePeer x over.kind over.from) (same_at at fits is)
      (peer_may at.scenario at.cores at.moment at.network plane is over.kind over.from over.to count fits.within fits.current fits.joined fits.up)

  -- and its end is up
  pub up_here : is_end_up over.kind (data_in node) over.from ≡ true
  up_here =
      let at = some.0 in
      let fits = some.1 in
      let is = some.2 in
      subst (λ (x : NetworkNode). is_end_up over.kind (data_in x) over.from ≡ true) (same_at at fits is)
      (end_up at.scenario at.cores at.moment at.network plane is over.kind over.from over.to count fits.within fits.current fits.joined fits.up)

  module _ (transit : TransitData) (takes : Takes over count plane.transit transit) (bytes : List ℕ)
      (are : bytes ≡ take count (octets_at plane.transit over)) (next : NetworkNode)
      (answer : Result (Unit {0}) EdgeFault) (answers : AnswersOctets plane.core plane.clock over.kind over.from bytes node next answer) where
    abbrev middle : PlaneView
    middle = worked over.to plane next transit

    -- what the octets are in the network
    bytes_in : (at : Standing) → IsIn at plane → bytes ≡ take count (at.network.transit over)
    bytes_in at is = are ∙ ap (take count) (sym (is.transit over))

    answers_in : (at : Standing) (fits : IsMovable over at) (is : IsIn at plane)
        → AnswersOctets plane.core plane.clock over.kind over.from (take count (at.network.transit over)) (is.nodes over.to fits.within).node next
        answer
    answers_in at fits is =
        subst (λ (o : List ℕ). AnswersOctets plane.core plane.clock over.kind over.from o (is.nodes over.to fits.within).node next answer)
        (bytes_in at is)
        (subst (λ (x : NetworkNode). AnswersOctets plane.core plane.clock over.kind over.from bytes x next answer) (sym (same_at at fits is)) answers)

    made_in : (at : Standing) → IsMovable over at → IsIn at plane → answer ≡ Ok tt → (new : Behind (OctetNetwork Nodes))
        × (octet_run system at.network (octets.Move over count ∷ []) ≡ Some (record { network = new.network; puts = new.puts ++ [] }))
        × IsMidway at.scenario at.cores at.moment over.to new.puts new.network middle
    made_in at fits is e =
        let made =
        move_made_at at.scenario at.cores at.moment at.network plane is over.kind over.from over.to count fits.within fits.current fits.joined
        fits.up transit takes next answer
        (answers_in at fits is) e in
        (made.0, run_one at.network (octets.Move over count) made.0 made.1, made.2)

    pub move_some : OnOk answer (IsSomeMidway over.to middle)
    move_some = turn_some (IsMovable over) same_moment (octets.Move over count ∷ []) (taken_line over count) over.to plane middle answer made_in some

    pub move_spends : IsOneOf [] answer
    move_spends fault e =
        let at = some.0 in
        let fits = some.1 in
        let is = some.2 in
        none_faulty at.scenario at.cores at.moment at.network plane is over.kind over.from over.to count fits.within fits.current fits.joined fits.up
        transit takes next answer (answers_in at fits is) fault e

    pub move_acts : (new : PlaneView) (lines new_lines : List ReportLine) (result : Result (Unit {0}) NodeFault)
        → SettlesTaken over bytes answer middle new lines new_lines result
        → Acts (IsMovable over) same_moment (octets.Move over count ∷ []) (taken_line over count) plane new lines new_lines result
    move_acts new lines new_lines result settles = record {
      made = by result settles.answered settles.made;
      lacks = λ e at fits is. (
        run_none at.network (octets.Move over count)
            (move_lacks_at at.scenario at.cores at.moment at.network plane is over.kind over.from over.to count fits.within fits.current fits.joined
            fits.up transit takes next answer (answers_in at fits is)
            (settles.lacks e).0),
        (settles.lacks e).1,
      );
    }
      where
        by : (r : Result (Unit {0}) NodeFault) → OnOk r (answer ≡ Ok tt)
            → OnOk r ((scenario : Scenario) (cores : Cores) (moment : Moment) (puts : List Put) (network : OctetNetwork Nodes)
            → IsMidway scenario cores moment over.to puts network middle
            → IsPlane scenario cores moment network new × (new_lines ≡ (lines ++ line_of over bytes ∷ []) ++ put_lines scenario puts))
            → OnOk r ((at : Standing) → IsMovable over at → IsIn at plane
            → Acted at at.moment (octets.Move over count ∷ []) (taken_line over count at) lines new_lines new)
        by (Ok done) answered made = λ at fits is.
            let x = made_in at fits is answered in
            acted at at.moment (octets.Move over count ∷ []) (taken_line over count at) x.0 lines (lines ++ line_of over bytes ∷ []) new_lines new x.1
            (ap (λ (o : List ℕ). lines ++ line_of over o ∷ []) (bytes_in at is)) (made at.scenario at.cores at.moment x.0.puts x.0.network x.2)
        by (Err halt) answered made = tt

-- the same of the node at a place of the plane, as the caller has it
module _ (over : Direction) (count : ℕ) (plane seen : PlaneView) (view : plane ≡ seen) (some : IsSome (IsMovable over) seen) (place : ℕ)
    (own : place ≡ over.to.0) (node d next : NetworkNode) (is_node : node ≡ get_or plane.nodes place d)
    (transit : TransitData) (takes : Takes over count plane.transit transit) (bytes lent : List ℕ)
    (are : bytes ≡ take count (octets_at plane.transit over)) (taken : lent ≡ bytes)
    (answer : Result (Unit {0}) EdgeFault) (taking : AnswersOctets plane.core plane.clock over.kind over.from lent node next answer) where
  some_own : IsSome (IsMovable over) plane
  some_own = subst (IsSome (IsMovable over)) (sym view) some

  answers : AnswersOctets plane.core plane.clock over.kind over.from bytes node next answer
  answers = subst (λ (o : List ℕ). AnswersOctets plane.core plane.clock over.kind over.from o node next answer) taken taking

  abbrev turned : ℕ → PlaneView
  turned at = record plane { nodes = slice_set plane.nodes at next; transit = transit }

  pub moved_midway : OnOk answer (IsSomeMidway over.to (turned place))
  moved_midway =
      subst (λ (k : ℕ). OnOk answer (IsSomeMidway over.to (turned k))) (sym own)
      (move_some over count plane some_own place own node d is_node transit takes bytes are next answer answers)

  pub moved_spends : IsOneOf [] answer
  moved_spends = move_spends over count plane some_own place own node d is_node transit takes bytes are next answer answers

  pub moved_done : (new : PlaneView) (lines new_lines : List ReportLine) (result : Result (Unit {0}) NodeFault)
      → SettlesTaken over bytes answer (turned place) new lines new_lines result
      → Acts (IsMovable over) same_moment (octets.Move over count ∷ []) (taken_line over count) seen new lines new_lines result
  moved_done new lines new_lines result settles =
      subst (λ (p : PlaneView). Acts (IsMovable over) same_moment (octets.Move over count ∷ []) (taken_line over count) p new lines new_lines result)
      view
      (move_acts over count plane some_own place own node d is_node transit takes bytes are next answer answers new lines new_lines result
      (subst (λ (k : ℕ). SettlesTaken over bytes answer (turned k) new lines new_lines result) own settles))
