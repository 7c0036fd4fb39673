-- Rows of acts in a network whose nodes do not change: what was written and what is owed grows by what was let in.
use Rattle.std.specs.Prelude.{⊤, replicate, sum_by}
use Rattle.std.proofs.Common.{◌≡◌, ℕ, zero, suc, ◌+◌, ◌≤◌, ◌++◌, length, List, [], ◌∷◌, Some, Ok, Err, Result, refl, sym, ap, subst, subst₂, append-nil, ◌∙◌, arith}
use Rattle.std.specs.List.{flat_map, AllByRecursion}
use Rattle.std.proofs.lemmas.List.Concat.{flat_map-append}
use Rattle.std.proofs.lemmas.List.Sums.{sum_by-cons}
use Rattle.mv_base.specs.declared.ids.IfaceId.{IfaceId}
use Rattle.mv_base.specs.declared.ids.NodeId.{NodeId}
use Rattle.scenario_defs.specs.declared.report.ReportLine.{ReportLine}
use Rattle.network_defs.specs.session_defs.Octets.{OctetNetwork}
use Rattle.mvpn_model.specs.Report.{is_out_at}
use Rattle.network_defs.specs.Acts.{Act, Land, Acted, act}
use Rattle.network_defs.specs.Counts.{link_ways}
use Rattle.network_defs.specs.Events.{Happened, Outcome, Done, Halted, and_then, one_act, row, times, landings, drain_round, drained}
use Rattle.network_defs.specs.Nodes.{Nodes}
use Rattle.network_defs.specs.World.{World, Datagram, scenario_of, numbered}
use Rattle.delivery_laws.specs.Flood.{fates_in, owed_by, total, SoundCopy, OnLinks, lines_in, outs_in}
use Rattle.delivery_laws.proofs.Totals.{count-append}
use Rattle.delivery_laws.proofs.Copies.{EachCopy}
use Rattle.delivery_laws.proofs.Landings.{IsWindowAct, gain_of, act_moves}
use Rattle.network_laws.proofs.Lists.{each_append}

-- The nodes and the datagrams are these, and each copy is sound.
pub record Ready (network : OctetNetwork Nodes) (datagrams : List Datagram) (world : World) : Type 0 where
  pub network_is : world.network ≡ network
  pub datagrams_are : world.datagrams ≡ datagrams
  pub sound : EachCopy (SoundCopy (link_ways network.state.scenario) (length datagrams)) world.copies

-- what the copies on links owe
abbrev pub owed : OctetNetwork Nodes → ℕ → Datagram → IfaceId → World → ℕ
owed network number datagram iface world = total (owed_by (fates_in network datagram) number iface) (link_ways network.state.scenario) world.copies

pub record Step (network : OctetNetwork Nodes) (datagrams : List Datagram) (number : ℕ) (datagram : Datagram) (iface : IfaceId) (old : World)
    (gain : ℕ) (all : List ReportLine) (new : World) : Type 0 where
  pub ready : Ready network datagrams new
  pub flow : outs_in number iface all + owed network number datagram iface new ≡ owed network number datagram iface old + gain

module _ (network : OctetNetwork Nodes) (datagrams : List Datagram) (links : OnLinks network) (number : ℕ) (datagram : Datagram) (iface : IfaceId)
    (is : number ≤ length datagrams → numbered datagrams number ≡ Some datagram) where
  abbrev Goes : World → ℕ → List ReportLine → World → Type 0
  Goes old gain all new = Step network datagrams number datagram iface old gain all new

  abbrev gains : Act → ℕ
  gains one = gain_of number datagram iface network datagrams one

  act_goes : (world : World) → Ready network datagrams world → (one : Act) → IsWindowAct datagrams one
      → (acted : Acted) × (act world one ≡ Ok acted) × Goes world (gains one) acted.lines acted.world
  act_goes world r one h =
      let own : (net : OctetNetwork Nodes) → world.network ≡ net → (all : List Datagram) → world.datagrams ≡ all → OnLinks net
      → (number ≤ length all → numbered all number ≡ Some datagram)
      → EachCopy (SoundCopy (link_ways net.state.scenario) (length all)) world.copies → IsWindowAct all one
      → (acted : Acted) × (act world one ≡ Ok acted)
      × Step net all number datagram iface world (gain_of number datagram iface net all one) acted.lines acted.world =
      λ net e all f. subst₂ (λ (n : OctetNetwork Nodes) (d : List Datagram). OnLinks n → (number ≤ length d → numbered d number ≡ Some datagram)
      → EachCopy (SoundCopy (link_ways n.state.scenario) (length d)) world.copies → IsWindowAct d one
      → (acted : Acted) × (act world one ≡ Ok acted)
      × Step n d number datagram iface world (gain_of number datagram iface n d one) acted.lines acted.world) e f
      (λ l i s w.
      let m = act_moves number datagram iface world l s i one w in
      (m.0, m.1, record { ready = record { network_is = m.2.network; datagrams_are = m.2.datagrams; sound = m.2.sound }; flow = m.2.flow })) in
      own network r.network_is datagrams r.datagrams_are links is r.sound h

  -- ---- outcomes

  abbrev pub Comes : World → ℕ → Outcome → Type 0
  Comes old gain (Halted acts node) = ⊤
  Comes old gain (Done acts new) = Goes old gain (lines_in acts) new

  step_then : (a b c : World) (g h : ℕ) (first more : List Happened) → Goes a g (lines_in first) b → Goes b h (lines_in more) c
      → Goes a (g + h) (lines_in (first ++ more)) c
  step_then a b c g h first more x y =
      let both : outs_in number iface (lines_in (first ++ more)) ≡ outs_in number iface (lines_in first) + outs_in number iface (lines_in more) =
      ap (outs_in number iface) (flat_map-append (λ (happened : Happened). happened.lines) first more)
      ∙ count-append (is_out_at number iface) (lines_in first) (lines_in more) in
      record { ready = y.ready; flow = omega (arith, both, x.flow, y.flow) }

  pub then_comes : (old : World) (g h : ℕ) (first : Outcome) (next : World → Outcome) → Comes old g first
      → ((world : World) → Ready network datagrams world → Comes world h (next world)) → Comes old (g + h) (and_then first next)
  then_comes old g h (Halted acts node) next p k = tt
  then_comes old g h (Done acts world) next p k = by (next world) (k world p.ready)
    where
      by : (o : Outcome) → Comes world h o → Comes old (g + h)
          (elim o [ Done thereafter new ↦ Done (acts ++ thereafter) new | Halted thereafter node ↦ Halted (acts ++ thereafter) node ])
      by (Halted thereafter node) q = tt
      by (Done thereafter new) q = step_then old world new g h acts thereafter p q

  nothing_comes : (world : World) → Ready network datagrams world → Comes world 0 (Done [] world)
  nothing_comes world r = record { ready = r; flow = omega arith }

  one_comes : (world : World) → Ready network datagrams world → (one : Act) → IsWindowAct datagrams one → Comes world (gains one) (one_act world one)
  one_comes world r one h =
      let m = act_goes world r one h in
      subst (λ (o : Result Acted NodeId). Comes world (gains one)
      (elim o [ Ok new ↦ Done (record { act = Some one; lines = new.lines } ∷ []) new.world | Err node ↦ Halted [] node ])) (sym m.1)
      (subst (λ (l : List ReportLine). Goes world (gains one) l m.0.world) (sym (append-nil m.0.lines)) m.2)

  pub row_comes : (acts : List Act) (world : World) → Ready network datagrams world → AllByRecursion (IsWindowAct datagrams) acts
      → Comes world (sum_by gains acts) (row acts world)
  row_comes [] world r h = nothing_comes world r
  row_comes (one ∷ more) world r h =
      subst (λ g. Comes world g (row (one ∷ more) world)) (sym (sum_by-cons gains one more))
      (then_comes world (gains one) (sum_by gains more) (one_act world one) (row more) (one_comes world r one h.0)
      (λ next s. row_comes more next s h.1))

  -- ---- drain

  pub times_comes : (round : World → Outcome) → ((world : World) → Ready network datagrams world → Comes world 0 (round world))
      → (count : ℕ) (world : World) → Ready network datagrams world → Comes world 0 (times round count world)
  times_comes round h zero world r = nothing_comes world r
  times_comes round h (suc count) world r =
      then_comes world 0 0 (round world) (times round count) (h world r) (λ next s. times_comes round h count next s)

  -- acts that land copies
  abbrev pub IsLanding : Act → Type 0
  IsLanding (Land from to place) = Unit {0}
  IsLanding other = ⊥

  landing_acts : (acts : List Act) → AllByRecursion IsLanding acts → AllByRecursion (IsWindowAct datagrams) acts × (sum_by gains acts ≡ 0)
  landing_acts [] h = (tt, refl)
  landing_acts (Land from to place ∷ more) h = let rest = landing_acts more h.1 in
      ((tt, rest.0), omega (arith, sum_by-cons gains (Land from to place) more, rest.1))
  landing_acts (other ∷ more) h = absurd h.0

  pub landings_come : (acts : List Act) → AllByRecursion IsLanding acts → (world : World) → Ready network datagrams world
      → Comes world 0 (row acts world)
  landings_come acts h world r = let l = landing_acts acts h in subst (λ g. Comes world g (row acts world)) l.1 (row_comes acts world r l.0)

  pub are_landings : (world : World) (list : List (NodeId × NodeId)) → AllByRecursion IsLanding (flat_map (landings world) list)
  are_landings world [] = tt
  are_landings world (way ∷ more) =
      each_append IsLanding (landings world way) (flat_map (landings world) more) (copies (length (world.copies way.0 way.1)))
      (are_landings world more)
    where
      copies : (count : ℕ) → AllByRecursion IsLanding (replicate count (Land way.0 way.1 1))
      copies zero = tt
      copies (suc count) = (tt, copies count)

  pub drain_comes : (world : World) → Ready network datagrams world → Comes world 0 (drained world)
  drain_comes world r =
      times_comes drain_round (λ next s. landings_come (flat_map (landings next) (link_ways (scenario_of next)))
      (are_landings next (link_ways (scenario_of next))) next s) 255 world r
