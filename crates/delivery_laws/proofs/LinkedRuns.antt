-- In every run branches lead along links, and copies are sound.
use Rattle.std.specs.Prelude.{⊤, count_by, ◌==◌, ◌&&◌}
use Rattle.std.proofs.Common.{◌≡◌, suc, ◌+◌, ◌-◌, ◌<◌, nat_le, true, take, length, List, [], ◌∷◌, Option, None, Some, Ok, Err, Result, sym, subst, inl, inr, arith}
use Rattle.std.specs.List.{remove, AllByRecursion}
use Rattle.std.proofs.lemmas.Bool.{or_cases, and_parts, true≢false}
use Rattle.mv_base.specs.declared.addr.Addr.TheVariants.{V4}
use Rattle.mv_base.specs.declared.ids.NodeId.{NodeId}
use Rattle.scenario_defs.specs.declared.event.Kind.{Kind}
use Rattle.scenario_defs.specs.declared.event.Kind.TheVariants as kinds
use Rattle.scenario_defs.specs.declared.report.ReportLine.{ReportLine}
use Rattle.scenario_defs.specs.declared.report.ReportLine.TheVariants as lines
use Rattle.scenario_defs.specs.declared.scenario.Scenario.{Scenario}
use Rattle.scenario_defs.specs.Kinds.{same_kind}
use Rattle.network_defs.specs.session_defs.Octets as octets
use Rattle.network_defs.specs.session_defs.Octets.{OctetNetwork, OctetAct}
use Rattle.network_defs.specs.session_defs.System.{Behind}
use Rattle.network_defs.specs.declared.session_defs.direction.Direction.{Direction}
use Rattle.edge_defs.specs.Steps as steps
use Rattle.network_defs.specs.Acts.{Act, Tick, Timers, Move, Lose, Notice, RaiseFirst, RaiseSecond, Restart, At, Enter, Land, Drop, Tell, SetCost, Reroute, Acted, act, with_network, at_node, is_of_session, is_at, leads_to, is_from_peer, with_aged}
use Rattle.label_defs.specs.Between.{is_between}
use Rattle.network_defs.specs.Counts.{direction, link_ways}
use Rattle.network_defs.specs.Nodes.{Nodes}
use Rattle.network_defs.specs.System.{NodeCall, Own, Elapse, Reset, Price, Follow, system}
use Rattle.network_defs.specs.World.{World, Datagram, scenario_of, clock_of}
use Rattle.delivery_laws.specs.Flood.{is_way, SoundCopy, OnLinks}
use Rattle.delivery_laws.specs.Linked.{LinkIf, NetworkLinked}
use Rattle.delivery_laws.proofs.Copies.{all_but_one, all_filter, EachCopy, each_replaced}
use Rattle.delivery_laws.proofs.LinkedParts.{MayCall}
use Rattle.delivery_laws.proofs.LinkedNetworks.{MayHappen, run_linked}
use Rattle.delivery_laws.proofs.Landings.{IsWindowAct, act_moves}
use Rattle.delivery_laws.proofs.Outcomes.{Gives}
use Rattle.label_defs.proofs.KeyLemmas.{node_equal}
use Rattle.network_laws.proofs.ready_laws.Octets.{Leads as NetworkLeads}

-- What holds of every run: the network is linked, and each copy is sound.
pub record Linked (scenario : Scenario) (world : World) : Type 0 where
  pub network : NetworkLinked scenario world.network
  pub sound : EachCopy (SoundCopy (link_ways scenario) (length world.datagrams)) world.copies

pub on_links : (scenario : Scenario) (world : World) → Linked scenario world → OnLinks world.network
on_links scenario world l n branch is =
    subst (λ (s : Scenario). count_by (is_way n branch.node) (link_ways s) ≡ 1) (sym l.network.nodes.place) (l.network.nodes.links n branch is)

nobody : Datagram
nobody = record { site = record { 0 = 0 }; source = V4 []; group = V4 []; octets = [] }

module _ (scenario : Scenario) where
  abbrev Any : List ReportLine → Type 0
  Any all = ⊤

  -- ---- acts

  -- the acts of events: label messages are taken by moves alone, and sessions over LDP are those of links
  abbrev pub IsFine : Act → Type 0
  IsFine (At n call) = MayCall scenario n call
  IsFine (RaiseFirst kind a b) = LinkIf scenario kind a b × LinkIf scenario kind b a
  IsFine (Enter id) = ⊥
  IsFine other = ⊤

  -- the acts by which a datagram enters
  abbrev pub LetsIn : Act → Type 0
  LetsIn (Enter id) = ⊤
  LetsIn other = ⊥

  network_gives : (world : World) (before : List ReportLine) (node : NodeId) (o : Option (Behind (OctetNetwork Nodes))) → Linked scenario world
      → NetworkLeads (NetworkLinked scenario) o → Gives Any (Linked scenario) (with_network world before o node)
  network_gives world before node None l h = tt
  network_gives world before node (Some new) l h = (tt, record { network = h; sound = l.sound })

  node_gives : (world : World) (node : NodeId) (before : List ReportLine) (acts : List (OctetAct NodeCall)) → AllByRecursion (MayHappen scenario) acts
      → Linked scenario world → Gives Any (Linked scenario) (at_node world node before acts)
  node_gives world node before acts w l =
      network_gives world before node (octets.octet_run system world.network acts) l (run_linked scenario acts w world.network l.network)

  aged_gives : (o : Result Acted NodeId) → Gives Any (Linked scenario) o → Gives Any (Linked scenario) (with_aged o)
  aged_gives (Err node) h = tt
  aged_gives (Ok new) h = (
    tt,
    record {
      network = h.1.network;
      sound = λ u n. all_filter (SoundCopy (link_ways scenario) (length new.world.datagrams) u n)
          (λ copy. nat_le (clock_of new.world) (copy.put_at + (scenario_of new.world).life)) (new.world.copies u n) (h.1.sound u n);
    },
  )

  by_kind : (kind own : Kind) (a b : NodeId) → same_kind kind own ≡ true → LinkIf scenario kind a b → LinkIf scenario own a b
  by_kind kinds.Bgp kinds.Bgp a b e h = tt
  by_kind kinds.Ldp kinds.Ldp a b e h = h
  by_kind kinds.Bgp kinds.Ldp a b e h = absurd (true≢false (sym e))
  by_kind kinds.Ldp kinds.Bgp a b e h = absurd (true≢false (sym e))

  joins_links : (kind : Kind) (a b : NodeId) → LinkIf scenario kind a b × LinkIf scenario kind b a → (over : Direction)
      → is_of_session kind a b over ≡ true → LinkIf scenario over.kind over.to over.from
  joins_links kind a b w over e =
      let parts = and_parts (same_kind kind over.kind) (is_between a b over.from over.to) e in
      elim (or_cases ((over.from.0 == a.0) && (over.to.0 == b.0)) ((over.from.0 == b.0) && (over.to.0 == a.0)) parts.1) [
        | inl t ↦
            let ends = and_parts (over.from.0 == a.0) (over.to.0 == b.0) t in
            by_kind kind over.kind over.to over.from parts.0
            (subst (λ (x : NodeId). LinkIf scenario kind over.to x) (sym (node_equal over.from a ends.0))
            (subst (λ (x : NodeId). LinkIf scenario kind x a) (sym (node_equal over.to b ends.1)) w.1))
        | inr t ↦
            let ends = and_parts (over.from.0 == b.0) (over.to.0 == a.0) t in
            by_kind kind over.kind over.to over.from parts.0
            (subst (λ (x : NodeId). LinkIf scenario kind over.to x) (sym (node_equal over.from b ends.0))
            (subst (λ (x : NodeId). LinkIf scenario kind x b) (sym (node_equal over.to a ends.1)) w.0))
      ]

  -- acts on copies
  copies_give : (one : Act) (world : World) → IsWindowAct world.datagrams one → Linked scenario world
      → Gives Any (λ new. Linked scenario new × (new.datagrams ≡ world.datagrams)) (act world one)
  copies_give one world w l =
      let place = l.network.nodes.place in
      let sound = subst (λ (s : Scenario). EachCopy (SoundCopy (link_ways s) (length world.datagrams)) world.copies) (sym place) l.sound in
      let m = act_moves (suc (length world.datagrams)) nobody (record { 0 = 0 }) world (on_links scenario world l) sound
      (λ le. absurd (omega (arith, le))) one w in
      let kept = subst (λ (s : Scenario). EachCopy (SoundCopy (link_ways s) (length world.datagrams)) m.0.world.copies) place m.2.sound in
      subst (Gives Any (λ new. Linked scenario new × (new.datagrams ≡ world.datagrams))) (sym m.1) (
        tt,
        (
          record {
            network = subst (NetworkLinked scenario) (sym m.2.network) l.network;
            sound =
                subst (λ (d : List Datagram). EachCopy (SoundCopy (link_ways scenario) (length d)) m.0.world.copies) (sym m.2.datagrams) kept;
          },
          m.2.datagrams,
        ),
      )

  gives_first : (P Q : World → Type 0) (o : Result Acted NodeId) → ((w : World) → P w → Q w) → Gives Any P o → Gives Any Q o
  gives_first P Q (Err node) h g = tt
  gives_first P Q (Ok new) h g = (tt, h new.world g.1)

  pub act_linked : (one : Act) → IsFine one → (world : World) → Linked scenario world → Gives Any (Linked scenario) (act world one)
  act_linked (Tick ticks) w world l =
      aged_gives (at_node world (record { 0 = 0 }) [] (octets.Call (Elapse ticks) ∷ []))
      (node_gives world (record { 0 = 0 }) [] (octets.Call (Elapse ticks) ∷ []) (tt, tt) l)
  act_linked (Timers n) w world l = node_gives world n [] (octets.Call (Own n steps.Timers) ∷ []) (tt, tt) l
  act_linked (Move kind from to count) w world l =
      node_gives world to (lines.Take kind from to (take count (world.network.transit (direction kind from to))) ∷ [])
      (octets.Move (direction kind from to) count ∷ []) (tt, tt) l
  act_linked (Lose kind a b) w world l = node_gives world a [] (octets.Lose (is_of_session kind a b) ∷ []) (tt, tt) l
  act_linked (Notice kind a b) w world l =
      node_gives world a [] (octets.Forget (is_from_peer kind a b) ∷ octets.Call (Own a (steps.Noticed kind b)) ∷ []) (tt, (tt, tt)) l
  act_linked (RaiseFirst kind a b) w world l =
      node_gives world a [] (octets.Join (is_of_session kind a b) ∷ octets.Call (Own a (steps.Raised kind b)) ∷ []) (joins_links kind a b w, (tt, tt))
      l
  act_linked (RaiseSecond kind a b) w world l = node_gives world b [] (octets.Call (Own b (steps.Raised kind a)) ∷ []) (tt, tt) l
  act_linked (Restart n) w world l =
      node_gives world n [] (octets.Lose (is_at n) ∷ octets.Forget (leads_to n) ∷ octets.Call (Reset n) ∷ []) (tt, (tt, (tt, tt))) l
  act_linked (At n call) w world l = node_gives world n [] (octets.Call (Own n call) ∷ []) (w, tt) l
  act_linked (Enter vrf) w world l = absurd w
  act_linked (Land from to place) w world l =
      gives_first (λ new. Linked scenario new × (new.datagrams ≡ world.datagrams)) (Linked scenario) (act world (Land from to place)) (λ new g. g.0)
      (copies_give (Land from to place) world tt l)
  act_linked (Drop from to place) w world l = (
    tt,
    record {
      network = l.network;
      sound = each_replaced (SoundCopy (link_ways scenario) (length world.datagrams)) from to (remove (world.copies from to) (place - 1)) world.copies
          (all_but_one (SoundCopy (link_ways scenario) (length world.datagrams) from to) (world.copies from to) (place - 1) (l.sound from to))
          l.sound;
    },
  )
  act_linked Tell w world l = (tt, l)
  act_linked (SetCost a b cost) w world l = node_gives world a [] (octets.Call (Price a b cost) ∷ []) (tt, tt) l
  act_linked (Reroute n) w world l = node_gives world n [] (octets.Call (Follow n) ∷ []) (tt, tt) l

  -- while a datagram enters
  pub record Entering (world : World) : Type 0 where
    pub linked : Linked scenario world
    pub some : 0 < length world.datagrams

  pub entry_linked : (one : Act) → LetsIn one → (world : World) → Entering world → Gives Any Entering (act world one)
  entry_linked (Enter vrf) w world l =
      gives_first (λ new. Linked scenario new × (new.datagrams ≡ world.datagrams)) Entering (act world (Enter vrf))
      (λ new g. record { linked = g.0; some = subst (λ (d : List Datagram). 0 < length d) (sym g.1) l.some })
      (copies_give (Enter vrf) world l.some l.linked)
  entry_linked other w world l = absurd w
