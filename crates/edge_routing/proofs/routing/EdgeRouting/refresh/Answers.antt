use Rattle.std.proofs.Common.{All, sym, subst}
use Rattle.bgp_values.specs.mvpn_nlri.Spelling.{IsGroup}
use Rattle.bgp_messages.specs.bgp_update.Written.{afi_of}
use Rattle.edge_control.specs.vrf_trees.declared.changes.TreeJoin.{TreeJoin}
use Rattle.control_laws.specs.Control.{control_of}
use Rattle.edge_routing.proofs.Flows.{groups_after, held_after, join_groups}
use Rattle.edge_routing.proofs.routing.EdgeRouting.refresh.Goals as goal

pub hold_joins-requires : goal.hold_joins-requires
hold_joins-requires c = record {
  groups = subst (All (λ (join : TreeJoin). IsGroup (afi_of join.source) join.group)) (sym c.deref.ensures.value)
      (join_groups (control_of c.args.self.now.control) (control_of c.refresh.new.self) c.in_ok-changes.changes.joins.items c.requires.groups
      (groups_after c.args.now c.args.self.now.control c.refresh.new.self c.nodes.ensures.told.0 c.requires.groups c.home.ensures.sound
      (c.in_ok-changes.ensures.refreshed c.nodes.ensures.told.0 c.nodes.ensures.told.1))
      c.in_ok-changes.ensures.joins);
}

pub returns-clause-refreshed : goal.returns-clause-refreshed
returns-clause-refreshed c =
    let own = c.nodes.ensures.told.0 in
    let is_core = c.nodes.ensures.told.1 in
    record {
      own = own;
      is_core = is_core;
      is = record { home = c.refresh.ensures.home; control = c.in_ok-changes.ensures.refreshed };
      trees = c.in_ok-changes.ensures.wanted;
      groups = groups_after c.args.now c.args.self.now.control c.refresh.new.self own c.requires.groups c.home.ensures.sound
          (c.in_ok-changes.ensures.refreshed own is_core);
      hold = λ any vrfs hold.
          held_after c.args.self.now.control c.refresh.new.self own any c.args.now c.in_ok-changes.changes.joins.items c.deref.result.now
          c.args.self.now.tables c.hold_joins.new.tables c.refresh.ensures.home
          (c.in_ok-changes.ensures.refreshed own is_core) vrfs c.in_ok-changes.ensures.joins hold c.deref.ensures.value
          (c.in_ok-hold_joins.ensures.held any);
      alike = c.hold_joins.ensures.told;
      wants = c.in_ok-changes.ensures.tunnels;
    }
