use Rattle.std.proofs.Common.{◌≡◌, ◌<◌, List, length, get_or, inl, refl, set, sym, subst, ◌∙◌, arith}
use Rattle.std.proofs.lemmas.List.{length-set}
use Rattle.std.specs.List.{AllByRecursion, AllZip}
use Rattle.mldp.specs.declared.mldp_fec.fec.Fec.{Fec}
use Rattle.umh_select.specs.Routes.{AreOfCore}
use Rattle.vrf_words.specs.tree_defs.Flows.{flow_of}
use Rattle.vrf_words.specs.tree_defs.Trees.{TreeData}
use Rattle.vrf_trees.specs.Changes.{flow_in}
use Rattle.vrf_trees.specs.Trees.{IsFresh}
use Rattle.control_laws.specs.Between.{IsRefreshed}
use Rattle.edge_control.specs.Refreshing.{AreAllMoved, IsRestOf}
use Rattle.edge_control.proofs.RefreshJoins.{Tells, left_here, made_here, moved_here}
use Rattle.edge_control.proofs.RefreshTrees.{IsTurned, all_told, each_at, moved_on, none_moved, told_on, turned_by, way_cut, way_end, way_more, way_next, zip_fresh, zip_itself, zip_weaker}
use Rattle.edge_control.proofs.refreshing.refresh_trees.Goals as goal

pub loop-place-init : goal.loop-place-init
loop-place-init c = record {
  long = refl;
  way = refl;
  joins = λ cost costs. subst (AreAllMoved c.args.trees.now.items c.args.trees.now.items) (sym c.new.ensures.items)
      (none_moved c.args.trees.now.items);
  tunnels = zip_itself (Tells c.new-2.result.items) (λ tree fec none. refl) c.args.trees.now.items;
}

pub returns-then-all_fresh-clause-refreshed : goal.returns-then-all_fresh-clause-refreshed
returns-then-all_fresh-clause-refreshed c = λ cost costs.
    zip_weaker (IsTurned c.args.core.now c.args.me c.args.now) (IsRefreshed cost c.args.now) (λ old new is. is.refreshed cost costs)
    c.args.trees.now.items c.args.trees.now.items
    (zip_fresh c.args.core.now c.args.me c.args.now c.args.trees.now.items
    (subst (λ (trees : List TreeData). AllByRecursion (IsFresh c.args.now) trees) c.deref.ensures.value (c.all_fresh.ensures c.if-all_fresh.true)))

pub returns-then-all_fresh-clause-rest : goal.returns-then-all_fresh-clause-rest
returns-then-all_fresh-clause-rest c = zip_itself IsRestOf (λ tree. refl) c.args.trees.now.items

pub returns-then-all_fresh-clause-joins : goal.returns-then-all_fresh-clause-joins
returns-then-all_fresh-clause-joins c = λ cost costs.
    subst (AreAllMoved c.args.trees.now.items c.args.trees.now.items) (sym c.new.ensures.items) (none_moved c.args.trees.now.items)

pub returns-then-all_fresh-clause-tunnels : goal.returns-then-all_fresh-clause-tunnels
returns-then-all_fresh-clause-tunnels c = λ fec none. refl

pub refresh-requires-clause-peers : goal.refresh-requires-clause-peers
refresh-requires-clause-peers c =
    let lt : c.loop-place.place < length c.args.trees.now.items = omega arith in
    subst (λ (tree : TreeData). AreOfCore c.args.core.now.nodes tree.vrf.routes.learned)
    (sym (c.index_mut.ensures.value ∙ way_next (IsTurned c.args.core.now c.args.me c.args.now) c.loop-place.place c.args.trees.now.items
    c.loop-place.trees.items c.index_mut.result.now c.loop-place.invariant.way))
    (each_at (λ (tree : TreeData). AreOfCore c.args.core.now.nodes tree.vrf.routes.learned) c.args.trees.now.items c.loop-place.place
    c.index_mut.result.now lt c.requires.peers)

pub returns-in_err-changes-clause-rest : goal.returns-in_err-changes-clause-rest
returns-in_err-changes-clause-rest c =
    way_cut (IsTurned c.args.core.now c.args.me c.args.now) IsRestOf (λ old new is. is.rest) (λ tree. refl) c.loop-place.place c.args.trees.now.items
    c.loop-place.trees.items c.index_mut.result.now c.refresh.new.self
    (omega arith) c.loop-place.invariant.way (subst (λ (tree : TreeData). IsRestOf tree c.refresh.new.self) c.index_mut.ensures.value
    c.refresh.ensures.rest)

pub returns-in_err-add-clause-rest : goal.returns-in_err-add-clause-rest
returns-in_err-add-clause-rest c =
    way_cut (IsTurned c.args.core.now c.args.me c.args.now) IsRestOf (λ old new is. is.rest) (λ tree. refl) c.loop-place.place c.args.trees.now.items
    c.loop-place.trees.items c.index_mut.result.now c.refresh.new.self
    (omega arith) c.loop-place.invariant.way (subst (λ (tree : TreeData). IsRestOf tree c.refresh.new.self) c.index_mut.ensures.value
    c.refresh.ensures.rest)

pub loop-place-preserved : goal.loop-place-preserved
loop-place-preserved c =
    let lt : c.loop-place.place < length c.loop-place.trees.items = omega arith in
    let there : c.loop-place.place < length c.args.trees.now.items = omega arith in
    let next : get_or c.loop-place.trees.items c.loop-place.place c.index_mut.result.now
    ≡ get_or c.args.trees.now.items c.loop-place.place c.index_mut.result.now =
    way_next (IsTurned c.args.core.now c.args.me c.args.now) c.loop-place.place c.args.trees.now.items c.loop-place.trees.items c.index_mut.result.now
    c.loop-place.invariant.way in
    record {
      long = length-set c.loop-place.trees.items c.loop-place.place c.refresh.new.self ∙ c.loop-place.invariant.long;
      way =
          way_more (IsTurned c.args.core.now c.args.me c.args.now) c.loop-place.place c.args.trees.now.items c.loop-place.trees.items
          c.index_mut.result.now c.refresh.new.self lt c.loop-place.invariant.way
          (subst (λ (tree : TreeData). IsTurned c.args.core.now c.args.me c.args.now tree c.refresh.new.self) c.index_mut.ensures.value
          (turned_by c.args.core.now c.args.me c.args.now c.index_mut.result.now c.refresh.new.self c.in_ok-changes.ensures.flows
          c.in_ok-changes.ensures.wants c.refresh.ensures.rest));
      joins = λ cost costs.
          subst (AreAllMoved c.args.trees.now.items (set c.loop-place.trees.items c.loop-place.place c.refresh.new.self))
          (sym c.in_ok-add.ensures.joins)
          (moved_on c.args.trees.now.items c.loop-place.trees.items c.loop-place.all.joins.items c.in_ok-changes.changes.joins
          c.in_ok-changes.changes.leaves c.loop-place.place c.index_mut.result.now c.refresh.new.self
          lt there c.index_mut.ensures.value next (c.loop-place.invariant.joins cost costs)
          (moved_here c.index_mut.result.now c.refresh.new.self (flow_of c.index_mut.result.now.vrf cost c.args.now)
          (c.in_ok-changes.ensures.flows cost costs) c.in_ok-changes.changes.joins c.in_ok-changes.changes.leaves
          (c.in_ok-changes.ensures.joins cost costs) (c.in_ok-changes.ensures.leaves cost costs) c.loop-place.all.joins.items)
          (λ join a. record {
            tree = c.refresh.new.self;
            among = inl refl;
            flow = flow_in join;
            has = made_here c.index_mut.result.now c.refresh.new.self (flow_of c.index_mut.result.now.vrf cost c.args.now)
                (c.in_ok-changes.ensures.flows cost costs) c.in_ok-changes.changes.joins
                c.in_ok-changes.changes.leaves (c.in_ok-changes.ensures.joins cost costs) (c.in_ok-changes.ensures.leaves cost costs) join a;
          })
          (λ join a. record {
            tree = c.index_mut.result.now;
            among = inl refl;
            flow = flow_in join;
            has = left_here c.index_mut.result.now c.refresh.new.self (flow_of c.index_mut.result.now.vrf cost c.args.now)
                (c.in_ok-changes.ensures.flows cost costs) c.in_ok-changes.changes.joins
                c.in_ok-changes.changes.leaves (c.in_ok-changes.ensures.joins cost costs) (c.in_ok-changes.ensures.leaves cost costs) join a;
          }));
      tunnels =
          subst (λ (fecs : List Fec). AllZip (Tells fecs) c.args.trees.now.items (set c.loop-place.trees.items c.loop-place.place c.refresh.new.self))
          (sym c.in_ok-add.ensures.tunnels)
          (told_on c.args.trees.now.items c.loop-place.trees.items c.loop-place.all.tunnels.items c.in_ok-changes.changes.wants
          c.in_ok-changes.changes.unwants c.loop-place.place c.index_mut.result.now c.refresh.new.self
          lt (c.index_mut.ensures.value ∙ next) c.loop-place.invariant.tunnels c.in_ok-changes.ensures.wanted c.in_ok-changes.ensures.unwanted);
    }

pub returns-clause-refreshed : goal.returns-clause-refreshed
returns-clause-refreshed c = λ cost costs.
    zip_weaker (IsTurned c.args.core.now c.args.me c.args.now) (IsRefreshed cost c.args.now) (λ old new is. is.refreshed cost costs)
    c.args.trees.now.items c.loop-place.trees.items
    (way_end (IsTurned c.args.core.now c.args.me c.args.now) c.loop-place.place c.args.trees.now.items c.loop-place.trees.items (omega arith)
    c.loop-place.invariant.way)

pub returns-clause-rest : goal.returns-clause-rest
returns-clause-rest c =
    zip_weaker (IsTurned c.args.core.now c.args.me c.args.now) IsRestOf (λ old new is. is.rest) c.args.trees.now.items c.loop-place.trees.items
    (way_end (IsTurned c.args.core.now c.args.me c.args.now) c.loop-place.place c.args.trees.now.items c.loop-place.trees.items (omega arith)
    c.loop-place.invariant.way)

pub returns-clause-tunnels : goal.returns-clause-tunnels
returns-clause-tunnels c = all_told c.loop-place.all.tunnels.items c.args.trees.now.items c.loop-place.trees.items c.loop-place.invariant.tunnels
