use Rattle.std.proofs.Common.{Some, sym, ap, ◌∙◌}
use Rattle.std.proofs.lemmas.Result.{on_err_weaker, on_ok_weaker}
use Rattle.bgp_messages.specs.declared.bgp_attributes.key.Key.{Key}
use Rattle.edge_defs.specs.Place.{vrfs_from}
use Rattle.edge_tables.specs.taken_tables.Routes.{handed}
use Rattle.edge_control.specs.Taking.{dropping, learning, route_of, turned_all}
use Rattle.edge_control.proofs.taking.learn_said.Goals as goal

pub returns-clause-learned : goal.returns-clause-learned
returns-clause-learned c =
    on_ok_weaker c.learn_or_forget.result (λ took core.
    took core (Some (route_of (handed c.args.value.now) c.args.now)) (sym c.lent.ensures)
    ∙ ap (λ (key : Key). turned_all
    (learning c.args.home.now core c.args.peer c.args.now key (Some (route_of (handed c.args.value.now) c.args.now)))
    (vrfs_from c.args.home.now.me 0 c.args.home.now.scenario.vrfs) c.args.trees.now.items) c.key.ensures.key)
    c.learn_or_forget.ensures.learned

pub returns-clause-forgot : goal.returns-clause-forgot
returns-clause-forgot c =
    on_err_weaker c.learn_or_forget.result (λ went core.
    went core c.args.now (Some (route_of (handed c.args.value.now) c.args.now)) (sym c.lent.ensures)
    ∙ ap (λ (key : Key). turned_all
    (dropping c.args.home.now core c.args.peer c.args.now key (Some (route_of (handed c.args.value.now) c.args.now)))
    (vrfs_from c.args.home.now.me 0 c.args.home.now.scenario.vrfs) c.args.trees.now.items) c.key.ensures.key)
    c.learn_or_forget.ensures.forgot
