use Rattle.std.proofs.Common.{◌∙◌, sym}
use Rattle.std.specs.FinMap.{remove}
use Rattle.std.proofs.lemmas.Result.{on_ok_weaker}
use Rattle.bgp_values.specs.declared.mvpn_nlri.route.Route.TheVariants as routes
use Rattle.bgp_messages.specs.declared.bgp_attributes.key.Key.{Key}
use Rattle.bgp_messages.specs.declared.bgp_attributes.key.Key.TheVariants.{Mcast}
use Rattle.bgp_messages.specs.bgp_update.Written.{afi_of}
use Rattle.edge_defs.specs.Keys.{Table}
use Rattle.held_tables.proofs.HoldLemmas.{at_less}
use Rattle.held_tables.proofs.JoinLemmas.{apart_gone, here_gone, one_less}
use Rattle.held_tables.proofs.joins.drop_join.Goals as goal

pub returns-clause-held : goal.returns-clause-held
returns-clause-held c = on_ok_weaker c.unset_for.result (λ at place control but is hold.
    let key : Key = Mcast (afi_of c.args.source) (routes.SourceJoin c.args.rd c.args.source_as c.args.source c.args.group) in
    one_less place control but c.args.peer key (λ (t : Table). remove t key) c.args.tables.now c.unset_for.new.self
    (at_less c.join_key-key.ensures c.args.peer c.args.tables.now c.unset_for.new.self at)
    (λ before. here_gone key before ∙ sym is) (λ before other ne. apart_gone key before other ne) hold) c.unset_for.ensures.unset
