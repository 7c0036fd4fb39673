use Rattle.std.proofs.Common.{ap, sym, ◌∙◌}
use Rattle.std.proofs.lemmas.Bool.{eq-eqb}
use Rattle.mv_base.specs.declared.ids.NodeId.{NodeId}
use Rattle.edge_core.specs.State.{home_of}
use Rattle.edge_probe.proofs.ToldLemmas.{own_is, vrf_adds}
use Rattle.edge_probe.proofs.told.add_vrf.Goals as goal

pub imports-requires : goal.imports-requires
imports-requires c = record {
  own = own_is (home_of c.args.own.now) c.args.number c.args.vrf.now c.requires.at
      (eq-eqb c.args.vrf.now.edge.0 (home_of c.args.own.now).me.0 (c.if-vrf-me.false ∙ ap (λ (q : NodeId). q.0) (sym c.requires.me)));
}

pub returns : goal.returns
returns c = λ core peer done given among.
    vrf_adds core peer done c.args.own.now given among c.args.number c.args.vrf.now c.requires.at c.args.me c.push_vrf.result c.args.imports.now
    c.push_vrf.new.self c.in_ok-keys.keys c.requires.me c.if-vrf-me.false
    c.in_ok-keys.ensures c.push_vrf.ensures
