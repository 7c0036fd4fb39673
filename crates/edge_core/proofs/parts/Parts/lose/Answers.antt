use Rattle.std.proofs.Common.{refl, sym, subst}
use Rattle.scenario_defs.specs.declared.event.Kind.{Kind}
use Rattle.scenario_defs.specs.declared.event.Kind.TheVariants as kinds
use Rattle.edge_defs.specs.Steps.{Noticed}
use Rattle.edge_core.specs.Calls.{MakesCall}
use Rattle.edge_core.proofs.CallLemmas.{plain_call}
use Rattle.edge_core.proofs.parts.Parts.lose.Goals as goal

pub returns-in-Bgp : goal.returns-in-Bgp
returns-in-Bgp c =
    subst (λ (kind : Kind). MakesCall c.args.core.now c.args.now (Noticed kind c.args.peer) c.args.self.now c.lose_bgp.new.self c.lose_bgp.result)
    (sym c.in-Bgp.is)
    (plain_call c.args.core.now c.args.now (Noticed kinds.Bgp c.args.peer) c.args.self.now c.lose_bgp.new.self c.lose_bgp.result (λ control. refl)
    refl
    c.lose_bgp.ensures.settles c.lose_bgp.ensures.only tt)

pub returns-in-Ldp : goal.returns-in-Ldp
returns-in-Ldp c =
    subst (λ (kind : Kind). MakesCall c.args.core.now c.args.now (Noticed kind c.args.peer) c.args.self.now c.lose_ldp.new.self c.lose_ldp.result)
    (sym c.in-Ldp.is)
    (plain_call c.args.core.now c.args.now (Noticed kinds.Ldp c.args.peer) c.args.self.now c.lose_ldp.new.self c.lose_ldp.result (λ control. refl)
    refl
    c.lose_ldp.ensures.settles c.lose_ldp.ensures.only tt)
