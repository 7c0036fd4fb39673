use Rattle.std.proofs.Common.{refl, sym, subst}
use Rattle.scenario_defs.specs.declared.event.Kind.{Kind}
use Rattle.scenario_defs.specs.declared.event.Kind.TheVariants as kinds
use Rattle.edge_defs.specs.Steps.{Raised}
use Rattle.edge_core.specs.Called.{going}
use Rattle.edge_core.specs.Calls.{Fits, MakesCall}
use Rattle.edge_core.proofs.CallLemmas.{plain_call}
use Rattle.edge_core.proofs.parts.Parts.raise.Goals as goal

pub raise_bgp-requires-clause-peer : goal.raise_bgp-requires-clause-peer
raise_bgp-requires-clause-peer c = (subst (λ (kind : Kind). Fits (going c.args.self.now) (Raised kind c.args.peer)) c.in-Bgp.is c.requires.fits).0

pub raise_bgp-requires-clause-down : goal.raise_bgp-requires-clause-down
raise_bgp-requires-clause-down c =
    (subst (λ (kind : Kind). Fits (going c.args.self.now) (Raised kind c.args.peer)) c.in-Bgp.is c.requires.fits).1 refl

pub raise_ldp-requires-clause-down : goal.raise_ldp-requires-clause-down
raise_ldp-requires-clause-down c =
    (subst (λ (kind : Kind). Fits (going c.args.self.now) (Raised kind c.args.peer)) c.in-Ldp.is c.requires.fits).1 refl

pub returns-in-Bgp : goal.returns-in-Bgp
returns-in-Bgp c =
    subst (λ (kind : Kind). MakesCall c.args.core.now c.args.now (Raised kind c.args.peer) c.args.self.now c.raise_bgp.new.self c.raise_bgp.result)
    (sym c.in-Bgp.is)
    (plain_call c.args.core.now c.args.now (Raised kinds.Bgp c.args.peer) c.args.self.now c.raise_bgp.new.self c.raise_bgp.result (λ control. refl)
    refl
    c.raise_bgp.ensures.settles c.raise_bgp.ensures.only tt)

pub returns-in-Ldp : goal.returns-in-Ldp
returns-in-Ldp c =
    subst (λ (kind : Kind). MakesCall c.args.core.now c.args.now (Raised kind c.args.peer) c.args.self.now c.raise_ldp.new.self c.raise_ldp.result)
    (sym c.in-Ldp.is)
    (plain_call c.args.core.now c.args.now (Raised kinds.Ldp c.args.peer) c.args.self.now c.raise_ldp.new.self c.raise_ldp.result (λ control. refl)
    refl
    c.raise_ldp.ensures.settles c.raise_ldp.ensures.only tt)
