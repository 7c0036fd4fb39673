use Rattle.std.proofs.Common.{sym, ap, subst, ◌∙◌, refl}
use Rattle.edge_defs.specs.Steps.{Timers, effect}
use Rattle.edge_routes.specs.edge_home.Home.{place_of}
use Rattle.control_laws.specs.Control.{Kept, control_of}
use Rattle.control_laws.proofs.Parts.{no_core}
use Rattle.edge_control.specs.Sound.{IsSound, kept_of, wants_of}
use Rattle.edge_control.specs.Timers.{all_run}
use Rattle.edge_control.proofs.TimerLemmas.{timers_control, timers_sound}
use Rattle.edge_control.proofs.WantLemmas.{mapped_wants}
use Rattle.edge_control.proofs.control.EdgeControl.run_timers.Goals as goal

pub invariant_of-self-2 : goal.invariant_of-self-2
invariant_of-self-2 c =
    let kept : Kept = kept_of c.self.inside.home c.self.inside.trees.items c.self.inside.taken in
    subst IsSound (λ i. kept_of c.self.inside.home (sym c.run_trees.ensures i) (sym (c.in_ok-run_taken.ensures.run no_core) i))
    (timers_sound kept c.self.invariant c.args.now no_core)

pub returns-clause-run : goal.returns-clause-run
returns-clause-run c =
    let kept : Kept = kept_of c.self.inside.home c.self.inside.trees.items c.self.inside.taken in
    λ core.
    (λ i. control_of (kept_of c.self.inside.home (c.run_trees.ensures i) (c.in_ok-run_taken.ensures.run core i)))
    ∙ timers_control kept c.self.invariant c.args.now core
    ∙ ap (λ (k : Kept). effect (place_of k.home core) c.args.now (control_of k) Timers) c.self.view_is

pub returns-clause-wants : goal.returns-clause-wants
returns-clause-wants c =
    ap wants_of c.run_trees.ensures ∙ mapped_wants (all_run c.args.now) (λ tree. refl) c.self.inside.trees.items
    ∙ ap (λ (k : Kept). wants_of k.trees) c.self.view_is
