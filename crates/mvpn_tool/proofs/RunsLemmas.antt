-- From the command that a branch of `run` is taken for to the command that the words name.
use Rattle.std.proofs.Common.{◌≡◌, ℕ, inl, inr, List, Option, None, Some, Result, Ok, Err, refl, subst, sym, ap, ◌∙◌, arith}
use Rattle.scenario_defs.specs.declared.event.Script.{Script}
use Rattle.scenario_defs.specs.declared.event.Timed.{Timed}
use Rattle.line_words.specs.declared.fault.TextFault.{TextFault}
use Rattle.scenario_text.specs.Grammar.{script_of}
use Rattle.mvpn_model.specs.Report.{Entry}
use Rattle.mv_base.specs.declared.ids.NodeId.{NodeId}
use Rattle.network_defs.specs.Costs.{Cores}
use Rattle.network_defs.specs.Run.{Halts, Run, Traced}
use Rattle.network_defs.specs.World.{World}
use Rattle.hop_laws.specs.run_laws.Runs.{of_events}
use Rattle.network_defs.proofs.CostLemmas.{same_cores}
use Rattle.network_events.specs.WorldView.{WorldView}
use Rattle.mvpn_tool.specs.Input.{IsInput, Taken}
use Rattle.mvpn_tool.specs.declared.command.Output.{Output}
use Rattle.mvpn_tool.specs.Outcome.{EndsHalted, EndsWell}
use Rattle.mvpn_tool.specs.declared.command.Command.{Command}
use Rattle.mvpn_tool.specs.declared.command.Command.TheVariants as commands
use Rattle.mvpn_tool.specs.Endings.{Ending}
use Rattle.mvpn_tool.specs.Runs.{MakeRun, ReplayRun, Runs, SweepRun, UsageRun}
use Rattle.mvpn_tool.specs.Report.{AllRun, OneHalts}

pub usage_runs : (e : Ending) (named : Option Command) → None ≡ named → UsageRun e → Runs named e
usage_runs e named h ends = subst (λ (x : Option Command). Runs x e) h ends

pub make_runs : (e : Ending) (named : Option Command) (own : Command) (number : ℕ) → own ≡ commands.Make number → Some own ≡ named →
    MakeRun number e → Runs named e
make_runs e named own number is h ends =
    subst (λ (x : Option Command). Runs x e) (sym (ap (λ (x : Command). Some x) is) ∙ h) ends

pub sweep_runs : (e : Ending) (named : Option Command) (own : Command) (number : ℕ) → own ≡ commands.Sweep number → Some own ≡ named →
    SweepRun number e → Runs named e
sweep_runs e named own number is h ends =
    subst (λ (x : Option Command). Runs x e) (sym (ap (λ (x : Command). Some x) is) ∙ h) ends

-- ---- a script runs or halts, never both

abbrev read_as : Script → Result Script TextFault
read_as script = Ok script

some_is : (x y : List ℕ) → Some x ≡ Some y → x ≡ y
some_is x y e = cc

one_script : (x y : Script) → read_as x ≡ read_as y → x ≡ y
one_script x y e = cc

-- What was read is what the source says that it had left.
same_script : (left : Option (List ℕ)) (read input : List ℕ) (script other : Script) → IsInput left read → script_of read ≡ Ok script
    → left ≡ Some input → script_of input ≡ Ok other → script ≡ other
same_script None read input script other is said tells says = absurd cc
same_script (Some xs) read input script other is said tells says =
    one_script script other (sym said ∙ ap script_of (sym is ∙ some_is xs input tells) ∙ says)

-- What was read is no faulty text.
not_faulty : (left : Option (List ℕ)) (read input : List ℕ) (script : Script) (fault : TextFault) → IsInput left read → script_of read ≡ Ok script
    → left ≡ Some input → script_of input ≡ Err fault → ⊥
not_faulty None read input script fault is said tells says = absurd cc
not_faulty (Some xs) read input script fault is said tells says =
    (let both : read_as script ≡ Err fault = sym said ∙ ap script_of (sym is ∙ some_is xs input tells) ∙ says in absurd cc)

module _ (never_both : (cores : Cores) (script : Script) (events : List Timed) (trace : List Traced) (new : World) (report : List Entry)
    (node : NodeId) → Run cores script events trace new →
    Halts cores (of_events script events) report node → ⊥) where
  not_both : (script : Script) → AllRun script → OneHalts script → ⊥
  not_both script all one =
      let same : all.cores ≡ one.cores = same_cores script.scenario all.cores one.cores all.of_scenario one.halt.of_scenario in
      never_both one.cores script script.events all.trace all.state one.report one.node
      (subst (λ (own : Cores). Run own script script.events all.trace all.state) same all.run) one.halt

  -- A script of which all was replayed does not halt.
  pub well_not_halted : (output : Output) (left old new : Option (List ℕ)) (view : WorldView) → EndsWell output left old new view
      → (input : List ℕ) (script : Script) → left ≡ Some input → script_of input ≡ Ok script → OneHalts script → ⊥
  well_not_halted output left old new view ends input script tells says one =
      let same = same_script left ends.input input ends.script script ends.is_input ends.said tells says in
      let whole = ends.holds.whole in
      not_both ends.script (record {
        cores = ends.holds.replayed.cores;
        of_scenario = whole.of_scenario;
        trace = ends.holds.replayed.trace;
        state =
            ends.holds.replayed.state;
        run = whole.run;
      })
      (subst OneHalts (sym same) one)

  -- A script that halts does not run to its end.
  pub halted_not_whole : (output : Output) (left old new : Option (List ℕ)) → EndsHalted output left old new → (input : List ℕ) (script : Script)
      → left ≡ Some input → script_of input ≡ Ok script → AllRun script → ⊥
  halted_not_whole output left old new ends input script tells says all =
      let same = same_script left ends.input input ends.script script ends.is_input ends.said tells says in
      not_both ends.script (subst AllRun (sym same) all)
      (record { cores = ends.holds.cores; report = ends.holds.report; node = ends.holds.node; halt = ends.holds.halted.halt })

  -- ---- the two ends of a replay

  module _ (output : Output) (left rest old new : Option (List ℕ)) (source_before source_now sink_before sink_now : ℕ) (taken : Taken left rest) where
    abbrev ending : ℕ → Option WorldView → Ending
    ending status world = record {
      status = status;
      world = world;
      left = left;
      rest = rest;
      old = old;
      new = new;
      source_before = source_before;
      source_now = source_now;
      sink_before = sink_before;
      sink_now = sink_now;
    }

    -- All was replayed.
    pub whole_ended : (view : WorldView) → EndsWell output left old new view → ReplayRun output (ending 0 (Some view))
    whole_ended view ends = record {
      zero = λ e. ends;
      zero_always = λ script gives all. inl refl;
      worldless = λ e. absurd (e refl);
      three = λ e. absurd (omega (arith, e));
      three_always = λ input fault tells says. absurd (not_faulty left ends.input input ends.script fault ends.is_input ends.said tells says);
      four = λ e. absurd (omega (arith, e));
      four_cause = λ e. absurd (omega (arith, e));
      five = λ e. absurd (omega (arith, e));
      five_cause = λ e. absurd (omega (arith, e));
      six = λ e. absurd (omega (arith, e));
      seven = λ e. absurd (omega (arith, e));
      seven_always = λ script gives one. absurd (well_not_halted output left old new view ends gives.0 script gives.1 gives.2 one);
      taken = λ e f. taken;
      complete = λ script source sink gives. inl refl;
      only = inl refl;
    }

    -- An event runs out of labels.
    pub halt_ended : EndsHalted output left old new → ReplayRun output (ending 7 None)
    halt_ended ends = record {
      zero = λ e. absurd (omega (arith, e));
      zero_always = λ script gives all. absurd (halted_not_whole output left old new ends gives.0 script gives.1 gives.2 all);
      worldless = λ e. refl;
      three = λ e. absurd (omega (arith, e));
      three_always = λ input fault tells says. absurd (not_faulty left ends.input input ends.script fault ends.is_input ends.said tells says);
      four = λ e. absurd (omega (arith, e));
      four_cause = λ e. absurd (omega (arith, e));
      five = λ e. absurd (omega (arith, e));
      five_cause = λ e. absurd (omega (arith, e));
      six = λ e. absurd (omega (arith, e));
      seven = λ e. ends;
      seven_always = λ script gives one. inl refl;
      taken = λ e f. taken;
      complete = λ script source sink gives. inr (inr refl);
      only = inr (inr (inl refl));
    }
