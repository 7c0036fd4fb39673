-- What is read meets the rules of scripts.
use Rattle.std.proofs.Common.{◌≡◌, ℕ, ◌+◌, ◌<◌, ◌≤◌, inl, inr, true, false, List, [], ◌∷◌, ◌++◌, length, refl, sym, subst, ◌∙◌, arith, length-append}
use Rattle.std.specs.Prelude.{Ok}
use Rattle.std.specs.List.{AllByRecursion}
use Rattle.mv_base.specs.core_walks.Topology.{IsConnected}
use Rattle.scenario_defs.specs.declared.event.Timed.{Timed}
use Rattle.scenario_defs.specs.Rules.{ScriptRules, Rises, IsEventOf}
use Rattle.scenario_lines.specs.declared.scenario_draft.line.Line.{Line}
use Rattle.scenario_lines.specs.declared.scenario_draft.line.Line.TheVariants as says
use Rattle.scenario_lines.specs.scenario_draft.Drafted.{Drafted}
use Rattle.scenario_lines.specs.scenario_draft.Adding.{added, empty_draft}
use Rattle.scenario_lines.specs.scenario_draft.Declaring.{IsDeclared}
use Rattle.scenario_lines.proofs.scenario_draft.KeptRules.{Kept, kept_empty, kept_added, kept_told, rules_of_kept}
use Rattle.scenario_text.proofs.event_lines.EventFacts.{IsToldBelow}
use Rattle.scenario_text.specs.Grammar.{line_of, script_at}
use Rattle.scenario_text.proofs.LineMeets.{IsSaid, IsSound, line_meets}

-- Events one after the other.
pub all_snoc : (P : Timed → Type 0) (xs : List Timed) (y : Timed) → AllByRecursion P xs → P y → AllByRecursion P (xs ++ y ∷ [])
all_snoc P [] y h k = (k, tt)
all_snoc P (x ∷ xs) y h k = (h.0, all_snoc P xs y h.1 k)

-- The lines of the events are before that number.
abbrev AreBefore : ℕ → List Timed → Type 0
AreBefore number events = AllByRecursion (λ timed. timed.line < number) events

before_more : (number : ℕ) (events : List Timed) → AreBefore number events → AreBefore (number + 1) events
before_more number [] h = tt
before_more number (timed ∷ more) h = (omega (arith, h.0), before_more number more h.1)

rises_snoc : (first : ℕ) (events : List Timed) (last : Timed) → first < last.line → AreBefore last.line events → Rises first events
    → Rises first (events ++ last ∷ [])
rises_snoc first [] last l b h = (l, tt)
rises_snoc first (timed ∷ more) last l b h = (h.0, rises_snoc timed.line more last b.0 b.1 h.1)

-- What is declared before the line of that number meets the rules.
pub record Holds (draft : Drafted) (number : ℕ) : Type 0 where
  pub kept : Kept draft
  pub connected : draft.begun ≡ true → IsConnected (length draft.scenario.nodes) draft.scenario.links
  pub quiet : draft.begun ≡ false → draft.events ≡ []
  pub events : AllByRecursion (λ timed. IsEventOf draft.scenario timed.event) draft.events
  pub lines : Rises 0 draft.events
  pub before : AreBefore number draft.events
  pub few : length draft.events ≤ 200000
  pub counted : 0 < number

pub empty_holds : Holds empty_draft 1
empty_holds =
    record {
      kept = kept_empty;
      connected = λ b. absurd cc;
      quiet = λ b. refl;
      events = tt;
      lines = tt;
      before = tt;
      few = omega arith;
      counted =
          omega arith;
    }

-- A line of the scenario, after which no event stands yet.
quiet_holds : (draft new : Drafted) (number : ℕ) → Holds draft number → draft.begun ≡ false → new.begun ≡ false → new.events ≡ draft.events → Kept new
    → Holds new (number + 1)
quiet_holds draft new number h b same events kept =
    let none : new.events ≡ [] = events ∙ h.quiet b in
    record {
      kept = kept;
      connected = λ t. absurd cc;
      quiet = λ _. none;
      events = rw none tt;
      lines = rw none tt;
      before = rw none tt;
      few = rw none (omega arith);
      counted = omega arith;
    }

declared_holds : (draft : Drafted) (number : ℕ) (said : Line) → Holds draft number → draft.begun ≡ false → IsDeclared draft said
    → Holds (added draft number said) (number + 1)
declared_holds draft number (says.Setting setting value) h b d =
    quiet_holds draft _ number h b b refl (kept_added draft number (says.Setting setting value) h.kept d)
declared_holds draft number (says.Node id node) h b d = quiet_holds draft _ number h b b refl (kept_added draft number (says.Node id node) h.kept d)
declared_holds draft number (says.Link link) h b d = quiet_holds draft _ number h b b refl (kept_added draft number (says.Link link) h.kept d)
declared_holds draft number (says.Vrf id vrf) h b d = quiet_holds draft _ number h b b refl (kept_added draft number (says.Vrf id vrf) h.kept d)
declared_holds draft number (says.Site id site) h b d = quiet_holds draft _ number h b b refl (kept_added draft number (says.Site id site) h.kept d)
declared_holds draft number (says.Iface id iface) h b d =
    quiet_holds draft _ number h b b refl (kept_added draft number (says.Iface id iface) h.kept d)
declared_holds draft number says.Events h b d = record {
  kept = kept_added draft number says.Events h.kept d;
  connected = λ _. d;
  quiet = λ t. absurd cc;
  events = h.events;
  lines = h.lines;
  before = before_more number draft.events h.before;
  few = h.few;
  counted = omega arith;
}
declared_holds draft number says.Blank h b d = absurd d
declared_holds draft number (says.Event event) h b d = absurd d

told_holds : (draft : Drafted) (number : ℕ) (said : Line) → Holds draft number → draft.begun ≡ true → IsToldBelow draft said
    → Holds (added draft number said) (number + 1)
told_holds draft number (says.Event event) h b f =
    let timed : Timed = record { line = number; event = event } in
    let last : timed.line < number + 1 = omega arith in
    record {
      kept = kept_told draft number event h.kept;
      connected = h.connected;
      quiet = λ t. absurd cc;
      events = all_snoc (λ t. IsEventOf draft.scenario t.event) draft.events timed h.events f.1;
      lines = rises_snoc 0 draft.events timed h.counted h.before h.lines;
      before = all_snoc (λ t. t.line < number + 1) draft.events timed (before_more number draft.events h.before) last;
      few = omega (arith, f.0, length-append draft.events (timed ∷ []));
      counted = omega arith;
    }
told_holds draft number (says.Setting setting value) h b f = absurd f.1
told_holds draft number (says.Node id node) h b f = absurd f.1
told_holds draft number (says.Link link) h b f = absurd f.1
told_holds draft number (says.Vrf id vrf) h b f = absurd f.1
told_holds draft number (says.Site id site) h b f = absurd f.1
told_holds draft number (says.Iface id iface) h b f = absurd f.1
told_holds draft number says.Events h b f = absurd f.1
told_holds draft number says.Blank h b f = absurd f.1

blank_holds : (draft : Drafted) (number : ℕ) → Holds draft number → Holds draft (number + 1)
blank_holds draft number h = record {
  kept = h.kept;
  connected = h.connected;
  quiet = h.quiet;
  events = h.events;
  lines = h.lines;
  before = before_more number draft.events h.before;
  few = h.few;
  counted = omega arith;
}

said_holds : (draft : Drafted) (number : ℕ) (said : Line) → Holds draft number → IsSaid draft said → Holds (added draft number said) (number + 1)
said_holds draft number said h (inl blank) = subst (λ (x : Line). Holds (added draft number x) (number + 1)) (sym blank) (blank_holds draft number h)
said_holds draft number said h (inr (inl declared)) = declared_holds draft number said h declared.0 declared.1
said_holds draft number said h (inr (inr told)) = told_holds draft number said h told.0 told.1

pub sound : (draft : Drafted) (number : ℕ) → Holds draft number → IsSound draft
sound draft number h = h.kept.core.topology

-- A line that is without fault keeps that.
pub line_holds : (draft : Drafted) (number : ℕ) (octets : List ℕ) (said : Line) → Holds draft number → line_of draft number octets ≡ Ok said
    → Holds (added draft number said) (number + 1)
line_holds draft number octets said h e = said_holds draft number said h ((line_meets draft number octets (sound draft number h)).holds said e)

-- The script meets the rules once the scenario has ended.
pub script_rules : (draft : Drafted) (number : ℕ) → Holds draft number → draft.begun ≡ true → ScriptRules (script_at draft number)
script_rules draft number h b =
    record { scenario = rules_of_kept draft h.kept (h.connected b); events = h.events; lines = h.lines; last = h.before; few = h.few }
