-- What a line that is without fault keeps to.
use Rattle.std.proofs.Common.{◌≡◌, ℕ, ◌≤◌, ◌⊎◌, inl, inr, Bool, true, false, List, [], ◌∷◌, length, refl, sym, subst, cond}
use Rattle.std.specs.Prelude.{Result, Ok}
use Rattle.std.specs.List.{AllByRecursion}
use Rattle.mv_base.specs.core_walks.Topology.{IsTopology}
use Rattle.line_words.specs.declared.fault.TextFault.{TextFault}
use Rattle.line_words.specs.declared.words.Row.{Row}
use Rattle.line_words.specs.Lines.{row_of, words_in}
use Rattle.line_words.specs.Words.{Placed}
use Rattle.line_words.proofs.LineLemmas.{short_words}
use Rattle.scenario_lines.specs.declared.scenario_draft.line.Line.{Line}
use Rattle.scenario_lines.specs.declared.scenario_draft.line.Line.TheVariants as says
use Rattle.scenario_lines.specs.scenario_draft.Drafted.{Drafted}
use Rattle.scenario_lines.specs.scenario_draft.Adding.{IsNew}
use Rattle.scenario_lines.specs.scenario_draft.Declaring.{IsDeclared}
use Rattle.scenario_lines.proofs.scenario_draft.KeptRules.{declared_new}
use Rattle.scenario_lines.proofs.scenario_draft.WordFacts.{Meets, bind_meets, ok_meets}
use Rattle.scenario_lines.proofs.LineFacts.{scenario_line_meets}
use Rattle.scenario_text.proofs.event_lines.RuleFacts.{IsTold}
use Rattle.scenario_text.proofs.event_lines.EventFacts.{IsToldBelow, event_line_meets}
use Rattle.scenario_text.specs.Grammar.{words_line, line_of}

-- The nodes and links so far are a topology.
abbrev pub IsSound : Drafted → Type 0
IsSound draft = IsTopology (length draft.scenario.nodes) draft.scenario.links

-- What a line keeps to: it says nothing, is of the scenario, or is of an event.
abbrev pub IsSaid : Drafted → Line → Type 0
IsSaid draft said = (said ≡ says.Blank) ⊎ ((draft.begun ≡ false) × IsDeclared draft said) ⊎ ((draft.begun ≡ true) × IsToldBelow draft said)

begun_meets : (draft : Drafted) (b : Bool) (x y : Result Line TextFault) → draft.begun ≡ b → Meets (IsToldBelow draft) x → Meets (IsDeclared draft) y
    → Meets (IsSaid draft) (cond b x y)
begun_meets draft true x y e h k = record { holds = λ said s. inr (inr (e, h.holds said s)) }
begun_meets draft false x y e h k = record { holds = λ said s. inr (inl (e, k.holds said s)) }

words_line_meets : (draft : Drafted) (row : Row) (words : List Placed) → IsSound draft → AllByRecursion (λ w. length w.text ≤ 4096) words
    → Meets (IsSaid draft) (words_line draft row words)
unfolding words_line
words_line_meets draft row [] core h = ok_meets _ _ (inl refl)
words_line_meets draft row (first ∷ rest) core h =
    begun_meets draft draft.begun _ _ refl (event_line_meets draft row first rest h.1) (scenario_line_meets draft row first rest core)

-- A line that is without fault keeps to what is said of its kind.
pub line_meets : (draft : Drafted) (number : ℕ) (octets : List ℕ) → IsSound draft → Meets (IsSaid draft) (line_of draft number octets)
unfolding line_of
line_meets draft number octets core =
    bind_meets (IsSaid draft) (words_in number octets) (words_line draft (row_of number octets))
    (λ words e. words_line_meets draft (row_of number octets) words core (short_words number octets words e))

told_new : (draft : Drafted) (said : Line) → IsTold draft said → IsNew draft said
told_new draft (says.Event event) h = tt
told_new draft (says.Setting setting value) h = absurd h
told_new draft says.Events h = absurd h
told_new draft says.Blank h = absurd h
told_new draft (says.Node id node) h = absurd h
told_new draft (says.Link link) h = absurd h
told_new draft (says.Vrf id vrf) h = absurd h
told_new draft (says.Site id site) h = absurd h
told_new draft (says.Iface id iface) h = absurd h

said_new : (draft : Drafted) (said : Line) → IsSaid draft said → IsNew draft said
said_new draft said (inl blank) = subst (λ (x : Line). IsNew draft x) (sym blank) tt
said_new draft said (inr (inl declared)) = declared_new draft said declared.1
said_new draft said (inr (inr told)) = told_new draft said told.1.1

-- A line declares a new name.
pub line_new : (draft : Drafted) (number : ℕ) (octets : List ℕ) (said : Line) → IsSound draft → line_of draft number octets ≡ Ok said
    → IsNew draft said
line_new draft number octets said core e = said_new draft said ((line_meets draft number octets core).holds said e)
