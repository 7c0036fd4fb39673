-- The lines before the line `probe`, and those after it, one more.
use Rattle.std.proofs.Common.{◌≡◌, ℕ, zero, suc, ◌+◌, ◌<◌, ◌⊎◌, inl, inr, List, [], ◌∷◌, ◌++◌, length, take, drop, refl, sym, ap, subst, ◌∙◌, arith}
use Rattle.std.specs.Prelude.{Result, Ok, Err}
use Rattle.std.specs.Str.Lines.{lines}
use Rattle.mv_base.specs.core_walks.Topology.{IsTopology}
use Rattle.line_words.specs.declared.fault.TextFault.{TextFault}
use Rattle.line_words.specs.declared.words.Row.{Row}
use Rattle.line_words.specs.Words.{Placed}
use Rattle.line_words.specs.Forms.{◌>>=◌}
use Rattle.scenario_lines.specs.declared.scenario_draft.line.Line.{Line}
use Rattle.scenario_lines.specs.declared.scenario_draft.line.Line.TheVariants as says
use Rattle.scenario_lines.specs.scenario_draft.Drafted.{Drafted}
use Rattle.scenario_lines.specs.scenario_draft.Adding.{IsNew, added}
use Rattle.scenario_lines.specs.scenario_draft.Declaring.{IsDeclared}
use Rattle.scenario_lines.proofs.scenario_draft.KeptRules.{Kept, declared_new, kept_added}
use Rattle.scenario_lines.proofs.scenario_draft.WordFacts.{Meets, ok_meets, bind_meets, if_meets}
use Rattle.scenario_lines.proofs.LineFacts.{scenario_line_meets}
use Rattle.line_words.specs.Lines.{row_of, words_in}
use Rattle.mv_base.specs.declared.addr.Addr.{Addr}
use Rattle.mv_base.specs.declared.ids.IfaceId.{IfaceId}
use Rattle.line_words.specs.Answers.{Fails}
use Rattle.line_words.specs.declared.fault.ReadFault.{ReadFault}
use Rattle.line_words.specs.declared.fault.ReadFault.TheVariants as faults
use Rattle.probe_defs.specs.Lines.{joins_of}
use Rattle.probe_defs.specs.declared.probe.ProbeLine.{ProbeLine}
use Rattle.probe_defs.specs.declared.probe.ProbeLine.TheVariants.{Join, Piece}
use Rattle.probe_text.specs.Grammar.{declared_by, declared_from, declaring}

-- ---- what a line declares

abbrev pub IsSaid : Drafted → Line → Type 0
IsSaid draft said = (said ≡ says.Blank) ⊎ IsDeclared draft said

declared_meets : (draft : Drafted) (r : Result Line TextFault) → Meets (IsDeclared draft) r → Meets (IsSaid draft) r
declared_meets draft r m = record { holds = λ said e. inr (m.holds said e) }

declaring_meets : (draft : Drafted) (row : Row) (words : List Placed) → IsTopology (length draft.scenario.nodes) draft.scenario.links
    → Meets (IsSaid draft) (declaring draft row words)
unfolding declaring
declaring_meets draft row [] core = ok_meets _ _ (inl refl)
declaring_meets draft row (first ∷ rest) core = if_meets _ _ _ _ (λ _. declared_meets draft _ (scenario_line_meets draft row first rest core))

said_by : (draft : Drafted) (number : ℕ) (octets : List ℕ) → IsTopology (length draft.scenario.nodes) draft.scenario.links
    → Meets (IsSaid draft) (declared_by draft number octets)
unfolding declared_by
said_by draft number octets core =
    bind_meets (IsSaid draft) (words_in number octets) (declaring draft (row_of number octets))
    (λ words w. declaring_meets draft (row_of number octets) words core)

is_new : (draft : Drafted) (said : Line) → IsSaid draft said → IsNew draft said
is_new draft said (inl blank) = subst (λ (x : Line). IsNew draft x) (sym blank) tt
is_new draft said (inr declared) = declared_new draft said declared

is_kept : (draft : Drafted) (number : ℕ) (said : Line) → Kept draft → IsSaid draft said → Kept (added draft number said)
is_kept draft number said kept (inl blank) = subst (λ (x : Line). Kept (added draft number x)) (sym blank) kept
is_kept draft number said kept (inr declared) = kept_added draft number said kept declared

pub line_new : (draft : Drafted) (number : ℕ) (octets : List ℕ) (said : Line) → Kept draft → declared_by draft number octets ≡ Ok said
    → IsNew draft said
line_new draft number octets said kept e = is_new draft said ((said_by draft number octets kept.core.topology).holds said e)

pub line_kept : (draft : Drafted) (number : ℕ) (octets : List ℕ) (said : Line) → Kept draft → declared_by draft number octets ≡ Ok said
    → Kept (added draft number said)
line_kept draft number octets said kept e = is_kept draft number said kept ((said_by draft number octets kept.core.topology).holds said e)

-- ---- one line more

pub declared_next : (draft : Drafted) (number k : ℕ) (rows : List (List ℕ)) (line : List ℕ) (more : List (List ℕ)) (said : Line) → rows ≡ line ∷ more
    → declared_by draft number line ≡ Ok said
    → declared_from draft number (take (suc k) rows) ≡ declared_from (added draft number said) (number + 1) (take k more)
declared_next draft number k rows line more said is e =
    ap (λ (rs : List (List ℕ)). declared_from draft number (take (suc k) rs)) is
    ∙ ap (λ (r : Result Line TextFault). r >>= λ s. declared_from (added draft number s) (number + 1) (take k more)) e

pub declared_fails : (draft : Drafted) (number k : ℕ) (rows : List (List ℕ)) (line : List ℕ) (more : List (List ℕ)) (fault : TextFault)
    → rows ≡ line ∷ more → declared_by draft number line ≡ Err fault
    → declared_from draft number (take (suc k) rows) ≡ Err fault
declared_fails draft number k rows line more fault is e =
    ap (λ (rs : List (List ℕ)). declared_from draft number (take (suc k) rs)) is
    ∙ ap (λ (r : Result Line TextFault). r >>= λ s. declared_from (added draft number s) (number + 1) (take k more)) e

pub drop_next : (rows : List (List ℕ)) (n : ℕ) (line : List ℕ) (more : List (List ℕ)) → drop n rows ≡ line ∷ more → drop (suc n) rows ≡ more
drop_next rows zero line more e = ap (drop 1) e
drop_next [] (suc n) line more e = absurd cc
drop_next (row ∷ rows) (suc n) line more e = drop_next rows n line more e

pub front_fails : (draft : Drafted) (number k : ℕ) (rows : List (List ℕ)) (line : List ℕ) (more : List (List ℕ)) (stop : ReadFault)
    → rows ≡ line ∷ more → Fails stop (declared_by draft number line)
    → Fails stop (declared_from draft number (take (suc k) rows))
front_fails draft number k rows line more faults.NoMemory is f = tt
front_fails draft number k rows line more (faults.Text fault) is f = declared_fails draft number k rows line more fault is f

-- ---- joins

pub joins_more : (done : List ProbeLine) (line : ProbeLine)
    → length (joins_of (done ++ line ∷ [])) ≡ length (joins_of done) + length (joins_of (line ∷ []))
joins_more [] line = omega arith
joins_more (Join iface source group ∷ more) line = (let e = joins_more more line in omega (arith, e))
joins_more (Piece octets ∷ more) line = joins_more more line

pub joins_join : (done : List ProbeLine) (iface : IfaceId) (source group : Addr)
    → length (joins_of (done ++ Join iface source group ∷ [])) ≡ length (joins_of done) + 1
joins_join done iface source group = (let e = joins_more done (Join iface source group) in omega (arith, e))

pub joins_piece : (done : List ProbeLine) (octets : List ℕ) → length (joins_of (done ++ Piece octets ∷ [])) ≡ length (joins_of done)
joins_piece done octets = (let e = joins_more done (Piece octets) in omega (arith, e))

-- ---- a line that is there

no_more : (rows : List (List ℕ)) (n : ℕ) → [] ≡ drop n rows → n < length rows → ⊥
no_more [] n e l = omega (arith, l)
no_more (row ∷ rows) zero e l = absurd cc
no_more (row ∷ rows) (suc n) e l = no_more rows n e (omega (arith, l))

pub some_after : (octets : List ℕ) (rows : List (List ℕ)) (n : ℕ) → lines octets ≡ drop n rows → n < length rows → 0 < length octets
some_after [] rows n e l = absurd (no_more rows n e l)
some_after (first ∷ more) rows n e l = omega arith
