-- What is read is a probe: a scenario that meets its rules, two of its edges, and lines that fit.
use Rattle.std.proofs.Common.{◌≡◌, ◌≢◌, ℕ, zero, suc, ◌+◌, ◌<◌, ◌≤◌, ◌==◌, Bool, true, false, cond, List, [], ◌∷◌, ◌++◌, length, take, drop, Option, Some, None, refl, sym, subst, arith, nat_lt}
use Rattle.std.specs.Prelude.{Result, Ok, Err, IfOk, position, slice_get}
use Rattle.std.specs.List.{AllByRecursion, list_any}
use Rattle.std.specs.Str.Lines.{lines}
use Rattle.std.proofs.lemmas.Bool.{and_parts, eq-eqb, or_left, or_right}
use Rattle.std.proofs.lemmas.Bool.Decides.{nat_tests}
use Rattle.std.proofs.lemmas.Option.{same_Some}
use Rattle.mv_base.specs.core_walks.Reached.{is_connected}
use Rattle.mv_base.proofs.core_walks.ReachedLemmas.{connected_walks}
use Rattle.mv_base.specs.declared.ids.IfaceId.{IfaceId}
use Rattle.mv_base.specs.declared.ids.NodeId.{NodeId}
use Rattle.scenario_defs.specs.Rules.{IsEdge}
use Rattle.scenario_defs.specs.declared.scenario.Iface.{Iface}
use Rattle.scenario_defs.specs.declared.scenario.Scenario.{Scenario}
use Rattle.scenario_defs.specs.declared.scenario.Vrf.{Vrf}
use Rattle.line_words.specs.Answers.{Gives}
use Rattle.line_words.specs.Forms.{fault, group_at, payload_at, same_family, source_at}
use Rattle.line_words.specs.Words.{Placed}
use Rattle.line_words.specs.declared.fault.ReadFault.{ReadFault}
use Rattle.line_words.specs.declared.fault.Reason.TheVariants as reasons
use Rattle.line_words.specs.declared.words.Row.{Row}
use Rattle.scenario_lines.specs.scenario_draft.Drafted.{Drafted}
use Rattle.scenario_lines.specs.scenario_draft.Adding.{added, empty_draft}
use Rattle.scenario_lines.specs.scenario_draft.Naming.{edge_at, iface_at, is_of_iface}
use Rattle.scenario_lines.proofs.scenario_draft.KeptRules.{Kept, kept_empty, rules_of_kept}
use Rattle.scenario_lines.proofs.scenario_draft.WordFacts.{Meets, ok_meets, err_meets, bind_meets, if_meets, then_meets, either_meets, edge_meets, names_flow, of_iface}
use Rattle.line_words.specs.Lines.{row_of, words_in}
use Rattle.probe_defs.specs.edge_defs.Originated.{is_iface_of}
use Rattle.probe_defs.specs.edge_defs.Place.{OwnVrf, vrfs_from}
use Rattle.probe_defs.specs.Lines.{IsLineAt, IsProbe, join_limit, joins_of}
use Rattle.probe_defs.specs.declared.probe.ProbeLine.{ProbeLine}
use Rattle.probe_defs.specs.declared.probe.ProbeLine.TheVariants.{Join, Piece}
use Rattle.probe_text.specs.declared.input.Ends.{Ends}
use Rattle.probe_text.specs.declared.input.ProbeText.{ProbeText}
use Rattle.probe_text.specs.Grammar.{declared_by, declared_from, ends_line, given_by, given_from, given_words, is_iface_at, is_probe_line, join_line, join_words, own_iface_at, piece_line, probe_at, probe_from, probe_line, probe_of, two_ends, with_line}
use Rattle.probe_text.proofs.FrontLemmas.{joins_more, line_kept}

-- ---- the line `probe`

record AreEnds (scenario : Scenario) (ends : Ends) : Type 0 where
  pub edge_is : IsEdge scenario ends.edge
  pub peer_is : IsEdge scenario ends.peer
  pub two : ends.edge.0 ≢ ends.peer.0

differ : (x y : ℕ) → (x == y) ≡ false → x ≢ y
differ x y h e = grind (arith, nat_tests)

two_ends_meets : (draft : Drafted) (row : Row) (a b : Placed) → Meets (AreEnds draft.scenario) (two_ends draft row a b)
unfolding two_ends
two_ends_meets draft row a b =
    bind_meets _ (edge_at draft row a) _ (λ edge e. bind_meets _ (edge_at draft row b) _ (λ peer p.
    if_meets _ (edge.0 == peer.0) _ _ (λ other. ok_meets (AreEnds draft.scenario) (record { edge = edge; peer = peer }) (record {
      edge_is = (edge_meets draft row a).holds edge e;
      peer_is = (edge_meets draft row b).holds peer p;
      two = differ edge.0 peer.0 other;
    }))))

ends_line_meets : (draft : Drafted) (row : Row) (words : List Placed) → Meets (AreEnds draft.scenario) (ends_line draft row words)
unfolding ends_line
ends_line_meets draft row [] = err_meets _ _
ends_line_meets draft row (first ∷ []) = err_meets _ _
ends_line_meets draft row (first ∷ a ∷ []) = err_meets _ _
ends_line_meets draft row (first ∷ a ∷ b ∷ []) = two_ends_meets draft row a b
ends_line_meets draft row (first ∷ a ∷ b ∷ c ∷ more) = err_meets _ _

ends_meet : (draft : Drafted) (number : ℕ) (octets : List ℕ) → Meets (AreEnds draft.scenario) (probe_line draft number octets)
unfolding probe_line
ends_meet draft number octets =
    then_meets _ _ _ _ (λ core. bind_meets _ (words_in number octets) _ (λ words w. ends_line_meets draft (row_of number octets) words))

core_meets : (draft : Drafted) (number : ℕ) (octets : List ℕ)
    → Meets (λ (ends : Ends). is_connected (length draft.scenario.nodes) draft.scenario.links ≡ true) (probe_line draft number octets)
unfolding probe_line
core_meets draft number octets = then_meets _ _ _ _ (λ core. record { holds = λ ends e. core })

-- ---- an interface at the edge

any_vrf : (p : OwnVrf → Bool) (me : NodeId) (n : ℕ) (vrfs : List Vrf) (i : ℕ) (vrf : Vrf) → slice_get vrfs i ≡ Some vrf → (vrf.edge.0 == me.0) ≡ true
    → p (record { id = record { 0 = n + i }; vrf = vrf }) ≡ true → list_any p (vrfs_from me n vrfs) ≡ true
any_vrf p me n [] i vrf e own h = absurd cc
any_vrf p me n (first ∷ more) zero vrf e own h =
    let same : first ≡ vrf = same_Some first vrf e in
    let at : n + 0 ≡ n = omega arith in
    subst (λ (x : Vrf). list_any p (cond (x.edge.0 == me.0) (record { id = record { 0 = n }; vrf = x } ∷ vrfs_from me (n + 1) more)
    (vrfs_from me (n + 1) more)) ≡ true) (sym same)
    (subst (λ (b : Bool). list_any p (cond b (record { id = record { 0 = n }; vrf = vrf } ∷ vrfs_from me (n + 1) more) (vrfs_from me (n + 1) more))
    ≡ true) (sym own)
    (or_left (p (record { id = record { 0 = n }; vrf = vrf })) (list_any p (vrfs_from me (n + 1) more))
    (subst (λ (m : ℕ). p (record { id = record { 0 = m }; vrf = vrf }) ≡ true) at h)))
any_vrf p me n (first ∷ more) (suc i) vrf e own h =
    let at : n + suc i ≡ n + 1 + i = omega arith in
    by (first.edge.0 == me.0) (any_vrf p me (n + 1) more i vrf e own (subst (λ (m : ℕ). p (record { id = record { 0 = m }; vrf = vrf }) ≡ true) at h))
  where
    by : (b : Bool) → list_any p (vrfs_from me (n + 1) more) ≡ true
        → list_any p (cond b (record { id = record { 0 = n }; vrf = first } ∷ vrfs_from me (n + 1) more) (vrfs_from me (n + 1) more)) ≡ true
    by true a = or_right (p (record { id = record { 0 = n }; vrf = first })) (list_any p (vrfs_from me (n + 1) more)) a
    by false a = a

own_any : (scenario : Scenario) (edge : NodeId) (iface : IfaceId) → is_iface_at scenario edge iface ≡ true
    → list_any (λ (own : OwnVrf). is_iface_of scenario own.id iface) (vrfs_from edge 0 scenario.vrfs) ≡ true
own_any scenario edge iface h = by_iface (slice_get scenario.ifaces iface.0) refl h
  where
    by_vrf : (own : Iface) → slice_get scenario.ifaces iface.0 ≡ Some own → (v : Option Vrf) → slice_get scenario.vrfs own.vrf.0 ≡ v
        → elim v [ None ↦ false | Some vrf ↦ vrf.edge.0 == edge.0 ] ≡ true
        → list_any (λ (own : OwnVrf). is_iface_of scenario own.id iface) (vrfs_from edge 0 scenario.vrfs) ≡ true
    by_vrf own e None f k = absurd cc
    by_vrf own e (Some vrf) f k =
        let at : own.vrf.0 ≡ 0 + own.vrf.0 = omega arith in
        any_vrf (λ (own : OwnVrf). is_iface_of scenario own.id iface) edge 0 scenario.vrfs own.vrf.0 vrf f k
        (subst (λ (o : Option Iface). elim o [ None ↦ false | Some found ↦ found.vrf.0 == 0 + own.vrf.0 ] ≡ true) (sym e)
        (eq-eqb own.vrf.0 (0 + own.vrf.0) at))

    by_iface : (o : Option Iface) → slice_get scenario.ifaces iface.0 ≡ o
        → elim o [ None ↦ false | Some own ↦ elim (slice_get scenario.vrfs own.vrf.0) [ None ↦ false | Some vrf ↦ vrf.edge.0 == edge.0 ] ] ≡ true
        → list_any (λ (own : OwnVrf). is_iface_of scenario own.id iface) (vrfs_from edge 0 scenario.vrfs) ≡ true
    by_iface None e k = absurd cc
    by_iface (Some own) e k = by_vrf own e (slice_get scenario.vrfs own.vrf.0) refl k

own_meets : (draft : Drafted) (edge : NodeId) (row : Row) (a : Placed)
    → Meets (λ (iface : IfaceId). is_iface_at draft.scenario edge iface ≡ true) (own_iface_at draft edge row a)
unfolding own_iface_at
own_meets draft edge row a =
    bind_meets _ (iface_at draft row a) _ (λ iface i. then_meets _ _ _ _
    (λ own. ok_meets (λ (iface : IfaceId). is_iface_at draft.scenario edge iface ≡ true) iface own))

-- ---- lines after it

join_words_meets : (draft : Drafted) (edge : NodeId) (row : Row) (a b c : Placed)
    → Meets (IsLineAt draft.scenario edge) (join_words draft edge row a b c)
unfolding join_words
join_words_meets draft edge row a b c =
    bind_meets _ (own_iface_at draft edge row a) _
    (λ iface i. bind_meets _ (source_at row b) _ (λ source s. bind_meets _ (group_at row c) _ (λ group g.
    then_meets _ _ _ _ (λ fits.
    let p = and_parts (same_family source group) (is_of_iface draft iface group) fits in
    ok_meets (IsLineAt draft.scenario edge) (Join iface source group) (record {
      own = own_any draft.scenario edge iface ((own_meets draft edge row a).holds iface i);
      names = names_flow row b c source group s g p.0;
      family = of_iface draft iface group p.1;
    })))))

join_line_meets : (draft : Drafted) (edge : NodeId) (row : Row) (words : List Placed)
    → Meets (IsLineAt draft.scenario edge) (join_line draft edge row words)
unfolding join_line
join_line_meets draft edge row [] = err_meets _ _
join_line_meets draft edge row (a ∷ []) = err_meets _ _
join_line_meets draft edge row (a ∷ b ∷ []) = err_meets _ _
join_line_meets draft edge row (a ∷ b ∷ c ∷ []) = join_words_meets draft edge row a b c
join_line_meets draft edge row (a ∷ b ∷ c ∷ d ∷ more) = err_meets _ _

record IsPiece (scenario : Scenario) (edge : NodeId) (line : ProbeLine) : Type 0 where
  pub fits : IsLineAt scenario edge line
  pub joinless : length (joins_of (line ∷ [])) ≡ 0

piece_line_meets : (scenario : Scenario) (edge : NodeId) (row : Row) (words : List Placed) → Meets (IsPiece scenario edge) (piece_line row words)
unfolding piece_line
piece_line_meets scenario edge row [] = err_meets _ _
piece_line_meets scenario edge row (a ∷ []) =
    bind_meets _ (payload_at row a) _ (λ octets p. ok_meets (IsPiece scenario edge) (Piece octets) (record { fits = tt; joinless = refl }))
piece_line_meets scenario edge row (a ∷ b ∷ more) = err_meets _ _

-- A line more, after so many joins.
record IsMore (scenario : Scenario) (edge : NodeId) (joins : ℕ) (line : ProbeLine) : Type 0 where
  pub fits : IsLineAt scenario edge line
  pub few : joins + length (joins_of (line ∷ [])) ≤ join_limit

abbrev IsNext : Scenario → NodeId → ℕ → Option ProbeLine → Type 0
IsNext scenario edge joins None = Unit {0}
IsNext scenario edge joins (Some line) = IsMore scenario edge joins line

at_most_one : (line : ProbeLine) → length (joins_of (line ∷ [])) ≤ 1
at_most_one (Join iface source group) = omega arith
at_most_one (Piece octets) = omega arith

below_limit : (joins : ℕ) → nat_lt joins 1024 ≡ true → joins < 1024
below_limit joins h = grind (arith, nat_tests)

given_words_meets : (draft : Drafted) (edge : NodeId) (joins : ℕ) (row : Row) (words : List Placed) → joins ≤ join_limit
    → Meets (IsNext draft.scenario edge joins) (given_words draft edge joins row words)
unfolding given_words
given_words_meets draft edge joins row [] few = ok_meets (IsNext draft.scenario edge joins) None tt
given_words_meets draft edge joins row (first ∷ rest) few =
    either_meets _ _ _ _
    (then_meets _ _ _ _ (λ below. bind_meets _ (join_line draft edge row rest) _ (λ line l.
    ok_meets (IsNext draft.scenario edge joins) (Some line)
    (record { fits = (join_line_meets draft edge row rest).holds line l; few = omega (arith, below_limit joins below, at_most_one line) }))))
    (either_meets _ _ _ _
    (bind_meets _ (piece_line row rest) _ (λ line l.
    let p = (piece_line_meets draft.scenario edge row rest).holds line l in
    ok_meets (IsNext draft.scenario edge joins) (Some line) (record { fits = p.fits; few = omega (arith, few, p.joinless) })))
    (err_meets _ _))

given_by_meets : (draft : Drafted) (edge : NodeId) (joins number : ℕ) (octets : List ℕ) → joins ≤ join_limit
    → Meets (IsNext draft.scenario edge joins) (given_by draft edge joins number octets)
unfolding given_by
given_by_meets draft edge joins number octets few =
    bind_meets _ (words_in number octets) _ (λ words w. given_words_meets draft edge joins (row_of number octets) words few)

record AreFit (scenario : Scenario) (edge : NodeId) (done : List ProbeLine) : Type 0 where
  pub each : AllByRecursion (IsLineAt scenario edge) done
  pub few : length (joins_of done) ≤ join_limit

all_more : (P : ProbeLine → Type 0) (done : List ProbeLine) (line : ProbeLine) → AllByRecursion P done → P line → AllByRecursion P (done ++ line ∷ [])
all_more P [] line h k = (k, tt)
all_more P (first ∷ more) line h k = (h.0, all_more P more line h.1 k)

fit_next : (scenario : Scenario) (edge : NodeId) (done : List ProbeLine) (line : Option ProbeLine) → AreFit scenario edge done
    → IsNext scenario edge (length (joins_of done)) line → AreFit scenario edge (with_line done line)
fit_next scenario edge done None fit next = fit
fit_next scenario edge done (Some line) fit next =
    record { each = all_more (IsLineAt scenario edge) done line fit.each next.fits; few = omega (arith, joins_more done line, next.few) }

given_meet : (draft : Drafted) (edge : NodeId) (done : List ProbeLine) (number : ℕ) (rows : List (List ℕ)) → AreFit draft.scenario edge done
    → Meets (AreFit draft.scenario edge) (given_from draft edge done number rows)
given_meet draft edge done number [] fit = ok_meets (AreFit draft.scenario edge) done fit
given_meet draft edge done number (octets ∷ more) fit =
    bind_meets _ (given_by draft edge (length (joins_of done)) number octets) _ (λ line l.
    given_meet draft edge (with_line done line) (number + 1) more
    (fit_next draft.scenario edge done line fit ((given_by_meets draft edge (length (joins_of done)) number octets fit.few).holds line l)))

-- ---- the text

declared_keep : (draft : Drafted) (number : ℕ) (rows : List (List ℕ)) → Kept draft → Meets Kept (declared_from draft number rows)
declared_keep draft number [] kept = ok_meets Kept draft kept
declared_keep draft number (octets ∷ more) kept =
    bind_meets _ (declared_by draft number octets) _
    (λ said s. declared_keep (added draft number said) (number + 1) more (line_kept draft number octets said kept s))

abbrev IsRead : ProbeText → Type 0
IsRead text = IsProbe text.scenario text.ends.edge text.ends.peer text.lines

probe_from_meets : (draft : Drafted) (number : ℕ) (rows : List (List ℕ)) → Kept draft → Meets IsRead (probe_from draft number rows)
probe_from_meets draft number [] kept = err_meets _ _
probe_from_meets draft number (octets ∷ more) kept =
    bind_meets _ (probe_line draft number octets) _ (λ ends e. bind_meets _ (given_from draft ends.edge [] (number + 1) more) _ (λ given g.
    let core = (core_meets draft number octets).holds ends e in
    let two = (ends_meet draft number octets).holds ends e in
    let fit = (given_meet draft ends.edge [] (number + 1) more (record { each = tt; few = omega arith })).holds given g in
    ok_meets IsRead (record { scenario = draft.scenario; ends = ends; lines = given }) (record {
      rules = rules_of_kept draft kept ((connected_walks (length draft.scenario.nodes) draft.scenario.links kept.core.topology).0 core);
      edge_is = two.edge_is;
      peer_is = two.peer_is;
      two = two.two;
      each = fit.each;
      few = fit.few;
    })))

probe_at_meets : (rows : List (List ℕ)) (at : ℕ) → Meets IsRead (probe_at rows at)
probe_at_meets rows at =
    bind_meets _ (declared_from empty_draft 1 (take at rows)) _
    (λ draft d. probe_from_meets draft (at + 1) (drop at rows) ((declared_keep empty_draft 1 (take at rows) kept_empty).holds draft d))

place_meets : (rows : List (List ℕ)) (place : Option ℕ)
    → Meets IsRead (elim place [ None ↦ fault (length rows + 1) 1 reasons.Probe | Some at ↦ probe_at rows at ])
place_meets rows None = err_meets _ _
place_meets rows (Some at) = probe_at_meets rows at

probe_meets : (text : List ℕ) → Meets IsRead (probe_of text)
probe_meets text = if_meets _ _ _ _ (λ short. place_meets (lines text) (position is_probe_line (lines text)))

pub given_is_probe : (text : List ℕ) (result : Result ProbeText ReadFault) → Gives result (probe_of text)
    → IfOk result (λ (read : ProbeText). IsProbe read.scenario read.ends.edge read.ends.peer read.lines)
given_is_probe text (Ok read) g = (probe_meets text).holds read g
given_is_probe text (Err stop) g = tt
