-- What the rules of events show where they are kept, and what a line of an event keeps to.
use Rattle.std.proofs.Common.{◌≡◌, ◌⊎◌, ℕ, ◌==◌, ◌||◌, ◌&&◌, Bool, true, false, List, refl, inl, inr, cond, arith, Option, Some, None}
use Rattle.std.specs.Prelude.{◌≢◌}
use Rattle.std.specs.List.{list_any}
use Rattle.std.proofs.lemmas.List.Folds.{Any-from_list_any}
use Rattle.std.proofs.lemmas.Bool.{eqb-true, or_cases, and_parts}
use Rattle.std.proofs.lemmas.Bool.Decides.{nat_tests}
use Rattle.mv_base.specs.declared.addr.Addr.{Addr}
use Rattle.mv_base.specs.declared.core_link.Link.{Link}
use Rattle.mv_base.specs.declared.ids.NodeId.{NodeId}
use Rattle.mv_base.specs.declared.ids.IfaceId.{IfaceId}
use Rattle.mv_base.specs.core_walks.Walks.{IsLinked}
use Rattle.scenario_defs.specs.declared.scenario.Scenario.{Scenario}
use Rattle.scenario_defs.specs.declared.event.Kind.{Kind}
use Rattle.scenario_defs.specs.declared.event.Kind.TheVariants as kinds
use Rattle.scenario_defs.specs.Rules.{IsEdge, AreLinked, HaveSession, IsOfIface, IsEventOf}
use Rattle.line_words.specs.declared.fault.Reason.{Reason}
use Rattle.line_words.specs.declared.fault.Reason.TheVariants as reasons
use Rattle.line_words.specs.declared.words.Row.{Row}
use Rattle.line_words.specs.Words.{Placed}
use Rattle.line_words.specs.Forms.{same_family}
use Rattle.scenario_lines.specs.declared.scenario_draft.line.Line.{Line}
use Rattle.scenario_lines.specs.declared.scenario_draft.line.Line.TheVariants as says
use Rattle.scenario_lines.specs.scenario_draft.Drafted.{Drafted}
use Rattle.scenario_lines.specs.scenario_draft.Naming.{joins, is_of_iface}
use Rattle.scenario_lines.proofs.scenario_draft.WordFacts.{Meets, ok_meets, err_meets, of_iface}
use Rattle.scenario_text.specs.event_lines.Rules.{unless_broken, link_fault, session_fault, is_flow_of, family_fault}

-- What a line of an event keeps to.
abbrev pub IsTold : Drafted → Line → Type 0
IsTold draft (says.Event event) = IsEventOf draft.scenario event
IsTold draft other = ⊥

-- A value that is told keeps to what the rule shows.
pub unless_meets : {A : Type 0} (P : A → Type 0) (broken : Option Reason) (row : Row) (word : Placed) (x : A) → (broken ≡ None → P x)
    → Meets P (unless_broken broken row word x)
unless_meets P None row word x h = ok_meets P x (h refl)
unless_meets P (Some reason) row word x h = err_meets P _

-- ---- links and sessions

pub ends_of : (x y a b : ℕ) → ((x == a && y == b) || (x == b && y == a)) ≡ true → ((x ≡ a) × (y ≡ b)) ⊎ ((x ≡ b) × (y ≡ a))
ends_of x y a b h = by_end (or_cases _ _ h)
  where
    by_end : ((x == a && y == b) ≡ true) ⊎ ((x == b && y == a) ≡ true) → ((x ≡ a) × (y ≡ b)) ⊎ ((x ≡ b) × (y ≡ a))
    by_end (inl e) = let p = and_parts (x == a) (y == b) e in inl (eqb-true x a p.0, eqb-true y b p.1)
    by_end (inr e) = let p = and_parts (x == b) (y == a) e in inr (eqb-true x b p.0, eqb-true y a p.1)

joined_linked : (links : List Link) (a b : NodeId) → list_any (joins a b) links ≡ true → (cost : ℕ) × IsLinked links a.0 b.0 cost
joined_linked links a b h =
    let found = Any-from_list_any (joins a b) links h in
    let link = found.1 in
    (link.cost, record { link = link; listed = (found.0, found.2, found.3); ends = ends_of link.a.0 link.b.0 a.0 b.0 found.4; priced = refl })

is_joined : (same joined : Bool) → cond same (Some reasons.Same) (cond joined None (Some reasons.Link)) ≡ None → joined ≡ true
is_joined true joined h = absurd cc
is_joined false true h = refl
is_joined false false h = absurd cc

-- Two nodes without a fault are the ends of a link.
pub linked : (scenario : Scenario) (a b : NodeId) → link_fault scenario.links a b ≡ None → AreLinked scenario a b
linked scenario a b h = joined_linked scenario.links a b (is_joined (a.0 == b.0) (list_any (joins a b) scenario.links) h)

is_other : (same : Bool) → cond same (Some reasons.Same) None ≡ None → same ≡ false
is_other true h = absurd cc
is_other false h = refl

differ : (x y : ℕ) → (x == y) ≡ false → x ≢ y
differ x y h e = grind (arith, nat_tests)

-- Ends of a session as their words name them: over BGP both are edges.
abbrev pub AreEnds : Scenario → Kind → NodeId → NodeId → Type 0
AreEnds scenario kinds.Bgp a b = IsEdge scenario a × IsEdge scenario b
AreEnds scenario kinds.Ldp a b = Unit {0}

-- Two such ends without a fault have a session.
pub in_session : (scenario : Scenario) (kind : Kind) (a b : NodeId) → AreEnds scenario kind a b → session_fault scenario.links kind a b ≡ None
    → HaveSession scenario kind a b
in_session scenario kinds.Bgp a b h kept = (h.0, h.1, differ a.0 b.0 (is_other (a.0 == b.0) kept))
in_session scenario kinds.Ldp a b h kept = linked scenario a b kept

-- ---- families

pub kept_family : (kept : Bool) → family_fault kept ≡ None → kept ≡ true
kept_family true h = refl
kept_family false h = absurd cc

-- Source, group and interface are of one family.
pub flow_of : (draft : Drafted) (iface : IfaceId) (source group : Addr) → is_flow_of draft iface source group ≡ true
    → (same_family source group ≡ true) × IsOfIface draft.scenario iface group
flow_of draft iface source group h =
    let p = and_parts (same_family source group) (is_of_iface draft iface group) h in
    (p.0, of_iface draft iface group p.1)
