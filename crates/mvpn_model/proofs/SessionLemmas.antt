-- Sessions of two nodes, and lists of sessions.
use Rattle.std.proofs.Common.{◌≡◌, ℕ, ◌+◌, ◌⊎◌, ◌==◌, ◌&&◌, ◌||◌, Bool, true, cond, List, [], ◌∷◌, fold, refl, ap, inl, inr, ◌∙◌}
use Rattle.std.specs.Prelude.{count_by}
use Rattle.std.proofs.Math.Bool.{or_comm, and_comm}
use Rattle.std.proofs.lemmas.Bool.{or_left, eq-eqb}
use Rattle.mv_base.specs.declared.ids.NodeId.{NodeId}
use Rattle.scenario_defs.specs.declared.event.Kind.{Kind}
use Rattle.scenario_defs.specs.declared.event.Kind.TheVariants as kinds
use Rattle.scenario_defs.specs.Kinds.{same_kind}
use Rattle.mvpn_model.specs.declared.session.Session.{Session}
use Rattle.mvpn_model.specs.Unready.{is_that}

-- ---- the session of two nodes

-- either end may be named first
pub other_order : (kind : Kind) (a b : NodeId) (own : Kind) (u n : NodeId) → is_that kind b a own u n ≡ is_that kind a b own u n
other_order kind a b own u n = ap (λ t. same_kind kind own && t) (or_comm ((u.0 == b.0) && (n.0 == a.0)) ((u.0 == a.0) && (n.0 == b.0)))

pub other_way : (kind : Kind) (a b : NodeId) (own : Kind) (u n : NodeId) → is_that kind a b own n u ≡ is_that kind a b own u n
other_way kind a b own u n =
    ap (λ t. same_kind kind own && t)
    ((λ i. and_comm (n.0 == a.0) (u.0 == b.0) i || and_comm (n.0 == b.0) (u.0 == a.0) i)
    ∙ or_comm ((u.0 == b.0) && (n.0 == a.0)) ((u.0 == a.0) && (n.0 == b.0)))

pub one_kind : (a b : Kind) → same_kind a b ≡ true → a ≡ b
one_kind kinds.Bgp kinds.Bgp e = refl
one_kind kinds.Ldp kinds.Ldp e = refl
one_kind kinds.Bgp kinds.Ldp e = absurd cc
one_kind kinds.Ldp kinds.Bgp e = absurd cc

own_kind : (kind : Kind) → same_kind kind kind ≡ true
own_kind kinds.Bgp = refl
own_kind kinds.Ldp = refl

-- a session is that of its own nodes
pub own_session : (session : Session) → is_that session.kind session.a session.b session.kind session.a session.b ≡ true
own_session session =
    let near : (session.a.0 == session.a.0) ≡ true = eq-eqb session.a.0 session.a.0 refl in
    let far : (session.b.0 == session.b.0) ≡ true = eq-eqb session.b.0 session.b.0 refl in
    let both : ((session.a.0 == session.a.0) && (session.b.0 == session.b.0)) ≡ true = λ i. near i && far i in
    λ i. own_kind session.kind i && or_left ((session.a.0 == session.a.0) && (session.b.0 == session.b.0))
    ((session.a.0 == session.b.0) && (session.b.0 == session.a.0)) both i

-- ---- lists

-- the session is one of the list
abbrev pub IsIn : Session → List Session → Type 0
IsIn session [] = ⊥
IsIn session (first ∷ more) = (session ≡ first) ⊎ IsIn session more

-- one more, where a test passes
abbrev counts : (Session → Bool) → ℕ → Session → ℕ
counts test count session = count + cond (test session) 1 0

counts_alike : (test other : Session → Bool) (all : List Session) (count : ℕ)
    → ((session : Session) → IsIn session all → test session ≡ other session) → fold (counts test) count all ≡ fold (counts other) count all
counts_alike test other [] count h = refl
counts_alike test other (first ∷ more) count h =
    ap (λ (t : Bool). fold (counts test) (count + cond t 1 0) more) (h first (inl refl))
    ∙ counts_alike test other more (count + cond (other first) 1 0) (λ session is. h session (inr is))

-- Tests that agree on each session of a list pass as many.
pub count_alike : (test other : Session → Bool) (all : List Session) → ((session : Session) → IsIn session all → test session ≡ other session)
    → count_by test all ≡ count_by other all
count_alike test other all h = counts_alike test other all 0 h
