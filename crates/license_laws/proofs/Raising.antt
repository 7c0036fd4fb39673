-- A session that comes up begins with nothing taken.
use Rattle.std.specs.Prelude.{Ok}
use Rattle.std.proofs.Common.{◌≡◌, ◌≢◌, ◌==◌, ◌&&◌, ◌||◌, ℕ, Bool, true, false, cond, List, [], ◌∷◌, ◌++◌, Option, Some, None, refl, sym, ap, subst, ◌∙◌}
use Rattle.std.proofs.lemmas.Bool.{and_parts}
use Rattle.std.proofs.lemmas.List.{append_assoc}
use Rattle.mv_base.specs.declared.ids.NodeId.{NodeId}
use Rattle.mv_base.specs.framing.Feed.{unfed}
use Rattle.scenario_defs.specs.declared.event.Kind.{Kind}
use Rattle.scenario_defs.specs.declared.scenario.Scenario.{Scenario}
use Rattle.mvpn_model.specs.declared.session.Session.{Session}
use Rattle.scenario_defs.specs.Kinds.{same_kind}
use Rattle.network_defs.specs.session_defs.Message.{SessionMessage}
use Rattle.network_defs.specs.session_defs.Octets as octets
use Rattle.network_defs.specs.session_defs.Octets.{Stream, OctetNetwork, octet_run}
use Rattle.network_defs.specs.session_defs.System.{Behind, with_earlier}
use Rattle.edge_defs.specs.Steps as steps
use Rattle.network_defs.specs.Acts.{RaiseFirst, RaiseSecond, Acted, is_of_session, act}
use Rattle.label_defs.specs.Between.{is_between}
use Rattle.network_defs.specs.Counts.{direction, directions, is_up as is_end}
use Rattle.network_defs.specs.Local.{is_up_in, taken_since}
use Rattle.network_defs.specs.Nodes.{NodeState, Nodes}
use Rattle.network_defs.specs.Run.{Traced}
use Rattle.network_defs.specs.System.{NodeCall, Own, system}
use Rattle.network_defs.specs.World.{World, scenario_of}
use Rattle.rule_laws.proofs.Raises.{between}
use Rattle.license_laws.proofs.Flows.{joined_now, join_flows}
use Rattle.license_laws.proofs.Follows.{stepped}
use Rattle.license_laws.proofs.Hears.{Follower, NetworkHas, StreamStays, run_has, run_stream}
use Rattle.license_laws.proofs.Heard.{up_next, taken_more, Waits, nothing_waits}
use Rattle.license_laws.proofs.Hearing.{Behaved, behaved, Heard, tame_effect, heard_more, none_taken, or_nothing}
use Rattle.license_laws.proofs.Moving.{raise_is, quiet_moves}
use Rattle.license_laws.proofs.Puts.{puts_take, kind_is}
use Rattle.license_laws.proofs.Since.{hit, was_raised, told_next}
use Rattle.license_laws.proofs.Taking.{Taking}
use Rattle.license_laws.proofs.Takes.{takes_of, network_moves}

-- the acts of a raise bring up no other end
pub no_end : (kind : Kind) (from to : NodeId) (own : Kind) (a b : NodeId) → is_of_session own a b (direction kind from to) ≡ false
    → ((same_kind kind own && (a.0 == to.0) && (b.0 == from.0)) ≡ false) × ((same_kind kind own && (b.0 == to.0) && (a.0 == from.0)) ≡ false)
no_end kind from to own a b off =
    by (same_kind kind own) (a.0 == to.0) (b.0 == from.0) (b.0 == to.0) (a.0 == from.0) (raise_is kind from to own a b ∙ off)
  where
    by : (k x y z w : Bool) → (k && ((w && z) || (x && y))) ≡ false → ((k && x && y) ≡ false) × ((k && z && w) ≡ false)
    by false x y z w e = (refl, refl)
    by true true true true true e = absurd cc
    by true true true true false e = absurd cc
    by true true true false w e = absurd (bad w e)
      where
        bad : (w : Bool) → ((w && false) || true) ≡ false → ⊥
        bad true e = cc
        bad false e = cc
    by true false y true true e = absurd cc
    by true true false true true e = absurd cc
    by true false y true false e = (refl, refl)
    by true false y false w e = (refl, refl)
    by true true false true false e = (refl, refl)
    by true true false false w e = (refl, refl)

-- one of them brings up the end of a direction of the session
some_end : (kind : Kind) (from to : NodeId) (own : Kind) (a b : NodeId) (t : Bool) → is_of_session own a b (direction kind from to) ≡ true
    → ((t || (same_kind kind own && (a.0 == to.0) && (b.0 == from.0))) || (same_kind kind own && (b.0 == to.0) && (a.0 == from.0))) ≡ true
some_end kind from to own a b t on =
    by t (same_kind kind own) (a.0 == to.0) (b.0 == from.0) (b.0 == to.0) (a.0 == from.0) (raise_is kind from to own a b ∙ on)
  where
    by : (t k x y z w : Bool) → (k && ((w && z) || (x && y))) ≡ true → ((t || (k && x && y)) || (k && z && w)) ≡ true
    by true k x y z w e = refl
    by false false x y z w e = absurd cc
    by false true true true z w e = refl
    by false true true false true true e = refl
    by false true true false true false e = absurd cc
    by false true true false false true e = absurd cc
    by false true true false false false e = absurd cc
    by false true false y true true e = refl
    by false true false y true false e = absurd cc
    by false true false y false true e = absurd cc
    by false true false y false false e = absurd cc

module _ (kind : Kind) (from to : NodeId) (P : List SessionMessage → NodeState → Type 0) (f : Follower kind from to P) where
  module _ (scenario : Scenario) (trace : List Traced) (number : ℕ) (world : World) (session : Session) (first second : Acted)
      (t : Taking trace world) (mid : Taking (trace ++ stepped number (RaiseFirst session.kind session.a session.b) first ∷ []) first.world)
      (h : Heard kind from to P f trace world)
      (e : act world (RaiseFirst session.kind session.a session.b) ≡ Ok first)
      (g : act first.world (RaiseSecond session.kind session.a session.b) ≡ Ok second) where
    abbrev one : Traced
    one = stepped number (RaiseFirst session.kind session.a session.b) first

    abbrev two : Traced
    two = stepped number (RaiseSecond session.kind session.a session.b) second

    -- the session is another one
    apart_heard : is_of_session session.kind session.a session.b (direction kind from to) ≡ false
        → Heard kind from to P f (trace ++ stepped number (RaiseFirst session.kind session.a session.b) first
        ∷ stepped number (RaiseSecond session.kind session.a session.b) second ∷ []) second.world
    apart_heard off =
        let none = no_end kind from to session.kind session.a session.b off in
        let acts =
        octets.Join (is_of_session session.kind session.a session.b) ∷ octets.Call (Own session.a (steps.Raised session.kind session.b)) ∷ [] in
        let call = octets.Call (Own session.b (steps.Raised session.kind session.a)) ∷ [] in
        let m = network_moves kind from to world [] (octet_run system world.network acts) session.a first refl
        (join_flows (direction kind from to) system world.network (is_of_session session.kind session.a session.b)
        (Own session.a (steps.Raised session.kind session.b)) off (t.ways kind from to).idle) e in
        let x = tame_effect kind from to P f world session.a acts first (off, (tt, tt)) e in
        let half : Heard kind from to P f (trace ++ one ∷ []) first.world =
        heard_more kind from to P f trace world first.world one (raise_is kind from to session.kind session.a session.b ∙ off)
        (or_nothing (is_up_in kind to from trace) (same_kind kind session.kind && (session.a.0 == to.0) && (session.b.0 == from.0)) none.0)
        (none_taken kind from to P f trace world first.world first.lines (t.ways kind from to) m) (λ j. (m.joined j).0) x.hears (λ d p. x.keeps p) h
        in
        let n = quiet_moves kind from to first.world session.b call second (tt, tt) (mid.ways kind from to).idle g in
        let y = tame_effect kind from to P f first.world session.b call second (tt, tt) g in
        subst (λ (tr : List Traced). Heard kind from to P f tr second.world) (append_assoc trace (one ∷ []) (two ∷ []))
        (heard_more kind from to P f (trace ++ one ∷ []) first.world second.world two refl
        (or_nothing (is_up_in kind to from (trace ++ one ∷ [])) (same_kind kind session.kind && (session.b.0 == to.0) && (session.a.0 == from.0))
        none.1)
        (none_taken kind from to P f (trace ++ one ∷ []) first.world second.world second.lines (mid.ways kind from to) n) (λ j. (n.joined j).0)
        y.hears (λ d p. y.keeps p) half)

    -- it is this one
    own_heard : is_of_session session.kind session.a session.b (direction kind from to) ≡ true → P [] (world.network.state.node to)
        → Heard kind from to P f (trace ++ stepped number (RaiseFirst session.kind session.a session.b) first
        ∷ stepped number (RaiseSecond session.kind session.a session.b) second ∷ []) second.world
    own_heard on p = record {
      up = λ j. up;
      heard = λ u. record {
        units = [];
        each = tt;
        parts = nothing ∙ ap (λ (d : Stream). d.held) (sym stream);
        waits = subst (λ (d : Stream). Waits kind d.held) (sym stream) (nothing_waits kind);
        holds = has;
      };
      silent = λ d. (let x : true ≡ false = sym up ∙ d in absurd cc);
    }
      where
        call : List (octets.OctetAct NodeCall)
        call = octets.Call (Own session.a (steps.Raised session.kind session.b)) ∷ []

        back : List (octets.OctetAct NodeCall)
        back = octets.Call (Own session.b (steps.Raised session.kind session.a)) ∷ []

        fresh : OctetNetwork Nodes
        fresh = joined_now (direction kind from to) system world.network (is_of_session session.kind session.a session.b)

        up : is_up_in kind to from (trace ++ stepped number (RaiseFirst session.kind session.a session.b) first
            ∷ stepped number (RaiseSecond session.kind session.a session.b) second ∷ []) ≡ true
        up =
            ap (λ (tr : List Traced). is_up_in kind to from tr) (sym (append_assoc trace (one ∷ []) (two ∷ [])))
            ∙ up_next kind to from (trace ++ one ∷ []) two
            ∙ ap (λ (t : Bool). t || (same_kind kind session.kind && (session.b.0 == to.0) && (session.a.0 == from.0)))
            (up_next kind to from trace one)
            ∙ some_end kind from to session.kind session.a session.b (is_up_in kind to from trace) on

        first_none : takes_of kind from to first.lines ≡ []
        first_none =
            (let b = behaved world [] (octet_run system world.network
            (octets.Join (is_of_session session.kind session.a session.b) ∷ octets.Call (Own session.a (steps.Raised session.kind session.b)) ∷ []))
            session.a first e in
            ap (λ (a : Acted). takes_of kind from to a.lines) b.same ∙ puts_take kind from to b.new.puts (directions (scenario_of world)))

        second_none : takes_of kind from to second.lines ≡ []
        second_none =
            (let b = behaved first.world [] (octet_run system first.world.network
            (octets.Call (Own session.b (steps.Raised session.kind session.a)) ∷ [])) session.b second g in
            ap (λ (a : Acted). takes_of kind from to a.lines) b.same ∙ puts_take kind from to b.new.puts (directions (scenario_of first.world)))

        hits : hit kind from to (stepped number (RaiseFirst session.kind session.a session.b) first) ≡ true
        hits = raise_is kind from to session.kind session.a session.b ∙ on

        nothing : taken_since kind from to (trace ++ stepped number (RaiseFirst session.kind session.a session.b) first
            ∷ stepped number (RaiseSecond session.kind session.a session.b) second ∷ []) ≡ []
        nothing =
            ap (λ (tr : List Traced). taken_since kind from to tr) (sym (append_assoc trace (one ∷ []) (two ∷ [])))
            ∙ taken_more kind from to (trace ++ one ∷ []) two refl (λ x. second_none)
            ∙ (λ i. (told_next kind from to (λ step. takes_of kind from to step.happened.lines) trace one
            ∙ ap (λ (t : Bool). cond t (takes_of kind from to first.lines)
            (cond (was_raised kind from to trace) (taken_since kind from to trace ++ takes_of kind from to first.lines) [])) hits ∙ first_none) i
            ++ second_none i)

        alone : (Q : OctetNetwork Nodes → Type 0) (o : Option (Behind (OctetNetwork Nodes))) (acted : Acted)
            → ((new : Behind (OctetNetwork Nodes)) → o ≡ Some new → Q new.network) → Behaved world [] (with_earlier [] o) acted
            → Q acted.world.network
        alone Q None acted q b = (let x = b.is in absurd cc)
        alone Q (Some new) acted q b =
            let again : Behind (OctetNetwork Nodes) = record { network = new.network; puts = [] ++ new.puts } in
            let same : again ≡ b.new = (let x = b.is in cc) in
            subst (λ (a : Acted). Q a.world.network) (sym b.same) (subst (λ (n : Behind (OctetNetwork Nodes)). Q n.network) same (q new refl))

        first_stream : first.world.network.stream (direction kind from to) ≡ unfed
        first_stream =
            alone (λ net. net.stream (direction kind from to) ≡ unfed) (octet_run system fresh call) first
            (λ new is. subst (StreamStays kind from to P f unfed) is
            (run_stream kind from to P f call (tt, tt) unfed fresh
            (ap (λ (t : Bool). cond t unfed (world.network.stream (direction kind from to))) on)))
            (behaved world [] (with_earlier [] (octet_run system fresh call)) session.a first e)

        stream : second.world.network.stream (direction kind from to) ≡ unfed
        stream =
            let b = behaved first.world [] (octet_run system first.world.network back) session.b second g in
            ap (λ (a : Acted). a.world.network.stream (direction kind from to)) b.same
            ∙ subst (StreamStays kind from to P f unfed) b.is (run_stream kind from to P f back (tt, tt) unfed first.world.network first_stream)

        first_has : P [] (first.world.network.state.node to)
        first_has =
            alone (λ net. P [] (net.state.node to)) (octet_run system fresh call) first
            (λ new is. subst (NetworkHas kind from to P f []) is (run_has kind from to P f call (tt, tt) [] fresh p))
            (behaved world [] (with_earlier [] (octet_run system fresh call)) session.a first e)

        has : P [] (second.world.network.state.node to)
        has =
            let b = behaved first.world [] (octet_run system first.world.network back) session.b second g in
            subst (λ (a : Acted). P [] (a.world.network.state.node to)) (sym b.same)
            (subst (NetworkHas kind from to P f []) b.is (run_has kind from to P f back (tt, tt) [] first.world.network first_has))

    pub pair_heard : session.a ≢ session.b → (from ≢ to → is_end world kind to from ≡ false → P [] (world.network.state.node to))
        → is_end world session.kind session.a session.b ≡ false → is_end world session.kind session.b session.a ≡ false
        → Heard kind from to P f (trace ++ stepped number (RaiseFirst session.kind session.a session.b) first
        ∷ stepped number (RaiseSecond session.kind session.a session.b) second ∷ []) second.world
    pair_heard two_nodes down off back = by (is_of_session session.kind session.a session.b (direction kind from to)) refl
      where
        by : (x : Bool) → is_of_session session.kind session.a session.b (direction kind from to) ≡ x
            → Heard kind from to P f (trace ++ stepped number (RaiseFirst session.kind session.a session.b) first
            ∷ stepped number (RaiseSecond session.kind session.a session.b) second ∷ []) second.world
        by true on =
            let x = and_parts (same_kind session.kind kind) (is_between session.a session.b from to) on in
            let same : session.kind ≡ kind = kind_is session.kind kind x.0 in
            let end : is_end world session.kind to from ≡ false =
            between (λ u n. is_end world session.kind n u ≡ false) session.a session.b from to back off x.1 in
            let apart : from ≢ to = between (λ u n. u ≢ n) session.a session.b from to two_nodes (λ e. two_nodes (sym e)) x.1 in
            own_heard on (down apart (ap (λ (k : Kind). is_end world k to from) (sym same) ∙ end))
        by false off = apart_heard off
