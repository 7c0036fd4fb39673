-- An edge that was given lines, and the next one.
use Rattle.std.proofs.Common.{◌≡◌, ◌≢◌, ℕ, ◌<◌, true, false, List, [], ◌∷◌, ◌++◌, length, Option, Some, None, inl, inr, ◌-◌, ◌==◌, Bool, refl, sym, ap, subst, ◌∙◌, append_assoc, arith}
use Rattle.std.proofs.lemmas.Bool.{cases_lt, eqb-true}
use Rattle.std.proofs.lemmas.List.{append-nil, length-append, get_or_append_left, get_or-append_right}
use Rattle.std.proofs.lemmas.Option.{same_Some}
use Rattle.std.specs.Prelude.{fold, is_some}
use Rattle.std.specs.FinMap as maps
use Rattle.mv_base.specs.Octets.{IsOctets}
use Rattle.mv_base.specs.core_walks.Core.{Core, IsCoreOf}
use Rattle.mv_base.specs.core_walks.Topology.{Topology}
use Rattle.mv_base.specs.declared.addr.Addr.{Addr}
use Rattle.mv_base.specs.declared.ids.IfaceId.{IfaceId}
use Rattle.mv_base.specs.declared.ids.NodeId.{NodeId}
use Rattle.bgp_messages.specs.declared.bgp_attributes.fault.StreamFault.{StreamFault}
use Rattle.label_defs.specs.Keys.{node_cmp}
use Rattle.label_defs.specs.Node.{LacksLabel}
use Rattle.scenario_defs.specs.Rules.{Rules}
use Rattle.scenario_defs.specs.declared.event.IfaceEntry.{IfaceEntry}
use Rattle.scenario_defs.specs.declared.event.JoinEntry.TheVariants.{Source}
use Rattle.scenario_defs.specs.declared.event.Kind.TheVariants as kinds
use Rattle.edge_defs.specs.Edge.{Control}
use Rattle.edge_defs.specs.Place.{EdgePlace}
use Rattle.edge_defs.specs.Steps.{Raised}
use Rattle.edge_defs.specs.pim_defs.Entries.{Entries, applied, are_too_many}
use Rattle.edge_defs.specs.pim_defs.Single.{join_of}
use Rattle.vrf_words.proofs.edge_words.edge_laws.Taken.{put_own}
use Rattle.edge_routes.specs.edge_home.Home.{Home, place_of}
use Rattle.network_defs.specs.mvpn_model.Messages.{own_addr}
use Rattle.network_defs.specs.node_defs.EdgeState.{EdgeState, fresh_state}
use Rattle.network_defs.specs.session_defs.Message.{BgpFault}
use Rattle.network_defs.specs.session_defs.PeerSession.{fault_at}
use Rattle.edge_streams.specs.Kept.{fault_as}
use Rattle.edge_streams.specs.Streams.{told_fault}
use Rattle.edge_streams.specs.declared.reason.SessionReason.{SessionReason}
use Rattle.edge_streams.specs.declared.reason.SessionReason.TheVariants as reasons
use Rattle.edge_core.specs.Answers.{Lacks, Makes, step_of}
use Rattle.edge_core.specs.Pim.{is_over}
use Rattle.edge_core.specs.State.{IsIn, data_of, home_of, is_up}
use Rattle.edge_core.specs.View.{EdgeView}
use Rattle.probe_defs.specs.Given.{thereafter, begun, fault_in, given, messages_in, peer_session}
use Rattle.probe_defs.specs.Lines.{joins_of, octets_of}
use Rattle.probe_defs.specs.Probed.{edge_with, joined, table_of, taken_at_once}
use Rattle.probe_defs.specs.declared.probe.ProbeLine.{ProbeLine}
use Rattle.probe_defs.specs.declared.probe.ProbeLine.TheVariants.{Join, Piece}
use Rattle.probe_defs.proofs.LineLemmas.{comes}
use Rattle.edge_probe.specs.Behind.{IsFresh, IsGiven, IsInCore, IsTold}
use Rattle.edge_probe.proofs.RoomLemmas.{joined_few, not_over}

-- ---- a line more

fold_snoc : {A B : Type 0} (f : B → A → B) (b : B) (xs : List A) (x : A) → fold f b (xs ++ x ∷ []) ≡ f (fold f b xs) x
fold_snoc f b [] x = refl
fold_snoc f b (y ∷ xs) x = fold_snoc f (f b y) xs x

pub octets_piece : (done : List ProbeLine) (piece : List ℕ) → octets_of (done ++ Piece piece ∷ []) ≡ octets_of done ++ piece
octets_piece [] piece = append-nil piece
octets_piece (Join iface source group ∷ done) piece = octets_piece done piece
octets_piece (Piece first ∷ done) piece =
    ap (λ (xs : List ℕ). first ++ xs) (octets_piece done piece) ∙ sym (append_assoc first (octets_of done) piece)

pub octets_join : (done : List ProbeLine) (iface : IfaceId) (source group : Addr) → octets_of (done ++ Join iface source group ∷ []) ≡ octets_of done
octets_join [] iface source group = refl
octets_join (Join i s g ∷ done) iface source group = octets_join done iface source group
octets_join (Piece first ∷ done) iface source group = ap (λ (xs : List ℕ). first ++ xs) (octets_join done iface source group)

pub joins_join : (done : List ProbeLine) (iface : IfaceId) (source group : Addr)
    → joins_of (done ++ Join iface source group ∷ []) ≡ joins_of done ++ record { iface = iface; entry = Source source group } ∷ []
joins_join [] iface source group = refl
joins_join (Join i s g ∷ done) iface source group =
    ap (λ (js : List IfaceEntry). record { iface = i; entry = Source s g } ∷ js) (joins_join done iface source group)
joins_join (Piece first ∷ done) iface source group = joins_join done iface source group

joins_piece : (done : List ProbeLine) (piece : List ℕ) → joins_of (done ++ Piece piece ∷ []) ≡ joins_of done
joins_piece [] piece = refl
joins_piece (Join i s g ∷ done) piece =
    ap (λ (js : List IfaceEntry). record { iface = i; entry = Source s g } ∷ js) (joins_piece done piece)
joins_piece (Piece first ∷ done) piece = joins_piece done piece

-- a line more after lines that say the same
octets_after : (a b : List ProbeLine) (line : ProbeLine) → octets_of a ≡ octets_of b
    → octets_of (a ++ line ∷ []) ≡ octets_of (b ++ line ∷ [])
octets_after a b (Join iface source group) same = octets_join a iface source group ∙ same ∙ sym (octets_join b iface source group)
octets_after a b (Piece piece) same =
    octets_piece a piece ∙ ap (λ (xs : List ℕ). xs ++ piece) same ∙ sym (octets_piece b piece)

joins_after : (a b : List ProbeLine) (line : ProbeLine) → joins_of a ≡ joins_of b → joins_of (a ++ line ∷ []) ≡ joins_of (b ++ line ∷ [])
joins_after a b (Join iface source group) same =
    joins_join a iface source group
    ∙ ap (λ (js : List IfaceEntry). js ++ record { iface = iface; entry = Source source group } ∷ []) same
    ∙ sym (joins_join b iface source group)
joins_after a b (Piece piece) same = joins_piece a piece ∙ same ∙ sym (joins_piece b piece)

no_octets : IsOctets []
no_octets i = omega arith

pub both_octets : (a b : List ℕ) → IsOctets a → IsOctets b → IsOctets (a ++ b)
both_octets a b h k i =
    elim (cases_lt i (length a)) [
      | inl lt ↦ rw (get_or_append_left a b 0 i lt) (h i)
      | inr le ↦ rw (get_or-append_right a b (length a) i 0 refl le) (k (i - length a))
    ]

pub none_some : {A : Type 0} (x : A) → ◌≢◌ {A = Option A} None (Some x)
none_some x e = absurd cc

-- ---- an edge in its core

pub in_core_still : (core : Topology) (old new : EdgeView) → home_of new ≡ home_of old → IsInCore core old → IsInCore core new
in_core_still core old new same is = record {
  rules = subst (λ (home : Home). Rules home.scenario) (sym same) is.rules;
  nodes = is.nodes ∙ ap (λ (home : Home). length home.scenario.nodes) (sym same);
  links = is.links ∙ ap (λ (home : Home). home.scenario.links) (sym same);
  told = is.told;
}

-- it does not run out of labels at a step after which it is not spent
pub not_lacking : (core : Topology) (old : EdgeView) (step : Core → EdgeState → EdgeState) → IsInCore core old
    → ((own : Core) → IsCoreOf core.nodes core.links own → (state : EdgeState) × IsIn state old × ((step own state).spent ≡ None))
    → Lacks core step old → ⊥
not_lacking core old step in_core each lacks =
    let t = in_core.told in
    let state = each t.0 t.1 in
    none_some LacksLabel (sym state.2 ∙ lacks t.0 t.1 state.0 state.1)

-- ---- an edge that was given lines

module _ (core : Topology) (peer : NodeId) (done : List ProbeLine) (old : EdgeView) (g : IsGiven core peer done old) where
  abbrev at : Core → EdgePlace
  at own = place_of (home_of old) own

  abbrev before : Core → EdgeState
  before own = thereafter (at own) peer g.as_given

  more : (own : Core) (line : ProbeLine) → thereafter (at own) peer (g.as_given ++ line ∷ []) ≡ given (at own) peer (before own) line
  more own line = fold_snoc (given (at own) peer) (begun (at own) peer) g.as_given line

  abbrev own_octets : IsOctets (octets_of g.as_given)
  own_octets = subst IsOctets (sym g.same_octets) g.octets

  pub control_at : (own : Core) → IsCoreOf core.nodes core.links own
      → (data_of old).control ≡ edge_with (at own) peer (table_of (messages_in (octets_of done))) (joined (home_of old).scenario (joins_of done))
  control_at own is =
      sym ((g.is own is).parts own).keeps ∙ (comes (at own) peer g.as_given own_octets).keeps
      ∙ ap (λ (octets : List ℕ). edge_with (at own) peer (table_of (messages_in octets)) (joined (home_of old).scenario (joins_of g.as_given)))
      g.same_octets
      ∙ ap (λ (joins : List IfaceEntry). edge_with (at own) peer (table_of (messages_in (octets_of done))) (joined (home_of old).scenario joins))
      g.same_joins

  pub is_up_still : is_up old kinds.Bgp peer ≡ true
  is_up_still =
      let t = g.in_core.told in
      ap (λ (control : Control). is_some (maps.get control.peers peer)) (control_at t.0 t.1)
      ∙ ap is_some (put_own maps.empty peer (taken_at_once (table_of (messages_in (octets_of done)))))

  pub never_lacks : (line : ProbeLine) → IsOctets (octets_of (done ++ line ∷ [])) → Lacks core (λ own state. given (at own) peer state line) old → ⊥
  never_lacks line fits =
      not_lacking core old (λ own state. given (at own) peer state line) g.in_core (λ own is. (
        before own,
        g.is own is,
        ap (λ (state : EdgeState). state.spent) (sym (more own line))
            ∙ (comes (at own) peer (g.as_given ++ line ∷ [])
            (subst IsOctets (sym (octets_after g.as_given done line g.same_octets)) fits)).unspent,
      ))

  pub next : (line : ProbeLine) (new : EdgeView) → home_of new ≡ home_of old → new.spent ≡ None → IsOctets (octets_of (done ++ line ∷ []))
      → Makes core (λ own state. given (at own) peer state line) old new → IsGiven core peer (done ++ line ∷ []) new
  next line new same unspent fits makes = record {
    in_core = in_core_still core old new same g.in_core;
    unspent = unspent;
    octets = fits;
    as_given = g.as_given ++ line ∷ [];
    same_octets = octets_after g.as_given done line g.same_octets;
    same_joins = joins_after g.as_given done line g.same_joins;
    is = λ own is. subst (λ (home : Home). IsIn (thereafter (place_of home own) peer (g.as_given ++ line ∷ [])) new) (sym same)
        (subst (λ (state : EdgeState). IsIn state new) (sym (more own line)) (makes own is (before own) (g.is own is)));
  }

  -- ---- a join

  pub fits_join : (iface : IfaceId) (source group : Addr) → IsOctets (octets_of (done ++ Join iface source group ∷ []))
  fits_join iface source group = subst IsOctets (sym (octets_join done iface source group)) g.octets

  pub has_room : (iface : IfaceId) (source group : Addr) → length (joins_of done) < 1024
      → is_over old 0 iface (join_of (own_addr (home_of old).scenario iface) (Source source group)) ≡ false
  has_room iface source group room =
      let scenario = (home_of old).scenario in
      let entry : IfaceEntry = record { iface = iface; entry = Source source group } in
      let t = g.in_core.told in
      let entries : (data_of old).control.entries ≡ joined scenario (joins_of done) =
      ap (λ (control : Control). control.entries) (control_at t.0 t.1) in
      let same : applied (joined scenario (joins_of done)) iface (join_of (own_addr scenario iface) (Source source group)) 0
      ≡ joined scenario (joins_of done ++ entry ∷ []) =
      sym (fold_snoc (λ (es : Entries) (x : IfaceEntry). applied es x.iface (join_of (own_addr scenario x.iface) x.entry) 0) maps.empty
      (joins_of done) entry) in
      let few = joined_few scenario (joins_of done ++ entry ∷ []) in
      let long = length-append (joins_of done) (entry ∷ []) in
      ap (λ (es : Entries). are_too_many (applied es iface (join_of (own_addr scenario iface) (Source source group)) 0)) entries
      ∙ ap are_too_many same
      ∙ not_over (maps.len (joined scenario (joins_of done ++ entry ∷ []))) (omega (arith, few, long, room))

  -- ---- octets

  pub fits_piece : (piece : List ℕ) → IsOctets (octets_of done ++ piece) → IsOctets (octets_of (done ++ Piece piece ∷ []))
  fits_piece piece fits = subst IsOctets (sym (octets_piece done piece)) fits

-- the first fault of the stream is that of the octets
pub fault_given : (core : Topology) (peer : NodeId) (done : List ProbeLine) (edge : EdgeView) → IsGiven core peer done edge
    → fault_at edge.streams (peer_session peer) ≡ fault_as (λ f. BgpFault f) (fault_in (octets_of done))
fault_given core peer done edge g =
    let t = g.in_core.told in
    ap (λ (streams : _). fault_at streams (peer_session peer)) (sym (g.is t.0 t.1).streams)
    ∙ (comes (place_of (home_of edge) t.0) peer g.as_given (subst IsOctets (sym g.same_octets) g.octets)).stream
    ∙ ap (λ (octets : List ℕ). fault_as (λ f. BgpFault f) (fault_in octets)) g.same_octets

-- what was said of it is a fault of BGP
told_as : (fault : Option (ℕ × StreamFault)) (place : ℕ) (reason : SessionReason)
    → told_fault (fault_as (λ f. BgpFault f) fault) ≡ Some (place, reason)
    → (own : StreamFault) × (reason ≡ reasons.Bgp own) × (fault ≡ Some (place, own))
told_as None place reason e = absurd (none_some (place, reason) e)
told_as (Some f) place reason e =
    let same = same_Some (f.0, reasons.Bgp f.1) (place, reason) e in
    (f.1, ap (λ (x : ℕ × SessionReason). x.1) (sym same), ap (λ (n : ℕ). Some (n, f.1)) (ap (λ (x : ℕ × SessionReason). x.0) same))

pub told_given : (core : Topology) (peer : NodeId) (done : List ProbeLine) (edge : EdgeView) → IsGiven core peer done edge
    → (place : ℕ) (reason : SessionReason) → told_fault (fault_at edge.streams (peer_session peer)) ≡ Some (place, reason)
    → (own : StreamFault) × (reason ≡ reasons.Bgp own) × (fault_in (octets_of done) ≡ Some (place, own))
told_given core peer done edge g place reason e =
    told_as (fault_in (octets_of done)) place reason (ap told_fault (sym (fault_given core peer done edge g)) ∙ e)

none_as : (fault : Option (ℕ × StreamFault)) → fault_as (λ f. BgpFault f) fault ≡ None → fault ≡ None
none_as None e = refl
none_as (Some f) e = absurd (none_some (f.0, BgpFault f.1) (sym e))

pub none_given : (core : Topology) (peer : NodeId) (done : List ProbeLine) (edge : EdgeView) → IsGiven core peer done edge
    → fault_at edge.streams (peer_session peer) ≡ None → fault_in (octets_of done) ≡ None
none_given core peer done edge g e = none_as (fault_in (octets_of done)) (sym (fault_given core peer done edge g) ∙ e)

-- ---- the same in other pieces

-- lines that say the same
pub said_alike : (core : Topology) (peer : NodeId) (a b : List ProbeLine) (fault : Option (ℕ × StreamFault)) (edge : EdgeView)
    → octets_of a ≡ octets_of b → joins_of a ≡ joins_of b → IsTold core peer a fault edge → IsTold core peer b fault edge
said_alike core peer a b fault edge octets joins told =
    let g = told.given in
    record {
      given = record {
        in_core = g.in_core;
        unspent = g.unspent;
        octets = subst IsOctets octets g.octets;
        as_given = g.as_given;
        same_octets = g.same_octets ∙ octets;
        same_joins = g.same_joins ∙ joins;
        is = g.is;
      };
      fault_is = told.fault_is ∙ ap fault_in octets;
    }

-- no octets
pub none_given_yet : (core : Topology) (peer : NodeId) (done : List ProbeLine) (fault : Option (ℕ × StreamFault)) (edge : EdgeView)
    → IsTold core peer done fault edge → IsTold core peer (done ++ Piece [] ∷ []) fault edge
none_given_yet core peer done fault edge told =
    said_alike core peer done (done ++ Piece [] ∷ []) fault edge (sym (octets_piece done [] ∙ append-nil (octets_of done))) (sym (joins_piece done []))
    told

-- nothing is left
pub none_left : (b : Bool) (rest : List ℕ) → b ≡ true → b ≡ (length rest == 0) → rest ≡ []
none_left b [] empty is = refl
none_left b (x ∷ rest) empty is = absurd (omega (arith, eqb-true (length (x ∷ rest)) 0 (sym is ∙ empty)))

-- two pieces are one
pub both_given : (core : Topology) (peer : NodeId) (done : List ProbeLine) (first second : List ℕ) (fault : Option (ℕ × StreamFault)) (edge : EdgeView)
    → IsTold core peer ((done ++ Piece first ∷ []) ++ Piece second ∷ []) fault edge
    → IsTold core peer (done ++ Piece (first ++ second) ∷ []) fault edge
both_given core peer done first second fault edge told =
    said_alike core peer ((done ++ Piece first ∷ []) ++ Piece second ∷ []) (done ++ Piece (first ++ second) ∷ []) fault edge
    (octets_piece (done ++ Piece first ∷ []) second ∙ ap (λ (xs : List ℕ). xs ++ second) (octets_piece done first)
    ∙ append_assoc (octets_of done) first second ∙ sym (octets_piece done (first ++ second)))
    (joins_piece (done ++ Piece first ∷ []) second ∙ joins_piece done first ∙ sym (joins_piece done (first ++ second)))
    told

-- ---- the first line

pub first_not_lacking : (core : Topology) (peer : NodeId) (old : EdgeView) → IsFresh core old → Lacks core (step_of old 0 (Raised kinds.Bgp peer)) old
    → ⊥
first_not_lacking core peer old fresh =
    not_lacking core old (step_of old 0 (Raised kinds.Bgp peer)) fresh.in_core (λ own is.
    (fresh_state (home_of old).scenario.labels, fresh.is, (comes (place_of (home_of old) own) peer [] no_octets).unspent))

pub first_given : (core : Topology) (peer : NodeId) (old new : EdgeView) → IsFresh core old → home_of new ≡ home_of old → new.spent ≡ None
    → Makes core (step_of old 0 (Raised kinds.Bgp peer)) old new → IsGiven core peer [] new
first_given core peer old new fresh same unspent makes = record {
  in_core = in_core_still core old new same fresh.in_core;
  unspent = unspent;
  octets = no_octets;
  as_given = [];
  same_octets = refl;
  same_joins = refl;
  is = λ own is. subst (λ (home : Home). IsIn (begun (place_of home own) peer) new) (sym same)
      (makes own is (fresh_state (home_of old).scenario.labels) fresh.is);
}

pub first_down : (core : Topology) (peer : NodeId) (old : EdgeView) → IsFresh core old → is_up old kinds.Bgp peer ≡ false
first_down core peer old fresh =
    let t = fresh.in_core.told in
    ap (λ (control : Control). is_some (maps.get control.peers peer)) (sym ((fresh.is).parts t.0).keeps) ∙ ap is_some (maps.get-empty node_cmp peer)
