-- An edge that is given lines.
use Rattle.std.proofs.Common.{◌≡◌, ℕ, List, [], ◌∷◌, ◌++◌, map, Option, Some, None, refl, sym, ap, subst, ◌∙◌, append_assoc}
use Rattle.std.proofs.lemmas.List.{append-nil}
use Rattle.std.specs.Prelude.{fold}
use Rattle.std.specs.FinMap as maps
use Rattle.mv_base.specs.Octets.{IsOctets}
use Rattle.mv_base.specs.declared.ids.NodeId.{NodeId}
use Rattle.mv_base.specs.framing.Cut.{cut_at}
use Rattle.mv_base.specs.framing.Feed.{fed, unfed}
use Rattle.mv_base.proofs.framing.Cuts.{IsOctets-before}
use Rattle.bgp_messages.specs.declared.bgp_attributes.fault.StreamFault.{StreamFault}
use Rattle.bgp_messages.specs.declared.bgp_attributes.update.Message.{Message}
use Rattle.bgp_messages.specs.bgp_update.Reading.{message_front}
use Rattle.scenario_defs.specs.declared.event.IfaceEntry.{IfaceEntry}
use Rattle.scenario_defs.specs.declared.event.JoinEntry.TheVariants.{Source}
use Rattle.scenario_defs.specs.declared.event.Kind.TheVariants as kinds
use Rattle.network_defs.specs.mvpn_model.Messages.{own_addr}
use Rattle.edge_defs.specs.pim_defs.Entries.{Entries, applied}
use Rattle.edge_defs.specs.pim_defs.Single.{join_of}
use Rattle.edge_defs.specs.Edge.{no_control}
use Rattle.edge_defs.specs.Keys.{Table}
use Rattle.edge_defs.specs.Place.{EdgePlace}
use Rattle.edge_defs.specs.Steps.{Customer, Pim, Raised, Update}
use Rattle.network_defs.specs.node_defs.EdgeState.{EdgeState, all_taken, called, called_unless, fed_octets, fresh_state, prepared, stepped, took, took_unless}
use Rattle.network_defs.specs.session_defs.Message.{Bgp, BgpFault, SessionFault, front_of}
use Rattle.network_defs.specs.session_defs.Octets.{Stream}
use Rattle.network_defs.specs.session_defs.PeerSession.{fault_at, stream_at}
use Rattle.edge_streams.specs.Kept.{bgp_stream, fault_as}
use Rattle.edge_streams.proofs.DrainLemmas.{stream_put}
use Rattle.edge_streams.proofs.FedAs.{fed_same}
use Rattle.probe_defs.specs.Given.{Comes, thereafter, begun, given, peer_session}
use Rattle.probe_defs.specs.Lines.{joins_of, octets_of}
use Rattle.probe_defs.specs.Probed.{edge_with, joined, table_of}
use Rattle.probe_defs.specs.declared.probe.ProbeLine.{ProbeLine}
use Rattle.probe_defs.specs.declared.probe.ProbeLine.TheVariants.{Join, Piece}
use Rattle.probe_defs.proofs.StepLemmas.{Goes, Stepped, join_keeps, raise_keeps, step_goes, update_keeps}
use Rattle.probe_defs.proofs.StreamLemmas.{BgpStream, adds, cut_of, drained, stays, stream_with, with_piece}
use Rattle.probe_defs.proofs.TableLemmas.{table_append, table_more, table_on}

module _ (place : EdgePlace) (peer : NodeId) where
  -- what is kept of an edge that was given these octets and joins
  pub record Keeps (octets : List ℕ) (joins : List IfaceEntry) (state : EdgeState) : Type 0 where
    pub goes : Goes (edge_with place peer (table_of (cut_of octets).messages) (joined place.scenario joins)) state
    pub stream : stream_at state.streams (peer_session peer) ≡ bgp_stream (drained (stream_with octets))

  -- ---- messages

  taken_goes : (messages : List Message) (table : Table) (entries : Entries) (old : EdgeState) → Goes (edge_with place peer table entries) old
      → Stepped old (edge_with place peer (table_on table messages) entries) (all_taken place 0 peer (map (λ message. Bgp message) messages) old)
  taken_goes [] table entries old goes = record { goes = goes; streams = refl }
  taken_goes (message ∷ more) table entries old goes =
      let first =
      step_goes place old (Update peer message) (edge_with place peer table entries) _ refl goes (update_keeps place peer table entries message)
      in
      let rest = taken_goes more _ entries (stepped place 0 old (Update peer message)) first.goes in
      record {
        goes = subst (λ (t : Table). Goes (edge_with place peer t entries)
            (all_taken place 0 peer (map (λ message. Bgp message) (message ∷ more)) old)) (sym (table_more table message more)) rest.goes;
        streams = rest.streams ∙ first.streams;
      }

  -- ---- octets

  -- what the session's stream is after a piece
  abbrev next_stream : List ℕ → EdgeState → Stream
  next_stream piece old = fed (front_of kinds.Bgp) (stream_at old.streams (peer_session peer)) piece

  fed_goes : (octets piece : List ℕ) (joins : List IfaceEntry) (old : EdgeState) → IsOctets (octets ++ piece) → Keeps octets joins old
      → (stream_with octets).fault ≡ None
      → Keeps (octets ++ piece) joins (fed_octets place 0 (peer_session peer) piece old)
  fed_goes octets piece joins old fits keeps none =
      let entries = joined place.scenario joins in
      let d : BgpStream = stream_with octets in
      let a = adds d piece none in
      let all : BgpStream = stream_with (octets ++ piece) in
      let together : fed message_front d piece ≡ all = with_piece octets piece fits in
      let messages : (cut_of (octets ++ piece)).messages ≡ (cut_of octets).messages ++ a.added =
      ap (λ (s : BgpStream). s.waiting) (sym together) ∙ a.all in
      let is : next_stream piece old ≡ bgp_stream (record all { waiting = a.added }) =
      ap (λ (s : Stream). fed (front_of kinds.Bgp) s piece) keeps.stream
      ∙ fed_same (λ message. Bgp message) (λ fault. BgpFault fault) message_front (drained d) piece
      ∙ ap bgp_stream a.fed_is
      ∙ ap (λ (s : BgpStream). bgp_stream (record s { waiting = a.added })) together in
      let left : Stream → EdgeState = λ s. record old { streams = maps.insert old.streams (peer_session peer) (record s { waiting = [] }) } in
      let new : EdgeState = left (bgp_stream (record all { waiting = a.added })) in
      let taken =
      taken_goes a.added (table_of (cut_of octets).messages) entries new
      (record { unspent = keeps.goes.unspent; ends = keeps.goes.ends; keeps = keeps.goes.keeps }) in
      let tables : table_on (table_of (cut_of octets).messages) a.added ≡ table_of (cut_of (octets ++ piece)).messages =
      sym (table_append maps.empty (cut_of octets).messages a.added) ∙ ap table_of (sym messages) in
      let done : Keeps (octets ++ piece) joins (all_taken place 0 peer (map (λ message. Bgp message) a.added) new) = record {
        goes = subst (λ (t : Table). Goes (edge_with place peer t entries) (all_taken place 0 peer (map (λ message. Bgp message) a.added) new)) tables
            taken.goes;
        stream = ap (λ (streams : _). stream_at streams (peer_session peer)) taken.streams
            ∙ stream_put old.streams (peer_session peer) (bgp_stream (drained all));
      } in
      subst (λ (s : Stream). Keeps (octets ++ piece) joins (all_taken place 0 peer s.waiting (left s))) (sym is) done

  failed_stays : (octets piece : List ℕ) (joins : List IfaceEntry) (old : EdgeState) (f : ℕ × StreamFault) → IsOctets (octets ++ piece)
      → Keeps octets joins old → (stream_with octets).fault ≡ Some f
      → Keeps (octets ++ piece) joins old
  failed_stays octets piece joins old f fits keeps some =
      let same : stream_with octets ≡ stream_with (octets ++ piece) = sym (stays (stream_with octets) piece f some) ∙ with_piece octets piece fits in
      record {
        goes = subst (λ (s : BgpStream). Goes (edge_with place peer (table_of s.waiting) (joined place.scenario joins)) old) same keeps.goes;
        stream = keeps.stream ∙ ap (λ (s : BgpStream). bgp_stream (drained s)) same;
      }

  piece_by : (octets piece : List ℕ) (joins : List IfaceEntry) (old : EdgeState) (stop : Option (ℕ × StreamFault)) → IsOctets (octets ++ piece)
      → Keeps octets joins old → (stream_with octets).fault ≡ stop
      → Keeps (octets ++ piece) joins (took_unless None (fault_as (λ f. BgpFault f) stop) place 0 (peer_session peer) piece old)
  piece_by octets piece joins old None fits keeps e = fed_goes octets piece joins old fits keeps e
  piece_by octets piece joins old (Some f) fits keeps e = failed_stays octets piece joins old f fits keeps e

  piece_goes : (octets piece : List ℕ) (joins : List IfaceEntry) (old : EdgeState) → IsOctets (octets ++ piece) → Keeps octets joins old
      → Keeps (octets ++ piece) joins (took place 0 (peer_session peer) piece old)
  piece_goes octets piece joins old fits keeps =
      let told : fault_at old.streams (peer_session peer) ≡ fault_as (λ f. BgpFault f) (stream_with octets).fault =
      ap (λ (s : Stream). s.fault) keeps.stream in
      let same : took place 0 (peer_session peer) piece old
      ≡ took_unless None (fault_as (λ f. BgpFault f) (stream_with octets).fault) place 0 (peer_session peer) piece old =
      ap (λ (spent : Option _). took_unless spent (fault_at old.streams (peer_session peer)) place 0 (peer_session peer) piece old) keeps.goes.unspent
      ∙ ap (λ (f : Option (ℕ × SessionFault)). took_unless None f place 0 (peer_session peer) piece old) told in
      subst (Keeps (octets ++ piece) joins) (sym same) (piece_by octets piece joins old (stream_with octets).fault fits keeps refl)

  -- ---- joins

  fold_joined : (at : IfaceEntry) (joins : List IfaceEntry) (entries : Entries)
      → fold (λ entries at. applied entries at.iface (join_of (own_addr place.scenario at.iface) at.entry) 0) entries (joins ++ at ∷ [])
      ≡ applied (fold (λ entries at. applied entries at.iface (join_of (own_addr place.scenario at.iface) at.entry) 0) entries joins) at.iface
      (join_of (own_addr place.scenario at.iface) at.entry) 0
  fold_joined at [] entries = refl
  fold_joined at (x ∷ joins) entries = fold_joined at joins (applied entries x.iface (join_of (own_addr place.scenario x.iface) x.entry) 0)

  join_goes : (octets : List ℕ) (joins : List IfaceEntry) (old : EdgeState) (at : IfaceEntry) → Keeps octets joins old
      → Keeps octets (joins ++ at ∷ []) (called place 0 old (Customer (Pim at.iface (join_of (own_addr place.scenario at.iface) at.entry))))
  join_goes octets joins old at keeps =
      let message = join_of (own_addr place.scenario at.iface) at.entry in
      let table : Table = table_of (cut_of octets).messages in
      let entries : Entries = joined place.scenario joins in
      let step =
      step_goes place old (Customer (Pim at.iface message)) (edge_with place peer table entries) _ refl keeps.goes
      (join_keeps place peer table entries at.iface message) in
      let new : EdgeState = stepped place 0 old (Customer (Pim at.iface message)) in
      let same : called place 0 old (Customer (Pim at.iface message)) ≡ new =
      ap (λ (spent : Option _). called_unless spent place 0 old (Customer (Pim at.iface message))) keeps.goes.unspent in
      subst (Keeps octets (joins ++ at ∷ [])) (sym same) (record {
        goes = subst (λ (es : Entries). Goes (edge_with place peer table es) new) (sym (fold_joined at joins maps.empty)) step.goes;
        stream = ap (λ (streams : _). stream_at streams (peer_session peer)) step.streams ∙ keeps.stream;
      })

  -- ---- lines

  lines_go : (octets : List ℕ) (joins : List IfaceEntry) (old : EdgeState) (lines : List ProbeLine) → IsOctets (octets ++ octets_of lines)
      → Keeps octets joins old
      → Keeps (octets ++ octets_of lines) (joins ++ joins_of lines) (fold (given place peer) old lines)
  lines_go octets joins old [] fits keeps =
      subst (λ (xs : List ℕ). Keeps xs (joins ++ []) old) (sym (append-nil octets))
      (subst (λ (js : List IfaceEntry). Keeps octets js old) (sym (append-nil joins)) keeps)
  lines_go octets joins old (Join iface source group ∷ more) fits keeps =
      let at : IfaceEntry = record { iface = iface; entry = Source source group } in
      let new : EdgeState = given place peer old (Join iface source group) in
      subst (λ (js : List IfaceEntry). Keeps (octets ++ octets_of more) js (fold (given place peer) new more))
      (append_assoc joins (at ∷ []) (joins_of more))
      (lines_go octets (joins ++ at ∷ []) new more fits (join_goes octets joins old at keeps))
  lines_go octets joins old (Piece piece ∷ more) fits keeps =
      let new : EdgeState = given place peer old (Piece piece) in
      let grouped : (octets ++ piece) ++ octets_of more ≡ octets ++ (piece ++ octets_of more) = append_assoc octets piece (octets_of more) in
      let fits' : IsOctets ((octets ++ piece) ++ octets_of more) = subst IsOctets (sym grouped) fits in
      subst (λ (xs : List ℕ). Keeps xs (joins ++ joins_of more) (fold (given place peer) new more)) grouped
      (lines_go (octets ++ piece) joins new more fits'
      (piece_goes octets piece joins old (IsOctets-before (octets ++ piece) (octets_of more) fits') keeps))

  -- ---- the first line

  fresh_goes : Stepped (prepared (Raised kinds.Bgp peer) (fresh_state place.scenario.labels)) (edge_with place peer maps.empty maps.empty)
      (begun place peer)
  fresh_goes =
      step_goes place (prepared (Raised kinds.Bgp peer) (fresh_state place.scenario.labels)) (Raised kinds.Bgp peer) no_control
      (edge_with place peer maps.empty maps.empty) refl
      (record { unspent = refl; ends = refl; keeps = refl }) (raise_keeps place peer)

  begun_keeps : Keeps [] [] (begun place peer)
  unfolding cut_at
  begun_keeps = record {
    goes = fresh_goes.goes;
    stream = ap (λ (streams : _). stream_at streams (peer_session peer)) fresh_goes.streams ∙ stream_put maps.empty (peer_session peer) unfed;
  }

  pub after_keeps : (lines : List ProbeLine) → IsOctets (octets_of lines) → Keeps (octets_of lines) (joins_of lines) (thereafter place peer lines)
  after_keeps lines fits = lines_go [] [] (begun place peer) lines fits begun_keeps

  pub comes : (lines : List ProbeLine) → IsOctets (octets_of lines) → Comes place peer lines (thereafter place peer lines)
  comes lines fits =
      let keeps = after_keeps lines fits in
      record { unspent = keeps.goes.unspent; keeps = keeps.goes.keeps; stream = ap (λ (s : Stream). s.fault) keeps.stream }
