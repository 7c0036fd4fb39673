-- What is kept of a peer, after all octets that came of it.
use Rattle.std.proofs.Common.{arith, slice_index, ◌<◌, ◌≡◌, ◌∙◌, ap, sym, subst, refl, ℕ, zero, suc, Bool, true, false, cond, List, [], ◌∷◌, ◌++◌, length, fold, Option, None, Some, unwrap_or, nat_cmp, append_assoc}
use Rattle.std.specs.Int.{w32, to_be_bytes}
use Rattle.std.specs.List.{AllByRecursion}
use Rattle.std.specs.BTreeMap.{is_at}
use Rattle.std.specs.FinMap.{nat_cmp-IsAntisymmetric}
use Rattle.std.proofs.lemmas.List.{append-nil}
use Rattle.std.proofs.lemmas.List.Sums.{fold-append}
use Rattle.std.proofs.lemmas.Nat.{be_bytes_4}
use Rattle.table_laws.proofs.CompareLemmas.{one_key}
use Rattle.mv_base.specs.Octets.{IsOctets}
use Rattle.mv_base.specs.framing.Cut.{Front, cut, cut_at}
use Rattle.mv_base.specs.framing.Feed.{Fed, fed, fed_unless}
use Rattle.mv_base.proofs.framing.Cuts.{IsOctets-before}
use Rattle.mv_base.proofs.framing.Feeds.{at_once, fed_is}
use Rattle.bgp_messages.specs.declared.bgp_attributes.fault.StreamFault.{StreamFault}
use Rattle.bgp_messages.specs.declared.bgp_attributes.update.Message.{Message}
use Rattle.bgp_messages.specs.bgp_update.Reading.{message_front}
use Rattle.bgp_messages.specs.bgp_update.Spelling.{SpellsMessage}
use Rattle.bgp_messages.proofs.bgp_update.Messages.{message_format}
use Rattle.ingress_rep.specs.declared.request.Request.{Request}
use Rattle.ingress_text.specs.Rooted.{Rooted}
use Rattle.ingress_text.specs.declared.input.Line.{Line}
use Rattle.ingress_text.specs.declared.peers.Peer.{Peer}
use Rattle.ingress_text.specs.Drafted.{number_by, peer_of}
use Rattle.ingress_text.specs.Telling.{after, answer_by, before, thereafter, fresh, nobody, octets_by, peers_from, taken, Peers}
use Rattle.ingress_laws.specs.Answered.{brought, octets_of, IsAddress, IsSaid}

abbrev emptied : {M E : Type 0} → Fed M E → Fed M E
emptied d = record d { waiting = [] }

-- the messages that wait already change nothing of what a piece does
waited_by : {M E : Type 0} (front : List ℕ → Front M E) (o : Option (ℕ × E)) (d : Fed M E) (piece : List ℕ) →
    fed_unless front o d piece ≡ record (fed_unless front o (emptied d) piece)
    { waiting = d.waiting ++ (fed_unless front o (emptied d) piece).waiting }
waited_by front None d piece = refl
waited_by front (Some f) d piece = ap (λ (ms : List _). record d { waiting = ms }) (sym (append-nil d.waiting))

waited : {M E : Type 0} (front : List ℕ → Front M E) (d : Fed M E) (piece : List ℕ) →
    fed front d piece ≡ record (fed front (emptied d) piece) { waiting = d.waiting ++ (fed front (emptied d) piece).waiting }
waited front d piece = waited_by front d.fault d piece

abbrev pub messages_in : List ℕ → List Message
messages_in octets = (cut message_front octets).messages

module _ (request : Request) (leaf : List ℕ) where
  abbrev stream_of : List ℕ → Fed Message StreamFault
  stream_of octets = at_once (length octets) (cut message_front octets)

  -- a peer after so many octets
  abbrev pub heard : List ℕ → Peer
  heard octets = record { stream = emptied (stream_of octets); answer = fold (answer_by request leaf) None (messages_in octets) }

  pub heard_none : heard [] ≡ fresh
  unfolding cut_at
  heard_none = refl

  pub heard_more : (so piece : List ℕ) → IsOctets (so ++ piece) → taken request leaf (heard so) piece ≡ heard (so ++ piece)
  heard_more so piece fits =
      let now : Fed Message StreamFault = fed message_front (emptied (stream_of so)) piece in
      let is : stream_of (so ++ piece) ≡ record now { waiting = messages_in so ++ now.waiting } =
      sym (fed_is message_front SpellsMessage message_format.stream so piece fits) ∙ waited message_front (stream_of so) piece in
      let told : fold (answer_by request leaf) (heard so).answer now.waiting ≡ (heard (so ++ piece)).answer =
      sym (fold-append (answer_by request leaf) None (messages_in so) now.waiting)
      ∙ ap (λ (d : Fed Message StreamFault). fold (answer_by request leaf) None d.waiting) (sym is) in
      let back : record now { waiting = messages_in so ++ now.waiting } ≡ stream_of (so ++ piece) = sym is in
      λ i. record { stream = emptied (back i); answer = told i }

-- ---- what lines bring

none_fits : IsOctets []
none_fits i = omega arith

-- two lists of octets, end to end
both_octets : (octets more : List ℕ) → IsOctets octets → IsOctets more → (i : ℕ) → slice_index (octets ++ more) i < 256
both_octets [] more fits rest i = rest i
both_octets (octet ∷ octets) more fits rest zero = fits 0
both_octets (octet ∷ octets) more fits rest (suc i) = both_octets octets more (λ j. fits (suc j)) rest i

brought_fits : (root : Rooted) (line : Line) (b : Bool) → IsOctets (octets_by root line.said) → IsOctets (cond b (octets_by root line.said) [])
brought_fits root line true fits = fits
brought_fits root line false fits = none_fits

all_fit : (root : Rooted) (lines : List Line) → AllByRecursion (λ (line : Line). IsOctets (octets_by root line.said)) lines → (n : ℕ)
    → IsOctets (octets_of root n lines)
all_fit root [] fit n = none_fits
all_fit root (line ∷ more) fit n =
    both_octets (brought root n line) (octets_of root n more) (brought_fits root line (is_at (nat_cmp (number_by line)) n) fit.0)
    (all_fit root more fit.1 n)

pub octets_fit : (root : Rooted) (lines : List Line) → IsSaid root lines → (n : ℕ) → IsOctets (octets_of root n lines)
octets_fit root lines said n = all_fit root lines said.octets n

module _ (root : Rooted) (n : ℕ) where
  abbrev pub own : List ℕ → Peer
  own octets = heard root.request (to_be_bytes w32 n) octets

  -- the peer of that number is after so many octets
  pub record IsBehind (peers : Peers) (octets : List ℕ) : Type 0 where
    pub known : (peer : Peer) → peers n ≡ Some peer → peer ≡ own octets
    pub unknown : peers n ≡ None → octets ≡ []

  pub before_is : (peers : Peers) (octets : List ℕ) → IsBehind peers octets → (o : Option Peer) → peers n ≡ o → unwrap_or o fresh ≡ own octets
  before_is peers octets is None e = sym (heard_none root.request (to_be_bytes w32 n)) ∙ ap own (sym (is.unknown e))
  before_is peers octets is (Some peer) e = is.known peer e

  pub address_is : (line : Line) → number_by line ≡ n → IsAddress (peer_of line.said) → peer_of line.said ≡ to_be_bytes w32 n
  address_is line same address = sym (be_bytes_4 (peer_of line.said) n address.0 address.1 (sym same))

  pub after_is : (peers : Peers) (so : List ℕ) (line : Line) → IsBehind peers so → number_by line ≡ n → IsAddress (peer_of line.said)
      → IsOctets (so ++ octets_by root line.said)
      → after root peers line ≡ own (so ++ octets_by root line.said)
  after_is peers so line is same address fits =
      let old : before peers line ≡ own so = ap (λ (k : ℕ). unwrap_or (peers k) fresh) same ∙ before_is peers so is (peers n) refl in
      (λ i. taken root.request (address_is line same address i) (old i) (octets_by root line.said))
      ∙ heard_more root.request (to_be_bytes w32 n) so (octets_by root line.said) fits

  one_line : (peers : Peers) (so : List ℕ) (line : Line) → IsBehind peers so → IsAddress (peer_of line.said) → (b : Bool)
      → is_at (nat_cmp (number_by line)) n ≡ b
      → IsOctets (so ++ cond b (octets_by root line.said) []) → IsBehind (thereafter root peers line) (so ++ cond b (octets_by root line.said) [])
  one_line peers so line is address true e fits =
      let same : number_by line ≡ n = one_key nat_cmp-IsAntisymmetric (number_by line) n e in
      let put : thereafter root peers line n ≡ Some (after root peers line) = ap (λ (b : Bool). cond b (Some (after root peers line)) (peers n)) e in
      record {
        known = λ peer k. (let own_is : after root peers line ≡ peer = (let h = sym put ∙ k in cc) in
            sym own_is ∙ after_is peers so line is same address fits);
        unknown = λ k. (let h = sym put ∙ k in absurd cc);
      }
  one_line peers so line is address false e fits =
      let stays : thereafter root peers line n ≡ peers n = ap (λ (b : Bool). cond b (Some (after root peers line)) (peers n)) e in
      let none : so ++ [] ≡ so = append-nil so in
      record {
        known = λ peer k. is.known peer (sym stays ∙ k) ∙ ap own (sym none);
        unknown = λ k. none ∙ is.unknown (sym stays ∙ k);
      }

  pub all_lines : (lines : List Line) (peers : Peers) (so : List ℕ) → AllByRecursion (λ (line : Line). IsAddress (peer_of line.said)) lines
      → IsOctets (so ++ octets_of root n lines)
      → IsBehind peers so → IsBehind (peers_from root peers lines) (so ++ octets_of root n lines)
  all_lines [] peers so addresses fits is = subst (IsBehind peers) (sym (append-nil so)) is
  all_lines (line ∷ more) peers so addresses fits is =
      let own_part : List ℕ = brought root n line in
      let rest : List ℕ = octets_of root n more in
      let grouped : so ++ (own_part ++ rest) ≡ (so ++ own_part) ++ rest = sym (append_assoc so own_part rest) in
      let fits' : IsOctets ((so ++ own_part) ++ rest) = subst IsOctets grouped fits in
      let one : IsBehind (thereafter root peers line) (so ++ own_part) =
      one_line peers so line is addresses.0 (is_at (nat_cmp (number_by line)) n) refl (IsOctets-before (so ++ own_part) rest fits') in
      subst (IsBehind (peers_from root (thereafter root peers line) more)) (sym grouped)
      (all_lines more (thereafter root peers line) (so ++ own_part) addresses.1 fits' one)

  pub at_end : (lines : List Line) → AllByRecursion (λ (line : Line). IsAddress (peer_of line.said)) lines → IsOctets (octets_of root n lines)
      → IsBehind (peers_from root nobody lines) (octets_of root n lines)
  at_end lines addresses fits = all_lines lines nobody [] addresses fits (record { known = λ peer k. absurd cc; unknown = λ k. refl })
