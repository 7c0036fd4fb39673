-- What is told of a text: line by line the answers of leaves and the first faults of peers, and then the copies of the root.
use Rattle.std.specs.Prelude.{◌≡◌, ℕ, ◌||◌, Bool, true, false, List, [], ◌∷◌, ◌++◌, map, fold, codes, is_some, unwrap_or}
use Rattle.std.specs.Prelude.{Option, None, Some, if◌then◌else◌}
use Rattle.std.specs.List.{flat_map}
use Rattle.std.specs.List.Sorted.{IsStrictlySortedBy}
use Rattle.std.specs.Map.{keys_of, lookup}
use Rattle.std.specs.BTreeMap as tree
use Rattle.std.specs.BTreeMap.{BTreeMap, is_at}
use Rattle.std.specs.Fmt.{decimal}
use Rattle.std.specs.Int.{w32, from_be_bytes, to_be_bytes}
use Rattle.std.specs.Ordering.{is_eq, nat_cmp}
use Rattle.hex.specs.Hex.{encode_lower}
use Rattle.mv_base.specs.Address.{addr_octets}
use Rattle.mv_base.specs.declared.addr.Addr.TheVariants.{V4}
use Rattle.mv_base.specs.framing.Feed.{Fed, fed, unfed}
use Rattle.bgp_messages.specs.declared.bgp_attributes.fault.StreamFault.{StreamFault}
use Rattle.bgp_messages.specs.declared.bgp_attributes.update.Advert.{Advert}
use Rattle.bgp_messages.specs.declared.bgp_attributes.update.Change.{Change}
use Rattle.bgp_messages.specs.declared.bgp_attributes.update.Change.TheVariants.{Reach, Unreach}
use Rattle.bgp_messages.specs.declared.bgp_attributes.update.Message.{Message}
use Rattle.bgp_messages.specs.bgp_update.Reading.{message_front}
use Rattle.bgp_messages.specs.bgp_update.Table.{changes_of, key_of}
use Rattle.bgp_messages.specs.bgp_update.Written.{written}
use Rattle.value_text.specs.MessageText.{bgp_word}
use Rattle.ingress_rep.specs.declared.request.Request.{Request}
use Rattle.ingress_rep.specs.declared.copying.LeafCopy.{LeafCopy}
use Rattle.ingress_rep.specs.declared.copying.TakenTable.{TakenTable}
use Rattle.ingress_rep.specs.Ingress.{answer_of, copies_of, is_answer, request_of}
use Rattle.ingress_text.specs.declared.input.Input.{Input}
use Rattle.ingress_text.specs.declared.input.Line.{Line}
use Rattle.ingress_text.specs.Rooted.{Rooted}
use Rattle.ingress_text.specs.declared.input.Said.{Said}
use Rattle.ingress_text.specs.declared.input.Said.TheVariants.{Leaf, From}
use Rattle.ingress_text.specs.declared.peers.Peer.{Peer}
use Rattle.ingress_text.specs.Drafted.{number_by, peer_of}

-- ---- lines

-- octets in decimal, with dots between them
abbrev pub dotted_more : ℕ → List ℕ
dotted_more octet = codes "." ++ decimal octet

abbrev pub dotted : List ℕ → List ℕ
dotted [] = []
dotted (octet ∷ more) = decimal octet ++ flat_map dotted_more more

abbrev pub answer_line : List ℕ → List ℕ → List ℕ
answer_line leaf octets = codes "answer " ++ dotted leaf ++ codes " " ++ encode_lower octets ++ codes "\n"

-- the first fault of a peer: the line whose octets show it, its place in the peer's octets, and its word
abbrev pub fault_line : ℕ → ℕ → List ℕ → List ℕ
fault_line number place word = codes "refused " ++ decimal number ++ codes " " ++ decimal place ++ codes " " ++ word ++ codes "\n"

abbrev pub copy_line : LeafCopy → List ℕ
copy_line copy = codes "copy " ++ dotted (addr_octets copy.leaf) ++ codes " " ++ decimal copy.label ++ codes "\n"

-- ---- peers

-- the answer of a leaf after one more change: the route that a table has under its key (RFC 4271 section 3.1)
abbrev pub told_by : Change → Option Advert
told_by (Reach advert) = Some advert
told_by (Unreach key) = None

abbrev pub answer_after : Request → List ℕ → Option Advert → Change → Option Advert
answer_after request leaf found change = if is_answer request (V4 leaf) (key_of change) then told_by change else found

abbrev pub answer_by : Request → List ℕ → Option Advert → Message → Option Advert
answer_by request leaf found message = fold (answer_after request leaf) found (changes_of message)

-- nothing has come of the peer
abbrev pub fresh : Peer
fresh = record { stream = unfed; answer = None }

-- the messages that wait are heard
abbrev pub drained : Request → List ℕ → Peer → Peer
drained request leaf peer = record {
  stream = record peer.stream { waiting = [] };
  answer = fold (answer_by request leaf) peer.answer peer.stream.waiting;
}

-- octets are taken of the peer
abbrev pub taken : Request → List ℕ → Peer → List ℕ → Peer
taken request leaf peer octets = drained request leaf (record peer { stream = fed message_front peer.stream octets })

-- the fault that the stream has now and had not before
abbrev pub new_fault : {E : Type 0} → Option E → Option E → Option E
new_fault None now = now
new_fault (Some fault) now = None

abbrev pub first_fault : Peer → Peer → Option (ℕ × StreamFault)
first_fault old now = new_fault old.stream.fault now.stream.fault

-- ---- a line

-- the octets by which a leaf answers, and those that a line brings of its peer
unfoldable pub answer_octets : Rooted → List ℕ → ℕ → List ℕ
answer_octets root leaf label = written (Reach (answer_of root.request (V4 leaf) label))

abbrev pub octets_by : Rooted → Said → List ℕ
octets_by root (Leaf leaf label) = answer_octets root leaf label
octets_by root (From peer octets) = octets

-- the peers so far, by the numbers of their addresses
abbrev pub Peers : Type 0
Peers = ℕ → Option Peer

abbrev pub nobody : Peers
nobody n = None

-- those of a map
abbrev pub peers_in : BTreeMap ℕ Peer → Peers
peers_in peers n = tree.get nat_cmp peers n

-- the peer of an address after octets that are taken of it, and the fault that they show
abbrev pub peer_with : Request → List ℕ → List ℕ → Peers → Peer
peer_with request addr octets peers = taken request addr (unwrap_or (peers (from_be_bytes w32 addr)) fresh) octets

abbrev pub fault_by : Request → List ℕ → List ℕ → BTreeMap ℕ Peer → Option (ℕ × StreamFault)
fault_by request addr octets peers =
    first_fault (unwrap_or (peers_in peers (from_be_bytes w32 addr)) fresh) (peer_with request addr octets (peers_in peers))

-- a map after a change of the peer of that number
abbrev pub Changes : ℕ → Peer → BTreeMap ℕ Peer → BTreeMap ℕ Peer → Type 0
Changes number peer old new = (n : ℕ) → peers_in new n ≡ (if is_at (nat_cmp number) n then Some peer else peers_in old n)

-- a map after octets that are taken of the peer of an address
abbrev pub Takes : Request → List ℕ → List ℕ → BTreeMap ℕ Peer → BTreeMap ℕ Peer → Type 0
Takes request addr octets old new = Changes (from_be_bytes w32 addr) (peer_with request addr octets (peers_in old)) old new

-- a peer before and after a line that names it
abbrev pub before : Peers → Line → Peer
before peers line = unwrap_or (peers (number_by line)) fresh

abbrev pub after : Rooted → Peers → Line → Peer
after root peers line = taken root.request (peer_of line.said) (before peers line) (octets_by root line.said)

abbrev pub thereafter : Rooted → Peers → Line → Peers
thereafter root peers line n = if is_at (nat_cmp (number_by line)) n then Some (after root peers line) else peers n

-- the fault that a line shows: where it brings octets of a peer, the first one of these
abbrev pub shown : Rooted → Peers → Line → Said → Option (ℕ × StreamFault)
shown root peers line (Leaf leaf label) = None
shown root peers line (From peer octets) = first_fault (before peers line) (after root peers line)

abbrev pub fault_text : ℕ → Option (ℕ × StreamFault) → List ℕ
fault_text number None = []
fault_text number (Some f) = fault_line number f.0 (bgp_word f.1)

abbrev pub line_text : Rooted → Peers → Line → Said → List ℕ
line_text root peers line (Leaf leaf label) = answer_line leaf (answer_octets root leaf label)
line_text root peers line (From peer octets) = fault_text line.number (shown root peers line (From peer octets))

-- ---- all lines

abbrev pub text_from : Rooted → Peers → List Line → List ℕ
text_from root peers [] = []
text_from root peers (line ∷ more) = line_text root peers line line.said ++ text_from root (thereafter root peers line) more

abbrev pub refused_from : Rooted → Peers → List Line → Bool
refused_from root peers [] = false
refused_from root peers (line ∷ more) = is_some (shown root peers line line.said) || refused_from root (thereafter root peers line) more

abbrev pub peers_from : Rooted → Peers → List Line → Peers
peers_from root peers [] = peers
peers_from root peers (line ∷ more) = peers_from root (thereafter root peers line) more

-- the table of a peer, as far as it is an answer
abbrev pub rows : Option Advert → List Advert
rows None = []
rows (Some advert) = advert ∷ []

abbrev pub table_of : ℕ × Peer → TakenTable
table_of entry = record { peer = V4 (to_be_bytes w32 entry.0); table = rows entry.1.answer }

-- These are the peers, each once, by rising numbers.
pub record AreThePeers (peers : Peers) (entries : List (ℕ × Peer)) : Type 0 where
  pub rising : IsStrictlySortedBy nat_cmp (keys_of entries)
  pub each : (n : ℕ) → lookup (is_at (nat_cmp n)) entries ≡ peers n

-- What is told of the input: its lines, and the copies of the root by the answers of its peers; and whether a peer has a fault.
pub record Tells (refused : Bool) (input : Input) (text : List ℕ) : Type 0 where
  pub entries : List (ℕ × Peer)
  pub are : AreThePeers (peers_from input.root nobody input.lines) entries
  pub told : text ≡ text_from input.root nobody input.lines ++ flat_map copy_line (copies_of (request_of input.root.advert) (map table_of entries))
  pub faulty : refused ≡ refused_from input.root nobody input.lines

-- whether a peer of the input has a fault
abbrev pub is_refused : Input → Bool
is_refused input = refused_from input.root nobody input.lines
