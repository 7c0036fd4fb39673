-- What the octets of peers make of their answers, and the copies where these octets are answers.
use Rattle.std.specs.Prelude.{◌≡◌, ◌↔◌, ◌≤◌, ℕ, List, [], ◌∷◌, map, fold, length, Option, None, Some, if◌then◌else◌}
use Rattle.std.specs.Int.{w32, to_be_bytes}
use Rattle.std.specs.List.{flat_map, AllByRecursion}
use Rattle.std.specs.List.Sorted.{IsStrictlySortedBy}
use Rattle.std.specs.Map.{keys_of, lookup}
use Rattle.std.specs.BTreeMap.{is_at}
use Rattle.std.specs.Ordering.{nat_cmp}
use Rattle.mv_base.specs.Octets.{IsOctets}
use Rattle.mv_base.specs.declared.addr.Addr.{Addr}
use Rattle.mv_base.specs.declared.addr.Addr.TheVariants.{V4}
use Rattle.mv_base.specs.framing.Cut.{Yields}
use Rattle.bgp_messages.specs.declared.bgp_attributes.key.Key.{Key}
use Rattle.bgp_messages.specs.declared.bgp_attributes.update.Advert.{Advert}
use Rattle.bgp_messages.specs.declared.bgp_attributes.update.Message.{Message}
use Rattle.bgp_messages.specs.bgp_update.FirstFault.{UnitFault}
use Rattle.bgp_messages.specs.bgp_update.Spelling.{SpellsMessage}
use Rattle.bgp_messages.specs.bgp_update.Table.{changes_of, AnnouncesLast}
use Rattle.ingress_rep.specs.declared.request.Request.{Request}
use Rattle.ingress_rep.specs.declared.copying.LeafCopy.{LeafCopy}
use Rattle.ingress_rep.specs.Ingress.{answer_key, request_of, IsSpelledSelective}
use Rattle.ingress_text.specs.Rooted.{Rooted}
use Rattle.ingress_text.specs.declared.input.Line.{Line}
use Rattle.ingress_text.specs.declared.input.Said.{Said}
use Rattle.ingress_text.specs.declared.input.Said.TheVariants.{Leaf, From}
use Rattle.ingress_text.specs.Drafted.{number_by, peer_of}
use Rattle.ingress_text.specs.Telling.{answer_octets, octets_by}
use Rattle.ingress_laws.specs.Meaning.{TellsLabel}

-- ---- what comes of a peer

-- the octets that a line brings of the peer of that number
abbrev pub brought : Rooted → ℕ → Line → List ℕ
brought root n line = if is_at (nat_cmp (number_by line)) n then octets_by root line.said else []

-- all that the lines bring of it, end to end
abbrev pub octets_of : Rooted → ℕ → List Line → List ℕ
octets_of root n lines = flat_map (brought root n) lines

-- an address of IPv4
abbrev pub IsAddress : List ℕ → Type 0
IsAddress octets = (length octets ≡ 4) × IsOctets octets

-- A text says so: the root asks by a route that has a spelling, the peers have addresses of IPv4, and the lines bring octets.
pub record IsSaid (root : Rooted) (lines : List Line) : Type 0 where
  pub asks : request_of root.advert ≡ Some root.request
  pub spelled : IsSpelledSelective root.advert.key
  pub addresses : AllByRecursion (λ (line : Line). IsAddress (peer_of line.said)) lines
  pub octets : AllByRecursion (λ (line : Line). IsOctets (octets_by root line.said)) lines

-- Octets leave a route under a key: the whole messages before their first fault announce it last.
pub record LeavesRoute (octets : List ℕ) (key : Key) (advert : Advert) : Type 0 where
  pub messages : List Message
  pub yields : Yields SpellsMessage UnitFault octets messages
  pub last : AnnouncesLast (flat_map changes_of messages) key advert

-- the leaf of that number
abbrev pub leaf_at : ℕ → Addr
leaf_at n = V4 (to_be_bytes w32 n)

-- Octets leave the answer of the leaf of that number to the request, and it tells the label.
pub record LeavesAnswer (request : Request) (n : ℕ) (octets : List ℕ) (label : ℕ) : Type 0 where
  pub advert : Advert
  pub route : LeavesRoute octets (answer_key request (leaf_at n)) advert
  pub tells : TellsLabel request (leaf_at n) advert label

-- ---- the copies

-- the copy to the leaf of that number
abbrev pub copy_to : ℕ × ℕ → LeafCopy
copy_to leaf = record { leaf = leaf_at leaf.0; label = leaf.1 }

-- The copies go to exactly those leaves that have a label here, each once, by rising addresses, under this label.
pub record AreUnder (HasLabel : ℕ → ℕ → Type 0) (copies : List LeafCopy) : Type 0 where
  pub leaves : List (ℕ × ℕ)
  pub rising : IsStrictlySortedBy nat_cmp (keys_of leaves)
  pub each : (n label : ℕ) → (lookup (is_at (nat_cmp n)) leaves ≡ Some label) ↔ HasLabel n label
  pub are : copies ≡ map copy_to leaves

-- the label that the octets of a peer leave
abbrev pub LeavesLabel : Rooted → List Line → ℕ → ℕ → Type 0
LeavesLabel root lines n label = LeavesAnswer root.request n (octets_of root n lines) label

-- ---- where octets are answers

-- a label that is not reserved, of 20 bits
abbrev pub IsLabel : ℕ → Type 0
IsLabel label = (16 ≤ label) × (label ≤ 1048575)

-- Octets of a leaf are its answers to the root, end to end, under these labels.
pub record AreAnswers (root : Rooted) (n : ℕ) (octets labels : List ℕ) : Type 0 where
  pub answers : octets ≡ flat_map (answer_octets root (to_be_bytes w32 n)) labels
  pub fit : AllByRecursion IsLabel labels

-- the later label
abbrev pub later : Option ℕ → ℕ → Option ℕ
later found label = Some label

abbrev pub last_of : List ℕ → Option ℕ
last_of labels = fold later None labels

-- the label of the last answer
abbrev pub HasLast : (ℕ → List ℕ) → ℕ → ℕ → Type 0
HasLast labels n label = last_of (labels n) ≡ Some label

-- ---- lines of leaves

-- the labels by which lines let the leaf of that number answer
abbrev pub said_labels : Said → List ℕ
said_labels (Leaf leaf label) = label ∷ []
said_labels (From peer octets) = []

abbrev pub labels_by : ℕ → Line → List ℕ
labels_by n line = if is_at (nat_cmp (number_by line)) n then said_labels line.said else []

abbrev pub labels_of : ℕ → List Line → List ℕ
labels_of n lines = flat_map (labels_by n) lines

-- a line lets a leaf answer, and it does so under such a label
abbrev pub LetsAnswer : Said → Type 0
LetsAnswer (Leaf leaf label) = IsLabel label
LetsAnswer (From peer octets) = ⊥

-- whichever line names the peer of that number lets it answer
abbrev pub IsLeaf : ℕ → List Line → Type 0
IsLeaf n lines = AllByRecursion (λ (line : Line). number_by line ≡ n → LetsAnswer line.said) lines
