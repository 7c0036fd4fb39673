-- What is told of lines, one after another.
use Rattle.std.proofs.Common.{◌≡◌, ◌∙◌, ap, sym, subst, refl, append_assoc, arith, ℕ, ◌-◌, ◌<◌, ◌≤◌, length, take, drop, slice_index_or, Bool, true, false, ◌||◌, List, [], ◌∷◌, ◌++◌, map, Option, None, nat_cmp, is_some}
use Rattle.std.proofs.lemmas.List.{append-nil, take_all}
use Rattle.std.specs.List.{flat_map}
use Rattle.std.specs.Map.{lookup}
use Rattle.std.specs.BTreeMap as tree
use Rattle.std.specs.BTreeMap.{BTreeMap, is_at}
use Rattle.ingress_rep.specs.declared.request.Request.{Request}
use Rattle.ingress_rep.specs.Ingress.{copies_of, request_of}
use Rattle.ingress_text.specs.Rooted.{Rooted}
use Rattle.ingress_text.specs.declared.input.Input.{Input}
use Rattle.ingress_text.specs.declared.input.Line.{Line}
use Rattle.ingress_text.specs.declared.peers.Peer.{Peer}
use Rattle.ingress_text.specs.declared.input.Said.{Said}
use Rattle.ingress_text.specs.Drafted.{number_by, peer_of}
use Rattle.ingress_text.specs.Telling.{after, thereafter, copy_line, line_text, nobody, octets_by, peers_from, peers_in, refused_from, shown, table_of, text_from, Changes, Peers, Takes, Tells}

or_false : (b : Bool) → (b || false) ≡ b
or_false true = refl
or_false false = refl

or_again : (a b c : Bool) → ((a || b) || c) ≡ (a || (b || c))
or_again true b c = refl
or_again false b c = refl

-- a list without an item, and one with a first item
pub no_item : (xs : List Line) → length xs < 1 → xs ≡ []
no_item [] few = refl
no_item (x ∷ xs) few = absurd (omega (arith, few))

pub first_item : (xs : List Line) (x : Line) → 1 ≤ length xs → x ≡ slice_index_or xs 0 x → xs ≡ x ∷ take (length xs - 1) (drop 1 xs)
first_item [] x some is = absurd (omega (arith, some))
first_item (y ∷ xs) x some is = (λ i. sym is i ∷ xs) ∙ ap (λ (ys : List Line). x ∷ ys) (sym (take_all (length (y ∷ xs) - 1) xs (omega arith)))

-- octets are taken as equal ones are
pub takes_as : (request other : Request) (addr octets others : List ℕ) (old new : BTreeMap ℕ Peer) → request ≡ other → octets ≡ others
    → Takes request addr octets old new → Takes other addr others old new
takes_as request other addr octets others old new same alike is =
    subst (λ (r : Request). Takes r addr others old new) same (subst (λ (xs : List ℕ). Takes request addr xs old new) alike is)

-- the octets that a line brings are taken of its peer
pub takes_said : (root : Rooted) (line : Line) (said : Said) (old new : BTreeMap ℕ Peer) → line.said ≡ said
    → Takes root.request (peer_of said) (octets_by root said) old new
    → Changes (number_by line) (after root (peers_in old) line) old new
takes_said root line said old new is takes =
    subst (λ (s : Said). Takes root.request (peer_of s) (octets_by root s) old new) (sym is) takes

-- no peer is in an empty map
pub none_in : (peers : BTreeMap ℕ Peer) → peers.entries ≡ [] → peers_in peers ≡ nobody
none_in peers e = λ i n. lookup (is_at (nat_cmp n)) (e i)

-- What is still to be told after the lines so far.
pub record IsToldTo (root : Rooted) (lines : List Line) (text : List ℕ) (refused : Bool) (peers : BTreeMap ℕ Peer) (rest : List Line) : Type 0 where
  pub all_text : text ++ text_from root (peers_in peers) rest ≡ text_from root nobody lines
  pub all_refused : (refused || refused_from root (peers_in peers) rest) ≡ refused_from root nobody lines
  pub all_peers : peers_from root (peers_in peers) rest ≡ peers_from root nobody lines

pub told_none : (root : Rooted) (lines : List Line) (text : List ℕ) (peers : BTreeMap ℕ Peer) → text ≡ [] → peers.entries ≡ []
    → IsToldTo root lines text false peers lines
told_none root lines text peers none e =
    let is = none_in peers e in
    record {
      all_text = ap (λ (xs : List ℕ). xs ++ text_from root (peers_in peers) lines) none ∙ ap (λ (f : Peers). text_from root f lines) is;
      all_refused = ap (λ (f : Peers). refused_from root f lines) is;
      all_peers = ap (λ (f : Peers). peers_from root f lines) is;
    }

pub told_more : (root : Rooted) (lines : List Line) (text new_text : List ℕ) (refused shows : Bool) (peers new_peers : BTreeMap ℕ Peer) (line : Line)
    (more : List Line) →
    IsToldTo root lines text refused peers (line ∷ more) →
    Changes (number_by line) (after root (peers_in peers) line) peers new_peers →
    new_text ≡ text ++ line_text root (peers_in peers) line line.said →
    shows ≡ is_some (shown root (peers_in peers) line line.said) →
    IsToldTo root lines new_text (refused || shows) new_peers more
told_more root lines text new_text refused shows peers new_peers line more so changes put show =
    let is : peers_in new_peers ≡ thereafter root (peers_in peers) line = (λ i n. changes n i) in
    let own : List ℕ = line_text root (peers_in peers) line line.said in
    record {
      all_text =
          ap (λ (xs : List ℕ). xs ++ text_from root (peers_in new_peers) more) put
          ∙ (append_assoc text own (text_from root (peers_in new_peers) more)
          ∙ (ap (λ (f : Peers). text ++ (own ++ text_from root f more)) is ∙ so.all_text));
      all_refused =
          or_again refused shows (refused_from root (peers_in new_peers) more)
          ∙ ((λ i. refused || (show i || refused_from root (is i) more)) ∙ so.all_refused);
      all_peers = ap (λ (f : Peers). peers_from root f more) is ∙ so.all_peers;
    }

pub told_all : (input : Input) (text all : List ℕ) (refused : Bool) (peers : BTreeMap ℕ Peer) (rest : List Line) →
    IsToldTo input.root input.lines text refused peers rest → rest ≡ [] → tree.IsOrdered nat_cmp peers →
    all ≡ text ++ flat_map copy_line (copies_of (request_of input.root.advert) (map table_of peers.entries)) →
    Tells refused input all
told_all input text all refused peers rest so end ordered put =
    let root : Rooted = input.root in
    let whole : IsToldTo root input.lines text refused peers [] =
    subst (λ (xs : List Line). IsToldTo root input.lines text refused peers xs) end so in
    let copies : List ℕ = flat_map copy_line (copies_of (request_of root.advert) (map table_of peers.entries)) in
    record {
      entries = peers.entries;
      are = record { rising = ordered; each = λ n. ap (λ (f : Peers). f n) whole.all_peers };
      told = put ∙ ap (λ (xs : List ℕ). xs ++ copies) (sym (append-nil text) ∙ whole.all_text);
      faulty = sym (or_false refused) ∙ whole.all_refused;
    }
