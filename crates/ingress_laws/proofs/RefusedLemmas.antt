-- A line shows the first fault of what came of its peer.
use Rattle.std.proofs.Common.{◌≡◌, ◌∙◌, ap, sym, subst, refl, ℕ, Bool, true, false, cond, List, [], ◌∷◌, ◌++◌, Option, None, Some, nat_cmp, append_assoc}
use Rattle.std.specs.List.{AllByRecursion}
use Rattle.std.proofs.lemmas.Cmp.{nat_cmp_total}
use Rattle.std.proofs.lemmas.Grind.{flat_map-append}
use Rattle.table_laws.proofs.CompareLemmas.{one_key, own_key}
use Rattle.std.specs.FinMap.{nat_cmp-IsAntisymmetric}
use Rattle.std.proofs.lemmas.List.{append-nil}
use Rattle.std.specs.BTreeMap.{is_at}
use Rattle.ingress_text.specs.declared.input.Said.{Said}
use Rattle.mv_base.specs.Octets.{IsOctets}
use Rattle.mv_base.specs.framing.Cut.{Cut, cut, cut_at}
use Rattle.mv_base.specs.framing.Feed.{further, moved}
use Rattle.mv_base.proofs.framing.Cuts.{IsOctets-before, cut_stays, found}
use Rattle.mv_base.proofs.framing.Feedings.{fails_cut}
use Rattle.bgp_messages.specs.declared.bgp_attributes.fault.StreamFault.{StreamFault}
use Rattle.bgp_messages.specs.declared.bgp_attributes.update.Message.{Message}
use Rattle.bgp_messages.specs.bgp_update.FirstFault.{UnitFault}
use Rattle.bgp_messages.specs.bgp_update.Reading.{message_front}
use Rattle.bgp_messages.specs.bgp_update.Spelling.{SpellsMessage}
use Rattle.bgp_messages.proofs.bgp_update.Messages.{message_format}
use Rattle.ingress_text.specs.Rooted.{Rooted}
use Rattle.ingress_text.specs.declared.input.Line.{Line}
use Rattle.ingress_text.specs.declared.input.Said.TheVariants.{From, Leaf}
use Rattle.ingress_text.specs.Drafted.{number_by, peer_of}
use Rattle.ingress_text.specs.Telling.{after, before, first_fault, new_fault, nobody, octets_by, peers_from, shown, Peers}
use Rattle.ingress_laws.specs.Answered.{brought, octets_of, IsAddress, IsSaid}
use Rattle.ingress_laws.specs.Refused.{BringsFault, BringsOctets, HasFault, IsHeard, IsRefused}
use Rattle.ingress_laws.proofs.HeardLemmas.{after_is, at_end, before_is, messages_in, own, octets_fit}
use Rattle.ingress_laws.proofs.RouteLemmas.{fails_in}

-- ---- faults of octets

abbrev fault_in : List ℕ → Option (ℕ × StreamFault)
fault_in octets = (cut message_front octets).fault

fault_from : (octets : List ℕ) → IsOctets octets → (f : ℕ × StreamFault) → fault_in octets ≡ Some f → HasFault octets f.0 f.1
fault_from octets fits f e = record { messages = messages_in octets; fails = fails_in octets fits f e }

fault_to : (octets : List ℕ) → IsOctets octets → (place : ℕ) (fault : StreamFault) → HasFault octets place fault
    → fault_in octets ≡ Some (place, fault)
fault_to octets fits place fault h =
    ap (λ (c : Cut Message StreamFault). c.fault)
    (fails_cut message_front SpellsMessage UnitFault 4096 message_format octets h.messages place fault fits h.fails)

-- a fault stays, whatever comes after it
stays : (octets more : List ℕ) → IsOctets (octets ++ more) → (f : ℕ × StreamFault) → fault_in octets ≡ Some f → fault_in (octets ++ more) ≡ Some f
stays octets more fits f e =
    let there = found message_front SpellsMessage message_format.stream.framing 0 octets (IsOctets-before octets more fits) in
    ap (λ (c : Cut Message StreamFault). c.fault)
    (cut_stays message_front SpellsMessage message_format.stream 0 octets more (cut message_front octets) f there e)

-- ---- a line

-- what an equation of faults says of a line after others
module _ (root : Rooted) (others : List Line) (line : Line) (fits : IsOctets (octets_of root (number_by line) others ++ octets_by root line.said))
  where
    abbrev old : List ℕ
    old = octets_of root (number_by line) others

    abbrev with_line : List ℕ
    with_line = old ++ octets_by root line.said

    old_fits : IsOctets old
    old_fits = IsOctets-before old (octets_by root line.said) fits

    brings_from : (o p : Option (ℕ × StreamFault)) → fault_in old ≡ o → fault_in with_line ≡ p → (place : ℕ) (fault : StreamFault)
        → new_fault (moved 0 o) (moved 0 p) ≡ Some (place, fault) → BringsFault root others line place fault
    brings_from (Some f) p had has place fault e = absurd cc
    brings_from None None had has place fault e = absurd cc
    brings_from None (Some f) had has place fault e =
        let same : ◌≡◌ {A = ℕ × StreamFault} (further 0 f.0, f.1) (place, fault) = cc in
        record {
          none = λ there other h. (let some = sym had ∙ fault_to old old_fits there other h in absurd cc);
          there = f.0;
          now = subst (HasFault with_line f.0) (ap (λ (g : ℕ × StreamFault). g.1) same) (fault_from with_line fits f has);
          at = sym (ap (λ (g : ℕ × StreamFault). g.0) same);
        }

    none_before : (o : Option (ℕ × StreamFault)) → fault_in old ≡ o → (place : ℕ) (fault : StreamFault) → BringsFault root others line place fault
        → fault_in old ≡ None
    none_before None e place fault b = e
    none_before (Some f) e place fault b = absurd (b.none f.0 f.1 (fault_from old old_fits f e))

    brings_to : (place : ℕ) (fault : StreamFault) → BringsFault root others line place fault
        → new_fault (moved 0 (fault_in old)) (moved 0 (fault_in with_line)) ≡ Some (place, fault)
    brings_to place fault b =
        (λ i. new_fault (moved 0 (none_before (fault_in old) refl place fault b i)) (moved 0 (fault_to with_line fits b.there fault b.now i)))
        ∙ ap (λ (p : ℕ). Some (p, fault)) (sym b.at)

-- ---- the line among all

addresses_before : (lines more : List Line) → AllByRecursion (λ (line : Line). IsAddress (peer_of line.said)) (lines ++ more)
    → AllByRecursion (λ (line : Line). IsAddress (peer_of line.said)) lines
addresses_before [] more all = tt
addresses_before (line ∷ lines) more all = (all.0, addresses_before lines more all.1)

address_after : (lines more : List Line) (line : Line) → AllByRecursion (λ (line : Line). IsAddress (peer_of line.said)) (lines ++ (line ∷ more))
    → IsAddress (peer_of line.said)
address_after [] more line all = all.0
address_after (other ∷ lines) more line all = address_after lines more line all.1

module _ (root : Rooted) (lines others more : List Line) (line : Line) (said : IsSaid root lines) (parts : lines ≡ others ++ (line ∷ more)) where
  abbrev n : ℕ
  n = number_by line

  abbrev said_before : List ℕ
  said_before = octets_of root n others

  own_brought : brought root n line ≡ octets_by root line.said
  own_brought = ap (λ (b : Bool). cond b (octets_by root line.said) []) (own_key nat_cmp_total n)

  up_to : octets_of root n lines ≡ (said_before ++ octets_by root line.said) ++ octets_of root n more
  up_to =
      ap (octets_of root n) parts
      ∙ (flat_map-append (brought root n) others (line ∷ more)
      ∙ (ap (λ (xs : List ℕ). said_before ++ (xs ++ octets_of root n more)) own_brought
      ∙ sym (append_assoc said_before (octets_by root line.said) (octets_of root n more))))

  line_fits : IsOctets (said_before ++ octets_by root line.said)
  line_fits = IsOctets-before (said_before ++ octets_by root line.said) (octets_of root n more) (subst IsOctets up_to (octets_fit root lines said n))

  addresses : AllByRecursion (λ (l : Line). IsAddress (peer_of l.said)) (others ++ (line ∷ more))
  addresses = subst (AllByRecursion (λ (l : Line). IsAddress (peer_of l.said))) parts said.addresses

  shown_is : (peer octets : List ℕ) → line.said ≡ From peer octets
      → shown root (peers_from root nobody others) line line.said
      ≡ new_fault (moved 0 (fault_in said_before)) (moved 0 (fault_in (said_before ++ octets_by root line.said)))
  shown_is peer octets is =
      let there =
      at_end root n others (addresses_before others (line ∷ more) addresses) (IsOctets-before said_before (octets_by root line.said) line_fits) in
      let was : before (peers_from root nobody others) line ≡ own root n said_before =
      before_is root n (peers_from root nobody others) said_before there (peers_from root nobody others n) refl in
      let now : after root (peers_from root nobody others) line ≡ own root n (said_before ++ octets_by root line.said) =
      after_is root n (peers_from root nobody others) said_before line there refl (address_after others more line addresses) line_fits in
      ap (shown root (peers_from root nobody others) line) is ∙ (λ i. first_fault (was i) (now i))

  pub shown_from : (peer octets : List ℕ) → line.said ≡ From peer octets → (place : ℕ) (fault : StreamFault)
      → shown root (peers_from root nobody others) line line.said ≡ Some (place, fault) → BringsFault root others line place fault
  shown_from peer octets is place fault e =
      brings_from root others line line_fits (fault_in said_before) (fault_in (said_before ++ octets_by root line.said)) refl refl place fault
      (sym (shown_is peer octets is) ∙ e)

  pub shown_to : (peer octets : List ℕ) → line.said ≡ From peer octets → (place : ℕ) (fault : StreamFault) → BringsFault root others line place fault
      → shown root (peers_from root nobody others) line line.said ≡ Some (place, fault)
  shown_to peer octets is place fault b = shown_is peer octets is ∙ brings_to root others line line_fits place fault b

  octets_here : octets_of root n (others ++ line ∷ []) ≡ said_before ++ octets_by root line.said
  octets_here =
      flat_map-append (brought root n) others (line ∷ [])
      ∙ ap (λ (xs : List ℕ). said_before ++ xs) (append-nil (brought root n line) ∙ own_brought)

  pub shown_here : (peer octets : List ℕ) → line.said ≡ From peer octets → fault_in said_before ≡ None → (g : ℕ × StreamFault)
      → fault_in (octets_of root n (others ++ line ∷ [])) ≡ Some g
      → shown root (peers_from root nobody others) line line.said ≡ Some (further 0 g.0, g.1)
  shown_here peer octets is none g e =
      let some : fault_in (said_before ++ octets_by root line.said) ≡ Some g = ap fault_in (sym octets_here) ∙ e in
      shown_is peer octets is ∙ (λ i. new_fault (moved 0 (none i)) (moved 0 (some i)))

  pub fault_after : (place : ℕ) (fault : StreamFault) → BringsFault root others line place fault
      → (there : ℕ) × HasFault (octets_of root n lines) there fault × (place ≡ further 0 there)
  fault_after place fault b =
      let all : IsOctets ((said_before ++ octets_by root line.said) ++ octets_of root n more) = subst IsOctets up_to (octets_fit root lines said n) in
      let here : fault_in (said_before ++ octets_by root line.said) ≡ Some (b.there, fault) =
      fault_to (said_before ++ octets_by root line.said) line_fits b.there fault b.now in
      let whole : fault_in (octets_of root n lines) ≡ Some (b.there, fault) =
      ap fault_in up_to ∙ stays (said_before ++ octets_by root line.said) (octets_of root n more) all (b.there, fault) here in
      (b.there, fault_from (octets_of root n lines) (octets_fit root lines said n) (b.there, fault) whole, b.at)

-- ---- all lines of a peer

said_octets : (s : Said) → BringsOctets s → (peer : List ℕ) × (octets : List ℕ) × (s ≡ From peer octets)
said_octets (From peer octets) brings = (peer, octets, refl)
said_octets (Leaf leaf label) brings = absurd brings

shown_octets : (root : Rooted) (peers : Peers) (line : Line) (s : Said) (x : ℕ × StreamFault) → shown root peers line s ≡ Some x
    → (peer : List ℕ) × (octets : List ℕ) × (s ≡ From peer octets)
shown_octets root peers line (From peer octets) x e = (peer, octets, refl)
shown_octets root peers line (Leaf leaf label) x e = absurd cc

module _ (root : Rooted) (lines : List Line) (said : IsSaid root lines) (n : ℕ) where
  abbrev fault_of : List Line → Option (ℕ × StreamFault)
  fault_of some_lines = fault_in (octets_of root n some_lines)

  pub refused_only : (place : ℕ) (fault : StreamFault) → IsRefused root lines n place fault
      → (there : ℕ) × HasFault (octets_of root n lines) there fault × (place ≡ further 0 there)
  refused_only place fault r =
      let is = shown_octets root (peers_from root nobody r.before) r.line r.line.said (place, fault) r.told in
      let b = shown_from root lines r.before r.more r.line said r.parts is.0 is.1 is.2 place fault r.told in
      let h = fault_after root lines r.before r.more r.line said r.parts place fault b in
      (h.0, subst (λ (k : ℕ). HasFault (octets_of root k lines) h.0 fault) r.number h.1, h.2)

  parts_fit : (before more : List Line) → lines ≡ before ++ more → IsOctets (octets_of root n before ++ octets_of root n more)
  parts_fit before more parts =
      subst IsOctets (ap (octets_of root n) parts ∙ flat_map-append (brought root n) before more) (octets_fit root lines said n)

  -- the fault of the first lines is that of all
  fault_stays : (before more : List Line) → lines ≡ before ++ more → (g : ℕ × StreamFault) → fault_of before ≡ Some g → fault_of lines ≡ Some g
  fault_stays before more parts g e =
      ap fault_of parts
      ∙ (ap fault_in (flat_map-append (brought root n) before more)
      ∙ stays (octets_of root n before) (octets_of root n more) (parts_fit before more parts) g e)

  one_more : (before : List Line) (line : Line) → is_at (nat_cmp (number_by line)) n ≡ false → fault_of (before ++ line ∷ []) ≡ fault_of before
  one_more before line other =
      ap fault_in (flat_map-append (brought root n) before (line ∷ [])
      ∙ (ap (λ (b : Bool). octets_of root n before ++ (cond b (octets_by root line.said) [] ++ [])) other ∙ append-nil (octets_of root n before)))

  found_by : (before : List Line) (line : Line) (more : List Line) → lines ≡ before ++ (line ∷ more) → (number_by line ≡ n → BringsOctets line.said)
      → fault_of before ≡ None
      → (f g : ℕ × StreamFault) → fault_of lines ≡ Some f → fault_of (before ++ line ∷ []) ≡ Some g → (b : Bool)
      → is_at (nat_cmp (number_by line)) n ≡ b → IsRefused root lines n (further 0 f.0) f.1
  found_by before line more parts brings none f g e some false other =
      absurd (let both : None ≡ Some g = sym none ∙ (sym (one_more before line other) ∙ some) in cc)
  found_by before line more parts brings none f g e some true own_line =
      let same : number_by line ≡ n = one_key nat_cmp-IsAntisymmetric (number_by line) n own_line in
      let is = said_octets line.said (brings same) in
      let first : fault_of lines ≡ Some g = fault_stays (before ++ line ∷ []) more (parts ∙ sym (append_assoc before (line ∷ []) more)) g some in
      let one : Some g ≡ Some f = sym first ∙ e in
      let told : shown root (peers_from root nobody before) line line.said ≡ Some (further 0 g.0, g.1) =
      shown_here root lines before more line said parts is.0 is.1 is.2 (subst (λ (k : ℕ). fault_in (octets_of root k before) ≡ None) (sym same) none)
      g
      (subst (λ (k : ℕ). fault_in (octets_of root k (before ++ line ∷ [])) ≡ Some g) (sym same) some) in
      let of : Option (ℕ × StreamFault) → Option (ℕ × StreamFault) = λ o. moved 0 o in
      record { before = before; line = line; more = more; parts = parts; number = same; told = told ∙ ap of one }

  find : (before rest : List Line) → lines ≡ before ++ rest → IsHeard n rest → fault_of before ≡ None → (f : ℕ × StreamFault)
      → fault_of lines ≡ Some f → IsRefused root lines n (further 0 f.0) f.1
  find before [] parts heard none f e =
      let all : fault_of lines ≡ None = ap fault_of (parts ∙ append-nil before) ∙ none in
      absurd (let both : None ≡ Some f = sym all ∙ e in cc)
  find before (line ∷ more) parts heard none f e =
      by (fault_of (before ++ line ∷ [])) refl (find (before ++ line ∷ []) more (parts ∙ sym (append_assoc before (line ∷ []) more)) heard.1)
    where
      by : (o : Option (ℕ × StreamFault)) → fault_of (before ++ line ∷ []) ≡ o
          → (fault_of (before ++ line ∷ []) ≡ None → (f : ℕ × StreamFault) → fault_of lines ≡ Some f → IsRefused root lines n (further 0 f.0) f.1)
          → IsRefused root lines n (further 0 f.0) f.1
      by None is rest = rest is f e
      by (Some g) is rest = found_by before line more parts heard.0 none f g e is (is_at (nat_cmp (number_by line)) n) refl

  none_at_first : fault_of [] ≡ None
  unfolding cut_at
  none_at_first = refl

  pub refused_told : IsHeard n lines → (there : ℕ) (fault : StreamFault) → HasFault (octets_of root n lines) there fault
      → IsRefused root lines n (further 0 there) fault
  refused_told heard there fault h =
      find [] lines refl heard none_at_first (there, fault) (fault_to (octets_of root n lines) (octets_fit root lines said n) there fault h)
