-- Octets that are answers of a leaf leave the last one.
use Rattle.std.proofs.Common.{◌≡◌, ◌∙◌, ap, sym, subst, refl, ℕ, ◌≤◌, Bool, true, false, cond, List, [], ◌∷◌, ◌++◌, length, map, fold, flat_map, option_map, Option, None, Some, nat_cmp, length-append, arith}
use Rattle.std.specs.Int.{w32, to_be_bytes}
use Rattle.std.specs.List.{AllByRecursion}
use Rattle.std.specs.BTreeMap.{is_at}
use Rattle.std.specs.FinMap.{nat_cmp-IsAntisymmetric}
use Rattle.std.proofs.lemmas.List.{append-nil}
use Rattle.std.proofs.lemmas.Grind.{flat_map-append}
use Rattle.table_laws.proofs.CompareLemmas.{one_key}
use Rattle.mv_base.specs.declared.addr.Addr.TheVariants.{V4}
use Rattle.mv_base.specs.framing.Units.{Begins, Spelled, AreUnits}
use Rattle.mv_base.specs.framing.Units as units
use Rattle.mv_base.specs.framing.Cut.{Cut, cut, with_front}
use Rattle.mv_base.proofs.framing.Cuts.{begun, waits}
use Rattle.bgp_values.specs.declared.pmsi_attr.pmsi.Pmsi.{Pmsi}
use Rattle.bgp_values.specs.mvpn_nlri.Spelling.{IsKey}
use Rattle.bgp_messages.specs.declared.bgp_attributes.fault.StreamFault.{StreamFault}
use Rattle.bgp_messages.specs.declared.bgp_attributes.update.Advert.{Advert}
use Rattle.bgp_messages.specs.declared.bgp_attributes.update.Change.TheVariants.{Reach}
use Rattle.bgp_messages.specs.declared.bgp_attributes.update.Message.{Message}
use Rattle.bgp_messages.specs.declared.bgp_attributes.update.Message.TheVariants as messages
use Rattle.bgp_messages.specs.bgp_update.Reading.{message_front}
use Rattle.bgp_messages.specs.bgp_update.Spelling.{SpellsMessage}
use Rattle.bgp_messages.specs.bgp_update.Written.{update_of, written}
use Rattle.bgp_messages.proofs.bgp_update.Messages.{messages_framed}
use Rattle.bgp_messages.proofs.bgp_update.ReadsBack.{written_spells}
use Rattle.ingress_rep.proofs.AnswerLemmas.{answer_short, answer_writable}
use Rattle.ingress_rep.specs.declared.request.Request.{Request}
use Rattle.ingress_rep.specs.Ingress.{answer_of, leaf_tunnel, request_of, IsSpelledSelective}
use Rattle.ingress_text.specs.Rooted.{Rooted}
use Rattle.ingress_text.specs.declared.input.Line.{Line}
use Rattle.ingress_text.specs.declared.input.Said.{Said}
use Rattle.ingress_text.specs.declared.input.Said.TheVariants.{Leaf, From}
use Rattle.ingress_text.specs.Drafted.{number_by, peer_of}
use Rattle.ingress_text.specs.Telling.{answer_by, answer_octets, octets_by}
use Rattle.ingress_laws.specs.Meaning.{Asks, TellsLabel}
use Rattle.ingress_laws.specs.Answered.{labels_by, labels_of, last_of, later, leaf_at, octets_of, said_labels, AreAnswers, IsAddress, IsLabel, IsLeaf, IsSaid, LeavesLabel, LetsAnswer}
use Rattle.ingress_laws.proofs.HeardLemmas.{address_is, heard, messages_in, own, octets_fit}
use Rattle.ingress_laws.proofs.LawLemmas.{answer_own, asks_from}
use Rattle.ingress_laws.proofs.RouteLemmas.{route_from, route_to}

-- ---- answers end to end

-- what an answer needs, to be a message
pub record IsRequest (request : Request) (leaf : List ℕ) : Type 0 where
  pub root : length request.root ≡ 4
  pub four : length leaf ≡ 4
  pub key : IsKey request.afi request.key

module _ (root : Rooted) (leaf_octets : List ℕ) (is : IsRequest root.request leaf_octets) where
  abbrev answer : ℕ → Advert
  answer label = answer_of root.request (V4 leaf_octets) label

  abbrev message : ℕ → Message
  message label = messages.Update (update_of (Reach (answer label)))

  unit : ℕ → Spelled Message
  unit label = record { messages = message label ∷ []; octets = answer_octets root leaf_octets label }

  spells : (label : ℕ) → IsLabel label → SpellsMessage (message label ∷ []) (answer_octets root leaf_octets label)
  unfolding answer_octets
  spells label fits =
      written_spells (Reach (answer label)) (answer_writable root.request leaf_octets label is.root is.four is.key fits.0 fits.1) tt
      (answer_short root.request leaf_octets label is.root is.four is.key)

  each_spells : (labels : List ℕ) → AllByRecursion IsLabel labels → AreUnits SpellsMessage (map unit labels)
  unfolding unit
  each_spells [] fit = tt
  each_spells (label ∷ more) fit = (spells label fit.0, each_spells more fit.1)

  unit_octets : (labels : List ℕ) → flat_map (answer_octets root leaf_octets) labels ≡ units.octets_of (map unit labels)
  unfolding unit
  unit_octets [] = refl
  unit_octets (label ∷ more) = ap (λ (xs : List ℕ). answer_octets root leaf_octets label ++ xs) (unit_octets more)

  unit_messages : (labels : List ℕ) → map message labels ≡ units.messages_of (map unit labels)
  unfolding unit
  unit_messages [] = refl
  unit_messages (label ∷ more) = ap (λ (ms : List Message). message label ∷ ms) (unit_messages more)

  begins : (labels : List ℕ) → AllByRecursion IsLabel labels
      → Begins SpellsMessage (flat_map (answer_octets root leaf_octets) labels) (map message labels) []
  begins labels fit = record {
    units = map unit labels;
    each = each_spells labels fit;
    parts = unit_octets labels ∙ sym (append-nil (units.octets_of (map unit labels)));
    carried = unit_messages labels;
  }

  messages_are : (labels : List ℕ) → AllByRecursion IsLabel labels
      → messages_in (flat_map (answer_octets root leaf_octets) labels) ≡ map message labels
  messages_are labels fit =
      let octets : List ℕ = flat_map (answer_octets root leaf_octets) labels in
      let whole_cut : cut message_front octets ≡ with_front (map message labels) (record { messages = []; rest = []; fault = None }) =
      begun message_front SpellsMessage messages_framed 0 (length octets) octets (map message labels) [] (begins labels fit) (omega arith)
      ∙ ap (with_front (map message labels)) (waits message_front (length octets) [] messages_framed.empty) in
      ap (λ (c : Cut Message StreamFault). c.messages) whole_cut ∙ append-nil (map message labels)

  one_answer : (label : ℕ) (found : Option Advert) → answer_by root.request leaf_octets found (message label) ≡ Some (answer label)
  one_answer label found = ap (λ (b : Bool). cond b (Some (answer label)) found) (answer_own root.request (V4 leaf_octets))

  last_answer : (labels : List ℕ) (o : Option ℕ)
      → fold (answer_by root.request leaf_octets) (option_map answer o) (map message labels) ≡ option_map answer (fold later o labels)
  last_answer [] o = refl
  last_answer (label ∷ more) o =
      ap (λ (found : Option Advert). fold (answer_by root.request leaf_octets) found (map message more)) (one_answer label (option_map answer o))
      ∙ last_answer more (Some label)

  pub answer_heard : (labels : List ℕ) → AllByRecursion IsLabel labels → (octets : List ℕ) → octets ≡ flat_map (answer_octets root leaf_octets) labels
      → (heard root.request leaf_octets octets).answer ≡ option_map answer (last_of labels)
  answer_heard labels fit octets e =
      ap (λ (xs : List ℕ). fold (answer_by root.request leaf_octets) None (messages_in xs)) e
      ∙ (ap (fold (answer_by root.request leaf_octets) None) (messages_are labels fit) ∙ last_answer labels None)

  no_labels : (labels : List ℕ) → flat_map (answer_octets root leaf_octets) labels ≡ [] → last_of labels ≡ None
  unfolding answer_octets
  no_labels [] e = refl
  no_labels (label ∷ more) e =
      let own_text : List ℕ = written (Reach (answer label)) in
      absurd (omega (arith, ap (λ (xs : List ℕ). length xs) e, length-append own_text (flat_map (answer_octets root leaf_octets) more)))

-- a label among these is not reserved
last_fits : (labels : List ℕ) (o : Option ℕ) → ((label : ℕ) → o ≡ Some label → 16 ≤ label) → AllByRecursion IsLabel labels → (label : ℕ)
    → fold later o labels ≡ Some label → 16 ≤ label
last_fits [] o old fit label e = old label e
last_fits (first ∷ more) o old fit label e =
    last_fits more (Some first) (λ n is. subst (λ (m : ℕ). 16 ≤ m) (let same : first ≡ n = cc in same) fit.0.0) fit.1 label e

request_is : (root : Rooted) → request_of root.advert ≡ Some root.request → IsSpelledSelective root.advert.key → (n : ℕ)
    → IsRequest root.request (to_be_bytes w32 n)
request_is root asks spelled n =
    let a : Asks root.advert root.request = asks_from root.advert root.request asks in
    let route = subst IsSpelledSelective a.key spelled in
    record { root = route.1.1.1; four = omega arith; key = subst (IsKey root.request.afi) (sym a.asked) route }

module _ (root : Rooted) (lines : List Line) (said : IsSaid root lines) (n : ℕ) (labels : List ℕ)
    (are : AreAnswers root n (octets_of root n lines) labels) where
  abbrev octets : List ℕ
  octets = octets_of root n lines

  is : IsRequest root.request (to_be_bytes w32 n)
  is = request_is root said.asks said.spelled n

  abbrev last_advert : ℕ → Advert
  last_advert label = answer_of root.request (leaf_at n) label

  kept : (own root n octets).answer ≡ option_map last_advert (last_of labels)
  kept = answer_heard root (to_be_bytes w32 n) is labels are.fit octets are.answers

  own_label : (label other : ℕ) → TellsLabel root.request (leaf_at n) (last_advert label) other → label ≡ other
  own_label label other tells =
      let tunnel : Some (leaf_tunnel (leaf_at n) label) ≡ Some tells.pmsi = tells.attribute in
      let same : leaf_tunnel (leaf_at n) label ≡ tells.pmsi = cc in
      let both : Some label ≡ Some other = ap (λ (p : Pmsi). p.label) same ∙ tells.has in
      cc

  last_is : (o : Option ℕ) (advert : Advert) (label : ℕ) → option_map last_advert o ≡ Some advert → TellsLabel root.request (leaf_at n) advert label
      → o ≡ Some label
  last_is None advert label e tells = absurd cc
  last_is (Some own_one) advert label e tells =
      let same : last_advert own_one ≡ advert = cc in
      let t : TellsLabel root.request (leaf_at n) (last_advert own_one) label =
      subst (λ (a : Advert). TellsLabel root.request (leaf_at n) a label) (sym same) tells in
      ap (λ (l : ℕ). Some l) (own_label own_one label t)

  pub last_from : (label : ℕ) → LeavesLabel root lines n label → last_of labels ≡ Some label
  last_from label leaves =
      last_is (last_of labels) leaves.advert label
      (sym kept ∙ route_to root.request (to_be_bytes w32 n) octets (octets_fit root lines said n) leaves.advert leaves.route) leaves.tells

  pub last_to : (label : ℕ) → last_of labels ≡ Some label → LeavesLabel root lines n label
  last_to label e = record {
    advert = last_advert label;
    route = route_from root.request (to_be_bytes w32 n) octets (octets_fit root lines said n) (last_advert label)
        (kept ∙ ap (option_map last_advert) e);
    tells = record {
      pmsi = leaf_tunnel (leaf_at n) label;
      next_hop = refl;
      target = record { before = []; after = []; parts = refl };
      attribute = refl;
      tunnel = refl;
      has = refl;
      unreserved = last_fits labels None (λ l none. absurd cc) are.fit label e;
    };
  }

-- ---- lines of leaves

all_fit : (labels more : List ℕ) → AllByRecursion IsLabel labels → AllByRecursion IsLabel more → AllByRecursion IsLabel (labels ++ more)
all_fit [] more fit rest = rest
all_fit (label ∷ labels) more fit rest = (fit.0, all_fit labels more fit.1 rest)

module _ (root : Rooted) (n : ℕ) where
  abbrev answers_by : List ℕ → List ℕ
  answers_by labels = flat_map (answer_octets root (to_be_bytes w32 n)) labels

  said_by : (said : Said) → LetsAnswer said → peer_of said ≡ to_be_bytes w32 n
      → (octets_by root said ≡ answers_by (said_labels said)) × AllByRecursion IsLabel (said_labels said)
  said_by (Leaf leaf label) fits same =
      (ap (λ (xs : List ℕ). answer_octets root xs label) same ∙ sym (append-nil (answer_octets root (to_be_bytes w32 n) label)), (fits, tt))
  said_by (From peer piece) fits same = absurd fits

  line_by : (line : Line) → IsAddress (peer_of line.said) → (number_by line ≡ n → LetsAnswer line.said) → (b : Bool)
      → is_at (nat_cmp (number_by line)) n ≡ b
      → (cond b (octets_by root line.said) [] ≡ answers_by (cond b (said_labels line.said) []))
      × AllByRecursion IsLabel (cond b (said_labels line.said) [])
  line_by line address lets false e = (refl, tt)
  line_by line address lets true e =
      let same : number_by line ≡ n = one_key nat_cmp-IsAntisymmetric (number_by line) n e in
      said_by line.said (lets same) (address_is root n line same address)

  pub lines_by : (lines : List Line) → AllByRecursion (λ (line : Line). IsAddress (peer_of line.said)) lines → IsLeaf n lines
      → (octets_of root n lines ≡ answers_by (labels_of n lines)) × AllByRecursion IsLabel (labels_of n lines)
  lines_by [] addresses lets = (refl, tt)
  lines_by (line ∷ more) addresses lets =
      let one = line_by line addresses.0 lets.0 (is_at (nat_cmp (number_by line)) n) refl in
      let rest = lines_by more addresses.1 lets.1 in (
        (λ i. one.0 i ++ rest.0 i) ∙ sym (flat_map-append (answer_octets root (to_be_bytes w32 n)) (labels_by n line) (labels_of n more)),
        all_fit (labels_by n line) (labels_of n more) one.1 rest.1,
      )
