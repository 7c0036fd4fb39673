-- The copies are those of the peers whose octets leave their answers.
use Rattle.std.proofs.Common.{◌≡◌, ◌∙◌, ap, sym, subst, refl, ℕ, List, [], ◌∷◌, ◌++◌, map, option_map, Option, None, Some, nat_cmp}
use Rattle.std.specs.Int.{w32, to_be_bytes}
use Rattle.std.specs.Map.{lookup}
use Rattle.std.specs.BTreeMap.{is_at}
use Rattle.bgp_messages.specs.declared.bgp_attributes.update.Advert.{Advert}
use Rattle.bgp_messages.specs.declared.bgp_attributes.key.Key.{Key}
use Rattle.ingress_rep.specs.declared.request.Request.{Request}
use Rattle.ingress_rep.specs.declared.copying.TakenTable.{TakenTable}
use Rattle.ingress_rep.specs.declared.copying.LeafCopy.{LeafCopy}
use Rattle.ingress_rep.specs.Ingress.{answer_key, copies_of, copy_of, request_of}
use Rattle.ingress_text.specs.Rooted.{Rooted}
use Rattle.ingress_text.specs.declared.input.Line.{Line}
use Rattle.ingress_text.specs.declared.peers.Peer.{Peer}
use Rattle.ingress_text.specs.Telling.{nobody, peers_from, rows, table_of, AreThePeers}
use Rattle.ingress_laws.specs.Meaning.{IsCopy, IsFirst, TellsLabel}
use Rattle.ingress_laws.specs.Answered as laws
use Rattle.ingress_laws.specs.Answered.{last_of, leaf_at, octets_of, AreAnswers, AreUnder, HasLast, IsSaid, LeavesAnswer, LeavesLabel}
use Rattle.ingress_laws.proofs.HeardLemmas.{at_end, heard_none, own, octets_fit}
use Rattle.ingress_laws.proofs.LastLemmas.{last_from, last_to}
use Rattle.ingress_laws.proofs.LawLemmas.{copy_from, copy_to}
use Rattle.ingress_laws.proofs.LeafLemmas.{all_found, copies_under, each_found, leaves_of, leaves_rise, IsCopiedUnder}
use Rattle.ingress_laws.proofs.RouteLemmas.{route_from, route_to}

-- the one route of a table
sole_row : (o : Option Advert) (key : Key) (advert : Advert) → IsFirst (rows o) key advert → o ≡ Some advert
sole_row None key advert f = by f.before f.parts
  where
    by : (before : List Advert) → ◌≡◌ {A = List Advert} [] (before ++ (advert ∷ f.after)) → ◌≡◌ {A = Option Advert} None (Some advert)
    by [] e = absurd cc
    by (x ∷ xs) e = absurd cc
sole_row (Some own_one) key advert f = by f.before f.parts
  where
    by : (before : List Advert) → own_one ∷ [] ≡ before ++ (advert ∷ f.after) → Some own_one ≡ Some advert
    by [] e = (let same : own_one ≡ advert = cc in ap (λ (a : Advert). Some a) same)
    by (x ∷ []) e = absurd cc
    by (x ∷ y ∷ xs) e = absurd cc

row_first : (key : Key) (advert : Advert) → advert.key ≡ key → IsFirst (rows (Some advert)) key advert
row_first key advert same = record { before = []; after = []; parts = refl; same = same; first = tt }

module _ (root : Rooted) (lines : List Line) (said : IsSaid root lines) where
  abbrev octets : ℕ → List ℕ
  octets n = octets_of root n lines

  -- the table of the peer of that number
  abbrev table_at : ℕ → TakenTable
  table_at n = table_of (n, own root n (octets n))

  abbrev copy_label : Option LeafCopy → Option ℕ
  copy_label o = option_map (λ copy. copy.label) o

  abbrev label_at : ℕ → Option ℕ
  label_at n = copy_label (copy_of root.request (table_at n))

  -- ---- a label is that of the answer which the octets leave

  label_by : (n label : ℕ) (o : Option LeafCopy) → copy_of root.request (table_at n) ≡ o → copy_label o ≡ Some label → LeavesLabel root lines n label
  label_by n label None e is = absurd cc
  label_by n label (Some copy) e is =
      let c : IsCopy root.request (table_at n) copy = copy_from root.request (table_at n) copy e in
      let same : copy.label ≡ label = cc in
      let kept : (own root n (octets n)).answer ≡ Some c.advert =
      sole_row (own root n (octets n)).answer (answer_key root.request (leaf_at n)) c.advert c.there in
      record {
        advert = c.advert;
        route = route_from root.request (to_be_bytes w32 n) (octets n) (octets_fit root lines said n) c.advert kept;
        tells = subst (TellsLabel root.request (leaf_at n) c.advert) same c.tells;
      }

  label_from : (n label : ℕ) → label_at n ≡ Some label → LeavesLabel root lines n label
  label_from n label is = label_by n label (copy_of root.request (table_at n)) refl is

  label_to : (n label : ℕ) → LeavesLabel root lines n label → label_at n ≡ Some label
  label_to n label leaves =
      let copy : LeafCopy = laws.copy_to (n, label) in
      let kept : (own root n (octets n)).answer ≡ Some leaves.advert =
      route_to root.request (to_be_bytes w32 n) (octets n) (octets_fit root lines said n) leaves.advert leaves.route in
      let there : IsFirst (rows (own root n (octets n)).answer) (answer_key root.request (leaf_at n)) leaves.advert =
      subst (λ (o : Option Advert). IsFirst (rows o) (answer_key root.request (leaf_at n)) leaves.advert) (sym kept)
      (row_first (answer_key root.request (leaf_at n)) leaves.advert leaves.route.last.same) in
      ap copy_label (copy_to root.request (table_at n) copy (record { advert = leaves.advert; leaf = refl; there = there; tells = leaves.tells }))

  -- ---- the peers

  copied_by : (n : ℕ) (o : Option LeafCopy) → copy_of root.request (table_at n) ≡ o → o ≡ option_map (λ label. laws.copy_to (n, label)) (copy_label o)
  copied_by n None e = refl
  copied_by n (Some copy) e =
      let c : IsCopy root.request (table_at n) copy = copy_from root.request (table_at n) copy e in
      ap (λ (leaf : _). Some (record { leaf = leaf; label = copy.label })) c.leaf

  copied_under : (n : ℕ) (peer : Peer) → peer ≡ own root n (octets n) → IsCopiedUnder root.request label_at n peer
  copied_under n peer is =
      ap (λ (p : Peer). copy_of root.request (table_of (n, p))) is ∙ copied_by n (copy_of root.request (table_at n)) refl

  unheard : (n : ℕ) → octets n ≡ [] → label_at n ≡ None
  unfolding copy_of
  unheard n none =
      ap (λ (xs : List ℕ). copy_label (copy_of root.request (table_of (n, own root n xs)))) none
      ∙ ap (λ (p : Peer). copy_label (copy_of root.request (table_of (n, p)))) (heard_none root.request (to_be_bytes w32 n))

  pub copies_are_under : (peers : List (ℕ × Peer)) → AreThePeers (peers_from root nobody lines) peers
      → AreUnder (LeavesLabel root lines) (copies_of (request_of root.advert) (map table_of peers))
  unfolding copies_of
  copies_are_under peers are =
      let under : (n : ℕ) (peer : Peer) → lookup (is_at (nat_cmp n)) peers ≡ Some peer → IsCopiedUnder root.request label_at n peer = λ n peer there.
      copied_under n peer ((at_end root n lines said.addresses (octets_fit root lines said n)).known peer (sym (are.each n) ∙ there)) in
      let none : (n : ℕ) → lookup (is_at (nat_cmp n)) peers ≡ None → label_at n ≡ None = λ n gone.
      unheard n ((at_end root n lines said.addresses (octets_fit root lines said n)).unknown (sym (are.each n) ∙ gone)) in
      record {
        leaves = leaves_of label_at peers;
        rising = leaves_rise label_at peers are.rising;
        each = λ n label.
            let is = each_found label_at n peers (none n) in
            (λ e. label_from n label (sym is ∙ e), λ l. is ∙ label_to n label l);
        are =
            ap (λ (o : Option Request). copies_of o (map table_of peers)) said.asks
            ∙ copies_under root.request label_at peers (all_found (IsCopiedUnder root.request label_at) peers are.rising under);
      }

  pub last_are_under : (labels : ℕ → List ℕ) → ((n : ℕ) → AreAnswers root n (octets n) (labels n)) → (peers : List (ℕ × Peer))
      → AreThePeers (peers_from root nobody lines) peers
      → AreUnder (HasLast labels) (copies_of (request_of root.advert) (map table_of peers))
  last_are_under labels answers peers are =
      let all = copies_are_under peers are in
      record {
        leaves = all.leaves;
        rising = all.rising;
        each = λ n label. (
          λ e. last_from root lines said n (labels n) (answers n) label ((all.each n label).0 e),
          λ l. (all.each n label).1 (last_to root lines said n (labels n) (answers n) label l),
        );
        are = all.are;
      }
