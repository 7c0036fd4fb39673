-- The leaves among peers, by rising numbers, each with the label that is told of its number.
use Rattle.std.proofs.Common.{◌≡◌, ◌∙◌, ap, sym, subst, refl, ℕ, Bool, true, false, cond, List, [], ◌∷◌, map, filter_map, option_map, Option, None, Some, nat_cmp}
use Rattle.std.specs.List.{AllByRecursion, cons_option}
use Rattle.std.specs.List.Sorted.{IsStrictlySortedBy}
use Rattle.std.specs.Map.{keys_of, lookup}
use Rattle.std.specs.BTreeMap.{is_at}
use Rattle.std.specs.Cmp.{tied_itself}
use Rattle.std.specs.FinMap.{nat_cmp-IsAntisymmetric}
use Rattle.std.specs.declared.cmp.Ordering.TheVariants.{Less}
use Rattle.std.proofs.lemmas.Cmp.{nat_cmp_total}
use Rattle.table_laws.proofs.CompareLemmas.{one_key, own_key}
use Rattle.ingress_rep.specs.declared.request.Request.{Request}
use Rattle.ingress_rep.specs.Ingress.{copy_of}
use Rattle.ingress_text.specs.declared.peers.Peer.{Peer}
use Rattle.ingress_text.specs.Telling.{table_of}
use Rattle.ingress_laws.specs.Answered as laws

-- ---- the leaves among the peers

module _ (label_at : ℕ → Option ℕ) where
  abbrev pub leaf_of : ℕ × Peer → Option (ℕ × ℕ)
  leaf_of entry = option_map (λ label. (entry.0, label)) (label_at entry.0)

  abbrev pub leaves_of : List (ℕ × Peer) → List (ℕ × ℕ)
  leaves_of entries = filter_map leaf_of entries

  above_by : (k q : ℕ) (o : Option ℕ) (more : List (ℕ × ℕ)) → nat_cmp k q ≡ Less → AllByRecursion (λ (y : ℕ). nat_cmp k y ≡ Less) (keys_of more)
      → AllByRecursion (λ (y : ℕ). nat_cmp k y ≡ Less) (keys_of (cons_option (option_map (λ label. (q, label)) o) more))
  above_by k q None more less rest = rest
  above_by k q (Some label) more less rest = (less, rest)

  above : (k : ℕ) (entries : List (ℕ × Peer)) → AllByRecursion (λ (y : ℕ). nat_cmp k y ≡ Less) (keys_of entries)
      → AllByRecursion (λ (y : ℕ). nat_cmp k y ≡ Less) (keys_of (leaves_of entries))
  above k [] all = tt
  above k (entry ∷ entries) all = above_by k entry.0 (label_at entry.0) (leaves_of entries) all.0 (above k entries all.1)

  rise_by : (q : ℕ) (o : Option ℕ) (more : List (ℕ × ℕ)) → AllByRecursion (λ (y : ℕ). nat_cmp q y ≡ Less) (keys_of more)
      → IsStrictlySortedBy nat_cmp (keys_of more)
      → IsStrictlySortedBy nat_cmp (keys_of (cons_option (option_map (λ label. (q, label)) o) more))
  unfolding IsStrictlySortedBy
  rise_by q None more less rest = rest
  rise_by q (Some label) more less rest = (less, rest)

  pub leaves_rise : (entries : List (ℕ × Peer)) → IsStrictlySortedBy nat_cmp (keys_of entries)
      → IsStrictlySortedBy nat_cmp (keys_of (leaves_of entries))
  unfolding IsStrictlySortedBy
  leaves_rise [] rises = tt
  leaves_rise (entry ∷ entries) rises =
      rise_by entry.0 (label_at entry.0) (leaves_of entries) (above entry.0 entries rises.0) (leaves_rise entries rises.1)

  module _ (n : ℕ) where
    abbrev found : {X : Type 0} → List (ℕ × X) → Option X
    found entries = lookup (is_at (nat_cmp n)) entries

    none_by : (q : ℕ) (b : Bool) → is_at (nat_cmp n) q ≡ b → (o : Option ℕ) → label_at q ≡ o → label_at n ≡ None → (more : List (ℕ × ℕ))
        → found more ≡ None
        → found (cons_option (option_map (λ label. (q, label)) o) more) ≡ None
    none_by q b e None is none more rest = rest
    none_by q false e (Some label) is none more rest = ap (λ (b : Bool). cond b (Some label) (found more)) e ∙ rest
    none_by q true e (Some label) is none more rest =
        let same : n ≡ q = one_key nat_cmp-IsAntisymmetric n q e in
        let both : None ≡ Some label = sym none ∙ (ap (λ (k : ℕ). label_at k) same ∙ is) in
        absurd cc

    none_found : (entries : List (ℕ × Peer)) → label_at n ≡ None → found (leaves_of entries) ≡ None
    none_found [] none = refl
    none_found (entry ∷ entries) none =
        none_by entry.0 (is_at (nat_cmp n) entry.0) refl (label_at entry.0) refl none (leaves_of entries) (none_found entries none)

    some_by : (q : ℕ) (p peer : Peer) (entries : List (ℕ × Peer)) (label : ℕ) → label_at n ≡ Some label → (b : Bool) → is_at (nat_cmp n) q ≡ b
        → cond b (Some p) (found entries) ≡ Some peer → (found entries ≡ Some peer → found (leaves_of entries) ≡ Some label)
        → (o : Option ℕ) → label_at q ≡ o → found (cons_option (option_map (λ l. (q, l)) o) (leaves_of entries)) ≡ Some label
    some_by q p peer entries label some false e there rest None is = rest there
    some_by q p peer entries label some false e there rest (Some other) is =
        ap (λ (b : Bool). cond b (Some other) (found (leaves_of entries))) e ∙ rest there
    some_by q p peer entries label some true e there rest o is =
        let same : n ≡ q = one_key nat_cmp-IsAntisymmetric n q e in
        let told : o ≡ Some label = sym is ∙ (sym (ap (λ (k : ℕ). label_at k) same) ∙ some) in
        ap (λ (o : Option ℕ). found (cons_option (option_map (λ l. (q, l)) o) (leaves_of entries))) told
        ∙ ap (λ (b : Bool). cond b (Some label) (found (leaves_of entries))) e

    some_found : (entries : List (ℕ × Peer)) (peer : Peer) (label : ℕ) → label_at n ≡ Some label → found entries ≡ Some peer
        → found (leaves_of entries) ≡ Some label
    some_found [] peer label some there = absurd cc
    some_found (entry ∷ entries) peer label some there =
        some_by entry.0 entry.1 peer entries label some (is_at (nat_cmp n) entry.0) refl there (some_found entries peer label some) (label_at entry.0)
        refl

    each_by : (entries : List (ℕ × Peer)) → (found entries ≡ None → label_at n ≡ None) → (p : Option Peer) → found entries ≡ p → (o : Option ℕ)
        → label_at n ≡ o → found (leaves_of entries) ≡ o
    each_by entries none p is None e = none_found entries e
    each_by entries none (Some peer) is (Some label) e = some_found entries peer label e is
    each_by entries none None is (Some label) e = absurd (let both : None ≡ Some label = sym (none is) ∙ e in cc)

    pub each_found : (entries : List (ℕ × Peer)) → (found entries ≡ None → label_at n ≡ None) → found (leaves_of entries) ≡ label_at n
    each_found entries none = each_by entries none (found entries) refl (label_at n) refl

-- ---- the entries of a sorted list are found

not_by : (n k q : ℕ) (b : Bool) → is_at (nat_cmp n) q ≡ b → is_at (nat_cmp n) k ≡ true → nat_cmp k q ≡ Less → (b ≡ false → true ≡ false)
    → true ≡ false
not_by n k q false at e less rest = rest refl
not_by n k q true at e less rest =
    let same : n ≡ k = one_key nat_cmp-IsAntisymmetric n k e in
    let here : n ≡ q = one_key nat_cmp-IsAntisymmetric n q at in
    let tied = tied_itself nat_cmp_total k in
    let below : nat_cmp k k ≡ Less = subst (λ (m : ℕ). nat_cmp k m ≡ Less) (sym here ∙ same) less in
    absurd (let both = sym below ∙ tied in cc)

not_at : (n k : ℕ) (peer : Peer) (entries : List (ℕ × Peer)) → AllByRecursion (λ (y : ℕ). nat_cmp k y ≡ Less) (keys_of entries)
    → lookup (is_at (nat_cmp n)) entries ≡ Some peer
    → (b : Bool) → is_at (nat_cmp n) k ≡ b → b ≡ false
not_at n k peer entries above there false e = refl
not_at n k peer [] above there true e = absurd cc
not_at n k peer (entry ∷ entries) above there true e =
    let at : Bool = is_at (nat_cmp n) entry.0 in
    let step : at ≡ false → lookup (is_at (nat_cmp n)) entries ≡ Some peer =
    λ gone. sym (ap (λ (b : Bool). cond b (Some entry.1) (lookup (is_at (nat_cmp n)) entries)) gone) ∙ there in
    not_by n k entry.0 at refl e above.0 (λ gone. not_at n k peer entries above.1 (step gone) true e)

module _ (P : ℕ → Peer → Type 0) where
  pub all_found : (entries : List (ℕ × Peer)) → IsStrictlySortedBy nat_cmp (keys_of entries)
      → ((n : ℕ) (peer : Peer) → lookup (is_at (nat_cmp n)) entries ≡ Some peer → P n peer)
      → AllByRecursion (λ (e : ℕ × Peer). P e.0 e.1) entries
  unfolding IsStrictlySortedBy
  all_found [] rises each = tt
  all_found (entry ∷ entries) rises each = (
    each entry.0 entry.1 (ap (λ (b : Bool). cond b (Some entry.1) (lookup (is_at (nat_cmp entry.0)) entries)) (own_key nat_cmp_total entry.0)),
    all_found entries rises.1 (λ n peer there. each n peer (
        ap (λ (b : Bool). cond b (Some entry.1) (lookup (is_at (nat_cmp n)) entries))
        (not_at n entry.0 peer entries rises.0 there (is_at (nat_cmp n) entry.0) refl) ∙ there
        )),
  )

-- ---- their copies

map_cons : (o : Option (ℕ × ℕ)) (more : List (ℕ × ℕ))
    → cons_option (option_map laws.copy_to o) (map laws.copy_to more) ≡ map laws.copy_to (cons_option o more)
map_cons None more = refl
map_cons (Some leaf) more = refl

module _ (request : Request) (label_at : ℕ → Option ℕ) where
  -- the copy of a peer is under the label of its number
  abbrev pub IsCopiedUnder : ℕ → Peer → Type 0
  IsCopiedUnder n peer = copy_of request (table_of (n, peer)) ≡ option_map (λ label. laws.copy_to (n, label)) (label_at n)

  joined : (n : ℕ) (o : Option ℕ) → option_map (λ label. laws.copy_to (n, label)) o ≡ option_map laws.copy_to (option_map (λ label. (n, label)) o)
  joined n None = refl
  joined n (Some label) = refl

  pub copies_under : (entries : List (ℕ × Peer)) → AllByRecursion (λ (e : ℕ × Peer). IsCopiedUnder e.0 e.1) entries
      → filter_map (copy_of request) (map table_of entries) ≡ map laws.copy_to (leaves_of label_at entries)
  copies_under [] all = refl
  copies_under (entry ∷ entries) all =
      (λ i. cons_option ((all.0 ∙ joined entry.0 (label_at entry.0)) i) (copies_under entries all.1 i))
      ∙ map_cons (leaf_of label_at entry) (leaves_of label_at entries)
