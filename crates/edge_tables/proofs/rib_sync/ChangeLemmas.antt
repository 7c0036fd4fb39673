-- The maps that a flush hands out are the changes from what was sent to what is set.
use Rattle.std.proofs.Common.{◌≡◌, ◌≢◌, Bool, true, false, cond, T, List, [], ◌∷◌, ◌++◌, Option, Some, None, refl, sym, ap, subst, ◌∙◌}
use Rattle.std.specs.Prelude.{map, not, is_none}
use Rattle.std.specs.declared.cmp.Ordering.{Ordering}
use Rattle.std.specs.Cmp.{IsTotalOrder}
use Rattle.std.specs.Option.{option_eq, option_map}
use Rattle.std.specs.BTreeMap as tree
use Rattle.std.specs.FinMap.{IsAntisymmetric, get, get_tied, get-retain_keys, get-from_sorted, entries-from_sorted, from_sorted, same_map}
use Rattle.std.specs.FinMap.Entries.{is_sorted}
use Rattle.mv_base.specs.declared.table_defs.change.Change.TheVariants.{Reach, Unreach}
use Rattle.mv_base.specs.table_defs.Changes.{lost, news, changes, withdrawals, advertisements}
use Rattle.table_laws.specs.Words.{IsExact}
use Rattle.edge_tables.specs.rib_sync.Ribs.{RibOut, Rows, rows_of, rib_out, pending}
use Rattle.edge_tables.specs.declared.rib_sync.kept.Kept.{Kept}
use Rattle.edge_tables.specs.declared.rib_sync.kept.News.{News}
use Rattle.edge_tables.specs.rib_sync.Kept.{sent_by, sent_if, Agrees, IsWell, kept_rib, changes_in}
use Rattle.edge_tables.proofs.rib_sync.ListLemmas.{valued, find-lookup, sorted, sorted_valued, find-valued}
use Rattle.edge_tables.proofs.rib_sync.RibLemmas.{get-sent, get-set, seen_as}

is_false : (b : Bool) → b ≢ true → b ≡ false
is_false true h = absurd (h refl)
is_false false h = refl

differs : {V : Type 0} (same : V → V → Bool) → IsExact same → (sent : Option V) (value : V) → sent ≢ Some value
    → option_eq same sent (Some value) ≡ false
differs same exact None value h = refl
differs same exact (Some old) value h = is_false (same old value) (λ e. h (ap (λ v. Some v) ((exact old value).0 e)))

equal : {V : Type 0} (same : V → V → Bool) → IsExact same → (set : Option V) → cond (not (option_eq same set set)) set None ≡ None
equal same exact None = refl
equal same exact (Some value) = ap (λ b. cond (not b) (Some value) None) ((exact value value).1 refl)

gone_at : {V : Type 0} (old : Option V) (new : Option (News V)) (set : Option V) → Agrees old new set
    → cond (is_none set) (sent_by old new set) None ≡ old
gone_at (Some value) new set h = ap (λ o. cond (is_none o) (Some value) None) h.0
gone_at None (Some n) set h = ap (λ o. cond (is_none o) n.sent None) h.0
gone_at None None None h = refl
gone_at None None (Some value) h = refl

news_at : {V : Type 0} (same : V → V → Bool) → IsExact same → (old : Option V) (new : Option (News V)) (set : Option V) → Agrees old new set
    → cond (not (option_eq same (sent_by old new set) set)) set None ≡ option_map (λ n. n.value) new
news_at same exact (Some value) new set h =
    ap (λ o. cond (not (option_eq same (Some value) o)) o None) h.0 ∙ ap (option_map (λ (n : News _). n.value)) (sym h.1)
news_at same exact None (Some n) set h =
    ap (λ o. cond (not (option_eq same n.sent o)) o None) h.0 ∙ ap (λ b. cond (not b) (Some n.value) None) (differs same exact n.sent n.value h.1)
news_at same exact None None set h = equal same exact set

reached : {K V : Type 0} (es : List (K × News V)) → map (λ e. Reach e.0 e.1) (map valued es) ≡ map (λ e. Reach e.0 e.1.value) es
reached [] = refl
reached (e ∷ es) = ap (λ (rest : List _). Reach e.0 e.1.value ∷ rest) (reached es)

module _ {K V : Type 0} (cmp : K → K → Ordering) (total : IsTotalOrder cmp) (keys : IsAntisymmetric cmp) (same : V → V → Bool) (values : IsExact same)
    (kept : Kept K V) (well : IsWell cmp kept) where
  abbrev rib : RibOut cmp V
  rib = kept_rib cmp kept

  sent_by_at : kept.up ≡ true → (q : K) → get rib.sent q ≡ sent_by (tree.get cmp kept.gone q) (tree.get cmp kept.news q) (tree.get cmp kept.set q)
  sent_by_at up q = get-sent cmp total kept q ∙ ap (λ b. sent_if b (tree.get cmp kept.gone q) (tree.get cmp kept.news q) (tree.get cmp kept.set q)) up

  lost_is : kept.up ≡ true → lost rib.sent rib.set ≡ from_sorted kept.gone.entries
  lost_is up = same_map total keys (lost rib.sent rib.set) (from_sorted kept.gone.entries) (λ q.
      get-retain_keys rib.sent (λ own. is_none (get rib.set own)) q (λ own tied. ap is_none (get_tied total rib.set q own tied))
      ∙ (λ i. cond (is_none (get-set cmp total kept q i)) (sent_by_at up q i) None)
      ∙ gone_at (tree.get cmp kept.gone q) (tree.get cmp kept.news q) (tree.get cmp kept.set q) (well.agrees q)
      ∙ sym (get-from_sorted cmp kept.gone.entries q (sorted cmp kept.gone.entries well.gone_ordered) ∙ find-lookup cmp kept.gone.entries q))

  news_sorted : T (is_sorted cmp (map valued kept.news.entries))
  news_sorted = subst T (sym (sorted_valued cmp kept.news.entries)) (sorted cmp kept.news.entries well.news_ordered)

  news_is : kept.up ≡ true → news same rib.sent rib.set ≡ from_sorted (map valued kept.news.entries)
  news_is up = same_map total keys (news same rib.sent rib.set) (from_sorted (map valued kept.news.entries)) (λ q.
      get-retain_keys rib.set (λ own. not (option_eq same (get rib.sent own) (get rib.set own))) q
      (λ own tied. λ i. not (option_eq same (get_tied total rib.sent q own tied i) (get_tied total rib.set q own tied i)))
      ∙ (λ i. cond (not (option_eq same (sent_by_at up q i) (get-set cmp total kept q i))) (get-set cmp total kept q i) None)
      ∙ news_at same values (tree.get cmp kept.gone q) (tree.get cmp kept.news q) (tree.get cmp kept.set q) (well.agrees q)
      ∙ sym (get-from_sorted cmp (map valued kept.news.entries) q news_sorted ∙ find-valued cmp kept.news.entries q
      ∙ ap (option_map (λ (n : News V). n.value)) (find-lookup cmp kept.news.entries q)))

  withdrawn : kept.up ≡ true → withdrawals (lost rib.sent rib.set) ≡ map (λ e. Unreach e.0) kept.gone.entries
  withdrawn up =
      ap withdrawals (lost_is up) ∙ ap (map (λ e. Unreach e.0))
      (entries-from_sorted cmp kept.gone.entries (sorted cmp kept.gone.entries well.gone_ordered))

  advertised : kept.up ≡ true → advertisements (news same rib.sent rib.set) ≡ map (λ e. Reach e.0 e.1.value) kept.news.entries
  advertised up =
      ap advertisements (news_is up) ∙ ap (map (λ e. Reach e.0 e.1)) (entries-from_sorted cmp (map valued kept.news.entries) news_sorted)
      ∙ reached kept.news.entries

  pending_up : (up : Bool) → kept.up ≡ up → changes_in kept.gone kept.news ≡ cond up (changes same rib.sent rib.set) []
  pending_up true is = λ i. sym (withdrawn is) i ++ sym (advertised is) i
  pending_up false is =
      let quiet = well.quiet is in
      λ i. map (λ e. Unreach e.0) (quiet.0 i) ++ map (λ e. Reach e.0 e.1.value) (quiet.1 i)

  pub handed_out : (old : Rows K V) → rows_of rib ≡ old → changes_in kept.gone kept.news ≡ pending same (rib_out cmp old)
  handed_out old is = pending_up kept.up refl ∙ ap (pending same) (sym (seen_as cmp total rib old is))

-- no change is handed out where nothing is gone and nothing is new
pub no_changes : {K V : Type 0} (gone : List (K × V)) (news : List (K × News V)) → gone ≡ [] → news ≡ []
    → map (λ e. Unreach e.0) gone ++ map (λ e. Reach e.0 e.1.value) news ≡ []
no_changes gone news h k = λ i. map (λ e. Unreach e.0) (h i) ++ map (λ e. Reach e.0 e.1.value) (k i)

-- and only there
pub none_handed : {K V : Type 0} (gone : List (K × V)) (news : List (K × News V))
    → map (λ e. Unreach e.0) gone ++ map (λ e. Reach e.0 e.1.value) news ≡ [] → (gone ≡ []) × (news ≡ [])
none_handed [] [] h = (refl, refl)
none_handed [] (one ∷ news) h = absurd cc
none_handed (one ∷ gone) news h = absurd cc
