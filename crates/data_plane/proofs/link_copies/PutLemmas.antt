-- Copies of a new datagram, put on hops one after another, and a buffer that is given back more than once.
use Rattle.std.proofs.Common.{◌≡◌, ◌∙◌, refl, sym, ap, arith, ℕ, ◌+◌, ◌<◌, ◌≤◌, ◌==◌, Bool, true, false, cond, List, [], ◌∷◌, ◌++◌, get_or, length, map, take, Some, subst}
use Rattle.std.specs.List.{count_by, filter}
use Rattle.std.proofs.lemmas.Bool.{eq-eqb}
use Rattle.std.proofs.lemmas.List.{append-nil, append_assoc, length-append, map-append, take_more}
use Rattle.std.proofs.lemmas.List.Elements.{filter-append}
use Rattle.indexmap.specs.IndexMap as kept
use Rattle.indexmap.specs.IndexMap.{IsUnique}
use Rattle.buf_pool.specs.Held.{Buffers, given_back}
use Rattle.mv_base.specs.declared.ids.NodeId.{NodeId}
use Rattle.data_plane.specs.declared.link_copies.hop.Hop.{Hop}
use Rattle.data_plane.specs.link_copies.CopiesData.{Current, KeptCopy, Ways, copy_on, count_of, leads_over, put_on}
use Rattle.data_plane.specs.link_copies.Fading.{Fades}
use Rattle.data_plane.specs.link_copies.Kept.{ArePut, WayMap, copies_on, is_way, passing, total, ways_of}
use Rattle.data_plane.proofs.link_copies.Holdings.{passes}
use Rattle.data_plane.proofs.link_copies.Landing.{one_after}
use Rattle.data_plane.proofs.link_copies.Lists.{count-push}
use Rattle.data_plane.proofs.link_copies.Pools.{back_counted, back_fades, fades_twice}
use Rattle.data_plane.proofs.link_copies.Sums.{copies_in, total_changes, unchanged}

no_more : (b : Bool) → cond {A = ℕ} b 0 0 ≡ 0
no_more true = refl
no_more false = refl

one_longer : (b : Bool) (count : ℕ) → cond b count 0 + cond {A = ℕ} b 1 0 ≡ cond b (count + 1) 0
one_longer true count = refl
one_longer false count = refl

module _ (ttl now : ℕ) (datagram : Current) where
  abbrev copy_over : Hop → KeptCopy
  copy_over hop = copy_on ttl now datagram hop.branch

  over_one : (b : Bool) (hop : Hop) → map copy_over (cond b (hop ∷ []) []) ≡ cond b (copy_over hop ∷ []) []
  over_one true hop = refl
  over_one false hop = refl

  -- one hop more
  put_on_more : (hops : List Hop) (hop : Hop) (u n : NodeId)
      → put_on ttl now datagram (hops ++ hop ∷ []) u n ≡ put_on ttl now datagram hops u n ++ cond (leads_over u n hop) (copy_over hop ∷ []) []
  put_on_more hops hop u n =
      ap (map copy_over) (filter-append (leads_over u n) hops (hop ∷ []))
      ∙ map-append copy_over (filter (leads_over u n) hops) (filter (leads_over u n) (hop ∷ []))
      ∙ ap (λ (more : List KeptCopy). put_on ttl now datagram hops u n ++ more) (over_one (leads_over u n hop) hop)

  pub none_put : (m : WayMap) → IsUnique is_way m → ArePut ttl now datagram [] m m
  none_put m unique = record {
    unique = unique;
    copies = λ u n. sym (append-nil (copies_on m (u, n)));
    more = λ test. omega (arith, no_more (test datagram.number datagram.buffer));
    count = omega arith;
  }

  module _ (hops : List Hop) (hop : Hop) (old mid new : WayMap) (puts : ArePut ttl now datagram hops old mid) (unique : IsUnique is_way new) where
    -- a copy is put on the next hop
    pub next_put : (k : KeptCopy) → k ≡ copy_over hop
        → ((q : NodeId × NodeId) → kept.get is_way new q
        ≡ cond (is_way (hop.from, hop.branch.node) q) (Some (copies_on mid (hop.from, hop.branch.node) ++ k ∷ [])) (kept.get is_way mid q))
        → ArePut ttl now datagram (hops ++ hop ∷ []) old new
    next_put k on each =
        let way : NodeId × NodeId = (hop.from, hop.branch.node) in
        let changes = λ (f : List KeptCopy → ℕ) (nothing : f [] ≡ 0). total_changes f nothing mid new way (Some (copies_on mid way ++ k ∷ [])) each in
        record {
          unique = unique;
          copies = λ u n.
              one_after mid new hop.from hop.branch.node k each u n
              ∙ (λ i. puts.copies u n i ++ cond (leads_over u n hop) (on i ∷ []) [])
              ∙ append_assoc (copies_on old (u, n)) (put_on ttl now datagram hops u n) (cond (leads_over u n hop) (copy_over hop ∷ []) [])
              ∙ ap (λ (more : List KeptCopy). copies_on old (u, n) ++ more) (sym (put_on_more hops hop u n));
          more = λ test. omega (
            arith,
            puts.more test,
            changes (count_by (passes test)) refl,
            count-push (passes test) (copies_on mid way) k,
            ap (λ (x : KeptCopy). cond {A = ℕ} (passes test x) 1 0) on,
            one_longer (test datagram.number datagram.buffer) (length hops),
            ap (λ (count : ℕ). cond (test datagram.number datagram.buffer) count 0) (length-append hops (hop ∷ [])),
          );
          count = omega (
            arith,
            puts.count,
            changes length refl,
            length-append (copies_on mid way) (k ∷ []),
            length-append hops (hop ∷ []),
          );
        }

  -- the ways have stayed
  pub still_put : (hops : List Hop) (old mid new : WayMap) → ArePut ttl now datagram hops old mid → IsUnique is_way new
      → ((q : NodeId × NodeId) → kept.get is_way new q ≡ kept.get is_way mid q) → ArePut ttl now datagram hops old new
  still_put hops old mid new puts unique each =
      let same : ways_of new ≡ ways_of mid = unchanged mid new each in
      record {
        unique = unique;
        copies = λ u n. ap copies_in (each (u, n)) ∙ puts.copies u n;
        more = λ test. ap (λ (w : Ways). total (count_by (passes test)) w) same ∙ puts.more test;
        count = ap (λ (w : Ways). total length w) same ∙ puts.count;
      }

  -- of the first hops
  pub first_put : (hops : List Hop) (place : ℕ) (d : Hop) (old mid new : WayMap) (k : KeptCopy) → place < length hops
      → ArePut ttl now datagram (take place hops) old mid → IsUnique is_way new
      → k ≡ copy_over (get_or hops place d)
      → ((q : NodeId × NodeId) → kept.get is_way new q
      ≡ cond (is_way ((get_or hops place d).from, (get_or hops place d).branch.node) q)
      (Some (copies_on mid ((get_or hops place d).from, (get_or hops place d).branch.node) ++ k ∷ [])) (kept.get is_way mid q))
      → ArePut ttl now datagram (take (place + 1) hops) old new
  first_put hops place d old mid new k within puts unique on each =
      subst (λ (l : List Hop). ArePut ttl now datagram l old new) (sym (take_more hops place d within))
      (next_put (take place hops) (get_or hops place d) old mid new puts unique k on each)

-- ---- so many fewer hold a buffer

pub record OnRest (old : Buffers) (buffer fewer : ℕ) (new : Buffers) : Type 0 where
  pub counted : (name : ℕ) → count_of new name + cond (buffer == name) fewer 0 ≡ count_of old name
  pub fades : Fades old new

counts_none : (b : Bool) (count : ℕ) → count + cond b 0 0 ≡ count
counts_none true count = omega arith
counts_none false count = omega arith

pub none_back : (m : Buffers) (buffer : ℕ) → OnRest m buffer 0 m
none_back m buffer = record {
  counted = λ name. counts_none (buffer == name) (count_of m name);
  fades = record { octets = λ name thereafter is. is; held = λ all. all };
}

module _ (old mid : Buffers) (buffer fewer : ℕ) (on : OnRest old buffer fewer mid) where
  pub still_held : (rest : ℕ) → rest ≤ count_of old buffer → fewer < rest → 0 < count_of mid buffer
  still_held rest most more = omega (arith, most, more, on.counted buffer, ap (λ (b : Bool). cond b fewer 0) (eq-eqb buffer buffer refl))

  pub one_back : 0 < count_of mid buffer → (new : Buffers) → new ≡ given_back mid buffer → OnRest old buffer (fewer + 1) new
  one_back live new is = subst (λ (m : Buffers). OnRest old buffer (fewer + 1) m) (sym is) (record {
    counted = λ name. omega (arith, on.counted name, back_counted mid buffer live name, one_longer (buffer == name) fewer);
    fades = fades_twice old mid (given_back mid buffer) on.fades (back_fades mid buffer live);
  })
