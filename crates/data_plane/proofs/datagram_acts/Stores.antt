-- What each call leaves of the datagrams and their octets.
use Rattle.std.proofs.Common.{◌≡◌, ℕ, ◌+◌, ◌-◌, ◌==◌, Bool, true, false, cond, List, [], ◌∷◌, ◌++◌, map, filter, length, slice_get, Option, None, Some, option_map, refl, sym, ap, subst, ◌∙◌, arith}
use Rattle.std.specs.FinMap as maps
use Rattle.std.specs.List.{AllByRecursion, remove}
use Rattle.std.proofs.lemmas.List.{length-append}
use Rattle.std.proofs.lemmas.Option.{slice_get-map}
use Rattle.buf_pool.specs.Held.{Buffers, IsLive}
use Rattle.mv_base.specs.declared.ids.NodeId.{NodeId}
use Rattle.label_defs.specs.declared.branch.Branch.{Branch as TreeBranch}
use Rattle.label_forwarding.specs.declared.branch.Branch.{Branch}
use Rattle.scenario_defs.specs.declared.scenario.Scenario.{Scenario}
use Rattle.network_defs.specs.Acts as acts
use Rattle.network_defs.specs.Acts.{with_branches, without_copy, aged}
use Rattle.network_defs.specs.Costs.{Cores}
use Rattle.network_defs.specs.World.{Datagram, LinkCopy, World, clock_of, numbered, scenario_of, start, with_copies}
use Rattle.data_plane.specs.link_copies.CopiesData.{CopiesData, Current, HasCopies, IsShared, KeepsBuffers, KeepsOctets, KeptCopy, Ways}
use Rattle.data_plane.specs.link_copies.CopiesData.{copy_on, current_of, hop_of, is_at, is_recent, kept_at, no_copies, octets_in, sent, way_cmp}
use Rattle.data_plane.specs.link_copies.Kept.{landed_of}
use Rattle.data_plane.specs.declared.link_copies.hop.Hop.{Hop}
use Rattle.data_plane.specs.declared.link_copies.kept.Landed.{Landed}
use Rattle.data_plane.proofs.link_copies.Basics.{not_some, some_equal}
use Rattle.data_plane.proofs.link_copies.Sums.{copies_in}
use Rattle.data_plane.proofs.link_copies.Pools.{held_from, octets_of}
use Rattle.data_plane.proofs.link_copies.Holders.{kept_lives}
use Rattle.data_plane.proofs.link_copies.Networks.{left_as, sent_as, aged_as}
use Rattle.data_plane.specs.datagram_acts.DatagramsView.{DatagramsView}
use Rattle.data_plane.specs.datagram_acts.Stored.{HasBuffer, IsIdle, Handles, HasLanded, with_datagram}
use Rattle.data_plane.proofs.datagram_acts.Along.{all_at, all_from, all_append, all_remove, all_filter, all_map, all_weaker}
use Rattle.data_plane.proofs.datagram_acts.Numbers.{numbered_still, numbered_next}

abbrev view : CopiesData → ℕ → List Hop → DatagramsView
view copies count hops = record { copies = copies; count = count; hops = hops }

abbrev pub Hold : List Datagram → Buffers → CopiesData → Type 0
Hold datagrams buffers copies = (u n : NodeId) → AllByRecursion (HasBuffer datagrams buffers) (kept_at copies u n)

-- ---- the copies that stay

-- while buffers live on, with more datagrams
pub still : (datagrams more : List Datagram) (old new : Buffers) → KeepsBuffers old new → (k : KeptCopy) → HasBuffer datagrams old k
    → HasBuffer (datagrams ++ more) new k
still datagrams more old new keeps k has = record {
  datagram = has.datagram;
  is = numbered_still datagrams more k.copy.number has.datagram has.is;
  octets = keeps k.buffer has.datagram.octets has.octets;
}

pub alive : (datagrams : List Datagram) (old new : Buffers) → KeepsBuffers old new → (k : KeptCopy) → HasBuffer datagrams old k
    → HasBuffer datagrams new k
alive datagrams old new keeps k has = record { datagram = has.datagram; is = has.is; octets = keeps k.buffer has.datagram.octets has.octets }

-- the buffers of copies live, with the octets that they had
outlast : (datagrams : List Datagram) (old new : CopiesData) → KeepsOctets old new → IsShared new → Hold datagrams old.buffers new
    → Hold datagrams new.buffers new
outlast datagrams old new keeps account hold u n =
    all_from (HasBuffer datagrams new.buffers) (kept_at new u n)
    (λ place k is. by k (all_at (HasBuffer datagrams old.buffers) (kept_at new u n) place k (hold u n) is) (kept_lives new u n place k account is))
  where
    by : (k : KeptCopy) → HasBuffer datagrams old.buffers k → IsLive new.buffers k.buffer → HasBuffer datagrams new.buffers k
    by k has live =
        let found = held_from new.buffers k.buffer live in
        let octets : octets_in new.buffers k.buffer ≡ Some found.0.octets = ap octets_of found.1 in
        record {
          datagram = has.datagram;
          is = has.is;
          octets = octets ∙ ap (λ x. Some x) (sym (keeps k.buffer has.datagram.octets found.0.octets has.octets octets));
        }

module _ (P : KeptCopy → Type 0) (old : CopiesData) (all : (u n : NodeId) → AllByRecursion P (kept_at old u n)) where
  without : (from to : NodeId) (place : ℕ) (u n : NodeId) (b : Bool)
      → AllByRecursion P (cond b (remove (kept_at old from to) place) (kept_at old u n))
  without from to place u n true = all_remove P (kept_at old from to) place (all from to)
  without from to place u n false = all u n

  removed : (new : CopiesData) (from to : NodeId) (place : ℕ)
      → ((u n : NodeId) → kept_at new u n ≡ cond (is_at from to u n) (remove (kept_at old from to) place) (kept_at old u n))
      → (u n : NodeId) → AllByRecursion P (kept_at new u n)
  removed new from to place each u n = subst (AllByRecursion P) (sym (each u n)) (without from to place u n (is_at from to u n))

-- ---- nothing is there

pub nothing_idle : (copies : CopiesData) (hops : List Hop) → copies ≡ no_copies → (scenario : Scenario) (cores : Cores)
    → IsIdle (start scenario cores) (view copies 0 hops)
nothing_idle copies hops is scenario cores = subst (λ (d : CopiesData). IsIdle (start scenario cores) (view d 0 hops)) (sym is) (record {
  stores = record {
    copies = λ u n. ap (map (λ (k : KeptCopy). k.copy)) (nothing u n);
    buffers =
        λ u n. subst (AllByRecursion (HasBuffer [] no_copies.buffers)) (sym (nothing u n)) tt;
  };
  none = refl;
  count = refl;
})
  where
    nothing : (u n : NodeId) → kept_at no_copies u n ≡ []
    nothing u n = ap copies_in (maps.get-empty way_cmp (u, n))

-- ---- the datagram leaves

same_datagrams : (node : NodeId) (ttl number : ℕ) (branches : List TreeBranch) (world : World)
    → (with_branches node ttl number branches world).datagrams ≡ world.datagrams
same_datagrams node ttl number [] world = refl
same_datagrams node ttl number (branch ∷ more) world =
    same_datagrams node ttl number more (with_copies node branch.node (world.copies node branch.node ++ acts.copy_on world ttl number branch ∷ [])
    world)

all_sent : (P : KeptCopy → Type 0) (current : Current) (node : NodeId) (ttl now : ℕ) (branches : List Branch)
    → ((branch : Branch) → P (copy_on ttl now current branch))
    → (u n : NodeId) → AllByRecursion P (sent (Some current) node ttl now branches u n)
all_sent P current node ttl now branches each u n = by (u.0 == node.0)
  where
    by : (b : Bool) → AllByRecursion P (cond b (map (copy_on ttl now current) (filter (λ branch. n.0 == branch.node.0) branches)) [])
    by true = all_map P (copy_on ttl now current) (filter (λ branch. n.0 == branch.node.0) branches) each
    by false = tt

pub left_handles : (world : World) (old new : CopiesData) (count number : ℕ) (hops : List Hop) (datagram : Datagram) (node : NodeId) (ttl : ℕ)
    (branches : List TreeBranch)
    → Handles world number datagram (view old count hops)
    → ((u n : NodeId) → kept_at new u n ≡ kept_at old u n ++ sent old.current node ttl (clock_of world) (map hop_of branches) u n)
    → new.current ≡ old.current → KeepsBuffers old.buffers new.buffers
    → Handles (with_branches node ttl number branches world) number datagram (view new count hops)
left_handles world old new count number hops datagram node ttl branches own each current keeps =
    let datagrams = same_datagrams node ttl number branches world in
    record {
      stores = record {
        copies = subst (λ (m : ℕ). HasCopies new (with_branches node ttl m branches world)) own.number_is
            (sent_as old new world own.current node ttl branches own.stores.copies put);
        buffers = λ u n. subst (λ (ds : List Datagram). AllByRecursion (HasBuffer ds new.buffers) (kept_at new u n)) (sym datagrams) (hold u n);
      };
      current = own.current;
      is = current ∙ own.is;
      number_is = own.number_is;
      octets = keeps own.current.buffer datagram.octets own.octets;
      of_it = ap (λ (ds : List Datagram). numbered ds number) datagrams ∙ own.of_it;
      count = own.count ∙ sym (ap (λ (ds : List Datagram). length ds) datagrams);
    }
  where
    put : (u n : NodeId) → kept_at new u n ≡ kept_at old u n ++ sent (Some own.current) node ttl (clock_of world) (map hop_of branches) u n
    put u n = each u n ∙ ap (λ (o : Option Current). kept_at old u n ++ sent o node ttl (clock_of world) (map hop_of branches) u n) own.is

    of_it : (branch : Branch) → HasBuffer world.datagrams new.buffers (copy_on ttl (clock_of world) own.current branch)
    of_it branch = record {
      datagram = datagram;
      is = ap (numbered world.datagrams) own.number_is ∙ own.of_it;
      octets = keeps own.current.buffer datagram.octets own.octets;
    }

    hold : (u n : NodeId) → AllByRecursion (HasBuffer world.datagrams new.buffers) (kept_at new u n)
    hold u n = subst (AllByRecursion (HasBuffer world.datagrams new.buffers)) (sym (put u n))
        (all_append (HasBuffer world.datagrams new.buffers) (kept_at old u n)
        (sent (Some own.current) node ttl (clock_of world) (map hop_of branches) u n)
        (all_weaker (HasBuffer world.datagrams old.buffers) (HasBuffer world.datagrams new.buffers) (kept_at old u n)
        (alive world.datagrams old.buffers new.buffers keeps) (own.stores.buffers u n))
        (all_sent (HasBuffer world.datagrams new.buffers) own.current node ttl (clock_of world) (map hop_of branches) of_it u n))

-- ---- a copy lands

pub landed_handles : (world : World) (old new : CopiesData) (count : ℕ) (hops : List Hop) (from to : NodeId) (place : ℕ) (landed : Landed)
    → IsIdle world (view old count hops)
    → option_map landed_of (slice_get (kept_at old from to) (place - 1)) ≡ Some landed
    → ((u n : NodeId) → kept_at new u n ≡ cond (is_at from to u n) (remove (kept_at old from to) (place - 1)) (kept_at old u n))
    → new.current ≡ option_map current_of (slice_get (kept_at old from to) (place - 1)) → new.buffers ≡ old.buffers
    → HasLanded world from to place landed (view new count hops)
landed_handles world old new count hops from to place landed idle told each current buffers = by (slice_get (kept_at old from to) (place - 1)) refl
  where
    by : (o : Option KeptCopy) → slice_get (kept_at old from to) (place - 1) ≡ o → HasLanded world from to place landed (view new count hops)
    by None is = absurd (not_some landed (ap (option_map landed_of) (sym is) ∙ told))
    by (Some k) is =
        let has = all_at (HasBuffer world.datagrams old.buffers) (kept_at old from to) (place - 1) k (idle.stores.buffers from to) is in
        let same : landed_of k ≡ landed = some_equal (landed_of k) landed (ap (option_map landed_of) (sym is) ∙ told) in
        record {
          copy = k.copy;
          datagram = has.datagram;
          at = ap (λ (copies : List LinkCopy). slice_get copies (place - 1)) (sym (idle.stores.copies from to))
              ∙ slice_get-map (λ (k : KeptCopy). k.copy) (kept_at old from to) (place - 1) ∙ ap (option_map (λ (k : KeptCopy). k.copy)) is;
          label = ap (λ (l : Landed). l.label) (sym same);
          ttl = ap (λ (l : Landed). l.ttl) (sym same);
          number = ap (λ (l : Landed). l.number) (sym same);
          handles = record {
            stores = record {
              copies = left_as old new world from to place idle.stores.copies each;
              buffers = removed (HasBuffer world.datagrams new.buffers) old
                  (λ u n. subst (λ (b : Buffers). AllByRecursion (HasBuffer world.datagrams b) (kept_at old u n)) (sym buffers)
                  (idle.stores.buffers u n)) new from to (place - 1) each;
            };
            current = current_of k;
            is = current ∙ ap (option_map current_of) is;
            number_is = refl;
            octets = ap (λ (b : Buffers). octets_in b k.buffer) buffers ∙ has.octets;
            of_it = has.is;
            count = idle.count;
          };
        }

-- ---- the datagram is no longer handled, a copy is dropped, and old copies are

pub finished_idle : (world : World) (old new : CopiesData) (count number : ℕ) (hops : List Hop) (datagram : Datagram)
    → Handles world number datagram (view old count hops)
    → new.current ≡ None → new.ways ≡ old.ways → KeepsOctets old new → IsShared new → IsIdle world (view new count hops)
finished_idle world old new count number hops datagram own none ways keeps account = record {
  stores = record {
    copies = λ u n. ap (map (λ (k : KeptCopy). k.copy)) (same u n) ∙ own.stores.copies u n;
    buffers =
        outlast world.datagrams old new keeps account
        (λ u n. subst (AllByRecursion (HasBuffer world.datagrams old.buffers)) (sym (same u n)) (own.stores.buffers u n));
  };
  none = none;
  count = own.count;
}
  where
    same : (u n : NodeId) → kept_at new u n ≡ kept_at old u n
    same u n = ap (λ (w : Ways). kept_at (record old { ways = w }) u n) ways

pub dropped_idle : (world : World) (old new : CopiesData) (count : ℕ) (hops : List Hop) (from to : NodeId) (place : ℕ)
    → IsIdle world (view old count hops)
    → ((u n : NodeId) → kept_at new u n ≡ cond (is_at from to u n) (remove (kept_at old from to) (place - 1)) (kept_at old u n))
    → new.current ≡ None → KeepsOctets old new → IsShared new → IsIdle (without_copy world from to place) (view new count hops)
dropped_idle world old new count hops from to place idle each none keeps account = record {
  stores = record {
    copies = left_as old new world from to place idle.stores.copies each;
    buffers =
        outlast world.datagrams old new keeps account
        (removed (HasBuffer world.datagrams old.buffers) old idle.stores.buffers new from to (place - 1) each);
  };
  none = none;
  count = idle.count;
}

pub aged_idle : (world : World) (old new : CopiesData) (count : ℕ) (hops : List Hop) → IsIdle world (view old count hops)
    → ((u n : NodeId) → kept_at new u n ≡ filter (is_recent (clock_of world) (scenario_of world).life) (kept_at old u n))
    → new.current ≡ old.current → KeepsOctets old new → IsShared new → IsIdle (aged world) (view new count hops)
aged_idle world old new count hops idle each current keeps account = record {
  stores = record {
    copies = aged_as old new world idle.stores.copies each;
    buffers = outlast world.datagrams old new keeps account (λ u n.
        subst (AllByRecursion (HasBuffer world.datagrams old.buffers)) (sym (each u n))
        (all_filter (HasBuffer world.datagrams old.buffers) (is_recent (clock_of world) (scenario_of world).life) (kept_at old u n)
        (idle.stores.buffers u n)));
  };
  none = current ∙ idle.none;
  count = idle.count;
}
