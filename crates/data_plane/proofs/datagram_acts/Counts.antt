-- How many copies there are, and how many datagrams have one.
use Rattle.std.proofs.Common.{◌≡◌, List, [], ◌∷◌, map, length, None, refl, ap, ◌∙◌, arith}
use Rattle.std.specs.FinMap as maps
use Rattle.std.specs.List.{flat_map}
use Rattle.network_defs.specs.Counts.{all_copies, datagrams_with_copy, link_ways}
use Rattle.network_defs.specs.World.{LinkCopy, World, scenario_of}
use Rattle.data_plane.specs.link_copies.CopiesData.{AreNumbered, CopiesData, HasWays, IsShared, KeptCopy, all_kept, copies_on_ways, kept_at}
use Rattle.data_plane.proofs.link_copies.AsMany.{shared_as_many}
use Rattle.data_plane.proofs.link_copies.WayLists.{as_many_on_ways, datagrams_on_ways}
use Rattle.data_plane.specs.datagram_acts.Stored.{AreLinked, HasBuffer, Stores}
use Rattle.data_plane.proofs.datagram_acts.Along.{all_weaker}
use Rattle.data_plane.proofs.datagram_acts.Numbers.{numbered_within}

none_mapped : {X Y : Type 0} (f : X → Y) (xs : List X) → map f xs ≡ [] → xs ≡ []
none_mapped f [] is = refl
none_mapped f (x ∷ xs) is = absurd (omega (arith, ap length is))

module _ (world : World) (d : CopiesData) (stores : Stores world d) where
  numbered_copies : AreNumbered d (length world.datagrams)
  numbered_copies u n =
      all_weaker (HasBuffer world.datagrams d.buffers) _ (kept_at d u n) (λ k has. numbered_within world.datagrams k.copy.number has.datagram has.is)
      (stores.buffers u n)

  on_links : copies_on_ways (link_ways (scenario_of world)) d ≡ all_copies world
  on_links i = flat_map (λ way. stores.copies way.0 way.1 i) (link_ways (scenario_of world))

  module _ (linked : AreLinked world) where
    pub has_ways : HasWays (link_ways (scenario_of world)) d
    has_ways =
        record {
          once = linked.once;
          all =
              λ u n none. none_mapped (λ (k : KeptCopy). k.copy) (kept_at d u n) (stores.copies u n ∙ linked.apart u n none);
        }

    pub as_many_copies : length (all_kept d) ≡ length (all_copies world)
    as_many_copies = as_many_on_ways d (link_ways (scenario_of world)) has_ways ∙ ap (λ (copies : List LinkCopy). length copies) on_links

    pub as_many_datagrams : IsShared d → d.current ≡ None → maps.len d.buffers ≡ datagrams_with_copy (all_copies world) (length world.datagrams)
    as_many_datagrams account idle =
        shared_as_many d (length world.datagrams) account idle numbered_copies
        ∙ datagrams_on_ways d (link_ways (scenario_of world)) (length world.datagrams) has_ways
        ∙ ap (λ (copies : List LinkCopy). datagrams_with_copy copies (length world.datagrams)) on_links
