use Rattle.std.proofs.Common.{◌≡◌, take}
use Rattle.network_acts.specs.Instant.{Instant, IsWorld}
use Rattle.network_events.specs.Datagrams.{ways_of, ways_of_links}
use Rattle.network_events.proofs.draining.standing.Given as goal

abbrev pub invariant-loop-link : goal.invariant-loop-link
invariant-loop-link l = (at : Instant) → IsWorld at l.network → l.ways ≡ ways_of at.world (ways_of_links (take l.link-index l.link-items))
