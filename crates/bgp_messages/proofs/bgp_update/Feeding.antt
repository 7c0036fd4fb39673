-- What a feed answers and leaves, over plain variables.
use Rattle.std.proofs.Common.{◌≡◌, ℕ, List, length, Result, Ok, subst}
use Rattle.std.specs.Result.{IfOk}
use Rattle.mv_base.specs.Octets.{IsOctets}
use Rattle.mv_base.specs.declared.memory.NoMemory.{NoMemory}
use Rattle.mv_base.specs.framing.Cut.{cut, IsCutting}
use Rattle.mv_base.specs.framing.Feed.{Fed}
use Rattle.mv_base.specs.framing.Feeding.{Appends, Accepts, FeedIs}
use Rattle.mv_base.specs.declared.framing.cutting.Cutting.{Cutting}
use Rattle.mv_base.specs.declared.framing.fault.FeedFault.{FeedFault}
use Rattle.mv_base.proofs.framing.Feedings.{fed_exactly}
use Rattle.bgp_messages.specs.declared.bgp_attributes.update.Message.{Message}
use Rattle.bgp_messages.specs.declared.bgp_attributes.fault.StreamFault.{StreamFault}
use Rattle.bgp_messages.specs.bgp_update.Reading.{message_front}

-- the octets that the loop cut are those held back
pub fed_by_cutting : {X Y : Type 0} (old mid : Fed Message StreamFault) (piece before octets : List ℕ) (x : Y)
    (found : Result (Cutting Message StreamFault) NoMemory) (r : Result X (FeedFault StreamFault)) (new : Fed Message StreamFault)
    → Appends old piece (Ok x) mid → before ≡ old.held → octets ≡ mid.held → IsOctets octets
    → IfOk found (λ c. IsCutting octets (cut message_front octets) c.messages.items c.len c.fault) → Accepts mid (length before) found r new
    → FeedIs message_front old piece r new
fed_by_cutting old mid piece before octets x found r new appended held held_then fits cutting accepted =
    let P : List ℕ → Type 0 = λ xs. IsOctets xs × IfOk found (λ c. IsCutting xs (cut message_front xs) c.messages.items c.len c.fault) in
    let p = subst P held_then (fits, cutting) in
    fed_exactly message_front old mid piece x found r new appended p.0 p.1
    (subst (λ (xs : List ℕ). Accepts mid (length xs) found r new) held accepted)
