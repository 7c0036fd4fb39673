-- What the reader of one message answers.
use Rattle.std.specs.Prelude.{◌<◌, ◌≤◌, ℕ, [], ◌∷◌, ⊤}
use Rattle.mv_base.specs.framing.Cut as cuts
use Rattle.mv_base.specs.framing.Cut.Front.{more, whole, bad}
use Rattle.bgp_messages.specs.declared.bgp_attributes.update.Message.{Message}
use Rattle.bgp_messages.specs.declared.bgp_attributes.fault.StreamFault.{StreamFault}
use Rattle.bgp_messages.specs.declared.bgp_update.front.Front.{Front}
use Rattle.bgp_messages.specs.declared.bgp_update.front.Front.TheVariants.{More, Whole, Bad}

-- what stands at the front, as a message alone
abbrev pub front_of : Front → cuts.Front Message StreamFault
front_of More = more
front_of (Whole len message) = whole len (message ∷ [])
front_of (Bad offset fault) = bad [] offset fault

-- a message has octets, and these are there; a fault stands among them
abbrev pub IsRoom : Front → ℕ → Type 0
IsRoom More len = ⊤
IsRoom (Whole n message) len = (0 < n) × (n ≤ len)
IsRoom (Bad offset fault) len = offset ≤ len
