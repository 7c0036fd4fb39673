-- Tables of routes kept towards a peer and taken from one (RFC 4271 section 3.2). What an outbox or an inbox holds is seen as
-- the entries in the keys' order; with that order, these are finite maps.
use Rattle.std.specs.Prelude.{Bool, List, [], if◌then◌else◌}
use Rattle.std.specs.declared.cmp.Ordering.{Ordering}
use Rattle.std.specs.FinMap.{FinMap, entries, from_sorted}
use Rattle.mv_base.specs.declared.table_defs.change.Change.{Change}
use Rattle.mv_base.specs.table_defs.Changes.{changes}

-- what is kept towards a peer: whether it is reached, the routes that it is to have, and those that it was sent
pub record RibOut {K : Type 0} (cmp : K → K → Ordering) (V : Type 0) : Type 0 where
  pub up : Bool
  pub set : FinMap cmp V
  pub sent : FinMap cmp V

-- the same with each table as its entries in the keys' order
pub record Rows (K V : Type 0) : Type 0 where
  pub up : Bool
  pub set : List (K × V)
  pub sent : List (K × V)

abbrev pub rows_of : {K V : Type 0} {cmp : K → K → Ordering} → RibOut cmp V → Rows K V
rows_of rib = record { up = rib.up; set = entries rib.set; sent = entries rib.sent }

-- what is kept towards a peer, as an outbox has it
abbrev pub rib_out : {K V : Type 0} (cmp : K → K → Ordering) → Rows K V → RibOut cmp V
rib_out cmp rows = record { up = rows.up; set = from_sorted rows.set; sent = from_sorted rows.sent }

-- the routes taken from a peer, as an inbox has them
abbrev pub rib_in : {K V : Type 0} (cmp : K → K → Ordering) → List (K × V) → FinMap cmp V
rib_in cmp rows = from_sorted rows

-- the changes that the peer is still to be sent: none while it is not reached
abbrev pub pending : {K V : Type 0} {cmp : K → K → Ordering} → (V → V → Bool) → RibOut cmp V → List (Change K V)
pending same rib = if rib.up then changes same rib.sent rib.set else []

-- once the peer was sent them
abbrev pub flushed : {K V : Type 0} {cmp : K → K → Ordering} → RibOut cmp V → RibOut cmp V
flushed rib = if rib.up then record rib { sent = rib.set } else rib
