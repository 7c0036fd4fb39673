-- Which flows an interface asks for (RFC 7761 section 4.1.5).
use Rattle.std.specs.Prelude.{ℕ, ◌||◌, ◌&&◌, not, Bool, Option}
use Rattle.pim_defs.specs.declared.expiry.Expiry.{Expiry}
use Rattle.pim_defs.specs.Expiry.{counts}

-- Whether an interface asks for (S,G) at the clock, its entries (S,G), (*,G) and (S,G,rpt) having these expiries: (S,G) is
-- joined; or (*,G) is joined, (S,G) is not pruned off the shared tree, and S is known to send to G.
abbrev pub asks_by : ℕ → Bool → Option Expiry → Option Expiry → Option Expiry → Bool
asks_by clock active joined shared pruned = counts clock joined || (counts clock shared && not (counts clock pruned) && active)
