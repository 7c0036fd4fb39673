-- The packet that a send makes.
use Rattle.std.specs.Prelude.{ℕ, List}
use Rattle.mv_base.specs.declared.addr.Addr.{Addr}
use Rattle.label_forwarding.specs.Written.{written}

-- the packet of that flow and payload, of the family of its source (RFC 791 section 3.1, RFC 8200 section 3)
abbrev pub packet : Addr → Addr → List ℕ → List ℕ
packet source group payload = written source group payload
