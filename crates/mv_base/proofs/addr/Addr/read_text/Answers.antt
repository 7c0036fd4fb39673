use Rattle.mv_base.proofs.AddrTextLemmas.{addr_read, addr_only}
use Rattle.mv_base.proofs.addr.Addr.read_text.Goals as goal

pub returns-clause-read : goal.returns-clause-read
returns-clause-read c = rw (c.read_octets.ensures, c.as_bytes.ensures.value) (addr_read c.args.text.now)

pub returns-clause-only : goal.returns-clause-only
returns-clause-only c = λ addr is. rw (c.read_octets.ensures, c.as_bytes.ensures.value) (addr_only c.args.text.now addr is)
