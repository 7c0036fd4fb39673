use Rattle.std.proofs.Common.{refl, sym}
use Rattle.line_words.proofs.AddrLemmas.{read_as, none_written}
use Rattle.line_words.proofs.forms.addr_of.Goals as goal

pub returns-in-Ok : goal.returns-in-Ok
returns-in-Ok c =
    rw (sym c.in-Ok.ensures.cases.0) (read_as c.in-Ok.text.now c.read_text.result _ refl c.read_text.ensures.read c.read_text.ensures.only)

pub returns-in-Err : goal.returns-in-Err
returns-in-Err c = sym (none_written c.args.text.now _ refl c.in-Err.ensures.cases.0)
