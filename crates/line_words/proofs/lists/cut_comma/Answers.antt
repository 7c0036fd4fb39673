use Rattle.std.proofs.Common.{sym}
use Rattle.line_words.proofs.ListFacts.{comma_found, no_comma}
use Rattle.line_words.proofs.lists.cut_comma.Goals as goal

pub returns-in-Some : goal.returns-in-Some
returns-in-Some c = comma_found c.args.text.now c.in-Some.part.now c.in-Some.rest.now (sym c.in-Some.ensures)

pub returns-in-None : goal.returns-in-None
returns-in-None c = no_comma c.args.text.now (sym c.in-None.ensures)
