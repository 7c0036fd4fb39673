use Rattle.memchr.specs.Find.{is_byte}
use Rattle.line_words.proofs.PlaceLemmas.{first_place}
use Rattle.line_words.proofs.words.place_of.Goals as goal

pub returns : goal.returns
returns c = first_place (is_byte c.args.octet) c.args.text.now c.memchr.result c.memchr.ensures
