use Rattle.std.proofs.Common.{◌∙◌, ap, refl, sym, map, option_map}
use Rattle.std.proofs.lemmas.Option.{slice_get-map, slice_get_read}
use Rattle.line_words.specs.Words.{placed_word}
use Rattle.scenario_lines.proofs.CountLemmas.{at_extra}
use Rattle.scenario_lines.proofs.forms.count_fault.Goals as goal

pub returns-in-Some : goal.returns-in-Some
returns-in-Some c =
    let words = c.args.words.now in
    let got = slice_get_read words _ c.args.count c.in-Some.extra.now refl c.in-Some.ensures.lookup.3.0 c.in-Some.ensures.lookup.1 in
    c.fault_at.ensures ∙ sym (at_extra c.args.row (map placed_word words) c.args.count (placed_word c.in-Some.extra.now)
    (slice_get-map placed_word words c.args.count ∙ ap (option_map placed_word) got))
