use Rattle.std.proofs.Common.{◌≡◌, sym, subst, ◌∙◌}
use Rattle.pim_joinprune.specs.Spelling.{Spells, written}
use Rattle.pim_joinprune.proofs.WritingLemmas.{written_spells}
use Rattle.pim_joinprune.proofs.writing.round_trip.Goals as goal

pub returns : goal.returns
returns c =
    let value = c.args.value.now in
    let is : c.as_slice.result.now ≡ written value = c.as_slice.ensures ∙ c.in_ok-octets.ensures in
    c.decode.ensures.only_spelled value (subst (Spells value) (sym is) (written_spells value c.requires))
