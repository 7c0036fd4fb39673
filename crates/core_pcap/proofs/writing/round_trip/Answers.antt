use Rattle.std.proofs.Common.{None, sym, subst, ◌∙◌}
use Rattle.core_pcap.specs.Spelling.{SpellsFile}
use Rattle.core_pcap.proofs.Files.{written_spells}
use Rattle.core_pcap.proofs.writing.round_trip.Goals as goal

pub returns : goal.returns
returns c =
    let hops = c.args.hops.now in
    c.read.ensures.only hops None (subst (SpellsFile hops) (sym (c.as_slice.ensures ∙ c.in_ok-octets.ensures)) (written_spells hops c.requires))
