use Rattle.std.proofs.Common.{length, drop, ◌∙◌}
use Rattle.mv_base.proofs.Fields.{put_at_front}
use Rattle.mldp.specs.mldp_fec.Spelling.{written}
use Rattle.mldp.proofs.mldp_fec.writing.round_trip.Goals as goal

pub returns : goal.returns
returns c =
    let text = written c.args.fec.now in
    c.decode.ensures.only_spelled c.args.fec.now text (drop (length text) c.args.out.now) c.requires.spelled
    (c.encode.ensures.octets ∙ put_at_front c.args.out.now text)
