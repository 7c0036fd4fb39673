use Rattle.std.proofs.Common.{length, drop, ◌∙◌}
use Rattle.mv_base.proofs.Fields.{put_at_front}
use Rattle.bgp_values.specs.mvpn_nlri.Spelling.{written}
use Rattle.bgp_values.proofs.mvpn_nlri.writing.round_trip.Goals as goal

pub returns : goal.returns
returns c =
    let text = written c.args.route.now in
    c.decode.ensures.only_spelled c.args.route.now text (drop (length text) c.args.out.now) c.requires.spelled
    (c.encode.ensures.octets ∙ put_at_front c.args.out.now text)
