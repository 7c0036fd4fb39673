use Rattle.std.proofs.Common.{rules, ◌≡◌, ◌<◌, length, get_or}
use Rattle.vrf_trees.proofs.TableLemmas.{put-more}
use Rattle.vrf_trees.proofs.exchange.put_all.Goals as goal

pub loop-fec-preserved : goal.loop-fec-preserved
loop-fec-preserved c =
    let item : get_or c.args.fecs.now c.loop-fec.fec-index c.fec-item.result ≡ c.fec-item.result = search rules in
    let within : c.loop-fec.fec-index < length c.args.fecs.now = search rules in
    record {
      each = λ fec. put-more fec c.fec-item.result c.args.fecs.now c.loop-fec.set.keys c.args.set.now.keys c.insert.new.self.keys c.loop-fec.fec-index
          c.fec-item.result within item
          (c.loop-fec.invariant.each fec) (c.in_ok-insert.ensures.updates.0 fec);
      once = c.insert.ensures.unique;
    }
