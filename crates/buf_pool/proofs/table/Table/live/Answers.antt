use Rattle.std.proofs.Common.{ap}
use Rattle.buf_pool.specs.Stock.{Stock}
use Rattle.buf_pool.proofs.TableLemmas.{all_held}
use Rattle.buf_pool.proofs.table.Table.live.Goals as goal

pub returns-clause-held : goal.returns-clause-held
returns-clause-held c = all_held c.self.inside.blocks.items c.args.self.now.held (ap (λ (t : Stock). t.held) c.self.view_is)
