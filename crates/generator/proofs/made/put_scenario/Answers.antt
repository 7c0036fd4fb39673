use Rattle.std.proofs.Common.{◌++◌}
use Rattle.generator.specs.Made as made
use Rattle.generator.proofs.TextLemmas.{more}
use Rattle.generator.proofs.made.put_scenario.Goals as goal

pub returns : goal.returns
returns c =
    let a = c.in_ok-put_edges.ensures in
    let b = more _ (made.each made.edge_line 32) (made.each made.core_line 16) _ _ a c.in_ok-put_cores.ensures in
    let d = more _ (made.each made.edge_line 32 ++ made.each made.core_line 16) (made.each made.ring_line 16) _ _ b c.in_ok-put_rings.ensures in
    let e = more _ (made.each made.edge_line 32 ++ made.each made.core_line 16 ++ made.each made.ring_line 16) (made.each made.spur_line 32) _ _ d
    c.in_ok-put_spurs.ensures in
    more _ (made.each made.edge_line 32 ++ made.each made.core_line 16 ++ made.each made.ring_line 16 ++ made.each made.spur_line 32)
    (made.each (λ edge. made.each (made.attachment edge) 8) 32) _ _ e c.in_ok-put_attachments.ensures
