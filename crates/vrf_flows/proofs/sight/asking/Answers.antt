use Rattle.std.proofs.Common.{sym, ◌∙◌}
use Rattle.vrf_flows.proofs.NamedLemmas.{marked_asking, none-asking}
use Rattle.vrf_flows.proofs.sight.asking.Goals as goal

pub returns : goal.returns
returns c =
    marked_asking c.listed-joined.result.now c.listed-shared.result.now c.args.sight.now.ifaces.now c.args.sight.now.entries.now c.args.active
    c.args.sight.now.clock c.args.flow c.listed-joined.ensures c.listed-shared.ensures c.marks_of.result c.marks_of.ensures
    c.asking_marked.result c.asking_marked.ensures

pub returns-then-is_empty-2 : goal.returns-then-is_empty-2
returns-then-is_empty-2 c =
    c.new.ensures
    ∙ sym (none-asking c.listed-joined.result.now c.listed-shared.result.now c.args.sight.now.entries.now c.args.flow
    (sym c.is_empty.ensures ∙ c.if-is_empty.true) (sym c.is_empty-then-is_empty.ensures ∙ c.if-is_empty-2.true) c.listed-joined.ensures
    c.listed-shared.ensures c.args.sight.now.ifaces.now c.args.active c.args.sight.now.clock)
