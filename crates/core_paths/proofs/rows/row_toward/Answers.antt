use Rattle.std.proofs.Common.{◌≡◌, true, false, length, arith}
use Rattle.std.specs.List.{list_all}
use Rattle.core_paths.specs.Rows.{is_tight, relaxed_all}
use Rattle.core_paths.proofs.RowLemmas.{round_sound, round_falls, cost_row}
use Rattle.core_paths.proofs.rows.row_toward.Goals as goal

pub loop-row-smaller : goal.loop-row-smaller
loop-row-smaller c =
    let items = c.loop-row.row.items in
    let round : c.relax_all.new.row ≡ relaxed_all items c.args.links.now = cc in
    let loose : list_all (is_tight items) c.args.links.now ≡ false = cc in
    let len : c.loop-row.row.len ≡ length items = omega arith in
    round_falls c.args.links.now c.args.nodes c.args.root items c.relax_all.new.row c.loop-row.row.len c.requires.topology c.loop-row.invariant round
    len loose

pub loop-row-preserved : goal.loop-row-preserved
loop-row-preserved c =
    let items = c.loop-row.row.items in
    let round : c.relax_all.new.row ≡ relaxed_all items c.args.links.now = cc in
    let len : c.loop-row.row.len ≡ length items = omega arith in
    round_sound c.args.links.now c.args.nodes c.args.root items c.relax_all.new.row c.loop-row.row.len c.requires.topology c.loop-row.invariant round
    len

pub returns : goal.returns
returns c =
    let tight : list_all (is_tight c.loop-row.row.items) c.args.links.now ≡ true = cc in
    cost_row c.args.links.now c.args.nodes c.args.root c.loop-row.row.items c.requires.topology c.loop-row.invariant tight
