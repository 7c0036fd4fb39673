use Rattle.std.proofs.Common.{rules, refl, ap, sym, subst, ◌∙◌}
use Rattle.std.specs.FinMap.{remove}
use Rattle.bgp_messages.specs.declared.bgp_attributes.key.Key.{Key}
use Rattle.bgp_messages.specs.declared.bgp_attributes.update.Change.TheVariants.{Unreach}
use Rattle.edge_defs.specs.Steps.{taken_change}
use Rattle.edge_tables.specs.taken_tables.Slots.{taken_in, tables_of}
use Rattle.edge_tables.specs.taken_tables.Tables.{IsSpelled}
use Rattle.edge_tables.proofs.taken_tables.MapLemmas.{changed_by, none_there, rest_spelled, slot_spelled, unchanged_at}
use Rattle.edge_tables.proofs.taken_tables.slots.forget_from.Goals as goal

pub returns-in-None-clause-forgot : goal.returns-in-None-clause-forgot
returns-in-None-clause-forgot c = λ now.
    let old = c.args.slots.now.entries in
    (λ i. tables_of (c.get_mut.follows.holds-at-none i).entries)
    ∙ unchanged_at (tables_of old) c.args.peer (λ taken. taken_change now taken (Unreach c.args.key.now))
    (none_there old (tables_of old) c.args.peer refl c.in-None.ensures.value)

pub returns-in-Some-clause-forgot : goal.returns-in-Some-clause-forgot
returns-in-Some-clause-forgot c = λ now.
    let old = c.args.slots.now.entries in
    let new = (c.get_mut.follows.lender c.remove.new.self).entries in
    let written = (c.get_mut.follows.holds c.remove.new.self).3 (search rules) in
    changed_by old new (tables_of old) c.args.peer c.in-Some.table.now c.remove.new.self refl c.in-Some.ensures.value written.0
    (λ taken. taken_change now taken (Unreach c.args.key.now))
    (c.remove.ensures ∙ ap (λ (key : Key). remove (taken_in c.in-Some.table.now) key) c.kept.ensures)

pub returns-in-Some-clause-spelled : goal.returns-in-Some-clause-spelled
returns-in-Some-clause-spelled c = λ spelled.
    let old = c.args.slots.now.entries in
    let new = (c.get_mut.follows.lender c.remove.new.self).entries in
    let written = (c.get_mut.follows.holds c.remove.new.self).3 (search rules) in
    let there = c.in-Some.table.now in
    slot_spelled old new c.args.peer there c.remove.new.self c.in-Some.ensures.value written.0 spelled
    (λ h. subst IsSpelled (sym c.remove.ensures) (rest_spelled (taken_in there) c.kept.result.now h))
