use Rattle.std.proofs.Common.{rules, ◌≡◌, Bool, true, false, not, Option, refl, sym, ap, ◌∙◌}
use Rattle.std.proofs.lemmas.Result.{IfOk-weaker, on_err_weaker}
use Rattle.std.specs.FinMap.{get}
use Rattle.std.specs.Prelude.{is_some}
use Rattle.mv_base.specs.Number.{◌>>?◌}
use Rattle.edge_defs.specs.Edge.{Taken}
use Rattle.edge_defs.specs.Steps.{learned, taken_change}
use Rattle.edge_tables.specs.taken_tables.Routes.{handed}
use Rattle.edge_tables.specs.taken_tables.Slots.{taken_in, tables_of}
use Rattle.edge_tables.specs.taken_tables.Tables.{changed_at, reach, route_at}
use Rattle.edge_tables.proofs.taken_tables.MapLemmas.{changed_by, entered_spelled, left, none_there, slot_spelled, some_there, unchanged_at}
use Rattle.edge_tables.proofs.taken_tables.slots.enter_from.Goals as goal

pub returns-in-None-clause-fresh : goal.returns-in-None-clause-fresh
returns-in-None-clause-fresh c =
    let old = c.args.slots.now.entries in
    sym (ap (λ (o : Option Taken). not (is_some (o >>? λ (taken : Taken). get taken c.args.key.now)))
    (none_there old (tables_of old) c.args.peer refl c.in-None.ensures.value))

pub returns-in-None-clause-entered : goal.returns-in-None-clause-entered
returns-in-None-clause-entered c = λ yes.
    let old = c.args.slots.now.entries in
    (λ i. tables_of (c.get_mut.follows.holds-at-none i).entries)
    ∙ unchanged_at (tables_of old) c.args.peer (λ taken. taken_change c.args.now taken (reach c.args.key.now (handed c.args.value.now)))
    (none_there old (tables_of old) c.args.peer refl c.in-None.ensures.value)

pub returns-in-Some-clause-fresh : goal.returns-in-Some-clause-fresh
returns-in-Some-clause-fresh c =
    let old = c.args.slots.now.entries in
    let there = some_there old (tables_of old) c.args.peer refl c.in-Some.table.now c.in-Some.ensures.value in
    IfOk-weaker c.enter.result
    (λ (fresh : Bool). fresh ≡ not (is_some (get (taken_in c.in-Some.table.now) c.args.key.now)))
    (λ (fresh : Bool). fresh ≡ not (is_some (route_at (tables_of old) c.args.peer c.args.key.now)))
    (λ fresh is. is ∙ ap (λ (o : Option Taken). not (is_some (o >>? λ (taken : Taken). get taken c.args.key.now))) (sym there))
    c.enter.ensures.fresh

pub returns-in-Some-clause-entered : goal.returns-in-Some-clause-entered
returns-in-Some-clause-entered c =
    let old = c.args.slots.now.entries in
    let new = (c.get_mut.follows.lender c.enter.new.table).entries in
    let written = (c.get_mut.follows.holds c.enter.new.table).3 (search rules) in
    let change : Taken → Taken = λ taken. taken_change c.args.now taken (reach c.args.key.now (handed c.args.value.now)) in
    IfOk-weaker c.enter.result
    (λ (fresh : Bool). fresh ≡ true → taken_in c.enter.new.table ≡ change (taken_in c.in-Some.table.now))
    (λ (fresh : Bool). fresh ≡ true → tables_of new ≡ changed_at c.args.peer change (tables_of old))
    (λ fresh put yes. changed_by old new (tables_of old) c.args.peer c.in-Some.table.now c.enter.new.table refl c.in-Some.ensures.value written.0
    change (put yes))
    c.enter.ensures.entered

pub returns-in-Some-clause-stays : goal.returns-in-Some-clause-stays
returns-in-Some-clause-stays c =
    let old = c.args.slots.now.entries in
    let new = (c.get_mut.follows.lender c.enter.new.table).entries in
    let written = (c.get_mut.follows.holds c.enter.new.table).3 (search rules) in
    IfOk-weaker c.enter.result
    (λ (fresh : Bool). fresh ≡ false → c.enter.new.table ≡ c.in-Some.table.now)
    (λ (fresh : Bool). fresh ≡ false → tables_of new ≡ tables_of old)
    (λ fresh is no. left old new (tables_of old) c.args.peer c.in-Some.table.now c.enter.new.table refl c.in-Some.ensures.value written.0 (is no))
    c.enter.ensures.stays

pub returns-in-Some-clause-unchanged : goal.returns-in-Some-clause-unchanged
returns-in-Some-clause-unchanged c =
    let old = c.args.slots.now.entries in
    let new = (c.get_mut.follows.lender c.enter.new.table).entries in
    let written = (c.get_mut.follows.holds c.enter.new.table).3 (search rules) in
    on_err_weaker c.enter.result
    (left old new (tables_of old) c.args.peer c.in-Some.table.now c.enter.new.table refl c.in-Some.ensures.value written.0)
    c.enter.ensures.unchanged

pub returns-in-Some-clause-spelled : goal.returns-in-Some-clause-spelled
returns-in-Some-clause-spelled c = λ spelled.
    let old = c.args.slots.now.entries in
    let new = (c.get_mut.follows.lender c.enter.new.table).entries in
    let written = (c.get_mut.follows.holds c.enter.new.table).3 (search rules) in
    let there = c.in-Some.table.now in
    slot_spelled old new c.args.peer there c.enter.new.table c.in-Some.ensures.value written.0 spelled
    (entered_spelled c.enter.result there c.enter.new.table c.args.key.now
    (learned c.args.now (handed c.args.value.now) (get (taken_in there) c.args.key.now))
    c.enter.ensures.entered c.enter.ensures.stays c.enter.ensures.unchanged c.enter.ensures.spelled)
