use Rattle.std.proofs.Common.{◌++◌, List, ap, sym, ◌∙◌}
use Rattle.std.proofs.lemmas.List.{take_all}
use Rattle.scenario_defs.specs.declared.scenario.Vrf.{Vrf}
use Rattle.edge_defs.specs.Keys.{Table}
use Rattle.probe_defs.specs.Given.{messages_in}
use Rattle.probe_defs.specs.Lines.{octets_of}
use Rattle.probe_defs.specs.Probed.{table_of}
use Rattle.probe_defs.specs.Imports.{Import}
use Rattle.edge_probe.specs.Behind.{taken_by}
use Rattle.edge_probe.proofs.ToldLemmas.{first_more, taken_first}
use Rattle.edge_probe.proofs.told.imports_of.Goals as goal

pub loop-number-preserved : goal.loop-number-preserved
loop-number-preserved c = λ core peer done given among.
    let table : Table = table_of (messages_in (octets_of done)) in
    let number = c.loop-number.number in
    let vrf : Vrf = c.index-vrfs-number.result in
    c.in_ok-add_vrf.ensures core peer done given among
    ∙ ap (λ (xs : List Import). xs ++ taken_by c.args.me number vrf table) (c.loop-number.invariant core peer done given among)
    ∙ sym (first_more c.args.me c.as_slice-vrfs.result.now number vrf table c.loop-number-test.true c.index-vrfs-number.is)

pub returns : goal.returns
returns c = λ core peer done given among.
    let table : Table = table_of (messages_in (octets_of done)) in
    c.loop-number.invariant core peer done given among
    ∙ ap (λ (xs : List Vrf). taken_first c.args.me xs table)
    (take_all c.loop-number.number c.as_slice-vrfs.result.now c.loop-number-test.false ∙ c.as_slice-vrfs.ensures)
