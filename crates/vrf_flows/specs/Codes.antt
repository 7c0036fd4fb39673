-- The code of what a VRF keeps, by which a model of it is told apart.
use Rattle.std.specs.Prelude.{List, refl}
use Rattle.std.specs.Coded.{Coded, code_by, coded×, coded_list}
use Rattle.std.specs.FinMap as maps
use Rattle.std.specs.FinMap.{FinMap}
use Rattle.std.specs.FinSet as sets
use Rattle.std.specs.FinSet.{FinSet}
use Rattle.pim_defs.specs.Entries.{Entries}
use Rattle.pim_state.specs.Codes.{entries_code}
use Rattle.umh_select.specs.declared.route.Choice.{Choice}
use Rattle.umh_select.specs.contracts.route.Choice as choices
use Rattle.umh_select.specs.Routes.{Routes, routes_code}
use Rattle.vrf_words.specs.declared.tree_defs.flow.SiteIface.{SiteIface}
use Rattle.vrf_words.specs.contracts.tree_defs.flow.SiteIface as ifaces
use Rattle.vrf_words.specs.contracts.tree_defs.flow.Note as notes
use Rattle.vrf_words.specs.contracts.tree_defs.flow.ActiveRoute as actives
use Rattle.vrf_words.specs.contracts.tree_defs.flow.Flow as flows
use Rattle.vrf_words.specs.tree_defs.Keys.{flow_cmp, note_cmp, active_cmp}
use Rattle.vrf_words.specs.tree_defs.Flows.{VrfData}

abbrev Parts : Type 0
Parts = List SiteIface × (Entries × (FinSet note_cmp × (FinSet active_cmp × (Routes × FinMap flow_cmp Choice))))

abbrev pub vrf_code : Coded VrfData
vrf_code =
    code_by Parts
    (coded× (coded_list ifaces.the_row.coded) (coded× entries_code (coded× (sets.code notes.the_row.coded)
    (coded× (sets.code actives.the_row.coded) (coded× routes_code (maps.code flows.the_row.coded choices.the_row.coded))))))
    (λ v. (v.ifaces, (v.entries, (v.notes, (v.actives, (v.routes, v.flows))))))
    (λ p. record { ifaces = p.0; entries = p.1.0; notes = p.1.1.0; actives = p.1.1.1.0; routes = p.1.1.1.1.0; flows = p.1.1.1.1.1 })
    (λ _. refl)
