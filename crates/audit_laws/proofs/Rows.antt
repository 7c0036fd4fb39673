-- Worked rows: which markers fit, and which events lines are given to.
use Rattle.std.proofs.Common.{◌≡◌, ℕ, true, false, List, [], ◌∷◌, Some, None, refl}
use Rattle.mv_base.specs.declared.addr.Addr.{Addr}
use Rattle.mv_base.specs.declared.ids.IfaceId.{IfaceId}
use Rattle.mv_base.specs.declared.ids.SiteId.{SiteId}
use Rattle.scenario_defs.specs.declared.event.CustomerEvent.TheVariants as customers
use Rattle.scenario_defs.specs.declared.event.Event.TheVariants as event
use Rattle.scenario_defs.specs.declared.event.JoinEntry.{JoinEntry}
use Rattle.scenario_defs.specs.declared.event.Timed.{Timed}
use Rattle.scenario_defs.specs.declared.report.Refusal.{Refusal}
use Rattle.scenario_defs.specs.declared.report.ReportLine.{ReportLine}
use Rattle.scenario_defs.specs.declared.report.ReportLine.TheVariants as lines
use Rattle.scenario_defs.specs.declared.scenario.Scenario.{Scenario}
use Rattle.mvpn_model.specs.Packet.{packet}
use Rattle.audit_defs.specs.declared.verdict.Numbered.{Numbered}
use Rattle.audit_defs.specs.Markers.{markers, values, named, fit, begin, marked_places}
use Rattle.audit_defs.specs.Cut.{refused_by, give}
use Rattle.audit_defs.specs.Offences.{named_before}

abbrev zeros : ReportLine
zeros = lines.State 0 0 0 0 0

module _ (iface : IfaceId) (entry : JoinEntry) (site : SiteId) (source group : Addr) (payload bytes : List ℕ) (reason : Refusal) (scenario : Scenario)
  where
    -- join, state, send, drain, state
    abbrev row : List Timed
    row =
        record { line = 8; event = event.Customer (customers.Join iface entry) } ∷ record { line = 9; event = event.State }
        ∷ record { line = 10; event = event.Send site source group payload } ∷ record { line = 11; event = event.Drain }
        ∷ record { line = 12; event = event.State } ∷ []

    abbrev report : List Numbered
    report = record { line = 14; value = zeros } ∷ record { line = 15; value = lines.Out 1 iface bytes } ∷ record { line = 16; value = zeros } ∷ []

    row_fits : fit row (markers report) ≡ true
    row_fits = refl

    row_given : give 5 (marked_places (named (values report)) 0 row) report ≡ record { line = 14; event = 1; value = zeros }
        ∷ record { line = 15; event = 4; value = lines.Out 1 iface bytes } ∷ record { line = 16; event = 4; value = zeros } ∷ []
    row_given = refl

    row_refused : refused_by row (values report) ≡ []
    row_refused = refl

    -- the `out` line names the datagram of `send`; ahead of the first marker it would name none
    row_names : named_before (record { scenario = scenario; events = row; refused = []; lines = [] }) 4 1
        ≡ Some (record { event = 2; site = site; source = source; group = group; octets = packet source group payload })
    row_names = refl

    row_early : named_before (record { scenario = scenario; events = row; refused = []; lines = [] }) 1 1 ≡ None
    row_early = refl

    -- one `state` line too few, and one too many
    few_begin : begin row (zeros ∷ []) ≡ true
    few_begin = refl

    few_misfit : fit row (zeros ∷ []) ≡ false
    few_misfit = refl

    many_misfit : begin row (zeros ∷ zeros ∷ zeros ∷ []) ≡ false
    many_misfit = refl

    -- `send` was refused; `drain` cannot be; nor can what is named come after the second `state` line
    refused_fits : fit row (zeros ∷ lines.Refused 10 reason ∷ zeros ∷ []) ≡ true
    refused_fits = refl

    drain_misfits : begin row (zeros ∷ lines.Refused 11 reason ∷ []) ≡ false
    drain_misfits = refl

    late_misfits : begin row (zeros ∷ zeros ∷ lines.Refused 10 reason ∷ []) ≡ false
    late_misfits = refl

    twice_misfits : begin row (zeros ∷ lines.Refused 10 reason ∷ lines.Refused 10 reason ∷ []) ≡ false
    twice_misfits = refl

    pub all_rows : fit row (markers report) ≡ true
    all_rows = row_fits
