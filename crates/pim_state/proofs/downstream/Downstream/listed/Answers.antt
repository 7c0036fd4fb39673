use Rattle.std.proofs.Common.{is_some, List, Option, sym, ap, ◌∙◌}
use Rattle.std.specs.List.{list_any}
use Rattle.scenario_defs.specs.declared.event.IfaceEntry.{IfaceEntry}
use Rattle.pim_defs.specs.declared.expiry.Expiry.{Expiry}
use Rattle.pim_defs.specs.Entries.{Entries, expiry_at}
use Rattle.pim_state.specs.Index.{listed}
use Rattle.pim_state.specs.Plan.{is_at}
use Rattle.pim_state.proofs.MapLemmas.{get-lookup}
use Rattle.pim_state.proofs.downstream.Downstream.listed.Goals as goal

pub returns : goal.returns
returns c = λ iface.
    let at : IfaceEntry = record { iface = iface; entry = c.args.entry.now } in
    ap (λ (l : List IfaceEntry). list_any (is_at at) l) (c.listed.ensures ∙ ap (λ key. listed c.self.inside.index key) c.key_of.ensures)
    ∙ (c.self.invariant.2 at
    ∙ (ap (λ (o : Option Expiry). is_some o) (sym (get-lookup c.self.inside.entries.entries at))
    ∙ ap (λ (m : Entries). is_some (expiry_at m iface c.args.entry.now)) c.self.view_is))
