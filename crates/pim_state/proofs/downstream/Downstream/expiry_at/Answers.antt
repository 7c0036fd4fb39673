use Rattle.std.proofs.Common.{ap, sym, ◌∙◌}
use Rattle.pim_defs.specs.Entries.{Entries, expiry_at}
use Rattle.pim_state.proofs.MapLemmas.{get-lookup}
use Rattle.pim_state.proofs.downstream.Downstream.expiry_at.Goals as goal

pub returns : goal.returns
returns c =
    c.copied.ensures ∙ (c.get.ensures.value ∙ (sym (get-lookup c.self.inside.entries.entries (record { iface = c.args.iface; entry = c.args.entry }))
    ∙ ap (λ (m : Entries). expiry_at m c.args.iface c.args.entry) c.self.view_is))
