use Rattle.std.proofs.Common.{◌∙◌, ◌+◌, ap, sym, ℕ, cond}
use Rattle.label_forwarding.specs.Hops.{is_hop}
use Rattle.label_forwarding.specs.Slots.{is_fec, noted}
use Rattle.label_forwarding.proofs.NoteLemmas.{noted_cut, some_then}
use Rattle.label_forwarding.proofs.pairs.forget.Goals as goal

pub returns-clause-counts : goal.returns-clause-counts
returns-clause-counts c = some_then c.swap_remove.result _ (λ fec at own.
    ap (λ (n : ℕ). n + cond (is_fec own fec) 1 0) (ap (noted own) c.swap_remove.ensures.entries)
    ∙ noted_cut (is_hop c.args.at) c.args.pairs.now.entries fec own (sym c.swap_remove.ensures.value ∙ at))
