use Rattle.std.proofs.Common.{◌≡◌, replicate, rules}
use Rattle.tunnel_bindings.specs.declared.state.LabelState.TheVariants.{Free}
use Rattle.tunnel_bindings.proofs.RestingLemmas.{space-made}
use Rattle.tunnel_bindings.proofs.space.LabelSpace.of.Goals as goal

pub invariant_of-result : goal.invariant_of-result
invariant_of-result c =
    let numbers : c.in_ok-numbers.numbers ≡ replicate c.args.count Free = search rules in
    rw (numbers, c.in_ok-rests.ensures.items) (space-made c.args.life c.args.count _ c.requires.short c.requires.few c.in_ok-rests.ensures.capacity)
