use Rattle.std.proofs.Common.{◌≡◌, ℕ, List, ◌++◌, subst}
use Rattle.value_text.specs.JoinPruneText.{pim_word}
use Rattle.value_text.specs.ValueText.{refused_line}
use Rattle.decode_text.proofs.telling.tell_pim.Goals as goal

pub returns-in_ok-put_joinprune_fault-in-Err-Bad : goal.returns-in_ok-put_joinprune_fault-in-Err-Bad
returns-in_ok-put_joinprune_fault-in-Err-Bad c =
    let place = c.in-Err-Bad.place in
    let fault = c.in-Err-Bad.fault in (
      (place, fault),
      rw c.in-Err-Bad.field-0-is at c.in-Err-Bad.ensures.first,
      subst (λ (xs : List ℕ). c.put_joinprune_fault.new.out ≡ xs ++ refused_line place (pim_word fault)) c.new-text.ensures
          c.in_ok-put_joinprune_fault-in-Err-Bad.ensures,
    )
