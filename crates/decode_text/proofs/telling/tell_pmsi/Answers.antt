use Rattle.std.proofs.Common.{◌≡◌, ℕ, List, ◌++◌, subst}
use Rattle.value_text.specs.ValueText.{refused_line, pmsi_word}
use Rattle.decode_text.proofs.telling.tell_pmsi.Goals as goal

pub returns-in_ok-put_pmsi_fault-in-Err : goal.returns-in_ok-put_pmsi_fault-in-Err
returns-in_ok-put_pmsi_fault-in-Err c =
    let fault = c.in-Err.fault in (
      fault,
      c.in-Err.ensures.first,
      subst (λ (xs : List ℕ). c.put_pmsi_fault.new.out ≡ xs ++ refused_line fault.place (pmsi_word fault.reason))
          c.new-text.ensures c.in_ok-put_pmsi_fault-in-Err.ensures,
    )
