-- What is true of an answer with a first fault.
use Rattle.std.proofs.Common.{◌≡◌, Option, Result, Ok, Err}
use Rattle.std.specs.Option.{IsSome}
use Rattle.std.specs.Result.{IfOk}

pub told_first : {A E : Type 0} {own : Option A} {P : Option A → Type 0} (result : Result (Option A) E) → IfOk result (λ first. first ≡ own)
    → IfOk result (λ first. IsSome first) → ((first : Option A) → first ≡ own → IsSome first → P first) → IfOk result P
told_first (Ok first) is some then_it = then_it first is some
told_first (Err e) is some then_it = tt
