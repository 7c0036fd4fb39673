use Rattle.std.proofs.Common.{ℕ, List, ◌++◌, codes}
use Rattle.generator.specs.Made as made
use Rattle.generator.proofs.TextLemmas.{more}
use Rattle.generator.proofs.made.put_first_sends.Goals as goal

pub returns : goal.returns
returns c =
    let number : ℕ = c.args.number in
    let one : List ℕ = codes "events\nheal\nsettle\ntick 3\nsettle\n" in
    let two : List ℕ = codes "settle\nstate\n" in
    let a = c.in_ok-extend.ensures.ok in
    let b = more _ one (made.joins number) _ _ a c.in_ok-put_joins.ensures in
    let d = more _ (one ++ made.joins number) two _ _ b c.in_ok-extend-2.ensures.ok in
    let e = more _ (one ++ made.joins number ++ two) (made.sends number (codes "01")) _ _ d c.in_ok-put_sends.ensures in
    more _ (one ++ made.joins number ++ two ++ made.sends number (codes "01")) (codes "drain\n") _ _ e c.in_ok-extend-3.ensures.ok
