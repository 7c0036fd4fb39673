use Rattle.std.proofs.Common.{ℕ, List, ◌++◌, codes}
use Rattle.generator.specs.Made as made
use Rattle.generator.proofs.TextLemmas.{more}
use Rattle.generator.proofs.made.put_last_sends.Goals as goal

pub returns : goal.returns
returns c =
    let number : ℕ = c.args.number in
    let one : List ℕ = codes "settle\nstate\n" in
    let two : List ℕ = codes "drain\ntick 3\nsettle\nstate\n" in
    let a = c.in_ok-put_selects.ensures in
    let b = more _ (made.selects number) one _ _ a c.in_ok-extend.ensures.ok in
    let d = more _ (made.selects number ++ one) (made.sends number (codes "02")) _ _ b c.in_ok-put_sends.ensures in
    let e = more _ (made.selects number ++ one ++ made.sends number (codes "02")) two _ _ d c.in_ok-extend-2.ensures.ok in
    let f = more _ (made.selects number ++ one ++ made.sends number (codes "02") ++ two) (made.sends number (codes "03")) _ _ e
    c.in_ok-put_sends-2.ensures in
    more _ (made.selects number ++ one ++ made.sends number (codes "02") ++ two ++ made.sends number (codes "03")) (codes "drain\nstate\n") _ _ f
    c.in_ok-extend-3.ensures.ok
