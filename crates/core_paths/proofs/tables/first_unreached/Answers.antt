use Rattle.std.proofs.Common.{List, ℕ, subst}
use Rattle.core_paths.specs.Rows.{IsFirstFar, IsNear}
use Rattle.core_paths.proofs.TableLemmas.{first_unreached, all_reached}
use Rattle.core_paths.proofs.tables.first_unreached.Goals as goal

pub returns-in-Some-clause-some : goal.returns-in-Some-clause-some
returns-in-Some-clause-some c =
    first_unreached c.args.links.now c.args.nodes c.in_ok-row.row.items c.in-Some.place c.in_ok-row.ensures
    (subst (λ (row : List ℕ). IsFirstFar row c.in-Some.place) c.deref.ensures.value c.in-Some.ensures.some)

pub returns-clause-none : goal.returns-clause-none
returns-clause-none c =
    all_reached c.args.links.now c.args.nodes c.in_ok-row.row.items c.in_ok-row.ensures
    (subst IsNear c.deref.ensures.value c.in-None.ensures.none)
