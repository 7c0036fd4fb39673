use Rattle.std.proofs.Common.{◌≡◌, Option, None, Some, slice_get, option_map, sym, ap, subst, ◌∙◌, arith}
use Rattle.data_plane.specs.link_copies.CopiesData.{Current, CopiesData, current_of, IsShared}
use Rattle.data_plane.specs.link_copies.Kept.{copies_on, data_of, landed_of}
use Rattle.data_plane.proofs.link_copies.Landing.{copy_seen, none_lands, one_lands}
use Rattle.data_plane.proofs.link_copies.Acts.{lands_count, lands_shared}
use Rattle.data_plane.proofs.link_copies.copies.LinkCopies.land.Goals as goal

pub returns-in_err-kept-clause-landed : goal.returns-in_err-kept-clause-landed
returns-in_err-kept-clause-landed c =
    let was = c.self.inside in
    let none =
    copy_seen was.ways was.current was.pool c.args.self.now c.self.view_is c.args.from c.args.to c.args.place c.saturating_sub-place.result
    c.saturating_sub-place.ensures c.copy_at.result c.copy_at.ensures ∙ c.in_err-kept.was in
    c.from_residual.ensures ∙ ap (option_map landed_of) (sym none)

pub returns-in_err-kept-clause-ways : goal.returns-in_err-kept-clause-ways
returns-in_err-kept-clause-ways c =
    let was = c.self.inside in
    let none =
    copy_seen was.ways was.current was.pool c.args.self.now c.self.view_is c.args.from c.args.to c.args.place c.saturating_sub-place.result
    c.saturating_sub-place.ensures c.copy_at.result c.copy_at.ensures ∙ c.in_err-kept.was in
    none_lands was.ways was.current was.pool c.args.self.now c.self.view_is c.args.from c.args.to c.args.place c.saturating_sub-place.result
    c.saturating_sub-place.ensures none

pub returns-in_err-kept-clause-current : goal.returns-in_err-kept-clause-current
returns-in_err-kept-clause-current c =
    let was = c.self.inside in
    let none =
    copy_seen was.ways was.current was.pool c.args.self.now c.self.view_is c.args.from c.args.to c.args.place c.saturating_sub-place.result
    c.saturating_sub-place.ensures c.copy_at.result c.copy_at.ensures ∙ c.in_err-kept.was in
    c.requires ∙ ap (option_map current_of) (sym none)

pub overflow_sub-self : goal.overflow_sub-self
overflow_sub-self c =
    let was = c.self.inside in
    let copy : slice_get (copies_on was.ways (c.args.from, c.args.to)) c.saturating_sub-place.result ≡ Some c.in_ok-kept.kept =
    sym c.copy_at.ensures ∙ c.in_ok-kept.was in
    omega (
      arith,
      c.self.invariant.1,
      lands_count was.ways c.take_out.new.ways (c.args.from, c.args.to) c.saturating_sub-place.result
          c.in_ok-kept.kept was.pool c.take_out.ensures.taken copy,
    )

pub invariant_of-self : goal.invariant_of-self
invariant_of-self c =
    let was = c.self.inside in
    let copy : slice_get (copies_on was.ways (c.args.from, c.args.to)) c.saturating_sub-place.result ≡ Some c.in_ok-kept.kept =
    sym c.copy_at.ensures ∙ c.in_ok-kept.was in
    let none : was.current ≡ None = ap (λ (d : CopiesData). d.current) c.self.view_is ∙ c.requires in
    let account : IsShared (data_of was.ways None was.pool) =
    subst (λ (o : Option Current). IsShared (data_of was.ways o was.pool)) none c.self.invariant.2 in
    let thereafter : Some (current_of c.in_ok-kept.kept) ≡ Some c.handled.result = ap (λ (x : Current). Some x) (sym c.handled.ensures) in (
      c.take_out.ensures.unique,
      omega (
        arith,
        c.self.invariant.1,
        lands_count was.ways c.take_out.new.ways (c.args.from, c.args.to) c.saturating_sub-place.result
            c.in_ok-kept.kept was.pool c.take_out.ensures.taken copy,
      ),
      subst (λ (o : Option Current). IsShared (data_of c.take_out.new.ways o was.pool)) thereafter
          (lands_shared was.ways c.take_out.new.ways (c.args.from, c.args.to) c.saturating_sub-place.result c.in_ok-kept.kept was.pool
          c.take_out.ensures.taken copy account),
    )

pub returns-clause-landed : goal.returns-clause-landed
returns-clause-landed c =
    let was = c.self.inside in
    let some =
    copy_seen was.ways was.current was.pool c.args.self.now c.self.view_is c.args.from c.args.to c.args.place c.saturating_sub-place.result
    c.saturating_sub-place.ensures c.copy_at.result c.copy_at.ensures ∙ c.in_ok-kept.was in
    ap (λ x. Some x) c.landed.ensures ∙ ap (option_map landed_of) (sym some)

pub returns-clause-ways : goal.returns-clause-ways
returns-clause-ways c =
    let was = c.self.inside in
    one_lands was.ways was.current was.pool c.args.self.now c.self.view_is c.args.from c.args.to c.args.place c.saturating_sub-place.result
    c.saturating_sub-place.ensures c.take_out.new.ways c.take_out.ensures.taken

pub returns-clause-current : goal.returns-clause-current
returns-clause-current c =
    let was = c.self.inside in
    let some =
    copy_seen was.ways was.current was.pool c.args.self.now c.self.view_is c.args.from c.args.to c.args.place c.saturating_sub-place.result
    c.saturating_sub-place.ensures c.copy_at.result c.copy_at.ensures ∙ c.in_ok-kept.was in
    ap (λ x. Some x) c.handled.ensures ∙ ap (option_map current_of) (sym some)
