use Rattle.std.proofs.Common.{◌≡◌, ℕ, ◌<◌, ◌==◌, ◌&&◌, not, Bool, false, cond, sym, ap, subst, ◌∙◌, arith}
use Rattle.buf_pool.specs.Held.{Buffers, given_back}
use Rattle.data_plane.specs.link_copies.CopiesData.{count_of, is_recent}
use Rattle.data_plane.specs.link_copies.Fading.{Fades}
use Rattle.data_plane.proofs.link_copies.Pools.{back_counted, back_fades}
use Rattle.data_plane.proofs.link_copies.aging.give_back_of.Goals as goal

pub returns-then-not-is_recent-clause-counted : goal.returns-then-not-is_recent-clause-counted
returns-then-not-is_recent-clause-counted c = λ name.
    let old : is_recent c.args.now c.args.life c.args.kept.now ≡ false = sym c.is_recent.ensures ∙ c.if-not-is_recent.true in
    let thereafter : c.give_back.new.self ≡ given_back c.args.pool.now c.args.kept.now.buffer =
    c.give_back.ensures ∙ ap (given_back c.args.pool.now) c.buffer.ensures in
    let live : 0 < count_of c.args.pool.now c.args.kept.now.buffer = omega (arith, ap (λ (b : Bool). cond {A = ℕ} b 0 1) old, c.requires.held) in
    omega (
      arith,
      ap (λ (b : Bool). cond {A = ℕ} (not b && (c.args.kept.now.buffer == name)) 1 0) old,
      ap (λ (m : Buffers). count_of m name) thereafter,
      back_counted c.args.pool.now c.args.kept.now.buffer live name,
    )

pub returns-then-not-is_recent-clause-fades : goal.returns-then-not-is_recent-clause-fades
returns-then-not-is_recent-clause-fades c =
    let old : is_recent c.args.now c.args.life c.args.kept.now ≡ false = sym c.is_recent.ensures ∙ c.if-not-is_recent.true in
    let thereafter : c.give_back.new.self ≡ given_back c.args.pool.now c.args.kept.now.buffer =
    c.give_back.ensures ∙ ap (given_back c.args.pool.now) c.buffer.ensures in
    let live : 0 < count_of c.args.pool.now c.args.kept.now.buffer = omega (arith, ap (λ (b : Bool). cond {A = ℕ} b 0 1) old, c.requires.held) in
    subst (λ (m : Buffers). Fades c.args.pool.now m) (sym thereafter) (back_fades c.args.pool.now c.args.kept.now.buffer live)
