use Rattle.std.proofs.Common.{◌/◌, ◌<◌, ◌*◌, ℕ, List, length, drop, ap, sym, ◌∙◌, arith, rules}
use Rattle.tunnel_bindings.specs.Marks.{unmarked}
use Rattle.tunnel_bindings.proofs.MarksLemmas.{used-remove, used-kept, whole, word_read, unmarked-length}
use Rattle.tunnel_bindings.proofs.marks.Marks.remove.Goals as goal

pub invariant_of-self : goal.invariant_of-self
invariant_of-self c =
    let words = c.self.inside.words in
    let used = c.self.inside.used in
    let unmark = c.unmark-then-index-eq0 in
    let n = c.args.number in
    let within : n < 64 * length words.items = search rules in
    let words_are = whole words.len c.unmark.new.words (drop (length c.unmark.new.words) words.items) (search rules) in
    let unmarks = c.unmark.ensures ∙ ap (λ (ws : List ℕ). unmarked ws n) c.deref_mut.ensures.value in
    let read =
    word_read (unmarked words.items n) _ (n / 64) c.index.result.now c.index.ensures (words_are ∙ unmarks)
    (omega (arith, within, unmarked-length words.items n)) in
    rw (words_are, whole used.len unmark.new.words (drop (length unmark.new.words) used.items) (search rules)) (
    rw (unmarks, unmark.ensures, c.deref_mut-then-index-eq0.ensures.value)
    (used-remove words.items used.items n within (sym read ∙ c.if-index-eq0.true) c.self.invariant))

pub invariant_of-self-else-index-eq0 : goal.invariant_of-self-else-index-eq0
invariant_of-self-else-index-eq0 c =
    let words = c.self.inside.words in
    let n = c.args.number in
    let within : n < 64 * length words.items = search rules in
    let words_are = whole words.len c.unmark.new.words (drop (length c.unmark.new.words) words.items) (search rules) in
    let unmarks = c.unmark.ensures ∙ ap (λ (ws : List ℕ). unmarked ws n) c.deref_mut.ensures.value in
    let read =
    word_read (unmarked words.items n) _ (n / 64) c.index.result.now c.index.ensures (words_are ∙ unmarks)
    (omega (arith, within, unmarked-length words.items n)) in
    rw words_are (
    rw unmarks (used-kept words.items c.self.inside.used.items n within (λ e. omega (arith, read, e, c.if-index-eq0.false)) c.self.invariant))
