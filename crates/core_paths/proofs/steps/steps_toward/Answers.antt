use Rattle.std.proofs.Common.{◌≡◌, ◌∙◌, ap, ℕ, List, length, replicate, arith}
use Rattle.core_paths.specs.Rows.{noted_all}
use Rattle.core_paths.proofs.StepLemmas.{steps_written}
use Rattle.core_paths.proofs.steps.steps_toward.Goals as goal

pub returns : goal.returns
returns c =
    let items = c.in_ok-nexts.nexts.items in
    let start : items ≡ replicate c.args.nodes 65535 =
    c.in_ok-nexts.ensures.items_if_clones_equal (λ _ same. same) ∙ ap (λ (n : ℕ). replicate n 65535) c.from.ensures in
    let written : c.note_all.new.nexts ≡ noted_all c.args.row.now items c.args.links.now =
    c.note_all.ensures ∙ ap (λ (nexts : List ℕ). noted_all c.args.row.now nexts c.args.links.now) c.deref_mut.ensures.value in
    let len : c.in_ok-nexts.nexts.len ≡ length items = omega arith in
    steps_written c.args.links.now c.args.nodes c.args.root c.args.row.now items c.note_all.new.nexts c.in_ok-nexts.nexts.len c.requires.topology
    c.requires.row c.requires.near start written len
