use Rattle.std.proofs.Common.{◌≡◌, ℕ, List, ◌++◌, ap, sym, ◌∙◌}
use Rattle.std.specs.FinMap as maps
use Rattle.std.proofs.lemmas.Option.{none-some}
use Rattle.mldp.specs.mldp_msgs.Spelling as pdus
use Rattle.label_defs.specs.declared.end.End.{End}
use Rattle.label_defs.specs.Keys.{node_cmp}
use Rattle.label_defs.specs.Node.{waiting_for}
use Rattle.mldp_node.specs.label_ends.Ends.{Ends, told_over}
use Rattle.mldp_node.specs.label_ends.Maps.{octets_at}
use Rattle.mldp_node.proofs.label_ends.NodeMaps.{seen, comes, octets_seen}
use Rattle.mldp_node.proofs.label_ends.ends.Ends.tell_over.Goals as goal

pub change-requires : goal.change-requires
change-requires c = λ none. absurd (none-some c.args.end
    (sym none ∙ (sym (seen c.self.inside.up c.args.put.now.to) ∙ ap (λ (e : Ends). maps.get e.up c.args.put.now.to) c.self.view_is ∙ c.requires.up)))

pub returns : goal.returns
returns c =
    let octets = c.as_slice.ensures ∙ c.in_ok-octets.ensures in
    let all : octets_at c.self.inside.waiting c.args.put.now.to ++ c.as_slice.result.now
    ≡ waiting_for (maps.from_entries {R = node_cmp} c.self.inside.waiting.entries) c.args.put.now.to
    ++ pdus.written c.args.addr c.args.end.next c.args.put.now.message =
    λ i. octets_seen c.self.inside.waiting c.args.put.now.to i ++ octets i in
    let up = comes c.self.inside.up c.change.new.up c.args.put.now.to c.told.result c.change.ensures.each
    ∙ ap (λ (end : End). maps.insert (maps.from_entries {R = node_cmp} c.self.inside.up.entries) c.args.put.now.to end) c.told.ensures in
    let waiting = comes c.self.inside.waiting c.append.new.waiting c.args.put.now.to _ c.in_ok-append.ensures
    ∙ ap (λ (xs : List ℕ). maps.insert (maps.from_entries {R = node_cmp} c.self.inside.waiting.entries) c.args.put.now.to xs) all in
    (λ i. record { up = up i; raises = maps.from_entries c.self.inside.raises.entries; waiting = waiting i })
    ∙ ap (λ (e : Ends). told_over c.args.addr e c.args.put.now c.args.end) c.self.view_is
