use Rattle.std.proofs.Common.{rules, ◌≡◌, map, ap, ◌∙◌}
use Rattle.std.specs.FinMap as maps
use Rattle.std.proofs.lemmas.Map.Made.{map_same_pairs}
use Rattle.mv_base.specs.declared.ids.NodeId.{NodeId}
use Rattle.label_defs.specs.declared.end.End.{End}
use Rattle.label_defs.specs.Keys.{node_cmp}
use Rattle.label_defs.specs.Steps.{hold_run, holds_run}
use Rattle.mldp_node.specs.label_ends.Ends.{Ends}
use Rattle.mldp_node.proofs.label_ends.NodeMaps.{all_change}
use Rattle.mldp_node.proofs.label_ends.ends.Ends.run_holds.Goals as goal

pub returns : goal.returns
returns c =
    let run : c.retain.new.self.entries ≡ map (λ (e : NodeId × End). (e.0, hold_run c.args.life c.args.now e.1)) c.self.inside.up.entries =
    map_same_pairs _ _ _ (λ k v b w g call. search rules) _ _ c.retain.ensures.filtered in
    let up = ap (maps.from_entries {R = node_cmp}) run ∙ all_change (hold_run c.args.life c.args.now) c.self.inside.up.entries in
    (λ i. record { up = up i; raises = maps.from_entries c.self.inside.raises.entries; waiting = maps.from_entries c.self.inside.waiting.entries })
    ∙ ap (λ (e : Ends). record e { up = holds_run c.args.life c.args.now e.up }) c.self.view_is
