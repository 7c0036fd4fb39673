use Rattle.std.proofs.Common.{◌∙◌, nat_eq, map, ap}
use Rattle.std.specs.FinMap as maps
use Rattle.indexmap.specs.IndexMap.{get}
use Rattle.label_defs.specs.Steps.{woken}
use Rattle.tunnel_bindings.specs.Labels.{Space}
use Rattle.label_trees.specs.label_uses.Uses.{Uses}
use Rattle.label_trees.specs.label_uses.Held.{towards, uses_from}
use Rattle.label_trees.proofs.label_uses.SeenLemmas.{uses_woken}
use Rattle.label_trees.proofs.label_uses.label_uses.LabelUses.wake.Goals as goal

pub returns : goal.returns
returns c =
    let life = ap (λ (x : Space). x.life) c.wake.ensures in
    let labels =
    ap (λ (x : Space). uses_from 16 (get nat_eq c.self.inside.held) x.states) c.wake.ensures
    ∙ uses_woken c.args.now 16 c.self.inside.space.states (get nat_eq c.self.inside.held) in
    (λ i. record {
      life = life i;
      labels = labels i;
      waiting = maps.from_entries (towards c.self.inside.waiting.entries);
      sessions =
          maps.from_entries c.self.inside.sessions.entries;
    })
    ∙ ap (λ (u : Uses). record u { labels = map (woken c.args.now) u.labels }) c.self.view_is
