use Rattle.std.proofs.Common.{◌≡◌, ℕ, filter, sym, subst}
use Rattle.mv_base.specs.declared.ids.NodeId.{NodeId}
use Rattle.data_plane.specs.link_copies.CopiesData.{is_recent, kept_at}
use Rattle.network_defs.specs.World.{scenario_of}
use Rattle.data_plane.specs.datagram_acts.Stored.{IsIdle}
use Rattle.data_plane.proofs.datagram_acts.Stores.{aged_idle}
use Rattle.data_plane.proofs.datagram_acts.datagrams.Datagrams.age.Goals as goal

pub returns : goal.returns
returns c = λ world idle clock life.
    let was = c.self.inside.copies in
    aged_idle world was c.age.new.self c.self.inside.count c.self.inside.hops.items (subst (IsIdle world) (sym c.self.view_is) idle)
    (subst (λ (now : ℕ). (u n : NodeId) → kept_at c.age.new.self u n ≡ filter (is_recent now (scenario_of world).life) (kept_at was u n)) (sym clock)
    (subst (λ (most : ℕ). (u n : NodeId) → kept_at c.age.new.self u n ≡ filter (is_recent c.args.now most) (kept_at was u n)) (sym life)
    c.age.ensures.ways))
    c.age.ensures.current c.age.ensures.octets c.buffers_count_copies.ensures
