-- Which flows an interface asks for, by what is kept.
use Rattle.std.proofs.Common.{◌≡◌, Bool, not, sym, ap, ◌∙◌}
use Rattle.std.specs.Prelude.{◌&&◌, ◌||◌}
use Rattle.audit_defs.specs.mv_base.declared.ids.IfaceId.{IfaceId}
use Rattle.audit_defs.specs.mv_base.declared.addr.Addr.{Addr}
use Rattle.audit_defs.specs.scenario_defs.declared.event.JoinEntry.{JoinEntry}
use Rattle.audit_defs.specs.scenario_defs.declared.event.JoinEntry.TheVariants as entries
use Rattle.pim_defs.specs.Asking.{asks_by}
use Rattle.pim_defs.specs.Expiry.{counts}
use Rattle.audit_defs.specs.mvpn_model.Past.{Past, standing, is_active_at, asks}
use Rattle.audit_events.specs.Joined.{Kept, entry_now, Follows}
use Rattle.audit_events.proofs.ExpiryLemmas.{counts_alike}

-- What is kept tells whether an entry counts.
counts_same : (past : Past) (kept : Kept) → Follows past kept → (iface : IfaceId) (entry : JoinEntry) →
    counts kept.clock (entry_now past.scenario kept iface entry) ≡ counts kept.clock (standing past iface entry).expiry
counts_same past kept follows iface entry =
    counts_alike kept.clock (entry_now past.scenario kept iface entry) (standing past iface entry).expiry (follows.joined iface entry)

-- Whether the interface asks for (S,G), as the events so far have it.
pub asks_same : (past : Past) (kept : Kept) → Follows past kept → (iface : IfaceId) (source group : Addr) (active : Bool)
    → active ≡ is_active_at past iface source group →
    asks_by kept.clock active (entry_now past.scenario kept iface (entries.Source source group))
    (entry_now past.scenario kept iface (entries.Star group))
    (entry_now past.scenario kept iface (entries.Rpt source group)) ≡ asks past iface source group
asks_same past kept follows iface source group active same =
    (λ i. counts_same past kept follows iface (entries.Source source group) i
    || (counts_same past kept follows iface (entries.Star group) i && not (counts_same past kept follows iface (entries.Rpt source group) i)
    && same i))
    ∙ ap (λ n. asks_by n (is_active_at past iface source group) (standing past iface (entries.Source source group)).expiry
    (standing past iface (entries.Star group)).expiry
    (standing past iface (entries.Rpt source group)).expiry) (sym (follows.clock iface (entries.Source source group)))
