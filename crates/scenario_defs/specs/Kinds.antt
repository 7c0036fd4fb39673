-- The protocols of sessions.
use Rattle.std.specs.Prelude.{Bool, true, false}
use Rattle.scenario_defs.specs.declared.event.Kind.{Kind}
use Rattle.scenario_defs.specs.declared.event.Kind.TheVariants as kinds

-- whether both are one protocol
abbrev pub same_kind : Kind → Kind → Bool
same_kind kinds.Bgp kinds.Bgp = true
same_kind kinds.Ldp kinds.Ldp = true
same_kind a b = false
