-- Sets of Route Targets.
use Rattle.std.specs.Prelude.{Bool, nat_eq, List, Contains, ◌&&◌}
use Rattle.std.specs.List.{list_any, list_all}
use Rattle.std.specs.Cmp.Lexicographic.{pointwise}
use Rattle.mv_base.specs.declared.route_targets.communities.Target.{Target}

-- whether both are one target
abbrev pub same_target : Target → Target → Bool
same_target a b = pointwise nat_eq a.0.0 b.0.0

-- whether the target is one of the set
abbrev pub has : List Target → Target → Bool
has targets target = list_any (same_target target) targets

-- whether the sets share a member
abbrev pub shares : List Target → List Target → Bool
shares a b = list_any (has b) a

-- whether the sets have the same members
abbrev pub same : List Target → List Target → Bool
same a b = list_all (has b) a && list_all (has a) b

-- a target that both sets have
pub record HasCommon (a b : List Target) : Type 0 where
  pub target : Target
  pub first : Contains a target
  pub second : Contains b target
