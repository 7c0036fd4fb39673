-- A set of targets is held in 8 places, with targets of zeros after it.
use Rattle.std.specs.Prelude.{◌≡◌, ℕ, ◌-◌, ◌≤◌, ◌<◌, List, ◌++◌, length, take, drop, replicate}
use Rattle.std.proofs.Common.{arith, take-append-drop, length-take-le}
use Rattle.mv_base.specs.declared.route_targets.communities.Target.{Target}
use Rattle.mv_base.specs.declared.route_targets.targets.Targets.TheInside.{Inside}

-- a target whose octets are zeros
abbrev pub zeros : Target
zeros = record { 0 = record { 0 = replicate 8 0 } }

-- the places that hold these targets
abbrev pub padded : List Target → Inside
padded targets = record { targets = targets ++ replicate (8 - length targets) zeros; len = length targets }

pub record IsPadded (held : Inside) : Type 0 where
  pub some : 0 < held.len
  pub within : held.len ≤ 8
  pub places : length held.targets ≡ 8
  pub spare : drop held.len held.targets ≡ replicate (8 - held.len) zeros

of_fields : (o p : List Target) (m n : ℕ) → o ≡ p → m ≡ n →
    let a : Inside = record { targets = o; len = m } in
    let b : Inside = record { targets = p; len = n } in
    a ≡ b
of_fields o p m n h k = cc

-- The front and what stands after it are the places.
pub padded-take : (held : Inside) → IsPadded held → padded (take held.len held.targets) ≡ held
padded-take held h =
    let e : length (take held.len held.targets) ≡ held.len = length-take-le held.len held.targets (omega (arith, h.within, h.places)) in
    let o : take held.len held.targets ++ replicate (8 - length (take held.len held.targets)) zeros ≡ held.targets =
    rw (e, ← h.spare) (take-append-drop held.len held.targets) in
    of_fields _ _ _ _ o e
