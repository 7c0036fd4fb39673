-- Rows, turns and rounds of acts, each of which is done.
use Rattle.std.proofs.Common.{ℕ, zero, suc, ◌++◌, List, [], ◌∷◌, Some}
use Rattle.std.specs.Prelude.{Result, Ok, Err}
use Rattle.std.specs.List.{AllByRecursion}
use Rattle.mv_base.specs.declared.ids.NodeId.{NodeId}
use Rattle.network_defs.specs.Acts.{Act, Acted, act}
use Rattle.network_defs.specs.Events.{Outcome, Done, Halted, and_then, one_act, row, each, times}
use Rattle.network_defs.specs.World.{World}
use Rattle.growth_laws.proofs.Worlds.{Must}

-- all acts are done, and the world after them has the property
abbrev pub Comes : (World → Type 0) → Outcome → Type 0
Comes P (Halted acts node) = ⊥
Comes P (Done acts new) = P new

pub comes_as : (P Q : World → Type 0) (o : Outcome) → ((world : World) → P world → Q world) → Comes P o → Comes Q o
comes_as P Q (Halted acts node) h p = p
comes_as P Q (Done acts world) h p = h world p

pub then_comes : (P Q : World → Type 0) (first : Outcome) (next : World → Outcome) → Comes P first
    → ((world : World) → P world → Comes Q (next world)) → Comes Q (and_then first next)
then_comes P Q (Halted acts node) next p h = p
then_comes P Q (Done acts world) next p h = by (next world) (h world p)
  where
    by : (o : Outcome) → Comes Q o → Comes Q (elim o
        [ Done thereafter new ↦ Done (acts ++ thereafter) new | Halted thereafter node ↦ Halted (acts ++ thereafter) node ])
    by (Halted thereafter node) q = q
    by (Done thereafter new) q = q

pub one_comes : (P : World → Type 0) (world : World) (first : Act) → Must P (act world first) → Comes P (one_act world first)
one_comes P world first g = by (act world first) g
  where
    by : (o : Result Acted NodeId) → Must P o → Comes P
        (elim o [ Ok new ↦ Done (record { act = Some first; lines = new.lines } ∷ []) new.world | Err node ↦ Halted [] node ])
    by (Err node) h = h
    by (Ok new) h = h

-- a first act, and the row after it
pub first_comes : (P Q : World → Type 0) (first : Act) (more : List Act) (world : World) → Must P (act world first)
    → ((next : World) → P next → Comes Q (row more next)) → Comes Q (row (first ∷ more) world)
first_comes P Q first more world g rest = then_comes P Q (one_act world first) (row more) (one_comes P world first g) rest

module _ (P : World → Type 0) where
  pub row_comes : (acts : List Act) → AllByRecursion (λ one. (world : World) → P world → Must P (act world one)) acts → (world : World) → P world
      → Comes P (row acts world)
  row_comes [] musts world p = p
  row_comes (first ∷ more) musts world p = first_comes P P first more world (musts.0 world p) (λ next q. row_comes more musts.1 next q)

  pub alone_comes : (one : Act) (world : World) → Must P (act world one) → Comes P (row (one ∷ []) world)
  alone_comes one world g = first_comes P P one [] world g (λ next p. p)

  pub each_comes : {A : Type 0} (turn : A → World → Outcome) (all : List A)
      → AllByRecursion (λ x. (world : World) → P world → Comes P (turn x world)) all → (world : World) → P world → Comes P (each turn all world)
  each_comes turn [] musts world p = p
  each_comes turn (x ∷ more) musts world p =
      then_comes P P (turn x world) (each turn more) (musts.0 world p) (λ next q. each_comes turn more musts.1 next q)

  pub times_comes : (round : World → Outcome) → ((world : World) → P world → Comes P (round world)) → (count : ℕ) (world : World) → P world
      → Comes P (times round count world)
  times_comes round musts zero world p = p
  times_comes round musts (suc count) world p =
      then_comes P P (round world) (times round count) (musts world p) (λ next q. times_comes round musts count next q)
