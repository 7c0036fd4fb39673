-- What holds throughout a row of acts, throughout turns and rounds, and throughout parts one after another.
use Rattle.std.specs.Prelude.{Result, Ok, Err}
use Rattle.std.proofs.Common.{◌≡◌, ◌++◌, ℕ, zero, suc, List, [], ◌∷◌, Some, refl, subst}
use Rattle.std.specs.List.{AllByRecursion}
use Rattle.mv_base.specs.declared.ids.NodeId.{NodeId}
use Rattle.network_defs.specs.Acts.{Act, Acted, act}
use Rattle.network_defs.specs.Events.{Happened, Outcome, Done, Halted, and_then, one_act, row, each, times}
use Rattle.network_defs.specs.World.{World, Datagram}
use Rattle.network_defs.proofs.Kept.{Gives, Comes}
use Rattle.rule_laws.specs.Throughout.{Throughout}

module _ (P : World → Type 0) where
  both_parts : (acts more : List Happened) (old middle new : World) → Throughout P old acts middle → Throughout P middle more new
      → Throughout P old (acts ++ more) new
  both_parts [] more old middle new first rest = subst (λ (world : World). Throughout P world more new) first.0 rest
  both_parts (happened ∷ acts) more old middle new first rest = (first.0, first.1, first.2, both_parts acts more first.0 middle new first.3 rest)

  -- P holds throughout an outcome that begins at that network, and K holds of the network after it.
  abbrev pub Goes : (World → Type 0) → World → Outcome → Type 0
  Goes K old (Done acts new) = K new × Throughout P old acts new
  Goes K old (Halted acts node) = (last : World) × (lacking : Act) × Throughout P old acts last × (act last lacking ≡ Err node)

  -- the same, from the network once it has other datagrams
  abbrev pub GoesWith : (World → Type 0) → World → Outcome → Type 0
  GoesWith K old o = (datagrams : List Datagram) × Goes K (record old { datagrams = datagrams }) o

  pub goes_comes : (K : World → Type 0) (old : World) (o : Outcome) → Goes K old o → Comes K o
  goes_comes K old (Done acts new) g = g.0
  goes_comes K old (Halted acts node) g = tt

  pub goes_as : (K L : World → Type 0) (old : World) (o : Outcome) → ((world : World) → K world → L world) → Goes K old o → Goes L old o
  goes_as K L old (Done acts new) h g = (h new g.0, g.1)
  goes_as K L old (Halted acts node) h g = g

  pub nothing_goes : (K : World → Type 0) (world : World) → P world → K world → Goes K world (Done [] world)
  nothing_goes K world p k = (k, (refl, p))

  pub then_goes : (K L : World → Type 0) (old : World) (first : Outcome) (next : World → Outcome) → Goes K old first
      → ((world : World) → K world → Goes L world (next world)) → Goes L old (and_then first next)
  then_goes K L old (Halted acts node) next g h = g
  then_goes K L old (Done acts middle) next g h = by (next middle) (h middle g.0)
    where
      by : (o : Outcome) → Goes L middle o → Goes L old
          (elim o [ Done thereafter new ↦ Done (acts ++ thereafter) new | Halted thereafter node ↦ Halted (acts ++ thereafter) node ])
      by (Done thereafter new) q = (q.0, both_parts acts thereafter old middle new g.1 q.1)
      by (Halted thereafter node) q = (q.0, q.1, both_parts acts thereafter old middle q.0 g.1 q.2, q.3)

  one_goes : (K : World → Type 0) → ((world : World) → K world → P world) → (old : World) (one : Act) → P old → Gives K (act old one)
      → Goes K old (one_act old one)
  one_goes K says old one p g = by (act old one) refl g
    where
      by : (o : Result Acted NodeId) → act old one ≡ o → Gives K o
          → Goes K old (elim o [ Ok new ↦ Done (record { act = Some one; lines = new.lines } ∷ []) new.world | Err node ↦ Halted [] node ])
      by (Err node) e h = (old, one, (refl, p), e)
      by (Ok new) e h = (h, (new.world, p, e, (refl, says new.world h)))

  -- a first act, and the row after it
  pub goes_then : (K L : World → Type 0) → ((world : World) → K world → P world) → (one : Act) (more : List Act) (world : World) → P world
      → Gives K (act world one) → ((next : World) → K next → Goes L next (row more next)) → Goes L world (row (one ∷ more) world)
  goes_then K L says one more world p g rest = then_goes K L world (one_act world one) (row more) (one_goes K says world one p g) rest

  module _ (K : World → Type 0) (says : (world : World) → K world → P world) where
    pub row_goes : (acts : List Act) → AllByRecursion (λ one. (world : World) → K world → Gives K (act world one)) acts → (world : World) → K world
        → Goes K world (row acts world)
    row_goes [] keeps world k = nothing_goes K world (says world k) k
    row_goes (one ∷ more) keeps world k = goes_then K K says one more world (says world k) (keeps.0 world k) (λ next q. row_goes more keeps.1 next q)

    pub each_goes : {A : Type 0} (turn : A → World → Outcome) (all : List A)
        → AllByRecursion (λ x. (world : World) → K world → Goes K world (turn x world)) all → (world : World) → K world
        → Goes K world (each turn all world)
    each_goes turn [] keeps world k = nothing_goes K world (says world k) k
    each_goes turn (x ∷ more) keeps world k =
        then_goes K K world (turn x world) (each turn more) (keeps.0 world k) (λ next q. each_goes turn more keeps.1 next q)

    pub times_goes : (round : World → Outcome) → ((world : World) → K world → Goes K world (round world)) → (count : ℕ) (world : World) → K world
        → Goes K world (times round count world)
    times_goes round keeps zero world k = nothing_goes K world (says world k) k
    times_goes round keeps (suc count) world k =
        then_goes K K world (round world) (times round count) (keeps world k) (λ next q. times_goes round keeps count next q)
