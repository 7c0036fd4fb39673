-- A call's own effect on the label part keeps it sound, and what answers it is sound; so is a whole label step.
use Rattle.std.proofs.Common.{◌≡◌, ℕ, ◌+◌, ◌-◌, ◌==◌, ◌≤◌, ◌&&◌, not, nat_le, Bool, true, false, cond, List, [], ◌∷◌, ◌++◌, map, Option, Some, None, refl, sym, subst}
use Rattle.std.specs.List.{AllByRecursion}
use Rattle.std.specs.FinSet as sets
use Rattle.mv_base.specs.declared.ids.NodeId.{NodeId}
use Rattle.mldp.specs.declared.mldp_fec.fec.Fec.{Fec}
use Rattle.mldp.specs.declared.mldp_msgs.message.LabelMessage.TheVariants as messages
use Rattle.label_defs.specs.declared.branch.Branch.{Branch}
use Rattle.label_defs.specs.declared.label_use.LabelUse.{LabelUse}
use Rattle.label_defs.specs.declared.label_use.LabelUse.TheVariants as uses
use Rattle.label_defs.specs.LabelData.{Place, LabelData, same_fec, use_of, mapped_trees, trees}
use Rattle.label_defs.specs.Settling.{Stepped, with_use, settle_all}
use Rattle.label_defs.specs.Steps.{Call, Taken, Want, Unwant, Raised, Noticed, Timers, Rerouted, twice, branch_to, released, freed, woken, without_session, timed, effect, counted, label_step}
use Rattle.label_defs.specs.Members.{in_order}
use Rattle.label_defs.proofs.KeyLemmas.{fec_cmp_total, fec_cmp_exact, branch_cmp_total, branch_cmp_exact}
use Rattle.label_defs.proofs.UseLemmas.{used_some, map_some}
use Rattle.label_defs.proofs.MemberLemmas.{each_in_order}
use Rattle.network_laws.specs.Sound.{IsSoundFec, SoundUse, SoundPart}
use Rattle.network_laws.proofs.Lists.{each_append, each_map, each_changed, each_at, length_map}
use Rattle.network_laws.proofs.Maps.{each_member, each_inserted, still, was}
use Rattle.network_laws.proofs.LabelSound.{IsSoundLabelCall, release_sound}
use Rattle.network_laws.proofs.LabelTurns.{AreSoundUses, uses_set, IsSoundStep, settle_sound}

-- ---- labels

released_sound : (from : NodeId) (fec : Fec) (until : ℕ) (usage : LabelUse) → SoundUse usage → SoundUse (released from fec until usage)
released_sound from fec until uses.Free s = s
released_sound from fec until (uses.Mapped own upstream) s = s
released_sound from fec until (uses.Resting moment) s = s
released_sound from fec until (uses.Leaving own upstream) s = by (same_fec own fec && upstream.0 == from.0)
  where
    by : (t : Bool) → SoundUse (cond t (uses.Resting until) (uses.Leaving own upstream))
    by true = tt
    by false = s

freed_sound : (node : NodeId) (usage : LabelUse) → SoundUse usage → SoundUse (freed node usage)
freed_sound node uses.Free s = s
freed_sound node (uses.Resting moment) s = s
freed_sound node (uses.Mapped own upstream) s =
    elim (upstream.0 == node.0) as (λ t. SoundUse (cond t uses.Free (uses.Mapped own upstream))) [ true ↦ tt | false ↦ s ]
freed_sound node (uses.Leaving own upstream) s =
    elim (upstream.0 == node.0) as (λ t. SoundUse (cond t uses.Free (uses.Leaving own upstream))) [ true ↦ tt | false ↦ s ]

woken_sound : (now : ℕ) (usage : LabelUse) → SoundUse usage → SoundUse (woken now usage)
woken_sound now uses.Free s = s
woken_sound now (uses.Mapped own upstream) s = s
woken_sound now (uses.Leaving own upstream) s = s
woken_sound now (uses.Resting until) s = elim (nat_le until now) as (λ t. SoundUse (cond t uses.Free (uses.Resting until))) [ true ↦ tt | false ↦ tt ]

uses_changed : (change : LabelUse → LabelUse) → ((usage : LabelUse) → SoundUse usage → SoundUse (change usage)) → (labels : List LabelUse)
    → AreSoundUses labels → AreSoundUses (map change labels)
uses_changed change keeps labels s = (subst (λ n. n ≤ 65536) (sym (length_map change labels)) s.0, each_changed SoundUse change keeps labels s.1)

release_part : (part : LabelData) (label : ℕ) (from : NodeId) (fec : Fec) (until : ℕ) → SoundPart part → (o : Option LabelUse) → use_of part label ≡ o
    → SoundPart (elim o [ None ↦ part | Some usage ↦ with_use part label (released from fec until usage) ])
release_part part label from fec until s None e = s
release_part part label from fec until s (Some usage) e =
    let x = used_some part.labels label usage e in
    let own = each_at SoundUse part.labels (label - 16) usage s.uses x.1 in
    let new = uses_set part.labels (label - 16) (released from fec until usage) (s.few, s.uses) (released_sound from fec until usage own) in
    record { few = new.0; uses = new.1; branches = s.branches; leaves = s.leaves; waiting = s.waiting }

-- ---- trees of a node

mapped_sound : (labels : List LabelUse) → AllByRecursion SoundUse labels → AllByRecursion IsSoundFec (mapped_trees labels)
mapped_sound [] s = tt
mapped_sound (uses.Mapped fec upstream ∷ more) s = (s.0, mapped_sound more s.1)
mapped_sound (uses.Free ∷ more) s = mapped_sound more s.1
mapped_sound (uses.Leaving fec upstream ∷ more) s = mapped_sound more s.1
mapped_sound (uses.Resting until ∷ more) s = mapped_sound more s.1

pub trees_sound : (part : LabelData) → SoundPart part → AllByRecursion IsSoundFec (trees part)
trees_sound part s =
    let branches : List Fec = map (λ (branch : Branch). branch.fec) (in_order part.branches) in
    let leaves : List Fec = in_order part.leaves in
    let mapped : List Fec = mapped_trees part.labels in
    let all : AllByRecursion IsSoundFec (branches ++ (leaves ++ mapped)) =
    each_append IsSoundFec branches (leaves ++ mapped)
    (each_map IsSoundFec (λ (branch : Branch). branch.fec) (in_order part.branches)
    (each_in_order branch_cmp_total (λ (branch : Branch). IsSoundFec branch.fec) part.branches s.branches))
    (each_append IsSoundFec leaves mapped (each_in_order fec_cmp_total IsSoundFec part.leaves s.leaves) (mapped_sound part.labels s.uses)) in
    each_in_order fec_cmp_total IsSoundFec (sets.from_list (branches ++ (leaves ++ mapped)))
    (each_member fec_cmp_total fec_cmp_exact IsSoundFec (branches ++ (leaves ++ mapped)) all)

twice_sound : (fecs : List Fec) → AllByRecursion IsSoundFec fecs → AllByRecursion IsSoundFec (twice fecs)
twice_sound [] s = tt
twice_sound (fec ∷ more) s = (s.0, (s.0, twice_sound more s.1))

-- ---- effects

-- A call's own effect, and the trees that settle after it, are sound.
abbrev IsSoundEffect : Stepped × List Fec → Type 0
IsSoundEffect own = IsSoundStep own.0.part own.0.puts × AllByRecursion IsSoundFec own.1

mapping_part : (part : LabelData) (branch : Branch) → IsSoundFec branch.fec → SoundPart part → (t : Bool)
    → SoundPart (cond t (record part { branches = sets.insert part.branches branch }) part)
mapping_part part branch sound s false = s
mapping_part part branch sound s true =
    record {
      few = s.few;
      uses = s.uses;
      branches = each_inserted branch_cmp_total branch_cmp_exact (λ (b : Branch). IsSoundFec b.fec) part.branches branch sound s.branches;
      leaves = s.leaves;
      waiting = s.waiting;
    }

lost_part : (part : LabelData) (peer : NodeId) → SoundPart part → SoundPart (without_session part peer)
lost_part part peer s =
    let new = uses_changed (freed peer) (freed_sound peer) part.labels (s.few, s.uses) in
    record {
      few = new.0;
      uses = new.1;
      branches = λ branch h. s.branches branch (was branch_cmp_total branch_cmp_exact part.branches (λ x. not (x.node.0 == peer.0)) branch h);
      leaves = s.leaves;
      waiting = s.waiting;
    }

timed_part : (place : Place) (now : ℕ) (part : LabelData) → SoundPart part → SoundPart (timed place now part)
timed_part place now part s =
    (let new = uses_changed (woken now) (woken_sound now) part.labels (s.few, s.uses) in
    record { few = new.0; uses = new.1; branches = s.branches; leaves = s.leaves; waiting = s.waiting })

effect_sound : (place : Place) (now : ℕ) (part : LabelData) (call : Call) → SoundPart part → IsSoundLabelCall call
    → IsSoundEffect (effect place now part call)
effect_sound place now part (Taken from (messages.Mapping fec label)) s c =
    ((mapping_part part (branch_to from fec label) c.0 s (place.is_tree fec), tt), (c.0, tt))
effect_sound place now part (Taken from (messages.Withdraw fec label)) s c = (
  (
    record {
      few = s.few;
      uses = s.uses;
      branches =
          λ branch h. s.branches branch (still branch_cmp_total part.branches (branch_to from fec label) branch h);
      leaves = s.leaves;
      waiting =
          s.waiting;
    },
    (release_sound from fec label c.0 c.1, tt),
  ),
  (c.0, tt),
)
effect_sound place now part (Taken from (messages.Release fec label)) s c =
    ((release_part part label from fec (now + place.life + 1) s (use_of part label) refl, tt), tt)
effect_sound place now part (Taken from (messages.Ignored kind)) s c = ((s, tt), tt)
effect_sound place now part (Want fec) s c = (
  (
    record {
      few = s.few;
      uses = s.uses;
      branches = s.branches;
      leaves =
          each_inserted fec_cmp_total fec_cmp_exact IsSoundFec part.leaves fec c s.leaves;
      waiting = s.waiting;
    },
    tt,
  ),
  (c, tt),
)
effect_sound place now part (Unwant fec) s c = (
  (
    record {
      few = s.few;
      uses = s.uses;
      branches = s.branches;
      leaves = λ q h. s.leaves q (still fec_cmp_total part.leaves fec q h);
      waiting =
          s.waiting;
    },
    tt,
  ),
  (c, tt),
)
effect_sound place now part (Raised peer) s c =
    ((record { few = s.few; uses = s.uses; branches = s.branches; leaves = s.leaves; waiting = s.waiting }, tt), tt)
effect_sound place now part (Noticed peer) s c = ((lost_part part peer s, tt), trees_sound part s)
effect_sound place now part Timers s c = ((timed_part place now part s, tt), each_in_order fec_cmp_total IsSoundFec part.waiting s.waiting)
effect_sound place now part Rerouted s c = ((s, tt), twice_sound (trees part) (trees_sound part s))

-- ---- steps

counted_sound : (old : Stepped) → IsSoundStep old.part old.puts → IsSoundStep (counted old).part (counted old).puts
counted_sound old s = (record { few = s.0.few; uses = s.0.uses; branches = s.0.branches; leaves = s.0.leaves; waiting = s.0.waiting }, s.1)

-- A label step at a sound call keeps the label part sound, and puts what is sound.
pub step_sound : (place : Place) (now : ℕ) (part : LabelData) (call : Call) (new : Stepped) → SoundPart part → IsSoundLabelCall call
    → label_step place now part call ≡ Some new → IsSoundStep new.part new.puts
step_sound place now part call new s c e =
    let own = effect place now part call in
    let x = map_some counted (settle_all place own.1 own.0) new e in
    let first = effect_sound place now part call s c in
    subst (λ (y : Stepped). IsSoundStep y.part y.puts) x.2 (counted_sound x.0 (settle_sound place own.1 own.0 x.0 first.1 first.0 x.1))
