-- Trees that settle keep the label part sound, and what they put is sound.
use Rattle.std.proofs.Common.{◌≡◌, ℕ, ◌-◌, ◌≤◌, true, inl, inr, List, [], ◌∷◌, ◌++◌, length, slice_set, Some, sym, ap, subst, ◌∙◌, arith}
use Rattle.std.specs.List.{AllByRecursion}
use Rattle.std.specs.FinSet as sets
use Rattle.std.proofs.lemmas.Option.{slice_get_within, same_Some, none-some}
use Rattle.mldp.specs.declared.mldp_fec.fec.Fec.{Fec}
use Rattle.mldp.specs.mldp_msgs.Spelling.{IsLabel}
use Rattle.label_defs.specs.declared.change.Change.{Change}
use Rattle.label_defs.specs.declared.change.Change.TheVariants as changes
use Rattle.label_defs.specs.declared.label_use.LabelUse.{LabelUse}
use Rattle.label_defs.specs.declared.label_use.LabelUse.TheVariants as uses
use Rattle.label_defs.specs.declared.put.Put.{Put}
use Rattle.label_defs.specs.LabelData.{Place, LabelData, use_of}
use Rattle.label_defs.specs.Settling.{Stepped, change_of, changed, put_by, settle_all}
use Rattle.label_defs.proofs.KeyLemmas.{fec_cmp_total, fec_cmp_exact}
use Rattle.label_defs.proofs.SettleLemmas.{bind_some}
use Rattle.label_defs.proofs.TurnLemmas.{Turn, turn}
use Rattle.label_defs.proofs.UseLemmas.{used_some}
use Rattle.network_laws.specs.Sound.{IsSoundFec, SoundUse, SoundPart}
use Rattle.network_laws.proofs.Lists.{each_append, each_set, length_set}
use Rattle.network_laws.proofs.Maps.{each_inserted, still}
use Rattle.network_laws.proofs.LabelSound.{IsSoundPut, mapping_sound, withdraw_sound}

-- ---- labels

-- labels that are few, and whose uses are sound
abbrev pub AreSoundUses : List LabelUse → Type 0
AreSoundUses labels = (length labels ≤ 65536) × AllByRecursion SoundUse labels

-- A label of a node is none of the reserved ones, and has at most 20 bits.
pub label_is : (part : LabelData) (label : ℕ) (usage : LabelUse) → length part.labels ≤ 65536 → use_of part label ≡ Some usage → IsLabel label
label_is part label usage few e =
    let x = used_some part.labels label usage e in
    let high = x.0 in
    let within = slice_get_within part.labels (label - 16) usage x.1 in
    (high, omega (arith, high, within, few))

pub uses_set : (labels : List LabelUse) (k : ℕ) (usage : LabelUse) → AreSoundUses labels → SoundUse usage → AreSoundUses (slice_set labels k usage)
uses_set labels k usage sound own = (
  (let few = sound.0 in omega (arith, few, length_set labels k usage)),
  each_set SoundUse labels k usage sound.1 own,
)

turn_labels : (place : Place) (old : LabelData) (fec : Fec) (new : LabelData) (more : List Put) → IsSoundFec fec → AreSoundUses old.labels
    → Turn place old fec new more → AreSoundUses new.labels × AllByRecursion IsSoundPut more
turn_labels place old fec new more sound few t = elim t.how [
  | inl q ↦ (subst AreSoundUses (sym q.labels) few, subst (AllByRecursion IsSoundPut) (sym q.silent) tt)
  | inr (inl m) ↦ (
    subst AreSoundUses (sym m.labels) (uses_set old.labels (m.label - 16) (uses.Mapped fec m.to) few sound),
    subst (AllByRecursion IsSoundPut) (sym m.put) (mapping_sound m.to fec m.label sound (label_is old m.label uses.Free few.0 m.least.free), tt),
  )
  | inr (inr w) ↦ (
    subst AreSoundUses (sym w.labels) (uses_set old.labels (w.label - 16) (uses.Leaving fec w.to) few sound),
    subst (AllByRecursion IsSoundPut) (sym w.put)
        (withdraw_sound w.to fec w.label sound (label_is old w.label (uses.Mapped fec w.to) few.0 w.was), tt),
  )
]

-- ---- trees whose binding waits

abbrev AreSoundWaiting : LabelData → Type 0
AreSoundWaiting part = (fec : Fec) → sets.contains part.waiting fec ≡ true → IsSoundFec fec

turn_waiting : (part : LabelData) (fec : Fec) (change : Change) (new : LabelData) → IsSoundFec fec → AreSoundWaiting part
    → changed part fec change ≡ Some new → AreSoundWaiting new
turn_waiting part fec changes.Keep new sound each e = subst AreSoundWaiting (same_Some part new e) each
turn_waiting part fec (changes.Map upstream label) new sound each e =
    subst AreSoundWaiting (same_Some _ new e) (λ q h. each q (still fec_cmp_total part.waiting fec q h))
turn_waiting part fec (changes.Withdraw upstream label) new sound each e = subst AreSoundWaiting (same_Some _ new e) each
turn_waiting part fec changes.Wait new sound each e =
    subst AreSoundWaiting (same_Some _ new e) (each_inserted fec_cmp_total fec_cmp_exact IsSoundFec part.waiting fec sound each)
turn_waiting part fec changes.Cancel new sound each e =
    subst AreSoundWaiting (same_Some _ new e) (λ q h. each q (still fec_cmp_total part.waiting fec q h))
turn_waiting part fec changes.NoLabel new sound each e = absurd (none-some new e)

-- ---- a row of turns

-- A sound label part, and what it put.
abbrev pub IsSoundStep : LabelData → List Put → Type 0
IsSoundStep part puts = SoundPart part × AllByRecursion IsSoundPut puts

turn_sound : (place : Place) (old : LabelData) (puts : List Put) (fec : Fec) (new : LabelData) → IsSoundFec fec
    → changed old fec (change_of place old fec) ≡ Some new → IsSoundStep old puts
    → IsSoundStep new (puts ++ put_by fec (change_of place old fec))
turn_sound place old puts fec new sound e s =
    let change : Change = change_of place old fec in
    let t = turn place old fec new e in
    let own = turn_labels place old fec new (put_by fec change) sound (s.0.few, s.0.uses) t in (
      record {
        few = own.0.0;
        uses = own.0.1;
        branches = λ branch h. s.0.branches branch (ap (λ branches. sets.contains branches branch) (sym t.rest.branches) ∙ h);
        leaves = λ q h. s.0.leaves q (ap (λ leaves. sets.contains leaves q) (sym t.rest.leaves) ∙ h);
        waiting = turn_waiting old fec change new sound s.0.waiting e;
      },
      each_append IsSoundPut puts (put_by fec change) s.1 own.1,
    )

pub settle_sound : (place : Place) (fecs : List Fec) (old new : Stepped) → AllByRecursion IsSoundFec fecs → IsSoundStep old.part old.puts
    → settle_all place fecs old ≡ Some new → IsSoundStep new.part new.puts
settle_sound place [] old new sound s e = subst (λ (x : Stepped). IsSoundStep x.part x.puts) (same_Some old new e) s
settle_sound place (fec ∷ more) old new sound s e =
    let put = put_by fec (change_of place old.part fec) in
    let x = bind_some (changed old.part fec (change_of place old.part fec))
    (λ next. settle_all place more (record { part = next; puts = old.puts ++ put })) new e in
    settle_sound place more (record { part = x.0; puts = old.puts ++ put }) new sound.1 (turn_sound place old.part old.puts fec x.0 sound.0 x.1 s) x.2
