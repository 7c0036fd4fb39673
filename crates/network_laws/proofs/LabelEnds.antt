-- A node of which no end is up puts nothing, and none is up after a step but where an end comes up.
use Rattle.std.proofs.Common.{◌≡◌, ℕ, ◌+◌, ◌++◌, cond, Bool, true, false, List, [], ◌∷◌, map, Option, Some, None, refl, sym, ap, subst, ◌∙◌}
use Rattle.std.specs.Ordering.{eq_by_cmp}
use Rattle.std.specs.FinMap as maps
use Rattle.std.specs.FinMap.{FinMap}
use Rattle.std.specs.FinSet as sets
use Rattle.std.proofs.lemmas.Option.{same_Some, none-some}
use Rattle.mv_base.specs.declared.addr.Addr.{Addr}
use Rattle.mv_base.specs.declared.ids.NodeId.{NodeId}
use Rattle.mldp.specs.declared.mldp_fec.fec.Fec.{Fec}
use Rattle.mldp.specs.declared.mldp_msgs.message.LabelMessage.TheVariants as messages
use Rattle.label_defs.specs.Keys.{node_cmp}
use Rattle.label_defs.specs.LabelData.{Place, LabelData, use_of}
use Rattle.label_defs.specs.Settling.{Stepped, change_of, changed, put_by, settle_all, with_use}
use Rattle.label_defs.specs.Steps.{Call, Taken, Want, Unwant, Raised, Noticed, Timers, Rerouted, branch_to, released, effect, told, numbered, ends_after, hold_run, holds_run, counted, label_step}
use Rattle.label_defs.specs.declared.branch.Branch.{Branch}
use Rattle.label_defs.specs.declared.end.End.{End}
use Rattle.label_defs.specs.declared.change.Change.{Change}
use Rattle.label_defs.specs.declared.change.Change.TheVariants as changes
use Rattle.label_defs.specs.declared.label_use.LabelUse.{LabelUse}
use Rattle.label_defs.specs.declared.put.Put as labels
use Rattle.label_defs.proofs.KeyLemmas.{node_cmp_total, node_cmp_exact}
use Rattle.label_defs.proofs.SettleLemmas.{bind_some}
use Rattle.label_defs.proofs.UseLemmas.{map_some}
use Rattle.network_defs.specs.edge_defs.Steps.{LabelStep}
use Rattle.network_defs.specs.node_defs.Puts.{label_put, label_puts}
use Rattle.network_defs.proofs.Nothing.{no_entries}

-- the call is none of an end that comes up
abbrev pub IsNoRaise : Call → Type 0
IsNoRaise (Raised peer) = ⊥
IsNoRaise other = Unit {0}

-- no end is up
abbrev pub HasNoEnds : LabelData → Type 0
HasNoEnds part = part.ends ≡ maps.empty

no_end : (node : NodeId) → maps.get (maps.empty {X = End} {R = node_cmp}) node ≡ None
no_end node = maps.get-empty node_cmp node

none_cut : (b : Bool) (o : Option End) → o ≡ None → cond b None o ≡ None
none_cut true o e = refl
none_cut false o e = e

still_none : (node : NodeId) → maps.remove (maps.empty {X = End} {R = node_cmp}) node ≡ maps.empty
still_none node =
    maps.same_map node_cmp_total node_cmp_exact (maps.remove maps.empty node) maps.empty (λ q.
    maps.get-remove node_cmp_total (maps.empty {X = End}) node q
    ∙ none_cut (eq_by_cmp node_cmp q node) (maps.get (maps.empty {X = End} {R = node_cmp}) q) (no_end q) ∙ sym (no_end q))

-- ---- puts

none_put : (ends : FinMap node_cmp End) (puts : List labels.Put) → ends ≡ maps.empty → numbered ends puts ≡ []
none_put ends [] e = refl
none_put ends (put ∷ more) e =
    ap (λ (o : Option End). elim o [
      | None ↦ numbered ends more
      | Some end ↦
          record { id = end.next; put = put } ∷ numbered (maps.insert ends put.to (told end)) more
    ])
    (ap (λ (m : FinMap node_cmp End). maps.get m put.to) e ∙ no_end put.to)
    ∙ none_put ends more e

pub no_ends_no_puts : (n : NodeId) (addr : Addr) (place : Place) (now : ℕ) (step : LabelStep)
    → (effect place now step.old step.call).0.part.ends ≡ maps.empty → label_puts n addr place now step ≡ []
no_ends_no_puts n addr place now step e = ap (map (label_put n addr)) (none_put (effect place now step.old step.call).0.part.ends step.new.puts e)

-- ---- steps

ends_thereafter : (ends : FinMap node_cmp End) (puts : List labels.Put) → ends ≡ maps.empty → ends_after ends puts ≡ maps.empty
ends_thereafter ends [] e = e
ends_thereafter ends (put ∷ more) e =
    ap (λ (o : Option End). elim o [ None ↦ ends_after ends more | Some end ↦ ends_after (maps.insert ends put.to (told end)) more ])
    (ap (λ (m : FinMap node_cmp End). maps.get m put.to) e ∙ no_end put.to)
    ∙ ends_thereafter ends more e

mapping_ends : (part : LabelData) (branch : Branch) (t : Bool) → HasNoEnds part
    → HasNoEnds (cond t (record part { branches = sets.insert part.branches branch }) part)
mapping_ends part branch true e = e
mapping_ends part branch false e = e

release_ends : (part : LabelData) (label : ℕ) (change : LabelUse → LabelUse) (o : Option LabelUse) → HasNoEnds part
    → HasNoEnds (elim o [ None ↦ part | Some usage ↦ with_use part label (change usage) ])
release_ends part label change None e = e
release_ends part label change (Some usage) e = e

none_run : (life now : ℕ) → holds_run life now maps.empty ≡ maps.empty
none_run life now =
    ap (λ (all : List (NodeId × End)). maps.from_entries {R = node_cmp} (map (λ (entry : NodeId × End). (entry.0, hold_run life now entry.1)) all))
    (no_entries node_cmp End)

-- after the call's own effect
pub own_ends_stay_empty : (place : Place) (now : ℕ) (part : LabelData) (call : Call) → IsNoRaise call → part.ends ≡ maps.empty
    → (effect place now part call).0.part.ends ≡ maps.empty
own_ends_stay_empty place now part (Taken from (messages.Mapping fec label)) c e = mapping_ends part (branch_to from fec label) (place.is_tree fec) e
own_ends_stay_empty place now part (Taken from (messages.Withdraw fec label)) c e = e
own_ends_stay_empty place now part (Taken from (messages.Release fec label)) c e =
    release_ends part label (released from fec (now + place.life + 1)) (use_of part label) e
own_ends_stay_empty place now part (Taken from (messages.Ignored kind)) c e = e
own_ends_stay_empty place now part (Want fec) c e = e
own_ends_stay_empty place now part (Unwant fec) c e = e
own_ends_stay_empty place now part (Raised peer) c e = absurd c
own_ends_stay_empty place now part (Noticed peer) c e = ap (λ (m : FinMap node_cmp End). maps.remove m peer) e ∙ still_none peer
own_ends_stay_empty place now part Timers c e = ap (holds_run place.life now) e ∙ none_run place.life now
own_ends_stay_empty place now part Rerouted c e = e

turn_ends : (part : LabelData) (fec : Fec) (change : Change) (new : LabelData) → changed part fec change ≡ Some new → HasNoEnds part → HasNoEnds new
turn_ends part fec changes.Keep new e h = subst HasNoEnds (same_Some part new e) h
turn_ends part fec (changes.Map upstream label) new e h = subst HasNoEnds (same_Some _ new e) h
turn_ends part fec (changes.Withdraw upstream label) new e h = subst HasNoEnds (same_Some _ new e) h
turn_ends part fec changes.Wait new e h = subst HasNoEnds (same_Some _ new e) h
turn_ends part fec changes.Cancel new e h = subst HasNoEnds (same_Some _ new e) h
turn_ends part fec changes.NoLabel new e h = absurd (none-some new e)

settle_ends : (place : Place) (fecs : List Fec) (old new : Stepped) → settle_all place fecs old ≡ Some new → HasNoEnds old.part → HasNoEnds new.part
settle_ends place [] old new e h = subst (λ (s : Stepped). HasNoEnds s.part) (same_Some old new e) h
settle_ends place (fec ∷ more) old new e h =
    let put = put_by fec (change_of place old.part fec) in
    let x = bind_some (changed old.part fec (change_of place old.part fec))
    (λ next. settle_all place more (record { part = next; puts = old.puts ++ put })) new e in
    settle_ends place more (record { part = x.0; puts = old.puts ++ put }) new x.2 (turn_ends old.part fec (change_of place old.part fec) x.0 x.1 h)

pub ends_stay_empty : (place : Place) (now : ℕ) (part : LabelData) (call : Call) (new : Stepped) → IsNoRaise call → part.ends ≡ maps.empty
    → label_step place now part call ≡ Some new → new.part.ends ≡ maps.empty
ends_stay_empty place now part call new c h e =
    let own = effect place now part call in
    let x = map_some counted (settle_all place own.1 own.0) new e in
    subst (λ (s : Stepped). HasNoEnds s.part) x.2
    (ends_thereafter x.0.part.ends x.0.puts (settle_ends place own.1 own.0 x.0 x.1 (own_ends_stay_empty place now part call c h)))
