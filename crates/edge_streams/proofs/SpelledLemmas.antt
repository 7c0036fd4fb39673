-- Each message that comes to wait in a stream is one that octets spell.
use Rattle.std.proofs.Common.{ℕ, List, [], ◌∷◌, ◌++◌, Result, Ok, Err, sym, subst}
use Rattle.std.specs.List.{flat_map, AllByRecursion}
use Rattle.mv_base.specs.framing.Units.{Spelled, Begins}
use Rattle.mv_base.specs.framing.Cut.{Fails}
use Rattle.mv_base.specs.framing.Feed.{Fed}
use Rattle.mv_base.specs.framing.Feeding.{Feeds}
use Rattle.mv_base.specs.declared.framing.fault.FeedFault.{FeedFault}
use Rattle.mv_base.specs.declared.framing.fault.FeedFault.TheVariants as faults
use Rattle.bgp_messages.specs.declared.bgp_attributes.update.Message.{Message}
use Rattle.bgp_messages.specs.declared.bgp_attributes.fault.StreamFault.{StreamFault}
use Rattle.bgp_messages.specs.bgp_update.Spelling as bgp
use Rattle.bgp_messages.specs.bgp_update.FirstFault.{UnitFault}
use Rattle.mldp.specs.declared.mldp_msgs.message.LabelMessage.{LabelMessage}
use Rattle.mldp.specs.declared.mldp_msgs.fault.LdpFault.{LdpFault}
use Rattle.mldp.specs.mldp_msgs.Spelling as ldp
use Rattle.mldp.specs.mldp_msgs.FirstFault.{PduFault}
use Rattle.mldp.specs.mldp_msgs.FirstFault.PduFault.{version, pdu_length, in_message}
use Rattle.network_defs.proofs.session_defs.Lines.{all_both}
use Rattle.edge_streams.specs.Spelled.{IsSpelled, IsSpelledLabel}

-- ---- units

-- what holds of what each element gives holds of all that they give
pub flat_holds : {A B : Type 0} (Q : A → Type 0) (P : B → Type 0) (given : A → List B) → ((x : A) → Q x → AllByRecursion P (given x)) → (xs : List A)
    → AllByRecursion Q xs → AllByRecursion P (flat_map given xs)
flat_holds Q P given each [] are = tt
flat_holds Q P given each (x ∷ xs) are = all_both P (given x) (flat_map given xs) (each x are.0) (flat_holds Q P given each xs are.1)

pub begins_hold : {M : Type 0} (Spells : List M → List ℕ → Type 0) (P : M → Type 0)
    → ((ms : List M) (text : List ℕ) → Spells ms text → AllByRecursion P ms) → (octets : List ℕ) (ms : List M) (rest : List ℕ)
    → Begins Spells octets ms rest → AllByRecursion P ms
begins_hold {M} Spells P each octets ms rest b =
    subst (AllByRecursion P) (sym b.carried)
    (flat_holds (λ (u : Spelled M). Spells u.messages u.octets) P (λ (u : Spelled M). u.messages) (λ u is. each u.messages u.octets is) b.units
    b.each)

-- ---- what a feed leaves

module _ {M E : Type 0} (Spells : List M → List ℕ → Type 0) (Faulty : List ℕ → List M → ℕ → E → Type 0) (P : M → Type 0)
    (each : (ms : List M) (text : List ℕ) → Spells ms text → AllByRecursion P ms)
    (last : (octets : List ℕ) (ms : List M) (offset : ℕ) (e : E) → Faulty octets ms offset e → AllByRecursion P ms) where
  fails_hold : (octets : List ℕ) (ms : List M) (place : ℕ) (e : E) → Fails Spells Faulty octets ms place e → AllByRecursion P ms
  fails_hold octets ms place e f =
      subst (AllByRecursion P) (sym f.messages)
      (all_both P f.first f.last (begins_hold Spells P each octets f.first f.rest f.begins) (last f.rest f.last f.offset e f.faulty))

  pub feed_holds : {X : Type 0} (limit : ℕ) (old : Fed M E) (piece : List ℕ) (result : Result X (FeedFault E)) (new : Fed M E)
      → Feeds Spells Faulty limit old piece result new → AllByRecursion P old.waiting → AllByRecursion P new.waiting
  feed_holds limit old piece (Ok x) new is held =
      subst (AllByRecursion P) (sym is.waiting) (all_both P old.waiting is.added held
      (begins_hold Spells P each (old.held ++ piece) is.added new.held is.splits.begins))
  feed_holds limit old piece (Err (faults.First place fault)) new is held =
      subst (AllByRecursion P) (sym is.waiting) (all_both P old.waiting is.added held
      (fails_hold (old.held ++ piece) is.added is.offset fault is.fails))
  feed_holds limit old piece (Err faults.Failed) new is held = subst (λ (d : Fed M E). AllByRecursion P d.waiting) (sym is.1) held
  feed_holds limit old piece (Err faults.NoMemory) new is held = subst (λ (d : Fed M E). AllByRecursion P d.waiting) (sym is.1) held

-- ---- both protocols

message_holds : (ms : List Message) (text : List ℕ) → bgp.SpellsMessage ms text → AllByRecursion IsSpelled ms
message_holds ms text s =
    subst (AllByRecursion IsSpelled) (sym s.one) ((text, subst (λ (xs : List Message). bgp.SpellsMessage xs text) s.one s), tt)

no_message : (octets : List ℕ) (ms : List Message) (offset : ℕ) (e : StreamFault) → UnitFault octets ms offset e → AllByRecursion IsSpelled ms
no_message octets ms offset e f = subst (AllByRecursion IsSpelled) (sym f.0) tt

pub bgp_holds : {X : Type 0} (limit : ℕ) (old : Fed Message StreamFault) (piece : List ℕ) (result : Result X (FeedFault StreamFault))
    (new : Fed Message StreamFault) → Feeds bgp.SpellsMessage UnitFault limit old piece result new → AllByRecursion IsSpelled old.waiting
    → AllByRecursion IsSpelled new.waiting
bgp_holds limit old piece result new is held =
    feed_holds bgp.SpellsMessage UnitFault IsSpelled message_holds no_message limit old piece result new is held

label_holds : (ms : List LabelMessage) (text : List ℕ) → ldp.SpellsMessage ms text → AllByRecursion IsSpelledLabel ms
label_holds ms text s =
    subst (AllByRecursion IsSpelledLabel) (sym s.one) ((text, subst (λ (xs : List LabelMessage). ldp.SpellsMessage xs text) s.one s), tt)

pdu_holds : (ms : List LabelMessage) (text : List ℕ) → ldp.SpellsPdu ms text → AllByRecursion IsSpelledLabel ms
pdu_holds ms text s = begins_hold ldp.SpellsMessage IsSpelledLabel label_holds s.body ms [] s.messages

before_fault : (octets : List ℕ) (ms : List LabelMessage) (offset : ℕ) (e : LdpFault) → PduFault octets ms offset e → AllByRecursion IsSpelledLabel ms
before_fault octets ms offset e (version number len rest fits long parts other none at is) = subst (AllByRecursion IsSpelledLabel) (sym none) tt
before_fault octets ms offset e (pdu_length len rest long parts wrong none at is) = subst (AllByRecursion IsSpelledLabel) (sym none) tt
before_fault octets ms offset e (in_message ident body after six fits parts left place begins more faulty at) =
    begins_hold ldp.SpellsMessage IsSpelledLabel label_holds body ms left begins

pub ldp_holds : {X : Type 0} (limit : ℕ) (old : Fed LabelMessage LdpFault) (piece : List ℕ) (result : Result X (FeedFault LdpFault))
    (new : Fed LabelMessage LdpFault) → Feeds ldp.SpellsPdu PduFault limit old piece result new → AllByRecursion IsSpelledLabel old.waiting
    → AllByRecursion IsSpelledLabel new.waiting
ldp_holds limit old piece result new is held =
    feed_holds ldp.SpellsPdu PduFault IsSpelledLabel pdu_holds before_fault limit old piece result new is held
