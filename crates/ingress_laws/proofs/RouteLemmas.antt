-- The answer that is kept of a peer is the route that its octets leave under the key of the answer.
use Rattle.std.proofs.Common.{◌≡◌, ◌≢◌, ◌⊎◌, inl, inr, ◌∙◌, ap, sym, subst, refl, ℕ, Bool, true, false, cond, List, [], ◌∷◌, fold, flat_map, Option, None, Some}
use Rattle.std.specs.List.{AllByRecursion}
use Rattle.std.proofs.lemmas.List.Sums.{fold-append}
use Rattle.mv_base.specs.Octets.{IsOctets}
use Rattle.mv_base.specs.declared.addr.Addr.TheVariants.{V4}
use Rattle.mv_base.specs.framing.Units as units
use Rattle.mv_base.specs.framing.Cut.{Fails, Yields, cut}
use Rattle.mv_base.specs.framing.Cut.Yields.{sound, faulty}
use Rattle.mv_base.proofs.framing.Cuts.{IsOctets-after, cut_fails, cut_splits}
use Rattle.mv_base.proofs.framing.Feedings.{yields_cut}
use Rattle.bgp_messages.specs.declared.bgp_attributes.fault.StreamFault.{StreamFault}
use Rattle.bgp_messages.specs.declared.bgp_attributes.key.Key.{Key}
use Rattle.bgp_messages.specs.declared.bgp_attributes.update.Advert.{Advert}
use Rattle.bgp_messages.specs.declared.bgp_attributes.update.Change.{Change}
use Rattle.bgp_messages.specs.declared.bgp_attributes.update.Change.TheVariants.{Reach, Unreach}
use Rattle.bgp_messages.specs.declared.bgp_attributes.update.Message.{Message}
use Rattle.bgp_messages.specs.bgp_update.FirstFault.{UnitFault}
use Rattle.bgp_messages.specs.bgp_update.Reading.{message_front}
use Rattle.bgp_messages.specs.bgp_update.Spelling.{SpellsMessage}
use Rattle.bgp_messages.specs.bgp_update.Table.{changes_of, key_of, AnnouncesLast}
use Rattle.bgp_messages.proofs.bgp_update.Messages.{message_format}
use Rattle.ingress_rep.specs.declared.request.Request.{Request}
use Rattle.ingress_rep.specs.Ingress.{answer_key, is_answer}
use Rattle.ingress_text.specs.Telling.{answer_after, answer_by, told_by}
use Rattle.ingress_laws.specs.Answered.{LeavesRoute}
use Rattle.ingress_laws.proofs.LawLemmas.{answer_is, answer_own}
use Rattle.ingress_laws.proofs.HeardLemmas.{messages_in}

-- ---- the messages that octets yield

module _ (octets : List ℕ) (fits : IsOctets octets) where
  abbrev rest : List ℕ
  rest = (cut message_front octets).rest

  after_units : (ms : List Message) (left : List ℕ) → units.Begins SpellsMessage octets ms left → IsOctets left
  after_units ms left begins = IsOctets-after (units.octets_of begins.units) left (subst IsOctets begins.parts fits)

  pub fails_in : (f : ℕ × StreamFault) → (cut message_front octets).fault ≡ Some f → Fails SpellsMessage UnitFault octets (messages_in octets) f.0 f.1
  fails_in f e =
      let h = cut_fails message_front SpellsMessage message_format.stream.framing octets f fits e in
      let left : IsOctets h.rest = after_units h.first h.rest h.begins in
      record {
        first = h.first;
        last = h.last;
        rest = h.rest;
        offset = h.offset;
        begins = h.begins;
        faulty = message_format.fails h.rest h.last h.offset f.1 left h.faulty;
        messages = h.messages;
        at = h.at;
      }

  yield_by : (o : Option (ℕ × StreamFault)) → (cut message_front octets).fault ≡ o → Yields SpellsMessage UnitFault octets (messages_in octets)
  yield_by None e =
      let splits = cut_splits message_front SpellsMessage message_format.stream.framing octets fits e in
      let left : IsOctets rest = after_units (messages_in octets) rest splits.0.begins in
      sound rest splits.0 (λ last offset fault is. let bad_is = message_format.faulty rest last offset fault left is in let more_is = splits.1 in
      absurd cc)
  yield_by (Some f) e = faulty f.0 f.1 (fails_in f e)

  yielded : Yields SpellsMessage UnitFault octets (messages_in octets)
  yielded = yield_by (cut message_front octets).fault refl

-- ---- the last change under a key

module _ (request : Request) (leaf : List ℕ) where
  abbrev key : Key
  key = answer_key request (V4 leaf)

  abbrev step : Option Advert → Change → Option Advert
  step = answer_after request leaf

  by_changes : (ms : List Message) (found : Option Advert) → fold (answer_by request leaf) found ms ≡ fold step found (flat_map changes_of ms)
  by_changes [] found = refl
  by_changes (message ∷ ms) found =
      by_changes ms (answer_by request leaf found message) ∙ sym (fold-append step found (changes_of message) (flat_map changes_of ms))

  other_key : (change : Change) → is_answer request (V4 leaf) (key_of change) ≡ false → key_of change ≢ key
  other_key change e is = let own = ap (is_answer request (V4 leaf)) is ∙ answer_own request (V4 leaf) in absurd cc

  not_own : (change : Change) → key_of change ≢ key → (b : Bool) → is_answer request (V4 leaf) (key_of change) ≡ b → b ≡ false
  not_own change other true e = absurd (other (answer_is request (V4 leaf) (key_of change) e))
  not_own change other false e = refl

  abbrev NoneOwn : List Change → Type 0
  NoneOwn changes = AllByRecursion (λ (change : Change). key_of change ≢ key) changes

  abbrev LastOrOld : List Change → Option Advert → Advert → Type 0
  LastOrOld changes found advert = AnnouncesLast changes key advert ⊎ ((found ≡ Some advert) × NoneOwn changes)

  told_is : (change : Change) (more : List Change) (advert : Advert) → is_answer request (V4 leaf) (key_of change) ≡ true
      → told_by change ≡ Some advert → NoneOwn more → AnnouncesLast (change ∷ more) key advert
  told_is (Reach own) more advert e told none =
      let same : own ≡ advert = cc in
      record {
        before = [];
        after = more;
        parts = ap (λ (a : Advert). Reach a ∷ more) same;
        same =
            sym (ap (λ (a : Advert). a.key) same) ∙ answer_is request (V4 leaf) own.key e;
        last = none;
      }
  told_is (Unreach gone) more advert e told none = absurd cc

  last_more : (change : Change) (more : List Change) (advert : Advert) → AnnouncesLast more key advert → AnnouncesLast (change ∷ more) key advert
  last_more change more advert a =
      record { before = change ∷ a.before; after = a.after; parts = ap (λ (cs : List Change). change ∷ cs) a.parts; same = a.same; last = a.last }

  last_by : (change : Change) (more : List Change) (found : Option Advert) (advert : Advert) (b : Bool)
      → is_answer request (V4 leaf) (key_of change) ≡ b
      → LastOrOld more (cond b (told_by change) found) advert → LastOrOld (change ∷ more) found advert
  last_by change more found advert b e (inl a) = inl (last_more change more advert a)
  last_by change more found advert true e (inr old) = inl (told_is change more advert e old.0 old.1)
  last_by change more found advert false e (inr old) = inr (old.0, (other_key change e, old.1))

  last_from : (changes : List Change) (found : Option Advert) (advert : Advert) → fold step found changes ≡ Some advert
      → LastOrOld changes found advert
  last_from [] found advert e = inr (e, tt)
  last_from (change ∷ more) found advert e =
      last_by change more found advert (is_answer request (V4 leaf) (key_of change)) refl (last_from more (step found change) advert e)

  stays : (changes : List Change) (found : Option Advert) → NoneOwn changes → fold step found changes ≡ found
  stays [] found none = refl
  stays (change ∷ more) found none =
      let other : is_answer request (V4 leaf) (key_of change) ≡ false = not_own change none.0 (is_answer request (V4 leaf) (key_of change)) refl in
      ap (λ (b : Bool). fold step (cond b (told_by change) found) more) other ∙ stays more found none.1

  last_to : (changes : List Change) (advert : Advert) → AnnouncesLast changes key advert → fold step None changes ≡ Some advert
  last_to changes advert a =
      let own : is_answer request (V4 leaf) advert.key ≡ true = ap (is_answer request (V4 leaf)) a.same ∙ answer_own request (V4 leaf) in
      let old : Option Advert = fold step None a.before in
      ap (fold step None) a.parts
      ∙ (fold-append step None a.before (Reach advert ∷ a.after)
      ∙ (ap (λ (b : Bool). fold step (cond b (Some advert) old) a.after) own ∙ stays a.after (Some advert) a.last))

  -- ---- what octets leave

  only_last : (changes : List Change) (advert : Advert) → LastOrOld changes None advert → AnnouncesLast changes key advert
  only_last changes advert (inl a) = a
  only_last changes advert (inr old) = absurd (let none = old.0 in cc)

  pub route_from : (octets : List ℕ) → IsOctets octets → (advert : Advert) → fold (answer_by request leaf) None (messages_in octets) ≡ Some advert
      → LeavesRoute octets key advert
  route_from octets fits advert e =
      let changes : List Change = flat_map changes_of (messages_in octets) in
      record {
        messages = messages_in octets;
        yields = yielded octets fits;
        last = only_last changes advert (last_from changes None advert (sym (by_changes (messages_in octets) None) ∙ e));
      }

  pub route_to : (octets : List ℕ) → IsOctets octets → (advert : Advert) → LeavesRoute octets key advert
      → fold (answer_by request leaf) None (messages_in octets) ≡ Some advert
  route_to octets fits advert l =
      let is : messages_in octets ≡ l.messages =
      yields_cut message_front SpellsMessage UnitFault 4096 message_format octets l.messages fits l.yields in
      ap (fold (answer_by request leaf) None) is ∙ (by_changes l.messages None ∙ last_to (flat_map changes_of l.messages) advert l.last)
