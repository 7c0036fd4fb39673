-- What a text says meets the premise of the laws.
use Rattle.std.proofs.Common.{◌≡◌, ◌∙◌, ◌⊎◌, inl, inr, ap, sym, subst, refl, arith, ℕ, ◌+◌, ◌≤◌, ◌&&◌, Bool, true, false, cond, nat_cmp, nat_eq, nat_le, List, [], ◌∷◌, ◌++◌, length, Option, Some, None}
use Rattle.std.specs.Prelude.{Result, Ok, Err, codes, ⊤}
use Rattle.std.specs.Cmp.Lexicographic.{pointwise}
use Rattle.std.specs.Int.{w32, from_be_bytes}
use Rattle.std.specs.List.{AllByRecursion}
use Rattle.std.specs.Str.Lines.{lines}
use Rattle.std.specs.BTreeMap.{is_at}
use Rattle.std.specs.FinMap.{nat_cmp-IsAntisymmetric}
use Rattle.std.proofs.lemmas.Bool.Decides.{nat_tests}
use Rattle.std.proofs.lemmas.Cmp.{nat_cmp_total}
use Rattle.std.proofs.lemmas.List.Sums.{fold-append}
use Rattle.std.proofs.lemmas.Option.{none-some, same_Some}
use Rattle.table_laws.proofs.CompareLemmas.{one_key, own_key}
use Rattle.mv_base.specs.Number.{number_of, ◌>>?◌}
use Rattle.mv_base.specs.Octets.{IsOctets}
use Rattle.mv_base.specs.declared.addr.Addr.{Addr}
use Rattle.mv_base.specs.declared.addr.Addr.TheVariants.{V4}
use Rattle.mv_base.specs.framing.Cut.{Cut, cut}
use Rattle.mv_base.specs.framing.Feed.{fed, held_of, moved, unfed}
use Rattle.mv_base.proofs.framing.Cuts.{IsOctets-after, cut_splits}
use Rattle.bgp_values.specs.declared.mvpn_nlri.route.LeafKey.{LeafKey}
use Rattle.bgp_values.specs.declared.mvpn_nlri.route.Route.TheVariants.{Selective}
use Rattle.bgp_values.specs.mvpn_nlri.Spelling as routes
use Rattle.bgp_messages.specs.declared.bgp_attributes.fault.StreamFault.{StreamFault}
use Rattle.bgp_messages.specs.declared.bgp_attributes.key.Key.{Key}
use Rattle.bgp_messages.specs.declared.bgp_attributes.key.Key.TheVariants.{Mcast}
use Rattle.bgp_messages.specs.declared.bgp_attributes.update.Advert.{Advert}
use Rattle.bgp_messages.specs.declared.bgp_attributes.update.Message.{Message}
use Rattle.bgp_messages.specs.declared.bgp_attributes.update.Message.TheVariants as messages
use Rattle.bgp_messages.specs.declared.bgp_attributes.update.Update.{Update}
use Rattle.bgp_messages.specs.bgp_update.Reading.{message_front}
use Rattle.bgp_messages.specs.bgp_update.Spelling.{SpellsMessage}
use Rattle.bgp_messages.specs.bgp_update.Written.{advert_text}
use Rattle.bgp_messages.proofs.bgp_update.Appending.{message_octets}
use Rattle.bgp_messages.proofs.bgp_update.Messages.{message_format}
use Rattle.line_words.specs.Forms.{◌>>=◌, fault, or_fault, payload_at}
use Rattle.line_words.specs.Lines.{row_of, words_in}
use Rattle.line_words.specs.Words.{Placed}
use Rattle.line_words.specs.declared.fault.Reason.TheVariants as reasons
use Rattle.line_words.specs.declared.fault.TextFault.{TextFault}
use Rattle.line_words.specs.declared.words.Row.{Row}
use Rattle.line_words.proofs.MeetLemmas.{Finds, Meets, bind_finds, bind_meets, dotted_octets, either_meets, err_meets, if_meets, ok_meets, only_finds, or_fault_meets, payload_octets, some_finds}
use Rattle.ingress_rep.specs.Ingress.{answer_of, request_of, IsSpelledSelective}
use Rattle.ingress_text.specs.Drafted.{input_at, nothing, number_by, peer_of, role_at, role_after, role_of, said_by, stepped, Drafted}
use Rattle.ingress_text.specs.Grammar.{address_at, claimed, distinct, first_line, from_line, from_words, input_from, input_of, is_other, label_of, leaf_line, leaf_words, line_of, next_line, root_line, root_words, words_line}
use Rattle.ingress_text.specs.Root.{only, only_announced, root_by, root_of, sole_advert, sole_message, unless_faulty}
use Rattle.ingress_text.specs.Rooted.{Rooted}
use Rattle.ingress_text.specs.Telling.{answer_octets, octets_by}
use Rattle.ingress_text.specs.declared.input.Input.{Input}
use Rattle.ingress_text.specs.declared.input.Line.{Line}
use Rattle.ingress_text.specs.declared.input.Role.{Role}
use Rattle.ingress_text.specs.declared.input.Role.TheVariants as roles
use Rattle.ingress_text.specs.declared.input.Said.{Said}
use Rattle.ingress_text.specs.declared.input.Said.TheVariants as says
use Rattle.ingress_text.specs.declared.input.Step.{Step}
use Rattle.ingress_text.specs.declared.input.Step.TheVariants as steps
use Rattle.ingress_text.proofs.RootLemmas.{update_spelled}
use Rattle.ingress_laws.specs.Answered.{IsAddress, IsLabel, IsLeaf, IsSaid, LetsAnswer}
use Rattle.ingress_laws.specs.Meaning.{Asks}
use Rattle.ingress_laws.specs.Refused.{BringsOctets, IsHeard}
use Rattle.ingress_laws.proofs.LawLemmas.{asks_from}
use Rattle.ingress_laws.proofs.OctetLemmas.{answer_fits, begun_hold, message_read, HasRoute, IsRead}

-- ---- the route of the root

-- octets of which one message is cut, and nothing is left
sole_by : (octets : List ℕ) (message : Message) → IsOctets octets
    → (before : ℕ) (failed : Option (ℕ × StreamFault)) (rest : List ℕ) (ms : List Message) → (cut message_front octets).fault ≡ failed
    → (cut message_front octets).messages ≡ ms
    → unless_faulty (record { waiting = ms; held = held_of failed rest; before = before; fault = moved 0 failed }) ≡ Some message → IsRead message
sole_by octets message fits before (Some f) rest ms e m h = absurd cc
sole_by octets message fits before None (b ∷ bs) ms e m h = absurd cc
sole_by octets message fits before None [] [] e m h = absurd cc
sole_by octets message fits before None [] (first ∷ second ∷ more) e m h = absurd cc
sole_by octets message fits before None [] (first ∷ []) e m h =
    let c : Cut Message StreamFault = cut message_front octets in
    let all : AllByRecursion IsRead c.messages =
    begun_hold SpellsMessage IsRead message_read octets c.messages c.rest
    (cut_splits message_front SpellsMessage message_format.stream.framing octets fits e).0.begins fits in
    let own : IsRead first = (subst (AllByRecursion IsRead) m all).0 in
    subst IsRead (same_Some first message h) own

sole_read : (octets : List ℕ) (message : Message) → IsOctets octets → sole_message octets ≡ Some message → IsRead message
sole_read octets message fits h =
    sole_by octets message fits (fed message_front unfed octets).before (cut message_front octets).fault (cut message_front octets).rest
    (cut message_front octets).messages refl refl h

-- the route is spelled, and is octets
record IsRoute (advert : Advert) : Type 0 where
  pub spelled : IsSpelledSelective advert.key
  pub has : HasRoute advert.key

announced_by : (update : Update) (advert : Advert) → IsRead (messages.Update update) → (reach : List Advert) (unreach : List Key)
    → update.reach ≡ reach → only_announced reach unreach ≡ Some advert → IsRoute advert
announced_by update advert is reach (key ∷ keys) e h = absurd cc
announced_by update advert is [] [] e h = absurd cc
announced_by update advert is (first ∷ second ∷ more) [] e h = absurd cc
announced_by update advert is (first ∷ []) [] e h =
    let one : update.reach ≡ advert ∷ [] = e ∙ ap (λ (a : Advert). a ∷ []) (same_Some first advert h) in
    record { spelled = update_spelled update advert [] is.spelled one; has = (subst (AllByRecursion (λ (a : Advert). HasRoute a.key)) one is.has).0 }

advert_read : (message : Message) (advert : Advert) → IsRead message → sole_advert message ≡ Some advert → IsRoute advert
advert_read (messages.Update update) advert is h = announced_by update advert is update.reach update.unreach refl h
advert_read (messages.Other kind) advert is h = absurd cc

-- the root asks by such a route
record IsRoot (root : Rooted) : Type 0 where
  pub asks : request_of root.advert ≡ Some root.request
  pub route : IsRoute root.advert

asking : (addr : List ℕ) (advert : Advert) → IsRoute advert → Finds IsRoot (root_by addr advert)
asking addr advert route =
    bind_finds IsRoot (request_of advert) _ (λ request r. only_finds IsRoot (pointwise nat_eq request.root addr)
    (record { request = request; advert = advert }) (λ same. record { asks = r; route = route }))

root_finds : (addr octets : List ℕ) → IsOctets octets → Finds IsRoot (root_of addr octets)
root_finds addr octets fits =
    bind_finds IsRoot (sole_message octets) _ (λ message m. bind_finds IsRoot (sole_advert message) _
    (λ advert a. asking addr advert (advert_read message advert (sole_read octets message fits m) a)))

-- ---- the answers to it

module _ (root : Rooted) (is : IsRoot root) where
  asked : Asks root.advert root.request
  asked = asks_from root.advert root.request is.asks

  key_octets : IsOctets (routes.key root.request.key)
  key_octets =
      let route : IsOctets (routes.written (Selective asked.rd asked.source asked.group (V4 root.request.root))) =
      subst HasRoute asked.key is.route.has in
      subst (λ (k : LeafKey). IsOctets (routes.key k)) (sym asked.asked) route

  root_address : IsAddress root.request.root
  root_address =
      let rd : List ℕ = asked.rd.0 in
      let source : List ℕ = routes.any_or_sized asked.source in
      let group : List ℕ = routes.any_or_sized asked.group in
      let own : List ℕ = root.request.root in
      let fields : List ℕ = rd ++ (source ++ (group ++ own)) in
      let route : IsOctets (routes.written (Selective asked.rd asked.source asked.group (V4 own))) = subst HasRoute asked.key is.route.has in
      let spelled = subst IsSpelledSelective asked.key is.route.spelled in (
        spelled.1.1.1,
        IsOctets-after group own (IsOctets-after source (group ++ own)
            (IsOctets-after rd (source ++ (group ++ own)) (IsOctets-after (3 ∷ length fields ∷ []) fields route))),
      )

  leaf_fits : (leaf : List ℕ) (label : ℕ) → IsAddress leaf → IsOctets (answer_octets root leaf label)
  unfolding answer_octets
  leaf_fits leaf label own =
      let spelled = subst IsSpelledSelective asked.key is.route.spelled in
      let key : routes.IsKey root.request.afi root.request.key = subst (routes.IsKey root.request.afi) (sym asked.asked) spelled in
      message_octets (advert_text (answer_of root.request (V4 leaf) label)) (answer_fits root.request leaf label root_address own key key_octets)

-- ---- what a line says

-- the label of a line that lets a leaf answer
abbrev SaysLabel : Said → Type 0
SaysLabel (says.Leaf leaf label) = IsLabel label
SaysLabel (says.From peer octets) = ⊤

-- what is said of a peer, of which octets come
record IsSaidBy (root : Rooted) (said : Said) : Type 0 where
  pub address : IsAddress (peer_of said)
  pub octets : IsOctets (octets_by root said)
  pub label : SaysLabel said

-- no earlier line says that the peer of the address does something else
abbrev IsFree : List Line → Role → List ℕ → Type 0
IsFree before role addr = is_other role (role_at before (from_be_bytes w32 addr)) ≡ false

record IsNewBy (before : List Line) (root : Rooted) (said : Said) : Type 0 where
  pub by : IsSaidBy root said
  pub free : IsFree before (role_of said) (peer_of said)

-- a step after these lines: the root first, which asks by its route, and what is said of peers after it
abbrev IsFirst : Option Rooted → Rooted → Type 0
IsFirst None root = IsRoot root
IsFirst (Some old) root = ⊥

abbrev IsNext : List Line → Option Rooted → Said → Type 0
IsNext before None said = ⊥
IsNext before (Some root) said = IsNewBy before root said

abbrev IsStep : List Line → Option Rooted → Step → Type 0
IsStep before old steps.Blank = ⊤
IsStep before old (steps.Root root) = IsFirst old root
IsStep before old (steps.Said said) = IsNext before old said

address_meets : (row : Row) (word : Placed) → Meets IsAddress (address_at row word)
unfolding address_at
address_meets row word = or_fault_meets IsAddress _ row word reasons.Address (dotted_octets word.text)

is_label : (number : ℕ) → (nat_le 16 number && nat_le number 1048575) ≡ true → IsLabel number
is_label number h = (grind (arith, nat_tests), grind (arith, nat_tests))

label_finds : (text : List ℕ) → Finds IsLabel (label_of text)
unfolding label_of
label_finds text =
    bind_finds IsLabel (number_of text) _ (λ number _. only_finds IsLabel (nat_le 16 number && nat_le number 1048575) number (is_label number))

module _ (before : List Line) where
  root_words_meet : (row : Row) (a b : Placed) → Meets (IsStep before None) (root_words row a b)
  unfolding root_words
  root_words_meet row a b =
      bind_meets (IsStep before None) (address_at row a) _ (λ addr _. bind_meets (IsStep before None) (payload_at row b) _ (λ octets o.
      bind_meets (IsStep before None) (or_fault (root_of addr octets) row b reasons.Root) _ (λ root r.
      ok_meets (IsStep before None) (steps.Root root)
      ((or_fault_meets IsRoot (root_of addr octets) row b reasons.Root (root_finds addr octets ((payload_octets row b).holds octets o))).holds root
      r))))

  root_line_meets : (row : Row) (words : List Placed) → Meets (IsStep before None) (root_line row words)
  unfolding root_line
  root_line_meets row [] = err_meets _ _
  root_line_meets row (a ∷ []) = err_meets _ _
  root_line_meets row (a ∷ b ∷ []) = root_words_meet row a b
  root_line_meets row (a ∷ b ∷ c ∷ more) = err_meets _ _

  first_line_meets : (row : Row) (first : Placed) (rest : List Placed) → Meets (IsStep before None) (first_line row first rest)
  unfolding first_line
  first_line_meets row first rest =
      either_meets (IsStep before None) (pointwise nat_eq first.text (codes "root")) (root_line row rest) (fault row.number 1 reasons.Root)
      (root_line_meets row rest) (err_meets _ _)

module _ (draft : Drafted) (root : Rooted) (is : IsRoot root) where
  abbrev Is : Step → Type 0
  Is step = IsStep draft.lines (Some root) step

  -- an address of a peer that does this
  abbrev IsClaimed : Role → List ℕ → Type 0
  IsClaimed role addr = IsAddress addr × IsFree draft.lines role addr

  claimed_meets : (role : Role) (row : Row) (word : Placed) → Meets (IsClaimed role) (claimed draft role row word)
  unfolding claimed
  claimed_meets role row word =
      bind_meets (IsClaimed role) (address_at row word) _
      (λ addr a. if_meets (IsClaimed role) (is_other role (role_at draft.lines (from_be_bytes w32 addr))) _ (Ok addr) (λ free.
      ok_meets (IsClaimed role) addr ((address_meets row word).holds addr a, free)))

  distinct_meets : (addr : List ℕ) (row : Row) (word : Placed) (said : Said) → IsNewBy draft.lines root said
      → Meets Is (distinct root addr row word said)
  distinct_meets addr row word said by =
      if_meets Is (pointwise nat_eq root.request.root addr) _ (Ok (steps.Said said)) (λ other. ok_meets Is (steps.Said said) by)

  leaf_words_meet : (row : Row) (a b : Placed) → Meets Is (leaf_words draft root row a b)
  unfolding leaf_words
  leaf_words_meet row a b =
      bind_meets Is (claimed draft roles.Leaf row a) _ (λ leaf l. bind_meets Is (or_fault (label_of b.text) row b reasons.Number) _ (λ label n.
      let own : IsClaimed roles.Leaf leaf = (claimed_meets roles.Leaf row a).holds leaf l in
      let fits : IsLabel label = (or_fault_meets IsLabel (label_of b.text) row b reasons.Number (label_finds b.text)).holds label n in
      distinct_meets leaf row a (says.Leaf leaf label)
      (record { by = record { address = own.0; octets = leaf_fits root is leaf label own.0; label = fits }; free = own.1 })))

  leaf_line_meets : (row : Row) (words : List Placed) → Meets Is (leaf_line draft root row words)
  unfolding leaf_line
  leaf_line_meets row [] = err_meets _ _
  leaf_line_meets row (a ∷ []) = err_meets _ _
  leaf_line_meets row (a ∷ b ∷ []) = leaf_words_meet row a b
  leaf_line_meets row (a ∷ b ∷ c ∷ more) = err_meets _ _

  from_words_meet : (row : Row) (a b : Placed) → Meets Is (from_words draft root row a b)
  unfolding from_words
  from_words_meet row a b =
      bind_meets Is (claimed draft roles.From row a) _ (λ peer p. bind_meets Is (payload_at row b) _ (λ octets o.
      let own : IsClaimed roles.From peer = (claimed_meets roles.From row a).holds peer p in
      distinct_meets peer row a (says.From peer octets)
      (record { by = record { address = own.0; octets = (payload_octets row b).holds octets o; label = tt }; free = own.1 })))

  from_line_meets : (row : Row) (words : List Placed) → Meets Is (from_line draft root row words)
  unfolding from_line
  from_line_meets row [] = err_meets _ _
  from_line_meets row (a ∷ []) = err_meets _ _
  from_line_meets row (a ∷ b ∷ []) = from_words_meet row a b
  from_line_meets row (a ∷ b ∷ c ∷ more) = err_meets _ _

  next_line_meets : (row : Row) (first : Placed) (rest : List Placed) → Meets Is (next_line draft root row first rest)
  unfolding next_line
  next_line_meets row first rest =
      either_meets Is _ _ _ (leaf_line_meets row rest)
      (either_meets Is _ _ _ (from_line_meets row rest)
      (either_meets Is _ _ _ (err_meets _ _) (err_meets _ _)))

-- ---- what peers do, after one line more

all_weaker : (P Q : Line → Type 0) (xs : List Line) → ((x : Line) → P x → Q x) → AllByRecursion P xs → AllByRecursion Q xs
all_weaker P Q [] weaker all = tt
all_weaker P Q (x ∷ xs) weaker all = (weaker x all.0, all_weaker P Q xs weaker all.1)

all_more : (P : Line → Type 0) (xs : List Line) (x : Line) → AllByRecursion P xs → P x → AllByRecursion P (xs ++ x ∷ [])
all_more P [] x all own = (own, tt)
all_more P (y ∷ xs) x all own = (all.0, all_more P xs x all.1 own)

-- the peer of the line does what the line says, by the last of all lines that name it
abbrev HasRole : List Line → Line → Type 0
HasRole all line = role_at all (number_by line) ≡ Some (role_of line.said)

same_role : (role other : Role) → is_other role (Some other) ≡ false → role ≡ other
same_role roles.Leaf roles.Leaf h = refl
same_role roles.From roles.From h = refl
same_role roles.Leaf roles.From h = absurd cc
same_role roles.From roles.Leaf h = absurd cc

role_after_one : (all : List Line) (line : Line) (n : ℕ)
    → role_at (all ++ line ∷ []) n ≡ cond (is_at (nat_cmp (number_by line)) n) (Some (role_of line.said)) (role_at all n)
role_after_one all line n = fold-append (role_after n) None all (line ∷ [])

module _ (all : List Line) (line : Line) (free : IsFree all (role_of line.said) (peer_of line.said)) where
  still_by : (old : Line) → HasRole all old → (b : Bool) → is_at (nat_cmp (number_by line)) (number_by old) ≡ b
      → cond b (Some (role_of line.said)) (role_at all (number_by old)) ≡ Some (role_of old.said)
  still_by old has false e = has
  still_by old has true e =
      let one : number_by line ≡ number_by old = one_key nat_cmp-IsAntisymmetric (number_by line) (number_by old) e in
      let there : role_at all (number_by line) ≡ Some (role_of old.said) = ap (role_at all) one ∙ has in
      let same : role_of line.said ≡ role_of old.said =
      same_role (role_of line.said) (role_of old.said) (sym (ap (is_other (role_of line.said)) there) ∙ free) in
      ap (λ (r : Role). Some r) same

  still_has : (old : Line) → HasRole all old → HasRole (all ++ line ∷ []) old
  still_has old has = role_after_one all line (number_by old) ∙ still_by old has (is_at (nat_cmp (number_by line)) (number_by old)) refl

  own_role : HasRole (all ++ line ∷ []) line
  own_role =
      role_after_one all line (number_by line)
      ∙ ap (λ (b : Bool). cond b (Some (role_of line.said)) (role_at all (number_by line))) (own_key nat_cmp_total (number_by line))

  roles_more : AllByRecursion (HasRole all) all → AllByRecursion (HasRole (all ++ line ∷ [])) (all ++ line ∷ [])
  roles_more have = all_more (HasRole (all ++ line ∷ [])) all line (all_weaker (HasRole all) (HasRole (all ++ line ∷ [])) all still_has have) own_role

-- ---- what the lines so far said

-- Nothing is said before the root is, what is said of peers after it meets the premise, and each peer does one thing.
record IsSoFar (draft : Drafted) : Type 0 where
  pub none : draft.root ≡ None → draft.lines ≡ []
  pub root : (root : Rooted) → draft.root ≡ Some root → IsRoot root
  pub lines : (root : Rooted) → draft.root ≡ Some root → AllByRecursion (λ (line : Line). IsSaidBy root line.said) draft.lines
  pub roles : AllByRecursion (HasRole draft.lines) draft.lines

none_so_far : IsSoFar nothing
none_so_far = record { none = λ e. refl; root = λ root e. absurd cc; lines = λ root e. tt; roles = tt }

words_by : (draft : Drafted) (row : Row) (first : Placed) (rest : List Placed) (old : Option Rooted)
    → ((root : Rooted) → old ≡ Some root → IsRoot root)
    → Meets (IsStep draft.lines old) (elim old [ None ↦ first_line row first rest | Some root ↦ next_line draft root row first rest ])
words_by draft row first rest None is = first_line_meets draft.lines row first rest
words_by draft row first rest (Some root) is = next_line_meets draft root (is root refl) row first rest

words_meet : (draft : Drafted) (row : Row) (words : List Placed) → IsSoFar draft → Meets (IsStep draft.lines draft.root) (words_line draft row words)
unfolding words_line
words_meet draft row [] so = ok_meets (IsStep draft.lines draft.root) steps.Blank tt
words_meet draft row (first ∷ rest) so = words_by draft row first rest draft.root so.root

line_meets : (draft : Drafted) (number : ℕ) (octets : List ℕ) → IsSoFar draft → Meets (IsStep draft.lines draft.root) (line_of draft number octets)
unfolding line_of
line_meets draft number octets so =
    bind_meets (IsStep draft.lines draft.root) (words_in number octets) (words_line draft (row_of number octets))
    (λ words w. words_meet draft (row_of number octets) words so)

said_so : (draft : Drafted) (number : ℕ) (said : Said) → IsSoFar draft → (old : Option Rooted) → draft.root ≡ old → IsNext draft.lines old said
    → IsSoFar (said_by draft number said)
said_so draft number said so None e is = absurd is
said_so draft number said so (Some own) e is =
    let line : Line = record { number = number; said = said } in
    record {
      none = λ n. absurd (let both : None ≡ Some own = sym n ∙ e in cc);
      root = so.root;
      lines = λ root r.
          let same : own ≡ root = same_Some own root (sym e ∙ r) in
          all_more (λ (x : Line). IsSaidBy root x.said) draft.lines line (so.lines root r) (subst (λ (x : Rooted). IsSaidBy x said) same is.by);
      roles = roles_more draft.lines line is.free so.roles;
    }

root_so : (draft : Drafted) (new : Rooted) → IsSoFar draft → (old : Option Rooted) → draft.root ≡ old → IsFirst old new
    → IsSoFar (record draft { root = Some new })
root_so draft new so (Some own) e is = absurd is
root_so draft new so None e is = record {
  none = λ n. absurd cc;
  root = λ root r. subst IsRoot (same_Some new root r) is;
  lines = λ root r. subst (AllByRecursion (λ (line : Line). IsSaidBy root line.said)) (sym (so.none e)) tt;
  roles = so.roles;
}

step_so : (draft : Drafted) (number : ℕ) (step : Step) → IsSoFar draft → IsStep draft.lines draft.root step → IsSoFar (stepped draft number step)
step_so draft number steps.Blank so is = so
step_so draft number (steps.Root root) so is = root_so draft root so draft.root refl is
step_so draft number (steps.Said said) so is = said_so draft number said so draft.root refl is

-- ---- the text

-- what a text says
record IsText (input : Input) : Type 0 where
  pub root : IsRoot input.root
  pub lines : AllByRecursion (λ (line : Line). IsSaidBy input.root line.said) input.lines
  pub roles : AllByRecursion (HasRole input.lines) input.lines

abbrev input_by : Drafted → Option Rooted → Option Input
input_by draft old = old >>? λ root. Some (record { root = root; lines = draft.lines })

abbrev ended : ℕ → Option Input → Result Input TextFault
ended number found = elim found [ Some input ↦ Ok input | None ↦ fault number 1 reasons.Root ]

end_meets : (draft : Drafted) (number : ℕ) → IsSoFar draft → (old : Option Rooted) → draft.root ≡ old
    → Meets IsText (ended number (input_by draft old))
end_meets draft number so None e = err_meets _ _
end_meets draft number so (Some root) e =
    ok_meets IsText (record { root = root; lines = draft.lines }) (record { root = so.root root e; lines = so.lines root e; roles = so.roles })

lines_meet : (draft : Drafted) (number : ℕ) (rows : List (List ℕ)) → IsSoFar draft → Meets IsText (input_from draft number rows)
lines_meet draft number [] so = end_meets draft number so draft.root refl
lines_meet draft number (octets ∷ more) so =
    bind_meets IsText (line_of draft number octets) _
    (λ step s. lines_meet (stepped draft number step) (number + 1) more
    (step_so draft number step so ((line_meets draft number octets so).holds step s)))

text_is : (text : List ℕ) (input : Input) → input_of text ≡ Ok input → IsText input
text_is text input h =
    (if_meets IsText _ _ (input_from nothing 1 (lines text)) (λ short. lines_meet nothing 1 (lines text) none_so_far)).holds input h

-- What a text says meets the premise of the laws.
pub text_says : (text : List ℕ) (input : Input) → input_of text ≡ Ok input → IsSaid input.root input.lines
text_says text input h =
    let is = text_is text input h in
    record {
      asks = is.root.asks;
      spelled = is.root.route.spelled;
      addresses =
          all_weaker (λ (line : Line). IsSaidBy input.root line.said) (λ (line : Line). IsAddress (peer_of line.said)) input.lines
          (λ line by. by.address) is.lines;
      octets = all_weaker (λ (line : Line). IsSaidBy input.root line.said) (λ (line : Line). IsOctets (octets_by input.root line.said)) input.lines
          (λ line by. by.octets) is.lines;
    }

-- ---- its peers

both_all : (P Q : Line → Type 0) (xs : List Line) → AllByRecursion P xs → AllByRecursion Q xs → AllByRecursion (λ (x : Line). P x × Q x) xs
both_all P Q [] all more = tt
both_all P Q (x ∷ xs) all more = ((all.0, more.0), both_all P Q xs all.1 more.1)

lets_answer : (said : Said) → SaysLabel said → role_of said ≡ roles.Leaf → LetsAnswer said
lets_answer (says.Leaf leaf label) fits e = fits
lets_answer (says.From peer octets) fits e = absurd cc

brings_octets : (said : Said) → role_of said ≡ roles.From → BringsOctets said
brings_octets (says.Leaf leaf label) e = absurd cc
brings_octets (says.From peer octets) e = tt

-- what the lines say that name a peer of one role
role_is : (all : List Line) (line : Line) (n : ℕ) (role : Role) → HasRole all line → role_at all n ≡ Some role → number_by line ≡ n
    → role_of line.said ≡ role
role_is all line n role has at named = same_Some (role_of line.said) role (sym has ∙ ap (role_at all) named ∙ at)

no_role : (all : List Line) (line : Line) (n : ℕ) → HasRole all line → role_at all n ≡ None → number_by line ≡ n → LetsAnswer line.said
no_role all line n has at named = absurd (none-some (role_of line.said) (sym at ∙ ap (role_at all) (sym named) ∙ has))

module _ (input : Input) (is : IsText input) (n : ℕ) where
  abbrev IsOwn : Line → Type 0
  IsOwn line = IsSaidBy input.root line.said × HasRole input.lines line

  own : AllByRecursion IsOwn input.lines
  own = both_all (λ (line : Line). IsSaidBy input.root line.said) (HasRole input.lines) input.lines is.lines is.roles

  peer_by : (o : Option Role) → role_at input.lines n ≡ o → IsLeaf n input.lines ⊎ IsHeard n input.lines
  peer_by None e =
      inl (all_weaker IsOwn (λ (line : Line). number_by line ≡ n → LetsAnswer line.said) input.lines
      (λ line by named. no_role input.lines line n by.1 e named) own)
  peer_by (Some roles.Leaf) e =
      inl (all_weaker IsOwn (λ (line : Line). number_by line ≡ n → LetsAnswer line.said) input.lines
      (λ line by named. lets_answer line.said by.0.label (role_is input.lines line n roles.Leaf by.1 e named)) own)
  peer_by (Some roles.From) e =
      inr (all_weaker IsOwn (λ (line : Line). number_by line ≡ n → BringsOctets line.said) input.lines
      (λ line by named. brings_octets line.said (role_is input.lines line n roles.From by.1 e named)) own)

-- Each peer of a text is one that lines let answer, or one whose octets they bring.
pub text_peers : (text : List ℕ) (input : Input) → input_of text ≡ Ok input → (n : ℕ) → IsLeaf n input.lines ⊎ IsHeard n input.lines
text_peers text input h n = peer_by input (text_is text input h) n (role_at input.lines n) refl
