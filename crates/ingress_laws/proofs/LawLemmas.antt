-- What the definitions of ingress replication mean.
use Rattle.std.proofs.Common.{◌≡◌, ◌≢◌, ℕ, Bool, true, false, ◌&&◌, ◌==◌, List, [], ◌∷◌, ◌++◌, Option, Some, None, refl, sym, ap, subst, ◌∙◌, cond, ◌||◌, nat_eq, nat_le, find, rules, filter_map, option_map}
use Rattle.std.specs.List.{AllByRecursion, cons_option, list_any}
use Rattle.std.specs.Cmp.Lexicographic.{pointwise, same_text, nat_list_eq_equiv}
use Rattle.std.proofs.lemmas.Bool.{and_parts, and_from}
use Rattle.mv_base.specs.Address.{same_addr, same_addr_equal, same_addr_equiv}
use Rattle.mv_base.specs.Number.{◌>>?◌, only_if}
use Rattle.mv_base.specs.declared.addr.Addr.{Addr}
use Rattle.mv_base.specs.declared.addr.Addr.TheVariants.{V4, V6}
use Rattle.mv_base.specs.declared.rd.Rd.{Rd}
use Rattle.mv_base.specs.declared.route_targets.communities.ExtComm.{ExtComm}
use Rattle.bgp_values.specs.declared.mvpn_nlri.route.Afi.{Afi}
use Rattle.bgp_values.specs.declared.mvpn_nlri.route.Afi.TheVariants.{Ipv4, Ipv6}
use Rattle.bgp_values.specs.declared.mvpn_nlri.route.LeafKey.{LeafKey}
use Rattle.bgp_values.specs.declared.mvpn_nlri.route.LeafKey.TheVariants as keys
use Rattle.bgp_values.specs.declared.mvpn_nlri.route.Route.TheVariants.{Intra, Inter, Selective, Leaf, Active, SharedJoin, SourceJoin, Other}
use Rattle.bgp_values.specs.declared.pmsi_attr.pmsi.Pmsi.{Pmsi}
use Rattle.bgp_values.specs.declared.pmsi_attr.pmsi.Tunnel.{Tunnel}
use Rattle.bgp_values.specs.declared.pmsi_attr.pmsi.Tunnel.TheVariants as tunnels
use Rattle.bgp_messages.specs.declared.bgp_attributes.key.Key.{Key}
use Rattle.bgp_messages.specs.declared.bgp_attributes.key.Key.TheVariants.{Mcast, Unicast}
use Rattle.bgp_messages.specs.declared.bgp_attributes.update.Advert.{Advert}
use Rattle.bgp_messages.specs.declared.bgp_attributes.update.Change.TheVariants.{Reach}
use Rattle.bgp_messages.specs.bgp_update.Written.{written}
use Rattle.ingress_rep.specs.declared.request.Request.{Request}
use Rattle.ingress_rep.specs.declared.copying.TakenTable.{TakenTable}
use Rattle.ingress_rep.specs.declared.copying.LeafCopy.{LeafCopy}
use Rattle.ingress_rep.specs.Answers.{answer_to}
use Rattle.ingress_rep.specs.Ingress.{answer_in, answer_key, answer_of, copies_of, asks_leaves, copy_of, is_answer, is_ingress, label_to, label_told, request_of, root_target, same_afi, same_any, same_comm, same_leaf_key, selective_of, tunnel_label}
use Rattle.ingress_laws.specs.Meaning.{Adds, Asks, AreCopies, IsAmong, IsAnswer, IsCopy, IsFirst, TellsLabel}
use Rattle.ingress_laws.specs.Meaning.Adds.{sent, passed}

-- ---- options

bind_some : {A B : Type 0} (o : Option A) (f : A → Option B) (y : B) → (o >>? f) ≡ Some y → (x : A) × (o ≡ Some x) × (f x ≡ Some y)
bind_some None f y e = absurd cc
bind_some (Some x) f y e = (x, refl, e)

only_some : {A : Type 0} (b : Bool) (x y : A) → only_if b x ≡ Some y → (b ≡ true) × (x ≡ y)
only_some true x y e = (refl, cc)
only_some false x y e = absurd cc

-- ---- what is asked

record IsSelective (key : Key) (request : Request) : Type 0 where
  rd : Rd
  source : Option Addr
  group : Option Addr
  is : key ≡ Mcast request.afi (Selective rd source group (V4 request.root))
  asked : request.key ≡ keys.Selective rd source group (V4 request.root)

selective_is : (k : Key) (request : Request) → selective_of k ≡ Some request → IsSelective k request
unfolding selective_of
selective_is (Mcast afi (Selective rd source group (V4 root))) request e =
    let own : Request = record { afi = afi; key = keys.Selective rd source group (V4 root); root = root } in
    let is : own ≡ request = cc in
    record {
      rd = rd;
      source = source;
      group = group;
      is = ap (λ (r : Request). Mcast r.afi (Selective rd source group (V4 r.root))) is;
      asked = sym (ap (λ (r : Request). r.key) is) ∙ ap (λ (r : Request). keys.Selective rd source group (V4 r.root)) is;
    }
selective_is (Mcast afi (Selective rd source group (V6 root))) request e = absurd cc
selective_is (Mcast afi (Intra rd originator)) request e = absurd cc
selective_is (Mcast afi (Inter rd source_as)) request e = absurd cc
selective_is (Mcast afi (Leaf k originator)) request e = absurd cc
selective_is (Mcast afi (Active rd source group)) request e = absurd cc
selective_is (Mcast afi (SharedJoin rd source_as source group)) request e = absurd cc
selective_is (Mcast afi (SourceJoin rd source_as source group)) request e = absurd cc
selective_is (Mcast afi (Other number octets)) request e = absurd cc
selective_is (Unicast rd prefix) request e = absurd cc

ingress_is : (tunnel : Tunnel) → is_ingress tunnel ≡ true → (end : Addr) × (tunnel ≡ tunnels.Ingress end)
ingress_is tunnels.None e = absurd cc
ingress_is (tunnels.Mldp element) e = absurd cc
ingress_is (tunnels.Ingress addr) e = (addr, refl)
ingress_is (tunnels.Other kind octets) e = absurd cc

record IsAsking (o : Option Pmsi) : Type 0 where
  pmsi : Pmsi
  end : Addr
  attribute : o ≡ Some pmsi
  required : pmsi.leaf_info ≡ true
  tunnel : pmsi.tunnel ≡ tunnels.Ingress end

asking_is : (o : Option Pmsi) → asks_leaves o ≡ true → IsAsking o
asking_is None e = absurd cc
asking_is (Some pmsi) e =
    let both = and_parts pmsi.leaf_info (is_ingress pmsi.tunnel) e in
    let ends = ingress_is pmsi.tunnel both.1 in
    record { pmsi = pmsi; end = ends.0; attribute = refl; required = both.0; tunnel = ends.1 }

pub asks_from : (advert : Advert) (request : Request) → request_of advert ≡ Some request → Asks advert request
unfolding request_of
asks_from advert request e =
    let b = bind_some (selective_of advert.key) (λ (r : Request). only_if (asks_leaves advert.pmsi && same_addr advert.next_hop (V4 r.root)) r)
    request e in
    let o = only_some (asks_leaves advert.pmsi && same_addr advert.next_hop (V4 b.0.root)) b.0 request b.2 in
    let both = and_parts (asks_leaves advert.pmsi) (same_addr advert.next_hop (V4 b.0.root)) o.0 in
    let s = selective_is advert.key request (b.1 ∙ ap (λ (r : Request). Some r) o.1) in
    let a = asking_is advert.pmsi both.0 in
    record {
      rd = s.rd;
      source = s.source;
      group = s.group;
      pmsi = a.pmsi;
      end = a.end;
      key = s.is;
      asked = s.asked;
      next_hop = same_addr_equal advert.next_hop (V4 b.0.root) both.1 ∙ ap (λ (r : Request). V4 r.root) o.1;
      attribute = a.attribute;
      required = a.required;
      tunnel = a.tunnel;
    }

asks_true : (pmsi : Pmsi) (end : Addr) → pmsi.leaf_info ≡ true → pmsi.tunnel ≡ tunnels.Ingress end → asks_leaves (Some pmsi) ≡ true
asks_true pmsi end required tunnel = and_from pmsi.leaf_info (is_ingress pmsi.tunnel) required (ap is_ingress tunnel)

pub asks_to : (advert : Advert) (request : Request) → Asks advert request → request_of advert ≡ Some request
unfolding selective_of request_of
asks_to advert request a =
    let f : Request → Option Request = λ r. only_if (asks_leaves advert.pmsi && same_addr advert.next_hop (V4 r.root)) r in
    let own : selective_of advert.key ≡ Some request =
    ap selective_of a.key ∙ ap (λ (k : LeafKey). Some (record { afi = request.afi; key = k; root = request.root })) (sym a.asked) in
    let asking : asks_leaves advert.pmsi ≡ true = ap asks_leaves a.attribute ∙ asks_true a.pmsi a.end a.required a.tunnel in
    let near : same_addr advert.next_hop (V4 request.root) ≡ true =
    ap (λ (addr : Addr). same_addr addr (V4 request.root)) a.next_hop ∙ same_addr_equiv.refl (V4 request.root) in
    ap (λ (o : Option Request). o >>? f) own ∙ ap (λ (b : Bool). only_if b request)
    (and_from (asks_leaves advert.pmsi) (same_addr advert.next_hop (V4 request.root)) asking near)

module _ (leaf : Addr) (label : ℕ) where
  abbrev octets_for : Request → List ℕ
  octets_for request = written (Reach (answer_of request leaf label))

  none_by : (o : Option Request) → option_map octets_for o ≡ None → o ≡ None
  none_by None e = refl
  none_by (Some request) e = absurd cc

  some_by : (o : Option Request) (octets : List ℕ) → option_map octets_for o ≡ Some octets
      → (request : Request) × (o ≡ Some request) × (octets ≡ octets_for request)
  some_by None octets e = absurd cc
  some_by (Some request) octets e = (request, refl, cc)

  pub unanswered_from : (advert : Advert) → answer_to leaf label advert ≡ None → (request : Request) → ¬ (Asks advert request)
  unanswered_from advert e request asks = let some = asks_to advert request asks in let none = none_by (request_of advert) e in absurd cc

  unanswered_by : (advert : Advert) (o : Option Request) → request_of advert ≡ o → ((request : Request) → ¬ (Asks advert request))
      → answer_to leaf label advert ≡ None
  unanswered_by advert None e not_asked = ap (option_map octets_for) e
  unanswered_by advert (Some request) e not_asked = absurd (not_asked request (asks_from advert request e))

  pub unanswered_to : (advert : Advert) → ((request : Request) → ¬ (Asks advert request)) → answer_to leaf label advert ≡ None
  unanswered_to advert not_asked = unanswered_by advert (request_of advert) refl not_asked

  pub answered_from : (advert : Advert) (octets : List ℕ) → answer_to leaf label advert ≡ Some octets → IsAnswer leaf label advert octets
  answered_from advert octets e =
      let some = some_by (request_of advert) octets e in
      record { request = some.0; asks = asks_from advert some.0 some.1; is_written = some.2 }

  pub answered_to : (advert : Advert) (octets : List ℕ) → IsAnswer leaf label advert octets → answer_to leaf label advert ≡ Some octets
  answered_to advert octets a = ap (option_map octets_for) (asks_to advert a.request a.asks) ∙ ap (λ (xs : List ℕ). Some xs) (sym a.is_written)

-- ---- the key of an answer

afi_is : (own other : Afi) → same_afi own other ≡ true → own ≡ other
afi_is Ipv4 Ipv4 e = refl
afi_is Ipv6 Ipv6 e = refl
afi_is Ipv4 Ipv6 e = absurd cc
afi_is Ipv6 Ipv4 e = absurd cc

any_is : (own other : Option Addr) → same_any own other ≡ true → own ≡ other
any_is None None e = refl
any_is (Some addr) (Some other) e = ap (λ (a : Addr). Some a) (same_addr_equal addr other e)
any_is None (Some other) e = absurd cc
any_is (Some addr) None e = absurd cc

rd_is : (own other : Rd) → pointwise nat_eq own.0 other.0 ≡ true → own ≡ other
rd_is own other e = ap (λ (octets : List ℕ). record { 0 = octets }) (same_text own.0 other.0 (sym e))

number_is : (own other : ℕ) → (own == other) ≡ true → own ≡ other
number_is own other e = search (rules, e)

leaf_key_is : (own other : LeafKey) → same_leaf_key own other ≡ true → own ≡ other
leaf_key_is (keys.Inter rd source_as) (keys.Inter others number) e =
    let both = and_parts (pointwise nat_eq rd.0 others.0) (source_as == number) e in
    λ i. keys.Inter (rd_is rd others both.0 i) (number_is source_as number both.1 i)
leaf_key_is (keys.Selective rd source group originator) (keys.Selective others sources groups originators) e =
    let flow = same_any source sources && same_any group groups in
    let front = and_parts (pointwise nat_eq rd.0 others.0 && flow) (same_addr originator originators) e in
    let both = and_parts (pointwise nat_eq rd.0 others.0) flow front.0 in
    let pair = and_parts (same_any source sources) (same_any group groups) both.1 in
    λ i. keys.Selective (rd_is rd others both.0 i) (any_is source sources pair.0 i) (any_is group groups pair.1 i)
    (same_addr_equal originator originators front.1 i)
leaf_key_is (keys.Inter rd source_as) (keys.Selective others sources groups originators) e = absurd cc
leaf_key_is (keys.Selective rd source group originator) (keys.Inter others number) e = absurd cc

pub answer_is : (request : Request) (leaf : Addr) (key : Key) → is_answer request leaf key ≡ true → key ≡ answer_key request leaf
answer_is request leaf (Mcast afi (Leaf key originator)) e =
    let front = and_parts (same_afi afi request.afi && same_leaf_key key request.key) (same_addr originator leaf) e in
    let both = and_parts (same_afi afi request.afi) (same_leaf_key key request.key) front.0 in
    λ i. Mcast (afi_is afi request.afi both.0 i) (Leaf (leaf_key_is key request.key both.1 i) (same_addr_equal originator leaf front.1 i))
answer_is request leaf (Mcast afi (Intra rd originator)) e = absurd cc
answer_is request leaf (Mcast afi (Inter rd source_as)) e = absurd cc
answer_is request leaf (Mcast afi (Selective rd source group originator)) e = absurd cc
answer_is request leaf (Mcast afi (Active rd source group)) e = absurd cc
answer_is request leaf (Mcast afi (SharedJoin rd source_as source group)) e = absurd cc
answer_is request leaf (Mcast afi (SourceJoin rd source_as source group)) e = absurd cc
answer_is request leaf (Mcast afi (Other number octets)) e = absurd cc
answer_is request leaf (Unicast rd prefix) e = absurd cc

afi_own : (afi : Afi) → same_afi afi afi ≡ true
afi_own Ipv4 = refl
afi_own Ipv6 = refl

any_own : (any : Option Addr) → same_any any any ≡ true
any_own None = refl
any_own (Some addr) = same_addr_equiv.refl addr

number_own : (n : ℕ) → (n == n) ≡ true
number_own n = search rules

leaf_key_own : (key : LeafKey) → same_leaf_key key key ≡ true
leaf_key_own (keys.Inter rd source_as) =
    and_from (pointwise nat_eq rd.0 rd.0) (source_as == source_as) (nat_list_eq_equiv.refl rd.0) (number_own source_as)
leaf_key_own (keys.Selective rd source group originator) =
    let flow = same_any source source && same_any group group in
    and_from (pointwise nat_eq rd.0 rd.0 && flow) (same_addr originator originator)
    (and_from (pointwise nat_eq rd.0 rd.0) flow (nat_list_eq_equiv.refl rd.0)
    (and_from (same_any source source) (same_any group group) (any_own source) (any_own group)))
    (same_addr_equiv.refl originator)

pub answer_own : (request : Request) (leaf : Addr) → is_answer request leaf (answer_key request leaf) ≡ true
answer_own request leaf =
    and_from (same_afi request.afi request.afi && same_leaf_key request.key request.key) (same_addr leaf leaf)
    (and_from (same_afi request.afi request.afi) (same_leaf_key request.key request.key) (afi_own request.afi) (leaf_key_own request.key))
    (same_addr_equiv.refl leaf)

-- ---- tables

module _ (request : Request) (leaf : Addr) where
  abbrev tests : Advert → Bool
  tests advert = is_answer request leaf advert.key

  other_key : (key : Key) → is_answer request leaf key ≡ false → key ≢ answer_key request leaf
  other_key key e is = let own = ap (is_answer request leaf) is ∙ answer_own request leaf in absurd cc

  first_by : (advert : Advert) (table : List Advert) (found : Advert) (b : Bool) → tests advert ≡ b → find tests (advert ∷ table) ≡ Some found
      → (find tests table ≡ Some found → IsFirst table (answer_key request leaf) found) → IsFirst (advert ∷ table) (answer_key request leaf) found
  first_by advert table found true e is rest =
      let same : advert ≡ found = (let step : find tests (advert ∷ table) ≡ Some advert = (λ i. cond (e i) (Some advert) (find tests table)) in cc) in
      record {
        before = [];
        after = table;
        parts = ap (λ (a : Advert). a ∷ table) same;
        same =
            answer_is request leaf found.key (ap tests (sym same) ∙ e);
        first = tt;
      }
  first_by advert table found false e is rest =
      let step : find tests (advert ∷ table) ≡ find tests table = (λ i. cond (e i) (Some advert) (find tests table)) in
      let thereafter = rest (sym step ∙ is) in
      record {
        before = advert ∷ thereafter.before;
        after = thereafter.after;
        parts = ap (λ (xs : List Advert). advert ∷ xs) thereafter.parts;
        same =
            thereafter.same;
        first = (other_key advert.key e, thereafter.first);
      }

  first_from : (table : List Advert) (found : Advert) → answer_in request leaf table ≡ Some found → IsFirst table (answer_key request leaf) found
  first_from [] found is = absurd cc
  first_from (advert ∷ table) found is = first_by advert table found (tests advert) refl is (first_from table found)

  not_tested : (advert : Advert) → advert.key ≢ answer_key request leaf → tests advert ≡ false
  not_tested advert other = by (tests advert) refl
    where
      by : (b : Bool) → tests advert ≡ b → tests advert ≡ false
      by true e = absurd (other (answer_is request leaf advert.key e))
      by false e = e

  find_after : (before : List Advert) (advert : Advert) (after : List Advert)
      → AllByRecursion (λ (other : Advert). other.key ≢ answer_key request leaf) before → advert.key ≡ answer_key request leaf
      → find tests (before ++ (advert ∷ after)) ≡ Some advert
  find_after [] advert after none is =
      ap (λ (b : Bool). cond b (Some advert) (find tests after)) (ap (is_answer request leaf) is ∙ answer_own request leaf)
  find_after (other ∷ before) advert after none is =
      ap (λ (b : Bool). cond b (Some other) (find tests (before ++ (advert ∷ after)))) (not_tested other none.0)
      ∙ find_after before advert after none.1 is

  first_to : (table : List Advert) (found : Advert) → IsFirst table (answer_key request leaf) found → answer_in request leaf table ≡ Some found
  first_to table found f = ap (find tests) f.parts ∙ find_after f.before found f.after f.first f.same

-- ---- communities

comm_is : (own other : ExtComm) → same_comm own other ≡ true → own ≡ other
comm_is own other e = ap (λ (octets : List ℕ). record { 0 = octets }) (same_text own.0 other.0 (sym e))

among_by : (comm first : ExtComm) (comms : List ExtComm) (b : Bool) → same_comm comm first ≡ b → list_any (same_comm comm) (first ∷ comms) ≡ true
    → (list_any (same_comm comm) comms ≡ true → IsAmong comms comm) → IsAmong (first ∷ comms) comm
among_by comm first comms true e any rest =
    record { before = []; after = comms; parts = ap (λ (c : ExtComm). c ∷ comms) (sym (comm_is comm first e)) }
among_by comm first comms false e any rest =
    let thereafter = rest (sym (ap (λ (b : Bool). b || list_any (same_comm comm) comms) e) ∙ any) in
    record { before = first ∷ thereafter.before; after = thereafter.after; parts = ap (λ (xs : List ExtComm). first ∷ xs) thereafter.parts }

among_from : (comm : ExtComm) (comms : List ExtComm) → list_any (same_comm comm) comms ≡ true → IsAmong comms comm
among_from comm [] any = absurd cc
among_from comm (first ∷ comms) any = among_by comm first comms (same_comm comm first) refl any (among_from comm comms)

any_after : (comm : ExtComm) (before after : List ExtComm) → list_any (same_comm comm) (before ++ (comm ∷ after)) ≡ true
any_after comm [] after = ap (λ (b : Bool). b || list_any (same_comm comm) after) (nat_list_eq_equiv.refl comm.0)
any_after comm (first ∷ before) after =
    or_right (same_comm comm first) (list_any (same_comm comm) (before ++ (comm ∷ after))) (any_after comm before after)
  where
    or_right : (x y : Bool) → y ≡ true → (x || y) ≡ true
    or_right true y e = refl
    or_right false y e = e

among_to : (comm : ExtComm) (comms : List ExtComm) → IsAmong comms comm → list_any (same_comm comm) comms ≡ true
among_to comm comms a = ap (list_any (same_comm comm)) a.parts ∙ any_after comm a.before a.after

-- ---- labels

record IsLabelTo (leaf : Addr) (o : Option Pmsi) (label : ℕ) : Type 0 where
  pmsi : Pmsi
  attribute : o ≡ Some pmsi
  tunnel : pmsi.tunnel ≡ tunnels.Ingress leaf
  has : pmsi.label ≡ Some label

tunnel_label_is : (leaf : Addr) (tunnel : Tunnel) (o : Option ℕ) (label : ℕ) → tunnel_label leaf tunnel o ≡ Some label
    → (tunnel ≡ tunnels.Ingress leaf) × (o ≡ Some label)
tunnel_label_is leaf tunnels.None o label e = absurd cc
tunnel_label_is leaf (tunnels.Mldp element) o label e = absurd cc
tunnel_label_is leaf (tunnels.Other kind octets) o label e = absurd cc
tunnel_label_is leaf (tunnels.Ingress addr) o label e =
    let b = bind_some o (λ (l : ℕ). only_if (same_addr addr leaf) l) label e in
    let k = only_some (same_addr addr leaf) b.0 label b.2 in
    (ap (λ (a : Addr). tunnels.Ingress a) (same_addr_equal addr leaf k.0), b.1 ∙ ap (λ (l : ℕ). Some l) k.1)

label_to_is : (leaf : Addr) (o : Option Pmsi) (label : ℕ) → label_to leaf o ≡ Some label → IsLabelTo leaf o label
label_to_is leaf None label e = absurd cc
label_to_is leaf (Some pmsi) label e =
    let is = tunnel_label_is leaf pmsi.tunnel pmsi.label label e in
    record { pmsi = pmsi; attribute = refl; tunnel = is.0; has = is.1 }

tunnel_label_own : (leaf : Addr) (label : ℕ) → tunnel_label leaf (tunnels.Ingress leaf) (Some label) ≡ Some label
tunnel_label_own leaf label = ap (λ (b : Bool). only_if b label) (same_addr_equiv.refl leaf)

label_to_own : (leaf : Addr) (pmsi : Pmsi) (label : ℕ) → pmsi.tunnel ≡ tunnels.Ingress leaf → pmsi.label ≡ Some label
    → label_to leaf (Some pmsi) ≡ Some label
label_to_own leaf pmsi label tunnel is = (λ i. tunnel_label leaf (tunnel i) (is i)) ∙ tunnel_label_own leaf label

module _ (request : Request) (leaf : Addr) (advert : Advert) where
  abbrev passes : ℕ → Bool
  passes label = same_addr advert.next_hop leaf && (list_any (same_comm (root_target request)) advert.comms && nat_le 16 label)

  told_from : (label : ℕ) → label_told request leaf advert ≡ Some label → TellsLabel request leaf advert label
  unfolding label_told
  told_from label e =
      let b = bind_some (label_to leaf advert.pmsi) (λ (l : ℕ). only_if (passes l) l) label e in
      let o = only_some (passes b.0) b.0 label b.2 in
      let p : passes label ≡ true = ap passes (sym o.1) ∙ o.0 in
      let front = and_parts (same_addr advert.next_hop leaf) (list_any (same_comm (root_target request)) advert.comms && nat_le 16 label) p in
      let both = and_parts (list_any (same_comm (root_target request)) advert.comms) (nat_le 16 label) front.1 in
      let to = label_to_is leaf advert.pmsi label (b.1 ∙ ap (λ (l : ℕ). Some l) o.1) in
      record {
        pmsi = to.pmsi;
        attribute = to.attribute;
        tunnel = to.tunnel;
        has = to.has;
        next_hop = same_addr_equal advert.next_hop leaf front.0;
        target = among_from (root_target request) advert.comms both.0;
        unreserved = search (rules, both.1);
      }

  told_to : (label : ℕ) → TellsLabel request leaf advert label → label_told request leaf advert ≡ Some label
  unfolding label_told
  told_to label t =
      let to : label_to leaf advert.pmsi ≡ Some label = ap (label_to leaf) t.attribute ∙ label_to_own leaf t.pmsi label t.tunnel t.has in
      let near : same_addr advert.next_hop leaf ≡ true = ap (λ (addr : Addr). same_addr addr leaf) t.next_hop ∙ same_addr_equiv.refl leaf in
      let high : nat_le 16 label ≡ true = search (rules, t.unreserved) in
      let p : passes label ≡ true =
      and_from (same_addr advert.next_hop leaf) (list_any (same_comm (root_target request)) advert.comms && nat_le 16 label) near
      (and_from (list_any (same_comm (root_target request)) advert.comms) (nat_le 16 label) (among_to (root_target request) advert.comms t.target)
      high) in
      ap (λ (o : Option ℕ). o >>? λ (l : ℕ). only_if (passes l) l) to ∙ ap (λ (b : Bool). only_if b label) p

-- ---- copies

pub copy_from : (request : Request) (taken : TakenTable) (copy : LeafCopy) → copy_of request taken ≡ Some copy → IsCopy request taken copy
unfolding copy_of
copy_from request taken copy e =
    let own : ℕ → LeafCopy = λ label. record { leaf = taken.peer; label = label } in
    let a = bind_some (answer_in request taken.peer taken.table)
    (λ (advert : Advert). label_told request taken.peer advert >>? λ (label : ℕ). Some (own label)) copy e in
    let b = bind_some (label_told request taken.peer a.0) (λ (label : ℕ). Some (own label)) copy a.2 in
    let is : own b.0 ≡ copy = (let h = b.2 in cc) in
    record {
      advert = a.0;
      leaf = sym (ap (λ (c : LeafCopy). c.leaf) is);
      there = first_from request taken.peer taken.table a.0 a.1;
      tells = told_from request taken.peer a.0 copy.label (b.1 ∙ ap (λ (c : LeafCopy). Some c.label) is);
    }

pub copy_to : (request : Request) (taken : TakenTable) (copy : LeafCopy) → IsCopy request taken copy → copy_of request taken ≡ Some copy
unfolding copy_of
copy_to request taken copy c =
    let own : ℕ → LeafCopy = λ label. record { leaf = taken.peer; label = label } in
    let found : answer_in request taken.peer taken.table ≡ Some c.advert = first_to request taken.peer taken.table c.advert c.there in
    let told : label_told request taken.peer c.advert ≡ Some copy.label = told_to request taken.peer c.advert copy.label c.tells in
    ap (λ (o : Option Advert). o >>? λ (advert : Advert). label_told request taken.peer advert >>? λ (label : ℕ). Some (own label)) found
    ∙ (ap (λ (o : Option ℕ). o >>? λ (label : ℕ). Some (own label)) told
    ∙ ap (λ (leaf : Addr). Some (record { leaf = leaf; label = copy.label })) (sym c.leaf))

adds_by : (request : Request) (taken : TakenTable) (more : List TakenTable) (o : Option LeafCopy) → copy_of request taken ≡ o
    → Adds request taken (filter_map (copy_of request) more) (filter_map (copy_of request) (taken ∷ more))
adds_by request taken more None e =
    passed (λ copy is. let some = copy_to request taken copy is in absurd cc)
    (ap (λ (o : Option LeafCopy). cons_option o (filter_map (copy_of request) more)) e)
adds_by request taken more (Some copy) e =
    sent copy (copy_from request taken copy e) (ap (λ (o : Option LeafCopy). cons_option o (filter_map (copy_of request) more)) e)

all_copies : (request : Request) (taken : List TakenTable) → AreCopies request taken (filter_map (copy_of request) taken)
all_copies request [] = refl
all_copies request (taken ∷ more) =
    (filter_map (copy_of request) more, all_copies request more, adds_by request taken more (copy_of request taken) refl)

pub copies_from : (request : Request) (taken : List TakenTable) (copies : List LeafCopy) → copies ≡ copies_of (Some request) taken
    → AreCopies request taken copies
unfolding copies_of
copies_from request taken copies e = subst (AreCopies request taken) (sym e) (all_copies request taken)

added_by : (request : Request) (taken : TakenTable) (more : List TakenTable) (rest copies : List LeafCopy) (o : Option LeafCopy)
    → copy_of request taken ≡ o → rest ≡ filter_map (copy_of request) more
    → Adds request taken rest copies → copies ≡ filter_map (copy_of request) (taken ∷ more)
added_by request taken more rest copies o e is (sent copy c put) =
    put ∙ ((λ i. copy ∷ is i) ∙ ap (λ (o : Option LeafCopy). cons_option o (filter_map (copy_of request) more)) (sym (copy_to request taken copy c)))
added_by request taken more rest copies None e is (passed none put) =
    put ∙ (is ∙ ap (λ (o : Option LeafCopy). cons_option o (filter_map (copy_of request) more)) (sym e))
added_by request taken more rest copies (Some copy) e is (passed none put) = absurd (none copy (copy_from request taken copy e))

listed : (request : Request) (taken : List TakenTable) (copies : List LeafCopy) → AreCopies request taken copies
    → copies ≡ filter_map (copy_of request) taken
listed request [] copies none = none
listed request (taken ∷ more) copies are =
    added_by request taken more are.0 copies (copy_of request taken) refl (listed request more are.0 are.1) are.2

pub copies_to : (request : Request) (taken : List TakenTable) (copies : List LeafCopy) → AreCopies request taken copies
    → copies ≡ copies_of (Some request) taken
unfolding copies_of
copies_to request taken copies are = listed request taken copies are

pub copies_none : (taken : List TakenTable) → copies_of None taken ≡ []
unfolding copies_of
copies_none taken = refl
