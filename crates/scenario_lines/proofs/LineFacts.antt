-- What a line of the scenario that is without fault keeps to.
use Rattle.std.proofs.Common.{◌≡◌, ◌≢◌, ◌⊎◌, inl, inr, ℕ, ◌<◌, ◌≤◌, ◌==◌, ◌&&◌, ◌||◌, Bool, true, false, not, List, [], ◌∷◌, length, slice_index_or, refl, arith, nat_le}
use Rattle.std.specs.Prelude.{All, AllPairs, count_by}
use Rattle.std.specs.List.{list_any}
use Rattle.std.proofs.lemmas.Bool.{or_parts, and_from}
use Rattle.std.proofs.lemmas.Bool.Decides.{nat_tests}
use Rattle.mv_base.specs.declared.core_link.Link.{Link}
use Rattle.mv_base.specs.declared.ids.NodeId.{NodeId}
use Rattle.mv_base.specs.declared.ids.VrfId.{VrfId}
use Rattle.mv_base.specs.declared.ids.SiteId.{SiteId}
use Rattle.mv_base.specs.declared.ids.IfaceId.{IfaceId}
use Rattle.mv_base.specs.Number.{number_of}
use Rattle.mv_base.specs.core_walks.Topology.{JoinsSamePair, IsTopology, IsConnected}
use Rattle.mv_base.specs.core_walks.Reached.{is_connected}
use Rattle.mv_base.proofs.core_walks.ReachedLemmas.{connected_walks}
use Rattle.mv_base.specs.route_targets.Targets.{same_target, same, shares}
use Rattle.scenario_defs.specs.declared.scenario.Vrf.{Vrf}
use Rattle.scenario_defs.specs.declared.scenario.Iface.{Iface}
use Rattle.scenario_defs.specs.declared.scenario.Scenario.{Scenario}
use Rattle.scenario_defs.specs.Prefixes.{prefixes_of, share_prefix}
use Rattle.scenario_defs.specs.Vpn.{same_vpn}
use Rattle.scenario_defs.specs.Rules.{IsEdge, IsRd, IsTarget, IsVrf, AreApart, IsIface, AreOfVpns}
use Rattle.line_words.specs.declared.fault.Reason.TheVariants as reasons
use Rattle.line_words.specs.declared.words.Row.{Row}
use Rattle.line_words.specs.Words.{Placed}
use Rattle.line_words.proofs.ListFacts.{none_any}
use Rattle.line_words.specs.Forms.{number_to, or_fault, addr_at, prefixes_at, rule_at, targets_at}
use Rattle.scenario_lines.specs.declared.scenario_draft.setting.Setting.{Setting}
use Rattle.scenario_lines.specs.scenario_draft.Drafted.{Drafted}
use Rattle.scenario_lines.specs.scenario_draft.Settings.{highest, is_given}
use Rattle.scenario_lines.specs.scenario_draft.Naming.{new_name, node_addr_at, node_at, other_end_at, vrf_number_at, rd_at, edge_at, vrf_at, site_at}
use Rattle.scenario_lines.specs.scenario_draft.Declaring.{IsNewName, MayBeNode, MayBeLink, MayBeVrf, MayBeSite, MayBeIface, IsDeclared}
use Rattle.scenario_lines.proofs.scenario_draft.WordFacts.{Meets, Finds, ok_meets, err_meets, bind_meets, if_meets, then_meets, bind_finds, only_finds, or_fault_meets, within, to_limit, node_meets, vrf_meets, site_meets, addr_meets, name_meets, edge_meets, node_addr_meets, vrf_number_meets, rd_meets, rd_formed, targets_formed, other_end_meets, targets_meets, prefixes_meets, below}
use Rattle.scenario_lines.specs.declared.vrf_lines.VrfHead.{VrfHead}
use Rattle.scenario_lines.specs.declared.vrf_lines.VrfTail.{VrfTail}
use Rattle.scenario_lines.specs.declared.scenario_lines.ScenarioWord.{ScenarioWord}
use Rattle.scenario_lines.specs.declared.scenario_lines.ScenarioWord.TheVariants as word_kinds
use Rattle.scenario_lines.specs.SettingGrammar.{value_of, setting_words, setting_line}
use Rattle.scenario_lines.specs.NodeGrammar.{node_words, node_counted, is_full, node_line, link_between, link_words, link_counted, link_line}
use Rattle.scenario_lines.specs.VrfGrammar.{vrf_head, vrf_tail, overlaps, is_vpn_at, vrf_rules, vrf_words, vrf_counted, vrf_line}
use Rattle.scenario_lines.specs.SiteGrammar.{site_words, site_counted, site_line, is_mixed, is_taken, iface_rules, iface_parts, iface_words, iface_counted, iface_line}
use Rattle.scenario_lines.specs.ScenarioGrammar.{events_line, scenario_word, scenario_words, scenario_line}

-- ---- tests that fail

both_fail : (x y : Bool) → (x && y) ≡ false → x ≡ true → y ≡ false
both_fail true y h e = h
both_fail false y h e = absurd cc

not_fails : (x : Bool) → not x ≡ false → x ≡ true
not_fails true h = refl
not_fails false h = absurd cc

is_equal : (m n : ℕ) → m ≡ n → (m == n) ≡ true
is_equal m n e = grind (arith, nat_tests)

is_unequal : (m n : ℕ) → m ≢ n → not (m == n) ≡ true
is_unequal m n h = grind (arith, nat_tests)

not_equal : (m n : ℕ) → (m == n) ≡ false → m ≢ n
not_equal m n h = λ e. grind (arith, nat_tests)

-- ---- settings

value_finds : (setting : Setting) (text : List ℕ) → Finds (λ value. (1 ≤ value) × (value ≤ highest setting)) (value_of setting text)
unfolding value_of
value_finds setting text =
    bind_finds _ (number_of text) _ (λ value _. only_finds _ (nat_le 1 value && nat_le value (highest setting)) value
    (λ b. within value 1 (highest setting) b))

setting_words_meets : (draft : Drafted) (row : Row) (setting : Setting) (first a : Placed)
    → Meets (IsDeclared draft) (setting_words draft row setting first a)
unfolding setting_words
setting_words_meets draft row setting first a =
    if_meets _ (is_given draft.given setting) _ _ (λ new. bind_meets _ (or_fault (value_of setting a.text) row a reasons.Number) _ (λ value v.
    let bounds = (or_fault_meets _ (value_of setting a.text) row a reasons.Number (value_finds setting a.text)).holds value v in
    let facts : (is_given draft.given setting ≡ false) × (1 ≤ value) × (value ≤ highest setting) = (new, bounds.0, bounds.1) in ok_meets _ _ facts))

setting_line_meets : (draft : Drafted) (row : Row) (setting : Setting) (first : Placed) (rest : List Placed)
    → Meets (IsDeclared draft) (setting_line draft row setting first rest)
unfolding setting_line
setting_line_meets draft row setting first [] = err_meets _ _
setting_line_meets draft row setting first (a ∷ []) = setting_words_meets draft row setting first a
setting_line_meets draft row setting first (a ∷ b ∷ more) = err_meets _ _

-- ---- nodes

-- There is room for one more, of that kind.
abbrev HasRoom : Drafted → Bool → Type 0
HasRoom draft edge = (length draft.scenario.nodes < 64) × (edge ≡ true → count_by (λ other. other.edge) draft.scenario.nodes < 32)

room : (nodes edges : ℕ) (edge : Bool) → (nat_le 64 nodes || (edge && nat_le 32 edges)) ≡ false → (nodes < 64) × (edge ≡ true → edges < 32)
room nodes edges true h = let parts = or_parts (nat_le 64 nodes) (nat_le 32 edges) h in (below 64 nodes parts.0, λ _. below 32 edges parts.1)
room nodes edges false h = let parts = or_parts (nat_le 64 nodes) false h in (below 64 nodes parts.0, λ e. absurd cc)

node_words_meets : (draft : Drafted) (row : Row) (edge : Bool) (id : NodeId) (a b : Placed) → id.0 ≡ length draft.scenario.nodes → HasRoom draft edge
    → Meets (IsDeclared draft) (node_words draft row edge id a b)
unfolding node_words
node_words_meets draft row edge id a b next has =
    bind_meets _ (new_name draft row a) _ (λ name n. bind_meets _ (node_addr_at draft row b) _ (λ addr p.
    let own = (node_addr_meets draft row b).holds addr p in
    let may : MayBeNode draft.scenario (record { name = name; addr = addr; edge = edge }) =
    record { few = has.0; few_edges = has.1; ipv4 = own.0; unicast = own.1; address = own.2 } in
    let facts : (id.0 ≡ length draft.scenario.nodes) × IsNewName draft name
    × MayBeNode draft.scenario (record { name = name; addr = addr; edge = edge }) = (next, (name_meets draft row a).holds name n, may) in
    ok_meets _ _ facts))

node_counted_meets : (draft : Drafted) (row : Row) (edge : Bool) (id : NodeId) (words : List Placed) → id.0 ≡ length draft.scenario.nodes
    → HasRoom draft edge → Meets (IsDeclared draft) (node_counted draft row edge id words)
unfolding node_counted
node_counted_meets draft row edge id [] next has = err_meets _ _
node_counted_meets draft row edge id (a ∷ []) next has = err_meets _ _
node_counted_meets draft row edge id (a ∷ b ∷ []) next has = node_words_meets draft row edge id a b next has
node_counted_meets draft row edge id (a ∷ b ∷ c ∷ more) next has = err_meets _ _

node_line_meets : (draft : Drafted) (row : Row) (edge : Bool) (first : Placed) (rest : List Placed)
    → Meets (IsDeclared draft) (node_line draft row edge first rest)
unfolding node_line
node_line_meets draft row edge first rest =
    if_meets _ (is_full draft.scenario edge) _ _
    (λ has. node_counted_meets draft row edge _ rest refl
    (room (length draft.scenario.nodes) (count_by (λ other. other.edge) draft.scenario.nodes) edge has))

-- ---- links

link_between_meets : (draft : Drafted) (row : Row) (b : Placed) (link : Link) → length draft.scenario.links < 256
    → link.a.0 < length draft.scenario.nodes → link.b.0 < length draft.scenario.nodes → (1 ≤ link.cost) × (link.cost ≤ 65535)
    → All (λ other. ¬ (JoinsSamePair other link)) draft.scenario.links → Meets (IsDeclared draft) (link_between row b link.a link.b link.cost)
unfolding link_between
link_between_meets draft row b link few from to cost once =
    if_meets _ (link.a.0 == link.b.0) _ _ (λ two.
    let may : MayBeLink draft.scenario link =
    record { few = few; ends = record { a = from; b = to; two = not_equal link.a.0 link.b.0 two }; cost = cost; once = once } in ok_meets _ _ may)

link_words_meets : (draft : Drafted) (row : Row) (a b c : Placed) → length draft.scenario.links < 256
    → Meets (IsDeclared draft) (link_words draft row a b c)
unfolding link_words
link_words_meets draft row a b c few =
    bind_meets _ (node_at draft row a) _ (λ from f. bind_meets _ (other_end_at draft row from b) _
    (λ to t. bind_meets _ (or_fault (number_to 65535 c.text) row c reasons.Number) _ (λ cost p.
    let other = (other_end_meets draft row from b).holds to t in
    let price = (or_fault_meets _ (number_to 65535 c.text) row c reasons.Number (to_limit 65535 c.text)).holds cost p in
    let link : Link = record { a = from; b = to; cost = cost } in
    link_between_meets draft row b link few ((node_meets draft row a).holds from f) other.0 price (other.1 cost))))

link_counted_meets : (draft : Drafted) (row : Row) (words : List Placed) → length draft.scenario.links < 256
    → Meets (IsDeclared draft) (link_counted draft row words)
unfolding link_counted
link_counted_meets draft row [] few = err_meets _ _
link_counted_meets draft row (a ∷ []) few = err_meets _ _
link_counted_meets draft row (a ∷ b ∷ []) few = err_meets _ _
link_counted_meets draft row (a ∷ b ∷ c ∷ []) few = link_words_meets draft row a b c few
link_counted_meets draft row (a ∷ b ∷ c ∷ d ∷ more) few = err_meets _ _

link_line_meets : (draft : Drafted) (row : Row) (first : Placed) (rest : List Placed) → Meets (IsDeclared draft) (link_line draft row first rest)
unfolding link_line
link_line_meets draft row first rest = if_meets _ _ _ _ (λ few. link_counted_meets draft row rest (below 256 (length draft.scenario.links) few))

-- ---- VRFs

-- What the first words of a VRF keep to.
record HeadFacts (draft : Drafted) (head : VrfHead) : Type 0 where
  name : IsNewName draft head.name
  edge : IsEdge draft.scenario head.edge
  number : (1 ≤ head.number) × (head.number ≤ 4095)
  numbers : All (λ other. other.edge.0 ≡ head.edge.0 → other.number ≢ head.number) draft.scenario.vrfs

-- What the last words of a VRF of that edge keep to.
record TailFacts (draft : Drafted) (edge : NodeId) (tail : VrfTail) : Type 0 where
  rd : IsRd tail.rd
  each : All IsTarget tail.targets
  rds : All (λ other. other.edge.0 ≡ edge.0 → other.rd ≢ tail.rd) draft.scenario.vrfs
  some : 0 < length tail.targets
  few : length tail.targets ≤ 8
  distinct : AllPairs (λ target other. same_target target other ≡ false) tail.targets

vrf_head_meets : (draft : Drafted) (row : Row) (a b c : Placed) → Meets (HeadFacts draft) (vrf_head draft row a b c)
unfolding vrf_head
vrf_head_meets draft row a b c =
    bind_meets _ (new_name draft row a) _ (λ name n. bind_meets _ (edge_at draft row b) _
    (λ edge e. bind_meets _ (vrf_number_at draft row edge c) _ (λ number m.
    let own = (vrf_number_meets draft row edge c).holds number m in
    let facts : HeadFacts draft (record { name = name; edge = edge; number = number }) =
    record {
      name = (name_meets draft row a).holds name n;
      edge = (edge_meets draft row b).holds edge e;
      number = (own.0, own.1);
      numbers =
          own.2;
    } in ok_meets _ _ facts)))

vrf_tail_meets : (draft : Drafted) (row : Row) (edge : NodeId) (d e f : Placed) → Meets (TailFacts draft edge) (vrf_tail draft row edge d e f)
unfolding vrf_tail
vrf_tail_meets draft row edge d e f =
    bind_meets _ (rd_at draft row edge d) _ (λ rd r. bind_meets _ (targets_at row e) _ (λ targets t. bind_meets _ (rule_at row f) _ (λ rule _.
    let own = (targets_meets row e).holds targets t in
    let facts : TailFacts draft edge (record { rd = rd; targets = targets; rule = rule }) =
    record {
      rd = (rd_formed draft row edge d).holds rd r;
      each = (targets_formed row e).holds targets t;
      rds =
          (rd_meets draft row edge d).holds rd r;
      some = own.0;
      few = own.1;
      distinct = own.2;
    } in ok_meets _ _ facts)))

-- the sets share no member, unless they are equal
equal_or_apart : (common equal : Bool) → (common && not equal) ≡ false → (equal ≡ true) ⊎ (common ≡ false)
equal_or_apart common true h = inl refl
equal_or_apart true false h = absurd cc
equal_or_apart false false h = inr refl

apart_from : (other vrf : Vrf) → overlaps vrf.targets other ≡ false → is_vpn_at vrf.edge vrf.targets other ≡ false
    → (other.edge.0 ≡ vrf.edge.0 → other.number ≢ vrf.number) → (other.edge.0 ≡ vrf.edge.0 → other.rd ≢ vrf.rd) → AreApart other vrf
apart_from other vrf sets vpns numbers rds = record {
  overlap = equal_or_apart (shares other.targets vrf.targets) (same other.targets vrf.targets) sets;
  vpn = λ e. both_fail (other.edge.0 == vrf.edge.0) (same other.targets vrf.targets) vpns (is_equal other.edge.0 vrf.edge.0 e);
  numbers = numbers;
  rds = rds;
}

vrf_rules_meets : (draft : Drafted) (row : Row) (id : VrfId) (e : Placed) (head : VrfHead) (tail : VrfTail) → id.0 ≡ length draft.scenario.vrfs
    → length draft.scenario.vrfs < 256 → HeadFacts draft head → TailFacts draft head.edge tail
    → Meets (IsDeclared draft) (vrf_rules draft row id e head tail)
unfolding vrf_rules
vrf_rules_meets draft row id e head tail next few h t =
    if_meets _ (list_any (overlaps tail.targets) draft.scenario.vrfs) _ _
    (λ sets. if_meets _ (list_any (is_vpn_at head.edge tail.targets) draft.scenario.vrfs) _ _ (λ vpns.
    let vrf : Vrf = record { name = head.name; edge = head.edge; number = head.number; rd = tail.rd; targets = tail.targets; rule = tail.rule } in
    let own : IsVrf draft.scenario vrf =
    record { edge = h.edge; number = h.number; rd = t.rd; some = t.some; few = t.few; each = t.each; distinct = t.distinct } in
    let no_overlap = none_any (overlaps tail.targets) draft.scenario.vrfs sets in
    let no_vpn = none_any (is_vpn_at head.edge tail.targets) draft.scenario.vrfs vpns in
    let apart : All (λ other. AreApart other vrf) draft.scenario.vrfs =
    λ k d l. apart_from (slice_index_or draft.scenario.vrfs k d) vrf (no_overlap k d l) (no_vpn k d l) (h.numbers k d l) (t.rds k d l) in
    let may : MayBeVrf draft.scenario vrf = record { few = few; own = own; apart = apart } in
    let facts : (id.0 ≡ length draft.scenario.vrfs) × IsNewName draft head.name × MayBeVrf draft.scenario vrf = (next, h.name, may) in
    ok_meets _ _ facts))

vrf_words_meets : (draft : Drafted) (row : Row) (id : VrfId) (a b c d e f : Placed) → id.0 ≡ length draft.scenario.vrfs
    → length draft.scenario.vrfs < 256 → Meets (IsDeclared draft) (vrf_words draft row id a b c d e f)
unfolding vrf_words
vrf_words_meets draft row id a b c d e f next few =
    bind_meets _ (vrf_head draft row a b c) _ (λ head h. bind_meets _ (vrf_tail draft row head.edge d e f) _ (λ tail t.
    vrf_rules_meets draft row id e head tail next few ((vrf_head_meets draft row a b c).holds head h)
    ((vrf_tail_meets draft row head.edge d e f).holds tail t)))

vrf_counted_meets : (draft : Drafted) (row : Row) (id : VrfId) (words : List Placed) → id.0 ≡ length draft.scenario.vrfs
    → length draft.scenario.vrfs < 256 → Meets (IsDeclared draft) (vrf_counted draft row id words)
unfolding vrf_counted
vrf_counted_meets draft row id [] next few = err_meets _ _
vrf_counted_meets draft row id (a ∷ []) next few = err_meets _ _
vrf_counted_meets draft row id (a ∷ b ∷ []) next few = err_meets _ _
vrf_counted_meets draft row id (a ∷ b ∷ c ∷ []) next few = err_meets _ _
vrf_counted_meets draft row id (a ∷ b ∷ c ∷ d ∷ []) next few = err_meets _ _
vrf_counted_meets draft row id (a ∷ b ∷ c ∷ d ∷ e ∷ []) next few = err_meets _ _
vrf_counted_meets draft row id (a ∷ b ∷ c ∷ d ∷ e ∷ f ∷ []) next few = vrf_words_meets draft row id a b c d e f next few
vrf_counted_meets draft row id (a ∷ b ∷ c ∷ d ∷ e ∷ f ∷ g ∷ more) next few = err_meets _ _

vrf_line_meets : (draft : Drafted) (row : Row) (first : Placed) (rest : List Placed) → Meets (IsDeclared draft) (vrf_line draft row first rest)
unfolding vrf_line
vrf_line_meets draft row first rest = if_meets _ _ _ _ (λ few. vrf_counted_meets draft row _ rest refl (below 256 (length draft.scenario.vrfs) few))

-- ---- sites

site_words_meets : (draft : Drafted) (row : Row) (id : SiteId) (a b : Placed) → id.0 ≡ length draft.scenario.sites → length draft.scenario.sites < 512
    → Meets (IsDeclared draft) (site_words draft row id a b)
unfolding site_words
site_words_meets draft row id a b next few =
    bind_meets _ (new_name draft row a) _ (λ name n. bind_meets _ (prefixes_at row b) _ (λ prefixes p.
    let own = (prefixes_meets row b).holds prefixes p in
    let may : MayBeSite draft.scenario (record { name = name; prefixes = prefixes }) =
    record { few = few; own = record { some = own.some; few = own.few; each = own.each; distinct = own.distinct } } in
    let facts : (id.0 ≡ length draft.scenario.sites) × IsNewName draft name × MayBeSite draft.scenario (record { name = name; prefixes = prefixes }) =
    (next, (name_meets draft row a).holds name n, may) in ok_meets _ _ facts))

site_counted_meets : (draft : Drafted) (row : Row) (id : SiteId) (words : List Placed) → id.0 ≡ length draft.scenario.sites
    → length draft.scenario.sites < 512 → Meets (IsDeclared draft) (site_counted draft row id words)
unfolding site_counted
site_counted_meets draft row id [] next few = err_meets _ _
site_counted_meets draft row id (a ∷ []) next few = err_meets _ _
site_counted_meets draft row id (a ∷ b ∷ []) next few = site_words_meets draft row id a b next few
site_counted_meets draft row id (a ∷ b ∷ c ∷ more) next few = err_meets _ _

site_line_meets : (draft : Drafted) (row : Row) (first : Placed) (rest : List Placed) → Meets (IsDeclared draft) (site_line draft row first rest)
unfolding site_line
site_line_meets draft row first rest =
    if_meets _ _ _ _ (λ few. site_counted_meets draft row _ rest refl (below 512 (length draft.scenario.sites) few))

-- ---- interfaces

of_vpns : (scenario : Scenario) (other iface : Iface) → is_mixed scenario iface other ≡ false → is_taken scenario iface other ≡ false
    → AreOfVpns scenario other iface
of_vpns scenario other iface mixed taken = record {
  mixed = λ e. not_fails _ (both_fail (other.site.0 == iface.site.0) (not (same_vpn scenario other.vrf iface.vrf)) mixed
      (is_equal other.site.0 iface.site.0 e));
  taken = λ n e. both_fail (not (other.site.0 == iface.site.0) && same_vpn scenario other.vrf iface.vrf)
      (share_prefix (prefixes_of scenario iface.site) (prefixes_of scenario other.site)) taken
      (and_from _ _ (is_unequal other.site.0 iface.site.0 n) e);
}

iface_rules_meets : (draft : Drafted) (row : Row) (id : IfaceId) (c : Placed) (iface : Iface) → id.0 ≡ length draft.scenario.ifaces
    → length draft.scenario.ifaces < 1024 → IsNewName draft iface.name → IsIface draft.scenario iface
    → Meets (IsDeclared draft) (iface_rules draft row id c iface)
unfolding iface_rules
iface_rules_meets draft row id c iface next few name own =
    if_meets _ (list_any (is_mixed draft.scenario iface) draft.scenario.ifaces) _ _
    (λ mixed. if_meets _ (list_any (is_taken draft.scenario iface) draft.scenario.ifaces) _ _ (λ taken.
    let none_mixed = none_any (is_mixed draft.scenario iface) draft.scenario.ifaces mixed in
    let none_taken = none_any (is_taken draft.scenario iface) draft.scenario.ifaces taken in
    let vpns : All (λ other. AreOfVpns draft.scenario other iface) draft.scenario.ifaces =
    λ k d l. of_vpns draft.scenario (slice_index_or draft.scenario.ifaces k d) iface (none_mixed k d l) (none_taken k d l) in
    let may : MayBeIface draft.scenario iface = record { few = few; own = own; vpns = vpns } in
    let facts : (id.0 ≡ length draft.scenario.ifaces) × IsNewName draft iface.name × MayBeIface draft.scenario iface = (next, name, may) in
    ok_meets _ _ facts))

iface_parts_meets : (draft : Drafted) (row : Row) (a b c d : Placed)
    → Meets (λ iface. IsNewName draft iface.name × IsIface draft.scenario iface) (iface_parts draft row a b c d)
unfolding iface_parts
iface_parts_meets draft row a b c d =
    bind_meets _ (new_name draft row a) _ (λ name n. bind_meets _ (vrf_at draft row b) _
    (λ vrf v. bind_meets _ (site_at draft row c) _ (λ site s. bind_meets _ (addr_at row d) _ (λ addr p.
    let own : IsIface draft.scenario (record { name = name; vrf = vrf; site = site; addr = addr }) =
    record { vrf = (vrf_meets draft row b).holds vrf v; site = (site_meets draft row c).holds site s; addr = (addr_meets row d).holds addr p } in
    let facts : IsNewName draft name × IsIface draft.scenario (record { name = name; vrf = vrf; site = site; addr = addr }) =
    ((name_meets draft row a).holds name n, own) in ok_meets _ _ facts))))

iface_words_meets : (draft : Drafted) (row : Row) (id : IfaceId) (a b c d : Placed) → id.0 ≡ length draft.scenario.ifaces
    → length draft.scenario.ifaces < 1024 → Meets (IsDeclared draft) (iface_words draft row id a b c d)
iface_words_meets draft row id a b c d next few =
    bind_meets _ (iface_parts draft row a b c d) _
    (λ iface i. let known = (iface_parts_meets draft row a b c d).holds iface i in
    iface_rules_meets draft row id c iface next few known.0 known.1)

iface_counted_meets : (draft : Drafted) (row : Row) (id : IfaceId) (words : List Placed) → id.0 ≡ length draft.scenario.ifaces
    → length draft.scenario.ifaces < 1024 → Meets (IsDeclared draft) (iface_counted draft row id words)
unfolding iface_counted
iface_counted_meets draft row id [] next few = err_meets _ _
iface_counted_meets draft row id (a ∷ []) next few = err_meets _ _
iface_counted_meets draft row id (a ∷ b ∷ []) next few = err_meets _ _
iface_counted_meets draft row id (a ∷ b ∷ c ∷ []) next few = err_meets _ _
iface_counted_meets draft row id (a ∷ b ∷ c ∷ d ∷ []) next few = iface_words_meets draft row id a b c d next few
iface_counted_meets draft row id (a ∷ b ∷ c ∷ d ∷ e ∷ more) next few = err_meets _ _

iface_line_meets : (draft : Drafted) (row : Row) (first : Placed) (rest : List Placed) → Meets (IsDeclared draft) (iface_line draft row first rest)
unfolding iface_line
iface_line_meets draft row first rest =
    if_meets _ _ _ _ (λ few. iface_counted_meets draft row _ rest refl (below 1024 (length draft.scenario.ifaces) few))

-- ---- any line

events_line_meets : (draft : Drafted) (row : Row) (words : List Placed) → IsTopology (length draft.scenario.nodes) draft.scenario.links
    → Meets (IsDeclared draft) (events_line draft row words)
unfolding events_line
events_line_meets draft row [] topology =
    then_meets _ (is_connected (length draft.scenario.nodes) draft.scenario.links) _ _ (λ connected.
    let facts : IsConnected (length draft.scenario.nodes) draft.scenario.links =
    (connected_walks (length draft.scenario.nodes) draft.scenario.links topology).0 connected in ok_meets _ _ facts)
events_line_meets draft row (a ∷ more) topology = err_meets _ _

scenario_words_meets : (draft : Drafted) (row : Row) (kind : ScenarioWord) (first : Placed) (rest : List Placed)
    → IsTopology (length draft.scenario.nodes) draft.scenario.links → Meets (IsDeclared draft) (scenario_words draft row kind first rest)
unfolding scenario_words
scenario_words_meets draft row word_kinds.Edge first rest topology = node_line_meets draft row true first rest
scenario_words_meets draft row word_kinds.Core first rest topology = node_line_meets draft row false first rest
scenario_words_meets draft row word_kinds.Link first rest topology = link_line_meets draft row first rest
scenario_words_meets draft row word_kinds.Vrf first rest topology = vrf_line_meets draft row first rest
scenario_words_meets draft row word_kinds.Site first rest topology = site_line_meets draft row first rest
scenario_words_meets draft row word_kinds.Iface first rest topology = iface_line_meets draft row first rest
scenario_words_meets draft row (word_kinds.Setting setting) first rest topology = setting_line_meets draft row setting first rest
scenario_words_meets draft row word_kinds.Events first rest topology = events_line_meets draft row rest topology

-- A line of the scenario that is without fault declares what may be declared.
pub scenario_line_meets : (draft : Drafted) (row : Row) (first : Placed) (rest : List Placed)
    → IsTopology (length draft.scenario.nodes) draft.scenario.links → Meets (IsDeclared draft) (scenario_line draft row first rest)
unfolding scenario_line
scenario_line_meets draft row first rest topology =
    bind_meets _ (scenario_word row first) _ (λ kind _. scenario_words_meets draft row kind first rest topology)
