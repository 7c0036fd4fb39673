-- What a line says where its words are known: one lemma for each kind of line.
use Rattle.std.proofs.Common.{◌≡◌, ℕ, ◌==◌, Bool, true, false, cond, nat_le, List, [], ◌∷◌, length, Some, refl, sym, ap, ◌∙◌}
use Rattle.std.specs.Prelude.{codes, nat_eq, Ok}
use Rattle.std.specs.List.{list_any, slice_get}
use Rattle.std.specs.Map.{lookup}
use Rattle.std.specs.Cmp.Lexicographic.{pointwise}
use Rattle.mv_base.specs.declared.addr.Addr.{Addr}
use Rattle.mv_base.specs.declared.core_link.Link.{Link}
use Rattle.mv_base.specs.declared.ids.NodeId.{NodeId}
use Rattle.mv_base.specs.declared.ids.VrfId.{VrfId}
use Rattle.mv_base.specs.declared.ids.SiteId.{SiteId}
use Rattle.mv_base.specs.declared.ids.IfaceId.{IfaceId}
use Rattle.mv_base.specs.declared.prefix.Prefix.{Prefix}
use Rattle.mv_base.specs.declared.rd.Rd.{Rd}
use Rattle.mv_base.specs.declared.rd.Rule.{Rule}
use Rattle.mv_base.specs.declared.rd.Rule.TheVariants.{Highest}
use Rattle.mv_base.specs.AddrText.{addr_of}
use Rattle.mv_base.specs.Number.{is_number}
use Rattle.mv_base.specs.core_walks.Reached.{is_connected}
use Rattle.mv_base.specs.declared.route_targets.communities.Target.{Target}
use Rattle.mv_base.specs.route_targets.Targets.{same_target}
use Rattle.scenario_defs.specs.declared.scenario.Node.{Node}
use Rattle.scenario_defs.specs.declared.scenario.Vrf.{Vrf}
use Rattle.scenario_defs.specs.declared.scenario.Site.{Site}
use Rattle.scenario_defs.specs.declared.scenario.Iface.{Iface}
use Rattle.scenario_defs.specs.declared.scenario.Thing.TheVariants as things
use Rattle.scenario_defs.specs.Names.{is_name}
use Rattle.scenario_defs.specs.Prefixes.{same_prefix}
use Rattle.line_words.specs.declared.words.Row.{Row}
use Rattle.line_words.specs.Words.{Placed}
use Rattle.line_words.specs.Forms.{ipv4_of, ipv4_at, is_unicast, addr_at, number_to, vrf_number_of, rd_of, targets_at, target_of, list_of, prefix_of, prefixes_at, rule_at}
use Rattle.scenario_lines.specs.declared.scenario_draft.line.Line.{Line}
use Rattle.scenario_lines.specs.declared.scenario_draft.line.Line.TheVariants as says
use Rattle.scenario_lines.specs.scenario_draft.Drafted.{Drafted}
use Rattle.scenario_lines.specs.scenario_draft.Adding.{IsFree}
use Rattle.scenario_lines.specs.scenario_draft.Naming.{node_named, edge_named, vrf_named, site_named, iface_named, new_name, node_at, edge_at, vrf_at, site_at, iface_at, is_at, node_addr_at, has_number, vrf_number_at, has_rd, rd_at, joins, other_end_at}
use Rattle.scenario_lines.specs.NodeGrammar.{node_words, node_counted, is_full, node_line, link_between, link_words, link_counted, link_line}
use Rattle.scenario_lines.specs.VrfGrammar.{vrf_head, vrf_tail, overlaps, is_vpn_at, vrf_rules, vrf_words, vrf_counted, vrf_line}
use Rattle.scenario_lines.specs.SiteGrammar.{site_words, site_counted, site_line, is_mixed, is_taken, iface_rules, iface_parts, iface_counted, iface_line}
use Rattle.scenario_lines.specs.ScenarioGrammar.{scenario_word, scenario_words, scenario_line, events_line}
use Rattle.scenario_text.specs.event_lines.EventGrammar.{event_line}
use Rattle.scenario_text.specs.Grammar.{words_line}

-- the word at that column
abbrev pub at : ℕ → List ℕ → Placed
at column text = record { column = column; text = text }

on_false : {A : Type 0} (b : Bool) (x y z : A) → b ≡ false → y ≡ z → cond b x y ≡ z
on_false b x y z e h = rw e h

on_true : {A : Type 0} (b : Bool) (x y z : A) → b ≡ true → x ≡ z → cond b x y ≡ z
on_true b x y z e h = rw e h

in_scenario : (draft : Drafted) (row : Row) (first : Placed) (rest : List Placed) (said : Line) → draft.begun ≡ false
    → scenario_line draft row first rest ≡ Ok said → words_line draft row (first ∷ rest) ≡ Ok said
unfolding words_line
in_scenario draft row first rest said b h = on_false draft.begun _ _ (Ok said) b h

pub in_events : (draft : Drafted) (row : Row) (first : Placed) (rest : List Placed) (said : Line) → draft.begun ≡ true
    → event_line draft row first rest ≡ Ok said → words_line draft row (first ∷ rest) ≡ Ok said
unfolding words_line
in_events draft row first rest said b h = on_true draft.begun _ _ (Ok said) b h

-- ---- names that are new, and those of things

new_word : (draft : Drafted) (row : Row) (word : Placed) → is_name word.text ≡ true → IsFree draft word.text → new_name draft row word ≡ Ok word.text
unfolding new_name
new_word draft row word h k = rw (h, k) refl

pub node_word : (draft : Drafted) (row : Row) (word : Placed) (id : NodeId) (node : Node) → is_name word.text ≡ true
    → lookup (pointwise nat_eq word.text) draft.names ≡ Some (things.Node id) → slice_get draft.scenario.nodes id.0 ≡ Some node
    → node_at draft row word ≡ Ok id
unfolding node_at node_named
node_word draft row word id node h k l = rw (h, k, l) refl

pub edge_word : (draft : Drafted) (row : Row) (word : Placed) (id : NodeId) (node : Node) → is_name word.text ≡ true
    → lookup (pointwise nat_eq word.text) draft.names ≡ Some (things.Node id) → slice_get draft.scenario.nodes id.0 ≡ Some node → node.edge ≡ true
    → edge_at draft row word ≡ Ok id
unfolding edge_at edge_named
edge_word draft row word id node h k l m = rw (h, k, l, m) refl

pub vrf_word : (draft : Drafted) (row : Row) (word : Placed) (id : VrfId) (vrf : Vrf) → is_name word.text ≡ true
    → lookup (pointwise nat_eq word.text) draft.names ≡ Some (things.Vrf id) → slice_get draft.scenario.vrfs id.0 ≡ Some vrf
    → vrf_at draft row word ≡ Ok id
unfolding vrf_at vrf_named
vrf_word draft row word id vrf h k l = rw (h, k, l) refl

pub site_word : (draft : Drafted) (row : Row) (word : Placed) (id : SiteId) (site : Site) → is_name word.text ≡ true
    → lookup (pointwise nat_eq word.text) draft.names ≡ Some (things.Site id) → slice_get draft.scenario.sites id.0 ≡ Some site
    → site_at draft row word ≡ Ok id
unfolding site_at site_named
site_word draft row word id site h k l = rw (h, k, l) refl

pub iface_word : (draft : Drafted) (row : Row) (word : Placed) (id : IfaceId) (iface : Iface) → is_name word.text ≡ true
    → lookup (pointwise nat_eq word.text) draft.names ≡ Some (things.Iface id) → slice_get draft.scenario.ifaces id.0 ≡ Some iface
    → iface_at draft row word ≡ Ok id
unfolding iface_at iface_named
iface_word draft row word id iface h k l = rw (h, k, l) refl

-- ---- nodes

node_addr_word : (draft : Drafted) (row : Row) (word : Placed) (addr : Addr) → ipv4_of word.text ≡ Some addr → is_unicast addr ≡ true
    → list_any (is_at addr) draft.scenario.nodes ≡ false → node_addr_at draft row word ≡ Ok addr
unfolding node_addr_at ipv4_at
node_addr_word draft row word addr h k l = rw (h, k, l) refl

-- What a node needs to be new.
pub record IsNewNode (draft : Drafted) (id : NodeId) (node : Node) : Type 0 where
  pub number : length draft.scenario.nodes ≡ id.0
  pub few : is_full draft.scenario node.edge ≡ false
  pub name : is_name node.name ≡ true
  pub free : IsFree draft node.name
  pub unicast : is_unicast node.addr ≡ true
  pub alone : list_any (is_at node.addr) draft.scenario.nodes ≡ false

node_said : (draft : Drafted) (row : Row) (id : NodeId) (node : Node) (c d e : ℕ) (first addr : List ℕ) → IsNewNode draft id node
    → ipv4_of addr ≡ Some node.addr → node_line draft row node.edge (at c first) (at d node.name ∷ at e addr ∷ []) ≡ Ok (says.Node id node)
unfolding node_line node_counted node_words
node_said draft row id node c d e first addr new h =
    rw (new.few, new_word draft row (at d node.name) new.name new.free, node_addr_word draft row (at e addr) node.addr h new.unicast new.alone)
    (ap (λ (n : ℕ). Ok (says.Node (record { 0 = n }) node)) new.number)

pub edge_said : (draft : Drafted) (row : Row) (id : NodeId) (node : Node) (c d e : ℕ) (addr : List ℕ) → draft.begun ≡ false → node.edge ≡ true
    → IsNewNode draft id node → ipv4_of addr ≡ Some node.addr
    → words_line draft row (at c (codes "edge") ∷ at d node.name ∷ at e addr ∷ []) ≡ Ok (says.Node id node)
unfolding scenario_line scenario_word scenario_words
edge_said draft row id node c d e addr b edge new h =
    in_scenario draft row (at c (codes "edge")) (at d node.name ∷ at e addr ∷ []) (says.Node id node) b
    (ap (λ (t : Bool). node_line draft row t (at c (codes "edge")) (at d node.name ∷ at e addr ∷ [])) (sym edge)
    ∙ node_said draft row id node c d e (codes "edge") addr new h)

pub core_said : (draft : Drafted) (row : Row) (id : NodeId) (node : Node) (c d e : ℕ) (addr : List ℕ) → draft.begun ≡ false → node.edge ≡ false
    → IsNewNode draft id node → ipv4_of addr ≡ Some node.addr
    → words_line draft row (at c (codes "core") ∷ at d node.name ∷ at e addr ∷ []) ≡ Ok (says.Node id node)
unfolding scenario_line scenario_word scenario_words
core_said draft row id node c d e addr b edge new h =
    in_scenario draft row (at c (codes "core")) (at d node.name ∷ at e addr ∷ []) (says.Node id node) b
    (ap (λ (t : Bool). node_line draft row t (at c (codes "core")) (at d node.name ∷ at e addr ∷ [])) (sym edge)
    ∙ node_said draft row id node c d e (codes "core") addr new h)

-- ---- links

-- What a link needs to be new.
pub record IsNewLink (draft : Drafted) (link : Link) (a b : List ℕ) : Type 0 where
  pub few : nat_le 256 (length draft.scenario.links) ≡ false
  pub from : (row : Row) (column : ℕ) → node_at draft row (at column a) ≡ Ok link.a
  pub to : (row : Row) (column : ℕ) → node_at draft row (at column b) ≡ Ok link.b
  pub two : (link.a.0 == link.b.0) ≡ false
  pub alone : list_any (joins link.a link.b) draft.scenario.links ≡ false

other_end_word : (draft : Drafted) (row : Row) (from to : NodeId) (word : Placed) → node_at draft row word ≡ Ok to
    → list_any (joins from to) draft.scenario.links ≡ false → other_end_at draft row from word ≡ Ok to
unfolding other_end_at
other_end_word draft row from to word h k = rw (h, k) refl

pub link_said : (draft : Drafted) (row : Row) (link : Link) (a b : List ℕ) (c d e f : ℕ) → draft.begun ≡ false → link.cost ≡ 1
    → IsNewLink draft link a b → words_line draft row (at c (codes "link") ∷ at d a ∷ at e b ∷ at f (codes "1") ∷ []) ≡ Ok (says.Link link)
unfolding scenario_line scenario_word scenario_words link_line link_counted link_words link_between number_to is_number
link_said draft row link a b c d e f begun cost new =
    in_scenario draft row (at c (codes "link")) (at d a ∷ at e b ∷ at f (codes "1") ∷ []) (says.Link link) begun
    (rw (new.few, new.from row d, other_end_word draft row link.a link.b (at e b) (new.to row e) new.alone, new.two)
    (ap (λ (n : ℕ). Ok (says.Link (record { a = link.a; b = link.b; cost = n }))) (sym cost)))

-- ---- VRFs

-- What a VRF needs to be new.
pub record IsNewVrf (draft : Drafted) (id : VrfId) (vrf : Vrf) (edge : List ℕ) : Type 0 where
  pub number : length draft.scenario.vrfs ≡ id.0
  pub few : nat_le 256 (length draft.scenario.vrfs) ≡ false
  pub name : is_name vrf.name ≡ true
  pub free : IsFree draft vrf.name
  pub at_edge : (row : Row) (column : ℕ) → edge_at draft row (at column edge) ≡ Ok vrf.edge
  pub numbers : list_any (has_number vrf.edge vrf.number) draft.scenario.vrfs ≡ false
  pub rds : list_any (has_rd vrf.edge vrf.rd) draft.scenario.vrfs ≡ false
  pub apart : list_any (overlaps vrf.targets) draft.scenario.vrfs ≡ false
  pub alone : list_any (is_vpn_at vrf.edge vrf.targets) draft.scenario.vrfs ≡ false

-- What the words of a VRF write.
pub record AreOfVrf (vrf : Vrf) (number rd targets : List ℕ) : Type 0 where
  pub counted : vrf_number_of number ≡ Some vrf.number
  pub told_by : rd_of rd ≡ Some vrf.rd
  pub admits : list_of same_target target_of targets ≡ Some vrf.targets

vrf_number_word : (draft : Drafted) (row : Row) (edge : NodeId) (word : Placed) (number : ℕ) → vrf_number_of word.text ≡ Some number
    → list_any (has_number edge number) draft.scenario.vrfs ≡ false → vrf_number_at draft row edge word ≡ Ok number
unfolding vrf_number_at
vrf_number_word draft row edge word number h k = rw (h, k) refl

rd_word : (draft : Drafted) (row : Row) (edge : NodeId) (word : Placed) (rd : Rd) → rd_of word.text ≡ Some rd
    → list_any (has_rd edge rd) draft.scenario.vrfs ≡ false → rd_at draft row edge word ≡ Ok rd
unfolding rd_at
rd_word draft row edge word rd h k = rw (h, k) refl

targets_word : (row : Row) (word : Placed) (targets : List Target) → list_of same_target target_of word.text ≡ Some targets
    → targets_at row word ≡ Ok targets
unfolding targets_at
targets_word row word targets h = rw h refl

highest_word : (row : Row) (column : ℕ) → rule_at row (at column (codes "highest")) ≡ Ok Highest
unfolding rule_at
highest_word row column = refl

head_said : (draft : Drafted) (row : Row) (id : VrfId) (vrf : Vrf) (edge number : List ℕ) (c d e : ℕ) → IsNewVrf draft id vrf edge
    → vrf_number_of number ≡ Some vrf.number → vrf_head draft row (at c vrf.name) (at d edge) (at e number)
    ≡ Ok (record { name = vrf.name; edge = vrf.edge; number = vrf.number })
unfolding vrf_head
head_said draft row id vrf edge number c d e new h =
    rw (
      new_word draft row (at c vrf.name) new.name new.free,
      new.at_edge row d,
      vrf_number_word draft row vrf.edge (at e number) vrf.number h new.numbers,
    ) refl

tail_said : (draft : Drafted) (row : Row) (id : VrfId) (vrf : Vrf) (edge number rd targets : List ℕ) (c d e : ℕ) → IsNewVrf draft id vrf edge
    → AreOfVrf vrf number rd targets → vrf_tail draft row vrf.edge (at c rd) (at d targets) (at e (codes "highest"))
    ≡ Ok (record { rd = vrf.rd; targets = vrf.targets; rule = Highest })
unfolding vrf_tail
tail_said draft row id vrf edge number rd targets c d e new are =
    rw (rd_word draft row vrf.edge (at c rd) vrf.rd are.told_by new.rds, targets_word row (at d targets) vrf.targets are.admits, highest_word row e)
    refl

rules_said : (draft : Drafted) (row : Row) (id : VrfId) (vrf : Vrf) (edge : List ℕ) (word : Placed) → IsNewVrf draft id vrf edge → vrf.rule ≡ Highest
    → vrf_rules draft row id word (record { name = vrf.name; edge = vrf.edge; number = vrf.number })
    (record { rd = vrf.rd; targets = vrf.targets; rule = Highest }) ≡ Ok (says.Vrf id vrf)
unfolding vrf_rules
rules_said draft row id vrf edge word new rule =
    rw (new.apart, new.alone) (ap (λ (r : Rule). Ok
    (says.Vrf id (record { name = vrf.name; edge = vrf.edge; number = vrf.number; rd = vrf.rd; targets = vrf.targets; rule = r }))) (sym rule))

pub vrf_said : (draft : Drafted) (row : Row) (id : VrfId) (vrf : Vrf) (edge number rd targets : List ℕ) (c d e f g h i : ℕ) → draft.begun ≡ false
    → vrf.rule ≡ Highest → IsNewVrf draft id vrf edge → AreOfVrf vrf number rd targets
    → words_line draft row (at c (codes "vrf") ∷ at d vrf.name ∷ at e edge ∷ at f number ∷ at g rd ∷ at h targets ∷ at i (codes "highest") ∷ [])
    ≡ Ok (says.Vrf id vrf)
unfolding scenario_line scenario_word scenario_words vrf_line vrf_counted vrf_words
vrf_said draft row id vrf edge number rd targets c d e f g h i begun rule new are =
    let next : record { 0 = length draft.scenario.vrfs } ≡ id = ap (λ (n : ℕ). record { 0 = n }) new.number in
    in_scenario draft row (at c (codes "vrf")) (at d vrf.name ∷ at e edge ∷ at f number ∷ at g rd ∷ at h targets ∷ at i (codes "highest") ∷ [])
    (says.Vrf id vrf) begun
    (rw (new.few, head_said draft row id vrf edge number d e f new are.counted, tail_said draft row id vrf edge number rd targets g h i new are)
    (ap (λ (k : VrfId). vrf_rules draft row k (at h targets) (record { name = vrf.name; edge = vrf.edge; number = vrf.number })
    (record { rd = vrf.rd; targets = vrf.targets; rule = Highest })) next
    ∙ rules_said draft row id vrf edge (at h targets) new rule))

-- ---- sites

-- What a site needs to be new.
pub record IsNewSite (draft : Drafted) (id : SiteId) (site : Site) : Type 0 where
  pub number : length draft.scenario.sites ≡ id.0
  pub few : nat_le 512 (length draft.scenario.sites) ≡ false
  pub name : is_name site.name ≡ true
  pub free : IsFree draft site.name

prefixes_word : (row : Row) (word : Placed) (prefixes : List Prefix) → list_of same_prefix prefix_of word.text ≡ Some prefixes
    → prefixes_at row word ≡ Ok prefixes
unfolding prefixes_at
prefixes_word row word prefixes h = rw h refl

pub site_said : (draft : Drafted) (row : Row) (id : SiteId) (site : Site) (prefixes : List ℕ) (c d e : ℕ) → draft.begun ≡ false
    → IsNewSite draft id site → list_of same_prefix prefix_of prefixes ≡ Some site.prefixes
    → words_line draft row (at c (codes "site") ∷ at d site.name ∷ at e prefixes ∷ []) ≡ Ok (says.Site id site)
unfolding scenario_line scenario_word scenario_words site_line site_counted site_words
site_said draft row id site prefixes c d e begun new h =
    in_scenario draft row (at c (codes "site")) (at d site.name ∷ at e prefixes ∷ []) (says.Site id site) begun
    (rw (new.few, new_word draft row (at d site.name) new.name new.free, prefixes_word row (at e prefixes) site.prefixes h)
    (ap (λ (n : ℕ). Ok (says.Site (record { 0 = n }) site)) new.number))

-- ---- interfaces

-- What an interface needs to be new.
pub record IsNewIface (draft : Drafted) (id : IfaceId) (iface : Iface) (vrf site : List ℕ) : Type 0 where
  pub number : length draft.scenario.ifaces ≡ id.0
  pub few : nat_le 1024 (length draft.scenario.ifaces) ≡ false
  pub name : is_name iface.name ≡ true
  pub free : IsFree draft iface.name
  pub in_vrf : (row : Row) (column : ℕ) → vrf_at draft row (at column vrf) ≡ Ok iface.vrf
  pub in_site : (row : Row) (column : ℕ) → site_at draft row (at column site) ≡ Ok iface.site
  pub mixed : list_any (is_mixed draft.scenario iface) draft.scenario.ifaces ≡ false
  pub taken : list_any (is_taken draft.scenario iface) draft.scenario.ifaces ≡ false

pub addr_word : (row : Row) (word : Placed) (addr : Addr) → addr_of word.text ≡ Some addr → addr_at row word ≡ Ok addr
unfolding addr_at
addr_word row word addr h = rw h refl

parts_said : (draft : Drafted) (row : Row) (id : IfaceId) (iface : Iface) (vrf site addr : List ℕ) (c d e f : ℕ) → IsNewIface draft id iface vrf site
    → addr_of addr ≡ Some iface.addr
    → iface_parts draft row (at c iface.name) (at d vrf) (at e site) (at f addr) ≡ Ok iface
unfolding iface_parts
parts_said draft row id iface vrf site addr c d e f new h =
    rw (new_word draft row (at c iface.name) new.name new.free, new.in_vrf row d, new.in_site row e, addr_word row (at f addr) iface.addr h) refl

pub iface_said : (draft : Drafted) (row : Row) (id : IfaceId) (iface : Iface) (vrf site addr : List ℕ) (c d e f g : ℕ) → draft.begun ≡ false
    → IsNewIface draft id iface vrf site → addr_of addr ≡ Some iface.addr
    → words_line draft row (at c (codes "iface") ∷ at d iface.name ∷ at e vrf ∷ at f site ∷ at g addr ∷ []) ≡ Ok (says.Iface id iface)
unfolding scenario_line scenario_word scenario_words iface_line iface_counted iface_rules
iface_said draft row id iface vrf site addr c d e f g begun new h =
    in_scenario draft row (at c (codes "iface")) (at d iface.name ∷ at e vrf ∷ at f site ∷ at g addr ∷ []) (says.Iface id iface) begun
    (rw (new.few, parts_said draft row id iface vrf site addr d e f g new h, new.mixed, new.taken)
    (ap (λ (n : ℕ). Ok (says.Iface (record { 0 = n }) iface)) new.number))

-- ---- the end of the scenario

pub events_said : (draft : Drafted) (row : Row) (c : ℕ) → draft.begun ≡ false → is_connected (length draft.scenario.nodes) draft.scenario.links ≡ true
    → words_line draft row (at c (codes "events") ∷ []) ≡ Ok says.Events
unfolding scenario_line scenario_word scenario_words events_line
events_said draft row c begun h = in_scenario draft row (at c (codes "events")) [] says.Events begun (rw h refl)
