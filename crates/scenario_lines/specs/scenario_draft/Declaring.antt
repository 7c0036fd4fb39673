-- What a line of the scenario keeps to, given what the lines before it declared: the rules of a scenario, said of the one thing
-- that the line declares and of each that is there.
use Rattle.std.specs.Prelude.{◌≡◌, ℕ, ◌≤◌, ◌<◌, true, false, List, length, All, count_by}
use Rattle.mv_base.specs.declared.core_link.Link.{Link}
use Rattle.mv_base.specs.Address.{same_addr}
use Rattle.mv_base.specs.core_walks.Topology.{HasEnds, HasCost, JoinsSamePair, IsConnected}
use Rattle.scenario_defs.specs.declared.scenario.Node.{Node}
use Rattle.scenario_defs.specs.declared.scenario.Vrf.{Vrf}
use Rattle.scenario_defs.specs.declared.scenario.Site.{Site}
use Rattle.scenario_defs.specs.declared.scenario.Iface.{Iface}
use Rattle.scenario_defs.specs.declared.scenario.Scenario.{Scenario}
use Rattle.scenario_defs.specs.Names.{is_name}
use Rattle.scenario_defs.specs.Rules.{IsIpv4, IsUnicast, IsVrf, AreApart, IsSite, IsIface, AreOfVpns}
use Rattle.scenario_lines.specs.declared.scenario_draft.line.Line.{Line}
use Rattle.scenario_lines.specs.declared.scenario_draft.line.Line.TheVariants as says
use Rattle.scenario_lines.specs.scenario_draft.Drafted.{Drafted}
use Rattle.scenario_lines.specs.scenario_draft.Settings.{highest, is_given}
use Rattle.scenario_lines.specs.scenario_draft.Adding.{IsFree}

-- The name has the form of one, and no thing has it.
abbrev pub IsNewName : Drafted → List ℕ → Type 0
IsNewName draft name = (is_name name ≡ true) × IsFree draft name

pub record MayBeNode (scenario : Scenario) (node : Node) : Type 0 where
  pub few : length scenario.nodes < 64
  pub few_edges : node.edge ≡ true → count_by (λ other. other.edge) scenario.nodes < 32
  pub ipv4 : IsIpv4 node.addr
  pub unicast : IsUnicast node.addr
  pub address : All (λ other. same_addr other.addr node.addr ≡ false) scenario.nodes

pub record MayBeLink (scenario : Scenario) (link : Link) : Type 0 where
  pub few : length scenario.links < 256
  pub ends : HasEnds (length scenario.nodes) link
  pub cost : HasCost link
  pub once : All (λ other. ¬ (JoinsSamePair other link)) scenario.links

pub record MayBeVrf (scenario : Scenario) (vrf : Vrf) : Type 0 where
  pub few : length scenario.vrfs < 256
  pub own : IsVrf scenario vrf
  pub apart : All (λ other. AreApart other vrf) scenario.vrfs

pub record MayBeSite (scenario : Scenario) (site : Site) : Type 0 where
  pub few : length scenario.sites < 512
  pub own : IsSite site

pub record MayBeIface (scenario : Scenario) (iface : Iface) : Type 0 where
  pub few : length scenario.ifaces < 1024
  pub own : IsIface scenario iface
  pub vpns : All (λ other. AreOfVpns scenario other iface) scenario.ifaces

-- A line of the scenario declares what may be declared, numbered as the next one, or ends it where the core is connected.
abbrev pub IsDeclared : Drafted → Line → Type 0
IsDeclared draft (says.Setting setting value) = (is_given draft.given setting ≡ false) × (1 ≤ value) × (value ≤ highest setting)
IsDeclared draft (says.Node id node) = (id.0 ≡ length draft.scenario.nodes) × IsNewName draft node.name × MayBeNode draft.scenario node
IsDeclared draft (says.Link link) = MayBeLink draft.scenario link
IsDeclared draft (says.Vrf id vrf) = (id.0 ≡ length draft.scenario.vrfs) × IsNewName draft vrf.name × MayBeVrf draft.scenario vrf
IsDeclared draft (says.Site id site) = (id.0 ≡ length draft.scenario.sites) × IsNewName draft site.name × MayBeSite draft.scenario site
IsDeclared draft (says.Iface id iface) =
    (id.0 ≡ length draft.scenario.ifaces) × IsNewName draft iface.name × MayBeIface draft.scenario iface
IsDeclared draft says.Events = IsConnected (length draft.scenario.nodes) draft.scenario.links
IsDeclared draft says.Blank = ⊥
IsDeclared draft (says.Event event) = ⊥
