-- The place of a node of a scenario is that of a label node.
use Rattle.std.proofs.Common.{◌≡◌, refl, sym, ap, ℕ, ◌+◌, not, ◌||◌, ◌&&◌, Bool, List, [], ◌∷◌, map, slice_get, zero, suc, length, cond, nat_lt, position, option_map, Option, None, Some}
use Rattle.std.specs.List.{list_any, position_or_len}
use Rattle.mv_base.specs.Address.{same_addr}
use Rattle.mv_base.specs.Number.{◌>>?◌}
use Rattle.mv_base.specs.declared.addr.Addr.{Addr}
use Rattle.mv_base.specs.declared.addr.Addr.TheVariants.{V4}
use Rattle.mv_base.specs.declared.ids.NodeId.{NodeId}
use Rattle.mv_base.specs.core_walks.Core.{Core}
use Rattle.scenario_defs.specs.declared.scenario.Node.{Node}
use Rattle.scenario_defs.specs.declared.scenario.Scenario.{Scenario}
use Rattle.label_defs.specs.Node.{is_p2mp, addr_in, place_in}
use Rattle.edge_defs.specs.Place.{addr_of, label_place}
use Rattle.node_laws.specs.Places.{node_place}

abbrev addr_at : Node → Addr
addr_at node = node.addr

any_mapped : (addr : Addr) (nodes : List Node)
    → list_any (λ own. same_addr own addr) (map addr_at nodes) ≡ list_any (λ node. same_addr node.addr addr) nodes
any_mapped addr [] = refl
any_mapped addr (node ∷ more) = ap (λ (b : Bool). same_addr node.addr addr || b) (any_mapped addr more)

index_mapped : (addr : Addr) (nodes : List Node)
    → position_or_len (λ own. same_addr own addr) (map addr_at nodes) ≡ position_or_len (λ node. same_addr node.addr addr) nodes
index_mapped addr [] = refl
index_mapped addr (node ∷ more) = ap (λ (n : ℕ). cond (not (same_addr node.addr addr)) (1 + n) 0) (index_mapped addr more)

length_mapped : (nodes : List Node) → length (map addr_at nodes) ≡ length nodes
length_mapped [] = refl
length_mapped (node ∷ more) = ap suc (length_mapped more)

position_mapped : (addr : Addr) (nodes : List Node)
    → position (λ own. same_addr own addr) (map addr_at nodes) ≡ position (λ node. same_addr node.addr addr) nodes
position_mapped addr nodes = λ i. cond (nat_lt (index_mapped addr nodes i) (length_mapped nodes i)) (Some (index_mapped addr nodes i)) None

abbrev addr_or : Option Addr → Addr
addr_or None = V4 []
addr_or (Some addr) = addr

abbrev addr_of_node : Option Node → Addr
addr_of_node None = V4 []
addr_of_node (Some node) = node.addr

get_mapped : (nodes : List Node) (number : ℕ) → addr_or (slice_get (map addr_at nodes) number) ≡ addr_of_node (slice_get nodes number)
get_mapped [] number = refl
get_mapped (node ∷ more) zero = refl
get_mapped (node ∷ more) (suc number) = get_mapped more number

pub one_place : (scenario : Scenario) (core : Core) (me : NodeId) → label_place scenario core me ≡ place_in (node_place scenario me) core
one_place scenario core me = λ i. record {
  life = scenario.life;
  is_tree = λ fec. is_p2mp fec.kind && sym (any_mapped fec.root scenario.nodes) i;
  upstream = λ fec. option_map (λ number. record { 0 = number }) (sym (position_mapped fec.root scenario.nodes) i) >>? λ root. core.toward me root;
}

pub one_addr : (scenario : Scenario) (me : NodeId) → addr_of scenario me ≡ addr_in (node_place scenario me)
one_addr scenario me = sym (get_mapped scenario.nodes me.0)
