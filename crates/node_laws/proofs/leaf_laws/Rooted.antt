-- The node of the address of a node is that node.
use Rattle.std.proofs.Common.{◌≡◌, ℕ, zero, suc, ◌+◌, ◌<◌, Bool, true, false, not, cond, nat_lt, List, [], ◌∷◌, length, map, slice_get, option_map, Some, None, refl, sym, ap, subst, ◌∙◌, arith}
use Rattle.std.specs.List.{position_or_len}
use Rattle.std.proofs.lemmas.Bool.{lt-ltb}
use Rattle.std.proofs.lemmas.List.{length-map}
use Rattle.std.proofs.lemmas.Option.{none-some, same_Some}
use Rattle.mv_base.specs.Address.{same_addr, same_addr_equiv, IsAddr}
use Rattle.mv_base.specs.declared.addr.Addr.{Addr}
use Rattle.mv_base.specs.declared.addr.Addr.TheVariants.{V4, V6}
use Rattle.mv_base.specs.declared.ids.NodeId.{NodeId}
use Rattle.scenario_defs.specs.Rules.{IsIpv4, Rules}
use Rattle.scenario_defs.specs.declared.scenario.Node.{Node}
use Rattle.scenario_defs.specs.declared.scenario.Scenario.{Scenario}
use Rattle.scenario_defs.proofs.RuleLemmas.{all_at, pair_at}
use Rattle.label_defs.specs.Node.{node_at}
use Rattle.edge_defs.proofs.choice_defs.HashLemmas.{some_place}
use Rattle.edge_defs.specs.Place.{addr_of}
use Rattle.edge_words.proofs.Known.{addr_at}

abbrev addrs_of : List Node → List Addr
addrs_of nodes = map (λ node. node.addr) nodes

-- ---- the first one of an address

-- where it stands at a place, and at none before
place_is : (root : Addr) (nodes : List Node) (k : ℕ) (node : Node) → slice_get nodes k ≡ Some node → same_addr node.addr root ≡ true
    → ((j : ℕ) (other : Node) → j < k → slice_get nodes j ≡ Some other → same_addr other.addr root ≡ false)
    → position_or_len (λ own. same_addr own root) (addrs_of nodes) ≡ k
place_is root [] k node at is before = absurd (none-some node at)
place_is root (first ∷ more) zero node at is before =
    let here : same_addr first.addr root ≡ true = ap (λ (n : Node). same_addr n.addr root) (same_Some first node at) ∙ is in
    ap (λ (b : Bool). cond (not b) (1 + position_or_len (λ own. same_addr own root) (addrs_of more)) 0) here
place_is root (first ∷ more) (suc k) node at is before =
    let rest = place_is root more k node at is (λ j other below e. before (suc j) other (omega (arith, below)) e) in
    ap (λ (b : Bool). cond (not b) (1 + position_or_len (λ own. same_addr own root) (addrs_of more)) 0) (before zero first (omega arith) refl)
    ∙ omega (arith, rest)

abbrev numbered : ℕ → NodeId
numbered number = record { 0 = number }

found_at : (index count : ℕ) (node : NodeId) → index ≡ node.0 → node.0 < count
    → option_map numbered (cond (nat_lt index count) (Some index) None) ≡ Some node
found_at index count node is below =
    ap (λ (b : Bool). option_map numbered (cond b (Some index) None)) (lt-ltb index count (omega (arith, is, below)))
    ∙ (λ i. Some (record { 0 = is i }))

-- ---- nodes of a scenario

module _ (scenario : Scenario) (rules : Rules scenario) (number : NodeId) (below : number.0 < length scenario.nodes) where
  pub rooted : node_at (addrs_of scenario.nodes) (addr_of scenario number) ≡ Some number
  rooted =
      let found = some_place scenario.nodes number.0 below in
      let addr = addr_at scenario number found.0 found.1 in
      let place = place_is found.0.addr scenario.nodes number.0 found.0 found.1 (same_addr_equiv.refl found.0.addr)
      (λ j other before at. pair_at (λ (x : Node) (y : Node). same_addr x.addr y.addr ≡ false) scenario.nodes rules.core.addresses j number.0 other
      found.0 before at found.1) in
      ap (node_at (addrs_of scenario.nodes)) addr
      ∙ found_at (position_or_len (λ own. same_addr own found.0.addr) (addrs_of scenario.nodes)) (length (addrs_of scenario.nodes)) number place
      (subst (λ (n : ℕ). number.0 < n) (sym (length-map scenario.nodes (λ (node : Node). node.addr))) below)

  pub addressed : IsAddr (addr_of scenario number)
  addressed =
      let found = some_place scenario.nodes number.0 below in
      subst IsAddr (sym (addr_at scenario number found.0 found.1))
      (ipv4 found.0.addr (all_at (λ (node : Node). IsIpv4 node.addr) scenario.nodes rules.core.ipv4 number.0 found.0 found.1))
    where
      ipv4 : (addr : Addr) → IsIpv4 addr → IsAddr addr
      ipv4 (V4 octets) h = h
      ipv4 (V6 octets) h = absurd h
