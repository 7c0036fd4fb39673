-- What contracts see of the datagrams on the links of a network.
use Rattle.std.specs.Prelude.{ℕ, List, refl}
use Rattle.std.specs.Coded.{Coded, code_by, coded×, coded_list, coded_ℕ}
use Rattle.data_plane.specs.link_copies.CopiesData.{CopiesData, copies_code}
use Rattle.data_plane.specs.declared.link_copies.hop.Hop.{Hop}
use Rattle.data_plane.specs.contracts.link_copies.hop.Hop as hops

-- The copies on links with their buffers, how many datagrams were accepted, and the hops on which the one that is being sent is still
-- to go.
pub record DatagramsView : Type 0 where
  pub copies : CopiesData
  pub count : ℕ
  pub hops : List Hop

-- the code, by which one is told from another
abbrev pub view_code : Coded DatagramsView
view_code = code_by (CopiesData × (ℕ × List Hop)) (coded× copies_code (coded× coded_ℕ (coded_list hops.the_row.coded)))
    (λ v. (v.copies, (v.count, v.hops))) (λ p. record { copies = p.0; count = p.1.0; hops = p.1.1 }) (λ _. refl)
