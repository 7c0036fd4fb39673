-- A place of a VRF: what is said of keys for every place is so at this one.
use Rattle.std.proofs.Common.{true, [], ◌∷◌, None, refl}
use Rattle.mv_base.specs.declared.addr.Addr.TheVariants.{V4}
use Rattle.edge_defs.specs.Place.{EdgePlace}
use Rattle.edge_routes.specs.Local.{IsAt, Local}

-- a place with one node, of the address that the VRF says
abbrev pub place_for : Local → EdgePlace
place_for own = record {
  scenario = record {
    life = 1;
    delay = 1;
    labels = 1;
    system = own.system;
    nodes = record { name = []; addr = V4 own.addr; edge = true } ∷ [];
    links = [];
    vrfs = [];
    sites = [];
    ifaces = [];
  };
  core = record { cost = λ from to. 0; toward = λ from to. None };
  me = record { 0 = 0 };
}

pub is_at : (own : Local) → IsAt (place_for own) own
is_at own = record { addr = refl; system = refl }
