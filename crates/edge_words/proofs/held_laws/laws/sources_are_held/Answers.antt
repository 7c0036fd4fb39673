use Rattle.edge_words.proofs.held_laws.Calls.{noted, unnoted, unnoted_beside}
use Rattle.edge_words.proofs.held_laws.laws.sources_are_held.Goals as goal

pub returns : goal.returns
returns c = record {
  noted = λ place control peer own iface source group rules a of. noted place rules peer control own a iface source group of;
  last = λ place control peer own iface source group rules a of none. unnoted place rules peer control own a iface source group of none;
  beside = λ place control peer own iface source group rules a of beside. unnoted_beside place rules peer control own a iface source group of beside;
}
