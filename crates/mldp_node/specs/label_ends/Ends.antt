-- The ends of a node's LDP sessions, and the octets that wait for its neighbours.
use Rattle.std.specs.Prelude.{ℕ, List, [], ◌∷◌, ◌++◌, map, refl, Option, None, Some}
use Rattle.std.specs.Coded.{Coded, code_by, coded×, coded_list, coded_ℕ}
use Rattle.std.specs.FinMap as maps
use Rattle.std.specs.FinMap.{FinMap}
use Rattle.mv_base.specs.declared.addr.Addr.{Addr}
use Rattle.mv_base.specs.declared.ids.NodeId.{NodeId}
use Rattle.mv_base.specs.contracts.ids.NodeId as nodes
use Rattle.mldp.specs.mldp_msgs.Spelling as pdus
use Rattle.label_defs.specs.declared.end.End.{End}
use Rattle.label_defs.specs.contracts.end.End as ends
use Rattle.label_defs.specs.declared.put.Put.{Put}
use Rattle.label_defs.specs.Keys.{node_cmp}
use Rattle.label_defs.specs.Node.{raises_of, waiting_for, one_more}
use Rattle.label_defs.specs.Steps.{raised_end, told}

-- The ends that are up; how often the end of each session came up; the octets that wait for each neighbour.
pub record Ends : Type 0 where
  pub up : FinMap node_cmp End
  pub raises : FinMap node_cmp ℕ
  pub waiting : FinMap node_cmp (List ℕ)

abbrev pub ends_code : Coded Ends
ends_code = code_by (FinMap node_cmp End × (FinMap node_cmp ℕ × FinMap node_cmp (List ℕ)))
    (coded× (maps.code nodes.the_row.coded ends.the_row.coded)
    (coded× (maps.code nodes.the_row.coded coded_ℕ) (maps.code nodes.the_row.coded (coded_list coded_ℕ))))
    (λ e. (e.up, (e.raises, e.waiting))) (λ p. record { up = p.0; raises = p.1.0; waiting = p.1.1 }) (λ _. refl)

-- no end came up yet
abbrev pub all_down : Ends
all_down = record { up = maps.empty; raises = maps.empty; waiting = maps.empty }

-- the end of the session with the neighbour comes up
abbrev pub with_raise : NodeId → ℕ → Ends → Ends
with_raise peer now old = record old {
  up = maps.insert old.up peer (raised_end now);
  raises = maps.insert old.raises peer (one_more (raises_of old.raises peer));
}

-- its loss is noticed
abbrev pub without_end : NodeId → Ends → Ends
without_end peer old = record old { up = maps.remove old.up peer; waiting = maps.remove old.waiting peer }

-- the message is told over that end, with its next id, in a PDU of its own
abbrev pub told_over : Addr → Ends → Put → End → Ends
told_over addr old put end = record old {
  up = maps.insert old.up put.to (told end);
  waiting = maps.insert old.waiting put.to (waiting_for old.waiting put.to ++ pdus.written addr end.next put.message);
}

-- the message is told, where its end is up
abbrev pub with_put : Addr → Ends → Put → Ends
with_put addr old put = elim (maps.get old.up put.to) [ None ↦ old | Some end ↦ told_over addr old put end ]

-- the messages are told one after another
abbrev pub with_puts : Addr → Ends → List Put → Ends
with_puts addr old [] = old
with_puts addr old (put ∷ more) = with_puts addr (with_put addr old put) more
