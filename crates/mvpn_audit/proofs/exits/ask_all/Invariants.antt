use Rattle.std.proofs.Common.{◌≡◌, take}
use Rattle.indexmap.specs.IndexMap.{get, IsUnique}
use Rattle.mvpn_audit.specs.declared.exits.Exit.{Exit}
use Rattle.mvpn_audit.specs.Exits.{is_exit, asked_if, asks, lacks_in}
use Rattle.mvpn_audit.proofs.exits.ask_all.Given as goal

abbrev pub invariant-loop-iface : goal.invariant-loop-iface
invariant-loop-iface l = record {
  each : (own : Exit) → get is_exit l.exits own ≡ asked_if (asks l.number (take l.iface-index l.asked) own) (get is_exit l.fn.exits own);
  lacking : l.lacks ≡ lacks_in l.fn.exits l.number (take l.iface-index l.asked);
  unique : IsUnique is_exit l.exits;
}
