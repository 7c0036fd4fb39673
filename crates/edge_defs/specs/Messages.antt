-- The changes of tables as UPDATE messages make them (RFC 4271 section 4.3).
use Rattle.bgp_messages.specs.declared.bgp_attributes.key.Key.{Key}
use Rattle.bgp_messages.specs.declared.bgp_attributes.update.Change as updates
use Rattle.bgp_messages.specs.declared.bgp_attributes.update.Change.TheVariants as update_changes
use Rattle.mv_base.specs.declared.table_defs.change.Change.{Change}
use Rattle.mv_base.specs.declared.table_defs.change.Change.TheVariants.{Reach, Unreach}
use Rattle.edge_defs.specs.Keys.{Value}

-- a change of a table, as one that an UPDATE message makes
abbrev pub as_update : Change Key Value → updates.Change
as_update (Reach key value) = update_changes.Reach (record { key = key; next_hop = value.next_hop; comms = value.comms; pmsi = value.pmsi })
as_update (Unreach key) = update_changes.Unreach key
