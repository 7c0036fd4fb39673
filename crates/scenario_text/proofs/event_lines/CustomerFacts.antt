-- What a line of an event of a VRF, an interface or a site keeps to where it is without fault.
use Rattle.std.proofs.Common.{◌≡◌, ◌<◌, ◌≤◌, true, List, [], ◌∷◌, length, Option, Some, None}
use Rattle.std.specs.Prelude.{IfSome, Result}
use Rattle.std.specs.List.{AllByRecursion}
use Rattle.mv_base.specs.declared.addr.Addr.{Addr}
use Rattle.mv_base.specs.declared.ids.IfaceId.{IfaceId}
use Rattle.mv_base.specs.declared.ids.VrfId.{VrfId}
use Rattle.mv_base.specs.declared.pattern.Pattern.{Pattern}
use Rattle.scenario_defs.specs.declared.scenario.Scenario.{Scenario}
use Rattle.scenario_defs.specs.declared.event.IfaceEntry.{IfaceEntry}
use Rattle.scenario_defs.specs.declared.event.JoinEntry.{JoinEntry}
use Rattle.scenario_defs.specs.declared.event.JoinEntry.TheVariants as entries
use Rattle.scenario_defs.specs.Rules.{IsUnicast, IsGroup, AreOfOneFamily, NamesFlow, IsEntry, group_of, IsOfIface, IsPattern, IsEventOf}
use Rattle.line_words.specs.declared.fault.TextFault.{TextFault}
use Rattle.line_words.specs.declared.words.Row.{Row}
use Rattle.line_words.specs.Words.{Placed}
use Rattle.line_words.specs.Forms.{source_at, group_at, payload_at, same_family}
use Rattle.scenario_lines.specs.scenario_draft.Drafted.{Drafted}
use Rattle.scenario_lines.specs.scenario_draft.Naming.{iface_at, site_at, vrf_at}
use Rattle.scenario_lines.proofs.scenario_draft.WordFacts.{Meets, ok_meets, err_meets, bind_meets, then_meets, either_meets, iface_meets, site_meets, vrf_meets, source_meets, group_meets, names_flow, one_family, of_iface, payload_meets}
use Rattle.scenario_text.specs.declared.event_lines.join_lines.EntryWord.{EntryWord}
use Rattle.scenario_text.specs.declared.event_lines.join_lines.EntryWord.TheVariants as entry_kinds
use Rattle.scenario_text.specs.declared.event_lines.flow_lines.FlowWord.{FlowWord}
use Rattle.scenario_text.specs.declared.event_lines.flow_lines.FlowWord.TheVariants as flow_kinds
use Rattle.scenario_text.specs.declared.event_lines.select_lines.SelectWord.{SelectWord}
use Rattle.scenario_text.specs.declared.event_lines.select_lines.SelectWord.TheVariants as select_kinds
use Rattle.scenario_text.specs.event_lines.JoinGrammar.{entry_event, star_entry, source_entry, if_rpt, rpt_entry, entry_at, at_iface, three_words, four_words, iface_entry, entry_line}
use Rattle.scenario_text.specs.event_lines.FlowGrammar.{flow_event, flow_words, flow_line}
use Rattle.scenario_text.specs.event_lines.SelectGrammar.{select_event, any_or, pattern_at, select_words, select_line}
use Rattle.scenario_text.specs.event_lines.PayloadGrammar.{pim_words, pim_line, packet_words, packet_line, send_head, send_words, send_line}
use Rattle.scenario_text.specs.event_lines.Rules.{is_flow_of, is_entry_of, is_of_family, family_fault}
use Rattle.scenario_text.proofs.event_lines.RuleFacts.{IsTold, unless_meets, kept_family, flow_of}

-- ---- joins and prunes

-- Source and group of an entry are what their words may write.
abbrev AreOfEntry : JoinEntry → Type 0
AreOfEntry (entries.Star group) = IsGroup group
AreOfEntry (entries.Source source group) = IsUnicast source × IsGroup group
AreOfEntry (entries.Rpt source group) = IsUnicast source × IsGroup group

star_entry_meets : (row : Row) (c : Placed) → Meets AreOfEntry (star_entry row c)
unfolding star_entry
star_entry_meets row c = bind_meets _ (group_at row c) _ (λ group g. ok_meets AreOfEntry (entries.Star group) ((group_meets row c).holds group g))

source_entry_meets : (row : Row) (b c : Placed) → Meets AreOfEntry (source_entry row b c)
unfolding source_entry
source_entry_meets row b c =
    bind_meets _ (source_at row b) _ (λ source s. bind_meets _ (group_at row c) _ (λ group g.
    ok_meets AreOfEntry (entries.Source source group) ((source_meets row b).holds source s, (group_meets row c).holds group g)))

if_rpt_meets : (row : Row) (d : Placed) (entry : JoinEntry) → AreOfEntry entry → Meets AreOfEntry (if_rpt row d entry)
unfolding if_rpt
if_rpt_meets row d entry h = then_meets _ _ _ _ (λ _. ok_meets _ entry h)

rpt_entry_meets : (row : Row) (b c d : Placed) → Meets AreOfEntry (rpt_entry row b c d)
unfolding rpt_entry
rpt_entry_meets row b c d =
    bind_meets _ (source_at row b) _ (λ source s. bind_meets _ (group_at row c) _ (λ group g.
    if_rpt_meets row d (entries.Rpt source group) ((source_meets row b).holds source s, (group_meets row c).holds group g)))

entry_meets : (row : Row) (b c : Placed) → Meets AreOfEntry (entry_at row b c)
unfolding entry_at
entry_meets row b c = either_meets _ _ _ _ (star_entry_meets row c) (source_entry_meets row b c)

-- a flow whose families agree
flow_is : (source group : Addr) → IsUnicast source → IsGroup group → same_family source group ≡ true → NamesFlow source group
flow_is source group s g h = record { unicast = s; multicast = g; family = one_family source group h }

-- The entry is one, of the interface's family.
entry_is : (draft : Drafted) (iface : IfaceId) (entry : JoinEntry) → AreOfEntry entry → is_entry_of draft iface entry ≡ true
    → IsEntry entry × IsOfIface draft.scenario iface (group_of entry)
entry_is draft iface (entries.Star group) h kept = (h, of_iface draft iface group kept)
entry_is draft iface (entries.Source source group) h kept = let own = flow_of draft iface source group kept in
    (flow_is source group h.0 h.1 own.0, own.1)
entry_is draft iface (entries.Rpt source group) h kept = let own = flow_of draft iface source group kept in
    (flow_is source group h.0 h.1 own.0, own.1)

-- The interface is one of the scenario, and the entry is of its family.
abbrev IsNamed : Drafted → IfaceEntry → Type 0
IsNamed draft named =
    (named.iface.0 < length draft.scenario.ifaces) × IsEntry named.entry × IsOfIface draft.scenario named.iface (group_of named.entry)

at_iface_meets : (draft : Drafted) (row : Row) (c : Placed) (iface : IfaceId) (entry : JoinEntry) → iface.0 < length draft.scenario.ifaces
    → AreOfEntry entry → Meets (IsNamed draft) (at_iface draft row c iface entry)
at_iface_meets draft row c iface entry i e =
    unless_meets (IsNamed draft) (family_fault (is_entry_of draft iface entry)) row c (record { iface = iface; entry = entry }) (λ kept.
    let own = entry_is draft iface entry e (kept_family (is_entry_of draft iface entry) kept) in
    (i, own.0, own.1))

three_words_meets : (draft : Drafted) (row : Row) (a b c : Placed) → Meets (IsNamed draft) (three_words draft row a b c)
three_words_meets draft row a b c =
    bind_meets _ (iface_at draft row a) _ (λ iface i. bind_meets _ (entry_at row b c) _ (λ entry e.
    at_iface_meets draft row c iface entry ((iface_meets draft row a).holds iface i) ((entry_meets row b c).holds entry e)))

four_words_meets : (draft : Drafted) (row : Row) (a b c d : Placed) → Meets (IsNamed draft) (four_words draft row a b c d)
four_words_meets draft row a b c d =
    bind_meets _ (iface_at draft row a) _ (λ iface i. bind_meets _ (rpt_entry row b c d) _ (λ entry e.
    at_iface_meets draft row c iface entry ((iface_meets draft row a).holds iface i) ((rpt_entry_meets row b c d).holds entry e)))

iface_entry_meets : (draft : Drafted) (row : Row) (words : List Placed) → Meets (IsNamed draft) (iface_entry draft row words)
unfolding iface_entry
iface_entry_meets draft row [] = err_meets _ _
iface_entry_meets draft row (a ∷ []) = err_meets _ _
iface_entry_meets draft row (a ∷ b ∷ []) = err_meets _ _
iface_entry_meets draft row (a ∷ b ∷ c ∷ []) = three_words_meets draft row a b c
iface_entry_meets draft row (a ∷ b ∷ c ∷ d ∷ []) = four_words_meets draft row a b c d
iface_entry_meets draft row (a ∷ b ∷ c ∷ d ∷ e ∷ more) = err_meets _ _

entry_event_is : (draft : Drafted) (word : EntryWord) (named : IfaceEntry) → IsNamed draft named → IsEventOf draft.scenario (entry_event word named)
entry_event_is draft entry_kinds.Join named h = h
entry_event_is draft entry_kinds.Prune named h = h

pub entry_line_meets : (draft : Drafted) (row : Row) (word : EntryWord) (words : List Placed) → Meets (IsTold draft) (entry_line draft row word words)
unfolding entry_line
entry_line_meets draft row word words =
    bind_meets _ (iface_entry draft row words) _
    (λ named n. ok_meets _ _ (entry_event_is draft word named ((iface_entry_meets draft row words).holds named n)))

-- ---- sources

flow_event_is : (scenario : Scenario) (word : FlowWord) (iface : IfaceId) (source group : Addr)
    → (iface.0 < length scenario.ifaces) × NamesFlow source group × IsOfIface scenario iface group
    → IsEventOf scenario (flow_event word iface source group)
flow_event_is scenario flow_kinds.Active iface source group h = h
flow_event_is scenario other iface source group h = h

flow_words_meets : (draft : Drafted) (row : Row) (word : FlowWord) (a b c : Placed) → Meets (IsTold draft) (flow_words draft row word a b c)
unfolding flow_words
flow_words_meets draft row word a b c =
    bind_meets _ (iface_at draft row a) _ (λ iface i. bind_meets _ (source_at row b) _ (λ source s. bind_meets _ (group_at row c) _ (λ group g.
    unless_meets _ (family_fault (is_flow_of draft iface source group)) row c _ (λ kept.
    let own = flow_of draft iface source group (kept_family (is_flow_of draft iface source group) kept) in
    flow_event_is draft.scenario word iface source group
    ((iface_meets draft row a).holds iface i, names_flow row b c source group s g own.0, own.1)))))

pub flow_line_meets : (draft : Drafted) (row : Row) (word : FlowWord) (words : List Placed) → Meets (IsTold draft) (flow_line draft row word words)
unfolding flow_line
flow_line_meets draft row word [] = err_meets _ _
flow_line_meets draft row word (a ∷ []) = err_meets _ _
flow_line_meets draft row word (a ∷ b ∷ []) = err_meets _ _
flow_line_meets draft row word (a ∷ b ∷ c ∷ []) = flow_words_meets draft row word a b c
flow_line_meets draft row word (a ∷ b ∷ c ∷ d ∷ more) = err_meets _ _

-- ---- selections

any_meets : (Holds : Addr → Type 0) (word : Placed) (addr : Result Addr TextFault) → Meets Holds addr
    → Meets (λ found. IfSome found Holds) (any_or word addr)
unfolding any_or
any_meets Holds word addr meets =
    either_meets _ _ _ _ (ok_meets (λ found. IfSome found Holds) None tt)
    (bind_meets _ addr _ (λ found s. ok_meets (λ found. IfSome found Holds) (Some found) (meets.holds found s)))

-- Source and group of a pattern are what their words may write.
abbrev AreOfPattern : Pattern → Type 0
AreOfPattern pattern = IfSome pattern.source IsUnicast × IfSome pattern.group IsGroup

pattern_meets : (row : Row) (b c : Placed) → Meets AreOfPattern (pattern_at row b c)
unfolding pattern_at
pattern_meets row b c =
    bind_meets _ (any_or b (source_at row b)) _ (λ source s. bind_meets _ (any_or c (group_at row c)) _ (λ group g.
    ok_meets AreOfPattern (record { source = source; group = group })
    ((any_meets IsUnicast b _ (source_meets row b)).holds source s, (any_meets IsGroup c _ (group_meets row c)).holds group g)))

families : (source group : Option Addr) → is_of_family (record { source = source; group = group }) ≡ true
    → IfSome source (λ s. IfSome group (λ g. AreOfOneFamily s g))
families (Some source) (Some group) h = one_family source group h
families (Some source) None h = tt
families None group h = tt

select_event_is : (scenario : Scenario) (word : SelectWord) (vrf : VrfId) (pattern : Pattern) → (vrf.0 < length scenario.vrfs) × IsPattern pattern
    → IsEventOf scenario (select_event word vrf pattern)
select_event_is scenario select_kinds.Select vrf pattern h = h
select_event_is scenario select_kinds.Unselect vrf pattern h = h

select_words_meets : (draft : Drafted) (row : Row) (word : SelectWord) (a b c : Placed) → Meets (IsTold draft) (select_words draft row word a b c)
unfolding select_words
select_words_meets draft row word a b c =
    bind_meets _ (vrf_at draft row a) _ (λ vrf v. bind_meets _ (pattern_at row b c) _ (λ pattern p.
    unless_meets _ (family_fault (is_of_family pattern)) row c _ (λ kept.
    let own = (pattern_meets row b c).holds pattern p in
    let family = families pattern.source pattern.group (kept_family (is_of_family pattern) kept) in
    select_event_is draft.scenario word vrf pattern
    ((vrf_meets draft row a).holds vrf v, record { source = own.0; group = own.1; family = family }))))

pub select_line_meets : (draft : Drafted) (row : Row) (word : SelectWord) (words : List Placed)
    → Meets (IsTold draft) (select_line draft row word words)
unfolding select_line
select_line_meets draft row word [] = err_meets _ _
select_line_meets draft row word (a ∷ []) = err_meets _ _
select_line_meets draft row word (a ∷ b ∷ []) = err_meets _ _
select_line_meets draft row word (a ∷ b ∷ c ∷ []) = select_words_meets draft row word a b c
select_line_meets draft row word (a ∷ b ∷ c ∷ d ∷ more) = err_meets _ _

-- ---- octets

-- Words are no longer than the line.
abbrev pub AreShort : List Placed → Type 0
AreShort words = AllByRecursion (λ w. length w.text ≤ 4096) words

pim_words_meets : (draft : Drafted) (row : Row) (a b : Placed) → length b.text ≤ 4096 → Meets (IsTold draft) (pim_words draft row a b)
unfolding pim_words
pim_words_meets draft row a b short =
    bind_meets _ (iface_at draft row a) _ (λ iface i. bind_meets _ (payload_at row b) _ (λ bytes p.
    ok_meets _ _ ((iface_meets draft row a).holds iface i, (payload_meets row b short).holds bytes p)))

pub pim_line_meets : (draft : Drafted) (row : Row) (words : List Placed) → AreShort words → Meets (IsTold draft) (pim_line draft row words)
unfolding pim_line
pim_line_meets draft row [] h = err_meets _ _
pim_line_meets draft row (a ∷ []) h = err_meets _ _
pim_line_meets draft row (a ∷ b ∷ []) h = pim_words_meets draft row a b (h.1.0)
pim_line_meets draft row (a ∷ b ∷ c ∷ more) h = err_meets _ _

packet_words_meets : (draft : Drafted) (row : Row) (a b : Placed) → length b.text ≤ 4096 → Meets (IsTold draft) (packet_words draft row a b)
unfolding packet_words
packet_words_meets draft row a b short =
    bind_meets _ (site_at draft row a) _ (λ site i. bind_meets _ (payload_at row b) _ (λ bytes p.
    ok_meets _ _ ((site_meets draft row a).holds site i, (payload_meets row b short).holds bytes p)))

pub packet_line_meets : (draft : Drafted) (row : Row) (words : List Placed) → AreShort words → Meets (IsTold draft) (packet_line draft row words)
unfolding packet_line
packet_line_meets draft row [] h = err_meets _ _
packet_line_meets draft row (a ∷ []) h = err_meets _ _
packet_line_meets draft row (a ∷ b ∷ []) h = packet_words_meets draft row a b (h.1.0)
packet_line_meets draft row (a ∷ b ∷ c ∷ more) h = err_meets _ _

send_head_meets : (draft : Drafted) (row : Row) (a b c : Placed)
    → Meets (λ head. (head.site.0 < length draft.scenario.sites) × IsUnicast head.source × IsGroup head.group) (send_head draft row a b c)
unfolding send_head
send_head_meets draft row a b c =
    bind_meets _ (site_at draft row a) _ (λ site i. bind_meets _ (source_at row b) _ (λ source s. bind_meets _ (group_at row c) _ (λ group g.
    ok_meets _ _ ((site_meets draft row a).holds site i, (source_meets row b).holds source s, (group_meets row c).holds group g))))

send_words_meets : (draft : Drafted) (row : Row) (a b c d : Placed) → length d.text ≤ 4096 → Meets (IsTold draft) (send_words draft row a b c d)
send_words_meets draft row a b c d short =
    bind_meets _ (send_head draft row a b c) _ (λ head h. bind_meets _ (payload_at row d) _ (λ payload p.
    unless_meets _ (family_fault (same_family head.source head.group)) row c _ (λ kept.
    let own = (send_head_meets draft row a b c).holds head h in
    let flow = flow_is head.source head.group own.1 own.2 (kept_family (same_family head.source head.group) kept) in
    (own.0, flow, (payload_meets row d short).holds payload p))))

pub send_line_meets : (draft : Drafted) (row : Row) (words : List Placed) → AreShort words → Meets (IsTold draft) (send_line draft row words)
unfolding send_line
send_line_meets draft row [] h = err_meets _ _
send_line_meets draft row (a ∷ []) h = err_meets _ _
send_line_meets draft row (a ∷ b ∷ []) h = err_meets _ _
send_line_meets draft row (a ∷ b ∷ c ∷ []) h = err_meets _ _
send_line_meets draft row (a ∷ b ∷ c ∷ d ∷ []) h = send_words_meets draft row a b c d (h.1.1.1.0)
send_line_meets draft row (a ∷ b ∷ c ∷ d ∷ e ∷ more) h = err_meets _ _
