-- The interfaces of the entries that may join a flow or its group are all that may ask for it.
use Rattle.std.proofs.Common.{◌≡◌, ℕ, ◌==◌, length, is_some, Bool, true, false, cond, ◌&&◌, ◌||◌, List, [], ◌∷◌, Option, None, Some, Result, Ok, Err, IfOk, arith, refl, sym, ap, ◌∙◌}
use Rattle.std.specs.List.{list_any}
use Rattle.std.proofs.lemmas.Bool.{or_left, or_right}
use Rattle.std.proofs.lemmas.Bool.Decides.{nat_tests}
use Rattle.mv_base.specs.declared.ids.IfaceId.{IfaceId}
use Rattle.mv_base.specs.declared.memory.NoMemory.{NoMemory}
use Rattle.scenario_defs.specs.declared.event.IfaceEntry.{IfaceEntry}
use Rattle.scenario_defs.specs.declared.event.JoinEntry.{JoinEntry}
use Rattle.scenario_defs.specs.declared.event.JoinEntry.TheVariants.{Star, Source, Rpt}
use Rattle.pim_defs.specs.declared.expiry.Expiry.{Expiry}
use Rattle.pim_defs.specs.Asking.{asks_by}
use Rattle.pim_defs.specs.Entries.{Entries, asks, expiry_at}
use Rattle.pim_state.specs.Plan.{is_at}
use Rattle.pim_state.proofs.MapLemmas.{at-equal, not_both}
use Rattle.vrf_words.specs.declared.tree_defs.flow.Flow.{Flow}
use Rattle.vrf_words.specs.declared.tree_defs.flow.SiteIface.{SiteIface}
use Rattle.vrf_flows.specs.Sight.{IsUnasked, asking_marked, asking_of, is_marked, marks_of}
use Rattle.vrf_flows.proofs.MarkLemmas.{is_among, is_named, unmarked}

-- ---- the interface of an entry is named

named_at : (listed : List IfaceEntry) (at : IfaceEntry) → list_any (is_at at) listed ≡ true → is_named listed at.iface ≡ true
named_at [] at h = absurd cc
named_at (e ∷ es) at h = by (is_at at e) refl h (named_at es at)
  where
    itself : (n : ℕ) → (n == n) ≡ true
    itself n = grind (arith, nat_tests)

    by : (b : Bool) → is_at at e ≡ b → (b || list_any (is_at at) es) ≡ true → (list_any (is_at at) es ≡ true → is_named es at.iface ≡ true)
        → is_named (e ∷ es) at.iface ≡ true
    by true s found rest =
        or_left _ (is_named es at.iface) (ap (λ (x : IfaceEntry). x.iface.0 == at.iface.0) (sym (at-equal at e s)) ∙ itself at.iface.0)
    by false s found rest = or_right (e.iface.0 == at.iface.0) _ (rest found)

-- the list has the entry where it is there
abbrev pub HasOwn : Entries → List IfaceEntry → JoinEntry → Type 0
HasOwn entries listed entry =
    (iface : IfaceId) → list_any (is_at (record { iface = iface; entry = entry })) listed ≡ is_some (expiry_at entries iface entry)

-- ---- the others do not ask

unlisted : (entries : Entries) (listed : List IfaceEntry) (iface : IfaceId) (entry : JoinEntry) → HasOwn entries listed entry
    → is_named listed iface ≡ false → expiry_at entries iface entry ≡ None
unlisted entries listed iface entry has n = by (expiry_at entries iface entry) refl
  where
    at : IfaceEntry
    at = record { iface = iface; entry = entry }

    by : (o : Option Expiry) → expiry_at entries iface entry ≡ o → expiry_at entries iface entry ≡ None
    by None e = e
    by (Some x) e =
        absurd (not_both (is_named listed iface) (named_at listed at (has iface ∙ ap (λ (o : Option Expiry). is_some o) e)) n)

neither : (a b : Bool) → (a || b) ≡ false → (a ≡ false) × (b ≡ false)
neither true b h = absurd cc
neither false b h = (refl, h)

silent : (entries : Entries) (joined shared : List IfaceEntry) (iface : IfaceId) (active : Bool) (clock : ℕ) (flow : Flow)
    → HasOwn entries joined (Source flow.source flow.group) → HasOwn entries shared (Star flow.group)
    → is_among joined shared iface ≡ false → asks entries iface flow.source flow.group active clock ≡ false
silent entries joined shared iface active clock flow own all n =
    let both = neither (is_named joined iface) (is_named shared iface) n in
    λ i. asks_by clock active (unlisted entries joined iface (Source flow.source flow.group) own both.0 i)
    (unlisted entries shared iface (Star flow.group) all both.1 i)
    (expiry_at entries iface (Rpt flow.source flow.group))

marked_all : (joined shared : List IfaceEntry) (ifaces : List SiteIface) (entries : Entries) (active : Bool) (clock : ℕ) (flow : Flow)
    → HasOwn entries joined (Source flow.source flow.group) → HasOwn entries shared (Star flow.group)
    → asking_marked (marks_of joined shared) ifaces entries active clock flow ≡ asking_of ifaces entries active clock flow
marked_all joined shared [] entries active clock flow own all = refl
marked_all joined shared (first ∷ ifaces) entries active clock flow own all =
    by (is_marked (marks_of joined shared) first.iface) refl (marked_all joined shared ifaces entries active clock flow own all)
  where
    asking : Bool
    asking = asks entries first.iface flow.source flow.group active clock

    by : (b : Bool) → is_marked (marks_of joined shared) first.iface ≡ b
        → asking_marked (marks_of joined shared) ifaces entries active clock flow ≡ asking_of ifaces entries active clock flow
        → cond (is_marked (marks_of joined shared) first.iface && asking)
        (first ∷ asking_marked (marks_of joined shared) ifaces entries active clock flow)
        (asking_marked (marks_of joined shared) ifaces entries active clock flow)
        ≡ cond asking (first ∷ asking_of ifaces entries active clock flow) (asking_of ifaces entries active clock flow)
    by true n rest = λ i. cond (n i && asking) (first ∷ rest i) (rest i)
    by false n rest =
        (λ i. cond (n i && asking) (first ∷ rest i) (rest i))
        ∙ sym (ap (λ (b : Bool). cond b (first ∷ asking_of ifaces entries active clock flow) (asking_of ifaces entries active clock flow))
        (silent entries joined shared first.iface active clock flow own all (unmarked joined shared first.iface n)))

-- so those that have a mark and ask are all that ask
pub marked_asking : (joined shared : List IfaceEntry) (ifaces : List SiteIface) (entries : Entries) (active : Bool) (clock : ℕ) (flow : Flow)
    → HasOwn entries joined (Source flow.source flow.group) → HasOwn entries shared (Star flow.group)
    → (marks : List Bool) → marks ≡ marks_of joined shared → (result : Result (List SiteIface) NoMemory)
    → IfOk result (λ found. found ≡ asking_marked marks ifaces entries active clock flow)
    → IfOk result (λ found. found ≡ asking_of ifaces entries active clock flow)
marked_asking joined shared ifaces entries active clock flow own all marks m (Ok found) h =
    h ∙ (ap (λ (l : List Bool). asking_marked l ifaces entries active clock flow) m
    ∙ marked_all joined shared ifaces entries active clock flow own all)
marked_asking joined shared ifaces entries active clock flow own all marks m (Err fault) h = tt

empty-list : (xs : List IfaceEntry) → (length xs == 0) ≡ true → xs ≡ []
empty-list [] h = refl
empty-list (x ∷ xs) h = absurd (grind (arith, nat_tests))

-- Where no entry joins the flow or its group, no interface asks for it.
pub none-asking : (joined shared : List IfaceEntry) (entries : Entries) (flow : Flow) → (length joined == 0) ≡ true → (length shared == 0) ≡ true
    → HasOwn entries joined (Source flow.source flow.group) → HasOwn entries shared (Star flow.group) → IsUnasked entries flow
none-asking joined shared entries flow j s own all [] active clock = refl
none-asking joined shared entries flow j s own all (first ∷ ifaces) active clock =
    (λ i. cond (silent entries joined shared first.iface active clock flow own all among i) (first ∷ asking_of ifaces entries active clock flow)
    (asking_of ifaces entries active clock flow))
    ∙ none-asking joined shared entries flow j s own all ifaces active clock
  where
    among : is_among joined shared first.iface ≡ false
    among = λ i. is_among (empty-list joined j i) (empty-list shared s i) first.iface
