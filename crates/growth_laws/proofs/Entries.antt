-- Entries after an (S,G) join, and after the timers: they stay, and last.
use Rattle.std.specs.Prelude.{max}
use Rattle.std.proofs.Common.{◌≡◌, ℕ, ◌+◌, ◌<◌, ◌≤◌, ◌==◌, Bool, true, false, cond, Option, Some, None, refl, sym, ap, subst, ◌∙◌, arith}
use Rattle.std.specs.FinMap as maps
use Rattle.std.proofs.lemmas.Bool.{lt-ltb, ltb-true}
use Rattle.std.proofs.lemmas.Option.{same_Some, none-some}
use Rattle.mv_base.specs.declared.addr.Addr.{Addr}
use Rattle.mv_base.specs.declared.ids.IfaceId.{IfaceId}
use Rattle.scenario_defs.specs.declared.event.IfaceEntry.{IfaceEntry}
use Rattle.scenario_defs.specs.declared.event.JoinEntry.{JoinEntry}
use Rattle.scenario_defs.specs.declared.event.JoinEntry.TheVariants as entries
use Rattle.pim_defs.specs.Entries.{Entries, expiry_then, applied, kept_at}
use Rattle.pim_defs.specs.Expiry.{is_after, latest, extended, remaining}
use Rattle.pim_defs.specs.Mention.{mention_of, expiry_after}
use Rattle.pim_defs.specs.Single.{join_of}
use Rattle.pim_defs.specs.declared.expiry.Expiry.{Expiry}
use Rattle.pim_defs.specs.declared.expiry.Expiry.TheVariants.{At, Never}
use Rattle.pim_defs.proofs.EntriesLemmas.{get-applied, get-kept}
use Rattle.growth_laws.specs.Edges.{IsSourceEntry}

-- ---- one expiry

pub sooner : (expiry : Expiry) (moment horizon : ℕ) → moment ≤ horizon → is_after expiry horizon ≡ true → is_after expiry moment ≡ true
sooner Never moment horizon le h = refl
sooner (At end) moment horizon le h = (let late = ltb-true horizon end h in lt-ltb moment end (omega (arith, le, late)))

latest_lasts : (clock horizon : ℕ) (old : Option Expiry) → horizon < clock + 210 → is_after (latest clock 210 old) horizon ≡ true
latest_lasts clock horizon None lt = lt-ltb horizon (clock + 210) lt
latest_lasts clock horizon (Some (At end)) lt = lt-ltb horizon (max end (clock + 210)) (omega (arith, lt))
latest_lasts clock horizon (Some Never) lt = refl

-- what an entry was, it being an (S,G) join that lasts
abbrev pub Lasts : ℕ → JoinEntry → Option Expiry → Type 0
Lasts horizon entry found = (expiry : Expiry) → found ≡ Some expiry → IsSourceEntry entry × (is_after expiry horizon ≡ true)

abbrev pub Stays : Option Expiry → Option Expiry → Type 0
Stays old new = (expiry : Expiry) → old ≡ Some expiry → (later : Expiry) × (new ≡ Some later)

extended_by : (clock horizon : ℕ) (source group : Addr) (old : Option Expiry) (b : Bool) → b ≡ true → is_after (latest clock 210 old) horizon ≡ true
    → Stays old (cond b (Some (latest clock 210 old)) old) × Lasts horizon (entries.Source source group) (cond b (Some (latest clock 210 old)) old)
extended_by clock horizon source group old true e lasts = (
  λ expiry h. (latest clock 210 old, refl),
  λ expiry h.
      (tt, ap (λ (x : Expiry). is_after x horizon) (sym (same_Some (latest clock 210 old) expiry h)) ∙ lasts),
)
extended_by clock horizon source group old false e lasts = absurd (let bad : false ≡ true = e in cc)

joined_by : (clock horizon : ℕ) (source group : Addr) (old : Option Expiry) (b : Bool) → horizon < clock + 210
    → Lasts horizon (entries.Source source group) old
    → Stays old (cond b (extended clock 210 old) old) × Lasts horizon (entries.Source source group) (cond b (extended clock 210 old) old)
joined_by clock horizon source group old false lt lasts = (λ expiry h. (expiry, h), lasts)
joined_by clock horizon source group old true lt lasts =
    extended_by clock horizon source group old (is_after (latest clock 210 old) clock) (latest_lasts clock clock old (omega arith))
    (latest_lasts clock horizon old lt)

-- an entry after an (S,G) join
after_join : (clock horizon : ℕ) (neighbour source group : Addr) (entry : JoinEntry) (old : Option Expiry) → horizon < clock + 210
    → Lasts horizon entry old
    → let new : Option Expiry = expiry_after entry (mention_of (join_of neighbour (entries.Source source group)) entry) clock 210 old in
    Stays old new × Lasts horizon entry new
after_join clock horizon neighbour source group (entries.Star own) old lt lasts = (λ expiry h. (expiry, h), lasts)
after_join clock horizon neighbour source group (entries.Rpt own_source own) old lt lasts = (λ expiry h. (expiry, h), lasts)
after_join clock horizon neighbour source group (entries.Source own_source own) old lt lasts =
    joined_by clock horizon own_source own old (mention_of (join_of neighbour (entries.Source source group)) (entries.Source own_source own)).joined
    lt lasts

-- ---- all entries

module _ (old : Entries) (clock horizon : ℕ) (each : (at : IfaceEntry) → Lasts horizon at.entry (maps.get old at)) where
  applied_by : (iface : IfaceId) (neighbour source group : Addr) (at : IfaceEntry) → horizon < clock + 210
      → let new : Option Expiry = expiry_then old iface (join_of neighbour (entries.Source source group)) clock at in
      Stays (maps.get old at) new × Lasts horizon at.entry new
  applied_by iface neighbour source group at lt = elim (at.iface.0 == iface.0) as (λ b.
      let new : Option Expiry =
      cond b (expiry_after at.entry (mention_of (join_of neighbour (entries.Source source group)) at.entry) clock 210 (maps.get old at))
      (maps.get old at) in
      Stays (maps.get old at) new × Lasts horizon at.entry new) [
        | true ↦ after_join clock horizon neighbour source group at.entry (maps.get old at) lt (each at)
        | false ↦ ((λ expiry h. (expiry, h)), each at)
      ]

  pub joins_stay : (iface : IfaceId) (neighbour source group : Addr) (at : IfaceEntry) → horizon < clock + 210
      → let new : Option Expiry = maps.get (applied old iface (join_of neighbour (entries.Source source group)) clock) at in
      Stays (maps.get old at) new × Lasts horizon at.entry new
  joins_stay iface neighbour source group at lt =
      subst (λ (new : Option Expiry). Stays (maps.get old at) new × Lasts horizon at.entry new)
      (sym (get-applied old iface (join_of neighbour (entries.Source source group)) clock at)) (applied_by iface neighbour source group at lt)

  kept_by : (at : IfaceEntry) (o : Option Expiry) → maps.get old at ≡ o → clock ≤ horizon
      → Stays o (remaining clock o) × Lasts horizon at.entry (remaining clock o)
  kept_by at None e le = ((λ expiry h. absurd (none-some expiry h)), λ expiry h. absurd (none-some expiry h))
  kept_by at (Some own) e le =
      let lasts = each at own e in
      let now : is_after own clock ≡ true = sooner own clock horizon le lasts.1 in
      subst (λ (b : Bool). Stays (Some own) (cond b (Some own) None) × Lasts horizon at.entry (cond b (Some own) None)) (sym now)
      ((λ expiry h. (expiry, h)), λ expiry h. (lasts.0, ap (λ (x : Expiry). is_after x horizon) (sym (same_Some own expiry h)) ∙ lasts.1))

  pub timers_stay : (at : IfaceEntry) → clock ≤ horizon → let new : Option Expiry = maps.get (kept_at old clock) at in
      Stays (maps.get old at) new × Lasts horizon at.entry new
  timers_stay at le =
      subst (λ (new : Option Expiry). Stays (maps.get old at) new × Lasts horizon at.entry new) (sym (get-kept old clock at))
      (kept_by at (maps.get old at) refl le)
