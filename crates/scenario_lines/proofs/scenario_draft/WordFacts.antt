-- What a word that is without fault keeps to.
use Rattle.std.proofs.Common.{◌≡◌, ℕ, ◌-◌, ◌%◌, ◌^◌, ◌<◌, ◌≤◌, ◌==◌, Bool, true, false, not, ◌&&◌, ◌||◌, List, [], ◌∷◌, ◌++◌, length, take, length-append, refl, sym, ap, subst, cond, arith, nat_eq, nat_le, slice_index, slice_get, Option, Some, None, inl, inr}
use Rattle.std.specs.Prelude.{◌≢◌, ◌⊎◌, Result, Ok, Err, IfSome, option_map, All, AllPairs}
use Rattle.std.specs.Option.{option_or}
use Rattle.std.specs.List.{list_any, slice_split}
use Rattle.std.specs.Int.{w16, w32, w128, to_be_bytes, from_be_bytes}
use Rattle.std.specs.Map.{lookup}
use Rattle.std.specs.Cmp.Lexicographic.{pointwise, other_text}
use Rattle.std.proofs.lemmas.Bool.{eqb-true, or_cases}
use Rattle.std.proofs.lemmas.Bool.Decides.{nat_tests}
use Rattle.std.proofs.lemmas.Option.{slice_get_within}
use Rattle.hex.specs.declared.error.FromHexError.{FromHexError}
use Rattle.hex.specs.Hex.{decode_of}
use Rattle.hex.proofs.HexLemmas.{decode_of-ok}
use Rattle.mv_base.specs.declared.addr.Addr.{Addr}
use Rattle.mv_base.specs.declared.addr.Addr.TheVariants.{V4, V6}
use Rattle.mv_base.specs.declared.ids.NodeId.{NodeId}
use Rattle.mv_base.specs.declared.ids.IfaceId.{IfaceId}
use Rattle.mv_base.specs.declared.core_link.Link.{Link}
use Rattle.mv_base.specs.declared.prefix.Prefix.{Prefix}
use Rattle.mv_base.specs.declared.rd.Rd.{Rd}
use Rattle.mv_base.specs.Address.{same_addr, IsAddr}
use Rattle.mv_base.specs.AddrText.{group_of as groups_last, group_front_of, groups_of, addr_of}
use Rattle.mv_base.specs.Prefix.{IsPrefixOf}
use Rattle.mv_base.specs.Number.{number_of, cut_of, ◌>>?◌, only_if}
use Rattle.mv_base.specs.Dotted.{octet_of, octet_front_of, dotted_of}
use Rattle.mv_base.specs.core_walks.Topology.{JoinsSamePair}
use Rattle.mv_base.specs.route_targets.Targets.{same_target}
use Rattle.scenario_defs.specs.declared.scenario.Vrf.{Vrf}
use Rattle.scenario_defs.specs.declared.scenario.Iface.{Iface}
use Rattle.scenario_defs.specs.Prefixes.{same_prefix}
use Rattle.scenario_defs.specs.Rules.{IsIpv4, IsUnicastFront, IsUnicast, IsGroup, AreOfOneFamily, IsOfIface, NamesFlow, IsEdge, IsRd, IsTarget, IsSitePrefix}
use Rattle.line_words.specs.declared.fault.TextFault.{TextFault}
use Rattle.line_words.specs.declared.fault.Reason.{Reason}
use Rattle.line_words.specs.declared.fault.Reason.TheVariants as reasons
use Rattle.line_words.specs.declared.words.Row.{Row}
use Rattle.line_words.specs.Words.{Placed}
use Rattle.line_words.specs.Forms.{◌>>=◌, or_fault, ipv4_of, ipv4_at, addr_at, source_at, group_at, payload_at, is_unicast_front, is_unicast, is_group, same_family, number_to, vrf_number_of, numbered_of, addressed_of, rd_of, target_of, targets_at, is_prefix, prefix_of, prefixes_at}
pub use Rattle.line_words.proofs.MeetLemmas.{
  Meets,
  Finds,
  ok_meets,
  err_meets,
  bind_meets,
  if_meets,
  then_meets,
  either_meets,
  bind_finds,
  only_finds,
  or_fault_meets,
}
use Rattle.line_words.proofs.MeetLemmas.{map_finds, some_finds}
use Rattle.line_words.proofs.ListFacts.{none_any, distinct_pairs, each_holds, list_is}
use Rattle.scenario_defs.specs.declared.scenario.Thing.{Thing}
use Rattle.scenario_defs.specs.Names.{is_name}
use Rattle.scenario_lines.specs.scenario_draft.Drafted.{Drafted}
use Rattle.scenario_lines.specs.scenario_draft.Naming.{new_name, node_of, vrf_of, site_of, iface_of, named, node_named, edge_named, vrf_named, site_named, iface_named, node_at, edge_at, vrf_at, site_at, iface_at, is_of_iface, is_at, node_addr_at, has_number, vrf_number_at, has_rd, rd_at, joins, other_end_at}
use Rattle.scenario_lines.specs.scenario_draft.Declaring.{IsNewName}

-- The words that name things name things that are declared.
node_finds : (draft : Drafted) (text : List ℕ) → Finds (λ id. id.0 < length draft.scenario.nodes) (node_named draft text)
unfolding node_named
node_finds draft text =
    bind_finds _ (named draft text) _ (λ thing _. bind_finds _ (node_of thing) _
    (λ id _. bind_finds _ (slice_get draft.scenario.nodes id.0) _ (λ found e. some_finds _ id (slice_get_within draft.scenario.nodes id.0 found e))))

edge_finds : (draft : Drafted) (text : List ℕ) → Finds (IsEdge draft.scenario) (edge_named draft text)
unfolding edge_named
edge_finds draft text =
    bind_finds _ (named draft text) _ (λ thing _. bind_finds _ (node_of thing) _
    (λ id _. bind_finds _ (slice_get draft.scenario.nodes id.0) _
    (λ node e. only_finds _ node.edge id (λ edge. record { node = node; at = e; edge = edge }))))

vrf_finds : (draft : Drafted) (text : List ℕ) → Finds (λ id. id.0 < length draft.scenario.vrfs) (vrf_named draft text)
unfolding vrf_named
vrf_finds draft text =
    bind_finds _ (named draft text) _ (λ thing _. bind_finds _ (vrf_of thing) _
    (λ id _. bind_finds _ (slice_get draft.scenario.vrfs id.0) _ (λ found e. some_finds _ id (slice_get_within draft.scenario.vrfs id.0 found e))))

site_finds : (draft : Drafted) (text : List ℕ) → Finds (λ id. id.0 < length draft.scenario.sites) (site_named draft text)
unfolding site_named
site_finds draft text =
    bind_finds _ (named draft text) _ (λ thing _. bind_finds _ (site_of thing) _
    (λ id _. bind_finds _ (slice_get draft.scenario.sites id.0) _ (λ found e. some_finds _ id (slice_get_within draft.scenario.sites id.0 found e))))

iface_finds : (draft : Drafted) (text : List ℕ) → Finds (λ id. id.0 < length draft.scenario.ifaces) (iface_named draft text)
unfolding iface_named
iface_finds draft text =
    bind_finds _ (named draft text) _ (λ thing _. bind_finds _ (iface_of thing) _
    (λ id _. bind_finds _ (slice_get draft.scenario.ifaces id.0) _
    (λ found e. some_finds _ id (slice_get_within draft.scenario.ifaces id.0 found e))))

free_name : (draft : Drafted) (text : List ℕ) (e : TextFault) (o : Option Thing) → is_name text ≡ true
    → lookup (pointwise nat_eq text) draft.names ≡ o → Meets (IsNewName draft) (elim o [ None ↦ Ok text | Some thing ↦ Err e ])
free_name draft text e None n h = ok_meets _ text (n, h)
free_name draft text e (Some thing) n h = err_meets _ e

pub name_meets : (draft : Drafted) (row : Row) (word : Placed) → Meets (IsNewName draft) (new_name draft row word)
unfolding new_name
name_meets draft row word = then_meets _ (is_name word.text) _ _ (λ b. free_name draft word.text _ (named draft word.text) b (sym (rw b refl)))

pub node_meets : (draft : Drafted) (row : Row) (word : Placed) → Meets (λ id. id.0 < length draft.scenario.nodes) (node_at draft row word)
unfolding node_at
node_meets draft row word = or_fault_meets _ _ row word _ (node_finds draft word.text)

pub edge_meets : (draft : Drafted) (row : Row) (word : Placed) → Meets (IsEdge draft.scenario) (edge_at draft row word)
unfolding edge_at
edge_meets draft row word = or_fault_meets _ _ row word _ (edge_finds draft word.text)

pub vrf_meets : (draft : Drafted) (row : Row) (word : Placed) → Meets (λ id. id.0 < length draft.scenario.vrfs) (vrf_at draft row word)
unfolding vrf_at
vrf_meets draft row word = or_fault_meets _ _ row word _ (vrf_finds draft word.text)

pub site_meets : (draft : Drafted) (row : Row) (word : Placed) → Meets (λ id. id.0 < length draft.scenario.sites) (site_at draft row word)
unfolding site_at
site_meets draft row word = or_fault_meets _ _ row word _ (site_finds draft word.text)

pub iface_meets : (draft : Drafted) (row : Row) (word : Placed) → Meets (λ id. id.0 < length draft.scenario.ifaces) (iface_at draft row word)
unfolding iface_at
iface_meets draft row word = or_fault_meets _ _ row word _ (iface_finds draft word.text)

-- An address of dotted text has four octets.
dotted_finds : (text : List ℕ) → Finds (λ octets. length octets ≡ 4) (dotted_of text)
unfolding dotted_of
dotted_finds text =
    bind_finds _ (octet_front_of text) _ (λ a _. bind_finds _ (octet_front_of a.1) _
    (λ b _. bind_finds _ (octet_front_of b.1) _ (λ c _. bind_finds _ (octet_of c.1) _ (λ d _. some_finds _ _ refl))))

ipv4_finds : (text : List ℕ) → Finds IsIpv4 (ipv4_of text)
ipv4_finds text = map_finds IsIpv4 (λ octets. V4 octets) (dotted_of text) (dotted_finds text)

pub ipv4_meets : (row : Row) (word : Placed) → Meets IsIpv4 (ipv4_at row word)
unfolding ipv4_at
ipv4_meets row word = or_fault_meets _ _ row word _ (ipv4_finds word.text)

-- An address of eight groups has sixteen octets.
groups_finds : (text : List ℕ) → Finds (λ octets. length octets ≡ 16) (groups_of text)
unfolding groups_of
groups_finds text =
    bind_finds _ (group_front_of text) _ (λ a _. bind_finds _ (group_front_of a.1) _
    (λ b _. bind_finds _ (group_front_of b.1) _ (λ c _. bind_finds _ (group_front_of c.1) _ (λ d _.
    bind_finds _ (group_front_of d.1) _ (λ e _. bind_finds _ (group_front_of e.1) _
    (λ f _. bind_finds _ (group_front_of f.1) _ (λ g _. bind_finds _ (groups_last g.1) _ (λ h _. some_finds _ _ refl))))))))

either_finds : (o p : Option (List ℕ)) → Finds (λ octets. length octets ≡ 4) o → Finds (λ octets. length octets ≡ 16) p
    → Finds IsAddr (elim o [ Some octets ↦ Some (V4 octets) | None ↦ p >>? λ octets. Some (V6 octets) ])
either_finds (Some octets) p h k = some_finds IsAddr (V4 octets) (h.holds octets refl)
either_finds None p h k = bind_finds IsAddr p _ (λ octets e. some_finds IsAddr (V6 octets) (k.holds octets e))

pub addr_finds : (text : List ℕ) → Finds IsAddr (addr_of text)
unfolding addr_of
addr_finds text = either_finds (dotted_of text) (groups_of text) (dotted_finds text) (groups_finds text)

pub addr_meets : (row : Row) (word : Placed) → Meets IsAddr (addr_at row word)
unfolding addr_at
addr_meets row word = or_fault_meets _ _ row word _ (addr_finds word.text)

-- Sources and groups are what their tests say.
pub within : (x low high : ℕ) → (nat_le low x && nat_le x high) ≡ true → (low ≤ x) × (x ≤ high)
within x low high h = grind (arith, nat_tests)

low_front : (x : ℕ) → ((nat_le 32 x && nat_le x 63) ≡ true) ⊎ ((x == 252) ≡ true) → IsUnicastFront x
low_front x (inl h) = inl (within x 32 63 h)
low_front x (inr h) = inr (inl (eqb-true x 252 h))

any_front : (x : ℕ) → (((nat_le 32 x && nat_le x 63) || x == 252) ≡ true) ⊎ ((x == 253) ≡ true) → IsUnicastFront x
any_front x (inl h) = low_front x (or_cases (nat_le 32 x && nat_le x 63) (x == 252) h)
any_front x (inr h) = inr (inr (eqb-true x 253 h))

is_front : (x : ℕ) → is_unicast_front x ≡ true → IsUnicastFront x
is_front x h = any_front x (or_cases ((nat_le 32 x && nat_le x 63) || x == 252) (x == 253) h)

is_source : (addr : Addr) → IsAddr addr → is_unicast addr ≡ true → IsUnicast addr
is_source (V4 octets) four h = let w = within (slice_index octets 0) 1 223 h in (four, w.0, w.1)
is_source (V6 octets) sixteen h = (sixteen, is_front (slice_index octets 0) h)

group_parts : (a b c : Bool) → (a && b && not c) ≡ true → ((a && b) ≡ true) × (c ≡ false)
group_parts true true false h = (refl, refl)
group_parts true true true h = absurd cc
group_parts true false c h = absurd cc
group_parts false b c h = absurd cc

not_local : (x y z : ℕ) → (x == 224 && y == 0 && z == 0) ≡ false → (x ≡ 224) × (y ≡ 0) × (z ≡ 0) → ⊥
not_local x y z h (a, b, c) = grind (arith, nat_tests)

is_scoped : (x y : ℕ) → (x == 255 && nat_le 3 y) ≡ true → (x ≡ 255) × (3 ≤ y)
is_scoped x y h = grind (arith, nat_tests)

is_group_addr : (addr : Addr) → IsAddr addr → is_group addr ≡ true → IsGroup addr
is_group_addr (V4 octets) four h =
    let p = group_parts (nat_le 224 (slice_index octets 0)) (nat_le (slice_index octets 0) 239)
    (slice_index octets 0 == 224 && slice_index octets 1 == 0 && slice_index octets 2 == 0) h in
    let w = within (slice_index octets 0) 224 239 p.0 in
    (four, w.0, w.1, not_local (slice_index octets 0) (slice_index octets 1) (slice_index octets 2) p.1)
is_group_addr (V6 octets) sixteen h = let p = is_scoped (slice_index octets 0) (slice_index octets 1 % 16) h in (sixteen, p.0, p.1)

pub source_meets : (row : Row) (word : Placed) → Meets IsUnicast (source_at row word)
unfolding source_at
source_meets row word =
    bind_meets _ (addr_at row word) _ (λ addr a. then_meets _ _ _ _
    (λ b. ok_meets IsUnicast addr (is_source addr ((addr_meets row word).holds addr a) b)))

pub group_meets : (row : Row) (word : Placed) → Meets IsGroup (group_at row word)
unfolding group_at
group_meets row word =
    bind_meets _ (addr_at row word) _ (λ addr a. then_meets _ _ _ _
    (λ b. ok_meets IsGroup addr (is_group_addr addr ((addr_meets row word).holds addr a) b)))

-- What the rule of families asks for.
pub one_family : (a b : Addr) → same_family a b ≡ true → AreOfOneFamily a b
one_family (V4 a) (V4 b) h = tt
one_family (V6 a) (V6 b) h = tt
one_family (V4 a) (V6 b) h = absurd cc
one_family (V6 a) (V4 b) h = absurd cc

of_found : (found : Option Iface) (group : Addr) → elim found [ None ↦ false | Some own ↦ same_family own.addr group ] ≡ true
    → IfSome found (λ own. AreOfOneFamily own.addr group)
of_found (Some own) group h = one_family own.addr group h
of_found None group h = absurd cc

pub of_iface : (draft : Drafted) (iface : IfaceId) (group : Addr) → is_of_iface draft iface group ≡ true → IsOfIface draft.scenario iface group
of_iface draft iface group h = of_found (slice_get draft.scenario.ifaces iface.0) group h

-- The two words name a flow.
pub names_flow : (row : Row) (b c : Placed) (source group : Addr) → source_at row b ≡ Ok source → group_at row c ≡ Ok group
    → same_family source group ≡ true → NamesFlow source group
names_flow row b c source group s g family = record {
  unicast = (source_meets row b).holds source s;
  multicast = (group_meets row c).holds group g;
  family = one_family source group family;
}

decoded : (text : List ℕ) (e : TextFault) (r : Result (List ℕ) FromHexError) → length text ≤ 4096 → decode_of text ≡ r
    → Meets (λ payload. length payload ≤ 2048) (elim r [ Ok octets ↦ Ok octets | Err error ↦ Err e ])
decoded text e (Ok octets) l h = ok_meets _ octets (omega (arith, (decode_of-ok text octets h).2))
decoded text e (Err error) l h = err_meets _ e

payload_if : (b : Bool) (r : Result (List ℕ) TextFault) → Meets (λ payload. length payload ≤ 2048) r
    → Meets (λ payload. length payload ≤ 2048) (cond b (Ok []) r)
payload_if true r h = ok_meets _ [] (omega arith)
payload_if false r h = h

pub payload_meets : (row : Row) (word : Placed) → length word.text ≤ 4096 → Meets (λ payload. length payload ≤ 2048) (payload_at row word)
unfolding payload_at
payload_meets row word l = payload_if _ _ (decoded word.text _ (decode_of word.text) l refl)

pub below : (limit n : ℕ) → nat_le limit n ≡ false → n < limit
below limit n h = grind (arith, nat_tests)

-- ---- what is new beside what is there

all_weaker : {A : Type 0} (P Q : A → Type 0) (xs : List A) → ((x : A) → P x → Q x) → All P xs → All Q xs
all_weaker P Q xs f h = λ k d within. f _ (h k d within)

ipv4_addr : (addr : Addr) → IsIpv4 addr → IsAddr addr
ipv4_addr (V4 octets) four = four
ipv4_addr (V6 octets) four = absurd four

pub node_addr_meets : (draft : Drafted) (row : Row) (word : Placed)
    → Meets (λ addr. IsIpv4 addr × IsUnicast addr × All (λ other. same_addr other.addr addr ≡ false) draft.scenario.nodes)
    (node_addr_at draft row word)
unfolding node_addr_at
node_addr_meets draft row word =
    bind_meets _ (ipv4_at row word) _ (λ addr a. then_meets _ _ _ _ (λ b. if_meets _ (list_any (is_at addr) draft.scenario.nodes) _ _ (λ new.
    let four = (ipv4_meets row word).holds addr a in
    ok_meets _ addr (four, is_source addr (ipv4_addr addr four) b, none_any (is_at addr) draft.scenario.nodes new))))

pub to_limit : (limit : ℕ) (text : List ℕ) → Finds (λ number. (1 ≤ number) × (number ≤ limit)) (number_to limit text)
unfolding number_to
to_limit limit text =
    bind_finds _ (number_of text) _ (λ number _. only_finds _ (nat_le 1 number && nat_le number limit) number (within number 1 limit))

number_finds : (text : List ℕ) → Finds (λ number. (1 ≤ number) × (number ≤ 4095)) (vrf_number_of text)
unfolding vrf_number_of
number_finds text = bind_finds _ (number_of text) _ (λ number _. only_finds _ _ number (within number 1 4095))

differs : (x y m n : ℕ) → (x == y && m == n) ≡ false → x ≡ y → m ≢ n
differs x y m n h e d = grind (arith, nat_tests)

other_number : (edge : NodeId) (number : ℕ) (vrfs : List Vrf) → list_any (has_number edge number) vrfs ≡ false
    → All (λ other. other.edge.0 ≡ edge.0 → other.number ≢ number) vrfs
other_number edge number vrfs h =
    all_weaker _ _ vrfs (λ vrf k. differs vrf.edge.0 edge.0 vrf.number number k) (none_any (has_number edge number) vrfs h)

pub vrf_number_meets : (draft : Drafted) (row : Row) (edge : NodeId) (word : Placed)
    → Meets (λ number. (1 ≤ number) × (number ≤ 4095) × All (λ other. other.edge.0 ≡ edge.0 → other.number ≢ number) draft.scenario.vrfs)
    (vrf_number_at draft row edge word)
unfolding vrf_number_at
vrf_number_meets draft row edge word =
    bind_meets _ (or_fault (vrf_number_of word.text) row word reasons.Number) _
    (λ number n. if_meets _ (list_any (has_number edge number) draft.scenario.vrfs) _ _ (λ new.
    let bounds = (or_fault_meets _ (vrf_number_of word.text) row word reasons.Number (number_finds word.text)).holds number n in
    ok_meets _ number (bounds.0, bounds.1, other_number edge number draft.scenario.vrfs new)))

second_false : (x y : ℕ) (b : Bool) → (x == y && b) ≡ false → x ≡ y → b ≡ false
second_false x y b h e = grind (arith, nat_tests)

other_rd : (edge : NodeId) (rd : Rd) (vrf : Vrf) → has_rd edge rd vrf ≡ false → vrf.edge.0 ≡ edge.0 → vrf.rd ≢ rd
other_rd edge rd vrf h e d = other_text vrf.rd.0 rd.0 (sym (second_false vrf.edge.0 edge.0 _ h e)) (ap (λ (r : Rd). r.0) d)

or_finds : {A : Type 0} (P : A → Type 0) (o p : Option A) → Finds P o → Finds P p → Finds P (option_or o p)
or_finds P (Some x) p h k = h
or_finds P None p h k = k

-- Octets of a kind are eight, of which the first two are those of the kind.
numbered_finds : (first second : ℕ) (text : List ℕ)
    → Finds (λ octets. (length octets ≡ 8) × (take 2 octets ≡ first ∷ second ∷ [])) (numbered_of first second text)
unfolding numbered_of
numbered_finds first second text =
    bind_finds _ (cut_of 58 text) _ (λ cut _. bind_finds _ (number_of cut.0) _
    (λ n _. bind_finds _ (number_of cut.1) _ (λ m _. only_finds _ _ _ (λ _. (refl, refl)))))

with_address : (first second : ℕ) (octets : List ℕ) (m : ℕ) → length octets ≡ 4 → length (first ∷ second ∷ (octets ++ to_be_bytes w16 m)) ≡ 8
with_address first second octets m h = omega (arith, h, length-append octets (to_be_bytes w16 m))

addressed_finds : (first second : ℕ) (text : List ℕ)
    → Finds (λ octets. (length octets ≡ 8) × (take 2 octets ≡ first ∷ second ∷ [])) (addressed_of first second text)
unfolding addressed_of
addressed_finds first second text =
    bind_finds _ (cut_of 58 text) _ (λ cut _. bind_finds _ (dotted_of cut.0) _
    (λ addr a. bind_finds _ (number_of cut.1) _
    (λ m _. only_finds _ _ _ (λ _. (with_address first second addr m ((dotted_finds cut.0).holds addr a), refl)))))

finds_weaker : {A : Type 0} (P Q : A → Type 0) (o : Option A) → ((x : A) → P x → Q x) → Finds P o → Finds Q o
finds_weaker P Q o weaker h = record { holds = λ x e. weaker x (h.holds x e) }

rd_finds : (text : List ℕ) → Finds IsRd (rd_of text)
unfolding rd_of
rd_finds text =
    map_finds IsRd (λ octets. record { 0 = octets }) (option_or (numbered_of 0 0 text) (addressed_of 0 1 text))
    (or_finds _ (numbered_of 0 0 text) (addressed_of 0 1 text)
    (finds_weaker _ _ (numbered_of 0 0 text) (λ octets h. (h.0, inl h.1)) (numbered_finds 0 0 text))
    (finds_weaker _ _ (addressed_of 0 1 text) (λ octets h. (h.0, inr h.1)) (addressed_finds 0 1 text)))

target_finds : (text : List ℕ) → Finds IsTarget (target_of text)
unfolding target_of
target_finds text =
    map_finds IsTarget (λ octets. record { 0 = record { 0 = octets } }) (option_or (numbered_of 0 2 text) (addressed_of 1 2 text))
    (or_finds _ (numbered_of 0 2 text) (addressed_of 1 2 text)
    (finds_weaker _ _ (numbered_of 0 2 text) (λ octets h. (h.0, inl h.1)) (numbered_finds 0 2 text))
    (finds_weaker _ _ (addressed_of 1 2 text) (λ octets h. (h.0, inr h.1)) (addressed_finds 1 2 text)))

pub rd_formed : (draft : Drafted) (row : Row) (edge : NodeId) (word : Placed) → Meets IsRd (rd_at draft row edge word)
unfolding rd_at
rd_formed draft row edge word =
    bind_meets _ (or_fault (rd_of word.text) row word reasons.Rd) _ (λ rd r. if_meets _ (list_any (has_rd edge rd) draft.scenario.vrfs) _ _ (λ _.
    ok_meets _ rd ((or_fault_meets IsRd (rd_of word.text) row word reasons.Rd (rd_finds word.text)).holds rd r)))

pub rd_meets : (draft : Drafted) (row : Row) (edge : NodeId) (word : Placed)
    → Meets (λ rd. All (λ other. other.edge.0 ≡ edge.0 → other.rd ≢ rd) draft.scenario.vrfs) (rd_at draft row edge word)
unfolding rd_at
rd_meets draft row edge word =
    bind_meets _ (or_fault (rd_of word.text) row word reasons.Rd) _ (λ rd _. if_meets _ (list_any (has_rd edge rd) draft.scenario.vrfs) _ _ (λ new.
    ok_meets _ rd (all_weaker _ _ draft.scenario.vrfs (other_rd edge rd) (none_any (has_rd edge rd) draft.scenario.vrfs new))))

no_pair : (x y a b : ℕ) → ((x == a && y == b) || (x == b && y == a)) ≡ false → ((x ≡ a) × (y ≡ b)) ⊎ ((x ≡ b) × (y ≡ a)) → ⊥
no_pair x y a b h (inl p) = grind (arith, nat_tests)
no_pair x y a b h (inr p) = grind (arith, nat_tests)

-- No link joins the nodes that a new link joins.
pub not_joined : (a b : NodeId) (cost : ℕ) (links : List Link) → list_any (joins a b) links ≡ false
    → All (λ other. ¬ (JoinsSamePair other (record { a = a; b = b; cost = cost }))) links
not_joined a b cost links h = all_weaker _ _ links (λ other k. no_pair other.a.0 other.b.0 a.0 b.0 k) (none_any (joins a b) links h)

pub other_end_meets : (draft : Drafted) (row : Row) (a : NodeId) (word : Placed)
    → Meets (λ b. (b.0 < length draft.scenario.nodes)
    × ((cost : ℕ) → All (λ other. ¬ (JoinsSamePair other (record { a = a; b = b; cost = cost }))) draft.scenario.links))
    (other_end_at draft row a word)
unfolding other_end_at
other_end_meets draft row a word =
    bind_meets _ (node_at draft row word) _ (λ b n. if_meets _ (list_any (joins a b) draft.scenario.links) _ _ (λ new.
    ok_meets _ b ((node_meets draft row word).holds b n, λ cost. not_joined a b cost draft.scenario.links new)))

-- ---- lists

pub targets_meets : (row : Row) (word : Placed)
    → Meets (λ targets. (0 < length targets) × (length targets ≤ 8) × AllPairs (λ target other. same_target target other ≡ false) targets)
    (targets_at row word)
unfolding targets_at
targets_meets row word =
    or_fault_meets _ _ row word _ (record {
      holds = λ targets h. let list = list_is same_target target_of word.text targets h in
          (list.some, list.few, distinct_pairs same_target targets list.distinct);
    })

pub targets_formed : (row : Row) (word : Placed) → Meets (All IsTarget) (targets_at row word)
unfolding targets_at
targets_formed row word = or_fault_meets _ _ row word _ (record {
  holds = λ targets h.
      let list = list_is same_target target_of word.text targets h in
      each_holds IsTarget target_of (λ text target e. (target_finds text).holds target e) (slice_split (λ b. b == 44) word.text) targets list.each;
})

no_rest : (most bits rest : ℕ) → (nat_le bits most && rest == 0) ≡ true → (bits ≤ most) × (rest ≡ 0)
no_rest most bits rest h = grind (arith, nat_tests)

has_bits : (addr : Addr) (bits : ℕ) → is_prefix addr bits ≡ true → IsPrefixOf addr bits
has_bits (V4 octets) bits h = no_rest 32 bits (from_be_bytes w32 octets % 2 ^ (32 - bits)) h
has_bits (V6 octets) bits h = no_rest 128 bits (from_be_bytes w128 octets % 2 ^ (128 - bits)) h

prefix_finds : (text : List ℕ) → Finds IsSitePrefix (prefix_of text)
unfolding prefix_of
prefix_finds text =
    bind_finds _ (cut_of 47 text) _ (λ cut _. bind_finds _ (addr_of cut.0) _
    (λ addr a. bind_finds _ (number_of cut.1) _ (λ bits _. only_finds _ (is_prefix addr bits) _ (λ p.
    record { addr = (addr_finds cut.0).holds addr a; bits = has_bits addr bits p }))))

-- The prefixes are those of a site.
pub record ArePrefixes (prefixes : List Prefix) : Type 0 where
  pub some : 0 < length prefixes
  pub few : length prefixes ≤ 8
  pub each : All IsSitePrefix prefixes
  pub distinct : AllPairs (λ prefix other. same_prefix prefix other ≡ false) prefixes

pub prefixes_meets : (row : Row) (word : Placed) → Meets ArePrefixes (prefixes_at row word)
unfolding prefixes_at
prefixes_meets row word =
    or_fault_meets _ _ row word _ (record {
      holds = λ prefixes h.
          let list = list_is same_prefix prefix_of word.text prefixes h in
          record {
            some = list.some;
            few = list.few;
            each = each_holds IsSitePrefix prefix_of (λ text prefix p. (prefix_finds text).holds prefix p) _ prefixes list.each;
            distinct = distinct_pairs same_prefix prefixes list.distinct;
          };
    })
