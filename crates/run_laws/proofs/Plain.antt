-- A plain report says of datagrams, refusals and states what its report says.
use Rattle.std.specs.Prelude.{◌↔◌, Contains}
use Rattle.std.proofs.Common.{◌≡◌, ℕ, zero, suc, ◌+◌, Bool, true, false, cond, inl, inr, List, [], ◌∷◌, ◌++◌, map, filter, flat_map, take, length, refl, sym, ap, subst, ◌∙◌, arith}
use Rattle.std.specs.List.{AllByRecursion}
use Rattle.std.proofs.lemmas.Bool.{true≢false}
use Rattle.std.proofs.lemmas.List.Elements.{filter-append}
use Rattle.std.proofs.lemmas.List.Sums.{length-filter}
use Rattle.mv_base.specs.declared.ids.IfaceId.{IfaceId}
use Rattle.scenario_defs.specs.declared.event.Timed.{Timed}
use Rattle.scenario_defs.specs.declared.report.ReportLine.{ReportLine}
use Rattle.scenario_defs.specs.declared.report.ReportLine.TheVariants as lines
use Rattle.scenario_defs.specs.declared.scenario.Scenario.{Scenario}
use Rattle.mvpn_model.specs.Once.{TellsState, EndsWindow, IsWindow, Once}
use Rattle.mvpn_model.specs.Report.{Entry, lines_of, refused_line, refused_lines, is_out_at, outs_at}
use Rattle.mvpn_model.specs.Safe.{IsSafeLine, Safe}
use Rattle.delivery_laws.proofs.network_laws.Lists.{each_filter}
use Rattle.run_laws.specs.Plain.{is_plain, plain_entry, plain}

-- ---- lists

module _ {X : Type 0} where
  here : (x y : X) (xs : List X) → y ≡ x → Contains (y ∷ xs) x
  here x y xs e = (0, omega arith, e)

  deeper : (x y : X) (xs : List X) → Contains xs x → Contains (y ∷ xs) x
  deeper x y xs (k, less, e) = (suc k, omega (arith, less), e)

  filter_there : (test : X → Bool) (xs : List X) (x : X) → test x ≡ true → Contains xs x → Contains (filter test xs) x
  filter_there test [] x passes h = h
  filter_there test (y ∷ xs) x passes (zero, less, e) =
      subst (λ (b : Bool). Contains (cond b (y ∷ filter test xs) (filter test xs)) x) (sym (ap test e ∙ passes)) (here x y (filter test xs) e)
  filter_there test (y ∷ xs) x passes (suc k, less, e) =
      let rest : Contains (filter test xs) x = filter_there test xs x passes (k, omega (arith, less), e) in
      elim (test y) as (λ b. Contains (cond b (y ∷ filter test xs) (filter test xs)) x) [
        | true ↦ deeper x y (filter test xs) rest
        | false ↦ rest
      ]

  back_by : (b : Bool) (x y : X) (kept xs : List X) → (Contains kept x → Contains xs x) → Contains (cond b (y ∷ kept) kept) x → Contains (y ∷ xs) x
  back_by true x y kept xs rest (zero, less, e) = here x y xs e
  back_by true x y kept xs rest (suc k, less, e) = deeper x y xs (rest (k, omega (arith, less), e))
  back_by false x y kept xs rest h = deeper x y xs (rest h)

  filter_back : (test : X → Bool) (xs : List X) (x : X) → Contains (filter test xs) x → Contains xs x
  filter_back test [] x h = h
  filter_back test (y ∷ xs) x h = back_by (test y) x y (filter test xs) xs (filter_back test xs x) h

  map_there : {Y : Type 0} (f : X → Y) (xs : List X) (x : X) → Contains xs x → Contains (map f xs) (f x)
  map_there f [] x (k, less, e) = absurd (omega (arith, less))
  map_there f (y ∷ xs) x (zero, less, e) = (0, omega arith, ap f e)
  map_there f (y ∷ xs) x (suc k, less, e) =
      let rest : Contains (map f xs) (f x) = map_there f xs x (k, omega (arith, less), e) in
      (suc rest.0, (let less_then = rest.1 in omega (arith, less_then)), rest.2)

  map_back : {Y : Type 0} (f : X → Y) (xs : List X) (y : Y) → Contains (map f xs) y → (x : X) × Contains xs x × (f x ≡ y)
  map_back f [] y (k, less, e) = absurd (omega (arith, less))
  map_back f (x ∷ xs) y (zero, less, e) = (x, here x x xs refl, e)
  map_back f (x ∷ xs) y (suc k, less, e) =
      let rest : (x : X) × Contains xs x × (f x ≡ y) = map_back f xs y (k, omega (arith, less), e) in
      (rest.0, deeper rest.0 x xs rest.1, rest.2)

  -- a test that passes only what is kept
  twice_by : (test : X → Bool) (x : X) (xs ys : List X) (a b : Bool) → test x ≡ a → (a ≡ true → b ≡ true) → filter test xs ≡ filter test ys
      → filter test (cond b (x ∷ xs) xs) ≡ cond a (x ∷ filter test ys) (filter test ys)
  twice_by test x xs ys a true is kept rest =
      ap (λ (t : Bool). cond t (x ∷ filter test xs) (filter test xs)) is ∙ ap (λ (l : List X). cond a (x ∷ l) l) rest
  twice_by test x xs ys true false is kept rest = absurd (true≢false (sym (kept refl)))
  twice_by test x xs ys false false is kept rest = rest

  filter_twice : (test keeps : X → Bool) → ((x : X) → test x ≡ true → keeps x ≡ true) → (xs : List X) → filter test (filter keeps xs) ≡ filter test xs
  filter_twice test keeps kept [] = refl
  filter_twice test keeps kept (x ∷ xs) = twice_by test x (filter keeps xs) xs (test x) (keeps x) refl (kept x) (filter_twice test keeps kept xs)

  -- what says nothing of an element that is not kept
  flat_by : {Y : Type 0} (f : X → List Y) (x : X) (xs ys : List X) (b : Bool) → (b ≡ false → f x ≡ []) → flat_map f xs ≡ flat_map f ys
      → flat_map f (cond b (x ∷ xs) xs) ≡ f x ++ flat_map f ys
  flat_by f x xs ys true none rest = ap (λ l. f x ++ l) rest
  flat_by f x xs ys false none rest = rest ∙ ap (λ l. l ++ flat_map f ys) (sym (none refl))

  flat_kept : {Y : Type 0} (f : X → List Y) (keeps : X → Bool) → ((x : X) → keeps x ≡ false → f x ≡ []) → (xs : List X)
      → flat_map f (filter keeps xs) ≡ flat_map f xs
  flat_kept f keeps none [] = refl
  flat_kept f keeps none (x ∷ xs) = flat_by f x (filter keeps xs) xs (keeps x) (none x) (flat_kept f keeps none xs)

  unfiltered_by : (P : X → Type 0) (x : X) (xs ys : List X) (b : Bool) → (b ≡ false → P x) → (AllByRecursion P xs → AllByRecursion P ys)
      → AllByRecursion P (cond b (x ∷ xs) xs) → P x × AllByRecursion P ys
  unfiltered_by P x xs ys true other rest h = (h.0, rest h.1)
  unfiltered_by P x xs ys false other rest h = (other refl, rest h)

  each_unfiltered : (P : X → Type 0) (keeps : X → Bool) → ((x : X) → keeps x ≡ false → P x) → (xs : List X) → AllByRecursion P (filter keeps xs)
      → AllByRecursion P xs
  each_unfiltered P keeps other [] h = h
  each_unfiltered P keeps other (x ∷ xs) h = unfiltered_by P x (filter keeps xs) xs (keeps x) (other x) (each_unfiltered P keeps other xs) h

-- ---- lines

pub plain_lines : (report : List Entry) → lines_of (plain report) ≡ filter is_plain (lines_of report)
plain_lines [] = refl
plain_lines (entry ∷ report) =
    ap (λ (l : List ReportLine). filter is_plain entry.lines ++ l) (plain_lines report) ∙ sym (filter-append is_plain entry.lines (lines_of report))

pub kept_lines : (test : ReportLine → Bool) → ((line : ReportLine) → test line ≡ true → is_plain line ≡ true) → (report : List Entry)
    → filter test (lines_of (plain report)) ≡ filter test (lines_of report)
kept_lines test kept report = ap (filter test) (plain_lines report) ∙ filter_twice test is_plain kept (lines_of report)

refuses_none : (line : ReportLine) → is_plain line ≡ false → refused_line line ≡ []
refuses_none (lines.Out number iface bytes) e = refl
refuses_none (lines.Refused line reason) e = absurd (true≢false e)
refuses_none (lines.State bytes copies buffers due unready) e = refl
refuses_none (lines.Halt line node) e = refl
refuses_none (lines.Put kind from to bytes) e = refl
refuses_none (lines.Take kind from to bytes) e = refl
refuses_none (lines.Hop from to label ttl number) e = refl
refuses_none (lines.Land from to label number) e = refl

pub same_refused : (report : List Entry) → refused_lines (plain report) ≡ refused_lines report
same_refused report = ap (flat_map refused_line) (plain_lines report) ∙ flat_kept refused_line is_plain refuses_none (lines_of report)

-- ---- safe

module _ (scenario : Scenario) (refused : List ℕ) where
  other_safe : (events : List Timed) (line : ReportLine) → is_plain line ≡ false → IsSafeLine scenario events refused line
  other_safe events (lines.Out number iface bytes) e = absurd (true≢false e)
  other_safe events (lines.Refused line reason) e = tt
  other_safe events (lines.State bytes copies buffers due unready) e = tt
  other_safe events (lines.Halt line node) e = tt
  other_safe events (lines.Put kind from to bytes) e = tt
  other_safe events (lines.Take kind from to bytes) e = tt
  other_safe events (lines.Hop from to label ttl number) e = tt
  other_safe events (lines.Land from to label number) e = tt

  safe_there : (events : List Timed) (report : List Entry) → Safe scenario events refused report → Safe scenario events refused (plain report)
  safe_there events [] h = h
  safe_there events (entry ∷ report) h =
      (each_filter (IsSafeLine scenario (take (entry.event + 1) events) refused) is_plain entry.lines h.0, safe_there events report h.1)

  safe_back : (events : List Timed) (report : List Entry) → Safe scenario events refused (plain report) → Safe scenario events refused report
  safe_back events [] h = h
  safe_back events (entry ∷ report) h = (
    each_unfiltered (IsSafeLine scenario (take (entry.event + 1) events) refused) is_plain (other_safe (take (entry.event + 1) events)) entry.lines
        h.0,
    safe_back events report h.1,
  )

pub same_safe : (scenario : Scenario) (events : List Timed) (refused : List ℕ) (report : List Entry)
    → Safe scenario events refused (plain report) ↔ Safe scenario events refused report
same_safe scenario events refused report = (safe_back scenario refused events report, safe_there scenario refused events report)

-- ---- once

out_is_plain : (number : ℕ) (iface : IfaceId) (line : ReportLine) → is_out_at number iface line ≡ true → is_plain line ≡ true
out_is_plain number iface (lines.Out out_number out_iface bytes) e = refl
out_is_plain number iface (lines.Refused line reason) e = refl
out_is_plain number iface (lines.State bytes copies buffers due unready) e = refl
out_is_plain number iface (lines.Halt line node) e = refl
out_is_plain number iface (lines.Put kind from to bytes) e = e
out_is_plain number iface (lines.Take kind from to bytes) e = e
out_is_plain number iface (lines.Hop from to label ttl hop_number) e = e
out_is_plain number iface (lines.Land from to label land_number) e = e

same_outs : (report : List Entry) (number : ℕ) (iface : IfaceId) → outs_at (plain report) number iface ≡ outs_at report number iface
same_outs report number iface =
    sym (length-filter (is_out_at number iface) (lines_of (plain report)))
    ∙ ap length (kept_lines (is_out_at number iface) (out_is_plain number iface) report)
    ∙ length-filter (is_out_at number iface) (lines_of report)

module _ (events : List Timed) (report : List Entry) where
  state_there : (place bytes copies buffers due unready : ℕ) → TellsState events report place bytes copies buffers due unready
      → TellsState events (plain report) place bytes copies buffers due unready
  state_there place bytes copies buffers due unready tells = record {
    line = tells.line;
    at = tells.at;
    entry = plain_entry tells.entry;
    reported = map_there plain_entry report tells.entry tells.reported;
    of_event = tells.of_event;
    told = filter_there is_plain tells.entry.lines (lines.State bytes copies buffers due unready) refl tells.told;
  }

  state_back : (place bytes copies buffers due unready : ℕ) → TellsState events (plain report) place bytes copies buffers due unready
      → TellsState events report place bytes copies buffers due unready
  state_back place bytes copies buffers due unready tells =
      let from : (entry : Entry) × Contains report entry × (plain_entry entry ≡ tells.entry) =
      map_back plain_entry report tells.entry tells.reported in
      let state : ReportLine = lines.State bytes copies buffers due unready in
      record {
        line = tells.line;
        at = tells.at;
        entry = from.0;
        reported = from.1;
        of_event = ap (λ (entry : Entry). entry.event) from.2 ∙ tells.of_event;
        told = filter_back is_plain from.0.lines state (subst (λ (entry : Entry). Contains entry.lines state) (sym from.2) tells.told);
      }

  ends_there : (place : ℕ) → EndsWindow events report place → EndsWindow events (plain report) place
  ends_there place (inl drains) = inl drains
  ends_there place (inr (bytes, buffers, due, unready, tells)) =
      inr (bytes, buffers, due, unready, state_there place bytes 0 buffers due unready tells)

  ends_back : (place : ℕ) → EndsWindow events (plain report) place → EndsWindow events report place
  ends_back place (inl drains) = inl drains
  ends_back place (inr (bytes, buffers, due, unready, tells)) = inr (bytes, buffers, due, unready, state_back place bytes 0 buffers due unready tells)

  window_there : (refused : List ℕ) (first last : ℕ) → IsWindow events refused report first last → IsWindow events refused (plain report) first last
  window_there refused first last is =
      record {
        calm = is.calm;
        opens = is.opens;
        is_calm = state_there is.calm 0 0 0 0 0 is.is_calm;
        closes = ends_there last is.closes;
        within =
            is.within;
      }

  window_back : (refused : List ℕ) (first last : ℕ) → IsWindow events refused (plain report) first last → IsWindow events refused report first last
  window_back refused first last is =
      record {
        calm = is.calm;
        opens = is.opens;
        is_calm = state_back is.calm 0 0 0 0 0 is.is_calm;
        closes = ends_back last is.closes;
        within =
            is.within;
      }

pub same_once : (scenario : Scenario) (events : List Timed) (refused : List ℕ) (report : List Entry)
    → Once scenario events refused (plain report) ↔ Once scenario events refused report
same_once scenario events refused report = (back, there)
  where
    back : Once scenario events refused (plain report) → Once scenario events refused report
    back once first last is place datagram at low high iface =
        sym (same_outs report (place + 1) iface) ∙ once first last (window_there events report refused first last is) place datagram at low high iface

    there : Once scenario events refused report → Once scenario events refused (plain report)
    there once first last is place datagram at low high iface =
        same_outs report (place + 1) iface ∙ once first last (window_back events report refused first last is) place datagram at low high iface
