-- The datagrams of events: which event sends each, and which of them earlier events sent.
use Rattle.std.specs.Prelude.{nat_lt}
use Rattle.std.proofs.Common.{◌≡◌, ℕ, zero, suc, ◌+◌, ◌<◌, ◌≤◌, Bool, true, false, cond, ◌++◌, take, List, [], ◌∷◌, slice_get, Option, None, Some, refl, sym, ap, subst, ◌∙◌, arith}
use Rattle.std.proofs.lemmas.Bool.{lt-ltb, le-ltb}
use Rattle.std.proofs.lemmas.Option.{none-some}
use Rattle.audit_defs.specs.scenario_defs.declared.event.Event.{Event}
use Rattle.audit_defs.specs.scenario_defs.declared.event.Event.TheVariants as events
use Rattle.audit_defs.specs.scenario_defs.declared.event.Timed.{Timed}
use Rattle.audit_defs.specs.mvpn_model.Past.{is_accepted}
use Rattle.audit_defs.specs.mvpn_model.Report.{Datagram, sent_by, datagrams}
use Rattle.audit_defs.proofs.Lists.{some_same}

-- ---- what one event sends

-- The event of that number sends one datagram, or none.
pub data Few (number : ℕ) (all : List Datagram) : Type 0 where
  Nothing : all ≡ [] → Few number all
  One : (datagram : Datagram) → datagram.event ≡ number → all ≡ datagram ∷ [] → Few number all

pub few_sent : (number : ℕ) (event : Event) → Few number (sent_by number event)
few_sent number (events.Send site source group payload) = One _ refl refl
few_sent number (events.Packet site octets) = One _ refl refl
few_sent number other = Nothing refl

abbrev pub sent_at : List ℕ → ℕ → Timed → List Datagram
sent_at refused number timed = cond (is_accepted refused timed) (sent_by number timed.event) []

few_at : (refused : List ℕ) (number : ℕ) (timed : Timed) → Few number (sent_at refused number timed)
few_at refused number timed = by (is_accepted refused timed)
  where
    by : (b : Bool) → Few number (cond b (sent_by number timed.event) [])
    by true = few_sent number timed.event
    by false = Nothing refl

-- ---- the event of a datagram

-- the event that sent a datagram, of the events from that number on
pub record SentAt (refused : List ℕ) (number : ℕ) (all : List Timed) (datagram : Datagram) : Type 0 where
  pub offset : ℕ
  pub timed : Timed
  pub there : datagram.event ≡ number + offset
  pub at : slice_get all offset ≡ Some timed
  pub sends : sent_by datagram.event timed.event ≡ datagram ∷ []

one_sent : (datagram first : Datagram) (place : ℕ) → slice_get (first ∷ []) place ≡ Some datagram → first ≡ datagram
one_sent datagram first zero e = some_same first datagram e
one_sent datagram first (suc place) e = absurd (none-some datagram e)

pub sent_there : (refused : List ℕ) (number : ℕ) (all : List Timed) (place : ℕ) (datagram : Datagram)
    → slice_get (datagrams refused number all) place ≡ Some datagram →
    SentAt refused number all datagram
sent_there refused number [] place datagram e = absurd (none-some datagram e)
sent_there refused number (timed ∷ more) place datagram e =
    by (λ next same. sent_there refused (number + 1) more next datagram same) (is_accepted refused timed) (few_sent number timed.event) e
  where
    Rest : Type 0
    Rest = (next : ℕ) → slice_get (datagrams refused (number + 1) more) next ≡ Some datagram → SentAt refused (number + 1) more datagram

    later : SentAt refused (number + 1) more datagram → SentAt refused number (timed ∷ more) datagram
    later r =
        record {
          offset = suc r.offset;
          timed = r.timed;
          there =
              (let there = r.there in let sum : datagram.event ≡ number + suc r.offset = omega (arith, there) in sum);
          at = r.at;
          sends = r.sends;
        }

    own : Rest → (sent : Datagram) → sent.event ≡ number → sent_by number timed.event ≡ sent ∷ [] → (next : ℕ)
        → slice_get (sent ∷ datagrams refused (number + 1) more) next ≡ Some datagram →
        SentAt refused number (timed ∷ more) datagram
    own rest sent is all zero same =
        let one = some_same sent datagram same in
        let event : datagram.event ≡ number = ap (λ (d : Datagram). d.event) (sym one) ∙ is in
        record {
          offset = 0;
          timed = timed;
          there = (let sum : datagram.event ≡ number + 0 = omega (arith, event) in sum);
          at = refl;
          sends =
              ap (λ n. sent_by n timed.event) event ∙ (all ∙ ap (λ (d : Datagram). d ∷ []) one);
        }
    own rest sent is all (suc next) same = later (rest next same)

    by : Rest → (b : Bool) → Few number (sent_by number timed.event)
        → slice_get (cond b (sent_by number timed.event) [] ++ datagrams refused (number + 1) more) place ≡ Some datagram →
        SentAt refused number (timed ∷ more) datagram
    by rest false few same = later (rest place same)
    by rest true (Nothing none) same =
        later (rest place (ap (λ (l : List Datagram). slice_get (l ++ datagrams refused (number + 1) more) place) (sym none) ∙ same))
    by rest true (One sent is all) same =
        own rest sent is all place (ap (λ (l : List Datagram). slice_get (l ++ datagrams refused (number + 1) more) place) (sym all) ∙ same)

-- ---- datagrams in order

pub from_number : (refused : List ℕ) (number : ℕ) (all : List Timed) (place : ℕ) (datagram : Datagram)
    → slice_get (datagrams refused number all) place ≡ Some datagram → number ≤ datagram.event
from_number refused number all place datagram e =
    (let r = sent_there refused number all place datagram e in let there = r.there in omega (arith, there))

-- Datagrams stand in the order of their events.
pub in_order : (refused : List ℕ) (number : ℕ) (all : List Timed) (first second : ℕ) (a b : Datagram) → first < second
    → slice_get (datagrams refused number all) first ≡ Some a →
    slice_get (datagrams refused number all) second ≡ Some b → a.event < b.event
in_order refused number [] first second a b less e f = absurd (none-some a e)
in_order refused number (timed ∷ more) first second a b less e f =
    by (λ i j before at there. in_order refused (number + 1) more i j a b before at there) (few_at refused number timed)
  where
    rest : List Datagram
    rest = datagrams refused (number + 1) more

    Later : Type 0
    Later = (i j : ℕ) → i < j → slice_get rest i ≡ Some a → slice_get rest j ≡ Some b → a.event < b.event

    own : Later → (sent : Datagram) → sent.event ≡ number → (i j : ℕ) → i < j → slice_get (sent ∷ rest) i ≡ Some a
        → slice_get (sent ∷ rest) j ≡ Some b → a.event < b.event
    own later sent is i zero less e f = absurd (omega (arith, less))
    own later sent is zero (suc j) less e f =
        let low = from_number refused (number + 1) more j b f in
        let same : a.event ≡ number = ap (λ (d : Datagram). d.event) (sym (some_same sent a e)) ∙ is in
        omega (arith, low, same)
    own later sent is (suc i) (suc j) less e f = later i j (omega (arith, less)) e f

    by : Later → Few number (sent_at refused number timed) → a.event < b.event
    by later (Nothing none) =
        later first second less
        (ap (λ (l : List Datagram). slice_get (l ++ rest) first) (sym none) ∙ e)
        (ap (λ (l : List Datagram). slice_get (l ++ rest) second) (sym none) ∙ f)
    by later (One sent is all) =
        own later sent is first second less
        (ap (λ (l : List Datagram). slice_get (l ++ rest) first) (sym all) ∙ e)
        (ap (λ (l : List Datagram). slice_get (l ++ rest) second) (sym all) ∙ f)

-- ---- datagrams of first events

-- the datagram, if its event comes before that number
abbrev pub before : ℕ → Option Datagram → Option Datagram
before limit None = None
before limit (Some datagram) = cond (nat_lt datagram.event limit) (Some datagram) None

before_yes : (limit : ℕ) (datagram : Datagram) → datagram.event < limit → before limit (Some datagram) ≡ Some datagram
before_yes limit datagram less = ap (λ b. cond b (Some datagram) None) (lt-ltb datagram.event limit less)

before_no : (limit : ℕ) (datagram : Datagram) → limit ≤ datagram.event → before limit (Some datagram) ≡ None
before_no limit datagram le = ap (λ b. cond b (Some datagram) None) (le-ltb datagram.event limit le)

none_before : (refused : List ℕ) (number : ℕ) (all : List Timed) (place : ℕ) (o : Option Datagram)
    → slice_get (datagrams refused number all) place ≡ o → before (number + 0) o ≡ None
none_before refused number all place None e = refl
none_before refused number all place (Some datagram) e =
    (let low = from_number refused number all place datagram e in before_no (number + 0) datagram (omega (arith, low)))

-- The datagrams of the first events are those that come before the next event.
pub named_front : (refused : List ℕ) (number : ℕ) (all : List Timed) (count place : ℕ) →
    slice_get (datagrams refused number (take count all)) place ≡ before (number + count) (slice_get (datagrams refused number all) place)
named_front refused number all zero place = sym (none_before refused number all place (slice_get (datagrams refused number all) place) refl)
named_front refused number [] (suc count) place = refl
named_front refused number (timed ∷ more) (suc count) place =
    by (λ next. named_front refused (number + 1) more count next) (few_at refused number timed)
  where
    rest : List Datagram
    rest = datagrams refused (number + 1) more

    front : List Datagram
    front = datagrams refused (number + 1) (take count more)

    Rest : Type 0
    Rest = (next : ℕ) → slice_get front next ≡ before (number + 1 + count) (slice_get rest next)

    later : Rest → (next : ℕ) → slice_get front next ≡ before (number + suc count) (slice_get rest next)
    later each next = each next ∙ ap (λ n. before n (slice_get rest next)) (let same : number + 1 + count ≡ number + suc count = omega arith in same)

    own : Rest → (sent : Datagram) → sent.event ≡ number → (next : ℕ)
        → slice_get (sent ∷ front) next ≡ before (number + suc count) (slice_get (sent ∷ rest) next)
    own each sent is zero = sym (before_yes (number + suc count) sent (omega (arith, is)))
    own each sent is (suc next) = later each next

    by : Rest → Few number (sent_at refused number timed)
        → slice_get (sent_at refused number timed ++ front) place
        ≡ before (number + suc count) (slice_get (sent_at refused number timed ++ rest) place)
    by each (Nothing none) =
        subst (λ (l : List Datagram). slice_get (l ++ front) place ≡ before (number + suc count) (slice_get (l ++ rest) place)) (sym none)
        (later each place)
    by each (One sent is all) =
        subst (λ (l : List Datagram). slice_get (l ++ front) place ≡ before (number + suc count) (slice_get (l ++ rest) place)) (sym all)
        (own each sent is place)

-- ---- one event more

pub append_none : {X : Type 0} (xs : List X) → xs ++ [] ≡ xs
append_none [] = refl
append_none (x ∷ xs) = (λ i. x ∷ append_none xs i)

append_all : {X : Type 0} (xs ys zs : List X) → xs ++ (ys ++ zs) ≡ (xs ++ ys) ++ zs
append_all [] ys zs = refl
append_all (x ∷ xs) ys zs = (λ i. x ∷ append_all xs ys zs i)

pub one_more_sent : (refused : List ℕ) (number : ℕ) (all : List Timed) (place : ℕ) (timed : Timed) → slice_get all place ≡ Some timed →
    datagrams refused number (take (suc place) all) ≡ datagrams refused number (take place all) ++ sent_at refused (number + place) timed
one_more_sent refused number [] place timed e = absurd (none-some timed e)
one_more_sent refused number (first ∷ more) zero timed e =
    append_none (sent_at refused number first)
    ∙ (let plain : number ≡ number + 0 = omega arith in (λ i. sent_at refused (plain i) (some_same first timed e i)))
one_more_sent refused number (first ∷ more) (suc place) timed e =
    ap (λ (l : List Datagram). sent_at refused number first ++ l) (one_more_sent refused (number + 1) more place timed e)
    ∙ (append_all (sent_at refused number first) (datagrams refused (number + 1) (take place more)) (sent_at refused (number + 1 + place) timed)
    ∙ ap (λ n. (sent_at refused number first ++ datagrams refused (number + 1) (take place more)) ++ sent_at refused n timed)
    (let same : number + 1 + place ≡ number + suc place = omega arith in same))
