-- Where two histories are alike for a VPN, each datagram of one has its counterpart in the other.
use Rattle.std.proofs.Common.{◌≡◌, ℕ, ◌+◌, ◌⊎◌, inl, inr, Bool, true, false, cond, zero, suc, List, [], ◌∷◌, ◌++◌, map, take, slice_get, Some, refl, sym, ap, ◌∙◌, arith}
use Rattle.std.specs.List.{filter}
use Rattle.std.proofs.lemmas.Bool.{cond-true}
use Rattle.mv_base.specs.declared.ids.VrfId.{VrfId}
use Rattle.scenario_defs.specs.Vpn.{is_attached}
use Rattle.scenario_defs.specs.declared.event.Event.{Event}
use Rattle.scenario_defs.specs.declared.event.Event.TheVariants as events
use Rattle.scenario_defs.specs.declared.event.Timed.{Timed}
use Rattle.scenario_defs.specs.declared.scenario.Scenario.{Scenario}
use Rattle.mvpn_model.specs.Past.{is_accepted}
use Rattle.mvpn_model.specs.Report.{Datagram, sent_by, datagrams}
use Rattle.customer_laws.specs.Concerns.{concerns, Answered, answered, AreAlike}
use Rattle.customer_laws.specs.Reported.{Reported, history, HasCounterpart}

-- ---- what an event sends

-- an event sends nothing, or one datagram
record SendsOne (number : ℕ) (event : Event) : Type 0 where
  sent : Datagram
  is : sent_by number event ≡ sent ∷ []
  of : sent.event ≡ number

sends : (number : ℕ) (event : Event) → (sent_by number event ≡ []) ⊎ SendsOne number event
sends number (events.Send site source group payload) = inr (record { sent = _; is = refl; of = refl })
sends number (events.Packet site octets) = inr (record { sent = _; is = refl; of = refl })
sends number other = inl refl

-- the same event in another place sends the same datagram
elsewhere : (number place : ℕ) (event : Event) (datagram : Datagram) → sent_by number event ≡ datagram ∷ []
    → sent_by place event ≡ (record datagram { event = place }) ∷ []
elsewhere number place (events.Send site source group payload) datagram h = ap (map (λ (d : Datagram). record d { event = place })) h
elsewhere number place (events.Packet site octets) datagram h = ap (map (λ (d : Datagram). record d { event = place })) h
elsewhere number place other datagram h = absurd (let bad : [] ≡ datagram ∷ [] = h in cc)

-- it concerns the VPNs that the site of the datagram is attached to
of_site : (scenario : Scenario) (vrf : VrfId) (number : ℕ) (event : Event) (datagram : Datagram) → sent_by number event ≡ datagram ∷ [] →
    concerns scenario vrf event ≡ is_attached scenario vrf datagram.site
of_site scenario vrf number (events.Send site source group payload) datagram h =
    ap (is_attached scenario vrf) (let e : site ≡ datagram.site = cc in e)
of_site scenario vrf number (events.Packet site octets) datagram h = ap (is_attached scenario vrf) (let e : site ≡ datagram.site = cc in e)
of_site scenario vrf number other datagram h = absurd (let bad : [] ≡ datagram ∷ [] = h in cc)

-- ---- the event of a datagram

-- the accepted event that sent the datagram, of the events from that number on
record SentAt (refused : List ℕ) (number : ℕ) (all : List Timed) (datagram : Datagram) : Type 0 where
  offset : ℕ
  timed : Timed
  there : datagram.event ≡ number + offset
  at : slice_get all offset ≡ Some timed
  accepted : is_accepted refused timed ≡ true
  is : sent_by datagram.event timed.event ≡ datagram ∷ []

sent_there : (refused : List ℕ) (number : ℕ) (all : List Timed) (place : ℕ) (datagram : Datagram)
    → slice_get (datagrams refused number all) place ≡ Some datagram →
    SentAt refused number all datagram
sent_there refused number [] place datagram h = absurd (let bad : slice_get [] place ≡ Some datagram = h in cc)
sent_there refused number (timed ∷ more) place datagram h =
    by (λ next same. sent_there refused (number + 1) more next datagram same) (is_accepted refused timed) refl (sends number timed.event) h
  where
    Rest : Type 0
    Rest = (next : ℕ) → slice_get (datagrams refused (number + 1) more) next ≡ Some datagram → SentAt refused (number + 1) more datagram

    later : SentAt refused (number + 1) more datagram → SentAt refused number (timed ∷ more) datagram
    later r = (let there = r.there in
        record { offset = suc r.offset; timed = r.timed; there = omega (arith, there); at = r.at; accepted = r.accepted; is = r.is })

    own : Rest → is_accepted refused timed ≡ true → (one : SendsOne number timed.event) → (next : ℕ)
        → slice_get (one.sent ∷ datagrams refused (number + 1) more) next ≡ Some datagram →
        SentAt refused number (timed ∷ more) datagram
    own rest yes_accepted one zero same =
        let here : one.sent ≡ datagram = cc in
        let event : datagram.event ≡ number = ap (λ (d : Datagram). d.event) (sym here) ∙ one.of in
        record {
          offset = 0;
          timed = timed;
          there = omega (arith, event);
          at = refl;
          accepted = yes_accepted;
          is =
              ap (λ n. sent_by n timed.event) event ∙ one.is ∙ ap (λ (d : Datagram). d ∷ []) here;
        }
    own rest yes_accepted one (suc next) same = later (rest next same)

    by : Rest → (b : Bool) → is_accepted refused timed ≡ b → (sent_by number timed.event ≡ []) ⊎ SendsOne number timed.event →
        slice_get (cond b (sent_by number timed.event) [] ++ datagrams refused (number + 1) more) place ≡ Some datagram
        → SentAt refused number (timed ∷ more) datagram
    by rest false e s same = later (rest place same)
    by rest true e (inl none) same =
        later (rest place (ap (λ (l : List Datagram). slice_get (l ++ datagrams refused (number + 1) more) place) (sym none) ∙ same))
    by rest true e (inr one) same =
        own rest e one place (ap (λ (l : List Datagram). slice_get (l ++ datagrams refused (number + 1) more) place) (sym one.is) ∙ same)

-- where the datagram of an accepted event stands
record Placed (refused : List ℕ) (number : ℕ) (all : List Timed) (datagram : Datagram) : Type 0 where
  place : ℕ
  at : slice_get (datagrams refused number all) place ≡ Some datagram

placed : (refused : List ℕ) (number : ℕ) (all : List Timed) (offset : ℕ) (timed : Timed) (datagram : Datagram) → slice_get all offset ≡ Some timed →
    is_accepted refused timed ≡ true → sent_by (number + offset) timed.event ≡ datagram ∷ [] → Placed refused number all datagram
placed refused number [] offset timed datagram at accepted is = absurd (let bad : slice_get [] offset ≡ Some timed = at in cc)
placed refused number (first ∷ more) zero timed datagram at accepted is =
    let same : first ≡ timed = cc in
    let plain : number ≡ number + 0 = omega arith in
    let sent : sent_by number first.event ≡ datagram ∷ [] = (λ i. sent_by (plain i) (same i).event) ∙ is in
    let taken : is_accepted refused first ≡ true = ap (is_accepted refused) same ∙ accepted in
    let front : cond (is_accepted refused first) (sent_by number first.event) [] ≡ datagram ∷ [] =
    cond-true (is_accepted refused first) (sent_by number first.event) [] taken ∙ sent in
    record { place = 0; at = ap (λ (l : List Datagram). slice_get (l ++ datagrams refused (number + 1) more) 0) front }
placed refused number (first ∷ more) (suc offset) timed datagram at accepted is =
    thereafter (placed refused (number + 1) more offset timed datagram at accepted
    ((let sum : number + 1 + offset ≡ number + suc offset = omega arith in ap (λ n. sent_by n timed.event) sum) ∙ is))
    (is_accepted refused first) refl (sends number first.event)
  where
    thereafter : Placed refused (number + 1) more datagram → (b : Bool) → is_accepted refused first ≡ b
        → (sent_by number first.event ≡ []) ⊎ SendsOne number first.event →
        Placed refused number (first ∷ more) datagram
    thereafter p false e s =
        record {
          place = p.place;
          at =
              ap (λ (b : Bool). slice_get (cond b (sent_by number first.event) [] ++ datagrams refused (number + 1) more) p.place) e ∙ p.at;
        }
    thereafter p true e (inl none) =
        record {
          place = p.place;
          at =
              (λ i. slice_get (cond (e i) (sent_by number first.event) [] ++ datagrams refused (number + 1) more) p.place)
              ∙ ap (λ (l : List Datagram). slice_get (l ++ datagrams refused (number + 1) more) p.place) none ∙ p.at;
        }
    thereafter p true e (inr one) =
        record {
          place = suc p.place;
          at = (λ i. slice_get (cond (e i) (sent_by number first.event) [] ++ datagrams refused (number + 1) more) (suc p.place))
              ∙ ap (λ (l : List Datagram). slice_get (l ++ datagrams refused (number + 1) more) (suc p.place)) one.is ∙ p.at;
        }

-- ---- events that are kept

abbrev kept : (Answered → Bool) → List ℕ → List Timed → List Answered
kept keep refused all = filter keep (map (answered refused) all)

-- one that is kept parts them
record Parts (keep : Answered → Bool) (refused : List ℕ) (all : List Timed) (offset : ℕ) (own : Answered) : Type 0 where
  rest : List Answered
  is : kept keep refused all ≡ kept keep refused (take offset all) ++ own ∷ rest

parts : (keep : Answered → Bool) (refused : List ℕ) (all : List Timed) (offset : ℕ) (timed : Timed) → slice_get all offset ≡ Some timed
    → keep (answered refused timed) ≡ true →
    Parts keep refused all offset (answered refused timed)
parts keep refused [] offset timed at h = absurd (let bad : slice_get [] offset ≡ Some timed = at in cc)
parts keep refused (first ∷ more) zero timed at h =
    let same : first ≡ timed = cc in
    let taken : keep (answered refused first) ≡ true = ap (λ (t : Timed). keep (answered refused t)) same ∙ h in
    record {
      rest = kept keep refused more;
      is = cond-true (keep (answered refused first)) (answered refused first ∷ kept keep refused more) (kept keep refused more) taken
          ∙ ap (λ (t : Timed). answered refused t ∷ kept keep refused more) same;
    }
parts keep refused (first ∷ more) (suc offset) timed at h =
    let r = parts keep refused more offset timed at h in
    record { rest = r.rest; is = by r.rest r.is (keep (answered refused first)) }
  where
    by : (rest : List Answered) → kept keep refused more ≡ kept keep refused (take offset more) ++ answered refused timed ∷ rest → (b : Bool) →
        cond b (answered refused first ∷ kept keep refused more) (kept keep refused more)
        ≡ cond b (answered refused first ∷ kept keep refused (take offset more)) (kept keep refused (take offset more)) ++ answered refused timed
        ∷ rest
    by rest is true = ap (λ l. answered refused first ∷ l) is
    by rest is false = is

-- the event that parts the kept ones so
record Found (keep : Answered → Bool) (refused : List ℕ) (all : List Timed) (before : List Answered) (own : Answered) : Type 0 where
  offset : ℕ
  timed : Timed
  at : slice_get all offset ≡ Some timed
  is : answered refused timed ≡ own
  front : kept keep refused (take offset all) ≡ before

found : (keep : Answered → Bool) (refused : List ℕ) (all : List Timed) (before : List Answered) (own : Answered) (rest : List Answered) →
    kept keep refused all ≡ before ++ own ∷ rest → Found keep refused all before own
found keep refused [] [] own rest h = absurd (let bad : [] ≡ own ∷ rest = h in cc)
found keep refused [] (b ∷ bs) own rest h = absurd (let bad : [] ≡ b ∷ (bs ++ own ∷ rest) = h in cc)
found keep refused (first ∷ more) before own rest h =
    by (λ bs same. found keep refused more bs own rest same) (keep (answered refused first)) refl before h
  where
    Rest : Type 0
    Rest = (bs : List Answered) → kept keep refused more ≡ bs ++ own ∷ rest → Found keep refused more bs own

    by : Rest → (b : Bool) → keep (answered refused first) ≡ b → (all : List Answered) →
        cond b (answered refused first ∷ kept keep refused more) (kept keep refused more) ≡ all ++ own ∷ rest
        → Found keep refused (first ∷ more) all own
    by later false e all same =
        let f = later all same in
        record {
          offset = suc f.offset;
          timed = f.timed;
          at = f.at;
          is = f.is;
          front = ap (λ (b : Bool). cond b (answered refused first ∷ kept keep refused (take f.offset more)) (kept keep refused (take f.offset more)))
              e ∙ f.front;
        }
    by later true e [] same =
        let here : answered refused first ≡ own = cc in
        record { offset = 0; timed = first; at = refl; is = here; front = refl }
    by later true e (b ∷ bs) same =
        let here : answered refused first ≡ b = cc in
        let thereafter : kept keep refused more ≡ bs ++ own ∷ rest = cc in
        let f = later bs thereafter in
        record {
          offset = suc f.offset;
          timed = f.timed;
          at = f.at;
          is = f.is;
          front = ap (λ (b : Bool). cond b (answered refused first ∷ kept keep refused (take f.offset more)) (kept keep refused (take f.offset more)))
              e
              ∙ (λ i. here i ∷ f.front i);
        }

-- ---- the law

pub has_counterpart : (scenario : Scenario) (vrf : VrfId) (one other : Reported) → AreAlike vrf (history scenario one) (history scenario other) →
    (place : ℕ) (datagram : Datagram) → slice_get (datagrams one.refused 0 one.events) place ≡ Some datagram
    → is_attached scenario vrf datagram.site ≡ true →
    HasCounterpart scenario vrf one other datagram
has_counterpart scenario vrf one other alike place datagram h attached =
    let keep : Answered → Bool = λ own. concerns scenario vrf own.event in
    let s = sent_there one.refused 0 one.events place datagram h in
    let event : datagram.event ≡ s.offset = (let there = s.there in omega (arith, there)) in
    let concerned : concerns scenario vrf s.timed.event ≡ true = of_site scenario vrf datagram.event s.timed.event datagram s.is ∙ attached in
    let p = parts keep one.refused one.events s.offset s.timed s.at concerned in
    let f = found keep other.refused other.events (kept keep one.refused (take s.offset one.events)) (answered one.refused s.timed) p.rest
    (sym alike.events ∙ p.is) in
    let accepted : is_accepted other.refused f.timed ≡ true = ap (λ (a : Answered). a.accepted) f.is ∙ s.accepted in
    let sent : sent_by f.offset f.timed.event ≡ (record datagram { event = f.offset }) ∷ [] =
    ap (λ (a : Answered). sent_by f.offset a.event) f.is ∙ elsewhere datagram.event f.offset s.timed.event datagram s.is in
    let plain : 0 + f.offset ≡ f.offset = omega arith in
    let there =
    placed other.refused 0 other.events f.offset f.timed (record datagram { event = f.offset }) f.at accepted
    (ap (λ n. sent_by n f.timed.event) plain ∙ sent) in
    record {
      place = there.place;
      counterpart = record datagram { event = f.offset };
      accepted = there.at;
      octets = refl;
      same = record {
        site = refl;
        source = refl;
        group = refl;
        before = record {
          scenario = refl;
          events = ap (λ n. kept keep one.refused (take n one.events)) event ∙ sym f.front;
        };
      };
    }
