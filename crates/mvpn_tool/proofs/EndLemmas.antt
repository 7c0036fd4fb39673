-- Laws of how a replay ends.
use Rattle.std.proofs.Common.{◌≡◌, ◌≢◌, ℕ, ◌<◌, ◌⊎◌, List, ◌++◌, length, drop, cond, refl, inl, inr, sym, ap, subst, ◌∙◌, arith, length-append}
use Rattle.std.proofs.lemmas.List.{append-nil, drop_all}
use Rattle.std.proofs.lemmas.Bool.{cases_lt, lt-ltb}
use Rattle.std.proofs.Math.Seq.{drop-append_seam}
use Rattle.std.specs.Prelude.{Option, None, Some, Result, Ok, Err, IfErr, nat_lt, Bool, true}
use Rattle.mv_io.specs.Octets.{Appended, AppendedPart}
use Rattle.scenario_defs.specs.declared.event.Script.{Script}
use Rattle.line_words.specs.declared.fault.TextFault.{TextFault}
use Rattle.line_words.specs.FaultText.{fault_text}
use Rattle.scenario_text.specs.Grammar.{script_of}
use Rattle.ingress_text.specs.Grammar.{input_of}
use Rattle.probe_text.specs.Grammar.{probe_of}
use Rattle.mvpn_tool.specs.HopLines.{within_limit}
use Rattle.network_events.specs.WorldView.{WorldView}
use Rattle.mvpn_tool.specs.declared.command.Output.{Output}
use Rattle.mvpn_tool.specs.declared.stop.Stop.{Stop}
use Rattle.mvpn_tool.specs.declared.stop.Stop.TheVariants as stops
use Rattle.mvpn_tool.specs.Input.{IsInput, IsReadUpTo, Taken}
use Rattle.mvpn_tool.specs.Outcome.{ReplayEnds, Replays, Takes}
use Rattle.mvpn_tool.specs.TellOutcome.{IsBounded}
use Rattle.decode_text.specs.HexText.{octets_of}

-- Some input that the source may have had says what these octets say.
pub record SaysAlike {X : Type 0} (says : List ℕ → X) (left : Option (List ℕ)) (octets : List ℕ) : Type 0 where
  pub input : List ℕ
  pub is_input : IsInput left input
  pub same : says input ≡ says octets

both_true : {A : Type 0} (b c : Bool) (x y z : A) → b ≡ true → c ≡ true → cond b x y ≡ cond c x z
both_true b c x y z h k = rw (h, k) refl

-- A text that is too long says the same whatever follows it.
long_alike : {X : Type 0} (octets more : List ℕ) (long x y : X) → 16777216 < length octets
    → cond (nat_lt 16777216 (length (octets ++ more))) long x ≡ cond (nat_lt 16777216 (length octets)) long y
long_alike octets more long x y h =
    both_true (nat_lt 16777216 (length (octets ++ more))) (nat_lt 16777216 (length octets)) long x y
    (lt-ltb 16777216 (length (octets ++ more)) (omega (arith, length-append octets more, h))) (lt-ltb 16777216 (length octets) h)

-- So each text that a command reads is bounded.
pub script-bounded : IsBounded script_of
script-bounded octets h more = long_alike octets more _ _ _ h

pub hex-bounded : IsBounded octets_of
hex-bounded octets h more = long_alike octets more _ _ _ h

pub limit-bounded : IsBounded within_limit
limit-bounded octets h more = long_alike octets more _ _ _ h

pub ingress-bounded : IsBounded input_of
ingress-bounded octets h more = long_alike octets more _ _ _ h

pub probe-bounded : IsBounded probe_of
probe-bounded octets h more = long_alike octets more _ _ _ h

-- What was read says what the whole input says.
pub says-alike : {X : Type 0} (says : List ℕ → X) (left new : Option (List ℕ)) (octets : List ℕ) → IsBounded says
    → IsReadUpTo 16777216 left new octets → SaysAlike says left octets
says-alike says None new octets b h = record { input = octets; is_input = tt; same = refl }
says-alike says (Some xs) None octets b h = absurd h.taken
says-alike says (Some xs) (Some ys) octets b h = elim (cases_lt 16777216 (length octets)) [
  | inl lt ↦ record { input = xs; is_input = refl; same = rw h.taken (b octets lt ys) }
  | inr le ↦ record { input = octets; is_input = rw h.taken (rw (h.whole le) (append-nil octets)); same = refl }
]

-- What was read is the input, or its octets up to one past the limit.
pub read-taken : (left new : Option (List ℕ)) (octets : List ℕ) → IsReadUpTo 16777216 left new octets → Taken left new
read-taken None new octets h = tt
read-taken (Some xs) None octets h = tt
read-taken (Some xs) (Some ys) octets h = elim (cases_lt 16777216 (length octets)) [
  | inl lt ↦ let e : length octets ≡ 16777217 = omega (arith, lt, h.within) in
      rw h.taken (subst (λ (n : ℕ). ys ≡ drop n (octets ++ ys)) e (sym (drop-append_seam octets ys)))
  | inr le ↦ h.whole le ∙ sym (drop_all 16777217 xs (omega (arith, ap length h.taken, length-append octets ys, ap length (h.whole le), le)))
]

-- The input was taken, however the replay ended.
pub takes : (left new : Option (List ℕ)) (result : Result WorldView Stop) → Taken left new → Takes result left new
takes left new (Ok view) t = t
takes left new (Err stops.Text) t = t
takes left new (Err stops.Source) t = tt
takes left new (Err stops.Sink) t = t
takes left new (Err stops.Memory) t = tt
takes left new (Err stops.Label) t = t

-- The text had a fault.
pub ends-fault : (output : Output) (left old new : Option (List ℕ)) (octets : List ℕ) (fault : TextFault) (stop : Stop)
    → SaysAlike script_of left octets → script_of octets ≡ Err fault →
    (stop ≡ stops.Text → Appended old new (fault_text fault)) → (stop ≡ stops.Text) ⊎ AppendedPart old new (fault_text fault)
    → (stop ≢ stops.Source) × (stop ≢ stops.Label) → ReplayEnds output left (Err stop) old new
ends-fault output left old new octets fault stops.Text a e w p n =
    record { input = a.input; is_input = a.is_input; fault = fault; said = a.same ∙ e; text = w refl }
ends-fault output left old new octets fault stops.Source a e w p n = absurd (n.0 refl)
ends-fault output left old new octets fault stops.Sink a e w (inl t) n = absurd cc
ends-fault output left old new octets fault stops.Sink a e w (inr p) n = record { input = a.input; is_input = a.is_input; part = rw (a.same, e) p }
ends-fault output left old new octets fault stops.Memory a e w (inl t) n = absurd cc
ends-fault output left old new octets fault stops.Memory a e w (inr p) n =
    inr (record { input = a.input; is_input = a.is_input; part = rw (a.same, e) p })
ends-fault output left old new octets fault stops.Label a e w p n = absurd (n.1 refl)

-- The script was replayed.
pub ends-script : (output : Output) (left old new : Option (List ℕ)) (octets : List ℕ) (script : Script) (result : Result WorldView Stop)
    → SaysAlike script_of left octets → script_of octets ≡ Ok script →
    Replays output script result old new → IfErr result (λ e. (e ≡ stops.Label) ⊎ (e ≡ stops.Sink) ⊎ (e ≡ stops.Memory))
    → ReplayEnds output left result old new
ends-script output left old new octets script (Ok view) a e r o =
    record { input = a.input; is_input = a.is_input; script = script; said = a.same ∙ e; holds = r }
ends-script output left old new octets script (Err stops.Label) a e r o =
    record { input = a.input; is_input = a.is_input; script = script; said = a.same ∙ e; holds = r }
ends-script output left old new octets script (Err stops.Sink) a e r o = record { input = a.input; is_input = a.is_input; part = rw (a.same, e) r }
ends-script output left old new octets script (Err stops.Memory) a e r o =
    inr (record { input = a.input; is_input = a.is_input; part = rw (a.same, e) r })
ends-script output left old new octets script (Err stops.Text) a e r (inl t) = absurd cc
ends-script output left old new octets script (Err stops.Text) a e r (inr (inl t)) = absurd cc
ends-script output left old new octets script (Err stops.Text) a e r (inr (inr t)) = absurd cc
ends-script output left old new octets script (Err stops.Source) a e r (inl t) = absurd cc
ends-script output left old new octets script (Err stops.Source) a e r (inr (inl t)) = absurd cc
ends-script output left old new octets script (Err stops.Source) a e r (inr (inr t)) = absurd cc
