-- Laws of how a command ends that reads a text and shows what is in it.
use Rattle.std.proofs.Common.{◌≡◌, ◌≢◌, ℕ, ◌⊎◌, List, refl, inl, inr, sym, ap, ◌∙◌, arith}
use Rattle.std.specs.Prelude.{Option, None, Some, Result, Ok, Err, IfErr, IfOk, IsErrOf, OnErr, OnOk, Bool, true, false}
use Rattle.mv_io.specs.Causes.{Rose}
use Rattle.mv_io.specs.Octets.{Appended, AppendedPart}
use Rattle.line_words.specs.FaultText.{fault_text}
use Rattle.line_words.specs.declared.fault.TextFault.{TextFault}
use Rattle.mvpn_tool.specs.declared.stop.Stop.{Stop}
use Rattle.mvpn_tool.specs.declared.stop.Stop.TheVariants as stops
use Rattle.mvpn_tool.specs.Input.{IsInput, Taken}
use Rattle.mvpn_tool.specs.Runs.{TellRun}
use Rattle.mvpn_tool.specs.TellOutcome.{TellEnds, TellTakes, TellsText, ToldPart, tell_status}
use Rattle.mvpn_tool.proofs.EndLemmas.{SaysAlike}

abbrev pub answer : Bool → Result Bool Stop
answer b = Ok b

abbrev failed : Stop → Result Bool Stop
failed stop = Err stop

-- The input was taken, however the command ended.
pub tell_takes : (left new : Option (List ℕ)) (result : Result Bool Stop) → Taken left new → result ≢ Err stops.Label → TellTakes result left new
tell_takes left new (Ok refused) t n = t
tell_takes left new (Err stops.Text) t n = t
tell_takes left new (Err stops.Source) t n = tt
tell_takes left new (Err stops.Sink) t n = t
tell_takes left new (Err stops.Memory) t n = tt
tell_takes left new (Err stops.Label) t n = absurd (n refl)

-- Writing what is shown does not run out of labels, nor does writing a fault.
pub not_label : (result : Result Bool Stop) → IfErr result (λ e. e ≡ stops.Sink) → result ≢ Err stops.Label
not_label (Ok refused) o e = absurd cc
not_label (Err stop) o e = absurd cc

pub fault_not_label : (stop : Stop) → stop ≢ stops.Label → failed stop ≢ failed stops.Label
fault_not_label stop n e = n cc

some_is : (x y : List ℕ) → Some x ≡ Some y → x ≡ y
some_is x y e = cc

module _ {X : Type 0} (read : List ℕ → Result X TextFault) where
  -- ---- what is read

  abbrev says : X → Result X TextFault
  says what = Ok what

  -- An input says something or has a fault, and not both.
  said_whole : (left : Option (List ℕ)) (text input : List ℕ) (what : X) (fault : TextFault) → IsInput left text → read text ≡ says what
      → left ≡ Some input → read input ≡ Err fault → ⊥
  said_whole None text input what fault is e l h = absurd cc
  said_whole (Some xs) text input what fault is e l h =
      (let both : says what ≡ Err fault = sym e ∙ ap read (sym is ∙ some_is xs input l) ∙ h in absurd cc)

  said_faulty : (left : Option (List ℕ)) (text input : List ℕ) (what : X) (fault : TextFault) → IsInput left text → read text ≡ Err fault
      → left ≡ Some input → read input ≡ says what → ⊥
  said_faulty None text input what fault is e l h = absurd cc
  said_faulty (Some xs) text input what fault is e l h =
      (let both : says what ≡ Err fault = sym h ∙ ap read (sym (sym is ∙ some_is xs input l)) ∙ e in absurd cc)

  module _ (Tells : Bool → X → List ℕ → Type 0) where
    -- ---- how it ends

    -- The text had a fault.
    pub tell_faulty : (left old new : Option (List ℕ)) (octets : List ℕ) (fault : TextFault) (stop : Stop) →
        (stop ≡ stops.Text → Appended old new (fault_text fault)) → (stop ≡ stops.Text) ⊎ AppendedPart old new (fault_text fault)
        → (stop ≢ stops.Source) × (stop ≢ stops.Label) →
        SaysAlike read left octets → read octets ≡ Err fault → TellEnds read Tells left (Err stop) old new
    tell_faulty left old new octets fault stops.Text w p n a e =
        record { input = a.input; is_input = a.is_input; fault = fault; said = a.same ∙ e; text = w refl }
    tell_faulty left old new octets fault stops.Source w p n a e = absurd (n.0 refl)
    tell_faulty left old new octets fault stops.Sink w (inl t) n a e = absurd cc
    tell_faulty left old new octets fault stops.Sink w (inr p) n a e = record { input = a.input; is_input = a.is_input; part = rw (a.same, e) p }
    tell_faulty left old new octets fault stops.Memory w (inl t) n a e = absurd cc
    tell_faulty left old new octets fault stops.Memory w (inr p) n a e =
        inr (record { input = a.input; is_input = a.is_input; part = rw (a.same, e) p })
    tell_faulty left old new octets fault stops.Label w p n a e = absurd (n.1 refl)

    -- What is shown was written.
    pub tell_ends : (left old new : Option (List ℕ)) (octets text : List ℕ) (refused : Bool) (result : Result Bool Stop)
        → SaysAlike read left octets → TellsText read Tells refused octets text → OnOk result (Appended old new text)
        → OnErr result (AppendedPart old new text) → IfOk result (λ b. b ≡ refused) → IfErr result (λ e. e ≡ stops.Sink)
        → TellEnds read Tells left result old new
    tell_ends left old new octets text refused (Ok b) a t ok part is o =
        record { input = a.input; is_input = a.is_input; what = t.what; said = a.same ∙ t.said; text = text; tells = rw is t.tells; written = ok }
    tell_ends left old new octets text refused (Err e) a t ok part is o =
        let shown : ToldPart Tells t.what old new = record { refused = refused; text = text; tells = t.tells; written = part } in
        rw o (record { input = a.input; is_input = a.is_input; part = rw (a.same, t.said) shown })

    -- ---- each status

    module _ (IsSound IsFaulty : X → Type 0) (left rest old new : Option (List ℕ)) (source_before source_now sink_before sink_now : ℕ) where
      pub tell_run : (result : Result Bool Stop) → TellEnds read Tells left result old new → TellTakes result left rest
          → ((input : List ℕ) (what : X) → left ≡ Some input → read input ≡ Ok what → IsSound what → result ≢ answer true)
          → ((input : List ℕ) (what : X) → left ≡ Some input → read input ≡ Ok what → IsFaulty what → result ≢ answer false)
          → (IsErrOf result stops.Source → Rose source_before source_now) → (IsErrOf result stops.Sink → Rose sink_before sink_now)
          → TellRun read Tells IsSound IsFaulty (record {
            status = tell_status result;
            world = None;
            left = left;
            rest = rest;
            old = old;
            new = new;
            source_before = source_before;
            source_now = source_now;
            sink_before = sink_before;
            sink_now = sink_now;
          })
      tell_run (Ok false) ends takes sound faulty source sink = record {
        zero = λ e. ends;
        one = λ e. absurd (omega (arith, e));
        one_always = λ input what l s has. absurd (faulty input what l s has refl);
        three = λ e. absurd (omega (arith, e));
        three_always = λ input fault l h. absurd (said_whole left ends.input input ends.what fault ends.is_input ends.said l h);
        four = λ e. absurd (omega (arith, e));
        four_cause = λ e. absurd (omega (arith, e));
        five = λ e. absurd (omega (arith, e));
        five_cause = λ e. absurd (omega (arith, e));
        six = λ e. absurd (omega (arith, e));
        taken = λ e f. takes;
        complete = λ input what a b l s is. inl refl;
        only = inl refl;
        worldless = refl;
      }
      tell_run (Ok true) ends takes sound faulty source sink = record {
        zero = λ e. absurd (omega (arith, e));
        one = λ e. ends;
        one_always = λ input what l s has. inl refl;
        three = λ e. absurd (omega (arith, e));
        three_always = λ input fault l h. absurd (said_whole left ends.input input ends.what fault ends.is_input ends.said l h);
        four = λ e. absurd (omega (arith, e));
        four_cause = λ e. absurd (omega (arith, e));
        five = λ e. absurd (omega (arith, e));
        five_cause = λ e. absurd (omega (arith, e));
        six = λ e. absurd (omega (arith, e));
        taken = λ e f. takes;
        complete = λ input what a b l s is. absurd (sound input what l s is refl);
        only = inr (inl refl);
        worldless = refl;
      }
      tell_run (Err stops.Text) ends takes sound faulty source sink = record {
        zero = λ e. absurd (omega (arith, e));
        one = λ e. absurd (omega (arith, e));
        one_always = λ input what l s has. absurd (said_faulty left ends.input input what ends.fault ends.is_input ends.said l s);
        three = λ e. ends;
        three_always = λ input fault l h. inl refl;
        four = λ e. absurd (omega (arith, e));
        four_cause = λ e. absurd (omega (arith, e));
        five = λ e. absurd (omega (arith, e));
        five_cause = λ e. absurd (omega (arith, e));
        six = λ e. absurd (omega (arith, e));
        taken = λ e f. takes;
        complete = λ input what a b l s is. absurd (said_faulty left ends.input input what ends.fault ends.is_input ends.said l s);
        only = inr (inr (inl refl));
        worldless = refl;
      }
      tell_run (Err stops.Source) ends takes sound faulty source sink = record {
        zero = λ e. absurd (omega (arith, e));
        one = λ e. absurd (omega (arith, e));
        one_always = λ input what l s has. inr (inl refl);
        three = λ e. absurd (omega (arith, e));
        three_always = λ input fault l h. inr (inl refl);
        four = λ e. ends;
        four_cause = λ e. source refl;
        five = λ e. absurd (omega (arith, e));
        five_cause = λ e. absurd (omega (arith, e));
        six = λ e. absurd (omega (arith, e));
        taken = λ e f. absurd (e refl);
        complete = λ input what a b l s is. absurd (a (source refl));
        only = inr (inr (inr (inl refl)));
        worldless = refl;
      }
      tell_run (Err stops.Sink) ends takes sound faulty source sink = record {
        zero = λ e. absurd (omega (arith, e));
        one = λ e. absurd (omega (arith, e));
        one_always = λ input what l s has. inr (inr (inl refl));
        three = λ e. absurd (omega (arith, e));
        three_always = λ input fault l h. inr (inr (inl refl));
        four = λ e. absurd (omega (arith, e));
        four_cause = λ e. absurd (omega (arith, e));
        five = λ e. ends;
        five_cause = λ e. sink refl;
        six = λ e. absurd (omega (arith, e));
        taken = λ e f. takes;
        complete = λ input what a b l s is. absurd (b (sink refl));
        only = inr (inr (inr (inr (inl refl))));
        worldless = refl;
      }
      tell_run (Err stops.Memory) ends takes sound faulty source sink = record {
        zero = λ e. absurd (omega (arith, e));
        one = λ e. absurd (omega (arith, e));
        one_always = λ input what l s has. inr (inr (inr refl));
        three = λ e. absurd (omega (arith, e));
        three_always = λ input fault l h. inr (inr (inr refl));
        four = λ e. absurd (omega (arith, e));
        four_cause = λ e. absurd (omega (arith, e));
        five = λ e. absurd (omega (arith, e));
        five_cause = λ e. absurd (omega (arith, e));
        six = λ e. ends;
        taken = λ e f. absurd (f refl);
        complete = λ input what a b l s is. inr refl;
        only = inr (inr (inr (inr (inr refl))));
        worldless = refl;
      }
      tell_run (Err stops.Label) ends takes sound faulty source sink = absurd ends
