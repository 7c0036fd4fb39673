-- A text is what its lines say, or has a first fault.
use Rattle.std.proofs.Common.{◌≡◌, ℕ, ◌+◌, ◌≤◌, ◌<◌, Bool, true, false, List, [], ◌∷◌, length, refl, sym, ap, subst, ◌∙◌, cond, arith, nat_lt}
use Rattle.std.specs.Prelude.{Result, Ok, Err}
use Rattle.std.specs.Str.Lines.{lines}
use Rattle.std.proofs.lemmas.Bool.Decides.{nat_tests}
use Rattle.scenario_defs.specs.declared.event.Script.{Script}
use Rattle.line_words.specs.declared.fault.TextFault.{TextFault}
use Rattle.line_words.specs.declared.fault.Reason.TheVariants as reasons
use Rattle.line_words.specs.Forms.{◌>>=◌}
use Rattle.scenario_lines.specs.declared.scenario_draft.line.Line.{Line}
use Rattle.scenario_lines.specs.scenario_draft.Drafted.{Drafted}
use Rattle.scenario_lines.specs.scenario_draft.Adding.{added, empty_draft}
use Rattle.scenario_text.specs.Grammar.{line_of, script_at, script_of, script_from}
use Rattle.scenario_text.specs.Faults.{Says, SaysScript, FirstFault, IsFaultyAt}

end_fault : (old : Drafted) (number : ℕ) (fault : TextFault) (b : Bool) → old.begun ≡ b
    → cond {A = Result Script TextFault} b (Ok (script_at old number)) (Err (record { line = number; column = 1; reason = reasons.Events }))
    ≡ Err fault → IsFaultyAt old number [] fault
end_fault old number fault true e h = absurd cc
end_fault old number fault false e h = (e, cc)

step_fault : (old : Drafted) (number : ℕ) (octets : List ℕ) (more : List (List ℕ)) (fault : TextFault) (r : Result Line TextFault)
    → line_of old number octets ≡ r → (r >>= λ said. script_from (added old number said) (number + 1) more) ≡ Err fault
    → ((said : Line) → script_from (added old number said) (number + 1) more ≡ Err fault → FirstFault (added old number said) (number + 1) more fault)
    → FirstFault old number (octets ∷ more) fault
step_fault old number octets more fault (Ok said) e h again =
    let f = again said h in
    record {
      front = octets ∷ f.front;
      rest = f.rest;
      draft = f.draft;
      whole = ap (λ (l : List (List ℕ)). octets ∷ l) f.whole;
      says = (said, e, f.says);
      faulty = let n : (number + 1) + length f.front ≡ number + length (octets ∷ f.front) = omega arith in
          subst (λ (k : ℕ). IsFaultyAt f.draft k f.rest fault) n f.faulty;
    }
step_fault old number octets more fault (Err other) e h again =
    record {
      front = [];
      rest = octets ∷ more;
      draft = old;
      whole = refl;
      says = refl;
      faulty = let n : number ≡ number + 0 = omega arith in
          let q : other ≡ fault = cc in let errs : TextFault → Result Line TextFault = λ x. Err x in
          subst (λ (k : ℕ). line_of old k octets ≡ Err fault) n (e ∙ ap errs q);
    }

-- What reading tells as a fault is the first fault.
pub first_fault : (old : Drafted) (number : ℕ) (all : List (List ℕ)) (fault : TextFault) → script_from old number all ≡ Err fault
    → FirstFault old number all fault
first_fault old number [] fault h =
    record {
      front = [];
      rest = [];
      draft = old;
      whole = refl;
      says = refl;
      faulty = let n : number ≡ number + 0 = omega arith in
          subst (λ (k : ℕ). IsFaultyAt old k [] fault) n (end_fault old number fault old.begun refl h);
    }
first_fault old number (octets ∷ more) fault h =
    step_fault old number octets more fault (line_of old number octets) refl h (λ said. first_fault (added old number said) (number + 1) more fault)

end_says : (old : Drafted) (script : Script) (number : ℕ) (b : Bool) → old.begun ≡ b
    → cond {A = Result Script TextFault} b (Ok (script_at old number)) (Err (record { line = number; column = 1; reason = reasons.Events }))
    ≡ Ok script → SaysScript old number [] script
end_says old script number true e h =
    let s : script ≡ script_at old number = cc in
    let n : number ≡ number + 0 = omega arith in
    record { draft = old; says = refl; begun = e; told = subst (λ (k : ℕ). script ≡ script_at old k) n s }
end_says old script number false e h = absurd cc

step_says : (old : Drafted) (script : Script) (number : ℕ) (octets : List ℕ) (more : List (List ℕ)) (r : Result Line TextFault)
    → line_of old number octets ≡ r → (r >>= λ said. script_from (added old number said) (number + 1) more) ≡ Ok script
    → ((said : Line) → script_from (added old number said) (number + 1) more ≡ Ok script
    → SaysScript (added old number said) (number + 1) more script) → SaysScript old number (octets ∷ more) script
step_says old script number octets more (Ok said) e h again =
    let a = again said h in
    let n : (number + 1) + length more ≡ number + length (octets ∷ more) = omega arith in
    record { draft = a.draft; says = (said, e, a.says); begun = a.begun; told = subst (λ (k : ℕ). script ≡ script_at a.draft k) n a.told }
step_says old script number octets more (Err other) e h again = absurd cc

-- What is read is what the lines say.
pub accepted : (old : Drafted) (number : ℕ) (all : List (List ℕ)) (script : Script) → script_from old number all ≡ Ok script
    → SaysScript old number all script
accepted old number [] script h = end_says old script number old.begun refl h
accepted old number (octets ∷ more) script h =
    step_says old script number octets more (line_of old number octets) refl h (λ said. accepted (added old number said) (number + 1) more script)

end_accepts : (old : Drafted) (number : ℕ) (f : Result Script TextFault) (b : Bool) → b ≡ true
    → cond {A = Result Script TextFault} b (Ok (script_at old number)) f ≡ Ok (script_at old number)
end_accepts old number f b h = rw h refl

says_accepts : (old : Drafted) (number : ℕ) (all : List (List ℕ)) (draft : Drafted) → Says old number all draft → draft.begun ≡ true
    → script_from old number all ≡ Ok (script_at draft (number + length all))
says_accepts old number [] draft h b =
    let oks : Script → Result Script TextFault = λ x. Ok x in
    let n : number ≡ number + 0 = omega arith in
    end_accepts old number _ old.begun (ap (λ (x : Drafted). x.begun) (sym h) ∙ b)
    ∙ (ap (λ (x : Drafted). oks (script_at x number)) (sym h) ∙ ap (λ (k : ℕ). oks (script_at draft k)) n)
says_accepts old number (octets ∷ more) draft h b =
    let oks : Script → Result Script TextFault = λ x. Ok x in
    let n : (number + 1) + length more ≡ number + length (octets ∷ more) = omega arith in
    rw h.1 (says_accepts (added old number h.0) (number + 1) more draft h.2 b ∙ ap (λ (k : ℕ). oks (script_at draft k)) n)

-- What the lines say is read.
pub accepts : (old : Drafted) (number : ℕ) (all : List (List ℕ)) (script : Script) → SaysScript old number all script
    → script_from old number all ≡ Ok script
accepts old number all script h =
    let oks : Script → Result Script TextFault = λ x. Ok x in
    says_accepts old number all h.draft h.says h.begun ∙ ap oks (sym h.told)

-- A text that is not too long is its lines.
pub short_text : (text : List ℕ) → length text ≤ 16777216 → script_of text ≡ script_from empty_draft 1 (lines text)
short_text text h =
    let e : nat_lt 16777216 (length text) ≡ false = grind (arith, nat_tests) in
    rw e refl

-- Too long a text has that fault.
pub long_text : (text : List ℕ) → 16777216 < length text → script_of text ≡ Err (record { line = 1; column = 1; reason = reasons.Long })
long_text text h =
    let e : nat_lt 16777216 (length text) ≡ true = grind (arith, nat_tests) in
    rw e refl

not_long : (n : ℕ) (b : Bool) (r : Result Script TextFault) (script : Script) → nat_lt 16777216 n ≡ b
    → cond b (Err (record { line = 1; column = 1; reason = reasons.Long })) r ≡ Ok script → (n ≤ 16777216) × (r ≡ Ok script)
not_long n true r script e h = absurd cc
not_long n false r script e h = (grind (arith, nat_tests), h)

-- What is read is not too long, and is what its lines say.
pub read_text : (text : List ℕ) (script : Script) → script_of text ≡ Ok script
    → (length text ≤ 16777216) × SaysScript empty_draft 1 (lines text) script
read_text text script h = let s = not_long (length text) (nat_lt 16777216 (length text)) _ script refl h in
    (s.0, accepted empty_draft 1 (lines text) script s.1)
