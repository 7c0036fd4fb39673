-- A call of `run` and its end.
use Rattle.std.specs.Prelude.{ℕ, List, Option}
use Rattle.network_events.specs.WorldView.{WorldView}
use Rattle.mvpn_tool.specs.declared.top.End.{End}

-- The status and the world that it answers; what the source had left before it and has left after it, and what the sink had
-- written, where they say that; and how often each of them has failed, before and after.
pub record Ending : Type 0 where
  pub status : ℕ
  pub world : Option WorldView
  pub left : Option (List ℕ)
  pub rest : Option (List ℕ)
  pub old : Option (List ℕ)
  pub new : Option (List ℕ)
  pub source_before : ℕ
  pub source_now : ℕ
  pub sink_before : ℕ
  pub sink_now : ℕ

-- The end of a call that answers this, by what a source and a sink of any kind say before and after it.
abbrev pub ending : {S K : Type 0} → (S → Option (List ℕ)) → (S → ℕ) → (K → Option (List ℕ)) → (K → ℕ) → End → S → S → K → K → Ending
ending left source_faults written sink_faults result source source_after sink sink_after = record {
  status = result.status;
  world = result.world;
  left = left source;
  rest = left source_after;
  old = written sink;
  new = written sink_after;
  source_before = source_faults source;
  source_now = source_faults source_after;
  sink_before = sink_faults sink;
  sink_now = sink_faults sink_after;
}

-- The same of a call that has a sink alone, beside a source that has this left and has failed so often.
abbrev pub ending_alone : {K : Type 0} → Option (List ℕ) → ℕ → (K → Option (List ℕ)) → (K → ℕ) → End → K → K → Ending
ending_alone left faults written sink_faults result sink sink_after =
    ending (λ (own : Option (List ℕ)). own) (λ _. faults) written sink_faults result left left sink sink_after
