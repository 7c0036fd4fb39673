-- How a call of `run` ends, command by command: what is true of each status.
use Rattle.std.specs.Prelude.{◌≡◌, ◌≢◌, ◌⊎◌, ℕ, Bool, true, false, List, [], Option, None, Some, Result, Ok, Err}
use Rattle.mv_io.specs.Causes.{Rose}
use Rattle.mv_io.specs.Octets.{Appended, AppendedPart}
use Rattle.scenario_defs.specs.declared.event.Script.{Script}
use Rattle.line_words.specs.declared.fault.TextFault.{TextFault}
use Rattle.scenario_text.specs.Grammar.{script_of}
use Rattle.generator.specs.Made.{made}
use Rattle.mvpn_tool.specs.Commands.{usage_line}
use Rattle.mvpn_tool.specs.Endings.{Ending}
use Rattle.mvpn_tool.specs.Input.{Taken}
use Rattle.mvpn_tool.specs.Report.{AllRun, OneHalts}
use Rattle.mvpn_tool.specs.Outcome.{EndsFaulty, EndsEarly, EndsHalted, EndsWellSome}
use Rattle.mvpn_tool.specs.Sweep.{SweepsPart, SweepsWellSome}
use Rattle.audit_defs.specs.declared.verdict.Offence.{Offence}
use Rattle.audit_defs.specs.declared.verdict.ReportLines.{ReportLines}
use Rattle.audit_defs.specs.declared.verdict.Verdict.TheVariants as verdicts
use Rattle.audit_defs.specs.Verdicts.{HasNoOffence, Offends}
use Rattle.audit_text.specs.Texts.{HasFault as HasTextFault, Says}
use Rattle.mvpn_tool.specs.AuditOutcome.{AuditsEarly, AuditsFaulty, Judged}
use Rattle.mvpn_tool.specs.declared.command.Command.{Command}
use Rattle.mvpn_tool.specs.declared.command.Command.TheVariants as commands
use Rattle.mvpn_tool.specs.declared.command.Output.{Output}
use Rattle.mvpn_tool.specs.declared.command.Output.TheVariants as outputs
use Rattle.mvpn_tool.specs.TellOutcome.{ToldAll, ToldEarly, ToldFaulty}
use Rattle.decode_text.specs.declared.format.Format.{Format}
use Rattle.decode_text.specs.HexText.{octets_of}
use Rattle.decode_text.specs.Formats.{IsWhole, HasFault as HasValueFault, Tells as TellsValues}
use Rattle.ingress_text.specs.Grammar.{input_of}
use Rattle.ingress_text.specs.Telling.{is_refused, Tells as TellsCopies}
use Rattle.probe_text.specs.Grammar.{probe_of}
use Rattle.mvpn_tool.specs.HopLines.{HasFault as HasHopsFault, IsFile, TellsHops, within_limit}
use Rattle.mvpn_tool.specs.ProbeLines.{HasPeerFault, IsSound, TellsProbe}

-- the source, and the sink, failed in this call
abbrev pub SourceFailed : Ending → Type 0
SourceFailed e = Rose e.source_before e.source_now

abbrev pub SinkFailed : Ending → Type 0
SinkFailed e = Rose e.sink_before e.sink_now

-- this was written, and a prefix of this
abbrev pub Wrote : Ending → List ℕ → Type 0
Wrote e text = Appended e.old e.new text

abbrev pub WrotePart : Ending → List ℕ → Type 0
WrotePart e text = AppendedPart e.old e.new text

-- The statuses by which a call may end that meets no fault of source or sink and has the memory that it needs, and by which it may
-- end otherwise.
abbrev pub IsStopped : ℕ → Type 0
IsStopped status = (status ≡ 4) ⊎ (status ≡ 5) ⊎ (status ≡ 6)

-- As far as the source says, it was not touched: it has left what it had left, and has not failed.
pub record Untouched (e : Ending) : Type 0 where
  pub rest : e.rest ≡ e.left
  pub faults : e.source_now ≡ e.source_before

-- The words name no command: the usage line, and the source is not touched.
pub record UsageRun (e : Ending) : Type 0 where
  pub two : e.status ≡ 2 → Wrote e usage_line
  pub five : e.status ≡ 5 → WrotePart e usage_line
  pub five_cause : e.status ≡ 5 → SinkFailed e
  pub only : (e.status ≡ 2) ⊎ (e.status ≡ 5)
  pub untouched : Untouched e
  pub worldless : e.world ≡ None

-- the source says what it had left, which is this script
abbrev pub Gives : Ending → Script → Type 0
Gives e script = (input : List ℕ) × (e.left ≡ Some input) × (script_of input ≡ Ok script)

-- A replay that writes this: the report of all events without or with the lines of the wire (`replay`), or the file of its hops (`pcap`),
-- which has no `halt` line.
pub record ReplayRun (output : Output) (e : Ending) : Type 0 where
  -- all was read, replayed and written, and there is a world exactly there
  pub zero : e.status ≡ 0 → EndsWellSome output e.left e.old e.new e.world
  pub zero_always : (script : Script) → Gives e script → AllRun script → (e.status ≡ 0) ⊎ IsStopped e.status
  pub worldless : (e.status ≡ 0 → ⊥) → e.world ≡ None
  -- the text has a fault, and the line that shows it is written alone
  pub three : e.status ≡ 3 → EndsFaulty e.left e.old e.new
  pub three_always :
      (input : List ℕ) (fault : TextFault) → e.left ≡ Some input → script_of input ≡ Err fault →
      (e.status ≡ 3) ⊎ IsStopped e.status
  -- the source failed, and nothing is written
  pub four : e.status ≡ 4 → Wrote e []
  pub four_cause : e.status ≡ 4 → SourceFailed e
  -- the sink failed, with a prefix of the output written
  pub five : e.status ≡ 5 → EndsEarly output e.left e.old e.new
  pub five_cause : e.status ≡ 5 → SinkFailed e
  -- there was no memory, and nothing or a prefix of the output is written
  pub six : e.status ≡ 6 → Wrote e [] ⊎ EndsEarly output e.left e.old e.new
  -- an event runs out of labels, and the output is written up to there
  pub seven : e.status ≡ 7 → EndsHalted output e.left e.old e.new
  pub seven_always : (script : Script) → Gives e script → OneHalts script → (e.status ≡ 7) ⊎ IsStopped e.status
  -- the input was taken to its end, or one octet past the limit
  pub taken : e.status ≢ 4 → e.status ≢ 6 → Taken e.left e.rest
  -- where neither end failed, nothing but memory keeps a script from being replayed, to its end or to the halt
  pub complete :
      (script : Script) → (SourceFailed e → ⊥) → (SinkFailed e → ⊥) → Gives e script →
      (e.status ≡ 0) ⊎ (e.status ≡ 6) ⊎ (e.status ≡ 7)
  pub only : (e.status ≡ 0) ⊎ (e.status ≡ 3) ⊎ (e.status ≡ 7) ⊎ IsStopped e.status

-- `pcap`, status by status as a replay: the hops of all events, each with the clock at its event and the octets of its datagram (0); the
-- line of the text's fault alone (3); nothing, where the source failed (4); a prefix of the output, where the sink failed (5) or memory
-- ran out (6); the hops up to the event that runs out of labels (7). There is a world exactly with 0.
abbrev pub PcapRun : Ending → Type 0
PcapRun e = ReplayRun outputs.Hops e

-- `make` and a number: the text of that number, and the source is not touched
pub record MakeRun (number : ℕ) (e : Ending) : Type 0 where
  pub zero : e.status ≡ 0 → Wrote e (made number)
  pub five : e.status ≡ 5 → WrotePart e (made number)
  pub five_cause : e.status ≡ 5 → SinkFailed e
  pub six : e.status ≡ 6 → Wrote e []
  pub only : (e.status ≡ 0) ⊎ (e.status ≡ 5) ⊎ (e.status ≡ 6)
  pub untouched : Untouched e
  pub worldless : e.world ≡ None

-- `sweep` and a number: the script of that number is replayed as by `replay`, with one line for its report, and the source is not touched
pub record SweepRun (number : ℕ) (e : Ending) : Type 0 where
  -- all was replayed, the line of the numbers was written, and there is a world exactly there
  pub zero : e.status ≡ 0 → SweepsWellSome number e.old e.new e.world
  pub worldless : (e.status ≡ 0 → ⊥) → e.world ≡ None
  -- the sink failed, with a prefix of the line written
  pub five : e.status ≡ 5 → SweepsPart number e.old e.new
  pub five_cause : e.status ≡ 5 → SinkFailed e
  -- there was no memory, and nothing is written
  pub six : e.status ≡ 6 → Wrote e []
  pub only : (e.status ≡ 0) ⊎ (e.status ≡ 5) ⊎ (e.status ≡ 6)
  pub untouched : Untouched e

-- the source says what it had left, which says this script and this report
abbrev pub GivesReport : Ending → Script → ReportLines → Type 0
GivesReport e script report = (input : List ℕ) × (e.left ≡ Some input) × Says input script report

-- `audit`
pub record AuditRun (e : Ending) : Type 0 where
  -- the report has no offence, and the line `yes` was written
  pub zero : e.status ≡ 0 → Judged e.left e.old e.new verdicts.Yes
  pub zero_always :
      (script : Script) (report : ReportLines) → GivesReport e script report → HasNoOffence script report →
      (e.status ≡ 0) ⊎ IsStopped e.status
  -- it has one, and the line of the least was written
  pub eight : e.status ≡ 8 → (line : ℕ) × (reason : Offence) × Judged e.left e.old e.new (verdicts.No line reason)
  pub eight_always :
      (script : Script) (report : ReportLines) (line : ℕ) (reason : Offence) → GivesReport e script report →
      Offends script report line reason → (e.status ≡ 8) ⊎ IsStopped e.status
  -- the text has a fault, and the line that shows it is written alone
  pub three : e.status ≡ 3 → AuditsFaulty e.left e.old e.new
  pub three_always :
      (input : List ℕ) (fault : TextFault) → e.left ≡ Some input → HasTextFault input fault →
      (e.status ≡ 3) ⊎ IsStopped e.status
  pub four : e.status ≡ 4 → Wrote e []
  pub four_cause : e.status ≡ 4 → SourceFailed e
  pub five : e.status ≡ 5 → AuditsEarly e.left e.old e.new
  pub five_cause : e.status ≡ 5 → SinkFailed e
  pub six : e.status ≡ 6 → Wrote e [] ⊎ AuditsEarly e.left e.old e.new
  pub taken : e.status ≢ 4 → e.status ≢ 6 → Taken e.left e.rest
  -- where neither end failed, nothing but memory keeps a report from being judged
  pub complete :
      (script : Script) (report : ReportLines) → (SourceFailed e → ⊥) → (SinkFailed e → ⊥) → GivesReport e script report →
      (e.status ≡ 0) ⊎ (e.status ≡ 6) ⊎ (e.status ≡ 8)
  pub only : (e.status ≡ 0) ⊎ (e.status ≡ 3) ⊎ (e.status ≡ 8) ⊎ IsStopped e.status
  pub worldless : e.world ≡ None

-- A command that reads a text and shows what is in it. Which one it is says what a text says (`read`), what is shown of that (`Tells`), of what
-- no fault is shown (`IsSound`), and of what one is (`IsFaulty`).
pub record TellRun {X : Type 0} (read : List ℕ → Result X TextFault) (Tells : Bool → X → List ℕ → Type 0)
    (IsSound IsFaulty : X → Type 0) (e : Ending) : Type 0 where
  -- what is shown was written, and no fault is among it
  pub zero : e.status ≡ 0 → ToldAll read Tells false e.left e.old e.new
  -- what is shown was written, with a fault
  pub one : e.status ≡ 1 → ToldAll read Tells true e.left e.old e.new
  pub one_always :
      (input : List ℕ) (what : X) → e.left ≡ Some input → read input ≡ Ok what → IsFaulty what →
      (e.status ≡ 1) ⊎ IsStopped e.status
  -- the text has a fault, and the line that shows it is written alone
  pub three : e.status ≡ 3 → ToldFaulty read e.left e.old e.new
  pub three_always :
      (input : List ℕ) (fault : TextFault) → e.left ≡ Some input → read input ≡ Err fault →
      (e.status ≡ 3) ⊎ IsStopped e.status
  -- the source failed, and nothing is written
  pub four : e.status ≡ 4 → Wrote e []
  pub four_cause : e.status ≡ 4 → SourceFailed e
  -- the sink failed, with a prefix of the output written
  pub five : e.status ≡ 5 → ToldEarly read Tells e.left e.old e.new
  pub five_cause : e.status ≡ 5 → SinkFailed e
  -- there was no memory, and nothing or a prefix of the output is written
  pub six : e.status ≡ 6 → Wrote e [] ⊎ ToldEarly read Tells e.left e.old e.new
  -- the input was taken to its end, or one octet past the limit
  pub taken : e.status ≢ 4 → e.status ≢ 6 → Taken e.left e.rest
  -- where neither end failed and no fault is shown, nothing but memory keeps what is shown from being written
  pub complete :
      (input : List ℕ) (what : X) → (SourceFailed e → ⊥) → (SinkFailed e → ⊥) →
      e.left ≡ Some input → read input ≡ Ok what → IsSound what → (e.status ≡ 0) ⊎ (e.status ≡ 6)
  pub only : (e.status ≡ 0) ⊎ (e.status ≡ 1) ⊎ (e.status ≡ 3) ⊎ IsStopped e.status
  pub worldless : e.world ≡ None

-- `decode` and a format: a text writes octets, and the lines of their values are shown; a fault is the first one of the octets
abbrev pub DecodeRun : Format → Ending → Type 0
DecodeRun format e = TellRun octets_of (TellsValues format) (IsWhole format) (HasValueFault format) e

-- `hops`: the input is the octets itself, unless they are too many, and the lines of the hops of their file are shown; a fault is the
-- first one of the file
abbrev pub HopsRun : Ending → Type 0
HopsRun e = TellRun within_limit TellsHops IsFile HasHopsFault e

-- `ingress`: a text says what a root and its peers send, and the answers and the copies are shown; a fault is the first one of a peer
abbrev pub IngressRun : Ending → Type 0
IngressRun e = TellRun input_of TellsCopies (λ what. is_refused what ≡ false) (λ what. is_refused what ≡ true) e

-- `probe`: a text says what an edge is given of a peer, and what the edge makes of it is shown; a fault is the first one of the peer
abbrev pub ProbeRun : Ending → Type 0
ProbeRun e = TellRun probe_of TellsProbe IsSound HasPeerFault e

-- how a call ends whose words name that command, or none
abbrev pub Runs : Option Command → Ending → Type 0
Runs None e = UsageRun e
Runs (Some (commands.Replay detail)) e = ReplayRun (outputs.Report detail) e
Runs (Some (commands.Decode format)) e = DecodeRun format e
Runs (Some (commands.Make number)) e = MakeRun number e
Runs (Some (commands.Sweep number)) e = SweepRun number e
Runs (Some commands.Audit) e = AuditRun e
Runs (Some commands.Hops) e = HopsRun e
Runs (Some commands.Ingress) e = IngressRun e
Runs (Some commands.Probe) e = ProbeRun e
Runs (Some commands.Pcap) e = PcapRun e
