-- How a call of `bpfmap` ends: what comes of its words and its input, and what is told of it.
use Rattle.std.specs.Prelude.{◌≡◌, ◌+◌, ◌⊎◌, ℕ, List, IfSome, codes, string_bytes}
use Rattle.clap.specs.Words.{IsAmong, fault_of}
use Rattle.clap.specs.declared.error.ErrorKind.{ErrorKind}
use Rattle.clap.specs.declared.error.ErrorKind.TheVariants.{DisplayHelp, DisplayVersion}
use Rattle.map_commands.specs.declared.words.Command.{Command}
use Rattle.map_commands.specs.declared.words.Task.TheVariants.{Report as Reporting}
use Rattle.map_commands.specs.declared.refusal.Refusal.{Refusal}
use Rattle.map_commands.specs.declared.refusal.Refusal.TheVariants.{NoMemory as OutOfMemory}
use Rattle.map_commands.specs.declared.report.Report.{Report}
use Rattle.map_commands.specs.declared.report.Report.TheVariants as report
use Rattle.map_commands.specs.declared.ending.Ending.{Ending}
use Rattle.map_commands.specs.declared.ending.Ending.TheVariants.{Reported, Refused, Explained, NoMemory, BadStripes, Shown, Faulty, Unread, NotUtf8}
use Rattle.map_commands.specs.CommandLine.{Asks, bpfmap}
use Rattle.map_commands.specs.Commands.{IsReport, IsUnreadable}
use Rattle.devices.specs.Devices.{SourceState, SinkState, TakesBytes, TakesPart, TakesIfItCan}
use Rattle.map_commands.specs.Meanings.{IsMeaning}
use Rattle.map_commands.specs.Shown.{IsShown}
use Rattle.map_commands.specs.Reports.{IsNoRefusal, report_text, status_of}

-- ---- what comes of the words and the input

-- the report is true of the command and of what the input had, and no read failed
abbrev pub IsReported : Command → SourceState → SourceState → Report → Type 0
IsReported command input input' report = IfSome input.left (λ text. IsReport command text report) × (input'.failures ≡ input.failures)

-- the read failed: the source counted it, or a program's text was to be read and what was left is no text
abbrev pub FailsToReadInput : Command → SourceState → SourceState → Type 0
FailsToReadInput command input input' =
    (input'.failures ≡ input.failures + 1)
    ⊎ (IfSome input.left (λ text. IsUnreadable command text) × (input'.failures ≡ input.failures))

-- what a report on the text comes to; a refusal has its meaning, for which memory may be refused
abbrev pub EndsReport : Command → List ℕ → Report → Ending → Type 0
EndsReport command text result (Reported report) = (result ≡ report) × IsNoRefusal report
EndsReport command text result (Refused refusal meaning) = (result ≡ report.Refused refusal) × IsMeaning command text refusal (string_bytes meaning)
EndsReport command text result (Explained printed meaning) =
    (refusal : Refusal) × (result ≡ report.Explained printed refusal) × IsMeaning command text refusal (string_bytes meaning)
EndsReport command text result NoMemory = Unit {0}
EndsReport command text result BadStripes = ⊥
EndsReport command text result (Shown shown) = ⊥
EndsReport command text result (Faulty fault) = ⊥
EndsReport command text result Unread = ⊥
EndsReport command text result NotUtf8 = ⊥

-- the report is this refusal, and the line is its meaning
abbrev pub ReportsRefusal : Command → SourceState → SourceState → Refusal → List ℕ → Type 0
ReportsRefusal command input input' refusal line =
    IsReported command input input' (report.Refused refusal) × IfSome input.left (λ text. IsMeaning command text refusal line)

-- what the command comes to on this input; memory may be refused to the meaning of another refusal
abbrev pub EndsCommand : Command → SourceState → SourceState → Ending → Type 0
EndsCommand command input input' (Reported report) = IsReported command input input' report × IsNoRefusal report
EndsCommand command input input' (Refused refusal meaning) = ReportsRefusal command input input' refusal (string_bytes meaning)
EndsCommand command input input' (Explained printed meaning) =
    (refusal : Refusal) × IsReported command input input' (report.Explained printed refusal)
    × IfSome input.left (λ text. IsMeaning command text refusal (string_bytes meaning))
EndsCommand command input input' NoMemory = IsReported command input input' (report.Refused OutOfMemory)
EndsCommand command input input' BadStripes = ⊥
EndsCommand command input input' (Shown text) = ⊥
EndsCommand command input input' (Faulty text) = ⊥
EndsCommand command input input' Unread = FailsToReadInput command input input'
EndsCommand command input input' NotUtf8 = ⊥

-- the kind asks for help or for the version
abbrev pub IsHelpOrVersion : ErrorKind → Type 0
IsHelpOrVersion kind = (kind ≡ DisplayHelp) ⊎ (kind ≡ DisplayVersion)

-- what words come to that ask for no command, by clap's kind of error, in whose text words are shown; memory may be refused to it
abbrev pub EndsWords : List (List ℕ) → Ending → Type 0
EndsWords words (Reported report) = ⊥
EndsWords words (Refused refusal meaning) = ⊥
EndsWords words (Explained printed meaning) = ⊥
EndsWords words NoMemory = Unit {0}
EndsWords words BadStripes = ⊥
EndsWords words (Shown text) = (kind : ErrorKind) × IsAmong kind (fault_of bpfmap words) × IsHelpOrVersion kind × IsShown words text.items
EndsWords words (Faulty text) = (kind : ErrorKind) × IsAmong kind (fault_of bpfmap words) × (IsHelpOrVersion kind → ⊥) × IsShown words text.items
EndsWords words Unread = ⊥
EndsWords words NotUtf8 = ⊥

-- what a call comes to that asks for no session: the words ask for a command, or the input stays as it is
abbrev pub EndsCall : List (List ℕ) → SourceState → SourceState → Ending → Type 0
EndsCall words input input' ending =
    ((command : Command) × Asks words (Reporting command) × EndsCommand command input input' ending) ⊎ (EndsWords words ending × (input' ≡ input))

-- ---- what is told of it

-- standard output and standard error
pub record Outputs : Type 0 where
  pub output : SinkState
  pub errors : SinkState

abbrev pub outputs : SinkState → SinkState → Outputs
outputs output errors = record { output = output; errors = errors }

-- the text is on standard output, with this status; or the write failed, of which standard error is told
abbrev pub Prints : List ℕ → ℕ → Outputs → Outputs → ℕ → Type 0
Prints text status old new result =
    ((result ≡ status) × TakesBytes old.output new.output text × (new.errors ≡ old.errors))
    ⊎ ((result ≡ 3) × TakesPart old.output new.output text × TakesIfItCan old.errors new.errors (codes "failed write\n"))

-- a refusal's line is on standard output, with status 1, and its meaning on standard error, as far as that can be; or
-- the write failed, of which alone standard error is told
abbrev pub PrintsRefusal : List ℕ → List ℕ → Outputs → Outputs → ℕ → Type 0
PrintsRefusal line meaning old new result =
    ((result ≡ 1) × TakesBytes old.output new.output line × TakesIfItCan old.errors new.errors meaning)
    ⊎ ((result ≡ 3) × TakesPart old.output new.output line × TakesIfItCan old.errors new.errors (codes "failed write\n"))

-- the text is on standard error, as far as that can be, and nothing more on standard output
abbrev pub Warns : List ℕ → ℕ → Outputs → Outputs → ℕ → Type 0
Warns text status old new result = (result ≡ status) × (new.output ≡ old.output) × TakesIfItCan old.errors new.errors text

abbrev pub TellsEnding : Ending → Outputs → Outputs → ℕ → Type 0
TellsEnding (Reported report) old new result = Prints (report_text report) (status_of report) old new result
TellsEnding (Refused refusal meaning) old new result = PrintsRefusal (report_text (report.Refused refusal)) (string_bytes meaning) old new result
TellsEnding (Explained printed meaning) old new result = PrintsRefusal printed.items (string_bytes meaning) old new result
TellsEnding NoMemory old new result = PrintsRefusal (report_text (report.Refused OutOfMemory)) (codes "no memory\n") old new result
TellsEnding BadStripes old new result = PrintsRefusal (codes "refused 50 at 0\n") (codes "not a number of stripes\n") old new result
TellsEnding (Shown text) old new result = Prints text.items 0 old new result
TellsEnding (Faulty text) old new result = Warns text.items 2 old new result
TellsEnding Unread old new result = Warns (codes "failed read\n") 3 old new result
TellsEnding NotUtf8 old new result = Warns (codes "error: the command line is not UTF-8\n") 2 old new result
