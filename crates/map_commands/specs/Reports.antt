-- What is printed for a report, and its status.
use Rattle.std.specs.Prelude.{ℕ, suc, ◌/◌, ◌%◌, List, [], ◌∷◌, ◌++◌, slice_index, codes, decimal, nat_eq, if◌then◌else◌}
use Rattle.std.specs.List.{flat_map}
use Rattle.bpf_model.specs.declared.input.Answer.TheVariants.{Nothing, Bytes}
use Rattle.bpf_model.specs.declared.input.InputPart.{InputPart}
use Rattle.bpf_model.specs.declared.input.InputPart.TheVariants.{Key, Old, Arg}
use Rattle.map_commands.specs.declared.report.Report.{Report}
use Rattle.map_commands.specs.declared.report.Report.TheVariants.{Text, Accepted, Answered, Unfit, Refused, Explained}
use Rattle.map_commands.specs.Refusals.{refusal_number, place_of}

-- a digit of a byte, in lower case
abbrev pub digit : ℕ → ℕ
digit n = slice_index (codes "0123456789abcdef") n

-- a blank, and a byte's two digits
abbrev pub spaced : ℕ → List ℕ
spaced byte = 32 ∷ digit (byte / 16) ∷ digit (byte % 16) ∷ []

-- a unit's bytes stand on a line: after the eighth comes a newline, after each other one a blank
abbrev pub separator : ℕ → ℕ
separator index = if nat_eq (index % 8) 7 then 10 else 32

-- the lines of bytes, the first of which has this index
unfoldable pub unit_lines_from : ℕ → List ℕ → List ℕ
unit_lines_from index [] = []
unit_lines_from index (byte ∷ bytes) = digit (byte / 16) ∷ digit (byte % 16) ∷ separator index ∷ unit_lines_from (suc index) bytes

abbrev pub unit_lines : List ℕ → List ℕ
unit_lines bytes = unit_lines_from 0 bytes

abbrev pub part_name : InputPart → List ℕ
part_name Key = codes "key"
part_name Old = codes "old"
part_name Arg = codes "arg"

-- what is printed is one line
abbrev pub IsLine : Report → Type 0
IsLine (Text text) = ⊥
IsLine Accepted = Unit {0}
IsLine (Answered answer) = Unit {0}
IsLine (Unfit part) = Unit {0}
IsLine (Refused refusal) = Unit {0}
IsLine (Explained text refusal) = ⊥

abbrev pub IsNoRefusal : Report → Type 0
IsNoRefusal (Text text) = Unit {0}
IsNoRefusal Accepted = Unit {0}
IsNoRefusal (Answered answer) = Unit {0}
IsNoRefusal (Unfit part) = Unit {0}
IsNoRefusal (Refused refusal) = ⊥
IsNoRefusal (Explained text refusal) = ⊥

-- what is printed, each line with its newline
abbrev pub report_text : Report → List ℕ
report_text (Text text) = text.items
report_text Accepted = codes "accepted\n"
report_text (Answered Nothing) = codes "nothing\n"
report_text (Answered (Bytes value)) = codes "bytes" ++ flat_map spaced value ++ codes "\n"
report_text (Unfit part) = codes "unfit " ++ part_name part ++ codes "\n"
report_text (Refused refusal) = codes "refused " ++ decimal (refusal_number refusal) ++ codes " at " ++ decimal (place_of refusal) ++ codes "\n"
report_text (Explained text refusal) = text.items

abbrev pub status_of : Report → ℕ
status_of (Text text) = 0
status_of Accepted = 0
status_of (Answered answer) = 0
status_of (Unfit part) = 1
status_of (Refused refusal) = 1
status_of (Explained text refusal) = 1
