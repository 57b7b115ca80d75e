-- The replacement of one value, and of each value of a list in order.
use Rattle.std.specs.Prelude.{◌≡◌, ℕ, ⊤, Bool, true, false, List, [], ◌∷◌, length, Option, Some, Result, Ok, Err}
use Rattle.std.specs.Prelude.{count_by}
use Rattle.bpf_model.specs.declared.input.Answer.TheVariants.{Nothing, Bytes}
use Rattle.bpf_model.specs.declared.input.InputPart.{InputPart}
use Rattle.bpf_model.specs.Fits.{input_of}
use Rattle.verifier.specs.Checked.{Checked}
use Rattle.bins.specs.declared.counts.Counts.{Counts}
use Rattle.bins.specs.Replacements.{Outcome, ComesTo, value_after, is_given, is_unfit}
use Rattle.bins.specs.Table.{Entry}

-- the answer of a replacement: whether a value was entered, or which window was too small
abbrev pub entered_of : Outcome → Result Bool InputPart
entered_of (Ok (Bytes new)) = Ok true
entered_of (Ok Nothing) = Ok false
entered_of (Err part) = Err part

-- the program's outcome on one key replaced its value, and this was the answer
pub record Replaces (checked : Checked) (key : List ℕ) (arg : Option (List ℕ)) (value new : List ℕ)
    (told : Result Bool InputPart) : Type 0 where
  pub outcome : Outcome
  pub comes_to : ComesTo checked (input_of key (Some value) arg) outcome
  pub entered : new ≡ value_after outcome value
  pub is_told : told ≡ entered_of outcome

-- each outcome is the program's at the entry with its position; there may be fewer outcomes than entries
abbrev pub AreOutcomes : Checked → Option (List ℕ) → List Entry → List Outcome → Type 0
AreOutcomes checked arg entries [] = ⊤
AreOutcomes checked arg [] (outcome ∷ outcomes) = ⊥
AreOutcomes checked arg (entry ∷ entries) (outcome ∷ outcomes) =
    ComesTo checked (input_of entry.0 (Some entry.1) arg) outcome
    × AreOutcomes checked arg entries outcomes

-- the entries after these outcomes of the first ones
abbrev pub entries_after : List Entry → List Outcome → List Entry
entries_after entries [] = entries
entries_after [] (outcome ∷ outcomes) = []
entries_after (entry ∷ entries) (outcome ∷ outcomes) =
    (entry.0, value_after outcome entry.1) ∷ entries_after entries outcomes

-- each entry's value was replaced once, in the order of the list
pub record ReplacesList (checked : Checked) (arg : Option (List ℕ)) (old new : List Entry)
    (counts : Counts) : Type 0 where
  pub outcomes : List Outcome
  pub one_each : length outcomes ≡ length old
  pub are_outcomes : AreOutcomes checked arg old outcomes
  pub entered : new ≡ entries_after old outcomes
  pub scanned : counts.scanned ≡ length old
  pub given : counts.given ≡ count_by is_given outcomes
  pub unfit : counts.unfit ≡ count_by is_unfit outcomes
