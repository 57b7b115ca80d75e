-- What a program makes of each entry of a table. Java SE 17: ConcurrentHashMap.replaceAll, whose function is a program
-- here. That a program runs on fitting inputs alone, and that an answer of nothing keeps the entry, is our profile.
use Rattle.std.specs.Prelude.{◌≡◌, ℕ, Bool, true, false, List, Option, Some, Result, Ok, Err}
use Rattle.std.specs.Prelude.{option_map, count_by}
use Rattle.std.specs.FinMap as map
use Rattle.bpf_model.specs.declared.input.Input.{Input}
use Rattle.bpf_model.specs.declared.input.Answer.{Answer}
use Rattle.bpf_model.specs.declared.input.Answer.TheVariants.{Nothing, Bytes}
use Rattle.bpf_model.specs.declared.input.InputPart.{InputPart}
use Rattle.bpf_model.specs.Fits.{input_of, first_unfit}
use Rattle.bpf_model.specs.Meaning.{Means}
use Rattle.verifier.specs.Checked.{Checked}
use Rattle.bins.specs.declared.counts.Counts.{Counts}
use Rattle.bins.specs.Table.{Table}

-- a program's outcome: its answer, or the first window that is too small
abbrev pub Outcome : Type 0
Outcome = Result Answer InputPart

-- the program has this outcome on the input
abbrev pub ComesTo : Checked → Input → Outcome → Type 0
ComesTo checked input (Ok answer) =
    (first_unfit input checked.sizes ≡ Ok tt) × Means checked.program checked.sizes input answer
ComesTo checked input (Err part) = first_unfit input checked.sizes ≡ Err part

-- the value after a replacement: bytes are entered; if the answer is nothing or the input doesn't fit, the value stays
abbrev pub value_after : Outcome → List ℕ → List ℕ
value_after (Ok (Bytes new)) value = new
value_after (Ok Nothing) value = value
value_after (Err part) value = value

-- whether a value was entered, whether it equals the one before or not
abbrev pub is_given : Outcome → Bool
is_given (Ok (Bytes new)) = true
is_given (Ok Nothing) = false
is_given (Err part) = false

abbrev pub is_unfit : Outcome → Bool
is_unfit (Ok answer) = false
is_unfit (Err part) = true

-- each key's value was replaced once, by the program's outcome on it
pub record ReplacesEach (checked : Checked) (arg : Option (List ℕ)) (old new : Table) (counts : Counts) : Type 0 where
  -- the program's outcome at each key
  pub outcome : List ℕ → Outcome
  pub comes_to : (key value : List ℕ) → map.get old key ≡ Some value
      → ComesTo checked (input_of key (Some value) arg) (outcome key)
  pub values : (key : List ℕ) → map.get new key ≡ option_map (value_after (outcome key)) (map.get old key)
  pub scanned : counts.scanned ≡ map.len old
  pub given : counts.given ≡ count_by (λ entry. is_given (outcome entry.0)) (map.entries old)
  pub unfit : counts.unfit ≡ count_by (λ entry. is_unfit (outcome entry.0)) (map.entries old)
