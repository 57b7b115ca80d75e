-- Actions on a stripe, and their effect on the stripe's table. Calls by Java SE 17's ConcurrentMap. Our profile: each
-- is recorded with its reply, and is in the stripe of its key.
use Rattle.std.specs.Prelude.{◌≡◌, ℕ, IsTrue, List, Option, Some, All}
use Rattle.std.specs.FinMap as map
use Rattle.bpf_model.specs.Fits.{input_of}
use Rattle.verifier.specs.Checked.{Checked}
use Rattle.bins.specs.Table.{Entry, Table}
use Rattle.bins.specs.Replacements.{Outcome, ComesTo, value_after}
use Rattle.atomic_methods.specs.declared.reply.Reply.{Reply}
use Rattle.atomic_methods.specs.Invocations.{Invocation}
use Rattle.atomic_methods.specs.Hashes.{stripe_of}
use Rattle.atomic_methods.specs.Methods.{Answers}
use Rattle.noted_bins.specs.declared.taken.Taken.{Taken}
use Rattle.noted_bins.specs.Notes.{is_all}
use Rattle.noted_bins.specs.Rows.{put_rows}

-- an action and its outcome
pub data Action : Type 0 where
  -- an invocation got a reply
  called : Invocation → Reply → Action
  -- a scan found these entries
  scanned : List Entry → Action
  -- the value of a key was replaced by the outcome of a program, with an argument
  replaced : List ℕ → Checked → Option (List ℕ) → Outcome → Action
  -- a save came to this, and handed out these rows: keys with their values, or with none if they have no entry
  saved : Taken → List (List ℕ × Option (List ℕ)) → Action

-- doing the action on the table of the stripe k of this many leaves the new one, and its outcome is the recorded one
abbrev pub Does : ℕ → ℕ → Table → Action → Table → Type 0
Does stripes k table (called invocation reply) new =
    (stripe_of stripes invocation.key ≡ k) × Answers table invocation new reply
Does stripes k table (scanned entries) new = (entries ≡ map.entries table) × (new ≡ table)
Does stripes k table (replaced key program arg outcome) new =
    (stripe_of stripes key ≡ k) × ((value : List ℕ) × ((map.get table key ≡ Some value)
    × (ComesTo program (input_of key (Some value) arg) outcome × (new ≡ map.insert table key (value_after outcome value)))))
Does stripes k table (saved taken rows) new =
    All (λ row. row.1 ≡ map.get table row.0) rows × ((IsTrue (is_all taken) → put_rows map.empty rows ≡ table) × (new ≡ table))
