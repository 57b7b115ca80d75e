-- What a file has comes back into a map, its programs and its scripts.
use Rattle.std.specs.Prelude.{◌≡◌, ℕ, zero, suc, ◌+◌, Bool, if◌then◌else◌, List, [], ◌∷◌, ◌++◌, length, All, Option, Some, None, IsTrue, ⊤}
use Rattle.sqlite.specs.Order.{Row, column}
use Rattle.sqlite.specs.State.{State}
use Rattle.sqlite.specs.declared.types.Value.TheVariants.{Blob}
use Rattle.atomic_methods.specs.Hashes.{stripe_of}
use Rattle.atomic_methods.specs.Invocations.{Invocation, on_key, put, remove}
use Rattle.timed_bins.specs.Deadlines.{is_over}
use Rattle.timed_bins.specs.declared.timing.DeadlineChange.{DeadlineChange}
use Rattle.timed_bins.specs.declared.timing.DeadlineChange.TheVariants.{Clear, Set}
use Rattle.timed_bins.specs.declared.timing.SetRule.TheVariants.{Always}
use Rattle.timed_bins.specs.declared.timing.TimedReply.{TimedReply}
use Rattle.timed_bins.specs.declared.timing.Timing.{Timing}
use Rattle.bin_stripes.specs.Passes.{PassState, stripes_of}
use Rattle.bin_stripes.specs.Timed.{CallsAt}
use Rattle.bin_stripes.specs.Invoked.{CountsStripe}
use Rattle.program_registry.specs.Tokens.{IsOf, program_of, token_number}
use Rattle.program_registry.specs.declared.registry.ProgramToken.{ProgramToken}
use Rattle.program_registry.specs.declared.registry.Registry.{Registry}
use Rattle.admission.specs.Admissions.{IsAdmitted}
use Rattle.kept_file.specs.Changes.{Change, Entry, Spells, entry_of}
use Rattle.kept_file.specs.Content.{HasTables}
use Rattle.kept_file.specs.declared.changes.Mark.{Mark}
use Rattle.kept_file.specs.Reading.{HasPrograms, HasScripts, RisesTo, ShowsBatches}
use Rattle.kept_file.specs.Rows.{number}
use Rattle.kept_file.specs.declared.rows.KeptProgram.{KeptProgram}
use Rattle.bins.specs.Table.{Table}
use Rattle.map_keeper.specs.Stripes.{HasStripe, StripeChange, changes_in, of_stripe, table_of, with_stripe}

-- the key has this deadline, or none
abbrev pub change_to : Option ℕ → DeadlineChange
change_to None = Clear
change_to (Some at) = Set at Always

-- what a key has at this time: nothing, if its time is over
abbrev pub left_at : ℕ → Entry → Entry
left_at now None = None
left_at now (Some entry) = if is_over entry.1 now then None else Some entry

-- the call that gives a key what it has
abbrev pub call_of : List ℕ → Entry → Invocation
call_of key None = on_key key remove
call_of key (Some entry) = on_key key (put entry.0)

-- .. at this time, with its deadline
abbrev pub timing_of : ℕ → Entry → Timing
timing_of now None = record { now = now; change = Clear }
timing_of now (Some entry) = record { now = now; change = change_to entry.1 }

-- the key has this value then, and its deadline is changed so
abbrev pub IsLeft : Mark → ℕ → List ℕ → DeadlineChange → Type 0
IsLeft mark now value change = (deadline : Option ℕ) × (left_at now (entry_of mark value) ≡ Some (value, deadline)) × (change ≡ change_to deadline)

-- the pass made one call at a time
pub record CallsOnce (timing : Timing) (invocation : Invocation) (old new : PassState) : Type 0 where
  pub timed : TimedReply
  pub reply : List ℕ
  pub calls : CallsAt old timing invocation timed reply new

-- .. after which the key has what the change has left of it at this time
abbrev pub Replays : ℕ → Change → PassState → PassState → Type 0
Replays now change = CallsOnce (timing_of now (left_at now change.1)) (call_of change.0 (left_at now change.1))

-- .. of one change after the other, and it did nothing else
unfoldable pub ReplaysAll : ℕ → List Change → PassState → PassState → Type 0
ReplaysAll now [] old new = new ≡ old
ReplaysAll now (change ∷ changes) old new = (mid : PassState) × Replays now change old mid × ReplaysAll now changes mid new

-- these are the changes of all the batches, one after the other
unfoldable pub AreSpelled : List Row → List StripeChange → Type 0
AreSpelled [] all = all ≡ []
AreSpelled (batch ∷ batches) all = (stripe : ℕ) × (bytes : List ℕ) × (first : List Change) × (more : List StripeChange)
    × (column batch 1 ≡ number stripe) × (column batch 2 ≡ Blob bytes) × Spells bytes first × (all ≡ with_stripe stripe first ++ more) × AreSpelled batches more

-- each change is in the stripe of its key, in a map of so many
abbrev pub AreInPlace : ℕ → List StripeChange → Type 0
AreInPlace stripes all = All (λ (it : StripeChange). it.0 ≡ stripe_of stripes it.1.0) all

-- the pass made just the changes of one batch at this time, in their order
pub record ReplaysBatch (is_as_wide : Bool) (now stripe : ℕ) (bytes : List ℕ) (old new : PassState) : Type 0 where
  pub changes : List Change
  pub spelled : Spells bytes changes
  pub in_place : IsTrue is_as_wide → AreInPlace (stripes_of old.map) (with_stripe stripe changes)
  pub replayed : ReplaysAll now changes old new

-- .. of all batches that the file has. If the map is as wide as the one that was saved, each change was in the stripe of its key
pub record ReplaysFile (file : State) (is_as_wide : Bool) (now : ℕ) (old new : PassState) : Type 0 where
  pub batches : List Row
  pub last : ℕ
  pub are : ShowsBatches file batches
  pub rise : RisesTo batches last
  pub changes : List StripeChange
  pub spelled : AreSpelled batches changes
  pub in_place : IsTrue is_as_wide → AreInPlace (stripes_of old.map) changes
  pub replayed : ReplaysAll now (changes_in changes) old new

-- the pass counted the stripes below n, one after the other; they had so many entries in all
unfoldable pub CountsBelow : ℕ → PassState → PassState → ℕ → Type 0
CountsBelow zero old new count = (new ≡ old) × (count ≡ 0)
CountsBelow (suc n) old new count = (mid : PassState) × (below : ℕ) × (here : ℕ) × CountsBelow n old mid below × CountsStripe mid n here new × (count ≡ below + here)

-- at this time the pass made just the changes that the file has, and then counted the entries of the map. If the file has its tables, the
-- changes of each stripe come to just what the file has of it
pub record RestoresEntries (file : State) (is_as_wide : Bool) (now : ℕ) (old new : PassState) (count : ℕ) : Type 0 where
  pub mid : PassState
  pub replayed : ReplaysFile file is_as_wide now old mid
  pub counted : CountsBelow (stripes_of old.map) mid new count
  pub stripes : HasTables file → (k : ℕ) (table : Table) → HasStripe file k table → table ≡ table_of (of_stripe k replayed.changes)

-- the token is of this registry, and names the program of a file by the number that it had: the program that the file's bytes spell,
-- verified with the file's sizes
pub record IsRestored (registry : Registry) (program : KeptProgram) (token : ProgramToken) : Type 0 where
  pub mine : IsOf registry token
  pub number : token_number token ≡ program.number
  pub admitted : IsAdmitted program.bytes.items program.sizes (program_of token).program
  pub sizes : (program_of token).sizes ≡ program.sizes

-- there is one token of each program, in their order
abbrev pub AreRestored : Registry → List KeptProgram → List ProgramToken → Type 0
AreRestored registry [] [] = ⊤
AreRestored registry (program ∷ programs) (token ∷ tokens) = IsRestored registry program token × AreRestored registry programs tokens
AreRestored registry _ _ = ⊥

-- these are tokens of just the programs that the file has
pub record RestoresPrograms (file : State) (registry : Registry) (tokens : List ProgramToken) : Type 0 where
  pub programs : List KeptProgram
  pub are : HasPrograms file programs
  pub restored : AreRestored registry programs tokens

-- the file has so many scripts
pub record CountsScripts (file : State) (count : ℕ) : Type 0 where
  pub texts : List (List ℕ)
  pub are : HasScripts file texts
  pub counted : count ≡ length texts
