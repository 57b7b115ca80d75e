-- What a look for a deadline that is over finds.
use Rattle.std.specs.Prelude.{◌≡◌, ℕ, ◌<◌, ◌≤◌, true, List, Some, None}
use Rattle.bins.specs.Table.{Table}
use Rattle.timed_bins.specs.declared.deadlines.Found.{Found}
use Rattle.timed_bins.specs.declared.deadlines.Found.TheVariants.{Over, Later, None as NoDeadline}
use Rattle.timed_bins.specs.Agendas.{deadline_of}
use Rattle.timed_bins.specs.Deadlines.{is_over}

-- no deadline is over, nor is one before this time
pub record WaitsFor (times : Table) (now at : ℕ) : Type 0 where
  pub later : now < at
  pub none_before : (key : List ℕ) (deadline : ℕ) → deadline_of times key ≡ Some deadline → at ≤ deadline

abbrev pub Finds : Table → ℕ → Found → Type 0
Finds times now (Over key) = is_over (deadline_of times key) now ≡ true
Finds times now (Later at) = WaitsFor times now at
Finds times now NoDeadline = (key : List ℕ) → deadline_of times key ≡ None
