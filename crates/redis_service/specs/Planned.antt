-- How the code shows changes, and what it plans to do.
use Rattle.std.specs.Prelude.{ℕ, ◌≤◌, List, length, Option, ◌+◌}
use Rattle.bpf_model.specs.declared.limits.TheConstants.{VALUE_BYTES}
use Rattle.redis_service.specs.declared.changes.Change.{Change}
use Rattle.redis_service.specs.declared.changes.Change.TheVariants as change
use Rattle.redis_service.specs.declared.changes.Planned.{Planned}
use Rattle.redis_service.specs.declared.changes.Planned.TheVariants.{Stays, Becomes}
use Rattle.redis_service.specs.Changes.{Step, stays, becomes}
use Rattle.redis_service.specs.Replied.{replied_bytes}
use Rattle.redis_service.specs.Texts.{Adds, Appends, SetsRange, SetsIfEqual}

-- what the change does with the value that it finds
abbrev pub Does : Change → Option (List ℕ) → Step → Type 0
Does (change.Add by) found step = Adds by found step
Does (change.Append more) found step = Appends more.now found step
Does (change.SetRange offset more) found step = SetsRange offset more.now found step
Does (change.SetIfEqual expected value) found step = SetsIfEqual expected.now value.now found step

-- its values are within the limit
abbrev pub IsWithin : Change → Type 0
IsWithin (change.Add by) = 0 ≤ VALUE_BYTES
IsWithin (change.Append more) = length more.now ≤ VALUE_BYTES
IsWithin (change.SetRange offset more) = 1 ≤ length more.now → offset + length more.now ≤ VALUE_BYTES
IsWithin (change.SetIfEqual expected value) = length value.now ≤ VALUE_BYTES

-- what was planned for the value that was found; the new value was left here
abbrev pub step_by : Planned → List ℕ → List ℕ → Step
step_by (Stays replied) found value = stays (replied_bytes replied found)
step_by (Becomes replied) found value = becomes value (replied_bytes replied found)
