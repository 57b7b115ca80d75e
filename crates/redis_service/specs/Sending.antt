-- Bytes that were sent, or were to be.
use Rattle.std.specs.Prelude.{◌≡◌, ◌≤◌, ℕ, List, ◌++◌, length, Result, Ok, Err}
use Rattle.devices.specs.declared.failed.Failed.{Failed}
use Rattle.devices.specs.Devices.{SinkState, TakesBytes, TakesPart}

-- the bytes were taken, or a write failed after a part of them
abbrev pub Sends : {A : Type 0} → Result A Failed → SinkState → SinkState → List ℕ → Type 0
Sends (Ok _) old new bytes = TakesBytes old new bytes
Sends (Err _) old new bytes = TakesPart old new bytes

-- a beginning of these bytes, and not all of them
abbrev pub IsPart : List ℕ → List ℕ → Type 0
IsPart part whole = (missing : List ℕ) × (whole ≡ part ++ missing) × (1 ≤ length missing)
