-- The answers that a client's connection has not taken yet.
use Rattle.std.specs.Prelude.{◌≡◌, ℕ, List, [], ◌++◌, false, Option, Some, unwrap_or}
use Rattle.devices.specs.Channels.{ChannelState, TakesOwed}
use Rattle.devices.specs.Devices.{SinkState}

-- their bytes, and how many writes of more failed
pub record OwedState : Type 0 where
  pub rest : List ℕ
  pub failures : ℕ

-- the bytes before a reply, those of the reply, and those after it
abbrev pub in_order : List ℕ → Option (List ℕ) → List ℕ → List ℕ
in_order front reply back = front ++ (unwrap_or reply [] ++ back)

-- what it tells as a sink: all that is owed was taken, and nothing is kept back
abbrev pub sink_of : OwedState → SinkState
sink_of owed = record { held = Some owed.rest; keeps_back = false; failures = owed.failures }

-- the connection took a front of all that was owed, and this is left
abbrev pub IsSent : ChannelState → ChannelState → OwedState → OwedState → Type 0
IsSent old new whole left = TakesOwed old new whole.rest left.rest × (left.failures ≡ whole.failures)
