-- What a connection that never blocks tells, and the bytes that are owed to it.
use Rattle.std.specs.Prelude.{◌≡◌, ℕ, ◌≤◌, ◌++◌, List, Option, length, take}
use Rattle.std.specs.Io.KnownBytes.{Appends, Consumes, IsAtEnd, Keeps}
use Rattle.devices.specs.declared.channel.Received.{Received}
use Rattle.devices.specs.declared.channel.Received.TheVariants as received
use Rattle.devices.specs.declared.channel.Sent.{Sent}
use Rattle.devices.specs.declared.channel.Sent.TheVariants as sent

-- the bytes that are left to be received, and those that were taken, if the connection tells them
pub record ChannelState : Type 0 where
  pub left : Option (List ℕ)
  pub held : Option (List ℕ)

-- nothing was received or taken
abbrev pub IsKept : ChannelState → ChannelState → Type 0
IsKept old new = Keeps old.left new.left × Keeps old.held new.held

-- one receive: some bytes, which are then at the front of the room, or none
abbrev pub Receives : ChannelState → ChannelState → Received → List ℕ → Type 0
Receives old new (received.Bytes n) room =
    (1 ≤ n) × (n ≤ length room) × Consumes old.left new.left (take n room) × Keeps old.held new.held
Receives old new received.NotNow room = IsKept old new
Receives old new received.Ended room = IsKept old new × IsAtEnd new.left
Receives old new received.Failed room = IsKept old new

-- one send: some bytes of the front were taken, or none
abbrev pub Sends : ChannelState → ChannelState → Sent → List ℕ → Type 0
Sends old new (sent.Took n) bytes =
    (1 ≤ n) × (n ≤ length bytes) × Keeps old.left new.left × Appends old.held new.held (take n bytes)
Sends old new sent.NotNow bytes = IsKept old new
Sends old new sent.Failed bytes = IsKept old new

-- the connection took a front of the bytes owed to it
pub record TakesOwed (old new : ChannelState) (owed left : List ℕ) : Type 0 where
  pub front : List ℕ
  pub parts : owed ≡ front ++ left
  pub taken : Appends old.held new.held front
  pub unread : Keeps old.left new.left
