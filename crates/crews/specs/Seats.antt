-- Where a worker's clients stand between their turns. No public contract cites this.
use Rattle.std.specs.Prelude.{◌≡◌, ◌≢◌, ℕ, ◌<◌, List, Option, Some}
use Rattle.slab.specs.Slab.{Slab, get}
use Rattle.devices.specs.Channels.{ChannelState}
use Rattle.crews.specs.declared.clients.Protocol.{Protocol}
use Rattle.crews.specs.declared.turn.Client.{Client}
use Rattle.bin_stripes.specs.Passes.{PassState}
use Rattle.program_registry.specs.declared.registry.Registry.{Registry}
use Rattle.crews.specs.Lives.{Known, Turn, exchanges_of, Arrival, HasCome, Life, Stands}

module _ {C : Type 0} (state : C → ChannelState) (gave : PassState → C → Protocol → Type 0) (registry : Registry) (password : Option (List ℕ)) where
  -- this is how the client of these turns stands
  abbrev pub IsClient : Known → List Turn → Known → ℕ → Client C → Type 0
  IsClient old turns new clients client =
      (client.number < clients)
      × ((came : Arrival C) × HasCome gave old turns new client.number came
      × Stands state registry password came client.channel (exchanges_of client.number turns) client.tokens client.talk client.owed client.leaving)

  -- each seat has a client of the life, no two the same
  pub record Seated (old : Known) (turns : List Turn) (new : Known) (clients : ℕ) (seats : Slab (Client C)) : Type 0 where
    pub stands : (seat : ℕ) (client : Client C) → get seats seat ≡ Some client → IsClient old turns new clients client
    pub apart : (seat other : ℕ) (client more : Client C) → get seats seat ≡ Some client → get seats other ≡ Some more → client.number ≡ more.number → seat ≡ other

  -- none of them has this number
  abbrev pub HasNone : Slab (Client C) → ℕ → Type 0
  HasNone seats number = (seat : ℕ) (client : Client C) → get seats seat ≡ Some client → client.number ≢ number

  -- the life so far, and its clients in their seats
  abbrev pub IsAttended : Known → List Turn → Known → ℕ → Slab (Client C) → Type 0
  IsAttended old turns new clients seats = Life state gave registry password old turns new clients × Seated old turns new clients seats
