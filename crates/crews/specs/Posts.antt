-- What posts come to. No public contract cites this.
use Rattle.std.specs.Prelude.{ℕ, Bool, List, Option, Some}
use Rattle.atomic_table.specs.Seated.{TableId}
use Rattle.bin_stripes.specs.Passes.{PassState}
use Rattle.program_registry.specs.declared.registry.Registry.{Registry}
use Rattle.devices.specs.Channels.{ChannelState}
use Rattle.crews.specs.declared.clients.Protocol.{Protocol}
use Rattle.crews.specs.declared.crew.Crew.{Crew}
use Rattle.crews.specs.declared.posts.Post.{Post}
use Rattle.crews.specs.Arrivals.{CountGoes}
use Rattle.crews.specs.Crews.{IsCrewOf, CarriesSame}
use Rattle.crews.specs.Lives.{HasLived}

module _ {C P : Type 0} (state : C → ChannelState) (gave : PassState → C → Protocol → Type 0) (registry : Registry) (password : Option (List ℕ)) (strict : Bool) (there : P → ℕ → Type 0) (is_over : P → Type 0) where
  -- a post before and after its crew attended clients of this map
  pub record IsAttendedPost (id : TableId) (old new : Post P Crew) : Type 0 where
    pub map : IsCrewOf id new.crew
    pub same : CarriesSame old.crew new.crew
    pub lived : HasLived state gave registry password strict old.crew new.crew
    pub count : CountGoes there old.clients 0 new.clients 0
    pub over : is_over new.clients

  -- the seat of such a post
  abbrev pub IsAttendedSeat : TableId → Option (Post P Crew) → Option (Post P Crew) → Type 0
  IsAttendedSeat id (Some old) (Some new) = IsAttendedPost id old new
  IsAttendedSeat id old new = ⊥
