-- What contracts see of a crew.
use Rattle.std.specs.Prelude.{◌≡◌, ℕ, false, All, List, map, Option, Some}
use Rattle.atomic_table.specs.Seated.{TableId}
use Rattle.bin_stripes.specs.Passes.{PassState}
use Rattle.crews.specs.declared.crew.Crew.{Crew}
use Rattle.crews.specs.Stations.{KeptTokens, Station}
use Rattle.crews.specs.Steps.{Pairwise}

-- its passes are of this map
pub record IsCrewOf (id : TableId) (crew : Crew) : Type 0 where
  pub pass : crew.pass.map ≡ id
  pub team : All (λ member. member.map ≡ id) crew.team.passes.items

-- what its passes know, with these tokens, and it is not strict
abbrev pub station : Crew → KeptTokens → Station
station crew tokens = record { pass = crew.pass; team = crew.team.passes.items; tokens = tokens; is_strict = false }

-- the numbers that a state's passes carry, in order
abbrev pub team_numbers : List PassState → List (List ℕ)
team_numbers team = map (λ member. member.view.numbers) team

-- its passes carry the numbers that they carried, and it has the worker's number that it had
pub record CarriesSame (old new : Crew) : Type 0 where
  pub worker : new.worker ≡ old.worker
  pub pass : new.pass.view.numbers ≡ old.pass.view.numbers
  pub team : team_numbers new.team.passes.items ≡ team_numbers old.team.passes.items

-- the same crews, in their order
abbrev pub AllCarrySame : List Crew → List Crew → Type 0
AllCarrySame olds news = Pairwise CarriesSame olds news

-- a seat from which a crew served clients of this map
abbrev pub IsServed : TableId → Option Crew → Option Crew → Type 0
IsServed id (Some old) (Some new) = IsCrewOf id new × CarriesSame old new
IsServed id old new = ⊥
