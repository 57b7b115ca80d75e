-- Commands whose keys, values and clients' names are within the limits.
use Rattle.std.specs.Prelude.{◌≡◌, ℕ, ◌≤◌, List, [], ◌∷◌, length, All, IfSome}
use Rattle.bpf_model.specs.declared.limits.TheConstants.{KEY_BYTES, VALUE_BYTES}
use Rattle.redis_commands.specs.declared.command.TheConstants.{NAME_BYTES}
use Rattle.redis_commands.specs.Commands.{Asked, ConnectionAsked, ProgramAsked}
use Rattle.redis_commands.specs.Commands.Asked.{OnKey, OnKeys, SetEach, Connection, Program}
use Rattle.redis_commands.specs.Commands.ConnectionAsked.{Hello, SetClientName}
use Rattle.redis_commands.specs.Commands.ProgramAsked.{Call, Eval}
use Rattle.redis_commands.specs.Table.{longest}

abbrev pub IsKey : List ℕ → Type 0
IsKey key = length key ≤ KEY_BYTES

abbrev pub IsValue : List ℕ → Type 0
IsValue value = length value ≤ VALUE_BYTES

-- keys and values by turns
abbrev pub ArePairs : List (List ℕ) → Type 0
ArePairs [] = Unit {0}
ArePairs (key ∷ []) = ⊥
ArePairs (key ∷ value ∷ more) = IsKey key × IsValue value × ArePairs more

abbrev pub IsProgramWithin : ProgramAsked → Type 0
IsProgramWithin (Call digest key arguments) = (length digest ≡ 40) × IsKey key × All IsValue arguments
IsProgramWithin (Eval script key arguments) = IsKey key × All IsValue arguments
IsProgramWithin program = Unit {0}

abbrev pub IsName : List ℕ → Type 0
IsName name = length name ≤ NAME_BYTES

abbrev pub IsConnectionWithin : ConnectionAsked → Type 0
IsConnectionWithin (Hello password name) = IfSome name IsName
IsConnectionWithin (SetClientName name) = IsName name
IsConnectionWithin connection = Unit {0}

-- it asks for nothing of the map
abbrev pub IsOfConnection : Asked → Type 0
IsOfConnection (Connection connection) = Unit {0}
IsOfConnection asked = ⊥

-- each key is within its limit, each value that is named or that a range makes, and a client's name
abbrev pub IsWithinLimits : Asked → Type 0
IsWithinLimits (OnKey key act) = IsKey key × (longest act ≤ VALUE_BYTES)
IsWithinLimits (OnKeys keys act) = All IsKey keys
IsWithinLimits (SetEach words) = ArePairs words
IsWithinLimits (Connection connection) = IsConnectionWithin connection
IsWithinLimits (Program program) = IsProgramWithin program
IsWithinLimits asked = Unit {0}
