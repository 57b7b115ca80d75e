-- What a look at a reader of the server's numbers gives.
use Rattle.std.specs.Prelude.{ℕ, ◌≤◌}
use Rattle.map_server.specs.declared.metrics.Heard.{Heard}
use Rattle.map_server.specs.declared.metrics.Heard.TheVariants.{Bytes, NotNow, Ended, Failed}

-- it is no more than there is room for
abbrev pub FitsRoom : ℕ → Heard → Type 0
FitsRoom room (Bytes count) = count ≤ room
FitsRoom room NotNow = Unit {0}
FitsRoom room Ended = Unit {0}
FitsRoom room Failed = Unit {0}
