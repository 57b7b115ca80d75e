-- What `--memory` leaves to entries, to programs and to sessions, in bytes.
use Rattle.std.specs.Prelude.{ℕ, ◌-◌, ◌*◌, ◌/◌, ◌^◌, min, max, Option, None, Some}
use Rattle.map_server.specs.declared.memory.Shares.{Shares}

-- a sixteenth is left to programs, a fiftieth to sessions, or four MiB if that is more, and the rest to entries
abbrev pub shares_within : ℕ → Shares
shares_within bytes =
    let programs = bytes / 16 in
    let sessions = max (bytes / 50) (4 * 2 ^ 20) in
    record { entries = Some (bytes - programs - sessions); programs = programs; sessions = sessions }

-- of this many MiB; without a bound nothing is bounded
abbrev pub shares_of : Option ℕ → Shares
shares_of None = record { entries = None; programs = 2 ^ 64 - 1; sessions = 2 ^ 64 - 1 }
shares_of (Some mebibytes) = shares_within (min (mebibytes * 2 ^ 20) (2 ^ 64 - 1))
