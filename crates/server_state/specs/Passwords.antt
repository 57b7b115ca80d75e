-- Passwords.
use Rattle.std.specs.Prelude.{ℕ, List, ◌||◌, Option, Some, None, option_map, length, nat_eq, nat_lt, if◌then◌else◌}
use Rattle.std.specs.Borrow.{Bor}
use Rattle.server_state.specs.declared.password.TheConstants.{PASSWORD_BYTES}

-- the password of these bytes, if there are neither none nor too many
abbrev pub made : List ℕ → Option (List ℕ)
made bytes = if nat_eq (length bytes) 0 || nat_lt PASSWORD_BYTES (length bytes) then None else Some bytes

-- the password that is lent, if there is one
abbrev pub lent : Option (Bor (List ℕ)) → Option (List ℕ)
lent password = option_map (λ p. p.now) password
