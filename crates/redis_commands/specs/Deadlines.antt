-- Deadlines: which one a number of a command tells, and when it is set.
use Rattle.std.specs.Prelude.{ℕ, Bool, ◌&&◌, ◌||◌, not, List, codes, ℤ, pos, negsuc, ◌+ℤ◌, ◌*ℤ◌, int_lt, Option, Some, None, Result, Ok, Err, find, if◌then◌else◌}
use Rattle.std.specs.List.{list_any}
use Rattle.redis_commands.specs.declared.name.Name.{Name}
use Rattle.redis_commands.specs.declared.command.TimeUnit.{TimeUnit}
use Rattle.redis_commands.specs.declared.command.TimeUnit.TheVariants.{Seconds, Millis}
use Rattle.redis_commands.specs.declared.command.TimeForm.{TimeForm}
use Rattle.redis_commands.specs.declared.command.TimeForm.TheVariants.{Left, Until}
use Rattle.redis_commands.specs.declared.command.ExpireRule.{ExpireRule}
use Rattle.redis_commands.specs.declared.command.ExpireRule.TheVariants.{Always, IfNone, IfSome, IfLater, IfSooner, IfSomeAndSooner}
use Rattle.redis_commands.specs.Numbers.{fits_64}
use Rattle.redis_commands.specs.Words.{is}
use Rattle.redis_commands.specs.Commands.{Fault}
use Rattle.redis_commands.specs.Commands.Fault.{BadExpire, ExpireOption, NxWithOthers, GtWithLt}

-- ---- times

-- a number of seconds or milliseconds, in milliseconds
abbrev pub millis : TimeUnit → ℤ → ℤ
millis Seconds n = n *ℤ pos 1000
millis Millis n = n

-- the time from which a number is counted: from now on, or since the epoch
abbrev pub counted_from : TimeForm → ℕ → ℤ
counted_from Left now = pos now
counted_from Until now = pos 0

-- a time before the epoch counts as the epoch
abbrev pub from_0 : ℤ → ℕ
from_0 (pos n) = n
from_0 (negsuc n) = 0

-- the deadline that a number tells at the time `now`; both the number in milliseconds and the deadline have 64 bits
abbrev pub deadline : Name → ℕ → TimeUnit → TimeForm → ℤ → Result ℕ Fault
deadline name now unit form n =
    let at = counted_from form now +ℤ millis unit n in
    if fits_64 (millis unit n) && fits_64 at then Ok (from_0 at) else Err (BadExpire name)

-- the same, of a number that has to be above 0
abbrev pub deadline_above_0 : Name → ℕ → TimeUnit → TimeForm → ℤ → Result ℕ Fault
deadline_above_0 name now unit form n = if int_lt (pos 0) n then deadline name now unit form n else Err (BadExpire name)

-- ---- when a deadline is set: the words after it are NX, XX, GT and LT, in any order

abbrev pub is_expire_option : List ℕ → Bool
is_expire_option word = is (codes "nx") word || is (codes "xx") word || is (codes "gt") word || is (codes "lt") word

-- the first word that is none of them
abbrev pub unknown_option : List (List ℕ) → Option (List ℕ)
unknown_option words = find (λ word. not (is_expire_option word)) words

-- one of the words is this one
abbrev pub has : List ℕ → List (List ℕ) → Bool
has name words = list_any (is name) words

-- by which of the four words are there
abbrev pub rule_by : Bool → Bool → Bool → Bool → Result ExpireRule Fault
rule_by nx xx gt lt =
    if nx && (xx || gt || lt) then Err NxWithOthers
    else (if gt && lt then Err GtWithLt
    else (if nx then Ok IfNone
    else (if gt then Ok IfLater
    else (if lt then (if xx then Ok IfSomeAndSooner else Ok IfSooner)
    else (if xx then Ok IfSome else Ok Always)))))

abbrev pub rule_of : List (List ℕ) → Result ExpireRule Fault
rule_of words = elim (unknown_option words) [
  | Some word ↦ Err (ExpireOption word)
  | None ↦ rule_by (has (codes "nx") words) (has (codes "xx") words) (has (codes "gt") words) (has (codes "lt") words)
]
