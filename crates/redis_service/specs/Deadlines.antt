-- What commands make of deadlines, and how they tell them. Times are in milliseconds since the epoch.
use Rattle.std.specs.Prelude.{ℕ, ◌+◌, ◌-◌, ◌/◌, ◌^◌, min, Bool, ◌&&◌, List, Option, Some, None, is_some, negsuc, codes, bytes_eq, if◌then◌else◌}
use Rattle.timed_bins.specs.declared.timing.DeadlineChange.{DeadlineChange}
use Rattle.timed_bins.specs.declared.timing.DeadlineChange.TheVariants.{Keep, Clear, Set, Extend}
use Rattle.timed_bins.specs.declared.timing.SetRule.{SetRule}
use Rattle.timed_bins.specs.declared.timing.SetRule.TheVariants.{Always, IfNone, IfSome, IfLater, IfSooner, IfSomeAndSooner}
use Rattle.timed_bins.specs.Deadlines.{allows}
use Rattle.resp.specs.Replies.{integer_bytes}
use Rattle.redis_commands.specs.declared.command.Lifetime.{Lifetime}
use Rattle.redis_commands.specs.declared.command.Lifetime.TheVariants.{Forever, Kept, Until}
use Rattle.redis_commands.specs.declared.command.ExpireRule.{ExpireRule}
use Rattle.redis_commands.specs.declared.command.ExpireRule.TheVariants as ask
use Rattle.redis_commands.specs.declared.command.TimeUnit.{TimeUnit}
use Rattle.redis_commands.specs.declared.command.TimeUnit.TheVariants.{Seconds, Millis}
use Rattle.redis_commands.specs.declared.command.TimeForm.{TimeForm}
use Rattle.redis_commands.specs.declared.command.TimeForm.TheVariants as form
use Rattle.redis_service.specs.Texts.{count_line, one_if}

-- ---- changes

-- an entry lives this long from now on
abbrev pub lives : Lifetime → DeadlineChange
lives Forever = Clear
lives Kept = Keep
lives (Until at) = Set at Always

-- EXPIRE's NX, XX, GT and LT
abbrev pub rule_by : ExpireRule → SetRule
rule_by ask.Always = Always
rule_by ask.IfNone = IfNone
rule_by ask.IfSome = IfSome
rule_by ask.IfLater = IfLater
rule_by ask.IfSooner = IfSooner
rule_by ask.IfSomeAndSooner = IfSomeAndSooner

-- the time that is so long after now, and at most the last one
abbrev pub later_by : ℕ → ℕ → ℕ
later_by now ms = min (now + ms) (2 ^ 64 - 1)

-- a lock's time goes on for so long: if the word is "0" from its deadline on, and else from now on. A lock without a deadline gets
-- none
abbrev pub goes_on : ℕ → ℕ → List ℕ → DeadlineChange
goes_on now ms word = if bytes_eq word (codes "0") then Extend ms else Set (later_by now ms) IfSome

-- ---- replies, by the value that was found, or none, and the deadline that the key had before, or none

-- EXPIRE: 1 if there was a value, and the rule allowed the deadline
abbrev pub expire_line : SetRule → ℕ → Option (List ℕ) → Option ℕ → List ℕ
expire_line rule at found before = one_if (is_some found && allows rule before at)

-- PERSIST: 1 if there was a value with a deadline
abbrev pub persist_line : Option (List ℕ) → Option ℕ → List ℕ
persist_line found before = one_if (is_some found && is_some before)

-- the extension of a lock: 1 if it was held so, and had a deadline
abbrev pub extended_line : Bool → Option ℕ → List ℕ
extended_line is_held before = one_if (is_held && is_some before)

-- seconds are rounded
abbrev pub in_unit : TimeUnit → ℕ → ℕ
in_unit Millis ms = ms
in_unit Seconds ms = (ms + 500) / 1000

-- the time that is left, or the deadline
abbrev pub in_form : TimeForm → ℕ → ℕ → ℕ
in_form form.Left now at = at - now
in_form form.Until now at = at

-- TTL, PTTL, EXPIRETIME and PEXPIRETIME: -2 if there is no value, and -1 if it has no deadline
abbrev pub time_line : ℕ → TimeUnit → TimeForm → Option (List ℕ) → Option ℕ → List ℕ
time_line now unit form None before = integer_bytes (negsuc 1)
time_line now unit form (Some value) None = integer_bytes (negsuc 0)
time_line now unit form (Some value) (Some at) = count_line (in_unit unit (in_form form now at))
