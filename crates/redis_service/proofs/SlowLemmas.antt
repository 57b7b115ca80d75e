-- A command that took long, part by part.
use Rattle.std.proofs.Common.{◌≡◌, ℕ, List, ◌++◌, Option, Some, None, Result, subst, append_assoc, arith}
use Rattle.devices.specs.declared.failed.Failed.{Failed}
use Rattle.devices.specs.Devices.{SinkState}
use Rattle.resp.specs.Replies.{array_head, value_bytes}
use Rattle.server_state.specs.declared.slowlog.SlowEntry.{SlowEntry}
use Rattle.server_state.specs.declared.slowlog.SlowWord.{SlowWord}
use Rattle.redis_service.specs.Sending.{Sends}
use Rattle.redis_service.specs.Slowlogs.{IsWithin, entry_bytes, words_bytes}
use Rattle.redis_service.specs.Texts.{count_line}

-- two parts after what was said are one
pub chained : (r : Result (Unit {0}) Failed) (old new : SinkState) (said a b : List ℕ) → Sends r old new ((said ++ a) ++ b) → Sends r old new (said ++ (a ++ b))
chained r old new said a b sends = subst (λ (t : List ℕ). Sends r old new t) (append_assoc said a b) sends

-- the parts are those of the command
pub parts_of : (entry : SlowEntry) (words : List SlowWord) (address name : List ℕ) → words ≡ entry.words.items → address ≡ entry.address.items
    → name ≡ entry.name.items
    → (array_head 6 ++ count_line entry.number ++ count_line entry.time ++ count_line entry.microseconds ++ words_bytes words ++ value_bytes address
    ++ value_bytes name) ≡ entry_bytes entry
parts_of entry words address name p q r = cc

-- none are no more than are asked for
pub none_within : (count : Option ℕ) → IsWithin count 0
none_within None = tt
none_within (Some most) = omega arith
