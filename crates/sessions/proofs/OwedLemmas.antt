-- When something is owed.
use Rattle.std.proofs.Common.{◌≡◌, ℕ, ◌+◌, ◌≤◌, List, [], ◌++◌, length, Option, Some, None, true, is_some, refl, ap, arith}
use Rattle.std.proofs.lemmas.List.{length-append}
use Rattle.std.proofs.KnownBytes.{Appends-nil}
use Rattle.std.specs.Option.{ForSome}
use Rattle.devices.specs.Devices.{TakesPart}
use Rattle.sessions.specs.OwedAnswers.{OwedState, in_order, sink_of}

-- bytes at the front
pub front_owed : (front more : List ℕ) → 1 ≤ length front → front ++ more ≡ [] → ⊥
front_owed front more some none = omega (arith, some, length-append front more, ap length none)

-- a reply whose frames have bytes
pub reply_owed : (front back : List ℕ) (reply : Option (List ℕ)) → ForSome reply (λ frames. 1 ≤ length frames) → is_some reply ≡ true → in_order front reply back ≡ [] → ⊥
reply_owed front back (Some frames) some is none =
    omega (arith, some frames refl, length-append frames back, length-append front (frames ++ back), ap length none)
reply_owed front back None some is none = absurd cc

-- a write failed, and none of the bytes are owed
pub takes_no_byte : (owed : OwedState) (bytes : List ℕ) → 1 ≤ length bytes → TakesPart (sink_of owed) (sink_of (record { rest = owed.rest; failures = owed.failures + 1 })) bytes
takes_no_byte owed bytes some = (([], (bytes, Appends-nil (Some owed.rest), refl, some)), refl)
