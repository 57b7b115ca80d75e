-- Bytes that are sent part by part.
use Rattle.std.proofs.Common.{ℕ, ◌+◌, List, [], ◌++◌, Option, None, Some, Result, Ok, Err, OnOk, OnErr, refl, sym, ap, ◌∙◌, append_assoc, arith}
use Rattle.std.specs.Result.{IsErr}
use Rattle.std.proofs.lemmas.List.{length-append, append-nil}
use Rattle.std.specs.Io.KnownBytes.{Appends}
use Rattle.std.proofs.KnownBytes.{Appends-trans}
use Rattle.devices.specs.declared.failed.Failed.{Failed}
use Rattle.devices.specs.Devices.{SinkState, TakesBytes, TakesPart, TakesThenFails}
use Rattle.redis_service.specs.Sending.{Sends, IsPart}

-- the first bytes were taken, and then more
pub takes_then : (a b c : SinkState) (first more : List ℕ) → TakesBytes a b first → TakesBytes b c more → TakesBytes a c (first ++ more)
takes_then a b c first more taken later = (Appends-trans a.held b.held c.held first more taken.0 later.0, later.1 ∙ taken.1)

-- a part of the front is a part of the whole
pub part_more : (a b : SinkState) (bytes more : List ℕ) → TakesPart a b bytes → TakesPart a b (bytes ++ more)
part_more a b bytes more ((front, (rest, taken, parts, some)), count) =
    ((front, (rest ++ more, taken, ap (λ (t : List ℕ). t ++ more) parts ∙ append_assoc front rest more, omega (arith, some, length-append rest more))), count)

-- the front is there, and a part of the rest
pub part_after : (a b c : SinkState) (first bytes : List ℕ) → TakesBytes a b first → TakesPart b c bytes → TakesPart a c (first ++ bytes)
part_after a b c first bytes whole ((front, (rest, taken, parts, some)), count) = (
  (first ++ front, (rest, Appends-trans a.held b.held c.held first front whole.0 taken, ap (λ (t : List ℕ). first ++ t) parts ∙ sym (append_assoc first front rest), some)),
  count ∙ ap (λ (n : ℕ). n + 1) whole.1,
)

-- a part was taken after bytes that were: what was taken in all, and the part
pub cut_after : (a b c : SinkState) (before whole : List ℕ) → TakesBytes a b before → TakesPart b c whole
    → (part : List ℕ) × IsPart part whole × TakesThenFails a c (before ++ part)
cut_after a b c before whole taken ((front, (rest, more, parts, some)), count) =
    (front, (rest, parts, some), (Appends-trans a.held b.held c.held before front taken.0 more, count ∙ ap (λ (n : ℕ). n + 1) taken.1))

appends_none : (held : Option (List ℕ)) → Appends held held []
appends_none None = tt
appends_none (Some bytes) = sym (append-nil bytes)

-- nothing was sent
pub takes_none : (a : SinkState) → TakesBytes a a []
takes_none a = (appends_none a.held, refl)

-- one more part was sent, or was to be
pub sent_more : {A : Type 0} (result : Result A Failed) (a b c : SinkState) (said more : List ℕ) → TakesBytes a b said → OnOk result (TakesBytes b c more)
    → OnErr result (TakesPart b c more) → Sends result a c (said ++ more)
sent_more (Ok _) a b c said more taken ok err = takes_then a b c said more taken ok
sent_more (Err _) a b c said more taken ok err = part_after a b c said more taken err

-- what was sent, if that is all
pub sends_of : {A : Type 0} (result : Result A Failed) (a b : SinkState) (bytes : List ℕ) → OnOk result (TakesBytes a b bytes) → OnErr result (TakesPart a b bytes)
    → Sends result a b bytes
sends_of (Ok _) a b bytes ok err = ok
sends_of (Err _) a b bytes ok err = err

-- a write failed after a part of these bytes
pub not_sent : (result : Result (Unit {0}) Failed) (a b : SinkState) (bytes : List ℕ) → IsErr result → TakesPart a b bytes → Sends result a b bytes
not_sent (Ok _) a b bytes failed taken = cc
not_sent (Err _) a b bytes failed taken = taken
