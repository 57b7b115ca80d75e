-- Pieces written one after the other.
use Rattle.std.proofs.Common.{arith, ℕ, ◌+◌, List, ◌++◌, ap, sym, ◌∙◌, append_assoc}
use Rattle.std.proofs.lemmas.List.{length-append}
use Rattle.std.proofs.KnownBytes.{Appends-trans}
use Rattle.devices.specs.Devices.{SinkState, TakesBytes, TakesPart}

-- the first bytes were taken, and then more
pub takes_then : (a b c : SinkState) (first more : List ℕ) → TakesBytes a b first → TakesBytes b c more → TakesBytes a c (first ++ more)
takes_then a b c first more taken later = (Appends-trans a.held b.held c.held first more taken.0 later.0, later.1 ∙ taken.1)

-- a part of the front is a part of the whole
pub part_more : (a b : SinkState) (bytes more : List ℕ) → TakesPart a b bytes → TakesPart a b (bytes ++ more)
part_more a b bytes more ((front, (rest, taken, parts, some)), count) =
    ((front, (rest ++ more, taken, ap (λ (t : List ℕ). t ++ more) parts ∙ append_assoc front rest more, omega (arith, some, length-append rest more))), count)

-- the front is there, and a part of the rest
pub part_after : (a b c : SinkState) (first bytes : List ℕ) → TakesBytes a b first → TakesPart b c bytes → TakesPart a c (first ++ bytes)
part_after a b c first bytes whole ((front, (rest, taken, parts, some)), count) = (
  (first ++ front, (rest, Appends-trans a.held b.held c.held first front whole.0 taken, ap (λ (t : List ℕ). first ++ t) parts ∙ sym (append_assoc first front rest), some)),
  count ∙ ap (λ (n : ℕ). n + 1) whole.1,
)
