-- an array with a negative count
use Rattle.resp.proofs.array.array_at.Goals as goal

pub returns-in-Some-clause-read : goal.returns-in-Some-clause-read
returns-in-Some-clause-read c = rw c.in-Some.ensures.some (c.empty_array_at.ensures.read _)
