use Rattle.std.proofs.Common.{◌≡◌, ◌+◌, ◌<◌, ℕ, false, length, get_or, nat_eq, arith, add-one}
use Rattle.std.proofs.lemmas.Bool.Decides.{nat_tests}
use Rattle.std.proofs.lemmas.List.{take_rest}
use Rattle.redis_scripts.proofs.PieceLemmas.{pieces-at, pieces-whole}
use Rattle.redis_scripts.proofs.pieces.cut.Goals as goal

pub returns-in-Some : goal.returns-in-Some
returns-in-Some c =
    let text = c.args.text.now in
    let place = c.in-Some.place in
    let found = c.in-Some.ensures in
    let other : (k : ℕ) → k < place → nat_eq (get_or text k 0) c.args.separator ≡ false = λ k h. (let no = found.0.before k (omega arith) h in grind (arith, nat_tests, no)) in
    rw (take_rest text (place + 1), add-one place) (pieces-at c.args.separator text place found.0.high found.1 other)

pub returns-in-None : goal.returns-in-None
returns-in-None c =
    let text = c.args.text.now in
    let other : (k : ℕ) → k < length text → nat_eq (get_or text k 0) c.args.separator ≡ false = λ k h. (let no = c.in-None.ensures k (omega arith) h in grind (arith, nat_tests, no)) in
    pieces-whole c.args.separator text other
