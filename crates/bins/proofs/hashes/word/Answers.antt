use Rattle.std.proofs.Common.{ℕ, ◌-◌, ◌*◌, length, min, drop, take, ap, ◌≡◌, arith}
use Rattle.std.proofs.lemmas.List.{take_all, length-drop}
use Rattle.bins.specs.Fronts.{front}
use Rattle.bins.specs.Mixed.{word_at}
use Rattle.bins.proofs.hashes.word.Goals as goal

pub returns : goal.returns
unfolding word_at
returns c =
    let at : ℕ = min (8 * c.args.number) (length c.args.key.now - 8) in
    let whole : take (length c.args.key.now - at) (drop at c.args.key.now) ≡ drop at c.args.key.now =
    take_all (length c.args.key.now - at) (drop at c.args.key.now) (omega (arith, length-drop at c.args.key.now)) in
    rw (c.front_of.ensures.value, c.min-at.ensures, c.saturating_sub.ensures) (ap (front 8) whole)
