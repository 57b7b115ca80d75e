use Rattle.std.proofs.Common.{◌≡◌, ◌-◌, ◌<◌, ◌^◌, ◌*◌, ◌/◌, List, ℕ, take, sym, ap, subst, ◌∙◌, arith}
use Rattle.std.proofs.lemmas.Nat.{shr_split}
use Rattle.bins.specs.Segments.{IsClosed}
use Rattle.bins.proofs.WidthLemmas.{closed_less}
use Rattle.bins.proofs.width_rows.close_slot.Goals as goal

pub returns-in-Some-clause-closed : goal.returns-in-Some-clause-closed
returns-in-Some-clause-closed c =
    let segments = c.args.segments.now in
    let some : 0 < 2 ^ c.args.shift = omega (arith, c.requires.enough, c.requires.needed) in
    let edge : c.args.last ≡ c.args.last / 2 ^ c.args.shift * 2 ^ c.args.shift = omega (arith, c.if-last-shift.true, c.ranges.last.fits, shr_split c.args.last c.args.shift) in
    let left = closed_less segments.items (2 ^ c.args.shift) some c.args.last c.requires.enough c.requires.needed edge in
    subst (λ (xs : List (List ℕ)). IsClosed segments.items xs (2 ^ c.args.shift) c.args.last) (sym (c.pop.ensures.rest ∙ ap (λ (n : ℕ). take (n - 1) segments.items) segments.ok.0)) left
