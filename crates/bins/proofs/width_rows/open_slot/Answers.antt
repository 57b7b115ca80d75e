use Rattle.std.proofs.Common.{◌<◌, ◌^◌, sym, ◌∙◌, arith}
use Rattle.bins.proofs.WidthLemmas.{opened_same}
use Rattle.bins.proofs.width_rows.open_slot.Goals as goal

pub returns-else-many-shift-clause-opened : goal.returns-else-many-shift-clause-opened
returns-else-many-shift-clause-opened c =
    let segments = c.args.segments.now in
    let some : 0 < 2 ^ c.args.shift = omega (arith, c.requires.enough, c.requires.needed) in
    opened_same segments.items (2 ^ c.args.shift) some c.args.many c.requires.enough c.requires.needed (λ is. c.if-many-shift.false (is ∙ sym (c.len.ensures ∙ segments.ok.0)))
