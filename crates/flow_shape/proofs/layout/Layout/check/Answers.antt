use Rattle.std.proofs.Common.{◌≡◌, ◌≢◌, ◌+◌, true, ap, sym, ◌∙◌, arith}
use Rattle.bpf_model.specs.Program.{unit_count, units_of}
use Rattle.flow_shape.specs.Jumps.{falls_through}
use Rattle.flow_shape.proofs.FaultLemmas.{clear_here, falls_here}
use Rattle.flow_shape.proofs.layout.Layout.check.Goals.{else-falls_through-via-then-falls_through+else-unit-units, else-falls_through-via-else-falls_through}
use Rattle.flow_shape.proofs.layout.Layout.check.Goals as goal

pub returns-then-unit-units-clause-err : goal.returns-then-unit-units-clause-err
returns-then-unit-units-clause-err c =
    let program = c.args.self.now in
    let last = c.if-unit-units.true ∙ c.self.invariant.counted ∙ ap unit_count c.self.view_is in
    falls_here program c.args.unit c.args.insn.now c.requires c.in_ok-check_jump.ensures.ok (sym c.falls_through.ensures ∙ c.if-falls_through.true) (ap (λ n. c.args.unit + n) (sym c.units.ensures.value) ∙ last)

pub returns-clause-ok : goal.returns-clause-ok
returns-clause-ok c =
    let program = c.args.self.now in
    let i = c.args.insn.now in
    let total = c.self.invariant.counted ∙ ap unit_count c.self.view_is in
    let goes_on : falls_through i ≡ true → c.args.unit + units_of i ≢ unit_count program = λ passes last. elim c.else-falls_through.branch [
      | else-falls_through-via-then-falls_through+else-unit-units w ↦ omega (arith, w.if-unit-units.false, w.units.ensures.value, last, total)
      | else-falls_through-via-else-falls_through w ↦ let test = w.if-falls_through.false in let is = c.falls_through.ensures in cc
    ] in
    clear_here program c.args.unit i c.requires c.in_ok-check_jump.ensures.ok goes_on
