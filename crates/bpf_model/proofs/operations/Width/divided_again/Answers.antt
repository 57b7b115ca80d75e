use Rattle.std.proofs.Common.{ap, ◌∙◌}
use Rattle.bpf_model.specs.declared.operations.AluOp.TheVariants.{Add, Mul}
use Rattle.bpf_model.specs.Arithmetic.{alu_value}
use Rattle.bpf_model.proofs.ArithmeticLaws.{signed_division, signed_division_exact, signed_quotient_by_zero, least_by_minus_one, signed_remainder_near, signed_remainder_not_negative, signed_remainder_not_positive}
use Rattle.bpf_model.proofs.operations.Width.divided_again.Goals as goal

pub returns-clause-value : goal.returns-clause-value
returns-clause-value c =
    let width = c.args.self in
    c.apply-2.ensures
    ∙ ap (λ k. alu_value Add width k c.apply-remainder.result) (c.apply.ensures ∙ ap (λ k. alu_value Mul width k c.args.divisor) c.apply-quotient.ensures)
    ∙ ap (alu_value Add width _) c.apply-remainder.ensures
    ∙ signed_division width c.args.dividend c.args.divisor

pub returns-clause-division : goal.returns-clause-division
returns-clause-division c =
    let width = c.args.self in
    let dividend = c.args.dividend in
    let divisor = c.args.divisor in
    record {
      modulo = signed_division width dividend divisor;
      whole = signed_division_exact width dividend divisor;
      by_zero = signed_quotient_by_zero width dividend divisor;
      least = least_by_minus_one width dividend divisor;
      near = signed_remainder_near width dividend divisor;
      not_negative = signed_remainder_not_negative width dividend divisor;
      not_positive = signed_remainder_not_positive width dividend divisor;
    }
