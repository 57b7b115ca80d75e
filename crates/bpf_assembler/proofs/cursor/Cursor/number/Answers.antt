use Rattle.std.proofs.Common.{◌∙◌, sym, arith, take}
use Rattle.bpf_assembler.specs.Operands.{run, is_digit}
use Rattle.bpf_assembler.proofs.NumberLemmas.{AreDigits-run, digits_in_range, number_found}
use Rattle.bpf_assembler.proofs.cursor.Cursor.number.Goals as goal

pub value_within-requires : goal.value_within-requires
value_within-requires c =
    let text = c.args.self.now.rest.now in
    rw c.digits-digits.ensures.digits (digits_in_range (take (run is_digit text) text) (AreDigits-run text))

pub returns-in-Some-clause-found : goal.returns-in-Some-clause-found
returns-in-Some-clause-found c =
    let (value, within) = c.in-Some.ensures.some in
    let numeral = sym c.is_numeral.ensures ∙ c.if-not-is_numeral.false in
    let digits = c.digits-digits in
    (number_found c.args.self.now.rest.now digits.result.now digits.new.self.rest.now c.in-Some.number digits.ensures.digits digits.ensures.rest numeral value (omega (arith, within, c.ranges.limit.fits)), within)
