use Rattle.std.proofs.Common.{◌≡◌, ◌<◌, ◌∙◌, length, get_or, refl, sym, arith}
use Rattle.std.proofs.lemmas.List.{get_or_default}
use Rattle.stack_slots.specs.declared.reg_value.RegValue.TheVariants.{Unwritten, Number}
use Rattle.verifier.specs.Changes.{IsNarrowed}
use Rattle.verifier.specs.Joins.{register}
use Rattle.verifier.proofs.ChangeLemmas.{narrows_at, narrowed_same}
use Rattle.verifier.proofs.abstract_state.AbstractState.narrow.Goals as goal

pub returns-in-Number-clause-changes : goal.returns-in-Number-clause-changes
returns-in-Number-clause-changes c =
    let a = c.args.self.now in
    let n = c.number.result in
    let lt : n < length a.registers = omega arith in
    let is : register a n ≡ Number c.in-Number.field-0 = sym (get_or_default a.registers n _ Unwritten lt) ∙ c.in-Number.is in
    let narrowed : IsNarrowed (register a n) (Number c.args.range) = rw is (c.args.range, refl) in
    narrows_at a n (Number c.args.range) lt narrowed

pub returns-in_default-clause-changes : goal.returns-in_default-clause-changes
returns-in_default-clause-changes c =
    let a = c.args.self.now in
    let n = c.number.result in
    let x = c.index-self-number.result in
    let lt : n < length a.registers = omega arith in
    let narrowed : IsNarrowed (register a n) (get_or a.registers n x) = rw (get_or_default a.registers n x Unwritten lt) (narrowed_same (register a n)) in
    narrows_at a n (get_or a.registers n x) lt narrowed
