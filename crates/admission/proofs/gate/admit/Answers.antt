use Rattle.std.proofs.Common.{arith, inr, refl}
use Rattle.bpf_model.proofs.ProgramLemmas.{length-unit_count}
use Rattle.admission.proofs.gate.admit.Goals as goal

-- the bytes spell a program with a right flow, and a size is too large
pub returns-then-has_large_window-clause-err : goal.returns-then-has_large_window-clause-err
returns-then-has_large_window-clause-err c =
    let spelled = c.in_ok-program.ensures.found in
    let large = c.has_large_window.ensures.0 c.if-has_large_window.true in (
      λ many. let told = c.has_many_units.ensures.1 many in let not = c.if-has_many_units.false in absurd cc,
      (
        c.in_ok-program.program,
        spelled,
        c.in_ok-shaped.ensures.ok.0 refl,
        omega (arith, spelled.program.some, length-unit_count c.in_ok-program.program),
        (λ same. large, λ large2. refl),
        λ plain. inr large,
      ),
    )
