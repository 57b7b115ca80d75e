use Rattle.std.proofs.Common.{◌≡◌, ◌-◌, suc, arith}
use Rattle.bpf_assembler.proofs.SignedLemmas.{negated}
use Rattle.bpf_assembler.proofs.cursor.Cursor.negative.Goals as goal

pub returns-clause-found : goal.returns-clause-found
returns-clause-found c =
    let n = c.in_ok-number.number in
    let (read, within) = c.in_ok-number.ensures.found in
    let some = c.if-number-eq0.false in
    let next : suc (n - 1) ≡ n = omega (arith, some) in
    (n - 1, (negated (n - 1) (omega (arith, within, some, c.from.ensures, c.requires.bounded)), rw next read, omega (arith, within, some, c.from.ensures)))
