use Rattle.std.proofs.Common.{◌∙◌, add-one, suc, sym, arith}
use Rattle.std.proofs.lemmas.List.{take_rest}
use Rattle.map_commands.proofs.ShownLemmas.{parted, whole}
use Rattle.map_commands.proofs.shown.around_equals.Goals as goal

pub returns-then-byte-eq61-clause-before : goal.returns-then-byte-eq61-clause-before
returns-then-byte-eq61-clause-before c = sym (parted c.args.word.now c.loop-index.index c.loop-index.invariant c.loop-index-test.true c.if-byte-eq61.true).0

pub returns-then-byte-eq61-clause-behind : goal.returns-then-byte-eq61-clause-behind
returns-then-byte-eq61-clause-behind c =
    rw add-one (take_rest c.args.word.now (suc c.loop-index.index) ∙ sym (parted c.args.word.now c.loop-index.index c.loop-index.invariant c.loop-index-test.true c.if-byte-eq61.true).1)

pub returns-clause-before : goal.returns-clause-before
returns-clause-before c = sym (whole c.args.word.now (λ j lt. c.loop-index.invariant j (omega (arith, lt, c.loop-index-test.false)))).0

pub returns-clause-behind : goal.returns-clause-behind
returns-clause-behind c = sym (whole c.args.word.now (λ j lt. c.loop-index.invariant j (omega (arith, lt, c.loop-index-test.false)))).1
