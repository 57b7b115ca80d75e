use Rattle.std.proofs.Common.{◌≡◌, ◌∙◌, ◌∷◌, suc, true, false, sym, ap, length, arith, option_copied}
use Rattle.std.specs.Prelude.{not}
use Rattle.redis_scripts.specs.Pieces.{pieces_after}
use Rattle.redis_scripts.specs.Code.{has_code}
use Rattle.redis_scripts.proofs.PieceLemmas.{pieces-count}
use Rattle.redis_scripts.proofs.CodeLemmas.{number-here, number-later, number-empty, number-none}
use Rattle.redis_scripts.proofs.code.line_in.Goals as goal
use Rattle.redis_scripts.proofs.code.line_in.Goals.{then-not-is_empty+else-left-le1, else-not-is_empty}

pub overflow_add-number : goal.overflow_add-number
overflow_add-number c =
    let count = pieces-count 10 c.args.text.now in
    let here : pieces_after 10 (option_copied c.loop-rest.rest) ≡ c.cut.result.0.now ∷ pieces_after 10 (option_copied c.cut.result.1) = rw c.in-Some.is c.cut.ensures in
    let some : length (pieces_after 10 (option_copied c.loop-rest.rest)) ≡ suc (length (pieces_after 10 (option_copied c.cut.result.1))) = ap length here in
    omega (arith, count, some, c.loop-rest.invariant.counted)

pub returns-then-left-le1 : goal.returns-then-left-le1
returns-then-left-le1 c =
    let here : pieces_after 10 (option_copied c.loop-rest.rest) ≡ c.cut.result.0.now ∷ pieces_after 10 (option_copied c.cut.result.1) = rw c.in-Some.is c.cut.ensures in
    let code : has_code c.cut.result.0.now ≡ true = rw (sym c.code_of.ensures) (ap not (sym c.is_empty.ensures ∙ c.if-not-is_empty.true)) in
    sym (number-here c.loop-rest.number c.loop-rest.left c.cut.result.0.now (pieces_after 10 (option_copied c.cut.result.1)) code c.if-left-le1.true) ∙ (rw here at c.loop-rest.invariant.found)

pub loop-rest-preserved : goal.loop-rest-preserved
loop-rest-preserved c =
    let line = c.cut.result.0.now in
    let others = pieces_after 10 (option_copied c.cut.result.1) in
    let here : pieces_after 10 (option_copied c.loop-rest.rest) ≡ line ∷ others = rw c.in-Some.is c.cut.ensures in
    let some : length (pieces_after 10 (option_copied c.loop-rest.rest)) ≡ suc (length others) = ap length here in
    let found = rw here at c.loop-rest.invariant.found in
    record {
      found = elim c.if-not-is_empty.branch [
        | then-not-is_empty+else-left-le1 w ↦
            let code : has_code line ≡ true = rw (sym c.code_of.ensures) (ap not (sym c.is_empty.ensures ∙ w.if-not-is_empty.true)) in
            rw w.left-is (sym (number-later c.loop-rest.number c.loop-rest.left line others code w.if-left-le1.false) ∙ found)
        | else-not-is_empty w ↦
            let code : has_code line ≡ false = rw (sym c.code_of.ensures) (ap not (sym c.is_empty.ensures ∙ w.if-not-is_empty.false)) in
            rw w.left-is (sym (number-empty c.loop-rest.number c.loop-rest.left line others code) ∙ found)
      ];
      counted = omega (arith, some, c.loop-rest.invariant.counted);
    }

pub returns : goal.returns
returns c = sym (number-none c.loop-rest.number c.loop-rest.left) ∙ (rw c.in_default.is at c.loop-rest.invariant.found)
