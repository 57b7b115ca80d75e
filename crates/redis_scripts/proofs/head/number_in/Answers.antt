use Rattle.std.proofs.Common.{◌≡◌, ◌∙◌, sym, arith, ap, true}
use Rattle.std.specs.Prelude.{decimal}
use Rattle.std.proofs.lemmas.Bool.Decides.{Decides-eqb}
use Rattle.std.proofs.lemmas.Slice.Eq.{slice_eq-Decides}
use Rattle.std.proofs.lemmas.Fmt.{parse-decimal}
use Rattle.redis_scripts.proofs.head.number_in.Goals as goal

pub returns-in-Err-clause-none : goal.returns-in-Err-clause-none
returns-in-Err-clause-none c n small same =
    let read = parse-decimal 16 n c.args.text.now c.parse.result small (omega (arith, small)) same c.parse.ensures.value.0 in
    absurd cc

pub returns-else-is_decimal-clause-none : goal.returns-else-is_decimal-clause-none
returns-else-is_decimal-clause-none c n small same =
    let read = parse-decimal 16 n c.args.text.now c.parse.result small (omega (arith, small)) same c.parse.ensures.value.0 in
    let known : c.in-Ok.number ≡ n = cc in
    let text : c.format.result.now ≡ c.args.text.now = c.format.ensures.text ∙ ap decimal known ∙ sym same in
    let is : c.eq-is_decimal.result ≡ true = (slice_eq-Decides Decides-eqb c.format.result.now c.args.text.now c.eq-is_decimal.result c.eq-is_decimal.ensures).1 text in
    absurd cc
