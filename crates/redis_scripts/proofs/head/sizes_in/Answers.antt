use Rattle.std.proofs.Common.{◌∙◌, sym, ap, drop}
use Rattle.redis_scripts.proofs.head.sizes_in.Goals as goal

pub returns-in_err-old-clause-none : goal.returns-in_err-old-clause-none
returns-in_err-old-clause-none c = rw c.from_residual-in_err-old.ensures (λ sizes more small same. (
    let (key, old, arg, result) = small in
    c.in_err-old.ensures.none sizes.old _ old (ap (drop 1) (sym c.in_ok-key.ensures.some ∙ same))))

pub returns-in_err-arg-clause-none : goal.returns-in_err-arg-clause-none
returns-in_err-arg-clause-none c = rw c.from_residual-in_err-arg.ensures (λ sizes more small same. (
    let (key, old, arg, result) = small in
    let after = ap (drop 1) (sym c.in_ok-key.ensures.some ∙ same) in
    c.in_err-arg.ensures.none sizes.arg _ arg (ap (drop 1) (sym c.in_ok-old.ensures.some ∙ after))))

pub returns-in_err-result-clause-none : goal.returns-in_err-result-clause-none
returns-in_err-result-clause-none c = rw c.from_residual-in_err-result.ensures (λ sizes more small same. (
    let (key, old, arg, result) = small in
    let after = ap (drop 1) (sym c.in_ok-key.ensures.some ∙ same) in
    let later = ap (drop 1) (sym c.in_ok-old.ensures.some ∙ after) in
    c.in_err-result.ensures.none sizes.result _ result (ap (drop 1) (sym c.in_ok-arg.ensures.some ∙ later))))
