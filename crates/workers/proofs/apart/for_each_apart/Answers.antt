use Rattle.std.proofs.Common.{◌≡◌, ◌+◌, get_or, refl, subst, arith}
use Rattle.std.specs.Fork.{ChangesAt}
use Rattle.workers.proofs.apart.for_each_apart.Goals as goal

-- one call, or none
pub returns-then-s-lt2 : goal.returns-then-s-lt2
returns-then-s-lt2 g c i d low =
    let at : 0 + i ≡ i = omega arith in
    (refl, subst (λ n. ChangesAt g.F.Fn c.args.f.now n (get_or c.args.s.now i d) (get_or c.in_turn.new.s i d)) at (c.in_turn.ensures.each i d low))

pub returns : goal.returns
returns g c i d low =
    let at : 0 + i ≡ i = omega arith in
    (refl, subst (λ n. ChangesAt g.F.Fn c.args.f.now n (get_or c.args.s.now i d) (get_or c.each_from.new.s i d)) at (c.each_from.ensures.each i d low))
