use Rattle.std.proofs.Common.{◌≡◌, ◌∙◌, ℤ, SFits, to_z, of_z, rules, arith}
use Rattle.std.specs.Prelude.{◌+ℤ◌, ◌≤ℤ◌}
use Rattle.std.specs.Int.{w64}
use Rattle.std.proofs.lemmas.Int.{ints, to_z-of_z}
use Rattle.std.proofs.lemmas.Option.{IfSome_then}
use Rattle.stack_slots.proofs.PointerLemmas.{points_plus}
use Rattle.stack_slots.proofs.pointer.Pointer.plus.Goals as goal

-- the result of the checked operation is read unchanged
reads : (a b r : ℤ) → SFits w64 a → SFits w64 b → (SFits w64 (to_z w64 (of_z w64 a) +ℤ to_z w64 (of_z w64 b)) × (r ≡ to_z w64 (of_z w64 a) +ℤ to_z w64 (of_z w64 b))) → to_z w64 (of_z w64 r) ≡ a +ℤ b
reads a b r first second is =
    let fits : SFits w64 r = rw is.1 is.0 in
    to_z-of_z w64 r fits ∙ (rw (to_z-of_z w64 a first, to_z-of_z w64 b second) at is.1)

pub returns-clause-value : goal.returns-clause-value
returns-clause-value c =
    let p = c.args.self in
    let n = c.args.number in
    let low = reads p.least n.smin c.in_ok-least.least (search rules) (search rules) c.in_ok-least.ensures in
    let high = reads p.greatest n.smax c.in_ok-greatest.greatest (search rules) (search rules) c.in_ok-greatest.ensures in
    IfSome_then c.new.result c.new.ensures.value (λ q is. record { window_is = is.window_is; least_is = is.least_is ∙ low; greatest_is = is.greatest_is ∙ high })

pub returns-clause-some : goal.returns-clause-some
returns-clause-some c =
    let p = c.args.self in
    let n = c.args.number in
    let low = reads p.least n.smin c.in_ok-least.least (search rules) (search rules) c.in_ok-least.ensures in
    let high = reads p.greatest n.smax c.in_ok-greatest.greatest (search rules) (search rules) c.in_ok-greatest.ensures in
    let some = rw (low, high) at c.new.ensures.some in
    let order : (p.least +ℤ n.smin) ≤ℤ (p.greatest +ℤ n.smax) = omega (arith, ints, p.order, n.signed_order) in
    (λ yes. (some.0 yes).0, λ near. some.1 (near, order))

pub returns-clause-holds : goal.returns-clause-holds
returns-clause-holds c =
    let p = c.args.self in
    let n = c.args.number in
    let low = reads p.least n.smin c.in_ok-least.least (search rules) (search rules) c.in_ok-least.ensures in
    let high = reads p.greatest n.smax c.in_ok-greatest.greatest (search rules) (search rules) c.in_ok-greatest.ensures in
    IfSome_then c.new.result c.new.ensures.value (λ q is x y at lies.
    points_plus p q n x y is.window_is (is.least_is ∙ low) (is.greatest_is ∙ high) at lies)
