-- Of two byte strings, the one with the smaller front comes first.
use Rattle.std.proofs.Common.{◌≡◌, ℕ, zero, suc, ◌+◌, ◌*◌, ◌<◌, ◌≤◌, List, [], ◌∷◌, inl, inr, refl, sym, ap, ◌∙◌, arith}
use Rattle.std.specs.declared.cmp.Ordering.{Ordering}
use Rattle.std.specs.declared.cmp.Ordering.TheVariants.{Less, Equal}
use Rattle.std.specs.Ordering.{ordering_then}
use Rattle.std.proofs.lemmas.Bool.{cases_lt, cases_eq}
use Rattle.std.specs.Cmp.{nat_cmp_is}
use Rattle.std.proofs.Math.Nat.{mul_assoc, suc-mul, mul-le-mul_right}
use Rattle.bins.specs.Fronts.{front, AreBytes}
use Rattle.bins.specs.Table.{by_bytes}

-- the weight of the first of n + 1 bytes
abbrev weight : ℕ → ℕ
weight zero = 1
weight (suc n) = weight n * 256

none : (n : ℕ) → front n [] ≡ 0
none zero = refl
none (suc n) = let rest = none n in omega (arith, rest)

behind : (n x : ℕ) (xs : List ℕ) → front (suc n) (x ∷ xs) ≡ x * weight n + front n xs
behind zero x xs = omega arith
behind (suc n) x xs = let rest = behind n x xs in let same = mul_assoc x (weight n) 256 in omega (arith, rest, same)

small : (n : ℕ) (xs : List ℕ) → AreBytes xs → front n xs < weight n
small zero xs bytes = omega arith
small (suc n) xs bytes = let rest = small n xs bytes in let byte = bytes n in omega (arith, rest, byte)

pub by_front : (n : ℕ) (xs ys : List ℕ) → AreBytes ys → front n xs < front n ys → by_bytes xs ys ≡ Less
by_front zero xs ys bytes lt = absurd (omega (arith, lt))
by_front (suc n) [] [] bytes lt = absurd (omega (arith, lt))
by_front (suc n) (x ∷ xs) [] bytes lt = absurd (let z = none (suc n) in omega (arith, lt, z))
by_front (suc n) [] (y ∷ ys) bytes lt = refl
by_front (suc n) (x ∷ xs) (y ∷ ys) bytes lt =
    let one = behind n x xs in
    let other = behind n y ys in
    let rest : AreBytes ys = λ i. bytes (suc i) in
    elim (cases_lt x y) [
      | inl less ↦ ap (λ (r : Ordering). ordering_then r (by_bytes xs ys)) (sym (nat_cmp_is x y Less less))
      | inr ge ↦ elim (cases_eq x y) [
        | inl e ↦
            let same = ap (λ (m : ℕ). m * weight n) e in
            ap (λ (r : Ordering). ordering_then r (by_bytes xs ys)) (sym (nat_cmp_is x y Equal e)) ∙ by_front n xs ys rest (omega (arith, lt, one, other, same))
        | inr ne ↦
            let more : suc y ≤ x = omega (arith, ge, ne) in
            let most = small n ys rest in
            let weighs = mul-le-mul_right (weight n) more in
            let apart = suc-mul y (weight n) in
            absurd (omega (arith, lt, one, other, most, weighs, apart))
      ]
    ]
