-- Two lists of bytes are compared place by place.
use Rattle.std.proofs.Common.{arith, ◌≡◌, ℕ, ◌≤◌, ◌<◌, List, length, get_or, Bool, true, false, ◌&&◌, bytes_eq, nat_eq, refl, sym, ap}
use Rattle.std.proofs.lemmas.List.{ext_get_or}
use Rattle.std.proofs.lemmas.Slice.Eq.{bytes_eq-Decides}

-- the bytes at the first n places are the same
abbrev pub SameTo : ℕ → List ℕ → List ℕ → Type 0
SameTo n xs ys = (k : ℕ) → k < n → get_or xs k 0 ≡ get_or ys k 0

same_tests : (a b : Bool) → (a ≡ true → b ≡ true) → (b ≡ true → a ≡ true) → a ≡ b
same_tests true b there back = sym (there refl)
same_tests false true there back = back refl
same_tests false false there back = refl

parts : (a b : Bool) → (a && b) ≡ true → (a ≡ true) × (b ≡ true)
parts true true e = (refl, refl)
parts true false e = absurd cc
parts false b e = absurd cc

equal : (n m : ℕ) → nat_eq n m ≡ true → n ≡ m
equal n m e = grind (arith, e)

both : (d n m : ℕ) → d ≡ 0 → n ≡ m → (nat_eq d 0 && nat_eq n m) ≡ true
both d n m zero same = grind (arith, zero, same)

-- none of the places differs, and there are as many bytes: so they are the same
pub compared : (xs ys : List ℕ) (d n : ℕ) → (xs ≡ ys → d ≡ 0) → (d ≡ 0 → SameTo n xs ys) → length xs ≤ n
    → (nat_eq d 0 && nat_eq (length xs) (length ys)) ≡ bytes_eq xs ys
compared xs ys d n none same all = same_tests _ _
    (λ e.
    let (none_is, lengths) = parts (nat_eq d 0) (nat_eq (length xs) (length ys)) e in
    (bytes_eq-Decides xs ys).1 (ext_get_or 0 xs ys (equal (length xs) (length ys) lengths)
    (λ i below. same (equal d 0 none_is) i (omega (arith, below, all)))))
    (λ e. let is = (bytes_eq-Decides xs ys).0 e in both d (length xs) (length ys) (none is) (ap length is))
