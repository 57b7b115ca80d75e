-- The ends of lines at the end of a text.
use Rattle.std.proofs.Common.{arith, ◌≡◌, ℕ, zero, suc, Bool, true, false, ◌&&◌, List, [], ◌∷◌, length, take, get_or, refl, ap, if◌then◌else◌}
use Rattle.std.specs.List.{list_all}
use Rattle.redis_commands.specs.Texts.{is_line_end, trimmed}

some_other : (xs : List ℕ) (k : ℕ) → length xs ≡ suc k → is_line_end (get_or xs k 0) ≡ false → list_all is_line_end xs ≡ false
some_other [] k n e = absurd (omega (arith, n))
some_other (x ∷ []) zero n e = rw e refl
some_other (x ∷ []) (suc k) n e = absurd (omega (arith, n))
some_other (x ∷ y ∷ more) zero n e = absurd (omega (arith, n))
some_other (x ∷ y ∷ more) (suc k) n e = rw (some_other (y ∷ more) k (omega (arith, n)) e) (and_false (is_line_end x)) where
  and_false : (b : Bool) → (b && false) ≡ false
  and_false true = refl
  and_false false = refl

-- a text whose last byte is no end of a line
pub trimmed_none : (xs : List ℕ) (k : ℕ) → length xs ≡ suc k → is_line_end (get_or xs k 0) ≡ false → trimmed xs ≡ xs
trimmed_none [] k n e = refl
trimmed_none (x ∷ []) zero n e = rw e refl
trimmed_none (x ∷ []) (suc k) n e = absurd (omega (arith, n))
trimmed_none (x ∷ y ∷ more) zero n e = absurd (omega (arith, n))
trimmed_none (x ∷ y ∷ more) (suc k) n e =
    rw (some_other (x ∷ y ∷ more) (suc k) n e) (ap (λ rest. x ∷ rest) (trimmed_none (y ∷ more) k (omega (arith, n)) e))

all_before : (xs : List ℕ) (k : ℕ) → length xs ≡ suc k → is_line_end (get_or xs k 0) ≡ true → list_all is_line_end (take k xs) ≡ list_all is_line_end xs
all_before [] k n e = absurd (omega (arith, n))
all_before (x ∷ []) zero n e = rw e refl
all_before (x ∷ []) (suc k) n e = absurd (omega (arith, n))
all_before (x ∷ y ∷ more) zero n e = absurd (omega (arith, n))
all_before (x ∷ y ∷ more) (suc k) n e = ap (λ b. is_line_end x && b) (all_before (y ∷ more) k (omega (arith, n)) e)

pub trimmed_more : (xs : List ℕ) (k : ℕ) → length xs ≡ suc k → is_line_end (get_or xs k 0) ≡ true → trimmed (take k xs) ≡ trimmed xs
trimmed_more [] k n e = absurd (omega (arith, n))
trimmed_more (x ∷ []) zero n e = rw e refl
trimmed_more (x ∷ []) (suc k) n e = absurd (omega (arith, n))
trimmed_more (x ∷ y ∷ more) zero n e = absurd (omega (arith, n))
trimmed_more (x ∷ y ∷ more) (suc k) n e =
    rw (all_before (x ∷ y ∷ more) (suc k) n e) (ap (λ rest. if list_all is_line_end (x ∷ y ∷ more) then [] else x ∷ rest) (trimmed_more (y ∷ more) k (omega (arith, n)) e))
