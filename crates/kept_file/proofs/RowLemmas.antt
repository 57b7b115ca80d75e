-- Rows by their columns.
use Rattle.std.proofs.Common.{◌≡◌, ◌∙◌, ◌+◌, ◌<◌, ◌≤◌, ℕ, List, [], ◌∷◌, ◌++◌, map, take, get_or, length, ap, sym, refl, arith}
use Rattle.std.proofs.lemmas.List.{map-append, take_more}
use Rattle.std.proofs.lemmas.Grind.{common_steps}
use Rattle.sqlite.specs.Order.{Row, column}
use Rattle.sqlite.specs.declared.types.Value.{Value}

-- a row of three columns is these
pub three : (row : Row) (a b c : Value) → length row ≡ 3 → column row 0 ≡ a → column row 1 ≡ b → column row 2 ≡ c → row ≡ a ∷ b ∷ c ∷ []
three row a b c long first second third = grind (arith, common_steps)

-- .. one of five
pub five : (row : Row) (a b c d e : Value) → length row ≡ 5 → column row 0 ≡ a → column row 1 ≡ b → column row 2 ≡ c → column row 3 ≡ d → column row 4 ≡ e
    → row ≡ a ∷ b ∷ c ∷ d ∷ e ∷ []
five row a b c d e long first second third fourth fifth = grind (arith, common_steps)

-- and so is one of six
pub six : (row : Row) (a b c d e f : Value) → length row ≡ 6 → column row 0 ≡ a → column row 1 ≡ b → column row 2 ≡ c → column row 3 ≡ d
    → column row 4 ≡ e → column row 5 ≡ f → row ≡ a ∷ b ∷ c ∷ d ∷ e ∷ f ∷ []
six row a b c d e f long first second third fourth fifth sixth = grind (arith, common_steps)

-- one row more is what one thing more stands for
pub map_more : {A B : Type 0} (f : A → B) (xs : List A) (rows : List B) (i : ℕ) (x : A) (row : B) → i < length rows → map f xs ≡ take i rows → row ≡ get_or rows i row
    → row ≡ f x → map f (xs ++ x ∷ []) ≡ take (i + 1) rows
map_more f xs rows i x row low before is of =
    map-append f xs (x ∷ []) ∙ (ap (λ l. l ++ f x ∷ []) before ∙ (ap (λ r. take i rows ++ r ∷ []) (sym of ∙ is) ∙ sym (take_more rows i row low)))

-- all were gone through
pub all_taken : {A : Type 0} (rows : List A) (i : ℕ) → length rows ≤ i → take i rows ≡ rows
all_taken rows i all = grind (arith, common_steps)

-- .. if another thing is seen of the rows
pub map_more_of : {A B C : Type 0} (f : A → C) (h : B → C) (xs : List A) (rows : List B) (i : ℕ) (x : A) (row : B) → i < length rows → map f xs ≡ map h (take i rows)
    → row ≡ get_or rows i row → h row ≡ f x → map f (xs ++ x ∷ []) ≡ map h (take (i + 1) rows)
map_more_of f h xs rows i x row low before is of =
    map-append f xs (x ∷ []) ∙ (ap (λ l. l ++ f x ∷ []) before ∙ (ap (λ c. map h (take i rows) ++ c ∷ []) (sym of ∙ ap h is)
    ∙ (sym (map-append h (take i rows) (get_or rows i row ∷ [])) ∙ ap (map h) (sym (take_more rows i row low)))))

pub map_twice : {A B C : Type 0} (f : A → B) (h : B → C) (xs : List A) → map (λ x. h (f x)) xs ≡ map h (map f xs)
map_twice f h [] = refl
map_twice f h (x ∷ xs) = ap (λ l. h (f x) ∷ l) (map_twice f h xs)
