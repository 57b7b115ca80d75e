-- Lists of records; one number of each is read.
use Rattle.std.proofs.Common.{◌≡◌, ℕ, List, get_or, set, map, sym, ap, ◌∙◌}
use Rattle.std.proofs.lemmas.List.{map-set, set-get_or}

-- a record is replaced by one that has the same number
pub map_kept : {X : Type 0} (f : X → ℕ) (xs : List X) (i : ℕ) (x d : X) → f x ≡ f (get_or xs i d) → map f (set xs i x) ≡ map f xs
map_kept f xs i x d e = map-set f xs i x ∙ ap (set (map f xs) i) e ∙ sym (map-set f xs i (get_or xs i d)) ∙ ap (map f) (set-get_or xs i d)
