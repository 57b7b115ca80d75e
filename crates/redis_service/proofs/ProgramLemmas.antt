-- Replies about each of several words.
use Rattle.std.proofs.Common.{◌≡◌, ℕ, List, [], ◌∷◌, ◌++◌, flat_map, sym, ap, ◌∙◌, append_assoc}
use Rattle.std.proofs.lemmas.List.{append-nil}
use Rattle.std.proofs.lemmas.List.Concat.{flat_map-append}

-- one more is told
pub told_each : {X : Type 0} (tell : X → List ℕ) (head : List ℕ) (xs : List X) (x : X)
    → (head ++ flat_map tell xs) ++ tell x ≡ head ++ flat_map tell (xs ++ x ∷ [])
told_each tell head xs x =
    append_assoc head (flat_map tell xs) (tell x)
    ∙ ap (λ (t : List ℕ). head ++ t) (ap (λ (t : List ℕ). flat_map tell xs ++ t) (sym (append-nil (tell x))) ∙ sym (flat_map-append tell xs (x ∷ [])))
