-- Texts that are appended, piece by piece.
use Rattle.std.proofs.Common.{◌≡◌, ◌∙◌, ℕ, List, ◌++◌, ap, append_assoc}

-- after a front a text has one more piece
pub more : (old front so_far new piece meant : List ℕ) → so_far ≡ old ++ front → new ≡ so_far ++ piece → piece ≡ meant → new ≡ old ++ (front ++ meant)
more old front so_far new piece meant begins is same =
    is ∙ (ap (λ (t : List ℕ). t ++ piece) begins ∙ (ap (λ (t : List ℕ). (old ++ front) ++ t) same ∙ append_assoc old front meant))

-- two pieces one after the other, and the first is meant so
pub after : (old so_far new piece meant last : List ℕ) → so_far ≡ old ++ piece → piece ≡ meant → new ≡ so_far ++ last → new ≡ old ++ (meant ++ last)
after old so_far new piece meant last begins same is =
    is ∙ (ap (λ (t : List ℕ). t ++ last) begins ∙ (ap (λ (t : List ℕ). (old ++ t) ++ last) same ∙ append_assoc old meant last))
