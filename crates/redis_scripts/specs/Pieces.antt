-- Text in pieces, between separators: the lines of a text, or the words of a line.
use Rattle.std.specs.Prelude.{ℕ, List, [], ◌∷◌, Option, Some, None, nat_eq, if◌then◌else◌}

abbrev pub onto_first : ℕ → List (List ℕ) → List (List ℕ)
onto_first c [] = (c ∷ []) ∷ []
onto_first c (piece ∷ others) = (c ∷ piece) ∷ others

-- the pieces of a text between its separators: one more than there are separators
unfoldable pub pieces : ℕ → List ℕ → List (List ℕ)
pieces separator [] = [] ∷ []
pieces separator (c ∷ cs) = if nat_eq c separator then [] ∷ pieces separator cs else onto_first c (pieces separator cs)

-- those after a separator, if there is one
abbrev pub pieces_after : ℕ → Option (List ℕ) → List (List ℕ)
pieces_after separator None = []
pieces_after separator (Some text) = pieces separator text
