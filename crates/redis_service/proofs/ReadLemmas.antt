-- What was read is some byte at least.
use Rattle.std.proofs.Common.{◌≡◌, ℕ, ◌<◌, ◌≤◌, List, [], ◌∷◌, ◌++◌, length, ap, inl, inr, arith}
use Rattle.std.proofs.lemmas.List.{length-append}
use Rattle.resp.specs.Grammar.{Spells, IsIgnored, IsLine, IsEmptyArray}

-- bytes that begin with one
begins : (bytes more : List ℕ) (b : ℕ) → bytes ≡ b ∷ more → 1 ≤ length bytes
begins bytes more b is = omega (arith, ap length is)

-- a line has its end
line_some : (line bytes : List ℕ) → IsLine line bytes → 1 ≤ length bytes
line_some line bytes (front, short, is) = omega (arith, ap length is, length-append line (10 ∷ []))

spells_some : (words : List (List ℕ)) (read : List ℕ) → Spells words read → 1 ≤ length read
spells_some words read spells = elim spells [ inl array ↦ begins read _ 42 array.3 | inr line ↦ line_some line.0 read line.2 ]

empty_some : (read : List ℕ) → IsEmptyArray read → 1 ≤ length read
empty_some read is = elim is [ inl zero ↦ begins read _ 42 zero | inr negative ↦ begins read _ 42 negative.3 ]

ignored : (read : List ℕ) → IsIgnored read → 1 ≤ length read
ignored read is = elim is [ inl empty ↦ empty_some read empty | inr line ↦ line_some line.0 read line.1 ]

-- what follows is shorter
pub spelled_some : (words : List (List ℕ)) (bytes read rest : List ℕ) → Spells words read → bytes ≡ read ++ rest → length rest < length bytes
spelled_some words bytes read rest spells is = omega (arith, spells_some words read spells, ap length is, length-append read rest)

pub ignored_some : (bytes read rest : List ℕ) → IsIgnored read → bytes ≡ read ++ rest → length rest < length bytes
ignored_some bytes read rest is-ignored is = omega (arith, ignored read is-ignored, ap length is, length-append read rest)
