-- The order of keys: a beginning comes before the longer key; else the first byte that differs decides.
use Rattle.std.proofs.Common.{◌≡◌, ℕ, ◌<◌, List, [], ◌∷◌, ◌++◌, refl, arith}
use Rattle.std.specs.declared.cmp.Ordering.TheVariants.{Less, Equal}
use Rattle.std.specs.Ordering.{nat_cmp}
use Rattle.std.proofs.lemmas.Bool.Decides.{nat_tests}
use Rattle.bpf_model.specs.Keys.{by_bytes}

same_byte : (b : ℕ) → nat_cmp b b ≡ Equal
same_byte b = grind (arith, nat_tests)

lesser_byte : (a b : ℕ) → a < b → nat_cmp a b ≡ Less
lesser_byte a b h = grind (arith, nat_tests)

pub by_bytes_beginning : (key rest : List ℕ) (b : ℕ) → by_bytes key (key ++ b ∷ rest) ≡ Less
by_bytes_beginning [] rest b = refl
by_bytes_beginning (a ∷ key) rest b = rw (same_byte a) (by_bytes_beginning key rest b)

pub by_bytes_difference : (common xs ys : List ℕ) (a b : ℕ) → a < b → by_bytes (common ++ a ∷ xs) (common ++ b ∷ ys) ≡ Less
by_bytes_difference [] xs ys a b h = rw (lesser_byte a b h) refl
by_bytes_difference (c ∷ common) xs ys a b h = rw (same_byte c) (by_bytes_difference common xs ys a b h)
