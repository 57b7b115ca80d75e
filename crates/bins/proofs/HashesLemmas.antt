-- Hashes with several more bytes.
use Rattle.std.proofs.Common.{◌≡◌, ℕ, ◌+◌, ◌*◌, ◌%◌, ◌^◌, arith}
use Rattle.bins.specs.Hashes.{hash_more}

-- four bytes at once
pub four_more : (h a b c d : ℕ) → (h * 923521 % 2 ^ 32 + (a * 29791 + b * 961 + c * 31 + d)) % 2 ^ 32 ≡ hash_more (hash_more (hash_more (hash_more h a) b) c) d
four_more h a b c d = omega arith
