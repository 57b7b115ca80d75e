-- What the laws say of the definitions, each with a name.
use Rattle.std.specs.Prelude.{◌≡◌, ℕ, ◌<◌, List, ◌++◌, Some, ℤ, pos, ◌+ℤ◌, ◌*ℤ◌, ◌≤ℤ◌, unsigned_abs}
use Rattle.bpf_model.specs.declared.input.Sizes.{Sizes}
use Rattle.bpf_model.specs.declared.instruction.Insn.{Insn}
use Rattle.bpf_model.specs.declared.operations.Width.{Width}
use Rattle.bpf_model.specs.declared.operations.AluOp.TheVariants.{Add, Mul}
use Rattle.bpf_model.specs.Arithmetic.{signed_at, alu_value, mov_value, IsLeastByMinusOne}
use Rattle.bpf_model.specs.Spelling.{spelling, IsInstruction}
use Rattle.bpf_model.specs.State.{State}
use Rattle.bpf_model.specs.Step.{act}

-- a word's low part, read as two's complement
abbrev pub signed_low : Width → ℕ → ℤ
signed_low width x = signed_at width (mov_value width x)

-- the one division of two words whose quotient doesn't fit the width
abbrev pub IsLeastOfWords : Width → ℕ → ℕ → Type 0
IsLeastOfWords width x y = IsLeastByMinusOne width (mov_value width x) (mov_value width y)

-- a quotient and a remainder of two words, truncated toward zero
pub record IsSignedDivision (width : Width) (dividend divisor quotient remainder : ℕ) : Type 0 where
  -- quotient times divisor plus remainder is the dividend, modulo the width
  pub modulo : alu_value Add width (alu_value Mul width quotient divisor) remainder ≡ mov_value width dividend
  -- and as whole numbers
  pub whole : 0 < mov_value width divisor → ¬ (IsLeastOfWords width dividend divisor)
      → signed_at width quotient *ℤ signed_low width divisor +ℤ signed_at width remainder ≡ signed_low width dividend
  pub by_zero : mov_value width divisor ≡ 0 → quotient ≡ 0
  pub least : IsLeastOfWords width dividend divisor → (quotient ≡ mov_value width dividend) × (remainder ≡ 0)
  -- the remainder is nearer to zero than the divisor, and has the dividend's sign
  pub near : 0 < mov_value width divisor → unsigned_abs (signed_at width remainder) < unsigned_abs (signed_low width divisor)
  pub not_negative : pos 0 ≤ℤ signed_low width dividend → pos 0 ≤ℤ signed_at width remainder
  pub not_positive : signed_low width dividend ≤ℤ pos 0 → signed_at width remainder ≤ℤ pos 0

-- no step changes the byte at this address
abbrev pub StaysAt : Sizes → ℕ → Type 0
StaysAt sizes a = (insn : Insn) (s t : State) → act sizes insn s ≡ Some t → t.memory a ≡ s.memory a

-- if bytes begin with this instruction's spelling, they begin with no other's
abbrev pub IsSpelledAlone : Insn → Type 0
IsSpelledAlone insn =
    (other : Insn) (xs ys : List ℕ) → IsInstruction other → spelling insn ++ xs ≡ spelling other ++ ys → (insn ≡ other) × (xs ≡ ys)
