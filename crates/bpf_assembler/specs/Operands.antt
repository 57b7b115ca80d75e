-- Reading a line from left to right up to the first fault: its bytes, numbers and operands. Text.antt is the grammar; this
-- file only decides which number a faulty line gets.
use Rattle.std.specs.Prelude.{◌≡◌, IfOk, ◌++◌, ℕ, suc, ◌+◌, ◌-◌, ◌*◌, ◌^◌, ◌<◌, Bool, false, not, ◌&&◌, ◌||◌, List, [], ◌∷◌, length, take, drop, Result, Ok, Err, nat_eq, nat_le, if◌then◌else◌, ℤ, pos, negsuc}
use Rattle.bpf_model.specs.declared.instruction.Operand.{Operand}
use Rattle.bpf_model.specs.declared.instruction.Operand.TheVariants.{Register, Immediate}
use Rattle.bpf_assembler.specs.declared.fault.LineFault.{LineFault}
use Rattle.bpf_assembler.specs.declared.fault.LineFault.TheVariants.{BadOperand, OutOfRange}

-- the value read and the bytes after it, or the fault
abbrev pub Read : Type 0 → Type 0
Read A = Result (A × List ℕ) LineFault

infixl 10 ◌>>=◌
abbrev pub ◌>>=◌ : {A B : Type 0} → Result A LineFault → (A → Result B LineFault) → Result B LineFault
(Ok x) >>= f = f x
(Err e) >>= f = Err e

-- a call returned what reading gives, and stops before the rest
abbrev pub Gives : {A : Type 0} → List ℕ → Result A LineFault → Read A → Type 0
Gives rest (Ok x) read = read ≡ Ok (x, rest)
Gives rest (Err e) read = read ≡ Err e

-- if a call returned a value that fits, it took its text
abbrev pub TakesText : {A : Type 0} → (A → List ℕ) → (A → Type 0) → List ℕ → List ℕ → Result A LineFault → Type 0
TakesText text fits old new result = IfOk result (λ x. (old ≡ text x ++ new) × fits x)

-- how many bytes at the front have the property
unfoldable pub run : (ℕ → Bool) → List ℕ → ℕ
run has [] = 0
run has (c ∷ cs) = if has c then suc (run has cs) else 0

abbrev pub is_digit : ℕ → Bool
is_digit c = nat_le 48 c && nat_le c 57

-- the number of the digits, read on from n
unfoldable pub value_from : ℕ → List ℕ → ℕ
value_from n [] = n
value_from n (c ∷ cs) = value_from (10 * n + (c - 48)) cs

-- digits; if there are several, the first isn't zero
abbrev pub is_numeral : List ℕ → Bool
is_numeral [] = false
is_numeral (c ∷ cs) = not (nat_eq c 48) || nat_eq (length cs) 0

abbrev pub begins_with : ℕ → List ℕ → Bool
begins_with b [] = false
begins_with b (c ∷ rest) = nat_eq c b

-- this byte
unfoldable pub byte_at : ℕ → List ℕ → Read (Unit {0})
byte_at b text = if begins_with b text then Ok (tt, drop 1 text) else Err BadOperand

-- a number: the whole run of its digits
unfoldable pub number_at : ℕ → List ℕ → Read ℕ
number_at limit text =
    let digits = take (run is_digit text) text in
    if is_numeral digits then (if nat_le (value_from 0 digits) limit then Ok (value_from 0 digits, drop (run is_digit text) text) else Err OutOfRange)
    else Err BadOperand

unfoldable pub register_at : List ℕ → Read ℕ
register_at text = do
  r ← byte_at 114 text
  number_at 10 r.1

-- a number after its sign; half is the first one too large for its field
unfoldable pub positive_at : ℕ → List ℕ → Read ℤ
positive_at half text = do
  n ← number_at (half - 1) text
  Ok (pos n.0, n.1)

unfoldable pub negative_at : ℕ → List ℕ → Read ℤ
negative_at half text = do
  n ← number_at half text
  if nat_eq n.0 0 then Err BadOperand else Ok (negsuc (n.0 - 1), n.1)

-- from -half to half - 1
abbrev pub FitsBelow : ℕ → ℤ → Type 0
FitsBelow half (pos n) = n < half
FitsBelow half (negsuc n) = n < half

unfoldable pub immediate_at : List ℕ → Read ℤ
immediate_at text = if begins_with 45 text then negative_at (2 ^ 31) (drop 1 text) else positive_at (2 ^ 31) text

-- an offset or a distance, with its sign
unfoldable pub offset_at : ℕ → List ℕ → Read ℤ
offset_at half text =
    if begins_with 43 text then positive_at half (drop 1 text)
    else (if begins_with 45 text then negative_at half (drop 1 text) else Err BadOperand)

unfoldable pub operand_at : List ℕ → Read Operand
operand_at text =
    if begins_with 114 text then (register_at text >>= λ r. Ok (Register r.0, r.1))
    else (immediate_at text >>= λ z. Ok (Immediate z.0, z.1))

unfoldable pub comma_at : List ℕ → Read (Unit {0})
comma_at text = do
  comma ← byte_at 44 text
  byte_at 32 comma.1

-- a blank and a register
unfoldable pub dst_at : List ℕ → Read ℕ
dst_at text = do
  blank ← byte_at 32 text
  register_at blank.1

-- a bracket and a register
unfoldable pub base_at : List ℕ → Read ℕ
base_at text = do
  bracket ← byte_at 91 text
  register_at bracket.1

-- an offset and a bracket
unfoldable pub displacement_at : List ℕ → Read ℤ
displacement_at text = do
  z ← offset_at (2 ^ 15) text
  bracket ← byte_at 93 z.1
  Ok (z.0, bracket.1)
