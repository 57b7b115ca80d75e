-- What commands make of a value's text.
use Rattle.std.specs.Prelude.{◌≡◌, ◌≢◌, ◌⊎◌, ℕ, suc, ◌+◌, ◌-◌, Bool, true, false, List, [], ◌∷◌, ◌++◌, length, take, drop, replicate, nat_lt, ℤ, pos, negsuc, ◌+ℤ◌, FitsSigned, Option, Some, None, codes, bytes_eq, if◌then◌else◌}
use Rattle.std.specs.Int.{w64}
use Rattle.std.specs.Fmt.{signed_decimal}
use Rattle.bpf_model.specs.declared.limits.TheConstants.{VALUE_BYTES}
use Rattle.resp.specs.Replies.{simple_bytes, error_bytes, integer_bytes, value_bytes, nothing_bytes}
use Rattle.redis_service.specs.Changes.{Step, stays, becomes}

abbrev pub ok_line : List ℕ
ok_line = simple_bytes (codes "OK")

-- OK, or nothing
abbrev pub ok_if : Bool → List ℕ
ok_if true = ok_line
ok_if false = nothing_bytes

-- 1 or 0
abbrev pub one_if : Bool → List ℕ
one_if true = integer_bytes (pos 1)
one_if false = integer_bytes (pos 0)

abbrev pub count_line : ℕ → List ℕ
count_line n = integer_bytes (pos n)

-- the value, and an absent one is empty
abbrev pub text_of : Option (List ℕ) → List ℕ
text_of None = []
text_of (Some value) = value

-- ---- replies to a Get

abbrev pub length_line : Option (List ℕ) → List ℕ
length_line found = count_line (length (text_of found))

abbrev pub type_line : Option (List ℕ) → List ℕ
type_line None = simple_bytes (codes "none")
type_line (Some value) = simple_bytes (codes "string")

-- a place in a text of this length, which a negative number counts from the end
abbrev pub place : ℕ → ℤ → ℕ
place len (pos i) = i
place len (negsuc i) = len - suc i

-- both numbers count from the end, and the second is before the first
abbrev pub is_backward : ℤ → ℤ → Bool
is_backward (negsuc i) (negsuc j) = nat_lt i j
is_backward start end = false

-- the text from a place to another, both included
abbrev pub range_of : ℤ → ℤ → List ℕ → List ℕ
range_of start end text =
    if is_backward start end then []
    else drop (place (length text) start) (take (suc (place (length text) end)) text)

abbrev pub range_line : ℤ → ℤ → Option (List ℕ) → List ℕ
range_line start end found = value_bytes (range_of start end (text_of found))

-- ---- changes

abbrev pub not_a_number : List ℕ
not_a_number = error_bytes (codes "ERR value is not an integer or out of range")

abbrev pub overflow : List ℕ
overflow = error_bytes (codes "ERR increment or decrement would overflow")

abbrev pub too_long : List ℕ
too_long = error_bytes (codes "ERR string exceeds maximum allowed size (1024)")

-- the sum, if it has 64 bits
abbrev pub Sums : ℤ → ℤ → Step → Type 0
Sums by n step =
    (FitsSigned w64 (n +ℤ by) × (step ≡ becomes (signed_decimal (n +ℤ by)) (integer_bytes (n +ℤ by))))
    ⊎ ((FitsSigned w64 (n +ℤ by) → ⊥) × (step ≡ stays overflow))

-- INCRBY: the text is a number of 64 bits, and an absent one is 0
abbrev pub Adds : ℤ → Option (List ℕ) → Step → Type 0
Adds by None step = Sums by (pos 0) step
Adds by (Some text) step =
    ((n : ℤ) × FitsSigned w64 n × (text ≡ signed_decimal n) × Sums by n step)
    ⊎ (((n : ℤ) → FitsSigned w64 n → text ≢ signed_decimal n) × (step ≡ stays not_a_number))

-- the value becomes this one, and its length is the reply
abbrev pub set_with_length : List ℕ → Step
set_with_length value = becomes value (count_line (length value))

-- APPEND
abbrev pub Appends : List ℕ → Option (List ℕ) → Step → Type 0
Appends more found step =
    step ≡ (if nat_lt VALUE_BYTES (length (text_of found ++ more)) then stays too_long else set_with_length (text_of found ++ more))

-- the text with these bytes from this place on; zeros fill what is missing before them
abbrev pub overwritten : ℕ → List ℕ → List ℕ → List ℕ
overwritten offset more text =
    (take offset text ++ replicate (offset - length text) 0) ++ (more ++ drop (offset + length more) text)

-- SETRANGE: no bytes change nothing
abbrev pub SetsRange : ℕ → List ℕ → Option (List ℕ) → Step → Type 0
SetsRange offset [] found step = step ≡ stays (length_line found)
SetsRange offset (b ∷ more) found step = step ≡ set_with_length (overwritten offset (b ∷ more) (text_of found))

-- SET with IFEQ and GET: the old value is the reply
abbrev pub SetsIfEqual : List ℕ → List ℕ → Option (List ℕ) → Step → Type 0
SetsIfEqual expected value None step = step ≡ stays nothing_bytes
SetsIfEqual expected value (Some found) step =
    step ≡ (if bytes_eq found expected then becomes value (value_bytes found) else stays (value_bytes found))
