-- Words of a command, and numbers among them.
use Rattle.std.specs.Prelude.{ℕ, Bool, List, [], get_or, ℤ, pos, negsuc, Some, None, Result, Ok, Err}
use Rattle.std.specs.Str.{str_eq_ignore_ascii_case}
use Rattle.redis_commands.specs.Numbers.{integer_of}
use Rattle.redis_commands.specs.Commands.{Fault}
use Rattle.redis_commands.specs.Commands.Fault.{NotAnInteger}

-- the argument at this place, counted from 0
abbrev pub word : ℕ → List (List ℕ) → List ℕ
word i args = get_or args i []

-- a word is this one, in any case
abbrev pub is : List ℕ → List ℕ → Bool
is name word = str_eq_ignore_ascii_case name word

-- goes on with the value, if there is one
abbrev pub given : {A B : Type 0} → Result A Fault → (A → Result B Fault) → Result B Fault
given (Ok value) rest = rest value
given (Err fault) rest = Err fault

-- a number of 64 bits
abbrev pub number : List ℕ → Result ℤ Fault
number text = elim (integer_of text) [ None ↦ Err NotAnInteger | Some n ↦ Ok n ]

-- the number, if it is not below 0
abbrev pub number_from_0 : Fault → ℤ → Result ℕ Fault
number_from_0 fault (pos n) = Ok n
number_from_0 fault (negsuc n) = Err fault
