-- What a script's text says, and which scripts a digest names.
use Rattle.std.specs.Prelude.{◌≡◌, ◌⊎◌, ◌||◌, ℕ, Bool, false, List, Ok, nat_eq, not}
use Rattle.std.specs.List.{filter, list_all}
use Rattle.sha1.specs.Sha1.{sha1}
use Rattle.hex.specs.Hex.{decode_of, is_hex_digit}
use Rattle.bpf_model.specs.declared.instruction.Insn.{Insn}
use Rattle.bpf_model.specs.Spelling.{Spells}
use Rattle.bpf_assembler.specs.Text.{IsTextOf}
use Rattle.verifier.specs.Checked.{Checked}
use Rattle.admission.specs.Admissions.{IsAdmitted}
use Rattle.redis_scripts.specs.declared.head.Method.{Method}
use Rattle.redis_scripts.specs.declared.head.ReplyKind.{ReplyKind}
use Rattle.redis_scripts.specs.Code.{is_blank, first_line, other_lines, code_of_all}
use Rattle.redis_scripts.specs.Heads.{IsHead, merges_with_now}

-- blank space or a newline
abbrev pub is_space : ℕ → Bool
is_space c = is_blank c || nat_eq c 10

-- there are only hexadecimal digits and blank space
abbrev pub is_hex : List ℕ → Bool
is_hex code = list_all (λ c. is_hex_digit c || is_space c) code

-- without blank space
abbrev pub digits_in : List ℕ → List ℕ
digits_in code = filter (λ c. not (is_space c)) code

-- the code gives these bytes: as pairs of digits, or as the text of the program that they spell
abbrev pub GivesBytes : List ℕ → List ℕ → Type 0
GivesBytes code bytes = (decode_of (digits_in code) ≡ Ok bytes) ⊎ ((program : List Insn) × IsTextOf code program × Spells bytes program)

-- the text says this: its first line how the script is called, its code a program that is safe with the sizes. With `with_now` the
-- program's argument begins with the time
pub record Says (text : List ℕ) (method : Method) (reply : ReplyKind) (with_now : Bool) (program : Checked) : Type 0 where
  pub bytes : List ℕ
  pub head : IsHead (first_line text) (record { method = method; reply = reply; sizes = program.sizes; with_now = with_now })
  pub served : merges_with_now method with_now ≡ false
  pub code : GivesBytes (code_of_all (other_lines text)) bytes
  pub admitted : IsAdmitted bytes program.sizes program.program

-- the same, without the bytes
abbrev pub IsText : List ℕ → Method → ReplyKind → Bool → Checked → Type 0
IsText text method reply with_now program = ∥ Says text method reply with_now program ∥₁

-- a text with this digest says so
abbrev pub IsScript : List ℕ → Method → ReplyKind → Bool → Checked → Type 0
IsScript digest method reply with_now program = ∥ ((text : List ℕ) × (digest ≡ sha1 text) × Says text method reply with_now program) ∥₁

-- the text is a script's
abbrev pub IsLoadedText : List ℕ → Type 0
IsLoadedText text =
    (method : Method) × (reply : ReplyKind) × (with_now : Bool) × (program : Checked) × IsText text method reply with_now program
