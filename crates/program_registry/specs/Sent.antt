-- Programs as clients send them: declared sizes, and the bytes that spell the instructions. Their digest is their lasting
-- name.
use Rattle.std.specs.Prelude.{◌≡◌, ℕ, List, ◌++◌}
use Rattle.std.specs.Int.{w16, to_be_bytes}
use Rattle.sha1.specs.Sha1.{sha1}
use Rattle.bpf_model.specs.declared.input.Sizes.{Sizes}
use Rattle.bpf_model.specs.Spelling.{Spells}
use Rattle.verifier.specs.Checked.{Checked}

-- the sizes of key, old value, argument and result, each in two bytes, the high one first
abbrev pub bytes_of_sizes : Sizes → List ℕ
bytes_of_sizes sizes = to_be_bytes w16 sizes.key ++ to_be_bytes w16 sizes.old ++ to_be_bytes w16 sizes.arg ++ to_be_bytes w16 sizes.result

-- SHA-1 of the sizes and then of the program's bytes
abbrev pub program_digest : Sizes → List ℕ → List ℕ
program_digest sizes bytes = sha1 (bytes_of_sizes sizes ++ bytes)

-- the program was sent with these sizes and in these bytes
pub record IsSentAs (sizes : Sizes) (bytes : List ℕ) (program : Checked) : Type 0 where
  pub spelled : Spells bytes program.program
  pub declared : program.sizes ≡ sizes
