-- Which bytes a frame records: those of the windows that may be written. This verifier's own.
use Rattle.std.specs.Prelude.{ℕ}
use Rattle.bpf_model.specs.declared.limits.TheConstants.{VALUE_BYTES, STACK_BYTES}
use Rattle.bpf_model.specs.declared.window.Window.{Window}
use Rattle.bpf_model.specs.declared.window.Window.TheVariants.{Key, Old, Arg, Result, Stack}

-- how many bytes of a window a frame records
abbrev pub kept_bytes : Window → ℕ
kept_bytes Key = 0
kept_bytes Old = 0
kept_bytes Arg = 0
kept_bytes Result = VALUE_BYTES
kept_bytes Stack = STACK_BYTES

-- the window may be written
abbrev pub IsKept : Window → Type 0
IsKept Key = ⊥
IsKept Old = ⊥
IsKept Arg = ⊥
IsKept Result = Unit {0}
IsKept Stack = Unit {0}
