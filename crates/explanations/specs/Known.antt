-- What the verifier knows of registers and bytes, in words.
use Rattle.std.specs.Prelude.{ℕ, zero, suc, ◌+◌, ◌-◌, ◌^◌, Bool, true, false, ◌&&◌, ◌||◌, not, List, [], ◌++◌, codes, decimal, nat_eq, pos, negsuc, int_le, unsigned_abs, if◌then◌else◌}
use Rattle.std.specs.Fmt.{signed_decimal}
use Rattle.std.specs.Ordering.{int_eq}
use Rattle.bpf_model.specs.declared.window.Window.{Window}
use Rattle.bpf_model.specs.declared.window.Window.TheVariants.{Key, Old, Arg, Result, Stack}
use Rattle.bpf_model.specs.Memory.{first_address}
use Rattle.bpf_assembler.specs.Text.{offset}
use Rattle.value_ranges.specs.declared.range.Range.{Range}
use Rattle.stack_slots.specs.declared.frame.Frame.{Frame}
use Rattle.stack_slots.specs.declared.pointer.Pointer.{Pointer}
use Rattle.stack_slots.specs.declared.reg_value.RegValue.{RegValue}
use Rattle.stack_slots.specs.declared.reg_value.RegValue.TheVariants.{Unwritten, Number, Pointer as PointerInto}
use Rattle.stack_slots.specs.Frames.{is_written}

abbrev pub window_name : Window → List ℕ
window_name Key = codes "key"
window_name Old = codes "old"
window_name Arg = codes "arg"
window_name Result = codes "result"
window_name Stack = codes "stack"

-- ---- values

-- the unsigned bounds leave out no word
abbrev pub is_unsigned_any : Range → Bool
is_unsigned_any r = nat_eq r.umin 0 && nat_eq r.umax (2 ^ 64 - 1)

-- no bound leaves out a word
abbrev pub is_any : Range → Bool
is_any r = is_unsigned_any r && (int_eq r.smin (negsuc (2 ^ 63 - 1)) && int_eq r.smax (pos (2 ^ 63 - 1)))

-- the unsigned bounds are the signed ones
abbrev pub reads_alike : Range → Bool
reads_alike r = int_le (pos 0) r.smin && (nat_eq r.umin (unsigned_abs r.smin) && nat_eq r.umax (unsigned_abs r.smax))

-- the unsigned bounds, if they say more than the signed ones
abbrev pub unsigned_text : Range → List ℕ
unsigned_text r =
    if is_unsigned_any r || reads_alike r then [] else codes " (unsigned " ++ decimal r.umin ++ codes " to " ++ decimal r.umax ++ codes ")"

-- a number's signed bounds
abbrev pub range_text : Range → List ℕ
range_text r =
    if int_eq r.smin r.smax then signed_decimal r.smin
    else (if is_any r then codes "any number" else signed_decimal r.smin ++ codes " to " ++ signed_decimal r.smax ++ unsigned_text r)

-- an address, as its window and how far after the window's first byte it is
abbrev pub pointer_text : Pointer → List ℕ
pointer_text p = window_name p.window ++ offset p.least ++ (if int_eq p.least p.greatest then [] else codes " to " ++ offset p.greatest)

abbrev pub value_text : RegValue → List ℕ
value_text Unwritten = codes "perhaps unwritten"
value_text (Number r) = range_text r
value_text (PointerInto p) = pointer_text p

-- what stands before the value of a register
unfoldable pub name_text : ℕ → List ℕ
name_text r = codes ": r" ++ decimal r ++ codes " is "

-- whether the same is known of two words
abbrev pub is_same : RegValue → RegValue → Bool
is_same Unwritten Unwritten = true
is_same (Number a) (Number b) = nat_eq a.umin b.umin && (nat_eq a.umax b.umax && (int_eq a.smin b.smin && int_eq a.smax b.smax))
is_same (PointerInto p) (PointerInto q) = nat_eq (first_address p.window) (first_address q.window) && (int_eq p.least q.least && int_eq p.greatest q.greatest)
is_same a b = false

-- ---- bytes

-- the byte is the first of some written ones
abbrev pub begins : Frame → Window → ℕ → Bool
begins f w k = is_written f w k && (nat_eq k 0 || not (is_written f w (k - 1)))

-- the byte is the last of some written ones, in a window of this size
abbrev pub ends : Frame → Window → ℕ → ℕ → Bool
ends f w size k = is_written f w k && (nat_eq (k + 1) size || not (is_written f w (k + 1)))

-- written bytes are told by the first and the last of those that follow one another
abbrev pub byte_text : Frame → Window → ℕ → ℕ → List ℕ
byte_text f w size k =
    (if begins f w k then codes "; " ++ window_name w ++ codes " bytes " ++ decimal k else [])
    ++ (if ends f w size k then codes " to " ++ decimal k ++ codes " written" else [])

-- those among a window's first bytes
unfoldable pub bytes_below : Frame → Window → ℕ → ℕ → List ℕ
bytes_below f w size zero = []
bytes_below f w size (suc k) = bytes_below f w size k ++ byte_text f w size k
