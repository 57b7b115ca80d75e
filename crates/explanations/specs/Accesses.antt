-- What is known of a load or store that is refused, in words.
use Rattle.std.specs.Prelude.{ℕ, zero, suc, ◌+◌, ◌-◌, Bool, ◌&&◌, ◌||◌, not, List, [], ◌++◌, codes, decimal, nat_eq, nat_lt, Option, Some, None, ℤ, pos, ◌+ℤ◌, int_lt, unsigned_abs, if◌then◌else◌}
use Rattle.std.specs.Fmt.{signed_decimal}
use Rattle.std.specs.Ordering.{int_eq}
use Rattle.bpf_model.specs.declared.input.Sizes.{Sizes}
use Rattle.bpf_model.specs.declared.instruction.Insn.{Insn}
use Rattle.bpf_model.specs.declared.instruction.Insn.TheVariants.{Load, Store}
use Rattle.bpf_model.specs.declared.window.Window.{Window}
use Rattle.bpf_model.specs.Accesses.{loaded_size}
use Rattle.bpf_model.specs.Memory.{window_size}
use Rattle.stack_slots.specs.declared.frame.Frame.{Frame}
use Rattle.stack_slots.specs.declared.pointer.Pointer.{Pointer}
use Rattle.stack_slots.specs.declared.reg_value.RegValue.{RegValue}
use Rattle.stack_slots.specs.declared.reg_value.RegValue.TheVariants.{Unwritten, Number, Pointer as PointerInto}
use Rattle.stack_slots.specs.Frames.{is_written}
use Rattle.stack_slots.specs.Kept.{kept_bytes}
use Rattle.explanations.specs.declared.access.Touch.{Touch}
use Rattle.explanations.specs.Known.{name_text, pointer_text, window_name}

-- the load or store of an instruction
abbrev pub touch_of : Insn → Option Touch
touch_of (Load kind dst src z) = Some (record { register = src; offset = z; size = loaded_size kind })
touch_of (Store size dst src z) = Some (record { register = dst; offset = z; size = size })
touch_of other = None

abbrev pub count_text : ℕ → List ℕ
count_text n = if nat_eq n 1 then codes "1 byte" else decimal n ++ codes " bytes"

unfoldable pub span_text : ℤ → ℤ → List ℕ
span_text least greatest = if int_eq least greatest then signed_decimal least else signed_decimal least ++ codes " to " ++ signed_decimal greatest

-- at which offsets from the window's first byte an access begins
unfoldable pub reach_text : Pointer → ℤ → List ℕ
reach_text p offset = codes ": offset " ++ span_text (p.least +ℤ offset) (p.greatest +ℤ offset)

unfoldable pub extent_text : ℕ → ℕ → List ℕ
extent_text count size = codes " and " ++ count_text count ++ codes ", in a window of " ++ decimal size

-- where an access may lie, and how large the window is
abbrev pub access_text : Sizes → RegValue → ℤ → ℕ → List ℕ
access_text sizes Unwritten offset count = []
access_text sizes (Number r) offset count = []
access_text sizes (PointerInto p) offset count = reach_text p offset ++ extent_text count (window_size sizes p.window)

-- into which window a store goes, and into which ones it may
abbrev pub store_text : ℕ → Pointer → List ℕ
store_text r p = name_text r ++ (pointer_text p ++ codes "; result and stack alone may be written")

abbrev pub read_only_text : ℕ → RegValue → List ℕ
read_only_text r Unwritten = []
read_only_text r (Number n) = []
read_only_text r (PointerInto p) = store_text r p

-- ---- bytes that are read

-- the byte is the first of some bytes that were perhaps not written, among those from `first` on
abbrev pub opens : Frame → Window → ℕ → ℕ → Bool
opens f w first k = not (is_written f w k) && (nat_eq k first || is_written f w (k - 1))

-- the byte is the last of some, among those before `end`
abbrev pub closes : Frame → Window → ℕ → ℕ → Bool
closes f w end k = not (is_written f w k) && (nat_eq (k + 1) end || is_written f w (k + 1))

abbrev pub unwritten_byte : Frame → Window → ℕ → ℕ → ℕ → List ℕ
unwritten_byte f w first end k =
    (if opens f w first k then codes "; bytes " ++ decimal k else [])
    ++ (if closes f w end k then codes " to " ++ decimal k ++ codes " perhaps unwritten" else [])

-- the bytes that were perhaps not written, among the first few from `first` on
unfoldable pub unwritten_below : Frame → Window → ℕ → ℕ → ℕ → List ℕ
unwritten_below f w first end zero = []
unwritten_below f w first end (suc k) = unwritten_below f w first end k ++ unwritten_byte f w first end (first + k)

unfoldable pub read_text : Window → ℕ → ℕ → List ℕ
read_text w first end = codes ": " ++ window_name w ++ codes " bytes " ++ decimal first ++ codes " to " ++ decimal (end - 1) ++ codes " are read"

-- which bytes of a window are read, from `first` and before `end`, and which of them were perhaps not written
abbrev pub between_text : Frame → Window → ℕ → ℕ → List ℕ
between_text f w first end =
    if nat_lt (kept_bytes w) end then [] else read_text w first end ++ unwritten_below f w first end (end - first)

-- so of a load that may be at several places: from the first byte at the least to the last byte at the greatest
abbrev pub load_text : Frame → Window → ℤ → ℤ → ℕ → List ℕ
load_text f w least greatest count =
    if int_lt least (pos 0) then [] else between_text f w (unsigned_abs least) (unsigned_abs greatest + count)

abbrev pub unwritten_text : Frame → RegValue → ℤ → ℕ → List ℕ
unwritten_text f Unwritten offset count = []
unwritten_text f (Number r) offset count = []
unwritten_text f (PointerInto p) offset count = load_text f p.window (p.least +ℤ offset) (p.greatest +ℤ offset) count
