-- Loads and stores of stack and result. Our profile of RFC 9669; the value of a load: RFC 9669, section 5.
use Rattle.std.specs.Prelude.{◌≡◌, ℕ, ◌+◌, ◌*◌, ◌<◌, ◌≤◌, Bool, true, false, ◌&&◌, List, Some, nat_eq, nat_le, nat_lt, pos, neg_ℤ}
use Rattle.bpf_model.specs.declared.window.Window.{Window}
use Rattle.bpf_model.specs.declared.window.Window.TheVariants.{Key, Old, Arg, Result, Stack}
use Rattle.bpf_model.specs.declared.operations.SignExtension.TheVariants.{From8To64, From16To64, From32To64}
use Rattle.bpf_model.specs.declared.accesses.AccessSize.{AccessSize}
use Rattle.bpf_model.specs.declared.accesses.AccessSize.TheVariants.{Byte, HalfWord, Word, DoubleWord}
use Rattle.bpf_model.specs.Words.{IsWord, word_of}
use Rattle.bpf_model.specs.Arithmetic.{extended}
use Rattle.bpf_model.specs.Accesses.{byte_count}
use Rattle.bpf_model.specs.Memory.{Partial, first_address, bytes_at}
use Rattle.value_ranges.specs.declared.range.Range.{Range}
use Rattle.value_ranges.specs.In.{IsIn}
use Rattle.stack_slots.specs.declared.access.Access.{Access}
use Rattle.stack_slots.specs.declared.access.TheConstants.{SLOT_BYTES}
use Rattle.stack_slots.specs.declared.reg_value.RegValue.{RegValue}
use Rattle.stack_slots.specs.Values.{StandsFor}

-- the fields of an access
pub record IsAccess (window : Window) (least greatest : ℕ) (size : AccessSize) (signed : Bool) (a : Access) : Type 0 where
  pub window_is : a.window ≡ window
  pub least_is : a.least ≡ least
  pub greatest_is : a.greatest ≡ greatest
  pub size_is : a.size ≡ size
  pub signed_is : a.signed ≡ signed

-- the access may be at this distance from the window's first byte
pub record MayBeAt (a : Access) (distance : ℕ) : Type 0 where
  pub least : a.least ≤ distance
  pub greatest : distance ≤ a.greatest

-- whether the access may touch the window's byte at this distance
abbrev pub touches : Access → Window → ℕ → Bool
touches a r i =
    nat_eq (first_address a.window) (first_address r) && (nat_le a.least i && nat_lt i (a.greatest + byte_count a.size))

abbrev pub is_stack : Window → Bool
is_stack Key = false
is_stack Old = false
is_stack Arg = false
is_stack Result = false
is_stack Stack = true

-- whether the access may touch a byte of the stack's slot
abbrev pub touches_slot : Access → ℕ → Bool
touches_slot a slot =
    is_stack a.window
    && (nat_lt a.least (SLOT_BYTES * slot + SLOT_BYTES) && nat_lt (SLOT_BYTES * slot) (a.greatest + byte_count a.size))

-- whether the access covers exactly the stack's slot
abbrev pub fills_slot : Access → ℕ → Bool
fills_slot a slot =
    is_stack a.window
    && (nat_eq a.least a.greatest && (nat_eq (byte_count a.size) SLOT_BYTES && nat_eq a.least (SLOT_BYTES * slot)))

-- the word made of the number read, extended with zeros or with the sign
abbrev pub loaded_word : AccessSize → Bool → ℕ → ℕ
loaded_word DoubleWord signed n = n
loaded_word size false n = n
loaded_word Byte true n = extended From8To64 n
loaded_word HalfWord true n = extended From16To64 n
loaded_word Word true n = extended From32To64 n

-- the bounds of the words that a load may give, in the reading that it extends; a load of eight bytes may give any word
abbrev pub IsLoadRange : AccessSize → Bool → Range → Type 0
IsLoadRange DoubleWord signed r = (w : ℕ) → IsWord w → IsIn w r
IsLoadRange Byte false r = (r.umin ≡ 0) × (r.umax ≡ 0xff)
IsLoadRange HalfWord false r = (r.umin ≡ 0) × (r.umax ≡ 0xffff)
IsLoadRange Word false r = (r.umin ≡ 0) × (r.umax ≡ 0xffff_ffff)
IsLoadRange Byte true r = (r.smin ≡ neg_ℤ (pos 0x80)) × (r.smax ≡ pos 0x7f)
IsLoadRange HalfWord true r = (r.smin ≡ neg_ℤ (pos 0x8000)) × (r.smax ≡ pos 0x7fff)
IsLoadRange Word true r = (r.smin ≡ neg_ℤ (pos 0x8000_0000)) × (r.smax ≡ pos 0x7fff_ffff)

-- each byte of the memory is below 256
abbrev pub HasBytes : Partial → Type 0
HasBytes memory = (q b : ℕ) → memory q ≡ Some b → b < 256

-- the bytes that a load reads there are present, and the value stands for their word
pub record ReadsAs (memory : Partial) (address : ℕ) (size : AccessSize) (signed : Bool) (x : RegValue) : Type 0 where
  pub bytes : List ℕ
  pub present : bytes_at memory address (byte_count size) ≡ Some bytes
  pub stands : StandsFor x (Some (loaded_word size signed (word_of bytes)))
