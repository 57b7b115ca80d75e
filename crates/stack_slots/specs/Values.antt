-- What is known of a register's word, and for which words it is true. This verifier's own.
use Rattle.std.specs.Prelude.{◌≡◌, ℕ, min, max, Bool, nat_eq, Option, Some, None, ℤ, pos, ◌+ℤ◌, ◌≤ℤ◌}
use Rattle.std.specs.Bool.{MatchBool}
use Rattle.std.specs.Int.{int_min, int_max}
use Rattle.bpf_model.specs.declared.window.Window.{Window}
use Rattle.bpf_model.specs.Words.{IsWord}
use Rattle.bpf_model.specs.Memory.{first_address}
use Rattle.bpf_model.specs.Step.{address_of}
use Rattle.value_ranges.specs.declared.range.Range.{Range}
use Rattle.value_ranges.specs.In.{IsIn}
use Rattle.stack_slots.specs.declared.pointer.Pointer.{Pointer}
use Rattle.stack_slots.specs.declared.reg_value.RegValue.{RegValue}
use Rattle.stack_slots.specs.declared.reg_value.RegValue.TheVariants.{Unwritten, Number, Pointer as PointerInto}

-- the word is the window's first address plus an offset of the pointer
pub record PointsTo (p : Pointer) (w : ℕ) : Type 0 where
  pub offset : ℤ
  pub least : p.least ≤ℤ offset
  pub greatest : offset ≤ℤ p.greatest
  pub address : w ≡ address_of (first_address p.window) offset

-- the register may hold this: any word or none, a word of the range, or an address of the pointer
abbrev pub StandsFor : RegValue → Option ℕ → Type 0
StandsFor Unwritten None = Unit {0}
StandsFor Unwritten (Some w) = IsWord w
StandsFor (Number r) None = ⊥
StandsFor (Number r) (Some w) = IsIn w r
StandsFor (PointerInto p) None = ⊥
StandsFor (PointerInto p) (Some w) = PointsTo p w

-- a range whose signed bounds are the least and the greatest address of a pointer
pub record IsAddressRange (p : Pointer) (r : Range) : Type 0 where
  pub smin : r.smin ≡ pos (first_address p.window) +ℤ p.least
  pub smax : r.smax ≡ pos (first_address p.window) +ℤ p.greatest

-- a pointer with these offsets
pub record IsPointer (window : Window) (least greatest : ℤ) (p : Pointer) : Type 0 where
  pub window_is : p.window ≡ window
  pub least_is : p.least ≡ least
  pub greatest_is : p.greatest ≡ greatest

-- a number about which nothing more is known: its range has every word
pub record IsAnyNumber (x : RegValue) : Type 0 where
  pub range : Range
  pub is : x ≡ Number range
  pub every : (w : ℕ) → IsWord w → IsIn w range

-- a number with the lesser minima and the greater maxima of two ranges
pub record IsNumberOver (a b : Range) (x : RegValue) : Type 0 where
  pub range : Range
  pub is : x ≡ Number range
  pub umin : range.umin ≡ min a.umin b.umin
  pub umax : range.umax ≡ max a.umax b.umax
  pub smin : range.smin ≡ int_min a.smin b.smin
  pub smax : range.smax ≡ int_max a.smax b.smax

-- a pointer with the lesser least offset and the greater greatest one of two pointers
pub record IsPointerOver (p q : Pointer) (x : RegValue) : Type 0 where
  pub pointer : Pointer
  pub is : x ≡ PointerInto pointer
  pub offsets : IsPointer p.window (int_min p.least q.least) (int_max p.greatest q.greatest) pointer

-- whether two pointers point into one window
abbrev pub have_one_window : Pointer → Pointer → Bool
have_one_window p q = nat_eq (first_address p.window) (first_address q.window)

-- what is known of a word for which the first or the second value was known
abbrev pub IsJoin : RegValue → RegValue → RegValue → Type 0
IsJoin Unwritten b x = x ≡ Unwritten
IsJoin (Number r) Unwritten x = x ≡ Unwritten
IsJoin (Number r) (Number s) x = IsNumberOver r s x
IsJoin (Number r) (PointerInto q) x = IsAnyNumber x
IsJoin (PointerInto p) Unwritten x = x ≡ Unwritten
IsJoin (PointerInto p) (Number s) x = IsAnyNumber x
IsJoin (PointerInto p) (PointerInto q) x = MatchBool (have_one_window p q) (IsPointerOver p q x) (IsAnyNumber x)

-- a pointer into the window, at a distance from lo to hi
pub record IsPointerIn (w : Window) (lo hi : ℤ) (x : RegValue) : Type 0 where
  pub pointer : Pointer
  pub is : x ≡ PointerInto pointer
  pub window : pointer.window ≡ w
  pub least : lo ≤ℤ pointer.least
  pub greatest : pointer.greatest ≤ℤ hi

-- a number whose signed reading lies from lo to hi
pub record IsNumberIn (lo hi : ℤ) (x : RegValue) : Type 0 where
  pub range : Range
  pub is : x ≡ Number range
  pub least : lo ≤ℤ range.smin
  pub greatest : range.smax ≤ℤ hi
