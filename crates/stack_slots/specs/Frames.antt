-- What a frame knows, and which memories it describes. This verifier's own.
use Rattle.std.specs.Prelude.{◌≡◌, ◌≢◌, ℕ, ◌+◌, ◌*◌, ◌<◌, ◌≤◌, Bool, true, false, ◌&&◌, ◌||◌, List, Option, Some, None, IsSome, nat_eq, slice_index_or, if◌then◌else◌}
use Rattle.std.specs.Option.{option_map}
use Rattle.bpf_model.specs.declared.window.Window.{Window}
use Rattle.bpf_model.specs.declared.window.Window.TheVariants.{Key, Old, Arg, Result, Stack}
use Rattle.bpf_model.specs.Words.{bytes_of, word_of}
use Rattle.bpf_model.specs.Accesses.{byte_count}
use Rattle.bpf_model.specs.Memory.{Partial, first_address, bytes_at, with_bytes}
use Rattle.value_ranges.specs.declared.range.Range.{Range}
use Rattle.stack_slots.specs.declared.access.Access.{Access}
use Rattle.stack_slots.specs.declared.access.TheConstants.{SLOT_BYTES}
use Rattle.stack_slots.specs.declared.frame.Frame.{Frame}
use Rattle.stack_slots.specs.declared.reg_value.RegValue.{RegValue}
use Rattle.stack_slots.specs.declared.reg_value.RegValue.TheVariants.{Unwritten, Number}
use Rattle.stack_slots.specs.Marks.{is_marked}
use Rattle.stack_slots.specs.Values.{StandsFor, IsJoin}
use Rattle.stack_slots.specs.Accesses.{MayBeAt, touches, touches_slot, fills_slot, IsLoadRange, HasBytes, ReadsAs}

-- whether the frame marks the window's byte at this distance as written
unfoldable pub is_written : Frame → Window → ℕ → Bool
is_written f Key i = false
is_written f Old i = false
is_written f Arg i = false
is_written f Result i = is_marked f.result i
is_written f Stack i = is_marked f.stack i

-- the value of a slot; none if no value was spilled to any slot
abbrev pub slot_in : Option (List (Option RegValue)) → ℕ → Option RegValue
slot_in None slot = None
slot_in (Some values) slot = slice_index_or values slot None

-- the value that was spilled to the stack's slot and is still there
unfoldable pub spilled_in : Frame → ℕ → Option RegValue
spilled_in f slot = slot_in f.slots slot

-- the word of the eight bytes of the stack's slot, if each is present
abbrev pub slot_word : Partial → ℕ → Option ℕ
slot_word memory slot = option_map word_of (bytes_at memory (first_address Stack + SLOT_BYTES * slot) SLOT_BYTES)

-- each byte that was written is present, and each spilled value stands for the word of its slot
pub record DescribesMemory (f : Frame) (memory : Partial) : Type 0 where
  pub written : (r : Window) (i : ℕ) → is_written f r i ≡ true → IsSome (memory (first_address r + i))
  pub spilled : (slot : ℕ) (x : RegValue) → spilled_in f slot ≡ Some x → StandsFor x (slot_word memory slot)

-- no spilled value is Unwritten
abbrev pub NoneUnwritten : Frame → Type 0
NoneUnwritten f = (slot : ℕ) → spilled_in f slot ≢ Some Unwritten

-- the frame marks each byte that the access may touch as written
abbrev pub AreWritten : Frame → Access → Type 0
AreWritten f a = (i : ℕ) → a.least ≤ i → i < a.greatest + byte_count a.size → is_written f a.window i ≡ true

-- the second frame marks as written whatever the first does
abbrev pub KeepsMarks : Frame → Frame → Type 0
KeepsMarks f g = (r : Window) (i : ℕ) → is_written f r i ≡ true → is_written g r i ≡ true

-- the second frame marks as written whatever the first does, and if the access has only one place, the bytes that it
-- touches
abbrev pub Marks : Frame → Access → Frame → Type 0
Marks f a g =
    (r : Window) (i : ℕ) → is_written g r i ≡ ((nat_eq a.least a.greatest && touches a r i) || is_written f r i)

-- a slot's value after a store: the stored one if the store fills the slot, none if it may touch it
abbrev pub spilled_after : Frame → Access → RegValue → ℕ → Option RegValue
spilled_after f a x slot =
    if fills_slot a slot then Some x else (if touches_slot a slot then None else spilled_in f slot)

abbrev pub Spills : Frame → Access → RegValue → Frame → Type 0
Spills f a x g = (slot : ℕ) → spilled_in g slot ≡ spilled_after f a x slot

-- if the first frame describes a memory, the second describes it after a store of a word that the value stands for
abbrev pub DescribesStore : Frame → Access → RegValue → Frame → Type 0
DescribesStore f a x g =
    (memory : Partial) (distance w : ℕ) → MayBeAt a distance → StandsFor x (Some w) → DescribesMemory f memory
    → DescribesMemory g (with_bytes memory (first_address a.window + distance) (bytes_of (byte_count a.size) w))

-- in each memory that the frame describes, the access loads a word that the value stands for
abbrev pub FindsLoaded : Frame → Access → RegValue → Type 0
FindsLoaded f a x =
    (memory : Partial) (distance : ℕ) → HasBytes memory → DescribesMemory f memory → MayBeAt a distance
    → ReadsAs memory (first_address a.window + distance) a.size a.signed x

-- the value of a slot that the access fills, if one was spilled there
abbrev pub Reloads : Frame → Access → RegValue → Type 0
Reloads f a x = (slot : ℕ) (y : RegValue) → fills_slot a slot ≡ true → spilled_in f slot ≡ Some y → x ≡ y

-- a number whose range is that of all words that the access may load
pub record IsLoadedNumber (a : Access) (x : RegValue) : Type 0 where
  pub range : Range
  pub is : x ≡ Number range
  pub bounds : IsLoadRange a.size a.signed range

-- such a number, if no value was spilled to a slot that the access fills
abbrev pub LoadsNumber : Frame → Access → RegValue → Type 0
LoadsNumber f a x = ((slot : ℕ) → fills_slot a slot ≡ true → spilled_in f slot ≡ None) → IsLoadedNumber a x

-- the third frame marks as written whatever both do
abbrev pub MeetsMarks : Frame → Frame → Frame → Type 0
MeetsMarks f g h = (r : Window) (i : ℕ) → is_written h r i ≡ (is_written f r i && is_written g r i)

-- the rest of a slot's value: the join, if both had one
abbrev pub IsSlotJoin : Option RegValue → Option RegValue → Option RegValue → Type 0
IsSlotJoin (Some a) (Some b) (Some c) = IsJoin a b c
IsSlotJoin (Some a) (Some b) None = ⊥
IsSlotJoin (Some a) None c = c ≡ None
IsSlotJoin None b c = c ≡ None

abbrev pub JoinsSlots : Frame → Frame → Frame → Type 0
JoinsSlots f g h = (slot : ℕ) → IsSlotJoin (spilled_in f slot) (spilled_in g slot) (spilled_in h slot)

-- the second frame describes each memory that the first does
abbrev pub DescribesMore : Frame → Frame → Type 0
DescribesMore f g = (memory : Partial) → DescribesMemory f memory → DescribesMemory g memory
