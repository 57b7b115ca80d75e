-- Frames by their parts.
use Rattle.std.proofs.Common.{◌≡◌, ℕ, zero, suc, ◌+◌, ◌*◌, ◌/◌, ◌<◌, Bool, true, false, List, length, Option, Some, None, get_or, set, replicate, refl, sym, ap, ◌∙◌, arith, rules, inl, inr}
use Rattle.std.specs.Prelude.{nat_eq, nat_le, nat_lt, ◌&&◌, ◌||◌, slice_index_or, if◌then◌else◌, IfSome, IfNone}
use Rattle.std.specs.Int.{div_ceil}
use Rattle.std.proofs.lemmas.Bool.{cases_eq, eq-eqb, eqb-true, ne_eqb}
use Rattle.std.proofs.lemmas.Bool.Decides.{nat_tests}
use Rattle.std.proofs.lemmas.List.{get_or-set_other}
use Rattle.std.proofs.lemmas.Grind.{get_or-set_at}
use Rattle.bpf_model.specs.declared.window.Window.{Window}
use Rattle.bpf_model.specs.declared.window.Window.TheVariants.{Key, Old, Arg, Result, Stack}
use Rattle.bpf_model.specs.Accesses.{byte_count}
use Rattle.bpf_model.specs.Memory.{Partial}
use Rattle.stack_slots.specs.declared.access.Access.{Access}
use Rattle.stack_slots.specs.declared.access.TheConstants.{SLOTS}
use Rattle.stack_slots.specs.declared.frame.Frame.{Frame}
use Rattle.stack_slots.specs.declared.frame.TheConstants.{RESULT_WORDS, STACK_WORDS}
use Rattle.stack_slots.specs.declared.reg_value.RegValue.{RegValue}
use Rattle.stack_slots.specs.declared.reg_value.RegValue.TheVariants.{Unwritten}
use Rattle.stack_slots.specs.Marks.{is_marked}
use Rattle.stack_slots.specs.Accesses.{touches, touches_slot, fills_slot, is_stack}
use Rattle.stack_slots.specs.Frames.{is_written, slot_in, spilled_in, DescribesMemory, NoneUnwritten, Marks, MeetsMarks, IsSlotJoin, JoinsSlots, spilled_after}
use Rattle.stack_slots.proofs.MarkLemmas.{none_in_zeros}

get_or-nones : (n k : ℕ) → ◌≡◌ {A = Option RegValue} (get_or (replicate n None) k None) None
get_or-nones zero k = refl
get_or-nones (suc n) zero = refl
get_or-nones (suc n) (suc k) = get_or-nones n k

-- the first value to be stored is the only one
pub kept_alone : (s : ℕ) (x : RegValue) → s < SLOTS → (i : ℕ) → slice_index_or (set (replicate SLOTS None) s (Some x)) i None ≡ (if nat_eq i s then Some x else None)
kept_alone s x inside i =
    elim (cases_eq i s) [
      | inl here ↦ let same : nat_eq i s ≡ true = eq-eqb i s here in rw same (get_or-set_at (replicate SLOTS None) s i (Some x) None here inside)
      | inr other ↦ let apart : nat_eq i s ≡ false = ne_eqb i s other in rw apart (get_or-set_other (replicate SLOTS None) s i (Some x) None other ∙ get_or-nones SLOTS i)
    ]

-- the values of a list
abbrev pub Values : Type 0
Values = Option (List (Option RegValue))

abbrev pub empty_frame : Frame
empty_frame = record { result = replicate RESULT_WORDS 0; stack = replicate STACK_WORDS 0; slots = None }

-- an empty frame has no written byte
pub empty_written : (r : Window) (i : ℕ) → is_written empty_frame r i ≡ false
unfolding is_written
empty_written Key i = refl
empty_written Old i = refl
empty_written Arg i = refl
empty_written Result i = none_in_zeros RESULT_WORDS i
empty_written Stack i = none_in_zeros STACK_WORDS i

-- and no value
empty_slots : (slot : ℕ) → spilled_in empty_frame slot ≡ None
unfolding spilled_in
empty_slots slot = refl

-- so it describes every memory
pub empty_describes : (memory : Partial) → DescribesMemory empty_frame memory
empty_describes memory = record {
  written = λ r i e. let no : false ≡ true = sym (empty_written r i) ∙ e in absurd cc;
  spilled = λ slot x e. let no : None ≡ Some x = sym (empty_slots slot) ∙ e in absurd cc;
}

pub empty_values : NoneUnwritten empty_frame
empty_values slot e = let no : None ≡ Some Unwritten = sym (empty_slots slot) ∙ e in cc

-- marks of the result are set
pub marks_result : (f : Frame) (words : List ℕ) (a : Access) (end : ℕ) → a.window ≡ Result → a.least ≡ a.greatest → end ≡ a.greatest + byte_count a.size
    → ((i : ℕ) → is_marked words i ≡ ((nat_le a.least i && nat_lt i end) || is_marked f.result i)) → Marks f a (record { result = words; stack = f.stack; slots = f.slots })
unfolding is_written
marks_result f words a end window alone is each Key i = let same : nat_eq a.least a.greatest ≡ true = eq-eqb a.least a.greatest alone in rw (same, window) refl
marks_result f words a end window alone is each Old i = let same : nat_eq a.least a.greatest ≡ true = eq-eqb a.least a.greatest alone in rw (same, window) refl
marks_result f words a end window alone is each Arg i = let same : nat_eq a.least a.greatest ≡ true = eq-eqb a.least a.greatest alone in rw (same, window) refl
marks_result f words a end window alone is each Result i = let same : nat_eq a.least a.greatest ≡ true = eq-eqb a.least a.greatest alone in rw (same, window) (rw is at (each i))
marks_result f words a end window alone is each Stack i = let same : nat_eq a.least a.greatest ≡ true = eq-eqb a.least a.greatest alone in rw (same, window) refl

-- marks of the stack are set
pub marks_stack : (f : Frame) (words : List ℕ) (a : Access) (end : ℕ) → a.window ≡ Stack → a.least ≡ a.greatest → end ≡ a.greatest + byte_count a.size
    → ((i : ℕ) → is_marked words i ≡ ((nat_le a.least i && nat_lt i end) || is_marked f.stack i)) → Marks f a (record { result = f.result; stack = words; slots = f.slots })
unfolding is_written
marks_stack f words a end window alone is each Key i = let same : nat_eq a.least a.greatest ≡ true = eq-eqb a.least a.greatest alone in rw (same, window) refl
marks_stack f words a end window alone is each Old i = let same : nat_eq a.least a.greatest ≡ true = eq-eqb a.least a.greatest alone in rw (same, window) refl
marks_stack f words a end window alone is each Arg i = let same : nat_eq a.least a.greatest ≡ true = eq-eqb a.least a.greatest alone in rw (same, window) refl
marks_stack f words a end window alone is each Result i = let same : nat_eq a.least a.greatest ≡ true = eq-eqb a.least a.greatest alone in rw (same, window) refl
marks_stack f words a end window alone is each Stack i = let same : nat_eq a.least a.greatest ≡ true = eq-eqb a.least a.greatest alone in rw (same, window) (rw is at (each i))

-- the common marks of two frames
pub meets_marks : (f g h : Frame) → ((i : ℕ) → is_marked h.result i ≡ (is_marked f.result i && is_marked g.result i))
    → ((i : ℕ) → is_marked h.stack i ≡ (is_marked f.stack i && is_marked g.stack i)) → MeetsMarks f g h
unfolding is_written
meets_marks f g h result stack Key i = refl
meets_marks f g h result stack Old i = refl
meets_marks f g h result stack Arg i = refl
meets_marks f g h result stack Result i = result i
meets_marks f g h result stack Stack i = stack i

pub joins_slots : (f g h : Frame) → ((i : ℕ) → IsSlotJoin (slot_in f.slots i) (slot_in g.slots i) (slot_in h.slots i)) → JoinsSlots f g h
unfolding spilled_in
joins_slots f g h each slot = each slot

-- the slots that an access to the stack may touch
first_slot : (least slot : ℕ) → nat_lt least (8 * slot + 8) ≡ nat_le (least / 8) slot
first_slot least slot = grind (arith, nat_tests)

last_slot : (end slot : ℕ) → nat_lt (8 * slot) end ≡ nat_lt slot (div_ceil end 8)
last_slot end slot = grind (arith, nat_tests)

touched_slots : (a : Access) (end slot : ℕ) → is_stack a.window ≡ true → end ≡ div_ceil (a.greatest + byte_count a.size) 8 → touches_slot a slot ≡ (nat_le (a.least / 8) slot && nat_lt slot end)
touched_slots a end slot stack is =
    rw (stack, is) (ap (λ (t : Bool). t && nat_lt (8 * slot) (a.greatest + byte_count a.size)) (first_slot a.least slot) ∙ ap (λ (t : Bool). nat_le (a.least / 8) slot && t) (last_slot (a.greatest + byte_count a.size) slot))

-- the slots, without the values that the access may touch
abbrev pub Forgets : Frame → Access → Values → ℕ → Type 0
Forgets f a slots end = (i : ℕ) → slot_in slots i ≡ (if nat_le (a.least / 8) i && nat_lt i end then None else slot_in f.slots i)

-- the slots left if the access fills none
pub forgotten : (f : Frame) (a : Access) (x : RegValue) (slots : Values) (end : ℕ) → is_stack a.window ≡ true → end ≡ div_ceil (a.greatest + byte_count a.size) 8 → Forgets f a slots end
    → (slot : ℕ) → fills_slot a slot ≡ false → slot_in slots slot ≡ spilled_after f a x slot
unfolding spilled_in
forgotten f a x slots end stack is each slot none =
    let touched = touched_slots a end slot stack is in
    rw (none, touched) (each slot)

-- and if it fills one
pub stored : (f : Frame) (a : Access) (x : RegValue) (slots after : Values) (end s : ℕ) → is_stack a.window ≡ true → end ≡ div_ceil (a.greatest + byte_count a.size) 8 → Forgets f a slots end
    → ((i : ℕ) → slot_in after i ≡ (if nat_eq i s then Some x else slot_in slots i)) → ((i : ℕ) → fills_slot a i ≡ nat_eq i s) → (slot : ℕ) → slot_in after slot ≡ spilled_after f a x slot
stored f a x slots after end s stack is each kept fills slot =
    elim (cases_eq slot s) [
      | inl here ↦
          let all : fills_slot a slot ≡ true = fills slot ∙ eq-eqb slot s here in
          let same : nat_eq slot s ≡ true = eq-eqb slot s here in
          rw all (kept slot ∙ ap (λ (t : Bool). if t then Some x else slot_in slots slot) same)
      | inr other ↦
          let not_all : fills_slot a slot ≡ false = fills slot ∙ ne_eqb slot s other in
          let apart : nat_eq slot s ≡ false = ne_eqb slot s other in
          kept slot ∙ ap (λ (t : Bool). if t then Some x else slot_in slots slot) apart ∙ forgotten f a x slots end stack is each slot not_all
    ]

-- slots do not matter to marks
pub marks_alone : (f : Frame) (slots : Values) (r : Window) (i : ℕ) → is_written (record { result = f.result; stack = f.stack; slots = slots }) r i ≡ is_written f r i
unfolding is_written
marks_alone f slots Key i = refl
marks_alone f slots Old i = refl
marks_alone f slots Arg i = refl
marks_alone f slots Result i = refl
marks_alone f slots Stack i = refl

-- an access that fills a slot finds its value
pub value_found : (f : Frame) (a : Access) (s : ℕ) (o : Option RegValue) → ((i : ℕ) → fills_slot a i ≡ nat_eq i s) → spilled_in f s ≡ o → IfSome o (λ x. (slot : ℕ) × ((fills_slot a slot ≡ true) × (spilled_in f slot ≡ Some x)))
value_found f a s None fills e = search rules
value_found f a s (Some x) fills e = (s, (fills s ∙ eq-eqb s s refl, e))

pub value_missing : (f : Frame) (a : Access) (s : ℕ) (o : Option RegValue) → ((i : ℕ) → fills_slot a i ≡ nat_eq i s) → spilled_in f s ≡ o → IfNone o ((slot : ℕ) → fills_slot a slot ≡ true → spilled_in f slot ≡ None)
value_missing f a s None fills e = λ slot all. let here : slot ≡ s = eqb-true slot s (sym (fills slot) ∙ all) in rw here e
value_missing f a s (Some x) fills e = search rules

-- setting marks after the slots were changed
pub marks_after : (f g h : Frame) (a : Access) → ((r : Window) (i : ℕ) → is_written g r i ≡ is_written f r i) → Marks g a h → Marks f a h
marks_after f g h a same marks r i = marks r i ∙ ap (λ (t : Bool). (nat_eq a.least a.greatest && touches a r i) || t) (same r i)

-- none are set if the access may have several places
pub no_marks : (f g : Frame) (a : Access) → (a.least ≡ a.greatest → ⊥) → ((r : Window) (i : ℕ) → is_written g r i ≡ is_written f r i) → Marks f a g
no_marks f g a several same r i = let apart : nat_eq a.least a.greatest ≡ false = ne_eqb a.least a.greatest several in rw apart (same r i)

-- slots so far are joined
pub slot_step : (before other slots : List (Option RegValue)) (j : ℕ) (joined : Option RegValue) → j < length slots
    → ((i : ℕ) → i < j → IsSlotJoin (slice_index_or before i None) (slice_index_or other i None) (slice_index_or slots i None))
    → IsSlotJoin (slice_index_or before j None) (slice_index_or other j None) joined
    → (i : ℕ) → i < j + 1 → IsSlotJoin (slice_index_or before i None) (slice_index_or other i None) (slice_index_or (set slots j joined) i None)
slot_step before other slots j joined inside done step i below =
    elim (cases_eq i j) [
      | inl here ↦ let new : get_or (set slots j joined) i None ≡ joined = get_or-set_at slots j i joined None here inside in rw (new, here) step
      | inr earlier ↦ let kept : get_or (set slots j joined) i None ≡ get_or slots i None = get_or-set_other slots j i joined None earlier in rw kept (done i (omega arith))
    ]
