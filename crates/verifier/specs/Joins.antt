-- The abstract state where two ways of a run meet. This verifier's own.
use Rattle.std.specs.Prelude.{◌≡◌, ◌≢◌, ℕ, true, ℤ, slice_index_or}
use Rattle.bpf_model.specs.declared.window.Window.{Window}
use Rattle.stack_slots.specs.declared.reg_value.RegValue.{RegValue}
use Rattle.stack_slots.specs.declared.reg_value.RegValue.TheVariants.{Unwritten}
use Rattle.stack_slots.specs.Values.{IsJoin, IsPointerIn, IsNumberIn}
use Rattle.stack_slots.specs.declared.frame.Frame.{Frame}
use Rattle.stack_slots.specs.Frames.{is_written, NoneUnwritten, MeetsMarks, JoinsSlots, DescribesMore}
use Rattle.verifier.specs.declared.abstract_state.AbstractState.{AbstractState}

-- the value of a register; registers above r10 don't exist and read as Unwritten
abbrev pub register : AbstractState → ℕ → RegValue
register a r = slice_index_or a.registers r Unwritten

-- one register is set, and nothing else
pub record SetsTo (a : AbstractState) (dst : ℕ) (x : RegValue) (b : AbstractState) : Type 0 where
  pub here : register b dst ≡ x
  pub others : (r : ℕ) → r ≢ dst → register b r ≡ register a r
  pub frame : b.frame ≡ a.frame

-- the third state knows what both of the others know
pub record JoinsStates (a b c : AbstractState) : Type 0 where
  pub registers : (r : ℕ) → IsJoin (register a r) (register b r) (register c r)
  pub marks : MeetsMarks a.frame b.frame c.frame
  pub slots : JoinsSlots a.frame b.frame c.frame

-- if both states know one of these facts, the third knows it: a register has a value, points into a window or lies
-- within bounds, a byte was written, or no spilled value is Unwritten
pub record KeepsCommon (a b c : AbstractState) : Type 0 where
  pub value : (r : ℕ) → register a r ≢ Unwritten → register b r ≢ Unwritten → register c r ≢ Unwritten
  pub pointer : (r : ℕ) (w : Window) (lo hi : ℤ) → IsPointerIn w lo hi (register a r) → IsPointerIn w lo hi (register b r) → IsPointerIn w lo hi (register c r)
  pub number : (r : ℕ) (lo hi : ℤ) → IsNumberIn lo hi (register a r) → IsNumberIn lo hi (register b r) → IsNumberIn lo hi (register c r)
  pub marks : (w : Window) (j : ℕ) → is_written a.frame w j ≡ true → is_written b.frame w j ≡ true → is_written c.frame w j ≡ true
  pub spills : NoneUnwritten a.frame → NoneUnwritten b.frame → NoneUnwritten c.frame

-- the third frame describes what either of the others does, and knows what both of them know
pub record JoinsFrames (f g h : Frame) : Type 0 where
  pub first : DescribesMore f h
  pub second : DescribesMore g h
  pub marks : MeetsMarks f g h
  pub values : NoneUnwritten f → NoneUnwritten g → NoneUnwritten h
