-- Joins of states.
use Rattle.std.proofs.Common.{◌≡◌, ◌∙◌, ℕ, ◌≤◌, true, Bool, Option, Some, None, length, refl, sym, subst, arith, rules}
use Rattle.std.specs.Prelude.{◌&&◌}
use Rattle.std.proofs.lemmas.Bool.{and_parts, eq-eqb}
use Rattle.bpf_model.specs.Memory.{first_address}
use Rattle.std.proofs.lemmas.Option.{slice_get-get_or, get_or_from_slice_get, slice_get_within}
use Rattle.bpf_model.specs.declared.input.Sizes.{Sizes}
use Rattle.bpf_model.specs.declared.window.Window.TheVariants.{Result}
use Rattle.bpf_model.specs.State.{State}
use Rattle.stack_slots.specs.declared.reg_value.RegValue.{RegValue}
use Rattle.stack_slots.specs.declared.reg_value.RegValue.TheVariants.{Unwritten, Number, Pointer as PointerInto}
use Rattle.stack_slots.specs.declared.frame.Frame.{Frame}
use Rattle.stack_slots.specs.Values.{StandsFor, IsJoin, have_one_window}
use Rattle.stack_slots.specs.Frames.{is_written, spilled_in, DescribesMore, IsSlotJoin, JoinsSlots}
use Rattle.stack_slots.proofs.ValueLemmas.{join_first, join_second, join_value, join_pointer, join_number}
use Rattle.verifier.specs.declared.abstract_state.AbstractState.{AbstractState}
use Rattle.verifier.specs.Describes.{Describes, Includes}
use Rattle.verifier.specs.Joins.{register, KeepsCommon, JoinsFrames}

-- c describes whatever a describes, if its values stand for at least as much and no more bytes of the result are
-- written
pub joins_describes : (a c : AbstractState) (sizes : Sizes) (s : State) → length c.registers ≤ length a.registers → ((r : ℕ) (o : Option ℕ) → StandsFor (register a r) o → StandsFor (register c r) o) → DescribesMore a.frame c.frame → ((i : ℕ) → is_written c.frame Result i ≡ true → is_written a.frame Result i ≡ true) → Describes a sizes s → Describes c sizes s
joins_describes a c sizes s bounded more frame marks d = record {
  registers = λ r x e.
      let within = slice_get_within c.registers r x e in
      let is : register c r ≡ x = get_or_from_slice_get c.registers r x Unwritten e in
      let there = slice_get-get_or a.registers r Unwritten (omega (arith, within, bounded)) in
      subst (λ (y : RegValue). StandsFor y (s.registers r)) is (more r (s.registers r) (d.registers r (register a r) there));
  frame = frame s.memory d.frame;
  inside = λ i e. d.inside i (marks i e);
  read_only = d.read_only;
  bytes = d.bytes;
}

-- a frame is the join of itself and itself
pub joins_same : (f : Frame) → JoinsFrames f f f
joins_same f = record {
  first = λ memory d. d;
  second = λ memory d. d;
  marks = λ r i. twice (is_written f r i);
  values = λ first second. first;
}
  where
    twice : (t : Bool) → t ≡ (t && t)
    twice t = search rules

value_same : (x : RegValue) → IsJoin x x x
value_same Unwritten = refl
value_same (Number r) = record { range = r; is = refl; umin = grind arith; umax = grind arith; smin = grind arith; smax = grind arith }
value_same (PointerInto p) =
    let one : have_one_window p p ≡ true = eq-eqb (first_address p.window) (first_address p.window) refl in
    rw one (record { pointer = p; is = refl; offsets = record { window_is = refl; least_is = grind arith; greatest_is = grind arith } })

slot_same : (o : Option RegValue) → IsSlotJoin o o o
slot_same None = refl
slot_same (Some x) = value_same x

pub slots_same : (f : Frame) → JoinsSlots f f f
slots_same f slot = slot_same (spilled_in f slot)

abbrev pub JoinsRegisters : AbstractState → AbstractState → AbstractState → Type 0
JoinsRegisters a b c = (r : ℕ) → IsJoin (register a r) (register b r) (register c r)

pub joins_first : (a b c : AbstractState) → length c.registers ≤ length a.registers → JoinsRegisters a b c → JoinsFrames a.frame b.frame c.frame → Includes a c
joins_first a b c bounded joins frames sizes s d =
    joins_describes a c sizes s bounded (λ r o. join_first (register a r) (register b r) (register c r) o (joins r)) frames.first (λ i e. (and_parts (is_written a.frame Result i) (is_written b.frame Result i) (sym (frames.marks Result i) ∙ e)).0) d

pub joins_second : (a b c : AbstractState) → length c.registers ≤ length b.registers → JoinsRegisters a b c → JoinsFrames a.frame b.frame c.frame → Includes b c
joins_second a b c bounded joins frames sizes s d =
    joins_describes b c sizes s bounded (λ r o. join_second (register a r) (register b r) (register c r) o (joins r)) frames.second (λ i e. (and_parts (is_written a.frame Result i) (is_written b.frame Result i) (sym (frames.marks Result i) ∙ e)).1) d

pub joins_keep : (a b c : AbstractState) → JoinsRegisters a b c → JoinsFrames a.frame b.frame c.frame → KeepsCommon a b c
joins_keep a b c joins frames = record {
  value = λ r. join_value (register a r) (register b r) (register c r) (joins r);
  pointer = λ r w lo hi. join_pointer (register a r) (register b r) (register c r) w lo hi (joins r);
  number = λ r lo hi. join_number (register a r) (register b r) (register c r) lo hi (joins r);
  marks = λ w j first second. frames.marks w j ∙ rw (first, second) refl;
  spills = frames.values;
}
