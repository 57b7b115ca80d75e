-- The window of an instruction's access. This verifier's own.
use Rattle.bpf_model.specs.declared.input.Sizes.{Sizes}
use Rattle.bpf_model.specs.declared.window.Window.{Window}
use Rattle.bpf_model.specs.declared.window.Window.TheVariants.{Result}
use Rattle.bpf_model.specs.declared.instruction.Insn.{Insn}
use Rattle.bpf_model.specs.declared.instruction.Insn.TheVariants.{Load, Store}
use Rattle.bpf_model.specs.State.{State}
use Rattle.stack_slots.specs.declared.reg_value.RegValue.{RegValue}
use Rattle.stack_slots.specs.declared.reg_value.RegValue.TheVariants.{Pointer as PointerInto}
use Rattle.bound_operations.specs.Binding.{CanBind, AccessLiesIn}
use Rattle.verifier.specs.declared.abstract_state.AbstractState.{AbstractState}
use Rattle.verifier.specs.Joins.{register}
use Rattle.verifier.specs.Describes.{Describes}

-- the window that a pointer points into; for a value that isn't a pointer the result's, which then means no window
abbrev pub pointed_window : RegValue → Window
pointed_window (PointerInto p) = p.window
pointed_window other = Result

-- the window that the instruction's address register points into
abbrev pub window_of : Insn → AbstractState → Window
window_of (Load kind dst src offset) a = pointed_window (register a src)
window_of (Store size dst src offset) a = pointed_window (register a dst)
window_of insn a = Result

-- the instruction can be bound to this window, and in each described state its access lies in it
pub record LiesIn (sizes : Sizes) (i : Insn) (a : AbstractState) (window : Window) : Type 0 where
  pub can_bind : CanBind i window
  pub inside : (s : State) → Describes a sizes s → AccessLiesIn sizes window i s
