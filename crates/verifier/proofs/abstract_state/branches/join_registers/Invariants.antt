use Rattle.std.proofs.Common.{◌≡◌, ℕ, ◌<◌, ◌≤◌, get_or}
use Rattle.stack_slots.specs.declared.reg_value.RegValue.TheVariants.{Unwritten}
use Rattle.stack_slots.specs.Values.{IsJoin}
use Rattle.verifier.proofs.abstract_state.branches.join_registers.Given as goal

abbrev pub invariant-loop-r : goal.invariant-loop-r
invariant-loop-r l = record {
  before : (k : ℕ) → k < l.r → IsJoin (get_or l.initial.registers k Unwritten) (get_or l.others k Unwritten) (get_or l.registers k Unwritten);
  after : (k : ℕ) → l.r ≤ k → get_or l.registers k Unwritten ≡ get_or l.initial.registers k Unwritten;
}
