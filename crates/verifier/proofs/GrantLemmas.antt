-- The abstract state at entry knows what holds of the empty path.
use Rattle.std.proofs.Common.{◌≢◌, ℕ, zero, suc, List, [], refl, sym, ◌∙◌, arith, ℤ}
use Rattle.bpf_model.specs.declared.input.Sizes.{Sizes}
use Rattle.bpf_model.specs.declared.window.Window.{Window}
use Rattle.bpf_model.specs.declared.window.Window.TheVariants.{Key, Old, Arg, Result, Stack}
use Rattle.bpf_model.specs.declared.instruction.Insn.{Insn}
use Rattle.stack_slots.specs.declared.reg_value.RegValue.{RegValue}
use Rattle.stack_slots.specs.declared.reg_value.RegValue.TheVariants.{Unwritten}
use Rattle.stack_slots.specs.Values.{IsPointerIn, IsNumberIn}
use Rattle.verifier.specs.declared.abstract_state.AbstractState.{AbstractState}
use Rattle.verifier.specs.Joins.{register}
use Rattle.verifier.specs.Changes.{IsEntry}
use Rattle.verifier.specs.Paths.{base_of, HasValueAtEntry, OnEveryPath}
use Rattle.verifier.specs.Grants.{PointsPast, Grants}

pointer_there : (w : Window) (lo hi : ℤ) (x : RegValue) → IsPointerIn w lo hi x → x ≢ Unwritten
pointer_there w lo hi x p = λ none. absurd (let e = sym p.is ∙ none in cc)

number_there : (lo hi : ℤ) (x : RegValue) → IsNumberIn lo hi x → x ≢ Unwritten
number_there lo hi x n = λ none. absurd (let e = sym n.is ∙ none in cc)

value_at_entry : (sizes : Sizes) (a : AbstractState) → IsEntry sizes a → (r : ℕ) → HasValueAtEntry r → register a r ≢ Unwritten
value_at_entry sizes a e zero h = absurd (h.result refl)
value_at_entry sizes a e (suc zero) h = pointer_there Key _ _ _ e.key
value_at_entry sizes a e (suc (suc zero)) h = pointer_there Old _ _ _ e.old
value_at_entry sizes a e (suc (suc (suc zero))) h = pointer_there Arg _ _ _ e.arg
value_at_entry sizes a e (suc (suc (suc (suc zero)))) h = pointer_there Result _ _ _ e.result
value_at_entry sizes a e (suc (suc (suc (suc (suc zero))))) h = absurd (h.five refl)
value_at_entry sizes a e (suc (suc (suc (suc (suc (suc zero)))))) h = number_there _ _ _ e.key_length
value_at_entry sizes a e (suc (suc (suc (suc (suc (suc (suc zero))))))) h = number_there _ _ _ e.old_length
value_at_entry sizes a e (suc (suc (suc (suc (suc (suc (suc (suc zero)))))))) h = number_there _ _ _ e.arg_length
value_at_entry sizes a e (suc (suc (suc (suc (suc (suc (suc (suc (suc zero))))))))) h = absurd (h.nine refl)
value_at_entry sizes a e (suc (suc (suc (suc (suc (suc (suc (suc (suc (suc zero)))))))))) h = pointer_there Stack _ _ _ e.stack
value_at_entry sizes a e (suc (suc (suc (suc (suc (suc (suc (suc (suc (suc (suc r))))))))))) h = absurd (omega (arith, h.register))

-- the windows' registers at entry
base_at_entry : (sizes : Sizes) (a : AbstractState) → IsEntry sizes a → (w : Window) → PointsPast w 0 a (base_of w)
base_at_entry sizes a e Key = e.key
base_at_entry sizes a e Old = e.old
base_at_entry sizes a e Arg = e.arg
base_at_entry sizes a e Result = e.result
base_at_entry sizes a e Stack = e.stack

-- if something holds of every path to unit 0, it holds of the empty path
first_path : (program : List Insn) (holds : List ℕ → Type 0) → OnEveryPath program 0 holds → holds []
first_path program holds all = all [] refl

pub entry_grants : (sizes : Sizes) (a : AbstractState) → IsEntry sizes a → (program : List Insn) → Grants program 0 a
entry_grants sizes a e program = record {
  reached = ([], refl);
  bases = base_at_entry sizes a e;
  written = λ r all. value_at_entry sizes a e r (first_path program _ all);
  spills = e.spills;
  stored = λ w j all. absurd (first_path program _ all);
  copied = λ d w all. absurd (first_path program _ all);
  masked = λ d x m w other all. absurd (first_path program _ all);
  added = λ d x m w other near all. absurd (first_path program _ all);
  answer = λ c all. absurd (first_path program _ all);
}
