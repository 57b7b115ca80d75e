-- The instructions that give a register its value, one after the other.
use Rattle.std.proofs.Common.{◌≡◌, List, ℕ, suc, true, false, Some, Option, take, refl}
use Rattle.std.specs.Prelude.{slice_get}
use Rattle.bpf_model.specs.declared.instruction.Insn.{Insn}
use Rattle.bpf_model.specs.Program.{unit_count}
use Rattle.verifier.specs.declared.abstract_state.AbstractState.{AbstractState}
use Rattle.explanations.specs.declared.origin.Stretch.{Stretch}
use Rattle.explanations.specs.Origins.{is_write, last_write, reads_unwritten, unwritten_read, pass_text, pass_at}

module _ (before : List Insn) (states : List (Option AbstractState)) (r k : ℕ) (insn : Option Insn) (known : Option (Option AbstractState))
    (at : slice_get before k ≡ insn) (seen : slice_get states k ≡ known) where
  -- the next instruction writes it
  pub write_here : is_write insn known r ≡ true → Some k ≡ last_write before states r (suc k)
  unfolding last_write
  write_here holds = rw (at, seen, holds) refl

  -- or the last write so far is the last still
  pub no_write_here : (last : Option ℕ) → last ≡ last_write before states r k → is_write insn known r ≡ false → last ≡ last_write before states r (suc k)
  unfolding last_write
  no_write_here last so_far fails = rw (at, seen, fails) so_far

module _ (i : Insn) (a : AbstractState) (r : ℕ) where
  -- the next register is read without a value
  pub unwritten_here : reads_unwritten i a r ≡ true → Some r ≡ unwritten_read i a (suc r)
  unfolding unwritten_read
  unwritten_here holds = rw holds refl

  -- or the last one so far is the last still
  pub not_unwritten_here : (last : Option ℕ) → last ≡ unwritten_read i a r → reads_unwritten i a r ≡ false → last ≡ unwritten_read i a (suc r)
  unfolding unwritten_read
  not_unwritten_here last so_far fails = rw fails so_far

-- what is told of the instruction at the index
pub pass_is : (before : List Insn) (states : List (Option AbstractState)) (s : Stretch) (k : ℕ) (i : Insn) (unit : ℕ) (known : Option (Option AbstractState))
    → slice_get before k ≡ Some i → unit ≡ unit_count (take k before) → known ≡ slice_get states k → pass_text s unit i known ≡ pass_at before states s k
pass_is before states s k i unit known here counted at = rw (here, counted, at) refl
