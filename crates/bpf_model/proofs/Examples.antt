-- The definitions computed on programs from outside: a branch that is taken, and one that is not.
use Rattle.std.proofs.Common.{ℕ, List, [], ◌∷◌, None, refl, pos, negsuc}
use Rattle.bpf_model.specs.declared.input.Input.{Input}
use Rattle.bpf_model.specs.declared.input.Sizes.{Sizes}
use Rattle.bpf_model.specs.declared.input.Answer.TheVariants.{Nothing, Bytes}
use Rattle.bpf_model.specs.declared.operations.Width.TheVariants.{W64}
use Rattle.bpf_model.specs.declared.conditions.JumpOp.TheVariants.{Eq}
use Rattle.bpf_model.specs.declared.instruction.Operand.TheVariants.{Immediate}
use Rattle.bpf_model.specs.declared.instruction.Insn.{Insn}
use Rattle.bpf_model.specs.declared.instruction.Insn.TheVariants.{Mov, Branch, Exit}
use Rattle.bpf_model.specs.Program.{instruction_at}
use Rattle.bpf_model.specs.Memory.{bytes_at}
use Rattle.bpf_model.specs.Meaning.{Means, step, ending}

-- jeq64 r6, 0, +2; mov64 r0, -1; exit; mov64 r0, 0; exit
abbrev pub empty_or_nothing : List Insn
empty_or_nothing =
    Branch Eq W64 6 (Immediate (pos 0)) (pos 2)
    ∷ Mov W64 0 (Immediate (negsuc 0)) ∷ Exit
    ∷ Mov W64 0 (Immediate (pos 0)) ∷ Exit ∷ []

abbrev pub keys_alone : Sizes
keys_alone = record { key = 64; old = 0; arg = 0; result = 0 }

abbrev pub on_key : List ℕ → Input
on_key key = record { key = key; old = None; arg = None }

-- an empty key has length 0: the branch is taken, and the answer is no bytes
pub empty_key_answers_no_bytes : Means empty_or_nothing keys_alone (on_key []) (Bytes [])
unfolding step ending instruction_at bytes_at
empty_key_answers_no_bytes = (2, (_, (refl, refl)))

-- the key `a` has length 1: the branch is not taken, and the answer is nothing
pub key_answers_nothing : Means empty_or_nothing keys_alone (on_key (97 ∷ [])) Nothing
unfolding step ending instruction_at bytes_at
key_answers_nothing = (2, (_, (refl, refl)))
