use Rattle.std.proofs.Common.{inl, inr}
use Rattle.bpf_model.specs.declared.operations.SignExtension.TheVariants.{From8To32, From16To32, From8To64, From16To64, From32To64}
use Rattle.bpf_model.proofs.ArithmeticLaws.{extended_low}
use Rattle.bpf_model.proofs.operations.SignExtension.bits.Goals as goal

pub returns-in-From8To32-clause-read : goal.returns-in-From8To32-clause-read
returns-in-From8To32-clause-read c = λ x. elim c.in-From8To32.is [ inl e ↦ rw e (extended_low From8To32 x) | inr e ↦ rw e (extended_low From8To64 x) ]

pub returns-in-From16To32-clause-read : goal.returns-in-From16To32-clause-read
returns-in-From16To32-clause-read c = λ x. elim c.in-From16To32.is [ inl e ↦ rw e (extended_low From16To32 x) | inr e ↦ rw e (extended_low From16To64 x) ]

pub returns-in-From32To64-clause-read : goal.returns-in-From32To64-clause-read
returns-in-From32To64-clause-read c = λ x. rw c.in-From32To64.is (extended_low From32To64 x)
