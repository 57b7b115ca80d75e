use Rattle.std.proofs.Common.{◌≡◌, drop}
use Rattle.bpf_assembler.specs.Reading.{mnemonic_at}
use Rattle.bpf_assembler.proofs.mnemonic.first_named.Given as goal

-- none of the stems so far makes the name
abbrev pub invariant-loop-stem : goal.invariant-loop-stem
invariant-loop-stem l = mnemonic_at (drop l.stem-index l.stems) l.name ≡ mnemonic_at l.stems l.name
