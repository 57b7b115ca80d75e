use Rattle.std.proofs.Common.{◌≡◌, drop}
use Rattle.bpf_assembler.specs.Reading.{named_at}
use Rattle.bpf_assembler.proofs.tables.with_word.Given as goal

-- none of those so far has the word
abbrev pub invariant-loop-item : goal.invariant-loop-item
invariant-loop-item g l = named_at g.T.Named.text (drop l.item-index g.T.Listed.values) l.text ≡ named_at g.T.Named.text g.T.Listed.values l.text
