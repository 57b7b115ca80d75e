use Rattle.std.proofs.Common.{◌∙◌, sym}
use Rattle.bpf_assembler.proofs.NameLemmas.{stem_found, stem_passed, mnemonic_at-end}
use Rattle.bpf_assembler.proofs.mnemonic.first_named.Goals as goal

pub returns-then-is_some : goal.returns-then-is_some
returns-then-is_some c =
    stem_found c.args.stems.now c.loop-stem.stem-index _ c.args.name.now _ _ c.loop-stem-test.true c.named_in-mnemonic.ensures (sym c.is_some.ensures ∙ c.if-is_some.true) c.loop-stem.invariant

pub loop-stem-preserved : goal.loop-stem-preserved
loop-stem-preserved c =
    stem_passed c.args.stems.now c.loop-stem.stem-index _ c.args.name.now _ _ c.loop-stem-test.true c.named_in-mnemonic.ensures (sym c.is_some.ensures ∙ c.if-is_some.false) c.loop-stem.invariant

pub returns : goal.returns
returns c = sym (mnemonic_at-end c.args.stems.now c.loop-stem.stem-index c.args.name.now c.loop-stem-test.false) ∙ c.loop-stem.invariant
