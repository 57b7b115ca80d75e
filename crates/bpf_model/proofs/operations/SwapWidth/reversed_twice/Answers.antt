use Rattle.std.proofs.Common.{ap, ◌∙◌}
use Rattle.bpf_model.specs.declared.operations.ByteOrder.TheVariants.{Swap}
use Rattle.bpf_model.specs.Arithmetic.{reordered}
use Rattle.bpf_model.proofs.ByteOrderLaws.{reversed_twice}
use Rattle.bpf_model.proofs.operations.SwapWidth.reversed_twice.Goals as goal

pub returns-clause-value : goal.returns-clause-value
returns-clause-value c = c.apply-2.ensures ∙ ap (reordered Swap c.args.self) c.apply.ensures ∙ reversed_twice c.args.self c.args.n

pub returns-clause-big : goal.returns-clause-big
returns-clause-big c = reversed_twice c.args.self c.args.n

pub returns-clause-swap : goal.returns-clause-swap
returns-clause-swap c = reversed_twice c.args.self c.args.n
