use Rattle.std.proofs.Common.{◌≡◌, ◌%◌, ◌^◌, ◌<◌, ◌∙◌}
use Rattle.std.specs.Int.{w32, w64}
use Rattle.bpf_model.specs.Arithmetic.{signed_right}
use Rattle.bpf_model.proofs.ArithmeticLaws.{shifted_bits}
use Rattle.bpf_model.proofs.operations.Width.shift_right_signed.Goals as goal

pub returns-in-W32 : goal.returns-in-W32
unfolding signed_right
returns-in-W32 c =
    let amount = c.shift_amount-amount in
    let small : c.args.a < 2 ^ 32 = rw c.in-W32.is at c.requires in
    let same : amount.result ≡ c.args.by % 32 = rw c.in-W32.is at amount.ensures.value in
    rw (c.in-W32.is, ← same) (c.from.ensures ∙ c.cast_unsigned.ensures ∙ shifted_bits w32 c.args.a amount.result c.cast_signed.result small c.cast_signed.ensures)

pub returns-in-W64 : goal.returns-in-W64
unfolding signed_right
returns-in-W64 c =
    let amount = c.shift_amount-amount in
    let small : c.args.a < 2 ^ 64 = rw c.in-W64.is at c.requires in
    let same : amount.result ≡ c.args.by % 64 = rw c.in-W64.is at amount.ensures.value in
    rw (c.in-W64.is, ← same) (c.cast_unsigned-in-W64.ensures ∙ shifted_bits w64 c.args.a amount.result c.cast_signed-in-W64.result small c.cast_signed-in-W64.ensures)
