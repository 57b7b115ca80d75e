use Rattle.std.proofs.Common.{◌≡◌, ◌∙◌, ◌+◌, ◌-◌, ◌*◌, ℕ, Bool, not, ap, arith}
use Rattle.std.specs.Prelude.{nat_le, nat_lt, ◌&&◌}
use Rattle.std.proofs.lemmas.Bool.Decides.{nat_tests}
use Rattle.stack_slots.proofs.MarkLemmas.{bit, bit-without}
use Rattle.stack_slots.proofs.marks.between.Goals as goal

-- a bit lies between two that are counted from the word's first place
counted : (k base first end : ℕ) → (nat_lt k (end - base) && not (nat_lt k (first - base))) ≡ (nat_le first (base + k) && nat_lt (base + k) end)
counted k base first end = grind (arith, nat_tests)

pub returns : goal.returns
returns c = record {
  bits = λ k below.
      let base = 64 * c.args.index in
      let upper : bit c.lowest.result k ≡ nat_lt k (c.args.end - base) = c.lowest.ensures.bits k below ∙ ap (nat_lt k) c.saturating_sub.ensures in
      let lower : bit c.lowest-2.result k ≡ nat_lt k (c.args.first - base) = c.lowest-2.ensures.bits k below ∙ ap (nat_lt k) c.saturating_sub-2.ensures in
      bit-without c.lowest.result c.lowest-2.result k c.lowest-2.type_inv below
      ∙ ap (λ (t : Bool). t && not (bit c.lowest-2.result k)) upper
      ∙ ap (λ (t : Bool). nat_lt k (c.args.end - base) && not t) lower
      ∙ counted k base c.args.first c.args.end;
}
