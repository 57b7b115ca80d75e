use Rattle.std.proofs.Common.{◌≡◌, ◌∙◌, sym, ap, inl, inr, true, not, codes}
use Rattle.std.specs.Prelude.{is_some}
use Rattle.std.proofs.lemmas.Bool.Decides.{Decides-eqb}
use Rattle.std.proofs.lemmas.Slice.Eq.{slice_eq-Decides}
use Rattle.redis_scripts.proofs.PieceLemmas.{with_now-none}
use Rattle.redis_scripts.proofs.head.with_now_in.Goals.{else-is_none-via-then-is_none+else-eq, else-is_none-via-else-is_none}
use Rattle.redis_scripts.proofs.head.with_now_in.Goals as goal

pub returns-else-is_none-clause-none : goal.returns-else-is_none-clause-none
returns-else-is_none-clause-none c = rw c.in-Some.is (elim c.else-is_none.branch [
  | else-is_none-via-then-is_none+else-eq w ↦
      let differs = λ (same : c.cut.result.0.now ≡ codes "with-now"). (
      let is : w.eq.result ≡ true = (slice_eq-Decides Decides-eqb c.cut.result.0.now w.as_slice.result.now w.eq.result w.eq.ensures).1 (same ∙ sym w.as_slice.ensures) in
      absurd cc) in
      with_now-none c.in-Some.text.now c.cut.result.0.now c.cut.result.1 c.cut.ensures (inl differs)
  | else-is_none-via-else-is_none w ↦
      let some : is_some c.cut.result.1 ≡ true = c.is_none.ensures ∙ ap not w.if-is_none.false in
      with_now-none c.in-Some.text.now c.cut.result.0.now c.cut.result.1 c.cut.ensures (inr some)
])
