use Rattle.std.proofs.Common.{◌≡◌, ◌∙◌, refl, sym, ap, arith}
use Rattle.bins.specs.Entries.{entry_of}
use Rattle.noted_bins.specs.Filters.{may_have}
use Rattle.noted_bins.proofs.FilterLemmas.{first_all, first_more, first_skipped}
use Rattle.noted_bins.proofs.changes.Changes.add_filtered.Goals.{then-may_have+in_ok-push, else-may_have}
use Rattle.noted_bins.proofs.changes.Changes.add_filtered.Goals as goal

-- a row is added if the filter may have the key
pub loop-position-preserved : goal.loop-position-preserved
loop-position-preserved g c =
    let key = rw c.unwrap-key.ensures at c.from_slice.ensures.value in
    let entry = rw (← key) at c.get.ensures.entry in
    elim c.if-may_have.branch [
      | then-may_have+in_ok-push w ↦
          let added = rw (w.of.ensures, w.deadline_of.ensures.value, c.new-hashed.ensures.key) at w.in_ok-push.ensures.ok in
          rw w.self-is (first_more _ _ _ c.lend_at-entries.ensures.are _ _ _ (omega (arith, c.loop-position-test.true, c.end_among-position-end.ensures.most)) _ _ _ _ c.loop-position.invariant entry added)
      | else-may_have w ↦
          let key_is : c.unwrap-key.result ≡ (entry_of c.lend_at-entries.result.0 c.loop-position.position).0 = λ i. (entry i).0 in
          let not = ap (may_have c.args.filter.now) (sym (c.new-hashed.ensures.key ∙ key_is)) ∙ sym c.may_have.ensures ∙ w.if-may_have.false in
          rw w.self-is (c.loop-position.invariant.0, first_skipped _ _ _ _ _ c.loop-position.invariant.1 not)
    ]

-- the last one was looked at
pub returns-clause-ok : goal.returns-clause-ok
returns-clause-ok g c =
    first_all _ _ _ c.lend_at-entries.ensures.are _ _ _ _ _ refl c.lend_at-entries.ensures.there _ _ (rw c.len.ensures.value at c.end_among-position-end.ensures.below) (omega (arith, c.loop-position-test.false)) _ c.loop-position.invariant
