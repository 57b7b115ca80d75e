use Rattle.std.proofs.Common.{refl, sym, ◌∙◌}
use Rattle.noted_bins.proofs.FilterLemmas.{none_added, passed, stayed}
use Rattle.noted_bins.proofs.HandLemmas.{if_err, if_ok}
use Rattle.noted_bins.proofs.noted.take_ahead.Goals as goal

-- memory was refused for the first row
pub returns-then-len-before-clause-handed : goal.returns-then-len-before-clause-handed
returns-then-len-before-clause-handed g c = stayed _ _ _ _ _ (if_err c.add_filtered.result c.if-is_err.ensures.value c.add_filtered.ensures.err)

pub returns-then-len-before-clause-err : goal.returns-then-len-before-clause-err
returns-then-len-before-clause-err g c = (none_added _ _ _ (if_err c.add_filtered.result c.if-is_err.ensures.value c.add_filtered.ensures.err) (sym c.len.ensures.value ∙ c.if-len-before.true ∙ c.len-before.ensures.value), refl)

-- .. or for a later one
pub returns-else-len-before-clause-handed : goal.returns-else-len-before-clause-handed
returns-else-len-before-clause-handed g c = stayed _ _ _ _ _ (if_err c.add_filtered.result c.if-is_err.ensures.value c.add_filtered.ensures.err)

pub returns-clause-handed : goal.returns-clause-handed
returns-clause-handed g c =
    let handed = rw c.filter.ensures at (if_ok c.add_filtered.result c.if-is_err.ensures.value c.add_filtered.ensures.ok) in
    passed _ _ _ _ _ _ _ handed (λ key. c.leave.ensures _ _ key)
