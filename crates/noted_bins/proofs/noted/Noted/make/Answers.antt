use Rattle.std.proofs.Common.{refl}
use Rattle.noted_bins.proofs.CallLemmas.{made_due, read_due, refused_due}
use Rattle.noted_bins.proofs.noted.Noted.make.Goals as goal

-- the key is noted
pub returns-then-not-is_get-clause-notes : goal.returns-then-not-is_get-clause-notes
returns-then-not-is_get-clause-notes g c = made_due _ _ _ _ _ _ _ _ _ _ _ c.in_ok-timed.ensures.ok (rw c.key.ensures.value at c.note.ensures) c.in_ok-timed.ensures.ranks

-- the call only read
pub returns-else-changes_deadline-clause-notes : goal.returns-else-changes_deadline-clause-notes
returns-else-changes_deadline-clause-notes g c =
    read_due c.args.self.now.tour _ _ _ c.args.self.now.notes _ _ _ _ _ c.in_ok-timed.ensures.ok (rw c.call-2.ensures.value at (c.if-not-is_get.ensures refl)) (c.if-changes_deadline.ensures refl) c.in_ok-timed.ensures.ranks

-- it was refused
pub returns-in_err-timed-clause-notes : goal.returns-in_err-timed-clause-notes
returns-in_err-timed-clause-notes g c = refused_due c.args.self.now.tour _ _ _ c.args.self.now.notes _ _ _ c.in_err-timed.ensures.err c.in_err-timed.ensures.ranks
