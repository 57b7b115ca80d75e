use Rattle.timed_bins.proofs.StateLemmas.{sets_twice}
use Rattle.timed_bins.proofs.StaleLemmas.{stale_calls, stale_of_called}
use Rattle.timed_bins.proofs.stale.call_on_stale.Goals as goal

-- only keys with entries have deadlines
pub returns-clause-of_entries : goal.returns-clause-of_entries
returns-clause-of_entries g c =
    let after = rw (c.touch_of.ensures, c.of-wanted.ensures, c.call.ensures.value) at c.deadline-after.ensures in
    stale_of_called _ _ c.requires.of_entries c.args.change c.args.call.now _ _ _ _ _ c.apply_to_stale-kind.ensures.answers after
    (sets_twice _ _ _ _ _ _ (rw c.key-key.ensures.value at c.in_ok-make_room.ensures.sets) (rw c.key-key.ensures.value at c.settle.ensures))

-- the call was made as on an absent key
pub returns-clause-ok : goal.returns-clause-ok
returns-clause-ok g c =
    let after = rw (c.touch_of.ensures, c.of-wanted.ensures, c.call.ensures.value) at c.deadline-after.ensures in
    stale_calls _ _ c.requires.of_entries c.args.change c.args.call.now _ _ _ _ _ c.apply_to_stale-kind.ensures.answers after
    (sets_twice _ _ _ _ _ _ (rw c.key-key.ensures.value at c.in_ok-make_room.ensures.sets) (rw c.key-key.ensures.value at c.settle.ensures))
