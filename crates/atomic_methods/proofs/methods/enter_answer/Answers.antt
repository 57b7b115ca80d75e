use Rattle.bins.proofs.MapEdits.{on_err_anyway}
use Rattle.atomic_methods.proofs.ProgramLemmas.{bytes_entered, bytes_add, nothing_left, unfit_kept}
use Rattle.atomic_methods.proofs.methods.enter_answer.Goals as goal

-- the program answered bytes: they are entered and replied
pub returns-in_ok-put-in-Ok-true-clause-ok : goal.returns-in_ok-put-in-Ok-true-clause-ok
returns-in_ok-put-in-Ok-true-clause-ok g c =
    let came = rw (c.in-Ok-true.is, c.in-Ok-true.field-0-test) at c.requires.came_to in
    bytes_entered _ _ _ _ came (rw (← c.key.ensures.value) c.in_ok-put-in-Ok-true.ensures.ok)

-- there was no room for the key
pub returns-in_err-put-in-Ok-true-clause-memory : goal.returns-in_err-put-in-Ok-true-clause-memory
returns-in_err-put-in-Ok-true-clause-memory g c =
    let came = rw (c.in-Ok-true.is, c.in-Ok-true.field-0-test) at c.requires.came_to in
    on_err_anyway _ (bytes_add _ _ _ came (rw (← c.key.ensures.value) c.in_err-put-in-Ok-true.ensures.memory))

-- it answered nothing: the key is removed
pub returns-in-Ok-false-clause-ok : goal.returns-in-Ok-false-clause-ok
returns-in-Ok-false-clause-ok g c =
    let came = rw (c.in-Ok-false.is, c.in-Ok-false.field-0-test) at c.requires.came_to in
    nothing_left _ _ _ came (rw (← c.key-in-Ok-false.ensures.value) c.discard.ensures.others)

-- a window is too small: the key keeps its value
pub returns-in-Err-clause-ok : goal.returns-in-Err-clause-ok
returns-in-Err-clause-ok g c =
    let came = rw c.in-Err.is at c.requires.came_to in
    unfit_kept _ _ _ came
