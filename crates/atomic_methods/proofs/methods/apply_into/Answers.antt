use Rattle.std.proofs.Common.{◌≡◌, ℕ, List, Some, refl, ap, ◌∙◌}
use Rattle.atomic_methods.specs.declared.reply.Reply.TheVariants.{Value}
use Rattle.atomic_methods.proofs.ProgramLemmas.{runs_to}
use Rattle.atomic_methods.proofs.TableLemmas.{value_read}
use Rattle.atomic_methods.proofs.methods.apply_into.Goals as goal

-- a key that is read keeps its value
pub returns-in-Get-clause-ok : goal.returns-in-Get-clause-ok
returns-in-Get-clause-ok g c =
    let found = rw (c.in-Some.is, c.key.ensures.value) at c.find.ensures.value in
    let asked = rw c.in-Get.is at c.call.ensures.value in
    rw c.set_from.ensures (value_read _ _ _ _ asked found)

-- the given value is entered and replied
pub returns-in_ok-make_change-in-Give-clause-ok : goal.returns-in_ok-make_change-in-Give-clause-ok
returns-in_ok-make_change-in-Give-clause-ok g c =
    let rule = rw (c.call-2.ensures.value) at c.in-Give.ensures.rule in
    let found = rw (c.in-Some.is, c.key.ensures.value) at c.find.ensures.value in
    let same : c.set_from-in-Give.new.self ≡ c.in-Give.new.now = c.set_from-in-Give.ensures ∙ c.as_slice.ensures.value in
    (Some c.in-Give.new.now, (rw (← found, ← rule) (refl, ap (λ (v : List ℕ). Value (Some v)) same), rw (← c.key-in-Give.ensures.value) c.in_ok-make_change-in-Give.ensures.ok))

-- the program runs on the value that was found
pub enter_answer-requires : goal.enter_answer-requires
enter_answer-requires g c =
    let rule = rw (c.call-2.ensures.value) at c.in-Run.ensures.rule in
    let found = rw (c.in-Some.is, c.key.ensures.value) at c.find.ensures.value in
    let comes = rw (c.value_bytes-arg.ensures.value, c.key-key.ensures.value, c.call-in-Run.ensures.value) at c.answer_into-answered.ensures.outcome in
    record { came_to = runs_to _ _ _ _ _ _ found rule comes }
