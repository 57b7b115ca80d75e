-- What was read is answered, or it is refused.
use Rattle.std.proofs.Common.{◌≡◌, ℕ, List, Bool, true, false, ◌&&◌, Result, Ok, Err, refl, sym, subst}
use Rattle.bin_stripes.specs.Passes.{PassState}
use Rattle.redis_commands.specs.Commands.{Asked, Fault}
use Rattle.redis_service.specs.States.{TalkState}
use Rattle.redis_service.specs.Changing.{may_change, changes, not_kept_line}
use Rattle.redis_service.specs.Commands.{AnswersCommand, AnswersRead, AnswersUnless, Guards}

and_false : (b : Bool) → (b && false) ≡ false
and_false true = refl
and_false false = refl

-- what is not refused is answered
answers_unless : (now : ℕ) (b : Bool) (talk next : TalkState) (old new : PassState) (read : Result Asked Fault) (written : List ℕ) → b ≡ false
    → AnswersRead now talk old read written next new → Guards talk old read next new → AnswersUnless now b talk old read written next new
answers_unless now b talk next old new read written is answers guards =
    subst (λ (c : Bool). AnswersUnless now c talk old read written next new) (sym is) (answers, guards)

-- a command that is refused
pub command_refused : (now : ℕ) (refuses : Bool) (talk : TalkState) (old : PassState) (asked : Asked) (read : Result Asked Fault) → Ok asked ≡ read
    → (refuses && may_change asked) ≡ true → AnswersUnless now (refuses && changes read) talk old read not_kept_line talk old
command_refused now refuses talk old asked read is refused =
    subst (λ (r : Result Asked Fault). AnswersUnless now (refuses && changes r) talk old r not_kept_line talk old) is
    (subst (λ (c : Bool). AnswersUnless now c talk old (Ok asked) not_kept_line talk old) (sym refused) (refl, refl, refl))

-- a command that is not
pub command_answered : (now : ℕ) (refuses : Bool) (talk next : TalkState) (old new : PassState) (asked : Asked) (read : Result Asked Fault) (written : List ℕ)
    → Ok asked ≡ read → (refuses && may_change asked) ≡ false → AnswersCommand now talk old asked written next new → Guards talk old (Ok asked) next new
    → AnswersUnless now (refuses && changes read) talk old read written next new
command_answered now refuses talk next old new asked read written is goes answers guards =
    subst (λ (r : Result Asked Fault). AnswersUnless now (refuses && changes r) talk old r written next new) is
    (answers_unless now (refuses && may_change asked) talk next old new (Ok asked) written goes answers guards)

-- words that are no command
pub fault_told : (now : ℕ) (refuses : Bool) (talk next : TalkState) (old new : PassState) (fault : Fault) (read : Result Asked Fault) (written : List ℕ)
    → Err fault ≡ read → AnswersRead now talk old (Err fault) written next new → Guards talk old (Err fault) next new
    → AnswersUnless now (refuses && changes read) talk old read written next new
fault_told now refuses talk next old new fault read written is answers guards =
    subst (λ (r : Result Asked Fault). AnswersUnless now (refuses && changes r) talk old r written next new) is
    (answers_unless now (refuses && false) talk next old new (Err fault) written (and_false refuses) answers guards)
