-- Names that no command has.
use Rattle.std.proofs.Common.{arith, ◌≡◌, ℕ, ◌≤◌, Bool, true, false, List, [], ◌∷◌, length, drop, get_or, None, Result, Err, Bor, ap, ◌∙◌, if◌then◌else◌}
use Rattle.redis_commands.specs.Commands.{Asked, Fault, texts}
use Rattle.redis_commands.specs.Commands.Fault.{UnknownCommand, WebRequest}
use Rattle.redis_commands.specs.Names.{named}
use Rattle.redis_commands.specs.Table.{is_web, asked_of, asked_before_auth}
use Rattle.redis_commands.proofs.OptionLemmas.{nothing}

abbrev failed : Fault → Result Asked Fault
failed f = Err f

chosen : (b : Bool) (f g h : Fault) → f ≡ (if b then g else h) → failed f ≡ (if b then failed g else failed h)
chosen true f g h e = ap failed e
chosen false f g h e = ap failed e

pub unknown_asked : (now : ℕ) (words rest : List (Bor (List ℕ))) (f : Fault) → 1 ≤ length words → rest ≡ drop 1 words
    → named (get_or words 0 nothing).now ≡ None
    → f ≡ (if is_web (get_or words 0 nothing).now then WebRequest else UnknownCommand (get_or words 0 nothing).now (texts rest))
    → Err f ≡ asked_of now (texts words)
unknown_asked now [] rest f h is none e = absurd (omega (arith, h))
unknown_asked now (w ∷ words) rest f h is none e =
    rw (none, asked_of) (chosen (is_web w.now) f WebRequest (UnknownCommand w.now (texts words))
    (e ∙ ap (λ args. if is_web w.now then WebRequest else UnknownCommand w.now (texts args)) is))

pub unknown_before_auth : (words rest : List (Bor (List ℕ))) (f : Fault) → 1 ≤ length words → rest ≡ drop 1 words
    → named (get_or words 0 nothing).now ≡ None
    → f ≡ (if is_web (get_or words 0 nothing).now then WebRequest else UnknownCommand (get_or words 0 nothing).now (texts rest))
    → Err f ≡ asked_before_auth (texts words)
unknown_before_auth [] rest f h is none e = absurd (omega (arith, h))
unknown_before_auth (w ∷ words) rest f h is none e =
    rw (none, asked_before_auth) (chosen (is_web w.now) f WebRequest (UnknownCommand w.now (texts words))
    (e ∙ ap (λ args. if is_web w.now then WebRequest else UnknownCommand w.now (texts args)) is))
