-- One more call after those that were made.
use Rattle.std.proofs.Common.{◌≡◌, ℕ, ◌+◌, ◌<◌, List, [], ◌∷◌, ◌++◌, length, get_or, refl, sym, ap, subst, ◌∙◌}
use Rattle.std.specs.Prelude.{map, take}
use Rattle.std.proofs.lemmas.List.{take_more, map-append}
use Rattle.bins.specs.Table.{Table}
use Rattle.atomic_methods.specs.declared.call.Call.{Call}
use Rattle.atomic_methods.specs.declared.reply.Reply.{Reply}
use Rattle.atomic_methods.specs.Invocations.{Invocation, invocation_of}
use Rattle.atomic_methods.specs.Methods.{Answers}
use Rattle.atomic_methods.specs.Runs.{AnswersInTurn, first_of}

pub AnswersInTurn-append : (table : Table) (made : List Invocation) (middle : Table) (replies : List Reply) (invocation : Invocation) (new : Table) (reply : Reply)
    → AnswersInTurn table made middle replies → Answers middle invocation new reply → AnswersInTurn table (made ++ invocation ∷ []) new (replies ++ reply ∷ [])
AnswersInTurn-append table [] middle [] invocation new reply h more = (new, (subst (λ (t : Table). Answers t invocation new reply) h more, refl))
AnswersInTurn-append table [] middle (r ∷ rs) invocation new reply h more = absurd h
AnswersInTurn-append table (i ∷ is) middle [] invocation new reply h more = absurd h
AnswersInTurn-append table (i ∷ is) middle (r ∷ rs) invocation new reply (next, (first, rest)) more =
    (next, (first, AnswersInTurn-append next is middle rs invocation new reply rest more))

-- the call at position n is the last of the first n + 1
pub first_of-more : (calls : List Call) (n : ℕ) (call : Call) → n < length calls → call ≡ get_or calls n call → first_of calls (n + 1) ≡ first_of calls n ++ invocation_of call ∷ []
first_of-more calls n call lt is =
    ap (map invocation_of) (take_more calls n call lt ∙ ap (λ (c : Call). take n calls ++ c ∷ []) (sym is)) ∙ map-append invocation_of (take n calls) (call ∷ [])

pub made_more : (table : Table) (calls : List Call) (n : ℕ) (middle : Table) (replies : List Reply) (call : Call) (new : Table) (reply : Reply)
    → n < length calls → call ≡ get_or calls n call → AnswersInTurn table (first_of calls n) middle replies → Answers middle (invocation_of call) new reply
    → AnswersInTurn table (first_of calls (n + 1)) new (replies ++ reply ∷ [])
made_more table calls n middle replies call new reply lt is h more =
    rw (first_of-more calls n call lt is) (AnswersInTurn-append table (first_of calls n) middle replies (invocation_of call) new reply h more)
