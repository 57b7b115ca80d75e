-- What a list of calls does to a table, one call after the other.
use Rattle.std.specs.Prelude.{◌≡◌, ℕ, List, [], ◌∷◌, Some, map, take, slice_get}
use Rattle.bins.specs.Table.{Table}
use Rattle.atomic_methods.specs.declared.call.Call.{Call}
use Rattle.atomic_methods.specs.declared.reply.Reply.{Reply}
use Rattle.atomic_methods.specs.Invocations.{Invocation, invocation_of}
use Rattle.atomic_methods.specs.Methods.{Answers, WouldAdd}

-- the invocations, made in turn on the table, leave the new one and get the replies
abbrev pub AnswersInTurn : Table → List Invocation → Table → List Reply → Type 0
AnswersInTurn table [] new [] = new ≡ table
AnswersInTurn table [] new (reply ∷ replies) = ⊥
AnswersInTurn table (invocation ∷ rest) new [] = ⊥
AnswersInTurn table (invocation ∷ rest) new (reply ∷ replies) =
    (next : Table) × (Answers table invocation next reply × AnswersInTurn next rest new replies)

-- the invocations of the first n calls
abbrev pub first_of : List Call → ℕ → List Invocation
first_of calls n = map invocation_of (take n calls)

-- the call at this position would add its key
pub record IsCallRefused (table : Table) (calls : List Call) (n : ℕ) : Type 0 where
  pub call : Call
  pub is : slice_get calls n ≡ Some call
  pub adds : WouldAdd table (invocation_of call)
