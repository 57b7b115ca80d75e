-- What is kept of a talk with one client.
use Rattle.std.specs.Prelude.{ℕ, List, [], Bool, false, true, ◌||◌, Option, Some, None, is_none, bytes_eq, if◌then◌else◌}
use Rattle.redis_service.specs.declared.talk.Showing.{Showing}
use Rattle.redis_service.specs.declared.talk.Showing.TheVariants.{Right, Wrong, Missing}

-- a talk between two pieces: the beginning of a command, whether the talk is over, the client's name and number, the password that it
-- has to show, if there is one, and whether it was let in
pub record TalkState : Type 0 where
  pub rest : List ℕ
  pub is_over : Bool
  pub name : List ℕ
  pub number : ℕ
  pub password : Option (List ℕ)
  pub is_let_in : Bool

-- the talk with the client of this number, of which nothing has come, and which has to show this password, if there is one
abbrev pub begun : ℕ → Option (List ℕ) → TalkState
begun number password = record { rest = []; is_over = false; name = []; number = number; password = password; is_let_in = false }

-- the same talk without the beginning of a command
abbrev pub without_rest : TalkState → TalkState
without_rest talk = record talk { rest = [] }

-- the talk ended, and nothing more of its bytes is looked at
abbrev pub ended : TalkState → TalkState
ended talk = record talk { rest = []; is_over = true }

abbrev pub renamed : TalkState → List ℕ → TalkState
renamed talk name = record talk { name = name }

-- ---- passwords

-- no password has to be shown, or the client was let in
abbrev pub is_authenticated : TalkState → Bool
is_authenticated talk = is_none talk.password || talk.is_let_in

-- the talk of a client that is let in
abbrev pub let_in : TalkState → TalkState
let_in talk = record talk { is_let_in = true }

-- RESET takes the client's name away, and it has to show the password again
abbrev pub reset : TalkState → TalkState
reset talk = record talk { name = []; is_let_in = false }

-- what is shown is the password; if there is none, anything may be shown
abbrev pub is_right : Option (List ℕ) → List ℕ → Bool
is_right None shown = true
is_right (Some password) shown = bytes_eq password shown

-- a command shows this, or nothing
abbrev pub showing : TalkState → Option (List ℕ) → Showing
showing talk None = if is_authenticated talk then Right else Missing
showing talk (Some shown) = if is_right talk.password shown then Right else Wrong
