-- Commands of the connection.
use Rattle.std.specs.Prelude.{◌≡◌, ◌⊎◌, ℕ, List, [], ◌∷◌, ◌++◌, Option, Some, None, codes, true}
use Rattle.bin_stripes.specs.Passes.{PassState}
use Rattle.resp.specs.Replies.{simple_bytes, value_bytes, error_bytes, nothing_bytes, array_head}
use Rattle.redis_commands.specs.Commands.{ConnectionAsked}
use Rattle.redis_commands.specs.Commands.Fault.{WrongPassword}
use Rattle.redis_commands.specs.Texts.{fault_text}
use Rattle.redis_commands.specs.Commands.ConnectionAsked.{Ping, Echo, Quit, Select, Hello, Auth, AuthDefault, ClientId, ClientName, SetClientName, SetClientInfo, Commands, CommandCount, CommandDocs, Config, Reset}
use Rattle.redis_service.specs.Server.{config_bytes}
use Rattle.redis_service.specs.States.{TalkState, renamed, let_in, reset, showing}
use Rattle.redis_service.specs.declared.talk.Showing.{Showing}
use Rattle.redis_service.specs.declared.talk.Showing.TheVariants.{Right, Wrong, Missing}
use Rattle.redis_service.specs.Lines.{no_memory_line}
use Rattle.redis_service.specs.Texts.{ok_line, count_line}

-- an answer that changes nothing
abbrev pub Says : TalkState → PassState → List ℕ → List ℕ → TalkState → PassState → Type 0
Says talk old text written next new = (written ≡ text) × (next ≡ talk) × (new ≡ old)

-- the text, or that memory for it was refused
abbrev pub SaysIfRoom : List ℕ → List ℕ → Type 0
SaysIfRoom text written = (written ≡ text) ⊎ (written ≡ no_memory_line)

-- the client has this name now; or memory to keep it was refused
abbrev pub Renames : TalkState → PassState → List ℕ → List ℕ → List ℕ → TalkState → PassState → Type 0
Renames talk old name text written next new =
    (((written ≡ text) × (next ≡ renamed talk name)) ⊎ ((written ≡ no_memory_line) × (next ≡ talk))) × (new ≡ old)

-- what a client without a name is told of it
abbrev pub name_line : List ℕ → List ℕ
name_line [] = nothing_bytes
name_line (b ∷ name) = value_bytes (b ∷ name)

-- HELLO: names and values by turns, with the client's number
abbrev pub hello_bytes : ℕ → List ℕ
hello_bytes number =
    codes "*14\r\n$6\r\nserver\r\n$5\r\nredis\r\n$7\r\nversion\r\n$6\r\n7.0.15\r\n$5\r\nproto\r\n:2\r\n$2\r\nid\r\n" ++ count_line number
    ++ codes "$4\r\nmode\r\n$10\r\nstandalone\r\n$4\r\nrole\r\n$6\r\nmaster\r\n$7\r\nmodules\r\n*0\r\n"

-- a HELLO that is welcome, with a name or without
abbrev pub Greets : TalkState → PassState → Option (List ℕ) → List ℕ → TalkState → PassState → Type 0
Greets talk old None written next new = Says talk old (hello_bytes talk.number) written next new
Greets talk old (Some name) written next new = Renames talk old name (hello_bytes talk.number) written next new

-- what is said of a password that is not the right one, and of AUTH if there is none
abbrev pub wrong_password_line : List ℕ
wrong_password_line = error_bytes (fault_text WrongPassword)

abbrev pub no_password_line : List ℕ
no_password_line =
    error_bytes (codes "ERR AUTH <password> called without any password configured for the default user. Are you sure your configuration is correct?")

-- what is said of a HELLO without the password
abbrev pub stranger_line : List ℕ
stranger_line =
    error_bytes (codes "NOAUTH HELLO must be called with the client already authenticated, otherwise the HELLO AUTH <user> <pass> option can be used to authenticate the client and select the RESP protocol version at the same time")

-- HELLO: who shows the right password, or has shown it, is let in and greeted
abbrev pub AnswersHello : Showing → TalkState → PassState → Option (List ℕ) → List ℕ → TalkState → PassState → Type 0
AnswersHello Right talk old name written next new = Greets (let_in talk) old name written next new
AnswersHello Wrong talk old name written next new = Says talk old wrong_password_line written next new
AnswersHello Missing talk old name written next new = Says talk old stranger_line written next new

-- AUTH: who shows the right password is let in
abbrev pub LetsIn : Showing → TalkState → PassState → List ℕ → TalkState → PassState → Type 0
LetsIn Right talk old written next new = (written ≡ ok_line) × (next ≡ let_in talk) × (new ≡ old)
LetsIn other talk old written next new = Says talk old wrong_password_line written next new

-- AUTH with a password alone, which is an error if there is none
abbrev pub LetsInBy : Option (List ℕ) → TalkState → PassState → List ℕ → List ℕ → TalkState → PassState → Type 0
LetsInBy None talk old shown written next new = Says talk old no_password_line written next new
LetsInBy (Some password) talk old shown written next new = LetsIn (showing talk (Some shown)) talk old written next new

-- PING, with a text or without
abbrev pub ping_line : Option (List ℕ) → List ℕ
ping_line None = simple_bytes (codes "PONG")
ping_line (Some text) = value_bytes text

abbrev pub AnswersConnection : TalkState → PassState → ConnectionAsked → List ℕ → TalkState → PassState → Type 0
AnswersConnection talk old (Ping text) written next new = Says talk old (ping_line text) written next new
AnswersConnection talk old (Echo text) written next new = Says talk old (value_bytes text) written next new
AnswersConnection talk old Quit written next new =
    (written ≡ ok_line) × (next ≡ record talk { is_over = true }) × (new ≡ old)
AnswersConnection talk old Select written next new = Says talk old ok_line written next new
AnswersConnection talk old (Hello shown name) written next new = AnswersHello (showing talk shown) talk old name written next new
AnswersConnection talk old (Auth shown) written next new = LetsInBy talk.password talk old shown written next new
AnswersConnection talk old (AuthDefault shown) written next new = LetsIn (showing talk (Some shown)) talk old written next new
AnswersConnection talk old ClientId written next new = Says talk old (count_line talk.number) written next new
AnswersConnection talk old ClientName written next new = Says talk old (name_line talk.name) written next new
AnswersConnection talk old (SetClientName name) written next new = Renames talk old name ok_line written next new
AnswersConnection talk old (SetClientInfo attribute value) written next new = Says talk old ok_line written next new
AnswersConnection talk old Commands written next new = Says talk old (array_head 0) written next new
AnswersConnection talk old CommandCount written next new = Says talk old (count_line 0) written next new
AnswersConnection talk old CommandDocs written next new = Says talk old (array_head 0) written next new
AnswersConnection talk old Reset written next new =
    (written ≡ simple_bytes (codes "RESET")) × (next ≡ reset talk) × (new ≡ old)
AnswersConnection talk old (Config words) written next new = (least : Option ℕ) × Says talk old (config_bytes least words) written next new
