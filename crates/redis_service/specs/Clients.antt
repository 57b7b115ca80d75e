-- The clients of a server, as they are listed and let go. Other threads serve them too: who is there is any list here.
use Rattle.std.specs.Global.{Vec}
use Rattle.std.specs.Prelude.{◌≡◌, ◌⊎◌, ◌<◌, ◌-◌, ◌/◌, ℕ, Bool, true, false, List, [], ◌∷◌, ◌++◌, flat_map, get_or, length, decimal, codes, Result, Ok, Err}
use Rattle.server_state.specs.declared.clients.ClientView.{ClientView}
use Rattle.bpf_model.specs.declared.memory.NoMemory.{NoMemory}
use Rattle.resp.specs.Replies.{value_bytes, error_bytes}
use Rattle.redis_service.specs.Lines.{no_memory_line}
use Rattle.redis_commands.specs.Commands.{ClientsAsked, Filter}
use Rattle.redis_commands.specs.Commands.ClientsAsked.{ListAll, Nobody, Named, Own, KillAt, Kill}
use Rattle.redis_service.specs.Connections.{SaysIfRoom}
use Rattle.redis_service.specs.States.{TalkState}
use Rattle.redis_service.specs.Texts.{ok_line, count_line}

-- a client that is listed, with its name and the name of its last command
pub record Listed : Type 0 where
  pub client : ClientView
  pub name : List ℕ
  pub command : List ℕ

-- the version of Redis' protocol that a client of commands speaks, or 0
abbrev pub version_of : Bool → List ℕ
version_of true = codes "2"
version_of false = codes "0"

-- the line of a client at the time `now`
abbrev pub addresses : Listed → List ℕ
addresses listed =
    codes "id=" ++ decimal listed.client.number ++ codes " addr=" ++ listed.client.address.items ++ codes " laddr=" ++ listed.client.local_address.items

abbrev pub name_part : Listed → List ℕ
name_part listed = codes " fd=" ++ decimal listed.client.descriptor ++ codes " name=" ++ listed.name

abbrev pub times : ℕ → Listed → List ℕ
times now listed =
    codes " age=" ++ decimal ((now - listed.client.came) / 1000) ++ codes " idle=" ++ decimal ((now - listed.client.heard) / 1000)

abbrev pub command_part : Listed → List ℕ
command_part listed = codes " flags=N db=0 sub=0 psub=0 ssub=0 multi=-1 cmd=" ++ listed.command

abbrev pub version_part : Listed → List ℕ
version_part listed = codes " user=default redir=-1 resp=" ++ version_of listed.client.has_commands

abbrev pub library : Listed → List ℕ
library listed = codes " lib-name=" ++ listed.client.library.items ++ codes " lib-ver=" ++ listed.client.version.items ++ codes "\n"

abbrev pub client_line : ℕ → Listed → List ℕ
client_line now listed = addresses listed ++ name_part listed ++ times now listed ++ command_part listed ++ version_part listed ++ library listed

-- each of them is meant
abbrev pub AreMeant : (Listed → Type 0) → List Listed → Type 0
AreMeant Meant [] = Unit {0}
AreMeant Meant (listed ∷ more) = Meant listed × AreMeant Meant more

-- the lines of some clients that are meant
abbrev pub AreLines : (Listed → Type 0) → ℕ → List ℕ → Type 0
AreLines Meant now text = (all : List Listed) × (text ≡ flat_map (client_line now) all) × AreMeant Meant all

-- any client is meant
abbrev pub IsAny : Listed → Type 0
IsAny listed = Unit {0}

-- its number is one of the words
abbrev pub IsNamed : List (List ℕ) → Listed → Type 0
IsNamed words listed = (k : ℕ) × (k < length words) × (get_or words k [] ≡ decimal listed.client.number)

-- the client of this talk
abbrev pub IsOwn : TalkState → Listed → Type 0
IsOwn talk listed = (listed.client.number ≡ talk.number) × (listed.name ≡ talk.name)

-- the lines of clients that are meant, as a value, or that memory was refused
abbrev pub Lists : (Listed → Type 0) → List ℕ → Type 0
Lists Meant written = (now : ℕ) × (text : List ℕ) × AreLines Meant now text × SaysIfRoom (value_bytes text) written

-- the lines that were made, as a value, or that memory was refused to them
abbrev pub SaysLines : Result (Vec ℕ) NoMemory → List ℕ → Type 0
SaysLines (Ok text) written = written ≡ value_bytes text.items
SaysLines (Err fault) written = written ≡ no_memory_line

-- nobody has the address
abbrev pub no_client_line : List ℕ
no_client_line = error_bytes (codes "ERR No such client")

-- a client with the address was let go, or nobody has it
abbrev pub killed_line : Bool → List ℕ
killed_line true = ok_line
killed_line false = no_client_line

-- the client that asks is told first, if it is let go too
abbrev pub MayEnd : TalkState → TalkState → Type 0
MayEnd talk next = (next ≡ talk) ⊎ (next ≡ record talk { is_over = true })

-- each client is of the one type; a filter that spares the one who asks ends no talk
abbrev pub Kills : TalkState → Filter → List ℕ → TalkState → Type 0
Kills talk filter written next =
    ((count : ℕ) × (written ≡ count_line count) × (filter.is_normal ≡ false → count ≡ 0)) × MayEnd talk next
    × (filter.spares_own ≡ true → next ≡ talk)

abbrev pub AnswersClients : TalkState → ClientsAsked → List ℕ → TalkState → Type 0
AnswersClients talk ListAll written next = Lists IsAny written × (next ≡ talk)
AnswersClients talk Nobody written next = (written ≡ value_bytes []) × (next ≡ talk)
AnswersClients talk (Named words) written next = Lists (IsNamed words) written × (next ≡ talk)
AnswersClients talk Own written next = Lists (IsOwn talk) written × (next ≡ talk)
AnswersClients talk (KillAt address) written next =
    (is_killed : Bool) × (written ≡ killed_line is_killed) × MayEnd talk next × (is_killed ≡ false → next ≡ talk)
AnswersClients talk (Kill filter) written next = Kills talk filter written next
