-- The texts of faults, as Redis 7.0 words them; what a client sent is shown up to 128 bytes.
use Rattle.std.specs.Prelude.{ℕ, Bool, ◌+◌, ◌-◌, ◌||◌, List, [], ◌∷◌, ◌++◌, length, take, map, codes, nat_eq, nat_lt, if◌then◌else◌}
use Rattle.std.specs.List.{list_all}
use Rattle.redis_commands.specs.Names.{name_text, sub_word, parent_of, parent_text, parent_capitals}
use Rattle.redis_commands.specs.Commands.{Fault}
use Rattle.redis_commands.specs.Commands.Fault.{UnknownCommand, UnknownSub, WrongCount, WrongSubCount, Syntax, NotAnInteger, DecrementOverflow, OffsetOutOfRange, LongKey, LongValue, BadExpire, ExpireOption, NxWithOthers, GtWithLt, BadCursor, BadIndex, WideIndex, BadVersion, NoProtocol, HelloOption, BadClientName, LongClientName, WrongPassword, NotAuthenticated, NegativeKeys, TooManyKeys, ScriptShape, NoScript, NoDebug, WebRequest, WrongSub, ClientType, NoUser, ClientNumber, ListedNumber, SlowlogCount}

-- up to the first byte 0
abbrev pub until_0 : List ℕ → List ℕ
until_0 [] = []
until_0 (b ∷ bytes) = if nat_eq b 0 then [] else b ∷ until_0 bytes

abbrev pub is_line_end : ℕ → Bool
is_line_end b = nat_eq b 10 || nat_eq b 13

-- a blank for each end of a line
abbrev pub blanked : ℕ → ℕ
blanked b = if is_line_end b then 32 else b

-- the part of a word that is shown: its bytes up to a 0, and at most this number of them
abbrev pub shown : ℕ → List ℕ → List ℕ
shown most word = map blanked (take most (until_0 word))

-- without the ends of lines at its end
abbrev pub trimmed : List ℕ → List ℕ
trimmed [] = []
trimmed (b ∷ bytes) = if list_all is_line_end (b ∷ bytes) then [] else b ∷ trimmed bytes

abbrev pub shown_arg : ℕ → List ℕ → List ℕ
shown_arg so_far arg = codes "'" ++ shown (128 - so_far) arg ++ codes "' "

-- the arguments, until 128 bytes are shown; `so_far` counts those that were shown before
abbrev pub shown_args : ℕ → List (List ℕ) → List ℕ
shown_args so_far [] = []
shown_args so_far (arg ∷ args) =
    if nat_lt so_far 128 then shown_arg so_far arg ++ shown_args (so_far + length (shown_arg so_far arg)) args else []

abbrev pub wrong_count : List ℕ → List ℕ
wrong_count name = codes "ERR wrong number of arguments for '" ++ name ++ codes "' command"

-- the whole text, after the `-` and before the end of the line
abbrev pub fault_text : Fault → List ℕ
fault_text (UnknownCommand name args) =
    codes "ERR unknown command '" ++ shown 128 name ++ codes "', with args beginning with: " ++ shown_args 0 args
fault_text (UnknownSub parent word) =
    codes "ERR unknown subcommand '" ++ shown 128 word ++ codes "'. Try " ++ parent_capitals parent ++ codes " HELP."
fault_text (WrongSub parent word) =
    codes "ERR unknown subcommand or wrong number of arguments for '" ++ shown 128 word ++ codes "'. Try " ++ parent_capitals parent ++ codes " HELP."
fault_text (WrongCount name) = wrong_count (name_text name)
fault_text (WrongSubCount sub) = wrong_count (parent_text (parent_of sub) ++ codes "|" ++ sub_word sub)
fault_text Syntax = codes "ERR syntax error"
fault_text NotAnInteger = codes "ERR value is not an integer or out of range"
fault_text DecrementOverflow = codes "ERR decrement would overflow"
fault_text OffsetOutOfRange = codes "ERR offset is out of range"
fault_text LongKey = codes "ERR key exceeds maximum allowed size (64)"
fault_text LongValue = codes "ERR string exceeds maximum allowed size (1024)"
fault_text (BadExpire name) = codes "ERR invalid expire time in '" ++ name_text name ++ codes "' command"
fault_text (ExpireOption option) = codes "ERR Unsupported option " ++ shown 128 (trimmed (until_0 option))
fault_text NxWithOthers = codes "ERR NX and XX, GT or LT options at the same time are not compatible"
fault_text GtWithLt = codes "ERR GT and LT options at the same time are not compatible"
fault_text BadCursor = codes "ERR invalid cursor"
fault_text BadIndex = codes "ERR DB index is out of range"
fault_text WideIndex = codes "ERR value is out of range, value must between -2147483648 and 2147483647"
fault_text BadVersion = codes "ERR Protocol version is not an integer or out of range"
fault_text NoProtocol = codes "NOPROTO unsupported protocol version"
fault_text (HelloOption option) = codes "ERR Syntax error in HELLO option '" ++ shown 128 option ++ codes "'"
fault_text BadClientName = codes "ERR Client names cannot contain spaces, newlines or special characters."
fault_text LongClientName = codes "ERR client name exceeds maximum allowed size (64)"
fault_text WrongPassword = codes "WRONGPASS invalid username-password pair or user is disabled."
fault_text NotAuthenticated = codes "NOAUTH Authentication required."
fault_text NegativeKeys = codes "ERR Number of keys can't be negative"
fault_text TooManyKeys = codes "ERR Number of keys can't be greater than number of args"
fault_text ScriptShape = codes "ERR not served: a script is called with one key"
fault_text NoScript = codes "NOSCRIPT No matching script. Please use EVAL."
fault_text NoDebug = codes "ERR DEBUG command not allowed."
fault_text (ClientType word) = codes "ERR Unknown client type '" ++ shown 128 word ++ codes "'"
fault_text (NoUser user) = codes "ERR No such user '" ++ shown 128 user ++ codes "'"
fault_text ClientNumber = codes "ERR client-id should be greater than 0"
fault_text ListedNumber = codes "ERR Invalid client ID"
fault_text SlowlogCount = codes "ERR count should be greater than or equal to -1"
fault_text WebRequest = []

-- the text shows nothing of the words
abbrev pub IsFixed : Fault → Type 0
IsFixed (UnknownCommand name args) = ⊥
IsFixed (UnknownSub parent word) = ⊥
IsFixed (WrongCount name) = ⊥
IsFixed (WrongSubCount sub) = ⊥
IsFixed (BadExpire name) = ⊥
IsFixed (ExpireOption option) = ⊥
IsFixed (HelloOption option) = ⊥
IsFixed (WrongSub parent word) = ⊥
IsFixed (ClientType word) = ⊥
IsFixed (NoUser user) = ⊥
IsFixed fault = Unit {0}
