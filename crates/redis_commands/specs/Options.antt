-- Options of commands, which come in any order: what words spell, and what a list of options comes to.
use Rattle.std.specs.Prelude.{ℕ, zero, suc, Bool, true, false, ◌&&◌, not, List, [], ◌∷◌, codes, ℤ, pos, negsuc, Option, Some, None, ok_or, Result, Ok, Err, nat_lt, length, bytes_eq, fold, if◌then◌else◌}
use Rattle.std.specs.List.{list_all}
use Rattle.std.specs.Char.{is_ascii_graphic}
use Rattle.redis_commands.specs.declared.command.TheConstants.{NAME_BYTES}
use Rattle.redis_commands.specs.declared.name.Name.TheVariants.{Key}
use Rattle.redis_commands.specs.declared.name.KeyName.{KeyName}
use Rattle.redis_commands.specs.declared.name.KeyName.TheVariants as k
use Rattle.redis_commands.specs.declared.command.Lifetime.{Lifetime}
use Rattle.redis_commands.specs.declared.command.Lifetime.TheVariants.{Forever, Kept, Until}
use Rattle.redis_commands.specs.declared.command.TimeUnit.{TimeUnit}
use Rattle.redis_commands.specs.declared.command.TimeUnit.TheVariants.{Seconds, Millis}
use Rattle.redis_commands.specs.declared.command.TimeForm.{TimeForm}
use Rattle.redis_commands.specs.declared.command.TimeForm.TheVariants as form
use Rattle.redis_commands.specs.Words.{is, given, number}
use Rattle.redis_commands.specs.Deadlines.{deadline_above_0}
use Rattle.redis_commands.specs.Commands.{Condition, Fault}
use Rattle.redis_commands.specs.Commands.Condition.{Always, IfAbsent, IfPresent, IfEqual}
use Rattle.redis_commands.specs.Commands.Fault.{Syntax, HelloOption as Bad_hello_option, BadClientName, LongClientName}

-- ---- SET and GETEX

-- how long the entry is to stay: KEEPTTL; PERSIST; or EX, PX, EXAT or PXAT with a number
pub data Term : Type 0 where
  Same : Term
  Endless : Term
  Ends : TimeUnit → TimeForm → List ℕ → Term

-- NX, XX or IFEQ with a value; GET; how long the entry is to stay
pub data SetOption : Type 0 where
  Only : Condition → SetOption
  OldValue : SetOption
  Stays : Term → SetOption

-- the option that a word alone spells
abbrev pub flag : List ℕ → Option SetOption
flag word =
    if is (codes "nx") word then Some (Only IfAbsent)
    else (if is (codes "xx") word then Some (Only IfPresent)
    else (if is (codes "get") word then Some OldValue
    else (if is (codes "keepttl") word then Some (Stays Same)
    else (if is (codes "persist") word then Some (Stays Endless) else None))))

-- the option that a word and its value spell
abbrev pub valued : List ℕ → List ℕ → Option SetOption
valued word value =
    if is (codes "ifeq") word then Some (Only (IfEqual value))
    else (if is (codes "ex") word then Some (Stays (Ends Seconds form.Left value))
    else (if is (codes "px") word then Some (Stays (Ends Millis form.Left value))
    else (if is (codes "exat") word then Some (Stays (Ends Seconds form.Until value))
    else (if is (codes "pxat") word then Some (Stays (Ends Millis form.Until value)) else None))))

-- an option, if there is one, before others
abbrev pub before : Option SetOption → Option (List SetOption) → Option (List SetOption)
before (Some option) (Some options) = Some (option ∷ options)
before option options = None

-- the options that the words spell
abbrev pub spelled : List (List ℕ) → Option (List SetOption)
spelled [] = Some []
spelled (word ∷ []) = before (flag word) (Some [])
spelled (word ∷ value ∷ more) = elim (valued word value) [
  | Some option ↦ before (Some option) (spelled more)
  | None ↦ before (flag word) (spelled (value ∷ more))
]

-- the command has the option: PERSIST is GETEX's alone, which has none of the others but the four deadlines
abbrev pub is_of : KeyName → SetOption → Bool
is_of k.GetEx (Stays Same) = false
is_of k.GetEx (Stays term) = true
is_of k.GetEx option = false
is_of name (Stays Endless) = false
is_of name option = true

-- after no condition any may be named, and after NX or XX the same
abbrev pub same_condition : Condition → Condition → Bool
same_condition Always other = true
same_condition IfAbsent IfAbsent = true
same_condition IfPresent IfPresent = true
same_condition one other = false

abbrev pub same_unit : TimeUnit → TimeUnit → Bool
same_unit Seconds Seconds = true
same_unit Millis Millis = true
same_unit one other = false

abbrev pub same_form : TimeForm → TimeForm → Bool
same_form form.Left form.Left = true
same_form form.Until form.Until = true
same_form one other = false

abbrev pub same_term : Term → Term → Bool
same_term Same Same = true
same_term Endless Endless = true
same_term (Ends unit form n) (Ends unit' form' n') = same_unit unit unit' && same_form form form'
same_term one other = false

-- two options go together: one condition may be given, and one of the words that say how long the entry is to stay;
-- these words, but for IFEQ, also twice
abbrev pub agree : SetOption → SetOption → Bool
agree (Only one) (Only other) = same_condition one other
agree (Stays one) (Stays other) = same_term one other
agree one other = true

abbrev pub all_agree : List SetOption → Bool
all_agree [] = true
all_agree (option ∷ options) = list_all (agree option) options && all_agree options

-- what options come to
pub record SetOptions : Type 0 where
  pub condition : Condition
  pub wants_old : Bool
  pub term : Option Term

abbrev pub with_option : SetOptions → SetOption → SetOptions
with_option options (Only condition) = record options { condition = condition }
with_option options OldValue = record options { wants_old = true }
with_option options (Stays term) = record options { term = Some term }

abbrev pub no_options : SetOptions
no_options = record { condition = Always; wants_old = false; term = None }

-- each option is one that the command has, and any two go together; the last number holds
abbrev pub set_options : KeyName → List (List ℕ) → Result SetOptions Fault
set_options name words = given (ok_or (spelled words) Syntax)
    (λ options. if list_all (is_of name) options && all_agree options then Ok (fold with_option no_options options) else Err Syntax)

-- how long the entry stays; the number has to be above 0
abbrev pub lifetime : KeyName → ℕ → Term → Result Lifetime Fault
lifetime name now Same = Ok Kept
lifetime name now Endless = Ok Forever
lifetime name now (Ends unit form text) =
    given (number text) (λ n. given (deadline_above_0 (Key name) now unit form n) (λ at. Ok (Until at)))

-- ---- SCAN

-- MATCH with a pattern, COUNT with a number, TYPE and whether it is that of strings
pub data ScanOption : Type 0 where
  Match : List ℕ → ScanOption
  Count : ℕ → ScanOption
  OfType : Bool → ScanOption

-- a number of keys, which is at least 1
abbrev pub count_of : ℤ → Result ℕ Fault
count_of (pos zero) = Err Syntax
count_of (pos (suc n)) = Ok (suc n)
count_of (negsuc n) = Err Syntax

-- the option that a word and its value spell
abbrev pub scan_option : List ℕ → List ℕ → Result ScanOption Fault
scan_option word value =
    if is (codes "match") word then Ok (Match value)
    else (if is (codes "count") word then given (number value) (λ n. given (count_of n) (λ count. Ok (Count count)))
    else (if is (codes "type") word then Ok (OfType (is (codes "string") value)) else Err Syntax))

-- the options that the words spell, or the first fault
abbrev pub each_scan_option : List (List ℕ) → Result (List ScanOption) Fault
each_scan_option [] = Ok []
each_scan_option (word ∷ []) = Err Syntax
each_scan_option (word ∷ value ∷ more) =
    given (scan_option word value) (λ option. given (each_scan_option more) (λ options. Ok (option ∷ options)))

-- what options come to
pub record ScanOptions : Type 0 where
  pub pattern : Option (List ℕ)
  pub count : ℕ
  pub is_string : Bool

abbrev pub with_scan_option : ScanOptions → ScanOption → ScanOptions
with_scan_option options (Match pattern) = record options { pattern = Some pattern }
with_scan_option options (Count count) = record options { count = count }
with_scan_option options (OfType is_string) = record options { is_string = is_string }

-- ten keys at a step, if no other count is given
abbrev pub no_scan_options : ScanOptions
no_scan_options = record { pattern = None; count = 10; is_string = true }

-- of several options of one kind the last one holds
abbrev pub scan_options : List (List ℕ) → Result ScanOptions Fault
scan_options words = given (each_scan_option words) (λ options. Ok (fold with_scan_option no_scan_options options))

-- ---- HELLO

-- a client's name: bytes from `!` to `~`
abbrev pub is_client_name : List ℕ → Bool
is_client_name name = list_all is_ascii_graphic name

-- the name, if it is within the limit
abbrev pub short_name : List ℕ → Result (List ℕ) Fault
short_name name = if nat_lt NAME_BYTES (length name) then Err LongClientName else Ok name

abbrev pub client_name : List ℕ → Result (List ℕ) Fault
client_name name = if is_client_name name then short_name name else Err BadClientName

-- the user that each client is
abbrev pub is_default : List ℕ → Bool
is_default user = bytes_eq user (codes "default")

-- SETNAME with the client's name, AUTH with a user and a password
pub data HelloOption : Type 0 where
  Named : List ℕ → HelloOption
  User : List ℕ → List ℕ → HelloOption

-- the option that a word and its value spell
abbrev pub naming : List ℕ → List ℕ → Result HelloOption Fault
naming word value =
    if is (codes "setname") word then (if is_client_name value then Ok (Named value) else Err BadClientName)
    else Err (Bad_hello_option word)

-- an option, if there is one, before others
abbrev pub hello_before : Result HelloOption Fault → Result (List HelloOption) Fault → Result (List HelloOption) Fault
hello_before first rest = given first (λ option. given rest (λ options. Ok (option ∷ options)))

-- the options that the words spell, or the first fault
abbrev pub each_hello_option : List (List ℕ) → Result (List HelloOption) Fault
each_hello_option [] = Ok []
each_hello_option (word ∷ []) = Err (Bad_hello_option word)
each_hello_option (word ∷ value ∷ []) = hello_before (naming word value) (Ok [])
each_hello_option (word ∷ value ∷ password ∷ more) =
    if is (codes "auth") word then hello_before (Ok (User value password)) (each_hello_option more)
    else hello_before (naming word value) (each_hello_option (password ∷ more))

-- what options come to: the client's name and a password, if they are given, and whether another user than Redis' own is named
pub record HelloOptions : Type 0 where
  pub name : Option (List ℕ)
  pub password : Option (List ℕ)
  pub is_stranger : Bool

abbrev pub with_hello_option : HelloOptions → HelloOption → HelloOptions
with_hello_option options (Named name) = record options { name = Some name }
with_hello_option options (User user password) = record options { password = Some password; is_stranger = not (is_default user) }

abbrev pub no_hello_options : HelloOptions
no_hello_options = record { name = None; password = None; is_stranger = false }

-- of several options of one kind the last one holds
abbrev pub hello_options : List (List ℕ) → Result HelloOptions Fault
hello_options words = given (each_hello_option words) (λ options. Ok (fold with_hello_option no_hello_options options))
