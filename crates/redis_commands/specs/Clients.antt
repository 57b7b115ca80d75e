-- What the arguments of CLIENT LIST, CLIENT KILL and SLOWLOG GET ask for.
use Rattle.std.specs.Prelude.{ℕ, zero, suc, Bool, true, false, ◌||◌, ◌&&◌, List, [], ◌∷◌, length, codes, ℤ, pos, negsuc, Option, Some, None, is_some, Result, Ok, Err, nat_eq, if◌then◌else◌}
use Rattle.std.specs.List.{list_all}
use Rattle.redis_commands.specs.declared.name.Parent.TheVariants as parent
use Rattle.redis_commands.specs.declared.command.SlowlogCommand.{SlowlogCommand}
use Rattle.redis_commands.specs.declared.command.SlowlogCommand.TheVariants as slow
use Rattle.redis_commands.specs.Numbers.{integer_of}
use Rattle.redis_commands.specs.Words.{is, given}
use Rattle.redis_commands.specs.Options.{is_default}
use Rattle.redis_commands.specs.Commands.{Fault, Filter, ClientsAsked}
use Rattle.redis_commands.specs.Commands.ClientsAsked.{ListAll, Nobody, Named, KillAt, Kill}
use Rattle.redis_commands.specs.Commands.Fault.{Syntax, WrongSub, ClientType, NoUser, ClientNumber, ListedNumber, SlowlogCount}

-- each client is of the type `normal`; whether that is the type
abbrev pub client_type : List ℕ → Result Bool Fault
client_type word =
    if is (codes "normal") word then Ok true
    else (if is (codes "master") word || is (codes "replica") word || is (codes "slave") word || is (codes "pubsub") word then Ok false
    else Err (ClientType word))

abbrev pub above_0 : ℤ → Result ℕ Fault
above_0 (pos zero) = Err ClientNumber
above_0 (pos (suc n)) = Ok (suc n)
above_0 (negsuc n) = Err ClientNumber

abbrev pub client_number : List ℕ → Result ℕ Fault
client_number text = elim (integer_of text) [ None ↦ Err ClientNumber | Some n ↦ above_0 n ]

abbrev pub spares : List ℕ → Result Bool Fault
spares word = if is (codes "yes") word then Ok true else (if is (codes "no") word then Ok false else Err Syntax)

-- there is one user
abbrev pub of_user : Filter → List ℕ → Result Filter Fault
of_user filter user = if is_default user then Ok filter else Err (NoUser user)

-- a filter with one more option
abbrev pub filtered : Filter → List ℕ → List ℕ → Result Filter Fault
filtered filter word value =
    if is (codes "id") word then given (client_number value) (λ n. Ok (record filter { number = Some n }))
    else (if is (codes "type") word then given (client_type value) (λ normal. Ok (record filter { is_normal = normal }))
    else (if is (codes "addr") word then Ok (record filter { address = Some value })
    else (if is (codes "laddr") word then Ok (record filter { local_address = Some value })
    else (if is (codes "user") word then of_user filter value
    else (if is (codes "skipme") word then given (spares value) (λ own. Ok (record filter { spares_own = own }))
    else Err Syntax)))))

-- all clients but the one who asks
abbrev pub no_filter : Filter
no_filter = record { number = None; address = None; local_address = None; is_normal = true; spares_own = true }

-- of several options of one kind the last one holds
abbrev pub filter_of : Filter → List (List ℕ) → Result Filter Fault
filter_of filter [] = Ok filter
filter_of filter (word ∷ []) = Err Syntax
filter_of filter (word ∷ value ∷ more) = given (filtered filter word value) (λ next. filter_of next more)

abbrev pub kill_by : List (List ℕ) → Result ClientsAsked Fault
kill_by options = given (filter_of no_filter options) (λ filter. Ok (Kill filter))

-- CLIENT KILL: an address alone, or options
abbrev pub kill : List (List ℕ) → Result ClientsAsked Fault
kill [] = kill_by []
kill (address ∷ []) = Ok (KillAt address)
kill (option ∷ value ∷ more) = kill_by (option ∷ value ∷ more)

abbrev pub are_numbers : List (List ℕ) → Bool
are_numbers words = list_all (λ word. is_some (integer_of word)) words

-- CLIENT LIST ID
abbrev pub named : List (List ℕ) → Result ClientsAsked Fault
named numbers = if are_numbers numbers then Ok (Named numbers) else Err ListedNumber

abbrev pub listed : Bool → ClientsAsked
listed true = ListAll
listed false = Nobody

-- CLIENT LIST TYPE
abbrev pub of_type : List (List ℕ) → Result ClientsAsked Fault
of_type (word ∷ []) = given (client_type word) (λ normal. Ok (listed normal))
of_type words = Err Syntax

-- CLIENT LIST
abbrev pub list : List (List ℕ) → Result ClientsAsked Fault
list [] = Ok ListAll
list (option ∷ []) = Err Syntax
list (option ∷ value ∷ more) =
    if is (codes "id") option then named (value ∷ more)
    else (if is (codes "type") option then of_type (value ∷ more) else Err Syntax)

abbrev pub slow_count : ℤ → Result SlowlogCommand Fault
slow_count (pos n) = Ok (slow.Get (Some n))
slow_count (negsuc zero) = Ok (slow.Get None)
slow_count (negsuc (suc n)) = Err SlowlogCount

abbrev pub count_given : List ℕ → Result SlowlogCommand Fault
count_given text = elim (integer_of text) [ None ↦ Err SlowlogCount | Some n ↦ slow_count n ]

-- SLOWLOG GET: ten of them, this many, or all; the word is the one that named it
abbrev pub slow_get : List ℕ → List (List ℕ) → Result SlowlogCommand Fault
slow_get word [] = Ok (slow.Get (Some 10))
slow_get word (count ∷ []) = count_given count
slow_get word args = Err (WrongSub parent.Slowlog word)
