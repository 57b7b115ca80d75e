-- How the code shows options, and what was read of words.
use Rattle.std.specs.Prelude.{ℕ, ℤ, Bool, true, List, drop, Option, Some, None, Result, Ok, Err, option_map, if◌then◌else◌}
use Rattle.std.specs.Borrow.{Bor}
use Rattle.redis_commands.specs.declared.fault.CommandFault.{CommandFault}
use Rattle.redis_commands.specs.declared.options.Term.{Term as ShownTerm}
use Rattle.redis_commands.specs.declared.options.Term.TheVariants as term
use Rattle.redis_commands.specs.declared.options.SetOption.{SetOption as ShownSetOption}
use Rattle.redis_commands.specs.declared.options.SetOption.TheVariants as shown
use Rattle.redis_commands.specs.declared.options.SetOptions.{SetOptions as ShownSet}
use Rattle.redis_commands.specs.declared.options.ScanOptions.{ScanOptions as ShownScan}
use Rattle.redis_commands.specs.declared.options.HelloOption.{HelloOption as ShownHelloOption}
use Rattle.redis_commands.specs.declared.options.HelloOption.TheVariants as hello
use Rattle.redis_commands.specs.declared.options.HelloOptions.{HelloOptions as ShownHello}
use Rattle.redis_commands.specs.Words.{given}
use Rattle.redis_commands.specs.Commands.{Fault, text, texts, condition_by, fault_by}
use Rattle.redis_commands.specs.Commands.Fault.{Syntax}
use Rattle.redis_commands.specs.Options.{Term, SetOption, SetOptions, ScanOption, ScanOptions, HelloOption, HelloOptions, before, spelled, same_condition, same_term, with_option, with_scan_option, hello_before, each_hello_option}
use Rattle.redis_commands.specs.Options.Term.{Same, Endless, Ends}
use Rattle.redis_commands.specs.Options.SetOption.{Only, OldValue, Stays}
use Rattle.redis_commands.specs.Options.HelloOption.{Named, User}

-- what was read, or a fault
abbrev pub read_by : {A B : Type 0} → (A → B) → Result A CommandFault → Result B Fault
read_by view (Ok value) = Ok (view value)
read_by view (Err fault) = Err (fault_by fault)

abbrev pub number_by : Result ℤ CommandFault → Result ℤ Fault
number_by r = read_by (λ n. n) r

abbrev pub natural_by : Result ℕ CommandFault → Result ℕ Fault
natural_by r = read_by (λ n. n) r

-- what is shown as it is, or a fault
abbrev pub same_by : {A : Type 0} → Result A CommandFault → Result A Fault
same_by r = read_by (λ value. value) r

abbrev pub text_by : Result (Bor (List ℕ)) CommandFault → Result (List ℕ) Fault
text_by r = read_by (λ word. word.now) r

-- the fault, if there is one
abbrev pub err_by : {A : Type 0} → Result A CommandFault → Option Fault
err_by (Ok value) = None
err_by (Err fault) = Some (fault_by fault)

-- a program's key and its arguments
abbrev pub call_by : Result (Bor (List ℕ) × Bor (List (Bor (List ℕ)))) CommandFault → Result (List ℕ × List (List ℕ)) Fault
call_by r = read_by (λ call. (call.0.now, texts call.1.now)) r

-- ---- SET and GETEX

abbrev pub term_by : ShownTerm → Term
term_by term.Same = Same
term_by term.Endless = Endless
term_by (term.Ends unit form number) = Ends unit form number.now

abbrev pub option_by : ShownSetOption → SetOption
option_by (shown.Only condition) = Only (condition_by condition)
option_by shown.OldValue = OldValue
option_by (shown.Stays term) = Stays (term_by term)

abbrev pub set_view : ShownSet → SetOptions
set_view options = record { condition = condition_by options.condition; wants_old = options.wants_old; term = option_map term_by options.term }

abbrev pub set_by : Result ShownSet CommandFault → Result SetOptions Fault
set_by r = read_by set_view r

-- the first option, which has this number of words, before those that the words after it spell
abbrev pub goes_on : Option (ShownSetOption × ℕ) → List (List ℕ) → Option (List SetOption)
goes_on None words = None
goes_on (Some first) words = before (Some (option_by first.0)) (spelled (drop first.1 words))

-- the option goes together with those that came to this
abbrev pub follows_term : Option Term → Term → Bool
follows_term None term = true
follows_term (Some one) term = same_term one term

abbrev pub may_follow : SetOptions → SetOption → Bool
may_follow options (Only condition) = same_condition options.condition condition
may_follow options OldValue = true
may_follow options (Stays term) = follows_term options.term term

abbrev pub added : SetOptions → SetOption → Result SetOptions Fault
added options option = if may_follow options option then Ok (with_option options option) else Err Syntax

-- ---- SCAN and HELLO

abbrev pub scan_view : ShownScan → ScanOptions
scan_view options = record { pattern = text options.pattern; count = options.count; is_string = options.is_string }

abbrev pub scan_by : Result ShownScan CommandFault → Result ScanOptions Fault
scan_by r = read_by scan_view r

-- what options come to with one more
abbrev pub scan_with : ScanOptions → Result ScanOption Fault → Result ScanOptions Fault
scan_with options read = given read (λ option. Ok (with_scan_option options option))

abbrev pub hello_option_by : ShownHelloOption → HelloOption
hello_option_by (hello.Named name) = Named name.now
hello_option_by (hello.User user password) = User user.now password.now

abbrev pub naming_by : Result ShownHelloOption CommandFault → Result HelloOption Fault
naming_by r = read_by hello_option_by r

abbrev pub hello_view : ShownHello → HelloOptions
hello_view options = record { name = text options.name; password = text options.password; is_stranger = options.is_stranger }

abbrev pub hello_by : Result ShownHello CommandFault → Result HelloOptions Fault
hello_by r = read_by hello_view r

-- the first option, which has this number of words, before those that the words after it spell
abbrev pub hello_goes_on : Result (ShownHelloOption × ℕ) CommandFault → List (List ℕ) → Result (List HelloOption) Fault
hello_goes_on (Ok first) words = hello_before (Ok (hello_option_by first.0)) (each_hello_option (drop first.1 words))
hello_goes_on (Err fault) words = Err (fault_by fault)
