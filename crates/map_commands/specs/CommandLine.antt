-- The command line of `bpfmap`: its commands, their options and defaults. How words are read is clap's (clap_builder 4.6).
use Rattle.std.specs.Prelude.{◌≡◌, ℕ, ◌^◌, ◌&&◌, ◌++◌, ◌⊎◌, true, false, List, [], ◌∷◌, Option, Some, None, codes, pos, nat_lt, IsSomeAnd, unwrap_or, option_map, option_and_then, if◌then◌else◌}
use Rattle.std.specs.Str.Parse.{digits_value, without_leading_plus}
use Rattle.bpf_model.specs.declared.input.Sizes.{Sizes}
use Rattle.clap.specs.Words.{App, Row, Rule, Shape, first_of, fault_of, new_rule, one_of, subcommand_of, with_rule}
use Rattle.clap.specs.Simple.{new_shape}
use Rattle.clap.specs.ValueTests.{is_numeral}
use Rattle.clap.specs.declared.builder.ValueParser.TheVariants.{Signed}
use Rattle.clap.specs.declared.ArgAction.TheVariants.{SetTrue}
use Rattle.map_commands.specs.declared.words.RunTexts.{RunTexts}
use Rattle.map_commands.specs.declared.words.Command.{Command}
use Rattle.map_commands.specs.declared.words.Command.TheVariants.{Asm, Disasm, Check, Explain, Run}
use Rattle.map_commands.specs.declared.words.Task.{Task}
use Rattle.map_commands.specs.declared.words.Task.TheVariants.{Report, Exec}

-- an option that takes a number from 0 to 65535
abbrev pub size_option : List ℕ → Rule
size_option name = record (new_rule name) { long = Some name; value_names = 1; parser = Some (Signed (pos 0) (pos 65535)) }

-- an option that takes a text
abbrev pub text_option : List ℕ → Rule
text_option name = record (new_rule name) { long = Some name; value_names = 1 }

-- an option without a value
abbrev pub flag_option : List ℕ → Rule
flag_option name = record (new_rule name) { long = Some name; action = Some SetTrue }

abbrev pub size_options : List Rule
size_options = size_option (codes "key") ∷ size_option (codes "old") ∷ size_option (codes "arg") ∷ size_option (codes "result") ∷ []

abbrev pub text_options : List Rule
text_options = text_option (codes "with-key") ∷ text_option (codes "with-old") ∷ text_option (codes "with-arg") ∷ []

abbrev pub explain_options : List Rule
explain_options = flag_option (codes "explain") ∷ []

abbrev pub stripe_options : List Rule
stripe_options = size_option (codes "stripes") ∷ []

abbrev pub command_with : List ℕ → List Rule → Shape
command_with name options = record (new_shape name) { rules = options }

-- one of five commands is wanted
abbrev pub bpfmap : App
bpfmap = record {
  top = record (new_shape (codes "bpfmap")) {
    is_leaf = false;
    has_version = true;
    disable_help_subcommand = true;
    arg_required_else_help = true;
    subcommand_required = true;
  };
  subs = command_with (codes "asm") [] ∷ command_with (codes "disasm") [] ∷ command_with (codes "check") (size_options ++ explain_options)
      ∷ command_with (codes "run") (size_options ++ text_options) ∷ command_with (codes "exec") stripe_options ∷ [];
}

-- the size that a text spells; clap refuses the other texts
abbrev pub spelled_size : List ℕ → Option ℕ
spelled_size text =
    let digits = without_leading_plus text in
    if is_numeral digits && nat_lt (digits_value 10 digits) (2 ^ 16) then Some (digits_value 10 digits) else None

-- the size that an option gives, or its default
abbrev pub given_size : List Row → List ℕ → ℕ → ℕ
given_size rows name default = unwrap_or (option_and_then spelled_size (one_of name rows)) default

abbrev pub sizes_of : List Row → Sizes
sizes_of rows = record {
  key = given_size rows (codes "key") 64;
  old = given_size rows (codes "old") 256;
  arg = given_size rows (codes "arg") 256;
  result = given_size rows (codes "result") 256;
}

-- a key that is not given is empty; an old value or an argument that is not given is absent
pub record GivesTexts (rows : List Row) (texts : RunTexts) : Type 0 where
  pub key : texts.key.now ≡ unwrap_or (first_of (codes "with-key") rows) []
  pub old : option_map (λ text. text.now) texts.old ≡ first_of (codes "with-old") rows
  pub arg : option_map (λ text. text.now) texts.arg ≡ first_of (codes "with-arg") rows

-- an option without a value is given
abbrev pub IsGiven : List Row → List ℕ → Type 0
IsGiven rows name = first_of name rows ≡ Some (codes "true")

-- what `check` is asked with these options
abbrev pub IsCheck : List Row → Command → Type 0
IsCheck rows Asm = ⊥
IsCheck rows Disasm = ⊥
IsCheck rows (Check sizes) = (IsGiven rows (codes "explain") → ⊥) × (sizes ≡ sizes_of rows)
IsCheck rows (Explain sizes) = IsGiven rows (codes "explain") × (sizes ≡ sizes_of rows)
IsCheck rows (Run sizes texts) = ⊥

-- the command of this name, with these options
abbrev pub IsNamed : Option (List ℕ × List Row) → Command → Type 0
IsNamed found Asm = (rows : List Row) × (found ≡ Some (codes "asm", rows))
IsNamed found Disasm = (rows : List Row) × (found ≡ Some (codes "disasm", rows))
IsNamed found (Check sizes) = (rows : List Row) × (found ≡ Some (codes "check", rows)) × IsCheck rows (Check sizes)
IsNamed found (Explain sizes) = (rows : List Row) × (found ≡ Some (codes "check", rows)) × IsCheck rows (Explain sizes)
IsNamed found (Run sizes texts) = (rows : List Row) × (found ≡ Some (codes "run", rows)) × (sizes ≡ sizes_of rows) × GivesTexts rows texts

-- the command reports on all of the input; or a session is asked for, over a table with this number of stripes
abbrev pub IsAsked : Option (List ℕ × List Row) → Task → Type 0
IsAsked found (Report command) = IsNamed found command
IsAsked found (Exec stripes) = (rows : List Row) × (found ≡ Some (codes "exec", rows)) × (stripes ≡ given_size rows (codes "stripes") 16)

-- what the words ask for, of which the first is the program's name: clap finds no fault in them, and they name this
abbrev pub Asks : List (List ℕ) → Task → Type 0
Asks words task = (fault_of bpfmap words ≡ []) × IsAsked (subcommand_of bpfmap words) task

-- one of the five names
abbrev pub IsName : List ℕ → Type 0
IsName name =
    (name ≡ codes "asm") ⊎ ((name ≡ codes "disasm") ⊎ ((name ≡ codes "check") ⊎ ((name ≡ codes "run") ⊎ (name ≡ codes "exec"))))

abbrev pub NamesOne : Option (List ℕ × List Row) → Type 0
NamesOne found = IsSomeAnd found (λ f. IsName f.0)

-- options added in turn
abbrev pub with_options : App → List Rule → App
with_options app [] = app
with_options app (option ∷ options) = with_options (with_rule app option) options
