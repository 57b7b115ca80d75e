-- What the getters of clap's matches read, in the words of the command line.
use Rattle.std.proofs.Common.{◌≡◌, ◌∙◌, ◌<◌, ◌⊎◌, subst, ℕ, List, [], ◌∷◌, Bool, true, false, Option, Some, None, Result, Ok, Err, refl, sym, ap, nat_lt, is_some, inl, inr, true≢false}
use Rattle.std.specs.Prelude.{◌^◌, ◌&&◌, ◌↔◌, IsTrue, nat_eq, codes, unwrap_or, option_map, option_and_then, find, cond, not}
use Rattle.std.specs.Borrow.{Bor}
use Rattle.std.specs.Char.{digit_value}
use Rattle.std.specs.List.{AllByRecursion, list_all, list_any}
use Rattle.std.specs.Str.Parse.{AllDigits, IsNumeral, ParsesUnsigned, digits_value, without_leading_plus}
use Rattle.std.specs.Cmp.Lexicographic.{pointwise, bytes_decides}
use Rattle.std.proofs.lemmas.Bool.{lt-ltb, ltb-true}
use Rattle.std.proofs.lemmas.Option.{none-some, same_Some}
use Rattle.clap.specs.Words.{App, HasKind, HasMatchesOf, Kinds, ReadsOne, Row, Shape, fault_of, is_simple, is_simple_and_free, subcommand_of, subcommand_rows_of}
use Rattle.clap.specs.Facts.{explicit_source}
use Rattle.clap.specs.Faults.{check_fault, defaults_fault, entered_fault, settle_fault, walk_fault}
use Rattle.clap.specs.Kinds.{check_kinds, or_else}
use Rattle.clap.specs.Simple.{argument_words, built, entered, label_of, names_of, rows_at}
use Rattle.clap.specs.Takes.{is_given}
use Rattle.clap.specs.ValueTests.{is_numeral}
use Rattle.clap.specs.Walk.{answers_to, finished, nothing_held, settled, walk, walk_from}
use Rattle.clap.specs.declared.ArgMatches.{ArgMatches}
use Rattle.clap.specs.declared.Error.{Error}
use Rattle.clap.proofs.OnLiterals.{clap_on_literals}
use Rattle.map_commands.specs.declared.words.Command.{Command}
use Rattle.map_commands.specs.declared.words.Command.TheVariants.{Asm, Disasm, Check, Explain, Run}
use Rattle.map_commands.specs.CommandLine.{bpfmap, spelled_size, IsCheck, IsName, IsNamed, NamesOne}

-- the text that is given, or else another
pub text_or : (o : Option (Bor (List ℕ))) (other : Bor (List ℕ)) → (unwrap_or o other).now ≡ unwrap_or (option_map (λ text. text.now) o) other.now
text_or None other = refl
text_or (Some text) other = refl

-- ---- sizes

pub both : (a b : Bool) → (a && b) ≡ true → (a ≡ true) × (b ≡ true)
both true b e = (refl, e)
both false b e = absurd (true≢false (sym e))

pub cases_is : (b : Bool) → (b ≡ true) ⊎ (b ≡ false)
cases_is true = inl refl
cases_is false = inr refl

are_digits : (ds : List ℕ) → AllDigits 10 ds → list_all (λ d. nat_lt (digit_value d) 10) ds ≡ true
are_digits [] all = refl
are_digits (d ∷ ds) all = rw (lt-ltb (digit_value d) 10 all.0) (are_digits ds all.1)

pub digits_are : (ds : List ℕ) → list_all (λ d. nat_lt (digit_value d) 10) ds ≡ true → AllDigits 10 ds
digits_are [] e = tt
digits_are (d ∷ ds) e = let parts = both _ _ e in (ltb-true _ _ parts.0, digits_are ds parts.1)

-- the size in a text is what std reads of it
pub size_in-parsed : (text : List ℕ) → IsNumeral 10 (without_leading_plus text) → digits_value 10 (without_leading_plus text) < 2 ^ 16
    → spelled_size text ≡ Some (digits_value 10 (without_leading_plus text))
size_in-parsed text numeral small = rw (lt-ltb _ _ numeral.0, are_digits _ numeral.1, lt-ltb _ _ small) refl

size_in-unparsed : (text : List ℕ) → (IsNumeral 10 (without_leading_plus text) × (digits_value 10 (without_leading_plus text) < 2 ^ 16) → ⊥) → spelled_size text ≡ None
size_in-unparsed text bad =
    let digits = without_leading_plus text in
    elim (cases_is (is_numeral digits && nat_lt (digits_value 10 digits) (2 ^ 16))) [
      | inl e ↦
          let parts = both _ _ e in
          let numeral = both _ _ parts.0 in
          absurd (bad ((ltb-true _ _ numeral.0, digits_are _ numeral.1), ltb-true _ _ parts.1))
      | inr e ↦ rw e refl
    ]

module _ {E : Type 0} (gives : List ℕ → Result ℕ E → Type 0) (parses : (text : List ℕ) (r : Result ℕ E) → gives text r → ParsesUnsigned 16 10 text r) where
  -- a getter that reads texts so answers the number
  pub number_read : (o : Option (List ℕ)) (r : Option ℕ) → (o ≡ None → r ≡ None) → ((text : List ℕ) → o ≡ Some text → ReadsOne gives text r)
      → r ≡ option_and_then spelled_size o
  number_read None r none value = none refl
  number_read (Some text) r none value = go r (value text refl)
    where
      go : (r : Option ℕ) → ReadsOne gives text r → r ≡ spelled_size text
      go (Some size) h =
          let ((numeral, small), is) = parses text (Ok size) h in
          sym (size_in-parsed text numeral small ∙ ap Some (sym is))
      go None (e, h) = sym (size_in-unparsed text (parses text (Err e) h))

  -- and the size, which has a default
  pub size_read : (o : Option (List ℕ)) (r : Option ℕ) (default : ℕ) → (o ≡ None → r ≡ None) → ((text : List ℕ) → o ≡ Some text → ReadsOne gives text r)
      → unwrap_or r default ≡ unwrap_or (option_and_then spelled_size o) default
  size_read o r default none value = ap (λ x. unwrap_or x default) (number_read o r none value)

-- ---- names

-- if no subcommand is there, none is named
pub none_is_named : {X : Type 0} (o : Option X) (f : X → List ℕ × List Row) → false ≡ is_some o → NamesOne (option_map f o) → ⊥
none_is_named None f e named = named
none_is_named (Some x) f e named = true≢false (sym e)

-- the name of the subcommand that is there is one of the five
pub name_is_one : {X : Type 0} (o : Option X) (f : X → List ℕ × List Row) (name : List ℕ) → Some name ≡ option_map (λ x. (f x).0) o → NamesOne (option_map f o) → IsName name
name_is_one None f name e named = absurd named
name_is_one (Some x) f name e named = subst IsName (ap (λ o. unwrap_or o name) (sym e)) named

-- a text is given if it is the wanted one
pub is_given_by : (text wanted : List ℕ) (o : Option (List ℕ)) (b : Bool) → Some text ≡ o → b ≡ pointwise nat_eq text wanted → IsTrue b ↔ (o ≡ Some wanted)
is_given_by text wanted o b is e =
    (λ t. sym is ∙ ap Some ((bytes_decides text wanted).0 (sym e ∙ t)), λ g. e ∙ (bytes_decides text wanted).1 (same_Some text wanted (is ∙ g)))

pub is_not_given : (wanted : List ℕ) (o : Option (List ℕ)) → None ≡ o → IsTrue false ↔ (o ≡ Some wanted)
is_not_given wanted o is = (λ t. absurd (true≢false (sym t)), λ g. absurd (none-some wanted (is ∙ g)))

-- what `check` is asked is named so
pub check_is_named : (found : Option (List ℕ × List Row)) (rows : List Row) (command : Command) → found ≡ Some (codes "check", rows) → IsCheck rows command → IsNamed found command
check_is_named found rows Asm is asked = absurd asked
check_is_named found rows Disasm is asked = absurd asked
check_is_named found rows (Check sizes) is asked = (rows, is, asked)
check_is_named found rows (Explain sizes) is asked = (rows, is, asked)
check_is_named found rows (Run sizes texts) is asked = absurd asked

-- ---- if clap finds no fault

-- of five steps the last has none
last_of_five : (a b c d e : Kinds) → or_else a (or_else b (or_else c (or_else d e))) ≡ [] → e ≡ []
last_of_five [] [] [] [] e none = none
last_of_five [] [] [] (k ∷ ks) e none = absurd cc
last_of_five [] [] (k ∷ ks) d e none = absurd cc
last_of_five [] (k ∷ ks) c d e none = absurd cc
last_of_five (k ∷ ks) b c d e none = absurd cc

-- a subcommand that is wanted is there
wanted_is_there : (help has argument : Bool) → check_kinds help (not has && true) argument ≡ [] → has ≡ true
wanted_is_there true has argument e = absurd cc
wanted_is_there false true argument e = refl
wanted_is_there false false argument e = absurd cc

-- the commands that are there once clap has built them
abbrev subs : List Shape
subs = (built bpfmap).subs

are_named : AllByRecursion (λ s. IsName s.name) subs
are_named = (inl refl, (inr (inl refl), (inr (inr (inl refl)), (inr (inr (inr (inl refl))), (inr (inr (inr (inr refl))), tt)))))

-- the first of such commands that passes a test is one of the five
found_is_one : (test : Shape → Bool) (words : List (List ℕ)) (shapes : List Shape) → AllByRecursion (λ s. IsName s.name) shapes
    → is_some (option_map (λ s. rows_at s words) (find test shapes)) ≡ true → NamesOne (option_map (λ s. rows_at s words) (find test shapes))
found_is_one test words [] named there = absurd (true≢false (sym there))
found_is_one test words (shape ∷ shapes) named there = go (test shape) (found_is_one test words shapes named.1) there
  where
    go : (b : Bool) → (is_some (option_map (λ s. rows_at s words) (find test shapes)) ≡ true → NamesOne (option_map (λ s. rows_at s words) (find test shapes)))
        → is_some (option_map (λ s. rows_at s words) (cond b (Some shape) (find test shapes))) ≡ true
        → NamesOne (option_map (λ s. rows_at s words) (cond b (Some shape) (find test shapes)))
    go true others there = named.0
    go false others there = others there

entered_is_one : (stop : Option (List ℕ × List (List ℕ))) → is_some (entered (built bpfmap) stop) ≡ true → NamesOne (entered (built bpfmap) stop)
entered_is_one None there = absurd (true≢false (sym there))
entered_is_one (Some (name, rest)) there = found_is_one (λ s. answers_to name (label_of s)) rest subs are_named there

-- one of the five commands is named
pub faultless_names_one : (words : List (List ℕ)) → fault_of bpfmap words ≡ [] → NamesOne (subcommand_of bpfmap words)
faultless_names_one words sound =
    let top = (built bpfmap).top in
    let names = names_of (built bpfmap) in
    let given = argument_words bpfmap words in
    let end = walk top.rules names nothing_held given in
    let has = is_some (entered (built bpfmap) end.stopped) in
    let rows = finished top.rules end.held in
    let help = not has && (top.arg_required_else_help && not (list_any (λ r. explicit_source r.source) rows)) in
    let argument = not (top.subcommand_negates_reqs && has) && list_any (λ a. a.required && not (is_given a.id rows)) top.rules in
    let last = last_of_five (walk_fault top names (walk_from nothing_held) given) (entered_fault (built bpfmap) end.stopped)
    (settle_fault top.rules top.args_override_self end.held) (defaults_fault (settled top.rules end.held).rows top.rules) (check_fault top rows has) sound in
    entered_is_one end.stopped (wanted_is_there help has argument last)

-- ---- a parse of `bpfmap`

is_free : is_simple_and_free bpfmap ≡ true
unfolding clap_on_literals
is_free = refl

is_plain : is_simple bpfmap ≡ true
unfolding clap_on_literals
is_plain = refl

module _ (app : App) (is : app ≡ bpfmap) (words : List (List ℕ)) where
  -- the kinds of its error
  pub parse_fails : (e : Error) → (is_simple_and_free app ≡ true → HasKind (fault_of app words) e) → HasKind (fault_of bpfmap words) e
  parse_fails e kinds = subst (λ (a : App). HasKind (fault_of a words) e) is (kinds (ap is_simple_and_free is ∙ is_free))

  -- if it succeeds there is no fault
  pub parse_succeeds : (is_simple_and_free app ≡ true → fault_of app words ≡ []) → fault_of bpfmap words ≡ []
  parse_succeeds kinds = ap (λ (a : App). fault_of a words) (sym is) ∙ kinds (ap is_simple_and_free is ∙ is_free)

  -- and the subcommand is that of the words
  pub parse_names : (m : ArgMatches) → HasMatchesOf app words m → subcommand_rows_of m ≡ subcommand_of bpfmap words
  parse_names m matches = (matches (ap is_simple is ∙ is_plain)).1 ∙ ap (λ (a : App). subcommand_of a words) is
