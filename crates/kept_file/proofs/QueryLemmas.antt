-- The texts with which a file is read are queries, whatever tables it has: they show rows and change nothing.
use Rattle.std.proofs.Common.{◌≡◌, ◌∙◌, ℕ, ◌+◌, Bool, true, false, List, [], ◌∷◌, if◌then◌else◌, Option, None, Result, Ok, Err, refl, sym, ap, subst}
use Rattle.sqlite_ast.specs.declared.Statement.{Statement}
use Rattle.sqlite_ast.specs.declared.Statement.TheVariants as written
use Rattle.sqlite_syntax.specs.declared.statement.Parsed.{Parsed}
use Rattle.sqlite_schema.specs.declared.schema.Schema.{Schema}
use Rattle.sqlite_schema.specs.declared.command.Command.{Command}
use Rattle.sqlite_schema.specs.declared.command.Returning.{Returning}
use Rattle.sqlite_resolve.specs.declared.compiled.Compiled.{Compiled}
use Rattle.sqlite_resolve.specs.declared.error.CompileError.{CompileError}
use Rattle.sqlite_resolve.specs.declared.error.CompileError.TheVariants.{NoSuchTable}
use Rattle.sqlite_resolve.specs.Compile.{compiled, command, first, meaning, planned, returning, timed, small, with_command}
use Rattle.sqlite_resolve.specs.Lowering.{and_then}
use Rattle.sqlite.specs.Listing.{understood, reads_listing, if_select, is_select, listing_schema}
use Rattle.sqlite_tied.specs.Compute.{everything}
use Rattle.kept_file.specs.declared.batches.TheConstants.{BATCHES}
use Rattle.kept_file.specs.declared.rows.TheConstants.{PROGRAMS, SCRIPTS}
use Rattle.kept_file.specs.declared.query.TheConstants.{SETTING}
use Rattle.kept_file.specs.declared.file.TheConstants.{COUNT_OBJECTS}
use Rattle.kept_file.specs.declared.schema.TheConstants.{NUMBERS}
use Rattle.kept_file.specs.declared.tables.TheConstants.{OBJECTS}

abbrev Name : Type 0
Name = List ℕ

abbrev is_query : Statement → Bool
is_query (written.Select s) = true
is_query _ = false

abbrev is_nil : {A : Type 0} → List A → Bool
is_nil [] = true
is_nil (x ∷ xs) = false

-- the text is one query, and asks for no time
abbrev pub is_plain : Result Parsed CompileError → Bool
is_plain (Ok p) = if is_query p.statement then is_nil p.formats else false
is_plain (Err e) = false

pub batches_query : is_plain (first BATCHES.now) ≡ true
unfolding everything
batches_query = refl

pub programs_query : is_plain (first PROGRAMS.now) ≡ true
unfolding everything
programs_query = refl

pub scripts_query : is_plain (first SCRIPTS.now) ≡ true
unfolding everything
scripts_query = refl

pub setting_query : is_plain (first SETTING.now) ≡ true
unfolding everything
setting_query = refl

by_statement : (schema : Schema) (formats : List Name) (base : ℕ) (statement : Statement) → is_query statement ≡ true
    → (returning schema base statement ≡ Ok None) × (timed schema formats statement ≡ formats)
unfolding returning timed
by_statement schema formats base (written.Select s) is = (refl, refl)
by_statement schema formats base _ is = absurd cc

nil : {A : Type 0} (xs : List A) → is_nil xs ≡ true → xs ≡ []
nil [] is = refl
nil (x ∷ xs) is = absurd cc

both : (a b : Bool) → (if a then b else false) ≡ true → (a ≡ true) × (b ≡ true)
both true b is = (refl, is)
both false b is = absurd cc

-- what came of two steps came of each
through : {A B : Type 0} (r : Result A CompileError) (f : A → Result B CompileError) (y : B) → and_then r f ≡ Ok y → (x : A) × (r ≡ Ok x) × (f x ≡ Ok y)
through (Ok x) f y e = (x, refl, e)
through (Err s) f y e = absurd cc

same_value : {B : Type 0} {a b : B} → ◌≡◌ {A = Result B CompileError} (Ok a) (Ok b) → a ≡ b
same_value e = cc

abbrev Planned : Type 0
Planned = List Name × (Command × Option Returning)

planned_plain : (schema : Schema) (p : Parsed) (plan : Planned) → is_query p.statement ≡ true → p.formats ≡ [] → planned schema p ≡ Ok plan
    → (plan.1.1 ≡ None) × (plan.0 ≡ [])
unfolding planned meaning
planned_plain schema p plan query none is =
    let formats : List Name = timed schema p.formats p.statement in
    let base : ℕ = small p.names + small formats in
    let facts = by_statement schema p.formats base p.statement query in
    let one = through (meaning schema p base) (λ found. Ok (formats, found)) plan is in
    let two = through (returning schema base p.statement) (λ shown. and_then (command schema p.formats base p.statement) (λ c. Ok (c, shown))) one.0 one.1 in
    let three = through (command schema p.formats base p.statement) (λ c. Ok (c, two.0)) one.0 two.2 in
    let whole : (formats, one.0) ≡ plan = same_value one.2 in
    let part : (three.0, two.0) ≡ one.0 = same_value three.2 in
    let shown : two.0 ≡ None = same_value (sym two.1 ∙ facts.0) in (
      sym (ap (λ (x : Planned). x.1.1) whole) ∙ (sym (ap (λ (x : Command × Option Returning). x.1) part) ∙ shown),
      sym (ap (λ (x : Planned). x.0) whole) ∙ (facts.1 ∙ none),
    )

-- it shows no rows of a write, and asks for no time
abbrev pub ShowsOnly : Compiled → Type 0
ShowsOnly c = (c.returning ≡ None) × (c.formats ≡ [])

compiled_plain : (schema : Schema) (text : List ℕ) (c : Compiled) → is_plain (first text) ≡ true → compiled schema text ≡ Ok c → ShowsOnly c
unfolding compiled
compiled_plain schema text c plain is =
    let one = through (first text) (λ p. and_then (planned schema p) (λ plan. Ok (with_command p plan))) c is in
    let two = through (planned schema one.0) (λ plan. Ok (with_command one.0 plan)) c one.2 in
    let parts = both (is_query one.0.statement) (is_nil one.0.formats) (subst (λ (r : Result Parsed CompileError). is_plain r ≡ true) one.1 plain) in
    let facts = planned_plain schema one.0 two.0 parts.0 (nil one.0.formats parts.1) two.1 in
    subst ShowsOnly (same_value two.2) facts

of_select : (r : Result Compiled CompileError) (c : Compiled) → if_select r ≡ Ok c → r ≡ Ok c
of_select (Ok d) c is = elim (is_select d.command) as (λ b. ◌≡◌ {A = Result Compiled CompileError} (if b then Ok d else Err NoSuchTable) (Ok c) → ◌≡◌ {A = Result Compiled CompileError} (Ok d) (Ok c)) [ true ↦ λ e. e | false ↦ λ e. absurd cc ] is
of_select (Err e) c is = absurd cc

-- whatever tables there are
pub query_plain : (schema : Schema) (text : List ℕ) (c : Compiled) → is_plain (first text) ≡ true → understood schema text ≡ Ok c → ShowsOnly c
unfolding understood
query_plain schema text c plain =
    elim (reads_listing schema text) as (λ b. (if b then if_select (compiled listing_schema text) else compiled schema text) ≡ Ok c → ShowsOnly c) [
      | true ↦ λ e. compiled_plain listing_schema text c plain (of_select (compiled listing_schema text) c e)
      | false ↦ λ e. compiled_plain schema text c plain e
    ]

pub objects_query : is_plain (first OBJECTS.now) ≡ true
unfolding everything
objects_query = refl

pub count_query : is_plain (first COUNT_OBJECTS.now) ≡ true
unfolding everything
count_query = refl

pub numbers_query : is_plain (first NUMBERS.now) ≡ true
unfolding everything
numbers_query = refl
