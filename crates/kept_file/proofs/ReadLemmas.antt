-- What queries show of a file that they leave as it is.
use Rattle.std.proofs.Common.{true, false, ◌≡◌, ◌∙◌, ℕ, ◌<◌, ◌≤◌, pos, IsSome, List, [], ◌∷◌, ◌++◌, map, Option, Some, None, Result, Ok, Err, refl, sym, ap, subst, inl, inr, arith, Less}
use Rattle.std.specs.List.{AllByRecursion}
use Rattle.std.proofs.lemmas.Bool.Decides.{nat_tests}
use Rattle.sqlite.specs.Given.{Advances, HasGiven, HasBegun, Returns}
use Rattle.sqlite.specs.Held.{Held, state}
use Rattle.sqlite.specs.Effect.{Database}
use Rattle.sqlite.specs.Listing.{understood, reads_listing, IsSourceOf}
use Rattle.sqlite.specs.Order.{Row, value_cmp}
use Rattle.sqlite.specs.Clock.{timed}
use Rattle.sqlite.specs.Store as store
use Rattle.sqlite.specs.Tree.{Trees, IsTable, rowid}
use Rattle.sqlite.specs.State.{State, HasCleanDisk, IsStatement, IsUnchanged, FailsToQuery, IsNotRun, FailsToShow, QueriesRow, store_error, Shown, ShowsRows, Survives, CommitsShowing}
use Rattle.sqlite.specs.declared.error.Error.TheVariants.{QueryReturnedNoRows}
use Rattle.sqlite.proofs.Callers.{unchanged_then}
use Rattle.sqlite.proofs.StateLemmas.{survives_then, survives_weaker}
use Rattle.sqlite_trees.specs.declared.error.StoreError.{StoreError}
use Rattle.sqlite_trees.specs.declared.error.StoreError.TheVariants.{OutOfMemory, Io, Corrupt, Full, Broken, Unstorable}
use Rattle.sqlite_value.proofs.OrderLemmas.{value_cmp-Int}
use Rattle.sqlite_rules.specs.Lists.{Has}
use Rattle.sqlite_rules.proofs.ListLemmas.{all_has, all_from, has_either}
use Rattle.sqlite_resolve.specs.declared.error.CompileError.{CompileError}
use Rattle.sqlite_resolve.specs.declared.compiled.Compiled.{Compiled}
use Rattle.kept_file.specs.Reading.{HandedOut, HandsOut, HasPrograms, HasScripts, OnlyReads, RisesTo, ShowsBatches, row_of_program}
use Rattle.kept_file.specs.Rows.{batch_row, number}
use Rattle.kept_file.specs.declared.rows.KeptProgram.{KeptProgram}
use Rattle.kept_file.specs.declared.batches.TheConstants.{BATCHES}
use Rattle.kept_file.specs.declared.rows.TheConstants.{PROGRAMS, SCRIPTS}
use Rattle.kept_file.specs.declared.query.TheConstants.{SETTING}
use Rattle.kept_file.specs.declared.file.TheConstants.{COUNT_OBJECTS}
use Rattle.kept_file.specs.declared.schema.TheConstants.{NUMBERS}
use Rattle.kept_file.specs.declared.tables.TheConstants.{OBJECTS}
use Rattle.kept_file.proofs.QueryLemmas.{query_plain, batches_query, programs_query, scripts_query, setting_query, objects_query, count_query, numbers_query}

pub batches_read : OnlyReads BATCHES.now
batches_read schema c is = query_plain schema BATCHES.now c batches_query is

pub programs_read : OnlyReads PROGRAMS.now
programs_read schema c is = query_plain schema PROGRAMS.now c programs_query is

pub scripts_read : OnlyReads SCRIPTS.now
scripts_read schema c is = query_plain schema SCRIPTS.now c scripts_query is

pub setting_read : OnlyReads SETTING.now
setting_read schema c is = query_plain schema SETTING.now c setting_query is

-- the file is open and as it is
itself : (s t : State) → IsUnchanged s t → IsUnchanged s s
itself s t same = (
  record { was_open = same.0.was_open; is_open = same.0.was_open; now_is = refl; committed_is = refl; mode = refl },
  record { changes = refl; last_rowid = refl },
  refl,
)

-- what is shown of a file is shown of it as it was before, if nothing has changed
pub shown_of : (text : List ℕ) (params : Row) (a b c : State) (rows : List Row) → OnlyReads text → IsUnchanged a b → Shown text params b c rows
    → Shown text params a a rows × IsUnchanged a c
unfolding Shown
shown_of text params a b c rows reads same shown =
    let full = timed params shown.0.formats shown.1.now in
    let none = (reads b.now.schema shown.0 shown.1.is).0 in
    let it = subst (ShowsRows b c text shown.0 full rows) none shown.2 in
    let now_is : b.now ≡ a.now = same.0.now_is in
    let statement : IsStatement a text params shown.0 = record {
      is = subst (λ (d : Database). understood d.schema text ≡ Ok shown.0) now_is shown.1.is;
      whole = shown.1.whole;
      given = shown.1.given;
      now = shown.1.now;
    } in
    let source = subst (λ (d : Database). IsSourceOf (reads_listing d.schema text) d it.0) now_is it.1 in
    ((shown.0, statement, subst (ShowsRows a a text shown.0 full rows) (sym none) (it.0, source, it.2, itself a b same)), unchanged_then a b c same it.3)

not_some : {A : Type 0} (x : Option A) → x ≡ None → IsSome x → ⊥
not_some None e is = absurd cc
not_some (Some x) e is = absurd cc

-- a query of a file commits nothing
pub reads_survive : (text : List ℕ) (params : Row) (old new : State) → OnlyReads text → Survives old new (CommitsShowing text params old) → Survives old new (λ _. ⊥)
unfolding CommitsShowing
reads_survive text params old new reads =
    survives_weaker old new _ _ (λ clean db commits. not_some commits.0.returning (reads old.now.schema commits.0 commits.1.is).0 commits.2)

pub kept_then : (a b c : State) → Survives a b (λ _. ⊥) → Survives b c (λ _. ⊥) → Survives a c (λ _. ⊥)
kept_then a b c one two = survives_then a b c _ _ (λ _. ⊥) (λ _ db none. none) (λ _ db none. none) one two

pub survives_same : (s : State) → Survives s s (λ _. ⊥)
survives_same s = record {
  clean = omega arith;
  shield = λ h. h;
  counts = omega arith;
  limit = refl;
  closes = λ clean up. inl up;
  crash = λ clean db may. inl may;
}

-- clean now, so clean before
pub clean_before : (old new : State) (P : Trees → Type 0) → Survives old new P → HasCleanDisk new → HasCleanDisk old
clean_before old new P survives clean = omega (arith, survives.clean)

-- what shows rows of a file leaves it as it is
pub shown_same : (text : List ℕ) (params : Row) (old new : State) (rows : List Row) → OnlyReads text → Shown text params old new rows → IsUnchanged old new
unfolding Shown
shown_same text params old new rows reads shown =
    let it = subst (ShowsRows old new text shown.0 (timed params shown.0.formats shown.1.now) rows) (reads old.now.schema shown.0 shown.1.is).0 shown.2 in
    it.3

-- .. and shows them of it as it is
pub shown_here : (text : List ℕ) (params : Row) (old new : State) (rows : List Row) → OnlyReads text → Shown text params old new rows → Shown text params old old rows
shown_here text params old new rows reads shown =
    (shown_of text params old old new rows reads (itself old new (shown_same text params old new rows reads shown)) shown).0

pub row_same : (text : List ℕ) (params : Row) (old new : State) (row : Row) → OnlyReads text → QueriesRow text params old new (Ok row) → IsUnchanged old new
unfolding QueriesRow
row_same text params old new row reads (inl h) = h.1
row_same text params old new row reads (inr h) = shown_same text params old new h.0 reads h.1

no_store_error : (cause : StoreError) → store_error cause ≡ QueryReturnedNoRows → ⊥
no_store_error OutOfMemory e = absurd cc
no_store_error Io e = absurd cc
no_store_error Corrupt e = absurd cc
no_store_error Full e = absurd cc
no_store_error Broken e = absurd cc
no_store_error Unstorable e = absurd cc

not_run_same : (text : List ℕ) (params : Row) (old new : State) → IsNotRun old new text params QueryReturnedNoRows → IsUnchanged old new
unfolding IsNotRun
not_run_same text params old new (inl h) = h.1
not_run_same text params old new (inr h) = absurd (no_store_error h.0 (sym h.1))

fails_same : (text : List ℕ) (params : Row) (old new : State) → OnlyReads text → FailsToQuery text params old new QueryReturnedNoRows → IsUnchanged old new
unfolding FailsToQuery
fails_same text params old new reads (inl h) = not_run_same text params old new h
fails_same text params old new reads (inr h) =
    let it = subst (FailsToShow old new text h.0 (timed params h.0.formats h.1.now) QueryReturnedNoRows) (reads old.now.schema h.0 h.1.is).0 h.2 in
    it.3

-- .. also if there is none
pub no_row_same : (text : List ℕ) (params : Row) (old new : State) → OnlyReads text → QueriesRow text params old new (Err QueryReturnedNoRows) → IsUnchanged old new
unfolding QueriesRow
no_row_same text params old new reads (inl h) = fails_same text params old new reads h
no_row_same text params old new reads (inr h) = shown_same text params old new [] reads h.1

no_returning : (r : Result Compiled CompileError) → ((c : Compiled) → r ≡ Ok c → (c.returning ≡ None) × (c.formats ≡ [])) → Returns r → ⊥
no_returning (Ok c) reads returns = not_some c.returning (reads c refl).0 returns
no_returning (Err e) reads returns = returns

module _ {S : Type 0} (g : store.Ghosts S) where
  begun_read : (text : List ℕ) (params : Row) (old new : Held S) → OnlyReads text → HasBegun g text params old new
      → HasGiven g text params new [] × IsUnchanged (state g old) (state g new)
  begun_read text params old new reads (inl h) = h
  begun_read text params old new reads (inr h) = absurd (no_returning (understood old.schema text) (reads old.schema) h.0)

  -- a reading begins
  pub handed_none : (old new : Held S) → HasBegun g BATCHES.now [] old new → HandedOut g old new []
  handed_none old new begun = begun_read BATCHES.now [] old new batches_read begun

  -- it goes on
  pub hands_row : (old new : Held S) (row is : Row) → IsUnchanged (state g old) (state g new) → row ≡ is → Advances g old new (Some row) → HandsOut g old new true is
  hands_row old new row is same e advances start rows handed = (
    subst (HasGiven g BATCHES.now [] new) (ap (λ (r : Row). rows ++ r ∷ []) e) (advances BATCHES.now [] rows handed.0),
    unchanged_then (state g start) (state g old) (state g new) handed.1 same,
  )

  -- it ends
  pub hands_none : (old new : Held S) (row : Row) → Advances g old new None → HandsOut g old new false row
  hands_none old new row advances start rows handed =
      shown_of BATCHES.now [] (state g start) (state g old) (state g new) rows batches_read handed.1 (advances BATCHES.now [] rows handed.0)

-- what a file has, it had before, if nothing has changed
module _ (start file : State) (same : IsUnchanged start file) where
  pub batches_before : (rows : List Row) → ShowsBatches file rows → ShowsBatches start rows
  batches_before rows has = (shown_of BATCHES.now [] start file file rows batches_read same has).0

  pub programs_before : (programs : List KeptProgram) → HasPrograms file programs → HasPrograms start programs
  programs_before programs has = (shown_of PROGRAMS.now [] start file file (map row_of_program programs) programs_read same has).0

  pub scripts_before : (texts : List (List ℕ)) → HasScripts file texts → HasScripts start texts
  scripts_before texts has = record { rows = has.rows; shown = (shown_of SCRIPTS.now [] start file file has.rows scripts_read same has.shown).0; texts_are = has.texts_are }

pub objects_read : OnlyReads OBJECTS.now
objects_read schema c is = query_plain schema OBJECTS.now c objects_query is

pub count_read : OnlyReads COUNT_OBJECTS.now
count_read schema c is = query_plain schema COUNT_OBJECTS.now c count_query is

pub numbers_read : OnlyReads NUMBERS.now
numbers_read schema c is = query_plain schema NUMBERS.now c numbers_query is

-- ---- the numbers rise

pub rises_none : RisesTo [] 0
rises_none = record { rising = tt; below = tt }

less_numbers : (a b : ℕ) → a < b → value_cmp (number a) (number b) ≡ Less
less_numbers a b low = value_cmp-Int (pos a) (pos b) ∙ grind (arith, nat_tests)

abbrev IsBelow : ℕ → Row → Type 0
IsBelow last row = (at : ℕ) × (rowid row ≡ number at) × (at ≤ last)

-- a row is put after those that are below it
rising_more : (rows : List Row) (x : Row) → IsTable rows → AllByRecursion (λ r. value_cmp (rowid r) (rowid x) ≡ Less) rows → IsTable (rows ++ x ∷ [])
rising_more [] x up low = (tt, tt)
rising_more (r ∷ rows) x up low = (
  all_from _ (rows ++ x ∷ []) (λ y h. elim (has_either rows (x ∷ []) y h) [
    | inl there ↦ all_has _ rows y up.0 there
    | inr (inl same) ↦ rw same low.0
    | inr (inr none) ↦ absurd none
  ]),
  rising_more rows x up.1 low.1,
)

pub rises_more : (rows : List Row) (last at stripe : ℕ) (bytes : List ℕ) → RisesTo rows last → last < at → RisesTo (rows ++ batch_row at stripe bytes ∷ []) at
rises_more rows last at stripe bytes rises above =
    let new = batch_row at stripe bytes in
    let under = λ (r : Row) (h : Has rows r). all_has (IsBelow last) rows r rises.below h in
    record {
      rising = rising_more rows new rises.rising (all_from _ rows (λ r h. let b = under r h in subst (λ v. value_cmp v (number at) ≡ Less) (sym b.1) (less_numbers b.0 at (omega (arith, b.2, above)))));
      below = all_from (IsBelow at) (rows ++ new ∷ []) (λ r h. elim (has_either rows (new ∷ []) r h) [
        | inl there ↦ let b = under r there in (b.0, b.1, omega (arith, b.2, above))
        | inr (inl same) ↦ (at, ap rowid same, omega arith)
        | inr (inr none) ↦ absurd none
      ]);
    }
