-- What the text that appends a batch makes of a file.
use Rattle.std.proofs.Common.{◌≡◌, ◌∙◌, ℕ, ℤ, pos, ◌+ℤ◌, Bool, true, false, cond, List, [], ◌∷◌, ◌++◌, map, drop, fold, Option, None, Ok, refl, sym, ap, subst, arith, Less}
use Rattle.std.specs.List.{AllByRecursion}
use Rattle.std.proofs.lemmas.Bool.Decides.{nat_tests}
use Rattle.std.proofs.lemmas.Int.{ints}
use Rattle.std.proofs.lemmas.List.{map-append}
use Rattle.sqlite_value.specs.declared.value.Value.{Value}
use Rattle.sqlite_value.specs.declared.value.Value.TheVariants.{Null, Int, Blob}
use Rattle.sqlite_value.specs.Order.{Row, value_cmp}
use Rattle.sqlite_value.proofs.OrderLemmas.{value_cmp_total, value_cmp-Int}
use Rattle.sqlite_trees.specs.Tree.{Trees, rowid, IsTable, put_row}
use Rattle.sqlite_sql.specs.Ops.{unary}
use Rattle.sqlite_schema.specs.declared.command.Command.TheVariants.{Insert}
use Rattle.sqlite_schema.specs.declared.command.Source.TheVariants.{Values}
use Rattle.sqlite_schema.specs.declared.schema.Keys.{Keys}
use Rattle.sqlite_schema.specs.declared.schema.Kind.TheVariants.{Integer}
use Rattle.sqlite_rules.specs.Cast.{cast, cast_row}
use Rattle.sqlite_rules.specs.declared.error.Rowids.TheVariants.{Chosen}
use Rattle.sqlite_rules.specs.Edit.{edit_of, put_all, id_in, next_rowid, with_rowid, numbered}
use Rattle.sqlite_rules.proofs.TableLemmas.{int_is}
use Rattle.sqlite.specs.Effect.{Database}
use Rattle.sqlite.specs.Does.{Tally, Does}
use Rattle.sqlite.specs.Rows.{Written, Task, Inserts}
use Rattle.sqlite.specs.State.{State, mode_of}
use Rattle.sqlite.specs.Listing.{understood}
use Rattle.sqlite.proofs.Callers.{one_step, runs_as, statement_of}
use Rattle.kept_file.specs.Content.{Appends, HasTables, batch_in}
use Rattle.kept_file.specs.Rows.{number}
use Rattle.kept_file.specs.Saves.{Makes}
use Rattle.kept_file.specs.Tables.{kept_schema, batches_table, batches_tree}
use Rattle.kept_file.specs.declared.schema.TheConstants as schema
use Rattle.kept_file.proofs.DeleteLemmas.{went, same_value}
use Rattle.kept_file.proofs.StoredLemmas.{AreNumbered, ordered_put, numbered_put, put_last}
use Rattle.kept_file.proofs.TextLemmas.{append_terms, append_is, append_plain}

-- ---- the number of the new row is above all others

less_more : (n : ℤ) → value_cmp (Int n) (Int (n +ℤ pos 1)) ≡ Less
less_more n = value_cmp-Int n (n +ℤ pos 1) ∙ grind (arith, ints, nat_tests)

abbrev above : ℤ → Row → ℤ
above n r = id_in (rowid r) +ℤ pos 1

-- what is below one number and all rows is below the number after the last
under_next : (rows : List Row) (n : ℤ) (v : Value) → AreNumbered rows → value_cmp v (Int n) ≡ Less → AllByRecursion (λ r. value_cmp v (rowid r) ≡ Less) rows
    → value_cmp v (Int (fold above n rows)) ≡ Less
under_next [] n v whole low all = low
under_next (r ∷ rows) n v whole low all =
    under_next rows (id_in (rowid r) +ℤ pos 1) v whole.1
    (value_cmp_total.trans v (rowid r) (Int (id_in (rowid r) +ℤ pos 1)) all.0 (subst (λ w. value_cmp w (Int (id_in (rowid r) +ℤ pos 1)) ≡ Less) (sym (int_is (rowid r) whole.0)) (less_more (id_in (rowid r)))))
    all.1

below_next : (rows : List Row) (n : ℤ) → IsTable rows → AreNumbered rows → AllByRecursion (λ r. value_cmp (rowid r) (Int (fold above n rows)) ≡ Less) rows
below_next [] n up whole = tt
below_next (r ∷ rows) n up whole =
    let next = id_in (rowid r) +ℤ pos 1 in (
      under_next rows next (rowid r) whole.1 (subst (λ w. value_cmp w (Int next) ≡ Less) (sym (int_is (rowid r) whole.0)) (less_more (id_in (rowid r)))) up.0,
      below_next rows next up.1 whole.1,
    )

-- ---- the new row

either : (b : Bool) (x : Value) → cond b x x ≡ x
either true x = refl
either false x = refl

cast_null : cast Integer Null ≡ Null
unfolding unary
cast_null = either _ Null

cast_number : (n : ℤ) → cast Integer (Int n) ≡ Int n
unfolding unary
cast_number n = either _ (Int n)

module _ (stripe : ℕ) (bytes : List ℕ) where
  abbrev source : Row
  source = Null ∷ Null ∷ number stripe ∷ Blob bytes ∷ []

  abbrev stored : ℤ → Row
  stored id = Int id ∷ Null ∷ number stripe ∷ Blob bytes ∷ []

  chosen : (rows : List Row) → with_rowid Chosen rows (cast_row batches_table source) ≡ stored (next_rowid rows)
  chosen rows = rw (cast_null, cast_number (pos stripe)) refl

  -- ---- what the insert writes

  module _ (limit : Option ℕ) (keys : Keys) where
    abbrev task : Task
    task = record { limit = limit; keys = keys; schema = kept_schema; table = batches_table; params = number stripe ∷ Blob bytes ∷ [] }

    inserted : (db : Trees) (written : Written) → Inserts task (Values append_terms 4) db (Ok written) → written.trees batches_tree ≡ put_row (stored (next_rowid (db batches_tree))) (db batches_tree)
    inserted db written h =
        let rows = db batches_tree in
        let given = went h in
        let counter = went given.2 in
        let edited = went counter.2 in
        let counted = went edited.2 in
        let last : written.trees ≡ counted.0 = ap (λ (it : Written). it.trees) (same_value counted.2) in
        let mid : counted.0 ≡ edited.0 = same_value counted.1 in
        let applies = one_step kept_schema keys db edited.0 (edit_of db batches_table [] Chosen 0 given.0) refl edited.1 in
        let put = subst (λ sources. edited.0 batches_tree ≡ put_all rows (numbered Chosen rows (map (λ s. cast_row batches_table (drop 0 s)) sources))) given.1.1 applies.rows in
        ap (λ (t : Trees). t batches_tree) (last ∙ mid) ∙ put ∙ ap (λ r. put_row r rows) (chosen rows)

-- ---- the statement

-- a batch comes after all others
pub appends : (stripe : ℕ) (bytes : List ℕ) (old new : State) → HasTables old → Makes schema.APPEND.now (number stripe ∷ Blob bytes ∷ []) old new → Appends stripe bytes old new
appends stripe bytes old new has made =
    let params = number stripe ∷ Blob bytes ∷ [] in
    let rows = old.now.trees batches_tree in
    let text = statement_of schema.APPEND.now (understood kept_schema schema.APPEND.now) in
    let command = Insert 3 (Values append_terms 4) in
    let w = runs_as schema.APPEND.now params old new kept_schema has.tables command append_is append_plain made.0 made.1.0 in
    let done = went (subst (λ s. Does old.step_limit (mode_of old) params (record old.now { schema = s }) text None command (Ok (w.tally, new.now))) has.tables w.changed) in
    let now : new.now ≡ record { schema = kept_schema; trees = done.0.trees } = ap (λ (p : Tally × Database). p.1) (same_value (went (went done.2).2).2) in
    let row = stored stripe bytes (next_rowid rows) in
    let put : new.now.trees batches_tree ≡ put_row row rows =
    ap (λ (d : Database). d.trees batches_tree) now ∙ inserted stripe bytes old.step_limit (mode_of old).keys old.now.trees done.0 done.1 in
    let last : new.now.trees batches_tree ≡ rows ++ row ∷ [] = put ∙ put_last rows row (below_next rows (pos 1) has.ordered has.numbered) in
    record {
      batch = batch_in row;
      of_stripe = refl;
      has_bytes = refl;
      appended = record {
        tables = record {
          tables = ap (λ (d : Database). d.schema) now;
          sound = w.sound;
          ordered = subst IsTable (sym put) (ordered_put row rows has.ordered);
          numbered = subst AreNumbered (sym put) (numbered_put row rows refl has.numbered);
        };
        are = ap (map batch_in) last ∙ map-append batch_in rows (row ∷ []);
      };
    }
