-- What is left of a file's batches when a stripe begins anew.
use Rattle.std.proofs.Common.{◌≡◌, ◌∙◌, ◌⊎◌, ◌+◌, ◌<◌, ℕ, ℤ, pos, Bool, true, false, not, ◌&&◌, List, [], ◌∷◌, ◌++◌, length, take, get_or, map, filter, None, Result, Ok, Err, OnOk, IsTrue, refl, sym, ap, subst, inl, inr}
use Rattle.std.specs.List.{AllByRecursion}
use Rattle.std.proofs.lemmas.Bool.{and_parts, not-true}
use Rattle.std.proofs.lemmas.List.{take_more}
use Rattle.sqlite_value.specs.declared.keys.Collation.TheVariants.{Binary}
use Rattle.sqlite_value.specs.declared.value.Value.{Value}
use Rattle.sqlite_value.specs.declared.value.Value.TheVariants.{Int}
use Rattle.sqlite_value.specs.Order.{Row, column}
use Rattle.sqlite_trees.specs.View.{is_int}
use Rattle.sqlite_trees.specs.Tree.{Trees, IsTable, rowid, has_rowid, without_rowid}
use Rattle.sqlite_sql.specs.Term.{Term, col}
use Rattle.sqlite_schema.specs.Rules.{equal}
use Rattle.sqlite_schema.specs.declared.command.Command.TheVariants.{Delete}
use Rattle.sqlite_schema.specs.declared.schema.Constraint.TheVariants.{Datatype}
use Rattle.sqlite_rules.specs.declared.error.Rowids.TheVariants.{Given}
use Rattle.sqlite_rules.specs.Edit.{edit_of, id_in, without_all}
use Rattle.sqlite_rules.specs.Calls.{ids_of}
use Rattle.sqlite_rules.specs.Lists.{Has}
use Rattle.sqlite_rules.proofs.ListLemmas.{all_has, all_from, has_filtered, has_kept}
use Rattle.sqlite_rules.proofs.TableLemmas.{int_is}
use Rattle.sqlite.specs.Effect.{Database, IsDatabase}
use Rattle.sqlite.specs.Does.{Tally, Does}
use Rattle.sqlite.specs.Rows.{Written}
use Rattle.sqlite.specs.Held.{Held}
use Rattle.sqlite.specs.State.{State, IsUnchanged, mode_of, Runs}
use Rattle.sqlite.specs.Listing.{understood}
use Rattle.sqlite.proofs.Callers.{one_step, reads_as, runs_as, statement_of}
use Rattle.kept_file.specs.Content.{HasTables, HasBatches, batch_in, batches_of, is_of, others_of}
use Rattle.kept_file.specs.Rows.{number}
use Rattle.kept_file.specs.Saves.{Clears, Makes, Removes}
use Rattle.kept_file.specs.Tables.{kept_schema, batches_table, batches_tree}
use Rattle.kept_file.specs.declared.schema.TheConstants as schema
use Rattle.kept_file.proofs.AnswerLemmas.{passing, rowids_of}
use Rattle.kept_file.proofs.ReadLemmas.{numbers_read, shown_same}
use Rattle.kept_file.proofs.StoredLemmas.{AreOf, IsTypedRow, stripe_typed, equal_is, left_fails, fails_left, ordered_left, numbered_left, ordered_filter, same_rows, batches_left}
use Rattle.kept_file.proofs.TablesLemmas.{kept_tables}
use Rattle.kept_file.proofs.TextLemmas.{query_of, program_of, of_stripe, of_number, numbers_is, numbers_plain, numbers_unlisted, remove_is, remove_plain}

-- a part that gave a value did not stop on the way
pub went : {B E R : Type 0} {b : B} {Stops : E → Type 0} → ((stop : E) × Stops stop × (Ok b ≡ Err stop)) ⊎ R → R
went (inl stopped) = absurd (let e = stopped.2 in cc)
went (inr on) = on

pub same_value : {B E : Type 0} {a b : B} → ◌≡◌ {A = Result B E} (Ok a) (Ok b) → a ≡ b
same_value e = cc

-- the rows of a sound file have the types of their columns
pub typed_rows : (file : State) → HasTables file → (row : Row) → Has (file.now.trees batches_tree) row → IsTypedRow row
typed_rows file has row there =
    let sound = subst (λ s. IsDatabase (record file.now { schema = s })) has.tables has.sound in
    let all = (sound.obeys.rules Datatype).1.1.1.0 in
    (and_parts _ _ (all_has _ (file.now.trees batches_tree) row all there)).0

-- what is left after those are taken out that pass
pub record Drops (passes : Row → Bool) (old new : State) : Type 0 where
  pub left_fails : (row : Row) → Has (new.now.trees batches_tree) row → Has (old.now.trees batches_tree) row × (passes row ≡ false)
  pub fails_left : (row : Row) → Has (old.now.trees batches_tree) row → passes row ≡ false → Has (new.now.trees batches_tree) row
  pub tables : HasTables new

pub drops : (old new : State) (filter : List Term) (text : List ℕ) (params : Row) (count : ℕ) → HasTables old
    → Runs old new None (Delete 3 (program_of (query_of filter (col 1 0 ∷ [])))) text params count → Drops (passing filter params) old new
drops old new filter text params count has w =
    let db = old.now.trees in
    let q = program_of (query_of filter (col 1 0 ∷ [])) in
    let rows = db batches_tree in
    let done = went (subst (λ s. Does old.step_limit (mode_of old) params (record old.now { schema = s }) text None (Delete 3 q) (Ok (w.tally, new.now))) has.tables w.changed) in
    let now = ap (λ (p : Tally × Database). p.1) (same_value (went (went done.2).2).2) in
    let found = went done.1 in
    let written = went found.2 in
    let trees : done.0.trees ≡ written.0 = ap (λ (it : Written). it.trees) (same_value written.2) in
    let left = (one_step kept_schema _ db written.0 (edit_of db batches_table (ids_of found.0) Given 0 []) refl written.1).rows in
    let is : new.now.trees batches_tree ≡ without_all rows (ids_of found.0) = ap (λ (d : Database). d.trees batches_tree) now ∙ ap (λ (t : Trees). t batches_tree) trees ∙ left in
    let are = rowids_of filter (record { schema = kept_schema; trees = db }) params found.0 found.1 in
    record {
      left_fails = λ row h. left_fails (passing filter params) rows found.0 has.ordered has.numbered are row (subst (λ l. Has l row) is h);
      fails_left = λ row h fails. subst (λ l. Has l row) (sym is) (fails_left (passing filter params) rows found.0 has.ordered has.numbered are row h fails);
      tables = record {
        tables = ap (λ (d : Database). d.schema) now;
        sound = w.sound;
        ordered = subst IsTable (sym is) (ordered_left (ids_of found.0) rows has.ordered);
        numbered = subst (AllByRecursion _) (sym is) (numbered_left (ids_of found.0) rows has.numbered);
      };
    }

and_true : (b : Bool) → (b && true) ≡ b
and_true true = refl
and_true false = refl

-- a stored batch passes if it is of the stripe
passing_is : (stripe : ℕ) (row : Row) → IsTypedRow row → passing (of_stripe ∷ []) (number stripe ∷ []) row ≡ is_of stripe (batch_in row)
passing_is stripe row typed = and_true (equal Binary (column row 2) (number stripe)) ∙ equal_is (column row 2) (pos stripe) (stripe_typed row typed)

-- the rows that are left are those that do not pass, if that is tested so
left_are : (passes test : Row → Bool) (rows left : List Row) → IsTable rows → IsTable left → ((row : Row) → Has rows row → passes row ≡ test row)
    → ((row : Row) → Has left row → Has rows row × (passes row ≡ false)) → ((row : Row) → Has rows row → passes row ≡ false → Has left row) → left ≡ filter (λ row. not (test row)) rows
left_are passes test rows left ordered left_ordered same fails stays =
    let stay = λ (row : Row). not (test row) in
    same_rows left (filter stay rows) left_ordered (ordered_filter stay rows ordered)
    (λ row h. let was = fails row h in has_kept stay rows row was.0 (ap not (sym (same row was.0) ∙ was.1)))
    (λ row h. let kept = has_filtered stay rows row h in stays row kept.0 (same row kept.0 ∙ not-true _ kept.1))

-- ---- one batch goes

-- a stored batch passes if it has the number
numbered_is : (n : ℤ) (row : Row) → IsTrue (is_int (rowid row)) → passing (of_number ∷ []) (Int n ∷ []) row ≡ has_rowid n row
numbered_is n row int = and_true (equal Binary (rowid row) (Int n)) ∙ equal_is (rowid row) n (inr (id_in (rowid row), int_is (rowid row) int))

-- the one with this number is left out
pub record Loses (n : ℤ) (old new : State) : Type 0 where
  pub rows : new.now.trees batches_tree ≡ without_rowid n (old.now.trees batches_tree)
  pub tables : HasTables new

removed_one : (n : ℤ) (old new : State) → HasTables old → Makes schema.REMOVE.now (Int n ∷ []) old new → Loses n old new
removed_one n old new has made =
    let params = Int n ∷ [] in
    let runs = runs_as schema.REMOVE.now params old new kept_schema has.tables _ remove_is remove_plain made.0 made.1.0 in
    let drop = drops old new (of_number ∷ []) (statement_of schema.REMOVE.now (understood kept_schema schema.REMOVE.now)) params made.0 has runs in
    let rows = old.now.trees batches_tree in
    record {
      rows = left_are (passing (of_number ∷ []) params) (has_rowid n) rows (new.now.trees batches_tree) has.ordered drop.tables.ordered
          (λ row there. numbered_is n row (all_has _ rows row has.numbered there)) drop.left_fails drop.fails_left;
      tables = drop.tables;
    }

-- ---- one after the other

-- the rows have numbers
abbrev pub HaveNumbers : List Row → Type 0
HaveNumbers = AllByRecursion (λ row. rowid row ≡ Int (id_in (rowid row)))

pub record LosesAll (numbers : List Row) (old new : State) : Type 0 where
  pub rows : new.now.trees batches_tree ≡ without_all (old.now.trees batches_tree) (ids_of numbers)
  pub tables : HasTables new

module _ {S : Type 0} (shown : Held S → State) where
  removes_then : (rows : List Row) (row : Row) (old mid new : Held S) → Removes shown rows old mid → Makes schema.REMOVE.now (rowid row ∷ []) (shown mid) (shown new)
      → Removes shown (rows ++ row ∷ []) old new
  unfolding Removes
  removes_then [] row old mid new same made = (new, subst (λ (h : Held S). Makes schema.REMOVE.now (rowid row ∷ []) (shown h) (shown new)) same made, refl)
  removes_then (first ∷ rows) row old mid new before made = (before.0, before.1, removes_then rows row before.0 mid new before.2 made)

  -- no batch was removed yet
  pub removes_none : (rows : List Row) (old : Held S) → Removes shown (take 0 rows) old old
  unfolding Removes
  removes_none rows old = refl

  -- .. and one more
  pub removes_more : (rows : List Row) (i : ℕ) (row : Row) (old mid new : Held S) → i < length rows → row ≡ get_or rows i row → Removes shown (take i rows) old mid
      → Makes schema.REMOVE.now (rowid row ∷ []) (shown mid) (shown new) → Removes shown (take (i + 1) rows) old new
  removes_more rows i row old mid new low is before made =
      subst (λ (l : List Row). Removes shown l old new) (sym (take_more rows i row low))
      (removes_then (take i rows) (get_or rows i row) old mid new before (subst (λ (r : Row). Makes schema.REMOVE.now (rowid r ∷ []) (shown mid) (shown new)) is made))

  removed_all : (numbers : List Row) (old new : Held S) → HaveNumbers numbers → HasTables (shown old) → Removes shown numbers old new → LosesAll numbers (shown old) (shown new)
  unfolding Removes
  removed_all [] old new are has same = subst (λ (h : Held S). LosesAll [] (shown old) (shown h)) (sym same) (record { rows = refl; tables = has })
  removed_all (row ∷ numbers) old new are has removed =
      let mid = removed.0 in
      let one = removed_one (id_in (rowid row)) (shown old) (shown mid) has (subst (λ (v : Value). Makes schema.REMOVE.now (v ∷ []) (shown old) (shown mid)) are.0 removed.1) in
      let more = removed_all numbers mid new are.1 one.tables removed.2 in
      record { rows = more.rows ∙ ap (λ (rows : List Row). without_all rows (ids_of numbers)) one.rows; tables = more.tables }

  -- ---- the batches of a stripe go, and no other

  pub clears : (stripe : ℕ) (old new : Held S) → HasTables (shown old) → Clears shown stripe old new → HasBatches (shown new) (others_of stripe (batches_of (shown old)))
  clears stripe old new has it =
      let file = shown old in
      let params = number stripe ∷ [] in
      let rows = file.now.trees batches_tree in
      let same : IsUnchanged file (shown it.mid) = shown_same schema.NUMBERS.now params file (shown it.mid) it.numbers numbers_read it.asked in
      let passes = passing (of_stripe ∷ []) params in
      let are : AreOf passes rows it.numbers = rowids_of (of_stripe ∷ []) file.now params it.numbers
      (reads_as schema.NUMBERS.now params file (shown it.mid) kept_schema has.tables _ numbers_is numbers_plain numbers_unlisted it.numbers it.asked) in
      let have : HaveNumbers it.numbers = all_from _ it.numbers (λ x h. let r = are.sound x h in
      subst (λ (row : Row). rowid row ≡ Int (id_in (rowid row))) (sym r.3) (int_is (rowid r.0) (all_has _ rows r.0 has.numbered r.1))) in
      let lost = removed_all it.numbers it.mid new have (kept_tables file (shown it.mid) has same) it.removed in
      let is : (shown new).now.trees batches_tree ≡ without_all rows (ids_of it.numbers) =
      lost.rows ∙ ap (λ (d : Database). without_all (d.trees batches_tree) (ids_of it.numbers)) same.0.now_is in
      let left : (shown new).now.trees batches_tree ≡ filter (λ (row : Row). not (is_of stripe (batch_in row))) rows =
      left_are passes (λ row. is_of stripe (batch_in row)) rows ((shown new).now.trees batches_tree) has.ordered lost.tables.ordered
      (λ row there. passing_is stripe row (typed_rows file has row there))
      (λ row h. left_fails passes rows it.numbers has.ordered has.numbered are row (subst (λ l. Has l row) is h))
      (λ row h fails. subst (λ l. Has l row) (sym is) (fails_left passes rows it.numbers has.ordered has.numbered are row h fails)) in
      record { tables = lost.tables; are = ap (map batch_in) left ∙ batches_left (λ batch. not (is_of stripe batch)) rows }

-- what follows if a call returned `Ok`
pub on_ok : {A E : Type 0} (r : Result A E) (P Q : Type 0) → (P → Q) → OnOk r P → OnOk r Q
on_ok (Ok x) P Q f p = f p
on_ok (Err e) P Q f p = tt
