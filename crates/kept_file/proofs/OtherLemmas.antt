-- The texts for settings, scripts and programs leave the batches as they are; and what the query for the batches shows.
use Rattle.std.proofs.Common.{◌≡◌, ◌≢◌, ◌∙◌, ℕ, ℤ, false, if◌then◌else◌, MatchBool, is_lt, int_cmp, List, [], ◌∷◌, map, Option, Some, None, Ok, refl, sym, ap, subst, inl, inr}
use Rattle.std.specs.List.{AllByRecursion}
use Rattle.sqlite_value.specs.Order.{Row}
use Rattle.sqlite_trees.specs.Tree.{Trees, IsTable}
use Rattle.sqlite_schema.specs.declared.command.Command.TheVariants.{Insert, InsertOr}
use Rattle.sqlite_schema.specs.declared.command.Conflict.TheVariants.{Replace}
use Rattle.sqlite_schema.specs.declared.command.Source.{Source}
use Rattle.sqlite_schema.specs.declared.command.Source.TheVariants.{Values}
use Rattle.sqlite_schema.specs.declared.schema.Table.{Table}
use Rattle.sqlite_schema.specs.declared.schema.Keys.{Keys}
use Rattle.sqlite_rules.specs.Action.{Writes as WritesEdit, works}
use Rattle.sqlite_rules.specs.declared.error.Rowids.TheVariants.{Given}
use Rattle.sqlite_rules.specs.Edit.{Edit, edit_of, taken_by}
use Rattle.sqlite_rules.specs.Calls.{ids_of}
use Rattle.sqlite_rules.specs.Lists.{Has}
use Rattle.sqlite_rules.proofs.ProbeLemmas.{has_mapped, mapped_has}
use Rattle.sqlite.specs.Effect.{Database, IsDatabase}
use Rattle.sqlite.specs.Does.{Tally, Does}
use Rattle.sqlite.specs.Rows.{Written, Task, Clears, Puts, Tries, TriesEach, Inserts, InsertsOr, Counts, CountsIn, Gives, count_of, sequence}
use Rattle.sqlite.specs.State.{State, mode_of}
use Rattle.sqlite.specs.Listing.{understood}
use Rattle.sqlite.proofs.Callers.{one_step, runs_as, reads_as, statement_of}
use Rattle.kept_file.specs.Content.{HasTables, HasBatches, batch_in, batches_of}
use Rattle.kept_file.specs.Reading.{RisesTo, ShowsBatches}
use Rattle.kept_file.specs.Saves.{Makes}
use Rattle.kept_file.specs.Tables.{kept_schema, settings_table, programs_table, scripts_table, batches_tree}
use Rattle.kept_file.specs.declared.batches.TheConstants.{BATCHES}
use Rattle.kept_file.specs.declared.schema.TheConstants as schema
use Rattle.kept_file.proofs.AnswerLemmas.{shows_of}
use Rattle.kept_file.proofs.DeleteLemmas.{went, same_value}
use Rattle.kept_file.proofs.StoredLemmas.{batches_rise, same_rows}
use Rattle.kept_file.proofs.TextLemmas.{set_terms, script_terms, program_terms, set_is, set_plain, script_is, script_plain, program_is, program_plain, batches_is, batches_plain, batches_unlisted}

-- an edit of another table leaves the rows of the batches
edit_spares : (keys : Keys) (db next : Trees) (edit : Edit) → works kept_schema keys 0 edit.table.tree (taken_by db edit) edit.news ≡ [] → batches_tree ≢ edit.table.tree
    → WritesEdit kept_schema keys db edit (Ok next) → next batches_tree ≡ db batches_tree
edit_spares keys db next edit none apart made = (one_step kept_schema keys db next edit none made).tables.1.1.1.0 apart

module _ (task : Task) (in_schema : task.schema ≡ kept_schema) (table : Table) (in_table : task.table ≡ table) (apart : batches_tree ≢ table.tree) where
  -- in this table
  spares : (db next : Trees) (edit : Edit) → edit.table ≡ table → WritesEdit task.schema task.keys db edit (Ok next) → next batches_tree ≡ db batches_tree
  spares db next edit is made =
      edit_spares task.keys db next edit refl (λ e. apart (e ∙ ap (λ (t : Table). t.tree) is)) (subst (λ s. WritesEdit s task.keys db edit (Ok next)) in_schema made)

  put_spares : (new : Row) (db : Trees) (written : Written) → Puts task new db (Ok written) → written.trees batches_tree ≡ db batches_tree
  put_spares new db written h =
      let step = went h in
      ap (λ (w : Written). w.trees batches_tree) (same_value step.2) ∙ spares db step.0 (edit_of db task.table [] Given 0 (new ∷ [])) in_table step.1

  clear_spares : (new : Row) (db : Trees) (found : List Row) (written : Written) → Clears task Replace new db found (Ok written) → written.trees batches_tree ≡ db batches_tree
  clear_spares new db [] written h = put_spares new db written h
  clear_spares new db (x ∷ more) written h =
      let step = went h in
      put_spares new step.0 written step.2 ∙ spares db step.0 (edit_of db task.table (ids_of (x ∷ more)) Given 0 []) in_table step.1

  try_spares : (new : Row) (db : Trees) (written : Written) → Tries task Replace [] new db (Ok written) → written.trees batches_tree ≡ db batches_tree
  try_spares new db written (inl low) = absurd (let e = low.1 in cc)
  try_spares new db written (inr (None, judged, out)) = clear_spares new db out.0 written out.2
  try_spares new db written (inr (Some why, judged, out)) = absurd (let e = out in cc)

  each_spares : (rows : List Row) (top : ℤ) (done : Written) (out : Written × ℤ) → TriesEach task Replace [] rows top done (Ok out) → out.0.trees batches_tree ≡ done.trees batches_tree
  each_spares [] top done out h = ap (λ (p : Written × ℤ). p.0.trees batches_tree) (same_value h)
  each_spares (source ∷ more) top done out h =
      let one = went h in
      each_spares more _ _ out one.2 ∙ try_spares _ done.trees one.0 one.1

-- .. and so does each statement on it, if it has no AUTOINCREMENT
inserts_or_spares : (old : State) (params : Row) (from : Source) (db : Trees) (written : Written)
    → InsertsOr (record { limit = old.step_limit; keys = (mode_of old).keys; schema = kept_schema; table = settings_table; params = params }) Replace [] from db (Ok written)
    → written.trees batches_tree ≡ db batches_tree
inserts_or_spares old params from db written h =
    let task : Task = record { limit = old.step_limit; keys = (mode_of old).keys; schema = kept_schema; table = settings_table; params = params } in
    let given = went h in
    let counter = went given.2 in
    let tries = went counter.2 in
    let counted = went tries.2 in
    let last : written.trees ≡ counted.0 = ap (λ (it : Written). it.trees) (same_value counted.2) in
    let mid : counted.0 ≡ tries.0.0.trees = same_value counted.1 in
    ap (λ (t : Trees). t batches_tree) (last ∙ mid) ∙ each_spares task refl settings_table refl (λ e. cc) given.0 _ _ tries.0 tries.1

uncounted_same : (task : Task) → task.table.is_counted ≡ false → (db next : Trees) (counter : Option Row) (top : ℤ) → Counts task db counter top (Ok next) → next ≡ db
uncounted_same task uncounted db next counter top h =
    same_value (subst (λ b. MatchBool (if b then is_lt (int_cmp (count_of counter) top) else false) (CountsIn task db counter top (sequence task.schema) (Ok next)) (Gives db (Ok next))) uncounted h)

inserts_spares : (old : State) (params : Row) (table : Table) → table.is_counted ≡ false → batches_tree ≢ table.tree → (from : Source) (db : Trees) (written : Written)
    → Inserts (record { limit = old.step_limit; keys = (mode_of old).keys; schema = kept_schema; table = table; params = params }) from db (Ok written)
    → written.trees batches_tree ≡ db batches_tree
inserts_spares old params table uncounted apart from db written h =
    let task : Task = record { limit = old.step_limit; keys = (mode_of old).keys; schema = kept_schema; table = table; params = params } in
    let given = went h in
    let counter = went given.2 in
    let edited = went counter.2 in
    let counted = went edited.2 in
    let last : written.trees ≡ counted.0 = ap (λ (it : Written). it.trees) (same_value counted.2) in
    let mid : counted.0 ≡ edited.0 = uncounted_same task uncounted edited.0 counted.0 counter.0 _ counted.1 in
    ap (λ (t : Trees). t batches_tree) (last ∙ mid) ∙ spares task refl table refl apart db edited.0 _ refl edited.1

-- a write that leaves the rows of the batches
left_alone : (old new : State) → HasTables old → new.now.schema ≡ kept_schema → IsDatabase new.now → new.now.trees batches_tree ≡ old.now.trees batches_tree → HasBatches new (batches_of old)
left_alone old new has schema sound same = record {
  tables = record {
    tables = schema;
    sound = sound;
    ordered = subst IsTable (sym same) has.ordered;
    numbered = subst (AllByRecursion _) (sym same) has.numbered;
  };
  are = ap (map batch_in) same;
}

pub sets : (params : Row) (old new : State) → HasTables old → Makes schema.SET.now params old new → HasBatches new (batches_of old)
sets params old new has made =
    let text = statement_of schema.SET.now (understood kept_schema schema.SET.now) in
    let w = runs_as schema.SET.now params old new kept_schema has.tables (InsertOr 0 Replace (Values set_terms 3) []) set_is set_plain made.0 made.1.0 in
    let done = went (subst (λ s. Does old.step_limit (mode_of old) params (record old.now { schema = s }) text None (InsertOr 0 Replace (Values set_terms 3) []) (Ok (w.tally, new.now))) has.tables w.changed) in
    let now : new.now ≡ record { schema = kept_schema; trees = done.0.trees } = ap (λ (p : Tally × Database). p.1) (same_value (went (went done.2).2).2) in
    left_alone old new has (ap (λ (d : Database). d.schema) now) w.sound (ap (λ (d : Database). d.trees batches_tree) now ∙ inserts_or_spares old params (Values set_terms 3) old.now.trees done.0 done.1)

pub scripts : (params : Row) (old new : State) → HasTables old → Makes schema.SCRIPT.now params old new → HasBatches new (batches_of old)
scripts params old new has made =
    let text = statement_of schema.SCRIPT.now (understood kept_schema schema.SCRIPT.now) in
    let w = runs_as schema.SCRIPT.now params old new kept_schema has.tables (Insert 2 (Values script_terms 3)) script_is script_plain made.0 made.1.0 in
    let done = went (subst (λ s. Does old.step_limit (mode_of old) params (record old.now { schema = s }) text None (Insert 2 (Values script_terms 3)) (Ok (w.tally, new.now))) has.tables w.changed) in
    let now : new.now ≡ record { schema = kept_schema; trees = done.0.trees } = ap (λ (p : Tally × Database). p.1) (same_value (went (went done.2).2).2) in
    left_alone old new has (ap (λ (d : Database). d.schema) now) w.sound (ap (λ (d : Database). d.trees batches_tree) now ∙ inserts_spares old params scripts_table refl (λ e. cc) (Values script_terms 3) old.now.trees done.0 done.1)

pub programs : (params : Row) (old new : State) → HasTables old → Makes schema.PROGRAM.now params old new → HasBatches new (batches_of old)
programs params old new has made =
    let text = statement_of schema.PROGRAM.now (understood kept_schema schema.PROGRAM.now) in
    let w = runs_as schema.PROGRAM.now params old new kept_schema has.tables (Insert 1 (Values program_terms 7)) program_is program_plain made.0 made.1.0 in
    let done = went (subst (λ s. Does old.step_limit (mode_of old) params (record old.now { schema = s }) text None (Insert 1 (Values program_terms 7)) (Ok (w.tally, new.now))) has.tables w.changed) in
    let now : new.now ≡ record { schema = kept_schema; trees = done.0.trees } = ap (λ (p : Tally × Database). p.1) (same_value (went (went done.2).2).2) in
    left_alone old new has (ap (λ (d : Database). d.schema) now) w.sound (ap (λ (d : Database). d.trees batches_tree) now ∙ inserts_spares old params programs_table refl (λ e. cc) (Values program_terms 7) old.now.trees done.0 done.1)

-- ---- what the query for the batches shows

-- batches that are handed out, with numbers that rise, are just those that the file has, in their order
pub are_batches : (file : State) (rows : List Row) (last : ℕ) → HasTables file → ShowsBatches file rows → RisesTo rows last → rows ≡ batches_of file
are_batches file rows last has shown rises =
    let reads = reads_as BATCHES.now [] file file kept_schema has.tables _ batches_is batches_plain batches_unlisted rows shown in
    let of = shows_of _ _ file.now [] rows reads in
    let stored = file.now.trees batches_tree in
    same_rows rows (batches_of file) rises.rising (batches_rise stored has.ordered)
    (λ row h. let r = of.sound row h in subst (Has (batches_of file)) (sym r.3) (mapped_has batch_in stored r.0 r.1))
    (λ row h. let b = has_mapped batch_in stored row h in subst (Has rows) (sym b.2) (of.complete b.0 b.1 refl))
