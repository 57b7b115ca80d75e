-- A file's list of its objects is read whatever tables it has, and shows each object.
use Rattle.std.proofs.Common.{◌≡◌, ◌∙◌, ℕ, ◌+◌, negsuc, Bool, true, false, ◌&&◌, List, [], ◌∷◌, ◌++◌, map, codes, None, Result, Ok, Err, refl, sym, ap, subst, inl, inr, Less}
use Rattle.std.specs.List.{AllByRecursion, position_from}
use Rattle.std.proofs.lemmas.Bool.{and_parts, not-true}
use Rattle.std.proofs.lemmas.List.{append_assoc, append-nil}
use Rattle.sqlite.specs.Listing.{understood, reads_listing, if_select, listing_schema}
use Rattle.sqlite.specs.Schema.{Schema}
use Rattle.sqlite.specs.Effect.{Database, IsDatabase, Reads}
use Rattle.sqlite.specs.Listing.{IsSourceOf, shown}
use Rattle.sqlite.specs.Order.{Row, column}
use Rattle.sqlite.specs.State.{State, Shown}
use Rattle.sqlite.proofs.Callers.{IsPlain, command_of}
use Rattle.sqlite_value.specs.declared.value.Value.{Value}
use Rattle.sqlite_value.specs.Order.{bytes, value_cmp}
use Rattle.sqlite_trees.specs.Objects.{catalog_tree}
use Rattle.sqlite_trees.specs.Sound as sound
use Rattle.sqlite_trees.specs.Tree.{IsTable, rowid}
use Rattle.sqlite_catalog.specs.Listing.{IsViewRow, is_view_row}
use Rattle.sqlite_catalog.proofs.SoundLemmas.{names_agree, list_parts}
use Rattle.sqlite_catalog.proofs.AlterLemmas.{listed_free}
use Rattle.sqlite_catalog.proofs.LayoutLemmas.{zipped_left}
use Rattle.sqlite_rules.specs.Lists.{Has}
use Rattle.sqlite_rules.specs.Edit.{put_all}
use Rattle.sqlite_rules.proofs.ListLemmas.{all_has, all_from, test_has, has_filtered, has_right}
use Rattle.sqlite_rules.proofs.ProbeLemmas.{has_mapped, mapped_has}
use Rattle.sqlite_schema.specs.Names.{same_name, table_named, view_named}
use Rattle.sqlite_ast.specs.declared.Select.{Select, out-Select}
use Rattle.sqlite_ast.specs.declared.Core.{Core, out-Core}
use Rattle.sqlite_ast.specs.declared.Sort.{Sort}
use Rattle.sqlite_ast.specs.declared.Source.{Source, out-Source}
use Rattle.sqlite_ast.specs.declared.Origin.TheVariants as origin
use Rattle.sqlite_ast.specs.declared.Statement.{Statement}
use Rattle.sqlite_ast.specs.declared.Statement.TheVariants as written
use Rattle.sqlite_syntax.specs.declared.statement.Parsed.{Parsed}
use Rattle.sqlite_sql.specs.Term.{Term, lit, eval_all}
use Rattle.sqlite_value.specs.declared.value.Value.TheVariants.{Int, Text}
use Rattle.sqlite_resolve.specs.Terms.{number}
use Rattle.sqlite_resolve.specs.declared.error.CompileError.{CompileError}
use Rattle.sqlite_resolve.specs.declared.error.CompileError.TheVariants.{NoSuchTable}
use Rattle.sqlite_resolve.specs.Lowering.{take_slot}
use Rattle.sqlite_resolve.specs.Compile.{compiled, command, first, meaning, planned, read, returning, timed}
use Rattle.sqlite_resolve.specs.Body.{table_in, bound, bounds, body}
use Rattle.sqlite_resolve.specs.Select.{named, parts, paging, constant_or}
use Rattle.sqlite_resolve.specs.Program.{query, query_to, level, whole, alone, single, sources, source, viewing, with}
use Rattle.sqlite_tied.specs.Compute.{everything}
use Rattle.kept_file.specs.declared.tables.TheConstants.{OBJECTS}
use Rattle.kept_file.proofs.AnswerLemmas.{beside, shows_in}
use Rattle.kept_file.proofs.StoredLemmas.{put_last}
use Rattle.kept_file.proofs.TextLemmas.{object_terms, objects_is, objects_plain}

abbrev Name : Type 0
Name = List ℕ

-- no table and no view of the schema has this name
pub record Lacks (schema : Schema) (name : Name) : Type 0 where
  pub table : table_named schema name ≡ None
  pub view : view_named schema name ≡ None

no_source : (schema : Schema) (slot : ℕ) (name : Name) → Lacks schema name → table_in schema slot (origin.Table name) ≡ Err NoSuchTable
unfolding table_in
no_source schema slot name lacks = rw (lacks.table, lacks.view) refl

-- one table in FROM, of this name
pub record ReadsFrom (name : Name) (core : Core) : Type 0 where
  pub it : Source
  pub one : (out-Core core).from ≡ it ∷ []
  pub named_so : (out-Source it).origin ≡ origin.Table name

-- one plain SELECT from it
pub record Selects (name : Name) (s : Select) : Type 0 where
  pub from : ReadsFrom name (out-Select s).first
  pub alone : (out-Select s).with ≡ []
  pub simple : (out-Select s).others ≡ []
  pub unlimited : (out-Select s).limit ≡ None
  pub whole : (out-Select s).offset ≡ None

abbrev IsSelect : Statement → (Select → Type 0) → Type 0
IsSelect (written.Select s) P = P s
IsSelect _ P = ⊥

abbrev OnSelect : Result Parsed CompileError → (Select → Type 0) → Type 0
OnSelect (Ok p) P = IsSelect p.statement P
OnSelect (Err e) P = ⊥

-- the text is such a SELECT
objects_selected : OnSelect (first OBJECTS.now) (Selects (codes "sqlite_schema"))
unfolding everything
objects_selected = record { from = record { it = _; one = refl; named_so = refl }; alone = refl; simple = refl; unlimited = refl; whole = refl }

module _ (schema : Schema) (name : Name) (lacks : Lacks schema name) where
  no_name : (core : Core) (order : List Sort) (page : Term × Term) → ReadsFrom name core → named schema core order page ≡ Err NoSuchTable
  unfolding named parts body bounds bound take_slot
  no_name core order page reads = rw (reads.one, reads.named_so, no_source schema 1 name lacks) refl

  no_query : (s : Select) → Selects name s → query schema s ≡ Err NoSuchTable
  unfolding query query_to level whole alone single sources source viewing with paging constant_or
  no_query s it =
      rw (it.alone, it.simple, it.unlimited, it.whole, it.from.one, it.from.named_so, no_name (out-Select s).first (out-Select s).order (lit (Int (negsuc 0)), number 0) it.from) refl

  no_plan : (p : Parsed) (statement : Statement) → p.statement ≡ statement → IsSelect statement (Selects name) → planned schema p ≡ Err NoSuchTable
  unfolding planned meaning returning command read timed
  no_plan p (written.Select s) is it = rw (is, no_query s it) refl
  no_plan p _ is it = absurd it

  no_compiled : (text : List ℕ) (r : Result Parsed CompileError) → first text ≡ r → OnSelect r (Selects name) → compiled schema text ≡ Err NoSuchTable
  unfolding compiled
  no_compiled text (Ok p) is it = rw (is, no_plan p p.statement refl it) refl
  no_compiled text (Err e) is it = absurd it

abbrev list_name : Name
list_name = codes "sqlite_schema"

-- a schema without a table of that name leaves the text to the list of objects
listed : (schema : Schema) → Lacks schema list_name → reads_listing schema OBJECTS.now ≡ true
listed schema lacks = rw (no_compiled schema list_name lacks OBJECTS.now (first OBJECTS.now) refl objects_selected) refl

understood_so : (schema : Schema) → Lacks schema list_name → understood schema OBJECTS.now ≡ if_select (compiled listing_schema OBJECTS.now)
unfolding understood
understood_so schema lacks = rw (listed schema lacks) refl

-- ---- no database has such a table

apart : (name : Name) → sound.is_free_name name ≡ true → same_name name list_name ≡ false
unfolding sound.is_free_name
apart name free = names_agree name list_name ∙ not-true _ (and_parts _ _ free).1

fit_is_free : (kind name owner sql : Value) → sound.fits_kind kind name owner sql ≡ true → sound.is_free_name (bytes name) ≡ true
unfolding sound.fits_kind
fit_is_free kind name owner sql fit = (and_parts (sound.is_free_name (bytes name)) _ (and_parts _ _ (and_parts (sound.is_text name && sound.is_text owner) _ fit).1).0).0

row_free : (objects : List Row) (row : Row) (name : Name) → sound.is_sound_list objects ≡ true → Has objects row → column row 2 ≡ Text name → sound.is_free_name name ≡ true
row_free objects row name loads h is =
    let fine = test_has sound.is_sound_object objects row (list_parts objects loads).0 h in
    rw is at (fit_is_free (column row 1) (column row 2) (column row 3) (column row 4) (and_parts _ _ (and_parts _ _ fine).0).1)

placed_none : {X : Type 0} (p : X → Bool) (xs : List X) (from : ℕ) → ((x : X) → Has xs x → p x ≡ false) → position_from p from xs ≡ None
placed_none p [] from none = refl
placed_none p (x ∷ xs) from none = rw (none x (inl refl)) (placed_none p xs (from + 1) (λ y h. none y (inr h)))

pub lacks : (db : Database) → IsDatabase db → Lacks db.schema list_name
lacks db is =
    let objects = db.trees catalog_tree in
    let are = is.lists.listed in
    record {
      table = placed_none (λ t. same_name t.name list_name) db.schema.tables 0 (λ t h. apart t.name (listed_free objects db.schema t are h));
      view = placed_none (λ w. same_name w.name list_name) db.schema.views 0 (λ w h.
          let r = zipped_left IsViewRow _ db.schema.views w are.views h in
          apart w.name (row_free objects r.0 w.name are.loads (has_filtered is_view_row objects r.0 r.1).0 r.2.described.name_is));
    }

-- ---- what the query shows

reads_list : (file : State) (rows : List Row) → Lacks file.now.schema list_name → Shown OBJECTS.now [] file file rows
    → (db : Database) × IsSourceOf true file.now db × Reads (command_of (if_select (compiled listing_schema OBJECTS.now))) db [] rows
unfolding Shown
reads_list file rows none h =
    let known = sym h.1.is ∙ understood_so file.now.schema none in
    let bare = subst IsPlain (sym known) objects_plain in
    let it = rw (bare.0, bare.1) at h.2 in
    (it.0, subst (λ b. IsSourceOf b file.now it.0) (listed file.now.schema none) it.1, subst (λ k. Reads k it.0 [] rows) (ap command_of known) it.2)

-- its number, kind, name, table and text
abbrev pub front : Row → Row
front object = column object 0 ∷ column object 1 ∷ column object 2 ∷ column object 3 ∷ column object 4 ∷ []

shown_rise : (objects : List Row) → IsTable objects → IsTable (map shown objects)
shown_rise [] up = tt
shown_rise (o ∷ more) up = (all_from _ (map shown more) (λ row h. let r = has_mapped shown more row h in rw r.2 (all_has _ more r.0 up.0 r.1)), shown_rise more up.1)

below : (xs ys : List Row) (x : Row) → IsTable (xs ++ x ∷ ys) → AllByRecursion (λ r. value_cmp (rowid r) (rowid x) ≡ Less) xs
below [] ys x up = tt
below (r ∷ xs) ys x up = (all_has _ (xs ++ x ∷ ys) x up.0 (has_right xs (x ∷ ys) x (inl refl)), below xs ys x up.1)

put_after : (xs ys : List Row) → IsTable (xs ++ ys) → put_all xs ys ≡ xs ++ ys
put_after xs [] up = sym (append-nil xs)
put_after xs (y ∷ ys) up =
    let same : (xs ++ y ∷ []) ++ ys ≡ xs ++ y ∷ ys = append_assoc xs (y ∷ []) ys in
    ap (λ l. put_all l ys) (put_last xs y (below xs ys y up)) ∙ (put_after (xs ++ y ∷ []) ys (subst IsTable (sym same) up) ∙ same)

-- the query shows just the objects
pub record ShowsObjects (objects rows : List Row) : Type 0 where
  pub sound : (row : Row) → Has rows row → (object : Row) × Has objects object × (row ≡ front object)
  pub complete : (object : Row) → Has objects object → Has rows (front object)

module _ (file : State) (rows : List Row) (is : IsDatabase file.now) (rising : IsTable (file.now.trees catalog_tree)) (all : Shown OBJECTS.now [] file file rows) where
  abbrev objects : List Row
  objects = file.now.trees catalog_tree

  pub shows_objects : ShowsObjects objects rows
  shows_objects =
      let read = reads_list file rows (lacks file.now is) all in
      let of = shows_in 0 [] _ read.0 [] rows (subst (λ k. Reads k read.0 [] rows) objects_is read.2) in
      let source : read.0.trees 0 ≡ map shown objects = read.1.1 ∙ put_after [] (map shown objects) (shown_rise objects rising) in
      record {
        sound = λ row h.
            let r = of.sound row h in
            let o = has_mapped shown objects r.0 (subst (λ l. Has l r.0) source r.1) in
            (o.0, o.1, r.3 ∙ ap (λ s. eval_all object_terms (beside [] s)) o.2);
        complete = λ object h. of.complete (shown object) (subst (λ l. Has l (shown object)) (sym source) (mapped_has shown objects object h)) refl;
      }
