-- The tables of a file and their index, as the database understands the texts that make them, and as it lists them.
use Rattle.std.specs.Prelude.{Bool, true, false, ℕ, pos, List, [], ◌∷◌, ◌++◌, Option, Some, None, map, codes}
use Rattle.sqlite.specs.Collation.TheVariants.{Binary}
use Rattle.sqlite.specs.Order.{Row}
use Rattle.sqlite.specs.declared.types.Value.{Value}
use Rattle.sqlite.specs.declared.types.Value.TheVariants.{Int, Null, Text as text}
use Rattle.sqlite.specs.Kind.{Kind}
use Rattle.sqlite.specs.Kind.TheVariants.{Integer, Text, Blob}
use Rattle.sqlite.specs.Table.{Table}
use Rattle.sqlite.specs.Schema.{Schema}
use Rattle.sqlite_schema.specs.declared.schema.Column.{Column}
use Rattle.sqlite_schema.specs.declared.schema.Index.{Index}
use Rattle.sqlite_value.specs.Keys.{plain}
use Rattle.kept_file.specs.declared.schema.TheConstants as schema

abbrev column_of : List ℕ → Kind → Bool → Column
column_of name kind needed = record { name = name; kind = kind; is_strict = true; not_null = needed; default = Null; collation = Binary }

-- a table of this name in this tree, whose key is its rowid in the column `key`, or these columns
abbrev table_of : List ℕ → ℕ → List Column → Option ℕ → List ℕ → List (List ℕ) → Table
table_of name tree columns key primary uniques = record {
  name = name;
  tree = tree;
  columns = columns;
  key = key;
  primary = primary;
  uniques = uniques;
  orders = map (λ key. plain) uniques;
  checks = [];
  references = [];
  computed = [];
  stamps = record { places = []; terms = []; formats = [] };
  is_counted = false;
}

-- an index of this name in this tree, of these columns of the table in another
abbrev index_of : List ℕ → ℕ → ℕ → List ℕ → Bool → Index
index_of name tree table columns unique = record { name = name; tree = tree; table = table; columns = columns; order = plain; is_unique = unique }

abbrev pub settings_table : Table
settings_table = table_of (codes "settings") 0 (column_of (codes "name") Text true ∷ column_of (codes "value") Integer true ∷ []) None (1 ∷ []) ((1 ∷ []) ∷ [])

abbrev pub programs_table : Table
programs_table = table_of (codes "programs") 2
    (column_of (codes "number") Integer false ∷ column_of (codes "key_size") Integer true ∷ column_of (codes "old_size") Integer true
    ∷ column_of (codes "arg_size") Integer true ∷ column_of (codes "result_size") Integer true ∷ column_of (codes "bytes") Blob true ∷ [])
    (Some 0) (0 ∷ []) []

abbrev pub scripts_table : Table
scripts_table = table_of (codes "scripts") 3 (column_of (codes "number") Integer false ∷ column_of (codes "text") Blob true ∷ []) (Some 0) (0 ∷ []) []

abbrev pub batches_tree : ℕ
batches_tree = 4

abbrev pub batches_table : Table
batches_table = table_of (codes "batches") batches_tree
    (column_of (codes "number") Integer false ∷ column_of (codes "stripe") Integer true ∷ column_of (codes "changes") Blob true ∷ []) (Some 0) (0 ∷ []) []

-- the index of a table's key, which no text makes
abbrev pub key_name : List ℕ → List ℕ
key_name table = codes "sqlite_autoindex_" ++ (table ++ codes "_1")

abbrev pub settings_key : Index
settings_key = index_of (key_name (codes "settings")) 1 0 (1 ∷ []) true

-- the batches by their stripe
abbrev pub batches_by_stripe : Index
batches_by_stripe = index_of (codes "batches_by_stripe") 5 batches_tree (2 ∷ []) false

abbrev pub kept_schema : Schema
kept_schema = record {
  tables = settings_table ∷ programs_table ∷ scripts_table ∷ batches_table ∷ [];
  indexes = settings_key ∷ batches_by_stripe ∷ [];
  views = [];
}

-- the row of an object in the list: its number there, its kind, its name, that of its table, and the text that makes it
abbrev pub object_row : ℕ → List ℕ → List ℕ → List ℕ → Value → Row
object_row at kind name table made_by = Int (pos at) ∷ text kind ∷ text name ∷ text table ∷ made_by ∷ []

abbrev pub table_row : ℕ → List ℕ → List ℕ → Row
table_row at name made_by = object_row at (codes "table") name name (text made_by)

-- .. of an index: its table, and the text that makes it or nothing
abbrev pub index_row : ℕ → Index → List ℕ → Value → Row
index_row at index table made_by = object_row at (codes "index") index.name table made_by

abbrev pub kept_objects : List Row
kept_objects = table_row 1 (codes "settings") schema.SETTINGS.now ∷ index_row 2 settings_key (codes "settings") Null ∷ table_row 3 (codes "programs") schema.PROGRAMS.now
    ∷ table_row 4 (codes "scripts") schema.SCRIPTS.now ∷ table_row 5 (codes "batches") schema.BATCHES.now
    ∷ index_row 6 batches_by_stripe (codes "batches") (text schema.BATCHES_BY_STRIPE.now) ∷ []
