-- What the texts of a save mean over the tables of a file.
use Rattle.std.proofs.Common.{◌≡◌, ℕ, pos, negsuc, List, [], ◌∷◌, codes, false, None, Ok, refl}
use Rattle.sqlite.specs.Collation.TheVariants.{Binary}
use Rattle.sqlite.specs.declared.types.Value.TheVariants.{Null, Int}
use Rattle.sqlite.specs.Term.{Term, lit, col, op2}
use Rattle.sqlite.specs.Query.{Query, inner, end}
use Rattle.sqlite.specs.Source.TheVariants.{Values}
use Rattle.sqlite.specs.Command.TheVariants.{Insert, InsertOr, Delete, Select}
use Rattle.sqlite.specs.Compile.{compiled, table_defined_by}
use Rattle.sqlite_resolve.specs.Compile.{index_defined_by}
use Rattle.sqlite.specs.Listing.{understood, reads_listing, if_select, listing_schema}
use Rattle.sqlite.proofs.Callers.{IsPlain, command_of}
use Rattle.sqlite_schema.specs.declared.command.Conflict.TheVariants.{Replace}
use Rattle.sqlite_schema.specs.declared.program.Program.{Program}
use Rattle.sqlite_sql.specs.declared.ops.BinaryOp.TheVariants.{Compare}
use Rattle.sqlite_sql.specs.declared.ops.CompareOp.TheVariants.{Eq}
use Rattle.sqlite_tied.specs.Compute.{everything}
use Rattle.kept_file.specs.Tables.{kept_schema, settings_table, programs_table, scripts_table, batches_table, batches_by_stripe}
use Rattle.kept_file.specs.declared.batches.TheConstants.{BATCHES}
use Rattle.kept_file.specs.declared.tables.TheConstants.{OBJECTS}
use Rattle.kept_file.specs.declared.schema.TheConstants as schema

pub settings_made : table_defined_by schema.SETTINGS.now ≡ Ok (record settings_table { tree = 0 })
unfolding everything
settings_made = refl

pub programs_made : table_defined_by schema.PROGRAMS.now ≡ Ok (record programs_table { tree = 0 })
unfolding everything
programs_made = refl

pub scripts_made : table_defined_by schema.SCRIPTS.now ≡ Ok (record scripts_table { tree = 0 })
unfolding everything
scripts_made = refl

pub batches_made : table_defined_by schema.BATCHES.now ≡ Ok (record batches_table { tree = 0 })
unfolding everything
batches_made = refl

pub by_stripe_made : index_defined_by batches_table schema.BATCHES_BY_STRIPE.now ≡ Ok (record batches_by_stripe { tree = 0 })
unfolding everything
by_stripe_made = refl

-- what a batch's row is put in with
abbrev pub append_terms : List Term
append_terms = lit Null ∷ lit Null ∷ col 0 0 ∷ col 0 1 ∷ []

-- the stripe of a stored batch is the one that is given
abbrev pub of_stripe : Term
of_stripe = op2 (Compare Eq Binary) (col 1 2) (col 0 0)

-- its number is the one that is given
abbrev pub of_number : Term
of_number = op2 (Compare Eq Binary) (col 1 0) (col 0 0)

-- the rows of a tree that pass, with these columns
abbrev pub query_in : ℕ → List Term → List Term → Query
query_in tree filter project = record {
  from = inner tree end;
  filter = filter;
  group = None;
  project = project;
  distinct = false;
  collations = [];
  order = [];
  limit = lit (Int (negsuc 0));
  offset = lit (Int (pos 0));
}

-- those of the batches' table
abbrev pub query_of : List Term → List Term → Query
query_of = query_in 4

abbrev pub program_of : Query → Program
program_of query = record { lets = []; body = query }

pub append_is : command_of (understood kept_schema schema.APPEND.now) ≡ Insert 3 (Values append_terms 4)
unfolding understood everything
append_is = refl

pub numbers_is : command_of (understood kept_schema schema.NUMBERS.now) ≡ Select (program_of (query_of (of_stripe ∷ []) (col 1 0 ∷ []))) (codes "number" ∷ [])
unfolding understood everything
numbers_is = refl

pub remove_is : command_of (understood kept_schema schema.REMOVE.now) ≡ Delete 3 (program_of (query_of (of_number ∷ []) (col 1 0 ∷ [])))
unfolding understood everything
remove_is = refl

pub batches_is : command_of (understood kept_schema BATCHES.now)
    ≡ Select (program_of (query_of [] (col 1 0 ∷ col 1 2 ∷ col 1 3 ∷ []))) (codes "number" ∷ codes "stripe" ∷ codes "changes" ∷ [])
unfolding understood everything
batches_is = refl

pub append_plain : IsPlain (understood kept_schema schema.APPEND.now)
unfolding understood everything
append_plain = (refl, refl)

pub numbers_plain : IsPlain (understood kept_schema schema.NUMBERS.now)
unfolding understood everything
numbers_plain = (refl, refl)

pub numbers_unlisted : reads_listing kept_schema schema.NUMBERS.now ≡ false
unfolding understood everything
numbers_unlisted = refl

pub remove_plain : IsPlain (understood kept_schema schema.REMOVE.now)
unfolding understood everything
remove_plain = (refl, refl)

pub batches_plain : IsPlain (understood kept_schema BATCHES.now)
unfolding understood everything
batches_plain = (refl, refl)

pub batches_unlisted : reads_listing kept_schema BATCHES.now ≡ false
unfolding understood everything
batches_unlisted = refl

-- ---- the texts that have nothing to do with batches

abbrev pub set_terms : List Term
set_terms = lit Null ∷ col 0 0 ∷ col 0 1 ∷ []

abbrev pub script_terms : List Term
script_terms = lit Null ∷ lit Null ∷ col 0 0 ∷ []

abbrev pub program_terms : List Term
program_terms = col 0 0 ∷ lit Null ∷ col 0 1 ∷ col 0 2 ∷ col 0 3 ∷ col 0 4 ∷ col 0 5 ∷ []

pub set_is : command_of (understood kept_schema schema.SET.now) ≡ InsertOr 0 Replace (Values set_terms 3) []
unfolding understood everything
set_is = refl

pub set_plain : IsPlain (understood kept_schema schema.SET.now)
unfolding understood everything
set_plain = (refl, refl)

pub script_is : command_of (understood kept_schema schema.SCRIPT.now) ≡ Insert 2 (Values script_terms 3)
unfolding understood everything
script_is = refl

pub script_plain : IsPlain (understood kept_schema schema.SCRIPT.now)
unfolding understood everything
script_plain = (refl, refl)

pub program_is : command_of (understood kept_schema schema.PROGRAM.now)
    ≡ Insert 1 (Values program_terms 7)
unfolding understood everything
program_is = refl

pub program_plain : IsPlain (understood kept_schema schema.PROGRAM.now)
unfolding understood everything
program_plain = (refl, refl)

-- ---- the list of objects

abbrev pub object_terms : List Term
object_terms = col 1 0 ∷ col 1 1 ∷ col 1 2 ∷ col 1 3 ∷ col 1 5 ∷ []

pub objects_is : command_of (if_select (compiled listing_schema OBJECTS.now))
    ≡ Select (program_of (query_in 0 [] object_terms)) (codes "rowid" ∷ codes "type" ∷ codes "name" ∷ codes "tbl_name" ∷ codes "sql" ∷ [])
unfolding everything listing_schema
objects_is = refl

pub objects_plain : IsPlain (if_select (compiled listing_schema OBJECTS.now))
unfolding everything listing_schema
objects_plain = (refl, refl)
