-- A database that lists just the objects of a new file has the tables of one.
use Rattle.std.proofs.Common.{◌≡◌, ◌∙◌, ◌⊎◌, ℕ, zero, suc, slice_get, ◌+◌, ◌<◌, pos, Bool, true, false, not, List, [], ◌∷◌, map, filter, codes, Option, None, Some, Result, Ok, Err, OnOk, MatchBool, IsSome, IfSome, IsTrue, refl, sym, ap, ap₂, subst, subst₂, inl, inr, arith, IsUtf8}
use Rattle.std.specs.List.{AllByRecursion, AllZip}
use Rattle.std.proofs.lemmas.Bool.{and_parts, and_from, and_left, or_parts, cases_Bool}
use Rattle.std.specs.Str.{bytes_eq}
use Rattle.std.proofs.lemmas.Slice.Eq.{bytes_eq-Decides}
use Rattle.std.specs.Str.{chars, is_utf8}
use Rattle.std.proofs.lemmas.Str.{IsUtf8-from_is_utf8}
use Rattle.std.specs.Fmt.{digits}
use Rattle.std.specs.Ordering.{is_eq}
use Rattle.std.proofs.Math.Logic.{∥∥₁_elim}
use Rattle.sqlite.specs.Effect.{Database, IsDatabase}
use Rattle.sqlite.specs.Files.{AreFoundIn}
use Rattle.sqlite.specs.State.{State, IsUnchanged}
use Rattle.sqlite_store.specs.Listed.{catalog_rows, is_listed}
use Rattle.sqlite_store.specs.Listing.{all_reals, all_shapes, file_trees}
use Rattle.sqlite_store.proofs.ListingLemmas.{all_ordered}
use Rattle.sqlite_pool.specs.File.{in_use, version_in}
use Rattle.sqlite_trees.specs.declared.store.Shape.{Shape}
use Rattle.sqlite_trees.specs.Objects.{IsListed}
use Rattle.sqlite_trees.specs.Props.{IsOrdered-prop}
use Rattle.sqlite_trees.specs.View.{IsOrdered, IsShaped, is_int}
use Rattle.sqlite.specs.Order.{Row, column}
use Rattle.sqlite.specs.Schema.{Schema}
use Rattle.sqlite.specs.Compile.{table_defined_by}
use Rattle.sqlite_resolve.specs.Compile.{defined_is_read}
use Rattle.sqlite_value.specs.declared.value.Value.{Value}
use Rattle.sqlite_value.specs.declared.value.Value.TheVariants.{Int, Null, Text}
use Rattle.sqlite_value.specs.Order.{value_cmp}
use Rattle.sqlite_trees.specs.Objects.{catalog_tree}
use Rattle.sqlite_trees.specs.Tree.{Trees, IsTable, rowid}
use Rattle.sqlite_schema.specs.Names.{same_name}
use Rattle.sqlite_schema.specs.declared.schema.Index.{Index}
use Rattle.sqlite_schema.specs.declared.schema.Table.{Table}
use Rattle.sqlite_schema.specs.declared.schema.View.{View as Stored}
use Rattle.sqlite_catalog.specs.Listing.{AreListed, IsTableRow, IsIndexRow, IsViewRow, IsAside, IsReadable, IsOwned, IsDefined, is_binder_of, automatic, is_table_row, is_view_row, is_index_row, is_formed, is_unread}
use Rattle.sqlite_catalog.proofs.LayoutLemmas.{zipped_left, zipped_right, table_shape}
use Rattle.sqlite_rules.specs.Lists.{Has}
use Rattle.sqlite_rules.proofs.ListLemmas.{all_has, all_from, has_filtered, has_kept}
use Rattle.sqlite_rules.proofs.ProbeLemmas.{has_mapped, mapped_has}
use Rattle.kept_file.specs.Content.{HasTables, IsJustOpened, ListsKept}
use Rattle.kept_file.specs.Tables.{batches_tree, table_row, index_row, kept_objects, kept_schema, settings_table, settings_key, programs_table, scripts_table, batches_table, batches_by_stripe}
use Rattle.kept_file.specs.declared.fault.KeepFault.{KeepFault}
use Rattle.kept_file.specs.declared.schema.TheConstants as schema
use Rattle.kept_file.proofs.ListedLemmas.{ShowsObjects, front, shows_objects}
use Rattle.kept_file.proofs.ReadLemmas.{objects_read, shown_of}
use Rattle.kept_file.proofs.StoredLemmas.{same_rows}
use Rattle.kept_file.specs.declared.tables.TheConstants.{OBJECTS}
use Rattle.kept_file.proofs.TextLemmas.{settings_made, programs_made, scripts_made, batches_made, by_stripe_made}

-- ---- the list has these rows in this order

fronts_rise : (objects : List Row) → IsTable objects → IsTable (map front objects)
fronts_rise [] up = tt
fronts_rise (o ∷ more) up = (all_from _ (map front more) (λ row h. let r = has_mapped front more row h in rw r.2 (all_has _ more r.0 up.0 r.1)), fronts_rise more up.1)

kept_rise : IsTable kept_objects
unfolding value_cmp lib.Ieee.is_nan lib.Ieee.lt
kept_rise =
    ((refl, (refl, (refl, (refl, (refl, tt))))), ((refl, (refl, (refl, (refl, tt)))), ((refl, (refl, (refl, tt))), ((refl, (refl, tt)), ((refl, tt), (tt, tt))))))

pub fronts_are : (objects : List Row) → IsTable objects → ShowsObjects objects kept_objects → map front objects ≡ kept_objects
fronts_are objects rising all = same_rows (map front objects) kept_objects (fronts_rise objects rising) kept_rise
    (λ r h. let o = has_mapped front objects r h in rw o.2 (all.complete o.0 o.1))
    (λ r h. let o = all.sound r h in rw o.2 (mapped_has front objects o.0 o.1))

-- ---- what each row makes

abbrev pub at_tree : Table → ℕ → Table
at_tree table tree = record table { tree = tree }

-- a table by its row, its number and its text
made_so : (o : Row) (t wanted : Table) (text : List ℕ) → IsTableRow o t → column o 0 ≡ Int (pos (wanted.tree + 1)) → column o 4 ≡ Text text
    → table_defined_by text ≡ Ok (at_tree wanted 0) → t ≡ wanted
made_so o t wanted text is id made_by made =
    let sql : is.sql ≡ text = let e = sym is.sql_is ∙ made_by in cc in
    let tree : t.tree ≡ wanted.tree = let e : Int (pos (t.tree + 1)) ≡ Int (pos (wanted.tree + 1)) = sym is.described.id ∙ id in let n : t.tree + 1 ≡ wanted.tree + 1 = cc in omega (arith, n) in
    let known : is.defined.0 ≡ at_tree wanted 0 = let e = sym is.defined.1 ∙ (ap table_defined_by sql ∙ made) in cc in
    is.defined.2 ∙ (ap (λ m. at_tree m t.tree) known ∙ ap (at_tree wanted) tree)

-- the index of the key that is the table's only UNIQUE
pub key_of : (index : Index) (table : Table) (key : List ℕ) → table.uniques ≡ key ∷ [] → IsDefined table index Null → index ≡ automatic table 0 key index.tree
key_of index table key one is = go is.0 is.1 is.2 is.3
  where
    go : (at : ℕ) (found : List ℕ) → slice_get table.uniques at ≡ Some found → index ≡ automatic table at found index.tree → index ≡ automatic table 0 key index.tree
    go zero found there made = let e : found ≡ key = let s = rw one at there in cc in subst (λ k. index ≡ automatic table 0 k index.tree) e made
    go (suc at) found there made = absurd (let s = rw one at there in cc)

abbrev pub tables : List Table
tables = kept_schema.tables

-- an index of a new file, its table, and the text that makes it, if any
pub record KeptIndex : Type 0 where
  pub index : Index
  pub table : Table
  pub made_by : Value

abbrev pub by_key : KeptIndex
by_key = record { index = settings_key; table = settings_table; made_by = Null }

abbrev pub by_stripe : KeptIndex
by_stripe = record { index = batches_by_stripe; table = batches_table; made_by = Text schema.BATCHES_BY_STRIPE.now }

abbrev pub kept_indexes : List KeptIndex
kept_indexes = by_key ∷ by_stripe ∷ []

pub record ShowsTable (o : Row) (t : Table) : Type 0 where
  pub id : column o 0 ≡ Int (pos (t.tree + 1))
  pub kind : column o 1 ≡ Text (codes "table")
  pub name : column o 2 ≡ Text t.name
  pub owner : column o 3 ≡ Text t.name
  pub text : List ℕ
  pub made_by : column o 4 ≡ Text text
  pub made : table_defined_by text ≡ Ok (at_tree t 0)

pub record ShowsIndex (o : Row) (k : KeptIndex) : Type 0 where
  pub id : column o 0 ≡ Int (pos (k.index.tree + 1))
  pub kind : column o 1 ≡ Text (codes "index")
  pub name : column o 2 ≡ Text k.index.name
  pub owner : column o 3 ≡ Text k.table.name
  pub made_by : column o 4 ≡ k.made_by

shows_table : (o : Row) (t : Table) (text : List ℕ) → table_defined_by text ≡ Ok (at_tree t 0) → front o ≡ table_row (t.tree + 1) t.name text → ShowsTable o t
shows_table o t text made e = record {
  id = ap (λ (r : Row). column r 0) e;
  kind = ap (λ (r : Row). column r 1) e;
  name = ap (λ (r : Row). column r 2) e;
  owner = ap (λ (r : Row). column r 3) e;
  text = text;
  made_by = ap (λ (r : Row). column r 4) e;
  made = made;
}

shows_index : (o : Row) (k : KeptIndex) → front o ≡ index_row (k.index.tree + 1) k.index k.table.name k.made_by → ShowsIndex o k
shows_index o k e = record {
  id = ap (λ (r : Row). column r 0) e;
  kind = ap (λ (r : Row). column r 1) e;
  name = ap (λ (r : Row). column r 2) e;
  owner = ap (λ (r : Row). column r 3) e;
  made_by = ap (λ (r : Row). column r 4) e;
}

abbrev pub IsKept : Row → Type 0
IsKept o = ((t : Table) × Has tables t × ShowsTable o t) ⊎ ((k : KeptIndex) × Has kept_indexes k × ShowsIndex o k)

kept : (o : Row) → Has kept_objects (front o) → IsKept o
kept o (inl e) = inl (settings_table, inl refl, shows_table o settings_table _ settings_made e)
kept o (inr (inl e)) = inr (by_key, inl refl, shows_index o by_key e)
kept o (inr (inr (inl e))) = inl (programs_table, inr (inl refl), shows_table o programs_table _ programs_made e)
kept o (inr (inr (inr (inl e)))) = inl (scripts_table, inr (inr (inl refl)), shows_table o scripts_table _ scripts_made e)
kept o (inr (inr (inr (inr (inl e))))) = inl (batches_table, inr (inr (inr (inl refl))), shows_table o batches_table _ batches_made e)
kept o (inr (inr (inr (inr (inr (inl e)))))) = inr (by_stripe, inr (inl refl), shows_index o by_stripe e)
kept o (inr (inr (inr (inr (inr (inr none)))))) = absurd none

-- ---- no object is one that the database keeps aside

pub record IsPlainTable (t : Table) : Type 0 where
  pub low : t.tree < 65536
  pub formed : is_formed t ≡ true
  pub utf8 : IsUtf8 t.name

plain_table : (t : Table) → Has tables t → IsPlainTable t
unfolding is_utf8 chars lib.Utf8.encode
plain_table t (inl e) = rw e (record { low = omega arith; formed = refl; utf8 = IsUtf8-from_is_utf8 (codes "settings") refl })
plain_table t (inr (inl e)) = rw e (record { low = omega arith; formed = refl; utf8 = IsUtf8-from_is_utf8 (codes "programs") refl })
plain_table t (inr (inr (inl e))) = rw e (record { low = omega arith; formed = refl; utf8 = IsUtf8-from_is_utf8 (codes "scripts") refl })
plain_table t (inr (inr (inr (inl e)))) = rw e (record { low = omega arith; formed = refl; utf8 = IsUtf8-from_is_utf8 (codes "batches") refl })
plain_table t (inr (inr (inr (inr none)))) = absurd none

pub readable : (o : Row) (t : Table) → Has tables t → ShowsTable o t → IsReadable o
readable o t h shows =
    let plain = plain_table t h in (
      t,
      record {
        names = record { low = plain.low; id = shows.id; kind_is = shows.kind; name_is = shows.name; owner_is = shows.owner };
        sql = shows.text;
        sql_is = shows.made_by;
        defined = (at_tree t 0, shows.made, refl);
        formed = plain.formed;
        utf8 = plain.utf8;
      },
    )

differ : (a b : List ℕ) → bytes_eq a b ≡ false → a ≡ b → ⊥
differ a b other e = let same = (bytes_eq-Decides a b).1 e in cc

index_word : codes "index" ≡ codes "table" → ⊥
index_word = differ (codes "index") (codes "table") refl

-- no index has the name of a table that has one
no_index : (k other : KeptIndex) → Has kept_indexes k → Has kept_indexes other → same_name other.index.name k.table.name ≡ true → ⊥
unfolding same_name
no_index k other (inl e) (inl f) same = let s = rw (e, f) at same in cc
no_index k other (inl e) (inr (inl f)) same = let s = rw (e, f) at same in cc
no_index k other (inr (inl e)) (inl f) same = let s = rw (e, f) at same in cc
no_index k other (inr (inl e)) (inr (inl f)) same = let s = rw (e, f) at same in cc
no_index k other (inr (inr none)) f same = none
no_index k other e (inr (inr none)) same = none

-- the text that makes an index is understood
understood_index : (k : KeptIndex) → Has kept_indexes k → is_unread k.made_by ≡ false
understood_index k (inl e) = rw e refl
understood_index k (inr (inl e)) = rw (e, defined_is_read batches_table schema.BATCHES_BY_STRIPE.now _ by_stripe_made) refl
understood_index k (inr (inr none)) = absurd none

-- the kind of a row is one word
other_kind : (o : Row) (a b : List ℕ) → column o 1 ≡ Text a → column o 1 ≡ Text b → a ≡ b
other_kind o a b p q = let e = sym p ∙ q in cc

module _ (objects : List Row) (schema : Schema) (are : AreListed objects schema) (all : (o : Row) → Has objects o → IsKept o) where
  aside_row : (w : Stored) → Has schema.views w → (o : Row) × Has objects o × IsViewRow o w
  aside_row w h = let r = zipped_left IsViewRow _ schema.views w are.views h in (r.0, (has_filtered is_view_row objects r.0 r.1).0, r.2)

  unbinding_index : (o : Row) (w : Stored) (k : KeptIndex) (kind owner : List ℕ) (code : ℕ) (foreign : Option (List ℕ)) → Has kept_indexes k → ShowsIndex o k → kind ≡ codes "index"
      → IsAside o w kind owner code foreign → w.binds ≡ false
  unbinding_index o w k kind owner code None there shows is aside = absurd (differ (codes "index") (codes "view") refl (sym is ∙ aside.0))
  unbinding_index o w k kind owner code (Some table) there shows is aside = elim aside.2 [
    | inl a ↦ absurd (index_word (sym is ∙ a.0))
    | inr (inl b) ↦ b.2 ∙ (ap is_unread shows.made_by ∙ understood_index k there)
    | inr (inr c) ↦ absurd (differ (codes "index") (codes "trigger") refl (sym is ∙ c.0))
  ]

  unbinding_table : (o : Row) (w : Stored) (kind owner : List ℕ) (code : ℕ) (foreign : Option (List ℕ)) → kind ≡ codes "table" → IsAside o w kind owner code foreign → w.binds ≡ false
  unbinding_table o w kind owner code None is aside = absurd (differ (codes "table") (codes "view") refl (sym is ∙ aside.0))
  unbinding_table o w kind owner code (Some table) is aside = elim aside.2 [
    | inl a ↦ a.2
    | inr (inl b) ↦ absurd (index_word (sym b.0 ∙ is))
    | inr (inr c) ↦ absurd (differ (codes "table") (codes "trigger") refl (sym is ∙ c.0))
  ]

  unbinding : (w : Stored) → Has schema.views w → w.binds ≡ false
  unbinding w h =
      let r = aside_row w h in
      elim (all r.0 r.1) [
        | inl t ↦ unbinding_table r.0 w r.2.kind r.2.owner r.2.code w.foreign (other_kind r.0 _ _ r.2.described.kind_is t.2.kind) r.2.aside
        | inr k ↦ unbinding_index r.0 w k.0 r.2.kind r.2.owner r.2.code w.foreign k.1 k.2 (other_kind r.0 _ _ r.2.described.kind_is k.2.kind) r.2.aside
      ]

  unowned : (w : Stored) (foreign : Option (List ℕ)) → IfSome foreign (λ owner.
      AllByRecursion (λ t. same_name t.name owner ≡ false) schema.tables × ((it : Stored) × Has schema.views it × IsSome it.foreign × (same_name it.name owner ≡ true))
      × (w.is_bound ≡ true → (it : Stored) × Has schema.views it × (is_binder_of w.name it ≡ true))) → IsSome foreign → w.is_bound ≡ true → ⊥
  unowned w None owned some bound = absurd cc
  unowned w (Some owner) owned some bound =
      let it = owned.2 bound in
      let binds = (and_parts it.0.binds _ it.2).0 in
      let none = unbinding it.0 it.1 in cc

  table_aside : (o : Row) (w : Stored) (t : Table) (kind owner : List ℕ) (code : ℕ) (foreign : Option (List ℕ)) → Has tables t → ShowsTable o t → Has schema.views w → kind ≡ codes "table"
      → w.foreign ≡ foreign → IsAside o w kind owner code foreign → ⊥
  table_aside o w t kind owner code None there shows h is none aside = differ (codes "table") (codes "view") refl (sym is ∙ aside.0)
  table_aside o w t kind owner code (Some table) there shows h is some aside = elim aside.2 [
    | inl a ↦ by w.is_bound refl a.3
    | inr (inl b) ↦ index_word (sym b.0 ∙ is)
    | inr (inr c) ↦ differ (codes "table") (codes "trigger") refl (sym is ∙ c.0)
  ]
    where
      by : (b : Bool) → w.is_bound ≡ b → MatchBool b (IsReadable o) (¬ IsReadable o) → ⊥
      by true bound reads = unowned w w.foreign (all_has (IsOwned schema) schema.views w are.owned h) (rw some refl) bound
      by false free unread = unread (readable o t there shows)

  -- the table of an object that is kept aside is kept aside too
  index_aside : (o : Row) (w : Stored) (k : KeptIndex) (kind owner : List ℕ) (code : ℕ) (foreign : Option (List ℕ)) → ShowsIndex o k → kind ≡ codes "index" → column o 3 ≡ Text owner
      → w.foreign ≡ foreign → IsAside o w kind owner code foreign → (foreign ≡ Some owner) × (owner ≡ k.table.name)
  index_aside o w k kind owner code None shows is owned none aside = absurd (differ (codes "index") (codes "view") refl (sym is ∙ aside.0))
  index_aside o w k kind owner code (Some table) shows is owned some aside = (ap Some (sym aside.0), let e = sym owned ∙ shows.owner in cc)

  table_view : (w : Stored) → (o : Row) × (t : Table) × Has tables t × ShowsTable o t × IsViewRow o w → Has schema.views w → ⊥
  table_view w r h = table_aside r.0 w r.1 r.4.kind r.4.owner r.4.code w.foreign r.2 r.3 h (other_kind r.0 _ _ r.4.described.kind_is r.3.kind) refl r.4.aside

  -- the table of an index, by its name, is no index
  table_only : (w : Stored) (owner : List ℕ) → (k : KeptIndex) × Has kept_indexes k × (owner ≡ k.table.name) → Has schema.views w → same_name w.name owner ≡ true → ⊥
  table_only w owner of h same =
      let r = aside_row w h in
      elim (all r.0 r.1) [
        | inl t ↦ table_view w (r.0, t.0, t.1, t.2, r.2) h
        | inr k ↦
            let name : w.name ≡ k.0.index.name = let e = sym r.2.described.name_is ∙ k.2.name in cc in
            no_index of.0 k.0 of.1 k.1 (subst (λ n. same_name k.0.index.name n ≡ true) of.2 (subst (λ n. same_name n owner ≡ true) name same))
      ]

  no_view : (w : Stored) → Has schema.views w → ⊥
  no_view w h =
      let r = aside_row w h in
      elim (all r.0 r.1) [
        | inl t ↦ table_view w (r.0, t.0, t.1, t.2, r.2) h
        | inr k ↦
            let of = index_aside r.0 w k.0 r.2.kind r.2.owner r.2.code w.foreign k.2 (other_kind r.0 _ _ r.2.described.kind_is k.2.kind) r.2.described.owner_is refl r.2.aside in
            let owned : IfSome (Some r.2.owner) (λ owner. AllByRecursion (λ t. same_name t.name owner ≡ false) schema.tables
            × ((it : Stored) × Has schema.views it × IsSome it.foreign × (same_name it.name owner ≡ true)) × (w.is_bound ≡ true → (it : Stored) × Has schema.views it × (is_binder_of w.name it ≡ true)))
            = rw of.0 at (all_has (IsOwned schema) schema.views w are.owned h) in
            let it = owned.1 in
            table_only it.0 r.2.owner (k.0, k.1, of.1) it.1 it.3
      ]

  pub plain_row : (o : Row) → Has objects o → is_view_row o ≡ false
  plain_row o h = elim (cases_Bool (is_view_row o)) [
    | inl aside ↦ absurd (let r = zipped_right IsViewRow _ schema.views o are.views (has_kept is_view_row objects o h aside) in no_view r.0 r.1)
    | inr plain ↦ plain
  ]

-- a table by its name
named : (t : Table) (k : KeptIndex) → Has tables t → Has kept_indexes k → t.name ≡ k.table.name → t ≡ k.table
named t k (inl e) (inl f) same = e ∙ ap (λ (i : KeptIndex). i.table) (sym f)
named t k (inr (inl e)) (inl f) same = absurd (differ (codes "programs") (codes "settings") refl (rw (e, f) at same))
named t k (inr (inr (inl e))) (inl f) same = absurd (differ (codes "scripts") (codes "settings") refl (rw (e, f) at same))
named t k (inr (inr (inr (inl e)))) (inl f) same = absurd (differ (codes "batches") (codes "settings") refl (rw (e, f) at same))
named t k (inl e) (inr (inl f)) same = absurd (differ (codes "settings") (codes "batches") refl (rw (e, f) at same))
named t k (inr (inl e)) (inr (inl f)) same = absurd (differ (codes "programs") (codes "batches") refl (rw (e, f) at same))
named t k (inr (inr (inl e))) (inr (inl f)) same = absurd (differ (codes "scripts") (codes "batches") refl (rw (e, f) at same))
named t k (inr (inr (inr (inl e)))) (inr (inl f)) same = e ∙ ap (λ (i : KeptIndex). i.table) (sym f)
named t k (inr (inr (inr (inr none)))) f same = absurd none
named t k e (inr (inr none)) same = absurd none

-- an index by what makes it
abbrev in_tree : Index → ℕ → Index
in_tree index tree = record index { tree = tree }

key_so : (index : Index) → IsDefined settings_table index Null → index ≡ in_tree settings_key index.tree
unfolding digits
key_so index is = key_of index settings_table (1 ∷ []) refl is

by_stripe_so : (index : Index) → IsDefined batches_table index (Text schema.BATCHES_BY_STRIPE.now) → index ≡ in_tree batches_by_stripe index.tree
by_stripe_so index is =
    let made : is.0 ≡ in_tree batches_by_stripe 0 = let e = sym is.1 ∙ by_stripe_made in cc in
    is.2 ∙ ap (λ (m : Index). record m { tree = index.tree; table = batches_tree }) made

index_so : (k : KeptIndex) (index : Index) → Has kept_indexes k → IsDefined k.table index k.made_by → index ≡ in_tree k.index index.tree
index_so k index (inl e) is = subst (λ (i : KeptIndex). index ≡ in_tree i.index index.tree) (sym e) (key_so index (subst (λ (i : KeptIndex). IsDefined i.table index i.made_by) e is))
index_so k index (inr (inl e)) is =
    subst (λ (i : KeptIndex). index ≡ in_tree i.index index.tree) (sym e) (by_stripe_so index (subst (λ (i : KeptIndex). IsDefined i.table index i.made_by) e is))
index_so k index (inr (inr none)) is = absurd none

-- .. by its row and its table
pub indexed_so : (o : Row) (index : Index) (all : List Table) (k : KeptIndex) → all ≡ tables → Has kept_indexes k → IsIndexRow all o index → ShowsIndex o k → index ≡ k.index
indexed_so o index all k is there row shows =
    let name : row.table.name ≡ k.table.name = let e = sym row.described.owner_is ∙ shows.owner in cc in
    let table : row.table ≡ k.table = named row.table k (subst (λ l. Has l row.table) is row.listed) there name in
    let defined : IsDefined k.table index k.made_by = subst₂ (λ u v. IsDefined u index v) table shows.made_by row.defined in
    let tree : index.tree ≡ k.index.tree = let e : Int (pos (index.tree + 1)) ≡ Int (pos (k.index.tree + 1)) = sym row.described.id ∙ shows.id in let n : index.tree + 1 ≡ k.index.tree + 1 = cc in omega (arith, n) in
    index_so k index there defined ∙ ap (in_tree k.index) tree

-- ---- the schema that is listed so

table_row_is : (o : Row) (t : Table) → ShowsTable o t → is_view_row o ≡ false → is_table_row o ≡ true
unfolding value_cmp lib.Ieee.is_nan lib.Ieee.lt
table_row_is o t shows plain = and_from (is_eq (value_cmp (column o 1) (Text (codes "table")))) _ (rw shows.kind refl) (ap not (or_parts (is_eq (value_cmp (column o 1) (Text (codes "view")))) _ plain).1)

no_table_row : (o : Row) (k : KeptIndex) → ShowsIndex o k → is_table_row o ≡ false
unfolding value_cmp lib.Ieee.is_nan lib.Ieee.lt
no_table_row o k shows = and_left (is_eq (value_cmp (column o 1) (Text (codes "table")))) _ (rw shows.kind refl)

index_row_is : (o : Row) (k : KeptIndex) → ShowsIndex o k → is_view_row o ≡ false → is_index_row o ≡ true
index_row_is o k shows plain = rw (no_table_row o k shows, plain) refl

no_index_row : (o : Row) (t : Table) → ShowsTable o t → is_view_row o ≡ false → is_index_row o ≡ false
no_index_row o t shows plain = rw (table_row_is o t shows plain) refl

module _ {A B : Type 0} (R : A → B → Type 0) where
  zip_cons : (x : A) (xs : List A) (ys : List B) → AllZip R (x ∷ xs) ys → (y : B) × (more : List B) × (ys ≡ y ∷ more) × R x y × AllZip R xs more
  zip_cons x xs [] all = absurd all
  zip_cons x xs (y ∷ more) all = (y, more, refl, all.0, all.1)

  zip_nil : (ys : List B) → AllZip R [] ys → ys ≡ []
  zip_nil [] all = refl
  zip_nil (y ∷ ys) all = absurd all

nobody : {X : Type 0} (xs : List X) → ((x : X) → Has xs x → ⊥) → xs ≡ []
nobody [] none = refl
nobody (x ∷ xs) none = absurd (none x (inl refl))

-- a list by its first and the others
more : {X : Type 0} (xs : List X) (x y : X) (rest others : List X) → xs ≡ x ∷ rest → x ≡ y → rest ≡ others → xs ≡ y ∷ others
more xs x y rest others is first later = is ∙ ap₂ ◌∷◌ first later

pub record Are (o0 o1 o2 o3 o4 o5 : Row) : Type 0 where
  pub settings : ShowsTable o0 settings_table
  pub settings_key : ShowsIndex o1 by_key
  pub programs : ShowsTable o2 programs_table
  pub scripts : ShowsTable o3 scripts_table
  pub batches : ShowsTable o4 batches_table
  pub batches_by_stripe : ShowsIndex o5 by_stripe

module _ (o0 o1 o2 o3 o4 o5 : Row) (shows : Are o0 o1 o2 o3 o4 o5) (schema : Schema) (are : AreListed (o0 ∷ o1 ∷ o2 ∷ o3 ∷ o4 ∷ o5 ∷ []) schema) where
  abbrev six : List Row
  six = o0 ∷ o1 ∷ o2 ∷ o3 ∷ o4 ∷ o5 ∷ []

  each : (o : Row) → Has six o → IsKept o
  each o (inl e) = rw e (inl (settings_table, inl refl, shows.settings))
  each o (inr (inl e)) = rw e (inr (by_key, inl refl, shows.settings_key))
  each o (inr (inr (inl e))) = rw e (inl (programs_table, inr (inl refl), shows.programs))
  each o (inr (inr (inr (inl e)))) = rw e (inl (scripts_table, inr (inr (inl refl)), shows.scripts))
  each o (inr (inr (inr (inr (inl e))))) = rw e (inl (batches_table, inr (inr (inr (inl refl))), shows.batches))
  each o (inr (inr (inr (inr (inr (inl e)))))) = rw e (inr (by_stripe, inr (inl refl), shows.batches_by_stripe))
  each o (inr (inr (inr (inr (inr (inr none)))))) = absurd none

  plain : (o : Row) → Has six o → is_view_row o ≡ false
  plain = plain_row six schema are each

  table_rows : filter is_table_row six ≡ o0 ∷ o2 ∷ o3 ∷ o4 ∷ []
  table_rows = rw (
    table_row_is o0 _ shows.settings (plain o0 (inl refl)),
    no_table_row o1 _ shows.settings_key,
    table_row_is o2 _ shows.programs (plain o2 (inr (inr (inl refl)))),
    table_row_is o3 _ shows.scripts (plain o3 (inr (inr (inr (inl refl))))),
    table_row_is o4 _ shows.batches (plain o4 (inr (inr (inr (inr (inl refl)))))),
    no_table_row o5 _ shows.batches_by_stripe,
  ) refl

  index_rows : filter is_index_row six ≡ o1 ∷ o5 ∷ []
  index_rows = rw (
    no_index_row o0 _ shows.settings (plain o0 (inl refl)),
    index_row_is o1 _ shows.settings_key (plain o1 (inr (inl refl))),
    no_index_row o2 _ shows.programs (plain o2 (inr (inr (inl refl)))),
    no_index_row o3 _ shows.scripts (plain o3 (inr (inr (inr (inl refl))))),
    no_index_row o4 _ shows.batches (plain o4 (inr (inr (inr (inr (inl refl)))))),
    index_row_is o5 _ shows.batches_by_stripe (plain o5 (inr (inr (inr (inr (inr (inl refl))))))),
  ) refl

  tables_are : schema.tables ≡ tables
  tables_are =
      let a = zip_cons IsTableRow o0 (o2 ∷ o3 ∷ o4 ∷ []) schema.tables (subst (λ rows. AllZip IsTableRow rows schema.tables) table_rows are.tables) in
      let b = zip_cons IsTableRow o2 (o3 ∷ o4 ∷ []) a.1 a.4 in
      let c = zip_cons IsTableRow o3 (o4 ∷ []) b.1 b.4 in
      let d = zip_cons IsTableRow o4 [] c.1 c.4 in
      more schema.tables a.0 settings_table a.1 (programs_table ∷ scripts_table ∷ batches_table ∷ []) a.2 (made_so o0 a.0 settings_table _ a.3 shows.settings.id shows.settings.made_by shows.settings.made)
      (more a.1 b.0 programs_table b.1 (scripts_table ∷ batches_table ∷ []) b.2 (made_so o2 b.0 programs_table _ b.3 shows.programs.id shows.programs.made_by shows.programs.made)
      (more b.1 c.0 scripts_table c.1 (batches_table ∷ []) c.2 (made_so o3 c.0 scripts_table _ c.3 shows.scripts.id shows.scripts.made_by shows.scripts.made)
      (more c.1 d.0 batches_table d.1 [] d.2 (made_so o4 d.0 batches_table _ d.3 shows.batches.id shows.batches.made_by shows.batches.made) (zip_nil IsTableRow d.1 d.4))))

  indexes_are : schema.indexes ≡ kept_schema.indexes
  indexes_are =
      let zipped = subst (λ rows. AllZip (IsIndexRow schema.tables) rows schema.indexes) index_rows are.indexes in
      let a = zip_cons (IsIndexRow schema.tables) o1 (o5 ∷ []) schema.indexes zipped in
      let b = zip_cons (IsIndexRow schema.tables) o5 [] a.1 a.4 in
      more schema.indexes a.0 settings_key a.1 (batches_by_stripe ∷ []) a.2 (indexed_so o1 a.0 schema.tables by_key tables_are (inl refl) a.3 shows.settings_key)
      (more a.1 b.0 batches_by_stripe b.1 [] b.2 (indexed_so o5 b.0 schema.tables by_stripe tables_are (inr (inl refl)) b.3 shows.batches_by_stripe)
      (zip_nil (IsIndexRow schema.tables) b.1 b.4))

  views_are : schema.views ≡ []
  views_are = nobody schema.views (no_view six schema are each)

  schema_is : schema ≡ kept_schema
  schema_is = λ i. record { tables = tables_are i; indexes = indexes_are i; views = views_are i }

head_same : {X : Type 0} {x y : X} {xs ys : List X} → x ∷ xs ≡ y ∷ ys → x ≡ y
head_same e = cc

tail_same : {X : Type 0} {x y : X} {xs ys : List X} → x ∷ xs ≡ y ∷ ys → xs ≡ ys
tail_same e = cc

map_nil : (rows : List Row) → map front rows ≡ [] → rows ≡ []
map_nil [] e = refl
map_nil (o ∷ rest) e = absurd cc

uncons : (rows : List Row) (a : Row) (more : List Row) → map front rows ≡ a ∷ more → (o : Row) × (rest : List Row) × (rows ≡ o ∷ rest) × (front o ≡ a) × (map front rest ≡ more)
uncons [] a more e = absurd cc
uncons (o ∷ rest) a more e = (o, rest, refl, head_same e, tail_same e)

-- a database whose list has just the objects of a new file has its schema
pub schema_so : (objects : List Row) (schema : Schema) → AreListed objects schema → map front objects ≡ kept_objects → schema ≡ kept_schema
schema_so objects schema are fronts =
    let a = uncons objects _ _ fronts in
    let b = uncons a.1 _ _ a.4 in
    let c = uncons b.1 _ _ b.4 in
    let d = uncons c.1 _ _ c.4 in
    let e = uncons d.1 _ _ d.4 in
    let f = uncons e.1 _ _ e.4 in
    let end : f.1 ≡ [] = map_nil f.1 f.4 in
    let whole : objects ≡ a.0 ∷ b.0 ∷ c.0 ∷ d.0 ∷ e.0 ∷ f.0 ∷ [] =
    more objects a.0 a.0 a.1 (b.0 ∷ c.0 ∷ d.0 ∷ e.0 ∷ f.0 ∷ []) a.2 refl
    (more a.1 b.0 b.0 b.1 (c.0 ∷ d.0 ∷ e.0 ∷ f.0 ∷ []) b.2 refl
    (more b.1 c.0 c.0 c.1 (d.0 ∷ e.0 ∷ f.0 ∷ []) c.2 refl
    (more c.1 d.0 d.0 d.1 (e.0 ∷ f.0 ∷ []) d.2 refl
    (more d.1 e.0 e.0 e.1 (f.0 ∷ []) e.2 refl
    (more e.1 f.0 f.0 f.1 [] f.2 refl end))))) in
    let shows : Are a.0 b.0 c.0 d.0 e.0 f.0 = record {
      settings = shows_table a.0 settings_table _ settings_made a.3;
      settings_key = shows_index b.0 by_key b.3;
      programs = shows_table c.0 programs_table _ programs_made c.3;
      scripts = shows_table d.0 scripts_table _ scripts_made d.3;
      batches = shows_table e.0 batches_table _ batches_made e.3;
      batches_by_stripe = shows_index f.0 by_stripe f.3;
    } in
    schema_is a.0 b.0 c.0 d.0 e.0 f.0 shows schema (subst (λ rows. AreListed rows schema) {y = a.0 ∷ b.0 ∷ c.0 ∷ d.0 ∷ e.0 ∷ f.0 ∷ []} whole are)

-- ---- a file that was just opened

module _ (file : State) (is : IsDatabase file.now) (all : ListsKept file) where
  -- its trees are those of a store whose list of objects rises
  in_order : (shapes : ℕ → Shape) (reals : ℕ → ℕ) → IsOrdered shapes file.now.trees → IsListed (file.now.trees catalog_tree) shapes reals → HasTables file
  in_order shapes reals ordered listed =
      let objects = file.now.trees catalog_tree in
      let rising : IsTable objects = (subst (λ s. IsShaped s objects) listed.itself.0 (ordered catalog_tree)).0 in
      let are = is.lists.listed in
      let same : file.now.schema ≡ kept_schema = schema_so objects file.now.schema are (fronts_are objects rising (shows_objects file kept_objects is rising all)) in
      let there : Has file.now.schema.tables batches_table = subst (λ (s : Schema). Has s.tables batches_table) (sym same) (inr (inr (inr (inl refl)))) in
      let batches = subst (λ s. IsShaped s (file.now.trees batches_tree)) (table_shape listed rising are batches_table there).0 (ordered batches_tree) in
      record { tables = same; sound = is; ordered = batches.0; numbered = batches.1 }

  -- .. or there was nothing, and it lists nothing
  not_empty : file.now.trees catalog_tree ≡ [] → ⊥
  not_empty none =
      let shows = shows_objects file kept_objects is (subst IsTable (sym none) tt) all in
      let first = shows.sound (table_row 1 (codes "settings") schema.SETTINGS.now) (inl refl) in
      subst (λ l. Has l first.0) none first.1

pub has_tables : (file : State) → IsJustOpened file → ListsKept file → HasTables file
has_tables file just all = by just.found.reads
  where
    is : IsDatabase file.now
    is = (just.live just.opened.is_open).0

    trees : file.now.trees ≡ file.committed.trees
    trees = ap (λ (d : Database). d.trees) just.opened.clean

    by : AreFoundIn just.image file.committed.trees → HasTables file
    by (inl (size, pages, wanted, adopts, ours, reads)) =
        let same : file.now.trees ≡ file_trees size wanted pages = trees ∙ reads in
        let ordered = ∥∥₁_elim ours (IsOrdered-prop (all_shapes wanted) (file_trees size wanted pages)) (λ o. all_ordered o.file.db (version_in pages)) in
        in_order file is all (all_shapes wanted) (all_reals wanted) (subst (IsOrdered (all_shapes wanted)) (sym same) ordered)
        (subst (λ (t : Trees). IsListed (t catalog_tree) (all_shapes wanted) (all_reals wanted)) (sym same)
        (subst (λ rows. IsListed rows (all_shapes wanted) (all_reals wanted)) (sym (catalog_rows size wanted (in_use size pages))) (is_listed wanted)))
    by (inr none) = absurd (not_empty file is all (ap (λ (t : Trees). t catalog_tree) trees ∙ none.1.1))

-- a file that is as it was has its tables still
pub kept_tables : (file after : State) → HasTables file → IsUnchanged file after → HasTables after
kept_tables file after has later =
    let same : after.now ≡ file.now = later.0.now_is in
    record {
      tables = ap (λ (d : Database). d.schema) same ∙ has.tables;
      sound = subst IsDatabase (sym same) has.sound;
      ordered = subst (λ (d : Database). IsTable (d.trees batches_tree)) (sym same) has.ordered;
      numbered = subst (λ (d : Database). AllByRecursion (λ row. IsTrue (is_int (rowid row))) (d.trees batches_tree)) (sym same) has.numbered;
    }

pub tables_still : (file after : State) → IsJustOpened file → ListsKept file → IsUnchanged file after → HasTables after
tables_still file after just all = kept_tables file after (has_tables file just all)

-- a list that is shown later was there before, if nothing was changed
pub lists_before : {A : Type 0} (result : Result A KeepFault) (old file : State) → IsUnchanged old file → OnOk result (ListsKept file) → OnOk result (ListsKept old)
lists_before (Ok x) old file same all = (shown_of OBJECTS.now [] old file file kept_objects objects_read same all).0
lists_before (Err e) old file same all = all
