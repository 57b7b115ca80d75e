-- Rows of some noted keys, one after another.
use Rattle.std.proofs.Common.{◌≡◌, ℕ, Bool, true, false, cond, List, [], ◌∷◌, ◌++◌, append_assoc, length, length-append, ◌+◌, Option, Some, None, Result, Ok, Err, OnOk, refl, sym, ap, ◌∙◌, ◌⊎◌, inl, inr}
use Rattle.std.specs.Prelude.{OnErr, is_err, is_some as is_there}
use Rattle.std.specs.FinMap as finite
use Rattle.std.proofs.lemmas.List.Elements.{All-nil, All-cons, All-append}
use Rattle.bins.specs.Ranks.{is_below, rank_in}
use Rattle.bins.specs.Table.{Table}
use Rattle.bins.proofs.DistinctEntries.{same_itself, differ}
use Rattle.timed_bins.specs.Deadlines.{TimedTable}
use Rattle.noted_bins.specs.declared.taken.Taken.TheVariants.{All as AllTaken, Begun, Some as SomeTaken, Rest}
use Rattle.noted_bins.specs.Hands.{HandsOut}
use Rattle.noted_bins.specs.Filters.{may_have}
use Rattle.noted_bins.specs.Notes.{NotedKeys, TakesChanges, has_entry, has_key, is_filtered, is_noted, is_some}
use Rattle.noted_bins.specs.Rows.{Row, has_row, row_of, same_key}
use Rattle.noted_bins.specs.Tours.{HandsOver, TourKeys, is_due, is_ahead}
use Rattle.noted_bins.specs.Taking.{HandsOutAll, HandsOutFiltered, HandsOutAhead}
use Rattle.noted_bins.proofs.KeyLemmas.{either_false, filtered_there, neither, not_in, not_noted, same_or_not, unnoted}

-- nothing was handed out
pub hands_none : (notes : NotedKeys) (table : TimedTable) → notes.all ≡ false → HandsOut notes table [] notes
hands_none notes table all = record { all = all; present = All-nil (λ (row : Row). row.1 ≡ row_of table row.0); known = λ key e. inr e }

-- a row at the end
pub row_before : (rows : List Row) (row : Row) (key : List ℕ) → has_row rows key ≡ true → has_row (rows ++ row ∷ []) key ≡ true
row_before [] row key e = absurd cc
row_before (one ∷ rows) row key e = by_test (same_key key one.0) (row_before rows row key) e
  where
    by_test : (b : Bool) → (has_row rows key ≡ true → has_row (rows ++ row ∷ []) key ≡ true) → cond b true (has_row rows key) ≡ true
        → cond b true (has_row (rows ++ row ∷ []) key) ≡ true
    by_test true more e = refl
    by_test false more e = more e

pub row_itself : (rows : List Row) (row : Row) → has_row (rows ++ row ∷ []) row.0 ≡ true
row_itself [] row = rw (same_itself row.0) refl
row_itself (one ∷ rows) row = by_test (same_key row.0 one.0) (row_itself rows row)
  where
    by_test : (b : Bool) → has_row (rows ++ row ∷ []) row.0 ≡ true → cond b true (has_row (rows ++ row ∷ []) row.0) ≡ true
    by_test true rest = refl
    by_test false rest = rest

-- rows before and after others
rows_before : (rows more : List Row) (key : List ℕ) → has_row rows key ≡ true → has_row (rows ++ more) key ≡ true
rows_before [] more key e = absurd cc
rows_before (one ∷ rows) more key e = by_test (same_key key one.0) (rows_before rows more key) e
  where
    by_test : (b : Bool) → (has_row rows key ≡ true → has_row (rows ++ more) key ≡ true) → cond b true (has_row rows key) ≡ true
        → cond b true (has_row (rows ++ more) key) ≡ true
    by_test true rest e = refl
    by_test false rest e = rest e

rows_after : (rows more : List Row) (key : List ℕ) → has_row more key ≡ true → has_row (rows ++ more) key ≡ true
rows_after [] more key e = e
rows_after (one ∷ rows) more key e = by_test (same_key key one.0) (rows_after rows more key e)
  where
    by_test : (b : Bool) → has_row (rows ++ more) key ≡ true → cond b true (has_row (rows ++ more) key) ≡ true
    by_test true rest = refl
    by_test false rest = rest

-- one more row was handed out, of the key at the end
hands_more : (old : NotedKeys) (table : TimedTable) (rows : List Row) (between new : NotedKeys) (rest : List (List ℕ)) (key : List ℕ)
    → HandsOut old table rows between → between.keys ≡ rest ++ key ∷ [] → new.all ≡ between.all → new.filter ≡ between.filter → new.keys ≡ rest
    → HandsOut old table (rows ++ (key, row_of table key) ∷ []) new
hands_more old table rows between new rest key hands keys all filter left = record {
  all = all ∙ hands.all;
  present = All-append (λ (row : Row). row.1 ≡ row_of table row.0) rows ((key, row_of table key) ∷ []) hands.present
      (All-cons (λ (row : Row). row.1 ≡ row_of table row.0) (key, row_of table key) [] refl (All-nil (λ (row : Row). row.1 ≡ row_of table row.0)));
  known = known;
}
  where
    row : Row
    row = (key, row_of table key)

    known : (other : List ℕ) → is_noted new table.table other ≡ false → (has_row (rows ++ row ∷ []) other ≡ true) ⊎ (is_noted old table.table other ≡ false)
    known other e = elim (same_or_not other key) [
      | inl same ↦ inl (ap (has_row (rows ++ row ∷ [])) same ∙ row_itself rows row)
      | inr apart ↦
          let why = unnoted new table.table other e in
          let in_rest : has_key rest other ≡ false = ap (λ (ks : List (List ℕ)). has_key ks other) (sym left) ∙ why.1.0 in
          let alone : has_key (key ∷ []) other ≡ false = either_false (same_key other key) false (differ other key apart) refl in
          let in_between : has_key between.keys other ≡ false = ap (λ (ks : List (List ℕ)). has_key ks other) keys ∙ not_in rest (key ∷ []) other in_rest alone in
          let filtered : is_filtered between.filter table.table other ≡ false = ap (λ (f : List Bool). is_filtered f table.table other) (sym filter) ∙ why.1.1 in
          elim (hands.known other (not_noted between table.table other hands.all in_between filtered)) [
            | inl has ↦ inl (row_before rows row other has)
            | inr before ↦ inr before
          ]
    ]

-- one more row was added to the changes
pub handed_more : (first changes more : List Row) (old between new : NotedKeys) (table : TimedTable) (key : List ℕ)
    → ((rows : List Row) × ((changes ≡ first ++ rows) × HandsOut old table rows between)) → ((rest : List (List ℕ)) × (between.keys ≡ rest ++ key ∷ []))
    → more ≡ changes ++ (key, row_of table key) ∷ [] → new.all ≡ between.all → new.filter ≡ between.filter
    → ((rest : List (List ℕ)) (k : List ℕ) → between.keys ≡ rest ++ k ∷ [] → new.keys ≡ rest)
    → (rows : List Row) × ((more ≡ first ++ rows) × HandsOut old table rows new)
handed_more first changes more old between new table key before end added all filter left =
    let row : Row = (key, row_of table key) in (
      before.0 ++ row ∷ [],
      (
        added ∙ ap (λ (rows : List Row). rows ++ row ∷ []) before.1.0 ∙ append_assoc first before.0 (row ∷ []),
        hands_more old table before.0 between new end.0 key before.1.1 end.1 all filter (left end.0 key end.1),
      ),
    )

-- .. so there is one more
pub longer_by_one : (old new : List Row) (row : Row) → new ≡ old ++ row ∷ [] → length new ≡ length old + 1
longer_by_one old new row added = ap length added ∙ length-append old (row ∷ [])

-- none is noted
none_noted : (new : NotedKeys) (table : TimedTable) → new.all ≡ false → new.keys ≡ [] → new.filter ≡ [] → (key : List ℕ) → is_noted new table.table key ≡ false
none_noted new table all none off key =
    not_noted new table.table key all (ap (λ (ks : List (List ℕ)). has_key ks key) none) (ap (λ (f : List Bool). is_filtered f table.table key) off)

pub noted_or_not : (b : Bool) → (b ≡ true) ⊎ (b ≡ false)
noted_or_not true = inl refl
noted_or_not false = inr refl

-- what was told by whether it failed
pub if_err : {T E P : Type 0} (r : Result T E) → true ≡ is_err r → OnErr r P → P
if_err (Ok x) e told = absurd cc
if_err (Err x) e told = told

pub if_ok : {T E P : Type 0} (r : Result T E) → false ≡ is_err r → OnOk r P → P
if_ok (Ok x) e told = told
if_ok (Err x) e told = absurd cc

-- rows of keys that are due, one part after another
module _ (table : TimedTable) where
  -- what is handed over in two parts
  pub hands_then : (first second third : List ℕ → Bool) (rows more : List Row) → HandsOver first table rows second → HandsOver second table more third → HandsOver first table (rows ++ more) third
  hands_then first second third rows more one other = record {
    present = All-append (λ (row : Row). row.1 ≡ row_of table row.0) rows more one.present other.present;
    known = known;
  }
    where
      known : (key : List ℕ) → third key ≡ false → (has_row (rows ++ more) key ≡ true) ⊎ (first key ≡ false)
      known key e = elim (other.known key e) [
        | inl has ↦ inl (rows_after rows more key has)
        | inr not ↦
            elim (one.known key not) [
              | inl has ↦ inl (rows_before rows more key has)
              | inr none ↦ inr none
            ]
      ]

  -- as many are due in another way
  pub hands_less : (first second third : List ℕ → Bool) (rows : List Row) → HandsOver first table rows second → ((key : List ℕ) → third key ≡ false → second key ≡ false) → HandsOver first table rows third
  hands_less first second third rows hands less = record { present = hands.present; known = λ key e. hands.known key (less key e) }

  -- from the lists
  pub hands_lists : (old new : NotedKeys) (tour : TourKeys) (order : List (List ℕ)) (rows : List Row) → HandsOut old table rows new
      → HandsOver (is_due old tour order table.table) table rows (is_due new tour order table.table)
  hands_lists old new tour order rows hands = record { present = hands.present; known = known }
    where
      known : (key : List ℕ) → is_due new tour order table.table key ≡ false → (has_row rows key ≡ true) ⊎ (is_due old tour order table.table key ≡ false)
      known key e =
          let parts = neither (is_noted new table.table key) (is_ahead tour order table.table key) e in
          elim (hands.known key parts.0) [
            | inl has ↦ inl has
            | inr not ↦ inr (either_false (is_noted old table.table key) (is_ahead tour order table.table key) not parts.1)
          ]

  -- by a tour
  pub hands_ahead : (notes : NotedKeys) (old new : TourKeys) (order : List (List ℕ)) (before after : List Row) (hands : HandsOutAhead table order old new before after)
      → HandsOver (is_due notes old order table.table) table hands.handed.rows (is_due notes new order table.table)
  hands_ahead notes old new order before after hands = record { present = hands.handed.present; known = known }
    where
      known : (key : List ℕ) → is_due notes new order table.table key ≡ false → (has_row hands.handed.rows key ≡ true) ⊎ (is_due notes old order table.table key ≡ false)
      known key e =
          let parts = neither (is_noted notes table.table key) (is_ahead new order table.table key) e in
          elim (noted_or_not (is_ahead old order table.table key)) [
            | inl was ↦ inl (hands.known key parts.1 was)
            | inr not ↦ inr (either_false (is_noted notes table.table key) (is_ahead old order table.table key) parts.0 not)
          ]

  takes_some : (due due' : List ℕ → Bool) (rows : List Row) → HandsOver due table rows due' → TakesChanges due table SomeTaken rows due' table
  takes_some due due' rows hands = record {
    same = refl;
    present = hands.present;
    known = hands.known;
    none = λ no. absurd (let yes : is_some SomeTaken ≡ true = refl in cc);
  }

  takes_rest : (due due' : List ℕ → Bool) (rows : List Row) → HandsOver due table rows due' → ((key : List ℕ) → due' key ≡ false) → TakesChanges due table Rest rows due' table
  takes_rest due due' rows hands none = record { same = refl; present = hands.present; known = hands.known; none = λ _ key. none key }

-- a tour that is off hands nothing out
pub off_ahead : (tour : TourKeys) (order : List (List ℕ)) (table : Table) (key : List ℕ) → tour.filter ≡ [] → is_ahead tour order table key ≡ false
off_ahead tour order table key off = by_place (is_below tour.below (rank_in order key))
  where
    by_place : (below : Bool) → cond below (is_filtered tour.filter table key) false ≡ false
    by_place true = ap (λ (f : List Bool). is_filtered f table key) off
    by_place false = refl

-- a tour that begins hands out all that its filter may have
pub begun_ahead : (tour : TourKeys) (order : List (List ℕ)) (table : Table) (key : List ℕ) → tour.below ≡ None → is_ahead tour order table key ≡ is_filtered tour.filter table key
begun_ahead tour order table key begins = ap (λ (below : Option ℕ). cond (is_below below (rank_in order key)) (is_filtered tour.filter table key) false) begins

-- the keys of the filter go to a tour
pub filter_ahead : (old new : NotedKeys) (before after : TourKeys) (order : List (List ℕ)) (table : Table) → old.all ≡ false → new.keys ≡ old.keys → before.filter ≡ [] → after.filter ≡ old.filter
    → after.below ≡ None → (key : List ℕ) → is_due new after order table key ≡ false → is_due old before order table key ≡ false
filter_ahead old new before after order table all keys off taken begins key e =
    let parts = neither (is_noted new table key) (is_ahead after order table key) e in
    let why = unnoted new table key parts.0 in
    let listed : has_key old.keys key ≡ false = ap (λ (ks : List (List ℕ)). has_key ks key) (sym keys) ∙ why.1.0 in
    let filtered : is_filtered old.filter table key ≡ false =
    ap (λ (f : List Bool). is_filtered f table key) (sym taken) ∙ sym (begun_ahead after order table key begins) ∙ parts.1 in
    either_false (is_noted old table key) (is_ahead before order table key) (not_noted old table key all listed filtered) (off_ahead before order table key off)

-- none is due
none_due : (new : NotedKeys) (tour : TourKeys) (order : List (List ℕ)) (table : TimedTable) → new.all ≡ false → new.keys ≡ [] → new.filter ≡ [] → tour.filter ≡ []
    → (key : List ℕ) → is_due new tour order table.table key ≡ false
none_due new tour order table all none off ended key =
    either_false (is_noted new table.table key) (is_ahead tour order table.table key) (none_noted new table all none off key) (off_ahead tour order table.table key ended)

-- a tour that was off is off
off_still : (notes : NotedKeys) (before after : TourKeys) (order : List (List ℕ)) (table : Table) → before.filter ≡ [] → (key : List ℕ) → is_due notes after order table key ≡ false
    → is_due notes before order table key ≡ false
off_still notes before after order table off key e =
    let parts = neither (is_noted notes table key) (is_ahead after order table key) e in
    either_false (is_noted notes table key) (is_ahead before order table key) parts.0 (off_ahead before order table key off)

-- rows of the lists were handed out, but not all of them
pub took_part : (old new : NotedKeys) (tour : TourKeys) (order : List (List ℕ)) (table : TimedTable) (first changes : List Row)
    → ((rows : List Row) × ((changes ≡ first ++ rows) × HandsOut old table rows new))
    → (rows : List Row) × ((changes ≡ first ++ rows) × TakesChanges (is_due old tour order table.table) table SomeTaken rows (is_due new tour order table.table) table)
took_part old new tour order table first changes before = (before.0, (before.1.0, takes_some table _ _ before.0 (hands_lists table old new tour order before.0 before.1.1)))

-- .. all of them, and the filter is off
pub took_lists : (old new : NotedKeys) (before after : TourKeys) (order : List (List ℕ)) (table : TimedTable) (first changes : List Row)
    → ((rows : List Row) × ((changes ≡ first ++ rows) × HandsOut old table rows new)) → new.keys ≡ [] → new.filter ≡ [] → before.filter ≡ [] → after.filter ≡ []
    → (rows : List Row) × ((changes ≡ first ++ rows) × TakesChanges (is_due old before order table.table) table Rest rows (is_due new after order table.table) table)
took_lists old new before after order table first changes handed empty off was ended = (
  handed.0,
  (
    handed.1.0,
    takes_rest table _ _ handed.0
        (hands_less table _ (is_due new before order table.table) _ handed.0 (hands_lists table old new before order handed.0 handed.1.1) (off_still new before after order table.table was))
        (none_due new after order table handed.1.1.all empty off ended),
  ),
)

-- a tour handed out rows
pub took_ahead : (notes : NotedKeys) (old new : TourKeys) (order : List (List ℕ)) (table : TimedTable) (before after : List Row) → HandsOutAhead table order old new before after
    → (rows : List Row) × ((after ≡ before ++ rows) × TakesChanges (is_due notes old order table.table) table SomeTaken rows (is_due notes new order table.table) table)
took_ahead notes old new order table before after hands = (hands.handed.rows, (hands.handed.added, takes_some table _ _ _ (hands_ahead table notes old new order before after hands)))

-- rows of the lists were handed out, and then the first ones of a tour
pub took_first : (old between new : NotedKeys) (before mid after : TourKeys) (order : List (List ℕ)) (table : TimedTable) (first changes more : List Row)
    → ((rows : List Row) × ((changes ≡ first ++ rows) × HandsOut old table rows between)) → new.keys ≡ between.keys → before.filter ≡ [] → mid.filter ≡ between.filter → mid.below ≡ None
    → HandsOutAhead table order mid after changes more
    → (rows : List Row) × ((more ≡ first ++ rows) × TakesChanges (is_due old before order table.table) table SomeTaken rows (is_due new after order table.table) table)
took_first old between new before mid after order table first changes more lists keys off taken begins hands = (
  lists.0 ++ hands.handed.rows,
  (
    hands.handed.added ∙ ap (λ (rs : List Row). rs ++ hands.handed.rows) lists.1.0 ∙ append_assoc first lists.0 hands.handed.rows,
    takes_some table _ _ _
        (hands_then table _ (is_due new mid order table.table) _ lists.0 hands.handed.rows
        (hands_less table _ (is_due between before order table.table) _ lists.0 (hands_lists table old between before order lists.0 lists.1.1)
        (filter_ahead between new before mid order table.table lists.1.1.all keys off taken begins))
        (hands_ahead table new mid after order changes more hands)),
  ),
)

-- then rows of keys that the filter has no more
filtered_more : (old between new : NotedKeys) (table : TimedTable) (changes more rows : List Row) → HandsOut old table rows between
    → (hands : HandsOutFiltered table between.filter new.filter changes more) → new.all ≡ between.all → new.keys ≡ between.keys → HandsOut old table (rows ++ hands.handed.rows) new
filtered_more old between new table changes more rows before hands all keys = record {
  all = all ∙ before.all;
  present = All-append (λ (row : Row). row.1 ≡ row_of table row.0) rows hands.handed.rows before.present hands.handed.present;
  known = known;
}
  where
    known : (key : List ℕ) → is_noted new table.table key ≡ false → (has_row (rows ++ hands.handed.rows) key ≡ true) ⊎ (is_noted old table.table key ≡ false)
    known key e =
        let why = unnoted new table.table key e in
        elim (noted_or_not (is_filtered between.filter table.table key)) [
          | inl filtered ↦ inl (rows_after rows hands.handed.rows key (hands.known key why.1.1 filtered))
          | inr apart ↦
              elim (before.known key (not_noted between table.table key before.all (ap (λ (ks : List (List ℕ)). has_key ks key) (sym keys) ∙ why.1.0) apart)) [
                | inl has ↦ inl (rows_before rows hands.handed.rows key has)
                | inr not ↦ inr not
              ]
        ]

module _ (old between new : NotedKeys) (table : TimedTable) (first changes more : List Row) (before : (rows : List Row) × ((changes ≡ first ++ rows) × HandsOut old table rows between))
    (hands : HandsOutFiltered table between.filter new.filter changes more) (all : new.all ≡ between.all) (keys : new.keys ≡ between.keys) where
  -- rows of the lists were handed out, and then those of the filter
  pub handed_all : (rows : List Row) × ((more ≡ first ++ rows) × HandsOut old table rows new)
  handed_all = (
    before.0 ++ hands.handed.rows,
    (
      hands.handed.added ∙ ap (λ (rs : List Row). rs ++ hands.handed.rows) before.1.0 ∙ append_assoc first before.0 hands.handed.rows,
      filtered_more old between new table changes more before.0 before.1.1 hands all keys,
    ),
  )

-- a tour of all entries began
pub took_begun : (due : List ℕ → Bool) (new : NotedKeys) (mid after : TourKeys) (order : List (List ℕ)) (table : TimedTable) (changes more : List Row) → ((key : List ℕ) → may_have mid.filter key ≡ true)
    → mid.below ≡ None → HandsOutAhead table order mid after changes more
    → (rows : List Row) × ((more ≡ changes ++ rows) × TakesChanges due table Begun rows (is_due new after order table.table) table)
took_begun due new mid after order table changes more may begins hands = (
  hands.handed.rows,
  (
    hands.handed.added,
    record {
      same = refl;
      present = hands.handed.present;
      known = known;
      none = λ no. absurd (let yes : is_some Begun ≡ true = refl in cc);
    },
  ),
)
  where
    known : (key : List ℕ) → is_due new after order table.table key ≡ false → (has_row hands.handed.rows key ≡ true) ⊎ (finite.get table.table key ≡ None)
    known key e = by_entry (finite.get table.table key) refl
      where
        by_entry : (value : Option (List ℕ)) → finite.get table.table key ≡ value → (has_row hands.handed.rows key ≡ true) ⊎ (finite.get table.table key ≡ None)
        by_entry None is = inr is
        by_entry (Some value) is =
            let there : has_entry table.table key ≡ true = ap (λ (v : Option (List ℕ)). is_there v) is in
            inl (hands.known key (neither (is_noted new table.table key) (is_ahead after order table.table key) e).1
            (begun_ahead mid order table.table key begins ∙ filtered_there mid.filter table.table key (may key) there))

-- all entries were taken
pub took_all : (due : List ℕ → Bool) (new : NotedKeys) (tour : TourKeys) (order : List (List ℕ)) (table : TimedTable) (before after : List Row) → HandsOutAll table before after → new.all ≡ false
    → new.keys ≡ [] → new.filter ≡ [] → tour.filter ≡ []
    → (rows : List Row) × ((after ≡ before ++ rows) × TakesChanges due table AllTaken rows (is_due new tour order table.table) table)
took_all due new tour order table before after hands all none off ended = (
  hands.rows,
  (
    hands.added,
    record {
      same = refl;
      present = hands.present;
      known = λ key e. hands.known key;
      none = λ _ key. none_due new tour order table all none off ended key;
    },
  ),
)
