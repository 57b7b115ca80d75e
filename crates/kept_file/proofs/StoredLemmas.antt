-- Stored rows of batches: their columns, what a comparison says of them, which rows are left when some are taken out, and where one is put.
use Rattle.std.proofs.Common.{◌≡◌, ◌∙◌, ◌⊎◌, ℤ, Bool, true, false, cond, List, [], ◌∷◌, ◌++◌, map, drop, filter, Some, IsTrue, refl, sym, ap, ap₂, subst, inl, inr, true≢false, Less, is_eq}
use Rattle.std.specs.List.{AllByRecursion}
use Rattle.std.specs.Ordering.{ordering_reverse}
use Rattle.std.proofs.lemmas.Bool.{and_parts, cases_Bool, not-true}
use Rattle.std.proofs.lemmas.Cmp.{tied_itself}
use Rattle.sqlite_value.specs.declared.value.Value.{Value}
use Rattle.sqlite_value.specs.declared.value.Value.TheVariants.{Null, Int, Real, Text, Blob}
use Rattle.sqlite_value.specs.declared.keys.Collation.TheVariants.{Binary}
use Rattle.sqlite_value.specs.Order.{Row, column, value_cmp}
use Rattle.sqlite_value.proofs.OrderLemmas.{value_cmp_total, value_cmp-Null}
use Rattle.sqlite_trees.specs.Tree.{rowid, has_rowid, IsTable, without_rowid, put_row}
use Rattle.sqlite_trees.specs.View.{is_int}
use Rattle.sqlite_trees.proofs.TreeLemmas.{IsTable-put_row}
use Rattle.sqlite_sql.specs.Ops.{binary, is_true, from_truth}
use Rattle.sqlite_schema.specs.Rules.{equal, are_typed, is_of}
use Rattle.sqlite_schema.specs.declared.schema.Kind.TheVariants.{Integer}
use Rattle.sqlite_rules.specs.Lists.{Has}
use Rattle.sqlite_rules.specs.Edit.{id_in, without_all, row_at}
use Rattle.sqlite_rules.specs.Calls.{ids_of}
use Rattle.sqlite_rules.proofs.ListLemmas.{all_has, all_from, has_filtered}
use Rattle.sqlite_rules.proofs.TableLemmas.{int_is, without_all_has, put_has}
use Rattle.sqlite_rules.proofs.PlaceLemmas.{row_at_is, left_or_taken}
use Rattle.sqlite_rules.proofs.ProbeLemmas.{has_mapped}
use Rattle.kept_file.specs.Content.{batch_in}
use Rattle.kept_file.specs.Tables.{batches_table}

-- ---- columns

abbrev pub IsWholeNumber : Value → Type 0
IsWholeNumber v = (v ≡ Null) ⊎ ((n : ℤ) × (v ≡ Int n))

abbrev pub IsTypedRow : Row → Type 0
IsTypedRow row = are_typed batches_table.key 0 batches_table.columns (drop 1 row) ≡ true

number_typed : (v : Value) → is_of Integer v ≡ true → IsWholeNumber v
number_typed Null h = inl refl
number_typed (Int n) h = inr (n, refl)
number_typed (Real x) h = absurd cc
number_typed (Text t) h = absurd cc
number_typed (Blob b) h = absurd cc

pub stripe_typed : (row : Row) → IsTypedRow row → IsWholeNumber (column row 2)
stripe_typed [] h = inl refl
stripe_typed (i ∷ []) h = inl refl
stripe_typed (i ∷ n ∷ []) h = inl refl
stripe_typed (i ∷ n ∷ stripe ∷ more) h = number_typed stripe (and_parts _ _ (and_parts _ _ h).1).0

-- ---- comparisons

true_of : (b : Bool) → is_true (from_truth (Some b)) ≡ b
true_of true = refl
true_of false = refl

-- a column that has a number, or nothing, is equal to a number if the order says so
pub equal_is : (v : Value) (n : ℤ) → IsWholeNumber v → equal Binary v (Int n) ≡ is_eq (value_cmp v (Int n))
unfolding binary
equal_is v n (inl none) = subst (λ w. equal Binary w (Int n) ≡ is_eq (value_cmp w (Int n))) (sym none) (sym (ap is_eq (value_cmp-Null (Int n))))
equal_is v n (inr is) = subst (λ w. equal Binary w (Int n) ≡ is_eq (value_cmp w (Int n))) (sym is.1) (true_of _)

-- ---- rows that are taken out

abbrev pub AreNumbered : List Row → Type 0
AreNumbered = AllByRecursion (λ row. IsTrue (is_int (rowid row)))

spared : (ids : List ℤ) (rows : List Row) (x : Row) (id : ℤ) → Has (without_all rows ids) x → Has ids id → has_rowid id x ≡ false
spared [] rows x id h none = absurd none
spared (i ∷ ids) rows x id h (inl same) =
    rw same (not-true _ (has_filtered _ rows x (without_all_has ids (without_rowid i rows) x h)).1)
spared (i ∷ ids) rows x id h (inr later) = spared ids (without_rowid i rows) x id h later

pub own_rowid : (x : Row) → is_int (rowid x) ≡ true → has_rowid (id_in (rowid x)) x ≡ true
own_rowid x int = subst (λ v. is_eq (value_cmp (rowid x) v) ≡ true) (int_is (rowid x) int) (ap is_eq (tied_itself value_cmp_total (rowid x)))

-- the rowids that were found are just those of the rows that pass
pub record AreOf (passes : Row → Bool) (rows found : List Row) : Type 0 where
  pub sound : (x : Row) → Has found x → (r : Row) × Has rows r × (passes r ≡ true) × (x ≡ rowid r ∷ [])
  pub complete : (r : Row) → Has rows r → passes r ≡ true → Has found (rowid r ∷ [])

mapped : (f : Row → ℤ) (rows : List Row) (x : Row) → Has rows x → Has (map f rows) (f x)
mapped f [] x h = absurd h
mapped f (y ∷ rows) x (inl same) = inl (ap f same)
mapped f (y ∷ rows) x (inr later) = inr (mapped f rows x later)

module _ (passes : Row → Bool) (rows found : List Row) (ordered : IsTable rows) (numbered : AreNumbered rows) (are : AreOf passes rows found) where
  -- what passes is not left
  pub left_fails : (x : Row) → Has (without_all rows (ids_of found)) x → Has rows x × (passes x ≡ false)
  left_fails x h =
      let was = without_all_has (ids_of found) rows x h in (
        was,
        elim (cases_Bool (passes x)) [
          | inl is ↦ absurd (
              let there = mapped (λ r. id_in (rowid r)) found (rowid x ∷ []) (are.complete x was is) in
              let lost = spared (ids_of found) rows x (id_in (rowid x)) h there in
              true≢false (sym (own_rowid x (all_has _ rows x numbered was)) ∙ lost))
          | inr is ↦ is
        ],
      )

  -- what does not pass is left
  pub fails_left : (x : Row) → Has rows x → passes x ≡ false → Has (without_all rows (ids_of found)) x
  fails_left x h fails = elim (left_or_taken rows (ids_of found) x ordered h) [
    | inl left ↦ left
    | inr taken ↦ absurd (
        let id = has_mapped (row_at rows) (ids_of found) x taken in
        let one = has_mapped (λ (r : Row). id_in (rowid r)) found id.0 id.1 in
        let row = are.sound one.0 one.1 in
        let same : id.0 ≡ id_in (rowid row.0) = one.2 ∙ ap (λ (r : Row). id_in (rowid r)) row.3 in
        let is : x ≡ row.0 = id.2 ∙ ap (row_at rows) same ∙ row_at_is rows (id_in (rowid row.0)) row.0 ordered row.1 (own_rowid row.0 (all_has _ rows row.0 numbered row.1)) in
        true≢false (sym row.2 ∙ ap passes (sym is) ∙ fails))
  ]

-- ---- order and numbers stay

pub ordered_filter : (p : Row → Bool) (rows : List Row) → IsTable rows → IsTable (filter p rows)
ordered_filter p [] up = tt
ordered_filter p (r ∷ rows) up = elim (cases_Bool (p r)) [
  | inl e ↦ rw e (all_from _ (filter p rows) (λ y h. all_has _ rows y up.0 (has_filtered p rows y h).0), ordered_filter p rows up.1)
  | inr e ↦ rw e (ordered_filter p rows up.1)
]

pub ordered_left : (ids : List ℤ) (rows : List Row) → IsTable rows → IsTable (without_all rows ids)
ordered_left [] rows up = up
ordered_left (id ∷ ids) rows up = ordered_left ids (without_rowid id rows) (ordered_filter _ rows up)

pub numbered_left : (ids : List ℤ) (rows : List Row) → AreNumbered rows → AreNumbered (without_all rows ids)
numbered_left ids rows all = all_from _ _ (λ x h. all_has _ rows x all (without_all_has ids rows x h))

pub ordered_put : (new : Row) (rows : List Row) → IsTable rows → IsTable (put_row new rows)
ordered_put new rows up = IsTable-put_row new rows up

pub numbered_put : (new : Row) (rows : List Row) → IsTrue (is_int (rowid new)) → AreNumbered rows → AreNumbered (put_row new rows)
numbered_put new rows int all = all_from _ _ (λ x h. elim (put_has new rows x h) [ inl same ↦ subst (λ r. IsTrue (is_int (rowid r))) (sym same) int | inr was ↦ all_has _ rows x all was ])

-- ---- where a row is put

-- rows that rise are put after each other
pub put_last : (xs : List Row) (x : Row) → AllByRecursion (λ r. value_cmp (rowid r) (rowid x) ≡ Less) xs → put_row x xs ≡ xs ++ x ∷ []
put_last [] x low = refl
put_last (r ∷ xs) x low = rw (low.0, put_last xs x low.1) refl

-- ---- two tables with the same rows are one

never_both : (a b : Row) → value_cmp (rowid a) (rowid b) ≡ Less → value_cmp (rowid b) (rowid a) ≡ Less → ⊥
never_both a b p q = let e = value_cmp_total.antisymm (rowid a) (rowid b) ∙ ap ordering_reverse q in cc

pub same_rows : (xs ys : List Row) → IsTable xs → IsTable ys → ((r : Row) → Has xs r → Has ys r) → ((r : Row) → Has ys r → Has xs r) → xs ≡ ys
same_rows [] [] p q a b = refl
same_rows [] (y ∷ ys) p q a b = absurd (b y (inl refl))
same_rows (x ∷ xs) [] p q a b = absurd (a x (inl refl))
same_rows (x ∷ xs) (y ∷ ys) p q a b =
    let first : x ≡ y = elim (a x (inl refl)) [
      | inl e ↦ e
      | inr later ↦ elim (b y (inl refl)) [ inl e ↦ sym e | inr also ↦ absurd (never_both x y (all_has _ xs y p.0 also) (all_has _ ys x q.0 later)) ]
    ] in
    let past = λ (z : Row) (zs : List Row) (up : AllByRecursion (λ r. value_cmp (rowid z) (rowid r) ≡ Less) zs) (r : Row) (h : Has zs r) (e : r ≡ z).
    let lower = rw e at (all_has _ zs r up h) in never_both z z lower lower in
    ap₂ ◌∷◌ first (same_rows xs ys p.1 q.1
    (λ r h. elim (a r (inr h)) [ inl e ↦ absurd (past x xs p.0 r h (e ∙ sym first)) | inr k ↦ k ])
    (λ r h. elim (b r (inr h)) [ inl e ↦ absurd (past y ys q.0 r h (e ∙ first)) | inr k ↦ k ]))

-- ---- the batches in them

-- they keep their numbers, so they rise
pub batches_rise : (rows : List Row) → IsTable rows → IsTable (map batch_in rows)
batches_rise [] up = tt
batches_rise (r ∷ more) up = (all_from _ (map batch_in more) (λ row h. let b = has_mapped batch_in more row h in rw b.2 (all_has _ more b.0 up.0 b.1)), batches_rise more up.1)

pub batches_left : (p : Row → Bool) (rows : List Row) → map batch_in (filter (λ row. p (batch_in row)) rows) ≡ filter p (map batch_in rows)
batches_left p [] = refl
batches_left p (r ∷ rows) =
    elim (p (batch_in r)) as (λ b. map batch_in (cond b (r ∷ filter (λ row. p (batch_in row)) rows) (filter (λ row. p (batch_in row)) rows))
    ≡ cond b (batch_in r ∷ filter p (map batch_in rows)) (filter p (map batch_in rows)))
    [ true ↦ ap (λ l. batch_in r ∷ l) (batches_left p rows) | false ↦ batches_left p rows ]
