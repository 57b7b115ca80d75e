-- What the batches of a file spell, for each stripe, as batches come after them or are taken out.
use Rattle.std.proofs.Common.{◌≡◌, ◌≢◌, ◌∙◌, ℕ, pos, true, false, List, [], ◌∷◌, ◌++◌, filter, cond, refl, sym, ap, subst, inl, inr, is_eq, Ordering, Less, Equal, Greater, append_assoc}
use Rattle.std.proofs.lemmas.Bool.{cases_Bool}
use Rattle.std.proofs.lemmas.Cmp.{tied_itself}
use Rattle.std.proofs.lemmas.List.{append-nil}
use Rattle.std.proofs.lemmas.List.Elements.{filter-append}
use Rattle.std.proofs.lemmas.Map.Lookups.{exact_signed}
use Rattle.sqlite.specs.Order.{Row, column, value_cmp}
use Rattle.sqlite.specs.declared.types.Value.{Value}
use Rattle.sqlite.specs.declared.types.Value.TheVariants.{Blob}
use Rattle.sqlite_value.proofs.OrderLemmas.{value_cmp_total, value_cmp-Int}
use Rattle.kept_file.specs.Changes.{Change, Spells}
use Rattle.kept_file.specs.Content.{Joins, ChangesOf, is_of, others_of}
use Rattle.kept_file.specs.Rows.{number}
use Rattle.kept_file.proofs.ChangeLemmas.{spells_once}

-- ---- which stripe a batch is of

equal_of : (o : Ordering) → is_eq o ≡ true → o ≡ Equal
equal_of Less h = absurd cc
equal_of Equal h = refl
equal_of Greater h = absurd cc

pub of_itself : (stripe : ℕ) (batch : Row) → column batch 1 ≡ number stripe → is_of stripe batch ≡ true
of_itself stripe batch is = subst (λ v. is_eq (value_cmp v (number stripe)) ≡ true) (sym is) (ap is_eq (tied_itself value_cmp_total (number stripe)))

same_number : (a b : ℕ) → is_eq (value_cmp (number a) (number b)) ≡ true → a ≡ b
same_number a b h =
    let e : pos a ≡ pos b = exact_signed (pos a) (pos b) (equal_of _ (ap is_eq (sym (value_cmp-Int (pos a) (pos b))) ∙ h)) in
    cc

pub of_another : (stripe other : ℕ) (batch : Row) → other ≢ stripe → column batch 1 ≡ number stripe → is_of other batch ≡ false
of_another stripe other batch apart is = elim (cases_Bool (is_of other batch)) [
  | inl is_so ↦ absurd (apart (sym (same_number stripe other (subst (λ v. is_eq (value_cmp v (number other)) ≡ true) is is_so))))
  | inr is_not ↦ is_not
]

-- no batch is of two stripes
not_of_two : (stripe other : ℕ) (batch : Row) → other ≢ stripe → is_of stripe batch ≡ true → is_of other batch ≡ false
not_of_two stripe other batch apart one = elim (cases_Bool (is_of other batch)) [
  | inl also ↦ absurd (
      let tied : value_cmp (column batch 1) (number other) ≡ value_cmp (number stripe) (number other) =
      value_cmp_total.congr (column batch 1) (number stripe) (number other) (equal_of _ one) in
      apart (sym (same_number stripe other (ap is_eq (sym tied) ∙ also))))
  | inr is_not ↦ is_not
]

-- ---- what batches spell

same_bytes : (v : Value) (a b : List ℕ) → v ≡ Blob a → v ≡ Blob b → a ≡ b
same_bytes v a b p q = cc

pub joins_once : (batches : List Row) (xs ys : List Change) → Joins batches xs → Joins batches ys → xs ≡ ys
unfolding Joins
joins_once [] xs ys p q = p ∙ sym q
joins_once (batch ∷ batches) xs ys p q =
    let same : p.0 ≡ q.0 = same_bytes _ _ _ p.3 q.3 in
    let first : p.1 ≡ q.1 = spells_once q.0 p.1 q.1 (subst (λ (bytes : List ℕ). Spells bytes p.1) same p.4) q.4 in
    let more : p.2 ≡ q.2 = joins_once batches p.2 q.2 p.6 q.6 in
    p.5 ∙ ap (λ (l : List Change). l ++ p.2) first ∙ ap (λ (l : List Change). q.1 ++ l) more ∙ sym q.5

pub joins_more : (batches : List Row) (batch : Row) (bytes : List ℕ) (changes more : List Change) → Joins batches changes → column batch 2 ≡ Blob bytes → Spells bytes more
    → Joins (batches ++ batch ∷ []) (changes ++ more)
unfolding Joins
joins_more [] batch bytes changes more before is spells =
    (bytes, more, [], is, spells, ap (λ (l : List Change). l ++ more) before ∙ sym (append-nil more), refl)
joins_more (first ∷ batches) batch bytes changes more before is spells = (
  before.0,
  before.1,
  before.2 ++ more,
  before.3,
  before.4,
  ap (λ (l : List Change). l ++ more) before.5 ∙ append_assoc before.1 before.2 more,
  joins_more batches batch bytes before.2 more before.6 is spells,
)

joins_none : Joins [] []
unfolding Joins
joins_none = refl

-- ---- the changes of a stripe

module _ (stripe : ℕ) (batches : List Row) (batch : Row) where
  of_more : is_of stripe batch ≡ true → filter (is_of stripe) (batches ++ batch ∷ []) ≡ filter (is_of stripe) batches ++ batch ∷ []
  of_more is = filter-append (is_of stripe) batches (batch ∷ []) ∙ rw is

  of_as_many : is_of stripe batch ≡ false → filter (is_of stripe) (batches ++ batch ∷ []) ≡ filter (is_of stripe) batches
  of_as_many is = filter-append (is_of stripe) batches (batch ∷ []) ∙ rw is (append-nil _)

pub changes_more : (stripe : ℕ) (batches : List Row) (batch : Row) (bytes : List ℕ) (changes more : List Change) → ChangesOf stripe batches changes
    → column batch 1 ≡ number stripe → column batch 2 ≡ Blob bytes → Spells bytes more → ChangesOf stripe (batches ++ batch ∷ []) (changes ++ more)
changes_more stripe batches batch bytes changes more before of is spells =
    subst (λ (l : List Row). Joins l (changes ++ more)) (sym (of_more stripe batches batch (of_itself stripe batch of)))
    (joins_more (filter (is_of stripe) batches) batch bytes changes more before is spells)

pub changes_beside : (stripe other : ℕ) (batches : List Row) (batch : Row) (changes : List Change) → other ≢ stripe → ChangesOf other batches changes
    → column batch 1 ≡ number stripe → ChangesOf other (batches ++ batch ∷ []) changes
changes_beside stripe other batches batch changes apart before of =
    subst (λ (l : List Row). Joins l changes) (sym (of_as_many other batches batch (of_another stripe other batch apart of))) before

-- ---- .. as those of one are taken out

none_left : (stripe : ℕ) (batches : List Row) → filter (is_of stripe) (others_of stripe batches) ≡ []
none_left stripe [] = refl
none_left stripe (batch ∷ batches) = elim (cases_Bool (is_of stripe batch)) [
  | inl is_so ↦ rw is_so (none_left stripe batches)
  | inr is_not ↦ rw (is_not, is_not) (none_left stripe batches)
]

left_beside : (stripe other : ℕ) (batches : List Row) → other ≢ stripe → filter (is_of other) (others_of stripe batches) ≡ filter (is_of other) batches
left_beside stripe other [] apart = refl
left_beside stripe other (batch ∷ batches) apart = elim (cases_Bool (is_of stripe batch)) [
  | inl is_so ↦ rw (is_so, not_of_two stripe other batch apart is_so) (left_beside stripe other batches apart)
  | inr is_not ↦ rw is_not (ap (λ (l : List Row). cond (is_of other batch) (batch ∷ l) l) (left_beside stripe other batches apart))
]

pub changes_cleared : (stripe : ℕ) (batches : List Row) → ChangesOf stripe (others_of stripe batches) []
changes_cleared stripe batches = subst (λ (l : List Row). Joins l []) (sym (none_left stripe batches)) joins_none

pub cleared_beside : (stripe other : ℕ) (batches : List Row) (changes : List Change) → other ≢ stripe → ChangesOf other batches changes
    → ChangesOf other (others_of stripe batches) changes
cleared_beside stripe other batches changes apart before = subst (λ (l : List Row). Joins l changes) (sym (left_beside stripe other batches apart)) before

pub changes_none : (stripe : ℕ) → ChangesOf stripe [] []
changes_none stripe = joins_none
