-- Rows in lists of many widths: the strings that a location reads, and when lists of strings are equal. `k` is the width in
-- question, and `f` the key or the value of a row.
use Rattle.std.proofs.Common.{◌≡◌, ◌≢◌, ℕ, ◌<◌, ◌≤◌, ◌⊎◌, Bool, true, false, cond, List, [], length, map, get_or, set, refl, sym, ap, subst, ◌∙◌, arith, inl, inr, get_or-set_same, get_or-set_other}
use Rattle.std.proofs.lemmas.Bool.{cases_Bool, cases_eq, cases_lt, eq-eqb, eqb-true}
use Rattle.std.proofs.lemmas.List.{length-set, length-map, ext_get_or, get_or-map, get_or_past, get_or_read}
use Rattle.std.proofs.lemmas.List.Sums.{sum_by-set, count_by-le-length}
use Rattle.bins.specs.declared.locations.Width.{Width}
use Rattle.bins.specs.declared.locations.Location.{Location}
use Rattle.bins.specs.declared.locations.Location.TheVariants.{Vacant, In}
use Rattle.bins.specs.KeptRows.{KeptRow, Lists, AreMatched, is_in, is_same_width, nobody, location_at, row_at, row_of, rows_of, with_rows}

abbrev pub weight : Width → Location → ℕ
weight k location = cond (is_in k location) 1 0

-- two widths are the same, or aren't
pub widths : (j k : Width) → (j ≡ k) ⊎ (j ≢ k)
widths j k = elim (cases_eq j.step k.step) [
  | inl is ↦ inl (λ i. record { step = is i })
  | inr other ↦ inr (λ e. other (ap (λ (w : Width). w.step) e))
]

pub same_width_true : (j k : Width) → j ≡ k → is_same_width j k ≡ true
same_width_true j k is = eq-eqb j.step k.step (ap (λ (w : Width). w.step) is)

pub same_width_false : (j k : Width) → j ≢ k → is_same_width j k ≡ false
same_width_false j k other = elim (cases_Bool (is_same_width j k)) [
  | inl same ↦ absurd (other (λ i. record { step = eqb-true j.step k.step same i }))
  | inr differs ↦ differs
]

-- no location names rows of two widths, nor two rows
pub not_vacant : (k : Width) (x : Location) (i : ℕ) → x ≡ Vacant → x ≡ In k i → ⊥
not_vacant k x i vacant named = cc

pub same_width : (j k : Width) (i n : ℕ) → In j i ≡ In k n → j ≡ k
same_width j k i n e = cc

pub apart : (j k : Width) (x : Location) (i n : ℕ) → j ≢ k → x ≡ In k i → x ≡ In j n → ⊥
apart j k x i n other one two = other (same_width j k n i (sym two ∙ one))

pub same_in : (k : Width) (i j : ℕ) → In k i ≡ In k j → i ≡ j
same_in k i j e = cc

pub weight_in : (k : Width) (i : ℕ) → weight k (In k i) ≡ 1
weight_in k i = ap (λ (b : Bool). cond b 1 0) (same_width_true k k refl)

-- a location that names no row of this width
pub weight_none : (k : Width) (x : Location) → ((i : ℕ) → x ≡ In k i → ⊥) → weight k x ≡ 0
weight_none k Vacant none = refl
weight_none k (In j i) none = ap (λ (b : Bool). cond b 1 0) (same_width_false k j (λ is. none i (ap (λ (w : Width). In w i) (sym is))))

-- the rows of one width were replaced by others, and the rows of the other widths
pub rows_with_same : (lists : Lists) (k : Width) (rows : List KeptRow) → rows_of (with_rows lists k rows) k ≡ rows
rows_with_same lists k rows = ap (λ (b : Bool). cond b rows (lists k)) (same_width_true k k refl)

pub rows_with_other : (lists : Lists) (k j : Width) (rows : List KeptRow) → j ≢ k → rows_of (with_rows lists k rows) j ≡ rows_of lists j
rows_with_other lists k j rows other = ap (λ (b : Bool). cond b rows (lists j)) (same_width_false k j (λ is. other (sym is)))

-- a location reads the same if the rows of the width that it may name do
pub reads_with : (k : Width) (f : KeptRow → List ℕ) (lists : Lists) (rows : List KeptRow) (x : Location)
    → ((i : ℕ) → x ≡ In k i → f (row_at rows i) ≡ f (row_at (rows_of lists k) i)) → f (row_of (with_rows lists k rows) x) ≡ f (row_of lists x)
reads_with k f lists rows Vacant same = refl
reads_with k f lists rows (In j i) same = elim (widths j k) [
  | inl is ↦ subst (λ (n : Width). f (row_at (rows_of (with_rows lists k rows) n) i) ≡ f (row_at (rows_of lists n) i)) (sym is)
      (ap (λ (rs : List KeptRow). f (row_at rs i)) (rows_with_same lists k rows) ∙ same i (ap (λ (n : Width). In n i) is))
  | inr other ↦ ap (λ (rs : List KeptRow). f (row_at rs i)) (rows_with_other lists k j rows other)
]

-- the string that a location reads if it names a row of that width
pub read_with : (k : Width) (f : KeptRow → List ℕ) (lists : Lists) (rows : List KeptRow) (x : Location) (i : ℕ) → x ≡ In k i
    → f (row_of (with_rows lists k rows) x) ≡ f (row_at rows i)
read_with k f lists rows x i named = ap (λ (y : Location). f (row_of (with_rows lists k rows) y)) named ∙ ap (λ (rs : List KeptRow). f (row_at rs i)) (rows_with_same lists k rows)

-- a location that names a row is inside the list
pub inside : (k : Width) (ps : List Location) (p i : ℕ) → location_at ps p ≡ In k i → p < length ps
inside k ps p i named = elim (cases_lt p (length ps)) [
  | inl lt ↦ lt
  | inr ge ↦ absurd (not_vacant k (location_at ps p) i (get_or_past ps p Vacant ge) named)
]

-- a location that was read
pub read_location : (ps : List Location) (p : ℕ) (read is : Location) → p < length ps → read ≡ get_or ps p read → read ≡ is → location_at ps p ≡ is
read_location ps p read is lt value at = sym (get_or_read ps p read lt value Vacant) ∙ at

-- a row that was read
pub read_row : (ls : List KeptRow) (n i : ℕ) (read : KeptRow) → i < length ls → read ≡ get_or ls i read → i ≡ n → read ≡ row_at ls n
read_row ls n i read lt value at = get_or_read ls i read lt value nobody ∙ ap (row_at ls) at

-- there are no more rows than locations
pub no_more : (k : Width) (ps : List Location) (ls : List KeptRow) → AreMatched k ps ls → length ls ≤ length ps
no_more k ps ls m = omega (arith, count_by-le-length (is_in k) ps, m.counted)

-- and fewer if a location is vacant
pub spare : (k : Width) (ps : List Location) (ls : List KeptRow) (p : ℕ) → AreMatched k ps ls → p < length ps → location_at ps p ≡ Vacant → length ls < length ps
spare k ps ls p m lt vacant =
    omega (
      arith,
      count_by-le-length (is_in k) (set ps p (In k 0)),
      length-set ps p (In k 0),
      sum_by-set (weight k) ps p (In k 0) Vacant lt,
      ap (weight k) vacant,
      weight_in k 0,
      m.counted,
    )

-- the keys or the values of all locations
abbrev pub strings : (KeptRow → List ℕ) → List Location → Lists → List (List ℕ)
strings f ps lists = map (λ (x : Location). f (row_of lists x)) ps

-- one string differs, and all others are unchanged
module _ (f : KeptRow → List ℕ) (ps qs : List Location) (was now : Lists) (p : ℕ) (b : List ℕ) (long : length qs ≡ length ps) (lt : p < length ps)
    (here : f (row_of now (location_at qs p)) ≡ b)
    (others : (q : ℕ) → q ≢ p → f (row_of now (location_at qs q)) ≡ f (row_of was (location_at ps q))) where
  abbrev old : Location → List ℕ
  old x = f (row_of was x)

  abbrev new : Location → List ℕ
  new x = f (row_of now x)

  at_each : (q : ℕ) → q < length ps → new (location_at qs q) ≡ get_or (set (map old ps) p b) q []
  at_each q below = elim (cases_eq q p) [
    | inl at ↦ subst (λ (n : ℕ). new (location_at qs n) ≡ get_or (set (map old ps) p b) n []) (sym at)
        (here ∙ sym (get_or-set_same (map old ps) p b [] (omega (arith, lt, length-map ps old))))
    | inr away ↦ others q away ∙ sym (get_or-map old ps q Vacant [] below) ∙ sym (get_or-set_other (map old ps) p q b [] away)
  ]

  pub strings_by : strings f qs now ≡ set (strings f ps was) p b
  strings_by = ext_get_or [] _ _ (omega (arith, length-map qs new, length-set (map old ps) p b, length-map ps old, long)) (λ q below.
      let in_new : q < length qs = omega (arith, below, length-map qs new) in
      get_or-map new qs q Vacant [] in_new ∙ at_each q (omega (arith, in_new, long)))

-- a location that names no row of this width, before and after it is written
module _ (k : Width) (ps : List Location) (ls : List KeptRow) (p : ℕ) (x : Location) (m : AreMatched k ps ls) (lt : p < length ps)
    (before : (i : ℕ) → location_at ps p ≡ In k i → ⊥) (after : (i : ℕ) → x ≡ In k i → ⊥) where
  pub others_matched : AreMatched k (set ps p x) ls
  others_matched = record {
    named = λ q i e. elim (cases_eq q p) [
      | inl at ↦ absurd (after i (sym (get_or-set_same ps p x Vacant lt) ∙ ap (location_at (set ps p x)) (sym at) ∙ e))
      | inr away ↦ m.named q i (sym (get_or-set_other ps p q x Vacant away) ∙ e)
    ];
    owned = λ i within.
        let is = m.owned i within in
        let away : (row_at ls i).owner ≢ p = λ at. before i (ap (location_at ps) (sym at) ∙ is) in
        get_or-set_other ps p (row_at ls i).owner x Vacant away ∙ is;
    counted = omega (arith, sum_by-set (weight k) ps p x Vacant lt, weight_none k (location_at ps p) before, weight_none k x after, m.counted);
  }

-- the string at a position is its row's
pub string_read : (k : Width) (f : KeptRow → List ℕ) (ps : List Location) (lists : Lists) (p i : ℕ) → p < length ps → location_at ps p ≡ In k i
    → get_or (strings f ps lists) p [] ≡ f (row_at (rows_of lists k) i)
string_read k f ps lists p i lt named = get_or-map (λ (x : Location). f (row_of lists x)) ps p Vacant [] lt ∙ ap (λ (x : Location). f (row_of lists x)) named

-- the string at a vacant position is empty
pub vacant_read : (f : KeptRow → List ℕ) (ps : List Location) (lists : Lists) (p : ℕ) → p < length ps → location_at ps p ≡ Vacant
    → f nobody ≡ [] → get_or (strings f ps lists) p [] ≡ []
vacant_read f ps lists p lt vacant empty = get_or-map (λ (x : Location). f (row_of lists x)) ps p Vacant [] lt ∙ ap (λ (x : Location). f (row_of lists x)) vacant ∙ empty
