-- Why there is a free segment as long as a position has no row.
use Rattle.std.proofs.Common.{◌≡◌, ◌≢◌, ℕ, zero, suc, ◌+◌, ◌*◌, ◌<◌, ◌≤◌, Bool, true, false, cond, nat_eq, List, [], ◌∷◌, length, set, refl, ap, inl, inr, arith}
use Rattle.std.specs.List.{sum_by}
use Rattle.std.proofs.lemmas.Bool.{cases_Bool, cases_eq, eqb-true}
use Rattle.std.proofs.lemmas.List.{length-set}
use Rattle.std.proofs.lemmas.List.Sums.{count_by-le-length, sum_by-cons, sum_by-set}
use Rattle.bins.specs.declared.pool.TheConstants.{WIDTHS}
use Rattle.bins.specs.declared.locations.Width.{Width}
use Rattle.bins.specs.declared.locations.Location.{Location}
use Rattle.bins.specs.declared.locations.Location.TheVariants.{Vacant, In}
use Rattle.bins.specs.KeptRows.{AreRows, location_at}
use Rattle.bins.specs.Segments.{AreFew, KeptWidth}
use Rattle.bins.specs.Rows.{segments_for, total, used, width_at}
use Rattle.bins.proofs.RowLemmas.{weight}

abbrev width_of : ℕ → Width
width_of step = record { step = step }

pub total_same : (n : ℕ) (f g : ℕ → ℕ) → ((i : ℕ) → f i ≡ g i) → total n f ≡ total n g
unfolding total
total_same zero f g same = refl
total_same (suc n) f g same = let rest = total_same n f g same in let here = same n in omega (arith, rest, here)

pub total_less : (n : ℕ) (f g : ℕ → ℕ) → ((i : ℕ) → f i ≤ g i) → total n f ≤ total n g
unfolding total
total_less zero f g less = omega arith
total_less (suc n) f g less = let rest = total_less n f g less in let here = less n in omega (arith, rest, here)

pub total_scaled : (n : ℕ) (f g : ℕ → ℕ) → ((i : ℕ) → f i * 512 ≤ g i + 512) → total n f * 512 ≤ total n g + n * 512
unfolding total
total_scaled zero f g less = omega arith
total_scaled (suc n) f g less = let rest = total_scaled n f g less in let here = less n in omega (arith, rest, here)

pub total_sum : (n : ℕ) (f g h : ℕ → ℕ) → ((i : ℕ) → h i ≡ f i + g i) → total n h ≡ total n f + total n g
unfolding total
total_sum zero f g h sums = omega arith
total_sum (suc n) f g h sums = let rest = total_sum n f g h sums in let here = sums n in omega (arith, rest, here)

pub total_zero : (n : ℕ) (f : ℕ → ℕ) → ((i : ℕ) → f i ≡ 0) → total n f ≡ 0
unfolding total
total_zero zero f none = refl
total_zero (suc n) f none = let rest = total_zero n f none in let here = none n in omega (arith, rest, here)

-- the sum of the first n numbers, if one number differs: one after them, or one among them
pub total_beyond : (n k : ℕ) (f g : ℕ → ℕ) → n ≤ k → ((i : ℕ) → i ≢ k → g i ≡ f i) → total n g ≡ total n f
unfolding total
total_beyond zero k f g beyond same = refl
total_beyond (suc n) k f g beyond same =
    let rest = total_beyond n k f g (omega (arith, beyond)) same in
    let other : n ≢ k = λ is. absurd (omega (arith, beyond, is)) in
    let here = same n other in
    omega (arith, rest, here)

pub total_changed : (n k : ℕ) (f g : ℕ → ℕ) → k < n → ((i : ℕ) → i ≢ k → g i ≡ f i) → total n g + f k ≡ total n f + g k
unfolding total
total_changed zero k f g inside same = absurd (omega (arith, inside))
total_changed (suc n) k f g inside same = elim (cases_eq n k) [
  | inl is ↦
      let rest = total_beyond n k f g (omega (arith, is)) same in
      let one : g n ≡ g k = ap g is in
      let two : f n ≡ f k = ap f is in
      omega (arith, rest, one, two)
  | inr other ↦
      let rest = total_changed n k f g (omega (arith, inside, other)) same in
      let here = same n other in
      omega (arith, rest, here)
]

pub total_part : (n k : ℕ) (f : ℕ → ℕ) → k < n → f k ≤ total n f
unfolding total
total_part zero k f inside = absurd (omega (arith, inside))
total_part (suc n) k f inside = elim (cases_eq n k) [
  | inl is ↦ let here : f n ≡ f k = ap f is in omega (arith, here)
  | inr other ↦ let rest = total_part n k f (omega (arith, inside, other)) in omega (arith, rest)
]

-- a location names a row of at most one width
abbrev is_filled : Location → Bool
is_filled Vacant = false
is_filled (In width i) = true

abbrev one_if : Bool → ℕ
one_if b = cond b 1 0

at_most_one : (b : Bool) → one_if b ≤ 1
at_most_one true = omega arith
at_most_one false = omega arith

not_one : (i k : ℕ) → i ≢ k → one_if (nat_eq i k) ≡ 0
not_one i k other = elim (cases_Bool (nat_eq i k)) [
  | inl same ↦ absurd (other (eqb-true i k same))
  | inr differs ↦ ap one_if differs
]

one_at : (n k : ℕ) → total n (λ step. one_if (nat_eq step k)) ≤ 1
unfolding total
one_at zero k = omega arith
one_at (suc n) k = elim (cases_eq n k) [
  | inl is ↦
      let none = total_beyond n k (λ step. 0) (λ step. one_if (nat_eq step k)) (omega (arith, is)) (λ i other. not_one i k other) in
      let zeros = total_zero n (λ step. 0) (λ i. refl) in
      let here : one_if (nat_eq n k) ≤ 1 = at_most_one (nat_eq n k) in
      omega (arith, none, zeros, here)
  | inr other ↦ let rest = one_at n k in let here = not_one n k other in omega (arith, rest, here)
]

one_each : (n : ℕ) (x : Location) → total n (λ step. weight (width_of step) x) ≤ one_if (is_filled x)
one_each n Vacant = let none = total_zero n (λ step. weight (width_of step) Vacant) (λ i. refl) in omega (arith, none)
one_each n (In width i) = one_at n width.step

counted : (n : ℕ) (ps : List Location) → total n (λ step. sum_by (weight (width_of step)) ps) ≤ sum_by (λ (x : Location). one_if (is_filled x)) ps
counted n [] = let none = total_zero n (λ step. sum_by (weight (width_of step)) []) (λ i. refl) in omega (arith, none)
counted n (x ∷ ps) =
    let both = total_sum n (λ step. weight (width_of step) x) (λ step. sum_by (weight (width_of step)) ps) (λ step. sum_by (weight (width_of step)) (x ∷ ps)) (λ i. sum_by-cons (weight (width_of i)) x ps) in
    let rest = counted n ps in
    let here = one_each n x in
    let filled = sum_by-cons (λ (y : Location). one_if (is_filled y)) x ps in
    omega (arith, both, rest, here, filled)

-- a vacant location names none
fewer : (ps : List Location) (p : ℕ) → p < length ps → location_at ps p ≡ Vacant → sum_by (λ (x : Location). one_if (is_filled x)) ps < length ps
fewer ps p lt vacant =
    let there : Width = width_of 0 in
    omega (
      arith,
      count_by-le-length is_filled (set ps p (In there 0)),
      length-set ps p (In there 0),
      sum_by-set (λ (x : Location). one_if (is_filled x)) ps p (In there 0) Vacant lt,
      ap (λ (x : Location). one_if (is_filled x)) vacant,
    )

-- so there is a free segment for the row of a position that has none yet
module _ (widths : List KeptWidth) (ps : List Location) (p room free : ℕ) (m : AreRows ps (λ width. (width_at widths width.step).rows))
    (lt : p < length ps) (vacant : location_at ps p ≡ Vacant) (inside : length ps ≤ room)
    (few : (step : ℕ) → AreFew (width_at widths step)) (enough : segments_for room ≤ used widths + free) where
  pub rows_total : total WIDTHS (λ step. length (width_at widths step).rows) < length ps
  rows_total =
      let each = total_same WIDTHS (λ step. sum_by (weight (width_of step)) ps) (λ step. length (width_at widths step).rows) (λ step. (m.matched (width_of step)).counted) in
      let all = counted WIDTHS ps in
      let less = fewer ps p lt vacant in
      omega (arith, each, all, less)

  pub spare_free : 0 < free
  spare_free =
      let one = total_less WIDTHS (λ step. (width_at widths step).segments) (λ step. length (width_at widths step).rows) (λ step. let f = (few step).each in omega (arith, f)) in
      let many = total_scaled WIDTHS (λ step. (width_at widths step).segments) (λ step. length (width_at widths step).rows) (λ step. let f = (few step).each in omega (arith, f)) in
      let rows = rows_total in
      omega (arith, one, many, rows, inside, enough)

pub total_start : (f : ℕ → ℕ) → 0 ≡ total 0 f
unfolding total
total_start f = refl

pub total_more : (n : ℕ) (f : ℕ → ℕ) → total (n + 1) f ≡ total n f + f n
unfolding total
total_more n f = let one : n + 1 ≡ suc n = omega arith in ap (λ (m : ℕ). total m f) one

pub total_upto : (n m : ℕ) (f : ℕ → ℕ) → n ≤ m → total n f ≤ total m f
unfolding total
total_upto n zero f less = let none : n ≡ zero = omega (arith, less) in let same = ap (λ (k : ℕ). total k f) none in omega (arith, same)
total_upto n (suc m) f less = elim (cases_eq n (suc m)) [
  | inl is ↦ let same = ap (λ (k : ℕ). total k f) is in omega (arith, same)
  | inr other ↦ let rest = total_upto n m f (omega (arith, less, other)) in omega (arith, rest)
]

-- segments for fewer positions
pub fewer_segments : (few many : ℕ) → few ≤ many → segments_for few ≤ segments_for many
fewer_segments few many less = omega (arith, less)
