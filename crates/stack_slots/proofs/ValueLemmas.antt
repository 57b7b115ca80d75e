-- The join of two values.
use Rattle.std.proofs.Common.{◌≡◌, ◌≢◌, ℕ, ◌∙◌, min, max, true, Option, Some, None, refl, sym, ap, subst, arith, inl, inr, ℤ}
use Rattle.std.specs.Prelude.{◌≤ℤ◌}
use Rattle.std.specs.Int.{int_min, int_max}
use Rattle.std.proofs.lemmas.Int.{ints}
use Rattle.std.proofs.lemmas.Bool.{cases_Bool, eqb-true, eq-eqb}
use Rattle.std.proofs.lemmas.Bool.Decides.{when_true, when_false}
use Rattle.bpf_model.specs.declared.window.Window.{Window}
use Rattle.bpf_model.specs.declared.window.Window.TheVariants.{Key, Old, Arg, Result, Stack}
use Rattle.bpf_model.specs.Memory.{first_address}
use Rattle.bpf_model.specs.Step.{address_of}
use Rattle.value_ranges.specs.declared.range.Range.{Range}
use Rattle.value_ranges.specs.In.{IsIn}
use Rattle.stack_slots.specs.declared.pointer.Pointer.{Pointer}
use Rattle.stack_slots.specs.declared.reg_value.RegValue.{RegValue}
use Rattle.stack_slots.specs.declared.reg_value.RegValue.TheVariants.{Unwritten, Number, Pointer as PointerInto}
use Rattle.stack_slots.specs.Values.{PointsTo, StandsFor, IsPointer, IsAnyNumber, IsNumberOver, IsPointerOver, have_one_window, IsJoin, IsPointerIn, IsNumberIn}
use Rattle.stack_slots.proofs.PointerLemmas.{stands_word}

-- bounds of signed numbers
pub min_first : (a b : ℤ) → int_min a b ≤ℤ a
min_first a b = grind (arith, ints)

min_second : (a b : ℤ) → int_min a b ≤ℤ b
min_second a b = grind (arith, ints)

pub max_first : (a b : ℤ) → a ≤ℤ int_max a b
max_first a b = grind (arith, ints)

max_second : (a b : ℤ) → b ≤ℤ int_max a b
max_second a b = grind (arith, ints)

pub min_above : (a b lo : ℤ) → lo ≤ℤ a → lo ≤ℤ b → lo ≤ℤ int_min a b
min_above a b lo p q = grind (arith, ints)

pub max_below : (a b hi : ℤ) → a ≤ℤ hi → b ≤ℤ hi → int_max a b ≤ℤ hi
max_below a b hi p q = grind (arith, ints)

-- Unwritten stands for whatever a value stands for
unwritten_takes : (x : RegValue) (o : Option ℕ) → StandsFor x o → StandsFor Unwritten o
unwritten_takes Unwritten o stands = stands
unwritten_takes (Number r) None stands = absurd stands
unwritten_takes (Number r) (Some w) stands = stands.word
unwritten_takes (PointerInto p) None stands = absurd stands
unwritten_takes (PointerInto p) (Some w) stands = stands_word (PointerInto p) w stands

-- and if there is a word, so does any number
number_takes : (x z : RegValue) (o : Option ℕ) → x ≢ Unwritten → IsAnyNumber z → StandsFor x o → StandsFor z o
number_takes Unwritten z o value any stands = absurd (value refl)
number_takes (Number r) z None value any stands = absurd stands
number_takes (Number r) z (Some w) value any stands = subst (λ (v : RegValue). StandsFor v (Some w)) (sym any.is) (any.every w stands.word)
number_takes (PointerInto p) z None value any stands = absurd stands
number_takes (PointerInto p) z (Some w) value any stands = subst (λ (v : RegValue). StandsFor v (Some w)) (sym any.is) (any.every w (stands_word (PointerInto p) w stands))

range_over_first : (r s t : Range) (w : ℕ) → t.umin ≡ min r.umin s.umin → t.umax ≡ max r.umax s.umax → t.smin ≡ int_min r.smin s.smin → t.smax ≡ int_max r.smax s.smax → IsIn w r → IsIn w t
range_over_first r s t w a b c d lies = record {
  word = lies.word;
  umin = omega (arith, a, lies.umin);
  umax = omega (arith, b, lies.umax);
  smin = rw c (omega (arith, ints, min_first r.smin s.smin, lies.smin));
  smax = rw d (omega (arith, ints, max_first r.smax s.smax, lies.smax));
}

range_over_second : (r s t : Range) (w : ℕ) → t.umin ≡ min r.umin s.umin → t.umax ≡ max r.umax s.umax → t.smin ≡ int_min r.smin s.smin → t.smax ≡ int_max r.smax s.smax → IsIn w s → IsIn w t
range_over_second r s t w a b c d lies = record {
  word = lies.word;
  umin = omega (arith, a, lies.umin);
  umax = omega (arith, b, lies.umax);
  smin = rw c (omega (arith, ints, min_second r.smin s.smin, lies.smin));
  smax = rw d (omega (arith, ints, max_second r.smax s.smax, lies.smax));
}

points_over_first : (p q t : Pointer) (w : ℕ) → IsPointer p.window (int_min p.least q.least) (int_max p.greatest q.greatest) t → PointsTo p w → PointsTo t w
points_over_first p q t w is at = record {
  offset = at.offset;
  least = rw is.least_is (omega (arith, ints, min_first p.least q.least, at.least));
  greatest = rw is.greatest_is (omega (arith, ints, max_first p.greatest q.greatest, at.greatest));
  address = at.address ∙ ap (λ (r : Window). address_of (first_address r) at.offset) (sym is.window_is);
}

points_over_second : (p q t : Pointer) (w : ℕ) → first_address p.window ≡ first_address q.window → IsPointer p.window (int_min p.least q.least) (int_max p.greatest q.greatest) t → PointsTo q w → PointsTo t w
points_over_second p q t w window is at = record {
  offset = at.offset;
  least = rw is.least_is (omega (arith, ints, min_second p.least q.least, at.least));
  greatest = rw is.greatest_is (omega (arith, ints, max_second p.greatest q.greatest, at.greatest));
  address = at.address ∙ ap (λ (first : ℕ). address_of first at.offset) (sym window) ∙ ap (λ (r : Window). address_of (first_address r) at.offset) (sym is.window_is);
}

-- the join stands for each word of the first
pub join_first : (a b z : RegValue) (o : Option ℕ) → IsJoin a b z → StandsFor a o → StandsFor z o
join_first Unwritten b z o j stands = subst (λ (v : RegValue). StandsFor v o) (sym j) stands
join_first (Number r) Unwritten z o j stands = subst (λ (v : RegValue). StandsFor v o) (sym j) (unwritten_takes (Number r) o stands)
join_first (Number r) (Number s) z None j stands = absurd stands
join_first (Number r) (Number s) z (Some w) j stands = subst (λ (v : RegValue). StandsFor v (Some w)) (sym j.is) (range_over_first r s j.range w j.umin j.umax j.smin j.smax stands)
join_first (Number r) (PointerInto q) z o j stands = number_takes (Number r) z o (λ e. cc) j stands
join_first (PointerInto p) Unwritten z o j stands = subst (λ (v : RegValue). StandsFor v o) (sym j) (unwritten_takes (PointerInto p) o stands)
join_first (PointerInto p) (Number s) z o j stands = number_takes (PointerInto p) z o (λ e. cc) j stands
join_first (PointerInto p) (PointerInto q) z None j stands = absurd stands
join_first (PointerInto p) (PointerInto q) z (Some w) j stands =
    elim (cases_Bool (have_one_window p q)) [
      | inl one ↦ let over : IsPointerOver p q z = when_true (IsPointerOver p q z) (IsAnyNumber z) one j in subst (λ (v : RegValue). StandsFor v (Some w)) (sym over.is) (points_over_first p q over.pointer w over.offsets stands)
      | inr two ↦ let any : IsAnyNumber z = when_false (IsPointerOver p q z) (IsAnyNumber z) two j in number_takes (PointerInto p) z (Some w) (λ e. cc) any stands
    ]

-- and for each word of the second
pub join_second : (a b z : RegValue) (o : Option ℕ) → IsJoin a b z → StandsFor b o → StandsFor z o
join_second Unwritten b z o j stands = subst (λ (v : RegValue). StandsFor v o) (sym j) (unwritten_takes b o stands)
join_second (Number r) Unwritten z o j stands = subst (λ (v : RegValue). StandsFor v o) (sym j) stands
join_second (Number r) (Number s) z None j stands = absurd stands
join_second (Number r) (Number s) z (Some w) j stands = subst (λ (v : RegValue). StandsFor v (Some w)) (sym j.is) (range_over_second r s j.range w j.umin j.umax j.smin j.smax stands)
join_second (Number r) (PointerInto q) z o j stands = number_takes (PointerInto q) z o (λ e. cc) j stands
join_second (PointerInto p) Unwritten z o j stands = subst (λ (v : RegValue). StandsFor v o) (sym j) stands
join_second (PointerInto p) (Number s) z o j stands = number_takes (Number s) z o (λ e. cc) j stands
join_second (PointerInto p) (PointerInto q) z None j stands = absurd stands
join_second (PointerInto p) (PointerInto q) z (Some w) j stands =
    elim (cases_Bool (have_one_window p q)) [
      | inl one ↦
          let over : IsPointerOver p q z = when_true (IsPointerOver p q z) (IsAnyNumber z) one j in
          let window = eqb-true (first_address p.window) (first_address q.window) one in
          subst (λ (v : RegValue). StandsFor v (Some w)) (sym over.is) (points_over_second p q over.pointer w window over.offsets stands)
      | inr two ↦ let any : IsAnyNumber z = when_false (IsPointerOver p q z) (IsAnyNumber z) two j in number_takes (PointerInto q) z (Some w) (λ e. cc) any stands
    ]

number_is_value : (z : RegValue) (r : Range) → z ≡ Number r → z ≢ Unwritten
number_is_value z r is e = cc

pointer_is_value : (z : RegValue) (p : Pointer) → z ≡ PointerInto p → z ≢ Unwritten
pointer_is_value z p is e = cc

-- if two values aren't Unwritten, neither is their join
pub join_value : (a b z : RegValue) → IsJoin a b z → a ≢ Unwritten → b ≢ Unwritten → z ≢ Unwritten
join_value Unwritten b z j first second = absurd (first refl)
join_value (Number r) Unwritten z j first second = absurd (second refl)
join_value (Number r) (Number s) z j first second = number_is_value z j.range j.is
join_value (Number r) (PointerInto q) z j first second = number_is_value z j.range j.is
join_value (PointerInto p) Unwritten z j first second = absurd (second refl)
join_value (PointerInto p) (Number s) z j first second = number_is_value z j.range j.is
join_value (PointerInto p) (PointerInto q) z j first second =
    elim (cases_Bool (have_one_window p q)) [
      | inl one ↦ let over : IsPointerOver p q z = when_true (IsPointerOver p q z) (IsAnyNumber z) one j in pointer_is_value z over.pointer over.is
      | inr two ↦ let any : IsAnyNumber z = when_false (IsPointerOver p q z) (IsAnyNumber z) two j in number_is_value z any.range any.is
    ]

-- the join of two pointers into a part of one window points into that part
pub join_pointer : (a b z : RegValue) (w : Window) (lo hi : ℤ) → IsJoin a b z → IsPointerIn w lo hi a → IsPointerIn w lo hi b → IsPointerIn w lo hi z
join_pointer a b z w lo hi j first second =
    let p = first.pointer in
    let q = second.pointer in
    let joins : IsJoin (PointerInto p) (PointerInto q) z = subst (λ (v : RegValue). IsJoin (PointerInto p) v z) second.is (subst (λ (v : RegValue). IsJoin v b z) first.is j) in
    let window : have_one_window p q ≡ true = eq-eqb (first_address p.window) (first_address q.window) (ap first_address (first.window ∙ sym second.window)) in
    let over : IsPointerOver p q z = when_true (IsPointerOver p q z) (IsAnyNumber z) window joins in
    record {
      pointer = over.pointer;
      is = over.is;
      window = over.offsets.window_is ∙ first.window;
      least = rw over.offsets.least_is (min_above p.least q.least lo first.least second.least);
      greatest = rw over.offsets.greatest_is (max_below p.greatest q.greatest hi first.greatest second.greatest);
    }

-- the join of two numbers within bounds lies within them
pub join_number : (a b z : RegValue) (lo hi : ℤ) → IsJoin a b z → IsNumberIn lo hi a → IsNumberIn lo hi b → IsNumberIn lo hi z
join_number a b z lo hi j first second =
    let r = first.range in
    let s = second.range in
    let over : IsNumberOver r s z = subst (λ (v : RegValue). IsJoin (Number r) v z) second.is (subst (λ (v : RegValue). IsJoin v b z) first.is j) in
    record {
      range = over.range;
      is = over.is;
      least = rw over.smin (min_above r.smin s.smin lo first.least second.least);
      greatest = rw over.smax (max_below r.smax s.smax hi first.greatest second.greatest);
    }

-- windows with one first address are the same
pub same_window : (r s : Window) → first_address r ≡ first_address s → r ≡ s
same_window Key Key e = refl
same_window Old Old e = refl
same_window Arg Arg e = refl
same_window Result Result e = refl
same_window Stack Stack e = refl
same_window r s e = absurd (omega arith)
