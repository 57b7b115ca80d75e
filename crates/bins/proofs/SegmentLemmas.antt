-- What is left after a write to a part of a segment.
use Rattle.std.proofs.Common.{◌≡◌, ℕ, zero, suc, ◌+◌, ◌-◌, ◌<◌, ◌≤◌, List, ◌++◌, length, take, drop, refl, sym, ap, ◌∙◌, inl, inr, arith, length-append, length-drop}
use Rattle.std.proofs.lemmas.List.{drop-append-le, drop-take, length-take, take-append-le, take-take, take_at}
use Rattle.std.proofs.lemmas.Slice.{between-put_mid, drop-put_mid, put_mid-paste, take-put_mid_below}
use Rattle.std.specs.List.{copy_within}
use lib.Seq.{paste}
use borrow.Rule.Slice.PartMut.{put_mid}
use Rattle.bins.specs.Segments.{KeepsAll, KeepsOthers, part}

-- a part that is there in full
pub inside_part : (xs : List ℕ) (at many : ℕ) → 0 < many → length (part xs at many) ≡ many → at + many ≤ length xs
inside_part xs at many some long = omega (arith, long, length-take many (drop at xs), length-drop at xs, some)

pub part_long : (xs : List ℕ) (at many : ℕ) → at + many ≤ length xs → length (part xs at many) ≡ many
part_long xs at many enough = omega (arith, length-take many (drop at xs), length-drop at xs, enough)

-- bytes are added after the others
pub keeps_all : (old zs : List ℕ) → KeepsAll old (old ++ zs)
keeps_all old zs at zero long = refl
keeps_all old zs at (suc many) long =
    let inside : at + suc many ≤ length old = inside_part old at (suc many) (omega arith) long in
    ap (take (suc many)) (drop-append-le at old zs (omega (arith, inside))) ∙ take-append-le (suc many) (drop at old) zs (omega (arith, length-drop at old, inside))

module _ (start stride k : ℕ) (xs ys : List ℕ) (range : start + stride ≤ length xs) (wide : length ys ≡ stride) (size : k ≡ stride) where
  pub part_written : part (put_mid start k xs ys) start stride ≡ ys
  part_written =
      let less : start + stride - start ≡ stride = omega arith in
      ap (λ (n : ℕ). take n (drop start (put_mid start k xs ys))) (sym less) ∙ between-put_mid start k xs ys (start + stride) (omega (arith, range)) (omega (arith, wide))

  pub others_kept : KeepsOthers start stride xs (put_mid start k xs ys)
  others_kept at many long (inl below) =
      sym (drop-take at many (put_mid start k xs ys)) ∙ ap (drop at) (take-put_mid_below start k xs ys (at + many) below (omega (arith, range))) ∙ drop-take at many xs
  others_kept at many long (inr above) = ap (take many) (drop-put_mid start k xs ys at (omega (arith, above, size)) (omega (arith, range)) (omega (arith, wide, size)))

-- two writes in turn
pub both_kept : (start stride : ℕ) (old mid new : List ℕ) → KeepsAll old mid → KeepsOthers start stride mid new → KeepsOthers start stride old new
both_kept start stride old mid new all others at many long apart = others at many (ap length (all at many long) ∙ long) apart ∙ all at many long

-- a write through a vector's slice
module _ (start stride k n : ℕ) (was items slice ys : List ℕ) (same : was ≡ items) (read : slice ≡ items) (long : n ≡ length items)
    (range : start + stride ≤ length was) (wide : length ys ≡ stride) (size : k ≡ stride) where
  abbrev now : List ℕ
  now = put_mid start k slice ys

  now_long : length now ≡ length items
  now_long = omega (
    arith,
    length-append (take start slice) (ys ++ drop k (drop start slice)),
    length-append ys (drop k (drop start slice)),
    length-drop k (drop start slice),
    length-drop start slice,
    length-take start slice,
    ap length read,
    ap length same,
    range,
    wide,
    size,
  )

  pub through : take n (now ++ drop (length now) items) ≡ now
  through = take_at now (drop (length now) items) n (omega (arith, now_long, long))

  pub kept_through : KeepsOthers start stride was (take n (now ++ drop (length now) items))
  kept_through at many whole apart =
      ap (λ (xs : List ℕ). part xs at many) through
      ∙ others_kept start stride k slice ys (omega (arith, range, ap length read, ap length same)) wide size at many (ap (λ (xs : List ℕ). length (part xs at many)) (read ∙ sym same) ∙ whole) apart
      ∙ ap (λ (xs : List ℕ). part xs at many) (read ∙ sym same)

-- the row that was written in this way
module _ (start stride k n : ℕ) (was items slice ys : List ℕ) (same : was ≡ items) (read : slice ≡ items) (long : n ≡ length items)
    (range : start + stride ≤ length was) (wide : length ys ≡ stride) (size : k ≡ stride) where
  pub row_through : part (take n (put_mid start k slice ys ++ drop (length (put_mid start k slice ys)) items)) start stride ≡ ys
  row_through =
      ap (λ (xs : List ℕ). part xs start stride) (through start stride k n was items slice ys same read long range wide size)
      ∙ part_written start stride k slice ys (omega (arith, range, ap length read, ap length same)) wide size

-- a row is copied over another in the same segment
module _ (from start stride : ℕ) (was items new : List ℕ) (same : was ≡ items) (is : new ≡ copy_within items from (from + stride) start)
    (range : start + stride ≤ length was) (there : from + stride ≤ length was) where
  abbrev zs : List ℕ
  zs = part items from stride

  copied_is : new ≡ put_mid start stride items zs
  copied_is =
      let n : from + stride - from ≡ stride = omega arith in
      let wide : stride ≡ length zs = sym (part_long items from stride (omega (arith, there, ap length same))) in
      is ∙ (λ i. paste items start (drop from items) (n i))
      ∙ ap (λ (t : List ℕ). take start items ++ t ++ drop (start + stride) items) (sym (take-take stride stride (drop from items) (omega arith)))
      ∙ sym (put_mid-paste start stride items zs zs stride refl refl wide)

  pub kept_copied : KeepsOthers start stride was new
  kept_copied at many whole apart =
      ap (λ (xs : List ℕ). part xs at many) copied_is
      ∙ others_kept start stride stride items zs (omega (arith, range, ap length same)) (part_long items from stride (omega (arith, there, ap length same))) refl at many (ap (λ (xs : List ℕ). length (part xs at many)) (sym same) ∙ whole) apart
      ∙ ap (λ (xs : List ℕ). part xs at many) (sym same)
