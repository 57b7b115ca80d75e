-- The content of a row's bytes.
use Rattle.std.proofs.Common.{◌≡◌, ℕ, ◌+◌, ◌-◌, ◌<◌, ◌≤◌, ◌^◌, List, [], ◌++◌, length, take, drop, refl, sym, ap, ◌∙◌, arith, append_assoc, length-append, length-drop}
use Rattle.std.proofs.lemmas.List.{append-nil, drop_at, drop_all, drop-append-le, drop-drop, length-take-le, take_at, take-append-drop, take_rest}
use Rattle.std.proofs.lemmas.Slice.{drop-append-drop}
use Rattle.byteorder.specs.Numbers.{length-bytes_low_first, little_from-append, little_number-reads_back}
use borrow.Rule.Slice.PartMut.{put_mid}
use Rattle.bpf_model.specs.declared.limits.TheConstants.{KEY_BYTES, VALUE_BYTES}
use Rattle.bins.specs.declared.width_rows.TheConstants.{HEAD_BYTES}
use Rattle.bins.specs.KeptRows.{HoldsRow, kept, key_in, key_length, number, owner_in, row_in, value_in, value_length, value_place, word_of}

pub length-word : (n x : ℕ) → length (word_of n x) ≡ n
unfolding word_of
length-word n x = length-bytes_low_first 0 n x

pub number_back : (n x : ℕ) (rest : List ℕ) → x < 256 ^ n → number n (word_of n x ++ rest) ≡ x
unfolding word_of number
number_back n x rest small = little_number-reads_back n x rest small

pub number_front : (n : ℕ) (xs ys : List ℕ) → n ≤ length xs → number n (xs ++ ys) ≡ number n xs
unfolding number
number_front n xs ys enough = little_from-append n xs ys enough

-- the elements after a place of a list, and a write to all of them
module _ (a : ℕ) (xs front back : List ℕ) (is : xs ≡ front ++ back) (long : length front ≡ a) where
  pub rest_read : take (length xs - a) (drop a xs) ≡ back
  rest_read = take_rest xs a ∙ ap (drop a) is ∙ drop_at front back a long

  pub rest_written : (zs : List ℕ) → put_mid a (length xs - a) xs zs ≡ front ++ zs
  rest_written zs =
      let first : take a xs ≡ front = ap (take a) is ∙ take_at front back a long in
      let none : drop (length xs - a) (drop a xs) ≡ [] = drop_all _ (drop a xs) (omega (arith, length-drop a xs)) in
      (λ i. first i ++ (zs ++ none i)) ∙ ap (λ (ys : List ℕ). front ++ ys) (append-nil zs)

-- a string after its length
pub string_written : (n a : ℕ) (old head bytes rest new : List ℕ) → head ≡ word_of n a ++ drop n old → rest ≡ bytes ++ drop (length bytes) (take (length head - n) (drop n head))
    → new ≡ put_mid n (length head - n) head rest → new ≡ word_of n a ++ (bytes ++ drop (n + length bytes) old)
string_written n a old head bytes rest new headed rested is =
    let read = rest_read n head (word_of n a) (drop n old) headed (length-word n a) in
    is ∙ rest_written n head (word_of n a) (drop n old) headed (length-word n a) rest
    ∙ ap (λ (ys : List ℕ). word_of n a ++ ys) (rested ∙ ap (λ (ys : List ℕ). bytes ++ ys) (ap (drop (length bytes)) read ∙ drop-drop (length bytes) n old))

-- a key and a value, each after its length
pub strings_written : (old first key value rest new : List ℕ)
    → first ≡ word_of 2 (length key) ++ (key ++ drop (2 + length key) old)
    → rest ≡ word_of 4 (length value) ++ (value ++ drop (4 + length value) (take (length first - (2 + length key)) (drop (2 + length key) first)))
    → new ≡ put_mid (2 + length key) (length first - (2 + length key)) first rest
    → new ≡ word_of 2 (length key) ++ (key ++ (word_of 4 (length value) ++ (value ++ drop (6 + length key + length value) old)))
strings_written old first key value rest new firsts rests is =
    let front : List ℕ = word_of 2 (length key) ++ key in
    let long : length front ≡ 2 + length key = omega (arith, length-append (word_of 2 (length key)) key, length-word 2 (length key)) in
    let split : first ≡ front ++ drop (2 + length key) old = firsts ∙ sym (append_assoc (word_of 2 (length key)) key (drop (2 + length key) old)) in
    let read = rest_read (2 + length key) first front (drop (2 + length key) old) split long in
    let sum : 2 + length key + (4 + length value) ≡ 6 + length key + length value = omega arith in
    let after : drop (4 + length value) (take (length first - (2 + length key)) (drop (2 + length key) first)) ≡ drop (6 + length key + length value) old =
    ap (drop (4 + length value)) read ∙ drop-drop (4 + length value) (2 + length key) old ∙ ap (λ (n : ℕ). drop n old) sum in
    is ∙ rest_written (2 + length key) first front (drop (2 + length key) old) split long rest
    ∙ ap (λ (ys : List ℕ). front ++ ys) (rests ∙ ap (λ (ys : List ℕ). word_of 4 (length value) ++ (value ++ ys)) after)
    ∙ append_assoc (word_of 2 (length key)) key _

-- the row that these bytes hold
pub record Reads (bytes key value : List ℕ) (owner : ℕ) : Type 0 where
  pub row : row_in bytes ≡ kept key value owner
  pub holds : HoldsRow bytes

module _ (bytes key value : List ℕ) (owner : ℕ)
    (whose : owner_in bytes ≡ owner)
    (key_long : key_length bytes ≡ length key)
    (keys : (n : ℕ) → n ≡ length key → take n (drop 10 bytes) ≡ key)
    (value_long : (n : ℕ) → n ≡ 10 + length key → number 4 (drop n bytes) ≡ length value)
    (values : (n m : ℕ) → n ≡ 14 + length key → m ≡ length value → take m (drop n bytes) ≡ value)
    (key_fits : length key ≤ KEY_BYTES) (value_fits : length value ≤ VALUE_BYTES)
    (range : HEAD_BYTES + length key + length value ≤ length bytes) where
  place : value_place bytes ≡ 10 + length key
  place = omega (arith, key_long)

  pub reads : Reads bytes key value owner
  reads =
      let key_is : key_in bytes ≡ key = keys (key_length bytes) key_long in
      let many : value_length bytes ≡ length value = value_long (value_place bytes) place in
      let value_is : value_in bytes ≡ value = values (value_place bytes + 4) (value_length bytes) (omega (arith, place)) many in
      record {
        row = λ i. kept (key_is i) (value_is i) (whose i);
        holds = record { range = omega (arith, range, place, many); key = omega (arith, key_long, key_fits); value = omega (arith, many, value_fits) };
      }

-- bytes that were written in full
module _ (owner : ℕ) (key value rest : List ℕ) (owner_fits : owner < 2 ^ 64) (key_fits : length key ≤ KEY_BYTES) (value_fits : length value ≤ VALUE_BYTES) where
  abbrev b8 : List ℕ
  b8 = word_of 8 owner

  abbrev b2 : List ℕ
  b2 = word_of 2 (length key)

  abbrev b4 : List ℕ
  b4 = word_of 4 (length value)

  abbrev pub all : List ℕ
  all = b8 ++ (b2 ++ (key ++ (b4 ++ (value ++ rest))))

  behind_owner : drop 8 all ≡ b2 ++ (key ++ (b4 ++ (value ++ rest)))
  behind_owner = drop_at b8 _ 8 (length-word 8 owner)

  behind_length : (n : ℕ) → n ≡ 10 → drop n all ≡ key ++ (b4 ++ (value ++ rest))
  behind_length n is = ap (λ (m : ℕ). drop m all) is ∙ sym (drop-drop 2 8 all) ∙ ap (drop 2) behind_owner ∙ drop_at b2 _ 2 (length-word 2 (length key))

  behind_key : (n : ℕ) → n ≡ 10 + length key → drop n all ≡ b4 ++ (value ++ rest)
  behind_key n is = ap (λ (m : ℕ). drop m all) is ∙ sym (drop-drop (length key) 10 all) ∙ ap (drop (length key)) (behind_length 10 refl) ∙ drop_at key _ (length key) refl

  behind_all : (n : ℕ) → n ≡ 14 + length key → drop n all ≡ value ++ rest
  behind_all n is =
      let sum : n ≡ 10 + length key + 4 = omega (arith, is) in
      ap (λ (m : ℕ). drop m all) sum ∙ sym (drop-drop 4 (10 + length key) all) ∙ ap (drop 4) (behind_key (10 + length key) refl) ∙ drop_at b4 _ 4 (length-word 4 (length value))

  wide : HEAD_BYTES + length key + length value ≤ length all
  wide = omega (
    arith,
    length-append b8 (b2 ++ (key ++ (b4 ++ (value ++ rest)))),
    length-append b2 (key ++ (b4 ++ (value ++ rest))),
    length-append key (b4 ++ (value ++ rest)),
    length-append b4 (value ++ rest),
    length-append value rest,
    length-word 8 owner,
    length-word 2 (length key),
    length-word 4 (length value),
  )

  all_reads : Reads all key value owner
  all_reads = reads all key value owner
      (number_back 8 owner _ owner_fits)
      (ap (number 2) behind_owner ∙ number_back 2 (length key) _ (omega (arith, key_fits)))
      (λ n is. ap (λ (m : ℕ). take m (drop 10 all)) is ∙ ap (take (length key)) (behind_length 10 refl) ∙ take_at key _ (length key) refl)
      (λ n is. ap (number 4) (behind_key n is) ∙ number_back 4 (length value) _ (omega (arith, value_fits)))
      (λ n m one two. ap (λ (k : ℕ). take k (drop n all)) two ∙ ap (take (length value)) (behind_all n one) ∙ take_at value rest (length value) refl)
      key_fits value_fits wide

  pub written_reads : (old first strings new : List ℕ) → first ≡ b8 ++ drop 8 old → strings ≡ b2 ++ (key ++ (b4 ++ (value ++ rest)))
      → new ≡ put_mid 8 (length first - 8) first strings → Reads new key value owner
  written_reads old first strings new firsts are is =
      let same : new ≡ all = is ∙ rest_written 8 first b8 (drop 8 old) firsts (length-word 8 owner) strings ∙ ap (λ (ys : List ℕ). b8 ++ ys) are in
      rw same all_reads

-- bytes that hold a row read as that row
module _ (old : List ℕ) (holds : HoldsRow old) where
  key_is_long : length (key_in old) ≡ key_length old
  key_is_long = length-take-le (key_length old) (drop 10 old) (omega (arith, length-drop 10 old, holds.range))

  value_is_long : length (value_in old) ≡ value_length old
  value_is_long = length-take-le (value_length old) (drop (value_place old + 4) old) (omega (arith, length-drop (value_place old + 4) old, holds.range))

  pub key_inside : length (key_in old) ≤ KEY_BYTES
  key_inside = omega (arith, key_is_long, holds.key)

  -- the owner is replaced
  module _ (owner : ℕ) (owner_fits : owner < 2 ^ 64) where
    abbrev moved : List ℕ
    moved = word_of 8 owner ++ drop 8 old

    beyond : (n : ℕ) → 8 ≤ n → drop n moved ≡ drop n old
    beyond n enough = drop-append-drop 8 old (word_of 8 owner) n enough (length-word 8 owner)

    moved_reads : Reads moved (key_in old) (value_in old) owner
    moved_reads = reads moved (key_in old) (value_in old) owner
        (number_back 8 owner _ owner_fits)
        (ap (number 2) (beyond 8 (omega arith)) ∙ sym key_is_long)
        (λ n is. ap (take n) (beyond 10 (omega arith)) ∙ ap (λ (m : ℕ). take m (drop 10 old)) (is ∙ key_is_long))
        (λ n is. ap (number 4) (beyond n (omega (arith, is))) ∙ ap (λ (m : ℕ). number 4 (drop m old)) (is ∙ ap (λ (m : ℕ). 10 + m) key_is_long) ∙ sym value_is_long)
        (λ n m one two.
        let at : n ≡ value_place old + 4 = omega (arith, one, key_is_long) in
        ap (take m) (beyond n (omega (arith, one))) ∙ (λ i. take ((two ∙ value_is_long) i) (drop (at i) old)))
        key_inside (omega (arith, value_is_long, holds.value))
        (omega (arith, length-append (word_of 8 owner) (drop 8 old), length-word 8 owner, length-drop 8 old, holds.range, key_is_long, value_is_long))

    pub told_reads : (new : List ℕ) → new ≡ moved → Reads new (key_in old) (value_in old) owner
    told_reads new is = rw is moved_reads

  -- the value is replaced
  module _ (start : ℕ) (at : start ≡ value_place old) (value rest : List ℕ) (value_fits : length value ≤ VALUE_BYTES) where
    abbrev front : List ℕ
    front = take start old

    abbrev b : List ℕ
    b = word_of 4 (length value)

    abbrev set_bytes : List ℕ
    set_bytes = front ++ (b ++ (value ++ rest))

    front_long : length front ≡ start
    front_long = length-take-le start old (omega (arith, at, holds.range))

    whole : front ++ drop start old ≡ old
    whole = take-append-drop start old

    owner_same : owner_in set_bytes ≡ owner_in old
    owner_same = number_front 8 front _ (omega (arith, front_long, at)) ∙ sym (number_front 8 front (drop start old) (omega (arith, front_long, at))) ∙ ap (number 8) whole

    dropped : (n : ℕ) (ys : List ℕ) → n ≤ start → drop n (front ++ ys) ≡ drop n front ++ ys
    dropped n ys less = drop-append-le n front ys (omega (arith, front_long, less))

    length_same : key_length set_bytes ≡ key_length old
    length_same =
        let enough : 2 ≤ length (drop 8 front) = omega (arith, length-drop 8 front, front_long, at) in
        ap (number 2) (dropped 8 _ (omega (arith, at))) ∙ number_front 2 (drop 8 front) _ enough ∙ sym (number_front 2 (drop 8 front) (drop start old) enough)
        ∙ ap (number 2) (sym (dropped 8 (drop start old) (omega (arith, at))) ∙ ap (drop 8) whole)

    key_same : (n : ℕ) → n ≡ length (key_in old) → take n (drop 10 set_bytes) ≡ key_in old
    key_same n is =
        let long : length (drop 10 front) ≡ n = omega (arith, length-drop 10 front, front_long, at, is, key_is_long) in
        ap (take n) (dropped 10 _ (omega (arith, at))) ∙ take_at (drop 10 front) _ n long ∙ sym (take_at (drop 10 front) (drop start old) n long)
        ∙ ap (take n) (sym (dropped 10 (drop start old) (omega (arith, at))) ∙ ap (drop 10) whole) ∙ ap (λ (m : ℕ). take m (drop 10 old)) (is ∙ key_is_long)

    behind_front : (n : ℕ) → n ≡ start → drop n set_bytes ≡ b ++ (value ++ rest)
    behind_front n is = drop_at front _ n (front_long ∙ sym is)

    behind_b : (n : ℕ) → n ≡ start + 4 → drop n set_bytes ≡ value ++ rest
    behind_b n is = ap (λ (m : ℕ). drop m set_bytes) is ∙ sym (drop-drop 4 start set_bytes) ∙ ap (drop 4) (behind_front start refl) ∙ drop_at b _ 4 (length-word 4 (length value))

    set_reads : Reads set_bytes (key_in old) value (owner_in old)
    set_reads = reads set_bytes (key_in old) value (owner_in old)
        owner_same
        (length_same ∙ sym key_is_long)
        key_same
        (λ n is. ap (number 4) (behind_front n (omega (arith, is, at, key_is_long))) ∙ number_back 4 (length value) _ (omega (arith, value_fits)))
        (λ n m one two. ap (take m) (behind_b n (omega (arith, one, at, key_is_long))) ∙ take_at value rest m (sym two))
        key_inside value_fits
        (omega (arith, length-append front (b ++ (value ++ rest)), length-append b (value ++ rest), length-append value rest, length-word 4 (length value), front_long, at, key_is_long))

    pub value_reads : (strings new : List ℕ) → strings ≡ b ++ (value ++ rest) → new ≡ put_mid start (length old - start) old strings → Reads new (key_in old) value (owner_in old)
    value_reads strings new are is =
        let same : new ≡ set_bytes = is ∙ rest_written start old front (drop start old) (sym whole) front_long strings ∙ ap (λ (ys : List ℕ). front ++ ys) are in
        rw same set_reads
