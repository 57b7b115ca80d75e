-- The replacement of each value, stripe by stripe and in the whole table.
use Rattle.std.proofs.Common.{◌≡◌, ℕ, zero, suc, ◌+◌, ◌<◌, ◌≤◌, Bool, true, false, cond, List, [], ◌∷◌, ◌++◌, length, get_or, set, take, drop, Option, Some, None, Ok, refl, sym, ap, subst, ◌∙◌, arith}
use Rattle.std.specs.Prelude.{count_by}
use Rattle.std.specs.Option.{option_map}
use Rattle.std.specs.Ordering.{eq_by_cmp}
use Rattle.std.specs.Cmp.{tied_itself}
use Rattle.std.specs.FinMap as map
use Rattle.std.specs.FinMap.{find, get-empty, get-entries, get-from_entries, len-entries, len-empty}
use Rattle.std.proofs.lemmas.List.{take_more, take_more_set, drop_more, drop-set-lt, length-drop}
use Rattle.std.proofs.lemmas.List.Sums.{sum_by-cons, sum_by-append, count_by-le-length}
use Rattle.bpf_model.specs.declared.input.Answer.TheVariants.{Nothing}
use Rattle.bpf_model.specs.Fits.{input_of}
use Rattle.verifier.specs.Checked.{Checked}
use Rattle.bins.specs.declared.counts.Counts.{Counts}
use Rattle.bins.specs.Table.{Entry, Table, by_bytes}
use Rattle.bins.specs.Replacements.{Outcome, ComesTo, value_after, is_given, is_unfit, ReplacesEach}
use Rattle.bins.proofs.MapEdits.{total}
use Rattle.bins.proofs.EntryCounts.{count_all, counted_in_table}
use Rattle.atomic_methods.specs.Whole.{all_entries, whole, stripe_at, AreStripes, IsSum, ReplacesStripes}
use Rattle.atomic_methods.proofs.EntryLemmas.{first_some, find-append}
use Rattle.atomic_methods.proofs.WholeLemmas.{none_anywhere, some_of_none, Apart, Distinct_all}

-- the outcome of a key in the first stripe, or else another one
abbrev in_first : Option (List ℕ) → Outcome → Outcome → Outcome
in_first (Some value) here rest = here
in_first None here rest = rest

-- a key is searched in the first stripe, then in the others
get-cons : (t : Table) (ts : List Table) (q : List ℕ) → map.get (whole (t ∷ ts)) q ≡ first_some (map.get t q) (map.get (whole ts) q)
get-cons t ts q =
    get-from_entries total (map.entries t ++ all_entries ts) q ∙ find-append q (map.entries t) (all_entries ts)
    ∙ ap (λ (x : Option (List ℕ)). first_some x (find by_bytes q (all_entries ts))) (sym (get-entries t q))
    ∙ ap (first_some (map.get t q)) (sym (get-from_entries total (all_entries ts) q))

comes_by : (P : Outcome → Type 0) (v : List ℕ) (o w : Option (List ℕ)) (a b : Outcome) → first_some o w ≡ Some v → (o ≡ Some v → P a) → (w ≡ Some v → P b) → P (in_first o a b)
comes_by P v (Some x) w a b e f g = f e
comes_by P v None w a b e f g = g e

values_by : (o w : Option (List ℕ)) (a b : Outcome) → first_some (option_map (value_after a) o) (option_map (value_after b) w) ≡ option_map (value_after (in_first o a b)) (first_some o w)
values_by (Some x) w a b = refl
values_by None w a b = refl

-- two tests that agree on the keys of the entries give the same count
either_key : (p r : List ℕ → Bool) (e : Entry) (es : List Entry) → ((q v : List ℕ) → find by_bytes q (e ∷ es) ≡ Some v → p q ≡ r q)
    → (q v : List ℕ) → find by_bytes q es ≡ Some v → (b : Bool) → eq_by_cmp by_bytes q e.0 ≡ b → p q ≡ r q
either_key p r e es alike q v found true same = alike q e.1 (rw same refl)
either_key p r e es alike q v found false other = alike q v (rw other found)

count_same : (p r : List ℕ → Bool) (es : List Entry) → ((q v : List ℕ) → find by_bytes q es ≡ Some v → p q ≡ r q) → count_by (λ (e : Entry). p e.0) es ≡ count_by (λ (e : Entry). r e.0) es
count_same p r [] alike = refl
count_same p r (e ∷ es) alike =
    let here : p e.0 ≡ r e.0 = alike e.0 e.1 (let same = tied_itself total e.0 in rw same refl) in
    let later : count_by (λ (f : Entry). p f.0) es ≡ count_by (λ (f : Entry). r f.0) es = count_same p r es (λ q v found. either_key p r e es alike q v found (eq_by_cmp by_bytes q e.0) refl) in
    sum_by-cons _ e es ∙ ap (λ (b : Bool). cond b 1 0 + count_by (λ (f : Entry). p f.0) es) here ∙ ap (λ (n : ℕ). cond (r e.0) 1 0 + n) later ∙ sym (sum_by-cons _ e es)

in_first_of : (o : Option (List ℕ)) (v : List ℕ) (a b : Outcome) → o ≡ Some v → in_first o a b ≡ a
in_first_of o v a b e = rw e refl

in_rest_of : (o : Option (List ℕ)) (a b : Outcome) → (((w : List ℕ) → o ≡ Some w → ⊥)) → in_first o a b ≡ b
in_rest_of None a b none = refl
in_rest_of (Some w) a b none = absurd (none w refl)

module _ (t : Table) (ts : List Table) (apart : Apart (t ∷ ts)) where
  -- no key of the first stripe is in another
  not_later : (q v : List ℕ) → map.get t q ≡ Some v → find by_bytes q (all_entries ts) ≡ None
  not_later q v found = none_anywhere q ts (λ j. apart q v 0 (suc j) (λ e. absurd (omega (arith, e))) found)

  rest_apart : Apart ts
  rest_apart q v i j other found = apart q v (suc i) (suc j) (λ e. other (omega (arith, e))) found

  -- a count over the whole is the count over the first stripe plus that over the others
  counted_apart : (test : Entry → Bool) → count_by test (map.entries (whole (t ∷ ts))) ≡ count_by test (map.entries t) + count_by test (map.entries (whole ts))
  counted_apart test =
      counted_in_table test (all_entries (t ∷ ts)) (Distinct_all (t ∷ ts) apart) ∙ sum_by-append _ (map.entries t) (all_entries ts)
      ∙ ap (λ (n : ℕ). count_by test (map.entries t) + n) (sym (counted_in_table test (all_entries ts) (Distinct_all ts rest_apart)))

  len-cons : map.len (whole (t ∷ ts)) ≡ map.len t + map.len (whole ts)
  len-cons =
      let sums = counted_apart (λ (e : Entry). true) in
      omega (arith, len-entries (whole (t ∷ ts)), len-entries t, len-entries (whole ts), count_all (map.entries (whole (t ∷ ts))), count_all (map.entries t), count_all (map.entries (whole ts)), sums)

  module _ (flag : Outcome → Bool) (a b : List ℕ → Outcome) where
    abbrev joined : List ℕ → Outcome
    joined q = in_first (map.get t q) (a q) (b q)

    flagged : count_by (λ (e : Entry). flag (joined e.0)) (map.entries (whole (t ∷ ts))) ≡ count_by (λ (e : Entry). flag (a e.0)) (map.entries t) + count_by (λ (e : Entry). flag (b e.0)) (map.entries (whole ts))
    flagged =
        let here : count_by (λ (e : Entry). flag (joined e.0)) (map.entries t) ≡ count_by (λ (e : Entry). flag (a e.0)) (map.entries t) =
        count_same (λ q. flag (joined q)) (λ q. flag (a q)) (map.entries t) (λ q v found. ap flag (in_first_of (map.get t q) v (a q) (b q) (get-entries t q ∙ found))) in
        let rest : count_by (λ (e : Entry). flag (joined e.0)) (map.entries (whole ts)) ≡ count_by (λ (e : Entry). flag (b e.0)) (map.entries (whole ts)) =
        count_same (λ q. flag (joined q)) (λ q. flag (b q)) (map.entries (whole ts)) (λ q v found. ap flag (in_rest_of (map.get t q) (a q) (b q) (λ w is.
        some_of_none _ v (not_later q w is) (sym (get-from_entries total (all_entries ts) q) ∙ get-entries (whole ts) q ∙ found)))) in
        counted_apart (λ (e : Entry). flag (joined e.0)) ∙ ap (λ (n : ℕ). n + count_by (λ (e : Entry). flag (joined e.0)) (map.entries (whole ts))) here
        ∙ ap (λ (n : ℕ). count_by (λ (e : Entry). flag (a e.0)) (map.entries t) + n) rest

module _ (checked : Checked) (arg : Option (List ℕ)) where
  -- a change made stripe by stripe is made to the whole
  pub replaces_whole : (olds news : List Table) (sum : Counts) → Apart olds → ReplacesStripes checked arg olds news sum → ReplacesEach checked arg (whole olds) (whole news) sum
  replaces_whole [] [] sum apart none = record {
    outcome = λ q. Ok Nothing;
    comes_to = λ q v found. absurd (some_of_none _ v (get-empty by_bytes q) found);
    values = λ q. get-empty by_bytes q ∙ sym (ap (option_map (value_after (Ok Nothing))) (get-empty by_bytes q));
    scanned = none.scanned ∙ sym (len-empty by_bytes (List ℕ));
    given = none.given ∙ sym (counted_in_table (λ (e : Entry). false) [] tt);
    unfit = none.unfit ∙ sym (counted_in_table (λ (e : Entry). false) [] tt);
  }
  replaces_whole [] (new ∷ news) sum apart h = absurd h
  replaces_whole (old ∷ olds) [] sum apart h = absurd h
  replaces_whole (old ∷ olds) (new ∷ news) sum apart (here, (rest, (each, (others, sums)))) =
      let later = replaces_whole olds news rest (rest_apart old olds apart) others in
      record {
        outcome = joined old olds apart is_given each.outcome later.outcome;
        comes_to = λ q v found. comes_by (ComesTo checked (input_of q (Some v) arg)) v (map.get old q) (map.get (whole olds) q) _ _ (sym (get-cons old olds q) ∙ found) (each.comes_to q v) (later.comes_to q v);
        values = λ q. get-cons new news q ∙ ap (λ (x : Option (List ℕ)). first_some x (map.get (whole news) q)) (each.values q) ∙ ap (first_some (option_map (value_after (each.outcome q)) (map.get old q))) (later.values q)
            ∙ values_by (map.get old q) (map.get (whole olds) q) (each.outcome q) (later.outcome q) ∙ ap (option_map (value_after (joined old olds apart is_given each.outcome later.outcome q))) (sym (get-cons old olds q));
        scanned = omega (arith, sums.scanned, each.scanned, later.scanned, len-cons old olds apart);
        given = let both = flagged old olds apart is_given each.outcome later.outcome in omega (arith, sums.given, each.given, later.given, both);
        unfit = let both = flagged old olds apart is_unfit each.outcome later.outcome in omega (arith, sums.unfit, each.unfit, later.unfit, both);
      }

  none_kept : (old new : Table) (counts : Counts) → ReplacesEach checked arg old new counts → (q : List ℕ) → map.get old q ≡ None → map.get new q ≡ None
  none_kept old new counts each q none = each.values q ∙ ap (option_map (value_after (each.outcome q))) none

  same_length : (olds news : List Table) (sum : Counts) → ReplacesStripes checked arg olds news sum → length news ≡ length olds
  same_length [] [] sum h = refl
  same_length [] (new ∷ news) sum h = absurd h
  same_length (old ∷ olds) [] sum h = absurd h
  same_length (old ∷ olds) (new ∷ news) sum (here, (rest, (each, (others, sums)))) = ap suc (same_length olds news rest others)

  still_none : (olds news : List Table) (sum : Counts) → ReplacesStripes checked arg olds news sum → (i : ℕ) (q : List ℕ) → map.get (stripe_at olds i) q ≡ None → map.get (stripe_at news i) q ≡ None
  still_none [] [] sum h i q none = none
  still_none [] (new ∷ news) sum h i q none = absurd h
  still_none (old ∷ olds) [] sum h i q none = absurd h
  still_none (old ∷ olds) (new ∷ news) sum (here, (rest, (each, (others, sums)))) zero q none = none_kept old new here each q none
  still_none (old ∷ olds) (new ∷ news) sum (here, (rest, (each, (others, sums)))) (suc i) q none = still_none olds news rest others i q none

  -- no key moves to another stripe
  pub AreStripes-replaced : (olds news : List Table) (sum : Counts) → AreStripes olds → ReplacesStripes checked arg olds news sum → AreStripes news
  AreStripes-replaced olds news sum is h = let same = same_length olds news sum h in record {
    count = rw same is.count;
    apart = λ i q away. still_none olds news sum h i q (is.apart i q (rw same at away));
  }

  -- one stripe more
  pub ReplacesStripes-append : (olds news : List Table) (sum : Counts) (old new : Table) (here more : Counts) → ReplacesStripes checked arg olds news sum → ReplacesEach checked arg old new here → IsSum more sum here
      → ReplacesStripes checked arg (olds ++ old ∷ []) (news ++ new ∷ []) more
  ReplacesStripes-append [] [] sum old new here more none each sums = (
    here,
    (
      record { scanned = 0; given = 0; unfit = 0 },
      (
        each,
        (
          record { scanned = refl; given = refl; unfit = refl },
          record { scanned = omega (arith, sums.scanned, none.scanned); given = omega (arith, sums.given, none.given); unfit = omega (arith, sums.unfit, none.unfit) },
        ),
      ),
    ),
  )
  ReplacesStripes-append [] (n ∷ news) sum old new here more h each sums = absurd h
  ReplacesStripes-append (o ∷ olds) [] sum old new here more h each sums = absurd h
  ReplacesStripes-append (o ∷ olds) (n ∷ news) sum old new here more (first, (rest, (done, (others, sum_is)))) each sums =
      let tail : Counts = record { scanned = rest.scanned + here.scanned; given = rest.given + here.given; unfit = rest.unfit + here.unfit } in (
        first,
        (
          tail,
          (
            done,
            (
              ReplacesStripes-append olds news rest old new here tail others each (record { scanned = refl; given = refl; unfit = refl }),
              record { scanned = omega (arith, sums.scanned, sum_is.scanned); given = omega (arith, sums.given, sum_is.given); unfit = omega (arith, sums.unfit, sum_is.unfit) },
            ),
          ),
        ),
      )

  -- entries that are given or unfit were scanned
  pub bounded_counts : (old new : Table) (counts : Counts) → ReplacesEach checked arg old new counts → (counts.given ≤ counts.scanned) × (counts.unfit ≤ counts.scanned)
  bounded_counts old new counts each = (
    omega (arith, each.given, each.scanned, len-entries old, count_by-le-length (λ (e : Entry). is_given (each.outcome e.0)) (map.entries old)),
    omega (arith, each.unfit, each.scanned, len-entries old, count_by-le-length (λ (e : Entry). is_unfit (each.outcome e.0)) (map.entries old)),
  )

  same_tail : (x y : Table) (xs ys : List Table) → x ∷ xs ≡ y ∷ ys → (x ≡ y) × (xs ≡ ys)
  same_tail x y xs ys e = (cc, cc)

  -- the stripe at place i is replaced, after the ones before it
  pub replaced_more : (olds news : List Table) (i : ℕ) (sum : Counts) (d new : Table) (here more : Counts) → i < length news → drop i news ≡ drop i olds
      → ReplacesStripes checked arg (take i olds) (take i news) sum → ReplacesEach checked arg (get_or news i d) new here → IsSum more sum here
      → record { done : ReplacesStripes checked arg (take (i + 1) olds) (take (i + 1) (set news i new)) more; rest : drop (i + 1) (set news i new) ≡ drop (i + 1) olds }
  replaced_more olds news i sum d new here more lt rest done each sums =
      let in_range : i < length olds = omega (arith, length-drop i news, length-drop i olds, ap length rest, lt) in
      let both = same_tail (get_or news i d) (get_or olds i d) (drop (i + 1) news) (drop (i + 1) olds) (sym (drop_more news i d lt) ∙ rest ∙ drop_more olds i d in_range) in
      record {
        done = rw (take_more olds i d in_range, take_more_set news i new lt)
            (ReplacesStripes-append (take i olds) (take i news) sum (get_or olds i d) new here more done (subst (λ (t : Table). ReplacesEach checked arg t new here) both.0 each) sums);
        rest = drop-set-lt (i + 1) news i new (omega arith) ∙ both.1;
      }
