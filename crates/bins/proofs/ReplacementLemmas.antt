-- Entries after outcomes: one more outcome, and the table that they make.
use Rattle.std.proofs.Common.{◌≡◌, ℕ, suc, ◌+◌, ◌<◌, Bool, true, false, T, cond, ◌&&◌, List, [], ◌∷◌, ◌++◌, length, get_or, set, Option, Some, None, Result, Ok, Err, Ordering, is_eq, is_lt, refl, sym, ap, subst, ◌∙◌, arith}
use Rattle.std.specs.List.{count_by}
use Rattle.std.proofs.lemmas.List.Sums.{sum_by-cons, sum_by_push}
use Rattle.std.specs.Option.{option_map, unwrap_or}
use Rattle.std.specs.Ordering.{eq_by_cmp}
use Rattle.std.specs.Cmp.{tied_itself}
use Rattle.std.specs.FinMap.{find, is_sorted, from_sorted, from_entries, get-from_entries}
use Rattle.std.specs.FinMap.Entries.{below_all}
use Rattle.bpf_model.specs.declared.input.Answer.TheVariants.{Nothing, Bytes}
use Rattle.bpf_model.specs.declared.input.InputPart.{InputPart}
use Rattle.bpf_model.specs.declared.input.InputPart.TheVariants.{Key}
use Rattle.bpf_model.specs.Fits.{input_of}
use Rattle.verifier.specs.Checked.{Checked}
use Rattle.bins.specs.declared.counts.Counts.{Counts}
use Rattle.bins.specs.Table.{Entry, Table, by_bytes}
use Rattle.bins.specs.KeptRows.{string_at}
use Rattle.bins.specs.Entries.{Distinct, entries_in}
use Rattle.bins.specs.Replacements.{Outcome, ComesTo, value_after, is_given, is_unfit, ReplacesEach}
use Rattle.bins.specs.Passes.{entered_of, AreOutcomes, entries_after, Replaces, ReplacesList}
use Rattle.bins.proofs.MapEdits.{total}
use Rattle.bins.proofs.DistinctEntries.{same_key, turned, alike, none_after}
use Rattle.bins.proofs.PairedEntries.{paired-length, paired-at, paired-write}
use Rattle.bins.proofs.EntryCounts.{Distinct-sorted, from_entries-sorted, counted_in_table, len-table}

pub length-entries_after : (es : List Entry) (os : List Outcome) → length (entries_after es os) ≡ length es
length-entries_after es [] = refl
length-entries_after [] (o ∷ os) = refl
length-entries_after (e ∷ es) (o ∷ os) = ap suc (length-entries_after es os)

-- the entries after the outcomes are unchanged
pub entry_at : (es : List Entry) (os : List Outcome) (d : Entry) → get_or (entries_after es os) (length os) d ≡ get_or es (length os) d
entry_at es [] d = refl
entry_at [] (o ∷ os) d = refl
entry_at (e ∷ es) (o ∷ os) d = entry_at es os d

pub entries_after-push : (es : List Entry) (os : List Outcome) (o : Outcome) (d : Entry) → length os < length es
    → entries_after es (os ++ o ∷ []) ≡ set (entries_after es os) (length os) ((get_or es (length os) d).0, value_after o (get_or es (length os) d).1)
entries_after-push [] os o d lt = absurd (omega (arith, lt))
entries_after-push (e ∷ es) [] o d lt = refl
entries_after-push (e ∷ es) (x ∷ os) o d lt = ap (λ (xs : List Entry). (e.0, value_after x e.1) ∷ xs) (entries_after-push es os o d (omega (arith, lt)))

pub AreOutcomes-push : (checked : Checked) (arg : Option (List ℕ)) (es : List Entry) (os : List Outcome) (o : Outcome) (d : Entry) → length os < length es
    → AreOutcomes checked arg es os
    → ComesTo checked (input_of (get_or es (length os) d).0 (Some (get_or es (length os) d).1) arg) o
    → AreOutcomes checked arg es (os ++ o ∷ [])
AreOutcomes-push checked arg [] os o d lt are is = absurd (omega (arith, lt))
AreOutcomes-push checked arg (e ∷ es) [] o d lt are is = (is, tt)
AreOutcomes-push checked arg (e ∷ es) (x ∷ os) o d lt are is = (are.0, AreOutcomes-push checked arg es os o d (omega (arith, lt)) are.1 is)

-- the entry at position i is replaced, after the ones before it
module _ (checked : Checked) (arg : Option (List ℕ)) (es here : List Entry) (os : List Outcome) (is : here ≡ entries_after es os) (i : ℕ) (at : length os ≡ i) (lt : i < length here) (d : Entry) where
  not_yet : length os < length es
  not_yet = omega (arith, ap length is, length-entries_after es os, lt)

  as_before : get_or here i d ≡ get_or es (length os) d
  as_before = ap (λ (xs : List Entry). get_or xs i d) is ∙ ap (λ (n : ℕ). get_or (entries_after es os) n d) (sym at) ∙ entry_at es os d

  pub outcomes_grow : (o : Outcome) → AreOutcomes checked arg es os → ComesTo checked (input_of (get_or here i d).0 (Some (get_or here i d).1) arg) o → AreOutcomes checked arg es (os ++ o ∷ [])
  outcomes_grow o are comes = AreOutcomes-push checked arg es os o d not_yet are (subst (λ (e : Entry). ComesTo checked (input_of e.0 (Some e.1) arg) o) as_before comes)

  pub entries_grow : (o : Outcome) (new : List ℕ) → new ≡ value_after o (get_or here i d).1 → set here i ((get_or here i d).0, new) ≡ entries_after es (os ++ o ∷ [])
  entries_grow o new entered =
      ap (λ (v : List ℕ). set here i ((get_or here i d).0, v)) entered
      ∙ ap (λ (e : Entry). set here i (e.0, value_after o e.1)) as_before
      ∙ ap (λ (xs : List Entry). set xs i ((get_or es (length os) d).0, value_after o (get_or es (length os) d).1)) is
      ∙ ap (λ (n : ℕ). set (entries_after es os) n ((get_or es (length os) d).0, value_after o (get_or es (length os) d).1)) (sym at)
      ∙ sym (entries_after-push es os o d not_yet)

-- the value at a position is replaced, if keys and values stand in two lists
module _ (checked : Checked) (arg : Option (List ℕ)) (ks first vs : List (List ℕ)) (os : List Outcome) (is : entries_in ks vs ≡ entries_after (entries_in ks first) os) (i : ℕ) (at : length os ≡ i)
    (same : length ks ≡ length vs) (lt : i < length ks) (new : List (List ℕ)) (told : Result Bool InputPart) (one : Replaces checked (string_at ks i) arg (string_at vs i) (string_at new i) told) where
  abbrev nobody : Entry
  nobody = ([], [])

  here : get_or (entries_in ks vs) i nobody ≡ (string_at ks i, string_at vs i)
  here = paired-at ks vs i nobody same lt

  within : i < length (entries_in ks vs)
  within = omega (arith, lt, paired-length ks vs same)

  pub paired_outcomes : AreOutcomes checked arg (entries_in ks first) os → AreOutcomes checked arg (entries_in ks first) (os ++ one.outcome ∷ [])
  paired_outcomes are = outcomes_grow checked arg (entries_in ks first) (entries_in ks vs) os is i at within nobody one.outcome are
      (subst (λ (e : Entry). ComesTo checked (input_of e.0 (Some e.1) arg) one.outcome) (sym here) one.comes_to)

  pub paired_entries : new ≡ set vs i (string_at new i) → entries_in ks new ≡ entries_after (entries_in ks first) (os ++ one.outcome ∷ [])
  paired_entries others =
      ap (entries_in ks) others ∙ paired-write ks vs i (string_at new i) nobody
      ∙ entries_grow checked arg (entries_in ks first) (entries_in ks vs) os is i at within nobody one.outcome (string_at new i) (one.entered ∙ ap (λ (e : Entry). value_after one.outcome e.1) (sym here))

-- the answer that an outcome gives tells how it counts
pub told_answer : (o : Outcome) (b : Bool) → Ok b ≡ entered_of o → (is_given o ≡ b) × (is_unfit o ≡ false)
told_answer (Ok (Bytes new)) b told = ((cc), refl)
told_answer (Ok Nothing) b told = ((cc), refl)
told_answer (Err part) b told = cc

pub told_part : (o : Outcome) (part : InputPart) → Err part ≡ entered_of o → (is_given o ≡ false) × (is_unfit o ≡ true)
told_part (Ok (Bytes new)) part told = cc
told_part (Ok Nothing) part told = cc
told_part (Err w) part told = (refl, refl)

-- one more counts if it passes
pub count_one_more : (p : Outcome → Bool) (os : List Outcome) (o : Outcome) (b : Bool) → p o ≡ b → count_by p (os ++ o ∷ []) ≡ count_by p os + cond b 1 0
count_one_more p os o b is = sum_by_push (λ x. cond (p x) 1 0) os o ∙ ap (λ (c : Bool). count_by p os + cond c 1 0) is

-- the keys are unchanged, so they are sorted
below-entries_after : (x : List ℕ) (es : List Entry) (os : List Outcome) → below_all by_bytes x (entries_after es os) ≡ below_all by_bytes x es
below-entries_after x es [] = refl
below-entries_after x [] (o ∷ os) = refl
below-entries_after x (e ∷ es) (o ∷ os) = ap (λ (b : Bool). is_lt (by_bytes x e.0) && b) (below-entries_after x es os)

pub sorted-entries_after : (es : List Entry) (os : List Outcome) → is_sorted by_bytes (entries_after es os) ≡ is_sorted by_bytes es
sorted-entries_after es [] = refl
sorted-entries_after [] (o ∷ os) = refl
sorted-entries_after (e ∷ es) (o ∷ os) = ap (λ (b : Bool). b && is_sorted by_bytes (entries_after es os)) (below-entries_after e.0 es os) ∙ ap (λ (b : Bool). below_all by_bytes e.0 es && b) (sorted-entries_after es os)

-- the outcome at a key
pub outcome_at : List Entry → List Outcome → List ℕ → Outcome
outcome_at [] os k = Err Key
outcome_at (e ∷ es) [] k = Err Key
outcome_at (e ∷ es) (o ∷ os) k = cond (eq_by_cmp by_bytes k e.0) o (outcome_at es os k)

inside : (x y : List ℕ) → Some x ≡ Some y → x ≡ y
inside x y e = ap (λ (o : Option (List ℕ)). unwrap_or o x) e

-- it is the program's outcome there
pub comes_to_at : (checked : Checked) (arg : Option (List ℕ)) (es : List Entry) (os : List Outcome) (k v : List ℕ) → length os ≡ length es → AreOutcomes checked arg es os
    → find by_bytes k es ≡ Some v → ComesTo checked (input_of k (Some v) arg) (outcome_at es os k)
unfolding outcome_at
comes_to_at checked arg [] os k v one_each are found = cc
comes_to_at checked arg (e ∷ es) [] k v one_each are found = absurd (omega (arith, one_each))
comes_to_at checked arg (e ∷ es) (o ∷ os) k v one_each are found =
    elim (eq_by_cmp by_bytes k e.0) as (λ b. eq_by_cmp by_bytes k e.0 ≡ b → cond b (Some e.1) (find by_bytes k es) ≡ Some v → ComesTo checked (input_of k (Some v) arg) (cond b o (outcome_at es os k))) [
      | true ↦ λ same is. subst (λ (x : List ℕ). ComesTo checked (input_of k (Some x) arg) o) (inside e.1 v is)
          (subst (λ (x : List ℕ). ComesTo checked (input_of x (Some e.1) arg) o) (sym (alike k e.0 same)) are.0)
      | false ↦ λ other is. comes_to_at checked arg es os k v (omega (arith, one_each)) are.1 is
    ] refl found

-- and the key's value is the one after it
pub find-entries_after : (es : List Entry) (os : List Outcome) (k : List ℕ) → length os ≡ length es
    → find by_bytes k (entries_after es os) ≡ option_map (value_after (outcome_at es os k)) (find by_bytes k es)
unfolding outcome_at
find-entries_after [] [] k one_each = refl
find-entries_after [] (o ∷ os) k one_each = absurd (omega (arith, one_each))
find-entries_after (e ∷ es) [] k one_each = absurd (omega (arith, one_each))
find-entries_after (e ∷ es) (o ∷ os) k one_each =
    elim (eq_by_cmp by_bytes k e.0) as (λ b. cond b (Some (value_after o e.1)) (find by_bytes k (entries_after es os)) ≡ option_map (value_after (cond b o (outcome_at es os k))) (cond b (Some e.1) (find by_bytes k es))) [
      | true ↦ refl
      | false ↦ find-entries_after es os k (omega (arith, one_each))
    ]

-- the number of entries, or outcomes, that pass, from the front
one : Bool → ℕ
one b = cond b 1 0

count_cons : {X : Type 0} (p : X → Bool) (x : X) (xs : List X) → count_by p (x ∷ xs) ≡ one (p x) + count_by p xs
unfolding one
count_cons p x xs = sum_by-cons (λ y. cond (p y) 1 0) x xs

-- the first outcome is not that of entries of other keys
count_others : (p : Outcome → Bool) (x : List ℕ) (o : Outcome) (es fs : List Entry) (os : List Outcome) → find by_bytes x fs ≡ None
    → count_by (λ (e : Entry). p (cond (eq_by_cmp by_bytes e.0 x) o (outcome_at es os e.0))) fs ≡ count_by (λ (e : Entry). p (outcome_at es os e.0)) fs
count_others p x o es [] os none = refl
count_others p x o es (f ∷ fs) os none =
    let rest = none_after (same_key x f.0) f.1 (find by_bytes x fs) none in
    count_cons (λ (e : Entry). p (cond (eq_by_cmp by_bytes e.0 x) o (outcome_at es os e.0))) f fs
    ∙ ap (λ (b : Bool). one (p (cond b o (outcome_at es os f.0))) + count_by (λ (e : Entry). p (cond (eq_by_cmp by_bytes e.0 x) o (outcome_at es os e.0))) fs) (turned f.0 x ∙ rest.0)
    ∙ ap (λ (n : ℕ). one (p (outcome_at es os f.0)) + n) (count_others p x o es fs os rest.1)
    ∙ sym (count_cons (λ (e : Entry). p (outcome_at es os e.0)) f fs)

-- to count the outcomes is to count the entries by the outcomes at their keys
pub count_by-outcome_at : (p : Outcome → Bool) (es : List Entry) (os : List Outcome) → Distinct es → length os ≡ length es
    → count_by p os ≡ count_by (λ (e : Entry). p (outcome_at es os e.0)) es
unfolding outcome_at
count_by-outcome_at p [] [] h one_each = refl
count_by-outcome_at p [] (o ∷ os) h one_each = absurd (omega (arith, one_each))
count_by-outcome_at p (e ∷ es) [] h one_each = absurd (omega (arith, one_each))
count_by-outcome_at p (e ∷ es) (o ∷ os) h one_each =
    count_cons p o os
    ∙ ap (λ (n : ℕ). one (p o) + n) (count_by-outcome_at p es os h.1 (omega (arith, one_each)) ∙ sym (count_others p e.0 o es es os h.0))
    ∙ ap (λ (r : Ordering). one (p (cond (is_eq r) o (outcome_at es os e.0))) + count_by (λ (f : Entry). p (cond (eq_by_cmp by_bytes f.0 e.0) o (outcome_at es os f.0))) es) (sym (tied_itself total e.0))
    ∙ sym (count_cons (λ (f : Entry). p (cond (eq_by_cmp by_bytes f.0 e.0) o (outcome_at es os f.0))) e es)

-- the keys are unchanged
Distinct-entries_after : (es : List Entry) (os : List Outcome) → length os ≡ length es → Distinct es → Distinct (entries_after es os)
Distinct-entries_after es [] one_each h = h
Distinct-entries_after [] (o ∷ os) one_each h = absurd (omega (arith, one_each))
Distinct-entries_after (e ∷ es) (o ∷ os) one_each h =
    let later : length os ≡ length es = omega (arith, one_each) in
    (find-entries_after es os e.0 later ∙ ap (option_map (value_after (outcome_at es os e.0))) h.0, Distinct-entries_after es os later h.1)

-- if no key stands twice, the change of the entries is the change of their table
pub replaces_entries : (checked : Checked) (arg : Option (List ℕ)) (old new : List Entry) (counts : Counts) → Distinct old → ReplacesList checked arg old new counts
    → Distinct new × ReplacesEach checked arg (from_entries old) (from_entries new) counts
replaces_entries checked arg old new counts h list =
    let outcome = outcome_at old list.outcomes in (
      subst Distinct (sym list.entered) (Distinct-entries_after old list.outcomes list.one_each h),
      record {
        outcome = outcome;
        comes_to = λ k v found. comes_to_at checked arg old list.outcomes k v list.one_each list.are_outcomes (sym (get-from_entries total old k) ∙ found);
        values = λ k. get-from_entries total new k ∙ ap (find by_bytes k) list.entered ∙ find-entries_after old list.outcomes k list.one_each
            ∙ ap (option_map (value_after (outcome k))) (sym (get-from_entries total old k));
        scanned = list.scanned ∙ sym (len-table old h);
        given = list.given ∙ count_by-outcome_at is_given old list.outcomes h list.one_each ∙ sym (counted_in_table (λ (e : Entry). is_given (outcome e.0)) old h);
        unfit = list.unfit ∙ count_by-outcome_at is_unfit old list.outcomes h list.one_each ∙ sym (counted_in_table (λ (e : Entry). is_unfit (outcome e.0)) old h);
      },
    )

-- if the entries are sorted, their change is the change of their table
pub replaces_table : (checked : Checked) (arg : Option (List ℕ)) (old new : List Entry) (counts : Counts) → T (is_sorted by_bytes old) → ReplacesList checked arg old new counts
    → T (is_sorted by_bytes new) × ReplacesEach checked arg (from_sorted old) (from_sorted new) counts
replaces_table checked arg old new counts h list =
    let after : T (is_sorted by_bytes (entries_after old list.outcomes)) = subst T (sym (sorted-entries_after old list.outcomes)) h in
    let sorted = subst (λ (xs : List Entry). T (is_sorted by_bytes xs)) (sym list.entered) after in
    let each = (replaces_entries checked arg old new counts (Distinct-sorted old h) list).1 in (
      sorted,
      subst (λ (t : Table). ReplacesEach checked arg t (from_sorted new) counts) (from_entries-sorted old h)
          (subst (λ (t : Table). ReplacesEach checked arg (from_entries old) t counts) (from_entries-sorted new sorted) each),
    )
