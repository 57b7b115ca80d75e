-- Entries with the program's outcome at each, in key order.
use Rattle.std.proofs.Common.{◌≡◌, ℕ, zero, suc, ◌+◌, ◌<◌, List, [], ◌∷◌, ◌++◌, cond, true, false, get_or, map, length, sum_by, Option, Some, Ok, Err, refl, ap, arith, T}
use Rattle.std.specs.Prelude.{⊤}
use Rattle.std.specs.List.{count_by}
use Rattle.std.specs.Ordering.{is_lt}
use Rattle.std.specs.Cmp.{IsStrictWeakOrder}
use Rattle.std.specs.Cmp.Lexicographic.{nat_list_cmp_total}
use Rattle.std.specs.FinMap.{is_sorted}
use Rattle.std.specs.FinMap.Entries.{below_all}
use Rattle.std.proofs.lemmas.List.MinMax.{ranks_by}
use Rattle.std.proofs.lemmas.List.Sums.{sum_by-cons, sum_by-append}
use Rattle.bpf_model.specs.declared.input.Answer.TheVariants.{Nothing, Bytes}
use Rattle.bpf_model.specs.Fits.{input_of}
use Rattle.verifier.specs.Checked.{Checked}
use Rattle.bins.specs.Table.{Entry, by_bytes}
use Rattle.bins.specs.Replacements.{Outcome, ComesTo, is_unfit}
use Rattle.bins.specs.Passes.{AreOutcomes}
use Rattle.atomic_methods.specs.declared.walk_reply.WalkReply.{WalkReply}
use Rattle.atomic_methods.specs.Replies.{present}
use Rattle.bulk_walks.specs.Turns.{items_in, AreReplies}
use Rattle.bins.proofs.SameEntries.{both, first, second}
use Rattle.bulk_walks.proofs.Sums.{sum_of_ones}

-- an entry and the program's outcome at it
abbrev pub Pair : Type 0
Pair = Entry × Outcome

abbrev pub entries_in : List Pair → List Entry
entries_in ps = map (λ p. p.0) ps

abbrev pub outcomes_in : List Pair → List Outcome
outcomes_in ps = map (λ p. p.1) ps

-- its position among pairs in key order
abbrev insert : Pair → List Pair → List Pair
insert p [] = p ∷ []
insert p (q ∷ qs) = cond (is_lt (by_bytes q.0.0 p.0.0)) (q ∷ insert p qs) (p ∷ q ∷ qs)

-- the pairs in key order
abbrev pub in_order : List Pair → List Pair
in_order [] = []
in_order (p ∷ ps) = insert p (in_order ps)

sum_by-insert : (h : Pair → ℕ) (p : Pair) (qs : List Pair) → sum_by h (insert p qs) ≡ h p + sum_by h qs
sum_by-insert h p [] = sum_by-cons h p []
sum_by-insert h p (q ∷ qs) = elim (is_lt (by_bytes q.0.0 p.0.0)) as (λ b. sum_by h (cond b (q ∷ insert p qs) (p ∷ q ∷ qs)) ≡ h p + sum_by h (q ∷ qs)) [
  | true ↦
      let rest = sum_by-insert h p qs in
      let one = sum_by-cons h q (insert p qs) in
      let other = sum_by-cons h q qs in
      omega (arith, rest, one, other)
  | false ↦ sum_by-cons h p (q ∷ qs)
]

pub sum_by-in_order : (h : Pair → ℕ) (ps : List Pair) → sum_by h (in_order ps) ≡ sum_by h ps
sum_by-in_order h [] = refl
sum_by-in_order h (p ∷ ps) =
    let rest = sum_by-in_order h ps in
    let one = sum_by-insert h p (in_order ps) in
    let other = sum_by-cons h p ps in
    omega (arith, rest, one, other)

-- the first of these entries does not come before this one
abbrev NotBefore : Entry → List Entry → Type 0
NotBefore e [] = ⊤
NotBefore e (f ∷ es) = is_lt (by_bytes f.0 e.0) ≡ false

-- no entry comes before its predecessor
abbrev pub Ordered : List Entry → Type 0
Ordered [] = ⊤
Ordered (e ∷ es) = NotBefore e es × Ordered es

pub near_by : (es : List Entry) → Ordered es → (k : ℕ) (d : Entry) → suc k < length es → is_lt (by_bytes (get_or es (suc k) d).0 (get_or es k d).0) ≡ false
near_by [] h k d low = absurd (omega (arith, low))
near_by (e ∷ []) h k d low = absurd (omega (arith, low))
near_by (e ∷ f ∷ es) h zero d low = h.0
near_by (e ∷ f ∷ es) h (suc k) d low = near_by (f ∷ es) h.1 k d (omega (arith, low))

ranks : IsStrictWeakOrder (λ (x y : Entry). is_lt (by_bytes x.0 y.0))
ranks = ranks_by nat_list_cmp_total (λ (e : Entry). e.0)

not_before_insert : (e : Entry) (p : Pair) (qs : List Pair) → is_lt (by_bytes p.0.0 e.0) ≡ false → NotBefore e (entries_in qs) → NotBefore e (entries_in (insert p qs))
not_before_insert e p [] h k = h
not_before_insert e p (q ∷ qs) h k = elim (is_lt (by_bytes q.0.0 p.0.0)) as (λ b. NotBefore e (entries_in (cond b (q ∷ insert p qs) (p ∷ q ∷ qs)))) [ true ↦ k | false ↦ h ]

ordered_insert : (p : Pair) (qs : List Pair) → Ordered (entries_in qs) → Ordered (entries_in (insert p qs))
ordered_insert p [] h = (tt, tt)
ordered_insert p (q ∷ qs) h = elim (is_lt (by_bytes q.0.0 p.0.0)) as (λ b. is_lt (by_bytes q.0.0 p.0.0) ≡ b → Ordered (entries_in (cond b (q ∷ insert p qs) (p ∷ q ∷ qs)))) [
  | true ↦ λ is. (not_before_insert q.0 p qs (ranks.one_way q.0 p.0 is) h.0, ordered_insert p qs h.1)
  | false ↦ λ is. (is, h)
] refl

pub ordered_in_order : (ps : List Pair) → Ordered (entries_in (in_order ps))
ordered_in_order [] = tt
ordered_in_order (p ∷ ps) = ordered_insert p (in_order ps) (ordered_in_order ps)

module _ (checked : Checked) (arg : Option (List ℕ)) where
  -- each is the program's outcome at its entry
  abbrev pub AllCome : List Pair → Type 0
  AllCome [] = ⊤
  AllCome (p ∷ ps) = ComesTo checked (input_of p.0.0 (Some p.0.1) arg) p.1 × AllCome ps

  come_insert : (p : Pair) (qs : List Pair) → ComesTo checked (input_of p.0.0 (Some p.0.1) arg) p.1 → AllCome qs → AllCome (insert p qs)
  come_insert p [] c h = (c, tt)
  come_insert p (q ∷ qs) c h = elim (is_lt (by_bytes q.0.0 p.0.0)) as (λ b. AllCome (cond b (q ∷ insert p qs) (p ∷ q ∷ qs))) [ true ↦ (h.0, come_insert p qs c h.1) | false ↦ (c, h) ]

  pub come_in_order : (ps : List Pair) → AllCome ps → AllCome (in_order ps)
  come_in_order [] h = tt
  come_in_order (p ∷ ps) h = come_insert p (in_order ps) h.0 (come_in_order ps h.1)

  come_append : (ps qs : List Pair) → AllCome ps → AllCome qs → AllCome (ps ++ qs)
  come_append [] qs h k = k
  come_append (p ∷ ps) qs h k = (h.0, come_append ps qs h.1 k)

  pub outcomes_of : (ps : List Pair) → AllCome ps → AreOutcomes checked arg (entries_in ps) (outcomes_in ps)
  outcomes_of [] h = tt
  outcomes_of (p ∷ ps) h = (h.0, outcomes_of ps h.1)

-- the weight of an answer, if it is present
abbrev weight_at : (Entry → ℕ) → List ℕ → Outcome → ℕ
weight_at h key (Ok (Bytes answer)) = h (key, answer)
weight_at h key (Ok Nothing) = 0
weight_at h key (Err part) = 0

abbrev pub answer_weight : (Entry → ℕ) → Pair → ℕ
answer_weight h p = weight_at h p.0.0 p.1

abbrev pub unfit_weight : Pair → ℕ
unfit_weight p = cond (is_unfit p.1) 1 0

present_cons : (h : Entry → ℕ) (e : Entry) (o : Outcome) (es : List Entry) (os : List Outcome) → sum_by h (present (e ∷ es) (o ∷ os)) ≡ weight_at h e.0 o + sum_by h (present es os)
present_cons h e (Ok (Bytes answer)) es os = sum_by-cons h (e.0, answer) (present es os)
present_cons h e (Ok Nothing) es os = omega arith
present_cons h e (Err part) es os = omega arith

-- the present answers weigh the same as the pairs' answers
pub sum_by-present : (h : Entry → ℕ) (ps : List Pair) → sum_by h (present (entries_in ps) (outcomes_in ps)) ≡ sum_by (answer_weight h) ps
sum_by-present h [] = refl
sum_by-present h (p ∷ ps) =
    let rest = sum_by-present h ps in
    let one = present_cons h p.0 p.1 (entries_in ps) (outcomes_in ps) in
    let other = sum_by-cons (answer_weight h) p ps in
    omega (arith, rest, one, other)

below-present : (x : List ℕ) (es : List Entry) (os : List Outcome) → T (below_all by_bytes x es) → T (below_all by_bytes x (present es os))
below-present x [] os h = tt
below-present x (e ∷ es) [] h = tt
below-present x (e ∷ es) (Ok (Bytes answer) ∷ os) h = both _ _ (first _ _ h) (below-present x es os (second _ _ h))
below-present x (e ∷ es) (Ok Nothing ∷ os) h = below-present x es os (second _ _ h)
below-present x (e ∷ es) (Err part ∷ os) h = below-present x es os (second _ _ h)

-- the present answers of entries in key order are in key order
pub sorted-present : (es : List Entry) (os : List Outcome) → T (is_sorted by_bytes es) → T (is_sorted by_bytes (present es os))
sorted-present [] os h = tt
sorted-present (e ∷ es) [] h = tt
sorted-present (e ∷ es) (Ok (Bytes answer) ∷ os) h = both _ _ (below-present e.0 es os (first _ _ h)) (sorted-present es os (second _ _ h))
sorted-present (e ∷ es) (Ok Nothing ∷ os) h = sorted-present es os (second _ _ h)
sorted-present (e ∷ es) (Err part ∷ os) h = sorted-present es os (second _ _ h)

-- entries with their outcomes
abbrev paired : List Entry → List Outcome → List Pair
paired [] os = []
paired (e ∷ es) [] = []
paired (e ∷ es) (o ∷ os) = (e, o) ∷ paired es os

-- the pairs of entries and outcomes
record Paired (checked : Checked) (arg : Option (List ℕ)) (es : List Entry) (os : List Outcome) (ps : List Pair) : Type 0 where
  entries : (h : Entry → ℕ) → sum_by (λ p. h p.0) ps ≡ sum_by h es
  answers : (h : Entry → ℕ) → sum_by (answer_weight h) ps ≡ sum_by h (present es os)
  unfit : sum_by unfit_weight ps ≡ count_by is_unfit os
  come : AllCome checked arg ps

paired_are : (checked : Checked) (arg : Option (List ℕ)) (es : List Entry) (os : List Outcome) → length os ≡ length es → AreOutcomes checked arg es os → Paired checked arg es os (paired es os)
paired_are checked arg [] [] same are = record { entries = λ h. refl; answers = λ h. refl; unfit = refl; come = tt }
paired_are checked arg [] (o ∷ os) same are = absurd (omega (arith, same))
paired_are checked arg (e ∷ es) [] same are = absurd (omega (arith, same))
paired_are checked arg (e ∷ es) (o ∷ os) same are =
    let rest = paired_are checked arg es os (omega (arith, same)) are.1 in
    let ps = paired es os in
    record {
      entries = λ h. let r = rest.entries h in let a = sum_by-cons (λ (p : Pair). h p.0) (e, o) ps in let b = sum_by-cons h e es in omega (arith, r, a, b);
      answers = λ h. let r = rest.answers h in let a = sum_by-cons (answer_weight h) (e, o) ps in let b = present_cons h e o es os in omega (arith, r, a, b);
      unfit = let r = rest.unfit in let a = sum_by-cons unfit_weight (e, o) ps in let b = sum_by-cons (λ (x : Outcome). cond (is_unfit x) 1 0) o os in omega (arith, r, a, b);
      come = (are.0, rest.come);
    }

-- all pairs of several replies
pub record AllPairs (checked : Checked) (arg : Option (List ℕ)) (lists : List (List Entry)) (replies : List WalkReply) : Type 0 where
  pub pairs : List Pair
  pub come : AllCome checked arg pairs
  pub entries : (h : Entry → ℕ) → sum_by (λ p. h p.0) pairs ≡ sum_by (λ es. sum_by h es) lists
  pub answers : (h : Entry → ℕ) → sum_by (answer_weight h) pairs ≡ sum_by (λ es. sum_by h es) (items_in replies)
  pub scanned : sum_by (λ (r : WalkReply). r.counts.scanned) replies ≡ length pairs
  pub given : sum_by (λ (r : WalkReply). r.counts.given) replies ≡ sum_by (answer_weight (λ _. 1)) pairs
  pub unfit : sum_by (λ (r : WalkReply). r.counts.unfit) replies ≡ sum_by unfit_weight pairs

pub all_pairs : (checked : Checked) (arg : Option (List ℕ)) (lists : List (List Entry)) (replies : List WalkReply) → AreReplies checked arg lists replies → AllPairs checked arg lists replies
all_pairs checked arg [] [] are = record { pairs = []; come = tt; entries = λ h. refl; answers = λ h. refl; scanned = refl; given = refl; unfit = refl }
all_pairs checked arg [] (r ∷ replies) are = absurd are
all_pairs checked arg (es ∷ lists) [] are = absurd are
all_pairs checked arg (es ∷ lists) (r ∷ replies) are =
    let rest = all_pairs checked arg lists replies are.1 in
    let os = are.0.outcomes in
    let ps = paired es os in
    let here = paired_are checked arg es os are.0.one_each are.0.are_outcomes in
    record {
      pairs = ps ++ rest.pairs;
      come = come_append checked arg ps rest.pairs here.come rest.come;
      entries = λ h.
          let a = sum_by-append (λ (p : Pair). h p.0) ps rest.pairs in
          let b = here.entries h in
          let c = rest.entries h in
          let d = sum_by-cons (λ (xs : List Entry). sum_by h xs) es lists in
          omega (arith, a, b, c, d);
      answers = λ h.
          let a = sum_by-append (answer_weight h) ps rest.pairs in
          let b = here.answers h in
          let c = rest.answers h in
          let d = sum_by-cons (λ (xs : List Entry). sum_by h xs) r.items (items_in replies) in
          let e = ap (λ (xs : List Entry). sum_by h xs) are.0.items in
          omega (arith, a, b, c, d, e);
      scanned =
          let a = sum_by-append (λ (p : Pair). 1) ps rest.pairs in
          let b = here.entries (λ _. 1) in
          let c = sum_by-cons (λ (x : WalkReply). x.counts.scanned) r replies in
          let d = sum_of_ones es in
          let e = sum_of_ones (ps ++ rest.pairs) in
          let f = sum_of_ones rest.pairs in
          omega (arith, a, b, c, d, e, f, rest.scanned, are.0.scanned);
      given =
          let a = sum_by-append (answer_weight (λ _. 1)) ps rest.pairs in
          let b = here.answers (λ _. 1) in
          let c = sum_by-cons (λ (x : WalkReply). x.counts.given) r replies in
          let d = sum_of_ones (present es os) in
          let e = ap (λ (xs : List Entry). length xs) are.0.items in
          omega (arith, a, b, c, d, e, rest.given, are.0.given);
      unfit =
          let a = sum_by-append unfit_weight ps rest.pairs in
          let c = sum_by-cons (λ (x : WalkReply). x.counts.unfit) r replies in
          omega (arith, a, c, here.unfit, rest.unfit, are.0.unfit);
    }
