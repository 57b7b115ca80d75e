-- A table in stripes: where a key is found, and what an edit of one stripe means for the whole.
use Rattle.std.proofs.Common.{◌≡◌, ◌≢◌, ℕ, zero, suc, ◌<◌, Bool, true, false, cond, List, [], ◌∷◌, ◌++◌, length, get_or, set, take, ◌+◌, Option, Some, None, Result, Ok, Err, IfOk, OnErr, refl, sym, ap, subst, ◌∙◌, arith, inl, inr}
use Rattle.std.specs.Ordering.{eq_by_cmp}
use Rattle.std.specs.FinMap as map
use Rattle.std.specs.FinMap.{find, get-empty, get-insert, get-remove, get-entries, get-from_entries, same_map, entries_sorted}
use Rattle.std.proofs.lemmas.Bool.{cases_eq}
use Rattle.std.proofs.lemmas.List.{length-set, get_or-set_same, get_or-set_other, get_or_read, set-get_or, take_more, append-nil}
use Rattle.std.proofs.lemmas.Grind.{flat_map-append}
use Rattle.std.proofs.lemmas.List.Sums.{sum_by-append}
use Rattle.bpf_model.specs.declared.memory.NoMemory.{NoMemory}
use Rattle.bins.specs.Table.{Entry, Table, by_bytes}
use Rattle.bins.specs.Copies.{WeighSame}
use Rattle.bins.specs.Entries.{Distinct}
use Rattle.bins.proofs.MapEdits.{total, antisymmetric}
use Rattle.bins.proofs.DistinctEntries.{alike}
use Rattle.bins.proofs.EntryCounts.{Distinct-sorted}
use Rattle.atomic_methods.specs.declared.reply.Reply.{Reply}
use Rattle.atomic_methods.specs.Hashes.{stripe_of, IsStripeCount}
use Rattle.atomic_methods.specs.Invocations.{Invocation}
use Rattle.atomic_methods.specs.Methods.{rule_of, Follows, LeavesAtKey, Answers, WouldAdd, with_value}
use Rattle.atomic_methods.specs.Whole.{all_entries, whole, stripe_at, AreStripes}
use Rattle.atomic_methods.proofs.EntryLemmas.{first_some, find-append, none_of_both, Distinct-append}

pub first_some-None : (x : Option (List ℕ)) → first_some x None ≡ x
first_some-None None = refl
first_some-None (Some v) = refl

-- a key that no stripe has
pub none_anywhere : (q : List ℕ) (ts : List Table) → ((j : ℕ) → map.get (stripe_at ts j) q ≡ None) → find by_bytes q (all_entries ts) ≡ None
none_anywhere q [] h = refl
none_anywhere q (t ∷ ts) h = find-append q (map.entries t) (all_entries ts) ∙ none_of_both _ _ (sym (get-entries t q) ∙ h 0) (none_anywhere q ts (λ j. h (suc j)))

-- a key that one stripe may have
found_at : (q : List ℕ) (ts : List Table) (i : ℕ) → ((j : ℕ) → j ≢ i → map.get (stripe_at ts j) q ≡ None) → find by_bytes q (all_entries ts) ≡ map.get (stripe_at ts i) q
found_at q [] i h = sym (get-empty by_bytes q)
found_at q (t ∷ ts) zero h =
    find-append q (map.entries t) (all_entries ts) ∙ ap (first_some (find by_bytes q (map.entries t))) (none_anywhere q ts (λ j. h (suc j) (λ e. absurd (omega (arith, e)))))
    ∙ first_some-None _ ∙ sym (get-entries t q)
found_at q (t ∷ ts) (suc i) h =
    let none : find by_bytes q (map.entries t) ≡ None = sym (get-entries t q) ∙ h 0 (λ e. absurd (omega (arith, e))) in
    find-append q (map.entries t) (all_entries ts) ∙ ap (λ (x : Option (List ℕ)). first_some x (find by_bytes q (all_entries ts))) none ∙ found_at q ts i (λ j other. h (suc j) (λ e. other (omega (arith, e))))

-- no key in two stripes
abbrev pub Apart : List Table → Type 0
Apart ts = (q v : List ℕ) (i j : ℕ) → i ≢ j → map.get (stripe_at ts i) q ≡ Some v → map.get (stripe_at ts j) q ≡ None

pub Distinct_all : (ts : List Table) → Apart ts → Distinct (all_entries ts)
Distinct_all [] h = tt
Distinct_all (t ∷ ts) h =
    Distinct-append (map.entries t) (all_entries ts) (Distinct-sorted _ (entries_sorted t)) (Distinct_all ts (λ q v i j other found. h q v (suc i) (suc j) (λ e. other (omega (arith, e))) found))
    (λ q v found. none_anywhere q ts (λ j. h q v 0 (suc j) (λ e. absurd (omega (arith, e))) (get-entries t q ∙ found)))

pub some_of_none : (x : Option (List ℕ)) (v : List ℕ) → x ≡ None → x ≡ Some v → ⊥
some_of_none x v e f = cc

get-with_value : (t : Table) (k q : List ℕ) (v : Option (List ℕ)) → map.get (with_value t k v) q ≡ cond (eq_by_cmp by_bytes q k) v (map.get t q)
get-with_value t k q (Some v) = get-insert total t k v q
get-with_value t k q None = get-remove total t k q

not_tied : (q k : List ℕ) (b : Bool) (x y : Option (List ℕ)) → eq_by_cmp by_bytes q k ≡ b → q ≢ k → cond b x y ≡ y
not_tied q k true x y e other = absurd (other (alike q k e))
not_tied q k false x y e other = refl

module _ (ts : List Table) (is : AreStripes ts) where
  -- a key is only in its stripe
  pub get-whole : (q : List ℕ) → map.get (whole ts) q ≡ map.get (stripe_at ts (stripe_of (length ts) q)) q
  get-whole q = get-from_entries total (all_entries ts) q ∙ found_at q ts (stripe_of (length ts) q) (λ j other. is.apart j q other)

  pub Apart-stripes : Apart ts
  Apart-stripes = (λ q v i j other found. elim (cases_eq j (stripe_of (length ts) q)) [
    | inl same ↦ absurd (some_of_none _ v (is.apart i q (λ e. other (e ∙ sym same))) found)
    | inr away ↦ is.apart j q away
  ])

  pub Distinct-stripes : Distinct (all_entries ts)
  Distinct-stripes = Distinct_all ts Apart-stripes

  module _ (i : ℕ) (k : List ℕ) (at : i ≡ stripe_of (length ts) k) (lt : i < length ts) (new : Table) (v : Option (List ℕ)) (edit : new ≡ with_value (stripe_at ts i) k v) where
    abbrev later : List Table
    later = set ts i new

    -- the stripe's contents after the edit
    get_later : (j : ℕ) (q : List ℕ) → j ≡ stripe_of (length ts) q → map.get (stripe_at later j) q ≡ cond (eq_by_cmp by_bytes q k) v (map.get (stripe_at ts j) q)
    get_later j q here = elim (cases_eq j i) [
      | inl same ↦ ap (λ (n : ℕ). map.get (stripe_at later n) q) same ∙ ap (λ (t : Table). map.get t q) (get_or-set_same ts i new map.empty lt ∙ edit) ∙ get-with_value (stripe_at ts i) k q v
          ∙ ap (λ (n : ℕ). cond (eq_by_cmp by_bytes q k) v (map.get (stripe_at ts n) q)) (sym same)
      | inr other ↦ ap (λ (t : Table). map.get t q) (get_or-set_other ts i j new map.empty other)
          ∙ sym (not_tied q k _ v (map.get (stripe_at ts j) q) refl (λ e. other (here ∙ ap (stripe_of (length ts)) e ∙ sym at)))
    ]

    apart_later : (j : ℕ) (q : List ℕ) → j ≢ stripe_of (length ts) q → map.get (stripe_at later j) q ≡ None
    apart_later j q away = elim (cases_eq j i) [
      | inl same ↦ ap (λ (n : ℕ). map.get (stripe_at later n) q) same ∙ ap (λ (t : Table). map.get t q) (get_or-set_same ts i new map.empty lt ∙ edit) ∙ get-with_value (stripe_at ts i) k q v
          ∙ not_tied q k _ v (map.get (stripe_at ts i) q) refl (λ e. away (same ∙ at ∙ ap (stripe_of (length ts)) (sym e)))
          ∙ is.apart i q (λ e. away (same ∙ e))
      | inr other ↦ ap (λ (t : Table). map.get t q) (get_or-set_other ts i j new map.empty other) ∙ is.apart j q away
    ]

    -- the stripes stay apart
    pub AreStripes-set : AreStripes later
    AreStripes-set = let same : length later ≡ length ts = length-set ts i new in record {
      count = rw same is.count;
      apart = λ j q away. apart_later j q (rw same at away);
    }

    -- editing the stripe edits the whole
    pub whole-set : whole later ≡ with_value (whole ts) k v
    whole-set = same_map total antisymmetric (whole later) (with_value (whole ts) k v) (λ q.
        get-from_entries total (all_entries later) q ∙ found_at q later (stripe_of (length ts) q) (λ j other. apart_later j q other)
        ∙ get_later (stripe_of (length ts) q) q refl
        ∙ ap (cond (eq_by_cmp by_bytes q k) v) (sym (get-whole q))
        ∙ sym (get-with_value (whole ts) k q v))

  module _ (i : ℕ) (invocation : Invocation) (at : i ≡ stripe_of (length ts) invocation.key) where
    same_value : map.get (stripe_at ts i) invocation.key ≡ map.get (whole ts) invocation.key
    same_value = ap (λ (n : ℕ). map.get (stripe_at ts n) invocation.key) at ∙ sym (get-whole invocation.key)

    leaves_whole : (v : Option (List ℕ)) (reply : Reply) → LeavesAtKey (stripe_at ts i) invocation v reply → LeavesAtKey (whole ts) invocation v reply
    leaves_whole v reply leaves = subst (λ (old : Option (List ℕ)). Follows (rule_of invocation.method old) invocation.key old v reply) same_value leaves

    -- a call on the stripe of its key is a call on the whole
    pub answers_whole : (new : Table) (reply : Reply) → i < length ts → Answers (stripe_at ts i) invocation new reply
        → record { stripes : AreStripes (set ts i new); answers : Answers (whole ts) invocation (whole (set ts i new)) reply }
    answers_whole new reply lt (v, (leaves, edit)) = record {
      stripes = AreStripes-set i invocation.key at lt new v edit;
      answers = (v, (leaves_whole v reply leaves, whole-set i invocation.key at lt new v edit));
    }

    pub adds_whole : WouldAdd (stripe_at ts i) invocation → WouldAdd (whole ts) invocation
    adds_whole (none, (v, (reply, leaves))) = (sym same_value ∙ none, (v, (reply, leaves_whole (Some v) reply leaves)))

-- stripes without entries
pub AreStripes-empty : (ts : List Table) → IsStripeCount (length ts) → ((j : ℕ) → stripe_at ts j ≡ map.empty) → AreStripes ts
AreStripes-empty ts count none = record { count = count; apart = λ i q away. ap (λ (t : Table). map.get t q) (none i) ∙ get-empty by_bytes q }

pub whole-empty : (ts : List Table) → ((j : ℕ) → stripe_at ts j ≡ map.empty) → whole ts ≡ map.empty
whole-empty ts none = same_map total antisymmetric (whole ts) map.empty (λ q.
    get-from_entries total (all_entries ts) q ∙ none_anywhere q ts (λ j. ap (λ (t : Table). map.get t q) (none j) ∙ get-empty by_bytes q) ∙ sym (get-empty by_bytes q))

-- a call on the stripe of its key, done or refused, is the same on the whole
pub applied : {K : Type 0} (say : K → Reply) (ts : List Table) (is : AreStripes ts) (i : ℕ) (invocation : Invocation) → i ≡ stripe_of (length ts) invocation.key → i < length ts → (old new : Table) → old ≡ get_or ts i old
    → (r : Result K NoMemory) → IfOk r (λ k. Answers old invocation new (say k)) → OnErr r (new ≡ old) → OnErr r (WouldAdd old invocation)
    → record { stripes : AreStripes (set ts i new); answers : IfOk r (λ k. Answers (whole ts) invocation (whole (set ts i new)) (say k)); adds : OnErr r (WouldAdd (whole ts) invocation) }
applied say ts is i invocation at lt old new read (Ok kind) answers stays adds =
    let here : old ≡ stripe_at ts i = get_or_read ts i old lt read map.empty in
    let done = answers_whole ts is i invocation at new (say kind) lt (subst (λ (t : Table). Answers t invocation new (say kind)) here answers) in
    record { stripes = done.stripes; answers = done.answers; adds = tt }
applied say ts is i invocation at lt old new read (Err e) answers stays adds =
    let here : old ≡ stripe_at ts i = get_or_read ts i old lt read map.empty in
    let same : set ts i new ≡ ts = ap (set ts i) (stays ∙ here) ∙ set-get_or ts i map.empty in
    record { stripes = rw same is; answers = tt; adds = adds_whole ts is i invocation at (subst (λ (t : Table). WouldAdd t invocation) here adds) }

-- the entries of one more stripe
pub all_entries-more : (ts : List Table) (n : ℕ) (t : Table) → n < length ts → t ≡ get_or ts n t → all_entries (take (n + 1) ts) ≡ all_entries (take n ts) ++ map.entries t
all_entries-more ts n t lt is =
    ap all_entries (take_more ts n t lt ∙ ap (λ (x : Table). take n ts ++ x ∷ []) (sym is)) ∙ flat_map-append map.entries (take n ts) (t ∷ [])
    ∙ ap (λ (es : List (List ℕ × List ℕ)). all_entries (take n ts) ++ es) (append-nil (map.entries t))

-- lists of equal weight still have equal weight after adding copies of one stripe's entries
pub weigh_more : (found before copies more : List Entry) → WeighSame found before → WeighSame copies more → WeighSame (found ++ copies) (before ++ more)
weigh_more found before copies more same are = λ weight. sum_by-append weight found copies ∙ (λ i. same weight i + are weight i) ∙ sym (sum_by-append weight before more)
