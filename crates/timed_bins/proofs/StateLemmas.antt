-- Entries and deadlines together, after a key was taken away, an entry was put, or a call was made.
use Rattle.std.proofs.Common.{◌≡◌, ◌≢◌, ℕ, ◌<◌, true, max, List, Option, Some, None, Result, Ok, Err, OnOk, OnErr, Ordering, Less, Equal, Greater, refl, sym, ap, subst, ◌∙◌, ◌⊎◌, inl, inr}
use Rattle.std.specs.Prelude.{option_map}
use Rattle.std.specs.FinMap as map
use Rattle.bins.specs.Table.{Table, by_bytes}
use Rattle.bins.proofs.MapEdits.{antisymmetric}
use Rattle.atomic_methods.specs.declared.reply.ReplyKind.{ReplyKind}
use Rattle.atomic_methods.specs.Invocations.{Invocation}
use Rattle.atomic_methods.specs.Methods.{Answers, with_value}
use Rattle.atomic_methods.specs.Plans.{reply_by}
use Rattle.timed_bins.specs.declared.timing.DeadlineChange.{DeadlineChange}
use Rattle.timed_bins.specs.Agendas.{AreOfEntries, SetsDeadline, deadline_of, number_of}
use Rattle.timed_bins.specs.Deadlines.{CallsWith, TakesIfOver, WaitsUntil, FindsNone, changed, deadline_after, is_over, reaches, timed_table}
use Rattle.timed_bins.specs.Looks.{WaitsFor}
use Rattle.timed_bins.specs.Touched.{deadline_by, touch_of}
use Rattle.timed_bins.proofs.RowLemmas.{absent_before, empty_at, beside_entered, beside_gone, gone, no_row}
use Rattle.timed_bins.proofs.ListedLemmas.{unlike}
use Rattle.timed_bins.proofs.TouchLemmas.{touched}

-- two keys are the same or differ
pub same_or_not : (one other : List ℕ) → (one ≡ other) ⊎ (one ≢ other)
same_or_not one other = by_order (by_bytes one other) refl
  where
    by_order : (r : Ordering) → by_bytes one other ≡ r → (one ≡ other) ⊎ (one ≢ other)
    by_order Less is = inr (unlike one other Less is refl)
    by_order Equal is = inl (antisymmetric one other is)
    by_order Greater is = inr (unlike one other Greater is refl)

module _ (table times : Table) (are : AreOfEntries table times) where
  -- a key was taken away with its deadline
  pub of_taken : (table' times' : Table) (key : List ℕ) → table' ≡ map.remove table key → times' ≡ map.remove times key → AreOfEntries table' times'
  of_taken table' times' key one other at none = rw other (elim (same_or_not at key) [
    | inl same ↦ rw same (gone times key)
    | inr apart ↦ beside_gone times key at apart ∙ are at (sym (beside_gone table key at apart) ∙ ap (λ (t : Table). map.get t at) (sym one) ∙ none)
  ])

  of_entered : (table' : Table) (key value : List ℕ) → table' ≡ map.insert table key value → AreOfEntries table' times
  of_entered table' key value is at none = are at (absent_before table key value at (ap (λ (t : Table). map.get t at) (sym is) ∙ none))

  -- an entry was put, or refused
  pub of_put : {A E : Type 0} (r : Result A E) (table' : Table) (key value : List ℕ) → OnOk r (table' ≡ map.insert table key value) → OnErr r (table' ≡ table) → AreOfEntries table' times
  of_put (Ok _) table' key value is same = of_entered table' key value is
  of_put (Err _) table' key value is same = λ at none. are at (ap (λ (t : Table). map.get t at) (sym same) ∙ none)

  -- a key without an entry has no deadline
  none_before : (key : List ℕ) → map.get table key ≡ None → deadline_of times key ≡ None
  none_before key none = ap (option_map number_of) (are key none)

  -- a key with a deadline has an entry
  pub present : (key : List ℕ) → deadline_of times key ≢ None → map.get table key ≢ None
  present key has none = has (none_before key none)

  -- a key whose time is over has an entry
  pub has_entry : (key : List ℕ) (now : ℕ) → is_over (deadline_of times key) now ≡ true → (value : List ℕ) × (map.get table key ≡ Some value)
  has_entry key now over = by_entry (map.get table key) refl
    where
      by_entry : (entry : Option (List ℕ)) → map.get table key ≡ entry → (value : List ℕ) × (entry ≡ Some value)
      by_entry (Some value) is = (value, refl)
      by_entry None is = absurd (let none = ap (λ (d : Option ℕ). is_over d now) (none_before key is) in cc)

  -- a key was taken away whose time was over
  pub takes_over : (latest now : ℕ) (key : List ℕ) (table' times' : Table) (latest' : ℕ) → is_over (deadline_of times key) (max latest now) ≡ true
      → table' ≡ map.remove table key → times' ≡ map.remove times key → latest' ≡ max latest now
      → TakesIfOver (timed_table table (deadline_of times) latest) key now true (timed_table table' (deadline_of times') latest')
  takes_over latest now key table' times' latest' over one other told =
      let entry = has_entry key (max latest now) over in
      record {
        over = sym over;
        gone = entry.0;
        had = λ _. entry.1;
        table = one;
        here = ap (λ (t : Table). deadline_of t key) other ∙ ap (option_map number_of) (gone times key);
        others = λ at apart. ap (λ (t : Table). deadline_of t at) other ∙ ap (option_map number_of) (beside_gone times key at apart);
        latest = told;
      }

  module _ (change : DeadlineChange) (invocation : Invocation) (kind : ReplyKind) (bytes : List ℕ) (table' times' : Table)
      (answers : Answers table invocation table' (reply_by kind bytes))
      (sets : SetsDeadline times times' invocation.key
      (deadline_by (touch_of invocation.method kind) (changed change (deadline_of times invocation.key)) (deadline_of times invocation.key))) where
    here_after : deadline_of times' invocation.key
        ≡ deadline_after change (reaches invocation.method (reply_by kind bytes)) (deadline_of times invocation.key) (map.get table' invocation.key)
    here_after =
        sets.here ∙ touched change (deadline_of times invocation.key) table invocation table' kind bytes answers (none_before invocation.key)

    -- the call was made with the change
    pub calls_with : (latest : ℕ) → CallsWith change (timed_table table (deadline_of times) latest) invocation (reply_by kind bytes) (timed_table table' (deadline_of times') latest)
    calls_with latest = record {
      answers = answers;
      here = here_after;
      others = λ key apart. ap (option_map number_of) (sets.others key apart);
      latest = refl;
    }

    with_other : (value : Option (List ℕ)) (key : List ℕ) → key ≢ invocation.key → map.get (with_value table invocation.key value) key ≡ map.get table key
    with_other (Some value) key apart = beside_entered table invocation.key value key apart
    with_other None key apart = beside_gone table invocation.key key apart

    none_after : (entry : Option (List ℕ)) → entry ≡ None
        → deadline_after change (reaches invocation.method (reply_by kind bytes)) (deadline_of times invocation.key) entry ≡ None
    none_after entry is = rw is refl

    -- and only keys with entries have deadlines
    pub of_called : AreOfEntries table' times'
    of_called key none = elim (same_or_not key invocation.key) [
      | inl same ↦
          let here = ap (λ (k : List ℕ). map.get table' k) (sym same) ∙ none in
          rw same (no_row _ (here_after ∙ none_after _ here))
      | inr apart ↦
          let other : map.get table' key ≡ map.get table key = ap (λ (t : Table). map.get t key) answers.1.1 ∙ with_other answers.0 key apart in
          sets.others key apart ∙ are key (sym other ∙ none)
    ]

-- no key has a deadline
pub of_none : (table times : Table) → times ≡ map.empty → AreOfEntries table times
of_none table times is key none = ap (λ (t : Table). map.get t key) is ∙ empty_at key

-- no key is over yet
pub waits_until : (table times times' : Table) (latest now at latest' : ℕ) → times' ≡ times → latest' ≡ max latest now → WaitsFor times latest' at
    → WaitsUntil (timed_table table (deadline_of times) latest) now at (timed_table table (deadline_of times') latest')
waits_until table times times' latest now at latest' same told waits = record {
  tells = record { table = refl; deadlines = λ key. ap (λ (t : Table). deadline_of t key) same; latest = told };
  later = subst (λ (n : ℕ). n < at) told waits.later;
  none_before = waits.none_before;
}

-- no key has a deadline
pub finds_none : (table times times' : Table) (latest now latest' : ℕ) → times' ≡ times → latest' ≡ max latest now → ((key : List ℕ) → deadline_of times key ≡ None)
    → FindsNone (timed_table table (deadline_of times) latest) now (timed_table table (deadline_of times') latest')
finds_none table times times' latest now latest' same told none = record {
  tells = record { table = refl; deadlines = λ key. ap (λ (t : Table). deadline_of t key) same; latest = told };
  none = none;
}

-- two changes of one deadline, one after the other
pub sets_twice : (one two three : Table) (key : List ℕ) (held after : Option ℕ) → SetsDeadline one two key held → SetsDeadline two three key after → SetsDeadline one three key after
sets_twice one two three key held after first second = record {
  here = second.here;
  others = λ other apart. second.others other apart ∙ first.others other apart;
}
