-- A call at a time on a key whose time is over.
use Rattle.std.proofs.Common.{◌≡◌, ◌≢◌, ℕ, true, max, List, Option, Some, None, refl, sym, ap, ◌∙◌, ◌⊎◌, inr}
use Rattle.std.specs.Prelude.{option_map}
use Rattle.std.specs.FinMap as map
use Rattle.bins.specs.Table.{Table}
use Rattle.atomic_methods.specs.declared.reply.ReplyKind.{ReplyKind}
use Rattle.atomic_methods.specs.Invocations.{Invocation}
use Rattle.atomic_methods.specs.Methods.{Answers}
use Rattle.atomic_methods.specs.Plans.{reply_by}
use Rattle.timed_bins.specs.declared.timing.DeadlineChange.{DeadlineChange}
use Rattle.timed_bins.specs.declared.timing.Timing.{Timing}
use Rattle.timed_bins.specs.declared.timing.TimedReply.{TimedReply}
use Rattle.timed_bins.specs.declared.timed.Touch.{Touch}
use Rattle.timed_bins.specs.declared.timed.Touch.TheVariants.{Gone, Reached, Missed}
use Rattle.timed_bins.specs.Agendas.{AreOfEntries, HasRoom, Schedule, SetsDeadline, deadline_of, first_of, number_of}
use Rattle.timed_bins.specs.Deadlines.{CallsWith, MakesCall, TimedTable, changed, is_over, timed_table}
use Rattle.timed_bins.specs.Steps.{LooksFirst, change_at}
use Rattle.timed_bins.specs.Touched.{deadline_by, touch_of}
use Rattle.timed_bins.proofs.RowLemmas.{beside_gone, gone}
use Rattle.timed_bins.proofs.StateLemmas.{has_entry, of_taken, of_called, calls_with}

-- a deadline that is there is the first
pub first_stays : (held other : Option ℕ) → held ≢ None → first_of held other ≡ held
first_stays (Some at) other has = refl
first_stays None other has = absurd (has refl)

-- there is room for the deadline after the call
pub ready_anew : (touch : Touch) (schedule : Schedule) (key : List ℕ) (held wanted after : Option ℕ)
    → after ≡ deadline_by touch wanted None → ((at : ℕ) → wanted ≡ Some at → HasRoom schedule key at)
    → (at : ℕ) → after ≡ Some at → (held ≡ after) ⊎ HasRoom schedule key at
ready_anew Gone schedule key held wanted after is ready at e = absurd cc
ready_anew Reached schedule key held wanted after is ready at e = inr (ready at (sym is ∙ e))
ready_anew Missed schedule key held wanted after is ready at e = absurd cc

module _ (table times : Table) (are : AreOfEntries table times) where
  module _ (change : DeadlineChange) (invocation : Invocation) (kind : ReplyKind) (bytes : List ℕ) (table' times' : Table) (after : Option ℕ)
      (answers : Answers (map.remove table invocation.key) invocation table' (reply_by kind bytes))
      (is : after ≡ deadline_by (touch_of invocation.method kind) (changed change None) None)
      (sets : SetsDeadline times times' invocation.key after) where
    none : deadline_of (map.remove times invocation.key) invocation.key ≡ None
    none = ap (option_map number_of) (gone times invocation.key)

    are_left : AreOfEntries (map.remove table invocation.key) (map.remove times invocation.key)
    are_left = of_taken table times are _ _ invocation.key refl refl

    anew : (before : Option ℕ) → before ≡ None → after ≡ deadline_by (touch_of invocation.method kind) (changed change before) before
    anew before b = rw b is

    sets_anew : SetsDeadline (map.remove times invocation.key) times' invocation.key
        (deadline_by (touch_of invocation.method kind) (changed change (deadline_of (map.remove times invocation.key) invocation.key)) (deadline_of (map.remove times invocation.key) invocation.key))
    sets_anew = record {
      here = sets.here ∙ anew _ none;
      others = λ other apart. sets.others other apart ∙ sym (beside_gone times invocation.key other apart);
    }

    -- the call was made as on an absent key
    pub stale_calls : (latest : ℕ)
        → CallsWith change (timed_table (map.remove table invocation.key) (deadline_of (map.remove times invocation.key)) latest) invocation (reply_by kind bytes)
        (timed_table table' (deadline_of times') latest)
    stale_calls latest = calls_with _ _ are_left change invocation kind bytes table' times' answers sets_anew latest

    -- and only keys with entries have deadlines
    pub stale_of_called : AreOfEntries table' times'
    stale_of_called = of_called _ _ are_left change invocation kind bytes table' times' answers sets_anew

  -- the key was taken away, and then the call was made
  pub makes_stale : (timing : Option Timing) (old : TimedTable) (latest : ℕ) (table' times' : Table) (invocation : Invocation) (timed : TimedReply) (bytes : List ℕ)
      → LooksFirst old timing invocation.key (timed_table table (deadline_of times) latest) true
      → timed.was_over ≡ true → timed.before ≡ None → timed.after ≡ deadline_of times' invocation.key
      → CallsWith (change_at timing invocation.method) (timed_table (map.remove table invocation.key) (deadline_of (map.remove times invocation.key)) latest)
      invocation (reply_by timed.kind bytes) (timed_table table' (deadline_of times') latest)
      → MakesCall timing old invocation timed bytes (timed_table table' (deadline_of times') latest)
  makes_stale None old latest table' times' invocation timed bytes looks was before after calls = absurd (let no = looks.1 in cc)
  makes_stale (Some timing) old latest table' times' invocation timed bytes looks was before after calls =
      let key = invocation.key in
      let over : is_over (deadline_of times key) (max old.latest timing.now) ≡ true = ap (λ (d : Option ℕ). is_over d (max old.latest timing.now)) (looks.0.deadlines key) ∙ sym looks.1 in
      let entry = has_entry table times are key (max old.latest timing.now) over in
      record {
        between = timed_table (map.remove table key) (deadline_of (map.remove times key)) latest;
        takes = record {
          over = was ∙ looks.1;
          gone = entry.0;
          had = λ _. ap (λ (t : Table). map.get t key) (sym looks.0.table) ∙ entry.1;
          table = rw was (ap (λ (t : Table). map.remove t key) looks.0.table);
          here = rw was (ap (option_map number_of) (gone times key));
          others = λ other apart. ap (option_map number_of) (beside_gone times key other apart) ∙ looks.0.deadlines other;
          latest = looks.0.latest;
        };
        calls = calls;
        before = before ∙ sym (ap (option_map number_of) (gone times key));
        after = after;
      }

-- a key whose time is over has a deadline
pub has_deadline : (deadline : Option ℕ) (now : ℕ) → true ≡ is_over deadline now → deadline ≢ None
has_deadline (Some at) now over none = absurd cc
has_deadline None now over none = absurd cc
