-- What a call, an expiry or a replacement leaves of each key.
use Rattle.std.proofs.Common.{◌≡◌, ◌≢◌, ◌≤◌, ℕ, Bool, true, false, cond, List, Option, Some, None, refl, sym, ap, subst, ◌∙◌, inl, inr, arith}
use Rattle.std.specs.Prelude.{option_map, is_some as is_there, if◌then◌else◌}
use Rattle.std.specs.FinMap as map
use Rattle.std.proofs.lemmas.Bool.{ltb-false, le-ltb}
use Rattle.bins.specs.Ranks.{KeepsRanks, is_below, rank_in}
use Rattle.bins.specs.Table.{Table}
use Rattle.atomic_methods.specs.Invocations.{Invocation, Method, get}
use Rattle.atomic_methods.specs.Methods.{Follows, rule_of}
use Rattle.atomic_methods.specs.Plans.{reply_by}
use Rattle.atomic_methods.specs.declared.reply.Reply.{Reply}
use Rattle.timed_bins.specs.declared.timing.DeadlineChange.{DeadlineChange}
use Rattle.timed_bins.specs.declared.timing.DeadlineChange.TheVariants.{Keep}
use Rattle.timed_bins.specs.declared.timing.Timing.{Timing}
use Rattle.timed_bins.specs.declared.timing.TimedReply.{TimedReply}
use Rattle.timed_bins.specs.Deadlines.{TimedTable, CallsWith, MakesCall, RefusesCall, TakesIfOver, change_of, deadline_after}
use Rattle.noted_bins.specs.Hands.{LeavesSame}
use Rattle.noted_bins.specs.Filters.{may_have}
use Rattle.noted_bins.specs.Notes.{NotedKeys, NotesChanges, NotesKey, has_entry, is_noted}
use Rattle.noted_bins.specs.Rows.{Saved, row_of}
use Rattle.noted_bins.specs.Tours.{TourKeys, is_due, is_ahead}
use Rattle.noted_bins.proofs.KeyLemmas.{either_false, neither, not_noted, same_or_not, unnoted}
use Rattle.noted_bins.proofs.TableLemmas.{beside, beside_gone, here}

abbrev dated : Option ℕ → List ℕ → List ℕ × Option ℕ
dated deadline value = (value, deadline)

-- rows by values and deadlines
same_row : (old new : TimedTable) (key : List ℕ) → map.get new.table key ≡ map.get old.table key → new.deadline key ≡ old.deadline key → row_of new key ≡ row_of old key
same_row old new key values deadlines i = option_map (dated (deadlines i)) (values i)

-- other keys than that of a call
called_beside : (change : DeadlineChange) (old new : TimedTable) (invocation : Invocation) (reply : Reply) → CallsWith change old invocation reply new
    → (key : List ℕ) → key ≢ invocation.key → row_of new key ≡ row_of old key
called_beside change old new invocation reply calls key apart =
    same_row old new key (ap (λ (t : Table). map.get t key) calls.answers.1.1 ∙ beside old.table invocation.key calls.answers.0 key apart) (calls.others key apart)

removed_if : (table : Table) (key other : List ℕ) (b : Bool) → other ≢ key → map.get (if b then map.remove table key else table) other ≡ map.get table other
removed_if table key other true apart = beside_gone table key other apart
removed_if table key other false apart = refl

taken_beside : (old new : TimedTable) (at : List ℕ) (now : ℕ) (was_over : Bool) → TakesIfOver old at now was_over new
    → (key : List ℕ) → key ≢ at → row_of new key ≡ row_of old key
taken_beside old new at now was_over takes key apart =
    same_row old new key (ap (λ (t : Table). map.get t key) takes.table ∙ removed_if old.table at key was_over apart) (takes.others key apart)

made_beside : (timing : Option Timing) (old new : TimedTable) (invocation : Invocation) (timed : TimedReply) (bytes : List ℕ) → MakesCall timing old invocation timed bytes new
    → (key : List ℕ) → key ≢ invocation.key → row_of new key ≡ row_of old key
made_beside None old new invocation timed bytes made key apart = called_beside _ old new invocation _ made key apart
made_beside (Some timing) old new invocation timed bytes made key apart =
    called_beside _ made.between new invocation _ made.calls key apart ∙ taken_beside old made.between invocation.key timing.now timed.was_over made.takes key apart

-- a refused call changed no row
refused_same : (timing : Option Timing) (old new : TimedTable) (invocation : Invocation) → RefusesCall timing old invocation new → (key : List ℕ) → row_of new key ≡ row_of old key
refused_same None old new invocation refused key = ap (λ (t : TimedTable). row_of t key) refused.0
refused_same (Some timing) old new invocation refused key =
    same_row old new key (ap (λ (t : Table). map.get t key) refused.tells.table) (refused.tells.deadlines key)

there_by_row : (table : TimedTable) (key : List ℕ) → is_there (row_of table key) ≡ has_entry table.table key
there_by_row table key = by_entry (map.get table.table key)
  where
    by_entry : (value : Option (List ℕ)) → is_there (option_map (dated (table.deadline key)) value) ≡ is_there value
    by_entry None = refl
    by_entry (Some value) = refl

-- a key with the row that it had is noted if it was
same_noted : (notes : NotedKeys) (old new : TimedTable) (key : List ℕ) → row_of new key ≡ row_of old key → is_noted notes new.table key ≡ false → is_noted notes old.table key ≡ false
same_noted notes old new key row e =
    let there : has_entry new.table key ≡ has_entry old.table key = sym (there_by_row new key) ∙ ap (λ (saved : Saved). is_there saved) row ∙ there_by_row old key in
    let why = unnoted notes new.table key e in
    not_noted notes old.table key why.0 why.1.0 (ap (λ (b : Bool). cond (may_have notes.filter key) b false) (sym there) ∙ why.1.1)

-- the key was noted, and others have the rows that they had
noted_change : (old_notes new_notes : NotedKeys) (old new : TimedTable) (at : List ℕ) → NotesKey new.table old_notes at new_notes
    → ((key : List ℕ) → key ≢ at → row_of new key ≡ row_of old key) → NotesChanges (is_noted old_notes old.table) old (is_noted new_notes new.table) new
noted_change old_notes new_notes old new at notes others key e =
    let known = notes key e in let row = others key known.1 in (same_noted old_notes old new key row known.0, row)

-- nothing is noted, and all rows are as they were
no_change : (notes : NotedKeys) (old new : TimedTable) → ((key : List ℕ) → row_of new key ≡ row_of old key) → NotesChanges (is_noted notes old.table) old (is_noted notes new.table) new
no_change notes old new same key e = (same_noted notes old new key (same key) e, same key)

-- a row whose deadline stays if there is an entry
row_kept : (value : Option (List ℕ)) (reached : Bool) (before after : Option ℕ) → after ≡ deadline_after Keep reached before value
    → option_map (dated after) value ≡ option_map (dated before) value
row_kept None reached before after is = refl
row_kept (Some value) true before after is = ap (λ (d : Option ℕ). Some (dated d value)) is
row_kept (Some value) false before after is = ap (λ (d : Option ℕ). Some (dated d value)) is

-- a call that only reads leaves the key its value
read_value : (change : DeadlineChange) (old new : TimedTable) (invocation : Invocation) (reply : Reply) → invocation.method ≡ get
    → CallsWith change old invocation reply new → map.get new.table invocation.key ≡ map.get old.table invocation.key
read_value change old new invocation reply reads calls =
    let value : Option (List ℕ) = map.get old.table invocation.key in
    let leaves = subst (λ (m : Method). Follows (rule_of m value) invocation.key value calls.answers.0 reply) reads calls.answers.1.0 in
    ap (λ (t : Table). map.get t invocation.key) calls.answers.1.1 ∙ here old.table invocation.key calls.answers.0 ∙ leaves.0

-- of one key, and of any other
at_each : (old new : TimedTable) (at : List ℕ) → row_of new at ≡ row_of old at → ((key : List ℕ) → key ≢ at → row_of new key ≡ row_of old key)
    → (key : List ℕ) → row_of new key ≡ row_of old key
at_each old new at same others key = elim (same_or_not key at) [
  | inl is ↦ ap (row_of new) is ∙ same ∙ ap (row_of old) (sym is)
  | inr apart ↦ others key apart
]

not_over : (table : Table) (key : List ℕ) (b : Bool) → b ≡ false → (if b then map.remove table key else table) ≡ table
not_over table key b is = rw is refl

not_cleared : (deadline : Option ℕ) (b : Bool) → b ≡ false → (if b then None else deadline) ≡ deadline
not_cleared deadline b is = rw is refl

-- without a clock it leaves all rows; and at a time, if nothing else was done
read_only : (timing : Option Timing) (old new : TimedTable) (invocation : Invocation) (timed : TimedReply) (bytes : List ℕ) → invocation.method ≡ get
    → MakesCall timing old invocation timed bytes new → LeavesSame timing timed → (key : List ℕ) → row_of new key ≡ row_of old key
read_only None old new invocation timed bytes reads made same =
    let kept = subst (λ (m : Method). CallsWith (change_of m) old invocation (reply_by timed.kind bytes) new) reads made in
    let value = read_value _ old new invocation _ reads made in
    at_each old new invocation.key (row_kept _ _ _ _ kept.here ∙ ap (option_map (dated (old.deadline invocation.key))) value) (called_beside _ old new invocation _ made)
read_only (Some timing) old new invocation timed bytes reads made same =
    let between = made.between in
    let value = read_value _ between new invocation _ reads made.calls in
    let table : between.table ≡ old.table = made.takes.table ∙ not_over old.table invocation.key timed.was_over same.0 in
    let before : between.deadline invocation.key ≡ old.deadline invocation.key = made.takes.here ∙ not_cleared _ timed.was_over same.0 in
    let after : new.deadline invocation.key ≡ old.deadline invocation.key = sym made.after ∙ sym same.1 ∙ made.before ∙ before in
    at_each old new invocation.key (same_row old new invocation.key (value ∙ ap (λ (t : Table). map.get t invocation.key) table) after)
    (made_beside (Some timing) old new invocation timed bytes made)

-- a key was taken away and noted
expired_change : (old_notes new_notes : NotedKeys) (old new : TimedTable) (at : List ℕ) (now : ℕ) (was_over : Bool) → TakesIfOver old at now was_over new
    → NotesKey new.table old_notes at new_notes → NotesChanges (is_noted old_notes old.table) old (is_noted new_notes new.table) new
expired_change old_notes new_notes old new at now was_over takes notes = noted_change old_notes new_notes old new at notes (taken_beside old new at now was_over takes)

-- a call was made, and its key was noted
made_change : (timing : Option Timing) (old_notes new_notes : NotedKeys) (old new : TimedTable) (invocation : Invocation) (timed : TimedReply) (bytes : List ℕ)
    → MakesCall timing old invocation timed bytes new → NotesKey new.table old_notes invocation.key new_notes → NotesChanges (is_noted old_notes old.table) old (is_noted new_notes new.table) new
made_change timing old_notes new_notes old new invocation timed bytes made notes =
    noted_change old_notes new_notes old new invocation.key notes (made_beside timing old new invocation timed bytes made)

-- a call was refused, and nothing was noted
refused_change : (timing : Option Timing) (notes : NotedKeys) (old new : TimedTable) (invocation : Invocation) → RefusesCall timing old invocation new
    → NotesChanges (is_noted notes old.table) old (is_noted notes new.table) new
refused_change timing notes old new invocation refused = no_change notes old new (refused_same timing old new invocation refused)

-- a call only read, and nothing was noted
read_change : (timing : Option Timing) (notes : NotedKeys) (old new : TimedTable) (invocation : Invocation) (timed : TimedReply) (bytes : List ℕ)
    → MakesCall timing old invocation timed bytes new → invocation.method ≡ get → LeavesSame timing timed → NotesChanges (is_noted notes old.table) old (is_noted notes new.table) new
read_change timing notes old new invocation timed bytes made reads same =
    no_change notes old new (read_only timing old new invocation timed bytes reads made same)

-- a tour still hands out each key that was due, if no entry got a higher rank
ahead_too : (tour : TourKeys) (old_order new_order : List (List ℕ)) (old_notes new_notes : NotedKeys) (old new : TimedTable)
    → NotesChanges (is_noted old_notes old.table) old (is_noted new_notes new.table) new → KeepsRanks old.table old_order new_order
    → NotesChanges (is_due old_notes tour old_order old.table) old (is_due new_notes tour new_order new.table) new
ahead_too tour old_order new_order old_notes new_notes old new changes keeps key e =
    let parts = neither (is_noted new_notes new.table key) (is_ahead tour new_order new.table key) e in
    let known = changes key parts.0 in
    let same : has_entry new.table key ≡ has_entry old.table key = sym (there_by_row new key) ∙ ap (λ (saved : Saved). is_there saved) known.1 ∙ there_by_row old key in
    (either_false (is_noted old_notes old.table key) (is_ahead tour old_order old.table key) known.0 (not_ahead same parts.1), known.1)
  where
    below_still : (end : Option ℕ) (before after : ℕ) → after ≤ before → is_below end after ≡ false → is_below end before ≡ false
    below_still None before after le e = absurd cc
    below_still (Some end) before after le e = le-ltb before end (omega (arith, ltb-false after end e, le))

    -- a key without an entry isn't ahead; one with an entry has no higher rank than before
    by_tests : (may old_there new_there old_below new_below : Bool) → new_there ≡ old_there → (old_there ≡ true → new_below ≡ false → old_below ≡ false)
        → cond new_below (cond may new_there false) false ≡ false → cond old_below (cond may old_there false) false ≡ false
    by_tests may old_there new_there false new_below same ranks e = refl
    by_tests false old_there new_there true new_below same ranks e = refl
    by_tests true false new_there true new_below same ranks e = refl
    by_tests true true new_there true false same ranks e = absurd (let no = ranks refl refl in cc)
    by_tests true true new_there true true same ranks e = absurd cc

    there : has_entry old.table key ≡ true → map.get old.table key ≢ None
    there has none = absurd (let no = ap (λ (value : Option (List ℕ)). is_there value) none in cc)

    not_ahead : has_entry new.table key ≡ has_entry old.table key → is_ahead tour new_order new.table key ≡ false → is_ahead tour old_order old.table key ≡ false
    not_ahead same e =
        by_tests (may_have tour.filter key) (has_entry old.table key) (has_entry new.table key) (is_below tour.below (rank_in old_order key)) (is_below tour.below (rank_in new_order key)) same
        (λ has. below_still tour.below (rank_in old_order key) (rank_in new_order key) (keeps key (there has))) e

-- the same four with a tour
module _ (tour : TourKeys) (old_order new_order : List (List ℕ)) where
  -- a key was taken away and noted
  pub expired_due : (old_notes new_notes : NotedKeys) (old new : TimedTable) (at : List ℕ) (now : ℕ) (was_over : Bool) → TakesIfOver old at now was_over new
      → NotesKey new.table old_notes at new_notes → KeepsRanks old.table old_order new_order
      → NotesChanges (is_due old_notes tour old_order old.table) old (is_due new_notes tour new_order new.table) new
  expired_due old_notes new_notes old new at now was_over takes notes keeps =
      ahead_too tour old_order new_order old_notes new_notes old new (expired_change old_notes new_notes old new at now was_over takes notes) keeps

  -- a call was made, and its key was noted
  pub made_due : (timing : Option Timing) (old_notes new_notes : NotedKeys) (old new : TimedTable) (invocation : Invocation) (timed : TimedReply) (bytes : List ℕ)
      → MakesCall timing old invocation timed bytes new → NotesKey new.table old_notes invocation.key new_notes → KeepsRanks old.table old_order new_order
      → NotesChanges (is_due old_notes tour old_order old.table) old (is_due new_notes tour new_order new.table) new
  made_due timing old_notes new_notes old new invocation timed bytes made notes keeps =
      ahead_too tour old_order new_order old_notes new_notes old new (made_change timing old_notes new_notes old new invocation timed bytes made notes) keeps

  -- a call was refused, and nothing was noted
  pub refused_due : (timing : Option Timing) (notes : NotedKeys) (old new : TimedTable) (invocation : Invocation) → RefusesCall timing old invocation new → KeepsRanks old.table old_order new_order
      → NotesChanges (is_due notes tour old_order old.table) old (is_due notes tour new_order new.table) new
  refused_due timing notes old new invocation refused keeps = ahead_too tour old_order new_order notes notes old new (refused_change timing notes old new invocation refused) keeps

  -- a call only read, and nothing was noted
  pub read_due : (timing : Option Timing) (notes : NotedKeys) (old new : TimedTable) (invocation : Invocation) (timed : TimedReply) (bytes : List ℕ)
      → MakesCall timing old invocation timed bytes new → invocation.method ≡ get → LeavesSame timing timed → KeepsRanks old.table old_order new_order
      → NotesChanges (is_due notes tour old_order old.table) old (is_due notes tour new_order new.table) new
  read_due timing notes old new invocation timed bytes made reads same keeps =
      ahead_too tour old_order new_order notes notes old new (read_change timing notes old new invocation timed bytes made reads same) keeps
