-- What a call did to its key's entry tells the key's deadline after the call.
use Rattle.std.proofs.Common.{◌≡◌, ℕ, Bool, true, false, List, Option, Some, None, Result, Ok, Err, refl, sym, ap, ◌∙◌}
use Rattle.std.specs.FinMap as map
use Rattle.std.specs.Prelude.{if◌then◌else◌}
use Rattle.bpf_model.specs.declared.input.Answer.{Answer}
use Rattle.bpf_model.specs.declared.input.Answer.TheVariants.{Nothing, Bytes}
use Rattle.bpf_model.specs.declared.input.InputPart.{InputPart}
use Rattle.std.specs.Str.{bytes_eq}
use Rattle.verifier.specs.Checked.{Checked}
use Rattle.bins.specs.Table.{Table}
use Rattle.atomic_methods.specs.declared.reply.Reply.TheVariants.{Value, Done}
use Rattle.atomic_methods.specs.declared.reply.ReplyKind.{ReplyKind}
use Rattle.atomic_methods.specs.declared.reply.ReplyKind.TheVariants.{None as NoValue, Some as SomeValue, Done as IsDone, Unfit as IsUnfit}
use Rattle.atomic_methods.specs.Invocations.{Method, get, put, put_if_absent, remove, remove_if, replace, replace_if, compute, compute_if_absent, compute_if_present, merge, Invocation}
use Rattle.atomic_methods.specs.Methods.{leaves, rule_of, Enters, Follows, with_value, Answers}
use Rattle.atomic_methods.specs.Plans.{reply_by}
use Rattle.timed_bins.specs.declared.timing.DeadlineChange.{DeadlineChange}
use Rattle.timed_bins.specs.Deadlines.{changed, reaches, deadline_after, has_value}
use Rattle.timed_bins.specs.Touched.{touch_of, deadline_by, answered}
use Rattle.timed_bins.proofs.RowLemmas.{entered, gone}

module _ (change : DeadlineChange) (before : Option ℕ) where
  -- the deadline by what the call did, and by what it left
  abbrev Agree : Method → ReplyKind → List ℕ → Option (List ℕ) → Type 0
  Agree method kind bytes new =
      deadline_by (touch_of method kind) (changed change before) before ≡ deadline_after change (reaches method (reply_by kind bytes)) before new

  went : (reached : Bool) (new : Option (List ℕ)) → new ≡ None → None ≡ deadline_after change reached before new
  went reached new is = rw is refl

  reached : (new : Option (List ℕ)) (value : List ℕ) → new ≡ Some value → changed change before ≡ deadline_after change true before new
  reached new value is = rw is refl

  stayed : (new : Option (List ℕ)) (value : List ℕ) → new ≡ Some value → before ≡ deadline_after change false before new
  stayed new value is = rw is refl

  module _ (old : Option (List ℕ)) (none : old ≡ None → before ≡ None) where
    missed_with : (value : Option (List ℕ)) → old ≡ value → before ≡ deadline_after change false before value
    missed_with None is = none is
    missed_with (Some value) is = refl

    missed : (new : Option (List ℕ)) → new ≡ old → before ≡ deadline_after change false before new
    missed new is = missed_with new (sym is)

    -- by a program's outcome
    ran : (outcome : Result Answer InputPart) (kind : ReplyKind) (bytes : List ℕ) (new : Option (List ℕ)) → Enters outcome old new (reply_by kind bytes)
        → deadline_by (answered kind) (changed change before) before ≡ deadline_after change (has_value (reply_by kind bytes)) before new
    ran (Ok (Bytes value)) NoValue bytes new h = absurd (let e = h.1 in cc)
    ran (Ok (Bytes value)) SomeValue bytes new h = reached new value h.0
    ran (Ok (Bytes value)) (IsDone done) bytes new h = absurd (let e = h.1 in cc)
    ran (Ok (Bytes value)) (IsUnfit part) bytes new h = absurd (let e = h.1 in cc)
    ran (Ok Nothing) NoValue bytes new h = went false new h.0
    ran (Ok Nothing) SomeValue bytes new h = absurd (let e = h.1 in cc)
    ran (Ok Nothing) (IsDone done) bytes new h = absurd (let e = h.1 in cc)
    ran (Ok Nothing) (IsUnfit part) bytes new h = absurd (let e = h.1 in cc)
    ran (Err part) NoValue bytes new h = absurd (let e = h.1 in cc)
    ran (Err part) SomeValue bytes new h = absurd (let e = h.1 in cc)
    ran (Err part) (IsDone done) bytes new h = absurd (let e = h.1 in cc)
    ran (Err part) (IsUnfit other) bytes new h = missed new h.0

  by_get : (old : Option (List ℕ)) → (old ≡ None → before ≡ None) → (kind : ReplyKind) (bytes : List ℕ) (new : Option (List ℕ))
      → (new ≡ old) × (reply_by kind bytes ≡ Value old) → Agree get kind bytes new
  by_get old none NoValue bytes new h = missed old none new h.0
  by_get None none SomeValue bytes new h = absurd (let e = h.1 in cc)
  by_get (Some value) none SomeValue bytes new h = reached new value h.0
  by_get old none (IsDone done) bytes new h = missed old none new h.0
  by_get old none (IsUnfit part) bytes new h = missed old none new h.0

  by_put_if_absent : (given : List ℕ) (old : Option (List ℕ)) → (old ≡ None → before ≡ None) → (kind : ReplyKind) (bytes key : List ℕ) (new : Option (List ℕ))
      → Follows (rule_of (put_if_absent given) old) key old new (reply_by kind bytes) → Agree (put_if_absent given) kind bytes new
  by_put_if_absent given (Some value) none NoValue bytes key new h = absurd (let e = h.1 in cc)
  by_put_if_absent given (Some value) none SomeValue bytes key new h = missed (Some value) none new h.0
  by_put_if_absent given (Some value) none (IsDone done) bytes key new h = missed (Some value) none new h.0
  by_put_if_absent given (Some value) none (IsUnfit part) bytes key new h = missed (Some value) none new h.0
  by_put_if_absent given None none NoValue bytes key new h = reached new given h.0
  by_put_if_absent given None none SomeValue bytes key new h = absurd (let e = h.1 in cc)
  by_put_if_absent given None none (IsDone done) bytes key new h = absurd (let e = h.1 in cc)
  by_put_if_absent given None none (IsUnfit part) bytes key new h = absurd (let e = h.1 in cc)

  -- if the value was compared, by the test's answer
  compared_to_remove : (expected value : List ℕ) (same : Bool) → (kind : ReplyKind) (bytes key : List ℕ) (new : Option (List ℕ))
      → Follows (if same then leaves None (Done true) else leaves (Some value) (Done false)) key (Some value) new (reply_by kind bytes)
      → Agree (remove_if expected) kind bytes new
  compared_to_remove expected value true NoValue bytes key new h = absurd (let e = h.1 in cc)
  compared_to_remove expected value true SomeValue bytes key new h = absurd (let e = h.1 in cc)
  compared_to_remove expected value true (IsDone true) bytes key new h = went true new h.0
  compared_to_remove expected value true (IsDone false) bytes key new h = absurd (let e = h.1 in cc)
  compared_to_remove expected value true (IsUnfit part) bytes key new h = absurd (let e = h.1 in cc)
  compared_to_remove expected value false NoValue bytes key new h = absurd (let e = h.1 in cc)
  compared_to_remove expected value false SomeValue bytes key new h = absurd (let e = h.1 in cc)
  compared_to_remove expected value false (IsDone true) bytes key new h = absurd (let e = h.1 in cc)
  compared_to_remove expected value false (IsDone false) bytes key new h = stayed new value h.0
  compared_to_remove expected value false (IsUnfit part) bytes key new h = absurd (let e = h.1 in cc)

  compared_to_replace : (expected given value : List ℕ) (same : Bool) → (kind : ReplyKind) (bytes key : List ℕ) (new : Option (List ℕ))
      → Follows (if same then leaves (Some given) (Done true) else leaves (Some value) (Done false)) key (Some value) new (reply_by kind bytes)
      → Agree (replace_if expected given) kind bytes new
  compared_to_replace expected given value true NoValue bytes key new h = absurd (let e = h.1 in cc)
  compared_to_replace expected given value true SomeValue bytes key new h = absurd (let e = h.1 in cc)
  compared_to_replace expected given value true (IsDone true) bytes key new h = reached new given h.0
  compared_to_replace expected given value true (IsDone false) bytes key new h = absurd (let e = h.1 in cc)
  compared_to_replace expected given value true (IsUnfit part) bytes key new h = absurd (let e = h.1 in cc)
  compared_to_replace expected given value false NoValue bytes key new h = absurd (let e = h.1 in cc)
  compared_to_replace expected given value false SomeValue bytes key new h = absurd (let e = h.1 in cc)
  compared_to_replace expected given value false (IsDone true) bytes key new h = absurd (let e = h.1 in cc)
  compared_to_replace expected given value false (IsDone false) bytes key new h = stayed new value h.0
  compared_to_replace expected given value false (IsUnfit part) bytes key new h = absurd (let e = h.1 in cc)

  by_remove_if : (expected : List ℕ) (old : Option (List ℕ)) → (old ≡ None → before ≡ None) → (kind : ReplyKind) (bytes key : List ℕ) (new : Option (List ℕ))
      → Follows (rule_of (remove_if expected) old) key old new (reply_by kind bytes) → Agree (remove_if expected) kind bytes new
  by_remove_if expected (Some value) none kind bytes key new h = compared_to_remove expected value (bytes_eq value expected) kind bytes key new h
  by_remove_if expected None none NoValue bytes key new h = absurd (let e = h.1 in cc)
  by_remove_if expected None none SomeValue bytes key new h = absurd (let e = h.1 in cc)
  by_remove_if expected None none (IsDone true) bytes key new h = absurd (let e = h.1 in cc)
  by_remove_if expected None none (IsDone false) bytes key new h = missed None none new h.0
  by_remove_if expected None none (IsUnfit part) bytes key new h = absurd (let e = h.1 in cc)

  by_replace_if : (expected given : List ℕ) (old : Option (List ℕ)) → (old ≡ None → before ≡ None) → (kind : ReplyKind) (bytes key : List ℕ) (new : Option (List ℕ))
      → Follows (rule_of (replace_if expected given) old) key old new (reply_by kind bytes) → Agree (replace_if expected given) kind bytes new
  by_replace_if expected given (Some value) none kind bytes key new h = compared_to_replace expected given value (bytes_eq value expected) kind bytes key new h
  by_replace_if expected given None none NoValue bytes key new h = absurd (let e = h.1 in cc)
  by_replace_if expected given None none SomeValue bytes key new h = absurd (let e = h.1 in cc)
  by_replace_if expected given None none (IsDone true) bytes key new h = absurd (let e = h.1 in cc)
  by_replace_if expected given None none (IsDone false) bytes key new h = missed None none new h.0
  by_replace_if expected given None none (IsUnfit part) bytes key new h = absurd (let e = h.1 in cc)

  by_replace : (given : List ℕ) (old : Option (List ℕ)) → (old ≡ None → before ≡ None) → (kind : ReplyKind) (bytes key : List ℕ) (new : Option (List ℕ))
      → Follows (rule_of (replace given) old) key old new (reply_by kind bytes) → Agree (replace given) kind bytes new
  by_replace given (Some value) none NoValue bytes key new h = absurd (let e = h.1 in cc)
  by_replace given (Some value) none SomeValue bytes key new h = reached new given h.0
  by_replace given (Some value) none (IsDone done) bytes key new h = absurd (let e = h.1 in cc)
  by_replace given (Some value) none (IsUnfit part) bytes key new h = absurd (let e = h.1 in cc)
  by_replace given None none NoValue bytes key new h = missed None none new h.0
  by_replace given None none SomeValue bytes key new h = absurd (let e = h.1 in cc)
  by_replace given None none (IsDone done) bytes key new h = absurd (let e = h.1 in cc)
  by_replace given None none (IsUnfit part) bytes key new h = absurd (let e = h.1 in cc)

  by_compute_if_absent : (program : Checked) (arg : Option (List ℕ)) (old : Option (List ℕ)) → (old ≡ None → before ≡ None) → (kind : ReplyKind) (bytes key : List ℕ) (new : Option (List ℕ))
      → Follows (rule_of (compute_if_absent program arg) old) key old new (reply_by kind bytes) → Agree (compute_if_absent program arg) kind bytes new
  by_compute_if_absent program arg (Some value) none NoValue bytes key new h = absurd (let e = h.1 in cc)
  by_compute_if_absent program arg (Some value) none SomeValue bytes key new h = reached new value h.0
  by_compute_if_absent program arg (Some value) none (IsDone done) bytes key new h = absurd (let e = h.1 in cc)
  by_compute_if_absent program arg (Some value) none (IsUnfit part) bytes key new h = absurd (let e = h.1 in cc)
  by_compute_if_absent program arg None none kind bytes key new h = ran None none h.0 kind bytes new h.1.1

  by_compute_if_present : (program : Checked) (arg : Option (List ℕ)) (old : Option (List ℕ)) → (old ≡ None → before ≡ None) → (kind : ReplyKind) (bytes key : List ℕ) (new : Option (List ℕ))
      → Follows (rule_of (compute_if_present program arg) old) key old new (reply_by kind bytes) → Agree (compute_if_present program arg) kind bytes new
  by_compute_if_present program arg (Some value) none kind bytes key new h = ran (Some value) none h.0 kind bytes new h.1.1
  by_compute_if_present program arg None none NoValue bytes key new h = went false new h.0
  by_compute_if_present program arg None none SomeValue bytes key new h = absurd (let e = h.1 in cc)
  by_compute_if_present program arg None none (IsDone done) bytes key new h = absurd (let e = h.1 in cc)
  by_compute_if_present program arg None none (IsUnfit part) bytes key new h = absurd (let e = h.1 in cc)

  by_merge : (given : List ℕ) (program : Checked) (old : Option (List ℕ)) → (old ≡ None → before ≡ None) → (kind : ReplyKind) (bytes key : List ℕ) (new : Option (List ℕ))
      → Follows (rule_of (merge given program) old) key old new (reply_by kind bytes) → Agree (merge given program) kind bytes new
  by_merge given program (Some value) none kind bytes key new h = ran (Some value) none h.0 kind bytes new h.1.1
  by_merge given program None none NoValue bytes key new h = absurd (let e = h.1 in cc)
  by_merge given program None none SomeValue bytes key new h = reached new given h.0
  by_merge given program None none (IsDone done) bytes key new h = absurd (let e = h.1 in cc)
  by_merge given program None none (IsUnfit part) bytes key new h = absurd (let e = h.1 in cc)

  by_rule : (method : Method) (old : Option (List ℕ)) → (old ≡ None → before ≡ None) → (kind : ReplyKind) (bytes key : List ℕ) (new : Option (List ℕ))
      → Follows (rule_of method old) key old new (reply_by kind bytes) → Agree method kind bytes new
  by_rule get old none kind bytes key new h = by_get old none kind bytes new h
  by_rule (put given) old none kind bytes key new h = reached new given h.0
  by_rule (put_if_absent given) old none kind bytes key new h = by_put_if_absent given old none kind bytes key new h
  by_rule remove old none kind bytes key new h = went true new h.0
  by_rule (remove_if expected) old none kind bytes key new h = by_remove_if expected old none kind bytes key new h
  by_rule (replace given) old none kind bytes key new h = by_replace given old none kind bytes key new h
  by_rule (replace_if expected given) old none kind bytes key new h = by_replace_if expected given old none kind bytes key new h
  by_rule (compute program arg) old none kind bytes key new h = ran old none h.0 kind bytes new h.1.1
  by_rule (compute_if_absent program arg) old none kind bytes key new h = by_compute_if_absent program arg old none kind bytes key new h
  by_rule (compute_if_present program arg) old none kind bytes key new h = by_compute_if_present program arg old none kind bytes key new h
  by_rule (merge given program) old none kind bytes key new h = by_merge given program old none kind bytes key new h

-- the key has the value that a call leaves
left_at : (table : Table) (key : List ℕ) (value : Option (List ℕ)) → map.get (with_value table key value) key ≡ value
left_at table key (Some value) = entered table key value
left_at table key None = gone table key

-- the deadline after a call, where a key without an entry had none before
pub touched : (change : DeadlineChange) (before : Option ℕ) (table : Table) (invocation : Invocation) (new : Table) (kind : ReplyKind) (bytes : List ℕ)
    → Answers table invocation new (reply_by kind bytes)
    → (map.get table invocation.key ≡ None → before ≡ None)
    → deadline_by (touch_of invocation.method kind) (changed change before) before
    ≡ deadline_after change (reaches invocation.method (reply_by kind bytes)) before (map.get new invocation.key)
touched change before table invocation new kind bytes answers none =
    let is : map.get new invocation.key ≡ answers.0 = ap (λ (t : Table). map.get t invocation.key) answers.1.1 ∙ left_at table invocation.key answers.0 in
    by_rule change before invocation.method (map.get table invocation.key) none kind bytes invocation.key (map.get new invocation.key) (rw is answers.1.0)
