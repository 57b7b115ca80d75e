-- What a call did to its key's entry, by its method and its reply.
use Rattle.std.specs.Prelude.{ℕ, true, false, Option, None}
use Rattle.atomic_methods.specs.declared.reply.ReplyKind.{ReplyKind}
use Rattle.atomic_methods.specs.declared.reply.ReplyKind.TheVariants.{None as NoValue, Some as SomeValue, Done as IsDone, Unfit as IsUnfit}
use Rattle.atomic_methods.specs.Invocations.{Method, get, put, put_if_absent, remove, remove_if, replace, replace_if, compute, compute_if_absent, compute_if_present, merge}
use Rattle.timed_bins.specs.declared.timed.Touch.{Touch}
use Rattle.timed_bins.specs.declared.timed.Touch.TheVariants.{Gone, Reached, Missed}

-- if the entry was there
abbrev pub found : ReplyKind → Touch
found NoValue = Missed
found SomeValue = Reached
found (IsDone done) = Missed
found (IsUnfit part) = Missed

-- if there was no entry
abbrev pub entered : ReplyKind → Touch
entered NoValue = Reached
entered SomeValue = Missed
entered (IsDone done) = Missed
entered (IsUnfit part) = Missed

-- if the value was the expected one, this; else the call missed it
abbrev pub where_done : Touch → ReplyKind → Touch
where_done touch NoValue = Missed
where_done touch SomeValue = Missed
where_done touch (IsDone true) = touch
where_done touch (IsDone false) = Missed
where_done touch (IsUnfit part) = Missed

-- by a program's answer
abbrev pub answered : ReplyKind → Touch
answered NoValue = Gone
answered SomeValue = Reached
answered (IsDone done) = Missed
answered (IsUnfit part) = Missed

abbrev pub touch_of : Method → ReplyKind → Touch
touch_of get kind = found kind
touch_of (put value) kind = Reached
touch_of (put_if_absent value) kind = entered kind
touch_of remove kind = Gone
touch_of (remove_if expected) kind = where_done Gone kind
touch_of (replace value) kind = found kind
touch_of (replace_if expected value) kind = where_done Reached kind
touch_of (compute program arg) kind = answered kind
touch_of (compute_if_absent program arg) kind = answered kind
touch_of (compute_if_present program arg) kind = answered kind
touch_of (merge value program) kind = answered kind

-- the deadline after a call, if it is changed to the wanted one and was this before
abbrev pub deadline_by : Touch → Option ℕ → Option ℕ → Option ℕ
deadline_by Gone wanted before = None
deadline_by Reached wanted before = wanted
deadline_by Missed wanted before = before
