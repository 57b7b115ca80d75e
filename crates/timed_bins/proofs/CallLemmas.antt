-- A call, at a time or without a clock: what was done first, and then the call.
use Rattle.std.proofs.Common.{◌≡◌, ℕ, true, false, IsTrue, max, List, [], Option, Some, None, refl, sym, subst, ◌∙◌, ◌⊎◌, inl, inr}
use Rattle.atomic_methods.specs.Invocations.{Method, get, put, put_if_absent, remove, remove_if, replace, replace_if, compute, compute_if_absent, compute_if_present, merge, Invocation}
use Rattle.atomic_methods.specs.Methods.{WouldAdd}
use Rattle.atomic_methods.specs.Plans.{reply_by}
use Rattle.bins.specs.Table.{Table}
use Rattle.timed_bins.specs.declared.timing.Timing.{Timing}
use Rattle.timed_bins.specs.declared.timing.TimedReply.{TimedReply}
use Rattle.timed_bins.specs.Deadlines.{TimedTable, CallsWith, MakesCall, RefusesCall, TakesIfOver, TellsTime, asks_room, change_of, is_over}
use Rattle.timed_bins.specs.Steps.{LooksFirst, change_at}

-- the key's time is not over, so it was not taken away
takes_nothing : (old new : TimedTable) (now : ℕ) (key : List ℕ) → TellsTime old now new → false ≡ is_over (old.deadline key) (max old.latest now) → TakesIfOver old key now false new
takes_nothing old new now key tells over = record {
  over = over;
  gone = [];
  had = λ no. absurd (let it : false ≡ true = no in cc);
  table = tells.table;
  here = tells.deadlines key;
  others = λ other apart. tells.deadlines other;
  latest = tells.latest;
}

pub makes_call : (timing : Option Timing) (old between new : TimedTable) (invocation : Invocation) (timed : TimedReply) (bytes : List ℕ)
    → LooksFirst old timing invocation.key between false → timed.was_over ≡ false → CallsWith (change_at timing invocation.method) between invocation (reply_by timed.kind bytes) new
    → timed.before ≡ between.deadline invocation.key → timed.after ≡ new.deadline invocation.key → MakesCall timing old invocation timed bytes new
makes_call None old between new invocation timed bytes looks was calls before after =
    subst (λ (t : TimedTable). CallsWith (change_of invocation.method) t invocation (reply_by timed.kind bytes) new) looks.0 calls
makes_call (Some timing) old between new invocation timed bytes looks was calls before after =
    record { between = between; takes = rw was (takes_nothing old between timing.now invocation.key looks.0 looks.1); calls = calls; before = before; after = after }

-- a call without a clock sets no deadline
sets_none : (method : Method) → asks_room (change_of method) ≡ false
sets_none get = refl
sets_none (put value) = refl
sets_none (put_if_absent value) = refl
sets_none remove = refl
sets_none (remove_if expected) = refl
sets_none (replace value) = refl
sets_none (replace_if expected value) = refl
sets_none (compute program arg) = refl
sets_none (compute_if_absent program arg) = refl
sets_none (compute_if_present program arg) = refl
sets_none (merge value program) = refl

would_add : (table : Table) (invocation : Invocation) → WouldAdd table invocation ⊎ IsTrue (asks_room (change_of invocation.method)) → WouldAdd table invocation
would_add table invocation (inl would) = would
would_add table invocation (inr asks) = absurd (let none = sets_none invocation.method in cc)

-- the same table, deadlines and latest time
pub same_timed : (old new : TimedTable) → new.table ≡ old.table → ((key : List ℕ) → new.deadline key ≡ old.deadline key) → new.latest ≡ old.latest → new ≡ old
same_timed old new tables deadlines latests i = record { table = tables i; deadline = λ key. deadlines key i; latest = latests i }

pub refuses_call : (timing : Option Timing) (old between new : TimedTable) (invocation : Invocation)
    → LooksFirst old timing invocation.key between false → new ≡ between
    → WouldAdd between.table invocation ⊎ IsTrue (asks_room (change_at timing invocation.method)) → RefusesCall timing old invocation new
refuses_call None old between new invocation looks same may =
    (same ∙ looks.0, subst (λ (t : TimedTable). WouldAdd t.table invocation) looks.0 (would_add between.table invocation may))
refuses_call (Some timing) old between new invocation looks same may = record {
  tells = subst (TellsTime old timing.now) (sym same) looks.0;
  memory = subst (λ (t : Table). WouldAdd t invocation ⊎ IsTrue (asks_room timing.change)) looks.0.table may;
}

-- a call on a key whose time is over asks for memory only if it sets a deadline
pub refuses_stale : (timing : Option Timing) (old between new : TimedTable) (invocation : Invocation)
    → LooksFirst old timing invocation.key between true → new ≡ between
    → IsTrue (asks_room (change_at timing invocation.method)) → RefusesCall timing old invocation new
refuses_stale None old between new invocation looks same asks = absurd (let no = looks.1 in cc)
refuses_stale (Some timing) old between new invocation looks same asks = record {
  tells = subst (TellsTime old timing.now) (sym same) looks.0;
  memory = inr asks;
}
