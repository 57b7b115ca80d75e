-- What commands and sweeps do, deed by deed.
use Rattle.std.proofs.Common.{◌≡◌, inl, inr, ℕ, zero, suc, List, [], ◌∷◌, ◌++◌, length, if◌then◌else◌, Bool, true, false, ◌&&◌, Option, Some, None, Result, Ok, Err, refl, ap, subst, ◌∙◌}
use Rattle.std.specs.Prelude.{replicate}
use Rattle.verifier.specs.Checked.{Checked}
use Rattle.atomic_methods.specs.Invocations.{Invocation, on_key, remove}
use Rattle.atomic_methods.specs.declared.reply.Reply.{Reply}
use Rattle.timed_bins.specs.declared.timing.DeadlineChange.{DeadlineChange}
use Rattle.bin_stripes.specs.Actions.{Action, called, scanned}
use Rattle.bin_stripes.specs.Invoked.{Makes, stripe_for, CountsStripe}
use Rattle.bin_stripes.specs.Passes.{PassState}
use Rattle.bin_stripes.specs.Timed.{ExpiresOne}
use Rattle.bin_stripes.specs.declared.expiry.Expiry.{Expiry}
use Rattle.bin_stripes.specs.declared.expiry.Expiry.TheVariants.{Took}
use Rattle.key_walks.specs.Turns.{Chain, InTurn, FindsKeys, MayScan, StopsIn}
use Rattle.key_walks.specs.Expired.{Looks, AfterExpiry, FindsLive, MayScanLive}
use Rattle.key_walks.specs.Walks as walks
use Rattle.key_walks.specs.Walks.{Clears, each}
use Rattle.key_walks.specs.Pages.{Part, Takes, TakesLive}
use Rattle.redis_commands.specs.Commands.{Act, Condition, Asked, Fault, ConnectionAsked, ServerAsked, WalkAsked, ProgramAsked}
use Rattle.redis_commands.specs.Commands.Condition.{Always, IfAbsent, IfPresent, IfEqual}
use Rattle.redis_commands.specs.declared.command.Lifetime.{Lifetime}
use Rattle.redis_commands.specs.declared.command.KeysAct.{KeysAct}
use Rattle.redis_commands.specs.declared.command.KeysAct.TheVariants.{GetEach, Delete, CountPresent}
use Rattle.redis_scripts.specs.declared.head.Method.{Method}
use Rattle.redis_scripts.specs.declared.head.Method.TheVariants as method
use Rattle.redis_scripts.specs.declared.head.ReplyKind.{ReplyKind}
use Rattle.redis_scripts.specs.declared.head.ReplyKind.TheVariants as kind
use Rattle.redis_scripts.specs.declared.lua.LockAct.{LockAct}
use Rattle.redis_scripts.specs.declared.lua.LockAct.TheVariants.{Release, Extend, Reacquire}
use Rattle.redis_service.specs.Answers.{AnswersKey, AnswersKeys, AnswersSetEach, AnswersSet, Puts, pairs}
use Rattle.redis_service.specs.Calls as calls
use Rattle.redis_service.specs.Calls.{AnswersTimed, Finds, Removes, Each}
use Rattle.redis_service.specs.Changes.{Step, stays, becomes, LosesTries, Ends, AnswersChange}
use Rattle.redis_service.specs.Changing.{changes}
use Rattle.redis_service.specs.Commands.{AnswersCommand, AnswersRead, AnswersUnless, read_of}
use Rattle.redis_service.specs.Connections.{Greets, AnswersHello, LetsIn, LetsInBy, AnswersConnection}
use Rattle.redis_service.specs.Programs.{AnswersTime, AnswersWith, AnswersIfFit, AnswersScript, AnswersArguments, AnswersLock, AnswersProgram, with_time, Looks as LooksFor}
use Rattle.redis_service.specs.Saving.{AnswersServer}
use Rattle.redis_service.specs.States.{TalkState, is_authenticated, is_right, showing, let_in}
use Rattle.redis_service.specs.Sweeps.{Sweeps, SweepsStripe}
use Rattle.redis_service.specs.Talks as talks
use Rattle.redis_service.specs.Talks.{Said, AnswersSaid, AnswersNext}
use Rattle.redis_service.specs.Walks.{AnswersWalk}
use Rattle.crews.specs.Deeds.{Deed, Does}

-- the pass did some deeds
abbrev pub Did : PassState → PassState → Type 0
Did old new = (deeds : List Deed) × Does old deeds new

did_nothing : (old new : PassState) → new ≡ old → Did old new
did_nothing old new same = ([], same)

did_one : (old new : PassState) (k : ℕ) (actions : List Action) → Makes old k actions new → Did old new
did_one old new k actions makes = (record { stripe = k; actions = actions } ∷ [], (new, makes, refl))

does_on : (a b c : PassState) (xs ys : List Deed) → Does a xs b → Does b ys c → Does a (xs ++ ys) c
does_on a b c [] ys same more = subst (λ (p : PassState). Does p ys c) same more
does_on a b c (x ∷ xs) ys (mid, makes, later) more = (mid, makes, does_on mid b c xs ys later more)

did_then : (a b c : PassState) → Did a b → Did b c → Did a c
did_then a b c (xs, one) (ys, more) = (xs ++ ys, does_on a b c xs ys one more)

-- ---- one after the other

each_did : {X Y : Type 0} (Acts : PassState → X → Y → PassState → Type 0) (step : (p q : PassState) (x : X) (y : Y) → Acts p x y q → Did p q)
    → (old new : PassState) (xs : List X) (ys : List Y) → Each Acts old xs ys new → Did old new
each_did Acts step old new [] [] same = did_nothing old new same
each_did Acts step old new [] (y ∷ ys) acts = absurd acts
each_did Acts step old new (x ∷ xs) [] acts = absurd acts
each_did Acts step old new (x ∷ xs) (y ∷ ys) (mid, one, more) = did_then old mid new (step old mid x y one) (each_did Acts step mid new xs ys more)

chain_did : {X : Type 0} (Acts : PassState → X → PassState → Type 0) (step : (p q : PassState) (x : X) → Acts p x q → Did p q)
    → (old new : PassState) (xs : List X) → Chain Acts old xs new → Did old new
chain_did Acts step old new [] same = did_nothing old new same
chain_did Acts step old new (x ∷ xs) (mid, (same, (one, more))) = did_then old mid new (step old mid x one) (chain_did Acts step mid new xs more)

turns_did : {X : Type 0} (Acts : PassState → ℕ → X → PassState → Type 0) (step : (p q : PassState) (k : ℕ) (x : X) → Acts p k x q → Did p q)
    → (at : ℕ → ℕ) (old new : PassState) (xs : List X) → InTurn Acts at old xs new → Did old new
turns_did Acts step at old new [] same = did_nothing old new same
turns_did Acts step at old new (x ∷ xs) (mid, (same, (one, more))) =
    did_then old mid new (step old mid (at 0) x one) (turns_did Acts step (λ i. at (suc i)) mid new xs more)

turns_map : {X : Type 0} (Acts : PassState → ℕ → X → PassState → Type 0) (at : ℕ → ℕ) (old new : PassState) (xs : List X) → InTurn Acts at old xs new → new.map ≡ old.map
turns_map Acts at old new [] same = ap (λ (p : PassState). p.map) same
turns_map Acts at old new (x ∷ xs) (mid, (same, (one, more))) = turns_map Acts (λ i. at (suc i)) mid new xs more ∙ same.map

stops_did : {X : Type 0} (Acts : PassState → ℕ → X → PassState → Type 0) (Tried : PassState → ℕ → PassState → Type 0)
    (step : (p q : PassState) (k : ℕ) (x : X) → Acts p k x q → Did p q) (tried : (p q : PassState) (k : ℕ) → Tried p k q → Did p q)
    → (at : ℕ → ℕ) (old new : PassState) → StopsIn Acts Tried at old new → Did old new
stops_did Acts Tried step tried at old new s =
    did_then old s.between new (turns_did Acts step at old s.between s.items s.turns) (tried s.between new (at (length s.items)) s.last)

-- ---- calls at a time

module _ (now : ℕ) where
  module _ (change : DeadlineChange) where
    makes_did : (old new : PassState) (invocation : Invocation) (reply : Reply) (before : Option ℕ) → calls.Makes now change old invocation reply before new → Did old new
    makes_did old new invocation reply before m = did_one old new (stripe_for old invocation) _ m.calls.makes

    refuses_did : (old new : PassState) (invocation : Invocation) → calls.Refuses now change old invocation new → Did old new
    refuses_did old new invocation r = did_one old new (stripe_for old invocation) [] r.refuses.makes

    timed_did : (old new : PassState) (invocation : Invocation) (tells : Reply → Option ℕ → List ℕ) (written : List ℕ) → AnswersTimed now change old invocation tells written new → Did old new
    timed_did old new invocation tells written (inl (reply, before, makes, is)) = makes_did old new invocation reply before makes
    timed_did old new invocation tells written (inr (refuses, is)) = refuses_did old new invocation refuses

  finds_did : (old new : PassState) (key : List ℕ) (found : Option (List ℕ)) → Finds now old key found new → Did old new
  finds_did old new key found f = makes_did _ old new _ f.reply f.before f.makes

  removes_did : (old new : PassState) (key : List ℕ) (found : Option (List ℕ)) → Removes now old key found new → Did old new
  removes_did old new key found r = makes_did _ old new _ r.reply r.before r.makes

  module _ (change : DeadlineChange) (key : List ℕ) (Plans : Option (List ℕ) → Step → Type 0) where
    lost_did : (n : ℕ) (old new : PassState) → LosesTries now change key Plans n old new → Did old new
    lost_did zero old new same = did_nothing old new same
    lost_did (suc n) old new (mid, before, one) =
        did_then old mid new (lost_did n old mid before)
        (did_then mid one.mid new (finds_did mid one.mid key one.found one.finds) (makes_did change one.mid new _ one.reply one.before one.makes))

    ends_did : (found : Option (List ℕ)) (step : Step) (old new : PassState) (written : List ℕ) → Ends now change key Plans found step old written new → Did old new
    ends_did found (stays text) old new written (same, is) = did_nothing old new same
    ends_did found (becomes value text) old new written (inl (reply, before, makes, takes, is)) = makes_did change old new _ reply before makes
    ends_did found (becomes value text) old new written (inr (refuses, is)) = refuses_did change old new _ refuses

    change_did : (old new : PassState) (written : List ℕ) → AnswersChange now change key Plans old written new → Did old new
    change_did old new written c =
        did_then old c.mid new (lost_did c.tries old c.mid c.lost)
        (did_then c.mid c.last.mid new (finds_did c.mid c.last.mid key c.last.found c.last.finds) (ends_did c.last.found c.last.step c.last.mid new written c.last.ends))

  -- ---- commands on keys

  set_did : (old new : PassState) (key value : List ℕ) (condition : Condition) (wants_old : Bool) (lifetime : Lifetime) (written : List ℕ)
      → AnswersSet now old key value condition wants_old lifetime written new → Did old new
  set_did old new key value Always false lifetime written a = timed_did _ old new _ _ written a
  set_did old new key value Always true lifetime written a = timed_did _ old new _ _ written a
  set_did old new key value IfAbsent false lifetime written a = timed_did _ old new _ _ written a
  set_did old new key value IfAbsent true lifetime written a = timed_did _ old new _ _ written a
  set_did old new key value IfPresent false lifetime written a = timed_did _ old new _ _ written a
  set_did old new key value IfPresent true lifetime written a = timed_did _ old new _ _ written a
  set_did old new key value (IfEqual expected) false lifetime written a = timed_did _ old new _ _ written a
  set_did old new key value (IfEqual expected) true lifetime written a = change_did _ key _ old new written a

  key_did : (old new : PassState) (key written : List ℕ) (acts : Act) → AnswersKey now old key acts written new → Did old new
  key_did old new key written Act.Get (found, finds, is) = finds_did old new key found finds
  key_did old new key written (Act.Set value condition wants_old lifetime) a = set_did old new key value condition wants_old lifetime written a
  key_did old new key written (Act.SetIfAbsent value) a = timed_did _ old new _ _ written a
  key_did old new key written (Act.GetAndSet value) a = timed_did _ old new _ _ written a
  key_did old new key written Act.GetAndDelete (found, removes, is) = removes_did old new key found removes
  key_did old new key written Act.Length (found, finds, is) = finds_did old new key found finds
  key_did old new key written Act.TypeName (found, finds, is) = finds_did old new key found finds
  key_did old new key written (Act.GetAndExpire lifetime) a = timed_did _ old new _ _ written a
  key_did old new key written (Act.Expire at rule) a = timed_did _ old new _ _ written a
  key_did old new key written Act.Persist a = timed_did _ old new _ _ written a
  key_did old new key written (Act.TimeLeft unit form) a = timed_did _ old new _ _ written a
  key_did old new key written (Act.Add by) a = change_did _ key _ old new written a
  key_did old new key written (Act.Append more) a = change_did _ key _ old new written a
  key_did old new key written (Act.GetRange start end) (found, finds, is) = finds_did old new key found finds
  key_did old new key written (Act.SetRange offset more) a = change_did _ key _ old new written a
  key_did old new key written (Act.DeleteIfEqual value) a = timed_did _ old new _ _ written a

  keys_did : (old new : PassState) (keys : List (List ℕ)) (acts : KeysAct) (written : List ℕ) → AnswersKeys now old keys acts written new → Did old new
  keys_did old new keys GetEach written (founds, all, is) = each_did (Finds now) finds_did old new keys founds all
  keys_did old new keys Delete written (founds, all, is) = each_did (Removes now) removes_did old new keys founds all
  keys_did old new keys CountPresent written (founds, all, is) = each_did (Finds now) finds_did old new keys founds all

  puts_did : (p q : PassState) (pair : List ℕ × List ℕ) (reply : Reply) → Puts now p pair reply q → Did p q
  puts_did p q pair reply (before, makes) = makes_did _ p q _ reply before makes

  set_each_did : (old new : PassState) (all : List (List ℕ × List ℕ)) (written : List ℕ) → AnswersSetEach now old all written new → Did old new
  set_each_did old new all written (inl (replies, puts, is)) = each_did (Puts now) puts_did old new all replies puts
  set_each_did old new all written (inr (stops, is)) =
      did_then old stops.mid new (each_did (Puts now) puts_did old stops.mid stops.done stops.replies stops.puts) (refuses_did _ stops.mid new _ stops.refuses)

  -- ---- walks

  look_did : (k : ℕ) (p q : PassState) (answer : Expiry) → ExpiresOne p k now answer q → Did p q
  look_did k p q answer e = did_one p q k _ e.makes

  looks_did : (old new : PassState) (k often : ℕ) (last : Expiry) → Looks now old k often last new → Did old new
  looks_did old new k often last looks = chain_did (λ p answer q. ExpiresOne p k now answer q) (look_did k) old new (replicate often Took ++ last ∷ []) looks

  after_did : (Then : PassState → PassState → Type 0) (step : (p q : PassState) → Then p q → Did p q) → (old new : PassState) (k : ℕ) → AfterExpiry now Then old k new → Did old new
  after_did Then step old new k a =
      did_then old a.between new (looks_did old a.between k a.expires.often a.expires.last a.expires.looks) (step a.between new a.did)

  found_did : (p q : PassState) (k : ℕ) (keys : List (List ℕ)) → FindsLive now p k keys q → Did p q
  found_did p q k keys a = after_did (λ p q. FindsKeys p k keys q) (λ p q f. did_one p q k (scanned f.entries ∷ []) f.scans) p q k a

  may_scan_did : (p q : PassState) (k : ℕ) → MayScan p k q → Did p q
  may_scan_did p q k (inl makes) = did_one p q k [] makes
  may_scan_did p q k (inr (entries, scans)) = did_one p q k (scanned entries ∷ []) scans

  may_scan_live_did : (p q : PassState) (k : ℕ) → MayScanLive now p k q → Did p q
  may_scan_live_did p q k a = after_did (λ p q. MayScan p k q) (λ p q m. may_scan_did p q k m) p q k a

  takes_did : (most : ℕ) (p q : PassState) (k : ℕ) (part : Part) → TakesLive now most p k part q → Did p q
  takes_did most p q k part a = after_did (λ p q. Takes most p k part q) (λ p q t. did_one p q k (scanned t.entries ∷ []) t.scans) p q k a

  counts_did : (p q : PassState) (k count : ℕ) → CountsStripe p k count q → Did p q
  counts_did p q k count c = did_one p q k (scanned c.entries ∷ []) c.scans

  clears_did : (p q : PassState) (k : ℕ) (keys : List (List ℕ)) → Clears p k keys q → Did p q
  clears_did p q k keys c =
      did_then p c.between q (did_one p c.between k (scanned c.finds.entries ∷ []) c.finds.scans) (chain_did walks.Removes (λ p q key r. did_one p q _ (called (on_key key remove) r.0 ∷ []) r.1) c.between q keys c.removes)

  chooses_did : (number : ℕ) (old : PassState) (choice : Option (List ℕ)) (new : PassState) → walks.Chooses now number old choice new → Did old new
  chooses_did number old None new c =
      did_then old c.between new (turns_did (FindsLive now) found_did _ old c.between c.lists c.turns) (did_nothing c.between new c.choice_is.1)
  chooses_did number old (Some key) new c =
      let (some, (keys, (finds, has))) = c.choice_is in
      did_then old c.between new (turns_did (FindsLive now) found_did _ old c.between c.lists c.turns) (found_did c.between new _ keys finds)

  walk_did : (old new : PassState) (asks : WalkAsked) (written : List ℕ) → AnswersWalk now old asks written new → Did old new
  walk_did old new WalkAsked.CountAll written (count, counts, is) = turns_did CountsStripe counts_did each old new counts.counts counts.turns
  walk_did old new (WalkAsked.Scan cursor pattern count is_string) written (inl (keys, next, page, is)) = turns_did _ (takes_did _) _ old new page.parts page.turns
  walk_did old new (WalkAsked.Scan cursor pattern count is_string) written (inr (stops, is)) = stops_did _ (MayScanLive now) (takes_did _) may_scan_live_did _ old new stops
  walk_did old new (WalkAsked.Keys pattern) written (inl (keys, finds, is)) = turns_did (FindsLive now) found_did each old new finds.lists finds.turns
  walk_did old new (WalkAsked.Keys pattern) written (inr (stops, is)) = stops_did (FindsLive now) (MayScanLive now) found_did may_scan_live_did each old new stops
  walk_did old new WalkAsked.RandomKey written (number, (inl (choice, chooses, is))) = chooses_did number old choice new chooses
  walk_did old new WalkAsked.RandomKey written (number, (inr (stops, is))) = stops_did (FindsLive now) (MayScanLive now) found_did may_scan_live_did _ old new stops
  walk_did old new WalkAsked.RemoveAll written (inl (clears, is)) = turns_did Clears clears_did each old new clears.lists clears.turns
  walk_did old new WalkAsked.RemoveAll written (inr (stops, is)) = stops_did Clears MayScan clears_did may_scan_did each old new stops

  -- ---- programs

  time_did : (word : List ℕ) (Then : ℕ → Type 0) (old new : PassState) (written : List ℕ) (step : (ms : ℕ) → Then ms → Did old new) → AnswersTime word Then old written new → Did old new
  time_did word Then old new written step (inl (ms, fits, is, answers)) = step ms answers
  time_did word Then old new written step (inr (none, (is, same))) = did_nothing old new same

  with_did : (old new : PassState) (key : List ℕ) (by : Method) (kind : ReplyKind) (program : Checked) (arg : Option (List ℕ)) (written : List ℕ)
      → AnswersWith now old key by kind program arg written new → Did old new
  with_did old new key method.Compute kind program arg written a = timed_did _ old new _ _ written a
  with_did old new key method.IfAbsent kind program arg written a = timed_did _ old new _ _ written a
  with_did old new key method.IfPresent kind program arg written a = timed_did _ old new _ _ written a
  with_did old new key method.Merge kind program (Some arg) written a = timed_did _ old new _ _ written a
  with_did old new key method.Merge kind program None written (is, same) = did_nothing old new same

  fit_did : (old new : PassState) (key : List ℕ) (by : Method) (kind : ReplyKind) (program : Checked) (arg : Option (List ℕ)) (written : List ℕ)
      → AnswersIfFit now old key by kind program arg written new → Did old new
  fit_did old new key by kind program arg written (inl (fits, answers)) = with_did old new key by kind program arg written answers
  fit_did old new key by kind program arg written (inr (long, (is, same))) = did_nothing old new same

  script_did : (old new : PassState) (key : List ℕ) (by : Method) (kind : ReplyKind) (with_now : Bool) (program : Checked) (arg : Option (List ℕ)) (written : List ℕ)
      → AnswersScript now old key by kind with_now program arg written new → Did old new
  script_did old new key by kind.Bytes with_now program None written a = fit_did old new key by kind.Bytes program (with_time now with_now None) written a
  script_did old new key by kind.Integer with_now program None written a = fit_did old new key by kind.Integer program (with_time now with_now None) written a
  script_did old new key by kind.Bytes with_now program (Some word) written a = fit_did old new key by kind.Bytes program (with_time now with_now (Some word)) written a
  script_did old new key by kind.Integer with_now program (Some word) written (inl (n, fits, is, answers)) = fit_did old new key by kind.Integer program _ written answers
  script_did old new key by kind.Integer with_now program (Some word) written (inr (none, (is, same))) = did_nothing old new same

  arguments_did : (old new : PassState) (key : List ℕ) (by : Method) (kind : ReplyKind) (with_now : Bool) (program : Checked) (words : List (List ℕ)) (written : List ℕ)
      → AnswersArguments now old key by kind with_now program words written new → Did old new
  arguments_did old new key by kind with_now program [] written a = script_did old new key by kind with_now program None written a
  arguments_did old new key by kind with_now program (word ∷ []) written a = script_did old new key by kind with_now program (Some word) written a
  arguments_did old new key by kind with_now program (word ∷ other ∷ words) written (is, same) = did_nothing old new same

  lock_did : (old new : PassState) (key : List ℕ) (acts : LockAct) (words : List (List ℕ)) (written : List ℕ) → AnswersLock now old key acts words written new → Did old new
  lock_did old new key Release [] written (is, same) = did_nothing old new same
  lock_did old new key Release (a ∷ []) written answers = timed_did _ old new _ _ written answers
  lock_did old new key Release (a ∷ b ∷ words) written (is, same) = did_nothing old new same
  lock_did old new key Extend [] written (is, same) = did_nothing old new same
  lock_did old new key Extend (a ∷ []) written (is, same) = did_nothing old new same
  lock_did old new key Extend (a ∷ b ∷ []) written (is, same) = did_nothing old new same
  lock_did old new key Extend (a ∷ b ∷ c ∷ []) written answers = time_did b _ old new written (λ ms more. timed_did _ old new _ _ written more) answers
  lock_did old new key Extend (a ∷ b ∷ c ∷ d ∷ words) written (is, same) = did_nothing old new same
  lock_did old new key Reacquire [] written (is, same) = did_nothing old new same
  lock_did old new key Reacquire (a ∷ []) written (is, same) = did_nothing old new same
  lock_did old new key Reacquire (a ∷ b ∷ []) written answers = time_did b _ old new written (λ ms more. timed_did _ old new _ _ written more) answers
  lock_did old new key Reacquire (a ∷ b ∷ c ∷ words) written (is, same) = did_nothing old new same

  program_did : (old new : PassState) (asks : ProgramAsked) (written : List ℕ) → AnswersProgram now old asks written new → Did old new
  program_did old new (ProgramAsked.Load text) written (loads, same) = did_nothing old new same
  program_did old new (ProgramAsked.Exists words) written (marks, all, is) = each_did LooksFor (λ p q word mark looks. did_nothing p q looks.1) old new words marks all
  program_did old new (ProgramAsked.Call word key arguments) written (inl (digest, acts, names, on, answers)) = lock_did old new key acts arguments written answers
  program_did old new (ProgramAsked.Call word key arguments) written (inr (inl (digest, names, (by, kind, with_now, checked, is, answers)))) =
      arguments_did old new key by kind with_now checked arguments written answers
  program_did old new (ProgramAsked.Call word key arguments) written (inr (inr (none, (is, same)))) = did_nothing old new same
  program_did old new (ProgramAsked.Eval text key arguments) written (inl (acts, on, answers)) = lock_did old new key acts arguments written answers
  program_did old new (ProgramAsked.Eval text key arguments) written (inr (inl (by, kind, with_now, checked, is, answers))) =
      arguments_did old new key by kind with_now checked arguments written answers
  program_did old new (ProgramAsked.Eval text key arguments) written (inr (inr (wrong, faulty, (is, same)))) = did_nothing old new same

  -- ---- commands that call nothing

  greets_same : (talk : TalkState) (old : PassState) (name : Option (List ℕ)) (written : List ℕ) (next : TalkState) (new : PassState) → Greets talk old name written next new → new ≡ old
  greets_same talk old None written next new (is, kept, same) = same
  greets_same talk old (Some name) written next new (either, same) = same

  -- either of two, whichever it is
  either : {S X : Type 0} (f : S → Type 0) (one other : S) (b : Bool) → f (if b then one else other) → (f one → X) → (f other → X) → X
  either f one other true is first second = first is
  either f one other false is first second = second is

  hello_same : (shown : Option (List ℕ)) (talk : TalkState) (old : PassState) (name : Option (List ℕ)) (written : List ℕ) (next : TalkState) (new : PassState)
      → AnswersHello (showing talk shown) talk old name written next new → new ≡ old
  hello_same None talk old name written next new a =
      either (λ shows. AnswersHello shows talk old name written next new) _ _ (is_authenticated talk) a (λ greets. greets_same (let_in talk) old name written next new greets) (λ says. says.2)
  hello_same (Some shown) talk old name written next new a =
      either (λ shows. AnswersHello shows talk old name written next new) _ _ (is_right talk.password shown) a (λ greets. greets_same (let_in talk) old name written next new greets) (λ says. says.2)

  lets_same : (shown : List ℕ) (talk : TalkState) (old : PassState) (written : List ℕ) (next : TalkState) (new : PassState) → LetsIn (showing talk (Some shown)) talk old written next new → new ≡ old
  lets_same shown talk old written next new a =
      either (λ shows. LetsIn shows talk old written next new) _ _ (is_right talk.password shown) a (λ lets. lets.2) (λ says. says.2)

  lets_by_same : (password : Option (List ℕ)) (talk : TalkState) (old : PassState) (shown written : List ℕ) (next : TalkState) (new : PassState) → LetsInBy password talk old shown written next new → new ≡ old
  lets_by_same None talk old shown written next new (is, kept, same) = same
  lets_by_same (Some password) talk old shown written next new lets = lets_same shown talk old written next new lets

  connection_same : (talk : TalkState) (old : PassState) (asks : ConnectionAsked) (written : List ℕ) (next : TalkState) (new : PassState) → AnswersConnection talk old asks written next new → new ≡ old
  connection_same talk old (ConnectionAsked.Ping text) written next new (is, kept, same) = same
  connection_same talk old (ConnectionAsked.Echo text) written next new (is, kept, same) = same
  connection_same talk old ConnectionAsked.Quit written next new (is, over, same) = same
  connection_same talk old ConnectionAsked.Select written next new (is, kept, same) = same
  connection_same talk old (ConnectionAsked.Hello shown name) written next new a = hello_same shown talk old name written next new a
  connection_same talk old (ConnectionAsked.Auth shown) written next new a = lets_by_same talk.password talk old shown written next new a
  connection_same talk old (ConnectionAsked.AuthDefault shown) written next new a = lets_same shown talk old written next new a
  connection_same talk old ConnectionAsked.ClientId written next new (is, kept, same) = same
  connection_same talk old ConnectionAsked.ClientName written next new (is, kept, same) = same
  connection_same talk old (ConnectionAsked.SetClientName name) written next new (either, same) = same
  connection_same talk old (ConnectionAsked.SetClientInfo attribute value) written next new (is, kept, same) = same
  connection_same talk old ConnectionAsked.Commands written next new (is, kept, same) = same
  connection_same talk old ConnectionAsked.CommandCount written next new (is, kept, same) = same
  connection_same talk old ConnectionAsked.CommandDocs written next new (is, kept, same) = same
  connection_same talk old ConnectionAsked.Reset written next new (is, begun, same) = same
  connection_same talk old (ConnectionAsked.Config words) written next new (least, (is, kept, same)) = same

  server_did : (talk : TalkState) (old : PassState) (asks : ServerAsked) (written : List ℕ) (next : TalkState) (new : PassState) → AnswersServer talk old asks written next new → Did old new
  server_did talk old (ServerAsked.Info sections) written next new ((numbers, calls, counts, says), kept) = turns_did CountsStripe counts_did each old new counts.counts counts.turns
  server_did talk old ServerAsked.Save written next new (fate, (is, kept, same)) = did_nothing old new same
  server_did talk old ServerAsked.SaveLater written next new (keeps, (is, kept, same)) = did_nothing old new same
  server_did talk old ServerAsked.LastSaved written next new (seconds, (is, kept, same)) = did_nothing old new same
  server_did talk old (ServerAsked.Shutdown save) written next new (inl (is, over, same)) = did_nothing old new same
  server_did talk old (ServerAsked.Shutdown save) written next new (inr (always, (is, kept, same))) = did_nothing old new same
  server_did talk old (ServerAsked.Clients asks) written next new (answers, same) = did_nothing old new same
  server_did talk old (ServerAsked.Slowlog asks) written next new (is, kept, same) = did_nothing old new same

  -- ---- a piece

  command_did : (talk : TalkState) (old : PassState) (asks : Asked) (written : List ℕ) (next : TalkState) (new : PassState) → AnswersCommand now talk old asks written next new → Did old new
  command_did talk old (Asked.OnKey key acts) written next new (answers, kept) = key_did old new key written acts answers
  command_did talk old (Asked.OnKeys keys acts) written next new (answers, kept) = keys_did old new keys acts written answers
  command_did talk old (Asked.SetEach words) written next new (answers, kept) = set_each_did old new (pairs words) written answers
  command_did talk old (Asked.Walk asks) written next new (answers, kept) = walk_did old new asks written answers
  command_did talk old (Asked.Connection asks) written next new answers = did_nothing old new (connection_same talk old asks written next new answers)
  command_did talk old (Asked.Server asks) written next new answers = server_did talk old asks written next new answers
  command_did talk old (Asked.Program asks) written next new (answers, kept) = program_did old new asks written answers

  fault_same : (talk : TalkState) (old : PassState) (wrong : Fault) (written : List ℕ) (next : TalkState) (new : PassState) → AnswersRead now talk old (Err wrong) written next new → new ≡ old
  fault_same talk old (Fault.UnknownCommand a b) written next new (is, same, kept) = same
  fault_same talk old (Fault.UnknownSub a b) written next new (is, same, kept) = same
  fault_same talk old (Fault.WrongSub a b) written next new (is, same, kept) = same
  fault_same talk old (Fault.WrongCount a) written next new (is, same, kept) = same
  fault_same talk old (Fault.WrongSubCount a) written next new (is, same, kept) = same
  fault_same talk old Fault.Syntax written next new (is, same, kept) = same
  fault_same talk old Fault.NotAnInteger written next new (is, same, kept) = same
  fault_same talk old Fault.DecrementOverflow written next new (is, same, kept) = same
  fault_same talk old Fault.OffsetOutOfRange written next new (is, same, kept) = same
  fault_same talk old Fault.LongKey written next new (is, same, kept) = same
  fault_same talk old Fault.LongValue written next new (is, same, kept) = same
  fault_same talk old (Fault.BadExpire a) written next new (is, same, kept) = same
  fault_same talk old (Fault.ExpireOption a) written next new (is, same, kept) = same
  fault_same talk old Fault.NxWithOthers written next new (is, same, kept) = same
  fault_same talk old Fault.GtWithLt written next new (is, same, kept) = same
  fault_same talk old Fault.BadCursor written next new (is, same, kept) = same
  fault_same talk old Fault.BadIndex written next new (is, same, kept) = same
  fault_same talk old Fault.WideIndex written next new (is, same, kept) = same
  fault_same talk old Fault.BadVersion written next new (is, same, kept) = same
  fault_same talk old Fault.NoProtocol written next new (is, same, kept) = same
  fault_same talk old (Fault.HelloOption a) written next new (is, same, kept) = same
  fault_same talk old Fault.BadClientName written next new (is, same, kept) = same
  fault_same talk old Fault.LongClientName written next new (is, same, kept) = same
  fault_same talk old Fault.WrongPassword written next new (is, same, kept) = same
  fault_same talk old Fault.NotAuthenticated written next new (is, same, kept) = same
  fault_same talk old Fault.NegativeKeys written next new (is, same, kept) = same
  fault_same talk old Fault.TooManyKeys written next new (is, same, kept) = same
  fault_same talk old Fault.ScriptShape written next new (is, same, kept) = same
  fault_same talk old Fault.NoScript written next new (is, same, kept) = same
  fault_same talk old Fault.NoDebug written next new (is, same, kept) = same
  fault_same talk old (Fault.ClientType a) written next new (is, same, kept) = same
  fault_same talk old (Fault.NoUser a) written next new (is, same, kept) = same
  fault_same talk old Fault.ClientNumber written next new (is, same, kept) = same
  fault_same talk old Fault.ListedNumber written next new (is, same, kept) = same
  fault_same talk old Fault.SlowlogCount written next new (is, same, kept) = same
  fault_same talk old Fault.WebRequest written next new (is, over, same) = same

  words_did : (talk : TalkState) (old : PassState) (read : Result Asked Fault) (written : List ℕ) (next : TalkState) (new : PassState) → AnswersRead now talk old read written next new → Did old new
  words_did talk old (Ok asks) written next new answers = command_did talk old asks written next new answers
  words_did talk old (Err wrong) written next new answers = did_nothing old new (fault_same talk old wrong written next new answers)

  unless_did : (refused : Bool) (talk : TalkState) (old : PassState) (read : Result Asked Fault) (written : List ℕ) (next : TalkState) (new : PassState) → AnswersUnless now refused talk old read written next new → Did old new
  unless_did true talk old read written next new (is, same, kept) = did_nothing old new same
  unless_did false talk old read written next new answers = words_did talk old read written next new answers.0

  module _ (refuses : Bool) where
    said_did : (talk : TalkState) (old : PassState) (said : Said) (next : TalkState) (new : PassState) → AnswersSaid now refuses talk old said next new → Did old new
    said_did talk old said next new (inl (ignored, is, kept, same)) = did_nothing old new same
    said_did talk old said next new (inr (words, spells, answers)) =
        let read = read_of now (is_authenticated talk) words in unless_did (refuses && changes read) talk old read said.written next new answers

    all_did : (talk : TalkState) (old : PassState) (said : List Said) (next : TalkState) (new : PassState) → talks.AnswersEach now refuses talk old said next new → Did old new
    all_did talk old [] next new (kept, same) = did_nothing old new same
    all_did talk old (one ∷ said) next new (mid, between, over, answers, more) =
        did_then old between new (said_did talk old one mid between answers) (all_did mid between said next new more)

    next_did : (talk : TalkState) (old : PassState) (rest whole : List ℕ) (next : TalkState) (new : PassState) → AnswersNext now refuses talk old rest whole next new → Did old new
    next_did talk old rest whole next new (inl (said, behind, mid, left, is, answers, over)) = said_did talk old said mid new answers
    next_did talk old rest whole next new (inr (ending, ends, same)) = did_nothing old new same

    -- the commands of a piece
    pub piece_did : (talk : TalkState) (old : PassState) (piece written : List ℕ) (next : TalkState) (new : PassState) → talks.AnswersPiece now refuses talk old piece written next new → Did old new
    piece_did talk old piece written next new a = all_did _ old a.some.said a.last new a.some.each

    -- those of a piece whose answers break off
    pub part_did : (talk : TalkState) (old : PassState) (piece written : List ℕ) (next : TalkState) (new : PassState) → talks.BreaksPiece now refuses talk old piece written next new → Did old new
    part_did talk old piece written next new b = did_then old b.between new (all_did _ old b.some.said b.last b.between b.some.each) (next_did b.last b.between b.rest b.whole next new b.answers)

  -- ---- a sweep

  sweep_stripe_did : (p q : PassState) (k : ℕ) (last : Expiry) → SweepsStripe now p k last q → Did p q
  sweep_stripe_did p q k last s = looks_did p q k s.often last s.looks

  pub sweep_did : (old new : PassState) → Sweeps now old new → Did old new
  sweep_did old new (last, all) = turns_did (SweepsStripe now) sweep_stripe_did each old new last all.turns

  pub sweep_map : (old new : PassState) → Sweeps now old new → new.map ≡ old.map
  sweep_map old new (last, all) = turns_map (SweepsStripe now) each old new last all.turns
