-- Changes that are made one after the other.
use Rattle.std.proofs.Common.{◌≡◌, ◌≢◌, ◌∙◌, ◌+◌, ◌<◌, ◌==◌, ℕ, suc, Result, Ok, Err, OnOk, Bool, true, false, IsTrue, List, [], ◌∷◌, ◌++◌, filter, length, take, get_or, All, None, refl, sym, ap, subst, inl, inr, arith, add-one}
use Rattle.std.proofs.lemmas.List.{append-nil, append_assoc, map-append, take_more}
use Rattle.std.proofs.lemmas.List.Elements.{All-nil, All-cons, All-append, filter-append}
use Rattle.std.proofs.lemmas.Bool.{cases_Bool}
use Rattle.std.proofs.lemmas.Bool.Decides.{nat_tests}
use Rattle.atomic_methods.specs.Hashes.{stripe_of}
use Rattle.bins.specs.Table.{Table}
use Rattle.bin_stripes.specs.Invoked.{CountsStripe}
use Rattle.bin_stripes.specs.Passes.{PassState, stripes_of}
use Rattle.timed_bins.specs.declared.timing.DeadlineChange.{DeadlineChange}
use Rattle.timed_bins.specs.declared.timing.DeadlineChange.TheVariants.{Clear}
use Rattle.atomic_methods.specs.Invocations.{on_key, put, remove}
use Rattle.kept_file.specs.declared.changes.KeptChange.{KeptChange}
use Rattle.kept_file.specs.Changes.{Change, Entry, IsWithin, Spells, change_bytes, changes_bytes, change_of, entry_of}
use Rattle.kept_file.specs.Content.{ChangesOf, HasTables, Joins, batches_of, is_of}
use Rattle.kept_file.specs.Rows.{batch_row, kept_number, number}
use Rattle.kept_file.specs.declared.rows.KeptProgram.{KeptProgram}
use Rattle.program_registry.specs.declared.registry.ProgramToken.{ProgramToken}
use Rattle.program_registry.specs.declared.registry.Registry.{Registry}
use Rattle.sqlite.specs.Held.{Held, state}
use Rattle.sqlite.specs.Order.{Row, column}
use Rattle.sqlite.specs.State.{State, HasCleanDisk, IsUnchanged, Survives}
use Rattle.sqlite.specs.Store.{Ghosts}
use Rattle.sqlite.specs.declared.types.Value.TheVariants.{Blob}
use Rattle.kept_file.specs.Reading.{HandedOut, HandsOut, RisesTo}
use Rattle.kept_file.proofs.ChangeLemmas.{changes_bytes-more, spells_all}
use Rattle.kept_file.proofs.LogLemmas.{joins_once, of_another, of_itself}
use Rattle.kept_file.proofs.OtherLemmas.{are_batches}
use Rattle.kept_file.proofs.ReadLemmas.{batches_before, clean_before, programs_before, rises_more, rises_none, scripts_before}
use Rattle.map_keeper.specs.Stripes.{HasStripe, StripeChange, changes_in, of_stripe, table_of, with_stripe}
use Rattle.map_keeper.specs.Restores.{AreInPlace, AreRestored, AreSpelled, CallsOnce, CountsBelow, IsLeft, CountsScripts, IsRestored, Replays, ReplaysAll, ReplaysBatch, ReplaysFile, RestoresEntries, RestoresPrograms, call_of, left_at, timing_of}

-- ---- changes

-- a Put of what the change has left, or a Remove if that is nothing
pub replays_put : (now : ℕ) (change : KeptChange) (deadline : DeadlineChange) (old new : PassState) → IsLeft change.mark now change.value deadline
    → CallsOnce (record { now = now; change = deadline }) (on_key change.key (put change.value)) old new → Replays now (change_of change) old new
replays_put now change deadline old new is calls =
    subst (λ (e : Entry). CallsOnce (timing_of now e) (call_of change.key e) old new) (sym is.1)
    (subst (λ (d : DeadlineChange). CallsOnce (record { now = now; change = d }) (on_key change.key (put change.value)) old new) is.2 calls)

pub replays_remove : (now : ℕ) (change : KeptChange) (old new : PassState) → left_at now (entry_of change.mark change.value) ≡ None
    → CallsOnce (record { now = now; change = Clear }) (on_key change.key remove) old new → Replays now (change_of change) old new
replays_remove now change old new none calls = subst (λ (e : Entry). CallsOnce (timing_of now e) (call_of change.key e) old new) (sym none) calls

replays_none : (now : ℕ) (pass : PassState) → ReplaysAll now [] pass pass
unfolding ReplaysAll
replays_none now pass = refl

replays_then : (now : ℕ) (xs ys : List Change) (old mid new : PassState) → ReplaysAll now xs old mid → ReplaysAll now ys mid new → ReplaysAll now (xs ++ ys) old new
unfolding ReplaysAll
replays_then now [] ys old mid new same more = subst (λ (p : PassState). ReplaysAll now ys p new) same more
replays_then now (x ∷ xs) ys old mid new all more = (all.0, all.1, replays_then now xs ys all.0 mid new all.2 more)

replays_one : (now : ℕ) (change : Change) (old new : PassState) → Replays now change old new → ReplaysAll now (change ∷ []) old new
unfolding ReplaysAll
replays_one now change old new replays = (new, replays, refl)

stripe_more : (stripe : ℕ) (xs ys : List Change) → with_stripe stripe (xs ++ ys) ≡ with_stripe stripe xs ++ with_stripe stripe ys
stripe_more stripe xs ys = map-append (λ (change : Change). (stripe, change)) xs ys

-- the changes so far of a batch whose stripe and bytes these are, of which these bytes are left
pub record BatchSoFar (is_as_wide : Bool) (now stripe : ℕ) (bytes rest : List ℕ) (old new : PassState) : Type 0 where
  pub changes : List Change
  pub within : All IsWithin changes
  pub are : bytes ≡ changes_bytes changes ++ rest
  pub in_place : IsTrue is_as_wide → AreInPlace (stripes_of old.map) (with_stripe stripe changes)
  pub replayed : ReplaysAll now changes old new

pub batch_none : (is_as_wide : Bool) (now stripe : ℕ) (bytes : List ℕ) (pass : PassState) → BatchSoFar is_as_wide now stripe bytes bytes pass pass
batch_none is_as_wide now stripe bytes pass = record {
  changes = [];
  within = All-nil IsWithin;
  are = refl;
  in_place = λ wide. All-nil _;
  replayed = replays_none now pass;
}

-- one change more
pub batch_more : (is_as_wide : Bool) (now stripe : ℕ) (bytes rest left : List ℕ) (change : Change) (old pass new : PassState) → BatchSoFar is_as_wide now stripe bytes rest old pass
    → IsWithin change → rest ≡ change_bytes change ++ left → (IsTrue is_as_wide → stripe ≡ stripe_of (stripes_of old.map) change.0) → Replays now change pass new
    → BatchSoFar is_as_wide now stripe bytes left old new
batch_more is_as_wide now stripe bytes rest left change old pass new before within is placed replays =
    let place : StripeChange → Type 0 = λ it. it.0 ≡ stripe_of (stripes_of old.map) it.1.0 in
    record {
      changes = before.changes ++ change ∷ [];
      within = All-append IsWithin before.changes (change ∷ []) before.within (All-cons IsWithin change [] within (All-nil IsWithin));
      are = before.are ∙ (ap (λ (l : List ℕ). changes_bytes before.changes ++ l) is
          ∙ (sym (append_assoc (changes_bytes before.changes) (change_bytes change) left) ∙ ap (λ (l : List ℕ). l ++ left) (sym (changes_bytes-more before.changes change))));
      in_place = λ wide. subst (All place) (sym (stripe_more stripe before.changes (change ∷ [])))
          (All-append place (with_stripe stripe before.changes) ((stripe, change) ∷ []) (before.in_place wide) (All-cons place (stripe, change) [] (placed wide) (All-nil place)));
      replayed = replays_then now before.changes (change ∷ []) old pass new before.replayed (replays_one now change pass new replays);
    }

-- no bytes are left
pub batch_all : (is_as_wide : Bool) (now stripe : ℕ) (bytes rest : List ℕ) (old new : PassState) → BatchSoFar is_as_wide now stripe bytes rest old new → rest ≡ []
    → ReplaysBatch is_as_wide now stripe bytes old new
batch_all is_as_wide now stripe bytes rest old new all none = record {
  changes = all.changes;
  spelled = subst (λ (l : List ℕ). Spells l all.changes)
      (sym (all.are ∙ (ap (λ (l : List ℕ). changes_bytes all.changes ++ l) none ∙ append-nil (changes_bytes all.changes)))) (spells_all all.changes all.within);
  in_place = all.in_place;
  replayed = all.replayed;
}

-- ---- batches

spelled_none : AreSpelled [] []
unfolding AreSpelled
spelled_none = refl

spelled_more : (batches : List Row) (batch : Row) (stripe : ℕ) (bytes : List ℕ) (all : List StripeChange) (more : List Change) → AreSpelled batches all
    → column batch 1 ≡ number stripe → column batch 2 ≡ Blob bytes → Spells bytes more → AreSpelled (batches ++ batch ∷ []) (all ++ with_stripe stripe more)
unfolding AreSpelled
spelled_more [] batch stripe bytes all more none of has spells =
    (stripe, bytes, more, [], of, has, spells, ap (λ (l : List StripeChange). l ++ with_stripe stripe more) none ∙ sym (append-nil (with_stripe stripe more)), refl)
spelled_more (first ∷ batches) batch stripe bytes all more before of has spells = (
  before.0,
  before.1,
  before.2,
  before.3 ++ with_stripe stripe more,
  before.4,
  before.5,
  before.6,
  ap (λ (l : List StripeChange). l ++ with_stripe stripe more) before.7 ∙ append_assoc (with_stripe before.0 before.2) before.3 (with_stripe stripe more),
  spelled_more batches batch stripe bytes before.3 more before.8 of has spells,
)

changes_of_batch : (stripe : ℕ) (changes : List Change) → changes_in (with_stripe stripe changes) ≡ changes
changes_of_batch stripe [] = refl
changes_of_batch stripe (x ∷ xs) = ap (λ (l : List Change). x ∷ l) (changes_of_batch stripe xs)

-- a batch's changes are all of its stripe
all_of : (k stripe : ℕ) (changes : List Change) → (stripe == kept_number k) ≡ true → of_stripe k (with_stripe stripe changes) ≡ changes
all_of k stripe [] same = refl
all_of k stripe (x ∷ xs) same = rw same (ap (λ (l : List Change). x ∷ l) (all_of k stripe xs same))

none_of : (k stripe : ℕ) (changes : List Change) → (stripe == kept_number k) ≡ false → of_stripe k (with_stripe stripe changes) ≡ []
none_of k stripe [] apart = refl
none_of k stripe (x ∷ xs) apart = rw apart (none_of k stripe xs apart)

of_both : (k : ℕ) (xs ys : List StripeChange) → of_stripe k (xs ++ ys) ≡ of_stripe k xs ++ of_stripe k ys
of_both k xs ys =
    ap changes_in (filter-append (λ (it : StripeChange). it.0 == kept_number k) xs ys)
    ∙ map-append (λ (it : StripeChange). it.1) (filter (λ (it : StripeChange). it.0 == kept_number k) xs) (filter (λ (it : StripeChange). it.0 == kept_number k) ys)

-- what all batches spell of one stripe
of_spelled : (k : ℕ) (batches : List Row) (all : List StripeChange) → AreSpelled batches all → ChangesOf (kept_number k) batches (of_stripe k all)
unfolding AreSpelled Joins
of_spelled k [] all none = ap (of_stripe k) none
of_spelled k (batch ∷ batches) all spelled = elim (cases_Bool (spelled.0 == kept_number k)) [
  | inl same ↦
      let stripe : spelled.0 ≡ kept_number k = grind (arith, nat_tests) in
      let here : is_of (kept_number k) batch ≡ true = of_itself (kept_number k) batch (spelled.4 ∙ ap number stripe) in
      let split : of_stripe k all ≡ spelled.2 ++ of_stripe k spelled.3 =
      ap (of_stripe k) spelled.7 ∙ (of_both k (with_stripe spelled.0 spelled.2) spelled.3 ∙ ap (λ (l : List Change). l ++ of_stripe k spelled.3) (all_of k spelled.0 spelled.2 same)) in
      rw here (spelled.1, spelled.2, of_stripe k spelled.3, spelled.5, spelled.6, split, of_spelled k batches spelled.3 spelled.8)
  | inr apart ↦
      let other : kept_number k ≢ spelled.0 = λ e. let same : (spelled.0 == kept_number k) ≡ true = grind (arith, nat_tests) in let no = sym same ∙ apart in cc in
      let elsewhere : is_of (kept_number k) batch ≡ false = of_another spelled.0 (kept_number k) batch other spelled.4 in
      let split : of_stripe k all ≡ of_stripe k spelled.3 =
      ap (of_stripe k) spelled.7 ∙ (of_both k (with_stripe spelled.0 spelled.2) spelled.3 ∙ ap (λ (l : List Change). l ++ of_stripe k spelled.3) (none_of k spelled.0 spelled.2 apart)) in
      rw (elsewhere, split) (of_spelled k batches spelled.3 spelled.8)
]

-- ---- the map after that

-- what was made of each stripe is what the file has of it
stripes_replayed : (file : State) (wide : Bool) (now : ℕ) (old new : PassState) (all : ReplaysFile file wide now old new) → HasTables file
    → (k : ℕ) (table : Table) → HasStripe file k table → table ≡ table_of (of_stripe k all.changes)
stripes_replayed file wide now old new all tables k table stripe =
    let are : all.batches ≡ batches_of file = are_batches file all.batches all.last tables all.are all.rise in
    let made : ChangesOf (kept_number k) (batches_of file) (of_stripe k all.changes) =
    subst (λ (l : List Row). ChangesOf (kept_number k) l (of_stripe k all.changes)) are (of_spelled k all.batches all.changes all.spelled) in
    stripe.come_to ∙ ap table_of (joins_once (filter (is_of (kept_number k)) (batches_of file)) stripe.changes (of_stripe k all.changes) stripe.are made)

-- then the map was counted
pub restores_all : (file : State) (wide : Bool) (now : ℕ) (old mid new : PassState) (count : ℕ) → ReplaysFile file wide now old mid → CountsBelow (stripes_of old.map) mid new count
    → RestoresEntries file wide now old new count
restores_all file wide now old mid new count all counted =
    record { mid = mid; replayed = all; counted = counted; stripes = stripes_replayed file wide now old mid all }

-- no stripe is counted yet
pub counts_none : (pass : PassState) → CountsBelow 0 pass pass 0
unfolding CountsBelow
counts_none pass = (refl, refl)

counts_suc : (n : ℕ) (old mid new : PassState) (below here : ℕ) → CountsBelow n old mid below → CountsStripe mid n here new → CountsBelow (suc n) old new (below + here)
unfolding CountsBelow
counts_suc n old mid new below here before counts = (mid, below, here, before, counts, refl)

-- one more
pub counts_more : (n : ℕ) (old mid new : PassState) (below here : ℕ) → CountsBelow n old mid below → CountsStripe mid n here new → CountsBelow (n + 1) old new (below + here)
counts_more n old mid new below here before counts =
    subst (λ (m : ℕ). CountsBelow m old new (below + here)) (sym (add-one n)) (counts_suc n old mid new below here before counts)

-- one program more
pub restored_more : (registry : Registry) (programs : List KeptProgram) (tokens : List ProgramToken) (program : KeptProgram) (token : ProgramToken)
    → AreRestored registry programs tokens → IsRestored registry program token → AreRestored registry (programs ++ program ∷ []) (tokens ++ token ∷ [])
restored_more registry [] [] program token all one = (one, tt)
restored_more registry (p ∷ programs) (t ∷ tokens) program token all one = (all.0, restored_more registry programs tokens program token all.1 one)
restored_more registry [] (t ∷ tokens) program token all one = absurd all
restored_more registry (p ∷ programs) [] program token all one = absurd all

-- .. of a list that is gone through
pub restored_at : (registry : Registry) (programs : List KeptProgram) (i : ℕ) (tokens : List ProgramToken) (program : KeptProgram) (token : ProgramToken)
    → i < length programs → AreRestored registry (take i programs) tokens → program ≡ get_or programs i program → IsRestored registry program token
    → AreRestored registry (take (i + 1) programs) (tokens ++ token ∷ [])
restored_at registry programs i tokens program token low before is one =
    let all : AreRestored registry (take i programs ++ program ∷ []) (tokens ++ token ∷ []) = restored_more registry (take i programs) tokens program token before one in
    subst (λ (l : List KeptProgram). AreRestored registry l (tokens ++ token ∷ []))
    (ap (λ (p : KeptProgram). take i programs ++ p ∷ []) is ∙ sym (take_more programs i program low)) all

-- what was restored of a file was restored of it as it was before, if nothing has changed
module _ (start file : State) (same : IsUnchanged start file) where
  pub programs_restored : (registry : Registry) (tokens : List ProgramToken) → RestoresPrograms file registry tokens → RestoresPrograms start registry tokens
  programs_restored registry tokens all =
      record { programs = all.programs; are = programs_before start file same all.programs all.are; restored = all.restored }

  pub scripts_counted : (count : ℕ) → CountsScripts file count → CountsScripts start count
  scripts_counted count all = record { texts = all.texts; are = scripts_before start file same all.texts all.are; counted = all.counted }

  file_replayed : (is_as_wide : Bool) (now : ℕ) (old new : PassState) → ReplaysFile file is_as_wide now old new → ReplaysFile start is_as_wide now old new
  file_replayed is_as_wide now old new all = record {
    batches = all.batches;
    last = all.last;
    are = batches_before start file same all.batches all.are;
    rise = all.rise;
    changes = all.changes;
    spelled = all.spelled;
    in_place = all.in_place;
    replayed = all.replayed;
  }

  pub entries_restored : (is_as_wide : Bool) (now : ℕ) (old new : PassState) (count : ℕ) → RestoresEntries file is_as_wide now old new count
      → RestoresEntries start is_as_wide now old new count
  entries_restored is_as_wide now old new count all =
      restores_all start is_as_wide now old all.mid new count (file_replayed is_as_wide now old all.mid all.replayed) all.counted

module _ {S : Type 0} (g : Ghosts S) where
  -- a reading that went from the first to the last of these has handed out batches, up to the number `at`, and the pass made their changes
  pub record FileSoFar (is_as_wide : Bool) (now at : ℕ) (first last : Held S) (old new : PassState) : Type 0 where
    pub batches : List Row
    pub rise : RisesTo batches at
    pub changes : List StripeChange
    pub spelled : AreSpelled batches changes
    pub in_place : IsTrue is_as_wide → AreInPlace (stripes_of old.map) changes
    pub replayed : ReplaysAll now (changes_in changes) old new
    pub handed : HasCleanDisk (state g last) → (start : Held S) → HandedOut g start first [] → HandedOut g start last batches

  pub file_none : (is_as_wide : Bool) (now : ℕ) (first : Held S) (old : PassState) → FileSoFar is_as_wide now 0 first first old old
  file_none is_as_wide now first old = record {
    batches = [];
    rise = rises_none;
    changes = [];
    spelled = spelled_none;
    in_place = λ wide. All-nil _;
    replayed = replays_none now old;
    handed = λ clean start handed. handed;
  }

  -- one batch more
  pub file_more : (is_as_wide : Bool) (now before at stripe : ℕ) (bytes : List ℕ) (first mid last : Held S) (old pass new : PassState)
      → FileSoFar is_as_wide now before first mid old pass → before < at → Survives (state g mid) (state g last) (λ _. ⊥)
      → (HasCleanDisk (state g last) → HandsOut g mid last true (batch_row at stripe bytes)) → stripes_of pass.map ≡ stripes_of old.map → ReplaysBatch is_as_wide now stripe bytes pass new
      → FileSoFar is_as_wide now at first last old new
  file_more is_as_wide now before at stripe bytes first mid last old pass new all low survives hands same batch =
      let row = batch_row at stripe bytes in
      let place : StripeChange → Type 0 = λ it. it.0 ≡ stripe_of (stripes_of old.map) it.1.0 in
      let split : changes_in (all.changes ++ with_stripe stripe batch.changes) ≡ changes_in all.changes ++ batch.changes =
      map-append (λ (it : StripeChange). it.1) all.changes (with_stripe stripe batch.changes) ∙ ap (λ (l : List Change). changes_in all.changes ++ l) (changes_of_batch stripe batch.changes) in
      record {
        batches = all.batches ++ row ∷ [];
        rise = rises_more all.batches before at stripe bytes all.rise low;
        changes = all.changes ++ with_stripe stripe batch.changes;
        spelled = spelled_more all.batches row stripe bytes all.changes batch.changes all.spelled refl refl batch.spelled;
        in_place = λ wide. All-append place all.changes (with_stripe stripe batch.changes) (all.in_place wide) (subst (λ (n : ℕ). AreInPlace n (with_stripe stripe batch.changes)) same (batch.in_place wide));
        replayed = subst (λ (l : List Change). ReplaysAll now l old new) (sym split)
            (replays_then now (changes_in all.changes) batch.changes old pass new all.replayed batch.replayed);
        handed = λ clean start handed. hands clean start all.batches (all.handed (clean_before (state g mid) (state g last) _ survives clean) start handed);
      }

  -- then the file has just these
  pub file_all : (is_as_wide : Bool) (now at : ℕ) (first mid last : Held S) (old new : PassState) (row : Row)
      → FileSoFar is_as_wide now at first mid old new → Survives (state g mid) (state g last) (λ _. ⊥) → HasCleanDisk (state g last)
      → HandsOut g mid last false row → (start : Held S) → HandedOut g start first []
      → ReplaysFile (state g start) is_as_wide now old new × IsUnchanged (state g start) (state g last)
  file_all is_as_wide now at first mid last old new row all survives clean hands start handed =
      let ends = hands start all.batches (all.handed (clean_before (state g mid) (state g last) _ survives clean) start handed) in (
        record {
          batches = all.batches;
          last = at;
          are = ends.0;
          rise = all.rise;
          changes = all.changes;
          spelled = all.spelled;
          in_place = all.in_place;
          replayed = all.replayed;
        },
        ends.1,
      )

  -- a reading from the start on that returned
  pub replayed_by : {A E : Type 0} (is_as_wide : Bool) (now : ℕ) (start first last : Held S) (old new : PassState) (r : Result A E)
      → HasCleanDisk (state g last) → Survives (state g first) (state g last) (λ _. ⊥) → (HasCleanDisk (state g first) → HandedOut g start first [])
      → OnOk r ((s : Held S) → HandedOut g s first [] → ReplaysFile (state g s) is_as_wide now old new × IsUnchanged (state g s) (state g last))
      → OnOk r (ReplaysFile (state g start) is_as_wide now old new) × OnOk r (IsUnchanged (state g start) (state g last))
  replayed_by is_as_wide now start first last old new (Ok x) clean survives begun all = all start (begun (clean_before (state g first) (state g last) _ survives clean))
  replayed_by is_as_wide now start first last old new (Err e) clean survives begun all = (tt, tt)
