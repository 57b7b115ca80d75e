-- Transactions of a save, one after the other.
use Rattle.std.proofs.Common.{◌≡◌, ◌⊎◌, ℕ, zero, suc, ◌<◌, ◌≤◌, Bool, true, false, IsTrue, ◌∙◌, refl, sym, subst, inl, inr, arith}
use Rattle.sqlite.specs.Held.{Held, state}
use Rattle.sqlite.specs.Store as store
use Rattle.sqlite.specs.Tree.{Trees}
use Rattle.sqlite.specs.State.{State, HasCleanDisk, Survives}
use Rattle.sqlite.proofs.Callers.{survives_begin}
use Rattle.sqlite.proofs.StateLemmas.{survives_then, survives_weaker}
use Rattle.stripe_rule.specs.declared.view.View.{View}
use Rattle.stripe_rule.specs.Gains.{Keeps}
use Rattle.bin_stripes.specs.declared.ghost_action.GhostAction.{GhostAction}
use Rattle.bin_stripes.specs.Passes.{PassState, ServesSameMap}
use Rattle.map_keeper.proofs.SaveLemmas.{lower_or_not, whole_in_kept, whole_kept}
use Rattle.map_keeper.proofs.WriteLemmas.{between_after, between_kept, clean_before, since_after, since_kept, survives_same}
use Rattle.map_keeper.specs.Parts.{IsFurther, WouldStop, end_of}
use Rattle.map_keeper.specs.Saves.{IsWhole}
use Rattle.map_keeper.specs.Written.{IsSavedSince, SavesMap, SavesPart, SavesParts, WouldCommit, WouldSave, WritesPart, begun}
use Rattle.map_keeper.specs.declared.taker.Reached.{Reached}
use Rattle.map_keeper.specs.declared.taker.Reached.TheVariants.{Stripe, End}

-- the pass learned nothing of the stripes from n on
abbrev pub IsFresh : View GhostAction → View GhostAction → ℕ → Type 0
IsFresh v u n = (j : ℕ) → n ≤ j → Keeps v u j

-- .. and nothing of those below n
abbrev pub IsKept : View GhostAction → View GhostAction → ℕ → Type 0
IsKept u w n = (j : ℕ) → j < n → Keeps u w j

-- the stripes below n are whole, and then those up to m
pub whole_more : (old new : PassState) (n m : ℕ) → ServesSameMap old new → IsKept old.view new.view n → ((j : ℕ) → j < n → IsWhole old j)
    → ((j : ℕ) → n ≤ j → j < m → IsWhole new j) → (j : ℕ) → j < m → IsWhole new j
whole_more old new n m same kept before here j low = elim (lower_or_not j n) [
  | inl less ↦ whole_kept old new j same (kept j less) (before j less)
  | inr up ↦ here j up low
]

-- .. and saved
pub since_then : (anew : Bool) (v u w : View GhostAction) (n m : ℕ) → IsFresh v u n → IsKept u w n → ((j : ℕ) → j < n → IsSavedSince anew v u j)
    → ((j : ℕ) → n ≤ j → j < m → IsSavedSince anew u w j) → (j : ℕ) → j < m → IsSavedSince anew v w j
since_then anew v u w n m fresh kept before here j low = elim (lower_or_not j n) [
  | inl less ↦ since_kept anew v u w j (before j less) (kept j less)
  | inr up ↦ since_after anew v u w j (fresh j up) (here j up low)
]

module _ {S : Type 0} (shown : Held S → State) where
  -- transactions saved the stripes below n
  pub record SavesBelow (anew : Bool) (v w : View GhostAction) (stripes n : ℕ) (from to : Held S) : Type 0 where
    pub parts : ℕ
    pub saved : SavesParts shown anew v w stripes parts n from to

  -- what a crash finds after them: what one of them left
  pub record LeavesBelow (anew : Bool) (v w : View GhostAction) (stripes n : ℕ) (from : Held S) (trees : Trees) : Type 0 where
    pub earlier : ℕ
    pub start : ℕ
    pub mid : Held S
    pub saved : SavesParts shown anew v w stripes earlier start from mid
    pub end : ℕ
    pub within : end ≤ n
    pub next : WouldCommit shown anew v w stripes start end mid trees

  pub below_none : (anew : Bool) (v : View GhostAction) (stripes : ℕ) (a : Held S) → SavesBelow anew v v stripes 0 a a
  unfolding SavesParts
  below_none anew v stripes a = record { parts = 0; saved = (refl, refl) }

  writes_kept : (anew : Bool) (v u w : View GhostAction) (stripes start end : ℕ) (a b : Held S) → IsKept u w end → WritesPart shown anew v u stripes start end a b
      → WritesPart shown anew v w stripes start end a b
  writes_kept anew v u w stripes start end a b kept writes = record {
    mid = writes.mid;
    saved = between_kept shown anew v u w start end a writes.mid kept writes.saved;
    whole = λ k up low. whole_in_kept stripes u w k (kept k low) (writes.whole k up low);
    rest = writes.rest;
  }

  writes_after : (anew : Bool) (v u w : View GhostAction) (stripes start end : ℕ) (a b : Held S) → IsFresh v u start → WritesPart shown anew u w stripes start end a b
      → WritesPart shown anew v w stripes start end a b
  writes_after anew v u w stripes start end a b fresh writes =
      record { mid = writes.mid; saved = between_after shown anew v u w start end a writes.mid fresh writes.saved; whole = writes.whole; rest = writes.rest }

  commit_kept : (anew : Bool) (v u w : View GhostAction) (stripes start end : ℕ) (a : Held S) (trees : Trees) → IsKept u w end → WouldCommit shown anew v u stripes start end a trees
      → WouldCommit shown anew v w stripes start end a trees
  commit_kept anew v u w stripes start end a trees kept would =
      record { last = would.last; wrote = writes_kept anew v u w stripes start end (begun a) would.last kept would.wrote; are = would.are }

  commit_after : (anew : Bool) (v u w : View GhostAction) (stripes start end : ℕ) (a : Held S) (trees : Trees) → IsFresh v u start → WouldCommit shown anew u w stripes start end a trees
      → WouldCommit shown anew v w stripes start end a trees
  commit_after anew v u w stripes start end a trees fresh would =
      record { last = would.last; wrote = writes_after anew v u w stripes start end (begun a) would.last fresh would.wrote; are = would.are }

  parts_kept : (anew : Bool) (v u w : View GhostAction) (stripes parts end : ℕ) (a b : Held S) → IsKept u w end → SavesParts shown anew v u stripes parts end a b
      → SavesParts shown anew v w stripes parts end a b
  unfolding SavesParts
  parts_kept anew v u w stripes zero end a b kept saves = saves
  parts_kept anew v u w stripes (suc parts) end a b kept saves =
      let part = saves.3 in (
        saves.0,
        saves.1,
        parts_kept anew v u w stripes parts saves.1 a saves.0 (λ j low. kept j (omega (arith, low, part.wrote.saved.are))) saves.2,
        record { last = part.last; wrote = writes_kept anew v u w stripes saves.1 end (begun saves.0) part.last kept part.wrote; committed = part.committed },
      )

  parts_suc : (anew : Bool) (v w : View GhostAction) (stripes parts start end : ℕ) (a b c : Held S) → SavesParts shown anew v w stripes parts start a b
      → SavesPart shown anew v w stripes start end b c → SavesParts shown anew v w stripes (suc parts) end a c
  unfolding SavesParts
  parts_suc anew v w stripes parts start end a b c before part = (b, start, before, part)

  -- one part more
  parts_more : (anew : Bool) (v u w : View GhostAction) (stripes n end : ℕ) (a b c : Held S) → IsFresh v u n → IsKept u w n → (before : SavesBelow anew v u stripes n a b)
      → SavesPart shown anew u w stripes n end b c → SavesParts shown anew v w stripes (suc before.parts) end a c
  parts_more anew v u w stripes n end a b c fresh kept before part =
      parts_suc anew v w stripes before.parts n end a b c (parts_kept anew v u w stripes before.parts n a b kept before.saved)
      (record { last = part.last; wrote = writes_after anew v u w stripes n end (begun b) part.last fresh part.wrote; committed = part.committed })

  pub below_more : (anew : Bool) (v u w : View GhostAction) (stripes n end : ℕ) (a b c : Held S) → IsFresh v u n → IsKept u w n → SavesBelow anew v u stripes n a b
      → SavesPart shown anew u w stripes n end b c → SavesBelow anew v w stripes end a c
  below_more anew v u w stripes n end a b c fresh kept before part =
      record { parts = suc before.parts; saved = parts_more anew v u w stripes n end a b c fresh kept before part }

  -- .. and that to the end
  pub map_saved : (anew : Bool) (v u w : View GhostAction) (stripes n : ℕ) (a b c : Held S) → IsFresh v u n → IsKept u w n → SavesBelow anew v u stripes n a b
      → SavesPart shown anew u w stripes n stripes b c → SavesMap shown anew v w stripes a c
  map_saved anew v u w stripes n a b c fresh kept before part = (before.parts, parts_more anew v u w stripes n stripes a b c fresh kept before part)

  -- what one of the parts left is left still if the pass learns of later stripes
  leaves_kept : (anew : Bool) (v u w : View GhostAction) (stripes n m : ℕ) (a : Held S) (trees : Trees) → IsKept u w n → n ≤ m → LeavesBelow anew v u stripes n a trees
      → LeavesBelow anew v w stripes m a trees
  leaves_kept anew v u w stripes n m a trees kept more leaves = record {
    earlier = leaves.earlier;
    start = leaves.start;
    mid = leaves.mid;
    saved = parts_kept anew v u w stripes leaves.earlier leaves.start a leaves.mid (λ j low. kept j (omega (arith, low, leaves.within, leaves.next.wrote.saved.are))) leaves.saved;
    end = leaves.end;
    within = omega (arith, leaves.within, more);
    next = commit_kept anew v u w stripes leaves.start leaves.end leaves.mid trees (λ j low. kept j (omega (arith, low, leaves.within))) leaves.next;
  }

  -- a transaction that follows the parts leaves this
  leaves_more : (anew : Bool) (v u w : View GhostAction) (stripes n end : ℕ) (a b : Held S) (trees : Trees) → IsFresh v u n → IsKept u w n → SavesBelow anew v u stripes n a b
      → WouldCommit shown anew u w stripes n end b trees → LeavesBelow anew v w stripes end a trees
  leaves_more anew v u w stripes n end a b trees fresh kept before would = record {
    earlier = before.parts;
    start = n;
    mid = b;
    saved = parts_kept anew v u w stripes before.parts n a b kept before.saved;
    end = end;
    within = omega arith;
    next = commit_after anew v u w stripes n end b trees fresh would;
  }

  would_leave : (anew : Bool) (v w : View GhostAction) (stripes n : ℕ) (a : Held S) (trees : Trees) → n ≤ stripes → LeavesBelow anew v w stripes n a trees → WouldSave shown anew v w stripes a trees
  would_leave anew v w stripes n a trees low leaves = record {
    earlier = leaves.earlier;
    start = leaves.start;
    mid = leaves.mid;
    saved = leaves.saved;
    end = leaves.end;
    within = omega (arith, low, leaves.within);
    next = leaves.next;
  }

-- a transaction that may be committed leaves what there was, or what it wrote
pub crash_committed : {S : Type 0} (g : store.Ghosts S) (anew : Bool) (v w : View GhostAction) (stripes start end : ℕ) (old last new : Held S)
    → Survives (state g (begun old)) (state g last) (λ _. ⊥) → Survives (state g last) (state g new) (λ db. db ≡ (state g last).now.trees)
    → (HasCleanDisk (state g last) → WritesPart (state g) anew v w stripes start end (begun old) last)
    → Survives (state g old) (state g new) (WouldCommit (state g) anew v w stripes start end old)
crash_committed g anew v w stripes start end old last new inside committed wrote =
    survives_then (state g old) (state g last) (state g new) _ _ (WouldCommit (state g) anew v w stripes start end old) (λ _ db none. absurd none)
    (λ clean db is. record { last = last; wrote = wrote (clean_before (state g last) (state g new) _ committed clean); are = is })
    (survives_begin g old (state g last) _ inside) committed

-- .. and one that is dropped what there was
pub crash_dropped : {S : Type 0} (g : store.Ghosts S) (parts anew : Bool) (v w : View GhostAction) (stripes start : ℕ) (old last new : Held S)
    → Survives (state g (begun old)) (state g last) (λ _. ⊥) → Survives (state g last) (state g new) (λ _. ⊥)
    → Survives (state g old) (state g new) (WouldStop (state g) parts anew v w stripes start old)
crash_dropped g parts anew v w stripes start old last new inside dropped =
    survives_then (state g old) (state g last) (state g new) _ _ (WouldStop (state g) parts anew v w stripes start old) (λ _ db none. absurd none) (λ _ db none. absurd none)
    (survives_begin g old (state g last) _ inside) dropped

-- it came to the end, or the save may be in parts
stops : (parts : Bool) (stripes start : ℕ) (reached : Reached) → IsFurther parts stripes start reached → (end_of stripes reached ≤ stripes) × (IsTrue parts ⊎ (end_of stripes reached ≡ stripes))
stops parts stripes start (Stripe next) further = (omega (arith, further.1), inl further.2)
stops parts stripes start (End in_file) further = (omega arith, inr refl)

-- .. also if its commit failed
pub crash_uncommitted : {S : Type 0} (g : store.Ghosts S) (parts anew : Bool) (v w : View GhostAction) (stripes start : ℕ) (reached : Reached) (old new : Held S)
    → IsFurther parts stripes start reached → Survives (state g old) (state g new) (WouldCommit (state g) anew v w stripes start (end_of stripes reached) old)
    → Survives (state g old) (state g new) (WouldStop (state g) parts anew v w stripes start old)
crash_uncommitted g parts anew v w stripes start reached old new further left =
    let stop = stops parts stripes start reached further in
    survives_weaker (state g old) (state g new) _ _ (λ _ db would. record { end = end_of stripes reached; within = stop.0; whole = stop.1; next = would }) left

pub crash_none : {S : Type 0} (g : store.Ghosts S) (anew : Bool) (v : View GhostAction) (stripes : ℕ) (a : Held S)
    → Survives (state g a) (state g a) (LeavesBelow (state g) anew v v stripes 0 a)
crash_none g anew v stripes a = survives_weaker (state g a) (state g a) _ _ (λ _ db none. absurd none) (survives_same (state g a))

-- after one part more a crash leaves what there was, or what one of the parts left
pub crash_more : {S : Type 0} (g : store.Ghosts S) (anew : Bool) (v u w : View GhostAction) (stripes n end : ℕ) (a b c : Held S) → IsFresh v u n → IsKept u w n → n ≤ end
    → Survives (state g a) (state g b) (LeavesBelow (state g) anew v u stripes n a) → (HasCleanDisk (state g b) → SavesBelow (state g) anew v u stripes n a b)
    → Survives (state g b) (state g c) (WouldCommit (state g) anew u w stripes n end b) → Survives (state g a) (state g c) (LeavesBelow (state g) anew v w stripes end a)
crash_more g anew v u w stripes n end a b c fresh kept up before wrote part =
    survives_then (state g a) (state g b) (state g c) _ _ (LeavesBelow (state g) anew v w stripes end a)
    (λ _ db leaves. leaves_kept (state g) anew v u w stripes n end a db kept up leaves)
    (λ clean db would. leaves_more (state g) anew v u w stripes n end a b db fresh kept (wrote (clean_before (state g b) (state g c) _ part clean)) would)
    before part

-- .. and after the last one
pub crash_last : {S : Type 0} (g : store.Ghosts S) (anew : Bool) (v u w : View GhostAction) (stripes n : ℕ) (a b c : Held S) → IsFresh v u n → IsKept u w n → n ≤ stripes
    → Survives (state g a) (state g b) (LeavesBelow (state g) anew v u stripes n a) → (HasCleanDisk (state g b) → SavesBelow (state g) anew v u stripes n a b)
    → Survives (state g b) (state g c) (WouldCommit (state g) anew u w stripes n stripes b) → Survives (state g a) (state g c) (WouldSave (state g) anew v w stripes a)
crash_last g anew v u w stripes n a b c fresh kept low before wrote part =
    survives_weaker (state g a) (state g c) _ _ (λ _ db leaves. would_leave (state g) anew v w stripes stripes a db (omega arith) leaves)
    (crash_more g anew v u w stripes n stripes a b c fresh kept low before wrote part)

-- .. and after one that failed
pub crash_failed : {S : Type 0} (g : store.Ghosts S) (parts anew : Bool) (v u w : View GhostAction) (stripes n : ℕ) (a b c : Held S) → IsFresh v u n → IsKept u w n → n ≤ stripes
    → Survives (state g a) (state g b) (LeavesBelow (state g) anew v u stripes n a) → (HasCleanDisk (state g b) → SavesBelow (state g) anew v u stripes n a b)
    → Survives (state g b) (state g c) (WouldStop (state g) parts anew u w stripes n b) → Survives (state g a) (state g c) (WouldSave (state g) anew v w stripes a)
crash_failed g parts anew v u w stripes n a b c fresh kept low before wrote part =
    survives_then (state g a) (state g b) (state g c) _ _ (WouldSave (state g) anew v w stripes a)
    (λ _ db leaves. would_leave (state g) anew v w stripes n a db low (leaves_kept (state g) anew v u w stripes n n a db kept (omega arith) leaves))
    (λ clean db stop.
    would_leave (state g) anew v w stripes stop.end a db stop.within
    (leaves_more (state g) anew v u w stripes n stop.end a b db fresh kept (wrote (clean_before (state g b) (state g c) _ part clean)) stop.next))
    before part

-- one that failed and was to save all at once
pub crash_whole : {S : Type 0} (g : store.Ghosts S) (parts anew : Bool) (v w : View GhostAction) (stripes : ℕ) (a c : Held S) → parts ≡ false
    → Survives (state g a) (state g c) (WouldStop (state g) parts anew v w stripes 0 a) → Survives (state g a) (state g c) (WouldCommit (state g) anew v w stripes 0 stripes a)
crash_whole g parts anew v w stripes a c one part =
    survives_weaker (state g a) (state g c) _ _
    (λ _ db stop. elim stop.whole [
      | inl some ↦ absurd (let e : false ≡ true = sym one ∙ some in cc)
      | inr all ↦ subst (λ (end : ℕ). WouldCommit (state g) anew v w stripes 0 end a db) all stop.next
    ]) part

-- what holds from the first stripe on
pub from_start : {S : Type 0} (F : ℕ → PassState → Held S → Type 0) (n : ℕ) (old now : PassState) (a b : Held S) → (n ≡ 0) × (now ≡ old) × (b ≡ a) → F n now b → F 0 old a
from_start F n old now a b same here = subst (λ (m : ℕ). F m old a) same.0 (subst (λ (p : PassState). F n p a) same.1 (subst (λ h. F n now h) same.2 here))
