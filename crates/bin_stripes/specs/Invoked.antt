-- How a call of its own extends a pass's knowledge.
use Rattle.std.specs.Prelude.{◌≡◌, ℕ, ◌<◌, ◌^◌, List, [], ◌∷◌, ◌++◌, Option, map, length, count_by, All, T}
use Rattle.std.specs.FinMap as finmap
use Rattle.stripe_rule.specs.Gains.{Adds, seen_of}
use Rattle.verifier.specs.Checked.{Checked}
use Rattle.bins.specs.declared.counts.Counts.{Counts}
use Rattle.bins.specs.Table.{Entry, Table, by_bytes}
use Rattle.bins.specs.Copies.{AreCopies, WeighSame}
use Rattle.bins.specs.Replacements.{Outcome, is_given, is_unfit}
use Rattle.atomic_methods.specs.declared.reply.Reply.{Reply}
use Rattle.atomic_methods.specs.Hashes.{stripe_of}
use Rattle.atomic_methods.specs.Invocations.{Invocation}
use Rattle.atomic_methods.specs.Methods.{WouldAdd}
use Rattle.bin_stripes.specs.Actions.{Action, called, scanned, replaced}
use Rattle.bin_stripes.specs.Histories.{own_events, Leaves}
use Rattle.bin_stripes.specs.Passes.{PassState, stripes_of}

-- after all that it had seen of the stripe k, the pass saw others' events and then made these actions; it knows nothing
-- new of the other stripes
abbrev pub Makes : PassState → ℕ → List Action → PassState → Type 0
Makes old k actions new = Adds old.view k (own_events old.view actions) new.view

-- the stripe of the invocation's key
abbrev pub stripe_for : PassState → Invocation → ℕ
stripe_for pass invocation = stripe_of (stripes_of pass.map) invocation.key

-- the pass made the invocation, which got the reply
abbrev pub Calls : PassState → Invocation → Reply → PassState → Type 0
Calls old invocation reply new = Makes old (stripe_for old invocation) (called invocation reply ∷ []) new

-- the pass made nothing; the events that it has then seen leave a table to which the invocation would add its key
pub record RefusesCall (old : PassState) (invocation : Invocation) (new : PassState) : Type 0 where
  pub nothing : Makes old (stripe_for old invocation) [] new
  pub table : Table
  pub left : Leaves (stripes_of old.map) (stripe_for old invocation) (seen_of new.view (stripe_for old invocation)) table
  pub adds : WouldAdd table invocation

-- the pass made one scan of the stripe k, which found these entries
abbrev pub Scans : PassState → ℕ → List Entry → PassState → Type 0
Scans old k entries new = Makes old k (scanned entries ∷ []) new

-- the pass made one scan of the stripe k, which found this many entries; its event has them
pub record CountsStripe (old : PassState) (k count : ℕ) (new : PassState) : Type 0 where
  pub entries : List Entry
  pub scans : Scans old k entries new
  pub count_is : count ≡ length entries

-- entries in key order, each once, and each in the stripe k of this many
pub record AreOf (stripes k : ℕ) (entries : List Entry) : Type 0 where
  pub order : T (finmap.is_sorted by_bytes entries)
  pub stripe : All (λ entry. stripe_of stripes entry.0 ≡ k) entries

-- the pass made one scan of the stripe k, and copies of the entries that it found were added to a list, in any order
pub record CopiesStripe (old : PassState) (k : ℕ) (before after : List Entry) (new : PassState) : Type 0 where
  pub entries : List Entry
  pub scans : Scans old k entries new
  pub are : AreOf (stripes_of old.map) k entries
  -- an entry takes more than 2^6 bytes, and memory has fewer than 2^63
  pub bounded : length entries < 2 ^ 57
  pub copies : List Entry
  pub same : WeighSame copies entries
  pub added : after ≡ before ++ copies

-- a visitor saw the entries of a table, in any order: what it was before, and what it is after
pub record Shown {V : Type 0} (Visits : V → List Entry → V → Type 0) (table : Table) (before after : V) : Type 0 where
  pub entries : List Entry
  pub are : AreCopies table entries
  pub visits : Visits before entries after

-- the pass made one scan of the stripe k, and a visitor saw the entries that it found, in any order
pub record VisitsStripe {V : Type 0} (Visits : V → List Entry → V → Type 0) (old : PassState) (k : ℕ) (before after : V) (new : PassState)
    : Type 0 where
  pub entries : List Entry
  pub scans : Scans old k entries new
  pub are : AreOf (stripes_of old.map) k entries
  -- as for copies
  pub bounded : length entries < 2 ^ 57
  pub shown : List Entry
  pub same : WeighSame shown entries
  pub visits : Visits before shown after

-- one replacement for each entry, in their order, by the program's outcome at its key; with these counts of each kind
pub record AreReplacements (program : Checked) (arg : Option (List ℕ)) (entries : List Entry) (actions : List Action)
    (counts : Counts) : Type 0 where
  pub outcome : List ℕ → Outcome
  pub actions_are : actions ≡ map (λ entry. replaced entry.0 program arg (outcome entry.0)) entries
  pub scanned_are : counts.scanned ≡ length entries
  pub given_are : counts.given ≡ count_by (λ entry. is_given (outcome entry.0)) entries
  pub unfit_are : counts.unfit ≡ count_by (λ entry. is_unfit (outcome entry.0)) entries

-- the pass replaced the value of each key of the stripe k once, in key order, by the program with the argument; no
-- other event comes between these
pub record ReplacesInStripe (old : PassState) (k : ℕ) (program : Checked) (arg : Option (List ℕ)) (counts : Counts)
    (new : PassState) : Type 0 where
  pub actions : List Action
  pub makes : Makes old k actions new
  pub table : Table
  pub found : Leaves (stripes_of old.map) k (seen_of old.view k ++ makes.here.between) table
  pub are : AreReplacements program arg (finmap.entries table) actions counts
