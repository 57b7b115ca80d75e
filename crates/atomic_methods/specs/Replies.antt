-- The reply of a walk over the entries that it found. Java SE 17: ConcurrentHashMap.search, forEach and mappingCount, but
-- the function is a program here. This map's profile adds three rules: search answers for the least key, forEach gives its
-- answers back, and entries which do not fit are counted.
use Rattle.std.specs.Prelude.{◌≡◌, ℕ, List, [], ◌∷◌, length, take, Option, Ok, Err, count_by}
use Rattle.bpf_model.specs.declared.input.Answer.TheVariants.{Nothing, Bytes}
use Rattle.verifier.specs.Checked.{Checked}
use Rattle.bins.specs.Table.{Entry}
use Rattle.bins.specs.Replacements.{Outcome, is_unfit}
use Rattle.bins.specs.Passes.{AreOutcomes}
use Rattle.atomic_methods.specs.declared.walk_reply.WalkKind.{WalkKind}
use Rattle.atomic_methods.specs.declared.walk_reply.WalkKind.TheVariants.{Search, ForEach}
use Rattle.atomic_methods.specs.declared.walk_reply.WalkReply.{WalkReply}

-- all present answers with their keys, in the order of the entries
abbrev pub present : List Entry → List Outcome → List Entry
present [] outcomes = []
present (entry ∷ entries) [] = []
present (entry ∷ entries) (Ok (Bytes answer) ∷ outcomes) = (entry.0, answer) ∷ present entries outcomes
present (entry ∷ entries) (Ok Nothing ∷ outcomes) = present entries outcomes
present (entry ∷ entries) (Err part ∷ outcomes) = present entries outcomes

-- which of them a walk gives: search gives only the first
abbrev pub chosen : WalkKind → List Entry → List Entry
chosen Search items = take 1 items
chosen ForEach items = items

-- the reply to a walk over these entries, in key order
pub record IsReply (kind : WalkKind) (checked : Checked) (arg : Option (List ℕ)) (entries : List Entry)
    (reply : WalkReply) : Type 0 where
  -- the program's outcome at each entry, at the entry's position
  pub outcomes : List Outcome
  pub one_each : length outcomes ≡ length entries
  pub are_outcomes : AreOutcomes checked arg entries outcomes
  pub items : reply.items ≡ chosen kind (present entries outcomes)
  pub scanned : reply.counts.scanned ≡ length entries
  pub given : reply.counts.given ≡ length reply.items
  pub unfit : reply.counts.unfit ≡ count_by is_unfit outcomes

-- the reply to a count of this many entries
pub record IsCount (entries : ℕ) (reply : WalkReply) : Type 0 where
  pub items : reply.items ≡ []
  pub scanned : reply.counts.scanned ≡ entries
  pub given : reply.counts.given ≡ 0
  pub unfit : reply.counts.unfit ≡ 0
