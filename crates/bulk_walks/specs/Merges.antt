-- One reply from several.
use Rattle.std.specs.Prelude.{◌≡◌, ◌<◌, ◌≤◌, ◌-◌, ◌^◌, ℕ, Bool, true, false, T, All, List, [], ◌∷◌, Option, MatchOption, length, map, drop, slice_index_or, slice_set, sum_by}
use Rattle.std.specs.FinMap as finmap
use Rattle.std.specs.Ordering.{is_lt}
use Rattle.bins.specs.declared.counts.Counts.{Counts}
use Rattle.bpf_model.specs.declared.limits.TheConstants.{KEY_BYTES}
use Rattle.bins.specs.Entries.{entries_at, entry_of}
use Rattle.bins.specs.Fronts.{AreBytes, front}
use Rattle.bins.specs.Merged.{entry_at}
use Rattle.bins.specs.declared.merged_entries.EntryPosition.{EntryPosition}
use Rattle.bins.specs.Table.{Entry, by_bytes}
use Rattle.atomic_methods.specs.declared.walk_reply.WalkKind.{WalkKind}
use Rattle.atomic_methods.specs.declared.walk_reply.WalkReply.{WalkReply}
use Rattle.atomic_methods.specs.Replies.{chosen}
use Rattle.bulk_walks.specs.declared.answers.Answers.{Answers}
use Rattle.bulk_walks.specs.Turns.{items_in}

-- a list and an order of its positions, with this many taken from the front
pub record Remains : Type 0 where
  pub list : List Entry
  pub order : List ℕ
  pub taken : ℕ

-- nothing was taken
abbrev pub whole_of : Answers → Remains
whole_of answers = record { list = answers.items; order = answers.order.items; taken = 0 }

-- the remaining entries
abbrev pub left_of : Remains → List Entry
left_of remains = entries_at remains.list (drop remains.taken remains.order)

-- of each
abbrev pub lefts_of : List Remains → List (List Entry)
lefts_of rests = map left_of rests

-- and the lists as they were
abbrev pub lists_of : List Remains → List (List Entry)
lists_of rests = map (λ rest. rest.list) rests

-- each entry is in `all` as often as in the lists
abbrev pub HasAll : List Entry → List (List Entry) → Type 0
HasAll all lists = (weight : Entry → ℕ) → sum_by weight all ≡ sum_by (λ entries. sum_by weight entries) lists

-- whether the one list's first key comes before the other's; an empty list comes last
abbrev pub comes_first : List Entry → List Entry → Bool
comes_first [] other = false
comes_first (x ∷ one) [] = true
comes_first (x ∷ one) (y ∷ other) = is_lt (by_bytes x.0 y.0)

-- the first bytes of a list's first key, as a number; if the list is empty, the greatest one
abbrev pub lead_of : List Entry → ℕ
lead_of [] = 2 ^ 64 - 1
lead_of (entry ∷ list) = front 8 entry.0

-- this is the lead of an entry or of none, whose key is one of the map's
pub record IsLed (lead : ℕ) (item : List Entry) : Type 0 where
  pub is : lead ≡ lead_of item
  pub bytes : AreBytes (entry_of item 0).0
  pub fits : length (entry_of item 0).0 ≤ KEY_BYTES

-- the first entry of one list was taken, and no other list begins with a lesser key
pub record TakesFirst (old : List (List Entry)) (entry : Entry) (new : List (List Entry)) : Type 0 where
  pub position : ℕ
  pub behind : List Entry
  pub inside : position < length old
  pub was : slice_index_or old position [] ≡ entry ∷ behind
  pub least : All (λ list. comes_first list (entry ∷ behind) ≡ false) old
  pub now : new ≡ slice_set old position behind

-- the entry at this position of the lists was taken in this way; or none, since nothing is left of them
abbrev pub TakesLeast : List (List Entry) → List (List Entry) → Option EntryPosition → List (List Entry) → Type 0
TakesLeast lists old taken new = MatchOption taken (All (λ list. list ≡ []) old) (λ position. TakesFirst old (entry_at lists position) new)

-- each count is the sum of the workers' counts
pub record CountsAdd (all : List Answers) (total : Counts) : Type 0 where
  pub scanned : total.scanned ≡ sum_by (λ answers. answers.scanned) all
  pub given : total.given ≡ sum_by (λ answers. length answers.order.items) all
  pub unfit : total.unfit ≡ sum_by (λ answers. answers.unfit) all

-- the reply of a walk of this kind, made of all items of the replies, in key order, and of their counts
pub record IsMerge (kind : WalkKind) (replies : List WalkReply) (merged : WalkReply) : Type 0 where
  pub items : (all : List Entry) → T (finmap.is_sorted by_bytes all) → HasAll all (items_in replies) → merged.items ≡ chosen kind all
  pub scanned : merged.counts.scanned ≡ sum_by (λ reply. reply.counts.scanned) replies
  pub given : merged.counts.given ≡ length merged.items
  pub unfit : merged.counts.unfit ≡ sum_by (λ reply. reply.counts.unfit) replies
