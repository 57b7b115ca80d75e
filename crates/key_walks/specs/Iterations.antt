-- A whole walk by pages.
use Rattle.std.specs.Prelude.{◌≡◌, ◌≢◌, ℕ, ◌≤◌, List, [], ◌∷◌, count_by, Any}
use Rattle.std.specs.Str.{bytes_eq}
use Rattle.stripe_rule.specs.Gains.{Keeps}
use Rattle.bins.specs.Table.{Entry}
use Rattle.bin_stripes.specs.Invoked.{Scans}
use Rattle.bin_stripes.specs.Passes.{PassState, ServesSameMap, stripes_of}
use Rattle.key_walks.specs.Expired.{AfterExpiry}
use Rattle.key_walks.specs.Pages.{IsPage}

-- a request for a page at a time, and its reply, with what the pass knew before and after
pub record PageCall : Type 0 where
  pub now : ℕ
  pub old : PassState
  pub cursor : ℕ
  pub most : ℕ
  pub keys : List (List ℕ)
  pub next : ℕ
  pub new : PassState

-- pages of a map with this many stripes: the first begins at the cursor, each later one at the cursor that the one before gave,
-- and the last one gave 0. They may be of several passes, and others may call the map between them
abbrev pub GoesOn : ℕ → ℕ → List PageCall → Type 0
GoesOn stripes cursor [] = cursor ≡ 0
GoesOn stripes cursor (page ∷ pages) = (stripes_of page.old.map ≡ stripes) × ((page.cursor ≡ cursor)
    × (IsPage page.now page.old page.cursor page.most page.keys page.next page.new × GoesOn stripes page.next pages))

-- they begin with the cursor 0
abbrev pub IsWhole : ℕ → List PageCall → Type 0
IsWhole stripes pages = (pages ≢ []) × GoesOn stripes 0 pages

-- the page came to the stripe k once, and did nothing else there: it took away entries whose time was over, and then made one scan.
-- It has the key as often as that scan found it
pub record Shows (k : ℕ) (key : List ℕ) (page : PageCall) : Type 0 where
  pub before : PassState
  pub same : ServesSameMap page.old before
  pub numbers : before.view.numbers ≡ page.old.view.numbers
  pub nothing_before : Keeps page.old.view before.view k
  pub entries : List Entry
  pub after : PassState
  pub scans : AfterExpiry page.now (λ p q. Scans p k entries q) before k after
  pub nothing_after : Keeps after.view page.new.view k
  pub shows : count_by (λ entry. bytes_eq key entry.0) entries ≤ count_by (λ other. bytes_eq key other) page.keys

-- one of the pages shows what the stripe k has of the key
abbrev pub AreShown : ℕ → List ℕ → List PageCall → Type 0
AreShown k key pages = Any (Shows k key) pages
