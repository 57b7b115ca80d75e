-- What the visit of a page does to its counter.
use Rattle.std.specs.Prelude.{◌≡◌, ℕ, List, Some, length}
use Rattle.std.specs.Int.{w64, to_le_bytes, from_le_bytes}
use Rattle.atomic_table.specs.Seated.{TableId}
use Rattle.verifier.specs.Checked.{Checked}
use Rattle.atomic_methods.specs.Invocations.{Invocation, on_key, merge}
use Rattle.atomic_methods.specs.declared.reply.Reply.TheVariants.{Value}
use Rattle.bin_stripes.specs.Invoked.{Calls}
use Rattle.bin_stripes.specs.Passes.{PassState}

-- the pass serves the map
abbrev pub IsOf : TableId → PassState → Type 0
IsOf id pass = pass.map ≡ id

-- 1 is merged into the counter of the page by this program
abbrev pub visit : Checked → List ℕ → Invocation
visit sum page = on_key page (merge (to_le_bytes w64 1) sum)

-- the pass made the visit, in one step, and the counter then was this number
pub record Counts (old : PassState) (sum : Checked) (page : List ℕ) (count : ℕ) (new : PassState) : Type 0 where
  pub bytes : List ℕ
  pub calls : Calls old (visit sum page) (Value (Some bytes)) new
  pub eight : length bytes ≡ 8
  pub is : count ≡ from_le_bytes w64 bytes
