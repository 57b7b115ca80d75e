-- How long a worker waits when an accept fails of a want that may pass.
use Rattle.std.specs.Prelude.{◌≡◌, ◌+◌, ◌*◌, ◌<◌, ◌≤◌, min, ℕ, Option, Some, None}

-- the next wait and what was waited, in milliseconds
pub record Waits : Type 0 where
  pub next : ℕ
  pub waited : ℕ

-- the next wait, while the waits before it come to less than an hour; the one after it is twice as long, and at most a second
abbrev pub WaitsOnce : Waits → Option ℕ → Waits → Type 0
WaitsOnce old (Some wait) new =
    (old.waited < 3600000) × (wait ≡ old.next) × (new.next ≡ min 1000 (2 * old.next)) × (new.waited ≡ old.waited + wait)
WaitsOnce old None new = (3600000 ≤ old.waited) × (new ≡ old)
