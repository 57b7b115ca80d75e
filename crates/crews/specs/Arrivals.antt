-- How many clients came to a worker, and have not ended.
use Rattle.std.specs.Prelude.{ℕ, ◌+◌}
use Rattle.crews.specs.declared.clients.Event.{Event}
use Rattle.crews.specs.declared.clients.Event.TheVariants.{Came, Ready, LetGo, Sweep, Over}

-- how many came by this
abbrev pub came_by : {C : Type 0} → Event C → ℕ
came_by (Came channel protocol) = 1
came_by (Ready seat) = 0
came_by (LetGo seat) = 0
came_by Sweep = 0
came_by Over = 0

-- beside any others, this number of clients is there before, and that number after
abbrev pub CountGoes : {P : Type 0} → (P → ℕ → Type 0) → P → ℕ → P → ℕ → Type 0
CountGoes there old before new after = (others : ℕ) → there old (others + before) → there new (others + after)
