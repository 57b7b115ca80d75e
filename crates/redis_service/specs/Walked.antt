-- The bytes that tell what a walk gave.
use Rattle.std.specs.Prelude.{ℕ, Bool, List, [], if◌then◌else◌, Option, Some, Result, Ok, Err}
use Rattle.std.specs.Global.{Vec}
use Rattle.bpf_model.specs.declared.memory.NoMemory.{NoMemory}
use Rattle.key_walks.specs.declared.pages.Page.{Page}
use Rattle.redis_service.specs.Lines.{no_memory_line}
use Rattle.redis_service.specs.Calls.{bulk}
use Rattle.redis_service.specs.Walks.{page_bytes, keys_bytes, shown}

-- a page, without its keys if no keys of their type are asked for; or that memory was refused
abbrev pub page_line : Option (List ℕ) → Bool → Result Page NoMemory → List ℕ
page_line pattern is_string (Ok page) = page_bytes page.next (if is_string then shown pattern page.keys.items else [])
page_line pattern is_string (Err _) = no_memory_line

abbrev pub found_line : List ℕ → Result (Vec (List ℕ)) NoMemory → List ℕ
found_line pattern (Ok keys) = keys_bytes (shown (Some pattern) keys.items)
found_line pattern (Err _) = no_memory_line

abbrev pub choice_line : Result (Option (List ℕ)) NoMemory → List ℕ
choice_line (Ok choice) = bulk choice
choice_line (Err _) = no_memory_line
