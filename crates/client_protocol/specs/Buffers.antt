-- The request that a buffer holds.
use Rattle.std.specs.Prelude.{ℕ, List, Option, Some, None, if◌then◌else◌}
use Rattle.client_protocol.specs.declared.request.OptionalValue.{OptionalValue}
use Rattle.client_protocol.specs.declared.request.Run.{Run}
use Rattle.client_protocol.specs.declared.request.Run.TheVariants as run
use Rattle.client_protocol.specs.declared.request.Walk.{Walk}
use Rattle.client_protocol.specs.declared.request.Walk.TheVariants as walk
use Rattle.client_protocol.specs.declared.request.RequestKind.{RequestKind}
use Rattle.client_protocol.specs.declared.request.RequestKind.TheVariants as kind
use Rattle.client_protocol.specs.Requests.{Request}
use Rattle.client_protocol.specs.Requests.Request.{Hello, Register, Get, Put, PutIfAbsent, Remove, RemoveIf, Replace, ReplaceIf, Compute, ComputeIfAbsent, ComputeIfPresent, Merge, Search, ForEach, ReplaceAll, Count}

-- the value if it is present
abbrev pub optional : OptionalValue → Option (List ℕ)
optional other = if other.is_there then Some other.value else None

-- a run of a program on this key, with this value or this argument
abbrev pub run_with : Run → List ℕ → List ℕ → Option (List ℕ) → Request
run_with (run.Compute program) key value arg = Compute key program arg
run_with (run.ComputeIfAbsent program) key value arg = ComputeIfAbsent key program arg
run_with (run.ComputeIfPresent program) key value arg = ComputeIfPresent key program arg
run_with (run.Merge program) key value arg = Merge key value program

-- a walk with this argument
abbrev pub walk_with : Walk → Option (List ℕ) → Request
walk_with (walk.Search program threshold) arg = Search program arg threshold
walk_with (walk.ForEach program threshold) arg = ForEach program arg threshold
walk_with (walk.ReplaceAll program) arg = ReplaceAll program arg
walk_with walk.Count arg = Count

-- a request of this kind, with this key, this value, this argument or expected value, and these bytes of a program
abbrev pub request_in : RequestKind → List ℕ → List ℕ → OptionalValue → List ℕ → Request
request_in (kind.Hello version) key value other bytes = Hello version
request_in (kind.Register sizes) key value other bytes = Register sizes bytes
request_in kind.Get key value other bytes = Get key
request_in kind.Put key value other bytes = Put key value
request_in kind.PutIfAbsent key value other bytes = PutIfAbsent key value
request_in kind.Remove key value other bytes = Remove key
request_in kind.RemoveIf key value other bytes = RemoveIf key other.value
request_in kind.Replace key value other bytes = Replace key value
request_in kind.ReplaceIf key value other bytes = ReplaceIf key other.value value
request_in (kind.Run r) key value other bytes = run_with r key value (optional other)
request_in (kind.Walk w) key value other bytes = walk_with w (optional other)
