-- Clients' requests, and how a view shows them.
use Rattle.std.specs.Prelude.{ℕ, List, Option, option_copied}
use Rattle.bpf_model.specs.declared.input.Sizes.{Sizes}
use Rattle.client_protocol.specs.declared.limits.Version.{Version}
use Rattle.client_protocol.specs.declared.request.RequestView.{RequestView}
use Rattle.client_protocol.specs.declared.request.RequestView.TheVariants as shown

-- a request: for a call its key, then its values or its program, and its argument or none; a walk has no key, and a
-- threshold last
pub data Request : Type 0 where
  Hello : Version → Request
  Register : Sizes → List ℕ → Request
  Get : List ℕ → Request
  Put : List ℕ → List ℕ → Request
  PutIfAbsent : List ℕ → List ℕ → Request
  Remove : List ℕ → Request
  RemoveIf : List ℕ → List ℕ → Request
  Replace : List ℕ → List ℕ → Request
  ReplaceIf : List ℕ → List ℕ → List ℕ → Request
  Compute : List ℕ → ℕ → Option (List ℕ) → Request
  ComputeIfAbsent : List ℕ → ℕ → Option (List ℕ) → Request
  ComputeIfPresent : List ℕ → ℕ → Option (List ℕ) → Request
  Merge : List ℕ → List ℕ → ℕ → Request
  Search : ℕ → Option (List ℕ) → ℕ → Request
  ForEach : ℕ → Option (List ℕ) → ℕ → Request
  ReplaceAll : ℕ → Option (List ℕ) → Request
  Count : Request

-- the request that a view shows; the view borrows its key, values and program
abbrev pub viewed : RequestView → Request
viewed (shown.Hello version) = Hello version
viewed (shown.Register sizes program) = Register sizes program.now
viewed (shown.Get key) = Get key.now
viewed (shown.Put key value) = Put key.now value.now
viewed (shown.PutIfAbsent key value) = PutIfAbsent key.now value.now
viewed (shown.Remove key) = Remove key.now
viewed (shown.RemoveIf key expected) = RemoveIf key.now expected.now
viewed (shown.Replace key value) = Replace key.now value.now
viewed (shown.ReplaceIf key expected value) = ReplaceIf key.now expected.now value.now
viewed (shown.Compute key program arg) = Compute key.now program (option_copied arg)
viewed (shown.ComputeIfAbsent key program arg) = ComputeIfAbsent key.now program (option_copied arg)
viewed (shown.ComputeIfPresent key program arg) = ComputeIfPresent key.now program (option_copied arg)
viewed (shown.Merge key value program) = Merge key.now value.now program
viewed (shown.Search program arg threshold) = Search program (option_copied arg) threshold
viewed (shown.ForEach program arg threshold) = ForEach program (option_copied arg) threshold
viewed (shown.ReplaceAll program arg) = ReplaceAll program (option_copied arg)
viewed shown.Count = Count
