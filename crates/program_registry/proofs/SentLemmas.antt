-- Sizes and bytes determine the program.
use Rattle.std.proofs.Common.{◌≡◌, ◌∙◌, ℕ, List, sym}
use Rattle.bpf_model.specs.declared.input.Sizes.{Sizes}
use Rattle.bpf_model.proofs.SpellingLaws.{spelled_once}
use Rattle.verifier.specs.Checked.{Checked}
use Rattle.program_registry.specs.Sent.{IsSentAs}

-- so they send at most one program
pub sent_once : (sizes : Sizes) (bytes : List ℕ) (first second : Checked) → IsSentAs sizes bytes first → IsSentAs sizes bytes second → first ≡ second
sent_once sizes bytes first second one other =
    let program : first.program ≡ second.program = spelled_once bytes first.program second.program one.spelled other.spelled in
    let declared : first.sizes ≡ second.sizes = one.declared ∙ sym other.declared in
    λ k. record { program = program k; sizes = declared k }
