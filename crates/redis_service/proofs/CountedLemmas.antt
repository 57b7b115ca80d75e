-- Lines of commands, one by one.
use Rattle.std.proofs.Common.{◌≡◌, ℕ, List, [], ◌∷◌, ◌++◌, flat_map, IfOk, Result, Ok, Err, sym, ap, ◌∙◌}
use Rattle.std.proofs.lemmas.List.{append-nil}
use Rattle.std.proofs.lemmas.List.Concat.{flat_map-append}
use Rattle.bpf_model.specs.declared.memory.NoMemory.{NoMemory}
use Rattle.redis_service.specs.Counted.{Calls, AreCalls, calls_line}

-- one more line
pub one_added : (r : Result (Unit {0}) NoMemory) (old new : List ℕ) (one : Calls) → AreCalls old → IfOk r (λ _. new ≡ old ++ calls_line one)
    → IfOk r (λ _. AreCalls new)
one_added (Ok _) old new one (all, text) e = (
  all ++ one ∷ [],
  e ∙ ap (λ (t : List ℕ). t ++ calls_line one) text
      ∙ ap (λ (t : List ℕ). flat_map calls_line all ++ t) (sym (append-nil (calls_line one)))
      ∙ sym (flat_map-append calls_line all (one ∷ [])),
)
one_added (Err _) old new one lines e = tt
