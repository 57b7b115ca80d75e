-- Calls that can run out of memory.
use Rattle.std.specs.Prelude.{◌≡◌, ◌⊎◌, Result, Err}

-- the call gives this result, unless a request for memory was refused
abbrev pub GivesUnless : {A E : Type 0} → E → Result A E → Result A E → Type 0
GivesUnless refused result answer = (result ≡ Err refused) ⊎ (result ≡ answer)
