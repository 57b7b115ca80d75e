-- the places so far were compared: none differs if the bytes are the same, and only then if these are all places
use Rattle.std.proofs.Common.{◌≡◌, ◌≤◌}
use Rattle.server_state.proofs.PasswordLemmas.{SameTo}
use Rattle.server_state.proofs.password.Password.is.Given as goal

abbrev pub invariant-loop-place : goal.invariant-loop-place
invariant-loop-place l = record {
  few : l.different ≤ l.place;
  none : l.self ≡ l.shown → l.different ≡ 0;
  same : l.different ≡ 0 → SameTo l.place l.self l.shown;
}
