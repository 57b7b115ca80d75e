-- the words so far are added
use Rattle.std.proofs.Common.{◌≡◌, ◌+◌, ◌++◌, length, All}
use Rattle.resp.specs.Grammar.{texts, words_bytes, bytes_of, IsWord}
use Rattle.resp.specs.declared.limits.TheConstants.{COMMAND_BYTES}
use Rattle.resp.proofs.array.words_at.Given as goal

abbrev pub invariant-loop : goal.invariant-loop
invariant-loop l = (length l.words.items ≡ l.counter) × All IsWord (texts l.words.items) × (bytes_of (texts l.words.items) + l.room ≡ COMMAND_BYTES) × (l.fn.bytes ≡ words_bytes (texts l.words.items) ++ l.rest)
