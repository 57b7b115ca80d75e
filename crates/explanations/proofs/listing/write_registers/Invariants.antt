-- the registers so far are told
use Rattle.std.proofs.Common.{◌≡◌, ◌++◌, string_bytes}
use Rattle.explanations.specs.Listings.{registers_below}
use Rattle.explanations.proofs.listing.write_registers.Given as goal

abbrev pub invariant-loop-register : goal.invariant-loop-register
invariant-loop-register l = string_bytes l.text ≡ string_bytes l.initial.text ++ registers_below l.before l.values l.register
