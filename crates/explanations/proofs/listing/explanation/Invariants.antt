-- the lines so far, and what is known above the next
use Rattle.std.proofs.Common.{◌≡◌, take, string_bytes}
use Rattle.bpf_model.specs.Program.{unit_count}
use Rattle.explanations.specs.Listings.{lines_below, values_before}
use Rattle.explanations.proofs.listing.explanation.Given as goal

abbrev pub invariant-loop-index : goal.invariant-loop-index
invariant-loop-index l = record {
  counted : l.unit ≡ unit_count (take l.index l.program);
  values : l.values ≡ values_before l.states l.index;
  lines : string_bytes l.text ≡ lines_below l.program l.states l.sizes l.index;
}
