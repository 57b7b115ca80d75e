use Rattle.std.proofs.Common.{◌≡◌, true, false}
use Rattle.bpf_model.specs.Words.{word_of}
use Rattle.bpf_model.specs.Accesses.{loaded_size}
use Rattle.verifier.proofs.WindowLemmas.{load_read_only}
use Rattle.verifier.proofs.abstract_state.AbstractState.read_bytes.Goals as goal

pub returns-in-None-clause-ok : goal.returns-in-None-clause-ok
returns-in-None-clause-ok c =
    let outside = rw c.size.ensures at c.in-None.ensures.some in
    let holds = rw (c.size-in-None.ensures, c.is_signed-in-None.ensures.value) at c.loadable.ensures.holds in
    λ s address d at.
    let read = load_read_only c.args.self.now c.args.sizes s c.args.span address (loaded_size c.args.kind) (λ kept. let no : false ≡ true = outside.1 (kept, c.requires.inside) in absurd cc) c.requires.inside at d in
    record { bytes = read.0; present = read.1.0; stands = holds (word_of read.0) read.1.1 }
