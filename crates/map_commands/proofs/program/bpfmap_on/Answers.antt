use Rattle.std.proofs.Common.{inl, inr, refl}
use Rattle.clap.specs.Walk.{texts}
use Rattle.map_commands.specs.Endings.{EndsCall}
use Rattle.map_commands.proofs.program.bpfmap_on.Goals as goal
use Rattle.map_commands.proofs.program.bpfmap_on.Goals.{in-Ok-Report, in-Err+in-Some-1, in-Err+in-None-1}

pub returns : goal.returns
returns g c =
    let input = g.R.Source.state c.args.reader.now in
    let calls : EndsCall (texts c.args.words.now) input (g.R.Source.state c.match-parse_words.reader) c.match-parse_words.ending =
    elim c.match-parse_words.branch [
      | in-Ok-Report w ↦ rw (w.reader-is, w.ending-is) (inl (w.in-Ok-Report.command, rw w.in-Ok-Report.field-0-is at w.in-Ok-Report.ensures.ok, rw w.in-Ok-Report.field-0-is at w.ending_of_command-ending.ensures))
      | in-Err+in-Some-1 w ↦ rw (w.reader-is, w.ending-is) (inr (w.ending_of_words-ending.ensures w.in-Err.ensures.kinds, refl))
      | in-Err+in-None-1 w ↦ rw (w.reader-is, w.ending-is) (inr (w.ending_of_words-ending.ensures w.in-Err.ensures.kinds, refl))
    ] in
    record { ends = inr (c.match-parse_words.ending, calls, c.tell.ensures) }
