use Rattle.std.proofs.Common.{◌++◌}
use Rattle.crews.specs.Talks.{protocol_of}
use Rattle.crews.proofs.TurnLemmas.{any_cut, cut_front}
use Rattle.crews.proofs.turn.parting_of.Goals as goal

pub returns-in_default : goal.returns-in_default
returns-in_default c password talk exchanges read written rest long says = cut_front password (protocol_of talk) exchanges read written rest (any_cut password c.args.leaving talk exchanges read (written ++ rest) says)

pub returns-in_default-2 : goal.returns-in_default-2
returns-in_default-2 c password talk exchanges read written rest long says = cut_front password (protocol_of talk) exchanges read written rest (any_cut password c.args.leaving talk exchanges read (written ++ rest) says)

pub returns-in_default-4 : goal.returns-in_default-4
returns-in_default-4 c password talk exchanges read written rest long says = cut_front password (protocol_of talk) exchanges read written rest (any_cut password c.args.leaving talk exchanges read (written ++ rest) says)
