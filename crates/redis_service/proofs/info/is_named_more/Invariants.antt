-- none of the words so far names the section
use Rattle.std.proofs.Common.{◌≡◌, drop}
use Rattle.std.specs.List.{list_any}
use Rattle.redis_commands.specs.Commands.{texts}
use Rattle.redis_service.specs.Info.{names_more}
use Rattle.redis_service.proofs.info.is_named_more.Given as goal

abbrev pub invariant-loop-word : goal.invariant-loop-word
invariant-loop-word l = list_any (names_more l.name) (texts (drop l.word-index l.words)) ≡ list_any (names_more l.name) (texts l.words)
