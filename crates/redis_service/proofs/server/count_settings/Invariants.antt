-- the words so far
use Rattle.std.proofs.Common.{◌≡◌, ◌≤◌, take, count_by}
use Rattle.redis_commands.specs.Commands.{texts}
use Rattle.redis_service.specs.Server.{is_setting}
use Rattle.redis_service.proofs.server.count_settings.Given as goal

abbrev pub invariant-loop-word : goal.invariant-loop-word
invariant-loop-word l = record {
  count : l.count ≡ count_by is_setting (texts (take l.word-index l.words));
  most : l.count ≤ l.word-index;
}
