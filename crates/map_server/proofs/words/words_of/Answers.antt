use Rattle.std.proofs.Common.{◌∙◌, ap}
use Rattle.std.specs.Prelude.{unwrap_or}
use Rattle.map_server.proofs.words.words_of.Goals as goal

pub returns : goal.returns
returns c = record {
  listen = c.in_ok-given_text.ensures;
  redis = c.in_ok-given_text-2.ensures;
  stripes = c.from.ensures ∙ c.given_size.ensures;
  workers = c.from-2.ensures ∙ c.given_size-2.ensures;
  team = c.from-3.ensures ∙ c.given_size-3.ensures;
  sessions = c.widened.ensures ∙ c.given_number.ensures;
  clients = c.from-4.ensures ∙ c.given_size-4.ensures;
  idle = c.widened-2.ensures ∙ c.given_number-2.ensures;
  programs = c.unwrap_or.ensures ∙ ap (λ number. unwrap_or number 65536) (c.widened-3.ensures ∙ c.given_number-3.ensures);
  memory = c.widened-4.ensures ∙ c.given_number-4.ensures;
  keep = c.in_ok-given_text-3.ensures;
  keep_seconds = c.from-5.ensures ∙ c.given_size-5.ensures;
  password_file = c.in_ok-given_text-4.ensures;
  metrics = c.in_ok-given_text-5.ensures;
  slowlog_microseconds = c.widened-5.ensures ∙ c.given_number-5.ensures;
  keep_strict = c.is_given.ensures;
}
