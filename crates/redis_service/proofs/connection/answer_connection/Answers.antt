use Rattle.std.proofs.Common.{refl, codes, ap, ◌∙◌}
use Rattle.redis_commands.specs.Commands.{text, texts}
use Rattle.resp.specs.Replies.{simple_bytes, value_bytes, array_head}
use Rattle.redis_service.specs.Connections.{name_line, ping_line}
use Rattle.redis_service.specs.Texts.{ok_line, count_line}
use Rattle.redis_service.specs.Server.{config_bytes}
use Rattle.redis_service.specs.Replied.{replied_bytes}
use Rattle.redis_service.proofs.SendLemmas.{sends_of}
use Rattle.redis_service.proofs.connection.answer_connection.Goals as goal

pub returns-in-Ping-clause-answers : goal.returns-in-Ping-clause-answers
returns-in-Ping-clause-answers g c pass = (ping_line (text c.in-Ping.text), c.ping.ensures, rw c.in-Ping.is (refl, refl, refl))

pub returns-in-Echo-clause-answers : goal.returns-in-Echo-clause-answers
returns-in-Echo-clause-answers g c pass =
    (value_bytes c.in-Echo.text.now, sends_of c.put_value.result (g.W.Sink.state c.args.sink.now) (g.W.Sink.state c.put_value.new.sink) _ c.put_value.ensures.ok c.put_value.ensures.err, rw c.in-Echo.is (refl, refl, refl))

pub returns-in-Quit-clause-answers : goal.returns-in-Quit-clause-answers
returns-in-Quit-clause-answers g c pass =
    (ok_line, sends_of c.send.result (g.W.Sink.state c.args.sink.now) (g.W.Sink.state c.send.new.sink) _ c.send.ensures.ok c.send.ensures.err, rw c.in-Quit.is (refl, c.leave.ensures, refl))

pub returns-in-Select-clause-answers : goal.returns-in-Select-clause-answers
returns-in-Select-clause-answers g c pass =
    (ok_line, sends_of c.send-in-Select.result (g.W.Sink.state c.args.sink.now) (g.W.Sink.state c.send-in-Select.new.sink) _ c.send-in-Select.ensures.ok c.send-in-Select.ensures.err, rw c.in-Select.is (refl, refl, refl))

pub returns-in-Auth-clause-answers : goal.returns-in-Auth-clause-answers
returns-in-Auth-clause-answers g c pass =
    let (w, sends, lets) = c.let_in_by.ensures.answers pass in (w, sends, rw c.in-Auth.is lets)

pub returns-in-AuthDefault-clause-answers : goal.returns-in-AuthDefault-clause-answers
returns-in-AuthDefault-clause-answers g c pass =
    let (w, sends, lets) = c.let_in.ensures.answers pass in (w, sends, rw c.in-AuthDefault.is lets)

pub returns-in-SetClientInfo-clause-answers : goal.returns-in-SetClientInfo-clause-answers
returns-in-SetClientInfo-clause-answers g c pass =
    (ok_line, sends_of c.send-in-SetClientInfo.result (g.W.Sink.state c.args.sink.now) (g.W.Sink.state c.send-in-SetClientInfo.new.sink) _ c.send-in-SetClientInfo.ensures.ok c.send-in-SetClientInfo.ensures.err, rw c.in-SetClientInfo.is (refl, refl, refl))

pub returns-in-Commands-clause-answers : goal.returns-in-Commands-clause-answers
returns-in-Commands-clause-answers g c pass =
    (array_head 0, sends_of c.send-in-Commands.result (g.W.Sink.state c.args.sink.now) (g.W.Sink.state c.send-in-Commands.new.sink) _ c.send-in-Commands.ensures.ok c.send-in-Commands.ensures.err, rw c.in-Commands.is (refl, refl, refl))

pub returns-in-CommandDocs-clause-answers : goal.returns-in-CommandDocs-clause-answers
returns-in-CommandDocs-clause-answers g c pass =
    (array_head 0, sends_of c.send-in-CommandDocs.result (g.W.Sink.state c.args.sink.now) (g.W.Sink.state c.send-in-CommandDocs.new.sink) _ c.send-in-CommandDocs.ensures.ok c.send-in-CommandDocs.ensures.err, rw c.in-CommandDocs.is (refl, refl, refl))

pub returns-in-CommandCount-clause-answers : goal.returns-in-CommandCount-clause-answers
returns-in-CommandCount-clause-answers g c pass =
    (count_line 0, sends_of c.send-in-CommandCount.result (g.W.Sink.state c.args.sink.now) (g.W.Sink.state c.send-in-CommandCount.new.sink) _ c.send-in-CommandCount.ensures.ok c.send-in-CommandCount.ensures.err, rw c.in-CommandCount.is (refl, refl, refl))

pub returns-in-ClientId-clause-answers : goal.returns-in-ClientId-clause-answers
returns-in-ClientId-clause-answers g c pass =
    (count_line c.number.result, sends_of c.send-in-ClientId.result (g.W.Sink.state c.args.sink.now) (g.W.Sink.state c.send-in-ClientId.new.sink) _ c.send-in-ClientId.ensures.ok c.send-in-ClientId.ensures.err, rw c.in-ClientId.is (ap count_line c.number.ensures, refl, refl))

pub returns-in-Reset-clause-answers : goal.returns-in-Reset-clause-answers
returns-in-Reset-clause-answers g c pass =
    (simple_bytes (codes "RESET"), sends_of c.send-in-Reset.result (g.W.Sink.state c.args.sink.now) (g.W.Sink.state c.send-in-Reset.new.sink) _ c.send-in-Reset.ensures.ok c.send-in-Reset.ensures.err, rw c.in-Reset.is (refl, c.reset.ensures, refl))

pub returns-in-Config-clause-answers : goal.returns-in-Config-clause-answers
returns-in-Config-clause-answers g c pass = (config_bytes c.args.least (texts c.in-Config.parameters.now), c.put_settings.ensures, rw c.in-Config.is (c.args.least, (refl, refl, refl)))

pub returns-in-ClientName-clause-answers : goal.returns-in-ClientName-clause-answers
returns-in-ClientName-clause-answers g c pass = (
  replied_bytes c.name_of.result c.name-name.result.now,
  sends_of c.send-in-ClientName.result (g.W.Sink.state c.args.sink.now) (g.W.Sink.state c.send-in-ClientName.new.sink) _ c.send-in-ClientName.ensures.ok c.send-in-ClientName.ensures.err,
  rw c.in-ClientName.is (c.name_of.ensures ∙ ap name_line c.name-name.ensures, refl, refl),
)

pub returns-in-SetClientName-clause-answers : goal.returns-in-SetClientName-clause-answers
returns-in-SetClientName-clause-answers g c pass =
    let (w, sends, renames) = c.rename.ensures.renames pass in (w, sends, rw c.in-SetClientName.is renames)

pub returns-in-Hello-clause-answers : goal.returns-in-Hello-clause-answers
returns-in-Hello-clause-answers g c pass =
    let (w, sends, answers) = c.hello.ensures.answers pass in (w, sends, rw c.in-Hello.is answers)
