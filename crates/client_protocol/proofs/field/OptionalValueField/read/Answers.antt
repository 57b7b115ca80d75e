use Rattle.client_protocol.specs.Bodies.{limits_after}
use Rattle.client_protocol.proofs.FieldLaws.{no_opt-short, no_opt, value_found}
use Rattle.client_protocol.proofs.field.OptionalValueField.read.Goals as goal

pub returns-in_default-clause-none : goal.returns-in_default-clause-none
returns-in_default-clause-none c = no_opt-short (limits_after c.args.hello) c.args.bytes.now c.in_default.ensures.none

pub returns-in_default-read_value-clause-none : goal.returns-in_default-read_value-clause-none
returns-in_default-read_value-clause-none c =
    no_opt (limits_after c.args.hello) c.args.bytes.now c.in-Some.len c.in-Some.rest.now c.in-Some.ensures.some c.if-len.false c.in_default-read_value.ensures.none

pub returns-clause-some : goal.returns-clause-some
returns-clause-some c =
    value_found c.args.hello c.args.bytes.now c.in-Some.len c.in-Some.rest.now c.read_value.new.value c.in-Some-read_value.rest.now c.in-Some.ensures.some c.in-Some-read_value.ensures.some
