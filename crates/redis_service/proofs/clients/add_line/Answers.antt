use Rattle.redis_service.proofs.ClientLemmas.{line_added}
use Rattle.redis_service.proofs.clients.add_line.Goals as goal

pub returns : goal.returns
returns c =
    let name = c.args.name.now in
    let command = c.as_slice.result.now in
    line_added c.add_library.result c.args.now (record { client = c.args.view.now; name = name; command = command }) c.args.text.now.items
    c.add_addresses.new.text.items c.add_name.new.text.items c.add_times.new.text.items c.add_command.new.text.items
    c.add_version.new.text.items c.add_library.new.text.items
    (c.in_ok-add_addresses.ensures name command) (c.in_ok-add_name.ensures command) (c.in_ok-add_times.ensures name command)
    (c.in_ok-add_command.ensures name) (c.in_ok-add_version.ensures name command) (c.add_library.ensures name command)
