use Rattle.std.proofs.Common.{inl, inr, refl, Ok, Err}
use Rattle.map_commands.proofs.ExecutionLemmas.{is_no_bad_count, is_opened, is_want_of_memory}
use Rattle.map_commands.proofs.exec.exec.Goals as goal

pub returns-in-Err-NoMemory : goal.returns-in-Err-NoMemory
returns-in-Err-NoMemory g c =
    inr (inl (is_no_bad_count c.args.stripes c.from.result (Err c.in-Err-NoMemory.field-0) c.from.ensures (is_want_of_memory c.in-Err-NoMemory.field-0 c.in-Err-NoMemory.field-0-is) c.in-Err-NoMemory.ensures.bad_stripes, c.tell-in-Err-NoMemory.ensures, refl))

pub returns : goal.returns
returns g c =
    let (read, (written, (consumed, (appended, ended)))) = c.session_alone-end.ensures.ended in
    inr (inr (
      is_no_bad_count c.args.stripes c.from.result (Ok c.in-Ok.alone) c.from.ensures (is_opened c.in-Ok.alone) c.in-Ok.ensures.bad_stripes,
      record {
        end = c.session_alone-end.result;
        session = record {
          before = c.in-Ok.alone;
          is_new = c.in-Ok.ensures.ok;
          after = c.session_alone-end.new.alone;
          read = read;
          written = written;
          consumed = consumed;
          appended = appended;
          ended = ended;
          told = c.session_alone-end.ensures.told;
          whole = c.session_alone-end.ensures.whole;
          reads = c.session_alone-end.ensures.reads;
          writes = c.session_alone-end.ensures.writes;
          sent = c.session_alone-end.ensures.sent;
        };
        ending = c.tell_end.ensures;
      },
    ))
