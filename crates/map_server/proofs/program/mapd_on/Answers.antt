use Rattle.std.proofs.Common.{inl, inr, refl}
use Rattle.map_server.proofs.program.mapd_on.Goals as goal

pub returns-in-Err : goal.returns-in-Err
returns-in-Err g c = record { runs = inl (c.ending_of_fault.result, c.ending_of_fault.ensures, c.tell.ensures) }

pub returns-in-Ok-open_server : goal.returns-in-Ok-open_server
returns-in-Ok-open_server g c = record { runs = inr (c.in-Ok.asked, c.in-Ok.ensures.ok, inr (inr (c.in-Ok-open_server.ensures.ok, c.listen.ensures))) }

pub returns : goal.returns
returns g c = record { runs = inr (c.in-Ok.asked, c.in-Ok.ensures.ok, inr (inl (c.in-Err-open_server.fault, c.in-Err-open_server.ensures.err, c.tell_fault.ensures))) }

pub returns-in-Err-given_password : goal.returns-in-Err-given_password
returns-in-Err-given_password g c =
    record { runs = inr (c.in-Ok.asked, c.in-Ok.ensures.ok, inl (c.in-Err-given_password.ensures.err, c.tell_no_password.ensures, refl)) }
