use Rattle.std.specs.Int.{w16, w32}
use Rattle.std.proofs.lemmas.Int.{to_z-of_z}
use Rattle.bpf_decode.proofs.UnitLemmas.{unit_again}
use Rattle.bpf_decode.proofs.unit.Fields.from_bytes.Goals as goal

pub returns-clause-spelled : goal.returns-clause-spelled
returns-clause-spelled c =
    rw (to_z-of_z w16 c.read_i16.result (record { sfits = c.read_i16.type_inv }), to_z-of_z w32 c.read_i32.result (record { sfits = c.read_i32.type_inv }))
    (unit_again c.args.unit.now c.read_i16.result c.read_i32.result c.told-unit c.fits-unit c.read_i16.ensures c.read_i32.ensures)
