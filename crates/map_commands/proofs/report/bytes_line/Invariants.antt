-- the bytes so far are in the line
use Rattle.std.proofs.Common.{◌≡◌, ◌+◌, ◌*◌, ◌++◌, codes, take}
use Rattle.std.specs.List.{flat_map}
use Rattle.arrayvec.specs.ArrayVec.{array_vec_len}
use Rattle.map_commands.specs.Reports.{spaced}
use Rattle.map_commands.proofs.report.bytes_line.Given as goal

abbrev pub invariant-loop-byte : goal.invariant-loop-byte
invariant-loop-byte l = record {
  items : l.line.items ≡ codes "bytes" ++ flat_map spaced (take l.byte-index l.bytes);
  len : array_vec_len l.line ≡ 5 + 3 * l.byte-index;
}
