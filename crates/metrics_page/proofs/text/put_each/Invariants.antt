-- the lines so far
use Rattle.std.proofs.Common.{◌≡◌, ◌≤◌, ◌+◌, ◌*◌, ◌++◌, take}
use Rattle.arrayvec.specs.ArrayVec.{array_vec_len}
use Rattle.metrics_page.specs.Pages.{series_lines}
use Rattle.metrics_page.proofs.text.put_each.Given as goal

abbrev pub invariant-loop-one : goal.invariant-loop-one
invariant-loop-one l = record {
  items : l.text.items ≡ l.fn.text.items ++ series_lines l.name l.key (take l.one-index l.all);
  len : array_vec_len l.text ≤ array_vec_len l.fn.text + l.one-index * 104;
}
