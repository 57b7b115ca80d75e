-- What is known of a script that was read and registered.
use Rattle.std.proofs.Common.{◌≡◌, ℕ, List, false}
use Rattle.verifier.specs.Checked.{Checked}
use Rattle.admission.specs.Admissions.{IsAdmitted}
use Rattle.redis_scripts.specs.declared.head.Head.{Head}
use Rattle.redis_scripts.specs.Code.{first_line, other_lines, code_of_all}
use Rattle.redis_scripts.specs.Heads.{IsHead, merges_with_now}
use Rattle.redis_scripts.specs.Scripts.{GivesBytes, Says}

-- the program of the bytes is admitted with the sizes in the first line
pub says-admitted : (text bytes : List ℕ) (head : Head) (program : Checked) → IsHead (first_line text) head → merges_with_now head.method head.with_now ≡ false → GivesBytes (code_of_all (other_lines text)) bytes
    → IsAdmitted bytes head.sizes program.program → program.sizes ≡ head.sizes → Says text head.method head.reply head.with_now program
says-admitted text bytes head program begins served gives admitted same = record {
  bytes = bytes;
  head = rw same begins;
  served = served;
  code = gives;
  admitted = rw same admitted;
}
