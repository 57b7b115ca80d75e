use Rattle.std.proofs.Common.{◌≡◌, ◌≤◌, map, vec_len, vec_capacity, Some}
use Rattle.workers.proofs.jobs.handed_back.Given as goal

abbrev pub invariant-loop-job : goal.invariant-loop-job
invariant-loop-job g l = record {
  own : l.left.items ≡ map (λ job. job.own) l.yielded;
  answers : map Some l.answers.items ≡ map (λ job. job.answer) l.yielded;
  room : vec_len l.fn.jobs ≤ vec_capacity l.left;
  spare : vec_len l.fn.jobs ≤ vec_capacity l.answers;
}
