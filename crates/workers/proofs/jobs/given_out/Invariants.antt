use Rattle.std.proofs.Common.{◌≡◌, ◌≤◌, map, vec_len, vec_capacity}
use Rattle.workers.specs.Workers.{job_of}
use Rattle.workers.proofs.jobs.given_out.Given as goal

abbrev pub invariant-loop-own : goal.invariant-loop-own
invariant-loop-own g l = record {
  given : l.jobs.items ≡ map job_of l.yielded;
  room : vec_len l.fn.all ≤ vec_capacity l.jobs;
}
