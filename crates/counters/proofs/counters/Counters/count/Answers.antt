use Rattle.std.proofs.Common.{rules, ◌≡◌, subst}
use Rattle.std.specs.Int.{w64, to_le_bytes}
use Rattle.atomic_methods.specs.Invocations.{on_key, merge}
use Rattle.atomic_methods.specs.Plans.{reply_by}
use Rattle.bin_stripes.specs.Invoked.{Calls}
use Rattle.counters.specs.Visits.{visit}
use Rattle.counters.proofs.counters.Counters.count.Goals as goal

pub returns-in-Some-Some-clause-ok : goal.returns-in-Some-Some-clause-ok
returns-in-Some-Some-clause-ok g c =
    let sum = c.args.self.now.sum in
    let bytes = c.call_into.new.bytes in
    let one : c.unwrap-one.result ≡ to_le_bytes w64 1 = search rules in
    let called = subst (λ value. Calls c.args.pass.now (on_key c.args.page.now (merge value sum)) (reply_by c.in_ok-kind.kind bytes) c.call_into.new.pass)
    one c.in_ok-kind.ensures.ok in
    record {
      bytes = bytes;
      calls = subst (λ kind. Calls c.args.pass.now (visit sum c.args.page.now) (reply_by kind bytes) c.call_into.new.pass) c.in-Some-Some.is-0 called;
      eight = c.in-Some-Some.ensures.0;
      is = c.in-Some-Some.ensures.1;
    }
