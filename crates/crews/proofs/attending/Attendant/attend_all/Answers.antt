use Rattle.std.proofs.Common.{ℕ, List, Option, ◌++◌, ◌+◌, sym, ap, subst, ◌∙◌, refl, arith}
use Rattle.atomic_table.specs.Seated.{TableId}
use Rattle.bin_stripes.specs.Passes.{PassState}
use Rattle.program_registry.specs.declared.registry.Registry.{Registry}
use Rattle.server_state.specs.Passwords.{lent}
use Rattle.slab.specs.Slab.{slab_len}
use Rattle.crews.specs.Arrivals.{CountGoes}
use Rattle.crews.specs.Seats.{IsAttended}
use Rattle.crews.specs.Stations.{KeptTokens, no_tokens}
use Rattle.crews.specs.Lives.{known}
use Rattle.crews.proofs.CountLemmas.{counts_by, counts_on, counts_stay}
use Rattle.crews.proofs.SeatLemmas.{no_more, and_more}
use Rattle.crews.proofs.attending.Attendant.attend_all.Goals as goal

pub loop-init : goal.loop-init
loop-init g c = record {
  attended = λ old turns attended.
      let s = c.args.self.now in
      no_more g.C.Channel.state g.P.Clients.gave c.args.worker.now.registry.now c.args.state.now.password old turns (known s.room.serving) s.came s.seats attended;
  desk = refl;
  there = counts_stay (g.P.Clients.there c.args.worker.now.registry.now) c.args.clients.now (slab_len c.args.self.now.seats) (slab_len c.args.self.now.seats) refl;
}

pub next-requires-in-loop : goal.next-requires-in-loop
next-requires-in-loop g c =
    let (old, turns, attended) = c.requires.attended in
    let (more, now) = c.loop.invariant.attended old turns attended in
    subst (λ (id : TableId). g.P.Clients.serves id) (attended.0.numbers.map_is ∙ sym now.0.numbers.map_is ∙ sym (ap (λ (p : PassState). p.map) c.pass.ensures)) c.requires.serves

pub take_in-requires : goal.take_in-requires
take_in-requires g c = record {
  gave = subst (λ (p : PassState). g.P.Clients.gave p c.in-Came.channel c.in-Came.protocol) c.pass.ensures (c.in-Came.ensures.gave c.in-Came.channel c.in-Came.protocol refl);
  none = c.new-tokens.ensures ∙ ap no_tokens (sym (ap (λ (k : KeptTokens). k.registry) c.new-tokens.ensures));
}

pub serve_one-requires-clause-attended : goal.serve_one-requires-clause-attended
serve_one-requires-clause-attended g c κs within =
    let (old, turns, attended) = c.requires.attended in
    let (more, now) = c.loop.invariant.attended old turns attended in
    (c.args.worker.now.registry.now, c.args.state.now.password, old, turns ++ more, now)

pub serve_one-requires-clause-desk : goal.serve_one-requires-clause-desk
serve_one-requires-clause-desk g c κs within =
    let (old, turns, attended) = c.requires.attended in
    let (more, now) = c.loop.invariant.attended old turns attended in
    now.0.numbers.map_is ∙ sym attended.0.numbers.map_is ∙ c.requires.desk ∙ sym c.loop.invariant.desk

pub let_go-requires : goal.let_go-requires
let_go-requires g c =
    let (old, turns, attended) = c.requires.attended in
    let (more, now) = c.loop.invariant.attended old turns attended in
    record { attended = (c.args.worker.now.registry.now, c.args.state.now.password, old, turns ++ more, now) }

pub sweep-requires : goal.sweep-requires
sweep-requires g c =
    let (old, turns, attended) = c.requires.attended in
    let (more, now) = c.loop.invariant.attended old turns attended in
    record { desk = now.0.numbers.map_is ∙ sym attended.0.numbers.map_is ∙ c.requires.desk ∙ sym c.loop.invariant.desk }

pub loop-preserved-in-Came : goal.loop-preserved-in-Came
loop-preserved-in-Came g c = record {
  attended = λ old turns attended. let (more, now) = c.loop.invariant.attended old turns attended in
      let s = c.loop.self in
      let t = c.take_in.new.self in
      let of = ap (λ (k : KeptTokens). k.registry) c.new-tokens.ensures in
      let is = c.password.ensures in
      let L = lent c.password.result in
      let A = λ (r : Registry) (p : Option (List ℕ)). IsAttended g.C.Channel.state g.P.Clients.gave r p old (turns ++ more) in
      let before = subst (λ (p : Option (List ℕ)). A c.new-tokens.result.registry p (known s.room.serving) s.came s.seats) (sym is) (subst (λ (r : Registry). A r c.args.state.now.password (known s.room.serving) s.came s.seats) (sym of) now) in
      let after = c.take_in.ensures.attended old (turns ++ more) before in
      (more, subst (λ (p : Option (List ℕ)). A c.args.worker.now.registry.now p (known t.room.serving) t.came t.seats) is (subst (λ (r : Registry). A r L (known t.room.serving) t.came t.seats) of after));
  desk = c.take_in.ensures.desk ∙ c.loop.invariant.desk;
  there =
      let there = g.P.Clients.there c.args.worker.now.registry.now in
      let n = slab_len c.loop.self.seats in
      let of = ap (λ (k : KeptTokens). k.registry) c.new-tokens.ensures in
      counts_on there c.args.clients.now c.loop.clients c.take_in.new.clients (slab_len c.args.self.now.seats) n (slab_len c.take_in.new.self.seats) c.loop.invariant.there
      (counts_on there c.loop.clients c.next-in-loop.new.self c.take_in.new.clients n (n + 1) (slab_len c.take_in.new.self.seats)
      (counts_by there c.loop.clients c.next-in-loop.new.self 0 1 n n (n + 1) (omega arith) (omega arith) (c.in-Came.ensures.there c.args.worker.now.registry.now)) (subst (λ (r : Registry). CountGoes (g.P.Clients.there r) c.next-in-loop.new.self (n + 1) c.take_in.new.clients (slab_len c.take_in.new.self.seats)) of c.take_in.ensures.there));
}

pub loop-preserved-in-Ready : goal.loop-preserved-in-Ready
loop-preserved-in-Ready g c = record {
  attended = λ old turns attended.
      let (more, now) = c.loop.invariant.attended old turns attended in
      let (last, then) = c.serve_one.ensures.attended c.args.worker.now.registry.now c.args.state.now.password old (turns ++ more) now in
      let s = c.serve_one.new.self in
      and_more g.C.Channel.state g.P.Clients.gave c.args.worker.now.registry.now c.args.state.now.password old turns more last (known s.room.serving) s.came s.seats then;
  desk = c.serve_one.ensures.desk ∙ c.loop.invariant.desk;
  there =
      let (first, begun, attended) = c.requires.attended in
      let (more, now) = c.loop.invariant.attended first begun attended in
      let there = g.P.Clients.there c.args.worker.now.registry.now in
      let n = slab_len c.loop.self.seats in
      counts_on there c.args.clients.now c.loop.clients c.serve_one.new.clients (slab_len c.args.self.now.seats) n (slab_len c.serve_one.new.self.seats) c.loop.invariant.there
      (counts_on there c.loop.clients c.next-in-loop.new.self c.serve_one.new.clients n n (slab_len c.serve_one.new.self.seats)
      (counts_by there c.loop.clients c.next-in-loop.new.self 0 0 n n n (omega arith) (omega arith) (c.in-Ready.ensures.there c.args.worker.now.registry.now)) (c.serve_one.ensures.there c.args.worker.now.registry.now c.args.state.now.password first (begun ++ more) now));
}

pub loop-preserved-in-LetGo : goal.loop-preserved-in-LetGo
loop-preserved-in-LetGo g c = record {
  attended = λ old turns attended. let (more, now) = c.loop.invariant.attended old turns attended in (more, c.let_go.ensures.attended c.args.worker.now.registry.now c.args.state.now.password old (turns ++ more) now);
  desk = c.let_go.ensures.desk ∙ c.loop.invariant.desk;
  there =
      let (first, begun, attended) = c.requires.attended in
      let (more, now) = c.loop.invariant.attended first begun attended in
      let there = g.P.Clients.there c.args.worker.now.registry.now in
      let n = slab_len c.loop.self.seats in
      counts_on there c.args.clients.now c.loop.clients c.let_go.new.clients (slab_len c.args.self.now.seats) n (slab_len c.let_go.new.self.seats) c.loop.invariant.there
      (counts_on there c.loop.clients c.next-in-loop.new.self c.let_go.new.clients n n (slab_len c.let_go.new.self.seats)
      (counts_by there c.loop.clients c.next-in-loop.new.self 0 0 n n n (omega arith) (omega arith) (c.in-LetGo.ensures.there c.args.worker.now.registry.now)) (c.let_go.ensures.there c.args.worker.now.registry.now c.args.state.now.password first (begun ++ more) now));
}

pub loop-preserved : goal.loop-preserved
loop-preserved g c = record {
  attended = λ old turns attended.
      let (more, now) = c.loop.invariant.attended old turns attended in
      let (last, then) = c.sweep.ensures.attended c.args.worker.now.registry.now c.args.state.now.password old (turns ++ more) now in
      let s = c.sweep.new.self in
      and_more g.C.Channel.state g.P.Clients.gave c.args.worker.now.registry.now c.args.state.now.password old turns more last (known s.room.serving) s.came s.seats then;
  desk = c.sweep.ensures.desk ∙ c.loop.invariant.desk;
  there =
      let there = g.P.Clients.there c.args.worker.now.registry.now in
      let n = slab_len c.loop.self.seats in
      counts_on there c.args.clients.now c.loop.clients c.sweep.new.clients (slab_len c.args.self.now.seats) n (slab_len c.sweep.new.self.seats) c.loop.invariant.there
      (counts_on there c.loop.clients c.next-in-loop.new.self c.sweep.new.clients n n (slab_len c.sweep.new.self.seats)
      (counts_by there c.loop.clients c.next-in-loop.new.self 0 0 n n n (omega arith) (omega arith) (c.in-Sweep.ensures.there c.args.worker.now.registry.now)) (c.sweep.ensures.there c.args.worker.now.registry.now));
}

pub returns-in-Over-clause-there : goal.returns-in-Over-clause-there
returns-in-Over-clause-there g c =
    let there = g.P.Clients.there c.args.worker.now.registry.now in
    let n = slab_len c.loop.self.seats in
    counts_on there c.args.clients.now c.loop.clients c.next-in-loop.new.self (slab_len c.args.self.now.seats) n n c.loop.invariant.there
    (counts_by there c.loop.clients c.next-in-loop.new.self 0 0 n n n (omega arith) (omega arith) (c.in-Over.ensures.there c.args.worker.now.registry.now))
