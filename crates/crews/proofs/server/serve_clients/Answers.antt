use Rattle.std.proofs.Common.{suc, sym, subst}
use Rattle.program_registry.specs.declared.registry.Registry.{Registry}
use Rattle.crews.proofs.ServeLemmas.{carries_on, is_answered}
use Rattle.crews.proofs.server.serve_clients.Goals as goal

pub next-requires-in-loop : goal.next-requires-in-loop
next-requires-in-loop g c = (c.args.worker.now.map.now, c.args.worker.now.registry.now, c.requires.serves, c.loop.invariant.of)

pub ended-requires : goal.ended-requires
ended-requires g c = record {
  session = (
    c.loop.crew,
    is_answered g.R.Source.state g.W.Sink.state g.A.Accept.gave c.loop.crew c.in-Some-next.reader c.in-Some-next.writer c.session_with_tokens-back.result.1 c.session_with_tokens-back.new.reader c.session_with_tokens-back.new.writer c.session_with_tokens-back.result.0
        c.session_with_tokens-back.ensures.same c.in-Some-next.ensures.gave c.args.worker.now.registry.now c.session_with_tokens-back.result.2 c.session_with_tokens-back.ensures.registry c.session_with_tokens-back.ensures.ended,
  );
  serves = (
    c.args.worker.now.map.now,
    subst (λ (r : Registry). g.A.Accept.serves c.args.accept.now c.args.worker.now.map.now r) (sym c.session_with_tokens-back.ensures.registry) c.requires.serves,
    c.session_with_tokens-back.ensures.crew,
  );
}

pub loop-preserved : goal.loop-preserved
loop-preserved g c =
    let (n, so_far) = c.loop.invariant.served in
    let back = c.session_with_tokens-back.result.0 in
    record {
      of = c.session_with_tokens-back.ensures.crew;
      same = carries_on c.args.crew c.loop.crew back c.loop.invariant.same c.session_with_tokens-back.ensures.same;
      served = (
        suc n,
        (
          c.loop.crew,
          so_far,
          record {
            end = c.session_with_tokens-back.result.1;
            reader = c.session_with_tokens-back.new.reader;
            writer = c.session_with_tokens-back.new.writer;
            tokens = c.session_with_tokens-back.result.2;
            of = c.session_with_tokens-back.ensures.registry;
            session = is_answered g.R.Source.state g.W.Sink.state g.A.Accept.gave c.loop.crew c.in-Some-next.reader c.in-Some-next.writer c.session_with_tokens-back.result.1 c.session_with_tokens-back.new.reader c.session_with_tokens-back.new.writer back
                c.session_with_tokens-back.ensures.same c.in-Some-next.ensures.gave c.args.worker.now.registry.now c.session_with_tokens-back.result.2 c.session_with_tokens-back.ensures.registry c.session_with_tokens-back.ensures.ended;
          },
        ),
      );
    }
