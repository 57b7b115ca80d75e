use Rattle.std.proofs.Common.{◌≡◌, arith, ◌+◌, ◌++◌, List, [], length, refl, sym, ap, subst, ◌∙◌}
use Rattle.bins.specs.Table.{Entry}
use Rattle.bin_stripes.specs.Invoked.{AreOf}
use Rattle.bin_stripes.specs.Passes.{PassState, stripes_of}
use Rattle.bulk_walks.specs.declared.finds.Finds.{Finds}
use Rattle.bulk_walks.specs.declared.part.Gathered.{Gathered}
use Rattle.bulk_walks.specs.declared.walk.Walk.{Walk}
use Rattle.bulk_walks.specs.Kept.{IsGathered}
use Rattle.bulk_walks.specs.Runs.{RunsSome}
use Rattle.bulk_walks.specs.Turns.{WorkerFinds}
use Rattle.bulk_walks.proofs.GatherLemmas.{gathered_none}
use Rattle.bulk_walks.proofs.RunLemmas.{runs_then, told_ok}
use Rattle.bulk_walks.proofs.TeamLemmas.{at_most_64}
use Rattle.bulk_walks.proofs.FindingLemmas.{finds_none, finds_waiting, finds_past, finds_part, finds_at, copies_few}
use Rattle.bulk_walks.proofs.finding.run_turns.Goals as goal
use Rattle.bulk_walks.proofs.finding.run_turns.Goals.{then-stripe-worker+in_ok-finds+in_ok-run_if_enough, else-stripe-worker}

-- some ran by one walk, so they did by another that is the same
by_walk : (walk other : Walk) (gathered : Gathered) (waiting : List Entry) (new : Gathered) (left : List Entry) → walk ≡ other
    → RunsSome walk.kind walk.program.now walk.arg.now gathered waiting new left → RunsSome other.kind other.program.now other.arg.now gathered waiting new left
by_walk walk other gathered waiting new left same runs = subst (λ (walk : Walk). RunsSome walk.kind walk.program.now walk.arg.now gathered waiting new left) same runs

pub loop-stripe-init : goal.loop-stripe-init
loop-stripe-init g c =
    let v = c.args.pass.now.view in
    let none = c.new-finds.ensures.waiting in
    let blank = c.new-finds.ensures.gathered in
    record {
      map = refl;
      walk = c.new-finds.ensures.walk;
      early = [];
      done = subst (λ (es : List Entry). WorkerFinds (stripes_of c.args.worker.now.map.now) 0 c.args.worker.now.workers c.args.worker.now.number v v es) (sym none) (finds_none _ c.args.worker.now.workers c.args.worker.now.number v);
      gathered = gathered_none c.args.walk.now.program.now c.args.walk.now.arg.now c.args.walk.now.kind c.new-finds.result.gathered blank.0 blank.1 blank.2;
      few = let n = ap (λ (es : List Entry). length es) none in omega (arith, n, blank.1);
    }

-- the scan was made, and memory was refused to the visitor
pub returns-in_err-finds-clause-part : goal.returns-in_err-finds-clause-part
returns-in_err-finds-clause-part g c =
    let S = stripes_of c.args.worker.now.map.now in
    let n = c.loop-stripe.stripe in
    let inv = c.loop-stripe.invariant in
    let made = c.visit_stripe.ensures.visits in
    finds_part S c.args.worker.now.workers c.args.worker.now.number c.args.pass.now.view (n + 1) S c.visit_stripe.new.pass.view _ (omega (arith, c.loop-stripe-test.true, c.stripes-stripes.ensures.value))
    (finds_waiting S c.args.worker.now.workers c.args.worker.now.number c.args.pass.now.view n c.loop-stripe.pass.view c.visit_stripe.new.pass.view inv.early c.loop-stripe.finds.waiting (c.loop-stripe.finds.waiting ++ made.shown) made.entries made.shown inv.done
    c.if-stripe-worker.true c.visit_stripe.ensures.same.passes made.scans (subst (λ m. AreOf (stripes_of m) n made.entries) (inv.map ∙ c.requires.map) made.are) made.bounded made.same refl)

-- the counts fit
pub run_if_enough-requires : goal.run_if_enough-requires
run_if_enough-requires g c =
    let made = c.visit_stripe.ensures.visits in
    let waiting = c.loop-stripe.finds.waiting in
    let few = copies_few waiting (waiting ++ made.shown) made.entries made.shown made.bounded made.same refl in
    let most = at_most_64 _ c.stripes-stripes.ensures.count in
    let ran = told_ok c.visit_stripe.new.visitor.outcome c.in_ok-finds.field-0 c.in_ok-finds.was made.visits.runs in
    record { room = omega (arith, few, most, ran.many, c.loop-stripe.invariant.few, c.loop-stripe-test.true, c.stripes-stripes.ensures.value) }

-- or to the program's runs
pub returns-in_err-run_if_enough-clause-part : goal.returns-in_err-run_if_enough-clause-part
returns-in_err-run_if_enough-clause-part g c =
    let S = stripes_of c.args.worker.now.map.now in
    let n = c.loop-stripe.stripe in
    let inv = c.loop-stripe.invariant in
    let made = c.visit_stripe.ensures.visits in
    finds_part S c.args.worker.now.workers c.args.worker.now.number c.args.pass.now.view (n + 1) S c.visit_stripe.new.pass.view _ (omega (arith, c.loop-stripe-test.true, c.stripes-stripes.ensures.value))
    (finds_waiting S c.args.worker.now.workers c.args.worker.now.number c.args.pass.now.view n c.loop-stripe.pass.view c.visit_stripe.new.pass.view inv.early c.loop-stripe.finds.waiting (c.loop-stripe.finds.waiting ++ made.shown) made.entries made.shown inv.done
    c.if-stripe-worker.true c.visit_stripe.ensures.same.passes made.scans (subst (λ m. AreOf (stripes_of m) n made.entries) (inv.map ∙ c.requires.map) made.are) made.bounded made.same refl)

pub returns-clause-part : goal.returns-clause-part
returns-clause-part g c =
    finds_part (stripes_of c.args.worker.now.map.now) c.args.worker.now.workers c.args.worker.now.number c.args.pass.now.view c.loop-stripe.stripe _ c.loop-stripe.pass.view _ (omega (arith, c.stripes-stripes.ensures.value)) c.loop-stripe.invariant.done

pub returns-clause-done : goal.returns-clause-done
returns-clause-done g c =
    let S = stripes_of c.args.worker.now.map.now in
    let W = c.args.worker.now.workers in
    let j = c.args.worker.now.number in
    let v = c.args.pass.now.view in
    let w = c.loop-stripe.pass.view in
    let inv = c.loop-stripe.invariant in
    let part = c.into_part.result in
    let end : c.loop-stripe.stripe ≡ S = omega (arith, c.loop-stripe-test.false, c.loop-stripe.auto.stripe-end, c.stripes-stripes.ensures.value) in
    record {
      early = inv.early;
      finds = subst (λ n. WorkerFinds S n W j v w (inv.early ++ part.waiting)) end
          (subst (λ (es : List Entry). WorkerFinds S c.loop-stripe.stripe W j v w (inv.early ++ es)) (sym c.into_part.ensures.waiting) inv.done);
      gathered = subst (λ (g : Gathered). IsGathered c.args.walk.now.kind c.args.walk.now.program.now c.args.walk.now.arg.now inv.early g) (sym c.into_part.ensures.gathered) inv.gathered;
    }

pub loop-stripe-preserved : goal.loop-stripe-preserved
loop-stripe-preserved g c =
    let S = stripes_of c.args.worker.now.map.now in
    let W = c.args.worker.now.workers in
    let j = c.args.worker.now.number in
    let v = c.args.pass.now.view in
    let n = c.loop-stripe.stripe in
    let inv = c.loop-stripe.invariant in
    let walk = c.args.walk.now in
    let finds = c.loop-stripe.finds in
    elim c.if-stripe-worker.branch [
      | then-stripe-worker+in_ok-finds+in_ok-run_if_enough w ↦
          let made = w.visit_stripe.ensures.visits in
          let visitor = w.visit_stripe.new.visitor in
          let new = w.run_if_enough.new.self in
          let first = by_walk finds.walk.now walk finds.gathered (finds.waiting ++ made.shown) visitor.gathered visitor.waiting inv.walk (told_ok visitor.outcome w.in_ok-finds.field-0 w.in_ok-finds.was made.visits.runs) in
          let second = by_walk visitor.walk.now walk visitor.gathered visitor.waiting new.gathered new.waiting (made.visits.walk ∙ inv.walk) w.in_ok-run_if_enough.ensures.runs in
          let both = runs_then walk.kind walk.program.now walk.arg.now finds.gathered visitor.gathered new.gathered (finds.waiting ++ made.shown) visitor.waiting new.waiting first second in
          let after = both.runs inv.early inv.gathered in
          let later : List Entry = after.0 in
          let counted = ap (λ (f : Finds). f.gathered.scanned) w.finds-is in
          let left = ap (λ (f : Finds). length f.waiting) w.finds-is in
          let few = copies_few finds.waiting (finds.waiting ++ made.shown) made.entries made.shown made.bounded made.same refl in
          record {
            map = ap (λ (p : PassState). p.map) w.pass-is ∙ w.visit_stripe.ensures.same.map ∙ inv.map;
            walk = ap (λ (f : Finds). f.walk.now) w.finds-is ∙ w.run_if_enough.ensures.walk ∙ made.visits.walk ∙ inv.walk;
            early = later;
            done = finds_at S (n + 1) W j v _ _ _ _
                (finds_waiting S W j v n c.loop-stripe.pass.view w.visit_stripe.new.pass.view inv.early finds.waiting (finds.waiting ++ made.shown) made.entries made.shown inv.done w.if-stripe-worker.true
                w.visit_stripe.ensures.same.passes made.scans (subst (λ m. AreOf (stripes_of m) n made.entries) (inv.map ∙ c.requires.map) made.are) made.bounded made.same refl)
                w.pass-is (ap (λ (f : Finds). later ++ f.waiting) w.finds-is ∙ sym after.1.1);
            gathered = subst (λ (f : Finds). IsGathered walk.kind walk.program.now walk.arg.now later f.gathered) (sym w.finds-is) after.1.0;
            few = omega (arith, counted, left, both.many, few, inv.few);
          }
      | else-stripe-worker w ↦
          let counted = ap (λ (f : Finds). f.gathered.scanned) w.finds-is in
          let left = ap (λ (f : Finds). length f.waiting) w.finds-is in
          record {
            map = ap (λ (p : PassState). p.map) w.pass-is ∙ inv.map;
            walk = ap (λ (f : Finds). f.walk.now) w.finds-is ∙ inv.walk;
            early = inv.early;
            done = finds_at S (n + 1) W j v _ _ _ _ (finds_past S W j v n c.loop-stripe.pass.view _ inv.done w.if-stripe-worker.false) w.pass-is (ap (λ (f : Finds). inv.early ++ f.waiting) w.finds-is);
            gathered = subst (λ (f : Finds). IsGathered walk.kind walk.program.now walk.arg.now inv.early f.gathered) (sym w.finds-is) inv.gathered;
            few = omega (arith, counted, left, inv.few);
          }
    ]
