use Rattle.flow_shape.proofs.ShapeLemmas.{shaped_forward}
use Rattle.flow_shape.proofs.shaping.Shaped.program.Goals as goal

pub returns-clause-forward : goal.returns-clause-forward
returns-clause-forward c = rw (← c.self.view_is) (shaped_forward c.self.inside.program c.self.invariant)
