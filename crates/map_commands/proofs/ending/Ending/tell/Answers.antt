use Rattle.map_commands.proofs.ending.Ending.tell.Goals as goal

pub returns-in-BadStripes : goal.returns-in-BadStripes
returns-in-BadStripes g c = rw c.in-BadStripes.is c.refuse-in-BadStripes.ensures
