-- `walk::found`.
use Rattle.mapper.specs.Walking.{found_walk}
use Rattle.mapper.proofs.walk.found.Goals as goal

pub returns : goal.returns
unfolding found_walk
returns c = record { value = c.decided.ensures; work_after = c.save.ensures }
