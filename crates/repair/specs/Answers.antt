-- `told` loses nothing of the planner's and the follower's answers: the statement. (Placement and routing answer a verdict.)
-- Assumes nothing.
use Rattle.array.specs.Tests.{LosesNothing}
use Rattle.track.specs.Follower as follower
use Rattle.repair.specs.Operations.{told}

pub record AnswersKept : Type 0 where
  pub planner : LosesNothing told
  pub follower : LosesNothing follower.told
