-- `second::planner::Search::extend` ends: each call goes on behind the fault that was given a direction.
-- Assumes nothing.
use Rattle.std.proofs.Common.{◌-◌}
use Rattle.second.proofs.planner.Search.+extend.Given as goal

abbrev pub decreases-extend : goal.decreases-extend
decreases-extend l = 1024 - l.from
