use Rattle.std.proofs.Common.{length, ◌-◌, ◌+◌, ◌*◌}
use Rattle.paths.specs.Path.{is_open}
use Rattle.trials.specs.Inner.{keeps_on, Noted}
use Rattle.trials.proofs.Looping.{State}
use Rattle.trials.proofs.Trials.search.Given as goal

-- what is left of the trials, from the trial that is next
abbrev pub invariant-loop-k : goal.invariant-loop-k
invariant-loop-k l =
    let t = l.self in
    record {
      state : State (keeps_on t.map.shape.rows t.map.shape.columns t.map.grid.now) (is_open t.map.shape.rows t.map.shape.columns t.map.grid.now) t.starts.now l.limit (length l.fn.chosen) l.chosen l.k l.d l.spent;
      noted : Noted t.map.shape.rows t.map.shape.columns t.map.grid.now t.starts.now l.notes;
    }

-- it falls with each trial made and with each return
abbrev pub decreases-loop-k : goal.decreases-loop-k
decreases-loop-k l = 2 * (l.limit - l.spent) + l.k
