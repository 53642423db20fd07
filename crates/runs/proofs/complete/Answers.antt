use Rattle.runs.proofs.Laying.{directed, laid, finished}
use Rattle.runs.proofs.complete.Goals as goal

pub invariant_of-plan : goal.invariant_of-plan
invariant_of-plan c = record { directed = directed c.requires }

pub invariant_of-count_all : goal.invariant_of-count_all
invariant_of-count_all c = record { laid = laid c.requires c.route.ensures.across c.route.ensures.down c.place.ensures }

pub returns : goal.returns
returns c =
    let f = finished c.requires c.route.ensures.across c.route.ensures.down c.place.ensures c.count_all.ensures in
    record { links = f.0; places = f.1.0; across = f.1.1.0; down = f.1.1.1 }
