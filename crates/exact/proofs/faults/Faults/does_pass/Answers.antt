use Rattle.exact.proofs.Crossings.{entry_passes}
use Rattle.exact.proofs.faults.Faults.does_pass.Goals as goal

pub returns : goal.returns
returns c =
    let p = c.requires in
    entry_passes c.args.self.now.sited c.args.f c.args.d c.args.g c.args.e _ p.0 p.1 p.2 p.3 p.4 p.5 p.6 c.find_entry.ensures
