use Rattle.std.proofs.Common.{◌∙◌}
use Rattle.previews.proofs.Foretelling.{refused_foretells, accepted_foretells, accepted_below}
use Rattle.previews.proofs.preview.Goals as goal

pub shown-foretold-requires : goal.shown-foretold-requires
shown-foretold-requires c = accepted_below c.args.s c.args.failing c.args.position _ c.report-after.ensures.answer c.in-Ok.is

pub returns-in-Ok-clause-foretold : goal.returns-in-Ok-clause-foretold
returns-in-Ok-clause-foretold c =
    c.shown-foretold.ensures
    ∙ accepted_foretells c.args.s c.args.failing c.args.position _ c.report-after.ensures.answer c.in-Ok.is c.report-after.ensures.session

pub returns-in-Err-clause-foretold : goal.returns-in-Err-clause-foretold
returns-in-Err-clause-foretold c =
    c.nothing-foretold.ensures
    ∙ refused_foretells c.args.s c.args.failing c.args.position _ c.report-after.ensures.answer c.in-Err.is
