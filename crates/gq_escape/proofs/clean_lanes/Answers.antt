use Rattle.gq_escape.proofs.Escaping.{clean_of, mark_of, within_of}
use Rattle.gq_escape.proofs.clean_lanes.Goals as goal

pub returns-clause-within : goal.returns-clause-within
returns-clause-within c = within_of c.args.lanes _ _ _ c.fits-lanes.0 c.lanes_before-marks.ensures c.least-2.ensures.second

pub returns-clause-clean : goal.returns-clause-clean
returns-clause-clean c =
    clean_of c.args.lanes _ _ _ _ _ c.lanes_before-newlines.ensures c.lanes_before-spaces.ensures c.lanes_before-marks.ensures c.least.ensures.first c.least.ensures.second c.least-2.ensures.first c.least-2.ensures.second

pub returns-clause-mark : goal.returns-clause-mark
returns-clause-mark c = λ small.
    mark_of c.args.lanes _ _ _ _ _ c.lanes_before-newlines.ensures c.lanes_before-spaces.ensures c.lanes_before-marks.ensures c.fits-lanes.0 small c.least-2.ensures.one c.least.ensures.one
