use Rattle.std.proofs.Common.{rules, ◌≡◌, ◌<◌, ◌∙◌, [], length, slice_index_or}
use Rattle.std.proofs.lemmas.List.{get_or_default}
use Rattle.gq_session.proofs.fitting.have_requests.Goals as goal

pub returns-then-not-are_requests_of-clause-no : goal.returns-then-not-are_requests_of-clause-no
returns-then-not-are_requests_of-clause-no c all =
    let low : c.loop-place.place < length c.args.programs.now = search rules in
    let here = all c.loop-place.place low in
    let lines : c.as_slice.result.now ≡ slice_index_or c.args.programs.now c.loop-place.place [] = c.as_slice.ensures.value ∙ (c.lines.view_is ∙ (c.index-programs-place.is ∙ get_or_default c.args.programs.now c.loop-place.place _ [] low)) in
    let passes = c.are_requests_of.ensures.no (rw lines here.0) (rw lines here.1) in
    search rules
