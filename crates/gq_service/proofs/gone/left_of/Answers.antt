use Rattle.std.proofs.Common.{◌∙◌, List, ap}
use Rattle.std.specs.Prelude.{Some}
use Rattle.gq_setup.specs.Leaving.{without}
use Rattle.gq_lines.specs.Words.{Word}
use Rattle.gq_service.proofs.gone.left_of.Goals as goal

pub returns : goal.returns
returns c = ap Some (c.in_ok-left.ensures ∙ ap (λ (names : List Word). without names c.args.begun.now) c.gone.ensures.gone)
