-- As the last plan was read.
use Rattle.std.proofs.Common.{◌≡◌, ◌∙◌, List, length, sym, ap, subst}
use Rattle.std.specs.Prelude.{Ok, Option, IsErr, MatchOption}
use Rattle.std.proofs.lemmas.Bool.{eqb-true}
use Rattle.gq_setup.specs.Setups.{Setup}
use Rattle.gq_setup.specs.Texts.{setup_of_node_text}
use Rattle.gq_lines.specs.Words.{Word}
use Rattle.gq_service.proofs.WhoWent.{nobody_went, none_went, went_by}
use Rattle.gq_service.proofs.gone.somebody_went.Goals as goal

pub returns-then-is_empty : goal.returns-then-is_empty
returns-then-is_empty c =
    nobody_went c.args.setup.now c.args.journal.now
    (sym (ap (λ (names : List Word). length names) c.gone.ensures.gone) ∙ eqb-true (length c.gone.result.now) 0 (sym c.is_empty.ensures ∙ c.if-is_empty.true))

pub returns-in-None : goal.returns-in-None
returns-in-None c =
    none_went c.args.setup.now c.args.journal.now c.in_ok-last.last.now c.in_ok-last.ensures
    (subst (λ (o : Option Setup). MatchOption o (IsErr (setup_of_node_text c.in_ok-last.last.now)) (λ s. setup_of_node_text c.in_ok-last.last.now ≡ Ok s)) c.in-None.is c.in_ok-read.ensures.setup)

pub returns-in-Some : goal.returns-in-Some
returns-in-Some c =
    let read : setup_of_node_text c.in_ok-last.last.now ≡ Ok c.in-Some.old =
    subst (λ (o : Option Setup). MatchOption o (IsErr (setup_of_node_text c.in_ok-last.last.now)) (λ s. setup_of_node_text c.in_ok-last.last.now ≡ Ok s)) c.in-Some.is c.in_ok-read.ensures.setup in
    c.are_more.ensures ∙ sym (went_by c.args.setup.now c.args.journal.now c.in_ok-last.last.now (Ok c.in-Some.old) c.in_ok-last.ensures read)
