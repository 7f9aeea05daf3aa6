use Rattle.std.proofs.Common.{◌≡◌, ap, ◌∙◌, subst}
use Rattle.std.specs.Prelude.{map, Ok}
use Rattle.std.proofs.lemmas.Result.{on_err_weaker}
use Rattle.gq_lines.proofs.Extending.{extends_more}
use Rattle.gq_setup.specs.Texts.{opening_event, setup_text}
use Rattle.gq_setup.specs.Setups.{Setup, setup_of}
use Rattle.gq_setup.proofs.Reading.{all_in, text_tells, on_ok}
use Rattle.gq_setup.proofs.setup.Setup.put_lines.Goals as goal

pub write_script-requires : goal.write_script-requires
write_script-requires c =
    all_in c.self.inside.plan c.self.inside.openings.items c.as_slice-2.result.now (c.as_slice-2.ensures.value ∙ c.in_ok-events.ensures ∙ ap (map opening_event) c.as_slice.ensures.value) c.self.invariant.1

pub returns-clause-back : goal.returns-clause-back
returns-clause-back c =
    on_ok c.put_behind.result (subst (λ (s : Setup). setup_of (setup_text s) ≡ Ok s) c.self.view_is
    (text_tells c.self.inside.plan c.self.inside.openings.items c.self.inside.rooms.items c.self.inside.lost c.self.inside.gone.items c.as_slice-2.result.now (c.as_slice-2.ensures.value ∙ c.in_ok-events.ensures ∙ ap (map opening_event) c.as_slice.ensures.value) c.self.invariant.1 c.self.invariant.2 c.self.invariant.3 c.self.invariant.4 c.in_ok-write_script.ensures.back))

pub returns-clause-err : goal.returns-clause-err
returns-clause-err c = on_err_weaker c.put_behind.result (extends_more _ _ _ _ c.in_ok-write_script.ensures.ok) c.put_behind.ensures.err
