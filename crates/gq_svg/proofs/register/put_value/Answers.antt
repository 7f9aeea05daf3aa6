use Rattle.std.proofs.Common.{◌∙◌, ◌++◌, ℕ, List, ap}
use Rattle.gq_svg.specs.Register.{bytes_text}
use Rattle.gq_svg.proofs.register.put_value.Goals as goal

pub returns : goal.returns
returns c = c.in_ok-put_bytes.ensures ∙ ap (λ (bytes : List ℕ). c.args.out.now.items ++ bytes_text bytes c.args.value) c.written_by.ensures
