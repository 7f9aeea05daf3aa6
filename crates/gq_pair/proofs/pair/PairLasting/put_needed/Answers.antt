use Rattle.std.proofs.lemmas.Result.{on_ok_weaker}
use Rattle.gq_pair.specs.Pairing.{needs_both}
use Rattle.gq_pair.proofs.pair.PairLasting.put_needed.Goals as goal

pub returns : goal.returns
returns g c = λ plan its. on_ok_weaker c.put_needed-2.result
    (λ two. needs_both (λ p. p.first) (λ p. p.second) g.A.Machine.recalls g.B.Machine.recalls g.R.Parts.is_second g.A.Machine.readable g.B.Machine.readable (g.A.Lasting.blank plan) g.A.Lasting.rests (g.B.Lasting.blank plan) g.B.Lasting.rests c.args.self.now _ _ _
    g.met.R.Parts.first_reads g.met.R.Parts.second_reads (c.in_ok-put_needed.ensures plan its.0) two)
    (c.put_needed-2.ensures plan its.1)
