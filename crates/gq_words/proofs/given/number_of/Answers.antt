use Rattle.std.proofs.Common.{ℕ, sym, subst}
use Rattle.clap.specs.Matches.{found_of}
use Rattle.clap.specs.Walk.{rows_of}
use Rattle.gq_words.specs.Given.{IsNumberGiven}
use Rattle.gq_words.proofs.Values.{number_read}
use Rattle.gq_words.proofs.given.number_of.Goals as goal

pub returns : goal.returns
returns c =
    let P : ℕ → Type 0 = λ number. IsNumberGiven (rows_of (found_of c.args.matches.now)) c.args.id.now c.args.otherwise number in
    subst P (sym c.unwrap_or.ensures) (number_read (found_of c.args.matches.now) c.args.id.now c.get_one.result c.args.otherwise c.get_one.ensures.none c.get_one.ensures.value)
