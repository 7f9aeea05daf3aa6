use Rattle.std.proofs.Common.{length, ◌∙◌, sym, ap, subst, refl}
use Rattle.std.specs.Prelude.{IsSome}
use Rattle.std.specs.Option.{option_copied}
use Rattle.gq_chunks.proofs.Needing.{wrote_none, zero_gap, in_place}
use Rattle.gq_chunks.proofs.needed.put_zero.Goals as goal

pub returns-in_default : goal.returns-in_default
returns-in_default c lacks fit = wrote_none c.args.plan.now c.args.tenant (length c.args.depot.now.stock.sessions.items) c.args.facts.now.items _ _ (zero_gap c.args.depot.now lacks c.args.place c.index.result.now c.requires.place c.index.ensures (sym c.get.ensures ∙ ap option_copied c.in_default.is))

pub put_chunk-requires-clause-chunk : goal.put_chunk-requires-clause-chunk
put_chunk-requires-clause-chunk c = in_place c.args.depot.now.stock.sessions.items c.args.place c.index.result.now _ c.requires.place c.index.ensures (subst IsSome (sym (ap option_copied c.in-Some.is) ∙ c.get.ensures) refl)
