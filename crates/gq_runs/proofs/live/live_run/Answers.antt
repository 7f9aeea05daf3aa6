use Rattle.std.proofs.Common.{ℕ, List, subst}
use Rattle.std.specs.Io.KnownBytes.{Appends}
use Rattle.gq_streams.specs.Watched.{inner_of}
use Rattle.gq_runs.specs.LiveRuns.{AppendsLive, IsLiveScript}
use Rattle.gq_runs.proofs.Reading.{of_whole}
use Rattle.gq_runs.proofs.live.live_run.Goals as goal

pub returns-clause-ok : goal.returns-clause-ok
returns-clause-ok g c =
    let old = g.W.Write.contents (inner_of c.args.writer.now) in
    let new = g.W.Write.contents (inner_of c.write_whole.new.writer) in
    let text = c.in_ok-text.text.items in
    of_whole (λ input. AppendsLive input old new) (g.R.Read.remaining (inner_of c.args.reader.now)) c.in_ok-input.input.items c.in_ok-input.ensures.all (
      text,
      subst (λ (input : List ℕ). IsLiveScript input text) c.as_slice.ensures.value c.in_ok-text.ensures.script,
      subst (Appends old new) c.as_slice-2.ensures.value c.in_ok-write_whole.ensures.ok,
    )
