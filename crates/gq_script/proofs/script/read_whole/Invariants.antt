use Rattle.std.proofs.Common.{◌≡◌, ◌<◌, ◌≤◌, false, vec_len}
use Rattle.std.specs.Io.KnownBytes.{Keeps, prepend_known}
use Rattle.gq_streams.specs.Watched.{inner_of, has_failed}
use Rattle.gq_script.specs.declared.script.TheConstants.{MOST_INPUT}
use Rattle.gq_script.proofs.script.read_whole.Given as goal

abbrev pub invariant-loop-turn : goal.invariant-loop-turn
invariant-loop-turn g l = record {
  room : 0 < vec_len l.chunk;
  fine : has_failed l.reader ≡ false;
  bound : vec_len l.all ≤ MOST_INPUT;
  turns : l._turn ≤ vec_len l.all;
  kept : Keeps (g.R.Read.remaining (inner_of l.fn.reader)) (prepend_known l.all.items (g.R.Read.remaining (inner_of l.reader)));
}
