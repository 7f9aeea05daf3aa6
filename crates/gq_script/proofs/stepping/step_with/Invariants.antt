use Rattle.std.proofs.Common.{◌≡◌, ◌<◌, ◌≤◌, false, length, take, vec_len}
use Rattle.std.specs.Prelude.{IsErr}
use Rattle.std.specs.Io.KnownBytes.{Appends, Keeps, prepend_known}
use Rattle.memchr.specs.Find.{Nowhere, Passes, is_byte}
use Rattle.gq_lines.specs.Lines.{lines_of}
use Rattle.gq_text.specs.PlanText.{plan_of}
use Rattle.gq_script.specs.Out.{out}
use Rattle.gq_streams.specs.Watched.{inner_of, has_failed}
use Rattle.gq_script.specs.Stepping.{AllEnded, HasAnswered}
use Rattle.gq_script.specs.declared.script.TheConstants.{MOST_INPUT}
use Rattle.gq_script.proofs.stepping.step_with.Given as goal

-- the lines that have ended were answered, and of what is held behind them no line has ended
abbrev pub invariant-loop-turn : goal.invariant-loop-turn
invariant-loop-turn g l = record {
  room : 0 < length l.chunk;
  reader : has_failed l.reader ≡ false;
  writer : has_failed l.writer ≡ false;
  bound : vec_len l.held ≤ MOST_INPUT;
  turns : l._turn ≤ vec_len l.held;
  kept : Keeps (g.R.Read.remaining (inner_of l.fn.reader)) (prepend_known l.held.items (g.R.Read.remaining (inner_of l.reader)));
  within : l.done ≤ length l.held.items;
  ends : AllEnded (take l.done l.held.items);
  begun : Nowhere (Passes (is_byte 10) l.held.items) l.done (length l.held.items);
  after : HasAnswered l.stage (lines_of (take l.done l.held.items));
  answered : Appends (g.W.Write.contents (inner_of l.fn.writer)) (g.W.Write.contents (inner_of l.writer)) (out (take l.done l.held.items));
  nothing : IsErr (plan_of (lines_of (take l.done l.held.items))) → l.writer ≡ l.fn.writer;
}
