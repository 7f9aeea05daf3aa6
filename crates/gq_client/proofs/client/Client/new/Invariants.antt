-- So many sessions so far.
use Rattle.std.proofs.Common.{◌≡◌, vec_len}
use Rattle.std.specs.Prelude.{All}
use Rattle.gq_client.specs.Looking.{IsUnseen}
use Rattle.gq_client.proofs.client.Client.new.Given as goal

abbrev pub invariant-loop-session : goal.invariant-loop-session
invariant-loop-session l = (vec_len l.seen ≡ l._session) × All IsUnseen l.seen.items
