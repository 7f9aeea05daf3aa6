use Rattle.std.proofs.Common.{◌≡◌, ◌++◌, map}
use Rattle.std.specs.Prelude.{decimal, filter}
use Rattle.gq_grid.specs.Grid.{below}
use Rattle.gq_grid.specs.Sets.{servers}
use Rattle.gq_lines.specs.Written.{spaced}
use Rattle.gq_text.proofs.pieces.put_servers.Given as goal

-- the servers so far are written
abbrev pub invariant-loop-server : goal.invariant-loop-server
invariant-loop-server l = l.out.items ≡ l.fn.out.items ++ spaced (map decimal (filter (servers l.fn.set) (below l.server)))
