-- Worked cases, computed. No proof rests on them. The words on quorums and columns are opened here to compute.
use Rattle.std.proofs.Common.{◌≡◌, ℕ, ◌-◌, true, List, [], ◌∷◌, refl, Option, Some, None, arith}
use Rattle.std.specs.Prelude.{◌++◌, ◌==◌, ◌||◌, nat_lt, if◌then◌else◌}
use Rattle.gq_tag.specs.declared.Tag.{Tag}
use Rattle.gq_tag.specs.declared.StoredCopy.{StoredCopy}
use Rattle.gq_tag.specs.declared.Body.{Body}
use Rattle.gq_tag.specs.declared.Body.TheVariants.{Ask, Copy, Store, Stored}
use Rattle.gq_tag.specs.Tag.{File, first_copy}
use Rattle.gq_grid.specs.Grid.{Grid}
use Rattle.gq_desk.specs.declared.plans.TenantRow.{TenantRow}
use Rattle.gq_desk.specs.declared.volumes.VolumeRow.{VolumeRow}
use Rattle.gq_phase.specs.declared.Outcome.TheVariants.{Wrote, Gave}
use Rattle.gq_phase.specs.Quorums.{collect_quorum, store_quorum, ends_collect, ends_store, are_peers}
use Rattle.gq_model.specs.declared.events.Line.TheVariants.{Write, Read}
use Rattle.gq_model.specs.declared.events.Refusal.TheVariants.{NoSession}
use Rattle.gq_cluster.specs.Cluster.{copy_in}
use Rattle.gq_cluster.specs.Facts.{OwnFact, Begun, Numbered, Kept, Had}
use Rattle.gq_node.specs.declared.output.Answer.{Answer}
use Rattle.gq_node.specs.declared.output.Answer.TheVariants.{Done, Gone, Refused, Busy, Old, Early, Has, Looked as IsLooked, NotLooked}
use Rattle.gq_node.specs.Inputs.{Asked, AskedPlan, AskedLook, Brought, Ticked, Looked, Joined, Fetching, Fetched}
use Rattle.gq_node.specs.Local.{part_in}
use Rattle.gq_node.specs.Nodes.{NodeWorld, Nodes, Event, Started, Came, AskedToJoin, node_in, fact_list, new_nodes, doing_of, after_event, nodes_after, AllCanCome}

abbrev row : TenantRow
row = record { name = 97 ∷ []; share = 4; sessions = 240; steps = 100; most_blocks = 16; most_volumes = 64 }

abbrev volumes : List VolumeRow
volumes = record { files = 1; blocks = 1 } ∷ []

abbrev file : File
file = record { volume = 0; place = 0 }

abbrev tag : Tag
tag = record { number = 1; session = 1 }

abbrev written : StoredCopy
written = record { tag = tag; bytes = 104 ∷ 105 ∷ [] }

-- a letter between operation 1 of that session and a server
abbrev letter : (node from session round server : ℕ) → Body → Event
letter node from session round server body = Came node (Brought from (record { session = session; op = 1; round = round; server = server; file = file; body = body }))

-- what the tenant is told
abbrev answers : NodeWorld → Nodes → List Event → List (Option Answer)
answers w nodes [] = []
answers w nodes (event ∷ events) = (doing_of w nodes event).answer ∷ answers w (after_event w nodes event) events

-- and what that node may not forget of it
abbrev facts_at : NodeWorld → Nodes → (n : ℕ) → List Event → List OwnFact
facts_at w nodes n [] = []
facts_at w nodes n (event ∷ events) = (if node_in event == n then fact_list (doing_of w nodes event).fact else []) ++ facts_at w (after_event w nodes event) n events

-- ---- one node, which starts again

abbrev grid_of : (rows cols : ℕ) → Grid
grid_of rows cols = record { rows = rows; cols = cols }

abbrev one : NodeWorld
one = record {
  world = record { setting = record { grid = grid_of 1 1; row = row; home = λ k. 0; volumes = volumes }; plans = λ plan. record { lost = []; volumes = 1 } };
  sessions = λ plan. 2;
  is_of_plan = λ plan k. nat_lt k 3;
  first_home = λ plan. 0;
}

-- session 1 writes, and asks for it again; it asks for more while that goes on; a tick comes, and once more when it has waited; session 2
-- begins to read, the node starts again, and both ask how theirs ended; session 1 goes on behind the numbers that were reserved for it; the
-- tenant asks what it has
abbrev events : List Event
events = Started 0 0
    ∷ Came 0 (Asked 1 (Write 1 0 0 (104 ∷ 105 ∷ [])))
    ∷ Came 0 (Asked 1 (Write 1 0 0 (104 ∷ 105 ∷ [])))
    ∷ letter 0 0 1 1 0 Ask
    ∷ letter 0 0 1 1 0 (Copy first_copy)
    ∷ Came 0 (Asked 2 (Read 1 0 0))
    ∷ Came 0 (Ticked 1)
    ∷ Came 0 (Ticked 1)
    ∷ letter 0 0 1 2 0 (Store written)
    ∷ letter 0 0 1 2 0 Stored
    ∷ Came 0 (Asked 1 (Write 1 0 0 (104 ∷ 105 ∷ [])))
    ∷ Came 0 (Asked 2 (Read 2 0 0))
    ∷ Came 0 (Asked 1 (Read 2 0 0))
    ∷ Started 0 0
    ∷ Came 0 (Asked 1 (Read 2 0 0))
    ∷ Came 0 (Asked 1 (Write 1 0 0 (104 ∷ 105 ∷ [])))
    ∷ Came 0 (Asked 1024 (Read 1 0 0))
    ∷ Came 0 (Asked 1025 (Read 1 0 0))
    ∷ Came 0 AskedPlan
    ∷ Came 0 (AskedLook 7 0)
    ∷ Came 0 (AskedLook 8 1)
    ∷ []

pub told_at_one : answers one (new_nodes one) events ≡
    None ∷ None ∷ None ∷ None ∷ None ∷ Some (Busy 1 2 1) ∷ None ∷ None ∷ None ∷ Some (Done (Wrote 1 1 tag))
    ∷ Some (Done (Wrote 1 1 tag)) ∷ Some (Early 2 2 0) ∷ None ∷ None ∷ Some (Old 2 1 1024) ∷ Some (Old 1 1 1024) ∷ Some (Gone 1 1024) ∷ None
    ∷ Some (Has (record { servers = 1; home = 0; sessions = 2; share = 4; most_blocks = 16; volumes = record { files = 1; blocks = 1 } ∷ []; nodes = [] }))
    ∷ Some (IsLooked (record { mark = 7; volume = 0; losses = 0; rows = Some (record { length = 2; tag = tag }) ∷ [] })) ∷ Some (NotLooked 8 1) ∷ []
unfolding collect_quorum store_quorum ends_collect ends_store
told_at_one = refl

pub copy_at_one : copy_in (part_in ((nodes_after one (new_nodes one) events).local 0)) file ≡ written
unfolding collect_quorum store_quorum ends_collect ends_store
copy_at_one = refl

pub facts_at_one : facts_at one (new_nodes one) 0 events ≡ Begun 1 1024 ∷ Numbered 1 1024 ∷ Kept file written ∷ Begun 2 1024 ∷ Begun 1 2048 ∷ []
unfolding collect_quorum store_quorum ends_collect ends_store
facts_at_one = refl

-- ---- two nodes, of which one is lost and replaced

-- by the later plan the node at place 0 was lost, and session 17 has the place of session 1
abbrev two : NodeWorld
two = record {
  world = record {
    setting = record { grid = grid_of 2 1; row = row; home = λ k. if k == 17 then 64 else k - 1; volumes = volumes };
    plans = λ plan. if plan == 0 then record { lost = []; volumes = 1 } else record { lost = 0 ∷ []; volumes = 1 };
  };
  sessions = λ plan. 2;
  is_of_plan = λ plan k. k == 2 || k == (if plan == 0 then 1 else 17);
  first_home = λ plan. 0;
}

-- Session 1 writes, and its home is lost. The node that takes its place is the home of session 17, which begins to read, and as a server it
-- passes over the ask, since it lacks the file. The other node tells that its plan has it, and gives it its copy when asked for it. Then the ask
-- comes again, and the read is done. There is no session 1 any more.
abbrev losses : List Event
losses = Started 0 0
    ∷ Started 1 0
    ∷ Came 0 (Asked 1 (Write 1 0 0 (104 ∷ 105 ∷ [])))
    ∷ letter 0 0 1 1 0 Ask
    ∷ letter 0 0 1 1 0 (Copy first_copy)
    ∷ letter 0 0 1 2 0 (Store written)
    ∷ letter 1 0 1 2 1 (Store written)
    ∷ letter 0 0 1 2 0 Stored
    ∷ letter 0 1 1 2 1 Stored
    ∷ Started 1 1
    ∷ Started 64 1
    ∷ Came 64 (Asked 1 (Read 17 0 0))
    ∷ letter 64 64 17 1 0 Ask
    ∷ AskedToJoin 1 64 1
    ∷ Came 64 (Joined 1 1)
    ∷ Came 64 (Looked 0)
    ∷ Came 1 (Fetching 64 file)
    ∷ Came 64 (Fetched 1 file written)
    ∷ letter 64 64 17 1 0 Ask
    ∷ letter 64 64 17 1 0 (Copy written)
    ∷ letter 64 64 17 2 0 (Store written)
    ∷ letter 1 64 17 2 1 (Store written)
    ∷ letter 64 64 17 2 0 Stored
    ∷ letter 64 1 17 2 1 Stored
    ∷ Came 1 (Asked 1 (Read 1 0 0))
    ∷ []

pub told_at_two : answers two (new_nodes two) losses ≡
    None ∷ None ∷ None ∷ None ∷ None ∷ None ∷ None ∷ None ∷ Some (Done (Wrote 1 1 tag)) ∷ None ∷ None ∷ None ∷ None ∷ None ∷ None ∷ None ∷ None ∷ None
    ∷ None ∷ None ∷ None ∷ None ∷ None ∷ Some (Done (Gave 17 1 written)) ∷ Some (Refused 1 1 NoSession) ∷ []
unfolding collect_quorum store_quorum ends_collect ends_store are_peers
told_at_two = refl

-- what the new node may not forget of it: with a journal of these it has the file from then on
pub facts_at_two : facts_at two (new_nodes two) 64 losses ≡ Begun 17 1024 ∷ Had file written ∷ []
unfolding collect_quorum store_quorum ends_collect ends_store are_peers
facts_at_two = refl

-- from then on no line of the node that was lost is taken, and that one takes none
pub gone_at_two : (nodes_after two (new_nodes two) losses).gone 0 ≡ true
unfolding collect_quorum store_quorum ends_collect ends_store are_peers
gone_at_two = refl

-- what comes of another node was written by it before, and no node takes a step that is gone
pub two_can : AllCanCome two (new_nodes two) losses
unfolding collect_quorum store_quorum ends_collect ends_store are_peers
two_can = (
  (refl, refl, λ begun. omega arith),
  (
    (refl, refl, λ begun. omega arith),
    (
      (refl, refl, tt),
      (
        (refl, refl, (0, omega arith, refl)),
        (
          (refl, refl, (1, omega arith, refl)),
          (
            (refl, refl, (2, omega arith, refl)),
            (
              (refl, refl, (3, omega arith, refl)),
              (
                (refl, refl, (4, omega arith, refl)),
                (
                  (refl, refl, (5, omega arith, refl)),
                  (
                    (refl, refl, λ begun. omega arith),
                    (
                      (refl, refl, λ begun. omega arith),
                      (
                        (refl, refl, tt),
                        (
                          (refl, refl, (6, omega arith, refl)),
                          (
                            (refl, refl),
                            (
                              (refl, refl, (0, omega arith, refl)),
                              (
                                (refl, refl, tt),
                                (
                                  (refl, refl, (0, omega arith, refl)),
                                  (
                                    (refl, refl, (0, omega arith, refl)),
                                    (
                                      (refl, refl, (6, omega arith, refl)),
                                      (
                                        (refl, refl, (7, omega arith, refl)),
                                        (
                                          (refl, refl, (8, omega arith, refl)),
                                          (
                                            (refl, refl, (9, omega arith, refl)),
                                            (
                                              (refl, refl, (10, omega arith, refl)),
                                              (
                                                (refl, refl, (11, omega arith, refl)),
                                                ((refl, refl, tt), tt),
                                              ),
                                            ),
                                          ),
                                        ),
                                      ),
                                    ),
                                  ),
                                ),
                              ),
                            ),
                          ),
                        ),
                      ),
                    ),
                  ),
                ),
              ),
            ),
          ),
        ),
      ),
    ),
  ),
)
