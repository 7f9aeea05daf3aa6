-- What the tables decide of who joins, and of what is given.
use Rattle.std.specs.Prelude.{ℕ, List, length, Bool, ◌==◌, ◌&&◌, not, is_some, filter, map}
use Rattle.gq_tag.specs.declared.FileId.{FileId}
use Rattle.gq_tag.specs.declared.StoredCopy.{StoredCopy}
use Rattle.gq_tag.specs.declared.Body.TheVariants.{Store}
use Rattle.gq_tag.specs.Tag.{file_place}
use Rattle.gq_desk.specs.Volumes.{limit_of}
use Rattle.gq_replace.specs.Plans.{generation}
use Rattle.gq_node.specs.Joining.{is_peer}
use Rattle.gq_node.specs.Local.{file_fits}
use Rattle.gq_node.specs.Sites.{site_of, is_new, has_node, places_of}
use Rattle.gq_node.specs.Tables.{Tables, lacks_at}

-- whether it is heard that the node's plan has this one, and so many losses, for the tenant at place t
abbrev pub joins_it : Tables → (from losses t : ℕ) → Bool
joins_it w from losses t = is_new (site_of w.plan w.here t) && has_node (site_of w.plan w.here t) from && losses == length w.here.lost

-- whether the node is given this one's copy of the file
abbrev pub gives_it : Tables → (from : ℕ) → FileId → Bool
gives_it w from file = is_peer (site_of w.plan w.here file.tenant) from && (is_some (limit_of w.desk file) && not (lacks_at w file.tenant (file_place file)))

-- whether this one takes the node's
abbrev pub takes_it : Tables → (from : ℕ) → FileId → StoredCopy → Bool
takes_it w from file copy = is_peer (site_of w.plan w.here file.tenant) from && lacks_at w file.tenant (file_place file) && file_fits (limit_of w.desk file) (Store copy)

-- the nodes of the plan before which so many were lost at their place
abbrev pub nodes_of_turn : Tables → (turn : ℕ) → List ℕ
nodes_of_turn w turn = filter (λ node. generation node == turn) (map (site_of w.plan w.here 0).node_at (places_of (site_of w.plan w.here 0)))
