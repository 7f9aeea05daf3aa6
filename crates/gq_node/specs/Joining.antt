-- How a new node gets the files that it lacks, and what others do for it: one tenant's part.
--
-- It asks all other nodes of its plan whether theirs has it. Once each has *joined* it, by telling it so, it asks the nodes of its column, one behind
-- the other, for one file after another, in their order.
use Rattle.std.specs.Prelude.{ℕ, ◌+◌, ◌*◌, ◌-◌, List, length, Bool, true, false, ◌==◌, ◌&&◌, ◌||◌, not, nat_lt, nat_le, Option, Some, None, is_some, find, filter, map, if◌then◌else◌}
use Rattle.std.specs.List.{list_all, count_by, range_with_len, flat_map}
use Rattle.gq_grid.specs.Grid.{Grid, Servers, with_server}
use Rattle.gq_tag.specs.declared.StoredCopy.{StoredCopy}
use Rattle.gq_tag.specs.declared.Body.TheVariants.{Store}
use Rattle.gq_tag.specs.Tag.{File}
use Rattle.gq_desk.specs.declared.volumes.VolumeRow.{VolumeRow}
use Rattle.gq_phase.specs.Quorums.{are_peers}
use Rattle.gq_model.specs.Trace.{files_of, limit_at}
use Rattle.gq_cluster.specs.Cluster.{everyone, copy_in}
use Rattle.gq_cluster.specs.Facts.{Had}
use Rattle.gq_replace.specs.Plans.{place_of}
use Rattle.gq_node.specs.Lanes.{lane_of, lacks_of_lane}
use Rattle.gq_node.specs.Local.{Local, Doing, Wants, Brings, part_in, state_of, silently, given, file_fits}
use Rattle.gq_node.specs.Sites.{Site, is_new, has_node, places_of, nodes_from}

-- ---- who has joined

-- that node tells that its plan has this one, and so many losses
abbrev pub hears_joined : (from losses : ℕ) → Site → Local → Doing
hears_joined from losses site local = by (is_new site && has_node site from && losses == site.losses)
  where
    by : Bool → Doing
    by false = silently local
    by true = silently (record local { joined = with_server (place_of from) local.joined })

-- whether a node is told, which asks for it, that this one's plan has it, and so many losses or more
abbrev pub tells_joined : (from losses : ℕ) → Site → Bool
tells_joined from losses site = has_node site from && nat_le losses site.losses

-- the nodes of the plan, this one left out, that have not joined, in rising order
abbrev pub awaited : Site → Servers → List ℕ
awaited site joined = filter (λ node. not (place_of node == site.place || joined (place_of node))) (nodes_from site 0)

-- all others have joined
abbrev pub all_joined : Site → Servers → Bool
all_joined site joined = list_all (λ place. place == site.place || joined place) (places_of site)

-- ---- what it asks for

-- the files of a volume, and all files, in order
abbrev pub files_in_volume : (volume files : ℕ) → List File
files_in_volume volume files = map (λ place. record { volume = volume; place = place }) (range_with_len 0 files)

abbrev pub all_files : List VolumeRow → List File
all_files volumes = flat_map (λ v. files_in_volume v (files_of volumes v)) (range_with_len 0 (length volumes))

-- the first file that it lacks
abbrev pub first_among : (lacks : File → Bool) → List VolumeRow → Option File
first_among lacks volumes = find lacks (all_files volumes)

-- the first file of the lane that it lacks
abbrev pub first_in_lane : (lacks : File → Bool) → List VolumeRow → (lane : ℕ) → Option File
first_in_lane lacks volumes lane = first_among (lacks_of_lane lacks volumes lane) volumes

abbrev pub first_lacked : Local → (lane : ℕ) → Option File
first_lacked local lane = first_in_lane local.lacks local.volumes lane

-- the place below that one in its column, and above all others behind the last; and the next one that is not the node's own
abbrev pub below_in_column : Grid → ℕ → ℕ
below_in_column grid place = if nat_lt (place + grid.cols) (grid.rows * grid.cols) then place + grid.cols else place + grid.cols - grid.rows * grid.cols

abbrev pub next_peer : Site → ℕ → ℕ
next_peer site place =
    if below_in_column site.grid place == site.place then below_in_column site.grid site.place else below_in_column site.grid place

-- it asks the node at that place for the first file of the lane
abbrev pub asks_peer : Site → Local → (lane place : ℕ) → Doing
asks_peer site local lane place = by (first_lacked local lane)
  where
    by : Option File → Doing
    by None = silently (record local { peer = place })
    by (Some file) = record (silently (record local { peer = place })) { transfer = Some (Wants (site.node_at place) file) }

-- whom it asks at a tick for a file of the lane: at the first lane the next one, and then that one for all others
abbrev pub peer_for : Site → (lane place : ℕ) → ℕ
peer_for site lane place = if lane == 0 then next_peer site place else place

-- at a tick, once all have joined
abbrev pub looks : (lane : ℕ) → Site → Local → Doing
looks lane site local = by (all_joined site local.joined)
  where
    by : Bool → Doing
    by false = silently local
    by true = asks_peer site local lane (peer_for site lane local.peer)

-- ---- what it is given

-- a node of its plan and its column
abbrev pub is_peer : Site → (node : ℕ) → Bool
is_peer site node = has_node site node && are_peers site.grid site.place (place_of node)

-- the file is there, and its server has it
abbrev pub has_file : Local → File → Bool
has_file local file = is_some (limit_at (state_of everyone local) file.volume file.place) && not (local.lacks file)

-- a node of the column asks for this one's copy
abbrev pub gives : (from : ℕ) → File → Site → Local → Doing
gives from file site local = by (is_peer site from && has_file local file)
  where
    by : Bool → Doing
    by false = silently local
    by true = record (silently local) { transfer = Some (Brings from file (copy_in (part_in local) file)) }

-- a node of the column gives its own of a file that this one lacks; the next file of the lane is asked of it at once
abbrev pub takes : (from : ℕ) → File → StoredCopy → Site → Local → Doing
takes from file copy site local = by (is_peer site from && local.lacks file && file_fits (limit_at (state_of everyone local) file.volume file.place) (Store copy))
  where
    by : Bool → Doing
    by false = silently local
    by true = record (asks_peer site (given file copy local) (lane_of local.volumes file.volume) (place_of from)) { fact = Some (Had file copy) }

-- ---- how much it lacks

-- how many of the tenant's files it lacks
abbrev pub lacked_files : (lacks : File → Bool) → List VolumeRow → ℕ
lacked_files lacks volumes = count_by lacks (all_files volumes)
