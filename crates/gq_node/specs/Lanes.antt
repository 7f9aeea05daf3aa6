-- Lanes: files of one lane are asked for one after another, and those of several lanes side by side.
--
-- The volume alone tells a file's lane, so nothing is kept of what is under way: who takes a file asks for the next one of
-- its lane, and each tick asks again. A line that gave many files would be one input with many facts, and each law of a step
-- says that there is one at most. A tick asks for all that is under way once more, which a slow network has to carry too. So
-- files of more than 16 blocks have fewer lanes.
use Rattle.std.specs.Prelude.{ℕ, ◌/◌, ◌%◌, max, min, List, Bool, ◌&&◌, ◌==◌, Option, Some, None, slice_get}
use Rattle.gq_tag.specs.Tag.{File}
use Rattle.gq_desk.specs.declared.volumes.VolumeRow.{VolumeRow}
use Rattle.gq_node.specs.declared.lanes.TheConstants.{LANES, LANE_BLOCKS}

-- in how many lanes files of so many blocks are asked for: at least in one
abbrev pub lanes_for : (blocks : ℕ) → ℕ
lanes_for blocks = max (min (LANE_BLOCKS / max blocks 1) LANES) 1

-- how many blocks a file of the volume may have, none where there is no such volume
abbrev pub blocks_of : List VolumeRow → (volume : ℕ) → ℕ
blocks_of volumes v = count (slice_get volumes v)
  where
    count : Option VolumeRow → ℕ
    count None = 0
    count (Some volume) = volume.blocks

-- the lane of the volume's files
abbrev pub lane_of : List VolumeRow → (volume : ℕ) → ℕ
lane_of volumes v = v % lanes_for (blocks_of volumes v)

-- which files of the lane are lacked
abbrev pub lacks_of_lane : (lacks : File → Bool) → List VolumeRow → (lane : ℕ) → File → Bool
lacks_of_lane lacks volumes lane file = lacks file && lane_of volumes file.volume == lane
