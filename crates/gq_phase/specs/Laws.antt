-- What the five words on quorums have to be like.
use Rattle.std.specs.Prelude.{◌≡◌, ℕ, ◌*◌, ◌<◌, true, false, Some}
use Rattle.gq_grid.specs.Grid.{Grid, Servers, no_servers}
use Rattle.gq_phase.specs.Quorums.{collect_quorum, store_quorum, ends_collect, ends_store, are_peers}

-- a set that ends a collect round and a set that ends a store round share a server of the grid
abbrev pub RoundsMeet : Type 0
RoundsMeet =
    (grid : Grid) (collected stored : Servers) → ends_collect grid collected ≡ true → ends_store grid stored ≡ true →
    (server : ℕ) × (server < grid.rows * grid.cols) × (collected server ≡ true) × (stored server ≡ true)

-- the servers that a collect round asks end it once they are heard
abbrev pub CollectQuorumsEnd : Type 0
CollectQuorumsEnd =
    (grid : Grid) (up quorum : Servers) → collect_quorum grid up ≡ Some quorum → ends_collect grid quorum ≡ true

-- the servers that a store round sends to end it once they are heard
abbrev pub StoreQuorumsEnd : Type 0
StoreQuorumsEnd =
    (grid : Grid) (up quorum : Servers) → store_quorum grid up ≡ Some quorum → ends_store grid quorum ≡ true

-- the servers that a round asks, or sends to, are up
abbrev pub QuorumsAreUp : Type 0
QuorumsAreUp =
    (grid : Grid) (up quorum : Servers) (server : ℕ) → quorum server ≡ true →
    (collect_quorum grid up ≡ Some quorum → up server ≡ true) × (store_quorum grid up ≡ Some quorum → up server ≡ true)

-- nobody ends no round, on a grid that has a server
abbrev pub NobodyEnds : Type 0
NobodyEnds = (grid : Grid) → 0 < grid.rows * grid.cols → (ends_collect grid no_servers ≡ false) × (ends_store grid no_servers ≡ false)

-- what ends a round still ends it with more servers of the grid
abbrev pub MoreStillEnd : Type 0
MoreStillEnd =
    (grid : Grid) (fewer more : Servers) → ((server : ℕ) → server < grid.rows * grid.cols → fewer server ≡ true → more server ≡ true) →
    (ends_collect grid fewer ≡ true → ends_collect grid more ≡ true) × (ends_store grid fewer ≡ true → ends_store grid more ≡ true)

-- among the servers of a set that ends a store round are some that end it, too, with each of which all its peers are among them
abbrev pub StoresHavePeers : Type 0
StoresHavePeers =
    (grid : Grid) (stored : Servers) → ends_store grid stored ≡ true →
    (some : Servers) × (ends_store grid some ≡ true) × ((server : ℕ) → some server ≡ true → stored server ≡ true) × ((server peer : ℕ) → some server ≡ true → are_peers grid server peer ≡ true → some peer ≡ true)

-- a peer of a peer is a peer
abbrev pub PeersOfPeers : Type 0
PeersOfPeers = (grid : Grid) (server peer other : ℕ) → are_peers grid server peer ≡ true → are_peers grid peer other ≡ true → are_peers grid server other ≡ true

-- on the grid the two sets have the same quorums
abbrev pub SameQuorums : Grid → Servers → Servers → Type 0
SameQuorums grid up also = (collect_quorum grid up ≡ collect_quorum grid also) × (store_quorum grid up ≡ store_quorum grid also)

-- sets that have the same servers of the grid have the same quorums
abbrev pub QuorumsInGrid : Type 0
QuorumsInGrid =
    (grid : Grid) (up also : Servers) → ((server : ℕ) → server < grid.rows * grid.cols → up server ≡ also server) → SameQuorums grid up also
