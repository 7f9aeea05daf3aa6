-- The laws of the five words on quorums.
use Rattle.std.proofs.Common.{◌≡◌, ℕ, Option, Some, None, true, ap}
use Rattle.std.specs.Prelude.{option_map}
use Rattle.gq_grid.specs.Grid.{Servers, has_row, has_column, least_row, least_column, row_servers, column_servers}
use Rattle.gq_grid.proofs.Agreeing.{least_row_agree, least_column_agree}
use Rattle.gq_grid.proofs.Meeting.{rows_meet_columns, row_up_is_row, column_up_is_column, has_row-none, has_column-none, has_row_more, has_column_more}
use Rattle.gq_grid.proofs.Inside.{chosen_row_up, chosen_column_up}
use Rattle.gq_grid.proofs.Columns as columns
use Rattle.gq_phase.specs.Quorums.{collect_quorum, store_quorum, ends_collect, ends_store, are_peers}
use Rattle.gq_phase.specs.Laws.{RoundsMeet, CollectQuorumsEnd, StoreQuorumsEnd, QuorumsAreUp, NobodyEnds, MoreStillEnd, QuorumsInGrid, StoresHavePeers, PeersOfPeers}

pub rounds_meet : RoundsMeet
unfolding ends_collect ends_store
rounds_meet grid collected stored first second = rows_meet_columns grid collected stored first second

-- what some number gives holds of what is made of it
made : (least : Option ℕ) (to : ℕ → Servers) (Holds : Servers → Type 0) (quorum : Servers) → option_map to least ≡ Some quorum → ((n : ℕ) → least ≡ Some n → Holds (to n)) → Holds quorum
made None to Holds quorum h each = absurd (cc)
made (Some n) to Holds quorum h each =
    let same : to n ≡ quorum = cc in
    rw (← same) (each n (λ i. Some n))

pub collect_quorums_end : CollectQuorumsEnd
unfolding collect_quorum ends_collect
collect_quorums_end grid up quorum h =
    made (least_row grid up) (row_servers grid) (λ set. has_row grid set ≡ true) quorum h (λ row least. row_up_is_row grid up row least)

pub store_quorums_end : StoreQuorumsEnd
unfolding store_quorum ends_store
store_quorums_end grid up quorum h =
    made (least_column grid up) (column_servers grid) (λ set. has_column grid set ≡ true) quorum h (λ col least. column_up_is_column grid up col least)

pub quorums_are_up : QuorumsAreUp
unfolding collect_quorum store_quorum
quorums_are_up grid up quorum server inside = (
  λ h. made (least_row grid up) (row_servers grid) (λ set. set server ≡ true → up server ≡ true) quorum h (λ row least. chosen_row_up grid up row server least) inside,
  λ h. made (least_column grid up) (column_servers grid) (λ set. set server ≡ true → up server ≡ true) quorum h (λ col least. chosen_column_up grid up col server least) inside,
)

pub nobody_ends : NobodyEnds
unfolding ends_collect ends_store
nobody_ends grid some = (has_row-none grid some, has_column-none grid some)

pub more_still_end : MoreStillEnd
unfolding ends_collect ends_store
more_still_end grid fewer more within = (has_row_more grid fewer more within, has_column_more grid fewer more within)

pub quorums_in_grid : QuorumsInGrid
unfolding collect_quorum store_quorum
quorums_in_grid grid up also same =
    (ap (option_map (row_servers grid)) (least_row_agree grid up also same), ap (option_map (column_servers grid)) (least_column_agree grid up also same))

pub stores_have_peers : StoresHavePeers
unfolding ends_store are_peers
stores_have_peers grid stored ends = columns.columns_have_peers grid stored ends

pub peers_of_peers : PeersOfPeers
unfolding are_peers
peers_of_peers grid server peer other first second = columns.peers_of_peers grid server peer other first second
