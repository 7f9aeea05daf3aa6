use Rattle.gq_service.proofs.Staying.{who_stays_is_whole, none_of_the_gone, nothing_is_lacked, all_chunks_stay, no_room_is_lacked}
use Rattle.gq_service.proofs.laws.who_stays.Goals as goal

pub returns-clause-whole : goal.returns-clause-whole
returns-clause-whole c = who_stays_is_whole c.gone_stay.ensures.no_tenants c.what_is_left.ensures

pub returns-clause-none : goal.returns-clause-none
returns-clause-none c = none_of_the_gone

pub returns-clause-nothing : goal.returns-clause-nothing
returns-clause-nothing c = nothing_is_lacked c.what_is_left.ensures

pub returns-clause-chunks : goal.returns-clause-chunks
returns-clause-chunks c = all_chunks_stay c.gone_stay.ensures.no_tenants c.what_is_left.ensures

pub returns-clause-no_room : goal.returns-clause-no_room
returns-clause-no_room c = no_room_is_lacked c.what_is_left.ensures
