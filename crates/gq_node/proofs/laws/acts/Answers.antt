-- Each line, letter and tick is an act or nothing.
use Rattle.gq_node.proofs.Bridging.{all_requests_act, all_questions_tell, all_looks_tell, all_letters_act, all_ticks_act}
use Rattle.gq_node.proofs.laws.acts.Goals as goal

pub returns : goal.returns
returns c = record { requests = all_requests_act; questions = all_questions_tell; looks = all_looks_tell; letters = all_letters_act; ticks = all_ticks_act }
