-- The values that the words of a node's command line give.
use Rattle.std.specs.Prelude.{◌≡◌, List, codes}
use Rattle.clap.specs.Walk.{Row, first_of}
use Rattle.gq_words.specs.Given.{IsFlagGiven, IsNumberGiven, path_in, text_given}
use Rattle.gq_node_words.specs.declared.words.NodeCommand.{NodeCommand}
use Rattle.gq_node_words.specs.declared.words.NodeCommand.TheVariants.{Node, Plan}
use Rattle.gq_node_words.specs.declared.words.NodeRequest.{NodeRequest}
use Rattle.gq_node_words.specs.declared.words.PlanRequest.{PlanRequest}

-- the number, the two paths, the two flags and the days are those that are given
abbrev pub HasNodeValues : List Row → NodeRequest → Type 0
HasNodeValues rows node =
    IsNumberGiven rows (codes "NUMBER") 0 node.number
    × (node.plan.now ≡ text_given rows (codes "PLAN"))
    × (node.journal.now ≡ text_given rows (codes "JOURNAL"))
    × IsFlagGiven rows (codes "NEW") node.is_new
    × IsFlagGiven rows (codes "ANEW") node.is_anew
    × IsNumberGiven rows (codes "SCRUB") 14 node.scrub

-- the path is the one that is given, and the other one too, if one is
abbrev pub HasPlanValues : List Row → PlanRequest → Type 0
HasPlanValues rows plan = (plan.plan.now ≡ text_given rows (codes "FILE")) × (path_in plan.old ≡ first_of (codes "NEXT") rows)

-- what is asked for has the values that are given
abbrev pub HasValues : List Row → NodeCommand → Type 0
HasValues rows (Node node) = HasNodeValues rows node
HasValues rows (Plan plan) = HasPlanValues rows plan
