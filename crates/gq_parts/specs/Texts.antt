-- What a node writes for a tenant, and what it must not forget, by what comes to the tenant's part.
--
-- A node is asked to tell its form of lines, and again and again. So it keeps nothing of what others told, and no table and
-- no law of tenants knows of forms. Lines are lost and nodes are started again: whoever that was hears it within a minute.
-- Carriers forget what was not told for three minutes, so a node that got an earlier program again is not taken for a later
-- one.
use Rattle.std.specs.Prelude.{ℕ, List, [], ◌∷◌, ◌++◌, length, map, Bool, false, ◌*◌, ◌==◌, nat_lt, Option, Some, None, option_map, if◌then◌else◌}
use Rattle.std.specs.List.{flat_map, range_with_len, list_any}
use Rattle.std.specs.Option.{option_to_list}
use Rattle.gq_tag.specs.declared.Message.{Message}
use Rattle.gq_tag.specs.Tag.{OwnMessage, message_of}
use Rattle.gq_desk.specs.CheckedPlan.{CheckedPlan}
use Rattle.gq_model.specs.declared.events.Line.{Line}
use Rattle.gq_cluster.specs.Facts.{OwnFact}
use Rattle.gq_node.specs.declared.output.Answer.{Answer}
use Rattle.gq_node.specs.declared.output.Fact.{Fact}
use Rattle.gq_node.specs.Inputs.{Input, does, after_all, doings}
use Rattle.gq_node.specs.Local.{Local}
use Rattle.gq_node.specs.declared.output.Transfer.{Transfer}
use Rattle.gq_node.specs.Joining.{tells_joined, awaited, lacked_files}
use Rattle.gq_node.specs.declared.shorts.Short.{Short}
use Rattle.gq_node.specs.Shorts.{OwnShort, short_with, body_with, short_form}
use Rattle.gq_node.specs.ShortSteps.{whole_of}
use Rattle.gq_replace.specs.Plans.{node_at}
use Rattle.gq_node.specs.Sites.{Here, Site, site_of, plan_in, address_of}
use Rattle.gq_node.specs.Tables.{fact_of, transfer_of}
use Rattle.gq_wire.specs.declared.incoming.Incoming.{Incoming}
use Rattle.gq_wire.specs.declared.incoming.TheConstants.{LINE_FORM}
use Rattle.gq_wire.specs.declared.incoming.Incoming.TheVariants.{Joins, Tick, Greet}
use Rattle.gq_wire.specs.Incoming.{incoming_of}
use Rattle.gq_wire.specs.Texts.{told_line, letter_line, short_line, transfer_line, joins_line, joined_line, speaks_line}
use Rattle.gq_parts.specs.Inputs.{asked_in}
use Rattle.gq_parts.specs.Within.{gives_again, letters_by, reply_by, others_by, within, left, taken, after_taken}

-- ---- by one step, for the tenant at place t

-- the line that tells the tenant the answer to that request, if there is one
abbrev pub answer_text : CheckedPlan → Here → (t : ℕ) → Line → Option Answer → List ℕ
answer_text plan here t asked None = []
answer_text plan here t asked (Some answer) = told_line plan here.node t asked answer

-- the line of a letter that goes whole, to the node that it goes to
abbrev pub sent_line : CheckedPlan → Here → Message → List ℕ
sent_line plan here m = letter_line plan (address_of plan here m) here.node m

-- and in this short form, if it has one
abbrev pub formed_line : CheckedPlan → Here → Message → Option Short → List ℕ
formed_line plan here m None = sent_line plan here m
formed_line plan here m (Some s) = short_line plan (address_of plan here m) here.node s

-- the form in which a part, as it then is, writes a letter: what goes out once more goes whole
abbrev pub form_by : (again : Bool) → Site → Local → OwnMessage → Option OwnShort
form_by again site local m = if again then None else short_form site local m

-- so the line of the letter, and of letters
abbrev pub letter_text : CheckedPlan → Here → (t : ℕ) → (again : Bool) → Local → OwnMessage → List ℕ
letter_text plan here t again local m = formed_line plan here (message_of t m) (option_map (short_with t) (form_by again (site_of plan here t) local m))

abbrev pub letters_text : CheckedPlan → Here → (t : ℕ) → (again : Bool) → Local → List OwnMessage → List ℕ
letters_text plan here t again local letters = flat_map (letter_text plan here t again local) letters

-- the line of a short reply, if there is one
abbrev pub reply_text : CheckedPlan → Here → Option Short → List ℕ
reply_text plan here None = []
reply_text plan here (Some s) = short_line plan (address_of plan here (whole_of s (body_with [] s.body))) here.node s

-- the line of a transfer, if there is one
abbrev pub transfer_text : CheckedPlan → Here → Option Transfer → List ℕ
transfer_text plan here None = []
transfer_text plan here (Some transfer) = transfer_line plan here.node transfer

-- the line to the tenant first, then those of letters, and the transfer
abbrev pub step_text : CheckedPlan → Here → (t : ℕ) → Line → Option Answer → (letters : List ℕ) → Option Transfer → List ℕ
step_text plan here t asked answer letters transfer = answer_text plan here t asked answer ++ (letters ++ transfer_text plan here transfer)

-- of a step by an input, the letters that go by lines: the others are taken within
abbrev pub others_text : CheckedPlan → Here → (t : ℕ) → Local → Input → List ℕ
others_text plan here t local input =
    letters_text plan here t (gives_again input) (does input (site_of plan here t) local).local (others_by (gives_again input) (site_of plan here t) (letters_by (site_of plan here t) local input))

-- a short reply, and then all else
abbrev pub doing_text : CheckedPlan → Here → (t : ℕ) → Local → Input → List ℕ
doing_text plan here t local input =
    reply_text plan here (option_map (short_with t) (reply_by (site_of plan here t) local input))
    ++ step_text plan here t (asked_in input) (does input (site_of plan here t) local).answer (others_text plan here t local input) (option_map (transfer_of t) (does input (site_of plan here t) local).transfer)

-- of several steps, one behind the other
abbrev pub steps_text : CheckedPlan → Here → (t : ℕ) → Local → List Input → List ℕ
steps_text plan here t local [] = []
steps_text plan here t local (input ∷ rest) =
    doing_text plan here t local input ++ steps_text plan here t (does input (site_of plan here t) local).local rest

-- of what comes from outside: what it and all that is taken within write, and then the letters that are left
abbrev pub outside_text : CheckedPlan → Here → (t : ℕ) → Local → Input → List ℕ
outside_text plan here t local input =
    steps_text plan here t local (within (site_of plan here t) local input)
    ++ letters_text plan here t false (after_all (site_of plan here t) local (within (site_of plan here t) local input)) (left (site_of plan here t) local input)

-- ---- by all inputs of the tenant that come from outside, in order

abbrev pub written_for : CheckedPlan → Here → (t : ℕ) → Local → List Input → List ℕ
written_for plan here t local [] = []
written_for plan here t local (input ∷ rest) =
    outside_text plan here t local input ++ written_for plan here t (after_all (site_of plan here t) local (within (site_of plan here t) local input)) rest

abbrev pub own_facts : Site → Local → List Input → List OwnFact
own_facts site local inputs = flat_map (λ doing. option_to_list doing.fact) (doings site local inputs)

abbrev pub facts_for : CheckedPlan → Here → (t : ℕ) → Local → List Input → List Fact
facts_for plan here t local inputs = map (fact_of t) (own_facts (site_of plan here t) local (taken (site_of plan here t) local inputs))

-- ---- by the inputs of all tenants: one tenant after another, in plan order

-- the tenants' places
abbrev pub places : CheckedPlan → List ℕ
places plan = range_with_len 0 (length plan.rows)

abbrev pub written_by : CheckedPlan → Here → (ℕ → Local) → (ℕ → List Input) → List ℕ
written_by plan here parts inputs = flat_map (λ t. written_for plan here t (parts t) (inputs t)) (places plan)

abbrev pub facts_by : CheckedPlan → Here → (ℕ → Local) → (ℕ → List Input) → List Fact
facts_by plan here parts inputs = flat_map (λ t. facts_for plan here t (parts t) (inputs t)) (places plan)

-- the parts after that
abbrev pub parts_after : CheckedPlan → Here → (ℕ → Local) → (ℕ → List Input) → ℕ → Local
parts_after plan here parts inputs t = after_taken (site_of plan here t) (parts t) (inputs t)

-- ---- by the node itself, to other nodes

-- whether its server lacks a file of some tenant
abbrev pub lacks_of : Local → Bool
lacks_of local = nat_lt 0 (lacked_files local.lacks local.volumes)

abbrev pub lacks_some : CheckedPlan → (ℕ → Local) → Bool
lacks_some plan parts = list_any (λ t. lacks_of (parts t)) (places plan)

-- the question to each node that has not joined whether its plan has this one
abbrev pub joins_text : CheckedPlan → Here → (nodes : List ℕ) → List ℕ
joins_text plan here nodes = flat_map (λ node. joins_line node here.node (length here.lost)) nodes

-- the answer to such a question, where the plan has the node, and so many losses or more
abbrev pub joined_text : CheckedPlan → Here → (from losses : ℕ) → List ℕ
joined_text plan here from losses = if tells_joined from losses (site_of plan here 0) then joined_line from here.node losses else []

-- which forms of lines it speaks, to the node that stands at the place, if that is another; and to those at all places, one after another
abbrev pub greeting_at : CheckedPlan → Here → (place : ℕ) → List ℕ
greeting_at plan here place = if node_at (plan_in here.lost) place == here.node then [] else speaks_line (node_at (plan_in here.lost) place) here.node LINE_FORM

abbrev pub greeting_text : CheckedPlan → Here → List ℕ
greeting_text plan here = flat_map (greeting_at plan here) (range_with_len 0 (plan.grid.rows * plan.grid.cols))

-- What it writes behind what it writes for the tenants, whose parts are these then: at a tick, while its server lacks a file, the question to the nodes
-- that have not joined; the answer to such a question; and where it is to greet, which forms of lines it speaks.
abbrev pub node_text : CheckedPlan → Here → Incoming → (parts : ℕ → Local) → List ℕ
node_text plan here Tick parts = if lacks_some plan parts then joins_text plan here (awaited (site_of plan here 0) (parts 0).joined) else []
node_text plan here (Joins from losses) parts = joined_text plan here from losses
node_text plan here Greet parts = greeting_text plan here
node_text plan here _ parts = []

abbrev pub line_text_of : CheckedPlan → Here → List ℕ → (parts : ℕ → Local) → List ℕ
line_text_of plan here line parts = node_text plan here (incoming_of plan here.node line) parts
