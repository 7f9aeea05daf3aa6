-- What a line does to a node.
use Rattle.std.specs.List.{flat_map, list_any, sum_by}
use Rattle.std.specs.Prelude.{◌≡◌, ◌≢◌, ℕ, ◌<◌, nat_lt, Bool, true, false, List, [], ◌∷◌, ◌++◌, length, map, filter, not, ◌==◌, ◌&&◌, Option, Some, None, option_map, All, if◌then◌else◌}
use Rattle.gq_tag.specs.declared.Message.{Message}
use Rattle.gq_tag.specs.Tag.{OwnMessage, own_message}
use Rattle.gq_desk.specs.CheckedPlan.{CheckedPlan}
use Rattle.gq_text.specs.Canonical.{IsPlan}
use Rattle.gq_journal.specs.Batches.{lines_text}
use Rattle.gq_node.specs.declared.output.Fact.{Fact}
use Rattle.gq_node.specs.declared.output.Output.{Output}
use Rattle.gq_node.specs.declared.output.Transfer.{Transfer}
use Rattle.gq_model.specs.declared.events.Line.{Line}
use Rattle.std.specs.Option.{option_to_list}
use Rattle.gq_node.specs.declared.shorts.Short.{Short}
use Rattle.gq_node.specs.Inputs.{Input, Shortened, does, after_all, doings}
use Rattle.gq_node.specs.Local.{Local}
use Rattle.gq_node.specs.Shorts.{OwnShort, short_with}
use Rattle.gq_node.specs.ShortSteps.{form_at}
use Rattle.gq_node.specs.Sites.{Here, site_of, address_of}
use Rattle.gq_desk.specs.Volumes.{account_at}
use Rattle.gq_node.specs.Joining.{lacked_files}
use Rattle.gq_node.specs.Tables.{Tables, Agrees, Gives, Leads, AllStand, lacks_at, fact_of}
use Rattle.gq_facts.specs.Facts.{fact_line}
use Rattle.gq_wire.specs.Texts.{transfer_file}
use Rattle.gq_wire.specs.declared.incoming.Incoming.{Incoming}
use Rattle.gq_wire.specs.declared.incoming.Incoming.TheVariants.{Tick}
use Rattle.gq_facts.specs.Laws.{FitsFact}
use Rattle.gq_parts.specs.declared.laws.TheConstants.{MOST_HOPS}
use Rattle.gq_parts.specs.Within.{is_shared_store, letters_by, reply_by, own_letters, brought, hops, left_behind, after_taken}
use Rattle.gq_parts.specs.Inputs.{inputs_with, line_inputs_with}
use Rattle.gq_parts.specs.Texts.{formed_line, letters_text, step_text, steps_text, own_facts, written_for, facts_for, written_by, facts_by, places, node_text, line_text_of}

-- the tables have these parts of the node for the tenants
abbrev pub AllAgree : Tables → (ℕ → Local) → Type 0
AllAgree w parts = (t : ℕ) → t < length w.plan.rows → Agrees w t (parts t)

-- the lines of the facts
abbrev pub fact_lines : CheckedPlan → List Fact → List (List ℕ)
fact_lines plan facts = map (fact_line plan) facts

-- The node takes these inputs of its tenants. Each tenant's part goes on by its own inputs, and by nothing else; and whatever parts of
-- the node the tables have, the facts are those that the parts give, and what is told is what is written for them.
pub record TakesAll (old : Tables) (inputs : ℕ → List Input) (facts : List Fact) (told : List ℕ) (new : Tables) : Type 0 where
  pub plan : new.plan ≡ old.plan
  pub here : new.here ≡ old.here
  pub parts : (t : ℕ) → t < length old.plan.rows → (local : Local) → Agrees old t local → Agrees new t (after_taken (site_of old.plan old.here t) local (inputs t))
  pub gives : (parts : ℕ → Local) → AllAgree old parts → facts ≡ facts_by old.plan old.here parts inputs
  pub tells : (parts : ℕ → Local) → AllAgree old parts → told ≡ written_by old.plan old.here parts inputs
  pub fit : All (FitsFact old.plan) facts

-- The step of a node, whose tables are these, on a line without its newline: the lines of its facts, what is told, which is what is written for the
-- tenants and then what the node itself writes to other nodes, and the tables after it. The plan is sound, and the tables have some part of the node for each tenant.
-- By a letter in a short form all that is so for each content that its copy may have.
pub record StepsTo (old : Tables) (line : List ℕ) (lines : List (List ℕ)) (told : List ℕ) (new : Tables) : Type 0 where
  pub sound : IsPlan old.plan
  pub stand : AllStand old
  pub facts : List Fact
  pub tenants : List ℕ
  pub takes : (bytes : List ℕ) → TakesAll old (line_inputs_with bytes old.plan old.here line) facts tenants new
  pub lines_are : lines ≡ fact_lines old.plan facts
  pub told_is : (parts : ℕ → Local) → AllAgree new parts → told ≡ tenants ++ line_text_of old.plan old.here line parts

-- ---- as the code goes

-- the letter is of a tenant of the plan
abbrev pub HasAddress : CheckedPlan → Message → Type 0
HasAddress plan m = m.tenant < length plan.rows

-- and so is its file
abbrev pub IsAddressed : CheckedPlan → Message → Type 0
IsAddressed plan m = HasAddress plan m × (m.file.tenant ≡ m.tenant)

-- the file of the transfer is of a tenant of the plan
abbrev pub IsOfPlan : CheckedPlan → Option Transfer → Type 0
IsOfPlan plan None = Unit {0}
IsOfPlan plan (Some transfer) = (transfer_file transfer).tenant < length plan.rows

-- whether the server lacks a file of some tenant
abbrev pub some_lacks : Tables → Bool
some_lacks w = list_any (λ t. nat_lt 0 (lacked_files (lacks_at w t) (account_at w.desk t).volumes)) (places w.plan)

-- how many files of all tenants it lacks
abbrev pub all_lacked : Tables → ℕ
all_lacked w = sum_by (λ t. lacked_files (lacks_at w t) (account_at w.desk t).volumes) (places w.plan)

-- what is written to other nodes at a tick was appended, whatever parts of the node the tables have
pub record AskedToJoin (w : Tables) (told_before told_after : List ℕ) : Type 0 where
  pub own : List ℕ
  pub told_is : told_after ≡ told_before ++ own
  pub own_is : (parts : ℕ → Local) → AllAgree w parts → own ≡ node_text w.plan w.here Tick parts

-- the lines of the facts were appended, and what was told
pub record Appended (plan : CheckedPlan) (facts : List Fact) (told facts_before facts_after told_before told_after : List ℕ) : Type 0 where
  pub facts_are : facts_after ≡ facts_before ++ lines_text (fact_lines plan facts)
  pub told_is : told_after ≡ told_before ++ told

-- of letters those that are taken within, and those that go by lines: all to other nodes, and stores to a column of more servers
abbrev pub goes_home : (again : Bool) → CheckedPlan → Here → Message → Bool
goes_home true plan here m = address_of plan here m == here.node
goes_home false plan here m = not (is_shared_store plan.grid m.body) && address_of plan here m == here.node

abbrev pub going_home : (again : Bool) → CheckedPlan → Here → List Message → List Message
going_home again plan here letters = filter (goes_home again plan here) letters

abbrev pub going_by_lines : (again : Bool) → CheckedPlan → Here → List Message → List Message
going_by_lines again plan here letters = filter (λ m. not (goes_home again plan here m)) letters

-- the form in which a letter goes, as the tables have it: what goes out once more goes whole
abbrev pub table_form : (again : Bool) → Tables → Message → Option Short
table_form again w m = if again then None else form_at w m

-- the line of a letter in that form; those of letters; and those of letters that are not taken within
abbrev pub table_line : (again : Bool) → CheckedPlan → Here → Tables → Message → List ℕ
table_line again plan here w m = formed_line plan here m (table_form again w m)

abbrev pub table_lines : (again : Bool) → CheckedPlan → Here → Tables → List Message → List ℕ
table_lines again plan here w letters = flat_map (table_line again plan here w) letters

abbrev pub told_letters : (again : Bool) → CheckedPlan → Here → Tables → List Message → List ℕ
told_letters again plan here w letters = table_lines again plan here w (going_by_lines again plan here letters)

-- what the node gave by the input of the tenant at place t is what the tenant's part gives by it, and the part goes on
pub record GivesBy (old : Tables) (t : ℕ) (input : Input) (out : Output) (short : Option Short) (new : Tables) : Type 0 where
  pub leads : Leads old t (does input) new
  pub gives : (local : Local) → Agrees old t local → Gives t (record (does input (site_of old.plan old.here t) local) { letters = letters_by (site_of old.plan old.here t) local input }) out
  pub reply : (local : Local) → Agrees old t local → short ≡ option_map (short_with t) (reply_by (site_of old.plan old.here t) local input)

-- the node takes letters of its own that the part of the tenant at place t wrote, and those that they give, for so many hops; the parts of all others stay
pub record TakesOwn (many : ℕ) (old : Tables) (t : ℕ) (letters : List OwnMessage) (facts : List Fact) (told : List ℕ) (new : Tables) : Type 0 where
  pub plan : new.plan ≡ old.plan
  pub here : new.here ≡ old.here
  pub own : (local : Local) → Agrees old t local →
      Agrees new t (after_all (site_of old.plan old.here t) local (hops many (site_of old.plan old.here t) local letters))
  pub others : (u : ℕ) → u ≢ t → (local : Local) → Agrees old u local → Agrees new u local
  pub gives : (local : Local) → Agrees old t local →
      facts ≡ map (fact_of t) (own_facts (site_of old.plan old.here t) local (hops many (site_of old.plan old.here t) local letters))
  pub tells : (local : Local) → Agrees old t local →
      told ≡ steps_text old.plan old.here t local (hops many (site_of old.plan old.here t) local letters)
      ++ letters_text old.plan old.here t false (after_all (site_of old.plan old.here t) local (hops many (site_of old.plan old.here t) local letters)) (left_behind many (site_of old.plan old.here t) local letters)
  pub fit : All (FitsFact old.plan) facts

-- the letter is of the tenant at place t, and so is its file
abbrev pub IsOfTenant : ℕ → Message → Type 0
IsOfTenant t m = (m.tenant ≡ t) × (m.file.tenant ≡ t)

-- one hop alone: the node takes these letters, and those that they give to be taken within are `own`
pub record TakesHop (old : Tables) (t : ℕ) (letters : List OwnMessage) (facts : List Fact) (told : List ℕ) (own : List Message) (new : Tables) : Type 0 where
  pub plan : new.plan ≡ old.plan
  pub here : new.here ≡ old.here
  pub part : (local : Local) → Agrees old t local → Agrees new t (after_all (site_of old.plan old.here t) local (brought (site_of old.plan old.here t) letters))
  pub others : (u : ℕ) → u ≢ t → (local : Local) → Agrees old u local → Agrees new u local
  pub gives : (local : Local) → Agrees old t local →
      facts ≡ map (fact_of t) (own_facts (site_of old.plan old.here t) local (brought (site_of old.plan old.here t) letters))
  pub tells : (local : Local) → Agrees old t local → told ≡ steps_text old.plan old.here t local (brought (site_of old.plan old.here t) letters)
  pub writes : (local : Local) → Agrees old t local →
      map own_message own ≡ own_letters (site_of old.plan old.here t) (doings (site_of old.plan old.here t) local (brought (site_of old.plan old.here t) letters))
  pub theirs : All (IsOfTenant t) own
  pub fit : All (FitsFact old.plan) facts

-- the node takes these inputs of the tenant at place t, which come from outside, and what is taken within; the parts of all others stay
pub record TakesOf (old : Tables) (t : ℕ) (inputs : List Input) (facts : List Fact) (told : List ℕ) (new : Tables) : Type 0 where
  pub plan : new.plan ≡ old.plan
  pub here : new.here ≡ old.here
  pub own : (local : Local) → Agrees old t local → Agrees new t (after_taken (site_of old.plan old.here t) local inputs)
  pub others : (u : ℕ) → u ≢ t → (local : Local) → Agrees old u local → Agrees new u local
  pub gives : (local : Local) → Agrees old t local → facts ≡ facts_for old.plan old.here t local inputs
  pub tells : (local : Local) → Agrees old t local → told ≡ written_for old.plan old.here t local inputs
  pub fit : All (FitsFact old.plan) facts

-- it took them, and appended what that gave: the inputs of one tenant, and those of all
pub record TookOf (old : Tables) (t : ℕ) (inputs : List Input) (facts_before facts_after told_before told_after : List ℕ) (new : Tables) : Type 0 where
  pub facts : List Fact
  pub told : List ℕ
  pub takes : TakesOf old t inputs facts told new
  pub appended : Appended old.plan facts told facts_before facts_after told_before told_after

-- it took a hop, and appended those that this gave to be taken within; it took letters and those that they give, for so many hops
pub record TookHop (old : Tables) (t : ℕ) (letters : List OwnMessage) (own_before own_after : List Message) (facts_before facts_after told_before told_after : List ℕ) (new : Tables) : Type 0 where
  pub facts : List Fact
  pub told : List ℕ
  pub own : List Message
  pub takes : TakesHop old t letters facts told own new
  pub appended : Appended old.plan facts told facts_before facts_after told_before told_after
  pub own_is : own_after ≡ own_before ++ own

pub record TookOwn (many : ℕ) (old : Tables) (t : ℕ) (letters : List OwnMessage) (facts_before facts_after told_before told_after : List ℕ) (new : Tables) : Type 0 where
  pub facts : List Fact
  pub told : List ℕ
  pub takes : TakesOwn many old t letters facts told new
  pub appended : Appended old.plan facts told facts_before facts_after told_before told_after

-- what a step gave was put: its own text with the letters that go by lines, and then what was taken within
pub record PutAll (w : Tables) (t : ℕ) (asked : Line) (again : Bool) (out : Output) (facts_before facts_after told_before told_after : List ℕ) (new : Tables) : Type 0 where
  pub facts_between : List ℕ
  pub told_between : List ℕ
  pub step : Appended w.plan (option_to_list out.fact) (step_text w.plan w.here t asked out.answer (told_letters again w.plan w.here w out.letters.items) out.transfer) facts_before facts_between told_before told_between
  pub fit : All (FitsFact w.plan) (option_to_list out.fact)
  pub own : TookOwn MOST_HOPS w t (map own_message (going_home again w.plan w.here out.letters.items)) facts_between facts_after told_between told_after new

pub record TookAll (old : Tables) (inputs : ℕ → List Input) (facts_before facts_after told_before told_after : List ℕ) (new : Tables) : Type 0 where
  pub facts : List Fact
  pub told : List ℕ
  pub takes : TakesAll old inputs facts told new
  pub appended : Appended old.plan facts told facts_before facts_after told_before told_after

-- it took a short letter, and appended what that gave: the same for each content
pub record TookShort (old : Tables) (t from : ℕ) (s : OwnShort) (facts_before facts_after told_before told_after : List ℕ) (new : Tables) : Type 0 where
  pub facts : List Fact
  pub told : List ℕ
  pub takes : (bytes : List ℕ) → TakesOf old t (Shortened from s bytes ∷ []) facts told new
  pub appended : Appended old.plan facts told facts_before facts_after told_before told_after

-- it took what came: it took the inputs of all, and appended behind what that gave what it writes to other nodes
pub record TookIncoming (old : Tables) (incoming : Incoming) (facts_before facts_after told_before told_after : List ℕ) (new : Tables) : Type 0 where
  pub facts : List Fact
  pub told : List ℕ
  pub takes : (bytes : List ℕ) → TakesAll old (inputs_with bytes old.plan old.here incoming) facts told new
  pub between : List ℕ
  pub appended : Appended old.plan facts told facts_before facts_after told_before between
  pub own : List ℕ
  pub told_is : told_after ≡ between ++ own
  pub own_is : (parts : ℕ → Local) → AllAgree new parts → own ≡ node_text old.plan old.here incoming parts
