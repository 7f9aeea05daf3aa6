-- What a node's tables do by a short letter, and by a copy of which the tag alone came.
use Rattle.std.specs.Prelude.{◌≡◌, ℕ, ◌/◌, [], ◌∷◌, Bool, false, ◌==◌, ◌&&◌, ◌||◌, not, Option, Some, None, is_some, option_map, if◌then◌else◌}
use Rattle.gq_grid.specs.Sets.{servers}
use Rattle.gq_tag.specs.declared.Tag.{Tag}
use Rattle.gq_tag.specs.declared.StoredCopy.{StoredCopy}
use Rattle.gq_tag.specs.declared.Body.{Body}
use Rattle.gq_tag.specs.declared.Body.TheVariants.{Copy}
use Rattle.gq_tag.specs.declared.Message.{Message}
use Rattle.gq_tag.specs.Tag.{own_message, file_place}
use Rattle.gq_desk.specs.Volumes.{limit_of}
use Rattle.gq_store.specs.Copies.{copy_at}
use Rattle.gq_replace.specs.Plans.{place_of, node_at}
use Rattle.gq_phase.specs.Best.{tag_in}
use Rattle.gq_phase.specs.declared.operation.Operation.{Operation as Code}
use Rattle.gq_phase.specs.Standing.{IsTaken, takes_as, stored_as, reads}
use Rattle.gq_node.specs.declared.output.Output.{Output}
use Rattle.gq_node.specs.declared.shorts.Short.{Short}
use Rattle.gq_node.specs.declared.shorts.ShortBody.{ShortBody}
use Rattle.gq_node.specs.declared.shorts.ShortOutput.{ShortOutput}
use Rattle.gq_node.specs.Local.{Local, hears}
use Rattle.gq_node.specs.Shorts.{ShortDoing, short_with, any_tag, bound_from, body_from, short_form}
use Rattle.gq_node.specs.SessionStates.{confirms_in}
use Rattle.gq_node.specs.Sites.{Site, plan_in, site_of, has_session}
use Rattle.gq_node.specs.Tables.{Tables, Acts, Agrees, Gives, Leads, lacks_at, session_state_at}

-- ---- whatever the content is

-- the same message of another copy
abbrev pub with_content : Message → StoredCopy → Message
with_content m copy = record { tenant = m.tenant; session = m.session; op = m.op; round = m.round; server = m.server; file = m.file; body = Copy copy }

-- the session has an operation, the body is a copy whose tag it takes, and the copy has this tag
abbrev pub TakesContent : Option Code → Body → StoredCopy → Type 0
TakesContent None body copy = ⊥
TakesContent (Some code) body copy = IsTaken code body (Copy copy)

-- the tables go on, and give this, as the session does by the message with any other copy of the tag, where its operation takes that
abbrev pub HearsAnyContent : Tables → Message → Output → Tables → Type 0
HearsAnyContent old m out new =
    (copy : StoredCopy) → TakesContent (session_state_at old m.tenant m.session).operation m.body copy → Acts old m.tenant (λ site local. hears site local (own_message (with_content m copy))) out new

-- ---- a short letter

-- the letter with the short one's head, and the short reply
abbrev pub whole_of : Short → Body → Message
whole_of s body = record { tenant = s.tenant; session = s.session; op = s.op; round = s.round; server = s.server; file = s.file; body = body }

abbrev pub reply_as : Short → ShortBody → Short
reply_as s body = record { tenant = s.tenant; session = s.session; op = s.op; round = s.round; server = s.server; file = s.file; body = body }

-- whether the session has an operation to which the tag says as much as the copy
abbrev pub takes_in : Option Code → Tag → Bool
takes_in None tag = false
takes_in (Some code) tag = takes_as code tag

-- the copy that the session's round stores, where the short letter is of that round, and its server was not heard in it
abbrev pub stored_for : Option Code → Short → Option StoredCopy
stored_for None s = None
stored_for (Some code) s = if servers code.heard s.server then None else stored_as code s.op s.round s.file

-- one letter is given
pub record GivesOne (letter : Message) (given : ShortOutput) : Type 0 where
  pub answer : given.out.answer ≡ None
  pub letters : given.out.letters.items ≡ letter ∷ []
  pub transfer : given.out.transfer ≡ None
  pub fact : given.out.fact ≡ None
  pub short : given.short ≡ None

-- what is written is what the step of the tenant at place t gives
pub record GivesShortly (t : ℕ) (x : ShortDoing) (given : ShortOutput) : Type 0 where
  pub gives : Gives t (record (x.doing) { letters = x.whole }) given.out
  pub short : given.short ≡ option_map (short_with t) x.short

-- the step leads from the old tables to the new, and gives this, whatever part of the node the tables have for the tenant
pub record ActsShortly (old : Tables) (t : ℕ) (step : Site → Local → ShortDoing) (given : ShortOutput) (new : Tables) : Type 0 where
  pub leads : Leads old t (λ site local. (step site local).doing) new
  pub gives : (local : Local) → Agrees old t local → GivesShortly t (step (site_of old.plan old.here t) local) given

-- ---- which form a letter has

-- the short letter with the head of the whole one
abbrev pub short_at : Message → ShortBody → Short
short_at m body = record { tenant = m.tenant; session = m.session; op = m.op; round = m.round; server = m.server; file = m.file; body = body }

abbrev pub bound_in : Option Code → Option Tag
bound_in None = None
bound_in (Some code) = if not (reads code.task) then Some any_tag else tag_in code.best

abbrev pub is_beside_in : Tables → Message → Bool
is_beside_in w m =
    is_some (limit_of w.desk m.file)
    && (not (lacks_at w m.tenant (file_place m.file)) && (not (place_of w.here.node == m.server) && place_of w.here.node / w.plan.grid.cols == m.server / w.plan.grid.cols))

abbrev pub bound_at : Tables → Message → Option Tag
bound_at w m = bound_from (bound_in (session_state_at w m.tenant m.session).operation) (is_beside_in w m) (copy_at w.store m.file).tag

abbrev pub goes_without_at : Tables → Message → Bool
goes_without_at w m = (node_at (plan_in w.here.lost) m.server == w.here.node) || confirms_in (session_state_at w m.tenant m.session)

abbrev pub short_body_at : Tables → Message → Option ShortBody
short_body_at w m = body_from m.body (bound_at w m) (goes_without_at w m)

abbrev pub form_at : Tables → Message → Option Short
form_at w m = if has_session (site_of w.plan w.here m.tenant) m.session then option_map (short_at m) (short_body_at w m) else None

-- whatever part of the node the tables have for the tenant, this is the form that the part has the letter written in
abbrev pub ShortFormIs : Tables → Message → Option Short → Type 0
ShortFormIs w m short = (local : Local) → Agrees w m.tenant local → short ≡ option_map (short_with m.tenant) (short_form (site_of w.plan w.here m.tenant) local (own_message m))
