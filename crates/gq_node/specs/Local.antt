-- One tenant's part of a node, and what a line does to it: each step is one of the model, on the answers to the model's
-- questions that are made of this part. Nothing here names another tenant.
use Rattle.std.specs.Prelude.{ℕ, ◌*◌, ◌+◌, ◌/◌, ◌%◌, List, [], ◌∷◌, ◌++◌, Bool, true, false, ◌&&◌, ◌||◌, ◌==◌, not, nat_lt, nat_le, Option, Some, None, is_some, length, if◌then◌else◌}
use Rattle.gq_grid.specs.Grid.{Grid, Servers, no_servers}
use Rattle.gq_tag.specs.declared.StoredCopy.{StoredCopy}
use Rattle.gq_tag.specs.declared.Body.{Body}
use Rattle.gq_tag.specs.declared.Body.TheVariants.{Ask, Copy, Store, Stored}
use Rattle.gq_tag.specs.Tag.{File, is_file, OwnMessage, to_server}
use Rattle.gq_phase.specs.declared.Outcome.{Outcome}
use Rattle.gq_phase.specs.Phase.{Operation, is_collect, round_file, heard_servers}
use Rattle.gq_desk.specs.declared.volumes.VolumeRow.{VolumeRow}
use Rattle.gq_model.specs.declared.events.Line.{Line}
use Rattle.gq_model.specs.declared.events.Line.TheVariants.{Write, Read, List as ListFiles, Deliver, Abandon}
use Rattle.gq_model.specs.declared.events.Refusal.{Refusal}
use Rattle.gq_model.specs.declared.events.Refusal.TheVariants.{NoSession, Busy}
use Rattle.gq_model.specs.Told.{Told, Began, Noted, Round, Done, Abandoned, Refused}
use Rattle.gq_model.specs.Trace.{Own, Entry, State, Session, new_session, changed, held, operation, limit_at}
use Rattle.gq_model.specs.Lone.{Step, entry_of, is_refusal, asked_step, serve_step, hear_step, retry_step}
use Rattle.gq_node.specs.declared.output.Answer.{Answer}
use Rattle.gq_node.specs.declared.output.Answer.TheVariants.{Done as IsDone, Gone, Refused as IsRefused, Old, Early, Busy as IsBusy, Away, Has, Bad as IsBad}
use Rattle.gq_node.specs.declared.output.Holding.{Holding}
use Rattle.gq_node.specs.declared.output.Admission.{Admission}
use Rattle.gq_node.specs.declared.output.Admission.TheVariants.{Tells, Passes, Goes}
use Rattle.gq_cluster.specs.Cluster.{Part, everyone, state_of as state_of_part}
use Rattle.gq_cluster.specs.Facts.{OwnFact, Begun, Numbered, Kept, Had, Reserved, none_reserved, greatest_number, reserving, reserved_by, replaced_in}
use Rattle.gq_node.specs.Columns.{column_behind, rounds_stayed, stays_after}
use Rattle.gq_node.specs.Sites.{Site, has_session, nodes_from, aim, next_of}

-- ---- a tenant's part

-- a session of the tenant: the model's, the last numbers that are reserved for it, the outcome of its last operation if that was done
-- since the start, the row and the column that it tries, whether a tick came since it last heard something new, and for how many rounds more it
-- stores in its own column, and whole
pub record Resident : Type 0 where
  pub session : Session
  pub reserved : Reserved
  pub outcome : Option Outcome
  pub row : ℕ
  pub column : ℕ
  pub waited : Bool
  pub stays : ℕ

-- what the node has of the tenant
pub record Local : Type 0 where
  pub volumes : List VolumeRow
  -- of each file the copies that came to its server
  pub brought : File → List StoredCopy
  -- the files that its server has no copy of: it is a new node, and was given none of these yet
  pub lacks : File → Bool
  -- the places whose nodes have told this one, since it was started, that their plan has it
  pub joined : Servers
  -- the place whose node it asked last for a file, or its own
  pub peer : ℕ
  pub residents : ℕ → Resident

-- a session that tries the row and the column of this server
abbrev pub new_resident : Grid → ℕ → Resident
new_resident grid server = record { session = new_session; reserved = none_reserved; outcome = None; row = server / grid.cols; column = server % grid.cols; waited = false; stays = 0 }

-- of the node of that server which was never started, with these volumes
abbrev pub new_local : Grid → ℕ → List VolumeRow → Local
new_local grid server volumes = record { volumes = volumes; brought = λ file. []; lacks = λ file. false; joined = no_servers; peer = server; residents = λ k. new_resident grid server }

-- what the law of clusters calls the node's part
abbrev pub part_in : Local → Part
part_in local = record { brought = local.brought; lacks = local.lacks; session = λ k. (local.residents k).session; reserved = λ k. (local.residents k).reserved }

-- the answers to the model's questions, where these servers are up
abbrev pub state_of : Servers → Local → State
state_of up local = state_of_part local.volumes up (part_in local)

-- whom the resident asks
abbrev pub aim_at : Grid → Resident → Servers
aim_at grid r = aim grid r.row r.column

-- the answers for session k, by whom it asks
abbrev pub state_for : Site → Local → ℕ → State
state_for site local k = state_of (aim_at site.grid (local.residents k)) local

-- whom session k asks, and sends to, behind a letter that it hears; and the answers for it then
abbrev pub aim_behind : Site → Local → OwnMessage → Servers
aim_behind site local m =
    let r : Resident = local.residents m.session in
    aim site.grid r.row (column_behind site.grid r.stays r.column (operation (state_for site local m.session) m.session) m)

abbrev pub state_behind : Site → Local → OwnMessage → State
state_behind site local m = state_of (aim_behind site local m) local

-- session k is another one
abbrev pub with_resident : Local → ℕ → Resident → Local
with_resident local k resident = record local { residents = λ j. if k == j then resident else local.residents j }

-- ---- what a step gives

-- what goes between a new node and a node of its column
pub data Transfer : Type 0 where
  -- that node is asked for its copy of the file
  Wants : (to : ℕ) (file : File) → Transfer
  -- that node is given this one's
  Brings : (to : ℕ) (file : File) (copy : StoredCopy) → Transfer

-- the tenant's part after a step, what the tenant is told, the letters and the transfer that go out, and what must not be forgotten
pub record Doing : Type 0 where
  pub local : Local
  pub answer : Option Answer
  pub letters : List OwnMessage
  pub transfer : Option Transfer
  pub fact : Option OwnFact

-- nothing is told, sent or to be kept; the tenant is told this alone
abbrev pub silently : Local → Doing
silently local = record { local = local; answer = None; letters = []; transfer = None; fact = None }

abbrev pub tells : Local → Answer → Doing
tells local answer = record { local = local; answer = Some answer; letters = []; transfer = None; fact = None }

-- ---- a step of a session

-- how a request is refused, whose session's last operation has that number
abbrev pub refused_with : (k op last : ℕ) → Refusal → Answer
refused_with k op last Busy = IsBusy k op last
refused_with k op last word = IsRefused k op word

-- what the tenant is told where its session k was told this to a line with the number op, when its last operation had that number;
-- that an operation begins is not told
abbrev pub answer_of : (k op last : ℕ) → Told → Option Answer
answer_of k op last (Done outcome) = Some (IsDone outcome)
answer_of k op last Abandoned = Some (Gone k op)
answer_of k op last (Refused refusal) = Some (refused_with k op last refusal)
answer_of k op last _ = None

-- whether the session has waited after it was told this, to a reply from a server that it had heard or had not: a request that
-- begins, a reply from a server not yet heard, and the end of a round end the waiting
abbrev pub waits_after : Told → (heard_before waited : Bool) → Bool
waits_after (Began op first count) heard_before waited = false
waits_after Noted heard_before waited = heard_before && waited
waits_after (Round round tag first count) heard_before waited = false
waits_after (Done outcome) heard_before waited = false
waits_after _ heard_before waited = waited

-- the outcome of its last operation then
abbrev pub outcome_after : Told → Option Outcome → Option Outcome
outcome_after (Began op first count) outcome = None
outcome_after (Done outcome) before = Some outcome
outcome_after Abandoned outcome = None
outcome_after _ outcome = outcome

-- what must not be forgotten behind the entry: a run of numbers, where session k uses one that was not reserved
abbrev pub session_fact : Local → ℕ → State → Entry → Option OwnFact
session_fact local k state e = reserving k (local.residents k).reserved e.told ((changed e state).session k).floor

-- session k goes on by the entry, as the model says; it came with the number op, from a server that was heard or was not
abbrev pub goes_on : Local → (k op : ℕ) → (heard_before : Bool) → State → Entry → Doing
goes_on local k op heard_before state e = record {
  local = with_resident local k (record (local.residents k) {
    session = (changed e state).session k;
    reserved = reserved_by (session_fact local k state e) (local.residents k).reserved;
    outcome = outcome_after e.told (local.residents k).outcome;
    waited = waits_after e.told heard_before (local.residents k).waited;
    stays = stays_after e.told (local.residents k).stays;
  });
  answer = answer_of k op (local.residents k).session.op e.told;
  letters = e.new;
  transfer = None;
  fact = session_fact local k state e;
}

-- ---- a request

-- the session that a request is of, none where the line is no request
abbrev pub asker : Line → Option ℕ
asker (Write k v f bytes) = Some k
asker (Read k v f) = Some k
asker (ListFiles k v) = Some k
asker (Abandon k) = Some k
asker _ = None

-- whether the request begins an operation
abbrev pub begins : Line → Bool
begins (Abandon k) = false
begins _ = true

-- how the session's last operation ended, of which this is known
abbrev pub ended : (k op : ℕ) → Option Outcome → Answer
ended k op None = Gone k op
ended k op (Some outcome) = IsDone outcome

-- a request with the number of the last operation, which goes on or does not
abbrev pub again : (k op : ℕ) → (begins going : Bool) → Option Outcome → Admission
again k op begins true outcome = if begins then Passes else Goes
again k op begins false outcome = Tells (ended k op outcome)

-- what the number op alone says of a request at the home of session k, whose last operation has that number
abbrev pub own_admission : (k op : ℕ) → (begins : Bool) → (last : ℕ) → (going : Bool) → Option Outcome → Admission
own_admission k op begins last going outcome =
    if nat_lt op last || op == 0 then Tells (Old k op last)
    else if op == last then again k op begins going outcome
    else if begins && op == last + 1 then Goes
    else Tells (Early k op last)

-- and at any node: whether there is the session, and where its home is, come first
abbrev pub admission : Site → (k op : ℕ) → (begins : Bool) → (last : ℕ) → (going : Bool) → Option Outcome → Admission
admission site k op begins last going outcome =
    if not (has_session site k) then Tells (IsRefused k op NoSession)
    else if not (site.home k == site.here) then Tells (Away k op (site.home k))
    else own_admission k op begins last going outcome

abbrev pub admission_in : Site → Local → (k op : ℕ) → Bool → Admission
admission_in site local k op begins =
    admission site k op begins (local.residents k).session.op (is_some (local.residents k).session.current) (local.residents k).outcome

-- what the model says to the request
abbrev pub asked_by : Local → (k op : ℕ) → State → Line → Step → Doing
asked_by local k op state line step = by (is_refusal step.told)
  where
    by : Bool → Doing
    by true = record { local = local; answer = answer_of k op (local.residents k).session.op step.told; letters = []; transfer = None; fact = None }
    by false = goes_on local k op false state (entry_of state (Own line) step)

abbrev pub asks_in : Site → Local → (op : ℕ) → Line → ℕ → Doing
asks_in site local op line k = by (admission_in site local k op (begins line))
  where
    by : Admission → Doing
    by (Tells answer) = tells local answer
    by Passes = silently local
    by Goes = asked_by local k op (state_for site local k) line (asked_step site.grid site.row (state_for site local k) line)

-- a line of the tenant with the number op
abbrev pub asks : (op : ℕ) → Line → Site → Local → Doing
asks op line site local = by (asker line)
  where
    by : Option ℕ → Doing
    by None = tells local IsBad
    by (Some k) = asks_in site local op line k

-- ---- what a tenant has

-- a tenant with these volumes has so many servers, a home for its session 1, and what its row says
abbrev pub holding : Site → List VolumeRow → Holding
holding site volumes = record {
  servers = site.grid.rows * site.grid.cols;
  home = site.first_home;
  sessions = site.sessions;
  share = site.row.share;
  most_blocks = site.row.most_blocks;
  volumes = volumes;
  nodes = nodes_from site 1;
}

-- the tenant asks what it has: it is told, and nothing else is done
abbrev pub tells_holding : Site → Local → Doing
tells_holding site local = tells local (Has (holding site local.volumes))

-- ---- a letter

-- the greatest number that a tag may have lets no other be above
abbrev pub has_above : ℕ → Bool
has_above number = nat_lt number greatest_number

-- whether the copy is within the limit of its file in bytes, and a number is above that of its tag
abbrev pub copy_fits : ℕ → StoredCopy → Bool
copy_fits limit copy = nat_le (length copy.bytes) limit && has_above copy.tag.number

abbrev pub body_fits : ℕ → Body → Bool
body_fits limit Ask = true
body_fits limit (Copy copy) = copy_fits limit copy
body_fits limit (Store copy) = copy_fits limit copy
body_fits limit Stored = true

-- the file is there, and the body fits
abbrev pub file_fits : Option ℕ → Body → Bool
file_fits None body = false
file_fits (Some limit) body = body_fits limit body

-- a letter goes from a session's home to a server, or back
abbrev pub goes_between : Site → ℕ → OwnMessage → Bool
goes_between site from m =
    if to_server m.body then m.server == site.place && site.home m.session == from
    else site.home m.session == site.here && site.node_at m.server == from

-- whether an honest node from there sends this letter to this one, in a file of that limit
abbrev pub letter_fits : Site → Option ℕ → ℕ → OwnMessage → Bool
letter_fits site limit from m =
    has_session site m.session && nat_lt m.server (site.grid.rows * site.grid.cols) && goes_between site from m && file_fits limit m.body

-- the entry of a letter that came
abbrev pub brings : OwnMessage → Step → Entry
brings m step = record { turn = Own (Deliver 0); message = Some m; told = step.told; new = step.new }

-- the server of this node serves the letter
abbrev pub serves : Site → Local → OwnMessage → Doing
serves site local m =
    let state : State = state_of everyone local in
    let step : Step = serve_step state m in
    record {
      local = record local { brought = (changed (brings m step) state).brought site.place };
      answer = None;
      letters = step.new;
      transfer = None;
      fact = replaced_in (held state site.place m.file) m.file m.body;
    }

-- unless it lacks the file
abbrev pub at_server : Site → Local → OwnMessage → Doing
at_server site local m = if local.lacks m.file then silently local else serves site local m

-- whether the file is that of the operation's round
abbrev pub of_round : Option Operation → File → Bool
of_round None file = true
of_round (Some o) file = is_file file (round_file o.task o.round)

-- a session hears the letter, unless no number is above its own last one, or the letter is of another file than the round. What it then stores goes to the
-- column of one who gave it the copy, if it was given it
abbrev pub hears : Site → Local → OwnMessage → Doing
hears site local m = by (has_above (local.residents m.session).session.floor && of_round (operation (state_for site local m.session) m.session) m.file)
  where
    state : State
    state = state_behind site local m

    by : Bool → Doing
    by false = silently local
    by true = goes_on local m.session (local.residents m.session).session.op (heard_servers (local.residents m.session).session.heard m.server) state
        (brings m (hear_step site.grid state m (operation state m.session)))

-- a letter from another node, or from this one
abbrev pub receives : ℕ → OwnMessage → Site → Local → Doing
receives from m site local = by (letter_fits site (limit_at (state_of everyone local) m.file.volume m.file.place) from m)
  where
    to_its_end : Bool → Doing
    to_its_end true = at_server site local m
    to_its_end false = hears site local m

    by : Bool → Doing
    by false = silently local
    by true = to_its_end (to_server m.body)

-- ---- a tick

-- the resident tries the next row where its round collects, else the next column, where it stays for some rounds
abbrev pub tries_next : Grid → (collects : Bool) → Resident → Resident
tries_next grid true r = record r { row = next_of grid.rows r.row }
tries_next grid false r = record r { column = next_of grid.cols r.column; stays = rounds_stayed }

-- a tick comes to session k, which has waited or not
abbrev pub waits_on : Site → Local → ℕ → Bool → Doing
waits_on site local k waited = by waited
  where
    resident : Resident
    resident = tries_next site.grid (is_collect (local.residents k).session.round) (local.residents k)

    state : State
    state = state_of (aim_at site.grid resident) local

    by : Bool → Doing
    by false = record (silently local) { local = with_resident local k (record (local.residents k) { waited = true }) }
    by true = record (silently local) { local = with_resident local k resident; letters = (retry_step site.grid state (operation state k)).new }

-- a tick does nothing in a session without an operation
abbrev pub ticks : ℕ → Site → Local → Doing
ticks k site local = by (is_some (local.residents k).session.current)
  where
    by : Bool → Doing
    by false = silently local
    by true = waits_on site local k (local.residents k).waited

-- ---- a start

-- a session that has no operation, and goes on behind these numbers
abbrev pub rested : Resident → Reserved → Resident
rested r reserved = record { session = record new_session { op = reserved.op; floor = reserved.floor }; reserved = reserved; outcome = None; row = r.row; column = r.column; waited = false; stays = 0 }

-- the server has one copy of the file more; and was given the file
abbrev pub with_copy : File → StoredCopy → Local → Local
with_copy file copy local = record local { brought = λ f. if is_file file f then local.brought f ++ copy ∷ [] else local.brought f }

abbrev pub given : File → StoredCopy → Local → Local
given file copy local = record (with_copy file copy local) { lacks = λ f. local.lacks f && not (is_file file f) }

-- what a start makes of a fact
abbrev pub recalled : OwnFact → Local → Local
recalled (Begun k op) local = with_resident local k (rested (local.residents k) (reserved_by (Some (Begun k op)) (local.residents k).reserved))
recalled (Numbered k number) local = with_resident local k (rested (local.residents k) (reserved_by (Some (Numbered k number)) (local.residents k).reserved))
recalled (Kept file copy) local = with_copy file copy local
recalled (Had file copy) local = given file copy local

-- whether a fact can be one of this tenant, in a file of that limit, which its server lacks or has
abbrev pub fact_fits : Site → (lacks : Bool) → Option ℕ → OwnFact → Bool
fact_fits site lacks limit (Begun k op) = has_session site k
fact_fits site lacks limit (Numbered k number) = has_session site k
fact_fits site lacks limit (Kept file copy) = not lacks && file_fits limit (Store copy)
fact_fits site lacks limit (Had file copy) = file_fits limit (Store copy)

-- the file of a fact
abbrev pub file_in : OwnFact → File
file_in (Kept file copy) = file
file_in (Had file copy) = file
file_in _ = record { volume = 0; place = 0 }

abbrev pub fits_local : OwnFact → Site → Local → Bool
fits_local fact site local = fact_fits site (local.lacks (file_in fact)) (limit_at (state_of everyone local) (file_in fact).volume (file_in fact).place) fact

-- a fact that does not fit is passed over
abbrev pub recalls : OwnFact → Site → Local → Doing
recalls fact site local = by (fits_local fact site local)
  where
    by : Bool → Doing
    by false = silently local
    by true = silently (recalled fact local)
