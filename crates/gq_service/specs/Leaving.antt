-- What of a node is left where tenants went, tenant by tenant.
use Rattle.std.specs.Prelude.{◌≡◌, ℕ, List, [], ◌∷◌, true, false, not, ◌==◌, Ok, Option, Some, None, if◌then◌else◌}
use Rattle.std.specs.List.{flat_map, list_all}
use Rattle.gq_chunks.specs.Facts.{chunk_fact_of_line}
use Rattle.gq_chunks.specs.Machines.{room_read, room_before}
use Rattle.gq_depot.specs.declared.fact.ChunkFact.{ChunkFact}
use Rattle.gq_desk.specs.CheckedPlan.{CheckedPlan}
use Rattle.gq_journal.specs.Batches.{Line, batches_of, lines_text}
use Rattle.gq_keeper.specs.Plans.{begins_with_plan, first_plan}
use Rattle.gq_keeper.specs.Starting.{facts_read}
use Rattle.gq_node.specs.Local.{Local}
use Rattle.gq_node.specs.Resting.{recall_all, those_of, begun_local}
use Rattle.gq_node.specs.Sites.{Site, site_of}
use Rattle.gq_parts.specs.Recalls.{facts_said}
use Rattle.gq_setup.specs.Laws.{here_of}
use Rattle.gq_setup.specs.Setups.{Setup, CanGo, CanOpen, accounts_of, is_gone_at}
use Rattle.gq_setup.specs.Texts.{first_of_setup, setup_of_node_text}
use Rattle.gq_service.specs.Gone.{facts_taken, is_of_gone, somebody_went}
use Rattle.gq_service.specs.Both.{setup_read}
use Rattle.gq_service.specs.Serving.{begun_with, first_of_journal, volumes_in}
use Rattle.gq_service.specs.Writing.{started_part}

-- the journal begins with the text of this plan
pub record BeginsWith (journal : List ℕ) (first : Setup) : Type 0 where
  pub begins : begins_with_plan (batches_of journal) ≡ true
  pub tells : setup_of_node_text (lines_text (first_plan (batches_of journal))) ≡ Ok first
  pub can : CanOpen (accounts_of first.plan) first.openings

-- the part that all facts of the journal and the whole plan with which it begins make of the tenant at place t, as if nobody had gone
abbrev pub whole_part : Setup → (number : ℕ) → (journal : List ℕ) → (first : Setup) → (t : ℕ) → Local
whole_part setup number journal first t =
    let site : Site = site_of setup.plan (here_of number setup) t in
    recall_all site (begun_local site (volumes_in t setup.openings) (first_of_setup first t)) (those_of t (facts_said setup.plan (facts_read journal)))

-- who stays starts with that
abbrev pub WhoStaysIsWhole : Type 0
WhoStaysIsWhole = (setup : Setup) (number : ℕ) (journal : List ℕ) (first : Setup) (t : ℕ) → CanGo setup.plan [] setup.gone → BeginsWith journal first →
    is_gone_at setup.gone first.plan t ≡ false → started_part setup number journal t ≡ whole_part setup number journal first t

-- where tenants went, no fact that names one of them is taken
abbrev pub NoneOfTheGone : Type 0
NoneOfTheGone = (setup : Setup) (journal : List ℕ) → somebody_went setup journal ≡ true → list_all (λ line. not (is_of_gone setup.gone line)) (facts_taken setup journal) ≡ true

-- nor does the place of one lack a file of his, whoever has it now
abbrev pub NothingIsLacked : Type 0
NothingIsLacked = (setup : Setup) (journal : List ℕ) (first : Setup) (t : ℕ) → somebody_went setup journal ≡ true → BeginsWith journal first → is_gone_at setup.gone first.plan t ≡ true →
    (first_of_journal setup journal t).volumes ≡ 0

-- ---- chunks

abbrev pub own_fact : (t : ℕ) → Option (ℕ × ChunkFact) → List ChunkFact
own_fact t None = []
own_fact t (Some (u, fact)) = if u == t then fact ∷ [] else []

-- the facts of chunks that these lines say of the tenant at place t
abbrev pub chunk_facts_of : CheckedPlan → (t : ℕ) → List Line → List ChunkFact
chunk_facts_of plan t lines = flat_map (λ line. own_fact t (chunk_fact_of_line plan line)) lines

-- all facts of his chunks are taken, and of what he lacks at first the start makes as much as if nobody had gone
pub record HisChunksStay (setup : Setup) (journal : List ℕ) (first : Setup) (t : ℕ) : Type 0 where
  pub facts : chunk_facts_of setup.plan t (facts_taken setup journal) ≡ chunk_facts_of setup.plan t (facts_read journal)
  pub room : room_before (setup_read (begun_with setup journal)) t ≡ room_read (Ok first) t

abbrev pub AllChunksStay : Type 0
AllChunksStay = (setup : Setup) (journal : List ℕ) (first : Setup) (t : ℕ) → CanGo setup.plan [] setup.gone → BeginsWith journal first →
    is_gone_at setup.gone first.plan t ≡ false → HisChunksStay setup journal first t

-- nor does the place of one who went lack chunks of his, whoever has it now: he had no room in that plan
abbrev pub NoRoomIsLacked : Type 0
NoRoomIsLacked = (setup : Setup) (journal : List ℕ) (first : Setup) (t : ℕ) → somebody_went setup journal ≡ true → BeginsWith journal first → is_gone_at setup.gone first.plan t ≡ true →
    room_before (setup_read (begun_with setup journal)) t ≡ 0
