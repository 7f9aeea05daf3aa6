-- What is left out says nothing of who stays.
use Rattle.std.proofs.Common.{◌≡◌, ◌∙◌, ℕ, ◌*◌, List, [], ◌∷◌, ◌++◌, length, Bool, true, false, cond, refl, sym, ap, subst, None}
use Rattle.std.specs.Prelude.{Ok, not, filter}
use Rattle.std.specs.List.{list_all}
use Rattle.std.specs.Option.{option_to_list}
use Rattle.gq_chunks.specs.Facts.{chunk_fact_of_line, chunk_fact_of_words}
use Rattle.gq_chunks.specs.Machines.{room_read, room_before}
use Rattle.gq_depot.specs.declared.fact.ChunkFact.{ChunkFact}
use Rattle.gq_desk.specs.CheckedPlan.{CheckedPlan}
use Rattle.gq_desk.specs.Volumes.{Account, account_at}
use Rattle.gq_facts.specs.Facts.{fact_of_line, fact_of_words}
use Rattle.gq_journal.specs.Batches.{Line}
use Rattle.gq_keeper.specs.Starting.{facts_read}
use Rattle.gq_node.specs.declared.output.Fact.{Fact}
use Rattle.gq_node.specs.Resting.{FirstPlan, recall_all, those_of, begun_local}
use Rattle.gq_node.specs.Sites.{Site, site_of}
use Rattle.gq_parts.specs.Recalls.{facts_said}
use Rattle.gq_setup.specs.Laws.{here_of, GoneAreNoTenants, WhatIsLeft}
use Rattle.gq_setup.specs.Leaving.{without}
use Rattle.gq_setup.specs.Setups.{Setup, SetupReading, holdings, is_gone, kib_of}
use Rattle.gq_setup.specs.Texts.{first_of_setup, first_read}
use Rattle.gq_text.specs.Input.{place_named}
use Rattle.gq_lines.specs.Words.{Word, words_of}
use Rattle.gq_service.specs.Gone.{facts_left, facts_taken, is_of_gone, names_gone, read_left, somebody_went}
use Rattle.gq_service.specs.Both.{setup_read}
use Rattle.gq_service.specs.Leaving.{BeginsWith, NoneOfTheGone, NothingIsLacked, WhoStaysIsWhole, own_fact, chunk_facts_of, AllChunksStay, NoRoomIsLacked}
use Rattle.gq_service.specs.Serving.{begun_with, first_of_journal, volumes_in}

-- ---- a line that names who is gone says no fact of the plan

said_by_words : (plan : CheckedPlan) (gone words : List Word) → ((name : Word) → is_gone gone name ≡ true → place_named plan name ≡ None) → names_gone gone words ≡ true → fact_of_words plan words ≡ None
unfolding fact_of_words names_gone
said_by_words plan gone [] none names = refl
said_by_words plan gone (verb ∷ []) none names = refl
said_by_words plan gone (verb ∷ name ∷ words) none names = rw (none name names) refl

said_by_gone : (plan : CheckedPlan) (gone : List Word) (line : List ℕ) → ((name : Word) → is_gone gone name ≡ true → place_named plan name ≡ None) → is_of_gone gone line ≡ true → option_to_list (fact_of_line plan line) ≡ []
said_by_gone plan gone line none names = ap option_to_list (said_by_words plan gone (words_of line) none names)

-- so the others say as much
said_left : (plan : CheckedPlan) (gone : List Word) (lines : List Line) → ((name : Word) → is_gone gone name ≡ true → place_named plan name ≡ None) →
    facts_said plan (filter (λ line. not (is_of_gone gone line)) lines) ≡ facts_said plan lines
said_left plan gone [] none = refl
said_left plan gone (line ∷ lines) none = by (is_of_gone gone line) refl (said_left plan gone lines none)
  where
    rest : List Line
    rest = filter (λ line. not (is_of_gone gone line)) lines

    by : (b : Bool) → is_of_gone gone line ≡ b → facts_said plan rest ≡ facts_said plan lines → facts_said plan (cond (not b) (line ∷ rest) rest) ≡ option_to_list (fact_of_line plan line) ++ facts_said plan lines
    by true names same = same ∙ ap (λ (z : List Fact). z ++ facts_said plan lines) (sym (said_by_gone plan gone line none names))
    by false other same = ap (λ (z : List Fact). option_to_list (fact_of_line plan line) ++ z) same

said_taken : (went : Bool) (setup : Setup) (journal : List ℕ) → ((name : Word) → is_gone setup.gone name ≡ true → place_named setup.plan name ≡ None) → facts_said setup.plan (facts_left went setup journal) ≡ facts_said setup.plan (facts_read journal)
said_taken true setup journal none = said_left setup.plan setup.gone (facts_read journal) none
said_taken false setup journal none = refl

-- ---- the plan with which the journal begins

begun_is : (setup : Setup) (journal : List ℕ) (first : Setup) → BeginsWith journal first → begun_with setup journal ≡ read_left (somebody_went setup journal) setup (Ok first)
begun_is setup journal first b = (let begins = b.begins in rw begins refl) ∙ ap (read_left (somebody_went setup journal) setup) b.tells

first_left : (went : Bool) (setup first : Setup) (t : ℕ) → account_at (holdings (without setup.gone first)) t ≡ account_at (holdings first) t → first_read (read_left went setup (Ok first)) t ≡ first_of_setup first t
first_left true setup first t same = ap (λ (a : Account). record { volumes = length a.volumes; losses = length first.lost }) same
first_left false setup first t same = refl

-- ---- the laws

pub who_stays_is_whole : GoneAreNoTenants → WhatIsLeft → WhoStaysIsWhole
who_stays_is_whole no_tenants left setup number journal first t can begins stays =
    let site : Site = site_of setup.plan (here_of number setup) t in
    let none : (name : Word) → is_gone setup.gone name ≡ true → place_named setup.plan name ≡ None = λ name gone. no_tenants setup name can gone in
    let begun : first_of_journal setup journal t ≡ first_of_setup first t =
    ap (λ (r : SetupReading Setup). first_read r t) (begun_is setup journal first begins) ∙ first_left (somebody_went setup journal) setup first t ((left first setup.gone t begins.can).stays stays) in
    ap (λ (p : FirstPlan). recall_all site (begun_local site (volumes_in t setup.openings) p) (those_of t (facts_said setup.plan (facts_taken setup journal)))) begun
    ∙ ap (λ (facts : List Fact). recall_all site (begun_local site (volumes_in t setup.openings) (first_of_setup first t)) (those_of t facts)) (said_taken (somebody_went setup journal) setup journal none)

all_others : (gone : List Word) (lines : List Line) → list_all (λ line. not (is_of_gone gone line)) (filter (λ line. not (is_of_gone gone line)) lines) ≡ true
all_others gone [] = refl
all_others gone (line ∷ lines) = by (is_of_gone gone line) refl (all_others gone lines)
  where
    rest : List Line
    rest = filter (λ line. not (is_of_gone gone line)) lines

    by : (b : Bool) → is_of_gone gone line ≡ b → list_all (λ line. not (is_of_gone gone line)) rest ≡ true → list_all (λ line. not (is_of_gone gone line)) (cond (not b) (line ∷ rest) rest) ≡ true
    by true is all = all
    by false is all = rw (is, all) refl

pub none_of_the_gone : NoneOfTheGone
none_of_the_gone setup journal went = subst (λ b. list_all (λ line. not (is_of_gone setup.gone line)) (facts_left b setup journal) ≡ true) (sym went) (all_others setup.gone (facts_read journal))

pub nothing_is_lacked : WhatIsLeft → NothingIsLacked
nothing_is_lacked left setup journal first t went begins gone =
    ap (λ (r : SetupReading Setup). (first_read r t).volumes) (begun_is setup journal first begins ∙ ap (λ b. read_left b setup (Ok first)) went)
    ∙ ap (λ vs. length vs) ((left first setup.gone t begins.can).goes gone)

-- ---- chunks

chunk_by_words : (plan : CheckedPlan) (gone words : List Word) → ((name : Word) → is_gone gone name ≡ true → place_named plan name ≡ None) → names_gone gone words ≡ true → chunk_fact_of_words plan words ≡ None
unfolding chunk_fact_of_words names_gone
chunk_by_words plan gone [] none names = refl
chunk_by_words plan gone (verb ∷ []) none names = refl
chunk_by_words plan gone (verb ∷ name ∷ words) none names = rw (none name names) refl

chunk_by_gone : (plan : CheckedPlan) (gone : List Word) (t : ℕ) (line : List ℕ) → ((name : Word) → is_gone gone name ≡ true → place_named plan name ≡ None) → is_of_gone gone line ≡ true → own_fact t (chunk_fact_of_line plan line) ≡ []
chunk_by_gone plan gone t line none names = ap (own_fact t) (chunk_by_words plan gone (words_of line) none names)

chunks_left : (plan : CheckedPlan) (gone : List Word) (t : ℕ) (lines : List Line) → ((name : Word) → is_gone gone name ≡ true → place_named plan name ≡ None) →
    chunk_facts_of plan t (filter (λ line. not (is_of_gone gone line)) lines) ≡ chunk_facts_of plan t lines
chunks_left plan gone t [] none = refl
chunks_left plan gone t (line ∷ lines) none = by (is_of_gone gone line) refl (chunks_left plan gone t lines none)
  where
    rest : List Line
    rest = filter (λ line. not (is_of_gone gone line)) lines

    by : (b : Bool) → is_of_gone gone line ≡ b → chunk_facts_of plan t rest ≡ chunk_facts_of plan t lines → chunk_facts_of plan t (cond (not b) (line ∷ rest) rest) ≡ own_fact t (chunk_fact_of_line plan line) ++ chunk_facts_of plan t lines
    by true names same = same ∙ ap (λ (z : List ChunkFact). z ++ chunk_facts_of plan t lines) (sym (chunk_by_gone plan gone t line none names))
    by false other same = ap (λ (z : List ChunkFact). own_fact t (chunk_fact_of_line plan line) ++ z) same

chunks_taken : (went : Bool) (setup : Setup) (journal : List ℕ) (t : ℕ) → ((name : Word) → is_gone setup.gone name ≡ true → place_named setup.plan name ≡ None) → chunk_facts_of setup.plan t (facts_left went setup journal) ≡ chunk_facts_of setup.plan t (facts_read journal)
chunks_taken true setup journal t none = chunks_left setup.plan setup.gone t (facts_read journal) none
chunks_taken false setup journal t none = refl

room_left : (went : Bool) (setup first : Setup) (t : ℕ) → kib_of (without setup.gone first).rooms t ≡ kib_of first.rooms t → room_before (setup_read (read_left went setup (Ok first))) t ≡ room_read (Ok first) t
room_left true setup first t same = ap (λ n. n * 1024) same
room_left false setup first t same = refl

pub all_chunks_stay : GoneAreNoTenants → WhatIsLeft → AllChunksStay
all_chunks_stay no_tenants left setup journal first t can begins stays = record {
  facts = chunks_taken (somebody_went setup journal) setup journal t (λ name gone. no_tenants setup name can gone);
  room = ap (λ (r : SetupReading Setup). room_before (setup_read r) t) (begun_is setup journal first begins) ∙ room_left (somebody_went setup journal) setup first t ((left first setup.gone t begins.can).room_stays stays);
}

pub no_room_is_lacked : WhatIsLeft → NoRoomIsLacked
no_room_is_lacked left setup journal first t went begins gone =
    ap (λ (r : SetupReading Setup). room_before (setup_read r) t) (begun_is setup journal first begins ∙ ap (λ b. read_left b setup (Ok first)) went)
    ∙ ap (λ n. n * 1024) ((left first setup.gone t begins.can).room_goes gone)
