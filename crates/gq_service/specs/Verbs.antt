-- Lines and facts of registers and of chunks, told apart by their verbs.
use Rattle.std.proofs.Common.{◌≡◌, ◌∙◌, ℕ, List, [], ◌∷◌, suc, Bool, true, false, refl, sym, subst, Option, Some, None, inl, inr, arith}
use Rattle.std.specs.Prelude.{codes, All, option_map}
use Rattle.std.specs.Str.{bytes_eq}
use Rattle.std.specs.List.{list_all}
use Rattle.std.proofs.lemmas.Bool.{and_from, cases_Bool}
use Rattle.std.proofs.lemmas.List.Folds.{list_all-append}
use Rattle.std.proofs.lemmas.Slice.Eq.{bytes_eq-Decides}
use Rattle.gq_lines.specs.Words.{Word, words_of}
use Rattle.gq_text.specs.Input.{◌>>=◌, place_named}
use Rattle.gq_text.specs.Canonical.{IsPlan}
use Rattle.gq_desk.specs.CheckedPlan.{CheckedPlan}
use Rattle.gq_journal.specs.Batches.{Line}
use Rattle.gq_node.specs.declared.output.Fact.{Fact}
use Rattle.gq_node.specs.Tables.{Tables}
use Rattle.gq_cluster.specs.Facts.{OwnFact}
use Rattle.gq_wire.specs.Values.{byte_then}
use Rattle.gq_facts.specs.Facts.{fact_line, fact_of_line, fact_of_words, fact_by, own_fact_by as register_fact_by}
use Rattle.gq_facts.specs.Laws.{FitsFact}
use Rattle.gq_facts.proofs.FactsBack.{facts_read_back}
use Rattle.gq_parts.specs.Recalls.{reads_fact}
use Rattle.gq_parts.specs.Steps.{fact_lines}
use Rattle.gq_machine.specs.declared.machine.NodeMachine.{NodeMachine}
use Rattle.gq_machine.specs.Machines.{tables_of, MachineSteps, machine_reads}
use Rattle.gq_pair.specs.Pairs.{readable_by}
use Rattle.gq_chunks.specs.Facts.{own_fact_by as chunk_fact_by, chunk_fact_line, chunk_fact_of_line, chunk_fact_of_words}
use Rattle.gq_chunks.specs.Lasting.{WentMany, WentAll, joined, step_went}
use Rattle.gq_chunks.specs.Machines.{Chunks, ChunkSteps, chunk_reads, reads_told, FactStands, fact_lines as chunk_lines}
use Rattle.gq_chunks.specs.Takers.{is_fact_verb, words_tell_chunk, tells_chunk}
use Rattle.gq_depot.specs.declared.fact.ChunkFact.{ChunkFact}

abbrev never : {A : Type 0} (B : Type 0) → A → Option B
never B x = None

none_then : {A : Type 0} (B : Type 0) (o : Option A) → (o >>= never B) ≡ None
none_then B None = refl
none_then B (Some x) = refl

-- ---- what a fact of registers says, none of chunks says

-- none of registers begins with a verb of chunks
no_register_fact : (verb : Word) (words : List Word) → is_fact_verb verb ≡ true → register_fact_by verb words ≡ None
no_register_fact verb words is = by (bytes_eq verb (codes "chunk")) (bytes_eq verb (codes "extent")) (bytes_eq verb (codes "forgot")) (bytes_eq verb (codes "filled")) refl refl refl refl is
  where
    named : (word : Word) → register_fact_by word words ≡ None → bytes_eq verb word ≡ true → register_fact_by verb words ≡ None
    named word none same = subst (λ (w : Word). register_fact_by w words ≡ None) (sym ((bytes_eq-Decides verb word).0 same)) none

    by : (a b c d : Bool) → bytes_eq verb (codes "chunk") ≡ a → bytes_eq verb (codes "extent") ≡ b → bytes_eq verb (codes "forgot") ≡ c → bytes_eq verb (codes "filled") ≡ d → is_fact_verb verb ≡ true → register_fact_by verb words ≡ None
    by true b c d a_is b_is c_is d_is is = named (codes "chunk") (none_then OwnFact (byte_then words)) a_is
    by false true c d a_is b_is c_is d_is is = named (codes "extent") (none_then OwnFact (byte_then words)) b_is
    by false false true d a_is b_is c_is d_is is = named (codes "forgot") (none_then OwnFact (byte_then words)) c_is
    by false false false true a_is b_is c_is d_is is = named (codes "filled") (none_then OwnFact (byte_then words)) d_is
    by false false false false a_is b_is c_is d_is is = absurd (let never : false ≡ true = sym (rw (a_is, b_is, c_is, d_is) refl) ∙ is in cc)

said_by_words : (plan : CheckedPlan) (words : List Word) (fact : Fact) → fact_of_words plan words ≡ Some fact → words_tell_chunk words ≡ false
unfolding fact_of_words
said_by_words plan [] fact says = refl
said_by_words plan (verb ∷ []) fact says = absurd (let never = says in cc)
said_by_words plan (verb ∷ name ∷ words) fact says = elim (cases_Bool (is_fact_verb verb)) [
  | inl is ↦ absurd (let never : None ≡ Some fact = sym (nothing is) ∙ says in cc)
  | inr other ↦ other
]
  where
    nothing : is_fact_verb verb ≡ true → (place_named plan name >>= (λ (t : ℕ). fact_by verb t words)) ≡ None
    nothing is = rw (no_register_fact verb words is) (none_then Fact (place_named plan name))

-- a line that says a fact of registers tells none of chunks
pub register_said : (plan : CheckedPlan) (line : List ℕ) (fact : Fact) → fact_of_line plan line ≡ Some fact → tells_chunk line ≡ false
register_said plan line fact says = said_by_words plan (words_of line) fact says

register_read : (w : Tables) (line : List ℕ) (says : Option Fact) → fact_of_line w.plan line ≡ says → reads_fact w says ≡ true → tells_chunk line ≡ false
register_read w line None says reads = absurd (let never = reads in cc)
register_read w line (Some fact) says reads = register_said w.plan line fact says

pub first_reads : (m : NodeMachine) (line : List ℕ) → machine_reads m line ≡ true → tells_chunk line ≡ false
first_reads m line reads = register_read (tables_of m) line (fact_of_line (tables_of m).plan line) refl reads

none_told : (plan : CheckedPlan) → IsPlan plan → (facts : List Fact) → All (FitsFact plan) facts → list_all (λ line. readable_by (tells_chunk line) true false) (fact_lines plan facts) ≡ true
none_told plan is [] fit = refl
none_told plan is (fact ∷ facts) fit =
    rw (register_said plan (fact_line plan fact) fact (facts_read_back plan fact is (fit 0 fact (omega arith))), none_told plan is facts (λ i d below. fit (suc i) d (omega arith))) refl

pub first_facts : (old : NodeMachine) (line : List ℕ) (facts : List (List ℕ)) (told : List ℕ) (new : NodeMachine) → MachineSteps old line facts told new → list_all (λ line. readable_by (tells_chunk line) true false) facts ≡ true
first_facts old line facts told new step =
    subst (λ (z : List Line). list_all (λ line. readable_by (tells_chunk line) true false) z ≡ true) (sym step.lines_are) (none_told (tables_of old).plan step.sound step.facts (step.takes []).fit)

-- ---- what a fact of chunks says

no_chunk_fact : (verb : Word) (words : List Word) → is_fact_verb verb ≡ false → chunk_fact_by verb words ≡ None
no_chunk_fact verb words is = by (bytes_eq verb (codes "chunk")) (bytes_eq verb (codes "extent")) (bytes_eq verb (codes "forgot")) (bytes_eq verb (codes "filled")) refl refl refl refl is
  where
    by : (a b c d : Bool) → bytes_eq verb (codes "chunk") ≡ a → bytes_eq verb (codes "extent") ≡ b → bytes_eq verb (codes "forgot") ≡ c → bytes_eq verb (codes "filled") ≡ d → is_fact_verb verb ≡ false → chunk_fact_by verb words ≡ None
    by true b c d a_is b_is c_is d_is is = absurd (let never : true ≡ false = sym (rw a_is refl) ∙ is in cc)
    by false true c d a_is b_is c_is d_is is = absurd (let never : true ≡ false = sym (rw (a_is, b_is) refl) ∙ is in cc)
    by false false true d a_is b_is c_is d_is is = absurd (let never : true ≡ false = sym (rw (a_is, b_is, c_is) refl) ∙ is in cc)
    by false false false true a_is b_is c_is d_is is = absurd (let never : true ≡ false = sym (rw (a_is, b_is, c_is, d_is) refl) ∙ is in cc)
    by false false false false a_is b_is c_is d_is is = rw (a_is, b_is, c_is, d_is) refl

abbrev at_place : ℕ → ChunkFact → ℕ × ChunkFact
at_place t fact = (t, fact)

chunk_by_words : (plan : CheckedPlan) (words : List Word) (says : ℕ × ChunkFact) → chunk_fact_of_words plan words ≡ Some says → words_tell_chunk words ≡ true
unfolding chunk_fact_of_words
chunk_by_words plan [] says is = absurd (let never = is in cc)
chunk_by_words plan (verb ∷ []) says is = absurd (let never = is in cc)
chunk_by_words plan (verb ∷ name ∷ words) says is = elim (cases_Bool (is_fact_verb verb)) [
  | inl tells ↦ tells
  | inr other ↦ absurd (let never : None ≡ Some says = sym (nothing other) ∙ is in cc)
]
  where
    nothing : is_fact_verb verb ≡ false → (place_named plan name >>= (λ (t : ℕ). option_map (at_place t) (chunk_fact_by verb words))) ≡ None
    nothing other = rw (no_chunk_fact verb words other) (none_then (ℕ × ChunkFact) (place_named plan name))

-- a line that says a fact of chunks tells one
pub chunk_said : (plan : CheckedPlan) (line : List ℕ) (says : ℕ × ChunkFact) → chunk_fact_of_line plan line ≡ Some says → tells_chunk line ≡ true
chunk_said plan line says is = chunk_by_words plan (words_of line) says is

pub second_reads : (m : Chunks) (line : List ℕ) → chunk_reads m line ≡ true → tells_chunk line ≡ true
second_reads m line reads = by (chunk_fact_of_line m.plan line) refl reads
  where
    by : (says : Option (ℕ × ChunkFact)) → chunk_fact_of_line m.plan line ≡ says → reads_told m.depots says ≡ true → tells_chunk line ≡ true
    by None is reads = absurd (let never = reads in cc)
    by (Some says) is reads = chunk_said m.plan line says is

all_told : (plan : CheckedPlan) (t : ℕ) (fact : Option ChunkFact) → FactStands plan t fact → list_all tells_chunk (chunk_lines plan t fact) ≡ true
all_told plan t None stands = refl
all_told plan t (Some fact) stands = rw (chunk_said plan (chunk_fact_line plan t fact) (t, fact) stands.0) refl

pub second_facts : (old : Chunks) (line : List ℕ) (facts : List (List ℕ)) (told : List ℕ) (new : Chunks) → ChunkSteps old line facts told new → list_all tells_chunk facts ≡ true
second_facts old line facts told new step =
    let all : WentAll old facts new = step_went old line facts told new step in
    subst (λ (z : List Line). list_all tells_chunk z ≡ true) (sym all.facts_are) (many old all.parts all.went)
  where
    many : (old : Chunks) (parts : List (List Line)) → WentMany old parts new → list_all tells_chunk (joined parts) ≡ true
    many old [] went = refl
    many old (lines ∷ parts) (mid, some, more) =
        list_all-append tells_chunk lines (joined parts)
        ∙ and_from (list_all tells_chunk lines) (list_all tells_chunk (joined parts)) (subst (λ (z : List Line). list_all tells_chunk z ≡ true) (sym some.facts_are) (all_told old.plan some.tenant some.fact some.stands)) (many mid parts more)
