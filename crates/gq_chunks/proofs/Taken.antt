-- What a line makes of a machine.
use Rattle.std.proofs.Common.{◌≡◌, ◌≤◌, ◌<◌, ℕ, List, [], ◌∷◌, ◌++◌, length, true, false, Bool, Option, Some, None, inl, inr, refl, sym, ap, subst, ◌∙◌, append-nil, append_assoc, arith}
use Rattle.std.specs.Prelude.{◌⊎◌, Result, Ok, Err, IfErr, OnOk}
use Rattle.std.proofs.lemmas.Bool.{and_from}
use Rattle.std.proofs.lemmas.List.Concat.{flat_map-append}
use Rattle.std.proofs.lemmas.List.Folds.{list_all-append}
use Rattle.gq_shelf.specs.Notes.{Noted}
use Rattle.gq_journal.specs.Batches.{Line, ended_line, lines_text, is_batch_line, are_batch_lines}
use Rattle.gq_keeper.specs.declared.fault.Fault.{Fault}
use Rattle.gq_keeper.specs.declared.fault.Fault.TheVariants as Ends
use Rattle.gq_desk.specs.CheckedPlan.{CheckedPlan}
use Rattle.gq_keeper.specs.Runs.{Takes}
use Rattle.gq_depot.specs.Seeking.{Sought, AreAsks}
use Rattle.gq_depot.specs.declared.answer.ChunkAnswer.TheVariants.{Bad}
use Rattle.gq_depot.specs.declared.filling.Filling.{Filling}
use Rattle.gq_depot.specs.declared.filling.Filling.TheVariants.{End}
use Rattle.gq_depot.specs.declared.fact.ChunkFact.{ChunkFact}
use Rattle.gq_depot.specs.declared.request.ChunkRequest.{ChunkRequest}
use Rattle.gq_depot.specs.declared.seeking.Ask.{Ask}
use Rattle.gq_chunks.specs.Answers.{chunk_answer_text}
use Rattle.gq_chunks.specs.Facts.{chunk_fact_line}
use Rattle.gq_chunks.specs.Coming.{Coming, Asked, Nothing}
use Rattle.gq_chunks.specs.PeerLines.{asks_text}
use Rattle.gq_chunks.specs.Peers.{is_peer}
use Rattle.gq_chunks.specs.Machines.{Chunks, IsSite, coming_in, fact_lines, FactStands, MayAsk, MayAskOf, FillsDone, LeavesOut, Fed, Unfed, Waits, may_answer, AnswersPeer, Ticks, AddsAsks, AsksOfOne, AddsFacts, MovesBy, AddsMovesBy, IsShelfRefusal, StepsBy, ChunkSteps}

pub on_ok : {A E P Q : Type 0} (r : Result A E) → (P → Q) → OnOk r P → OnOk r Q
on_ok (Ok x) goes its = goes its
on_ok (Err e) goes its = tt

-- ---- any step, by what the line is

pub text_on : (a b c : List ℕ) (one two : List Line) → b ≡ a ++ lines_text one → c ≡ b ++ lines_text two → c ≡ a ++ lines_text (one ++ two)
text_on a b c one two first second =
    second ∙ (ap (λ (text : List ℕ). text ++ lines_text two) first ∙ (append_assoc a (lines_text one) (lines_text two) ∙ ap (λ (text : List ℕ). a ++ text) (sym (flat_map-append ended_line one two))))

pub lines_on : (one two : List Line) → are_batch_lines one ≡ true → are_batch_lines two ≡ true → are_batch_lines (one ++ two) ≡ true
lines_on one two first second = list_all-append is_batch_line one two ∙ and_from (are_batch_lines one) (are_batch_lines two) first second

-- what was moved before it, and then its own step
pub by_coming : {M : Type 0} (f : M → Chunks) (old mid new : M) (its : Coming) (line facts facts' facts'' told told' : List ℕ) → coming_in (f old) line ≡ its → AddsMovesBy its (f old) facts facts' (f mid) →
    Takes (λ (a : Chunks) (l : List ℕ) (fs : List (List ℕ)) (t : List ℕ) (b : Chunks). StepsBy its a fs t b) (f mid) [] facts' facts'' told told' (f new) →
    Takes (λ (a : M) (l : List ℕ) (fs : List (List ℕ)) (t : List ℕ) (b : M). ChunkSteps (f a) l fs t (f b)) old line facts facts'' told told' new
by_coming f old mid new its line facts facts' facts'' told told' is before takes = record {
  lines = before.lines ++ takes.lines;
  text = takes.text;
  step = record {
    mid = f mid;
    moved = before.lines;
    own = takes.lines;
    moves = subst (λ (a : Coming). MovesBy a (f old) before.lines (f mid)) (sym is) before.moves;
    step = subst (λ (a : Coming). StepsBy a (f mid) takes.lines takes.text (f new)) (sym is) takes.step;
    facts_are = refl;
  };
  facts = text_on facts facts' facts'' before.lines takes.lines before.is takes.facts;
  told = takes.told;
  opened = lines_on before.lines takes.lines before.opened takes.opened;
}

-- so it is of any result
pub ok_by_coming : {M A E : Type 0} (r : Result A E) (f : M → Chunks) (old mid new : M) (its : Coming) (line facts facts' facts'' told told' : List ℕ) → coming_in (f old) line ≡ its → AddsMovesBy its (f old) facts facts' (f mid) →
    OnOk r (Takes (λ (a : Chunks) (l : List ℕ) (fs : List (List ℕ)) (t : List ℕ) (b : Chunks). StepsBy its a fs t b) (f mid) [] facts' facts'' told told' (f new)) →
    OnOk r (Takes (λ (a : M) (l : List ℕ) (fs : List (List ℕ)) (t : List ℕ) (b : M). ChunkSteps (f a) l fs t (f b)) old line facts facts'' told told' new)
ok_by_coming r f old mid new its line facts facts' facts'' told told' is before = on_ok r (by_coming f old mid new its line facts facts' facts'' told told' is before)

-- a refusal behind some
pub refused_on : (fault : Fault) (old mid new : Noted) → old.refused ≤ mid.refused → IsShelfRefusal fault mid new → IsShelfRefusal fault old new
refused_on (Ends.Memory refused) old mid new le is = tt
refused_on Ends.JournalRead old mid new le is = omega (arith, le, is)
refused_on Ends.JournalWrite old mid new le is = omega (arith, le, is)
refused_on Ends.Read old mid new le is = absurd is
refused_on Ends.Write old mid new le is = absurd is
refused_on Ends.Full old mid new le is = absurd is

pub err_refused : {A : Type 0} (r : Result A Fault) (old mid new : Noted) → old.refused ≤ mid.refused → IfErr r (λ fault. IsShelfRefusal fault mid new) → IfErr r (λ fault. IsShelfRefusal fault old new)
err_refused (Ok x) old mid new le is = tt
err_refused (Err fault) old mid new le is = refused_on fault old mid new le is

-- the same of what a line is as what it is read as
pub as_came : (its came : Coming) → its ≡ came → (old : Chunks) (line facts facts' told told' : List ℕ) (new : Chunks) → Takes (λ (a : Chunks) (l : List ℕ) (fs : List (List ℕ)) (t : List ℕ) (b : Chunks). StepsBy its a fs t b) old line facts facts' told told' new →
    Takes (λ (a : Chunks) (l : List ℕ) (fs : List (List ℕ)) (t : List ℕ) (b : Chunks). StepsBy came a fs t b) old line facts facts' told told' new
as_came its came same old line facts facts' told told' new takes = record {
  lines = takes.lines;
  text = takes.text;
  step = subst (λ (z : Coming). StepsBy z old takes.lines takes.text new) same takes.step;
  facts = takes.facts;
  told = takes.told;
  opened = takes.opened;
}

-- a line that is passed over
pub passed_over : (old new : Chunks) (facts told : List ℕ) → new ≡ old → Takes (λ (a : Chunks) (l : List ℕ) (fs : List (List ℕ)) (t : List ℕ) (b : Chunks). StepsBy Nothing a fs t b) old [] facts facts told told new
passed_over old new facts told same = record { lines = []; text = []; step = record { same = same; facts_are = refl; told_is = refl }; facts = sym (append-nil facts); told = sym (append-nil told); opened = refl }

-- a line of a tenant that has no form
pub told_bad : (old new : Chunks) (t : ℕ) (facts told after : List ℕ) → new ≡ old → after ≡ told ++ chunk_answer_text old.plan old.node t Bad →
    Takes (λ (a : Chunks) (l : List ℕ) (fs : List (List ℕ)) (t' : List ℕ) (b : Chunks). StepsBy (Asked t None) a fs t' b) old [] facts facts told after new
told_bad old new t facts told after same text = record { lines = []; text = chunk_answer_text old.plan old.node t Bad; step = record { same = same; facts_are = refl; told_is = refl }; facts = sym (append-nil facts); told = text; opened = refl }

-- ---- asks

pub asks_none : (m : Chunks) (t : ℕ) (before : List ℕ) → AddsAsks m t before before
asks_none m t before = record { text = []; is = sym (append-nil before); asks = inl refl }

pub asks_some : (m : Chunks) (t to : ℕ) (before after : List ℕ) (sought : Sought) (asks : List Ask) → is_peer m.plan m.node m.lost to ≡ true → AreAsks sought asks → after ≡ before ++ asks_text m.plan m.node to t m.losses asks → AddsAsks m t before after
asks_some m t to before after sought asks peer are text = record { text = asks_text m.plan m.node to t m.losses asks; is = text; asks = inr (record { to = to; peer = peer; sought = sought; asks = asks; are_asks = are; text = refl }) }

pub asks_of_one : (m : Chunks) (t : ℕ) (before after : List ℕ) → AddsAsks m t before after → AsksOfOne m before after
asks_of_one m t before after its = (t, its)

ask_back : (a b : Chunks) (t : ℕ) (text : List ℕ) → IsSite a b → MayAskOf b t text → MayAskOf a t text
ask_back a b t text site asks =
    subst (λ (p : CheckedPlan). MayAsk p a.node a.lost a.losses t text) site.plan
    (subst (λ (n : ℕ). MayAsk b.plan n a.lost a.losses t text) site.node
    (subst (λ (l : List ℕ). MayAsk b.plan b.node l a.losses t text) site.lost
    (subst (λ (n : ℕ). MayAsk b.plan b.node b.lost n t text) site.losses asks)))

-- ---- what a peer says

-- it is not answered
pub peer_silent : (old : Chunks) (t from losses : ℕ) (request : ChunkRequest) (facts told : List ℕ) → may_answer old t losses ≡ false →
    Takes (λ (a : Chunks) (l : List ℕ) (fs : List (List ℕ)) (t' : List ℕ) (b : Chunks). AnswersPeer (may_answer a t losses) a t from request fs t' b) old [] facts facts told told old
peer_silent old t from losses request facts told silent = record {
  lines = [];
  text = [];
  step = subst (λ (b : Bool). AnswersPeer b old t from request [] [] old) (sym silent) (record { same = refl; facts_are = refl; told_is = refl });
  facts = sym (append-nil facts);
  told = sym (append-nil told);
  opened = refl;
}

-- what it gives was done, and more is asked for
pub fed_takes : (old mid new : Chunks) (t : ℕ) (filling : Filling) (facts facts' told told' : List ℕ) → AddsFacts old t filling facts facts' mid → new ≡ mid → AddsAsks mid t told told' →
    Takes (λ (a : Chunks) (l : List ℕ) (fs : List (List ℕ)) (t' : List ℕ) (b : Chunks). Fed a t filling fs t' b) old [] facts facts' told told' new
fed_takes old mid new t filling facts facts' told told' done same asks = record {
  lines = done.lines;
  text = asks.text;
  step = subst (λ (z : Chunks). Fed old t filling done.lines asks.text z) (sym same) (record { fills = done.fills; asks = ask_back old mid t asks.text done.fills.done.site asks.asks });
  facts = done.is;
  told = asks.is;
  opened = done.opened;
}

-- nothing came, and more is asked for
pub waits_takes : (old new : Chunks) (t : ℕ) (facts told told' : List ℕ) → new ≡ old → AddsAsks old t told told' →
    Takes (λ (a : Chunks) (l : List ℕ) (fs : List (List ℕ)) (t' : List ℕ) (b : Chunks). Waits a t fs t' b) old [] facts facts told told' new
waits_takes old new t facts told told' same asks = record { lines = []; text = asks.text; step = record { same = same; facts_are = refl; asks = asks.asks }; facts = sym (append-nil facts); told = asks.is; opened = refl }

-- ---- a tick

pub tick_waits : (old new : Chunks) (t : ℕ) (facts told told' : List ℕ) → new ≡ old → AddsAsks new t told told' →
    Takes (λ (a : Chunks) (l : List ℕ) (fs : List (List ℕ)) (t' : List ℕ) (b : Chunks). Ticks a fs t' b) old [] facts facts told told' new
tick_waits old new t facts told told' same asks = record {
  lines = [];
  text = asks.text;
  step = (t, inl (record { same = same; facts_are = refl; asks = subst (λ (z : Chunks). MayAskOf z t asks.text) same asks.asks }));
  facts = sym (append-nil facts);
  told = asks.is;
  opened = refl;
}

-- where some tenant's damaged chunks are asked for
pub tick_asks : (old mid new : Chunks) (facts told told' : List ℕ) → mid ≡ old → new ≡ mid → AsksOfOne mid told told' →
    Takes (λ (a : Chunks) (l : List ℕ) (fs : List (List ℕ)) (t' : List ℕ) (b : Chunks). Ticks a fs t' b) old [] facts facts told told' new
tick_asks old mid new facts told told' first same asks = tick_waits old new asks.0 facts told told' (same ∙ first) (subst (λ (z : Chunks). AddsAsks z asks.0 told told') (sym same) asks.1)

pub tick_ends : (old mid new : Chunks) (t : ℕ) (facts facts' told : List ℕ) → mid ≡ old → AddsFacts mid t End facts facts' new →
    Takes (λ (a : Chunks) (l : List ℕ) (fs : List (List ℕ)) (t' : List ℕ) (b : Chunks). Ticks a fs t' b) old [] facts facts' told told new
tick_ends old mid new t facts facts' told same done =
    let its : AddsFacts old t End facts facts' new = subst (λ (z : Chunks). AddsFacts z t End facts facts' new) same done in
    record { lines = its.lines; text = []; step = (t, inr (record { fills = its.fills; asks = inl refl })); facts = its.is; told = sym (append-nil told); opened = its.opened }

-- ---- a content for which there is no space

pub unfed_takes : (old new : Chunks) (t : ℕ) (filling : Filling) (facts told : List ℕ) → LeavesOut old t new →
    Takes (λ (a : Chunks) (l : List ℕ) (fs : List (List ℕ)) (t' : List ℕ) (b : Chunks). Fed a t filling fs t' b ⊎ Unfed a t fs t' b) old [] facts facts told told new
unfed_takes old new t filling facts told left = record { lines = []; text = []; step = inr (record { left = left; facts_are = refl; told_is = refl }); facts = sym (append-nil facts); told = sym (append-nil told); opened = refl }

pub fact_opened : (plan : CheckedPlan) (t : ℕ) (fact : Option ChunkFact) → FactStands plan t fact → are_batch_lines (fact_lines plan t fact) ≡ true
fact_opened plan t None stands = refl
fact_opened plan t (Some fact) stands = and_from (is_batch_line (chunk_fact_line plan t fact)) true stands.1 refl

-- a content that was taken, or passed over
pub given_takes : (old mid new : Chunks) (t : ℕ) (filling : Filling) (fact : Option ChunkFact) (facts facts' told told' : List ℕ) → FillsDone old t filling fact mid → t < length old.depots → new ≡ mid → facts' ≡ facts ++ lines_text (fact_lines mid.plan t fact) → FactStands mid.plan t fact → AddsAsks mid t told told' →
    Takes (λ (a : Chunks) (l : List ℕ) (fs : List (List ℕ)) (t' : List ℕ) (b : Chunks). Fed a t filling fs t' b ⊎ Unfed a t fs t' b) old [] facts facts' told told' new
given_takes old mid new t filling fact facts facts' told told' done within same text stands asks = record {
  lines = fact_lines mid.plan t fact;
  text = asks.text;
  step = subst (λ (z : Chunks). Fed old t filling (fact_lines mid.plan t fact) asks.text z ⊎ Unfed old t (fact_lines mid.plan t fact) asks.text z) (sym same)
      (inl (record {
        fills = record { fact = fact; done = done; facts_are = ap (λ (p : CheckedPlan). fact_lines p t fact) done.site.plan; within = within; stands = subst (λ (p : CheckedPlan). FactStands p t fact) done.site.plan stands };
        asks = ask_back old mid t asks.text done.site asks.asks;
      }));
  facts = text;
  told = asks.is;
  opened = fact_opened mid.plan t fact stands;
}
