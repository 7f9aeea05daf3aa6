-- What a client's calls are in the law.
use Rattle.std.proofs.Common.{◌≡◌, ◌∙◌, ℕ, ◌+◌, ◌-◌, ◌<◌, ◌≤◌, List, length, Option, Some, None, Bool, true, false, refl, sym, ap, subst, arith, eq-eqb}
use Rattle.std.specs.Prelude.{map, ◌==◌, if◌then◌else◌}
use Rattle.gq_names.specs.Names.{Setting, Page, Journal, Change, World, Step, Client as LawClient, Knows as LawKnows, Looks as LawLooks, Announces as LawAnnounces, Carries as LawCarries, Chooses as LawChooses, ClientWrites, has_seen, highest, new_line, changed_page, changed, chooses_by, writes_by, after_step}
use Rattle.gq_page.specs.declared.page.Page.{Page as SeenPage}
use Rattle.gq_page.specs.Page.{Sheet, sheet_of}
use Rattle.gq_client.specs.declared.client.Client.{Client}
use Rattle.gq_client.specs.declared.client.Doing.{Doing}
use Rattle.gq_client.specs.declared.client.Doing.TheVariants.{Knows, Enters, Lists, Reads, Looked, Announces, Carries}
use Rattle.gq_client.specs.declared.changing.Fate.{Fate}
use Rattle.gq_client.specs.Changing.{highest_seen, fate_of, name_said, IsChanged}
use Rattle.gq_client.specs.Steps.{IsChange, Chooses, IsWritten}
use Rattle.gq_naming.specs.Standing.{Naming, Shows, IsPage, HaveNone, IsLooked, HasJournal, HasOwn, StandsBy, Stands, goes_of, asks_of, change_of}
use Rattle.gq_naming.specs.Laws.{AllChoicesStep, AllAnswersStep, client_after}
use Rattle.gq_naming.proofs.ChangesStep.{changes_step}
use Rattle.gq_naming.proofs.Numbers.{numbers_are_above}

-- ---- a choice

-- the law's client announces the changed journal
announces : (v : Setting) (w : World) (s more : ℕ) (goes asks : ℕ → Bool) (j : Journal) (c : Change) (looked : ℕ → Bool) (pages : ℕ → Page) → has_seen v looked pages ≡ true → (x : LawClient) → x ≡ LawLooks j c looked pages
    → ((chooses_by v w s more goes asks x).session s).client ≡ LawAnnounces (changed v goes asks pages s j c (new_line s more c (highest v j.page pages))) c.op
announces v w s more goes asks j c looked pages all x is =
    subst (λ y. ((chooses_by v w s more goes asks y).session s).client ≡ LawAnnounces (changed v goes asks pages s j c (new_line s more c (highest v j.page pages))) c.op) (sym is) (rw (all, eq-eqb s s refl) refl)

pub choices_step : AllChoicesStep
choices_step names v w old new least line besides k ok few none name bytes chosen same =
    (more, goes, asks, subst (λ d. StandsBy names v new d (client_after v w (LawChooses s more goes asks) s)) (sym chosen.doing) stands)
  where
    s : ℕ
    s = old.session

    change : IsChange old least line besides chosen.page
    change = chosen.change

    page_is : change.journal ≡ k.page
    page_is = the (sym change.knows ∙ k.knows)
      where
        the : Some change.journal ≡ Some k.page → change.journal ≡ k.page
        the h = cc

    fates : List Fate
    fates = map (fate_of old.seen.items s (name_said line) besides) k.page.lines.items

    high : ℕ
    high = highest v (k.pages s) k.pages

    more : ℕ
    more = change.number - high - 1

    goes : ℕ → Bool
    goes = goes_of names k.page.lines.items fates

    asks : ℕ → Bool
    asks = asks_of s old.seen.items (sheet_of k.page) fates

    is_changed : IsChanged old.seen.items s (sheet_of k.page) change.number line besides (sheet_of chosen.page)
    is_changed = subst (λ p. IsChanged old.seen.items s (sheet_of p) change.number line besides (sheet_of chosen.page)) page_is change.is

    above : high < change.number
    above =
        let seen : highest_seen old.seen.items s (sheet_of k.page) < change.number = subst (λ p. highest_seen old.seen.items s (sheet_of p) < change.number) page_is change.above in
        let is : highest_seen old.seen.items s (sheet_of k.page) ≡ highest v (k.pages s) k.pages = numbers_are_above names v s old.seen.items (sheet_of k.page) k.pages k.seen in
        subst (λ n. n < change.number) is seen

    next : Page → Option ℕ → List ℕ → Page
    next own n b = changed_page v goes asks k.pages s own n (record { tag = record { number = highest v own k.pages + 1 + more; session = s }; bytes = b })

    shows : Shows names s (sheet_of chosen.page) (next (k.pages s) (change_of names line).name (change_of names line).bytes)
    shows = changes_step names v s old.seen.items (sheet_of k.page) (sheet_of chosen.page) change.number line besides k.pages k.seen ok few none above is_changed

    shows_own : Shows names s (sheet_of chosen.page) (next k.journal.page k.change.name k.change.bytes)
    shows_own =
        subst (λ b. Shows names s (sheet_of chosen.page) (next k.journal.page k.change.name b)) (sym bytes)
        (subst (λ n. Shows names s (sheet_of chosen.page) (next k.journal.page n (change_of names line).bytes)) (sym name)
        (subst (λ own. Shows names s (sheet_of chosen.page) (next own (change_of names line).name (change_of names line).bytes)) k.own shows))

    stands : StandsBy names v new (Announces chosen.page) (client_after v w (LawChooses s more goes asks) s)
    stands = record {
      journal = changed v goes asks k.pages s k.journal k.change (new_line s more k.change (highest v k.journal.page k.pages));
      op = k.change.op;
      is = announces v w s more goes asks k.journal k.change k.looked k.pages k.all (w.session s).client k.is;
      shows = subst (λ t. Shows names t (sheet_of chosen.page) (next k.journal.page k.change.name k.change.bytes)) (sym same) shows_own;
    }

-- ---- an answer

carries : (v : Setting) (w : World) (s : ℕ) (j : Journal) (op : Option ℕ) (x : LawClient) → x ≡ LawAnnounces j op → ((writes_by v w s true x).session s).client ≡ LawCarries j op
carries v w s j op x is = subst (λ y. ((writes_by v w s true y).session s).client ≡ LawCarries j op) (sym is) (rw (eq-eqb s s refl) refl)

knows : (v : Setting) (w : World) (s : ℕ) (j : Journal) (op : Option ℕ) (x : LawClient) → x ≡ LawCarries j op → ((writes_by v w s true x).session s).client ≡ LawKnows j
knows v w s j op x is = subst (λ y. ((writes_by v w s true y).session s).client ≡ LawKnows j) (sym is) (by op)
  where
    by : (o : Option ℕ) → ((writes_by v w s true (LawCarries j o)).session s).client ≡ LawKnows j
    by None = rw (eq-eqb s s refl) refl
    by (Some k) = rw (eq-eqb s s refl) refl

pub answers_step : AllAnswersStep
answers_step names v w old new stands written same = by old.doing stands written
  where
    s : ℕ
    s = old.session

    after : LawClient
    after = client_after v w (ClientWrites s true) s

    journal_told : (page : SeenPage) → HasJournal names old page (λ journal op. LawAnnounces journal op) (w.session s).client → new.doing ≡ Carries → new.journal ≡ Some page → Stands names v new (client_after v w (ClientWrites s true) s)
    journal_told page h doing journal =
        subst (λ d. StandsBy names v new d (client_after v w (ClientWrites s true) s)) (sym doing)
        (subst (λ j. HasOwn names new (λ journal op. LawCarries journal op) j (client_after v w (ClientWrites s true) s)) (sym journal)
        (record { journal = h.journal; op = h.op; is = carries v w s h.journal h.op (w.session s).client h.is; shows = subst (λ t. Shows names t (sheet_of page) h.journal.page) (sym same) h.shows }))

    page_told : (own : Option SeenPage) → HasOwn names old (λ journal op. LawCarries journal op) own (w.session s).client → HasOwn names new (λ journal op. LawKnows journal) own (client_after v w (ClientWrites s true) s)
    page_told None h = tt
    page_told (Some page) h = record { journal = h.journal; op = h.op; is = knows v w s h.journal h.op (w.session s).client h.is; shows = subst (λ t. Shows names t (sheet_of page) h.journal.page) (sym same) h.shows }

    by : (d : Doing) → StandsBy names v old d (w.session s).client → IsWritten d old new → Stands names v new (client_after v w (ClientWrites s true) s)
    by (Announces page) h is = journal_told page h is.0 is.1
    by Carries h is =
        subst (λ d. StandsBy names v new d (client_after v w (ClientWrites s true) s)) (sym is.0)
        (subst (λ j. HasOwn names new (λ journal op. LawKnows journal) j (client_after v w (ClientWrites s true) s)) (sym is.1) (page_told old.journal h))
    by Knows h is = absurd is
    by Enters h is = absurd is
    by (Lists own) h is = absurd is
    by (Reads own left) h is = absurd is
    by (Looked own) h is = absurd is
