-- The worked run of contents keeps the rules where a page splits twice.
use Rattle.std.proofs.Common.{◌≡◌, ◌⊎◌, ℕ, [], ◌∷◌, ◌++◌, true, false, refl, sym, ap, ◌∙◌, subst, inl, inr, Option, List, eqb}
use Rattle.std.specs.Prelude.{◌==◌}
use Rattle.std.proofs.lemmas.Bool.{cases_Bool, eqb-true, true≢false}
use Rattle.gq_names.specs.Names.{Page, Journal, new_page, new_journal, shown}
use Rattle.gq_names.specs.Contents.{and_content}
use Rattle.gq_names.specs.Splitting.{EntersLevel, SignedPage, SignedJournal, begun_with, counts, is_written}
use Rattle.gq_names.specs.SplitContents.{LevelIsFree, ShowsOther, AllSplitMay, SplitState, DoesStep, first_state, split_state_after}
use Rattle.gq_names.specs.Worked.{two, by_number, seven_alone, puts_split, goes_on_split, deeds_split}
use Rattle.gq_names.proofs.WorkedContents.{named_alone, kept_now}

abbrev replaced : SplitState
replaced = split_state_after two seven_alone first_state (DoesStep (EntersLevel 0) ∷ (puts_split 65 ++ (goes_on_split ++ (goes_on_split ++ puts_split 66))))

-- a page that shows 66 under the name 7 and nothing else shows another content
shows_other : (page : Page) → (shown page 7).bytes ≡ 66 ∷ [] → ShowsOther by_number seven_alone 65 page
shows_other page has name content in_all named = by (cases_Bool (eqb name 7))
  where
    by : (eqb name 7 ≡ true) ⊎ (eqb name 7 ≡ false) → (content == 65) ≡ false
    by (inl same) =
        ap (λ c. c == 65) (sym (named_alone 66 content (let e : name ≡ 7 = eqb-true name 7 same in let P : ℕ → Type 0 = λ z. by_number.names (shown page z).bytes content ≡ true in let Q : List ℕ → Type 0 = λ z. by_number.names z content ≡ true in subst Q has (subst P e named))))
    by (inr other) = absurd (true≢false (sym (in_all 0) ∙ other))

abbrev its_journal : Option SignedJournal → Journal
its_journal journal = begun_with (seven_alone 2) journal new_journal

abbrev its_page : Option SignedPage → Page
its_page page = counts (seven_alone 2) page new_page

free : LevelIsFree by_number seven_alone 65 ((replaced.world.session 0).level 2)
free = record {
  journal = λ j some. subst (λ (z : Journal). ShowsOther by_number seven_alone 65 z.page) (ap its_journal some) (shows_other (its_journal ((replaced.world.session 0).level 2).journal).page refl);
  journals = tt;
  page = λ p some. subst (ShowsOther by_number seven_alone 65) (ap its_page some) (shows_other (its_page ((replaced.world.session 0).level 2).page) refl);
  pages = tt;
}

pub may_split : AllSplitMay two by_number seven_alone first_state deeds_split
may_split = (tt, (tt, (λ in_all content named. (refl, refl), (tt, (λ content named. kept_now 65 content (λ c. false) named, (tt, (tt, (tt, (tt, (tt, (tt, (tt, (tt, (tt, (tt, (tt, (tt, (tt, (λ in_all content named. (refl, refl), (tt, (λ content named. kept_now 66 content (and_content 65 (λ c. false)) named, (tt, (tt, ((free, λ none. absurd (true≢false (ap is_written none)), shows_other (its_journal ((replaced.world.session 0).level 2).journal).page refl), (tt, (tt, (tt, (tt, (tt, (tt, tt))))))))))))))))))))))))))))))
