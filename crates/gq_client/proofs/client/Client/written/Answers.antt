-- It has seen its page as it was written.
use Rattle.std.proofs.Common.{◌≡◌, ◌∙◌, Some, refl, sym, subst}
use Rattle.std.specs.Prelude.{IfSome, slice_set}
use Rattle.gq_tag.specs.declared.Tag.{Tag}
use Rattle.gq_page.specs.declared.page.Page.{Page}
use Rattle.gq_page.specs.Page.{sheet_of}
use Rattle.gq_client.specs.declared.view.Known.{Known}
use Rattle.gq_client.specs.declared.client.Client.{Client}
use Rattle.gq_client.specs.declared.client.Doing.TheVariants.{Carries}
use Rattle.gq_client.specs.Steps.{IsNoted, NotesPage}
use Rattle.gq_client.proofs.client.Client.written.Goals as goal

noted : (tag : Tag) (old new : Client) (journal : Page) (known : Known) → old.doing ≡ Carries → old.journal ≡ Some journal → known.tag ≡ tag → sheet_of known.page ≡ sheet_of journal
    → new.seen.items ≡ slice_set old.seen.items old.session known → IsNoted tag old.doing old new
noted tag old new journal known doing is same page seen =
    let it : NotesPage tag journal old new = record { known = known; tag_is = same; page = page; seen = seen } in
    subst (λ d. IsNoted tag d old new) (sym doing) (subst (λ j. IfSome j (λ x. NotesPage tag x old new)) (sym is) it)

pub returns-in_ok-page-in-Carries-clause-seen : goal.returns-in_ok-page-in-Carries-clause-seen
returns-in_ok-page-in-Carries-clause-seen c =
    noted _ _ _ c.in-Some.journal (record { tag = c.args.tag; page = c.in_ok-page-in-Carries.page }) (sym c.replace.ensures.value ∙ c.in-Carries.is) c.in-Some.is refl c.in_ok-page-in-Carries.ensures c.put_seen.ensures
