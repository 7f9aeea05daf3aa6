-- What a peer gives.
use Rattle.std.proofs.Common.{◌≡◌, ◌<◌, ℕ, Bool, true, List, Some, refl, sym, ap, subst, ◌∙◌, get_or, set, length}
use Rattle.std.specs.Prelude.{Result, Ok, Err, OnErr, if◌then◌else◌}
use Rattle.std.proofs.lemmas.Bool.{eq-eqb}
use Rattle.gq_shelf.specs.Notes.{Noted}
use Rattle.gq_shelf.specs.declared.extent.Extent.{Extent}
use Rattle.gq_ledger.specs.Ledgers.{book_of}
use Rattle.gq_ledger.specs.Steps.{Book, Gives, Leads}
use Rattle.gq_stock.specs.Held.{Held, contents}
use Rattle.gq_stock.specs.Keeping.{ChangesOnly}
use Rattle.gq_stock.specs.Stocks.{GivenIn, ChangesIn, SureIn, LongIn}
use Rattle.gq_stock.specs.Sure.{IsSureOf, IsLongOf}
use Rattle.gq_stock.specs.declared.session.Session.{Session}
use Rattle.gq_stock.proofs.Sessions.{at_place, put_there}

given_at : (old new : Book Held) (n : ℕ) (held : Held) → Leads old (Gives n held) new → new.at n ≡ Some held
given_at old new n held leads = leads.at n ∙ ap (λ (t : Bool). if t then Some held else old.at n) (eq-eqb n n refl)

pub given_in : (written : Extent → List ℕ) (sessions : List Session) (i n : ℕ) (bytes : List ℕ) (d new : Session) → i < length sessions → Leads (contents written (book_of d.chunks)) (Gives n (record { bytes = bytes; is_sure = true })) (contents written (book_of new.chunks)) → GivenIn written (set sessions i new) i n bytes
given_in written sessions i n bytes d new lt leads session there =
    subst (λ (s : Session). (contents written (book_of s.chunks)).at n ≡ Some (record { bytes = bytes; is_sure = true })) (sym (put_there sessions i new session lt there))
    (given_at (contents written (book_of d.chunks)) (contents written (book_of new.chunks)) n (record { bytes = bytes; is_sure = true }) leads)

pub given_alone : (sessions : List Session) (i n : ℕ) (d new : Session) → i < length sessions → d ≡ get_or sessions i d → ChangesOnly (book_of d.chunks) n (book_of new.chunks) → ChangesIn sessions i n (set sessions i new)
given_alone sessions i n d new lt is alone old now was is_now =
    subst (λ (s : Session). ChangesOnly (book_of s.chunks) n (book_of now.chunks)) (sym (at_place sessions i d old lt is was))
    (subst (λ (s : Session). ChangesOnly (book_of d.chunks) n (book_of s.chunks)) (sym (put_there sessions i new now lt is_now)) alone)

pub given_sure : (sessions : List Session) (i n : ℕ) (new : Session) (noted : Noted) → i < length sessions → IsSureOf ((book_of new.chunks).at n) noted → SureIn (set sessions i new) i n noted
given_sure sessions i n new noted lt sure session there = subst (λ (s : Session). IsSureOf ((book_of s.chunks).at n) noted) (sym (put_there sessions i new session lt there)) sure

pub given_long : (sessions : List Session) (i n : ℕ) (new : Session) (long : ℕ) → i < length sessions → IsLongOf ((book_of new.chunks).at n) long → LongIn (set sessions i new) i n long
given_long sessions i n new long lt is session there = subst (λ (s : Session). IsLongOf ((book_of s.chunks).at n) long) (sym (put_there sessions i new session lt there)) is

-- what holds in any case holds after an error
pub on_any_error : {A E : Type 0} (r : Result A E) {P : Type 0} → P → OnErr r P
on_any_error (Ok x) holds = tt
on_any_error (Err e) holds = holds
