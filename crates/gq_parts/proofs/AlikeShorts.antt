-- Parts that are alike do the same by a short letter, and write letters in the same forms.
use Rattle.std.proofs.Common.{◌≡◌, ◌∙◌, ℕ, Bool, true, false, List, [], ◌∷◌, refl, sym, ap, Option, Some, None, inl, inr}
use Rattle.std.specs.Prelude.{◌||◌, ◌==◌, ◌&&◌, not, is_some, option_map, if◌then◌else◌, ◌/◌}
use Rattle.std.proofs.lemmas.Bool.{cases_Bool}
use Rattle.gq_grid.specs.Grid.{no_servers}
use Rattle.gq_tag.specs.declared.Tag.{Tag}
use Rattle.gq_tag.specs.declared.StoredCopy.{StoredCopy}
use Rattle.gq_tag.specs.declared.Body.TheVariants.{Ask, Copy, Store, Stored}
use Rattle.gq_tag.specs.Tag.{OwnMessage, is_less}
use Rattle.gq_desk.specs.declared.volumes.VolumeRow.{VolumeRow}
use Rattle.gq_model.specs.Trace.{operation, operation_with, limit_at}
use Rattle.gq_model.specs.Lone.{retry_step}
use Rattle.gq_cluster.specs.Cluster.{everyone}
use Rattle.gq_node.specs.declared.shorts.ShortBody.{ShortBody}
use Rattle.gq_node.specs.declared.shorts.ShortBody.TheVariants.{AskAbove, Tagged, Confirm, Want}
use Rattle.gq_node.specs.declared.output.Answer.{Answer}
use Rattle.gq_node.specs.declared.output.Answer.TheVariants.{Has}
use Rattle.gq_node.specs.Inputs.{Input, Asked, AskedPlan, AskedLook, Brought, Shortened, Ticked, Looked, Joined, Fetching, Fetched}
use Rattle.gq_node.specs.Columns.{asks_to_confirm}
use Rattle.gq_node.specs.Local.{Local, Resident, Doing, silently, state_of, state_for, holding, letter_fits, serves, hears}
use Rattle.gq_node.specs.Shorts.{OwnShort, ShortDoing, letter_as, letter_with, short_as, wholly, copy_of, goes_short, takes_tag, asks_above, hears_tag, store_in, column_of, stores_again, confirms, takes_short, bound_by, is_beside, bound_from, bound_for, body_from, short_form}
use Rattle.gq_node.specs.Sites.{Site, has_session}
use Rattle.gq_node.proofs.Receiving.{Parts, parts, session_here}
use Rattle.gq_node.proofs.Shortly.{asks_short, asks_whole, confirm_held}
use Rattle.gq_parts.specs.Alike.{is_own_session, is_file_in, AreAlike, DoSame, AllDoSame}
use Rattle.gq_parts.specs.Within.{letters_by, reply_by}
use Rattle.gq_parts.proofs.Alike.{silent_same, same_limits, fits_there, lone, served_same, heard_same, asks_same, receives_same, ticks_same, looks_same, looked_same, joins_same, gives_same, takes_same}

-- ---- what is done by a short letter

-- the same is done, and the same goes out, whole or short
record ShortSame (site : Site) (p q : ShortDoing) : Type 0 where
  doing : DoSame site p.doing q.doing
  whole : p.whole ≡ q.whole
  short : p.short ≡ q.short

short_as_these : (site : Site) (p p' q q' : ShortDoing) → p ≡ p' → q ≡ q' → ShortSame site p' q' → ShortSame site p q
short_as_these site p p' q q' left right same = rw (left, right) same

wholly_same : (site : Site) (p q : Doing) → DoSame site p q → ShortSame site (wholly p) (wholly q)
wholly_same site p q same = record { doing = same; whole = same.letters; short = refl }

-- the operation of a session that both have the same
same_operation : (site : Site) (a b : Local) (k : ℕ) → a.residents k ≡ b.residents k → operation (state_for site a k) k ≡ operation (state_for site b k) k
same_operation site a b k same = ap (λ (r : Resident). option_map (operation_with k r.session) r.session.current) same

-- an ask above a tag
above_same : (site : Site) (a b : Local) (bound : Tag) (m : OwnMessage) → AreAlike site a b → is_file_in b m.file ≡ true → ShortSame site (asks_above bound site a m) (asks_above bound site b m)
above_same site a b bound m alike there = by (b.lacks m.file) refl
  where
    copies : copy_of a m.file ≡ copy_of b m.file
    copies = alike.copies m.file

    goes : a.lacks m.file ≡ false → b.lacks m.file ≡ false → (c : Bool) → goes_short bound (copy_of b m.file).tag ≡ c → ShortSame site (asks_above bound site a m) (asks_above bound site b m)
    goes one two false is =
        let also : goes_short bound (copy_of a m.file).tag ≡ false = ap (λ (c : StoredCopy). goes_short bound c.tag) copies ∙ is in
        short_as_these site (asks_above bound site a m) (wholly (serves site a m)) (asks_above bound site b m) (wholly (serves site b m)) (asks_whole bound site a m one also) (asks_whole bound site b m two is)
        (wholly_same site (serves site a m) (serves site b m) (served_same site a b m alike there one two))
    goes one two true is =
        let also : goes_short bound (copy_of a m.file).tag ≡ true = ap (λ (c : StoredCopy). goes_short bound c.tag) copies ∙ is in
        short_as_these site
        (asks_above bound site a m) (record { doing = serves site a m; whole = []; short = Some (short_as m (Tagged (copy_of a m.file).tag)) })
        (asks_above bound site b m) (record { doing = serves site b m; whole = []; short = Some (short_as m (Tagged (copy_of b m.file).tag)) })
        (asks_short bound site a m one also) (asks_short bound site b m two is)
        (record { doing = served_same site a b m alike there one two; whole = refl; short = ap (λ (c : StoredCopy). Some (short_as m (Tagged c.tag))) copies })

    by : (c : Bool) → b.lacks m.file ≡ c → ShortSame site (asks_above bound site a m) (asks_above bound site b m)
    by true is =
        let also : a.lacks m.file ≡ true = alike.lacks m.file there ∙ is in
        short_as_these site (asks_above bound site a m) (wholly (silently a)) (asks_above bound site b m) (wholly (silently b)) (rw also refl) (rw is refl) (wholly_same site (silently a) (silently b) (silent_same site a b alike))
    by false is = goes (alike.lacks m.file there ∙ is) is (goes_short bound (copy_of b m.file).tag) refl

-- a tag
tag_same : (site : Site) (a b : Local) (tag : Tag) (m : OwnMessage) → is_own_session site m.session ≡ true → AreAlike site a b → ShortSame site (hears_tag tag site a m) (hears_tag tag site b m)
tag_same site a b tag m own alike = by (takes_tag (operation (state_for site b m.session) m.session) tag) refl
  where
    by : (c : Bool) → takes_tag (operation (state_for site b m.session) m.session) tag ≡ c → ShortSame site (hears_tag tag site a m) (hears_tag tag site b m)
    by false is =
        let also : takes_tag (operation (state_for site a m.session) m.session) tag ≡ false = ap (λ o. takes_tag o tag) (same_operation site a b m.session (alike.residents m.session own)) ∙ is in
        short_as_these site (hears_tag tag site a m) (wholly (silently a)) (hears_tag tag site b m) (wholly (silently b)) (rw also refl) (rw is refl) (wholly_same site (silently a) (silently b) (silent_same site a b alike))
    by true is =
        let also : takes_tag (operation (state_for site a m.session) m.session) tag ≡ true = ap (λ o. takes_tag o tag) (same_operation site a b m.session (alike.residents m.session own)) ∙ is in
        short_as_these site (hears_tag tag site a m) (wholly (hears site a m)) (hears_tag tag site b m) (wholly (hears site b m)) (rw also refl) (rw is refl)
        (wholly_same site (hears site a m) (hears site b m) (heard_same site a b m own alike))

-- a store that goes out once more
abbrev sent_to : Site → OwnMessage → List VolumeRow → Resident → List OwnMessage
sent_to site m volumes r = (retry_step site.grid (lone volumes (column_of site.grid m.server) r) (operation (lone volumes no_servers r) m.session)).new

again_same : (site : Site) (a b : Local) (m : OwnMessage) → is_own_session site m.session ≡ true → AreAlike site a b → ShortSame site (stores_again site a m) (stores_again site b m)
again_same site a b m own alike = by (store_in (operation (state_for site b m.session) m.session) m) refl
  where
    r : a.residents m.session ≡ b.residents m.session
    r = alike.residents m.session own

    vs : a.volumes ≡ b.volumes
    vs = alike.volumes

    retry : Local → List OwnMessage
    retry x = (retry_step site.grid (state_of (column_of site.grid m.server) x) (operation (state_for site x m.session) m.session)).new

    by : (o : Option OwnMessage) → store_in (operation (state_for site b m.session) m.session) m ≡ o → ShortSame site (stores_again site a m) (stores_again site b m)
    by None is =
        let also : store_in (operation (state_for site a m.session) m.session) m ≡ None = ap (λ o. store_in o m) (same_operation site a b m.session r) ∙ is in
        short_as_these site (stores_again site a m) (wholly (silently a)) (stores_again site b m) (wholly (silently b)) (rw also refl) (rw is refl) (wholly_same site (silently a) (silently b) (silent_same site a b alike))
    by (Some letter) is =
        let also : store_in (operation (state_for site a m.session) m.session) m ≡ Some letter = ap (λ o. store_in o m) (same_operation site a b m.session r) ∙ is in
        short_as_these site
        (stores_again site a m) (record { doing = record (silently a) { letters = retry a }; whole = letter ∷ []; short = None })
        (stores_again site b m) (record { doing = record (silently b) { letters = retry b }; whole = letter ∷ []; short = None }) (rw also refl) (rw is refl)
        (record { doing = record { local = alike; answer = refl; letters = λ i. sent_to site m (vs i) (r i); transfer = refl; fact = refl }; whole = refl; short = refl })

-- a store without its content
confirm_same : (site : Site) (a b : Local) (tag : Tag) (m : OwnMessage) → has_session site m.session ≡ true → AreAlike site a b → is_file_in b m.file ≡ true → ShortSame site (confirms tag site a m) (confirms tag site b m)
confirm_same site a b tag m has_it alike there = by (b.lacks m.file) refl
  where
    copies : copy_of a m.file ≡ copy_of b m.file
    copies = alike.copies m.file

    less : a.lacks m.file ≡ false → b.lacks m.file ≡ false → is_less (copy_of a m.file).tag tag ≡ true → is_less (copy_of b m.file).tag tag ≡ true → (c : Bool) → (site.home m.session == site.here) ≡ c →
        ShortSame site (confirms tag site a m) (confirms tag site b m)
    less one two less_a less_b true is =
        let own : is_own_session site m.session ≡ true = rw (has_it, is) refl in
        short_as_these site (confirms tag site a m) (stores_again site a m) (confirms tag site b m) (stores_again site b m) (rw (one, less_a, is) refl) (rw (two, less_b, is) refl) (again_same site a b m own alike)
    less one two less_a less_b false is =
        short_as_these site
        (confirms tag site a m) (record { doing = silently a; whole = []; short = Some (short_as m Want) })
        (confirms tag site b m) (record { doing = silently b; whole = []; short = Some (short_as m Want) }) (rw (one, less_a, is) refl) (rw (two, less_b, is) refl)
        (record { doing = silent_same site a b alike; whole = refl; short = refl })

    has : a.lacks m.file ≡ false → b.lacks m.file ≡ false → (c : Bool) → is_less (copy_of b m.file).tag tag ≡ c → ShortSame site (confirms tag site a m) (confirms tag site b m)
    has one two true is = less one two (ap (λ (c : StoredCopy). is_less c.tag tag) copies ∙ is) is (site.home m.session == site.here) refl
    has one two false is =
        let also : is_less (copy_of a m.file).tag tag ≡ false = ap (λ (c : StoredCopy). is_less c.tag tag) copies ∙ is in
        short_as_these site (confirms tag site a m) (wholly (serves site a m)) (confirms tag site b m) (wholly (serves site b m)) (confirm_held tag site a m one also) (confirm_held tag site b m two is)
        (wholly_same site (serves site a m) (serves site b m) (served_same site a b m alike there one two))

    by : (c : Bool) → b.lacks m.file ≡ c → ShortSame site (confirms tag site a m) (confirms tag site b m)
    by true is =
        let also : a.lacks m.file ≡ true = alike.lacks m.file there ∙ is in
        short_as_these site (confirms tag site a m) (wholly (silently a)) (confirms tag site b m) (wholly (silently b)) (rw also refl) (rw is refl) (wholly_same site (silently a) (silently b) (silent_same site a b alike))
    by false is = has (alike.lacks m.file there ∙ is) is (is_less (copy_of b m.file).tag tag) refl

-- whatever short letter comes
shorts_same : (from : ℕ) (s : OwnShort) (bytes : List ℕ) (site : Site) (a b : Local) → AreAlike site a b → ShortSame site (takes_short from s bytes site a) (takes_short from s bytes site b)
shorts_same from s bytes site a b alike = by (letter_fits site (limit b) from plain) refl
  where
    plain : OwnMessage
    plain = letter_with [] s

    limit : Local → Option ℕ
    limit x = limit_at (state_of everyone x) s.file.volume s.file.place

    same : letter_fits site (limit a) from plain ≡ letter_fits site (limit b) from plain
    same = ap (λ l. letter_fits site l from plain) (same_limits site a b s.file alike)

    of : (body : ShortBody) → letter_fits site (limit a) from (letter_with [] (record s { body = body })) ≡ true → letter_fits site (limit b) from (letter_with [] (record s { body = body })) ≡ true →
        ShortSame site (takes_short from (record s { body = body }) bytes site a) (takes_short from (record s { body = body }) bytes site b)
    of (AskAbove bound) one two =
        let m : OwnMessage = letter_as s Ask in
        let there : is_file_in b s.file ≡ true = fits_there (limit b) Ask (parts site (limit b) from m two).file in
        short_as_these site (takes_short from (record s { body = AskAbove bound }) bytes site a) (asks_above bound site a m) (takes_short from (record s { body = AskAbove bound }) bytes site b) (asks_above bound site b m)
        (rw one refl) (rw two refl) (above_same site a b bound m alike there)
    of (Tagged tag) one two =
        let m : OwnMessage = letter_as s (Copy (record { tag = tag; bytes = bytes })) in
        let p : Parts site (limit b) from (letter_as s (Copy (record { tag = tag; bytes = [] }))) = parts site (limit b) from (letter_as s (Copy (record { tag = tag; bytes = [] }))) two in
        let own : is_own_session site s.session ≡ true = rw (p.session, session_here site from (letter_as s (Copy (record { tag = tag; bytes = [] }))) refl p.between) refl in
        short_as_these site (takes_short from (record s { body = Tagged tag }) bytes site a) (hears_tag tag site a m) (takes_short from (record s { body = Tagged tag }) bytes site b) (hears_tag tag site b m)
        (rw one refl) (rw two refl) (tag_same site a b tag m own alike)
    of (Confirm tag) one two =
        let m : OwnMessage = letter_as s (Store (record { tag = tag; bytes = bytes })) in
        let p : Parts site (limit b) from (letter_as s (Store (record { tag = tag; bytes = [] }))) = parts site (limit b) from (letter_as s (Store (record { tag = tag; bytes = [] }))) two in
        let there : is_file_in b s.file ≡ true = fits_there (limit b) (Store (record { tag = tag; bytes = [] })) p.file in
        short_as_these site (takes_short from (record s { body = Confirm tag }) bytes site a) (confirms tag site a m) (takes_short from (record s { body = Confirm tag }) bytes site b) (confirms tag site b m)
        (rw one refl) (rw two refl) (confirm_same site a b tag m p.session alike there)
    of Want one two =
        let m : OwnMessage = letter_as s Stored in
        let p : Parts site (limit b) from m = parts site (limit b) from m two in
        let own : is_own_session site s.session ≡ true = rw (p.session, session_here site from m refl p.between) refl in
        short_as_these site (takes_short from (record s { body = Want }) bytes site a) (stores_again site a m) (takes_short from (record s { body = Want }) bytes site b) (stores_again site b m)
        (rw one refl) (rw two refl) (again_same site a b m own alike)

    by : (c : Bool) → letter_fits site (limit b) from plain ≡ c → ShortSame site (takes_short from s bytes site a) (takes_short from s bytes site b)
    by false is =
        let also : letter_fits site (limit a) from plain ≡ false = same ∙ is in
        short_as_these site (takes_short from s bytes site a) (wholly (silently a)) (takes_short from s bytes site b) (wholly (silently b)) (rw also refl) (rw is refl) (wholly_same site (silently a) (silently b) (silent_same site a b alike))
    by true is = of s.body (same ∙ is) is

-- ---- whatever comes

pub does_same : AllDoSame
does_same (Asked op line) site a b alike = asks_same op line site a b alike
does_same AskedPlan site a b alike = record { local = alike; answer = ap (λ (vs : List VolumeRow). Some (Has (holding site vs))) alike.volumes; letters = refl; transfer = refl; fact = refl }
does_same (AskedLook mark volume) site a b alike = record { local = alike; answer = ap (λ (x : Answer). Some x) (looked_same mark volume site a b alike); letters = refl; transfer = refl; fact = refl }
does_same (Brought from letter) site a b alike = receives_same from letter site a b alike
does_same (Shortened from short bytes) site a b alike = (shorts_same from short bytes site a b alike).doing
does_same (Ticked session) site a b alike = ticks_same session site a b alike
does_same (Looked lane) site a b alike = looks_same lane site a b alike
does_same (Joined from losses) site a b alike = joins_same from losses site a b alike
does_same (Fetching from file) site a b alike = gives_same from file site a b alike
does_same (Fetched from file copy) site a b alike = takes_same from file copy site a b alike

-- the same letters go out, and the same short one in place of one
pub record GoesSame (site : Site) (a b : Local) (input : Input) : Type 0 where
  pub letters : letters_by site a input ≡ letters_by site b input
  pub reply : reply_by site a input ≡ reply_by site b input

pub goes_same_out : (site : Site) (a b : Local) (input : Input) → AreAlike site a b → GoesSame site a b input
goes_same_out site a b (Asked op line) alike = record { letters = (does_same (Asked op line) site a b alike).letters; reply = refl }
goes_same_out site a b AskedPlan alike = record { letters = refl; reply = refl }
goes_same_out site a b (AskedLook mark volume) alike = record { letters = refl; reply = refl }
goes_same_out site a b (Brought from letter) alike = record { letters = (does_same (Brought from letter) site a b alike).letters; reply = refl }
goes_same_out site a b (Shortened from short bytes) alike = record { letters = (shorts_same from short bytes site a b alike).whole; reply = (shorts_same from short bytes site a b alike).short }
goes_same_out site a b (Ticked session) alike = record { letters = (does_same (Ticked session) site a b alike).letters; reply = refl }
goes_same_out site a b (Looked lane) alike = record { letters = (does_same (Looked lane) site a b alike).letters; reply = refl }
goes_same_out site a b (Joined from losses) alike = record { letters = (does_same (Joined from losses) site a b alike).letters; reply = refl }
goes_same_out site a b (Fetching from file) alike = record { letters = (does_same (Fetching from file) site a b alike).letters; reply = refl }
goes_same_out site a b (Fetched from file copy) alike = record { letters = (does_same (Fetched from file copy) site a b alike).letters; reply = refl }

-- ---- in which form a letter goes

bounds_same : (site : Site) (a b : Local) (m : OwnMessage) → AreAlike site a b → bound_by (operation (state_for site a m.session) m.session) ≡ bound_by (operation (state_for site b m.session) m.session)
bounds_same site a b m alike = elim (cases_Bool (is_own_session site m.session)) [
  | inl own ↦ (ap bound_by (same_operation site a b m.session (alike.residents m.session own)))
  | inr not' ↦ (
      let one : operation (state_for site a m.session) m.session ≡ None = ap (option_map (operation_with m.session (a.residents m.session).session)) (alike.idle m.session not').0 in
      let two : operation (state_for site b m.session) m.session ≡ None = ap (option_map (operation_with m.session (b.residents m.session).session)) (alike.idle m.session not').1 in
      ap bound_by (one ∙ sym two))
]

asked_same : (site : Site) (a b : Local) (m : OwnMessage) → AreAlike site a b →
    asks_to_confirm (a.residents m.session).stays (operation (state_for site a m.session) m.session) ≡ asks_to_confirm (b.residents m.session).stays (operation (state_for site b m.session) m.session)
asked_same site a b m alike = elim (cases_Bool (is_own_session site m.session)) [
  | inl own ↦ (ap (λ (r : Resident). asks_to_confirm r.stays (option_map (operation_with m.session r.session) r.session.current)) (alike.residents m.session own))
  | inr not' ↦ (
      let one : operation (state_for site a m.session) m.session ≡ None = ap (option_map (operation_with m.session (a.residents m.session).session)) (alike.idle m.session not').0 in
      let two : operation (state_for site b m.session) m.session ≡ None = ap (option_map (operation_with m.session (b.residents m.session).session)) (alike.idle m.session not').1 in
      ap (asks_to_confirm (a.residents m.session).stays) one ∙ sym (ap (asks_to_confirm (b.residents m.session).stays) two))
]

beside_same : (site : Site) (a b : Local) (m : OwnMessage) → AreAlike site a b → is_beside site a m ≡ is_beside site b m
beside_same site a b m alike = elim (cases_Bool (is_file_in b m.file)) [
  | inl there ↦ (
      let also : is_file_in a m.file ≡ true = ap is_some (same_limits site a b m.file alike) ∙ there in
      rw (also, there) (ap (λ l. not l && (not (site.place == m.server) && site.place / site.grid.cols == m.server / site.grid.cols)) (alike.lacks m.file there)))
  | inr none ↦ (let also : is_file_in a m.file ≡ false = ap is_some (same_limits site a b m.file alike) ∙ none in rw (also, none) refl)
]

pub forms_same : (site : Site) (a b : Local) (m : OwnMessage) → AreAlike site a b → short_form site a m ≡ short_form site b m
forms_same site a b m alike =
    let bound : bound_for site a m ≡ bound_for site b m =
    λ i. bound_from (bounds_same site a b m alike i) (beside_same site a b m alike i) (alike.copies m.file i).tag in
    λ i. if has_session site m.session then option_map (short_as m) (body_from m.body (bound i) ((site.node_at m.server == site.here) || asked_same site a b m alike i)) else None
