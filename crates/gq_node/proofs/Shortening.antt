-- A short letter is passed over, or is served or heard as the whole one, or has a store go out once more.
use Rattle.std.proofs.Common.{◌≡◌, ℕ, true, false, List, [], refl, Option, Some, None, inl, inr}
use Rattle.std.specs.Prelude.{◌==◌, ◌&&◌, ⊤, Contains}
use Rattle.std.proofs.lemmas.Bool.{cases_Bool, and_parts, eqb-true}
use Rattle.gq_tag.specs.declared.Body.{Body}
use Rattle.gq_tag.specs.declared.Body.TheVariants.{Ask, Copy, Store, Stored}
use Rattle.gq_tag.specs.Tag.{File, OwnMessage, to_server, is_less}
use Rattle.gq_model.specs.declared.events.Line.TheVariants.{Retry}
use Rattle.gq_model.specs.Told.{Told}
use Rattle.gq_model.specs.Trace.{operation, limit_at}
use Rattle.gq_model.specs.Lone.{retry_step}
use Rattle.gq_cluster.specs.Cluster.{Act, Asks, Comes, everyone, copy_in}
use Rattle.gq_node.specs.declared.shorts.ShortBody.{ShortBody}
use Rattle.gq_node.specs.declared.shorts.ShortBody.TheVariants.{AskAbove, Tagged, Confirm, Want}
use Rattle.gq_node.specs.Bridge.{hear_act, again_act, short_act, short_tell}
use Rattle.gq_node.specs.Local.{Local, Doing, silently, part_in, state_of, state_for, serves, hears, letter_fits, goes_between, file_fits, answer_of}
use Rattle.gq_node.specs.Nodes.{Nodes, StoodFor}
use Rattle.gq_node.specs.Shorts.{OwnShort, letter_as, letter_with, copy_of, goes_short, takes_tag, store_in, column_of, stores_again, takes_short}
use Rattle.gq_node.specs.Sites.{Site, has_session}
use Rattle.gq_node.proofs.Receiving.{Parts, parts, its_server}

-- ---- what is known where it is done

-- the body is no store that is newer than the server's copy
abbrev pub IsOlder : Local → File → Body → Type 0
IsOlder local file (Store copy) = is_less (copy_in (part_in local) file).tag copy.tag ≡ false
IsOlder local file _ = ⊤

-- the server serves the letter
pub record IsServed (site : Site) (local : Local) (from : ℕ) (s : OwnShort) (bytes : List ℕ) : Type 0 where
  pub goes : to_server (letter_with bytes s).body ≡ true
  pub server : s.server ≡ site.place
  pub home : site.home s.session ≡ from
  pub has : local.lacks s.file ≡ false
  pub there : file_fits (limit_at (state_of everyone local) s.file.volume s.file.place) Stored ≡ true
  pub older : IsOlder local s.file (letter_with bytes s).body
  pub silent : (k op : ℕ) (told : Told) → short_tell s.body k op told ≡ None
  pub was : (nodes : Nodes) (n : ℕ) → StoodFor nodes n from s.body (letter_with bytes s) → Contains nodes.posted (record { from = from; to = n; letter = letter_with bytes s })

-- the session hears it
pub record IsHeard (site : Site) (from : ℕ) (s : OwnShort) (bytes : List ℕ) : Type 0 where
  pub goes : to_server (letter_with bytes s).body ≡ false
  pub session : has_session site s.session ≡ true
  pub home : site.home s.session ≡ site.here
  pub tells : (k op : ℕ) (told : Told) → short_tell s.body k op told ≡ answer_of k op op told
  pub was : (nodes : Nodes) (n : ℕ) → StoodFor nodes n from s.body (letter_with bytes s) → Contains nodes.posted (record { from = from; to = n; letter = letter_with bytes s })

-- its store goes out once more
pub record IsAgain (site : Site) (s : OwnShort) : Type 0 where
  pub session : has_session site s.session ≡ true
  pub home : site.home s.session ≡ site.here
  pub silent : (k op : ℕ) (told : Told) → short_tell s.body k op told ≡ None

abbrev pub stored_again : Site → Local → OwnShort → Doing
stored_again site local s = record (silently local) {
  letters = (retry_step site.grid (state_of (column_of site.grid s.server) local) (operation (state_for site local s.session) s.session)).new;
}

-- what holds of each of these holds of the short letter
pub record Arms (P : Option Act → Doing → Type 0) (site : Site) (local : Local) (from : ℕ) (s : OwnShort) (bytes : List ℕ) : Type 0 where
  pub passed : P None (silently local)
  pub served : IsServed site local from s bytes → P (Some (Comes (letter_with bytes s) everyone)) (serves site local (letter_with bytes s))
  pub heard : IsHeard site from s bytes → P (hear_act site local (letter_with bytes s)) (hears site local (letter_with bytes s))
  pub again : IsAgain site s → P (Some (Asks (Retry s.session) (column_of site.grid s.server))) (stored_again site local s)

-- ---- where it is

file_is_there : (limit : Option ℕ) (body : Body) → file_fits limit body ≡ true → file_fits limit Stored ≡ true
file_is_there None body fits = absurd (cc)
file_is_there (Some limit) body fits = refl

from_home : (site : Site) (from : ℕ) (m : OwnMessage) → to_server m.body ≡ true → goes_between site from m ≡ true → site.home m.session ≡ from
from_home site from m goes is =
    let h : (m.server == site.place && site.home m.session == from) ≡ true = rw goes at is in
    eqb-true (site.home m.session) from (and_parts (m.server == site.place) (site.home m.session == from) h).1

at_home : (site : Site) (from : ℕ) (m : OwnMessage) → to_server m.body ≡ false → goes_between site from m ≡ true → site.home m.session ≡ site.here
at_home site from m goes is =
    let h : (site.home m.session == site.here && site.node_at m.server == from) ≡ true = rw goes at is in
    eqb-true (site.home m.session) site.here (and_parts (site.home m.session == site.here) (site.node_at m.server == from) h).0

again_arm : (P : Option Act → Doing → Type 0) (site : Site) (local : Local) (s : OwnShort) (body : Body) → P None (silently local) →
    P (Some (Asks (Retry s.session) (column_of site.grid s.server))) (stored_again site local s) → P (again_act site local (letter_as s body)) (stores_again site local (letter_as s body)).doing
again_arm P site local s body passed again = by (store_in (operation (state_for site local s.session) s.session) (letter_as s body)) refl
  where
    by : (o : Option OwnMessage) → store_in (operation (state_for site local s.session) s.session) (letter_as s body) ≡ o → P (again_act site local (letter_as s body)) (stores_again site local (letter_as s body)).doing
    by None is = rw is passed
    by (Some letter) is = rw is again

pub by_arms : (P : Option Act → Doing → Type 0) (from : ℕ) (s : OwnShort) (bytes : List ℕ) (site : Site) (local : Local) → Arms P site local from s bytes → P (short_act from s bytes site local) (takes_short from s bytes site local).doing
by_arms P from s bytes site local arms = by s.body arms
  where
    limit : Option ℕ
    limit = limit_at (state_of everyone local) s.file.volume s.file.place

    served : (x : OwnShort) (body : Body) → letter_fits site limit from (letter_as s body) ≡ true → to_server body ≡ true → (s.server ≡ site.place) × (site.home s.session ≡ from) × (file_fits limit Stored ≡ true)
    served x body fits goes =
        let p : Parts site limit from (letter_as s body) = parts site limit from (letter_as s body) fits in
        (its_server site from (letter_as s body) goes p.between, from_home site from (letter_as s body) goes p.between, file_is_there limit body p.file)

    by : (b : ShortBody) → Arms P site local from (record s { body = b }) bytes → P (short_act from (record s { body = b }) bytes site local) (takes_short from (record s { body = b }) bytes site local).doing
    by (AskAbove bound) arms = elim (cases_Bool (letter_fits site limit from (letter_as s Ask))) [
      | inr not' ↦ (rw not' arms.passed)
      | inl fits ↦ (elim (cases_Bool (local.lacks s.file)) [
        | inl lacks ↦ (rw (fits, lacks) arms.passed)
        | inr has ↦ (
            let at = served s Ask fits refl in
            let all = arms.served (record { goes = refl; server = at.0; home = at.1; has = has; there = at.2; older = tt; silent = λ k op told. refl; was = λ nodes n h. h }) in
            elim (cases_Bool (goes_short bound (copy_of local s.file).tag)) [
              | inl short ↦ (rw (fits, has, short) all)
              | inr whole ↦ (rw (fits, has, whole) all)
            ])
      ])
    ]
    by (Tagged tag) arms = elim (cases_Bool (letter_fits site limit from (letter_as s (Copy (record { tag = tag; bytes = [] }))))) [
      | inr not' ↦ (rw not' arms.passed)
      | inl fits ↦ (elim (cases_Bool (takes_tag (operation (state_for site local s.session) s.session) tag)) [
        | inr lost ↦ (rw (fits, lost) arms.passed)
        | inl takes ↦ (
            let p : Parts site limit from (letter_as s (Copy (record { tag = tag; bytes = [] }))) = parts site limit from (letter_as s (Copy (record { tag = tag; bytes = [] }))) fits in
            rw (fits, takes) (arms.heard (record {
              goes = refl;
              session = p.session;
              home = at_home site from (letter_as s (Copy (record { tag = tag; bytes = [] }))) refl p.between;
              tells = λ k op told. refl;
              was = λ nodes n h. h;
            })))
      ])
    ]
    by (Confirm tag) arms = elim (cases_Bool (letter_fits site limit from (letter_as s (Store (record { tag = tag; bytes = [] }))))) [
      | inr not' ↦ (rw not' arms.passed)
      | inl fits ↦ (
          let p : Parts site limit from (letter_as s (Store (record { tag = tag; bytes = [] }))) = parts site limit from (letter_as s (Store (record { tag = tag; bytes = [] }))) fits in
          let at = served s (Store (record { tag = tag; bytes = [] })) fits refl in
          elim (cases_Bool (local.lacks s.file)) [
            | inl lacks ↦ (rw (fits, lacks) arms.passed)
            | inr has ↦ (elim (cases_Bool (is_less (copy_of local s.file).tag tag)) [
              | inr held ↦ (rw (fits, has, held) (arms.served (record { goes = refl; server = at.0; home = at.1; has = has; there = at.2; older = held; silent = λ k op told. refl; was = λ nodes n h. h })))
              | inl less ↦ (elim (cases_Bool (site.home s.session == site.here)) [
                | inr away ↦ (rw (fits, has, less, away) arms.passed)
                | inl here ↦ (rw (fits, has, less, here) (again_arm P site local s (Store (record { tag = tag; bytes = bytes })) arms.passed
                    (arms.again (record { session = p.session; home = eqb-true (site.home s.session) site.here here; silent = λ k op told. refl }))))
              ])
            ])
          ])
    ]
    by Want arms = elim (cases_Bool (letter_fits site limit from (letter_as s Stored))) [
      | inr not' ↦ (rw not' arms.passed)
      | inl fits ↦ (
          let p : Parts site limit from (letter_as s Stored) = parts site limit from (letter_as s Stored) fits in
          rw fits (again_arm P site local s Stored arms.passed (arms.again (record { session = p.session; home = at_home site from (letter_as s Stored) refl p.between; silent = λ k op told. refl }))))
    ]
