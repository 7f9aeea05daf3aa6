-- A start that reads the facts of a part's steps is the part at rest.
use Rattle.std.proofs.Common.{◌≡◌, ◌∙◌, ℕ, Bool, true, false, List, [], ◌∷◌, ◌++◌, Option, Some, None, refl, sym, ap, subst, inl, inr}
use Rattle.std.specs.Prelude.{◌==◌, ◌&&◌, not, is_some, if◌then◌else◌}
use Rattle.std.specs.Option.{option_to_list}
use Rattle.std.proofs.lemmas.Bool.{cases_Bool, and_parts, not-true}
use Rattle.gq_grid.specs.Grid.{Servers}
use Rattle.gq_tag.specs.declared.StoredCopy.{StoredCopy}
use Rattle.gq_tag.specs.declared.Body.TheVariants.{Store}
use Rattle.gq_tag.specs.Tag.{File, first_copy, greatest, newer_of, is_less, is_file}
use Rattle.gq_desk.specs.declared.volumes.VolumeRow.{VolumeRow}
use Rattle.gq_model.specs.Trace.{limit_at}
use Rattle.gq_laws.proofs.OperationMoments.{same_file}
use Rattle.gq_cluster.specs.Cluster.{everyone}
use Rattle.gq_cluster.specs.Facts.{OwnFact, Begun, Numbered, Kept, Had, Reserved}
use Rattle.gq_cluster.specs.Keeping.{KeptPart, kept_of, with_fact}
use Rattle.gq_replace.specs.Keeping.{KeptFiles, files_of_part, with_fleet_fact, lacks_behind}
use Rattle.gq_replace.specs.Plans.{place_of}
use Rattle.gq_node.specs.Inputs.{Input, Asked, AskedPlan, AskedLook, Brought, Shortened, Ticked, Looked, Joined, Fetching, Fetched, does, after_one, after_all}
use Rattle.gq_node.specs.Joining.{hears_joined, all_joined, first_lacked, peer_for, asks_peer, looks, is_peer, has_file, gives, takes}
use Rattle.gq_node.specs.Lanes.{lane_of}
use Rattle.gq_node.specs.Local.{Local, Doing, part_in, state_of, file_fits, fits_local, with_copy, given, recalled}
use Rattle.gq_node.specs.Resting.{GoesBehind, recall_one, recall_all, IsAtRest, IsBare}
use Rattle.gq_node.specs.Sites.{Site, is_new, has_node}
use Rattle.gq_node.proofs.Journal.{FactIn, KeepsBy, Keeps, does_keep, stays_bare, recall_keeps}
use Rattle.gq_node.proofs.Recalling.{one_behind, recalls_fits, recalls_not}
use Rattle.gq_node.proofs.Reserving.{same_reserved}
use Rattle.gq_node.proofs.Staying.{asks_view, receives_view, shorts_view, ticks_view}
use Rattle.gq_node.proofs.Using.{recall_idle, recall_volumes}
use Rattle.gq_parts.specs.Texts.{own_facts}

-- whether it takes the copy that it is given
abbrev pub takes_it : Site → Local → (from : ℕ) → File → StoredCopy → Bool
takes_it site local from file copy = is_peer site from && local.lacks file && file_fits (limit_at (state_of everyone local) file.volume file.place) (Store copy)

-- ---- a step

asked_volumes : (site : Site) (local : Local) (lane place : ℕ) → (asks_peer site local lane place).local.volumes ≡ local.volumes
asked_volumes site local lane place = by (first_lacked local lane) refl
  where
    by : (o : Option File) → first_lacked local lane ≡ o → (asks_peer site local lane place).local.volumes ≡ local.volumes
    by None is = rw is refl
    by (Some file) is = rw is refl

pub does_volumes : (input : Input) (site : Site) (local : Local) → (does input site local).local.volumes ≡ local.volumes
does_volumes (Asked op line) site local = ap (λ (v : List VolumeRow × Servers). v.0) (asks_view op line site local)
does_volumes AskedPlan site local = refl
does_volumes (AskedLook mark volume) site local = refl
does_volumes (Brought from letter) site local = ap (λ (v : List VolumeRow × Servers). v.0) (receives_view from letter site local)
does_volumes (Shortened from short bytes) site local = ap (λ (v : List VolumeRow × Servers). v.0) (shorts_view from short bytes site local)
does_volumes (Ticked session) site local = ap (λ (v : List VolumeRow × Servers). v.0) (ticks_view session site local)
does_volumes (Looked lane) site local = by (all_joined site local.joined) refl
  where
    by : (b : Bool) → all_joined site local.joined ≡ b → (looks lane site local).local.volumes ≡ local.volumes
    by true is = rw is (asked_volumes site local lane (peer_for site lane local.peer))
    by false is = rw is refl
does_volumes (Joined from losses) site local = by (is_new site && has_node site from && losses == site.losses) refl
  where
    by : (b : Bool) → (is_new site && has_node site from && losses == site.losses) ≡ b → (hears_joined from losses site local).local.volumes ≡ local.volumes
    by true is = rw is refl
    by false is = rw is refl
does_volumes (Fetching from file) site local = by (is_peer site from && has_file local file) refl
  where
    by : (b : Bool) → (is_peer site from && has_file local file) ≡ b → (gives from file site local).local.volumes ≡ local.volumes
    by true is = rw is refl
    by false is = rw is refl
does_volumes (Fetched from file copy) site local = by (takes_it site local from file copy) refl
  where
    by : (b : Bool) → takes_it site local from file copy ≡ b → (takes from file copy site local).local.volumes ≡ local.volumes
    by true is = rw is (asked_volumes site (given file copy local) (lane_of local.volumes file.volume) (place_of from))
    by false is = rw is refl

pub all_volumes : (site : Site) (local : Local) (inputs : List Input) → (after_all site local inputs).volumes ≡ local.volumes
all_volumes site local [] = refl
all_volumes site local (input ∷ inputs) = all_volumes site (after_one site local input) inputs ∙ does_volumes input site local

-- of what it lacks it has the first copy, then too
pub all_bare : (site : Site) (local : Local) (inputs : List Input) → IsBare local → IsBare (after_all site local inputs)
all_bare site local [] bare = bare
all_bare site local (input ∷ inputs) bare = all_bare site (after_one site local input) inputs (stays_bare site local (does input site local) (does_keep input site local bare) bare)

-- ---- a start reads a fact

pub recall_more : (site : Site) (local : Local) (a b : List OwnFact) → recall_all site local (a ++ b) ≡ recall_all site (recall_all site local a) b
recall_more site local [] b = refl
recall_more site local (fact ∷ a) b = recall_more site (recall_one site local fact) a b

pub all_idle : (site : Site) (local : Local) (facts : List OwnFact) → ((k : ℕ) → (local.residents k).session.current ≡ None) → (k : ℕ) → ((recall_all site local facts).residents k).session.current ≡ None
all_idle site local facts idle = recall_idle site facts local idle

pub all_recalled_volumes : (site : Site) (local : Local) (facts : List OwnFact) → (recall_all site local facts).volumes ≡ local.volumes
all_recalled_volumes site local facts = recall_volumes site facts local

recall_bare : (site : Site) (local : Local) (fact : OwnFact) → IsBare local → IsBare (recall_one site local fact)
recall_bare site local fact bare = by (fits_local fact site local) refl
  where
    of_kept : (file : File) (copy : StoredCopy) → local.lacks file ≡ false → IsBare (with_copy file copy local)
    of_kept file copy has f lacks = elim (cases_Bool (is_file file f)) [
      | inl same ↦ (absurd (let e : local.lacks file ≡ local.lacks f = ap local.lacks (same_file file f same) in cc))
      | inr other ↦ (let same : (with_copy file copy local).brought f ≡ local.brought f = rw other refl in ap (λ xs. greatest (first_copy ∷ xs)) same ∙ bare f lacks)
    ]

    of_given : (file : File) (copy : StoredCopy) → IsBare (given file copy local)
    of_given file copy f lacks =
        let p = and_parts (local.lacks f) (not (is_file file f)) lacks in
        elim (cases_Bool (is_file file f)) [
          | inl same ↦ (absurd (let e : not (is_file file f) ≡ false = ap not same in cc))
          | inr other ↦ (let same : (given file copy local).brought f ≡ local.brought f = rw other refl in ap (λ xs. greatest (first_copy ∷ xs)) same ∙ bare f p.0)
        ]

    of : (fact : OwnFact) → fits_local fact site local ≡ true → IsBare (recalled fact local)
    of (Begun k op) fits = bare
    of (Numbered k number) fits = bare
    of (Kept file copy) fits = of_kept file copy (not-true (local.lacks file) ((and_parts (not (local.lacks file)) (file_fits (limit_at (state_of everyone local) file.volume file.place) (Store copy)) fits).0))
    of (Had file copy) fits = of_given file copy

    by : (b : Bool) → fits_local fact site local ≡ b → IsBare (recall_one site local fact)
    by true is = subst IsBare (sym (ap (λ (d : Doing). d.local) (recalls_fits fact site local is))) (of fact is)
    by false is = subst IsBare (sym (ap (λ (d : Doing). d.local) (recalls_not fact site local is))) bare

pub all_recalled_bare : (site : Site) (local : Local) (facts : List OwnFact) → IsBare local → IsBare (recall_all site local facts)
all_recalled_bare site local [] bare = bare
all_recalled_bare site local (fact ∷ facts) bare = all_recalled_bare site (recall_one site local fact) facts (recall_bare site local fact bare)

-- a part without operations, of which each session goes on behind what is reserved for it, is itself at rest
pub rests_itself : (site : Site) (local : Local) → ((k : ℕ) → GoesBehind (local.residents k)) → ((k : ℕ) → (local.residents k).session.current ≡ None) → IsAtRest site local local
rests_itself site local behind idle = record { volumes = refl; copies = λ file. refl; lacks = λ file there. refl; reserved = λ k inside. refl; behind = behind; idle = idle }

-- the limit of a file is that of the part at rest
same_limit : (site : Site) (rest local : Local) (file : File) → IsAtRest site rest local → limit_at (state_of everyone rest) file.volume file.place ≡ limit_at (state_of everyone local) file.volume file.place
same_limit site rest local file is = ap (λ (v : List VolumeRow). limit_at (state_of everyone (record local { volumes = v })) file.volume file.place) is.volumes

-- a copy fits where the file is there
fits_there : (limit : Option ℕ) (copy : StoredCopy) → file_fits limit (Store copy) ≡ true → is_some limit ≡ true
fits_there None copy fits = fits
fits_there (Some limit) copy fits = refl

-- a fact that the part may give, the start takes
fact_in : (site : Site) (rest local : Local) (fact : OwnFact) → IsAtRest site rest local → FactIn site local fact → FactIn site rest fact
fact_in site rest local (Begun k op) is inside = inside
fact_in site rest local (Numbered k number) is inside = inside
fact_in site rest local (Kept file copy) is fits =
    let p = and_parts (not (local.lacks file)) (file_fits (limit_at (state_of everyone local) file.volume file.place) (Store copy)) fits.0 in
    let lacks : rest.lacks file ≡ local.lacks file = is.lacks file (fits_there (limit_at (state_of everyone local) file.volume file.place) copy p.1) in
    (rw (lacks, same_limit site rest local file is) fits.0, subst (λ (c : StoredCopy). is_less c.tag copy.tag ≡ true) (sym (is.copies file)) fits.1)
fact_in site rest local (Had file copy) is fits = (rw (same_limit site rest local file is) fits.0, is.copies file ∙ fits.1)

-- one fact more for two that know the same
same_copy : (a b : KeptPart) (fact : OwnFact) (f : File) → a.copy f ≡ b.copy f → (with_fact a (Some fact)).copy f ≡ (with_fact b (Some fact)).copy f
same_copy a b (Begun k op) f same = same
same_copy a b (Numbered k number) f same = same
same_copy a b (Kept file copy) f same = ap (λ (z : StoredCopy). if is_file file f then copy else z) same
same_copy a b (Had file copy) f same = ap (λ (z : StoredCopy). if is_file file f then newer_of first_copy copy else z) same

same_op : (a b : KeptPart) (fact : OwnFact) (j : ℕ) → a.op j ≡ b.op j → (with_fact a (Some fact)).op j ≡ (with_fact b (Some fact)).op j
same_op a b (Begun k op) j same = ap (λ (z : ℕ). if k == j then op else z) same
same_op a b (Numbered k number) j same = same
same_op a b (Kept file copy) j same = same
same_op a b (Had file copy) j same = same

same_floor : (a b : KeptPart) (fact : OwnFact) (j : ℕ) → a.floor j ≡ b.floor j → (with_fact a (Some fact)).floor j ≡ (with_fact b (Some fact)).floor j
same_floor a b (Begun k op) j same = same
same_floor a b (Numbered k number) j same = ap (λ (z : ℕ). if k == j then number else z) same
same_floor a b (Kept file copy) j same = same
same_floor a b (Had file copy) j same = same

same_lacks : (fact : OwnFact) (a b : File → Bool) (f : File) → a f ≡ b f → lacks_behind (Some fact) a f ≡ lacks_behind (Some fact) b f
same_lacks (Begun k op) a b f same = same
same_lacks (Numbered k number) a b f same = same
same_lacks (Kept file copy) a b f same = same
same_lacks (Had file copy) a b f same = ap (λ z. z && not (is_file file f)) same

step_rests : (site : Site) (rest local : Local) (doing : Doing) (fact : Option OwnFact) → IsAtRest site rest local → doing.local.volumes ≡ local.volumes → KeepsBy site local fact (part_in doing.local) →
    IsAtRest site (recall_all site rest (option_to_list fact)) doing.local
step_rests site rest local doing None is volumes keeps = record {
  volumes = is.volumes ∙ sym volumes;
  copies = λ file. is.copies file ∙ sym (ap (λ (z : KeptFiles). z.kept.copy file) keeps);
  lacks = λ file there. is.lacks file (sym (ap (λ (v : List VolumeRow). is_some (limit_at (state_of everyone (record local { volumes = v })) file.volume file.place)) volumes) ∙ there) ∙ sym (ap (λ (z : KeptFiles). z.lacks file) keeps);
  reserved = λ k inside. is.reserved k inside
      ∙ same_reserved (local.residents k).reserved (doing.local.residents k).reserved (sym (ap (λ (z : KeptFiles). z.kept.op k) keeps)) (sym (ap (λ (z : KeptFiles). z.kept.floor k) keeps));
  behind = is.behind;
  idle = is.idle;
}
step_rests site rest local doing (Some fact) is volumes keeps =
    let now : files_of_part (part_in (recall_one site rest fact)) ≡ with_fleet_fact (files_of_part (part_in rest)) (Some fact) = recall_keeps site rest fact (fact_in site rest local fact is keeps.1) in
    let a : KeptPart = kept_of (part_in rest) in
    let b : KeptPart = kept_of (part_in local) in
    record {
      volumes = all_recalled_volumes site rest (fact ∷ []) ∙ is.volumes ∙ sym volumes;
      copies = λ file. ap (λ (z : KeptFiles). z.kept.copy file) now ∙ same_copy a b fact file (is.copies file) ∙ sym (ap (λ (z : KeptFiles). z.kept.copy file) keeps.0);
      lacks = λ file there.
          ap (λ (z : KeptFiles). z.lacks file) now
          ∙ same_lacks fact rest.lacks local.lacks file (is.lacks file (sym (ap (λ (v : List VolumeRow). is_some (limit_at (state_of everyone (record local { volumes = v })) file.volume file.place)) volumes) ∙ there))
          ∙ sym (ap (λ (z : KeptFiles). z.lacks file) keeps.0);
      reserved = λ k inside.
          let op = ap (λ (z : KeptFiles). z.kept.op k) now ∙ same_op a b fact k (ap (λ (r : Reserved). r.op) (is.reserved k inside)) ∙ sym (ap (λ (z : KeptFiles). z.kept.op k) keeps.0) in
          let floor = ap (λ (z : KeptFiles). z.kept.floor k) now ∙ same_floor a b fact k (ap (λ (r : Reserved). r.floor) (is.reserved k inside)) ∙ sym (ap (λ (z : KeptFiles). z.kept.floor k) keeps.0) in
          same_reserved ((recall_one site rest fact).residents k).reserved (doing.local.residents k).reserved op floor;
      behind = one_behind site rest fact is.behind;
      idle = all_idle site rest (fact ∷ []) is.idle;
    }

pub all_rest : (site : Site) (rest local : Local) (inputs : List Input) → IsBare local → IsAtRest site rest local → IsAtRest site (recall_all site rest (own_facts site local inputs)) (after_all site local inputs)
all_rest site rest local [] bare is = is
all_rest site rest local (input ∷ inputs) bare is =
    let doing : Doing = does input site local in
    let keeps : Keeps site local doing = does_keep input site local bare in
    let one : IsAtRest site (recall_all site rest (option_to_list doing.fact)) doing.local = step_rests site rest local doing doing.fact is (does_volumes input site local) keeps in
    let more : IsAtRest site (recall_all site (recall_all site rest (option_to_list doing.fact)) (own_facts site doing.local inputs)) (after_all site doing.local inputs) =
    all_rest site (recall_all site rest (option_to_list doing.fact)) doing.local inputs (stays_bare site local doing keeps bare) one in
    subst (λ z. IsAtRest site z (after_all site doing.local inputs)) (sym (recall_more site rest (option_to_list doing.fact) (own_facts site doing.local inputs))) more
