-- A start reads a fact.
use Rattle.std.proofs.Common.{◌≡◌, ◌≢◌, ◌∙◌, ℕ, ◌<◌, Bool, true, false, List, [], ◌∷◌, ◌++◌, length, Some, refl, sym, ap, subst, inl, inr}
use Rattle.std.specs.Prelude.{◌==◌, ◌&&◌, not, if◌then◌else◌}
use Rattle.std.proofs.lemmas.Bool.{cases_Bool}
use Rattle.gq_tag.specs.declared.StoredCopy.{StoredCopy}
use Rattle.gq_tag.specs.declared.FileId.{FileId}
use Rattle.gq_tag.specs.declared.Body.TheVariants.{Store}
use Rattle.gq_tag.specs.Tag.{File, is_file, file_of, file_place, greatest, first_copy, newer_of}
use Rattle.gq_desk.specs.Volumes.{limit_of}
use Rattle.gq_store.specs.Copies.{StoreCopies, copy_at}
use Rattle.gq_model.specs.Trace.{limit_at}
use Rattle.gq_laws.proofs.Holding.{greatest-push}
use Rattle.gq_laws.proofs.OperationMoments.{same_file}
use Rattle.gq_node.specs.Sites.{Site, site_of, has_session}
use Rattle.gq_cluster.specs.Cluster.{everyone}
use Rattle.gq_cluster.specs.Facts.{OwnFact, Begun, Numbered, Kept, Had, Reserved, reserved_by}
use Rattle.gq_node.specs.Local.{Local, Doing, with_resident, with_copy, rested, recalls, recalled, silently, fits_local, file_fits, state_of}
use Rattle.gq_node.specs.Resting.{GoesBehind, recall_one, recall_all}
use Rattle.gq_node.specs.SessionStates.{recalled_session_state}
use Rattle.gq_node.specs.Shape.{IsShaped}
use Rattle.gq_node.specs.Tables.{Tables, Agrees, Leads, session_state_at, with_session_state, lacks_at}
use Rattle.gq_node.proofs.Placing.{placed, session_state_of, session_state_leads, session_state_there, same_leads}
use Rattle.gq_node.proofs.Serving.{with_store, other_file, limit_is}

-- ---- a session

pub recalls_fits : (fact : OwnFact) (site : Site) (local : Local) → fits_local fact site local ≡ true → recalls fact site local ≡ silently (recalled fact local)
recalls_fits fact site local is = rw is refl

pub recalls_not : (fact : OwnFact) (site : Site) (local : Local) → fits_local fact site local ≡ false → recalls fact site local ≡ silently local
recalls_not fact site local is = rw is refl

passed_leads : (w : Tables) (t : ℕ) (fact : OwnFact) → ((local : Local) → Agrees w t local → fits_local fact (site_of w.plan w.here t) local ≡ false) → Leads w t (recalls fact) w
passed_leads w t fact not = same_leads w t (recalls fact) (λ local agrees. ap (λ (d : Doing). d.local) (recalls_not fact (site_of w.plan w.here t) local (not local agrees)))

pub no_begun_leads : (w : Tables) (t k op : ℕ) → has_session (site_of w.plan w.here t) k ≡ false → Leads w t (recalls (Begun k op)) w
no_begun_leads w t k op not = passed_leads w t (Begun k op) (λ local agrees. not)

pub no_number_leads : (w : Tables) (t k number : ℕ) → has_session (site_of w.plan w.here t) k ≡ false → Leads w t (recalls (Numbered k number)) w
no_number_leads w t k number not = passed_leads w t (Numbered k number) (λ local agrees. not)

pub begun_leads : (w : Tables) (t k op : ℕ) → IsShaped w → t < length w.plan.rows → has_session (site_of w.plan w.here t) k ≡ true → Leads w t (recalls (Begun k op)) (with_session_state w t k (recalled_session_state (session_state_at w t k) op (session_state_at w t k).reserved_floor))
begun_leads w t k op shaped within inside =
    let at = placed w t k inside in
    session_state_leads w t k (recalled_session_state (session_state_at w t k) op (session_state_at w t k).reserved_floor) (recalls (Begun k op)) (session_state_there w t k shaped within at) (λ local agrees. record {
      resident = rested (local.residents k) (reserved_by (Some (Begun k op)) (local.residents k).reserved);
      agrees = record { op = refl; reserved_op = refl; reserved_floor = (session_state_of w t k local agrees at).reserved_floor; sits = (session_state_of w t k local agrees at).reserved_floor; outcome = refl; row = (session_state_of w t k local agrees at).row; column = (session_state_of w t k local agrees at).column; waited = refl; stays = refl };
      left = ap (λ (d : Doing). d.local) (recalls_fits (Begun k op) (site_of w.plan w.here t) local inside);
    })

pub number_leads : (w : Tables) (t k number : ℕ) → IsShaped w → t < length w.plan.rows → has_session (site_of w.plan w.here t) k ≡ true → Leads w t (recalls (Numbered k number)) (with_session_state w t k (recalled_session_state (session_state_at w t k) (session_state_at w t k).reserved_op number))
number_leads w t k number shaped within inside =
    let at = placed w t k inside in
    session_state_leads w t k (recalled_session_state (session_state_at w t k) (session_state_at w t k).reserved_op number) (recalls (Numbered k number)) (session_state_there w t k shaped within at) (λ local agrees. record {
      resident = rested (local.residents k) (reserved_by (Some (Numbered k number)) (local.residents k).reserved);
      agrees = record { op = (session_state_of w t k local agrees at).reserved_op; reserved_op = (session_state_of w t k local agrees at).reserved_op; reserved_floor = refl; sits = refl; outcome = refl; row = (session_state_of w t k local agrees at).row; column = (session_state_of w t k local agrees at).column; waited = refl; stays = refl };
      left = ap (λ (d : Doing). d.local) (recalls_fits (Numbered k number) (site_of w.plan w.here t) local inside);
    })

-- ---- each session goes on behind what is reserved for it

rested_behind : (local : Local) (k : ℕ) (reserved : Reserved) (j : ℕ) → GoesBehind (local.residents j) → GoesBehind ((with_resident local k (rested (local.residents k) reserved)).residents j)
rested_behind local k reserved j is = elim (cases_Bool (k == j)) [
  | inl same ↦ (rw same (record { op = refl; floor = refl }))
  | inr other ↦ (rw other is)
]

recalled_behind : (fact : OwnFact) (local : Local) (j : ℕ) → GoesBehind (local.residents j) → GoesBehind ((recalled fact local).residents j)
recalled_behind (Begun k op) local j is = rested_behind local k (reserved_by (Some (Begun k op)) (local.residents k).reserved) j is
recalled_behind (Numbered k number) local j is = rested_behind local k (reserved_by (Some (Numbered k number)) (local.residents k).reserved) j is
recalled_behind (Kept file copy) local j is = is
recalled_behind (Had file copy) local j is = is

pub one_behind : (site : Site) (local : Local) (fact : OwnFact) → ((k : ℕ) → GoesBehind (local.residents k)) → (j : ℕ) → GoesBehind ((recall_one site local fact).residents j)
one_behind site local fact is j = by (fits_local fact site local) refl
  where
    by : (b : Bool) → fits_local fact site local ≡ b → GoesBehind ((recall_one site local fact).residents j)
    by true fits = rw (fits, recall_one) (recalled_behind fact local j (is j))
    by false fits = rw (fits, recall_one) (is j)

pub all_behind : (site : Site) (local : Local) (facts : List OwnFact) → ((k : ℕ) → GoesBehind (local.residents k)) → (k : ℕ) → GoesBehind ((recall_all site local facts).residents k)
all_behind site local [] is k = is k
all_behind site local (fact ∷ facts) is k = all_behind site (recall_one site local fact) facts (one_behind site local fact is) k

-- ---- a copy

-- whether the server takes the copy of a file that it has; or of one that it is given
pub kept_fits : (w : Tables) (file : FileId) (copy : StoredCopy) (local : Local) → Agrees w file.tenant local →
    fits_local (Kept (file_place file) copy) (site_of w.plan w.here file.tenant) local ≡ (not (lacks_at w file.tenant (file_place file)) && file_fits (limit_of w.desk file) (Store copy))
kept_fits w file copy local agrees =
    ap (λ b. not b && file_fits (limit_at (state_of everyone local) file.volume file.file) (Store copy)) (sym (agrees.lacks (file_place file)))
    ∙ ap (λ limit. not (lacks_at w file.tenant (file_place file)) && file_fits limit (Store copy)) (sym (limit_is w file.tenant file local refl agrees))

pub had_fits : (w : Tables) (file : FileId) (copy : StoredCopy) (local : Local) → Agrees w file.tenant local →
    fits_local (Had (file_place file) copy) (site_of w.plan w.here file.tenant) local ≡ file_fits (limit_of w.desk file) (Store copy)
had_fits w file copy local agrees = ap (λ limit. file_fits limit (Store copy)) (sym (limit_is w file.tenant file local refl agrees))

pub no_copy_leads : (w : Tables) (file : FileId) (copy : StoredCopy) → (not (lacks_at w file.tenant (file_place file)) && file_fits (limit_of w.desk file) (Store copy)) ≡ false → Leads w file.tenant (recalls (Kept (file_place file) copy)) w
no_copy_leads w file copy not' = passed_leads w file.tenant (Kept (file_place file) copy) (λ local agrees. kept_fits w file copy local agrees ∙ not')

pub no_given_leads : (w : Tables) (file : FileId) (copy : StoredCopy) → file_fits (limit_of w.desk file) (Store copy) ≡ false → Leads w file.tenant (recalls (Had (file_place file) copy)) w
no_given_leads w file copy not' = passed_leads w file.tenant (Had (file_place file) copy) (λ local agrees. had_fits w file copy local agrees ∙ not')

-- the store has one copy of the file more
pub copies_put : (w : Tables) (file : FileId) (copy : StoredCopy) (store : StoreCopies) (local : Local) → copy_at store file ≡ newer_of (copy_at w.store file) copy → ((other : FileId) → other ≢ file → copy_at store other ≡ copy_at w.store other) → Agrees w file.tenant local →
    (x : File) → copy_at store (file_of file.tenant x) ≡ greatest (first_copy ∷ (with_copy (file_place file) copy local).brought x)
copies_put w file copy store local held others agrees x =
    let t : ℕ = file.tenant in
    let f : File = file_place file in
    let E : Bool → Type 0 = λ b. copy_at store (file_of t x) ≡ greatest (first_copy ∷ (if b then local.brought x ++ copy ∷ [] else local.brought x)) in
    elim (cases_Bool (is_file f x)) [
      | inl same ↦ (
          let D : File → Type 0 = λ y. copy_at store (file_of t y) ≡ greatest (first_copy ∷ (local.brought y ++ copy ∷ [])) in
          let now : D f = held ∙ ap (λ c. newer_of c copy) (agrees.copies f) ∙ sym (greatest-push first_copy copy (local.brought f)) in
          subst E (sym same) (subst D (same_file f x same) now))
      | inr differs ↦ (subst E (sym differs) (others (file_of t x) (other_file t f x differs) ∙ agrees.copies x))
    ]

pub copies_elsewhere : (w : Tables) (file : FileId) (store : StoreCopies) (u : ℕ) (local : Local) → u ≢ file.tenant → ((other : FileId) → other ≢ file → copy_at store other ≡ copy_at w.store other) → Agrees w u local → (x : File) → copy_at store (file_of u x) ≡ greatest (first_copy ∷ local.brought x)
copies_elsewhere w file store u local other others agrees x = others (file_of u x) (λ e. other (ap (λ (y : FileId). y.tenant) e)) ∙ agrees.copies x

pub copy_leads : (w : Tables) (file : FileId) (copy : StoredCopy) (store : StoreCopies) → (not (lacks_at w file.tenant (file_place file)) && file_fits (limit_of w.desk file) (Store copy)) ≡ true → copy_at store file ≡ newer_of (copy_at w.store file) copy →
    ((other : FileId) → other ≢ file → copy_at store other ≡ copy_at w.store other) → Leads w file.tenant (recalls (Kept (file_place file) copy)) (with_store w store)
copy_leads w file copy store fits held others =
    let t : ℕ = file.tenant in
    let f : File = file_place file in
    record {
      plan = refl;
      here = refl;
      own = λ local agrees.
          let model : recalls (Kept f copy) (site_of w.plan w.here t) local ≡ silently (recalled (Kept f copy) local) = recalls_fits (Kept f copy) (site_of w.plan w.here t) local (kept_fits w file copy local agrees ∙ fits) in
          subst (λ (d : Doing). Agrees (with_store w store) t d.local) (sym model) (record {
            account = agrees.account;
            copies = copies_put w file copy store local held others agrees;
            lacks = agrees.lacks;
            joined = agrees.joined;
            peer = agrees.peer;
            session_states = agrees.session_states;
          });
      others = λ u other local agrees. record {
        account = agrees.account;
        copies = copies_elsewhere w file store u local other others agrees;
        lacks = agrees.lacks;
        joined = agrees.joined;
        peer = agrees.peer;
        session_states = agrees.session_states;
      };
    }
