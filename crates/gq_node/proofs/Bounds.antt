-- Shaped tables hold no more than the plan has room for.
use Rattle.std.proofs.Common.{◌≡◌, ◌∙◌, ℕ, suc, ◌+◌, ◌*◌, ◌<◌, ◌≤◌, [], ◌∷◌, length, sym, ap, subst, inl, inr, arith}
use Rattle.std.specs.Prelude.{is_some, nat_lt}
use Rattle.std.specs.List.{sum_by}
use Rattle.std.proofs.lemmas.Bool.{cases_Bool, ltb-true, ltb-false}
use Rattle.std.proofs.lemmas.List.{length-map, get_or_past}
use Rattle.std.proofs.lemmas.List.Sums.{count_by-le-length, sum_by-cons}
use Rattle.gq_desk.specs.declared.volumes.VolumeRow.{VolumeRow}
use Rattle.gq_store.specs.Copies.{copies_account, volume_size, tenant_in}
use Rattle.gq_store.proofs.Sums.{sum_by-map}
use Rattle.gq_tag.specs.declared.TheConstants.{MOST_FILES}
use Rattle.gq_node.specs.declared.session_states.SessionState.{SessionState}
use Rattle.gq_node.specs.Bounds.{operations_held, outcomes_held, IsBounded}
use Rattle.gq_node.specs.Lacks.{Given, HasRoom}
use Rattle.gq_node.specs.Shape.{IsShaped}
use Rattle.gq_node.specs.Tables.{Tables, given_at, session_states_at}
use Rattle.gq_node.proofs.Needing.{volumes_are}

-- each volume has no more marks
marks_are : (given : Given) → HasRoom given → sum_by length given ≤ length given * MOST_FILES
marks_are [] room = omega arith
marks_are (volume ∷ given) room =
    let first : length volume ≤ MOST_FILES = room 0 (omega arith) in
    let rest : sum_by length given ≤ length given * MOST_FILES = marks_are given (λ v below. room (suc v) (omega (arith, below))) in
    let all : sum_by length (volume ∷ given) ≡ length volume + sum_by length given = sum_by-cons length volume given in
    omega (arith, first, rest, all)

-- of no tenant there are more than a volume may have files
abbrev pub AllHaveRoom : Tables → Type 0
AllHaveRoom w = (t : ℕ) → t < length w.given → HasRoom (given_at w t)

room_at : (w : Tables) → AllHaveRoom w → (t : ℕ) → HasRoom (given_at w t)
room_at w room t = elim (cases_Bool (nat_lt t (length w.given))) [
  | inl below ↦ (room t (ltb-true t (length w.given) below))
  | inr past ↦ (
      let none : given_at w t ≡ [] = get_or_past w.given t [] (ltb-false t (length w.given) past) in
      λ v below. absurd (nobody v (subst (λ (given : Given). v < length given) none below)))
]
  where
    nobody : (v : ℕ) → v < 0 → ⊥
    nobody v below = omega (arith, below)

pub shaped_bounded : (w : Tables) → IsShaped w → AllHaveRoom w → IsBounded w
shaped_bounded w shaped room = record {
  copied = sym (length-map w.store.tenants copies_account) ∙ ap length shaped.accounts ∙ shaped.desk;
  seated = shaped.tenants;
  marked = shaped.given;
  asked = shaped.peers;
  volumes = shaped.volumes;
  copies = λ t. sym (ap (sum_by (λ (v : VolumeRow). v.files)) (volumes_are w t shaped) ∙ sum_by-map (λ (v : VolumeRow). v.files) volume_size (tenant_in w.store.tenants t).volumes);
  operations = λ t within. subst (λ n. operations_held w t ≤ n) (shaped.session_states t within) (count_by-le-length (λ (session_state : SessionState). is_some session_state.operation) (session_states_at w.session_states t));
  outcomes = λ t within. subst (λ n. outcomes_held w t ≤ n) (shaped.session_states t within) (count_by-le-length (λ (session_state : SessionState). is_some session_state.outcome) (session_states_at w.session_states t));
  lost = shaped.few_given;
  marks = λ t. marks_are (given_at w t) (room_at w room t);
}
