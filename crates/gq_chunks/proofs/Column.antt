-- What a node's lines say of contents.
use Rattle.std.proofs.Common.{◌≡◌, ◌∙◌, ℕ, List, [], ◌∷◌, Bool, true, false, Option, Some, None, refl, sym, ap, subst}
use Rattle.std.specs.Prelude.{◌%◌, ◌*◌, ◌==◌, ◌&&◌, not, nat_le, nat_lt, codes, decimal, slice_get, MatchBool, if◌then◌else◌}
use Rattle.std.proofs.lemmas.Bool.{and_parts, true≢false}
use Rattle.gq_desk.specs.CheckedPlan.{CheckedPlan}
use Rattle.gq_lines.specs.Words.{Word, number_of}
use Rattle.gq_text.specs.Input.{place_named}
use Rattle.gq_wire.specs.Incoming.{is_to, is_tick}
use Rattle.gq_node.specs.Sites.{plan_in}
use Rattle.gq_replace.specs.Plans.{place_of, node_at}
use Rattle.gq_stock.specs.Deeds.{is_kept}
use Rattle.gq_stock.specs.declared.finding.Found.TheVariants as Finds
use Rattle.gq_stock.specs.declared.keeping.Keeping.{Keeping}
use Rattle.gq_stock.specs.declared.keeping.Keeping.TheVariants.{New, Same, Differs, Damaged, Below, Full, NoSpace}
use Rattle.gq_depot.specs.declared.answer.ChunkAnswer.{ChunkAnswer}
use Rattle.gq_depot.specs.declared.answer.ChunkAnswer.TheVariants as Told
use Rattle.gq_depot.specs.declared.depot.Depot.{Depot}
use Rattle.gq_depot.specs.declared.request.ChunkRequest.{ChunkRequest}
use Rattle.gq_chunks.specs.Answers.{kept_words}
use Rattle.gq_chunks.specs.Requests.{chunk_request_by}
use Rattle.gq_chunks.specs.Coming.{Coming, Asked, Said, Ticked, Nothing, asked_by, from_node, from_peer, said_by, said_if, from_whom, coming_of_words}
use Rattle.gq_chunks.specs.Machines.{Chunks, may_answer, lacks_none, is_new, lacks_at_first}
use Rattle.gq_chunks.specs.PeerLines.{Saying, Gives, Misses, saying_by, saying_of_answer}
use Rattle.gq_chunks.specs.Peers.{is_peer}
use Rattle.gq_chunks.specs.Columns.{FindsNothing, FindsBytes, says_kept, WholeAt, StandsBeside, SaysAsColumn}

misses_none : (answer : ChunkAnswer) (s n : ℕ) → saying_of_answer answer ≡ Some (Misses s n) → FindsNothing answer
misses_none Told.Bad s n is = absurd (let e = is in cc)
misses_none (Told.NoSession a b) s n is = absurd (let e = is in cc)
misses_none (Told.TooLong a b c) s n is = absurd (let e = is in cc)
misses_none (Told.Kept a b c d e f) s n is = absurd (let g = is in cc)
misses_none (Told.Found a b c d (Finds.There bytes) f) s n is = absurd (let e = is in cc)
misses_none (Told.Found a b c d Finds.Damaged f) s n is = absurd (let e = is in cc)
misses_none (Told.Found a b c d Finds.Nothing f) s n is = tt
misses_none (Told.Forgot a b c) s n is = absurd (let e = is in cc)
misses_none (Told.Lacking a b) s n is = absurd (let e = is in cc)
misses_none (Told.Listed a b c d f) s n is = absurd (let e = is in cc)
misses_none (Told.Room a b c d) s n is = absurd (let e = is in cc)

gives_its : (answer : ChunkAnswer) (s n : ℕ) (bytes : List ℕ) → saying_of_answer answer ≡ Some (Gives s n bytes) → FindsBytes bytes answer
gives_its Told.Bad s n bytes is = absurd (let e = is in cc)
gives_its (Told.NoSession a b) s n bytes is = absurd (let e = is in cc)
gives_its (Told.TooLong a b c) s n bytes is = absurd (let e = is in cc)
gives_its (Told.Kept a b c d e f) s n bytes is = absurd (let g = is in cc)
gives_its (Told.Found a b c d (Finds.There found) f) s n bytes is = (let e = is in cc)
gives_its (Told.Found a b c d Finds.Damaged f) s n bytes is = absurd (let e = is in cc)
gives_its (Told.Found a b c d Finds.Nothing f) s n bytes is = absurd (let e = is in cc)
gives_its (Told.Forgot a b c) s n bytes is = absurd (let e = is in cc)
gives_its (Told.Lacking a b) s n bytes is = absurd (let e = is in cc)
gives_its (Told.Listed a b c d f) s n bytes is = absurd (let e = is in cc)
gives_its (Told.Room a b c d) s n bytes is = absurd (let e = is in cc)

not_lacking : (b : Bool) → not b ≡ true → b ≡ false
not_lacking true is = absurd (true≢false (sym is))
not_lacking false is = refl

whole : (depot : Option Depot) → lacks_none depot ≡ true → WholeAt depot
whole None is = absurd (true≢false (sym is))
whole (Some depot) is = not_lacking depot.lacks is

kept_alone : (s n p floor free : ℕ) (told : Keeping) → MatchBool (is_kept told) (kept_words s n p floor free told ≡ codes "kept" ∷ decimal s ∷ decimal n ∷ decimal p ∷ []) (says_kept (kept_words s n p floor free told) ≡ false)
kept_alone s n p floor free New = refl
kept_alone s n p floor free Same = refl
kept_alone s n p floor free Differs = refl
kept_alone s n p floor free Damaged = refl
kept_alone s n p floor free Below = refl
kept_alone s n p floor free Full = refl
kept_alone s n p floor free NoSpace = refl

beside : (plan : CheckedPlan) (node : ℕ) (lost : List ℕ) (other : ℕ) → is_peer plan node lost other ≡ true → StandsBeside plan node lost other
beside plan node lost other is =
    let a = and_parts (nat_lt (place_of other) (plan.grid.rows * plan.grid.cols)) _ is in
    let b = and_parts (not (place_of other == place_of node)) _ a.1 in
    let c = and_parts (place_of other % plan.grid.cols == place_of node % plan.grid.cols) _ b.1 in
    record { within = a.0; other_place = not_lacking (place_of other == place_of node) b.0; column = c.0; stands = c.1 }

asked_own : (tenants t : ℕ) (named : Option ℕ) (body : List Word) (request : Option ChunkRequest) → asked_by tenants named body ≡ Asked t request → named ≡ Some t
asked_own tenants t None body request is = absurd (let e : Nothing ≡ Asked t request = is in cc)
asked_own tenants t (Some u) body request is = by (nat_lt u tenants) refl
  where
    by : (b : Bool) → nat_lt u tenants ≡ b → Some u ≡ Some t
    by true e = (let f : Asked u (chunk_request_by body) ≡ Asked t request = sym (rw e refl) ∙ is in cc)
    by false e = absurd (let f : Nothing ≡ Asked t request = sym (rw e refl) ∙ is in cc)

not_peer : (plan : CheckedPlan) (tenants from t : ℕ) (words : List Word) (request : Option ChunkRequest) → from_peer plan tenants from words ≡ Asked t request → ⊥
not_peer plan tenants from t [] request is = (let e : Nothing ≡ Asked t request = is in cc)
not_peer plan tenants from t (name ∷ words) request is = by (place_named plan name) refl
  where
    by : (o : Option ℕ) → place_named plan name ≡ o → ⊥
    by None e = (let f : Nothing ≡ Asked t request = sym (rw e refl) ∙ is in cc)
    by (Some u) e = within (nat_lt u tenants) refl
      where
        within : (b : Bool) → nat_lt u tenants ≡ b → ⊥
        within false d = (let f : Nothing ≡ Asked t request = sym (rw (e, d) refl) ∙ is in cc)
        within true d = said (saying_by words) refl
          where
            said : (o : Option Saying) → saying_by words ≡ o → ⊥
            said None c = (let f : Nothing ≡ Asked t request = sym (rw (e, d, c) refl) ∙ is in cc)
            said (Some saying) c = (let f : Said u from saying ≡ Asked t request = sym (rw (e, d, c) refl) ∙ is in cc)

not_node : (plan : CheckedPlan) (node : ℕ) (lost : List ℕ) (tenants from t : ℕ) (body : List Word) (request : Option ChunkRequest) → from_node plan node lost tenants from body ≡ Asked t request → ⊥
not_node plan node lost tenants from t body request is = by (from == node && is_tick body) refl
  where
    by : (b : Bool) → (from == node && is_tick body) ≡ b → ⊥
    by true e = (let f : Ticked ≡ Asked t request = sym (rw e refl) ∙ is in cc)
    by false e = peer (is_peer plan node lost from) refl
      where
        peer : (b : Bool) → is_peer plan node lost from ≡ b → ⊥
        peer true d = not_peer plan tenants from t body request (sym (rw (e, d) refl) ∙ is)
        peer false d = (let f : Nothing ≡ Asked t request = sym (rw (e, d) refl) ∙ is in cc)

own_line : (plan : CheckedPlan) (node : ℕ) (lost : List ℕ) (tenants t : ℕ) (to from : Word) (body : List Word) (request : Option ChunkRequest) → coming_of_words plan node lost tenants (to ∷ from ∷ body) ≡ Asked t request → place_named plan from ≡ Some t
own_line plan node lost tenants t to from body request is = by (is_to node (number_of to)) refl
  where
    by : (b : Bool) → is_to node (number_of to) ≡ b → place_named plan from ≡ Some t
    by false e = absurd (let f : Nothing ≡ Asked t request = sym (rw e refl) ∙ is in cc)
    by true e = whom (number_of from) refl
      where
        whom : (o : Option ℕ) → number_of from ≡ o → place_named plan from ≡ Some t
        whom None d = asked_own tenants t (place_named plan from) body request (sym (rw (e, d) refl) ∙ is)
        whom (Some k) d = absurd (not_node plan node lost tenants k t body request (sym (rw (e, d) refl) ∙ is))

pub says_as_column : SaysAsColumn
says_as_column = record {
  misses = misses_none;
  gives = gives_its;
  answers = λ m t losses is. let parts = and_parts (lacks_none (slice_get m.depots t)) (nat_le losses m.losses) is in (whole (slice_get m.depots t) parts.0, parts.1);
  peers = beside;
  kept = kept_alone;
  lacks = λ node first allowed new had has. rw (new, had, has) refl;
  own = own_line;
}
