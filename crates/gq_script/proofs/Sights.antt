-- What a tenant sees of a line, in the plan of all and in its run by itself.
use Rattle.std.proofs.Common.{◌≡◌, ◌≢◌, ◌∙◌, ℕ, suc, ◌+◌, List, [], ◌∷◌, take, Option, Some, None, Bool, true, false, cond, refl, sym, ap, subst, arith, ◌⊎◌, inl, inr}
use Rattle.std.specs.Prelude.{◌==◌, ◌||◌, not, codes}
use Rattle.std.specs.List.{onto_first, prefix_len, cons_option}
use Rattle.std.specs.Str.{bytes_eq}
use Rattle.std.proofs.lemmas.Bool.{or_parts, ne_eqb}
use Rattle.std.proofs.lemmas.Slice.Eq.{bytes_eq-Decides}
use Rattle.gq_desk.specs.CheckedPlan.{CheckedPlan}
use Rattle.gq_desk.specs.declared.plans.TenantRow.{TenantRow}
use Rattle.gq_model.specs.declared.events.Event.{Event}
use Rattle.gq_model.specs.declared.events.Event.TheVariants.{Tenant, Server}
use Rattle.gq_model.specs.declared.events.Line.{Line}
use Rattle.gq_model.specs.declared.events.ServerLine.{ServerLine}
use Rattle.gq_model.specs.Trace.{Turn, Own, Serving}
use Rattle.gq_model.specs.Events.{turn_of}
use Rattle.gq_lines.specs.Words.{Word, words_of}
use Rattle.gq_text.specs.Input.{line_of, server_line_of, place_named, tenant_event, event_of_words, event_of}
use Rattle.gq_script.specs.Alone.{first_word_of, is_own, is_serving, seen_lines, turn_from, turns_of}
use Rattle.gq_text.proofs.PlanNames.{HasPlace}

-- the first of a line's words stands before its first space
pub first_of_words : (line : List ℕ) → (words : List Word) × (words_of line ≡ first_word_of line ∷ words)
first_of_words [] = ([], refl)
first_of_words (c ∷ line) = by (c == 32) (first_of_words line)
  where
    here : ℕ
    here = prefix_len (λ x. not (x == 32)) line

    by : (b : Bool) → (words : List Word) × (words_of line ≡ first_word_of line ∷ words) → (words : List Word) × (cond b ([] ∷ words_of line) (onto_first c (words_of line)) ≡ take (cond (not b) (1 + here) 0) (c ∷ line) ∷ words)
    by true rest = (words_of line, refl)
    by false rest =
        let more : 1 + here ≡ suc here = omega arith in
        (rest.0, rw (rest.1, more) refl)

-- what the tenant at place t sees of an event is its turn, which is its own or not
abbrev pub Sight : ℕ → Event → Bool → Option Turn → Type 0
Sight t event own turn =
    ((line : Line) × (event ≡ Tenant t line) × (own ≡ true) × (turn ≡ Some (Own line)))
    ⊎ (((line : ServerLine) × (event ≡ Server line) × (own ≡ false) × (turn ≡ Some (Serving line)))
    ⊎ ((turn_of t event ≡ None) × (own ≡ false) × (turn ≡ None)))

not_own : (b : Bool) → (b ≡ true → ⊥) → b ≡ false
not_own true never = absurd (never refl)
not_own false never = refl

unseen : (t : ℕ) (place : Option ℕ) (words : List Word) → ((u : ℕ) → place ≡ Some u → u ≢ t) → turn_of t (tenant_event place words) ≡ None
unseen t None words other = refl
unseen t (Some u) words other = rw (ne_eqb u t (other u refl)) refl

sight_of_words : (plan : CheckedPlan) (t : ℕ) (row : TenantRow) (first : Word) (words : List Word) → HasPlace plan t row → Sight t (event_of_words plan (first ∷ words)) (bytes_eq first row.name) (turn_from row.name (first ∷ words))
unfolding event_of_words
sight_of_words plan t row first words has = by_server (bytes_eq first (codes "server")) refl
  where
    Goal : Bool → Bool → Type 0
    Goal server own = Sight t (cond server (Server (server_line_of words)) (tenant_event (place_named plan first) words)) own (cond server (Some (Serving (server_line_of words))) (cond own (Some (Own (line_of words))) None))

    by_own : (own : Bool) → bytes_eq first row.name ≡ own → Goal false own
    by_own true is =
        let same : first ≡ row.name = (bytes_eq-Decides first row.name).0 is in
        let place : place_named plan first ≡ Some t = ap (place_named plan) same ∙ has.found in
        inl (line_of words, ap (λ o. tenant_event o words) place, refl, refl)
    by_own false is =
        let other : (u : ℕ) → place_named plan first ≡ Some u → u ≢ t = λ u place same.
        let mine : first ≡ row.name = has.alone first (place ∙ ap Some same) in
        let holds : bytes_eq first row.name ≡ true = (bytes_eq-Decides first row.name).1 mine in
        cc in
        inr (inr (unseen t (place_named plan first) words other, refl, refl))

    by_server : (server : Bool) → bytes_eq first (codes "server") ≡ server → Goal server (bytes_eq first row.name)
    by_server true is =
        let same : first ≡ codes "server" = (bytes_eq-Decides first (codes "server")).0 is in
        let other : bytes_eq first row.name ≡ false = not_own (bytes_eq first row.name) (λ holds.
        let name : first ≡ row.name = (bytes_eq-Decides first row.name).0 holds in
        let server : bytes_eq row.name (codes "server") ≡ true = (bytes_eq-Decides row.name (codes "server")).1 (sym name ∙ same) in
        let not_server : bytes_eq row.name (codes "server") ≡ false = has.not_server in
        cc) in
        inr (inl (server_line_of words, refl, other, refl))
    by_server false is = by_own (bytes_eq first row.name) refl

-- what the tenant sees of a line
pub sight : (plan : CheckedPlan) (t : ℕ) (row : TenantRow) (line : List ℕ) → HasPlace plan t row → Sight t (event_of plan line) (is_own row.name line) (turn_from row.name (words_of line))
sight plan t row line has =
    let first = first_of_words line in
    let P : List Word → Type 0 = λ words. Sight t (event_of_words plan words) (is_own row.name line) (turn_from row.name words) in
    subst P (sym first.1) (sight_of_words plan t row (first_word_of line) first.0 has)

-- lines that the tenant doesn't see are no turns of it
no_turn : (name first : Word) (words : List Word) → bytes_eq first name ≡ false → bytes_eq first (codes "server") ≡ false → turn_from name (first ∷ words) ≡ None
no_turn name first words own server = rw (server, own) refl

pub turns_of-seen_lines : (name : Word) (lines : List (List ℕ)) → turns_of name (seen_lines name lines) ≡ turns_of name lines
turns_of-seen_lines name [] = refl
turns_of-seen_lines name (line ∷ lines) = by (is_own name line || is_serving line) refl (turns_of-seen_lines name lines)
  where
    by : (b : Bool) → (is_own name line || is_serving line) ≡ b → turns_of name (seen_lines name lines) ≡ turns_of name lines → turns_of name (cond b (line ∷ seen_lines name lines) (seen_lines name lines)) ≡ cons_option (turn_from name (words_of line)) (turns_of name lines)
    by true is later = ap (cons_option (turn_from name (words_of line))) later
    by false is later =
        let parts = or_parts (is_own name line) (is_serving line) is in
        let first = first_of_words line in
        let none : turn_from name (words_of line) ≡ None = rw first.1 (no_turn name (first_word_of line) first.0 parts.0 parts.1) in
        rw none later
