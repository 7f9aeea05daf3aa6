-- Where what one tenant sees stands among all lines.
use Rattle.std.proofs.Common.{◌≡◌, ◌∙◌, ℕ, ◌+◌, Bool, true, false, List, [], ◌∷◌, ◌++◌, Option, map, length, append_assoc, append-nil, refl, sym, ap, arith}
use Rattle.gq_desk.specs.CheckedPlan.{CheckedPlan}
use Rattle.gq_model.specs.declared.events.Event.{Event}
use Rattle.gq_text.specs.Input.{event_of}
use Rattle.gq_lines.specs.Lines.{lines_of}
use Rattle.gq_script.specs.Seeing.{is_seen, seen_places}

-- the places so far, with those of the lines that are left, are all; and so many lines were looked at
pub record Counts (plan : CheckedPlan) (t : Option ℕ) (place : ℕ) (places : List ℕ) (left all : List (List ℕ)) : Type 0 where
  pub placed : places ++ seen_places t place (map (event_of plan) left) ≡ seen_places t 0 (map (event_of plan) all)
  pub counted : place + length left ≡ length all

-- before the first line
pub counts_first : (plan : CheckedPlan) (t : Option ℕ) (all : List (List ℕ)) → Counts plan t 0 [] all all
counts_first plan t all = record { placed = refl; counted = omega arith }

-- one line more
pub counts_more : (plan : CheckedPlan) (t : Option ℕ) (place : ℕ) (places places' line : List ℕ) (left rest all : List (List ℕ)) (e : Event) → Counts plan t place places left all → left ≡ line ∷ rest → e ≡ event_of plan line
    → places' ≡ places ++ seen_places t place (e ∷ []) → Counts plan t (place + 1) places' rest all
counts_more plan t place places places' line left rest all e c is reads grown = record {
  placed = by (is_seen t (event_of plan line)) refl;
  counted = omega (arith, ap length is, c.counted);
}
  where
    later : List ℕ
    later = seen_places t (place + 1) (map (event_of plan) rest)

    before : places ++ seen_places t place (event_of plan line ∷ map (event_of plan) rest) ≡ seen_places t 0 (map (event_of plan) all)
    before = rw is at c.placed

    now : places' ≡ places ++ seen_places t place (event_of plan line ∷ [])
    now = grown ∙ ap (λ z. places ++ seen_places t place (z ∷ [])) reads

    by : (b : Bool) → is_seen t (event_of plan line) ≡ b → places' ++ later ≡ seen_places t 0 (map (event_of plan) all)
    by true sees =
        let grew : places' ≡ places ++ place ∷ [] = rw sees at now in
        let whole : places ++ place ∷ later ≡ seen_places t 0 (map (event_of plan) all) = rw sees at before in
        ap (λ z. z ++ later) grew ∙ (append_assoc places (place ∷ []) later ∙ whole)
    by false not =
        let grew : places' ≡ places ++ [] = rw not at now in
        let whole : places ++ later ≡ seen_places t 0 (map (event_of plan) all) = rw not at before in
        ap (λ z. z ++ later) (grew ∙ append-nil places) ∙ whole

-- no line is left
pub counts_all : (plan : CheckedPlan) (t : Option ℕ) (place : ℕ) (places rest : List ℕ) (all : List (List ℕ)) → Counts plan t place places (lines_of rest) all → length rest ≡ 0 → (places ≡ seen_places t 0 (map (event_of plan) all)) × (place ≡ length all)
counts_all plan t place places [] all c none = (sym (append-nil places) ∙ c.placed, omega (arith, c.counted))
counts_all plan t place places (x ∷ rest) all c none = absurd (omega arith)
