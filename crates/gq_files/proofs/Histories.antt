-- The text of a history, step by step.
use Rattle.std.proofs.Common.{◌≡◌, ◌∙◌, ℕ, ◌+◌, ◌<◌, List, [], ◌∷◌, ◌++◌, Some, append_assoc, map, length, length-drop, take, drop, get_or, set, sym, ap, subst, arith}
use Rattle.std.proofs.lemmas.List.{drop_more, drop-set-lt, map-append, take_more, take_more_set}
use Rattle.gq_tag.specs.Tag.{File}
use Rattle.gq_desk.specs.CheckedPlan.{CheckedPlan}
use Rattle.gq_model.specs.declared.events.Event.{Event}
use Rattle.gq_laws.specs.declared.ops.Op.{Op}
use Rattle.gq_laws.specs.Tenants.{tenant_operations}
use Rattle.gq_text.specs.Input.{event_of}
use Rattle.gq_script.specs.Seeing.{seen_events, seen_places}
use Rattle.gq_files.specs.Histories.{IsHistoryOf, TellsHistory, line_behind, placed}
use Rattle.gq_script.specs.Linearizable.{operations_of}
use Rattle.gq_files.proofs.Placing.{operations_placed}

-- the pieces of a line, one after another
pub pieces_joined : (out a b c d e f g h i j k l m : List ℕ) → out ++ a ++ b ++ c ++ d ++ e ++ f ++ g ++ h ++ i ++ j ++ k ++ l ++ m ≡ out ++ (a ++ b ++ c ++ d ++ e ++ f ++ g ++ h ++ i ++ j ++ k ++ l ++ m)
pieces_joined out a b c d e f g h i j k l m = simp append_assoc

-- one operation more that is at its places
pub placed_more : (f : Op → Op) (first ops new : List Op) (i : ℕ) (a b : Op) → i < length ops → a ≡ get_or ops i a → b ≡ f a → new ≡ set ops i b → take i ops ≡ map f (take i first) → drop i ops ≡ drop i first
    → (take (i + 1) new ≡ map f (take (i + 1) first)) × (drop (i + 1) new ≡ drop (i + 1) first)
placed_more f first ops new i a b low is becomes written done left =
    let below : i < length first = omega (arith, length-drop i ops, length-drop i first, ap length left) in
    let both : get_or ops i a ∷ drop (i + 1) ops ≡ get_or first i a ∷ drop (i + 1) first = sym (drop_more ops i a low) ∙ (left ∙ drop_more first i a below) in
    let here : get_or ops i a ≡ get_or first i a = cc in
    let rest : drop (i + 1) ops ≡ drop (i + 1) first = cc in (
      ap (take (i + 1)) written
          ∙ (take_more_set ops i b low
          ∙ (ap (λ z. z ++ b ∷ []) done
          ∙ (ap (λ z. map f (take i first) ++ z ∷ []) (becomes ∙ ap f (is ∙ here))
          ∙ (sym (map-append f (take i first) (get_or first i a ∷ []))
          ∙ ap (map f) (sym (take_more first i a below)))))),
      ap (drop (i + 1)) written ∙ (drop-set-lt (i + 1) ops i b (omega arith) ∙ rest),
    )

-- the operations that the tenant sees, at their places, are those of all lines
pub operations_kept : (plan world_plan : CheckedPlan) (t : ℕ) (file : File) (lines : List (List ℕ)) (kept : List Event) (places : List ℕ)
    → world_plan ≡ plan → kept ≡ seen_events (Some t) (map (event_of plan) lines) → places ≡ seen_places (Some t) 0 (map (event_of plan) lines)
    → map (placed places) (tenant_operations world_plan kept t file) ≡ operations_of plan lines t file
operations_kept plan world_plan t file lines kept places is seen stand =
    ap (λ (p : CheckedPlan). map (placed places) (tenant_operations p kept t file)) is
    ∙ (ap (λ (events : List Event). map (placed places) (tenant_operations plan events t file)) seen
    ∙ (ap (λ (ps : List ℕ). map (placed ps) (tenant_operations plan (seen_events (Some t) (map (event_of plan) lines)) t file)) stand
    ∙ sym (operations_placed plan t (map (event_of plan) lines) file)))

-- the history of what the tenant sees, at its places, is that of all lines
pub history_written : (plan world_plan : CheckedPlan) (t : ℕ) (file : File) (lines : List (List ℕ)) (kept : List Event) (places : List ℕ) (count : ℕ) (text : List ℕ)
    → world_plan ≡ plan → kept ≡ seen_events (Some t) (map (event_of plan) lines) → places ≡ seen_places (Some t) 0 (map (event_of plan) lines) → count ≡ length lines
    → TellsHistory (line_behind world_plan) count (map (placed places) (tenant_operations world_plan kept t file)) text → IsHistoryOf plan lines t file text
history_written plan world_plan t file lines kept places count text is seen stand counted told =
    let ops = operations_kept plan world_plan t file lines kept places is seen stand in
    subst (λ (o : List Op). TellsHistory (line_behind plan) (length lines) o text) ops
    (subst (λ (n : ℕ). TellsHistory (line_behind plan) n (map (placed places) (tenant_operations world_plan kept t file)) text) counted
    (subst (λ (p : CheckedPlan). TellsHistory (line_behind p) count (map (placed places) (tenant_operations world_plan kept t file)) text) is told))
