-- Steps of chunks are steps of contents.
use Rattle.std.proofs.Common.{◌≡◌, ◌≢◌, ℕ, Bool, true, false, List, Option, Some, None, refl, sym, ap, ◌∙◌}
use Rattle.std.specs.Prelude.{IsSome, option_map, is_some, nat_le, ◌==◌, if◌then◌else◌}
use Rattle.std.proofs.lemmas.Bool.{ne_eqb}
use Rattle.gq_shelf.specs.declared.extent.Extent.{Extent}
use Rattle.gq_shelf.specs.Places.{content_at}
use Rattle.gq_ledger.specs.Steps.{Book, Keeps, Gives, Leads, after_step, may_keep, with_at}
use Rattle.gq_stock.specs.Held.{held_by, contents}
use Rattle.gq_stock.specs.Forgetting.{is_in_any, ForgotAs}
use Rattle.gq_stock.specs.Keeping.{ChangesOnly}
use Rattle.gq_stock.specs.declared.chunk.Chunk.{Chunk}
use Rattle.gq_stock.specs.declared.run.Run.{Run}

pub some_held : (written : Extent → List ℕ) (o : Option Chunk) → IsSome o → IsSome (option_map (held_by written) o)
some_held written None is = is
some_held written (Some chunk) is = refl

pub none_held : (written : Extent → List ℕ) (o : Option Chunk) → option_map (held_by written) o ≡ None → IsSome o → ⊥
none_held written None none is = cc
none_held written (Some chunk) none is = cc

map_if : (written : Extent → List ℕ) (b : Bool) (chunk : Chunk) (o : Option Chunk) → option_map (held_by written) (if b then Some chunk else o) ≡ (if b then Some (held_by written chunk) else option_map (held_by written) o)
map_if written true chunk o = refl
map_if written false chunk o = refl

map_none : (written : Extent → List ℕ) (b : Bool) (o : Option Chunk) → option_map (held_by written) (if b then None else o) ≡ (if b then None else option_map (held_by written) o)
map_none written true o = refl
map_none written false o = refl

map_may : (written : Extent → List ℕ) (o : Option Chunk) (below : Bool) → (if is_some (option_map (held_by written) o) then false else if below then false else true) ≡ (if is_some o then false else if below then false else true)
map_may written None below = refl
map_may written (Some chunk) below = refl

map_keeps : (written : Extent → List ℕ) (t : Bool) (old : Book Chunk) (n m : ℕ) (chunk : Chunk) → option_map (held_by written) ((if t then with_at old n (Some chunk) else old).at m) ≡ (if t then with_at (contents written old) n (Some (held_by written chunk)) else contents written old).at m
map_keeps written true old n m chunk = map_if written (m == n) chunk (old.at m)
map_keeps written false old n m chunk = refl

map_floor : (written : Extent → List ℕ) (t : Bool) (old : Book Chunk) (n : ℕ) (chunk : Chunk) → (if t then with_at old n (Some chunk) else old).floor ≡ (if t then with_at (contents written old) n (Some (held_by written chunk)) else contents written old).floor
map_floor written true old n chunk = refl
map_floor written false old n chunk = refl

-- a chunk that was kept, whose bytes are these
pub kept_held : (written : Extent → List ℕ) (old new : Book Chunk) (n : ℕ) (chunk : Chunk) (bytes : List ℕ) → content_at written chunk.place ≡ bytes → Leads old (Keeps n chunk) new → Leads (contents written old) (Keeps n (record { bytes = bytes; is_sure = chunk.is_sure })) (contents written new)
kept_held written old new n chunk bytes is leads = record {
  at = λ m. ap (option_map (held_by written)) (leads.at m) ∙ (map_keeps written (may_keep old n) old n m chunk
      ∙ (ap (λ (t : Bool). (if t then with_at (contents written old) n (Some (held_by written chunk)) else contents written old).at m) (sym (map_may written (old.at n) (nat_le n old.floor)))
      ∙ ap (λ (bs : List ℕ). (after_step (Keeps n (record { bytes = bs; is_sure = chunk.is_sure })) (contents written old)).at m) is));
  floor = leads.floor ∙ (map_floor written (may_keep old n) old n chunk
      ∙ (ap (λ (t : Bool). (if t then with_at (contents written old) n (Some (held_by written chunk)) else contents written old).floor) (sym (map_may written (old.at n) (nat_le n old.floor)))
      ∙ ap (λ (bs : List ℕ). (after_step (Keeps n (record { bytes = bs; is_sure = chunk.is_sure })) (contents written old)).floor) is));
}

-- one that was given
pub given_held : (written : Extent → List ℕ) (old new : Book Chunk) (n : ℕ) (chunk : Chunk) (bytes : List ℕ) → content_at written chunk.place ≡ bytes → Leads old (Gives n chunk) new → Leads (contents written old) (Gives n (record { bytes = bytes; is_sure = chunk.is_sure })) (contents written new)
given_held written old new n chunk bytes is leads = record {
  at = λ m. ap (option_map (held_by written)) (leads.at m) ∙ (map_if written (m == n) chunk (old.at m) ∙ ap (λ (bs : List ℕ). if m == n then Some (record { bytes = bs; is_sure = chunk.is_sure }) else option_map (held_by written) (old.at m)) is);
  floor = leads.floor;
}

pub forgot_held : (written : Extent → List ℕ) (old new : Book Chunk) (floor : ℕ) (runs : List Run) → ForgotAs old floor runs new → ForgotAs (contents written old) floor runs (contents written new)
forgot_held written old new floor runs forgot = record { at = λ n. ap (option_map (held_by written)) (forgot.at n) ∙ map_none written (is_in_any n runs) (old.at n); risen = forgot.risen }

-- nothing else changes with a chunk that was kept
pub keeps_alone : {T : Type 0} (old new : Book T) (n : ℕ) (x : T) → Leads old (Keeps n x) new → ChangesOnly old n new
keeps_alone {T} old new n x leads = record { others = λ m other. leads.at m ∙ at (may_keep old n) m other; floor = leads.floor ∙ floor (may_keep old n) }
  where
    at : (t : Bool) (m : ℕ) → m ≢ n → (if t then with_at old n (Some x) else old).at m ≡ old.at m
    at true m other = ap (λ (t : Bool). if t then Some x else old.at m) (ne_eqb m n other)
    at false m other = refl

    floor : (t : Bool) → (if t then with_at old n (Some x) else old).floor ≡ old.floor
    floor true = refl
    floor false = refl
