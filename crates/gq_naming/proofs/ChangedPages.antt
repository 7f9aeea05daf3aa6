-- Each name has one line at most in a changed page.
use Rattle.std.proofs.Common.{◌≡◌, ◌⊎◌, ◌∙◌, ℕ, ◌<◌, ◌≤◌, arith, List, [], ◌∷◌, ◌++◌, Option, Some, None, Bool, true, false, refl, sym, ap, subst, inl, inr, cond}
use Rattle.std.specs.Prelude.{map, if◌then◌else◌, option_map}
use Rattle.std.specs.Option.{option_to_list, option_or}
use Rattle.std.specs.Str.{bytes_eq}
use Rattle.std.proofs.lemmas.Slice.Eq.{bytes_eq-Decides}
use Rattle.std.proofs.lemmas.List.Folds.{find-append}
use Rattle.gq_page.specs.declared.page.Line.{Line}
use Rattle.gq_page.specs.Page.{Sheet, line_of, is_named}
use Rattle.gq_client.specs.declared.view.Known.{Known}
use Rattle.gq_client.specs.declared.changing.Fate.{Fate}
use Rattle.gq_client.specs.Changing.{stays, is_changed, fate_of, kept_by, new_line, name_said, IsChanged}
use Rattle.gq_naming.specs.Standing.{IsAmong, IsPage}
use Rattle.gq_naming.specs.Laws.{AllChangesPages}
use Rattle.gq_naming.proofs.Kept.{kept_none, kept_some}

no : {A : Type 0} → true ≡ false → A
no h = absurd (none h)
  where
    none : true ≡ false → ⊥
    none k = cc

among_both : (xs ys : List Line) (l : Line) → IsAmong l (xs ++ ys) → IsAmong l xs ⊎ IsAmong l ys
among_both [] ys l among = inr among
among_both (x ∷ xs) ys l (inl same) = inl (inl same)
among_both (x ∷ xs) ys l (inr among) = by (among_both xs ys l among)
  where
    by : IsAmong l xs ⊎ IsAmong l ys → ((x ≡ l) ⊎ IsAmong l xs) ⊎ IsAmong l ys
    by (inl a) = inl (inr a)
    by (inr b) = inr b

among_kept : (fate : Line → Fate) (lines : List Line) (l : Line) → IsAmong l (kept_by lines (map fate lines)) → IsAmong l lines × (stays (fate l) ≡ true)
among_kept fate [] l among = absurd among
among_kept fate (x ∷ lines) l among = by (among_kept fate lines l) (stays (fate x)) refl among
  where
    by : (IsAmong l (kept_by lines (map fate lines)) → IsAmong l lines × (stays (fate l) ≡ true)) → (b : Bool) → stays (fate x) ≡ b → IsAmong l (if b then x ∷ kept_by lines (map fate lines) else kept_by lines (map fate lines)) → ((x ≡ l) ⊎ IsAmong l lines) × (stays (fate l) ≡ true)
    by on true e (inl same) = (inl same, sym (ap (λ z. stays (fate z)) same) ∙ e)
    by on true e (inr later) = let found = on later in (inr found.0, found.1)
    by on false e later = let found = on later in (inr found.0, found.1)

module _ (seen : List Known) (s : ℕ) (journal page : Sheet) (number : ℕ) (besides : List (List ℕ)) (ok : IsPage journal) (above : journal.number < number) where
  -- the lines of the changed name don't stay
  changed_goes : (w : Option (List ℕ × List ℕ)) (l : Line) → is_changed (name_said w) l ≡ true → stays (fate_of seen s (name_said w) besides l) ≡ false
  changed_goes w l is = rw is refl

  from_kept : (w : Option (List ℕ × List ℕ)) → page.lines ≡ kept_by journal.lines (map (fate_of seen s (name_said w) besides) journal.lines) ++ option_to_list (new_line number w) → (l : Line) → IsAmong l (kept_by journal.lines (map (fate_of seen s (name_said w) besides) journal.lines)) → (line_of l.name page.lines ≡ Some l) × (0 < l.version) × (l.version ≤ number)
  from_kept w is l among =
      let found = among_kept (fate_of seen s (name_said w) besides) journal.lines l among in
      let first : line_of l.name (kept_by journal.lines (map (fate_of seen s (name_said w) besides) journal.lines)) ≡ Some l = kept_some (fate_of seen s (name_said w) besides) l.name journal.lines l (ok.once l found.0) found.1 in
      (ap (line_of l.name) is ∙ find-append (is_named l.name) (kept_by journal.lines (map (fate_of seen s (name_said w) besides) journal.lines)) (option_to_list (new_line number w)) ∙ ap (λ x. option_or x (line_of l.name (option_to_list (new_line number w)))) first, ok.some l found.0, (let most : l.version ≤ journal.number = ok.most l found.0 in omega arith))

  from_new : (w : Option (List ℕ × List ℕ)) → page.lines ≡ kept_by journal.lines (map (fate_of seen s (name_said w) besides) journal.lines) ++ option_to_list (new_line number w) → (l : Line) → IsAmong l (option_to_list (new_line number w)) → (line_of l.name page.lines ≡ Some l) × (0 < l.version) × (l.version ≤ number)
  from_new None is l among = absurd among
  from_new (Some parts) is l (inr among) = absurd among
  from_new (Some parts) is l (inl same) = subst (λ z. (line_of z.name page.lines ≡ Some z) × (0 < z.version) × (z.version ≤ number)) same (first, omega arith, omega arith)
    where
      new : Line
      new = record { version = number; said = parts.1; name = parts.0 }

      none : line_of parts.0 (kept_by journal.lines (map (fate_of seen s (name_said (Some parts)) besides) journal.lines)) ≡ None
      none = kept_none (fate_of seen s (name_said (Some parts)) besides) parts.0 journal.lines (λ y among name. changed_goes (Some parts) y ((bytes_eq-Decides y.name parts.0).1 name))

      alone : line_of parts.0 (option_to_list (new_line number (Some parts))) ≡ new_line number (Some parts)
      alone = rw ((bytes_eq-Decides parts.0 parts.0).1 refl) refl

      first : line_of parts.0 page.lines ≡ new_line number (Some parts)
      first = ap (line_of parts.0) is ∙ find-append (is_named parts.0) (kept_by journal.lines (map (fate_of seen s (name_said (Some parts)) besides) journal.lines)) (option_to_list (new_line number (Some parts))) ∙ ap (λ x. option_or x (line_of parts.0 (option_to_list (new_line number (Some parts))))) none ∙ alone

pub changes_are_pages : AllChangesPages
changes_are_pages seen s journal page number line besides ok above is = record {
  once = λ l among. (each l among).0;
  some = λ l among. (each l among).1;
  most = λ l among. (let le : l.version ≤ number = (each l among).2 in let is_number : page.number ≡ number = is.number_is in omega arith);
}
  where
    each : (l : Line) → IsAmong l page.lines → (line_of l.name page.lines ≡ Some l) × (0 < l.version) × (l.version ≤ number)
    each l among = by (among_both (kept_by journal.lines (map (fate_of seen s (name_said line) besides) journal.lines)) (option_to_list (new_line number line)) l (subst (λ ls. IsAmong l ls) is.lines among))
      where
        by : IsAmong l (kept_by journal.lines (map (fate_of seen s (name_said line) besides) journal.lines)) ⊎ IsAmong l (option_to_list (new_line number line)) → (line_of l.name page.lines ≡ Some l) × (0 < l.version) × (l.version ≤ number)
        by (inl old) = from_kept seen s journal page number besides ok above line is.lines l old
        by (inr new) = from_new seen s journal page number besides ok above line is.lines l new
