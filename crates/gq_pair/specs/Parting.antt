-- Lines of two machines, told apart.
use Rattle.std.proofs.Common.{◌≡◌, ℕ, List, [], ◌∷◌, ◌++◌, Bool, true, false, refl, sym, ap, subst, ◌∙◌}
use Rattle.std.specs.Prelude.{◌&&◌}
use Rattle.std.specs.List.{list_all}
use Rattle.std.proofs.lemmas.Bool.{and_parts, and_from, true≢false}
use Rattle.gq_keeper.specs.Starting.{RecallsAll}
use Rattle.gq_pair.specs.Pairs.{RecallsBy, readable_by}

abbrev pub Lines : Type 0
Lines = List (List ℕ)

-- a line before others, if it is the first machine's; and the second one's
abbrev pub before_by : (is_second : Bool) → List ℕ → Lines → Lines
before_by true line lines = lines
before_by false line lines = line ∷ lines

abbrev pub behind_by : (is_second : Bool) → List ℕ → Lines → Lines
behind_by true line lines = line ∷ lines
behind_by false line lines = lines

-- the first machine's lines among these, and the second one's
abbrev pub firsts : (List ℕ → Bool) → Lines → Lines
firsts second [] = []
firsts second (line ∷ lines) = before_by (second line) line (firsts second lines)

abbrev pub seconds : (List ℕ → Bool) → Lines → Lines
seconds second [] = []
seconds second (line ∷ lines) = behind_by (second line) line (seconds second lines)

-- all are the first machine's; all are the second one's
abbrev pub none_second : (List ℕ → Bool) → Lines → Bool
none_second second lines = list_all (λ line. readable_by (second line) true false) lines

-- ---- what they are of lists

pub firsts_all : (second : List ℕ → Bool) (lines : Lines) → none_second second lines ≡ true → firsts second lines ≡ lines
firsts_all second [] all = refl
firsts_all second (line ∷ lines) all =
    let parts : (readable_by (second line) true false ≡ true) × (none_second second lines ≡ true) = and_parts (readable_by (second line) true false) (none_second second lines) all in
    by (second line) refl parts.0 (firsts_all second lines parts.1)
  where
    by : (b : Bool) → second line ≡ b → readable_by (second line) true false ≡ true → firsts second lines ≡ lines → before_by (second line) line (firsts second lines) ≡ line ∷ lines
    by true e its rest = absurd (true≢false (sym its ∙ ap (λ z. readable_by z true false) e))
    by false e its rest = ap (λ z. before_by z line (firsts second lines)) e ∙ ap (λ z. line ∷ z) rest

pub seconds_none : (second : List ℕ → Bool) (lines : Lines) → none_second second lines ≡ true → seconds second lines ≡ []
seconds_none second [] all = refl
seconds_none second (line ∷ lines) all =
    let parts : (readable_by (second line) true false ≡ true) × (none_second second lines ≡ true) = and_parts (readable_by (second line) true false) (none_second second lines) all in
    by (second line) refl parts.0 (seconds_none second lines parts.1)
  where
    by : (b : Bool) → second line ≡ b → readable_by (second line) true false ≡ true → seconds second lines ≡ [] → behind_by (second line) line (seconds second lines) ≡ []
    by true e its rest = absurd (true≢false (sym its ∙ ap (λ z. readable_by z true false) e))
    by false e its rest = ap (λ z. behind_by z line (seconds second lines)) e ∙ rest

pub firsts_none : (second : List ℕ → Bool) (lines : Lines) → list_all second lines ≡ true → firsts second lines ≡ []
firsts_none second [] all = refl
firsts_none second (line ∷ lines) all =
    let parts : (second line ≡ true) × (list_all second lines ≡ true) = and_parts (second line) (list_all second lines) all in
    ap (λ z. before_by z line (firsts second lines)) parts.0 ∙ firsts_none second lines parts.1

pub seconds_all : (second : List ℕ → Bool) (lines : Lines) → list_all second lines ≡ true → seconds second lines ≡ lines
seconds_all second [] all = refl
seconds_all second (line ∷ lines) all =
    let parts : (second line ≡ true) × (list_all second lines ≡ true) = and_parts (second line) (list_all second lines) all in
    ap (λ z. behind_by z line (seconds second lines)) parts.0 ∙ ap (λ z. line ∷ z) (seconds_all second lines parts.1)

pub firsts_append : (second : List ℕ → Bool) (xs ys : Lines) → firsts second (xs ++ ys) ≡ firsts second xs ++ firsts second ys
firsts_append second [] ys = refl
firsts_append second (x ∷ xs) ys = by (second x) (firsts_append second xs ys)
  where
    by : (b : Bool) → firsts second (xs ++ ys) ≡ firsts second xs ++ firsts second ys → before_by b x (firsts second (xs ++ ys)) ≡ before_by b x (firsts second xs) ++ firsts second ys
    by true rest = rest
    by false rest = ap (λ z. x ∷ z) rest

pub seconds_append : (second : List ℕ → Bool) (xs ys : Lines) → seconds second (xs ++ ys) ≡ seconds second xs ++ seconds second ys
seconds_append second [] ys = refl
seconds_append second (x ∷ xs) ys = by (second x) (seconds_append second xs ys)
  where
    by : (b : Bool) → seconds second (xs ++ ys) ≡ seconds second xs ++ seconds second ys → behind_by b x (seconds second (xs ++ ys)) ≡ behind_by b x (seconds second xs) ++ seconds second ys
    by true rest = ap (λ z. x ∷ z) rest
    by false rest = rest

none_behind : (zs : Lines) → zs ++ [] ≡ zs
none_behind [] = refl
none_behind (z ∷ zs) = ap (λ r. z ∷ r) (none_behind zs)

-- those of both, one behind the other
pub firsts_both : (second : List ℕ → Bool) (xs ys : Lines) → none_second second xs ≡ true → list_all second ys ≡ true → firsts second (xs ++ ys) ≡ xs
firsts_both second xs ys a b = firsts_append second xs ys ∙ ap (λ z. z ++ firsts second ys) (firsts_all second xs a) ∙ ap (λ z. xs ++ z) (firsts_none second ys b) ∙ none_behind xs

pub seconds_both : (second : List ℕ → Bool) (xs ys : Lines) → none_second second xs ≡ true → list_all second ys ≡ true → seconds second (xs ++ ys) ≡ ys
seconds_both second xs ys a b = seconds_append second xs ys ∙ ap (λ z. z ++ seconds second ys) (seconds_none second xs a) ∙ seconds_all second ys b

-- ---- what is read

-- each machine reads its lines
pub split : {P M N : Type 0} (f : P → M) (g : P → N) (first : M → List ℕ → M → Type 0) (other : N → List ℕ → N → Type 0) (second : List ℕ → Bool) (lines : Lines) (a b : P) →
    RecallsAll (λ (old : P) (line : List ℕ) (new : P). RecallsBy first other (second line) (f old) (g old) line (f new) (g new)) a lines b →
    RecallsAll first (f a) (firsts second lines) (f b) × RecallsAll other (g a) (seconds second lines) (g b)
split f g first other second [] a b same = (ap f same, ap g same)
split {P} {M} {N} f g first other second (line ∷ lines) a b (next, one, more) = by (second line) one (split f g first other second lines next b more)
  where
    by : (s : Bool) → RecallsBy first other s (f a) (g a) line (f next) (g next) → RecallsAll first (f next) (firsts second lines) (f b) × RecallsAll other (g next) (seconds second lines) (g b) →
        RecallsAll first (f a) (before_by s line (firsts second lines)) (f b) × RecallsAll other (g a) (behind_by s line (seconds second lines)) (g b)
    by true step rest = (subst (λ z. RecallsAll first z (firsts second lines) (f b)) step.1 rest.0, (g next, step.0, rest.1))
    by false step rest = ((f next, step.0, rest.0), subst (λ z. RecallsAll other z (seconds second lines) (g b)) step.1 rest.1)

-- all of the lines are read, where each machine reads its own
pub read_both : (second first other : List ℕ → Bool) (lines : Lines) → list_all first (firsts second lines) ≡ true → list_all other (seconds second lines) ≡ true →
    list_all (λ line. readable_by (second line) (first line) (other line)) lines ≡ true
read_both second first other [] a b = refl
read_both second first other (line ∷ lines) a b = by (second line) a b (λ x y. read_both second first other lines x y)
  where
    by : (s : Bool) → list_all first (before_by s line (firsts second lines)) ≡ true → list_all other (behind_by s line (seconds second lines)) ≡ true →
        (list_all first (firsts second lines) ≡ true → list_all other (seconds second lines) ≡ true → list_all (λ l. readable_by (second l) (first l) (other l)) lines ≡ true) →
        (readable_by s (first line) (other line) && list_all (λ l. readable_by (second l) (first l) (other l)) lines) ≡ true
    by true x y rest =
        let parts : (other line ≡ true) × (list_all other (seconds second lines) ≡ true) = and_parts (other line) (list_all other (seconds second lines)) y in
        and_from (other line) (list_all (λ l. readable_by (second l) (first l) (other l)) lines) parts.0 (rest x parts.1)
    by false x y rest =
        let parts : (first line ≡ true) × (list_all first (firsts second lines) ≡ true) = and_parts (first line) (list_all first (firsts second lines)) x in
        and_from (first line) (list_all (λ l. readable_by (second l) (first l) (other l)) lines) parts.0 (rest parts.1 y)

-- what a machine reads are its lines
pub none_second_read : (second first : List ℕ → Bool) → ((line : List ℕ) → first line ≡ true → second line ≡ false) → (lines : Lines) → list_all first lines ≡ true → none_second second lines ≡ true
none_second_read second first apart [] all = refl
none_second_read second first apart (line ∷ lines) all =
    let parts : (first line ≡ true) × (list_all first lines ≡ true) = and_parts (first line) (list_all first lines) all in
    and_from (readable_by (second line) true false) (none_second second lines) (ap (λ z. readable_by z true false) (apart line parts.0)) (none_second_read second first apart lines parts.1)

pub all_second_read : (second other : List ℕ → Bool) → ((line : List ℕ) → other line ≡ true → second line ≡ true) → (lines : Lines) → list_all other lines ≡ true → list_all second lines ≡ true
all_second_read second other apart [] all = refl
all_second_read second other apart (line ∷ lines) all =
    let parts : (other line ≡ true) × (list_all other lines ≡ true) = and_parts (other line) (list_all other lines) all in
    and_from (second line) (list_all second lines) (apart line parts.0) (all_second_read second other apart lines parts.1)
