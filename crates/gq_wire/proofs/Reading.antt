-- A request that is read word by word is the line of a script that its words are without the operation's number.
use Rattle.std.proofs.Common.{◌≡◌, ℕ, List, [], ◌∷◌, Option, Some, None, Bool, true, false, refl, sym, ap, inl, inr}
use Rattle.std.specs.Prelude.{codes, if◌then◌else◌}
use Rattle.std.specs.Str.{bytes_eq}
use Rattle.std.proofs.Common.{subst}
use Rattle.std.proofs.lemmas.Bool.{cases_Bool}
use Rattle.std.proofs.lemmas.Slice.Eq.{bytes_eq-Decides}
use Rattle.gq_model.specs.declared.events.Line.{Line}
use Rattle.gq_model.specs.declared.events.Line.TheVariants.{Bad, Quorum, NewVolume, Volumes, Write, Read, List as ListFiles, Deliver, Lose, Retry, Abandon}
use Rattle.gq_lines.specs.Words.{Word, number_of, content_of}
use Rattle.gq_text.specs.Input.{◌>>=◌, line_of, line_from, line_alone, one_number_of, two_numbers_of, three_numbers_of, file_content_of}
use Rattle.gq_wire.specs.Values.{number_then, last_content, alone}
use Rattle.gq_wire.specs.Requests.{of_session, request_of, write_by, read_by, list_by, abandon_by, line_by, request_by}

-- ---- the values of each form

-- a number that was read, if it is one, and the words behind it
abbrev number_in : Option ℕ → List Word → Option (ℕ × List Word)
number_in o ws = o >>= (λ n. Some (n, ws))

abbrev by_content : Option (ℕ × ℕ × ℕ × List ℕ) → Option Line
by_content o = of_session (line_from o (λ (session, volume, file, bytes). Write session volume file bytes))

abbrev content_values : ℕ → Option ℕ → Option ℕ → Option (List ℕ) → Option (ℕ × ℕ × ℕ × List ℕ)
content_values k v f bytes = v >>= (λ y. f >>= (λ z. bytes >>= (λ b. Some (k, y, z, b))))

abbrev write_behind : (k v : ℕ) → Option (ℕ × List Word) → Option Line
write_behind k v o = o >>= (λ (f : ℕ × List Word). last_content f.1 >>= (λ bytes. Some (Write k v f.0 bytes)))

abbrev write_file : ℕ → Option (ℕ × List Word) → Option Line
write_file k o = o >>= (λ (v : ℕ × List Word). write_behind k v.0 (number_then v.1))

-- the number of the session stands before
write_same : (k : ℕ) (s : Word) (ws : List Word) → number_of s ≡ Some k → write_by k ws ≡ by_content (file_content_of (s ∷ ws))
unfolding file_content_of
write_same k s [] is = refl
write_same k s (a ∷ []) is = by (number_of a)
  where
    by : (v : Option ℕ) → write_file k (number_in v []) ≡ None
    by None = refl
    by (Some n) = refl
write_same k s (a ∷ b ∷ []) is = by (number_of a)
  where
    file : (n : ℕ) (f : Option ℕ) → write_behind k n (number_in f []) ≡ None
    file n None = refl
    file n (Some m) = refl

    by : (v : Option ℕ) → write_file k (number_in v (b ∷ [])) ≡ None
    by None = refl
    by (Some n) = file n (number_of b)
write_same k s (a ∷ b ∷ c ∷ []) is = rw is (by (number_of a))
  where
    bytes : (n m : ℕ) (o : Option (List ℕ)) → (o >>= (λ bytes. Some (Write k n m bytes))) ≡ by_content (content_values k (Some n) (Some m) o)
    bytes n m None = refl
    bytes n m (Some xs) = refl

    file : (n : ℕ) (f : Option ℕ) → write_behind k n (number_in f (c ∷ [])) ≡ by_content (content_values k (Some n) f (content_of c))
    file n None = refl
    file n (Some m) = bytes n m (content_of c)

    by : (v : Option ℕ) → write_file k (number_in v (b ∷ c ∷ [])) ≡ by_content (content_values k v (number_of b) (content_of c))
    by None = refl
    by (Some n) = file n (number_of b)
write_same k s (a ∷ b ∷ c ∷ d ∷ ws) is = by (number_of a)
  where
    file : (n : ℕ) (f : Option ℕ) → write_behind k n (number_in f (c ∷ d ∷ ws)) ≡ None
    file n None = refl
    file n (Some m) = refl

    by : (v : Option ℕ) → write_file k (number_in v (b ∷ c ∷ d ∷ ws)) ≡ None
    by None = refl
    by (Some n) = file n (number_of b)

abbrev by_three : Option (ℕ × ℕ × ℕ) → Option Line
by_three o = of_session (line_from o (λ (session, volume, file). Read session volume file))

abbrev three_values : ℕ → Option ℕ → Option ℕ → Option (ℕ × ℕ × ℕ)
three_values k v f = v >>= (λ y. f >>= (λ z. Some (k, y, z)))

abbrev read_behind : (k v : ℕ) → Option (ℕ × List Word) → Option Line
read_behind k v o = o >>= (λ (f : ℕ × List Word). alone f.1 (Read k v f.0))

abbrev read_file : ℕ → Option (ℕ × List Word) → Option Line
read_file k o = o >>= (λ (v : ℕ × List Word). read_behind k v.0 (number_then v.1))

read_same : (k : ℕ) (s : Word) (ws : List Word) → number_of s ≡ Some k → read_by k ws ≡ by_three (three_numbers_of (s ∷ ws))
unfolding three_numbers_of
read_same k s [] is = refl
read_same k s (a ∷ []) is = by (number_of a)
  where
    by : (v : Option ℕ) → read_file k (number_in v []) ≡ None
    by None = refl
    by (Some n) = refl
read_same k s (a ∷ b ∷ []) is = rw is (by (number_of a))
  where
    file : (n : ℕ) (f : Option ℕ) → read_behind k n (number_in f []) ≡ by_three (three_values k (Some n) f)
    file n None = refl
    file n (Some m) = refl

    by : (v : Option ℕ) → read_file k (number_in v (b ∷ [])) ≡ by_three (three_values k v (number_of b))
    by None = refl
    by (Some n) = file n (number_of b)
read_same k s (a ∷ b ∷ c ∷ ws) is = by (number_of a)
  where
    file : (n : ℕ) (f : Option ℕ) → read_behind k n (number_in f (c ∷ ws)) ≡ None
    file n None = refl
    file n (Some m) = refl

    by : (v : Option ℕ) → read_file k (number_in v (b ∷ c ∷ ws)) ≡ None
    by None = refl
    by (Some n) = file n (number_of b)

abbrev by_two : Option (ℕ × ℕ) → Option Line
by_two o = of_session (line_from o (λ (session, volume). ListFiles session volume))

abbrev two_values : ℕ → Option ℕ → Option (ℕ × ℕ)
two_values k v = v >>= (λ y. Some (k, y))

abbrev list_volume : ℕ → Option (ℕ × List Word) → Option Line
list_volume k o = o >>= (λ (v : ℕ × List Word). alone v.1 (ListFiles k v.0))

list_same : (k : ℕ) (s : Word) (ws : List Word) → number_of s ≡ Some k → list_by k ws ≡ by_two (two_numbers_of (s ∷ ws))
unfolding two_numbers_of
list_same k s [] is = refl
list_same k s (a ∷ []) is = rw is (by (number_of a))
  where
    by : (v : Option ℕ) → list_volume k (number_in v []) ≡ by_two (two_values k v)
    by None = refl
    by (Some n) = refl
list_same k s (a ∷ b ∷ ws) is = by (number_of a)
  where
    by : (v : Option ℕ) → list_volume k (number_in v (b ∷ ws)) ≡ None
    by None = refl
    by (Some n) = refl

abbrev by_one : Option ℕ → Option Line
by_one o = of_session (line_from o (λ session. Abandon session))

abandon_same : (k : ℕ) (s : Word) (ws : List Word) → number_of s ≡ Some k → abandon_by k ws ≡ by_one (one_number_of (s ∷ ws))
unfolding one_number_of
abandon_same k s [] is = rw is refl
abandon_same k s (a ∷ ws) is = refl

-- ---- the verb

-- no other verb is one of a request
no_pair : (o : Option (ℕ × ℕ)) → of_session (line_from o (λ (files, blocks). NewVolume files blocks)) ≡ None
no_pair None = refl
no_pair (Some pair) = refl

no_alone : (line : Line) (ws : List Word) → of_session line ≡ None → of_session (line_alone ws line) ≡ None
no_alone line [] is = is
no_alone line (w ∷ ws) is = refl

no_message : (o : Option ℕ) (line : ℕ → Line) → ((n : ℕ) → of_session (line n) ≡ None) → of_session (line_from o line) ≡ None
no_message None line is = refl
no_message (Some n) line is = is n

neither : (b : Bool) (x y : Line) → of_session x ≡ None → of_session y ≡ None → of_session (if b then x else y) ≡ None
neither true x y one two = one
neither false x y one two = two

-- the verb is that word, where it is found equal
verb_is : (verb word : Word) → bytes_eq verb word ≡ true → verb ≡ word
verb_is verb word is = (bytes_eq-Decides verb word).0 is

same_line : (verb s : Word) (k : ℕ) (ws : List Word) → number_of s ≡ Some k → line_by verb k ws ≡ of_session (line_of (verb ∷ s ∷ ws))
unfolding line_of
same_line verb s k ws is = elim (cases_Bool (bytes_eq verb (codes "write"))) [
  | inl write ↦ (subst P (sym (verb_is verb (codes "write") write)) (write_same k s ws is))
  | inr no_write ↦ (elim (cases_Bool (bytes_eq verb (codes "read"))) [
    | inl read ↦ (subst P (sym (verb_is verb (codes "read") read)) (read_same k s ws is))
    | inr no_read ↦ (elim (cases_Bool (bytes_eq verb (codes "list"))) [
      | inl list ↦ (subst P (sym (verb_is verb (codes "list") list)) (list_same k s ws is))
      | inr no_list ↦ (elim (cases_Bool (bytes_eq verb (codes "abandon"))) [
        | inl abandon ↦ (subst P (sym (verb_is verb (codes "abandon") abandon)) (abandon_same k s ws is))
        | inr no_abandon ↦ (rw (no_write, no_read, no_list, no_abandon) (sym (none_of (bytes_eq verb (codes "quorum")) (bytes_eq verb (codes "open")) (bytes_eq verb (codes "volumes")) (bytes_eq verb (codes "deliver")) (bytes_eq verb (codes "lose")) (bytes_eq verb (codes "retry")) (s ∷ ws))))
      ])
    ])
  ])
]
  where
    P : Word → Type 0
    P word = line_by word k ws ≡ of_session (line_of (word ∷ s ∷ ws))

    none_of : (quorum volume volumes deliver lose retry : Bool) (words : List Word) →
        of_session (if quorum then line_alone words Quorum
        else if volume then line_from (two_numbers_of words) (λ (files, blocks). NewVolume files blocks)
        else if volumes then line_alone words Volumes
        else if deliver then line_from (one_number_of words) (λ n. Deliver n)
        else if lose then line_from (one_number_of words) (λ n. Lose n)
        else if retry then line_from (one_number_of words) (λ session. Retry session)
        else Bad) ≡ None
    none_of quorum volume volumes deliver lose retry words =
        neither quorum _ _ (no_alone Quorum words refl)
        (neither volume _ _ (no_pair (two_numbers_of words))
        (neither volumes _ _ (no_alone Volumes words refl)
        (neither deliver _ _ (no_message (one_number_of words) (λ n. Deliver n) (λ n. refl))
        (neither lose _ _ (no_message (one_number_of words) (λ n. Lose n) (λ n. refl))
        (neither retry _ Bad (no_message (one_number_of words) (λ session. Retry session) (λ n. refl)) refl)))))

-- no form begins with a word that is no number
no_content : (s : Word) (ws : List Word) → number_of s ≡ None → by_content (file_content_of (s ∷ ws)) ≡ None
unfolding file_content_of
no_content s [] is = refl
no_content s (a ∷ []) is = refl
no_content s (a ∷ b ∷ []) is = refl
no_content s (a ∷ b ∷ c ∷ []) is = rw is refl
no_content s (a ∷ b ∷ c ∷ d ∷ ws) is = refl

no_three : (s : Word) (ws : List Word) → number_of s ≡ None → by_three (three_numbers_of (s ∷ ws)) ≡ None
unfolding three_numbers_of
no_three s [] is = refl
no_three s (a ∷ []) is = refl
no_three s (a ∷ b ∷ []) is = rw is refl
no_three s (a ∷ b ∷ c ∷ ws) is = refl

no_two : (s : Word) (ws : List Word) → number_of s ≡ None → by_two (two_numbers_of (s ∷ ws)) ≡ None
unfolding two_numbers_of
no_two s [] is = refl
no_two s (a ∷ []) is = rw is refl
no_two s (a ∷ b ∷ ws) is = refl

no_one : (s : Word) (ws : List Word) → number_of s ≡ None → by_one (one_number_of (s ∷ ws)) ≡ None
unfolding one_number_of
no_one s [] is = rw is refl
no_one s (a ∷ ws) is = refl

-- where the session's word is no number, there is no line
no_line : (verb s : Word) (ws : List Word) → number_of s ≡ None → of_session (line_of (verb ∷ s ∷ ws)) ≡ None
unfolding line_of
no_line verb s ws is =
    neither (bytes_eq verb (codes "quorum")) _ _ refl
    (neither (bytes_eq verb (codes "open")) _ _ (no_pair (two_numbers_of (s ∷ ws)))
    (neither (bytes_eq verb (codes "volumes")) _ _ refl
    (neither (bytes_eq verb (codes "write")) _ _ (no_content s ws is)
    (neither (bytes_eq verb (codes "read")) _ _ (no_three s ws is)
    (neither (bytes_eq verb (codes "list")) _ _ (no_two s ws is)
    (neither (bytes_eq verb (codes "deliver")) _ _ (no_message (one_number_of (s ∷ ws)) (λ n. Deliver n) (λ n. refl))
    (neither (bytes_eq verb (codes "lose")) _ _ (no_message (one_number_of (s ∷ ws)) (λ n. Lose n) (λ n. refl))
    (neither (bytes_eq verb (codes "retry")) _ _ (no_message (one_number_of (s ∷ ws)) (λ session. Retry session) (λ n. refl))
    (neither (bytes_eq verb (codes "abandon")) _ Bad (no_one s ws is) refl)))))))))

-- ---- the whole

-- a line with the number of its operation, if there is the line, and if there is the number
abbrev numbered : ℕ → Option Line → Option (ℕ × Line)
numbered n o = o >>= (λ line. Some (n, line))

abbrev with_number : Option ℕ → Option Line → Option (ℕ × Line)
with_number op line = op >>= (λ n. numbered n line)

-- by the words behind the session's, and behind the verb
abbrev number_behind : Word → ℕ → Option (ℕ × List Word) → Option (ℕ × Line)
number_behind verb k o = o >>= (λ (op : ℕ × List Word). numbered op.0 (line_by verb k op.1))

abbrev session_behind : Word → Option (ℕ × List Word) → Option (ℕ × Line)
session_behind verb o = o >>= (λ (k : ℕ × List Word). number_behind verb k.0 (number_then k.1))

nothing_numbered : (op : Option ℕ) (line : Option Line) → line ≡ None → None ≡ with_number op line
nothing_numbered None line is = refl
nothing_numbered (Some n) line is = sym (ap (numbered n) is)

pub same_request : (words : List Word) → request_by words ≡ request_of words
unfolding request_by request_of
same_request [] = refl
same_request (verb ∷ []) = refl
same_request (verb ∷ s ∷ []) = by (number_of s)
  where
    by : (k : Option ℕ) → session_behind verb (number_in k []) ≡ None
    by None = refl
    by (Some k) = refl
same_request (verb ∷ s ∷ o ∷ ws) = by (number_of s) refl
  where
    behind : (k : ℕ) → number_of s ≡ Some k → (op : Option ℕ) → number_behind verb k (number_in op ws) ≡ with_number op (of_session (line_of (verb ∷ s ∷ ws)))
    behind k is None = refl
    behind k is (Some n) = ap (numbered n) (same_line verb s k ws is)

    by : (k : Option ℕ) → number_of s ≡ k → session_behind verb (number_in k (o ∷ ws)) ≡ with_number (number_of o) (of_session (line_of (verb ∷ s ∷ ws)))
    by None is = nothing_numbered (number_of o) (of_session (line_of (verb ∷ s ∷ ws))) (no_line verb s ws is)
    by (Some k) is = behind k is (number_of o)
