-- The same run at other places has the same operations at those places; they are tagged there where they are tagged here.
use Rattle.std.proofs.Common.{◌≡◌, ◌⊎◌, ℕ, zero, suc, ◌+◌, ◌<◌, ◌≤◌, Bool, true, false, ◌++◌, List, [], ◌∷◌, map, refl, sym, ap, ◌∙◌, subst, inl, inr, Option, Some, None, arith, option_map, eqb}
use Rattle.std.specs.Prelude.{IsSome, nat_lt, if◌then◌else◌}
use Rattle.std.proofs.lemmas.Bool.{cases_lt}
use Rattle.std.proofs.lemmas.List.{map-append}
use Rattle.gq_tag.specs.declared.Tag.{Tag}
use Rattle.gq_tag.specs.Tag.{File, is_file, first_tag}
use Rattle.gq_phase.specs.declared.Outcome.{Outcome}
use Rattle.gq_phase.specs.declared.Outcome.TheVariants.{Wrote, Gave, Listed}
use Rattle.gq_model.specs.declared.events.Line.TheVariants.{Write, Read, List as ListFiles}
use Rattle.gq_model.specs.Told.{Told, Began, Round, Done, Abandoned}
use Rattle.gq_model.specs.Trace.{Turn, Own, files_of}
use Rattle.gq_laws.specs.declared.ops.Op.{Op}
use Rattle.gq_laws.specs.Laws.{IsRising, answered_at}
use Rattle.gq_laws.specs.Operations.{Answered, answered_from, SessionAnswer, owners, session_of, session_answers, session_answers_from, ending, write_tag, end_place, copy_told, row_told, begun_at, begun_in, opened_in, operations, is_write, Gives, Precedes, At, WroteWith, Tagged}

-- ---- each at its new place

-- an answered turn at its new place
abbrev pub moved_turn : (ℕ → ℕ) → Answered → Answered
moved_turn f x = record { place = f x.place; turn = x.turn; told = x.told }

-- the same with its session
abbrev pub moved_session_answer : (ℕ → ℕ) → SessionAnswer → SessionAnswer
moved_session_answer f x = record { place = f x.place; turn = x.turn; told = x.told; session = x.session }

-- an ending
abbrev pub moved_end : (ℕ → ℕ) → ℕ × Outcome → ℕ × Outcome
moved_end f e = (f e.0, e.1)

-- an operation
abbrev pub moved_op : (ℕ → ℕ) → Op → Op
moved_op f a = record { kind = a.kind; session = a.session; op = a.op; begin = f a.begin; end = option_map f a.end; tag = a.tag }

-- the turns at their places are the turns at 0, 1, 2 .. moved there
pub answered_at-moved : (place from : ℕ → ℕ) (n : ℕ) → ((i : ℕ) → from i ≡ place (n + i)) → (turns : List Turn) (tolds : List Told) → answered_at from turns tolds ≡ map (moved_turn place) (answered_from n turns tolds)
answered_at-moved place from n same [] tolds = refl
answered_at-moved place from n same (turn ∷ turns) [] = refl
answered_at-moved place from n same (turn ∷ turns) (told ∷ tolds) =
    let first : from 0 ≡ place n = same 0 ∙ ap place (none n) in
    let rest = answered_at-moved place (λ i. from (i + 1)) (n + 1) (λ i. same (i + 1) ∙ ap place (next n i)) turns tolds in
    λ i. record { place = first i; turn = turn; told = told } ∷ rest i
  where
    none : (n : ℕ) → n + 0 ≡ n
    none n = omega arith

    next : (n i : ℕ) → n + (i + 1) ≡ n + 1 + i
    next n i = omega arith

-- ---- what is read off them

session_answers-moved : (f : ℕ → ℕ) (owned : List ℕ) (xs : List Answered) → session_answers_from owned (map (moved_turn f) xs) ≡ map (moved_session_answer f) (session_answers_from owned xs)
session_answers-moved f owned [] = refl
session_answers-moved f owned (x ∷ xs) = ap (λ z. record { place = f x.place; turn = x.turn; told = x.told; session = session_of owned x.turn } ∷ z) (session_answers-moved f (owned ++ owners (session_of owned x.turn) x.told) xs)

ending-moved : (f : ℕ → ℕ) (k : ℕ) (ms : List SessionAnswer) → ending k (map (moved_session_answer f) ms) ≡ option_map (moved_end f) (ending k ms)
ending-moved f k [] = refl
ending-moved f k (x ∷ ms) = go x.place x.turn x.told x.session (ending-moved f k ms)
  where
    go : (n : ℕ) (turn : Turn) (told : Told) (s : ℕ) → ending k (map (moved_session_answer f) ms) ≡ option_map (moved_end f) (ending k ms) →
        ending k (record { place = f n; turn = turn; told = told; session = s } ∷ map (moved_session_answer f) ms) ≡ option_map (moved_end f) (ending k (record { place = n; turn = turn; told = told; session = s } ∷ ms))
    go n turn told s later = by (eqb s k) refl told
      where
        by : (b : Bool) → eqb s k ≡ b → (told : Told) → ending k (record { place = f n; turn = turn; told = told; session = s } ∷ map (moved_session_answer f) ms) ≡ option_map (moved_end f) (ending k (record { place = n; turn = turn; told = told; session = s } ∷ ms))
        by false e told = rw e later
        by true e (Done outcome) = rw e refl
        by true e Abandoned = rw e refl
        by true e (Began op first count) = rw e refl
        by true e told = rw e later

write_tag-moved : (f : ℕ → ℕ) (k : ℕ) (ms : List SessionAnswer) → write_tag k (map (moved_session_answer f) ms) ≡ write_tag k ms
write_tag-moved f k [] = refl
write_tag-moved f k (x ∷ ms) = go x.place x.turn x.told x.session (write_tag-moved f k ms)
  where
    go : (n : ℕ) (turn : Turn) (told : Told) (s : ℕ) → write_tag k (map (moved_session_answer f) ms) ≡ write_tag k ms →
        write_tag k (record { place = f n; turn = turn; told = told; session = s } ∷ map (moved_session_answer f) ms) ≡ write_tag k (record { place = n; turn = turn; told = told; session = s } ∷ ms)
    go n turn told s later = by (eqb s k) refl told
      where
        by : (b : Bool) → eqb s k ≡ b → (told : Told) → write_tag k (record { place = f n; turn = turn; told = told; session = s } ∷ map (moved_session_answer f) ms) ≡ write_tag k (record { place = n; turn = turn; told = told; session = s } ∷ ms)
        by false e told = rw e later
        by true e (Round round tag first count) = rw e refl
        by true e (Done outcome) = rw e refl
        by true e Abandoned = rw e refl
        by true e (Began op first count) = rw e refl
        by true e told = rw e later

end_place-moved : (f : ℕ → ℕ) (en : Option (ℕ × Outcome)) → end_place (option_map (moved_end f) en) ≡ option_map f (end_place en)
end_place-moved f None = refl
end_place-moved f (Some e) = refl

copy_told-moved : (f : ℕ → ℕ) (en : Option (ℕ × Outcome)) → copy_told (option_map (moved_end f) en) ≡ copy_told en
copy_told-moved f None = refl
copy_told-moved f (Some (e, Wrote session op tag)) = refl
copy_told-moved f (Some (e, Gave session op copy)) = refl
copy_told-moved f (Some (e, Listed session op rows)) = refl

row_told-moved : (f : ℕ → ℕ) (place : ℕ) (en : Option (ℕ × Outcome)) → row_told place (option_map (moved_end f) en) ≡ row_told place en
row_told-moved f place None = refl
row_told-moved f place (Some (e, Wrote session op tag)) = refl
row_told-moved f place (Some (e, Gave session op copy)) = refl
row_told-moved f place (Some (e, Listed session op rows)) = refl

begun_at-moved : (f : ℕ → ℕ) (file : File) (x : SessionAnswer) (ms : List SessionAnswer) → begun_at file (moved_session_answer f x) (map (moved_session_answer f) ms) ≡ map (moved_op f) (begun_at file x ms)
begun_at-moved f file x ms = go x.place x.turn x.told x.session
  where
    Same : ℕ → Turn → Told → ℕ → Type 0
    Same n turn told s = begun_at file (record { place = f n; turn = turn; told = told; session = s }) (map (moved_session_answer f) ms) ≡ map (moved_op f) (begun_at file (record { place = n; turn = turn; told = told; session = s }) ms)

    go : (n : ℕ) (turn : Turn) (told : Told) (s : ℕ) → Same n turn told s
    go n (Own (Write k v p bytes)) (Began op first count) s = by (is_file (record { volume = v; place = p }) file) refl
      where
        by : (b : Bool) → is_file (record { volume = v; place = p }) file ≡ b → Same n (Own (Write k v p bytes)) (Began op first count) s
        by true e = rw (e, ending-moved f k ms, write_tag-moved f k ms, end_place-moved f (ending k ms)) refl
        by false e = rw e refl
    go n (Own (Read k v p)) (Began op first count) s = by (is_file (record { volume = v; place = p }) file) refl
      where
        by : (b : Bool) → is_file (record { volume = v; place = p }) file ≡ b → Same n (Own (Read k v p)) (Began op first count) s
        by true e = rw (e, ending-moved f k ms, end_place-moved f (ending k ms), copy_told-moved f (ending k ms)) refl
        by false e = rw e refl
    go n (Own (ListFiles k v)) (Began op first count) s = by (eqb v file.volume) refl
      where
        by : (b : Bool) → eqb v file.volume ≡ b → Same n (Own (ListFiles k v)) (Began op first count) s
        by true e = rw (e, ending-moved f k ms, end_place-moved f (ending k ms), row_told-moved f file.place (ending k ms)) refl
        by false e = rw e refl
    go n turn told s = refl

pub begun_in-moved : (f : ℕ → ℕ) (file : File) (ms : List SessionAnswer) → begun_in file (map (moved_session_answer f) ms) ≡ map (moved_op f) (begun_in file ms)
begun_in-moved f file [] = refl
begun_in-moved f file (x ∷ ms) =
    ap (λ z. z ++ begun_in file (map (moved_session_answer f) ms)) (begun_at-moved f file x ms)
    ∙ ap (λ z. map (moved_op f) (begun_at file x ms) ++ z) (begun_in-moved f file ms)
    ∙ sym (map-append (moved_op f) (begun_at file x ms) (begun_in file ms))

opened_in-moved : (f : ℕ → ℕ) (ms : List SessionAnswer) → opened_in (map (moved_session_answer f) ms) ≡ opened_in ms
opened_in-moved f [] = refl
opened_in-moved f (x ∷ ms) = rw (opened_in-moved f ms) refl

-- the operations of the run at the new places
pub operations-moved : (f : ℕ → ℕ) (xs : List Answered) (file : File) → operations (map (moved_turn f) xs) file ≡ map (moved_op f) (operations xs file)
operations-moved f xs file = ap of (session_answers-moved f [] xs) ∙ by (nat_lt file.place (files_of (opened_in (session_answers xs)) file.volume)) refl
  where
    of : List SessionAnswer → List Op
    of all = if nat_lt file.place (files_of (opened_in all) file.volume) then begun_in file all else []

    by : (b : Bool) → nat_lt file.place (files_of (opened_in (session_answers xs)) file.volume) ≡ b → of (map (moved_session_answer f) (session_answers xs)) ≡ map (moved_op f) (of (session_answers xs))
    by true e = rw (opened_in-moved f (session_answers xs), e) (begun_in-moved f file (session_answers xs))
    by false e = rw (opened_in-moved f (session_answers xs), e) refl

-- ---- tagged at places that rise as the old ones do

-- it is one of the old operations
pub op_was : (f : ℕ → ℕ) (ops : List Op) (i : ℕ) (b : Op) → At (map (moved_op f) ops) i b → (a : Op) × At ops i a × (moved_op f a ≡ b)
op_was f [] i b h = absurd (let bad : None ≡ Some b = h in cc)
op_was f (a ∷ ops) zero b h = (a, refl, (let same : moved_op f a ≡ b = cc in same))
op_was f (a ∷ ops) (suc i) b h = op_was f ops i b h

pub op_is : (f : ℕ → ℕ) (ops : List Op) (i : ℕ) (a : Op) → At ops i a → At (map (moved_op f) ops) i (moved_op f a)
op_is f [] i a h = absurd (let bad : None ≡ Some a = h in cc)
op_is f (x ∷ ops) zero a h = let same : x ≡ a = cc in ap (λ z. Some (moved_op f z)) same
op_is f (x ∷ ops) (suc i) a h = op_is f ops i a h

end_was : (f : ℕ → ℕ) (end : Option ℕ) (e : ℕ) → option_map f end ≡ Some e → (d : ℕ) × (end ≡ Some d) × (f d ≡ e)
end_was f None e h = absurd (let bad : None ≡ Some e = h in cc)
end_was f (Some d) e h = (d, refl, (let same : f d ≡ e = cc in same))

some_was : (f : ℕ → ℕ) (end : Option ℕ) → IsSome (option_map f end) → IsSome end
some_was f None h = h
some_was f (Some d) h = refl

pub low_was : (f : ℕ → ℕ) → IsRising f → (i j : ℕ) → f i < f j → i < j
low_was f rises i j low = go (cases_lt i j)
  where
    higher : (cases : (j < i) ⊎ (i ≤ j)) → j ≤ i → i < j
    higher (inl less) above = absurd (let more = rises j i less in omega arith)
    higher (inr same) above = absurd (let equal : i ≡ j = omega arith in omega (arith, ap f equal))

    go : (i < j) ⊎ (j ≤ i) → i < j
    go (inl less) = less
    go (inr above) = higher (cases_lt j i) above

precedes_was : (f : ℕ → ℕ) → IsRising f → (a b : Op) → Precedes (moved_op f a) (moved_op f b) → Precedes a b
precedes_was f rises a b (e, ends, low) =
    let d = end_was f a.end e ends in
    (d.0, d.1, low_was f rises d.0 b.begin (omega (arith, d.2)))

pub tagged-moved : (f : ℕ → ℕ) → IsRising f → (ops : List Op) → Tagged ops → Tagged (map (moved_op f) ops)
tagged-moved f rises ops tagged = record {
  ends_later = λ i e b at ends. let a = op_was f ops i b at in ends_later i e a.0 b a.1 a.2 ends;
  completed = λ i b at h. let a = op_was f ops i b at in completed i a.0 b a.1 a.2 h;
  write_tags_differ = λ i j b d tag at_b at_d wb wd tb td.
      let a = op_was f ops i b at_b in
      let c = op_was f ops j d at_d in
      tagged.write_tags_differ i j a.0 c.0 tag a.1 c.1 (ap is_write a.2 ∙ wb) (ap is_write c.2 ∙ wd) (ap (λ z. z.tag) a.2 ∙ tb) (ap (λ z. z.tag) c.2 ∙ td);
  write_tags_not_first = λ i b at wb tb.
      let a = op_was f ops i b at in
      tagged.write_tags_not_first i a.0 a.1 (ap is_write a.2 ∙ wb) (ap (λ z. z.tag) a.2 ∙ tb);
  rising = λ i j b d x y at_b at_d before tb td.
      let a = op_was f ops i b at_b in
      let c = op_was f ops j d at_d in
      tagged.rising i j a.0 c.0 x y a.1 c.1 (precedes a.0 b c.0 d a.2 c.2 before) (ap (λ z. z.tag) a.2 ∙ tb) (ap (λ z. z.tag) c.2 ∙ td);
  writes_rise = λ i j b d x y at_b at_d before wd tb td.
      let a = op_was f ops i b at_b in
      let c = op_was f ops j d at_d in
      tagged.writes_rise i j a.0 c.0 x y a.1 c.1 (precedes a.0 b c.0 d a.2 c.2 before) (ap is_write c.2 ∙ wd) (ap (λ z. z.tag) a.2 ∙ tb) (ap (λ z. z.tag) c.2 ∙ td);
  sourced = λ i e b tag at no_write ends tb. let a = op_was f ops i b at in sourced i e a.0 b tag a.1 a.2 no_write ends tb;
}
  where
    precedes : (a b c d : Op) → moved_op f a ≡ b → moved_op f c ≡ d → Precedes b d → Precedes a c
    precedes a b c d a_is c_is before =
        let P : Op → Op → Type 0 = λ x y. Precedes x y in
        precedes_was f rises a c (subst (λ x. P x (moved_op f c)) (sym a_is) (subst (λ y. P b y) (sym c_is) before))

    ends_later : (i e : ℕ) (a b : Op) → At ops i a → moved_op f a ≡ b → b.end ≡ Some e → b.begin < e
    ends_later i e a b at a_is ends =
        let d = end_was f a.end e (ap (λ z. z.end) a_is ∙ ends) in
        let low = rises a.begin d.0 (tagged.ends_later i d.0 a at d.1) in
        omega (arith, d.2, ap (λ z. z.begin) a_is)

    completed : (i : ℕ) (a b : Op) → At ops i a → moved_op f a ≡ b → IsSome b.end → IsSome b.tag
    completed i a b at a_is h =
        let E : Op → Type 0 = λ z. IsSome z.end in
        let T : Op → Type 0 = λ z. IsSome z.tag in
        subst T a_is (tagged.completed i a at (some_was f a.end (subst E (sym a_is) h)))

    Sourced : ℕ → Op → Tag → List Op → Type 0
    Sourced e a tag all = ((tag ≡ first_tag) × Gives a []) ⊎ ((j : ℕ) × (w : Op) × (bytes : List ℕ) × At all j w × WroteWith w tag bytes × (w.begin < e) × Gives a bytes)

    sourced : (i e : ℕ) (a b : Op) (tag : Tag) → At ops i a → moved_op f a ≡ b → is_write b ≡ false → b.end ≡ Some e → b.tag ≡ Some tag → Sourced e b tag (map (moved_op f) ops)
    sourced i e a b tag at a_is no_write ends tb =
        let d = end_was f a.end e (ap (λ z. z.end) a_is ∙ ends) in
        from d.0 d.2 (tagged.sourced i d.0 a tag at (ap is_write a_is ∙ no_write) d.1 (ap (λ z. z.tag) a_is ∙ tb))
      where
        G : List ℕ → Op → Type 0
        G bytes z = Gives z bytes

        from : (d : ℕ) → f d ≡ e → Sourced d a tag ops → Sourced e b tag (map (moved_op f) ops)
        from d place (inl (first, gives)) = inl (first, subst (G []) a_is gives)
        from d place (inr (j, w, bytes, at_w, wrote, low, gives)) =
            let more = rises w.begin d low in
            inr (j, moved_op f w, bytes, op_is f ops j w at_w, wrote, omega (arith, place), subst (G bytes) a_is gives)

-- ---- and the other way round

some_is : (f : ℕ → ℕ) (end : Option ℕ) → IsSome end → IsSome (option_map f end)
some_is f None h = h
some_is f (Some d) h = refl

pub tagged-unmoved : (f : ℕ → ℕ) → IsRising f → (ops : List Op) → Tagged (map (moved_op f) ops) → Tagged ops
tagged-unmoved f rises ops tagged = record {
  ends_later = λ i e a at ends. low_was f rises a.begin e (tagged.ends_later i (f e) (moved_op f a) (op_is f ops i a at) (ap (option_map f) ends));
  completed = λ i a at h. tagged.completed i (moved_op f a) (op_is f ops i a at) (some_is f a.end h);
  write_tags_differ = λ i j a b tag at_a at_b wa wb ta tb. tagged.write_tags_differ i j (moved_op f a) (moved_op f b) tag (op_is f ops i a at_a) (op_is f ops j b at_b) wa wb ta tb;
  write_tags_not_first = λ i a at wa ta. tagged.write_tags_not_first i (moved_op f a) (op_is f ops i a at) wa ta;
  rising = λ i j a b x y at_a at_b before ta tb. tagged.rising i j (moved_op f a) (moved_op f b) x y (op_is f ops i a at_a) (op_is f ops j b at_b) (precedes a b before) ta tb;
  writes_rise = λ i j a b x y at_a at_b before wb ta tb. tagged.writes_rise i j (moved_op f a) (moved_op f b) x y (op_is f ops i a at_a) (op_is f ops j b at_b) (precedes a b before) wb ta tb;
  sourced = λ i e a tag at no_write ends ta. source e a tag (tagged.sourced i (f e) (moved_op f a) tag (op_is f ops i a at) no_write (ap (option_map f) ends) ta);
}
  where
    precedes : (a b : Op) → Precedes a b → Precedes (moved_op f a) (moved_op f b)
    precedes a b (e, ends, low) = (f e, ap (option_map f) ends, rises e b.begin low)

    Sourced : ℕ → Op → Tag → List Op → Type 0
    Sourced e a tag all = ((tag ≡ first_tag) × Gives a []) ⊎ ((j : ℕ) × (w : Op) × (bytes : List ℕ) × At all j w × WroteWith w tag bytes × (w.begin < e) × Gives a bytes)

    source : (e : ℕ) (a : Op) (tag : Tag) → Sourced (f e) (moved_op f a) tag (map (moved_op f) ops) → Sourced e a tag ops
    source e a tag (inl (first, gives)) = inl (first, gives)
    source e a tag (inr (j, w, bytes, at_w, wrote, low, gives)) = from (op_was f ops j w at_w)
      where
        from : (z : Op) × At ops j z × (moved_op f z ≡ w) → Sourced e a tag ops
        from (z, at_z, is) =
            let P : Op → Type 0 = λ x. WroteWith x tag bytes × (x.begin < f e) in
            let both : WroteWith (moved_op f z) tag bytes × ((moved_op f z).begin < f e) = subst P (sym is) (wrote, low) in
            inr (j, z, bytes, at_z, both.0, low_was f rises z.begin e both.1, gives)
