-- Looks among the operations on a file: all of them are tagged.
use Rattle.std.proofs.Common.{◌≡◌, ◌⊎◌, ℕ, zero, suc, ◌+◌, ◌*◌, ◌<◌, ◌≤◌, Bool, true, false, List, [], ◌∷◌, ◌++◌, length, map, refl, sym, ap, ◌∙◌, subst, inl, inr, Option, Some, None, is_some, arith}
use Rattle.std.specs.Prelude.{IsSome, Contains, slice_get, option_map}
use Rattle.std.proofs.lemmas.Bool.{ltb-true}
use Rattle.gq_grid.specs.Grid.{Grid}
use Rattle.gq_tag.specs.declared.Tag.{Tag}
use Rattle.gq_tag.specs.declared.StoredCopy.{StoredCopy}
use Rattle.gq_tag.specs.Tag.{first_tag, File, is_less}
use Rattle.gq_tag.proofs.Order.{IsAtMost, less_at_most}
use Rattle.gq_desk.specs.declared.plans.TenantRow.{TenantRow}
use Rattle.gq_phase.specs.Phase.{Writing}
use Rattle.gq_model.specs.Trace.{files_of, Turn, start, volumes}
use Rattle.gq_model.specs.Lone.{lone}
use Rattle.gq_laws.specs.Laws.{lone_operations, IsRising, answered_at}
use Rattle.gq_laws.specs.declared.ops.Op.{Op}
use Rattle.gq_laws.specs.Operations.{answered, operations, SessionAnswer, opened_in, begun_in, is_write, Gives, Precedes, At, WroteWith, Tagged}
use Rattle.gq_laws.specs.Orders.{order}
use Rattle.gq_laws.proofs.AllTagged.{all_tagged}
use Rattle.gq_laws.proofs.Beginnings.{OpAt, op_at, at_first}
use Rattle.gq_laws.proofs.Completed.{Completed, completed_op, MadeTag, made_tag, tagged_ended}
use Rattle.gq_laws.proofs.Opening.{listed_files, volume_files}
use Rattle.gq_laws.proofs.Ordering.{order_legal}
use Rattle.gq_laws.proofs.OtherPlaces.{moved_op, answered_at-moved, operations-moved, op_was, op_is, tagged-moved}
use Rattle.gq_laws.proofs.Reaching.{reach_between, reach_run, reach_extends}
use Rattle.gq_laws.proofs.Runs.{IsKnown, Settled}
use Rattle.gq_laws.proofs.Sessions.{settled_since}
use Rattle.gq_laws.proofs.Sorting.{order_is}
use Rattle.gq_laws.proofs.Sources.{Source, Before, Going, After, source}
use Rattle.gq_laws.proofs.Telling.{tells}
use Rattle.gq_looks.specs.Looks.{Look, IsLook, trace_at, copy_of, turn_place, look_op}
use Rattle.gq_looks.specs.Laws.{HasFile, AreLooks, with_looks, AllLooksTagged, AllLooksLegal}
use Rattle.gq_looks.proofs.Moments.{run_at, reach_at, extends_at}
use Rattle.gq_looks.proofs.Seeing.{look_least, look_settles, look_known}

-- ---- two lists, one behind the other

parted : (u v : List Op) (i : ℕ) (a : Op) → slice_get (u ++ v) i ≡ Some a → (slice_get u i ≡ Some a) ⊎ ((j : ℕ) × (i ≡ length u + j) × (slice_get v j ≡ Some a))
parted [] v i a h = inr (i, omega arith, h)
parted (x ∷ u) v zero a h = inl h
parted (x ∷ u) v (suc i) a h = go (parted u v i a h)
  where
    go : (slice_get u i ≡ Some a) ⊎ ((j : ℕ) × (i ≡ length u + j) × (slice_get v j ≡ Some a)) → (slice_get (x ∷ u) (suc i) ≡ Some a) ⊎ ((j : ℕ) × (suc i ≡ length (x ∷ u) + j) × (slice_get v j ≡ Some a))
    go (inl first) = inl first
    go (inr later) = inr (later.0, omega (arith, later.1), later.2)

-- an operation of a look
look_was : (looks : List Look) (j : ℕ) (a : Op) → slice_get (map look_op looks) j ≡ Some a → (look : Look) × Contains looks look × (look_op look ≡ a)
look_was [] j a h = absurd (let bad : None ≡ Some a = h in cc)
look_was (l ∷ looks) zero a h = (l, (0, omega arith, refl), (let same : look_op l ≡ a = cc in same))
look_was (l ∷ looks) (suc j) a h =
    let later = look_was looks j a h in
    let at = later.1 in
    (later.0, (suc at.0, omega (arith, at.1), at.2), later.2)

some_is : (x y : ℕ) → Some x ≡ Some y → x ≡ y
some_is x y h = cc

tag_is : (x y : Tag) → Some x ≡ Some y → x ≡ y
tag_is x y h = cc

turns_rise : IsRising turn_place
turns_rise i j low = omega (arith, low)

end_was : (end : Option ℕ) (e : ℕ) → option_map turn_place end ≡ Some e → (d : ℕ) × (end ≡ Some d) × (3 * d + 2 ≡ e)
end_was None e h = absurd (let bad : None ≡ Some e = h in cc)
end_was (Some d) e h = (d, refl, some_is (3 * d + 2) e h)

-- ---- the operations of the run

module _ (grid : Grid) (row : TenantRow) (turns : List Turn) (file : File) (has : HasFile grid row turns file) where
  -- the turns with their answers, and the operations on the file as they stand among these
  all_told : List SessionAnswer
  all_told = tells grid row start 0 turns

  there : file.place < files_of (opened_in (tells grid row start 0 turns)) file.volume
  there = ltb-true file.place (files_of (opened_in (tells grid row start 0 turns)) file.volume) has

  ops_are : lone_operations grid row turns file ≡ begun_in file (tells grid row start 0 turns)
  ops_are = rw has refl

  moved_are : operations (answered_at turn_place turns (lone grid row turns)) file ≡ map (moved_op turn_place) (lone_operations grid row turns file)
  moved_are = ap (λ z. operations z file) (answered_at-moved turn_place turn_place 0 (λ i. ap turn_place (none i)) turns (lone grid row turns)) ∙ operations-moved turn_place (answered turns (lone grid row turns)) file
    where
      none : (i : ℕ) → i ≡ 0 + i
      none i = omega arith

  -- an operation, with the one that it is where places are those of turns
  record OfRun (i : ℕ) (a : Op) : Type 0 where
    own : Op
    at : slice_get (begun_in file (tells grid row start 0 turns)) i ≡ Some own
    moved : moved_op turn_place own ≡ a

  of_run : (i : ℕ) (a : Op) → slice_get (map (moved_op turn_place) (lone_operations grid row turns file)) i ≡ Some a → OfRun i a
  of_run i a h =
      let was = op_was turn_place (lone_operations grid row turns file) i a h in
      record { own = was.0; at = sym (ap (λ (ops : List Op). slice_get ops i) ops_are) ∙ was.1; moved = was.2 }

  moment : (i : ℕ) (a : Op) (r : OfRun i a) → OpAt grid row file start 0 turns r.own
  moment i a r = op_at grid row file turns start 0 i r.own r.at

  -- a completed one, and a write with its tag
  over : (i d : ℕ) (a : Op) (r : OfRun i a) → r.own.end ≡ Some d → Completed grid row file start 0 turns r.own (moment i a r).q.trace d
  over i d a r ends =
      let o : OpAt grid row file start 0 turns r.own = moment i a r in
      completed_op grid row file start 0 turns r.own d tt o (λ f is.
      let asks = o.begun.asks ∙ ap Some is in
      omega (arith, there, listed_files grid row start o.q 0 o.m turns o.x o.rest o.begun.line file.volume f o.begun.g o.reach refl o.begun.turn asks, volume_files (volumes o.q.trace) o.begun.line file.volume f asks)) ends

  made : (i : ℕ) (a : Op) (tag : Tag) (r : OfRun i a) → is_write a ≡ true → a.tag ≡ Some tag → MadeTag grid row file start 0 turns r.own (moment i a r).q.trace tag
  made i a tag r writes tagged = made_tag grid row file start 0 turns r.own tag tt (moment i a r) (ap is_write r.moved ∙ writes) (ap (λ (z : Op). z.tag) r.moved ∙ tagged)

  -- what a look settled is settled as a later operation begins
  settled_then : (look : Look) → IsLook grid row turns file look → (j : ℕ) (b : Op) (r : OfRun j b) → 3 * look.end + 1 < b.begin → Settled grid (moment j b r).q.trace file (copy_of look).tag
  settled_then look is j b r low =
      let w : OpAt grid row file start 0 turns r.own = moment j b r in
      let begins : 3 * w.m + 2 ≡ b.begin = sym (ap (λ n. 3 * n + 2) w.begun.begin) ∙ ap (λ (z : Op). z.begin) r.moved in
      let before : look.end ≤ w.m = omega (arith, low, begins) in
      settled_since grid row w.q.trace (trace_at grid row turns look.end) file (copy_of look).tag (reach_run w.reach tt) (reach_extends (reach_between (reach_at grid row turns look.end is.within) w.reach before)) (look_settles grid row turns file look is)

  -- what an operation settled is no greater than a later look's copy
  op_look : (i : ℕ) (a : Op) (r : OfRun i a) (look : Look) → IsLook grid row turns file look → (e : ℕ) → a.end ≡ Some e → e < 3 * look.begin → (x : Tag) → a.tag ≡ Some x → IsAtMost x (copy_of look).tag
  op_look i a r look is e ends low x tagged =
      let d = end_was r.own.end e (ap (λ (z : Op). z.end) r.moved ∙ ends) in
      let A : Completed grid row file start 0 turns r.own (moment i a r).q.trace d.0 = over i d.0 a r d.1 in
      let same : A.c.tag ≡ x = tag_is A.c.tag x (sym A.tag ∙ ap (λ (z : Op). z.tag) r.moved ∙ tagged) in
      let before : d.0 ≤ look.begin = omega (arith, low, d.2) in
      let within : look.begin ≤ length turns = omega (arith, is.ends, is.within) in
      let settled : Settled grid (trace_at grid row turns look.begin) file A.c.tag = settled_since grid row (trace_at grid row turns look.begin) A.q.trace file A.c.tag (run_at grid row turns look.begin)
      (reach_extends (reach_between A.reach (reach_at grid row turns look.begin within) before)) A.settled in
      subst (λ (z : Tag). IsAtMost z (copy_of look).tag) same (look_least grid row turns file look A.c.tag is settled)

  look_look : (one two : Look) → IsLook grid row turns file one → IsLook grid row turns file two → 3 * one.end + 1 < 3 * two.begin → IsAtMost (copy_of one).tag (copy_of two).tag
  look_look one two is also low =
      let before : one.end ≤ two.begin = omega (arith, low) in
      let within : two.begin ≤ length turns = omega (arith, also.ends, also.within) in
      look_least grid row turns file two (copy_of one).tag also
      (settled_since grid row (trace_at grid row turns two.begin) (trace_at grid row turns one.end) file (copy_of one).tag (run_at grid row turns two.begin) (extends_at grid row turns one.end two.begin before within) (look_settles grid row turns file one is))

  look_write : (look : Look) → IsLook grid row turns file look → (j : ℕ) (b : Op) (r : OfRun j b) → 3 * look.end + 1 < b.begin → is_write b ≡ true → (y : Tag) → b.tag ≡ Some y → is_less (copy_of look).tag y ≡ true
  look_write look is j b r low writes y tagged = (made j b y r writes tagged).above (copy_of look).tag (settled_then look is j b r low)

  look_read : (look : Look) → IsLook grid row turns file look → (j : ℕ) (b : Op) (r : OfRun j b) → 3 * look.end + 1 < b.begin → is_write b ≡ false → (y : Tag) → b.tag ≡ Some y → IsAtMost (copy_of look).tag y
  look_read look is j b r low no_write y tagged =
      let end_b = tagged_ended grid row file start 0 turns r.own y (moment j b r) (ap is_write r.moved ∙ no_write) (ap (λ (z : Op). z.tag) r.moved ∙ tagged) in
      let B : Completed grid row file start 0 turns r.own (moment j b r).q.trace end_b.0 = over j end_b.0 b r end_b.1 in
      let same : B.c.tag ≡ y = tag_is B.c.tag y (sym B.tag ∙ ap (λ (z : Op). z.tag) r.moved ∙ tagged) in
      subst (IsAtMost (copy_of look).tag) same (B.least (copy_of look).tag (settled_then look is j b r low))

  -- where a look's copy comes from
  look_source : (looks : List Look) (look : Look) → IsLook grid row turns file look →
      (((copy_of look).tag ≡ first_tag) × Gives (look_op look) [])
      ⊎ ((j : ℕ) × (w : Op) × (bytes : List ℕ) × At (map (moved_op turn_place) (lone_operations grid row turns file) ++ map look_op looks) j w × WroteWith w (copy_of look).tag bytes × (w.begin < 3 * look.end + 1) × Gives (look_op look) bytes)
  look_source looks look is = go (look_known grid row turns file look is)
    where
      c : StoredCopy
      c = copy_of look

      Result : Type 0
      Result =
          ((c.tag ≡ first_tag) × Gives (look_op look) [])
          ⊎ ((j : ℕ) × (w : Op) × (bytes : List ℕ) × At (map (moved_op turn_place) (lone_operations grid row turns file) ++ map look_op looks) j w × WroteWith w c.tag bytes × (w.begin < 3 * look.end + 1) × Gives (look_op look) bytes)

      from : Source grid row start 0 turns look.end (record { file = file; copy = c }) → Result
      from (Before within) = absurd (omega (arith, within.1))
      from (Going k busy odd x) = absurd (let bad : None ≡ Some (Writing file c.bytes) = busy in cc)
      from (After j w at_w wrote before) =
          let lone_at : slice_get (lone_operations grid row turns file) j ≡ Some w = ap (λ (ops : List Op). slice_get ops j) ops_are ∙ at_w in
          inr (j, moved_op turn_place w, c.bytes, at_first (map (moved_op turn_place) (lone_operations grid row turns file)) (map look_op looks) j (moved_op turn_place w) (op_is turn_place (lone_operations grid row turns file) j w lone_at), (wrote.0, wrote.1), omega (arith, before), refl)

      go : IsKnown (trace_at grid row turns look.end) file c → Result
      go (inl first) = inl (ap (λ (z : StoredCopy). z.tag) first, ap (λ (z : StoredCopy). z.bytes) first)
      go (inr within) = from (source (record { file = file; copy = c }) (reach_at grid row turns look.end is.within) within)

  module _ (looks : List Look) (are : AreLooks grid row turns file looks) where
    own_tagged : Tagged (map (moved_op turn_place) (lone_operations grid row turns file))
    own_tagged = tagged-moved turn_place turns_rise (lone_operations grid row turns file) (all_tagged grid row turns file)

    -- one of the run, or a look
    data Which (i : ℕ) (a : Op) : Type 0 where
      Run : At (map (moved_op turn_place) (lone_operations grid row turns file)) i a → Which i a
      Looking : (look : Look) → IsLook grid row turns file look → look_op look ≡ a → Which i a

    which : (i : ℕ) (a : Op) → At (map (moved_op turn_place) (lone_operations grid row turns file) ++ map look_op looks) i a → Which i a
    which i a h = by (parted (map (moved_op turn_place) (lone_operations grid row turns file)) (map look_op looks) i a h)
      where
        by : (slice_get (map (moved_op turn_place) (lone_operations grid row turns file)) i ≡ Some a) ⊎ ((j : ℕ) × (i ≡ length (map (moved_op turn_place) (lone_operations grid row turns file)) + j) × (slice_get (map look_op looks) j ≡ Some a)) → Which i a
        by (inl first) = Run first
        by (inr later) = let was = look_was looks later.0 a later.2 in Looking was.0 (are was.0 was.1) was.2

    no_write : (look : Look) (a : Op) → look_op look ≡ a → is_write a ≡ false
    no_write look a same = sym (ap is_write same)

    both_ways : (b : Bool) → b ≡ true → b ≡ false → ⊥
    both_ways b one other = cc

    ends_later : (i e : ℕ) (a : Op) → Which i a → a.end ≡ Some e → a.begin < e
    ends_later i e a (Run at) ends = own_tagged.ends_later i e a at ends
    ends_later i e a (Looking look is same) ends =
        let last : 3 * look.end + 1 ≡ e = some_is (3 * look.end + 1) e (ap (λ (z : Op). z.end) same ∙ ends) in
        let first : 3 * look.begin ≡ a.begin = ap (λ (z : Op). z.begin) same in
        omega (arith, last, first, is.ends)

    completed : (i : ℕ) (a : Op) → Which i a → IsSome a.end → IsSome a.tag
    completed i a (Run at) h = own_tagged.completed i a at h
    completed i a (Looking look is same) h = ap (λ (z : Op). is_some z.tag) (sym same)

    differ : (i j : ℕ) (a b : Op) (tag : Tag) → Which i a → Which j b → is_write a ≡ true → is_write b ≡ true → a.tag ≡ Some tag → b.tag ≡ Some tag → i ≡ j
    differ i j a b tag (Run at_a) (Run at_b) wa wb ta tb = own_tagged.write_tags_differ i j a b tag at_a at_b wa wb ta tb
    differ i j a b tag (Looking look is same) at_b wa wb ta tb = absurd (both_ways (is_write a) wa (no_write look a same))
    differ i j a b tag (Run at_a) (Looking look is same) wa wb ta tb = absurd (both_ways (is_write b) wb (no_write look b same))

    not_first : (i : ℕ) (a : Op) → Which i a → is_write a ≡ true → a.tag ≡ Some first_tag → ⊥
    not_first i a (Run at) wa ta = own_tagged.write_tags_not_first i a at wa ta
    not_first i a (Looking look is same) wa ta = both_ways (is_write a) wa (no_write look a same)

    rises : (i j : ℕ) (a b : Op) (x y : Tag) → Which i a → Which j b → Precedes a b → a.tag ≡ Some x → b.tag ≡ Some y → is_less y x ≡ false
    rises i j a b x y (Run at_a) (Run at_b) before ta tb = own_tagged.rising i j a b x y at_a at_b before ta tb
    rises i j a b x y (Run at_a) (Looking look is same) before ta tb =
        let begins : 3 * look.begin ≡ b.begin = ap (λ (z : Op). z.begin) same in
        let tags : (copy_of look).tag ≡ y = tag_is (copy_of look).tag y (ap (λ (z : Op). z.tag) same ∙ tb) in
        subst (IsAtMost x) tags (op_look i a (of_run i a at_a) look is before.0 before.1 (omega (arith, begins, before.2)) x ta)
    rises i j a b x y (Looking look is same) (Run at_b) before ta tb =
        let last : 3 * look.end + 1 ≡ before.0 = some_is (3 * look.end + 1) before.0 (ap (λ (z : Op). z.end) same ∙ before.1) in
        let tags : (copy_of look).tag ≡ x = tag_is (copy_of look).tag x (ap (λ (z : Op). z.tag) same ∙ ta) in
        let low : 3 * look.end + 1 < b.begin = omega (arith, last, before.2) in
        subst (λ (z : Tag). IsAtMost z y) tags (either (is_write b) refl low)
      where
        either : (w : Bool) → is_write b ≡ w → 3 * look.end + 1 < b.begin → IsAtMost (copy_of look).tag y
        either true wb low = less_at_most (copy_of look).tag y (look_write look is j b (of_run j b at_b) low wb y tb)
        either false wb low = look_read look is j b (of_run j b at_b) low wb y tb
    rises i j a b x y (Looking one is same) (Looking two also other) before ta tb =
        let last : 3 * one.end + 1 ≡ before.0 = some_is (3 * one.end + 1) before.0 (ap (λ (z : Op). z.end) same ∙ before.1) in
        let begins : 3 * two.begin ≡ b.begin = ap (λ (z : Op). z.begin) other in
        let x_is : (copy_of one).tag ≡ x = tag_is (copy_of one).tag x (ap (λ (z : Op). z.tag) same ∙ ta) in
        let y_is : (copy_of two).tag ≡ y = tag_is (copy_of two).tag y (ap (λ (z : Op). z.tag) other ∙ tb) in
        subst (λ (z : Tag). IsAtMost z y) x_is (subst (IsAtMost (copy_of one).tag) y_is (look_look one two is also (omega (arith, last, begins, before.2))))

    writes_rise : (i j : ℕ) (a b : Op) (x y : Tag) → Which i a → Which j b → Precedes a b → is_write b ≡ true → a.tag ≡ Some x → b.tag ≡ Some y → is_less x y ≡ true
    writes_rise i j a b x y (Run at_a) (Run at_b) before wb ta tb = own_tagged.writes_rise i j a b x y at_a at_b before wb ta tb
    writes_rise i j a b x y at_a (Looking look is same) before wb ta tb = absurd (both_ways (is_write b) wb (no_write look b same))
    writes_rise i j a b x y (Looking look is same) (Run at_b) before wb ta tb =
        let last : 3 * look.end + 1 ≡ before.0 = some_is (3 * look.end + 1) before.0 (ap (λ (z : Op). z.end) same ∙ before.1) in
        let tags : (copy_of look).tag ≡ x = tag_is (copy_of look).tag x (ap (λ (z : Op). z.tag) same ∙ ta) in
        subst (λ (z : Tag). is_less z y ≡ true) tags (look_write look is j b (of_run j b at_b) (omega (arith, last, before.2)) wb y tb)

    abbrev SourceOf : (e : ℕ) (a : Op) (tag : Tag) → Type 0
    SourceOf e a tag =
        ((tag ≡ first_tag) × Gives a [])
        ⊎ ((j : ℕ) × (w : Op) × (bytes : List ℕ) × At (map (moved_op turn_place) (lone_operations grid row turns file) ++ map look_op looks) j w × WroteWith w tag bytes × (w.begin < e) × Gives a bytes)

    sourced : (i e : ℕ) (a : Op) (tag : Tag) → Which i a → is_write a ≡ false → a.end ≡ Some e → a.tag ≡ Some tag → SourceOf e a tag
    sourced i e a tag (Run at) none ends tagged = more (own_tagged.sourced i e a tag at none ends tagged)
      where
        more : ((tag ≡ first_tag) × Gives a []) ⊎ ((j : ℕ) × (w : Op) × (bytes : List ℕ) × At (map (moved_op turn_place) (lone_operations grid row turns file)) j w × WroteWith w tag bytes × (w.begin < e) × Gives a bytes) → SourceOf e a tag
        more (inl first) = inl first
        more (inr (j, w, bytes, at_w, wrote, before, gives)) = inr (j, w, bytes, at_first (map (moved_op turn_place) (lone_operations grid row turns file)) (map look_op looks) j w at_w, wrote, before, gives)
    sourced i e a tag (Looking look is same) none ends tagged =
        let last : 3 * look.end + 1 ≡ e = some_is (3 * look.end + 1) e (ap (λ (z : Op). z.end) same ∙ ends) in
        let tags : (copy_of look).tag ≡ tag = tag_is (copy_of look).tag tag (ap (λ (z : Op). z.tag) same ∙ tagged) in
        subst (λ (z : Op). SourceOf e z tag) same (subst (λ (z : Tag). SourceOf e (look_op look) z) tags (subst (λ n. SourceOf n (look_op look) (copy_of look).tag) last (look_source looks look is)))

    all_are_tagged : Tagged (map (moved_op turn_place) (lone_operations grid row turns file) ++ map look_op looks)
    all_are_tagged = record {
      ends_later = λ i e a at ends. ends_later i e a (which i a at) ends;
      completed = λ i a at h. completed i a (which i a at) h;
      write_tags_differ = λ i j a b tag at_a at_b wa wb ta tb. differ i j a b tag (which i a at_a) (which j b at_b) wa wb ta tb;
      write_tags_not_first = λ i a at wa ta. not_first i a (which i a at) wa ta;
      rising = λ i j a b x y at_a at_b before ta tb. rises i j a b x y (which i a at_a) (which j b at_b) before ta tb;
      writes_rise = λ i j a b x y at_a at_b before wb ta tb. writes_rise i j a b x y (which i a at_a) (which j b at_b) before wb ta tb;
      sourced = λ i e a tag at none ends tagged. sourced i e a tag (which i a at) none ends tagged;
    }

    pub with_looks_tagged : Tagged (with_looks grid row turns file looks)
    with_looks_tagged = subst (λ (ops : List Op). Tagged (ops ++ map look_op looks)) (sym moved_are) all_are_tagged

pub looks_tagged : AllLooksTagged
looks_tagged grid row turns file looks has are = with_looks_tagged grid row turns file has looks are

pub looks_legal : AllLooksLegal
looks_legal grid row turns file looks has are = order_legal (with_looks grid row turns file looks) (order (with_looks grid row turns file looks)) (looks_tagged grid row turns file looks has are) (order_is (with_looks grid row turns file looks))
