-- The ways of shards through a text.
use Rattle.std.proofs.Common.{◌≡◌, ◌≢◌, ◌⊎◌, ◌∙◌, ℕ, suc, ◌+◌, ◌-◌, ◌<◌, ◌≤◌, Bool, true, false, List, [], ◌∷◌, ◌++◌, length, get_or, set, drop, refl, sym, ap, subst, inl, inr, arith, cond, append_assoc, append-nil, length-append, length-drop}
use Rattle.std.specs.Prelude.{◌==◌, Result, Ok, Err, IfOk}
use Rattle.std.proofs.lemmas.Bool.{cases_eq, ne_eqb, eq-eqb}
use Rattle.std.proofs.lemmas.Grind.{flat_map-append}
use Rattle.std.proofs.lemmas.List.Elements.{All-append}
use Rattle.std.proofs.lemmas.List.{drop-drop, map-append, get_or_default, get_or-set_same, get_or-set_other}
use Rattle.gq_desk.specs.CheckedPlan.{CheckedPlan}
use Rattle.gq_text.specs.Input.{event_of}
use Rattle.gq_lines.specs.Lines.{lines_of, before_first}
use Rattle.gq_world.specs.Tables.{Tables}
use Rattle.gq_shards.specs.declared.dealing.Dealt.{Dealt}
use Rattle.gq_shards.specs.declared.dealing.Section.{Section}
use Rattle.gq_shards.specs.declared.lengths.LengthPlace.{LengthPlace}
use Rattle.gq_shards.specs.declared.lengths.Lengths.{Lengths}
use Rattle.gq_shards.specs.declared.ways.Way.{Way}
use Rattle.gq_shards.specs.Shards.{mark_of, marks_of, tells, sees_mark, gaps_of, AreDealt, AreLeft, AreListed, HasWays, IsFirstWay, Stops}
use Rattle.gq_shards.proofs.Listing.{some_listed, fewer_left}
use Rattle.gq_shards.proofs.Seeing.{sees_event, Tells, tells_unseen}

-- ---- a way while the marks are made

-- behind the lines that were passed these are left, and the way with their gaps has all
pub record Goes (shard : ℕ) (way : Way) (place : ℕ) (marks : List ℕ) (lines : List (List ℕ)) (every : List ℕ) : Type 0 where
  pub before : way.end ≤ place
  pub gaps : List ℕ
  pub listed : AreListed way.gaps gaps
  pub rest : gaps ++ gaps_of shard (place - way.end) marks lines ≡ every

pub goes_first : (shard : ℕ) (way : Way) (marks : List ℕ) (lines : List (List ℕ)) → IsFirstWay way → Goes shard way 0 marks lines (gaps_of shard 0 marks lines)
goes_first shard way marks lines first = record {
  before = omega (arith, first.end);
  gaps = [];
  listed = first.gaps;
  rest = ap (λ p. gaps_of shard p marks lines) (omega (arith, first.end));
}

pub goes_more : (shard : ℕ) (old new : Way) (place after mark : ℕ) (marks line : List ℕ) (lines : List (List ℕ)) (every : List ℕ) → Goes shard old place (mark ∷ marks) (line ∷ lines) every → after ≡ place + length line + 1
    → Stops (sees_mark shard mark) place after old new → Goes shard new after marks lines every
goes_more shard old new place after mark marks line lines every g is stops = by (sees_mark shard mark) refl stops
  where
    by : (b : Bool) → sees_mark shard mark ≡ b → Stops b place after old new → Goes shard new after marks lines every
    by true seen (end_is, grows) =
        let step : gaps_of shard (place - old.end) (mark ∷ marks) (line ∷ lines) ≡ (place - old.end) ∷ gaps_of shard 0 marks lines = rw seen refl in
        let none : after - new.end ≡ 0 = omega (arith, end_is) in
        record {
          before = omega (arith, end_is);
          gaps = g.gaps ++ (place - old.end) ∷ [];
          listed = grows g.gaps g.listed;
          rest = append_assoc g.gaps ((place - old.end) ∷ []) (gaps_of shard (after - new.end) marks lines)
              ∙ (ap (λ p. g.gaps ++ (place - old.end) ∷ gaps_of shard p marks lines) none ∙ (ap (λ z. g.gaps ++ z) (sym step) ∙ g.rest));
        }
    by false unseen same =
        let step : gaps_of shard (place - old.end) (mark ∷ marks) (line ∷ lines) ≡ gaps_of shard (place - old.end + length line + 1) marks lines = rw unseen refl in
        let further : after - old.end ≡ place - old.end + length line + 1 = omega (arith, is, g.before) in
        subst (λ (w : Way). Goes shard w after marks lines every) (sym same) (record {
          before = omega (arith, is, g.before);
          gaps = g.gaps;
          listed = g.listed;
          rest = ap (λ p. g.gaps ++ gaps_of shard p marks lines) further ∙ (ap (λ z. g.gaps ++ z) (sym step) ∙ g.rest);
        })

pub goes_all : (shard : ℕ) (way : Way) (place : ℕ) (marks : List ℕ) (lines : List (List ℕ)) (every : List ℕ) → Goes shard way place marks lines every → marks ≡ [] → AreListed way.gaps every
goes_all shard way place marks lines every g none =
    let all : g.gaps ≡ every = sym (append-nil g.gaps) ∙ (ap (λ (ms : List ℕ). g.gaps ++ gaps_of shard (place - way.end) ms lines) (sym none) ∙ g.rest) in
    subst (AreListed way.gaps) all g.listed

-- ---- lines by their bytes

some_line : (text : List ℕ) → lines_of text ≡ [] → text ≡ []
some_line [] none = refl
some_line (x ∷ xs) none = by (x == 10) (lines_of xs) none
  where
    by : (b : Bool) (ls : List (List ℕ)) → cond b ([] ∷ ls) (before_first x ls) ≡ [] → x ∷ xs ≡ []
    by true ls never = absurd (let no : [] ∷ ls ≡ [] = never in cc)
    by false [] never = absurd (let no : (x ∷ []) ∷ [] ≡ [] = never in cc)
    by false (l ∷ ls) never = absurd (let no : (x ∷ l) ∷ ls ≡ [] = never in cc)

-- behind the first line, which is no longer than the text, come the others
pub lines_behind : (text line : List ℕ) (lines : List (List ℕ)) → lines_of text ≡ line ∷ lines → (length line ≤ length text) × (lines_of (drop (suc (length line)) text) ≡ lines)
lines_behind [] line lines is = absurd (let no : [] ≡ line ∷ lines = is in cc)
lines_behind (x ∷ xs) line lines is = by (x == 10) is (lines_of xs) refl (λ l ls here. lines_behind xs l ls here)
  where
    by : (b : Bool) → cond b ([] ∷ lines_of xs) (before_first x (lines_of xs)) ≡ line ∷ lines → (rest : List (List ℕ)) → lines_of xs ≡ rest
        → ((l : List ℕ) (ls : List (List ℕ)) → lines_of xs ≡ l ∷ ls → (length l ≤ length xs) × (lines_of (drop (suc (length l)) xs) ≡ ls))
        → (length line ≤ length (x ∷ xs)) × (lines_of (drop (suc (length line)) (x ∷ xs)) ≡ lines)
    by true first rest at later =
        let line_is : [] ≡ line = cc first in
        let lines_are : lines_of xs ≡ lines = cc first in
        rw (← line_is) (omega arith, lines_are)
    by false first [] at later =
        let whole : (x ∷ []) ∷ [] ≡ line ∷ lines = ap (before_first x) (sym at) ∙ first in
        let line_is : x ∷ [] ≡ line = cc whole in
        let lines_are : [] ≡ lines = cc whole in
        let end : xs ≡ [] = some_line xs at in
        rw (← line_is, ← lines_are, end) (omega arith, refl)
    by false first (l ∷ ls) at later =
        let whole : (x ∷ l) ∷ ls ≡ line ∷ lines = ap (before_first x) (sym at) ∙ first in
        let line_is : x ∷ l ≡ line = cc whole in
        let lines_are : ls ≡ lines = cc whole in
        let more = later l ls at in
        rw (← line_is, ← lines_are) (omega (arith, more.0), more.1)

-- the same of a line that begins at a place
pub line_behind : (text first words : List ℕ) (place : ℕ) (lines : List (List ℕ)) → place < length text → lines_of (drop place text) ≡ (first ++ words) ∷ lines
    → (place + length first + length words ≤ length text) × (lines_of (drop (place + length first + length words + 1) text) ≡ lines)
line_behind text first words place lines below is =
    let behind = lines_behind (drop place text) (first ++ words) lines is in
    let after : place + suc (length (first ++ words)) ≡ place + length first + length words + 1 = omega (arith, length-append first words) in
    (omega (arith, behind.0, length-append first words, length-drop place text, below), ap (λ m. lines_of (drop m text)) (sym after) ∙ (ap lines_of (sym (drop-drop (suc (length (first ++ words))) place text)) ∙ behind.1))

-- ---- a shard that finds the lines that it sees

-- behind so many bytes of a text lies the next line that the shard sees
pub record Found (n k : ℕ) (plan : CheckedPlan) (world : Tables) (text : List ℕ) (lengths : Lengths) (gap : ℕ) (bytes gaps : List ℕ) (more all : List (List ℕ)) : Type 0 where
  pub line : List ℕ
  pub lines : List (List ℕ)
  pub is : lines_of (drop gap bytes) ≡ line ∷ lines
  pub seen : sees_event n k (event_of plan line) ≡ true
  pub gaps_are : gaps_of k 0 (marks_of plan n lines) lines ≡ gaps
  pub tells : Tells n k plan world text lengths (line ∷ (lines ++ more)) all

drop_further : (bytes : List ℕ) (passed size gap : ℕ) → passed + size + 1 ≤ gap → drop (gap - (passed + size + 1)) (drop (suc size) bytes) ≡ drop (gap - passed) bytes
drop_further bytes passed size gap less = drop-drop (gap - (passed + size + 1)) (suc size) bytes ∙ ap (λ m. drop m bytes) (omega (arith, less))

-- the same in a text that is behind so many bytes of another
further : (n k : ℕ) (plan : CheckedPlan) (world : Tables) (text : List ℕ) (lengths : Lengths) (gap rest : ℕ) (bytes behind gaps : List ℕ) (more all : List (List ℕ)) → drop rest behind ≡ drop gap bytes
    → Found n k plan world text lengths rest behind gaps more all → Found n k plan world text lengths gap bytes gaps more all
further n k plan world text lengths gap rest bytes behind gaps more all same f = record {
  line = f.line;
  lines = f.lines;
  is = ap lines_of (sym same) ∙ f.is;
  seen = f.seen;
  gaps_are = f.gaps_are;
  tells = f.tells;
}

pub found : (n k : ℕ) (plan : CheckedPlan) (world : Tables) (text : List ℕ) (lengths : Lengths) (passed gap : ℕ) (bytes gaps : List ℕ) (lines more all : List (List ℕ)) → lines_of bytes ≡ lines
    → gaps_of k passed (marks_of plan n lines) lines ≡ gap ∷ gaps → Tells n k plan world text lengths (lines ++ more) all
    → (passed ≤ gap) × Found n k plan world text lengths (gap - passed) bytes gaps more all
found n k plan world text lengths passed gap bytes gaps [] more all are left so_far = absurd (let no : [] ≡ gap ∷ gaps = left in cc)
found n k plan world text lengths passed gap bytes gaps (line ∷ lines) more all are left so_far =
    by (sees_event n k (event_of plan line)) refl (λ further. found n k plan world text lengths (passed + length line + 1) gap (drop (suc (length line)) bytes) gaps lines more all (lines_behind bytes line lines are).1 further)
  where
    by : (b : Bool) → sees_event n k (event_of plan line) ≡ b
        → (gaps_of k (passed + length line + 1) (marks_of plan n lines) lines ≡ gap ∷ gaps → Tells n k plan world text lengths (lines ++ more) all → (passed + length line + 1 ≤ gap) × Found n k plan world text lengths (gap - (passed + length line + 1)) (drop (suc (length line)) bytes) gaps more all)
        → (passed ≤ gap) × Found n k plan world text lengths (gap - passed) bytes gaps more all
    by true seen later =
        let here : passed ∷ gaps_of k 0 (marks_of plan n lines) lines ≡ gap ∷ gaps = rw seen at left in
        let same : passed ≡ gap = cc here in
        let none : gap - passed ≡ 0 = omega (arith, same) in (
          omega (arith, same),
          record {
            line = line;
            lines = lines;
            is = rw none are;
            seen = seen;
            gaps_are = cc here;
            tells = so_far;
          },
        )
    by false unseen later =
        let behind : gaps_of k (passed + length line + 1) (marks_of plan n lines) lines ≡ gap ∷ gaps = rw unseen at left in
        let next = later behind (tells_unseen n k plan world text lengths line (lines ++ more) all so_far unseen) in
        (omega (arith, next.0), further n k plan world text lengths (gap - passed) (gap - (passed + length line + 1)) bytes (drop (suc (length line)) bytes) gaps more all (drop_further bytes passed (length line) gap next.0) next.1)

-- the shard sees no more of them
pub found_none : (n k : ℕ) (plan : CheckedPlan) (world : Tables) (text : List ℕ) (lengths : Lengths) (passed : ℕ) (lines more all : List (List ℕ)) → gaps_of k passed (marks_of plan n lines) lines ≡ []
    → Tells n k plan world text lengths (lines ++ more) all → Tells n k plan world text lengths more all
found_none n k plan world text lengths passed [] more all none so_far = so_far
found_none n k plan world text lengths passed (line ∷ lines) more all none so_far =
    by (sees_event n k (event_of plan line)) refl (λ further. found_none n k plan world text lengths (passed + length line + 1) lines more all further)
  where
    by : (b : Bool) → sees_event n k (event_of plan line) ≡ b
        → (gaps_of k (passed + length line + 1) (marks_of plan n lines) lines ≡ [] → Tells n k plan world text lengths (lines ++ more) all → Tells n k plan world text lengths more all)
        → Tells n k plan world text lengths more all
    by true seen later = absurd (let no : passed ∷ gaps_of k 0 (marks_of plan n lines) lines ≡ [] = rw seen at none in cc)
    by false unseen later =
        let further : gaps_of k (passed + length line + 1) (marks_of plan n lines) lines ≡ [] = rw unseen at none in
        later further (tells_unseen n k plan world text lengths line (lines ++ more) all so_far unseen)

-- ---- the ways that go on at a line

-- where one shard alone sees it
pub stops_one : (old : List Way) (place after mark k : ℕ) (w d e : Way) → (mark == 0) ≡ false → k < length old → mark - 1 < length old → Stops true place after (get_or old (mark - 1) e) w
    → Stops (sees_mark k mark) place after (get_or old k d) (get_or (set old (mark - 1) w) k d)
stops_one old place after mark k w d e some inside below stops = by (cases_eq k (mark - 1))
  where
    by : (k ≡ mark - 1) ⊎ (k ≢ mark - 1) → Stops (sees_mark k mark) place after (get_or old k d) (get_or (set old (mark - 1) w) k d)
    by (inl same) =
        let yes : tells k mark ≡ true = eq-eqb (mark - 1) k (sym same) in
        let seen : sees_mark k mark ≡ true = rw (some, yes) refl in
        let placed : get_or (set old (mark - 1) w) k d ≡ w = ap (λ i. get_or (set old (mark - 1) w) i d) same ∙ get_or-set_same old (mark - 1) w d below in
        let was : get_or old (mark - 1) e ≡ get_or old k d = get_or_default old (mark - 1) e d below ∙ ap (λ i. get_or old i d) (sym same) in
        rw (seen, placed, ← was) stops
    by (inr other) =
        let no : tells k mark ≡ false = ne_eqb (mark - 1) k (λ s. other (sym s)) in
        let unseen : sees_mark k mark ≡ false = rw (some, no) refl in
        rw unseen (get_or-set_other old (mark - 1) k w d other)

-- a text from which a line is left goes on
text_left : (bytes : List ℕ) (gap : ℕ) (line : List ℕ) (lines : List (List ℕ)) → lines_of (drop gap bytes) ≡ line ∷ lines → gap < length bytes
text_left bytes gap line lines is = by (drop gap bytes) refl is
  where
    by : (rest : List ℕ) → drop gap bytes ≡ rest → lines_of rest ≡ line ∷ lines → gap < length bytes
    by [] at never = absurd (let no : [] ≡ line ∷ lines = never in cc)
    by (x ∷ rest) at some = let more : length (drop gap bytes) ≡ suc (length rest) = ap length at in omega (arith, more, length-drop gap bytes)

-- behind the next gap of a shard's list lies its next line
pub record Next (n k : ℕ) (plan : CheckedPlan) (world : Tables) (text : List ℕ) (lengths list : Lengths) (place after : LengthPlace) (gap : ℕ) (bytes : List ℕ) (more all : List (List ℕ)) : Type 0 where
  pub line : List ℕ
  pub lines : List (List ℕ)
  pub is : lines_of (drop gap bytes) ≡ line ∷ lines
  pub within : gap < length bytes
  pub seen : sees_event n k (event_of plan line) ≡ true
  pub left : AreLeft list after (gaps_of k 0 (marks_of plan n lines) lines)
  pub smaller : length list.near.items - after.near < length list.near.items - place.near
  pub tells : Tells n k plan world text lengths (line ∷ (lines ++ more)) all

pub next_found : {n k : ℕ} {plan : CheckedPlan} {world : Tables} {text : List ℕ} {lengths list : Lengths} {place after : LengthPlace} {gap : ℕ} {bytes : List ℕ} {more all : List (List ℕ)} → AreLeft list place (gaps_of k 0 (marks_of plan n (lines_of bytes)) (lines_of bytes))
    → place.near < length list.near.items → ((g : ℕ) (gs : List ℕ) → AreLeft list place (g ∷ gs) → (gap ≡ g) × AreLeft list after gs)
    → Tells n k plan world text lengths (lines_of bytes ++ more) all → Next n k plan world text lengths list place after gap bytes more all
next_found {n} {k} {plan} {world} {text} {lengths} {list} {place} {after} {gap} {bytes} {more} {all} left some reads so_far =
    let (g, gs, are) = some_listed list place (gaps_of k 0 (marks_of plan n (lines_of bytes)) (lines_of bytes)) left some in
    let now : AreLeft list place (g ∷ gs) = subst (AreLeft list place) are left in
    let read = reads g gs now in
    let f = (found n k plan world text lengths 0 g bytes gs (lines_of bytes) more all refl are so_far).1 in
    let same : g - 0 ≡ gap = omega (arith, read.0) in
    let here : lines_of (drop gap bytes) ≡ f.line ∷ f.lines = ap (λ m. lines_of (drop m bytes)) (sym same) ∙ f.is in
    record {
      line = f.line;
      lines = f.lines;
      is = here;
      within = text_left bytes gap f.line f.lines here;
      seen = f.seen;
      left = subst (AreLeft list after) (sym f.gaps_are) read.1;
      smaller = fewer_left list place after g gs now read.1;
      tells = f.tells;
    }

-- ---- lines that are dealt out in sections

pub dealt_both : {E : Type 0} (plan : CheckedPlan) (n : ℕ) (lines front back : List (List ℕ)) (first second : Dealt) (dealt : Result Dealt E) → lines ≡ front ++ back → AreDealt plan n front first → AreDealt plan n back second
    → IfOk dealt (λ d. d.marks.items ≡ first.marks.items ++ second.marks.items) → IfOk dealt (λ d. d.sections.items ≡ first.sections.items ++ second.sections.items) → IfOk dealt (λ d. AreDealt plan n lines d)
dealt_both plan n lines front back first second (Err e) cut one other marks sections = tt
dealt_both plan n lines front back first second (Ok dealt) cut one other marks sections = record {
  whole = rw sections (flat_map-append (λ (section : Section). lines_of section.lines.now) first.sections.items second.sections.items ∙ (rw (one.whole, other.whole) (sym cut)));
  marks = marks ∙ (rw (one.marks, other.marks, cut) (sym (map-append (λ line. mark_of n (event_of plan line)) front back)));
  ways = rw sections (All-append (HasWays plan n) first.sections.items second.sections.items one.ways other.ways);
}
