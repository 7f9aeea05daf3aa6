-- The operations that are read off what a run does to sessions and servers are those that are read off all its turns.
use Rattle.std.proofs.Common.{◌≡◌, ℕ, zero, suc, ◌+◌, ◌≤◌, Bool, true, false, List, [], ◌∷◌, ◌++◌, refl, sym, ap, ap₂, ◌∙◌, subst, Option, Some, None, eqb, arith, min, add-one}
use Rattle.std.specs.Prelude.{slice_get, slice_index, nat_le, is_some, not, ◌&&◌, ⊤, if◌then◌else◌}
use Rattle.std.specs.List.{list_any}
use Rattle.gq_grid.specs.Grid.{Grid, Servers}
use Rattle.gq_tag.specs.declared.StoredCopy.{StoredCopy}
use Rattle.gq_tag.specs.Tag.{File, OwnMessage, is_file}
use Rattle.gq_desk.specs.declared.plans.TenantRow.{TenantRow}
use Rattle.gq_phase.specs.Quorums.{are_peers}
use Rattle.gq_model.specs.declared.events.Line.{Line}
use Rattle.gq_model.specs.declared.events.ServerLine.{ServerLine}
use Rattle.gq_model.specs.declared.events.ServerLine.TheVariants.{Bad as BadServer, Down, Up, Lost as ServerLost, Repaired as ServerRepaired}
use Rattle.gq_model.specs.declared.events.ServerRefusal.{ServerRefusal}
use Rattle.gq_model.specs.declared.events.ServerRefusal.TheVariants.{Same}
use Rattle.gq_model.specs.declared.events.Line.TheVariants.{Write, Read, List as ListFiles, Deliver, Retry, Abandon}
use Rattle.gq_model.specs.declared.events.Refusal.TheVariants.{Spent, Busy, NoMessage}
use Rattle.gq_model.specs.Told.{Told, Began, Round, Done, Abandoned, Refused, ServerOk, ServerRefused}
use Rattle.gq_model.specs.Said.{said_in}
use Rattle.gq_model.specs.Trace.{Turn, Own, Serving, Leaping, Losing, Returning, State, Past, questions, sent, up, gone}
use Rattle.gq_model.specs.Lone.{after, said, step_at, message_of_turn, server_told, server_refusal, server_done, leap_told, loss_told, is_counted, return_told, equal_copies, quiet, deliver_step}
use Rattle.gq_laws.specs.Operations.{SessionAnswer, ending, write_tag, begun_at, begun_in}
use Rattle.gq_laws.specs.Laws.{IsRising}
use Rattle.gq_laws.proofs.Words.{message_at}
use Rattle.gq_laws.proofs.Acts.{message_sent, sessions}
use Rattle.gq_laws.proofs.Telling.{first_told, tells, tells-cons}
use Rattle.gq_cluster.specs.Cluster.{Exchange}
use Rattle.gq_cluster.specs.Laws.{arrival_by, turn_exchanges, exchanges_from}
use Rattle.gq_cluster.specs.Operations.{told_in, turn_in, session_in, answers_at}

-- ---- the same is read off two lists

pub record SameReading (xs ys : List SessionAnswer) : Type 0 where
  pub ends : (k : ℕ) → ending k xs ≡ ending k ys
  pub tags : (k : ℕ) → write_tag k xs ≡ write_tag k ys
  pub begins : (file : File) → begun_in file xs ≡ begun_in file ys

-- what begins, turns and ends no operation
abbrev IsSilent : Told → Type 0
IsSilent (Began op first count) = ⊥
IsSilent (Round round tag first count) = ⊥
IsSilent (Done outcome) = ⊥
IsSilent Abandoned = ⊥
IsSilent _ = ⊤

silent_ends : (k n s : ℕ) (turn : Turn) (told : Told) (rest : List SessionAnswer) → IsSilent told → ending k (record { place = n; turn = turn; told = told; session = s } ∷ rest) ≡ ending k rest
silent_ends k n s turn told rest silent = by (eqb s k) refl told silent
  where
    by : (b : Bool) → eqb s k ≡ b → (told : Told) → IsSilent told → ending k (record { place = n; turn = turn; told = told; session = s } ∷ rest) ≡ ending k rest
    by false e told silent = rw e refl
    by true e (Done outcome) silent = absurd silent
    by true e Abandoned silent = absurd silent
    by true e (Began op first count) silent = absurd silent
    by true e told silent = rw e refl

silent_tags : (k n s : ℕ) (turn : Turn) (told : Told) (rest : List SessionAnswer) → IsSilent told → write_tag k (record { place = n; turn = turn; told = told; session = s } ∷ rest) ≡ write_tag k rest
silent_tags k n s turn told rest silent = by (eqb s k) refl told silent
  where
    by : (b : Bool) → eqb s k ≡ b → (told : Told) → IsSilent told → write_tag k (record { place = n; turn = turn; told = told; session = s } ∷ rest) ≡ write_tag k rest
    by false e told silent = rw e refl
    by true e (Round round tag first count) silent = absurd silent
    by true e (Done outcome) silent = absurd silent
    by true e Abandoned silent = absurd silent
    by true e (Began op first count) silent = absurd silent
    by true e told silent = rw e refl

silent_begins : (file : File) (n s : ℕ) (turn : Turn) (told : Told) (rest : List SessionAnswer) → IsSilent told → begun_at file (record { place = n; turn = turn; told = told; session = s }) rest ≡ []
silent_begins file n s (Own (Write k v f bytes)) (Began op first count) rest silent = absurd silent
silent_begins file n s (Own (Read k v f)) (Began op first count) rest silent = absurd silent
silent_begins file n s (Own (ListFiles k v)) (Began op first count) rest silent = absurd silent
silent_begins file n s turn told rest silent = refl

-- a silent answer more on the left, or on the right
silent_left : (x : SessionAnswer) (xs ys : List SessionAnswer) → IsSilent x.told → SameReading xs ys → SameReading (x ∷ xs) ys
silent_left x xs ys silent same = record {
  ends = λ k. silent_ends k x.place x.session x.turn x.told xs silent ∙ same.ends k;
  tags = λ k. silent_tags k x.place x.session x.turn x.told xs silent ∙ same.tags k;
  begins = λ file. ap (λ z. z ++ begun_in file xs) (silent_begins file x.place x.session x.turn x.told xs silent) ∙ same.begins file;
}

silent_right : (y : SessionAnswer) (xs ys : List SessionAnswer) → IsSilent y.told → SameReading xs ys → SameReading xs (y ∷ ys)
silent_right y xs ys silent same = record {
  ends = λ k. same.ends k ∙ sym (silent_ends k y.place y.session y.turn y.told ys silent);
  tags = λ k. same.tags k ∙ sym (silent_tags k y.place y.session y.turn y.told ys silent);
  begins = λ file. same.begins file ∙ sym (ap (λ z. z ++ begun_in file ys) (silent_begins file y.place y.session y.turn y.told ys silent));
}

-- without its numbers it is as silent
silent_said : (told : Told) → IsSilent told → IsSilent (told_in (said_in told))
silent_said (Began op first count) silent = absurd silent
silent_said (Round round tag first count) silent = absurd silent
silent_said (Done outcome) silent = absurd silent
silent_said Abandoned silent = absurd silent
silent_said told silent = tt

-- ---- the same answer on both sides, of which the right one has no numbers

both_end : (k n s : ℕ) (turn also : Turn) (told : Told) (xs ys : List SessionAnswer) → ending k xs ≡ ending k ys →
    ending k (record { place = n; turn = turn; told = told; session = s } ∷ xs) ≡ ending k (record { place = n; turn = also; told = told_in (said_in told); session = s } ∷ ys)
both_end k n s turn also told xs ys same = by (eqb s k) refl told
  where
    by : (b : Bool) → eqb s k ≡ b → (told : Told) → ending k (record { place = n; turn = turn; told = told; session = s } ∷ xs) ≡ ending k (record { place = n; turn = also; told = told_in (said_in told); session = s } ∷ ys)
    by false e told = rw e same
    by true e (Done outcome) = rw e refl
    by true e Abandoned = rw e refl
    by true e (Began op first count) = rw e refl
    by true e told = rw e same

both_tag : (k n s : ℕ) (turn also : Turn) (told : Told) (xs ys : List SessionAnswer) → write_tag k xs ≡ write_tag k ys →
    write_tag k (record { place = n; turn = turn; told = told; session = s } ∷ xs) ≡ write_tag k (record { place = n; turn = also; told = told_in (said_in told); session = s } ∷ ys)
both_tag k n s turn also told xs ys same = by (eqb s k) refl told
  where
    by : (b : Bool) → eqb s k ≡ b → (told : Told) → write_tag k (record { place = n; turn = turn; told = told; session = s } ∷ xs) ≡ write_tag k (record { place = n; turn = also; told = told_in (said_in told); session = s } ∷ ys)
    by false e told = rw e same
    by true e (Round round tag first count) = rw e refl
    by true e (Done outcome) = rw e refl
    by true e Abandoned = rw e refl
    by true e (Began op first count) = rw e refl
    by true e told = rw e same

both_begin : (file : File) (n s : ℕ) (turn : Turn) (told : Told) (xs ys : List SessionAnswer) → SameReading xs ys →
    begun_at file (record { place = n; turn = turn; told = told; session = s }) xs ≡ begun_at file (record { place = n; turn = turn; told = told_in (said_in told); session = s }) ys
both_begin file n s turn told xs ys same = go turn told
  where
    Same : Turn → Told → Type 0
    Same turn told = begun_at file (record { place = n; turn = turn; told = told; session = s }) xs ≡ begun_at file (record { place = n; turn = turn; told = told_in (said_in told); session = s }) ys

    go : (turn : Turn) (told : Told) → Same turn told
    go (Own (Write k v f bytes)) (Began op first count) = by (is_file (record { volume = v; place = f }) file) refl
      where
        by : (b : Bool) → is_file (record { volume = v; place = f }) file ≡ b → Same (Own (Write k v f bytes)) (Began op first count)
        by true e = rw (e, same.ends k, same.tags k) refl
        by false e = rw e refl
    go (Own (Read k v f)) (Began op first count) = by (is_file (record { volume = v; place = f }) file) refl
      where
        by : (b : Bool) → is_file (record { volume = v; place = f }) file ≡ b → Same (Own (Read k v f)) (Began op first count)
        by true e = rw (e, same.ends k) refl
        by false e = rw e refl
    go (Own (ListFiles k v)) (Began op first count) = by (eqb v file.volume) refl
      where
        by : (b : Bool) → eqb v file.volume ≡ b → Same (Own (ListFiles k v)) (Began op first count)
        by true e = rw (e, same.ends k) refl
        by false e = rw e refl
    go (Own (Write k v f bytes)) told = refl
    go (Own (Read k v f)) told = refl
    go (Own (ListFiles k v)) told = refl
    go turn told = refl

both : (n s : ℕ) (turn : Turn) (told : Told) (xs ys : List SessionAnswer) → SameReading xs ys →
    SameReading (record { place = n; turn = turn; told = told; session = s } ∷ xs) (record { place = n; turn = turn; told = told_in (said_in told); session = s } ∷ ys)
both n s turn told xs ys same = record {
  ends = λ k. both_end k n s turn turn told xs ys (same.ends k);
  tags = λ k. both_tag k n s turn turn told xs ys (same.tags k);
  begins = λ file. ap₂ (λ a b. a ++ b) (both_begin file n s turn told xs ys same) (same.begins file);
}

-- a delivery, whatever its number
both_deliver : (n s number also : ℕ) (told : Told) (xs ys : List SessionAnswer) → SameReading xs ys →
    SameReading (record { place = n; turn = Own (Deliver number); told = told; session = s } ∷ xs) (record { place = n; turn = Own (Deliver also); told = told_in (said_in told); session = s } ∷ ys)
both_deliver n s number also told xs ys same = record {
  ends = λ k. both_end k n s (Own (Deliver number)) (Own (Deliver also)) told xs ys (same.ends k);
  tags = λ k. both_tag k n s (Own (Deliver number)) (Own (Deliver also)) told xs ys (same.tags k);
  begins = same.begins;
}

-- ---- the places of a tenant's own lines

abbrev pub own_places : ℕ → List Turn → ℕ → ℕ
own_places n [] i = n + i
own_places n (Own line ∷ turns) zero = n
own_places n (Own line ∷ turns) (suc i) = own_places (n + 1) turns i
own_places n (Serving line ∷ turns) i = own_places (n + 1) turns i
own_places n (Leaping k op number ∷ turns) i = own_places (n + 1) turns i
own_places n (Losing s volumes ∷ turns) i = own_places (n + 1) turns i
own_places n (Returning s f peer copy ∷ turns) i = own_places (n + 1) turns i

places_low : (n : ℕ) (turns : List Turn) (i : ℕ) → n ≤ own_places n turns i
places_low n [] i = omega arith
places_low n (Own line ∷ turns) zero = omega arith
places_low n (Own line ∷ turns) (suc i) = let low = places_low (n + 1) turns i in omega arith
places_low n (Serving line ∷ turns) i = let low = places_low (n + 1) turns i in omega arith
places_low n (Leaping k op number ∷ turns) i = let low = places_low (n + 1) turns i in omega arith
places_low n (Losing s volumes ∷ turns) i = let low = places_low (n + 1) turns i in omega arith
places_low n (Returning s f peer copy ∷ turns) i = let low = places_low (n + 1) turns i in omega arith

pub places_rise : (n : ℕ) (turns : List Turn) → IsRising (own_places n turns)
places_rise n [] i j low = omega arith
places_rise n (Own line ∷ turns) i zero low = absurd (omega arith)
places_rise n (Own line ∷ turns) zero (suc j) low = let late = places_low (n + 1) turns j in omega arith
places_rise n (Own line ∷ turns) (suc i) (suc j) low = places_rise (n + 1) turns i j (omega arith)
places_rise n (Serving line ∷ turns) i j low = places_rise (n + 1) turns i j low
places_rise n (Leaping k op number ∷ turns) i j low = places_rise (n + 1) turns i j low
places_rise n (Losing s volumes ∷ turns) i j low = places_rise (n + 1) turns i j low
places_rise n (Returning s f peer copy ∷ turns) i j low = places_rise (n + 1) turns i j low

-- ---- one turn

done_silent : (grid : Grid) (up : Servers) (line : ServerLine) → IsSilent (server_done grid up line)
done_silent grid up (ServerRepaired n) = tt
done_silent grid up (ServerLost n) = tt
done_silent grid up (Down n) = tt
done_silent grid up (Up n) = tt
done_silent grid up BadServer = tt

server_silent : (grid : Grid) (up gone : Servers) (line : ServerLine) → IsSilent (server_told grid up gone line)
server_silent grid up gone line = by (server_refusal grid up gone line) refl
  where
    by : (word : Option ServerRefusal) → server_refusal grid up gone line ≡ word → IsSilent (server_told grid up gone line)
    by None is = rw is (done_silent grid up line)
    by (Some word) is = rw is tt

leap_silent : (state : State) (k : ℕ) → IsSilent (leap_told state k)
leap_silent state k = by (is_some (state.session k).current)
  where
    by : (b : Bool) → IsSilent (if b then Refused Busy else ServerOk)
    by true = tt
    by false = tt

loss_silent : (state : State) (turn : Turn) → IsSilent (loss_told state turn)
loss_silent state turn = by (list_any (is_counted state turn) state.sent)
  where
    by : (b : Bool) → IsSilent (if b then Refused Busy else ServerOk)
    by true = tt
    by false = tt

return_silent : (grid : Grid) (state : State) (server : ℕ) (file : File) (peer : ℕ) (copy : StoredCopy) → IsSilent (return_told grid state server file peer copy)
return_silent grid state server file peer copy = by (not (state.lacks server file)) (are_peers grid server peer && list_any (equal_copies copy) (state.offered server file peer))
  where
    by : (a b : Bool) → IsSilent (if a then ServerRefused Same else if b then ServerOk else Refused NoMessage)
    by true b = tt
    by false true = tt
    by false false = tt

-- a delivery of a message that isn't there is refused
missing_silent : (grid : Grid) (row : TenantRow) (p : Past) (number : ℕ) → message_at p.trace number ≡ None → IsSilent (said grid row p (Own (Deliver number)))
missing_silent grid row p number none = by (nat_le row.steps (min row.steps p.lines)) refl
  where
    by : (b : Bool) → nat_le row.steps (min row.steps p.lines) ≡ b → IsSilent (said grid row p (Own (Deliver number)))
    by true e =
        let plain : step_at grid row p (Own (Deliver number)) ≡ quiet (Refused Spent) = rw e refl in
        let spent : said grid row p (Own (Deliver number)) ≡ Refused Spent = ap (λ z. z.told) plain in
        subst IsSilent (sym spent) tt
    by false e =
        let plain : step_at grid row p (Own (Deliver number)) ≡ deliver_step grid (questions p.trace) (message_at p.trace number) = rw e refl in
        let missing : said grid row p (Own (Deliver number)) ≡ Refused NoMessage = ap (λ z. z.told) plain ∙ ap (λ m. (deliver_step grid (questions p.trace) m).told) none in
        subst IsSilent (sym missing) tt

session_at : (ms : List OwnMessage) (n : ℕ) (l : OwnMessage) → slice_get ms n ≡ Some l → slice_index (sessions ms) n ≡ l.session
session_at [] n l h = absurd (let bad : None ≡ Some l = h in cc)
session_at (m ∷ ms) zero l h = let same : m ≡ l = cc in ap (λ x. x.session) same
session_at (m ∷ ms) (suc n) l h = session_at ms n l h

-- a line of the tenant, and then the rest
reads_own : (grid : Grid) (row : TenantRow) (line : Line) (turns : List Turn) (p : Past) (n : ℕ) (ds : List Exchange) (xs : List SessionAnswer) →
    SameReading xs (answers_at (own_places (n + 1) turns) ds) →
    SameReading (first_told grid row p n (Own line) ∷ xs) (answers_at (own_places n (Own line ∷ turns)) (turn_exchanges (questions p.trace) (Own line) (step_at grid row p (Own line)) ++ ds))
reads_own grid row line turns p n ds xs rest = one line later
  where
    ys : List SessionAnswer
    ys = answers_at (λ i. own_places n (Own line ∷ turns) (i + 1)) ds

    shift : (λ i. own_places n (Own line ∷ turns) (i + 1)) ≡ own_places (n + 1) turns
    shift = λ j i. own_places n (Own line ∷ turns) (add-one i j)

    later : SameReading xs ys
    later = let Q : (ℕ → ℕ) → Type 0 = λ place. SameReading xs (answers_at place ds) in subst Q (sym shift) rest

    One : Line → Type 0
    One line = SameReading (first_told grid row p n (Own line) ∷ xs) (record { place = n; turn = turn_in (arrival_by line (message_of_turn (questions p.trace) (Own line))); told = told_in (said_in (said grid row p (Own line))); session = session_in (arrival_by line (message_of_turn (questions p.trace) (Own line))) } ∷ ys)

    one : (line : Line) → SameReading xs ys → One line
    one (Deliver number) later = by (message_at p.trace number) refl
      where
        told : Told
        told = said grid row p (Own (Deliver number))

        by : (message : Option OwnMessage) → message_at p.trace number ≡ message → One (Deliver number)
        by None none =
            let silent : IsSilent told = missing_silent grid row p number none in
            rw none (silent_left (first_told grid row p n (Own (Deliver number))) xs (record { place = n; turn = Own (Deliver number); told = told_in (said_in told); session = 0 } ∷ ys) silent
            (silent_right (record { place = n; turn = Own (Deliver number); told = told_in (said_in told); session = 0 }) xs ys (silent_said told silent) later))
        by (Some l) some =
            let its : slice_index (sessions (sent p.trace)) number ≡ l.session = session_at (sent p.trace) number l (message_sent p.trace number l some) in
            rw (some, its) (both_deliver n l.session number 0 told xs ys later)
    one (Write k v f bytes) later = both n k (Own (Write k v f bytes)) (said grid row p (Own (Write k v f bytes))) xs ys later
    one (Read k v f) later = both n k (Own (Read k v f)) (said grid row p (Own (Read k v f))) xs ys later
    one (ListFiles k v) later = both n k (Own (ListFiles k v)) (said grid row p (Own (ListFiles k v))) xs ys later
    one (Retry k) later = both n k (Own (Retry k)) (said grid row p (Own (Retry k))) xs ys later
    one (Abandon k) later = both n k (Own (Abandon k)) (said grid row p (Own (Abandon k))) xs ys later
    one other later = both n 0 (Own other) (said grid row p (Own other)) xs ys later

-- what is read off the turns from a past on, and off what they do
pub reads : (grid : Grid) (row : TenantRow) (turns : List Turn) (p : Past) (n : ℕ) → SameReading (tells grid row p n turns) (answers_at (own_places n turns) (exchanges_from grid row p turns))
reads grid row [] p n = record { ends = λ k. refl; tags = λ k. refl; begins = λ file. refl }
reads grid row (Serving line ∷ turns) p n =
    let P : List SessionAnswer → Type 0 = λ z. SameReading z (answers_at (own_places (n + 1) turns) (exchanges_from grid row (after grid row p (Serving line)) turns)) in
    subst P (sym (tells-cons grid row p n (Serving line) turns))
    (silent_left (first_told grid row p n (Serving line)) (tells grid row (after grid row p (Serving line)) (n + 1) turns) (answers_at (own_places (n + 1) turns) (exchanges_from grid row (after grid row p (Serving line)) turns)) (server_silent grid (up p.trace) (gone p.trace) line)
    (reads grid row turns (after grid row p (Serving line)) (n + 1)))
reads grid row (Leaping k op number ∷ turns) p n =
    let turn : Turn = Leaping k op number in
    let P : List SessionAnswer → Type 0 = λ z. SameReading z (answers_at (own_places (n + 1) turns) (exchanges_from grid row (after grid row p turn) turns)) in
    subst P (sym (tells-cons grid row p n turn turns))
    (silent_left (first_told grid row p n turn) (tells grid row (after grid row p turn) (n + 1) turns) (answers_at (own_places (n + 1) turns) (exchanges_from grid row (after grid row p turn) turns)) (leap_silent (questions p.trace) k)
    (reads grid row turns (after grid row p turn) (n + 1)))
reads grid row (Losing s volumes ∷ turns) p n =
    let turn : Turn = Losing s volumes in
    let P : List SessionAnswer → Type 0 = λ z. SameReading z (answers_at (own_places (n + 1) turns) (exchanges_from grid row (after grid row p turn) turns)) in
    subst P (sym (tells-cons grid row p n turn turns))
    (silent_left (first_told grid row p n turn) (tells grid row (after grid row p turn) (n + 1) turns) (answers_at (own_places (n + 1) turns) (exchanges_from grid row (after grid row p turn) turns)) (loss_silent (questions p.trace) turn)
    (reads grid row turns (after grid row p turn) (n + 1)))
reads grid row (Returning s f peer copy ∷ turns) p n =
    let turn : Turn = Returning s f peer copy in
    let P : List SessionAnswer → Type 0 = λ z. SameReading z (answers_at (own_places (n + 1) turns) (exchanges_from grid row (after grid row p turn) turns)) in
    subst P (sym (tells-cons grid row p n turn turns))
    (silent_left (first_told grid row p n turn) (tells grid row (after grid row p turn) (n + 1) turns) (answers_at (own_places (n + 1) turns) (exchanges_from grid row (after grid row p turn) turns)) (return_silent grid (questions p.trace) s f peer copy)
    (reads grid row turns (after grid row p turn) (n + 1)))
reads grid row (Own line ∷ turns) p n =
    let P : List SessionAnswer → Type 0 = λ z. SameReading z (answers_at (own_places n (Own line ∷ turns)) (exchanges_from grid row p (Own line ∷ turns))) in
    subst P (sym (tells-cons grid row p n (Own line) turns))
    (reads_own grid row line turns p n (exchanges_from grid row (after grid row p (Own line)) turns) (tells grid row (after grid row p (Own line)) (n + 1) turns) (reads grid row turns (after grid row p (Own line)) (n + 1)))
