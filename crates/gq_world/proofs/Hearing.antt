-- What an operation says to a message, by cases, and how many messages it sends.
use Rattle.std.proofs.Common.{◌≡◌, ℕ, ◌*◌, ◌≤◌, Bool, true, false, length, map, refl, sym, subst, Option, Some, None, arith, inl, inr}
use Rattle.std.specs.Prelude.{nat_lt}
use Rattle.std.proofs.lemmas.Bool.{cases_Bool}
use Rattle.std.proofs.lemmas.List.{length-map}
use Rattle.std.proofs.lemmas.List.FromFn.{length-range_with_len}
use Rattle.std.proofs.lemmas.List.Sums.{length-filter, count_by-le-length}
use Rattle.gq_grid.specs.Grid.{Grid, Servers, rising, below}
use Rattle.gq_tag.specs.Tag.{OwnMessage}
use Rattle.gq_phase.specs.declared.Outcome.{Outcome}
use Rattle.gq_phase.specs.declared.Outcome.TheVariants.{Wrote, Gave, Listed}
use Rattle.gq_phase.specs.Phase.{Task, Writing, Reading, Listing, Operation, Heard as Saying, HeardStale, HeardNoted, HeardDone, hear, is_current, is_collect, ends_round, with_reply, with_decided, begin_store, begin_collect, file_done, skips_store, round_messages, round_quorum, stored_copy, listed_row}
use Rattle.gq_phase.specs.Laws.{SameQuorums}
use Rattle.gq_phase.proofs.ByQuorums.{hear_up}
use Rattle.gq_phase.proofs.Saying.{hear_noted, hear_collected, hear_skipped, hear_stored}
use Rattle.gq_world.specs.SessionStates.{said_by}

-- ---- by cases

hear_stale : (grid : Grid) (up : Servers) (o : Operation) (m : OwnMessage) → is_current o m ≡ false → hear grid up o m ≡ HeardStale
hear_stale grid up o m old = rw old refl

continued : (grid : Grid) (up : Servers) (o : Operation) (volume files : ℕ) → o.task ≡ Listing volume files → nat_lt (length o.collected) files ≡ true → file_done grid up o ≡ begin_collect grid up o
continued grid up o volume files is more = rw (is, more) refl

listed : (grid : Grid) (up : Servers) (o : Operation) (volume files : ℕ) → o.task ≡ Listing volume files → nat_lt (length o.collected) files ≡ false → file_done grid up o ≡ HeardDone (Listed o.session o.op (map listed_row o.collected))
listed grid up o volume files is over = rw (is, over) refl

file_done_cases : (P : Saying → Type 0) (grid : Grid) (up : Servers) (o : Operation) →
    ((volume files : ℕ) → o.task ≡ Listing volume files → nat_lt (length o.collected) files ≡ true → P (begin_collect grid up o)) →
    ((outcome : Outcome) → P (HeardDone outcome)) →
    P (file_done grid up o)
file_done_cases P grid up o goes_on done = by o.task refl
  where
    more : (volume files : ℕ) → o.task ≡ Listing volume files → (b : Bool) → nat_lt (length o.collected) files ≡ b → P (file_done grid up o)
    more volume files is true e = subst P (sym (continued grid up o volume files is e)) (goes_on volume files is e)
    more volume files is false e = subst P (sym (listed grid up o volume files is e)) (done (Listed o.session o.op (map listed_row o.collected)))

    by : (task : Task) → o.task ≡ task → P (file_done grid up o)
    by (Writing file bytes) is = rw is (done (Wrote o.session o.op (stored_copy o.collected).tag))
    by (Reading file) is = rw is (done (Gave o.session o.op (stored_copy o.collected)))
    by (Listing volume files) is = more volume files is (nat_lt (length o.collected) files) refl

pub hear_cases : (P : Saying → Type 0) (grid : Grid) (up : Servers) (o : Operation) (m : OwnMessage) →
    P HeardStale →
    (is_current o m ≡ true → P HeardNoted) →
    (is_current o m ≡ true → is_collect o.round ≡ true → P (begin_store grid up (with_decided (with_reply o m)))) →
    ((volume files : ℕ) → is_current o m ≡ true → is_collect o.round ≡ true → o.task ≡ Listing volume files → nat_lt (length (with_decided (with_reply o m)).collected) files ≡ true → P (begin_collect grid up (with_decided (with_reply o m)))) →
    ((volume files : ℕ) → is_current o m ≡ true → is_collect o.round ≡ false → o.task ≡ Listing volume files → nat_lt (length o.collected) files ≡ true → P (begin_collect grid up (with_reply o m))) →
    ((outcome : Outcome) → P (HeardDone outcome)) →
    P (hear grid up o m)
hear_cases P grid up o m stale noted stores skips collects done =
    elim (cases_Bool (is_current o m)) [
      | inr old ↦ (subst P (sym (hear_stale grid up o m old)) stale)
      | inl cur ↦ (elim (cases_Bool (ends_round grid o.round (with_reply o m).heard)) [
        | inr on ↦ (subst P (sym (hear_noted grid up o m cur on)) (noted cur))
        | inl ended ↦ (elim (cases_Bool (is_collect o.round)) [
          | inl odd ↦ (elim (cases_Bool (skips_store grid (with_decided (with_reply o m)))) [
            | inr sends ↦ (subst P (sym (hear_collected grid up o m cur ended odd sends)) (stores cur odd))
            | inl leaves ↦ (subst P (sym (hear_skipped grid up o m cur ended odd leaves)) (file_done_cases P grid up (with_decided (with_reply o m)) (λ volume files is more. skips volume files cur odd is more) done))
          ])
          | inr even ↦ (subst P (sym (hear_stored grid up o m cur ended even)) (file_done_cases P grid up (with_reply o m) (λ volume files is more. collects volume files cur even is more) done))
        ])
      ])
    ]

-- ---- whoever is up, only the quorums matter

pub said_by_up : (grid : Grid) (up also : Servers) (o : Option Operation) (m : OwnMessage) → SameQuorums grid up also → said_by grid up o m ≡ said_by grid also o m
said_by_up grid up also None m same = refl
said_by_up grid up also (Some o) m same = hear_up grid up also o m same

-- ---- how many messages

pub length-rising : (grid : Grid) (set : Servers) → length (rising grid set) ≤ grid.rows * grid.cols
length-rising grid set = let passing = length-filter set (below (grid.rows * grid.cols)) in let few = count_by-le-length set (below (grid.rows * grid.cols)) in let all = length-range_with_len 0 (grid.rows * grid.cols) in omega arith

pub few_messages : (grid : Grid) (up : Servers) (o : Operation) → length (round_messages grid up o) ≤ grid.rows * grid.cols
few_messages grid up o = by (round_quorum grid up o.round) refl
  where
    by : (q : Option Servers) → round_quorum grid up o.round ≡ q → length (round_messages grid up o) ≤ grid.rows * grid.cols
    by None is = rw is (omega arith)
    by (Some set) is = rw is (simp length-map (length-rising grid set))
