-- What a line that loses a message does to the tables.
use Rattle.std.proofs.Common.{◌≡◌, ◌≢◌, ◌∙◌, ℕ, ◌<◌, ◌≤◌, arith, List, [], ◌∷◌, length, Bool, true, false, Option, Some, None, refl, sym, ap, subst, inl, inr, zero, suc, append-nil, is_some}
use Rattle.std.specs.Prelude.{slice_set, slice_get, option_map, if◌then◌else◌}
use Rattle.std.proofs.lemmas.Bool.{cases_eq, ne_eqb, eq-eqb}
use Rattle.std.proofs.lemmas.Option.{slice_get_within}
use Rattle.std.proofs.lemmas.List.{get_or-set_same, get_or-set_other, length-set}
use Rattle.gq_desk.specs.CheckedPlan.{row_at}
use Rattle.gq_model.specs.declared.events.Line.TheVariants.{Lose}
use Rattle.gq_model.specs.declared.events.Refusal.TheVariants.{NoMessage}
use Rattle.gq_tag.specs.Tag.{OwnMessage, message_of}
use Rattle.gq_post.specs.Channels.{Channel, channel_at, message_at}
use Rattle.gq_model.specs.Told.{Told, Lost, Refused}
use Rattle.gq_model.specs.Trace.{Own, State, Known, lost_by, own_message_at}
use Rattle.gq_model.specs.Lone.{lose_told}
use Rattle.gq_world.specs.Tables.{Tables, Agrees}
use Rattle.gq_world.specs.Machine.{acted, Acts, TellsLine}
use Rattle.gq_world.proofs.Quiet.{offered_on}

-- the channels with none at place n of the tenant's
abbrev pub lost : List Channel → ℕ → ℕ → List Channel
lost channels t n = slice_set channels t (slice_set (channel_at channels t) n None)

-- what the tables have of the message is what is known of it
was_there : (w : Tables) (t n : ℕ) (known : Known) (is : Bool) → Agrees w t known → is_some (message_at (channel_at w.channels t) n) ≡ is → is_some (own_message_at known.state n) ≡ is
was_there w t n known is agrees there = by (own_message_at known.state n) (sym (ap is_some (agrees.messages n)) ∙ there)
  where
    by : (message : Option OwnMessage) → is_some (option_map (message_of t) message) ≡ is → is_some message ≡ is
    by None h = h
    by (Some message) h = h

abbrev lose_word : Bool → Told
lose_word true = Lost
lose_word false = Refused NoMessage

told_by : (message : Option OwnMessage) (is : Bool) → is_some message ≡ is → lose_told message ≡ lose_word is
told_by None true h = absurd (cc)
told_by None false h = refl
told_by (Some message) true h = refl
told_by (Some message) false h = absurd (cc)

pub lose_tells : (w : Tables) (t n : ℕ) → is_some (message_at (channel_at w.channels t) n) ≡ true → TellsLine w t (Lose n) Lost
lose_tells w t n there known agrees = sym (told_by (own_message_at known.state n) true (was_there w t n known true agrees there))

pub nothing_tells : (w : Tables) (t n : ℕ) → is_some (message_at (channel_at w.channels t) n) ≡ false → TellsLine w t (Lose n) (Refused NoMessage)
nothing_tells w t n there known agrees = sym (told_by (own_message_at known.state n) false (was_there w t n known false agrees there))

-- there is none to lose
pub nothing_acts : (w : Tables) (t n : ℕ) → is_some (message_at (channel_at w.channels t) n) ≡ false → Acts w t (Lose n) w
nothing_acts w t n there = record {
  plan = refl;
  own = λ known most bounded agrees. subst (Agrees w t) (sym (refused known (told_by (own_message_at known.state n) false (was_there w t n known false agrees there)))) agrees;
  others = λ u other known agrees. agrees;
  servers = refl;
  gone = refl;
}
  where
    refused : (known : Known) → lose_told (own_message_at known.state n) ≡ Refused NoMessage → acted w.plan.grid (row_at w.plan t) known (Lose n) ≡ known
    refused known is = rw is refl

-- message m after message n is lost
lost_own_message : (channel : Channel) (state : State) (n m t : ℕ) → message_at channel m ≡ option_map (message_of t) (own_message_at state m) →
    message_at (slice_set channel n None) m ≡ option_map (message_of t) (own_message_at (record state { is_lost = lost_by (Own (Lose n)) state.is_lost }) m)
lost_own_message channel state n m t before =
    elim (cases_eq n m) [
      | inl same ↦ (rw (eq-eqb n m same, ← same) (gone channel n))
      | inr other ↦ (let apart : m ≢ n = λ e. other (sym e) in rw (ne_eqb n m other) (get_or-set_other channel n m None None apart ∙ before))
    ]
  where
    gone : (xs : Channel) (i : ℕ) → message_at (slice_set xs i None) i ≡ None
    gone [] i = refl
    gone (x ∷ xs) zero = refl
    gone (x ∷ xs) (suc i) = gone xs i

-- what is known after it
lost_known : (w : Tables) (t n : ℕ) (known : Known) → lose_told (own_message_at known.state n) ≡ Lost → acted w.plan.grid (row_at w.plan t) known (Lose n) ≡ record known { state = record known.state { is_lost = lost_by (Own (Lose n)) known.state.is_lost; offered = offered_on known.state } }
lost_known w t n known is = rw is (ap (λ messages. record known { state = record known.state { sent = messages; is_lost = lost_by (Own (Lose n)) known.state.is_lost; offered = offered_on known.state } }) (append-nil known.state.sent))

-- no number at or past those that were sent is lost
still_none : (state : State) (n m : ℕ) → is_some (own_message_at state n) ≡ true → ((i : ℕ) → length state.sent ≤ i → state.is_lost i ≡ false) → length state.sent ≤ m → lost_by (Own (Lose n)) state.is_lost m ≡ false
still_none state n m there none past =
    let sent : n < length state.sent = was_sent (state.is_lost n) state.sent n there in
    rw (ne_eqb n m (λ same. let k : m < length state.sent = subst (λ i. i < length state.sent) same sent in omega arith)) (none m past)
  where
    was_sent : (b : Bool) (sent : List OwnMessage) (n : ℕ) → is_some (if b then None else slice_get sent n) ≡ true → n < length sent
    was_sent true sent n h = absurd (cc)
    was_sent false sent n h = by (slice_get sent n) refl
      where
        by : (o : Option OwnMessage) → slice_get sent n ≡ o → n < length sent
        by None e = let k = rw e at h in absurd (cc)
        by (Some message) e = slice_get_within sent n message e

lost_own : (w : Tables) (t n : ℕ) (known : Known) → t < length w.channels → is_some (own_message_at known.state n) ≡ true → Agrees w t known →
    Agrees (record w { channels = lost w.channels t n }) t (record known { state = record known.state { is_lost = lost_by (Own (Lose n)) known.state.is_lost; offered = offered_on known.state } })
lost_own w t n known within there agrees = record {
  lines = agrees.lines;
  up = agrees.up;
  gone = agrees.gone;
  account = agrees.account;
  sent = ap length (get_or-set_same w.channels t (slice_set (channel_at w.channels t) n None) [] within) ∙ length-set (channel_at w.channels t) n None ∙ agrees.sent;
  lost = λ m past. still_none known.state n m there agrees.lost past;
  messages = λ m. ap (λ channel. message_at channel m) (get_or-set_same w.channels t (slice_set (channel_at w.channels t) n None) [] within) ∙ lost_own_message (channel_at w.channels t) known.state n m t (agrees.messages m);
  accounts = agrees.accounts;
  copies = agrees.copies;
  lacking = agrees.lacking;
  down = agrees.down;
  session_states = λ place inside. let session_state = agrees.session_states place inside in record { op = session_state.op; answered = session_state.answered; sits = session_state.sits };
}

lost_other : (w : Tables) (t u n : ℕ) (known : Known) → u ≢ t → Agrees w u known → Agrees (record w { channels = lost w.channels t n }) u known
lost_other w t u n known other agrees = record {
  lines = agrees.lines;
  up = agrees.up;
  gone = agrees.gone;
  account = agrees.account;
  sent = ap length (get_or-set_other w.channels t u (slice_set (channel_at w.channels t) n None) [] other) ∙ agrees.sent;
  lost = agrees.lost;
  messages = λ m. ap (λ channel. message_at channel m) (get_or-set_other w.channels t u (slice_set (channel_at w.channels t) n None) [] other) ∙ agrees.messages m;
  accounts = agrees.accounts;
  copies = agrees.copies;
  lacking = agrees.lacking;
  down = agrees.down;
  session_states = agrees.session_states;
}

pub lost_acts : (w : Tables) (t n : ℕ) → t < length w.channels → is_some (message_at (channel_at w.channels t) n) ≡ true → Acts w t (Lose n) (record w { channels = lost w.channels t n })
lost_acts w t n within there = record {
  plan = refl;
  own = λ known most bounded agrees.
      let known_there : is_some (own_message_at known.state n) ≡ true = was_there w t n known true agrees there in
      subst (Agrees (record w { channels = lost w.channels t n }) t) (sym (lost_known w t n known (told_by (own_message_at known.state n) true known_there))) (lost_own w t n known within known_there agrees);
  others = λ u other known agrees. lost_other w t u n known other agrees;
  servers = refl;
  gone = refl;
}

-- whether there was one to lose or not
pub lose_acts : (w : Tables) (t n : ℕ) (was : Bool) (channels : List Channel) → t < length w.channels → was ≡ is_some (message_at (channel_at w.channels t) n) → channels ≡ lost w.channels t n → (was ≡ false → channels ≡ w.channels) →
    Acts w t (Lose n) (record w { channels = channels })
lose_acts w t n true channels within there new same = subst (λ all. Acts w t (Lose n) (record w { channels = all })) (sym new) (lost_acts w t n within (sym there))
lose_acts w t n false channels within there new same = subst (λ all. Acts w t (Lose n) (record w { channels = all })) (sym (same refl)) (nothing_acts w t n (sym there))
