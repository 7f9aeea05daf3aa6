-- What is told but for the numbers of messages.
use Rattle.std.proofs.Common.{◌≡◌, ℕ, refl, Option, Some, None}
use Rattle.gq_tag.specs.Tag.{OwnMessage}
use Rattle.gq_phase.specs.Phase.{Heard, HeardStale, HeardNoted, HeardNext, HeardDone}
use Rattle.gq_model.specs.declared.events.Refusal.{Refusal}
use Rattle.gq_model.specs.Told.{Told, Began, Replied, Round, Resent}
use Rattle.gq_model.specs.Said.{said_in}
use Rattle.gq_model.specs.Trace.{heard_deed, delivered_deed}
use Rattle.gq_model.specs.Lone.{Step, heard_step, is_refusal, unless}

-- the same with this number for the first message that is sent
abbrev pub numbered : ℕ → Told → Told
numbered n (Began op first count) = Began op n count
numbered n (Replied number) = Replied n
numbered n (Round round tag first count) = Round round tag n count
numbered n (Resent first count) = Resent n count
numbered n told = told

abbrev pub numbered_step : ℕ → Step → Step
numbered_step n s = record { told = numbered n s.told; new = s.new }

pub refusal_is : (n : ℕ) (told : Told) → is_refusal (numbered n told) ≡ is_refusal told
refusal_is n (Began op first count) = refl
refusal_is n (Replied number) = refl
refusal_is n (Round round tag first count) = refl
refusal_is n (Resent first count) = refl
refusal_is n told = refl

pub said_is : (n : ℕ) (told : Told) → said_in (numbered n told) ≡ said_in told
said_is n (Began op first count) = refl
said_is n (Replied number) = refl
said_is n (Round round tag first count) = refl
said_is n (Resent first count) = refl
said_is n told = refl

heard_deed_is : (n : ℕ) (m : OwnMessage) (told : Told) → heard_deed m (numbered n told) ≡ heard_deed m told
heard_deed_is n m (Began op first count) = refl
heard_deed_is n m (Replied number) = refl
heard_deed_is n m (Round round tag first count) = refl
heard_deed_is n m (Resent first count) = refl
heard_deed_is n m told = refl

pub unless_is : (n : ℕ) (word : Option Refusal) (s : Step) → unless word (numbered_step n s) ≡ numbered_step n (unless word s)
unless_is n None s = refl
unless_is n (Some word) s = refl

pub heard_step_is : (n first : ℕ) (h : Heard) → heard_step n h ≡ numbered_step n (heard_step first h)
heard_step_is n first HeardStale = refl
heard_step_is n first HeardNoted = refl
heard_step_is n first (HeardNext round tag messages) = refl
heard_step_is n first (HeardDone outcome) = refl

-- what a delivery does in a session
pub delivered_deed_is : (k n : ℕ) (m : OwnMessage) (told : Told) → delivered_deed k (Some m) (numbered n told) ≡ delivered_deed k (Some m) told
delivered_deed_is k n m told = rw (heard_deed_is n m told) refl
