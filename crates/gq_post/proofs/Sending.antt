-- The post after envelopes are sent, lost, or share a copy.
use Rattle.std.proofs.Common.{◌≡◌, ◌≢◌, ◌∙◌, ◌<◌, ◌+◌, ◌-◌, ◌⊎◌, inl, inr, ℕ, zero, suc, List, [], ◌∷◌, ◌++◌, length, set, Bool, true, false, cond, Option, Some, None, is_some, refl, sym, ap, ap₂, subst, arith, map, slice_get}
use Rattle.std.specs.Prelude.{replicate, option_map, nat_lt, ◌&&◌, ◌==◌, IsSomeAnd}
use Rattle.std.proofs.lemmas.Bool.{cases_eq}
use Rattle.std.proofs.lemmas.Bool.Decides.{nat_tests}
use Rattle.std.proofs.lemmas.List.{map-set, map-append, set-get_or}
use Rattle.slab.specs.Slab.{Slab, get, Updates}
use Rattle.gq_tag.specs.declared.StoredCopy.{StoredCopy}
use Rattle.gq_tag.specs.declared.Message.{Message}
use Rattle.gq_tag.specs.declared.Body.{Body}
use Rattle.gq_tag.specs.declared.Body.TheVariants as body
use Rattle.gq_post.specs.declared.copies.SharedCopy.{SharedCopy}
use Rattle.gq_post.specs.declared.envelopes.Envelope.{Envelope}
use Rattle.gq_post.specs.declared.envelopes.Says.{Says}
use Rattle.gq_post.specs.declared.envelopes.Says.TheVariants.{Lost, Ask, Copy, Store, Stored}
use Rattle.gq_post.specs.Channels.{Channel, channel_at, message_at}
use Rattle.gq_post.specs.Envelopes.{says_of, unless_lost, body_copy, said_body, says_lost, names_copy, with_body, to_other, lost, envelopes_at, envelope_at}
use Rattle.gq_post.specs.Copies.{Slots, slot_at, copy_of, slot_copy, envelope_message, channel_of, names, uses, uses_in, IsUsed, Counted, one_less}
use Rattle.gq_post.proofs.Reading.{channel_there, names_own, once, uses_first, alike_channels, envelope_there}
use Rattle.gq_post.proofs.Counting.{uses_sent, uses_round, uses_lost, uses_empty, counted_same, counted_change, vacant_unused, used_more, used_less}

-- ---- what is kept

-- a slab in which a copy of this body, if there is one, is kept for so many users
pub record Keeps (old new : Slab SharedCopy) (key : ℕ) (copy : Option StoredCopy) (users : ℕ) : Type 0 where
  pub none : copy ≡ None → new ≡ old
  pub nobody : users ≡ 0 → new ≡ old
  pub vacant : 0 < users → (c : StoredCopy) → copy ≡ Some c → get old key ≡ None
  pub kept : 0 < users → (c : StoredCopy) → copy ≡ Some c → Updates old new key (Some (record { copy = c; users = users }))

-- no copy, and nothing is kept
pub keeps_nothing : (slab : Slab SharedCopy) (key users : ℕ) → Keeps slab slab key None users
keeps_nothing slab key users = record { none = λ _. refl; nobody = λ _. refl; vacant = λ _ c is. absurd (cc); kept = λ _ c is. absurd (cc) }

names_says : (b : Body) → names_copy (says_of b) ≡ is_some (body_copy b)
names_says body.Ask = refl
names_says (body.Copy copy) = refl
names_says (body.Store copy) = refl
names_says body.Stored = refl

said_says : (b : Body) (copy : Option StoredCopy) → (is_some (body_copy b) ≡ true → copy ≡ body_copy b) → said_body (says_of b) copy ≡ Some b
said_says body.Ask copy same = refl
said_says (body.Copy c) copy same = ap (said_body (says_of (body.Copy c))) (same refl)
said_says (body.Store c) copy same = ap (said_body (says_of (body.Store c))) (same refl)
said_says body.Stored copy same = refl

some_or_none : (o : Option StoredCopy) → (o ≡ None) ⊎ ((c : StoredCopy) × (o ≡ Some c))
some_or_none None = inl refl
some_or_none (Some c) = inr (c, refl)

none_or_some : (n : ℕ) → (n ≡ 0) ⊎ (0 < n)
none_or_some zero = inl refl
none_or_some (suc n) = inr (omega arith)

cond_zero : (b : Bool) (n : ℕ) → n ≡ 0 → ◌≡◌ {A = ℕ} (cond b n 0) 0
cond_zero true n e = e
cond_zero false n e = refl

-- an envelope names no other place than its own
names_other : (envelope : Envelope) (place : ℕ) → place ≢ envelope.place → names place envelope ≡ false
names_other envelope place other = let no : (envelope.place == place) ≡ false = grind (arith, nat_tests) in rw no (and_false (names_copy envelope.says))
  where
    and_false : (b : Bool) → (b && false) ≡ false
    and_false true = refl
    and_false false = refl

to_nobody : (slots : Slots) (envelope : Envelope) (b : Body) (servers : List ℕ) → length servers ≡ 0 → channel_of slots (map (to_other envelope) servers) ≡ map Some (map (λ server. with_body (to_other envelope server) b) servers)
to_nobody slots envelope b [] nobody = refl
to_nobody slots envelope b (server ∷ servers) nobody = absurd (omega (arith, nobody))

-- the envelope that says a body, to some servers: its message to each
round_channel : (slots : Slots) (envelope : Envelope) (b : Body) (servers : List ℕ) → said_body envelope.says (slot_copy slots envelope.place) ≡ Some b →
    channel_of slots (map (to_other envelope) servers) ≡ map Some (map (λ server. with_body (to_other envelope server) b) servers)
round_channel slots envelope b [] says = refl
round_channel slots envelope b (server ∷ servers) says = ap₂ (λ m channel. m ∷ channel) (ap (option_map (with_body (to_other envelope server))) says) (round_channel slots envelope b servers says)

-- channels with envelopes more
more_view : (slots : Slots) (channels : List (List Envelope)) (t : ℕ) (more : List Envelope) → map (channel_of slots) (set channels t (envelopes_at channels t ++ more)) ≡ set (map (channel_of slots) channels) t (channel_at (map (channel_of slots) channels) t ++ channel_of slots more)
more_view slots channels t more =
    map-set (channel_of slots) channels t (envelopes_at channels t ++ more)
    ∙ ap (set (map (channel_of slots) channels) t) (map-append (envelope_message slots) (envelopes_at channels t) more ∙ ap (λ channel. channel ++ channel_of slots more) (sym (channel_there slots channels t)))

same_slots : (old new : Slab SharedCopy) → new ≡ old → (place : ℕ) → slot_at new.slots place ≡ slot_at old.slots place
same_slots old new same place = ap (λ (s : Slab SharedCopy). slot_at s.slots place) same

-- ---- a round is sent

module _ (old mid new : Slab SharedCopy) (channels : List (List Envelope)) (t : ℕ) (envelope : Envelope) (b : Body) (servers : List ℕ) (within : t < length channels) (room : mid.slots ≡ old.slots)
    (says : envelope.says ≡ says_of b) (keeps : Keeps mid new envelope.place (body_copy b) (length servers)) (counted : Counted old.slots channels) where
  counted_mid : Counted mid.slots channels
  counted_mid = subst (λ slots. Counted slots channels) (sym room) counted

  grown : (place : ℕ) → uses_in place (set channels t (envelopes_at channels t ++ map (to_other envelope) servers)) ≡ uses_in place channels + cond (names place envelope) (length servers) 0
  grown place = uses_sent place channels t (map (to_other envelope) servers) within ∙ ap (λ n. uses_in place channels + n) (uses_round place envelope servers)

  -- an envelope without a copy names nothing
  unnamed : body_copy b ≡ None → (place : ℕ) → names place envelope ≡ false
  unnamed none place = let no : names_copy envelope.says ≡ false = ap names_copy says ∙ names_says b ∙ ap is_some none in rw no refl

  named : (c : StoredCopy) → body_copy b ≡ Some c → names envelope.place envelope ≡ true
  named c is = names_own envelope (ap names_copy says ∙ names_says b ∙ ap is_some is)

  -- no envelope used the place of a copy that is new
  unused : 0 < length servers → (c : StoredCopy) → body_copy b ≡ Some c → uses_in envelope.place channels ≡ 0
  unused some c is = vacant_unused (slot_at mid.slots envelope.place) (uses_in envelope.place channels) (counted_mid envelope.place) (keeps.vacant some c is)

  pub sent_counted : Counted new.slots (set channels t (envelopes_at channels t ++ map (to_other envelope) servers))
  sent_counted = by_copy (some_or_none (body_copy b))
    where
      by_count : (c : StoredCopy) → body_copy b ≡ Some c → (length servers ≡ 0) ⊎ (0 < length servers) → Counted new.slots (set channels t (envelopes_at channels t ++ map (to_other envelope) servers))
      by_count c is (inl nobody) =
          counted_same mid.slots new.slots channels (set channels t (envelopes_at channels t ++ map (to_other envelope) servers)) (same_slots mid new (keeps.nobody nobody)) (λ place. grown place ∙ (let no = cond_zero (names place envelope) (length servers) nobody in omega (arith, no))) counted_mid
      by_count c is (inr some) =
          counted_change mid.slots new.slots channels (set channels t (envelopes_at channels t ++ map (to_other envelope) servers)) envelope.place (keeps.kept some c is).others
          (λ place other. grown place ∙ (let no : cond (names place envelope) (length servers) 0 ≡ 0 = ap (λ b. cond b (length servers) 0) (names_other envelope place other) in omega (arith, no)))
          (let all : cond (names envelope.place envelope) (length servers) 0 ≡ length servers = ap (λ b. cond b (length servers) 0) (named c is) in
          let full : uses_in envelope.place (set channels t (envelopes_at channels t ++ map (to_other envelope) servers)) ≡ length servers = omega (arith, grown envelope.place, all, unused some c is) in
          rw ((keeps.kept some c is).changed, full) (refl, some))
          counted_mid

      by_copy : (body_copy b ≡ None) ⊎ ((c : StoredCopy) × (body_copy b ≡ Some c)) → Counted new.slots (set channels t (envelopes_at channels t ++ map (to_other envelope) servers))
      by_copy (inl none) =
          counted_same mid.slots new.slots channels (set channels t (envelopes_at channels t ++ map (to_other envelope) servers)) (same_slots mid new (keeps.none none))
          (λ place. grown place ∙ (let no : cond (names place envelope) (length servers) 0 ≡ 0 = ap (λ b. cond b (length servers) 0) (unnamed none place) in omega (arith, no))) counted_mid
      by_copy (inr copy) = by_count copy.0 copy.1 (none_or_some (length servers))

  alike_mid : new ≡ mid → (place : ℕ) → slot_copy new.slots place ≡ slot_copy old.slots place
  alike_mid same place = ap copy_of (same_slots mid new same place ∙ ap (λ slots. slot_at slots place) room)

  alike : (place : ℕ) → 0 < uses_in place channels → slot_copy new.slots place ≡ slot_copy old.slots place
  alike place used = by_copy (some_or_none (body_copy b))
    where
      by_place : (c : StoredCopy) → body_copy b ≡ Some c → 0 < length servers → (place ≡ envelope.place) ⊎ (place ≢ envelope.place) → slot_copy new.slots place ≡ slot_copy old.slots place
      by_place c is some (inl same) = absurd (let no : uses_in place channels ≡ 0 = ap (λ k. uses_in k channels) same ∙ unused some c is in omega (arith, no, used))
      by_place c is some (inr other) = ap copy_of ((keeps.kept some c is).others place other ∙ ap (λ slots. slot_at slots place) room)

      by_count : (c : StoredCopy) → body_copy b ≡ Some c → (length servers ≡ 0) ⊎ (0 < length servers) → slot_copy new.slots place ≡ slot_copy old.slots place
      by_count c is (inl nobody) = alike_mid (keeps.nobody nobody) place
      by_count c is (inr some) = by_place c is some (cases_eq place envelope.place)

      by_copy : (body_copy b ≡ None) ⊎ ((c : StoredCopy) × (body_copy b ≡ Some c)) → slot_copy new.slots place ≡ slot_copy old.slots place
      by_copy (inl none) = alike_mid (keeps.none none) place
      by_copy (inr copy) = by_count copy.0 copy.1 (none_or_some (length servers))

  channel_sent : channel_of new.slots (map (to_other envelope) servers) ≡ map Some (map (λ server. with_body (to_other envelope server) b) servers)
  channel_sent = by_count (none_or_some (length servers))
    where
      by_count : (length servers ≡ 0) ⊎ (0 < length servers) → channel_of new.slots (map (to_other envelope) servers) ≡ map Some (map (λ server. with_body (to_other envelope server) b) servers)
      by_count (inl nobody) = to_nobody new.slots envelope b servers nobody
      by_count (inr some) =
          round_channel new.slots envelope b servers
          (ap (λ s. said_body s (slot_copy new.slots envelope.place)) says
          ∙ said_says b (slot_copy new.slots envelope.place) (λ is_copy. by_copy is_copy (some_or_none (body_copy b))))
        where
          by_copy : is_some (body_copy b) ≡ true → (body_copy b ≡ None) ⊎ ((c : StoredCopy) × (body_copy b ≡ Some c)) → slot_copy new.slots envelope.place ≡ body_copy b
          by_copy is_copy (inl none) = absurd (let no : is_some {T = StoredCopy} None ≡ true = sym (ap is_some none) ∙ is_copy in cc)
          by_copy is_copy (inr copy) = ap copy_of (keeps.kept some copy.0 copy.1).changed ∙ sym copy.1

  pub sent_view : (view : List Channel) → map (channel_of old.slots) channels ≡ view →
      map (channel_of new.slots) (set channels t (envelopes_at channels t ++ map (to_other envelope) servers)) ≡ set view t (channel_at view t ++ map Some (map (λ server. with_body (to_other envelope server) b) servers))
  sent_view view is =
      more_view new.slots channels t (map (to_other envelope) servers)
      ∙ ap₂ (λ v more. set v t (channel_at v t ++ more)) (alike_channels old.slots new.slots channels alike ∙ is) channel_sent

-- ---- a copy is shared

-- a slot in which something is
pub some_there : (P : SharedCopy → Type 0) (slot : Option SharedCopy) → IsSomeAnd slot P → (shared : SharedCopy) × (slot ≡ Some shared) × P shared
some_there P None h = absurd h
some_there P (Some shared) h = (shared, refl, h)

pub holds_there : (P : SharedCopy → Type 0) (slot : Option SharedCopy) (shared : SharedCopy) → slot ≡ Some shared → IsSomeAnd slot P → P shared
holds_there P slot shared is h = subst (λ s. IsSomeAnd s P) is h

module _ (old new : Slab SharedCopy) (channels : List (List Envelope)) (t : ℕ) (envelope : Envelope) (shared : SharedCopy) (within : t < length channels) (says : envelope.says ≡ says_of (body.Copy shared.copy))
    (there : get old envelope.place ≡ Some shared) (updates : Updates old new envelope.place (Some (record shared { users = shared.users + 1 }))) (counted : Counted old.slots channels) where
  one_more : (place : ℕ) → uses_in place (set channels t (envelopes_at channels t ++ envelope ∷ [])) ≡ uses_in place channels + once (names place envelope)
  one_more place = let one : uses place (envelope ∷ []) ≡ once (names place envelope) + 0 = uses_first place envelope [] in omega (arith, uses_sent place channels t (envelope ∷ []) within, one)

  pub shared_counted : Counted new.slots (set channels t (envelopes_at channels t ++ envelope ∷ []))
  shared_counted =
      counted_change old.slots new.slots channels (set channels t (envelopes_at channels t ++ envelope ∷ [])) envelope.place updates.others
      (λ place other. one_more place ∙ (let no : once (names place envelope) ≡ 0 = ap once (names_other envelope place other) in omega (arith, no)))
      (let one : once (names envelope.place envelope) ≡ 1 = ap once (names_own envelope (ap names_copy says)) in
      let more : uses_in envelope.place (set channels t (envelopes_at channels t ++ envelope ∷ [])) ≡ uses_in envelope.place channels + 1 = omega (arith, one_more envelope.place, one) in
      rw (updates.changed, more) (used_more (slot_at old.slots envelope.place) shared (uses_in envelope.place channels) there (counted envelope.place)))
      counted

  alike_shared : (place : ℕ) → slot_copy new.slots place ≡ slot_copy old.slots place
  alike_shared place = by_place (cases_eq place envelope.place)
    where
      by_place : (place ≡ envelope.place) ⊎ (place ≢ envelope.place) → slot_copy new.slots place ≡ slot_copy old.slots place
      by_place (inl same) = ap (slot_copy new.slots) same ∙ ap copy_of (updates.changed) ∙ sym (ap copy_of there) ∙ sym (ap (slot_copy old.slots) same)
      by_place (inr other) = ap copy_of (updates.others place other)

  pub shared_view : (view : List Channel) → map (channel_of old.slots) channels ≡ view →
      map (channel_of new.slots) (set channels t (envelopes_at channels t ++ envelope ∷ [])) ≡ set view t (channel_at view t ++ Some (with_body envelope (body.Copy shared.copy)) ∷ [])
  shared_view view is =
      more_view new.slots channels t (envelope ∷ [])
      ∙ ap₂ (λ v m. set v t (channel_at v t ++ m ∷ [])) (alike_channels old.slots new.slots channels (λ place _. alike_shared place) ∙ is)
      (ap (λ s. option_map (with_body envelope) (said_body s (slot_copy new.slots envelope.place))) says ∙ ap (λ c. option_map (with_body envelope) (said_body (says_of (body.Copy shared.copy)) (copy_of c))) updates.changed)

-- ---- an envelope is lost

less_copy : (slot : Option SharedCopy) (n m : ℕ) → m + 1 ≡ n → 0 < m → IsUsed slot n → copy_of (one_less slot) ≡ copy_of slot
less_copy None n m is some used = absurd (let no : n ≡ 0 = used in omega (arith, is, no))
less_copy (Some shared) n m is some used =
    let same : shared.users ≡ n = used.0 in
    let two : 1 < shared.users = omega (arith, same, is, some) in
    let many : nat_lt 1 shared.users ≡ true = grind (arith, nat_tests) in
    ap copy_of (ap (λ b. cond b (Some (record shared { users = shared.users - 1 })) None) many)

module _ (old new : Slab SharedCopy) (channels : List (List Envelope)) (t n : ℕ) (envelope : Envelope) (within : t < length channels) (is : envelope_at (envelopes_at channels t) n ≡ Some envelope) (counted : Counted old.slots channels) where
  one_fewer : (place : ℕ) → uses_in place (set channels t (set (envelopes_at channels t) n (lost envelope))) + once (names place envelope) ≡ uses_in place channels
  one_fewer place = uses_lost place channels t n envelope within (envelope_there (envelopes_at channels t) n envelope is)

  lost_channel : (view : List Channel) → map (channel_of old.slots) channels ≡ view →
      map (channel_of old.slots) (set channels t (set (envelopes_at channels t) n (lost envelope))) ≡ set view t (set (channel_at view t) n None)
  lost_channel view same =
      map-set (channel_of old.slots) channels t (set (envelopes_at channels t) n (lost envelope))
      ∙ ap (set (map (channel_of old.slots) channels) t) (map-set (envelope_message old.slots) (envelopes_at channels t) n (lost envelope) ∙ ap (λ channel. set channel n None) (sym (channel_there old.slots channels t)))
      ∙ ap (λ v. set v t (set (channel_at v t) n None)) same

  pub lost_unnamed_counted : names_copy envelope.says ≡ false → Counted old.slots (set channels t (set (envelopes_at channels t) n (lost envelope)))
  lost_unnamed_counted unnamed =
      counted_same old.slots old.slots channels (set channels t (set (envelopes_at channels t) n (lost envelope))) (λ place. refl)
      (λ place. (let none : once (names place envelope) ≡ 0 = ap (λ b. once (b && envelope.place == place)) unnamed in omega (arith, one_fewer place, none))) counted

  pub lost_unnamed_view : (view : List Channel) → map (channel_of old.slots) channels ≡ view →
      map (channel_of old.slots) (set channels t (set (envelopes_at channels t) n (lost envelope))) ≡ set view t (set (channel_at view t) n None)
  lost_unnamed_view = lost_channel

  module _ (named : names_copy envelope.says ≡ true) (updates : Updates old new envelope.place (one_less (get old envelope.place))) where
    one_named : uses_in envelope.place (set channels t (set (envelopes_at channels t) n (lost envelope))) + 1 ≡ uses_in envelope.place channels
    one_named = let one : once (names envelope.place envelope) ≡ 1 = ap once (names_own envelope named) in omega (arith, one_fewer envelope.place, one)

    pub lost_counted : Counted new.slots (set channels t (set (envelopes_at channels t) n (lost envelope)))
    lost_counted =
        counted_change old.slots new.slots channels (set channels t (set (envelopes_at channels t) n (lost envelope))) envelope.place updates.others
        (λ place other. (let no : once (names place envelope) ≡ 0 = ap once (names_other envelope place other) in omega (arith, one_fewer place, no)))
        (rw updates.changed (used_less (slot_at old.slots envelope.place) (uses_in envelope.place channels) (uses_in envelope.place (set channels t (set (envelopes_at channels t) n (lost envelope)))) one_named (counted envelope.place)))
        counted

    alike_lost : (place : ℕ) → 0 < uses_in place (set channels t (set (envelopes_at channels t) n (lost envelope))) → slot_copy new.slots place ≡ slot_copy old.slots place
    alike_lost place used = by_place (cases_eq place envelope.place)
      where
        by_place : (place ≡ envelope.place) ⊎ (place ≢ envelope.place) → slot_copy new.slots place ≡ slot_copy old.slots place
        by_place (inl same) =
            let used_here : 0 < uses_in envelope.place (set channels t (set (envelopes_at channels t) n (lost envelope))) = subst (λ k. 0 < uses_in k (set channels t (set (envelopes_at channels t) n (lost envelope)))) same used in
            ap (slot_copy new.slots) same ∙ ap copy_of (updates.changed)
            ∙ less_copy (slot_at old.slots envelope.place) (uses_in envelope.place channels) (uses_in envelope.place (set channels t (set (envelopes_at channels t) n (lost envelope)))) one_named used_here (counted envelope.place)
            ∙ sym (ap (slot_copy old.slots) same)
        by_place (inr other) = ap copy_of (updates.others place other)

    pub lost_view : (view : List Channel) → map (channel_of old.slots) channels ≡ view →
        map (channel_of new.slots) (set channels t (set (envelopes_at channels t) n (lost envelope))) ≡ set view t (set (channel_at view t) n None)
    lost_view view same = alike_channels old.slots new.slots (set channels t (set (envelopes_at channels t) n (lost envelope))) alike_lost ∙ lost_channel view same

-- ---- an envelope that is there is a message

not_lost : (envelopes : List Envelope) (n : ℕ) (envelope : Envelope) → envelope_at envelopes n ≡ Some envelope → says_lost envelope.says ≡ false
not_lost envelopes n envelope is = by_slot (slice_get envelopes n) refl
  where
    by_bool : (b : Bool) (x : Envelope) → cond b None (Some x) ≡ Some envelope → b ≡ false
    by_bool true x h = absurd (cc)
    by_bool false x h = refl

    by_slot : (o : Option Envelope) → slice_get envelopes n ≡ o → says_lost envelope.says ≡ false
    by_slot None at = absurd (let no : unless_lost None ≡ Some envelope = sym (ap unless_lost at) ∙ is in cc)
    by_slot (Some x) at =
        let same : Some x ≡ Some envelope = sym at ∙ envelope_there envelopes n envelope is in
        let equal : x ≡ envelope = some_is x same in
        ap (λ l. says_lost l.says) (sym equal) ∙ by_bool (says_lost x.says) x (sym (ap unless_lost at) ∙ is)
      where
        some_is : (x : Envelope) → Some x ≡ Some envelope → x ≡ envelope
        some_is x e = cc

some_said : (says : Says) (copy : Option StoredCopy) → says_lost says ≡ false → (names_copy says ≡ true → is_some copy ≡ true) → is_some (said_body says copy) ≡ true
some_said Lost copy alive there = absurd (cc)
some_said Ask copy alive there = refl
some_said Copy None alive there = there refl
some_said Copy (Some c) alive there = refl
some_said Store None alive there = there refl
some_said Store (Some c) alive there = refl
some_said Stored copy alive there = refl

some_map : (envelope : Envelope) (o : Option Body) → is_some o ≡ true → is_some (option_map (with_body envelope) o) ≡ true
some_map envelope None h = absurd (cc)
some_map envelope (Some b) h = refl

used_copy : (slot : Option SharedCopy) (n : ℕ) → 0 < n → IsUsed slot n → is_some (copy_of slot) ≡ true
used_copy None n some used = absurd (let no : n ≡ 0 = used in omega (arith, no, some))
used_copy (Some shared) n some used = refl

pub message_is : (slots : Slots) (channels : List (List Envelope)) (t n : ℕ) (envelope : Envelope) → t < length channels → envelope_at (envelopes_at channels t) n ≡ Some envelope → Counted slots channels → is_some (envelope_message slots envelope) ≡ true
message_is slots channels t n envelope within is counted =
    some_map envelope (said_body envelope.says (slot_copy slots envelope.place)) (some_said envelope.says (slot_copy slots envelope.place) (not_lost (envelopes_at channels t) n envelope is) has_copy)
  where
    has_copy : names_copy envelope.says ≡ true → is_some (slot_copy slots envelope.place) ≡ true
    has_copy named =
        let one : once (names envelope.place envelope) ≡ 1 = ap once (names_own envelope named) in
        let used : 0 < uses_in envelope.place channels = omega (arith, uses_lost envelope.place channels t n envelope within (envelope_there (envelopes_at channels t) n envelope is), one) in
        used_copy (slot_at slots envelope.place) (uses_in envelope.place channels) used (counted envelope.place)

-- the message with another body
pub other_body : (slots : Slots) (envelope : Envelope) (message : Message) (b : Body) → envelope_message slots envelope ≡ Some message → with_body envelope b ≡ record message { body = b }
other_body slots envelope message b is = by_body (said_body envelope.says (slot_copy slots envelope.place)) is
  where
    some_is : (m : Message) → Some m ≡ Some message → m ≡ message
    some_is m e = cc

    by_body : (o : Option Body) → option_map (with_body envelope) o ≡ Some message → with_body envelope b ≡ record message { body = b }
    by_body None h = absurd (cc)
    by_body (Some x) h = ap (λ (m : Message). record m { body = b }) (some_is (with_body envelope x) h)

-- ---- nothing happens

-- a channel in which message n is lost already, or was never sent
nothing_lost : (channel : Channel) (n : ℕ) → message_at channel n ≡ None → set channel n None ≡ channel
nothing_lost [] n none = refl
nothing_lost (m ∷ channel) zero none = ap (λ x. x ∷ channel) (sym none)
nothing_lost (m ∷ channel) (suc n) none = ap (λ l. m ∷ l) (nothing_lost channel n none)

pub nothing_view : (view : List Channel) (t n : ℕ) → message_at (channel_at view t) n ≡ None → view ≡ set view t (set (channel_at view t) n None)
nothing_view view t n none = sym (ap (set view t) (nothing_lost (channel_at view t) n none) ∙ set-get_or view t [])

-- ---- a post with no message

pub empty_counted : (slots : Slots) (count : ℕ) → slots ≡ [] → Counted slots (replicate count [])
empty_counted slots count empty = λ place. rw empty (uses_empty place count)

pub empty_view : (slots : Slots) (count : ℕ) → map (channel_of slots) (replicate count []) ≡ replicate count []
empty_view slots zero = refl
empty_view slots (suc count) = ap (λ channels. [] ∷ channels) (empty_view slots count)
