-- Steps at which no operation begins, ends or is given a version.
use Rattle.std.proofs.Common.{◌≡◌, ◌≢◌, ◌⊎◌, ℕ, refl, sym, ◌∙◌, subst, inl, inr, arith}
use Rattle.std.proofs.lemmas.Bool.{cases_eq, ne_eqb, eq-eqb}
use Rattle.gq_names.specs.Names.{Setting, Session, Reader, World, with_session, with_reader, tick}
use Rattle.gq_tag.proofs.Order.{IsAtMost, at_most_refl}
use Rattle.gq_names.proofs.Standing.{line_at, Lines, Searching, Sound}
use Rattle.gq_names.proofs.GoingOn.{op_stays, Goes, StaysOpen, lines_on, searching_on, sound_on, Untouched}

pub with_here : (s : ℕ) (x : Session) (w : World) (t : ℕ) → t ≡ s → (with_session s x w).session t ≡ x
with_here s x w t same = rw (eq-eqb t s same) refl

pub with_away : (s : ℕ) (x : Session) (w : World) (t : ℕ) → t ≢ s → (with_session s x w).session t ≡ w.session t
with_away s x w t ne = rw (ne_eqb t s ne) refl

-- what is seen of pages where one session has another one
pub line_with : (v : Setting) (w u : World) (s : ℕ) (x : Session) → ((t : ℕ) → u.session t ≡ w.session t) → IsAtMost (line_at v w s).tag (x.page.line v.name).tag → (t : ℕ) → IsAtMost (line_at v w t).tag (line_at v (with_session s x u) t).tag
line_with v w u s x alike up t = by (cases_eq t s)
  where
    P : Session → Type 0
    P z = IsAtMost (line_at v w t).tag (z.page.line v.name).tag

    by : (t ≡ s) ⊎ (t ≢ s) → IsAtMost (line_at v w t).tag (line_at v (with_session s x u) t).tag
    by (inl same) = subst P (sym (with_here s x u t same)) (let Q : ℕ → Type 0 = λ z. IsAtMost (line_at v w z).tag (x.page.line v.name).tag in subst Q (sym same) up)
    by (inr ne) = subst P (sym (with_away s x u t ne ∙ alike t)) (at_most_refl (line_at v w t).tag)

module _ (v : Setting) (w : World) (sound : Sound v w) where
  module _ (s : ℕ) (x : Session) (up : IsAtMost (line_at v w s).tag (x.page.line v.name).tag) (lines : Lines v w sound.past s (sound.base s) x) where
    abbrev turned : World
    turned = tick (with_session s x w)

    turned_goes : Goes v w turned
    turned_goes = record {
      now = refl;
      begun = omega arith;
      ops = λ i low. op_stays (w.op i) (w.op i) refl;
      ended = λ e t ended. inl (record { op = ended.op; low = ended.low; end = ended.end; tag = ended.tag });
      pages = line_with v w w s x (λ t. refl) up;
    }

    turned_open : (t : ℕ) → StaysOpen w turned t
    turned_open t k low session write none = none

    pub session_moves : Sound v turned
    session_moves = sound_on v w turned turned_goes sound sound.base sound.past (λ t d among. among) (λ t. at_most_refl ((sound.base t).page.line v.name).tag)
        (λ i low. inl (low, refl)) sound.differ (λ e t ended. inl (record { op = ended.op; low = ended.low; end = ended.end; tag = ended.tag }))
        (λ t. by t (cases_eq t s)) (λ r. inl refl)
      where
        by : (t : ℕ) → (t ≡ s) ⊎ (t ≢ s) → Untouched v w turned turned_goes sound sound.base sound.past t ⊎ Lines v turned sound.past t (sound.base t) (turned.session t)
        by t (inl same) = inr (rw (eq-eqb t s same) (let P : ℕ → Type 0 = λ z. Lines v turned sound.past z (sound.base z) x in subst P (sym same) (lines_on v w turned turned_goes sound sound.past sound.past (λ t d among. among) s (sound.base s) x refl (turned_open s) lines)))
        by t (inr ne) = inl (rw (ne_eqb t s ne) refl, refl, refl, turned_open t)

  -- nothing
  rested_goes : Goes v w (tick w)
  rested_goes = record {
    now = refl;
    begun = omega arith;
    ops = λ i low. op_stays (w.op i) (w.op i) refl;
    ended = λ e t ended. inl (record { op = ended.op; low = ended.low; end = ended.end; tag = ended.tag });
    pages = λ s. at_most_refl (line_at v w s).tag;
  }

  rested_open : (t : ℕ) → StaysOpen w (tick w) t
  rested_open t k low session write none = none

  pub rests : Sound v (tick w)
  rests = sound_on v w (tick w) rested_goes sound sound.base sound.past (λ t d among. among) (λ t. at_most_refl ((sound.base t).page.line v.name).tag)
      (λ i low. inl (low, refl)) sound.differ (λ e t ended. inl (record { op = ended.op; low = ended.low; end = ended.end; tag = ended.tag }))
      (λ t. inl (refl, refl, refl, rested_open t)) (λ r. inl refl)

  -- a reader looks at one page more
  module _ (r : ℕ) (x : Reader) (searching : Searching v w sound.past x) where
    abbrev looked_on : World
    looked_on = tick (with_reader r x w)

    looked_goes : Goes v w looked_on
    looked_goes = record {
      now = refl;
      begun = omega arith;
      ops = λ i low. op_stays (w.op i) (w.op i) refl;
      ended = λ e t ended. inl (record { op = ended.op; low = ended.low; end = ended.end; tag = ended.tag });
      pages = λ s. at_most_refl (line_at v w s).tag;
    }

    looked_open : (t : ℕ) → StaysOpen w looked_on t
    looked_open t k low session write none = none

    pub reader_moves : Sound v looked_on
    reader_moves = sound_on v w looked_on looked_goes sound sound.base sound.past (λ t d among. among) (λ t. at_most_refl ((sound.base t).page.line v.name).tag)
        (λ i low. inl (low, refl)) sound.differ (λ e t ended. inl (record { op = ended.op; low = ended.low; end = ended.end; tag = ended.tag }))
        (λ t. inl (refl, refl, refl, looked_open t)) (λ q. by q (cases_eq q r))
      where
        by : (q : ℕ) → (q ≡ r) ⊎ (q ≢ r) → (looked_on.reader q ≡ w.reader q) ⊎ Searching v looked_on sound.past (looked_on.reader q)
        by q (inl same) = inr (rw (eq-eqb q r same) (searching_on v w looked_on looked_goes sound sound.past sound.past (λ t d among. among) x searching))
        by q (inr ne) = inl (rw (ne_eqb q r ne) refl)
