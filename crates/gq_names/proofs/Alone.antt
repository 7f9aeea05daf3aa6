-- A change of no name that nobody disturbs can be made, whatever happened before.
use Rattle.std.proofs.Common.{◌≡◌, ◌≢◌, ◌⊎◌, ℕ, ◌<◌, ◌≤◌, Bool, true, false, max, List, [], ◌∷◌, map, refl, sym, ap, ◌∙◌, subst, inl, inr, arith}
use Rattle.std.specs.Prelude.{All, fold, if◌then◌else◌}
use Rattle.std.proofs.lemmas.Bool.{cases_eq, lt-ltb, and_parts}
use Rattle.std.proofs.lemmas.List.Elements.{All-head, All-tail}
use Rattle.gq_tag.specs.Tag.{first_tag, first_copy, is_less}
use Rattle.gq_names.specs.Names.{Setting, Page, Journal, Client, Knows, World, Enters, Tidies, Chooses, ClientWrites, with_session, looking, tidying, tidies_by, shown, goes_now, tick, after_step, world_after}
use Rattle.gq_names.specs.Completing.{looks_at}
use Rattle.gq_names.specs.Sweeping.{when_looked, after_turn, every_name, every_page, IsTurn, AreTurns, alone, AllCanSweep}
use Rattle.gq_names.proofs.Moves.{with_here, with_away}
use Rattle.gq_names.proofs.Onward.{Kept, kept_after, line_number}
use Rattle.gq_names.proofs.Changing.{entered_is, entered_page, entered_rest, Sight, first_sight, looks_all, has, announced_journal, carried_world, writes_are, carried_page, carried_journal, carried_rest}
use Rattle.gq_names.proofs.Sweeping.{kept_turn}

module _ (v : Setting) (w : World) (kept : Kept v w) (s : ℕ) (low : s < v.sessions) where
  abbrev j : Journal
  j = (w.session s).journal

  abbrev entered : World
  entered = after_step v w (Enters s)

  abbrev start : World
  start = tick (with_session s (looking entered s j tidying) entered)

  tidies_is : after_step v entered (Tidies s) ≡ start
  tidies_is = rw (lt-ltb s v.sessions low) (by (entered.session s).client (ap (λ z. z.client) (entered_is v w s)))
    where
      by : (client : Client) → client ≡ Knows j → tick (tidies_by entered s client) ≡ start
      by client is = let P : Client → Type 0 = λ z. tick (tidies_by entered s z) ≡ start in subst P (sym is) refl

  start_page : (t : ℕ) → (start.session t).page ≡ (w.session t).page
  start_page t = by (cases_eq t s)
    where
      by : (t ≡ s) ⊎ (t ≢ s) → (start.session t).page ≡ (w.session t).page
      by (inl same) = ap (λ z. z.page) (with_here s (looking entered s j tidying) entered t same) ∙ (ap (λ z. (entered.session z).page) (sym same) ∙ entered_page v w s t)
      by (inr ne) = ap (λ z. z.page) (with_away s (looking entered s j tidying) entered t ne) ∙ entered_page v w s t

  abbrev looked : World
  looked = fold (after_step v) start (looks_at s v.sessions)

  sight : Sight v w start s low tidying v.sessions (fold (after_step v) start (looks_at s v.sessions))
  sight = looks_all v w start s low tidying (first_sight v w start s low tidying entered (with_here s (looking entered s j tidying) entered s refl) start_page (λ t ne. with_away s (looking entered s j tidying) entered t ne ∙ entered_rest v w s t ne)) v.sessions (omega arith)

  looked_is : when_looked v w (alone v s) ≡ fold (after_step v) start (looks_at s v.sessions)
  looked_is = ap (λ z. fold (after_step v) z (looks_at s v.sessions)) tidies_is

  shown_number : (page : Page) (name : ℕ) → (page.line name).tag.number ≤ page.number → (shown page name).tag.number ≤ page.number
  shown_number page name most = by (page.gone name)
    where
      by : (b : Bool) → (if b then first_copy else page.line name).tag.number ≤ page.number
      by true = omega arith
      by false = most

  pub alone_turn : IsTurn v w (alone v s)
  alone_turn = record {
    known = j;
    idle = ap (λ z. z.client) (entered_is v w s);
    journal = j;
    change = tidying;
    looked = sight.looked;
    seen = sight.seen;
    looks = ap (λ z. (z.session s).client) looked_is ∙ sight.is;
    has = has v w start s low tidying kept.counted looked sight 0 every_name every_page;
    does = record {
      lines = λ name none can. (and_parts (is_less first_tag (shown j.page name).tag) (goes_now v every_name every_page sight.seen s j.page name) can).1;
      removals = λ t name inside ne removal. number t name inside ne;
      announces = refl;
      carries = refl;
    };
  }
    where
      number : (t name : ℕ) → t < v.sessions → t ≢ s → (shown (sight.seen t) name).tag.number ≤ max (j.page.after t) (sight.seen t).number
      number t name inside ne =
          let P : Page → Type 0 = λ z. (shown z name).tag.number ≤ z.number in
          let most : (shown (sight.seen t) name).tag.number ≤ (sight.seen t).number = subst P (sym (sight.others t inside ne)) (shown_number (w.session t).page name (line_number v w kept t name)) in
          omega (arith, most)

  pub alone_change : alone_turn.change ≡ tidying
  unfolding alone_turn
  alone_change = refl

  -- ---- and what it leaves

  abbrev next : Journal
  next = announced_journal v w start s low tidying kept.counted looked sight 0 every_name every_page

  after_is : after_turn v w (alone v s) ≡ carried_world v w start s low tidying kept.counted (fold (after_step v) start (looks_at s v.sessions)) sight 0 every_name every_page
  after_is =
      ap (λ z. after_step v (after_step v (after_step v z (Chooses s 0 every_name every_page)) (ClientWrites s true)) (ClientWrites s true)) looked_is
      ∙ writes_are v w start s low tidying kept.counted looked sight 0 every_name every_page

  pub alone_rest : (t : ℕ) → t ≢ s → (after_turn v w (alone v s)).session t ≡ w.session t
  alone_rest t ne = ap (λ z. z.session t) after_is ∙ carried_rest v w start s low tidying kept.counted looked sight 0 every_name every_page t ne

  pub alone_settled : ((after_turn v w (alone v s)).session s).journal.page ≡ ((after_turn v w (alone v s)).session s).page
  alone_settled =
      ap (λ z. (z.session s).journal.page) after_is ∙ (carried_journal v w start s low tidying kept.counted looked sight 0 every_name every_page
      ∙ sym (ap (λ z. (z.session s).page) after_is ∙ carried_page v w start s low tidying kept.counted looked sight 0 every_name every_page))

  next_line : (name : ℕ) → next.page.line name ≡ j.page.line name
  unfolding announced_journal
  next_line name = refl

  pub alone_lines : (name : ℕ) → ((after_turn v w (alone v s)).session s).page.line name ≡ (w.session s).journal.page.line name
  alone_lines name = ap (λ z. (z.session s).page.line name) after_is ∙ (ap (λ z. z.line name) (carried_page v w start s low tidying kept.counted looked sight 0 every_name every_page) ∙ next_line name)

pub alone_turns : (v : Setting) (sessions : List ℕ) (w : World) → Kept v w → All (λ s. s < v.sessions) sessions → AreTurns v w (map (alone v) sessions)
alone_turns v [] w kept low = tt
alone_turns v (s ∷ sessions) w kept low =
    (alone_turn v w kept s (All-head (λ i. i < v.sessions) s sessions low), alone_turns v sessions (after_turn v w (alone v s)) (kept_turn v w kept (alone v s)) (All-tail (λ i. i < v.sessions) s sessions low))

pub all_can_sweep : AllCanSweep
all_can_sweep v steps sessions low = alone_turns v sessions (world_after v steps) (kept_after v steps) low
