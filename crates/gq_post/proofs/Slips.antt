-- Slips under headings: with headings more, a slip more, or one that is lost.
use Rattle.std.proofs.Common.{◌≡◌, ◌∙◌, ◌<◌, ◌+◌, ℕ, arith, List, [], ◌∷◌, ◌++◌, length, get_or, set, Some, refl, sym, ap, ap₂, map, slice_get}
use Rattle.std.specs.Prelude.{option_map}
use Rattle.std.proofs.lemmas.List.{map-set, map-append, length-append}
use Rattle.std.proofs.lemmas.List.Elements.{All-head, All-tail, All-append, All-map, All-weaker}
use Rattle.std.proofs.lemmas.Option.{slice_get-map, slice_get_read}
use Rattle.std.proofs.Math.ListN.{get_or-append}
use Rattle.std.proofs.Math.Seq.{get_or-append_seam}
use Rattle.gq_post.specs.declared.envelopes.Envelope.{Envelope}
use Rattle.gq_post.specs.declared.envelopes.Heading.{Heading}
use Rattle.gq_post.specs.declared.envelopes.Slip.{Slip}
use Rattle.gq_post.specs.declared.envelopes.Says.{Says}
use Rattle.gq_post.specs.declared.envelopes.Says.TheVariants.{Lost}
use Rattle.gq_post.specs.Envelopes.{to_other, answering, lost}
use Rattle.gq_post.specs.Slips.{heading_of, slip_of, slip_to, under, no_heading, opened, HaveHeadings}

-- ---- a heading more

pub opened_more : (headings more : List Heading) (slips : List Slip) → HaveHeadings headings slips → map (opened (headings ++ more)) slips ≡ map (opened headings) slips
opened_more headings more [] have = refl
opened_more headings more (slip ∷ slips) have =
    ap₂ (λ envelope channel. envelope ∷ channel)
    (ap (λ heading. under heading slip) (get_or-append headings more no_heading slip.heading (All-head (λ s. s.heading < length headings) slip slips have)))
    (opened_more headings more slips (All-tail (λ s. s.heading < length headings) slip slips have))

-- the heading that was added
last_heading : (headings : List Heading) (envelope : Envelope) (slip : Slip) → slip.heading ≡ length headings → opened (headings ++ heading_of envelope ∷ []) slip ≡ under (heading_of envelope) slip
last_heading headings envelope slip last = ap (λ heading. under heading slip) (ap (λ n. get_or (headings ++ heading_of envelope ∷ []) n no_heading) last ∙ get_or-append_seam headings (heading_of envelope) [] no_heading)

-- ---- envelopes more

pub have_round : (headings : List Heading) (slips : List Slip) (heading : Heading) (slip : Slip) (servers : List ℕ) → slip.heading ≡ length headings → HaveHeadings headings slips → HaveHeadings (headings ++ heading ∷ []) (slips ++ map (slip_to slip) servers)
have_round headings slips heading slip servers last have =
    let more : length (headings ++ heading ∷ []) ≡ length headings + 1 = length-append headings (heading ∷ []) in
    All-append (λ s. s.heading < length (headings ++ heading ∷ [])) slips (map (slip_to slip) servers)
    (All-weaker (λ s. s.heading < length headings) (λ s. s.heading < length (headings ++ heading ∷ [])) (λ s within. omega (arith, within, more)) slips have)
    (All-map (λ s. s.heading < length (headings ++ heading ∷ [])) (slip_to slip) servers (λ k server within. omega (arith, last, more)))

pub pushed : (headings : List Heading) (slips : List Slip) (envelope : Envelope) → HaveHeadings headings slips →
    map (opened (headings ++ heading_of envelope ∷ [])) (slips ++ slip_of envelope (length headings) ∷ []) ≡ map (opened headings) slips ++ envelope ∷ []
pushed headings slips envelope have =
    map-append (opened (headings ++ heading_of envelope ∷ [])) slips (slip_of envelope (length headings) ∷ [])
    ∙ ap₂ (λ channel own. channel ++ own ∷ []) (opened_more headings (heading_of envelope ∷ []) slips have) (last_heading headings envelope (slip_of envelope (length headings)) refl)

to_servers : (headings : List Heading) (envelope : Envelope) (servers : List ℕ) → map (opened (headings ++ heading_of envelope ∷ [])) (map (slip_to (slip_of envelope (length headings))) servers) ≡ map (to_other envelope) servers
to_servers headings envelope [] = refl
to_servers headings envelope (server ∷ servers) =
    ap₂ (λ own channel. own ∷ channel) (last_heading headings envelope (slip_to (slip_of envelope (length headings)) server) refl) (to_servers headings envelope servers)

pub pushed_round : (headings : List Heading) (slips : List Slip) (envelope : Envelope) (servers : List ℕ) → HaveHeadings headings slips →
    map (opened (headings ++ heading_of envelope ∷ [])) (slips ++ map (slip_to (slip_of envelope (length headings))) servers) ≡ map (opened headings) slips ++ map (to_other envelope) servers
pushed_round headings slips envelope servers have =
    map-append (opened (headings ++ heading_of envelope ∷ [])) slips (map (slip_to (slip_of envelope (length headings))) servers)
    ∙ ap₂ (λ channel own. channel ++ own) (opened_more headings (heading_of envelope ∷ []) slips have) (to_servers headings envelope servers)

-- ---- an envelope that is there

some_is : (a b : Envelope) → Some a ≡ Some b → a ≡ b
some_is a b e = cc

pub opened_read : (headings : List Heading) (slips : List Slip) (n : ℕ) (slip : Slip) (asked : Envelope) → n < length slips → slip ≡ get_or slips n slip → slice_get (map (opened headings) slips) n ≡ Some asked → opened headings slip ≡ asked
opened_read headings slips n slip asked within is there =
    some_is (opened headings slip) asked (sym (slice_get-map (opened headings) slips n ∙ ap (option_map (opened headings)) (slice_get_read slips (length slips) n slip refl within is)) ∙ there)

pub answered : (headings : List Heading) (slips : List Slip) (slip : Slip) (asked : Envelope) (says : Says) (place : ℕ) → opened headings slip ≡ asked →
    map (opened headings) (slips ++ record slip { place = place; says = says } ∷ []) ≡ map (opened headings) slips ++ answering asked says place ∷ []
answered headings slips slip asked says place is =
    map-append (opened headings) slips (record slip { place = place; says = says } ∷ [])
    ∙ ap (λ envelope. map (opened headings) slips ++ answering envelope says place ∷ []) is

pub opened_lost : (headings : List Heading) (slips : List Slip) (n : ℕ) (slip : Slip) → map (opened headings) (set slips n (record slip { says = Lost })) ≡ set (map (opened headings) slips) n (lost (opened headings slip))
opened_lost headings slips n slip = map-set (opened headings) slips n (record slip { says = Lost })
