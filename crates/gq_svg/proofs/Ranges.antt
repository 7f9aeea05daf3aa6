-- One number more.
use Rattle.std.proofs.Common.{◌≡◌, ◌∙◌, ℕ, zero, suc, ◌+◌, List, [], ◌∷◌, ◌++◌, append_assoc, append-nil, true, false, cond, length, refl, sym, ap, add-zero, add-one, arith}
use Rattle.std.specs.Prelude.{filter}
use Rattle.std.specs.List.{flat_map, range_with_len}
use Rattle.std.proofs.lemmas.List.{length-append}
use Rattle.std.proofs.lemmas.List.Concat.{flat_map-append}
use Rattle.std.proofs.lemmas.List.Elements.{filter-append}
use Rattle.gq_picture.specs.declared.drawing.Outage.{Outage}
use Rattle.gq_svg.specs.Layout.{lane_top, server_top}
use Rattle.gq_svg.specs.Lanes.{down_servers, is_down, server_lanes, server_text, session_lane, session_lanes}

from_more : (k from : ℕ) → range_with_len from (suc k) ≡ range_with_len from k ++ (from + k) ∷ []
from_more zero from = rw add-zero refl
from_more (suc k) from =
    let here : from + 1 + k ≡ from + suc k = omega arith in
    ap (λ xs. from ∷ xs) (from_more k (from + 1) ∙ ap (λ n. range_with_len (from + 1) k ++ n ∷ []) here)

range_more : (k : ℕ) → range_with_len 0 (k + 1) ≡ range_with_len 0 k ++ k ∷ []
range_more k =
    let here : 0 + k ≡ k = omega arith in
    rw add-one (from_more k 0 ∙ ap (λ n. range_with_len 0 k ++ n ∷ []) here)

-- the lane of one session more is appended
pub session_more : (edge k : ℕ) (old mid new : List ℕ) → mid ≡ old ++ session_lanes edge k → new ≡ mid ++ session_lane edge (lane_top (k + 1)) (k + 1) → new ≡ old ++ session_lanes edge (k + 1)
session_more edge k old mid new before now =
    let f : ℕ → List ℕ = λ before. session_lane edge (lane_top (before + 1)) (before + 1) in
    now ∙ (ap (λ t. t ++ f k) before
    ∙ (append_assoc old (session_lanes edge k) (f k)
    ∙ ap (λ t. old ++ t) (ap (λ t. session_lanes edge k ++ t) (sym (append-nil (f k))) ∙ sym (ap (flat_map f) (range_more k) ∙ flat_map-append f (range_with_len 0 k) (k ∷ [])))))

-- one server more was down, or wasn't
more : (outages : List Outage) (k : ℕ) → down_servers outages (k + 1) ≡ down_servers outages k ++ cond (is_down outages k) (k ∷ []) []
more outages k = ap (filter (is_down outages)) (range_more k) ∙ filter-append (is_down outages) (range_with_len 0 k) (k ∷ [])

pub down_more : (outages : List Outage) (k : ℕ) → is_down outages k ≡ true → down_servers outages (k + 1) ≡ down_servers outages k ++ k ∷ []
down_more outages k down = more outages k ∙ ap (λ b. down_servers outages k ++ cond b (k ∷ []) []) down

pub up_more : (outages : List Outage) (k : ℕ) → is_down outages k ≡ false → down_servers outages (k + 1) ≡ down_servers outages k
up_more outages k up = more outages k ∙ (ap (λ b. down_servers outages k ++ cond b (k ∷ []) []) up ∙ append-nil (down_servers outages k))

-- it is counted, or not
pub count_more : (outages : List Outage) (k : ℕ) → is_down outages k ≡ true → length (down_servers outages (k + 1)) ≡ length (down_servers outages k) + 1
count_more outages k down = ap length (down_more outages k down) ∙ length-append (down_servers outages k) (k ∷ [])

-- its lane is appended
pub server_more : (edge sessions : ℕ) (outages : List Outage) (k before : ℕ) (old mid new : List ℕ) → is_down outages k ≡ true → before ≡ length (down_servers outages k) → mid ≡ old ++ server_lanes edge sessions outages k
    → new ≡ mid ++ server_text edge (server_top sessions before) outages k → new ≡ old ++ server_lanes edge sessions outages (k + 1)
server_more edge sessions outages k before old mid new down counted is now =
    let f : ℕ → List ℕ = λ server. server_text edge (server_top sessions (length (down_servers outages server))) outages server in
    now ∙ (ap (λ n. mid ++ server_text edge (server_top sessions n) outages k) counted
    ∙ (ap (λ t. t ++ f k) is
    ∙ (append_assoc old (server_lanes edge sessions outages k) (f k)
    ∙ ap (λ t. old ++ t) (ap (λ t. server_lanes edge sessions outages k ++ t) (sym (append-nil (f k))) ∙ sym (ap (flat_map f) (down_more outages k down) ∙ flat_map-append f (down_servers outages k) (k ∷ []))))))

-- nothing is appended where it wasn't down
pub server_kept : (edge sessions : ℕ) (outages : List Outage) (k : ℕ) (old new : List ℕ) → is_down outages k ≡ false → new ≡ old ++ server_lanes edge sessions outages k → new ≡ old ++ server_lanes edge sessions outages (k + 1)
server_kept edge sessions outages k old new up is =
    let f : ℕ → List ℕ = λ server. server_text edge (server_top sessions (length (down_servers outages server))) outages server in
    is ∙ ap (λ servers. old ++ flat_map f servers) (sym (up_more outages k up))
