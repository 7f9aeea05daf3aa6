-- What is taken within was written before, in the same step: nothing is asked of it.
use Rattle.std.proofs.Common.{◌≡◌, ◌∙◌, ℕ, zero, suc, Bool, true, false, List, [], ◌∷◌, ◌++◌, map, refl, sym, ap, subst, arith, inl, inr, append-nil}
use Rattle.std.specs.Prelude.{Contains, ⊤}
use Rattle.std.proofs.lemmas.Bool.{cases_Bool, and_parts, eq-eqb, eqb-true}
use Rattle.std.proofs.lemmas.List.{map-append}
use Rattle.std.proofs.lemmas.List.Elements.{Contains-append_left, Contains-append_right}
use Rattle.gq_tag.specs.Tag.{OwnMessage}
use Rattle.gq_replace.specs.Fleet.{Posted}
use Rattle.gq_node.specs.Inputs.{Input, Asked, AskedPlan, AskedLook, Brought, Shortened, Ticked, Looked, Joined as HeardJoined, Fetching, Fetched as WasFetched, does, after_one, after_all, doings}
use Rattle.gq_node.specs.Local.{Local, Doing}
use Rattle.gq_node.specs.Nodes.{NodeWorld, Nodes, Event, Came, site_in, site_at, address, posts, after_doing, after_event, nodes_after, CanCome, AllCanCome}
use Rattle.gq_node.specs.Sites.{Site}
use Rattle.gq_node.proofs.Forming.{shorts_are_written}
use Rattle.gq_node.proofs.Telling.{contains_map}
use Rattle.gq_parts.specs.Within.{address_in, is_own, gives_again, letters_by, is_own_by, own_by, first_own, own_of, own_letters, brought, hops, within, taken}
use Rattle.gq_parts.specs.AllNodes.{InputsCanCome}
use Rattle.gq_parts.specs.declared.laws.TheConstants.{MOST_HOPS}
use Rattle.gq_parts.proofs.Taking.{joined_silent, hops_none}

-- ---- letters that are taken within are among those that were written

OwnIn : List Posted → (n : ℕ) → List OwnMessage → Type 0
OwnIn all n [] = ⊤
OwnIn all n (m ∷ ms) = Contains all (record { from = n; to = n; letter = m }) × OwnIn all n ms

own_more : (all more : List Posted) (n : ℕ) (ms : List OwnMessage) → ((x : Posted) → Contains all x → Contains more x) → OwnIn all n ms → OwnIn more n ms
unfolding OwnIn
own_more all more n [] grows own = tt
own_more all more n (m ∷ ms) grows own = (grows _ own.0, own_more all more n ms grows own.1)

own_both : (all : List Posted) (n : ℕ) (xs ys : List OwnMessage) → OwnIn all n xs → OwnIn all n ys → OwnIn all n (xs ++ ys)
unfolding OwnIn
own_both all n [] ys a b = b
own_both all n (x ∷ xs) ys a b = (a.0, own_both all n xs ys a.1 b)

own_none : (all : List Posted) (n : ℕ) → OwnIn all n []
unfolding OwnIn
own_none all n = tt

-- those of what it writes that are taken within are there
own_written : (w : NodeWorld) (nodes : Nodes) (n : ℕ) (letters : List OwnMessage) → OwnIn (posts w nodes n letters) n (own_of (site_at w nodes n) letters)
unfolding OwnIn
own_written w nodes n [] = tt
own_written w nodes n (m ∷ ms) =
    let site : Site = site_at w nodes n in
    let later : OwnIn (posts w nodes n (m ∷ ms)) n (own_of site ms) =
    own_more (posts w nodes n ms) (posts w nodes n (m ∷ ms)) n (own_of site ms) (λ x c. Contains-append_right (posts w nodes n (m ∷ [])) (posts w nodes n ms) x c) (own_written w nodes n ms) in
    elim (cases_Bool (is_own site m)) [
      | inl is ↦ (rw is ((0, omega arith, ap (λ z. record { from = n; to = z; letter = m }) (eqb-true (address_in site m) n (and_parts _ _ is).1)), later))
      | inr is ↦ (rw is later)
    ]

-- so are those of a short letter, of what goes out whole: that is among what the law has as written
posted_among : (w : NodeWorld) (nodes : Nodes) (n : ℕ) (letters : List OwnMessage) (m : OwnMessage) → Contains letters m → address_in (site_at w nodes n) m ≡ n → Contains (posts w nodes n letters) (record { from = n; to = n; letter = m })
posted_among w nodes n letters m c to =
    subst (λ z. Contains (posts w nodes n letters) (record { from = n; to = z; letter = m })) to (contains_map (λ letter. record { from = n; to = address w nodes n letter; letter = letter }) letters m c)

own_among : (w : NodeWorld) (nodes : Nodes) (n : ℕ) (again : Bool) (some letters : List OwnMessage) → ((m : OwnMessage) → Contains some m → Contains letters m) → OwnIn (posts w nodes n letters) n (own_by again (site_at w nodes n) some)
unfolding OwnIn
own_among w nodes n again [] letters among = tt
own_among w nodes n again (m ∷ ms) letters among =
    let site : Site = site_at w nodes n in
    let later : OwnIn (posts w nodes n letters) n (own_by again site ms) = own_among w nodes n again ms letters (λ x c. among x (Contains-append_right (m ∷ []) ms x c)) in
    elim (cases_Bool (is_own_by again site m)) [
      | inl is ↦ (rw is (posted_among w nodes n letters m (among m (0, omega arith, refl)) (goes again is), later))
      | inr is ↦ (rw is later)
    ]
  where
    goes : (again : Bool) → is_own_by again (site_at w nodes n) m ≡ true → address_in (site_at w nodes n) m ≡ n
    goes true is = eqb-true (address_in (site_at w nodes n) m) n is
    goes false is = eqb-true (address_in (site_at w nodes n) m) n (and_parts _ _ is).1

-- what an input gives that is taken within
first_among : (site : Site) (local : Local) (input : Input) → (m : OwnMessage) → Contains (letters_by site local input) m → Contains (does input site local).letters m
first_among site local (Asked op line) m c = c
first_among site local AskedPlan m c = c
first_among site local (AskedLook mark volume) m c = c
first_among site local (Brought from letter) m c = c
first_among site local (Shortened from short bytes) m c = (shorts_are_written from short bytes site local).whole m c
first_among site local (Ticked session) m c = c
first_among site local (Looked lane) m c = c
first_among site local (HeardJoined from losses) m c = c
first_among site local (Fetching from file) m c = c
first_among site local (WasFetched from file copy) m c = c

-- ---- what stays, and what was written, behind inputs of the node

record Behind (w : NodeWorld) (p n : ℕ) (nodes after : Nodes) (inputs : List Input) : Type 0 where
  begun : after.begun n ≡ nodes.begun n
  gone : after.gone n ≡ nodes.gone n
  plan : after.last_plan n ≡ nodes.last_plan n
  local : after.local n ≡ after_all (site_in w p n) (nodes.local n) inputs
  grows : (x : Posted) → Contains nodes.posted x → Contains after.posted x
  own : OwnIn after.posted n (own_letters (site_in w p n) (doings (site_in w p n) (nodes.local n) inputs))

behind_doing : (w : NodeWorld) (p n : ℕ) (nodes : Nodes) (input : Input) → nodes.last_plan n ≡ p →
    Behind w p n nodes (after_doing w nodes n (does input (site_at w nodes n) (nodes.local n))) (input ∷ [])
behind_doing w p n nodes input plan = subst (λ q. Behind w q n nodes (after_doing w nodes n doing) (input ∷ [])) plan (record {
  begun = refl;
  gone = refl;
  plan = refl;
  local = rw (eq-eqb n n refl) refl;
  grows = λ x c. Contains-append_left nodes.posted (posts w nodes n doing.letters) x c;
  own = own_both (nodes.posted ++ posts w nodes n doing.letters) n (own_of (site_at w nodes n) doing.letters) [] (own_more (posts w nodes n doing.letters) (nodes.posted ++ posts w nodes n doing.letters) n (own_of (site_at w nodes n) doing.letters)
      (λ x c. Contains-append_right nodes.posted (posts w nodes n doing.letters) x c) (own_written w nodes n doing.letters)) (own_none (nodes.posted ++ posts w nodes n doing.letters) n);
})
  where
    doing : Doing
    doing = does input (site_at w nodes n) (nodes.local n)

behind_none : (w : NodeWorld) (p n : ℕ) (nodes : Nodes) → Behind w p n nodes nodes []
behind_none w p n nodes = record { begun = refl; gone = refl; plan = refl; local = refl; grows = λ x c. c; own = own_none nodes.posted n }

behind_then : (w : NodeWorld) (p n : ℕ) (nodes next after : Nodes) (input : Input) (inputs : List Input) → Behind w p n nodes next (input ∷ []) → Behind w p n next after inputs → Behind w p n nodes after (input ∷ inputs)
behind_then w p n nodes next after input inputs one more =
    let site : Site = site_in w p n in
    let doing : Doing = does input site (nodes.local n) in
    record {
      begun = more.begun ∙ one.begun;
      gone = more.gone ∙ one.gone;
      plan = more.plan ∙ one.plan;
      local = more.local ∙ ap (λ l. after_all site l inputs) one.local;
      grows = λ x c. more.grows x (one.grows x c);
      own = own_both after.posted n (own_of site doing.letters) (own_letters site (doings site doing.local inputs))
          (own_more next.posted after.posted n (own_of site doing.letters) more.grows (own_left next.posted n (own_of site doing.letters) one.own))
          (subst (λ l. OwnIn after.posted n (own_letters site (doings site l inputs))) one.local more.own);
    }
  where
    own_left : (all : List Posted) (m : ℕ) (ms : List OwnMessage) → OwnIn all m (ms ++ []) → OwnIn all m ms
    own_left all m ms own = subst (OwnIn all m) (append-nil ms) own

-- ---- a hop, and hops

pub can_more : (w : NodeWorld) (nodes : Nodes) (xs ys : List Event) → AllCanCome w nodes xs → AllCanCome w (nodes_after w nodes xs) ys → AllCanCome w nodes (xs ++ ys)
can_more w nodes [] ys a b = b
can_more w nodes (x ∷ xs) ys a b = (a.0, can_more w (after_event w nodes x) xs ys a.1 b)

-- the letters can come one behind the other
record HopCan (w : NodeWorld) (p n : ℕ) (nodes : Nodes) (letters : List OwnMessage) : Type 0 where
  can : AllCanCome w nodes (map (λ input. Came n input) (brought (site_in w p n) letters))
  behind : Behind w p n nodes (nodes_after w nodes (map (λ input. Came n input) (brought (site_in w p n) letters))) (brought (site_in w p n) letters)

hop_can : (w : NodeWorld) (p n : ℕ) (nodes : Nodes) (letters : List OwnMessage) → nodes.last_plan n ≡ p → nodes.begun n ≡ true → nodes.gone n ≡ false → OwnIn nodes.posted n letters → HopCan w p n nodes letters
unfolding OwnIn
hop_can w p n nodes [] plan begun gone own = record { can = tt; behind = behind_none w p n nodes }
hop_can w p n nodes (m ∷ ms) plan begun gone own =
    let input : Input = Brought n m in
    let next : Nodes = after_doing w nodes n (does input (site_at w nodes n) (nodes.local n)) in
    let one : Behind w p n nodes next (input ∷ []) = behind_doing w p n nodes input plan in
    let rest : HopCan w p n next ms = hop_can w p n next ms (one.plan ∙ plan) (one.begun ∙ begun) (one.gone ∙ gone) (own_more nodes.posted next.posted n ms one.grows own.1) in
    record {
      can = ((begun, gone, own.0), rest.can);
      behind = behind_then w p n nodes next (nodes_after w next (map (λ input. Came n input) (brought (site_in w p n) ms))) input (brought (site_in w p n) ms) one rest.behind;
    }

hops_can : (k : ℕ) (w : NodeWorld) (p n : ℕ) (nodes : Nodes) (letters : List OwnMessage) → nodes.last_plan n ≡ p → nodes.begun n ≡ true → nodes.gone n ≡ false → OwnIn nodes.posted n letters →
    AllCanCome w nodes (map (λ input. Came n input) (hops k (site_in w p n) (nodes.local n) letters))
unfolding hops
hops_can zero w p n nodes letters plan begun gone own = tt
hops_can (suc k) w p n nodes letters plan begun gone own =
    let site : Site = site_in w p n in
    let hop : List Input = brought site letters in
    let one : HopCan w p n nodes letters = hop_can w p n nodes letters plan begun gone own in
    let after : Nodes = nodes_after w nodes (map (λ input. Came n input) hop) in
    let more : List OwnMessage = own_letters site (doings site (nodes.local n) hop) in
    let rest : AllCanCome w after (map (λ input. Came n input) (hops k site (after.local n) more)) =
    hops_can k w p n after more (one.behind.plan ∙ plan) (one.behind.begun ∙ begun) (one.behind.gone ∙ gone) one.behind.own in
    let then : AllCanCome w after (map (λ input. Came n input) (hops k site (after_all site (nodes.local n) hop) more)) =
    subst (λ l. AllCanCome w after (map (λ input. Came n input) (hops k site l more))) one.behind.local rest in
    subst (AllCanCome w nodes) (sym (map-append (λ input. Came n input) hop (hops k site (after_all site (nodes.local n) hop) more)))
    (can_more w nodes (map (λ input. Came n input) hop) (map (λ input. Came n input) (hops k site (after_all site (nodes.local n) hop) more)) one.can then)

-- ---- what comes from outside, with what is taken within behind it

-- the word of another node gives no letter; by all else the node stays as it is to others
first_can : (k : ℕ) (w : NodeWorld) (p n : ℕ) (nodes : Nodes) (input : Input) → nodes.last_plan n ≡ p → CanCome w nodes (Came n input) → after_event w nodes (Came n input) ≡ after_doing w nodes n (does input (site_at w nodes n) (nodes.local n)) →
    AllCanCome w (after_event w nodes (Came n input)) (map (λ a. Came n a) (hops k (site_in w p n) (after_one (site_in w p n) (nodes.local n) input) (first_own (site_in w p n) (nodes.local n) input)))
first_can k w p n nodes input plan can is =
    let next : Nodes = after_doing w nodes n (does input (site_at w nodes n) (nodes.local n)) in
    let site : Site = site_in w p n in
    let letters : List OwnMessage = first_own site (nodes.local n) input in
    let one : Behind w p n nodes next (input ∷ []) = behind_doing w p n nodes input plan in
    let doing : Doing = does input (site_at w nodes n) (nodes.local n) in
    let posted : OwnIn next.posted n (first_own (site_at w nodes n) (nodes.local n) input) =
    own_more (posts w nodes n doing.letters) next.posted n (first_own (site_at w nodes n) (nodes.local n) input) (λ x c. Contains-append_right nodes.posted (posts w nodes n doing.letters) x c)
    (own_among w nodes n (gives_again input) (letters_by (site_at w nodes n) (nodes.local n) input) doing.letters (first_among (site_at w nodes n) (nodes.local n) input)) in
    let own : OwnIn next.posted n letters = subst (λ q. OwnIn next.posted n (first_own (site_in w q n) (nodes.local n) input)) plan posted in
    let all : AllCanCome w next (map (λ a. Came n a) (hops k site (next.local n) letters)) =
    hops_can k w p n next letters (one.plan ∙ plan) (one.begun ∙ can.0) (one.gone ∙ can.1) own in
    subst (λ x. AllCanCome w x (map (λ a. Came n a) (hops k site (after_one site (nodes.local n) input) letters))) (sym is)
    (subst (λ l. AllCanCome w next (map (λ a. Came n a) (hops k site l letters))) one.local all)

rest_can : (k : ℕ) (w : NodeWorld) (p n : ℕ) (nodes : Nodes) (input : Input) → nodes.last_plan n ≡ p → CanCome w nodes (Came n input) →
    AllCanCome w (after_event w nodes (Came n input)) (map (λ a. Came n a) (hops k (site_in w p n) (after_one (site_in w p n) (nodes.local n) input) (first_own (site_in w p n) (nodes.local n) input)))
rest_can k w p n nodes (Asked op line) plan can = first_can k w p n nodes (Asked op line) plan can refl
rest_can k w p n nodes AskedPlan plan can = first_can k w p n nodes AskedPlan plan can refl
rest_can k w p n nodes (AskedLook mark volume) plan can = first_can k w p n nodes (AskedLook mark volume) plan can refl
rest_can k w p n nodes (Brought from letter) plan can = first_can k w p n nodes (Brought from letter) plan can refl
rest_can k w p n nodes (Shortened from short bytes) plan can = first_can k w p n nodes (Shortened from short bytes) plan can refl
rest_can k w p n nodes (Ticked session) plan can = first_can k w p n nodes (Ticked session) plan can refl
rest_can k w p n nodes (Looked lane) plan can = first_can k w p n nodes (Looked lane) plan can refl
rest_can k w p n nodes (HeardJoined from losses) plan can =
    let site : Site = site_in w p n in
    let input : Input = HeardJoined from losses in
    let doing : Doing = does input site (nodes.local n) in
    let next : Nodes = after_event w nodes (Came n input) in
    let none : first_own site (nodes.local n) input ≡ [] = ap (own_of site) (joined_silent from losses site (nodes.local n)).letters in
    let still : hops k site doing.local (first_own site (nodes.local n) input) ≡ [] = ap (hops k site doing.local) none ∙ hops_none k site doing.local in
    subst (λ xs. AllCanCome w next (map (λ a. Came n a) xs)) (sym still) tt
rest_can k w p n nodes (Fetching from file) plan can = first_can k w p n nodes (Fetching from file) plan can refl
rest_can k w p n nodes (WasFetched from file copy) plan can = first_can k w p n nodes (WasFetched from file copy) plan can refl

within_can : (w : NodeWorld) (p n : ℕ) (nodes : Nodes) (input : Input) → nodes.last_plan n ≡ p → CanCome w nodes (Came n input) →
    AllCanCome w nodes (map (λ a. Came n a) (within (site_in w p n) (nodes.local n) input))
unfolding within
within_can w p n nodes input plan can = (can, rest_can MOST_HOPS w p n nodes input plan can)

-- where each that comes from outside can come, all can
pub taken_can : (w : NodeWorld) (n : ℕ) (nodes : Nodes) (site : Site) (inputs : List Input) → site_at w nodes n ≡ site → InputsCanCome w n nodes inputs →
    ((nodes : Nodes) (xs : List Input) → ((nodes_after w nodes (map (λ a. Came n a) xs)).local n ≡ after_all (site_at w nodes n) (nodes.local n) xs) × (site_at w (nodes_after w nodes (map (λ a. Came n a) xs)) n ≡ site_at w nodes n)) →
    AllCanCome w nodes (map (λ a. Came n a) (taken site (nodes.local n) inputs))
taken_can w n nodes site [] same can goes = tt
taken_can w n nodes site (input ∷ rest) same can goes =
    let own : Site = site_at w nodes n in
    let one : List Input = within own (nodes.local n) input in
    let after : Nodes = nodes_after w nodes (map (λ a. Came n a) one) in
    let first : AllCanCome w nodes (map (λ a. Came n a) one) = within_can w (nodes.last_plan n) n nodes input refl can.0 in
    let more : AllCanCome w after (map (λ a. Came n a) (taken own (after.local n) rest)) = taken_can w n after own rest (goes nodes one).1 can.1 goes in
    let then : AllCanCome w after (map (λ a. Came n a) (taken own (after_all own (nodes.local n) one) rest)) =
    subst (λ l. AllCanCome w after (map (λ a. Came n a) (taken own l rest))) (goes nodes one).0 more in
    subst (λ s. AllCanCome w nodes (map (λ a. Came n a) (taken s (nodes.local n) (input ∷ rest)))) same
    (subst (AllCanCome w nodes) (sym (map-append (λ a. Came n a) one (taken own (after_all own (nodes.local n) one) rest)))
    (can_more w nodes (map (λ a. Came n a) one) (map (λ a. Came n a) (taken own (after_all own (nodes.local n) one) rest)) first then))
