-- What is told where one fault more is met.
use Rattle.std.proofs.Common.{◌≡◌, ◌∙◌, ℕ, ◌+◌, ◌≤◌, ◌<◌, ◌⊎◌, inl, inr, List, [], ◌∷◌, ◌++◌, Option, Some, None, Result, Ok, Err, MatchOption, option_to_list, Contains, sym, ap, subst, arith}
use Rattle.std.specs.Result.{IfErr, OnOk}
use Rattle.std.specs.List.{cons_option, filter_map}
use Rattle.std.proofs.lemmas.List.Elements.{All-cons, All-push, All-same, All-weaker, Contains-append_left, Contains-append_right, Contains-push, Contains-push_cases, filter_map-append}
use Rattle.std.proofs.lemmas.List.{append-nil}
use Rattle.gq_session.specs.declared.records.LiveFault.{LiveFault}
use Rattle.gq_session.specs.declared.records.LiveFault.TheVariants.{Memory, Letter}
use Rattle.gq_live.specs.Faults.{number_of, AddsOrTells, IsLeastOf, IsToldOf, TellsOf}

abbrev IsOwn : LiveFault → Type 0
IsOwn fault = (fault ≡ Memory tt) ⊎ (fault ≡ Letter)

abbrev NoLess : LiveFault → LiveFault → Type 0
NoLess told fault = number_of told ≤ number_of fault

in_none : (x : LiveFault) → Contains {X = LiveFault} [] x → ⊥
in_none x h = let no : h.0 < 0 = h.1 in omega arith

in_one : (one x : LiveFault) → Contains (one ∷ []) x → one ≡ x
in_one one x h = elim (Contains-push_cases [] one x h) [ inl none ↦ absurd (in_none x none) | inr same ↦ same ]

-- what is told is one of the two
is_either : (o : Option LiveFault) (f told : LiveFault) → IsLeastOf (option_to_list o ++ f ∷ []) told → (o ≡ Some told) ⊎ (f ≡ told)
is_either None f told least = inr (in_one f told least.one)
is_either (Some one) f told least =
    elim (Contains-push_cases (one ∷ []) f told least.one) [ inl h ↦ inl (ap Some (in_one one told h)) | inr same ↦ inr same ]

-- a fault of what a thread gave
told-own : (met : List LiveFault) (o : Option LiveFault) (f told : LiveFault) → TellsOf met o → IsOwn f → IsLeastOf (option_to_list o ++ f ∷ []) told → IsToldOf met told
told-own met None f told none own least = record {
  cause = inr (subst IsOwn (in_one f told least.one) own);
  least = All-same (NoLess told) met [] none (λ k d h. let no : k < 0 = h in absurd (omega arith));
}
told-own met (Some one) f told before own least =
    let first : NoLess told one = least.least 0 one (omega arith) in
    let P : LiveFault → Type 0 = λ x. Contains met x ⊎ IsOwn x in
    record {
      cause = elim (Contains-push_cases (one ∷ []) f told least.one) [ inl h ↦ subst P (in_one one told h) before.cause | inr same ↦ inr (subst IsOwn same own) ];
      least = All-weaker (NoLess one) (NoLess told) (λ x h. omega arith) met before.least;
    }

-- a fault that a thread met
told-met : (met : List LiveFault) (o : Option LiveFault) (f told : LiveFault) → TellsOf met o → IsLeastOf (option_to_list o ++ f ∷ []) told → IsToldOf (met ++ f ∷ []) told
told-met met None f told none least =
    let last : Contains (met ++ f ∷ []) f = Contains-push met f in
    record {
      cause = inl (subst (λ (x : LiveFault). Contains (met ++ f ∷ []) x) (in_one f told least.one) last);
      least = All-push (NoLess told) met f (All-same (NoLess told) met [] none (λ k d h. let no : k < 0 = h in absurd (omega arith))) (least.least 0 f (omega arith));
    }
told-met met (Some one) f told before least =
    let first : NoLess told one = least.least 0 one (omega arith) in
    let P : LiveFault → Type 0 = λ x. Contains (met ++ f ∷ []) x ⊎ IsOwn x in
    let more : Contains met one ⊎ IsOwn one → P one = λ cause. elim cause [ inl h ↦ inl (Contains-append_left met (f ∷ []) one h) | inr own ↦ inr own ] in
    record {
      cause = elim (Contains-push_cases (one ∷ []) f told least.one) [ inl h ↦ subst P (in_one one told h) (more before.cause) | inr same ↦ inl (subst (λ (x : LiveFault). Contains (met ++ f ∷ []) x) same (Contains-push met f)) ];
      least = All-push (NoLess told) met f (All-weaker (NoLess one) (NoLess told) (λ x h. omega arith) met before.least) (least.least 1 f (omega arith));
    }

-- one thread's end more
pub tells-more : (met : List LiveFault) (o after : Option LiveFault) (given : Option LiveFault) (added : Result Unit LiveFault) →
    TellsOf met o → AddsOrTells given added → OnOk added (after ≡ o) → IfErr added (λ f. MatchOption after ⊥ (IsLeastOf (option_to_list o ++ f ∷ []))) →
    TellsOf (met ++ cons_option given []) after
tells-more met o after None (Ok _) before adds ok least =
    subst (λ (xs : List LiveFault). TellsOf xs after) (sym (append-nil met)) (subst (λ (x : Option LiveFault). TellsOf met x) (sym ok) before)
tells-more met o after (Some f) (Ok _) before adds ok least = cc
tells-more met o None given (Err f) before adds ok least = absurd least
tells-more met o (Some told) None (Err f) before adds ok least =
    subst (λ (xs : List LiveFault). IsToldOf xs told) (sym (append-nil met)) (told-own met o f told before adds least)
tells-more met o (Some told) (Some g) (Err f) before adds ok least =
    let same : f ≡ g = cc in
    subst (λ (x : LiveFault). IsToldOf (met ++ x ∷ []) told) same (told-met met o f told before least)

pub tells-end : {End : Type 0} (h : End → Option LiveFault) (ends : List End) (end : End) (o after : Option LiveFault) (added : Result Unit LiveFault) →
    TellsOf (filter_map h ends) o → AddsOrTells (h end) added → OnOk added (after ≡ o) → IfErr added (λ f. MatchOption after ⊥ (IsLeastOf (option_to_list o ++ f ∷ []))) →
    TellsOf (filter_map h (ends ++ end ∷ [])) after
tells-end h ends end o after added before adds ok least =
    subst (λ (xs : List LiveFault). TellsOf xs after) (sym (filter_map-append h ends (end ∷ []))) (tells-more (filter_map h ends) o after (h end) added before adds ok least)

-- where none is told yet, each thread gave what was added
pub adds-more : (o after : Option LiveFault) (added : Result Unit LiveFault) (had has count : ℕ) →
    OnOk added (after ≡ o) → IfErr added (λ f. MatchOption after ⊥ (IsLeastOf (option_to_list o ++ f ∷ []))) → OnOk added (has ≡ had + 1) →
    (o ≡ None → had ≡ count) → after ≡ None → has ≡ count + 1
adds-more o after (Ok _) had has count ok least more before none = let same : had ≡ count = before (sym ok ∙ none) in omega arith
adds-more o None (Err f) had has count ok least more before none = absurd least
adds-more o (Some told) (Err f) had has count ok least more before none = cc

-- the least of some faults, after one that is told so far
pub least-after : (o : Option LiveFault) (faults : List LiveFault) (met told : LiveFault) → IsLeastOf faults met → IsLeastOf (option_to_list o ++ met ∷ []) told → IsLeastOf (option_to_list o ++ faults) told
least-after None faults met told all least = subst (IsLeastOf faults) (in_one met told least.one) all
least-after (Some one) faults met told all least =
    let second : NoLess told met = least.least 1 met (omega arith) in
    let later : Contains faults met = all.one in
    record {
      one = elim (Contains-push_cases (one ∷ []) met told least.one) [
        | inl h ↦ Contains-append_left (one ∷ []) faults told h
        | inr same ↦ Contains-append_right (one ∷ []) faults told (subst (Contains faults) same later)
      ];
      least = All-cons (NoLess told) one faults (least.least 0 one (omega arith)) (All-weaker (NoLess met) (NoLess told) (λ x h. omega arith) faults all.least);
    }
