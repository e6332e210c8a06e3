-- The judgement of a proof by the lists of its first steps.
use Rattle.std.proofs.Common.{◌≡◌, ◌≢◌, ◌⊎◌, ◌∙◌, ℕ, zero, suc, ◌+◌, ◌<◌, Bool, true, false, cond, List, [], ◌∷◌, length, take, refl, sym, ap, inl, inr, arith, add-one}
use Rattle.std.specs.List.{list_any}
use Rattle.std.proofs.lemmas.Bool.{cases_Bool, or_cases, or_parts, false≢true, true≢false}
use Rattle.sdcl_base.specs.Literal.{Clause}
use Rattle.sdcl_base.specs.Propagation.{refutes}
use Rattle.sdcl_io.specs.Step.{Step, All, apply, apply_all, valid, adds_empty, Ending, End, Fault, Over, Verified, NotVerified, Ended, judge, judge_after, judge_end, ValidSteps}
use Rattle.sdcl_io.specs.Cases.{Goes, FailsBehind, ClosesBehind, EndsWith, VerifiedExactly, NotVerifiedExactly, EndedExactly}
use Rattle.sdcl_io.proofs.Judging.{turn_on, judge_through}

-- ---- what each case gives

closes : (c n : ℕ) (f : List Clause) (steps : List Step) (ending : Ending) → n < length steps → list_any adds_empty (take n steps) ≡ false → ValidSteps f (take (suc n) steps) → list_any adds_empty (take (suc n) steps) ≡ true
    → judge_after All c f steps ending ≡ Verified
unfolding ValidSteps judge_after
closes c n f [] ending less p w a = absurd (omega (arith, less))
closes c zero f (s ∷ ss) ending less p w a =
    let adds : adds_empty s ≡ true = elim (or_cases (adds_empty s) false a) [ inl e ↦ e | inr e ↦ absurd (false≢true e) ] in
    rw (w.0, adds) refl
closes c (suc n) f (s ∷ ss) ending less p w a =
    let q : (adds_empty s ≡ false) × (list_any adds_empty (take n ss) ≡ false) = or_parts (adds_empty s) (list_any adds_empty (take n ss)) p in
    let b : list_any adds_empty (take (suc n) ss) ≡ true = elim (or_cases (adds_empty s) (list_any adds_empty (take (suc n) ss)) a) [ inl e ↦ absurd (false≢true (sym q.0 ∙ e)) | inr e ↦ e ] in
    turn_on (valid f s) (adds_empty s) (c + 1) (judge_after All (c + 1) (apply All f s) ss ending) w.0 q.0
    ∙ closes (c + 1) n (apply All f s) ss ending (omega (arith, less)) q.1 w.1 b

fails : (c n : ℕ) (f : List Clause) (steps : List Step) (ending : Ending) → n < length steps → ValidSteps f (take n steps) → list_any adds_empty (take n steps) ≡ false → (ValidSteps f (take (suc n) steps) → ⊥)
    → judge_after All c f steps ending ≡ NotVerified (c + n + 1)
unfolding ValidSteps judge_after
fails c n f [] ending less v p w = absurd (omega (arith, less))
fails c zero f (s ∷ ss) ending less v p w =
    let bad : valid f s ≡ false = elim (cases_Bool (valid f s)) [ inl e ↦ absurd (w (e, tt)) | inr e ↦ e ] in
    let number : c + 1 ≡ c + 0 + 1 = omega arith in
    rw (bad, number) refl
fails c (suc n) f (s ∷ ss) ending less v p w =
    let q : (adds_empty s ≡ false) × (list_any adds_empty (take n ss) ≡ false) = or_parts (adds_empty s) (list_any adds_empty (take n ss)) p in
    let number : c + 1 + n + 1 ≡ c + suc n + 1 = omega arith in
    turn_on (valid f s) (adds_empty s) (c + 1) (judge_after All (c + 1) (apply All f s) ss ending) v.0 q.0
    ∙ fails (c + 1) n (apply All f s) ss ending (omega (arith, less)) v.1 q.1 (λ x. w (v.0, x))
    ∙ ap NotVerified number

-- ---- which case it is

-- how the steps come to their end
abbrev Outcome : List Clause → List Step → Type 0
Outcome f steps = ((n : ℕ) × ClosesBehind f steps n) ⊎ ((n : ℕ) × FailsBehind f steps n) ⊎ Goes f steps

closes_first : (f : List Clause) (s : Step) (ss : List Step) → valid f s ≡ true → adds_empty s ≡ true → ClosesBehind f (s ∷ ss) 0
unfolding ValidSteps
closes_first f s ss v a = record { there = omega arith; before = record { valid = tt; none_adds = refl }; valid = (v, tt); adds = rw a refl }

fails_first : (f : List Clause) (s : Step) (ss : List Step) → valid f s ≡ false → FailsBehind f (s ∷ ss) 0
unfolding ValidSteps
fails_first f s ss v = record { there = omega arith; before = record { valid = tt; none_adds = refl }; not_valid = λ w. absurd (true≢false (sym w.0 ∙ v)) }

goes_with : (f : List Clause) (s : Step) (ss : List Step) → valid f s ≡ true → adds_empty s ≡ false → Goes (apply All f s) ss → Goes f (s ∷ ss)
unfolding ValidSteps
goes_with f s ss v a h = record { valid = (v, h.valid); none_adds = rw a h.none_adds }

closes_with : (f : List Clause) (s : Step) (ss : List Step) (n : ℕ) → valid f s ≡ true → adds_empty s ≡ false → ClosesBehind (apply All f s) ss n → ClosesBehind f (s ∷ ss) (suc n)
unfolding ValidSteps
closes_with f s ss n v a h =
    let w : ValidSteps (apply All f s) (take (suc n) ss) = rw add-one at h.valid in
    let b : list_any adds_empty (take (suc n) ss) ≡ true = rw add-one at h.adds in
    record {
      there = omega (arith, h.there);
      before = goes_with f s (take n ss) v a h.before;
      valid = rw add-one (v, w);
      adds = rw (add-one, a) b;
    }

fails_with : (f : List Clause) (s : Step) (ss : List Step) (n : ℕ) → valid f s ≡ true → adds_empty s ≡ false → FailsBehind (apply All f s) ss n → FailsBehind f (s ∷ ss) (suc n)
unfolding ValidSteps
fails_with f s ss n v a h = record {
  there = omega (arith, h.there);
  before = goes_with f s (take n ss) v a h.before;
  not_valid = λ x. (let y : ValidSteps f (take (suc (suc n)) (s ∷ ss)) = rw add-one at x in h.not_valid (rw add-one y.1));
}

nothing : (f : List Clause) → Goes f []
unfolding ValidSteps
nothing f = record { valid = tt; none_adds = refl }

outcome : (f : List Clause) (steps : List Step) → Outcome f steps
outcome f [] = inr (inr (nothing f))
outcome f (s ∷ ss) =
    elim (cases_Bool (valid f s)) [
      | inr bad ↦ inr (inl (0, fails_first f s ss bad))
      | inl good ↦
          elim (cases_Bool (adds_empty s)) [
            | inl adds ↦ inl (0, closes_first f s ss good adds)
            | inr none ↦
                elim (outcome (apply All f s) ss) [
                  | inl h ↦ inl (suc h.0, closes_with f s ss h.0 good none h.1)
                  | inr (inl h) ↦ inr (inl (suc h.0, fails_with f s ss h.0 good none h.1))
                  | inr (inr h) ↦ inr (inr (goes_with f s ss good none h))
                ]
          ]
    ]

-- ---- the table, in both directions

closes_verified : (f : List Clause) (steps : List Step) (ending : Ending) (n : ℕ) → ClosesBehind f steps n → judge All f steps ending ≡ Verified
unfolding judge
closes_verified f steps ending n h = closes 0 n f steps ending h.there h.before.none_adds (rw add-one at h.valid) (rw add-one at h.adds)

fails_not : (f : List Clause) (steps : List Step) (ending : Ending) (n : ℕ) → FailsBehind f steps n → judge All f steps ending ≡ NotVerified (n + 1)
unfolding judge
fails_not f steps ending n h =
    let number : 0 + n + 1 ≡ n + 1 = omega arith in
    fails 0 n f steps ending h.there h.before.valid h.before.none_adds (λ x. h.not_valid (rw add-one x)) ∙ ap NotVerified number

goes_on : (f : List Clause) (steps : List Step) (ending : Ending) → Goes f steps → judge All f steps ending ≡ judge_end (length steps) (apply_all All f steps) ending
unfolding judge
goes_on f steps ending h =
    let number : 0 + length steps ≡ length steps = omega arith in
    judge_through 0 f steps ending h.valid h.none_adds ∙ ap (λ n. judge_end n (apply_all All f steps) ending) number

at_end : (k : ℕ) (f : List Clause) (b : Bool) → refutes f [] ≡ b → judge_end k f End ≡ cond b Verified (NotVerified (k + 1))
unfolding judge_end
at_end k f b h = rw h refl

not_at_end : (k : ℕ) (f : List Clause) (e : Ending) → e ≢ End → judge_end k f e ≡ Ended e
unfolding judge_end
not_at_end k f End h = absurd (h refl)
not_at_end k f (Fault at kind) h = refl
not_at_end k f Over h = refl

ends_with : (f : List Clause) (steps : List Step) (ending : Ending) (b : Bool) → EndsWith f steps ending b → judge All f steps ending ≡ cond b Verified (NotVerified (length steps + 1))
ends_with f steps ending b h = goes_on f steps ending h.through ∙ ap (judge_end (length steps) (apply_all All f steps)) h.at_end ∙ at_end (length steps) (apply_all All f steps) b h.is

is_end : (e : Ending) → (e ≡ End) ⊎ (e ≢ End)
is_end End = inl refl
is_end (Fault at kind) = inr (λ h. cc)
is_end Over = inr (λ h. cc)

abbrev Ways : List Clause → List Step → Ending → Type 0
Ways f steps ending = ((n : ℕ) × ClosesBehind f steps n) ⊎ ((n : ℕ) × FailsBehind f steps n) ⊎ EndsWith f steps ending true ⊎ EndsWith f steps ending false ⊎ (Goes f steps × (ending ≢ End))

way_through : (f : List Clause) (steps : List Step) (ending : Ending) → Goes f steps → Ways f steps ending
way_through f steps ending h =
    elim (is_end ending) [
      | inl e ↦
          elim (cases_Bool (refutes (apply_all All f steps) [])) [
            | inl r ↦ inr (inr (inl (record { through = h; at_end = e; is = r })))
            | inr r ↦ inr (inr (inr (inl (record { through = h; at_end = e; is = r }))))
          ]
      | inr n ↦ inr (inr (inr (inr (h, n))))
    ]

way : (f : List Clause) (steps : List Step) (ending : Ending) → Ways f steps ending
way f steps ending =
    elim (outcome f steps) [
      | inl h ↦ inl h
      | inr (inl h) ↦ inr (inl h)
      | inr (inr h) ↦ way_through f steps ending h
    ]

verified_by : (f : List Clause) (steps : List Step) (ending : Ending) → judge All f steps ending ≡ Verified → Ways f steps ending → ((n : ℕ) × ClosesBehind f steps n) ⊎ EndsWith f steps ending true
verified_by f steps ending e (inl h) = inl h
verified_by f steps ending e (inr (inl h)) = let k : NotVerified (h.0 + 1) ≡ Verified = sym (fails_not f steps ending h.0 h.1) ∙ e in absurd (cc)
verified_by f steps ending e (inr (inr (inl h))) = inr h
verified_by f steps ending e (inr (inr (inr (inl h)))) = let k : NotVerified (length steps + 1) ≡ Verified = sym (ends_with f steps ending false h) ∙ e in absurd (cc)
verified_by f steps ending e (inr (inr (inr (inr h)))) = let k : Ended ending ≡ Verified = sym (goes_on f steps ending h.0 ∙ not_at_end _ _ ending h.1) ∙ e in absurd (cc)

same_number : (k n : ℕ) → NotVerified n ≡ NotVerified k → k ≡ n
same_number k n e = cc

not_verified_by : (f : List Clause) (steps : List Step) (ending : Ending) (k : ℕ) → judge All f steps ending ≡ NotVerified k → Ways f steps ending
    → ((n : ℕ) × FailsBehind f steps n × (k ≡ n + 1)) ⊎ (EndsWith f steps ending false × (k ≡ length steps + 1))
not_verified_by f steps ending k e (inl h) = let j : Verified ≡ NotVerified k = sym (closes_verified f steps ending h.0 h.1) ∙ e in absurd (cc)
not_verified_by f steps ending k e (inr (inl h)) = inl (h.0, h.1, same_number k (h.0 + 1) (sym (fails_not f steps ending h.0 h.1) ∙ e))
not_verified_by f steps ending k e (inr (inr (inl h))) = let j : Verified ≡ NotVerified k = sym (ends_with f steps ending true h) ∙ e in absurd (cc)
not_verified_by f steps ending k e (inr (inr (inr (inl h)))) = inr (h, same_number k (length steps + 1) (sym (ends_with f steps ending false h) ∙ e))
not_verified_by f steps ending k e (inr (inr (inr (inr h)))) = let j : Ended ending ≡ NotVerified k = sym (goes_on f steps ending h.0 ∙ not_at_end _ _ ending h.1) ∙ e in absurd (cc)

same_ending : (a b : Ending) → Ended a ≡ Ended b → a ≡ b
same_ending a b e = cc

ended_by : (f : List Clause) (steps : List Step) (ending x : Ending) → judge All f steps ending ≡ Ended x → Ways f steps ending → Goes f steps × (ending ≡ x) × (x ≢ End)
ended_by f steps ending x e (inl h) = let j : Verified ≡ Ended x = sym (closes_verified f steps ending h.0 h.1) ∙ e in absurd (cc)
ended_by f steps ending x e (inr (inl h)) = let j : NotVerified (h.0 + 1) ≡ Ended x = sym (fails_not f steps ending h.0 h.1) ∙ e in absurd (cc)
ended_by f steps ending x e (inr (inr (inl h))) = let j : Verified ≡ Ended x = sym (ends_with f steps ending true h) ∙ e in absurd (cc)
ended_by f steps ending x e (inr (inr (inr (inl h)))) = let j : NotVerified (length steps + 1) ≡ Ended x = sym (ends_with f steps ending false h) ∙ e in absurd (cc)
ended_by f steps ending x e (inr (inr (inr (inr h)))) =
    let same : ending ≡ x = same_ending ending x (sym (goes_on f steps ending h.0 ∙ not_at_end _ _ ending h.1) ∙ e) in
    (h.0, same, λ n. h.1 (same ∙ n))

verified_from : (f : List Clause) (steps : List Step) (ending : Ending) → ((n : ℕ) × ClosesBehind f steps n) ⊎ EndsWith f steps ending true → judge All f steps ending ≡ Verified
verified_from f steps ending (inl h) = closes_verified f steps ending h.0 h.1
verified_from f steps ending (inr h) = ends_with f steps ending true h

not_verified_from : (f : List Clause) (steps : List Step) (ending : Ending) (k : ℕ)
    → ((n : ℕ) × FailsBehind f steps n × (k ≡ n + 1)) ⊎ (EndsWith f steps ending false × (k ≡ length steps + 1)) → judge All f steps ending ≡ NotVerified k
not_verified_from f steps ending k (inl h) = fails_not f steps ending h.0 h.1 ∙ ap NotVerified (sym h.2)
not_verified_from f steps ending k (inr h) = ends_with f steps ending false h.0 ∙ ap NotVerified (sym h.1)

pub verified_exactly : VerifiedExactly
verified_exactly f steps ending = (λ e. verified_by f steps ending e (way f steps ending), λ w. verified_from f steps ending w)

pub not_verified_exactly : NotVerifiedExactly
not_verified_exactly f steps ending k = (λ e. not_verified_by f steps ending k e (way f steps ending), λ w. not_verified_from f steps ending k w)

pub ended_exactly : EndedExactly
ended_exactly f steps ending x = (
  λ e. ended_by f steps ending x e (way f steps ending),
  λ w. goes_on f steps ending w.0 ∙ ap (judge_end (length steps) (apply_all All f steps)) w.1 ∙ not_at_end (length steps) (apply_all All f steps) x w.2,
)
