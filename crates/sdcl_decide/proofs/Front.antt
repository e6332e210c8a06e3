-- The order of MoveToFront as a list.
use Rattle.std.proofs.Common.{ℕ, zero, suc, ◌≡◌, ◌≢◌, ◌+◌, ◌<◌, ◌≤◌, ◌==◌, ◌||◌, ◌&&◌, Bool, false, true, not, List, [], ◌∷◌, Some, sym, refl, ap, ◌∙◌, subst, ⊎_elim, inl, inr, ◌⊎◌, arith, get_or, set, length, replicate, ltb, eqb, get_or-set_same, get_or-set_other}
use Rattle.std.specs.Prelude.{filter, find, ◌↔◌}
use Rattle.std.proofs.lemmas.Bool.{cases_eq, cases_Bool, lt-ltb, le-ltb, eq-eqb, ne_eqb, false≢true}
use Rattle.std.proofs.lemmas.List.{length-set, same_lists, get_or_default}
use Rattle.sdcl_base.specs.Literal.{Clause}
use Rattle.sdcl_base.specs.Sets.{In}
use Rattle.sdcl_decide.specs.Heap.{comes_before}
use Rattle.sdcl_decide.specs.Queue.{IsOpen, is_given}
use Rattle.sdcl_decide.specs.Deciding.{fronted, front, next_bump}
use Rattle.sdcl_decide.specs.Front.{to_front, all_to_front, Rise, Descend, IsOrderOf, numbers_from, FrontStarts, FrontBumps, FrontDecides}
use Rattle.sdcl_decide.proofs.Scores.{none_above}

-- ---- members

pub cases_in : (xs : List ℕ) (x : ℕ) → In xs x ⊎ (In xs x → ⊥)
cases_in [] x = inr (λ h. h)
cases_in (y ∷ ys) x =
    ⊎_elim
    (λ is. inl (inl is))
    (λ differs. ⊎_elim (λ here. inl (inr here)) (λ not_here. inr (λ h. ⊎_elim differs not_here h))
    (cases_in ys x))
    (cases_eq x y)

-- the list without x
abbrev pub others : ℕ → List ℕ → List ℕ
others x order = filter (λ y. not (y == x)) order

in_others : (x y : ℕ) (order : List ℕ) → y ≢ x → In order y → In (others x order) y
in_others x y [] differ h = h
in_others x y (z ∷ zs) differ h =
    ⊎_elim
    (λ is. let rest : In zs y = ⊎_elim (λ here. absurd (differ (here ∙ is))) (λ later. later) h in
    rw (eq-eqb z x is) (in_others x y zs differ rest))
    (λ stays. rw (ne_eqb z x stays)
    (⊎_elim (λ here. inl here) (λ later. inr (in_others x y zs differ later)) h))
    (cases_eq z x)

kept_others : (x y : ℕ) (order : List ℕ) → In (others x order) y → In order y × (y ≢ x)
kept_others x y [] h = absurd h
kept_others x y (z ∷ zs) h =
    ⊎_elim
    (λ is. let rest : In (others x zs) y = rw (eq-eqb z x is) at h in
    let k : In zs y × (y ≢ x) = kept_others x y zs rest in
    (inr k.0, k.1))
    (λ stays. let rest : (y ≡ z) ⊎ In (others x zs) y = rw (ne_eqb z x stays) at h in
    ⊎_elim
    (λ here. (inl here, λ same. stays (sym here ∙ same)))
    (λ later. let k : In zs y × (y ≢ x) = kept_others x y zs later in (inr k.0, k.1))
    rest)
    (cases_eq z x)

-- ---- the order

-- whether x with score p comes before y with score q
abbrev before_by : ℕ → ℕ → ℕ → ℕ → Bool
before_by p q x y = ltb q p || (eqb p q && ltb x y)

before_same : (s t : List ℕ) (x y : ℕ) → get_or t x 0 ≡ get_or s x 0 → get_or t y 0 ≡ get_or s y 0
    → comes_before t x y ≡ comes_before s x y
before_same s t x y first second =
    ap (λ p. before_by p (get_or t y 0) x y) first ∙ ap (λ q. before_by (get_or s x 0) q x y) second

before_higher : (s : List ℕ) (x y : ℕ) → get_or s y 0 < get_or s x 0 → comes_before s x y ≡ true
before_higher s x y h = rw (lt-ltb (get_or s y 0) (get_or s x 0) h) refl

before_tie : (s : List ℕ) (x y : ℕ) → get_or s x 0 ≡ get_or s y 0 → x < y
    → comes_before s x y ≡ true
before_tie s x y e h =
    rw (
      le-ltb (get_or s y 0) (get_or s x 0) (omega (arith, e)),
      eq-eqb (get_or s x 0)
          (get_or s y 0) e,
      lt-ltb x y h,
    ) refl

descend_others : (s t : List ℕ) (x : ℕ) (order : List ℕ)
    → ((y : ℕ) → y ≢ x → get_or t y 0 ≡ get_or s y 0) → Descend s order → Descend t (others x order)
descend_others s t x [] same h = tt
descend_others s t x (z ∷ zs) same h =
    ⊎_elim
    (λ is. rw (eq-eqb z x is) (descend_others s t x zs same h.1))
    (λ stays. rw (ne_eqb z x stays) (
      λ y kept. let k : In zs y × (y ≢ x) = kept_others x y zs kept in
          before_same s t z y (same z stays) (same y k.1) ∙ h.0 y k.0,
      descend_others s t x zs same h.1,
    ))
    (cases_eq z x)

-- x gets a score above all others, and comes to the front
order_step : (variables n x : ℕ) (s order : List ℕ) → IsOrderOf variables s order → 1 ≤ x
    → x ≤ variables → x < length s
    → ((y : ℕ) → y ≤ variables → get_or s y 0 < front n x)
    → IsOrderOf variables (set s x (front n x)) (to_front x order)
order_step variables n x s order h low high within above = record {
  all = λ y y_low y_high. ⊎_elim (λ is. inl is)
      (λ differs. inr (in_others x y order differs (h.all y y_low y_high))) (cases_eq y x);
  only = λ y listed. ⊎_elim (λ is. (omega (arith, is), omega (arith, is)))
      (λ kept. h.only y (kept_others x y order kept).0) listed;
  descend = (
    λ y kept. let k : In order y × (y ≢ x) = kept_others x y order kept in
        before_higher (set s x (front n x)) x y
        (omega (
          arith,
          get_or-set_same s x (front n x) 0 within,
          get_or-set_other s x y
              (front n x) 0 k.1,
          above y (h.only y k.0).1,
        )),
    descend_others s (set s x (front n x)) x order
        (λ y differs. get_or-set_other s x y (front n x) 0 differs) h.descend,
  );
}

-- the numbers rise from b on, and no score is as great as that of b would be
order_rising : (variables n b : ℕ) (s order rising : List ℕ) → IsOrderOf variables s order
    → length s ≡ variables + 1 → Rise b rising → 1 ≤ b
    → ((x : ℕ) → In rising x → x ≤ variables) → ((y : ℕ) → y ≤ variables → get_or s y 0 < front n b)
    → IsOrderOf variables (fronted n rising s) (all_to_front rising order)
order_rising variables n b s order [] h wide rise low high below = h
order_rising variables n b s order (x ∷ xs) h wide rise low high below =
    let x_high : x ≤ variables = high x (inl refl) in
    let within : x < length s = omega (arith, wide, x_high) in
    order_rising variables n (x + 1) (set s x (front n x)) (to_front x order) xs
    (order_step variables n x s order h (omega (arith, low, rise.0)) x_high within
    (λ y y_high. omega (arith, below y y_high, rise.0)))
    (length-set s x (front n x) ∙ wide)
    rise.1 (omega arith)
    (λ y later. high y (inr later))
    (λ y y_high. ⊎_elim
    (λ is. omega (
      arith,
      ap (λ k. get_or (set s x (front n x)) k 0) is,
      get_or-set_same s x
          (front n x) 0 within,
    ))
    (λ differs. omega
    (arith, get_or-set_other s x y (front n x) 0 differs, below y y_high, rise.0))
    (cases_eq y x))

-- ---- the scores after a bump do not hang on the order of its variables

fronted_out : (n : ℕ) (xs s : List ℕ) (x : ℕ) → (In xs x → ⊥)
    → get_or (fronted n xs s) x 0 ≡ get_or s x 0
fronted_out n [] s x out = refl
fronted_out n (y ∷ ys) s x out =
    fronted_out n ys (set s y (front n y)) x (λ later. out (inr later))
    ∙ get_or-set_other s y x (front n y) 0 (λ is. out (inl is))

fronted_in : (n : ℕ) (xs s : List ℕ) (x : ℕ) → x < length s → In xs x
    → get_or (fronted n xs s) x 0 ≡ front n x
fronted_in n [] s x within h = absurd h
fronted_in n (y ∷ ys) s x within h =
    ⊎_elim
    (λ later. fronted_in n ys (set s y (front n y)) x
    (omega (arith, within, length-set s y (front n y))) later)
    (λ last. let is : x ≡ y = ⊎_elim (λ here. here) (λ later. absurd (last later)) h in
    fronted_out n ys (set s y (front n y)) x last
    ∙ ap (λ k. get_or (set s y (front n y)) k 0) is
    ∙ get_or-set_same s y (front n y) 0 (omega (arith, within, is))
    ∙ ap (front n) (sym is))
    (cases_in ys x)

length-fronted : (n : ℕ) (xs s : List ℕ) → length (fronted n xs s) ≡ length s
length-fronted n [] s = refl
length-fronted n (y ∷ ys) s = length-fronted n ys (set s y (front n y)) ∙ length-set s y (front n y)

fronted_same : (n : ℕ) (xs ys s : List ℕ) → ((x : ℕ) → In xs x ↔ In ys x)
    → fronted n xs s ≡ fronted n ys s
fronted_same n xs ys s same =
    same_lists (fronted n xs s) (fronted n ys s)
    (length-fronted n xs s ∙ sym (length-fronted n ys s))
    (λ k d low. let within : k < length s = omega (arith, low, length-fronted n xs s) in
    get_or_default (fronted n xs s) k d 0 low
    ∙ ⊎_elim
    (λ here. fronted_in n xs s k within here
    ∙ sym (fronted_in n ys s k within ((same k).0 here)))
    (λ out. fronted_out n xs s k out
    ∙ sym (fronted_out n ys s k (λ here. out ((same k).1 here))))
    (cases_in xs k)
    ∙ sym (get_or_default (fronted n ys s) k d 0
    (omega (arith, within, length-fronted n ys s))))

-- ---- the laws

numbers_in : (n b x : ℕ) → b ≤ x → x < b + n → In (numbers_from b n) x
numbers_in zero b x low high = absurd (omega arith)
numbers_in (suc n) b x low high =
    ⊎_elim (λ is. inl is)
    (λ differs. inr (numbers_in n (suc b) x (omega (arith, differs)) (omega arith)))
    (cases_eq x b)

numbers_within : (n b x : ℕ) → In (numbers_from b n) x → (b ≤ x) × (x < b + n)
numbers_within zero b x h = absurd h
numbers_within (suc n) b x h =
    ⊎_elim
    (λ is. (omega (arith, is), omega (arith, is)))
    (λ later. let k : (suc b ≤ x)
    × (x < suc b + n) = numbers_within n (suc b) x later in
    (omega (arith, k.0), omega (arith, k.1)))
    h

numbers_descend : (w n b : ℕ) → Descend (replicate w 0) (numbers_from b n)
numbers_descend w zero b = tt
numbers_descend w (suc n) b = (
  λ y later. before_tie (replicate w 0) b y (none_above w b ∙ sym (none_above w y))
      (omega (arith, (numbers_within n (suc b) y later).0)),
  numbers_descend w n (suc b),
)

pub front_starts : FrontStarts
front_starts variables = record {
  all = λ x low high. numbers_in variables 1 x low (omega (arith, high));
  only = λ x listed. let k : (1 ≤ x)
      × (x < 1 + variables) = numbers_within variables 1 x listed in (k.0, omega (arith, k.1));
  descend = numbers_descend (variables + 1) variables 1;
}

pub front_bumps : FrontBumps
front_bumps variables step scores order vars rising small wide early behind h rise same high =
    let next : next_bump step ≡ step + 1 = omega (arith, early) in
    subst (λ (s : List ℕ). IsOrderOf variables s (all_to_front rising order))
    (fronted_same (next_bump step) rising vars scores same)
    (rw next (order_rising variables (step + 1) 1 scores order rising h wide rise (omega arith)
    (λ x listed. high x ((same x).0 listed))
    (λ y y_high. omega (arith, behind y, y_high, small))))

find_first : (variables : ℕ) (s : List ℕ) (lits : Clause) (x : ℕ) → IsOpen variables lits x
    → ((y : ℕ) → IsOpen variables lits y → comes_before s y x ≡ false)
    → (order : List ℕ) → ((y : ℕ) → In order y → (1 ≤ y) × (y ≤ variables)) → Descend s order
    → In order x
    → find (λ y. not (is_given lits y)) order ≡ Some x
find_first variables s lits x o first [] only h here = absurd here
find_first variables s lits x o first (z ∷ zs) only h here =
    ⊎_elim
    (λ given. rw given
    (find_first variables s lits x o first zs (λ y later. only y (inr later)) h.1
    (⊎_elim (λ is. absurd (false≢true (sym o.free ∙ ap (is_given lits) is ∙ given)))
    (λ later. later) here)))
    (λ free. let z_in : (1 ≤ z) × (z ≤ variables) = only z (inl refl) in
    let is : x ≡ z = ⊎_elim
    (λ is. is)
    (λ later. absurd
    (false≢true
    (sym (first z (record { low = z_in.0; high = z_in.1; free = free }))
    ∙ h.0 x later)))
    here in
    rw free (ap Some (sym is)))
    (cases_Bool (is_given lits z))

pub front_decides : FrontDecides
front_decides r lits order x h o =
    find_first r.variables r.scores lits x o.is o.first order h.only h.descend
    (h.all x o.is.low o.is.high)
